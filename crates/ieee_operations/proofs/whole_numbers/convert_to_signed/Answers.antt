use Rattle.std.proofs.Common.{rules, ℕ, ◌-◌, ◌^◌, ap, ◌∙◌}
use Rattle.std.specs.Prelude.{pos, neg_ℤ}
use Rattle.apfloat_model.specs.rounding.Rounding.{inexact_bit}
use Rattle.apfloat_ieee.specs.FlaggedTypes.{format_of}
use Rattle.ieee_operations.specs.StatusFlags.{lowered}
use Rattle.ieee_operations.proofs.WithoutInexact.{converted_lowered}
use Rattle.ieee_operations.proofs.whole_numbers.convert_to_signed.Goals as goal

pub returns : goal.returns
returns g c =
    let end : ℕ = 2 ^ (c.args.width - 1) in
    let exact = c.convert_to_signed_exact-exact.ensures in
    record {
      number_is = search rules;
      status_is = rw (c.and.ensures.status, c.lower_flags.ensures)
          (ap (λ (t : ℕ). lowered t inexact_bit) exact.status_is
          ∙ converted_lowered (format_of g.S.Flagged) c.args.mode (neg_ℤ (pos end)) (pos (end - 1)) c.args.x);
    }
