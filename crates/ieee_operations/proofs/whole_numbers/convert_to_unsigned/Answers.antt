use Rattle.std.proofs.Common.{ℕ, ◌-◌, ◌^◌, ap, ◌∙◌}
use Rattle.std.specs.Prelude.{pos}
use Rattle.apfloat_model.specs.rounding.Rounding.{inexact_bit}
use Rattle.apfloat_ieee.specs.FlaggedTypes.{format_of}
use Rattle.ieee_operations.specs.StatusFlags.{lowered}
use Rattle.ieee_operations.proofs.WithoutInexact.{converted_lowered}
use Rattle.ieee_operations.proofs.whole_numbers.convert_to_unsigned.Goals as goal

pub returns-clause-answer : goal.returns-clause-answer
returns-clause-answer g c =
    let exact = c.convert_to_unsigned_exact-exact.ensures.answer in
    record {
      number_is = rw c.and.ensures.value exact.number_is;
      status_is = rw (c.and.ensures.status, c.lower_flags.ensures)
          (ap (λ (t : ℕ). lowered t inexact_bit) exact.status_is
          ∙ converted_lowered (format_of g.S.Flagged) c.args.mode (pos 0) (pos (2 ^ c.args.width - 1)) c.args.x);
    }
