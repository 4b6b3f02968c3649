use Rattle.std.proofs.Common.{◌≡◌, ℕ, ◌+◌, ◌*◌, ◌^◌, ap, ◌∙◌}
use Rattle.rustc_apfloat.specs.Flags.{bits_of}
use Rattle.apfloat_arrays.specs.{Tables.outcome_tally, Tallies.packed_of, Tallies.tally_of}
use Rattle.apfloat_arrays.proofs.tables.write_result.Goals as goal

pub returns : goal.returns
returns c =
    let outcome = c.args.answer.outcome in
    let flags : c.from.result ≡ bits_of outcome.status = c.from.ensures ∙ c.bits.ensures tt in
    let mark : c.mark_of-mark.result ≡ packed_of (outcome_tally outcome) =
    c.mark_of-mark.ensures.is ∙ ap (λ (n : ℕ). packed_of (tally_of n outcome.is_nan)) flags in
    c.write_entry.ensures ∙ ap (λ (n : ℕ). c.args.answer.bits + 2 ^ 32 * n) mark
