use Rattle.std.proofs.Common.{ℕ, ◌^◌, sym, subst, arith}
use Rattle.apfloat_model.specs.rounding.RoundingToOdd.{IsRoundedToOdd}
use Rattle.apfloat_model.proofs.rounding.{KeptDigits.full_cut, OddRoundings.set_if_lost}
use Rattle.fast_bits.proofs.OddNumbers.{odd_above}
use Rattle.fast_bits.proofs.fused.upper_word.Goals as goal

pub returns-clause-rounded : goal.returns-clause-rounded
returns-clause-rounded c =
    subst (λ (x : ℕ). IsRoundedToOdd 1 x c.args.number (2 ^ 64)) (sym c.odd_if.ensures)
    (set_if_lost c.args.number 64 c.ends_in_some.result c.ends_in_some.ensures.some c.ends_in_some.ensures.none)

pub returns-clause-full : goal.returns-clause-full
returns-clause-full c =
    let above = odd_above c.ends_in_some.result _ c.odd_if.result c.odd_if.ensures in
    let full = full_cut c.args.number 128 64 64 (omega arith) (λ _. c.requires) (omega arith) in
    omega (arith, above, full)
