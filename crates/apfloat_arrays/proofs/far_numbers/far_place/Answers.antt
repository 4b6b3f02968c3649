use Rattle.std.proofs.Common.{ℕ, ap, sym, subst, ◌∙◌, ◌^◌, ◌+◌, ◌<◌, pos, ◌+ℤ◌, ◌-ℤ◌, ◌≤ℤ◌}
use Rattle.std.specs.Prelude.{IsTrue}
use Rattle.rustc_apfloat.specs.FlaggedTypes.{constants_of}
use Rattle.apfloat_arrays.specs.FarNumbers.{far_place}
use Rattle.apfloat_arrays.proofs.FarNumbers.{placed}
use Rattle.apfloat_arrays.proofs.far_numbers.far_place.Goals as goal

pub returns-then-far-is_of_number-clause-place : goal.returns-then-far-is_of_number-clause-place
returns-then-far-is_of_number-clause-place g c =
    let biased = c.biased_exponent-biased.ensures.value in
    placed (constants_of g.S.Flagged) (constants_of g.T.Flagged) c.args.bits _ c.is_past-past.result
    c.is_little.result c.is_of_number.result g.S.Flagged.lawful g.T.Flagged.lawful
    (sym c.EXPLICIT_INTEGER_BIT.ensures ∙ c.if-EXPLICIT_INTEGER_BIT.false)
    (subst (λ (n : ℕ). IsTrue c.is_past-past.result
    → (g.T.Flagged.MAX_EXP +ℤ pos 2) ≤ℤ (g.S.Flagged.MIN_EXP +ℤ pos n)) biased c.is_past-past.ensures)
    (subst (λ (n : ℕ). IsTrue c.is_little.result
    → (g.S.Flagged.MIN_EXP +ℤ pos n) ≤ℤ (g.T.Flagged.MIN_EXP -ℤ pos g.T.Flagged.PRECISION)) biased
    c.is_little.ensures)
    (subst (λ (n : ℕ). IsTrue c.is_of_number.result → (0 < n) × (n + 1 < 2 ^ g.S.Flagged.EXP_BITS)) biased
    c.is_of_number.ensures) c.if-far-is_of_number.true
    (c.place_of.ensures.place ∙ ap (far_place c.is_past-past.result) c.is_minus-negative.ensures)
