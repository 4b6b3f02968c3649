-- The exponent of a fraction is a number of 32 bits.
use Rattle.std.proofs.Common.{◌≡◌, ℕ, zero, suc, ◌<◌, ◌≤◌, Bool, true, false, eqb, refl, sym, subst}
use Rattle.std.proofs.Common.{FitsSigned, w32, arith, lit<}
use Rattle.std.proofs.lemmas.{Bool.false≢true, Int.ints, Int.fits_signed_from_abs}
use Rattle.std.specs.{Prelude.ℤ, Prelude.pos, Bool.MatchBool}
use Rattle.rustc_apfloat.specs.{Format.largest, Datum.Datum, Datum.finite, Datum.infinite, Datum.nan}
use Rattle.rustc_apfloat.specs.Exponents.{IsFraction, IsFrexp}
use Rattle.rustc_apfloat.specs.{Lawful.Constants, Lawful.IsLawful, Lawful.format_with, Members.IsMember}
use Rattle.apfloat_model.proofs.{arithmetic.FractionExponents.exponent_within, formats.LawfulRanges.ranges_of}

-- the exponent of the fraction of a finite value fits in 32 bits
number_fits : (constants : Constants) → IsLawful constants
    → (negative : Bool) (n : ℕ) (none : Bool) (value : Datum) (e : ℤ)
    → eqb n 0 ≡ none → n ≤ largest (format_with constants)
    → MatchBool none ((value ≡ finite negative n) × (e ≡ pos 0))
    (IsFraction (format_with constants) negative n value e)
    → FitsSigned w32 e
number_fits constants law b n true value e test within h =
    subst (λ (z : ℤ). FitsSigned w32 z) (sym h.1) (fits_signed_from_abs w32 (pos 0) (lit< tt))
number_fits constants law b zero false value e test within h = absurd (false≢true (sym test))
number_fits constants law b (suc n) false value e test within h =
    let some : 0 < suc n = omega arith in
    let inside = exponent_within (format_with constants) b (suc n) value e some within h in
    let ranges = ranges_of constants law in
    omega (arith, ints, inside.low, inside.high, ranges.precision_high, ranges.scale, ranges.span)

-- the exponent of the fraction of a value of the format fits in 32 bits
pub frexp_fits : (constants : Constants) → IsLawful constants → (x value : Datum) (e : ℤ)
    → IsMember (format_with constants) x → IsFrexp (format_with constants) x value e → FitsSigned w32 e
frexp_fits constants law (nan b s) value e member h = subst (λ (z : ℤ). FitsSigned w32 z) (sym h.1)
    (record { sfits = lit< tt })
frexp_fits constants law (infinite b) value e member h =
    subst (λ (z : ℤ). FitsSigned w32 z) (sym h.1) (fits_signed_from_abs w32 _ (lit< tt))
frexp_fits constants law (finite b n) value e member h =
    number_fits constants law b n (eqb n 0) value e refl member.within h
