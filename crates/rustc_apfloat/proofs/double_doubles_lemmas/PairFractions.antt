-- The fraction of a pair: its exponent fits 32 bits, and so does the negated exponent, which scales the low part.
use Rattle.std.proofs.Common.{◌≡◌, ℕ, zero, suc, ◌-◌, ◌<◌, ◌≤◌, Bool, w32, to_z, of_z, sym, ap}
use Rattle.std.proofs.Common.{◌∙◌, subst, arith, FitsSigned}
use Rattle.std.proofs.lemmas.{Bool.MatchBool-at_false, Bool.ne_eqb, Int.to_z-of_z, Int.ints}
use Rattle.std.specs.Prelude.{ℤ, pos, neg_ℤ, ◌-ℤ◌, ◌≤ℤ◌}
use Rattle.apfloat_model.specs.declared.kinds.{Category.TheVariants.Normal, Round.Round}
use Rattle.apfloat_model.specs.formats.{Datum.Datum, Datum.finite, Datum.infinite, Datum.nan, Members.IsMember}
use Rattle.apfloat_model.specs.order.Classes.{category_of, is_finite_non_zero, is_finite_non_zero_category}
use Rattle.apfloat_model.specs.arithmetic.{Exponents.IsFraction, Exponents.IsFrexp, Scaling.IsScaling}
use Rattle.apfloat_model.proofs.{order.PredicatesAgree.number_agrees, arithmetic.FractionExponents.IsExponentWithin}
use Rattle.apfloat_model.proofs.{arithmetic.FractionExponents.exponent_within, general.Choices.match_true}
use Rattle.apfloat_pair_theory.specs.{PairFormats.double, Pairs.Pair, PairParts.IsPairFraction}

-- ---- the exponent of a fraction

-- a normal value is not zero
some_quanta : (negative : Bool) (n : ℕ) → category_of (finite negative n) ≡ Normal → 0 < n
some_quanta b zero e = cc
some_quanta b (suc n) e = omega arith

-- the exponent of the fraction of a nonzero double is within the range of the format
double_within : (x value : Datum) (exponent : ℤ) → category_of x ≡ Normal → IsMember double x
    → IsFrexp double x value exponent → IsExponentWithin double exponent
double_within (finite b n) value exponent normal member h =
    let p : 0 < n = some_quanta b n normal in
    exponent_within double b n value exponent p member.within
    (MatchBool-at_false _ (IsFraction double b n value exponent) (ne_eqb n 0 (λ z. omega (arith, p, z))) h)
double_within (infinite b) value exponent normal member h = cc
double_within (nan b s) value exponent normal member h = cc

-- an exponent within the range of doubles is a machine number
double_fits : (exponent : ℤ) → IsExponentWithin double exponent → FitsSigned w32 exponent
double_fits exponent n =
    let low : neg_ℤ (pos 1074) ≤ℤ exponent = n.low in
    let high : exponent ≤ℤ pos 2098 = n.high in
    omega (arith, ints, low, high)

-- the negation of an exponent within the range of doubles is a machine number
negated_fits : (exponent : ℤ) → IsExponentWithin double exponent → FitsSigned w32 (pos 0 -ℤ exponent)
negated_fits exponent n =
    let low : neg_ℤ (pos 1074) ≤ℤ exponent = n.low in
    let high : exponent ≤ℤ pos 2098 = n.high in
    omega (arith, ints, low, high)

-- the negation of the exponent of a fraction is a machine number
pub fraction_turns : (x value : Datum) (exponent : ℤ) → category_of x ≡ Normal → IsMember double x
    → IsFrexp double x value exponent → FitsSigned w32 (pos 0 -ℤ to_z w32 (of_z w32 exponent))
fraction_turns x value exponent normal member h =
    let n = double_within x value exponent normal member h in
    rw (to_z-of_z w32 exponent (double_fits exponent n)) (negated_fits exponent n)

-- the machine negation of the exponent of a fraction is its negation
pub fraction_turned : (x value : Datum) (exponent : ℤ) → category_of x ≡ Normal → IsMember double x
    → IsFrexp double x value exponent → to_z w32 (of_z w32 (pos 0 -ℤ to_z w32 (of_z w32 exponent))) ≡ neg_ℤ exponent
fraction_turned x value exponent normal member h =
    let n = double_within x value exponent normal member h in
    let e : (pos 0 -ℤ exponent) ≡ neg_ℤ exponent = omega (arith, ints) in
    rw (to_z-of_z w32 exponent (double_fits exponent n))
    (to_z-of_z w32 (pos 0 -ℤ exponent) (negated_fits exponent n) ∙ e)

-- ---- the pair

-- the fraction of the high part, and the low part scaled by the opposite exponent
pub fraction_by_parts : (mode : Round) (x : Pair) (high low : Datum) (exponent turned : ℤ)
    → category_of x.high ≡ Normal
    → IsFrexp double x.high high exponent → turned ≡ neg_ℤ exponent → IsScaling double mode x.low turned low
    → IsPairFraction mode x (record { high = high; low = low }) exponent
fraction_by_parts mode x high low exponent turned normal h e s =
    record {
      high_is = h;
      low_is =
          match_true (is_finite_non_zero x.high) (IsScaling double mode x.low (neg_ℤ exponent) low) (low ≡ x.low)
          (sym (number_agrees x.high) ∙ ap is_finite_non_zero_category normal)
          (subst (λ (i : ℤ). IsScaling double mode x.low i low) e s);
    }
