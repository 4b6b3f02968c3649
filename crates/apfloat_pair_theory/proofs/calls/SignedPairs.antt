-- Conversions of signed integers and pairs, from the unsigned conversions of magnitudes.
use Rattle.std.proofs.Common.{◌≡◌, ℕ, zero, suc, ◌-◌, ◌<◌, Bool, true, false, refl, subst, arith}
use Rattle.std.proofs.lemmas.Int.{ints}
use Rattle.std.specs.Prelude.{ℤ, pos, neg_ℤ, int_lt}
use Rattle.apfloat_model.specs.{declared.kinds.Round.Round, rounding.Negation.swapped}
use Rattle.apfloat_model.specs.order.Classes.{category_of, is_negative}
use Rattle.apfloat_model.specs.{order.Predicates.is_zero_category, whole_numbers.SignedWholes.IsNegatedWhole}
use Rattle.apfloat_model.proofs.{order.PredicatesAgree.zero_agrees, general.Choices.match_true}
use Rattle.apfloat_model.proofs.{general.Choices.match_false, whole_numbers.SignedTests.less_not}
use Rattle.apfloat_pair_theory.specs.Pairs.{Pair, negated_pair}
use Rattle.apfloat_pair_theory.specs.PairCalls.{IsPairFromUnsigned, IsPairFromNegative, IsPairFromSigned}
use Rattle.apfloat_pair_theory.specs.PairCalls.{IsPairToUnsigned, IsPairToNegative, IsPairToNatural, IsPairToSigned}

-- a natural number is not below 0
not_below : (n : ℕ) → int_lt (pos n) (pos 0) ≡ false
not_below n = less_not (pos n) (pos 0) (omega (arith, ints))

-- ---- in

-- a nonnegative number converts like the unsigned number
pub pair_signed_above : (mode : Round) (n : ℕ) (answer : Pair) (status : ℕ) → IsPairFromUnsigned mode n answer status
    → IsPairFromSigned mode (pos n) answer status
pair_signed_above mode n answer status h =
    match_false (int_lt (pos n) (pos 0)) (IsPairFromNegative mode n answer status)
    (IsPairFromUnsigned mode n answer status) (not_below n) h

-- a negative number converts to the negation of its magnitude in the swapped mode
pub pair_signed_below : (mode : Round) (n : ℕ) (answer : Pair) (status : ℕ) → 0 < n
    → IsPairFromUnsigned (swapped mode) n answer status
    → IsPairFromSigned mode (neg_ℤ (pos n)) (negated_pair answer) status
pair_signed_below mode zero answer status p h = absurd (omega (arith, p))
pair_signed_below mode (suc n) answer status p h =
    record { positive = answer; is_positive = h; is = refl }

-- ---- out

-- without a minus sign, the result is the unsigned one for one bit less
pub pair_to_signed_above : (mode : Round) (width : ℕ) (x : Pair) (number status : ℕ) (is_exact : Bool)
    → is_negative x.high ≡ false → IsPairToUnsigned mode (width - 1) x number status is_exact
    → IsPairToSigned mode width x (pos number) status is_exact
pair_to_signed_above mode width x number status is_exact e h =
    match_false (is_negative x.high) (IsPairToNegative mode width x (pos number) status is_exact)
    (IsPairToNatural mode (width - 1) x (pos number) status is_exact) e
    (record { magnitude = number; is_magnitude = h; is = refl })

-- with a minus sign, it is the negation of the magnitude's, in the swapped mode
pub pair_to_signed_below : (mode : Round) (width : ℕ) (x : Pair) (number flags : ℕ) (exact : Bool) (answer : ℤ)
    (status : ℕ) (is_exact : Bool) → is_negative x.high ≡ true
    → IsPairToUnsigned (swapped mode) width (negated_pair x) number flags exact
    → IsNegatedWhole (is_zero_category (category_of x.high)) width number flags exact answer status is_exact
    → IsPairToSigned mode width x answer status is_exact
pair_to_signed_below mode width x number flags exact answer status is_exact e h w =
    match_true (is_negative x.high) (IsPairToNegative mode width x answer status is_exact)
    (IsPairToNatural mode (width - 1) x answer status is_exact) e
    (record {
      magnitude = number;
      flags = flags;
      exact = exact;
      is_magnitude = h;
      is =
          subst (λ (b : Bool). IsNegatedWhole b width number flags exact answer status is_exact)
          (zero_agrees x.high) w;
    })
