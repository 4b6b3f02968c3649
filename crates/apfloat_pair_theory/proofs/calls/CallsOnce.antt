-- The calls by parts and in the wide format determine their results.
use Rattle.std.proofs.Common.{◌≡◌, ℕ, ◌-◌, ◌^◌, ◌<◌, ◌≤◌, ◌∙◌, Bool, true, false, not, ◌||◌, refl, sym, ap, subst}
use Rattle.std.proofs.{Common.⊎_elim, Common.lit<, lemmas.Bool.cases_lt}
use Rattle.std.specs.Prelude.{ℤ, pos, neg_ℤ, unsigned_abs, int_lt, List, Option, Some, None}
use Rattle.std.specs.Bool.{MatchBool}
use Rattle.apfloat_model.specs.declared.kinds.Round.{Round, TheVariants.NearestTiesToEven}
use Rattle.apfloat_model.specs.{formats.Datum.Datum, rounding.Negation.swapped, order.Classes.is_negative}
use Rattle.apfloat_model.specs.order.{Classes.is_zero, Classes.is_finite_non_zero, Classes.is_denormal, Order.is_equal}
use Rattle.apfloat_model.specs.arithmetic.{Quotients.IsQuotient, Remainders.IsTruncatedRemainder}
use Rattle.apfloat_model.specs.arithmetic.Remainders.{IsNearestRemainder, truncated_quotient, nearest_quotient}
use Rattle.apfloat_model.specs.arithmetic.{Scaling.IsScaling, Exponents.IsExactInverse, NextUp.IsNextUp}
use Rattle.apfloat_model.specs.whole_numbers.WholeNumbers.{IsFromUnsigned, IsRoundToIntegral}
use Rattle.apfloat_model.specs.whole_numbers.WholeNumbersOut.{to_unsigned, IsToUnsigned}
use Rattle.apfloat_model.specs.{whole_numbers.SignedWholes.IsNegatedWhole, texts.Readings.IsReading}
use Rattle.apfloat_model.proofs.Once.{sum_once, quotient_once, remainder_once, scaling_once, from_unsigned_once}
use Rattle.apfloat_model.proofs.Once.{round_to_integral_once, whole_once, next_up_once}
use Rattle.apfloat_model.proofs.Determined.{exponent_once, frexp_once, exact_inverse_once, reading_once}
use Rattle.apfloat_model.proofs.general.Choices.{match_one, match_case, match_three}
use Rattle.apfloat_pair_theory.specs.PairFormats.{double, wide}
use Rattle.apfloat_pair_theory.specs.{Pairs.Pair, Pairs.negated_pair, PairAnswers.OncePair, PairParts.IsPairIlogb}
use Rattle.apfloat_pair_theory.specs.PairParts.{IsDenormalByParts, IsDenormalPair, IsPairScaling, IsPairFraction}
use Rattle.apfloat_pair_theory.specs.PairCalls.{IsPairQuotient, IsPairTruncatedRemainder, IsPairNearestRemainder}
use Rattle.apfloat_pair_theory.specs.PairCalls.{IsPairRoundToIntegral, IsPairNextUp, IsPairNextDown, IsSplitOption}
use Rattle.apfloat_pair_theory.specs.PairCalls.{IsPairExactInverse, IsPairReading, IsPairFromUnsigned}
use Rattle.apfloat_pair_theory.specs.PairCalls.{IsPairFromNegative, IsPairFromSigned, IsPairToUnsigned}
use Rattle.apfloat_pair_theory.specs.PairCalls.{IsPairToNegative, IsPairToNatural, IsPairToSigned}
use Rattle.apfloat_pair_theory.proofs.calls.PairsOnce.{parts_same, joined_once, split_once, split_answer_once}
use Rattle.apfloat_pair_theory.proofs.calls.PairsOnce.{wide_answer_once, wide_answer_of_two_once}

-- ---- in the wide format

-- each of the following operations on pairs has at most one result, since the wide operation has
pub pair_quotient_once : (mode : Round) (x y : Pair) → OncePair (IsPairQuotient mode x y)
pair_quotient_once mode x y = wide_answer_of_two_once (IsQuotient wide mode) (quotient_once wide mode) x y

pub pair_truncated_remainder_once : (x y : Pair) → OncePair (IsPairTruncatedRemainder x y)
pair_truncated_remainder_once x y =
    wide_answer_of_two_once (IsTruncatedRemainder wide) (remainder_once wide truncated_quotient) x y

pub pair_nearest_remainder_once : (x y : Pair) → OncePair (IsPairNearestRemainder x y)
pair_nearest_remainder_once x y =
    wide_answer_of_two_once (IsNearestRemainder wide) (remainder_once wide nearest_quotient) x y

pub pair_round_to_integral_once : (mode : Round) (x : Pair) → OncePair (IsPairRoundToIntegral mode x)
pair_round_to_integral_once mode x = wide_answer_once (IsRoundToIntegral wide mode) (round_to_integral_once wide mode) x

pub pair_next_up_once : (x : Pair) → OncePair (IsPairNextUp x)
pair_next_up_once x = wide_answer_once (IsNextUp wide) (next_up_once wide) x

pub pair_next_down_once : (x : Pair) → OncePair (IsPairNextDown x)
pair_next_down_once x v w r s h k =
    let e = pair_next_up_once (negated_pair x) h.up_of_negated k.up_of_negated r s h.is_next_up k.is_next_up in
    (h.is ∙ ap (λ (p : Pair). negated_pair p) e.0 ∙ sym k.is, e.1)

-- ---- texts

-- the reading of a text has at most one result
pub pair_reading_once : (mode : Round) (text : List ℕ) → OncePair (IsPairReading mode text)
pair_reading_once mode text = split_answer_once (IsReading wide mode text) (reading_once wide mode text)

-- ---- exact inverses

-- splitting a value, or none, gives at most one result
split_option_once : (value : Option Datum) (answer other : Option Pair) → IsSplitOption value answer
    → IsSplitOption value other → answer ≡ other
split_option_once None None None h k = refl
split_option_once None None (Some w) h k = absurd k
split_option_once None (Some v) w h k = absurd h
split_option_once (Some d) None w h k = absurd h
split_option_once (Some d) (Some v) None h k = absurd k
split_option_once (Some d) (Some v) (Some w) h k =
    ap (λ (p : Pair). let o : Option Pair = Some p in o) (split_once d v w h k)

-- a pair has at most one exact inverse
pub pair_exact_inverse_once : (x : Pair) (answer other : Option Pair) → IsPairExactInverse x answer
    → IsPairExactInverse x other → answer ≡ other
pair_exact_inverse_once x v w h k =
    let e = joined_once x h.joined k.joined h.is_joined k.is_joined in
    let i = exact_inverse_once wide h.joined h.inverse k.inverse h.is_inverse
    (subst (λ (d : Datum). IsExactInverse wide d k.inverse) (sym e) k.is_inverse) in
    split_option_once h.inverse v w h.is_split (subst (λ (o : Option Datum). IsSplitOption o w) (sym i) k.is_split)

-- ---- integers

-- the conversion of an integer has at most one result in each mode
pub pair_from_unsigned_once : (mode : Round) (number : ℕ) → OncePair (IsPairFromUnsigned mode number)
pair_from_unsigned_once mode number =
    split_answer_once (IsFromUnsigned wide mode number) (from_unsigned_once wide mode number)

-- the conversion of a negative integer has at most one result in each mode
from_negative_once : (mode : Round) (magnitude : ℕ) → OncePair (IsPairFromNegative mode magnitude)
from_negative_once mode magnitude v w r s h k =
    let e = pair_from_unsigned_once (swapped mode) magnitude h.positive k.positive r s h.is_positive k.is_positive in
    (h.is ∙ ap (λ (p : Pair). negated_pair p) e.0 ∙ sym k.is, e.1)

pub pair_from_signed_once : (mode : Round) (number : ℤ) → OncePair (IsPairFromSigned mode number)
pair_from_signed_once mode number =
    match_case OncePair (int_lt number (pos 0)) (IsPairFromNegative mode (unsigned_abs number))
    (IsPairFromUnsigned mode (unsigned_abs number))
    (from_negative_once mode (unsigned_abs number)) (pair_from_unsigned_once mode (unsigned_abs number))

abbrev pub OnceWhole : {N : Type 0} → (N → ℕ → Bool → Type 0) → Type 0
OnceWhole R = (m n : _) (r s : ℕ) (a b : Bool) → R m r a → R n s b → (m ≡ n) × (r ≡ s) × (a ≡ b)

-- the conversion to an integer determines the number, the status and whether it is exact
pub pair_to_unsigned_once : (mode : Round) (width : ℕ) (x : Pair) → OnceWhole (IsPairToUnsigned mode width x)
pair_to_unsigned_once mode width x m n r s a b h k =
    let e = joined_once x h.joined k.joined h.is_joined k.is_joined in
    let w = whole_once (to_unsigned wide mode width h.joined) (pos m) (pos n) r s a b h.is
    (subst (λ (d : Datum). IsToUnsigned wide mode width d n s b) (sym e) k.is) in
    (ap unsigned_abs w.0, w.1, w.2)

-- the negation of the integer of a magnitude determines the number, the status and whether it is exact
negated_whole_once : (is_zero : Bool) (width number flags : ℕ) (exact : Bool)
    → OnceWhole (IsNegatedWhole is_zero width number flags exact)
negated_whole_once is_zero width number flags exact m n r s a b h k =
    ⊎_elim
    (λ (q : 2 ^ (width - 1) < number).
    let x = h.past q in
    let y = k.past q in
    (x.1.0 ∙ sym y.1.0, x.0 ∙ sym y.0, x.1.1 ∙ sym y.1.1))
    (λ (q : number ≤ 2 ^ (width - 1)).
    let x = h.within q in
    let y = k.within q in
    (x.1.0 ∙ sym y.1.0, x.0 ∙ sym y.0, x.1.1 ∙ sym y.1.1))
    (cases_lt (2 ^ (width - 1)) number)

-- the conversion of a negative pair to an integer determines the number, the status and whether it is exact
to_negative_once : (mode : Round) (width : ℕ) (x : Pair) → OnceWhole (IsPairToNegative mode width x)
to_negative_once mode width x m n r s a b h k =
    let e = pair_to_unsigned_once (swapped mode) width
    (negated_pair x) h.magnitude k.magnitude h.flags k.flags h.exact k.exact h.is_magnitude k.is_magnitude in
    negated_whole_once (is_zero x.high) width h.magnitude h.flags h.exact m n r s a b h.is
    (subst (λ (i : ℕ). IsNegatedWhole (is_zero x.high) width i h.flags h.exact n s b) (sym e.0)
    (subst (λ (i : ℕ). IsNegatedWhole (is_zero x.high) width k.magnitude i h.exact n s b) (sym e.1)
    (subst (λ (i : Bool). IsNegatedWhole (is_zero x.high) width k.magnitude k.flags i n s b) (sym e.2) k.is)))

-- the conversion of any other pair to an integer determines the number, the status and whether it is exact
to_natural_once : (mode : Round) (width : ℕ) (x : Pair) → OnceWhole (IsPairToNatural mode width x)
to_natural_once mode width x m n r s a b h k =
    let e = pair_to_unsigned_once mode width x h.magnitude k.magnitude r s a b h.is_magnitude k.is_magnitude in
    (h.is ∙ ap pos e.0 ∙ sym k.is, e.1, e.2)

pub pair_to_signed_once : (mode : Round) (width : ℕ) (x : Pair) → OnceWhole (IsPairToSigned mode width x)
pair_to_signed_once mode width x =
    match_three OnceWhole (is_negative x.high) (IsPairToNegative mode width x) (IsPairToNatural mode (width - 1) x)
    (to_negative_once mode width x) (to_natural_once mode (width - 1) x)

-- ---- by parts

-- a pair has at most one exponent
pub pair_ilogb_once : (x : Pair) (d e : ℤ) → IsPairIlogb x d → IsPairIlogb x e → d ≡ e
pair_ilogb_once x d e h k = exponent_once double x.high d e h k

-- a pair has at most one scaling
pub pair_scaling_once : (mode : Round) (x : Pair) (power : ℤ) (answer other : Pair) → IsPairScaling mode x power answer
    → IsPairScaling mode x power other → answer ≡ other
pair_scaling_once mode x power v w h k =
    parts_same v w (scaling_once double mode x.high power v.high w.high h.high_is k.high_is)
    (scaling_once double mode x.low power v.low w.low h.low_is k.low_is)

-- the exponent determines the low part of a fraction
low_fraction_once : (scaled : Bool) (mode : Round) (low answer other : Datum) (d e : ℤ) → d ≡ e
    → MatchBool scaled (IsScaling double mode low (neg_ℤ d) answer) (answer ≡ low)
    → MatchBool scaled (IsScaling double mode low (neg_ℤ e) other) (other ≡ low) → answer ≡ other
low_fraction_once true mode x v w d e g h k =
    scaling_once double mode x (neg_ℤ d) v w h (subst (λ (i : ℤ). IsScaling double mode x (neg_ℤ i) w) (sym g) k)
low_fraction_once false mode x v w d e g h k = h ∙ sym k

-- a pair has at most one fraction and one exponent
pub pair_fraction_once : (mode : Round) (x answer other : Pair) (d e : ℤ) → IsPairFraction mode x answer d
    → IsPairFraction mode x other e → (answer ≡ other) × (d ≡ e)
pair_fraction_once mode x v w d e h k =
    let a = frexp_once double x.high (lit< tt) v.high w.high d e h.high_is k.high_is in (
      parts_same v w a.0
          (low_fraction_once (is_finite_non_zero x.high) mode x.low v.low w.low d e a.1 h.low_is k.low_is),
      a.1,
    )

-- a pair is not both denormal and not denormal
denormal_by_parts_once : (x : Pair) (answer other : Bool) → IsDenormalByParts x answer → IsDenormalByParts x other
    → answer ≡ other
denormal_by_parts_once x v w h k =
    let e = (sum_once double NearestTiesToEven x.high x.low h.sum k.sum h.status k.status h.is_sum k.is_sum).0 in
    h.is ∙ ap (λ (d : Datum). is_denormal double x.high || not (is_equal x.high d)) e ∙ sym k.is

pub pair_denormal_once : (x : Pair) (answer other : Bool) → IsDenormalPair x answer → IsDenormalPair x other
    → answer ≡ other
pair_denormal_once x v w =
    match_one (λ (R : Bool → Type 0). (answer other : Bool) → R answer → R other → answer ≡ other)
    (is_finite_non_zero x.high) (IsDenormalByParts x) (λ i. i ≡ false) (denormal_by_parts_once x)
    (λ i j h k. h ∙ sym k) v w
