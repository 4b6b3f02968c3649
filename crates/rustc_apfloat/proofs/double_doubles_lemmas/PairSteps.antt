-- Results of calls on pairs, from the results of their steps.
use Rattle.std.proofs.Common.{◌≡◌, ℕ, Bool, true, false, not, ◌&&◌, ◌||◌, sym, ap, ◌∙◌, subst}
use Rattle.std.proofs.Math.Path.{subst₂}
use Rattle.apfloat_model.specs.declared.kinds.{Category.Category, Round.Round, Round.TheVariants.NearestTiesToEven}
use Rattle.apfloat_model.specs.formats.Datum.{Datum}
use Rattle.apfloat_model.specs.order.Classes.{category_of, is_finite, is_infinite, is_finite_non_zero, is_negative}
use Rattle.apfloat_model.specs.order.Classes.{is_finite_non_zero_category, is_denormal}
use Rattle.apfloat_model.specs.order.{Predicates.is_finite_category, Predicates.is_infinite_category, Order.is_equal}
use Rattle.apfloat_model.specs.{rounding.Steps.Leads, arithmetic.Exact.same_sign, arithmetic.Sums.IsSum}
use Rattle.apfloat_model.proofs.order.PredicatesAgree.{finite_agrees, infinite_agrees, number_agrees}
use Rattle.apfloat_model.proofs.general.Choices.{same_beq, match_true, match_false}
use Rattle.apfloat_pair_theory.specs.PairFormats.{double, wide}
use Rattle.apfloat_pair_theory.specs.Pairs.{Pair, IsJoined, IsSplit, IsSplitAnswer, IsSumOfParts, IsWidened}
use Rattle.apfloat_pair_theory.specs.Pairs.{IsWideAnswer, IsWideAnswerOfTwo, negated_pair, pair_category}
use Rattle.apfloat_pair_theory.specs.PairSums.{◌∪◌, sum_of_categories, IsPairSum, IsPairDifference}
use Rattle.apfloat_pair_theory.specs.PairParts.{is_denormal_pair}
use Rattle.apfloat_pair_theory.specs.PairProducts.{product_of_categories, IsPairProduct}
use Rattle.apfloat_pair_theory.proofs.parts.DenormalPairs.{denormal_by_sum}
use mathlib.Core.Bool.{beq}

-- whether a pair is denormal, from the sum of its parts
pub denormal_at_sum : (x : Pair) (sum : Datum) (status : ℕ) (is_number is_denormal_high answer : Bool)
    → is_number ≡ is_finite_non_zero_category (category_of x.high) → is_number ≡ true
    → is_denormal_high ≡ is_denormal double x.high → is_denormal_high ≡ false
    → IsSum double NearestTiesToEven x.high x.low sum status → answer ≡ not (is_equal x.high sum)
    → answer ≡ is_denormal_pair x
denormal_at_sum x sum status is_number is_denormal_high answer n t d f s a =
    let e : is_finite_non_zero x.high ≡ true = sym (number_agrees x.high) ∙ sym n ∙ t in
    let g : is_denormal double x.high ≡ false = sym d ∙ f in
    a ∙ sym (denormal_by_sum x sum status s ∙
    ap (λ (b : Bool). b && (is_denormal double x.high || not (is_equal x.high sum))) e ∙
    ap (λ (b : Bool). true && (b || not (is_equal x.high sum))) g)

-- ---- chains of steps

-- the value of a test of the language is that of the test of the model
pub finite_is : (x : Datum) (test value : Bool) → test ≡ is_finite_category (category_of x) → test ≡ value
    → value ≡ is_finite x
finite_is x test value t e = sym e ∙ t ∙ finite_agrees x

pub infinite_is : (x : Datum) (test value : Bool) → test ≡ is_infinite_category (category_of x) → test ≡ value
    → value ≡ is_infinite x
infinite_is x test value t e = sym e ∙ t ∙ infinite_agrees x

pub number_is : (x : Datum) (test value : Bool) → test ≡ is_finite_non_zero_category (category_of x) → test ≡ value
    → value ≡ is_finite_non_zero x
number_is x test value t e = sym e ∙ t ∙ number_agrees x

pub signs_are : (x y : Pair) (first second value : Bool) → first ≡ is_negative x.high → second ≡ is_negative y.high
    → beq first second ≡ value → value ≡ same_sign (is_negative x.high) (is_negative y.high)
signs_are x y first second value a b e =
    sym e ∙ same_beq first second ∙ ap (λ (i : Bool). same_sign first i) b ∙
    ap (λ (i : Bool). same_sign i (is_negative y.high)) a

-- one more step raises its flags too
pub joined : (before flags all total : ℕ) → total ≡ all ∪ flags → all ≡ before → total ≡ before ∪ flags
joined before flags all total e g = e ∙ ap (λ (i : ℕ). i ∪ flags) g

-- ---- pairs in the wide format

-- the join of a pair whose high part is a number
pub joined_by_sum : (x : Pair) (high low answer : Datum) (status : ℕ) (is_number : Bool)
    → is_number ≡ is_finite_non_zero_category (category_of x.high) → is_number ≡ true → IsWidened x.high high
    → IsWidened x.low low → IsSum wide NearestTiesToEven high low answer status → IsJoined x answer
joined_by_sum x high low answer status is_number n e h l s =
    match_true (is_finite_non_zero x.high) (IsSumOfParts x answer) (IsWidened x.high answer)
    (sym (number_agrees x.high) ∙ sym n ∙ e)
    (record { high = high; low = low; status = status; high_is = h; low_is = l; is_sum = s })

-- the join of any other pair, which is its high part
pub joined_alone : (x : Pair) (high : Datum) (is_number : Bool)
    → is_number ≡ is_finite_non_zero_category (category_of x.high) → is_number ≡ false → IsWidened x.high high
    → IsJoined x high
joined_alone x high is_number n e h =
    match_false (is_finite_non_zero x.high) (IsSumOfParts x high) (IsWidened x.high high)
    (sym (number_agrees x.high) ∙ sym n ∙ e) h

-- ---- calls in the wide format

-- the split result of a wide call without operands
pub wide_of_none : (call : Datum → ℕ → Type 0) (value : Datum) (flags : ℕ) (answer : Pair) (status : ℕ)
    → call value flags → status ≡ flags → IsSplit value answer → IsSplitAnswer call answer status
wide_of_none call value flags answer status h e s =
    record { value = value; is_value = subst (λ (t : ℕ). call value t) (sym e) h; is_split = s }

-- the split result of a wide call on two pairs
pub wide_of_two : (call : Datum → Datum → Datum → ℕ → Type 0) (x y : Pair) (left right value : Datum) (flags : ℕ)
    (answer : Pair) (status : ℕ) → IsJoined x left → IsJoined y right → call left right value flags → status ≡ flags
    → IsSplit value answer → IsWideAnswerOfTwo call x y answer status
wide_of_two call x y left right value flags answer status i j h e s =
    record {
      left = left;
      right = right;
      left_is = i;
      right_is = j;
      is_answer = wide_of_none (call left right) value flags answer status h e s;
    }

-- the split result of a wide call on one pair
pub wide_of_one : (call : Datum → Datum → ℕ → Type 0) (x : Pair) (joined value : Datum) (flags : ℕ) (answer : Pair)
    (status : ℕ) → IsJoined x joined → call joined value flags → status ≡ flags → IsSplit value answer
    → IsWideAnswer call x answer status
wide_of_one call x joined value flags answer status j h e s =
    record {
      joined = joined;
      is_joined = j;
      is_answer = wide_of_none (call joined) value flags answer status h e s;
    }

-- ---- by categories, and by negation

-- the result for the categories of two operands is their sum
pub sum_by_categories : (mode : Round) (x y : Pair) (first second : Category) (answer : Pair) (status : ℕ)
    → first ≡ pair_category x → second ≡ pair_category y
    → Leads double mode (sum_of_categories first second x y) answer status → IsPairSum mode x y answer status
sum_by_categories mode x y first second answer status i j s =
    subst₂ (λ (k : Category) (l : Category). Leads double mode (sum_of_categories k l x y) answer status) i j s

-- the result for the categories of two factors is their product
pub product_by_categories : (mode : Round) (x y : Pair) (first second : Category) (answer : Pair) (status : ℕ)
    → first ≡ pair_category x → second ≡ pair_category y
    → Leads double mode (product_of_categories first second x y) answer status → IsPairProduct mode x y answer status
product_by_categories mode x y first second answer status i j s =
    subst₂ (λ (k : Category) (l : Category). Leads double mode (product_of_categories k l x y) answer status) i j s

-- a difference is the sum with the negated pair
pub difference_by_negation : (mode : Round) (x y negated answer : Pair) (status : ℕ) → negated ≡ negated_pair y
    → IsPairSum mode x negated answer status → IsPairDifference mode x y answer status
difference_by_negation mode x y z answer status e s = subst (λ (p : Pair). IsPairSum mode x p answer status) e s
