-- Joins and splits, and the calls in the wide format, determine their results.
use Rattle.std.proofs.Common.{◌≡◌, ℕ, ◌∙◌, sym, ap, subst}
use Rattle.apfloat_model.specs.{declared.kinds.Round.TheVariants.NearestTiesToEven, formats.Datum.Datum}
use Rattle.apfloat_model.specs.{order.Classes.is_finite_non_zero, arithmetic.Sums.IsSum}
use Rattle.apfloat_model.proofs.{Once.Once, Once.sum_once, Once.conversion_once, general.Choices.match_one}
use Rattle.apfloat_pair_theory.specs.PairFormats.{double, wide}
use Rattle.apfloat_pair_theory.specs.Pairs.{Pair, IsWidened, IsSumOfParts, IsJoined, low_part, IsSplit, IsSplitAnswer}
use Rattle.apfloat_pair_theory.specs.{Pairs.IsWideAnswer, Pairs.IsWideAnswerOfTwo, PairAnswers.OncePair}

-- pairs with equal parts are equal
pub parts_same : (pair other : Pair) → pair.high ≡ other.high → pair.low ≡ other.low → pair ≡ other
parts_same v w e g =
    let first : v ≡ record { high = w.high; low = v.low } =
    ap (λ (i : Datum). let p : Pair = record { high = i; low = v.low } in p) e in
    first ∙ ap (λ (i : Datum). let p : Pair = record { high = w.high; low = i } in p) g

-- ---- joins and splits

abbrev pub OnceDatum : (Datum → Type 0) → Type 0
OnceDatum R = (v w : Datum) → R v → R w → v ≡ w

-- each part of a pair has at most one conversion to the wide format
widened_once : (part : Datum) → OnceDatum (IsWidened part)
widened_once part v w x y =
    (conversion_once double wide NearestTiesToEven part v w x.status y.status x.loses_info y.loses_info x.is_conversion
    y.is_conversion).0

-- the converted parts of a pair have at most one sum
sum_of_parts_once : (x : Pair) → OnceDatum (IsSumOfParts x)
sum_of_parts_once x v w h k =
    let a = widened_once x.high h.high k.high h.high_is k.high_is in
    let b = widened_once x.low h.low k.low h.low_is k.low_is in
    (sum_once wide NearestTiesToEven h.high h.low v w h.status k.status h.is_sum
    (subst (λ (i : Datum). IsSum wide NearestTiesToEven i h.low w k.status) (sym a)
    (subst (λ (i : Datum). IsSum wide NearestTiesToEven k.high i w k.status) (sym b) k.is_sum))).0

-- a pair has at most one join
pub joined_once : (x : Pair) → OnceDatum (IsJoined x)
joined_once x =
    match_one OnceDatum (is_finite_non_zero x.high) (IsSumOfParts x) (IsWidened x.high) (sum_of_parts_once x)
    (widened_once x.high)

-- a wide datum has at most one split
pub split_once : (datum : Datum) (answer other : Pair) → IsSplit datum answer → IsSplit datum other → answer ≡ other
split_once x v w h k =
    let e = conversion_once wide double NearestTiesToEven x v.high w.high h.status k.status h.loses_info k.loses_info
    h.high_is k.high_is in
    let l : low_part x v.high h.status ≡ low_part x w.high k.status =
    ap (λ (i : Datum). low_part x i h.status) e.0 ∙ ap (λ (i : ℕ). low_part x w.high i) e.1 in
    parts_same v w e.0 (h.low_is ∙ l ∙ sym k.low_is)

-- ---- calls in the wide format

-- if a wide call has at most one result, so does the call that splits it
pub split_answer_once : (call : Datum → ℕ → Type 0) → Once call → OncePair (IsSplitAnswer call)
split_answer_once call c v w r s x y =
    let e = c x.value y.value r s x.is_value y.is_value in
    (split_once x.value v w x.is_split (subst (λ (i : Datum). IsSplit i w) (sym e.0) y.is_split), e.1)

-- a wide call with at most one result for each datum has at most one for each pair
pub wide_answer_once : (call : Datum → Datum → ℕ → Type 0) → ((datum : Datum) → Once (call datum)) → (x : Pair)
    → OncePair (IsWideAnswer call x)
wide_answer_once call c x v w r s h k =
    let e = joined_once x h.joined k.joined h.is_joined k.is_joined in
    split_answer_once (call h.joined) (c h.joined) v w r s h.is_answer
    (subst (λ (i : Datum). IsSplitAnswer (call i) w s) (sym e) k.is_answer)

-- a wide call with at most one result for all operands has at most one for all pairs
pub wide_answer_of_two_once : (call : Datum → Datum → Datum → ℕ → Type 0)
    → ((left right : Datum) → Once (call left right)) → (x y : Pair) → OncePair (IsWideAnswerOfTwo call x y)
wide_answer_of_two_once call c x y v w r s h k =
    let g = joined_once y h.right k.right h.right_is k.right_is in
    split_answer_once (call h.left h.right) (c h.left h.right) v w r s h.is_answer
    (subst (λ (i : Datum). IsSplitAnswer (call i h.right) w s) (sym (joined_once x h.left k.left h.left_is k.left_is))
    (subst (λ (i : Datum). IsSplitAnswer (call k.left i) w s) (sym g) k.is_answer))
