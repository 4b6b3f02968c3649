-- Conversions and fused sums of pairs, from their steps, and that they have one result.
use Rattle.std.proofs.Common.{◌≡◌, ℕ, ◌/◌, ◌^◌, ◌∙◌, Bool, true, false, sym, ap, subst, lit<}
use Rattle.std.proofs.{Math.Path.subst₂, lemmas.Bool.lt-ltb}
use Rattle.apfloat_model.specs.{Determined.DeterminesBoth, declared.kinds.Round.Round, formats.Format.Format}
use Rattle.apfloat_model.specs.formats.Datum.{Datum, finite, infinite, nan}
use Rattle.apfloat_model.specs.order.Classes.{category_of, is_finite_non_zero, is_finite_non_zero_category}
use Rattle.apfloat_model.specs.arithmetic.Conversions.{IsConversion, IsExactlyConverted}
use Rattle.apfloat_model.specs.arithmetic.FusedSums.{IsFusedSum}
use Rattle.apfloat_model.proofs.{Once.Once, Once.conversion_once, Once.fused_sum_once, AnswersExist.HasAnswer}
use Rattle.apfloat_model.proofs.{AnswersExist.fused_sum_exists, general.Choices.match_case, general.Choices.match_true}
use Rattle.apfloat_model.proofs.{general.Choices.match_false, order.PredicatesAgree.number_agrees}
use Rattle.apfloat_arithmetic.specs.other_formats.{FormatOf.IsSumTo, Theorems.HasOneSum}
use Rattle.apfloat_pair_theory.specs.PairFormats.{double, wide}
use Rattle.apfloat_pair_theory.specs.Pairs.{Pair, IsJoined, IsSplit, IsSplitAnswer, pair_of}
use Rattle.apfloat_pair_theory.specs.PairAnswers.{HasOneAnswer, HasPairAnswer, OncePair}
use Rattle.apfloat_pair_theory.proofs.calls.PairsOnce.{joined_once, split_answer_once}
use Rattle.apfloat_pair_theory.proofs.calls.CallsExist.{conversion_exists, joined_exists, split_answer_exists}
use Rattle.apfloat_pair_theory.proofs.pairs.{PairBits.double_of, PairBits.pair_of_halves, SplitLaws.lossless_split}
use Rattle.rustc_apfloat.proofs.double_doubles_lemmas.PairSteps.{wide_of_none}
use Rattle.rustc_apfloat.specs.double_double_operations.PairConversions.{IsConvertedAnyway, IsPairTo, IsPairFrom}
use Rattle.rustc_apfloat.specs.double_double_operations.PairConversions.{IsExactPairFrom}
use Rattle.rustc_apfloat.specs.double_double_operations.PairFusedSums.{IsWideAnswerOfThree, IsPairFusedSum}

-- ---- the parts of a pair, read from its bits

abbrev make_pair : Datum → Datum → Pair
make_pair high low = record { high = high; low = low }

-- the doubles in the two halves of the bits of a pair are its parts
halves_are : (bits : ℕ) (x : Pair) (high low : Datum) → high ≡ double_of bits → low ≡ double_of (bits / 2 ^ 64)
    → pair_of bits ≡ x → make_pair high low ≡ x
halves_are bits x high low h l back = pair_of_halves bits (make_pair high low) h l ∙ back

pub high_is : (bits : ℕ) (x : Pair) (high low : Datum) → high ≡ double_of bits → low ≡ double_of (bits / 2 ^ 64)
    → pair_of bits ≡ x → high ≡ x.high
high_is bits x high low h l back = ap (λ (p : Pair). p.high) (halves_are bits x high low h l back)

pub low_is : (bits : ℕ) (x : Pair) (high low : Datum) → high ≡ double_of bits → low ≡ double_of (bits / 2 ^ 64)
    → pair_of bits ≡ x → low ≡ x.low
low_is bits x high low h l back = ap (λ (p : Pair). p.low) (halves_are bits x high low h l back)

-- ---- a pair in another format, from the call on its parts

pub by_sum : (g : Format) (mode : Round) (x : Pair) (high low : Datum) (is_number : Bool) (value : Datum) (status : ℕ)
    → high ≡ x.high → low ≡ x.low → is_number ≡ is_finite_non_zero_category (category_of high) → is_number ≡ true
    → IsSumTo double double g mode high low value status → IsPairTo g mode x value status
by_sum g mode x high low is_number value status h l n e s =
    match_true (is_finite_non_zero x.high) (IsSumTo double double g mode x.high x.low value status)
    (IsConvertedAnyway double g mode x.high value status)
    (ap is_finite_non_zero (sym h) ∙ sym (number_agrees high) ∙ sym n ∙ e)
    (subst₂ (λ (a : Datum) (b : Datum). IsSumTo double double g mode a b value status) h l s)

pub alone : (g : Format) (mode : Round) (x : Pair) (high : Datum) (is_number : Bool) (value : Datum) (status : ℕ)
    (loses : Bool) → high ≡ x.high → is_number ≡ is_finite_non_zero_category (category_of high) → is_number ≡ false
    → IsConversion double g mode high value status loses → IsPairTo g mode x value status
alone g mode x high is_number value status loses h n e s =
    match_false (is_finite_non_zero x.high) (IsSumTo double double g mode x.high x.low value status)
    (IsConvertedAnyway double g mode x.high value status)
    (ap is_finite_non_zero (sym h) ∙ sym (number_agrees high) ∙ sym n ∙ e)
    (record {
      loses_info = loses;
      is_conversion = subst (λ (a : Datum). IsConversion double g mode a value status loses) h s;
    })

-- ---- calls in the wide format

-- the split result of a wide call on three pairs
pub wide_of_three : (call : Datum → Datum → Datum → Datum → ℕ → Type 0) (x y z : Pair)
    (first second third value : Datum) (flags : ℕ) (answer : Pair) (status : ℕ) → IsJoined x first
    → IsJoined y second → IsJoined z third → call first second third value flags → status ≡ flags
    → IsSplit value answer → IsWideAnswerOfThree call x y z answer status
wide_of_three call x y z first second third value flags answer status i j k h e s =
    record {
      first = first;
      second = second;
      third = third;
      first_is = i;
      second_is = j;
      third_is = k;
      is_answer = wide_of_none (call first second third) value flags answer status h e s;
    }

-- if a wide call has at most one result for all operands, so has the call that joins and splits
wide_answer_of_three_once : (call : Datum → Datum → Datum → Datum → ℕ → Type 0)
    → ((first second third : Datum) → Once (call first second third)) → (x y z : Pair)
    → OncePair (IsWideAnswerOfThree call x y z)
wide_answer_of_three_once call c x y z v w r s h k =
    let e = joined_once x h.first k.first h.first_is k.first_is in
    let g = joined_once y h.second k.second h.second_is k.second_is in
    let i = joined_once z h.third k.third h.third_is k.third_is in
    split_answer_once (call h.first h.second h.third) (c h.first h.second h.third) v w r s h.is_answer
    (subst (λ (d : Datum). IsSplitAnswer (call d h.second h.third) w s) (sym e)
    (subst (λ (d : Datum). IsSplitAnswer (call k.first d h.third) w s) (sym g)
    (subst (λ (d : Datum). IsSplitAnswer (call k.first k.second d) w s) (sym i) k.is_answer)))

-- if it has a result for all operands, so has the other
wide_answer_of_three_exists : (call : Datum → Datum → Datum → Datum → ℕ → Type 0)
    → ((first second third : Datum) → HasAnswer (call first second third)) → (x y z : Pair)
    → HasPairAnswer (IsWideAnswerOfThree call x y z)
wide_answer_of_three_exists call c x y z =
    let i = joined_exists x in
    let j = joined_exists y in
    let k = joined_exists z in
    let a = split_answer_exists (call i.0 j.0 k.0) (c i.0 j.0 k.0) in (
      a.0,
      (
        a.1.0,
        record {
          first = i.0;
          second = j.0;
          third = k.0;
          first_is = i.1;
          second_is = j.1;
          third_is = k.1;
          is_answer = a.1.1;
        },
      ),
    )

pub one_fused_sum : (mode : Round) (x y z : Pair) → HasOneAnswer (IsPairFusedSum mode x y z)
one_fused_sum mode x y z = record {
  exists = wide_answer_of_three_exists (IsFusedSum wide mode) (fused_sum_exists wide (lit< tt) mode) x y z;
  once = wide_answer_of_three_once (IsFusedSum wide mode) (fused_sum_once wide mode) x y z;
}

-- ---- conversions

-- a number that the wide format has too is converted to it exactly, and its split loses nothing
pub exactly_from : (f : Format) (x value : Datum) (flags : ℕ) (loses : Bool) (answer : Pair) (status : ℕ)
    → IsExactlyConverted f wide x value flags loses → IsSplit value answer → status ≡ flags
    → IsExactPairFrom f x answer status
exactly_from f (finite b m) value flags loses answer status exact split e = λ n same some within member.
    let c = exact n same member in
    let s : IsSplit (finite b n) answer = subst (λ (d : Datum). IsSplit d answer) c.value_is split in
    ((lossless_split (finite b n) answer s member (lt-ltb 0 n some) within).0, e ∙ c.status_is)
exactly_from f (infinite b) value flags loses answer status exact split e = tt
exactly_from f (nan b s) value flags loses answer status exact split e = tt

converted_once : (f g : Format) (mode : Round) (x : Datum) → Once (IsConvertedAnyway f g mode x)
converted_once f g mode x v w r s h k =
    let e = conversion_once f g mode x v w r s h.loses_info k.loses_info h.is_conversion k.is_conversion in
    (e.0, e.1)

converted_exists : (f : Format) (mode : Round) (x : Datum) → HasAnswer (IsConvertedAnyway f wide mode x)
converted_exists f mode x =
    let c = conversion_exists f wide (lit< tt) mode x in
    (c.0, (c.1.0, record { loses_info = c.1.1.0; is_conversion = c.1.1.1 }))

pub one_from_format : (f : Format) (mode : Round) (x : Datum) → HasOneAnswer (IsPairFrom f mode x)
one_from_format f mode x = record {
  exists = split_answer_exists (IsConvertedAnyway f wide mode x) (converted_exists f mode x);
  once = split_answer_once (IsConvertedAnyway f wide mode x) (converted_once f wide mode x);
}

pub one_to_format : HasOneSum → (g : Format) (mode : Round) (x : Pair) → DeterminesBoth (IsPairTo g mode x)
one_to_format one_sum g mode x v w r s h k =
    match_case Once (is_finite_non_zero x.high) (IsSumTo double double g mode x.high x.low)
    (IsConvertedAnyway double g mode x.high) (one_sum double double g mode x.high x.low)
    (converted_once double g mode x.high) v w r s h k
