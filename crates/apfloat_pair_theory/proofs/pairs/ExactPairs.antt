-- The parts of a split wide result add up exactly to that result whenever the high part is finite.
use Rattle.std.specs.Prelude.{ℕ}
use Rattle.apfloat_model.specs.{declared.kinds.Round.Round, formats.Datum.Datum, arithmetic.Quotients.IsQuotient}
use Rattle.apfloat_model.specs.arithmetic.Remainders.{IsTruncatedRemainder, IsNearestRemainder}
use Rattle.apfloat_pair_theory.specs.{PairFormats.wide, Pairs.Pair, Pairs.IsWideAnswerOfTwo}
use Rattle.apfloat_pair_theory.specs.PairCalls.{IsPairQuotient, IsPairTruncatedRemainder, IsPairNearestRemainder}
use Rattle.apfloat_pair_theory.specs.PairAccuracy.{IsExactAnswerOfTwo, IsExactQuotient, IsExactTruncatedRemainder}
use Rattle.apfloat_pair_theory.specs.PairAccuracy.{IsExactNearestRemainder}
use Rattle.apfloat_pair_theory.proofs.pairs.SplitLaws.{exact_split}

-- for a call of two pairs, the parts add up exactly to the wide result
exact_answer_of_two : (call : Datum → Datum → Datum → ℕ → Type 0) (x y answer : Pair) (status : ℕ)
    → IsWideAnswerOfTwo call x y answer status → IsExactAnswerOfTwo call x y answer status
exact_answer_of_two call x y answer status a = record {
  left = a.left;
  right = a.right;
  value = a.is_answer.value;
  left_is = a.left_is;
  right_is = a.right_is;
  is_value = a.is_answer.is_value;
  exactly = exact_split a.is_answer.value answer a.is_answer.is_split;
}

-- the parts of a quotient and of both remainders add up exactly to the wide result
pub exact_quotient : (mode : Round) (x y answer : Pair) (status : ℕ) → IsPairQuotient mode x y answer status
    → IsExactQuotient mode x y answer status
exact_quotient mode x y answer status a = exact_answer_of_two (IsQuotient wide mode) x y answer status a

pub exact_truncated_remainder : (x y answer : Pair) (status : ℕ) → IsPairTruncatedRemainder x y answer status
    → IsExactTruncatedRemainder x y answer status
exact_truncated_remainder x y answer status a = exact_answer_of_two (IsTruncatedRemainder wide) x y answer status a

pub exact_nearest_remainder : (x y answer : Pair) (status : ℕ) → IsPairNearestRemainder x y answer status
    → IsExactNearestRemainder x y answer status
exact_nearest_remainder x y answer status a = exact_answer_of_two (IsNearestRemainder wide) x y answer status a
