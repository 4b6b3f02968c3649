-- The fused sum of pairs of doubles (IEEE 754-2019 5.4.1, fusedMultiplyAdd): that of the joined pairs in the wide
-- format, rounded once there and split.
use Rattle.std.specs.Prelude.{ℕ}
use Rattle.apfloat_model.specs.{declared.kinds.Round.Round, formats.Datum.Datum, arithmetic.FusedSums.IsFusedSum}
use Rattle.apfloat_pair_theory.specs.{PairFormats.wide, Pairs.Pair, Pairs.IsJoined, Pairs.IsSplitAnswer}

pub record IsWideAnswerOfThree (call : Datum → Datum → Datum → Datum → ℕ → Type 0) (x y z answer : Pair)
    (status : ℕ) : Type 0 where
  pub first : Datum
  pub second : Datum
  pub third : Datum
  pub first_is : IsJoined x first
  pub second_is : IsJoined y second
  pub third_is : IsJoined z third
  pub is_answer : IsSplitAnswer (call first second third) answer status

abbrev pub IsPairFusedSum : Round → Pair → Pair → Pair → Pair → ℕ → Type 0
IsPairFusedSum mode x y z answer status = IsWideAnswerOfThree (IsFusedSum wide mode) x y z answer status
