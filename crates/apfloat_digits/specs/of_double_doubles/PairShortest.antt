-- The shortest decimal of a pair of doubles (IEEE 754-2019 5.12.2).
use Rattle.std.specs.Prelude.{◌≡◌, Option, None}
use Rattle.std.specs.Bool.{MatchBool}
use Rattle.apfloat_model.specs.formats.Datum.{Datum}
use Rattle.apfloat_pair_theory.specs.{PairFormats.wide, Pairs.Pair, Pairs.IsJoined, Pairs.IsSplit, PairParts.same_pair}
use Rattle.apfloat_decimals.specs.{declared.decimal.Decimal.Decimal, ShortestSearch.GivesShortest}

-- If the pair is the split of its join, the shortest decimal of the join in the wide format. Any other pair has none:
-- no text is read as it.
pub record GivesPairShortest (x : Pair) (answer : Option Decimal) : Type 0 where
  pub joined : Datum
  pub back : Pair
  pub is_joined : IsJoined x joined
  pub is_split : IsSplit joined back
  pub is_answer : MatchBool (same_pair back x) (GivesShortest wide joined answer) (answer ≡ None)
