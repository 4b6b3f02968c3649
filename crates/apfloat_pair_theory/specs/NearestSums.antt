-- The sum of two data as doubles, rounded to nearest, ties to even, as a function: the result that is proved to exist.
-- `nearest_sum_is` says that it satisfies the relation; `proofs/parts/DenormalPairs.antt` proves that nothing else
-- does.
use Rattle.std.specs.Prelude.{ℕ}
use Rattle.std.proofs.Common.{lit<}
use Rattle.apfloat_model.specs.{declared.kinds.Round.TheVariants.NearestTiesToEven, formats.Datum.Datum}
use Rattle.apfloat_model.specs.arithmetic.Sums.{IsSum}
use Rattle.apfloat_model.proofs.AnswersExist.{sum_exists}
use Rattle.apfloat_pair_theory.specs.PairFormats.{double}

pub nearest_sum : Datum → Datum → Datum
nearest_sum x y = (sum_exists double (lit< tt) NearestTiesToEven x y).0

pub nearest_sum_is : (x y : Datum) → (status : ℕ) × IsSum double NearestTiesToEven x y (nearest_sum x y) status
unfolding nearest_sum
nearest_sum_is x y = (sum_exists double (lit< tt) NearestTiesToEven x y).1
