-- An operation on two values has at most one result.
use Rattle.std.proofs.Common.{ℕ}
use Rattle.rustc_apfloat.specs.{declared.Round.Round, Determined.Determines, Meaning.AreDetermined}
use Rattle.formats_at_run_time.specs.{OfTwo.IsOfTwo, Relations.Relations, declared.arithmetic.Arithmetic.Arithmetic}
use Rattle.formats_at_run_time.specs.declared.arithmetic.Arithmetic.TheVariants.{Sum, Difference, Product, Quotient}
use Rattle.formats_at_run_time.specs.declared.arithmetic.Arithmetic.TheVariants.{NearestRemainder, TruncatedRemainder}

pub of_two_once : {A : Type 0} (of_type : Relations A) (mode : Round) (precision width : ℕ)
    → AreDetermined of_type.meaning mode precision width
    → (arithmetic : Arithmetic) (x y : A) → Determines (IsOfTwo of_type arithmetic mode x y)
of_two_once of_type mode precision width once Sum x y = once.sum x y
of_two_once of_type mode precision width once Difference x y = once.difference x y
of_two_once of_type mode precision width once Product x y = once.product x y
of_two_once of_type mode precision width once Quotient x y = once.quotient x y
of_two_once of_type mode precision width once NearestRemainder x y = once.nearest_remainder x y
of_two_once of_type mode precision width once TruncatedRemainder x y = once.remainder x y
