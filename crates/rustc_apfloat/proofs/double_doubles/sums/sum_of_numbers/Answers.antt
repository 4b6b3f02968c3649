use Rattle.std.proofs.Common.{◌≡◌, ℕ, Bool, false, true, if◌then◌else◌, ap}
use Rattle.std.proofs.Math.Path.{subst₂}
use Rattle.apfloat_model.specs.{declared.kinds.Round.Round, formats.Datum.Datum, order.Classes.is_infinite}
use Rattle.apfloat_model.specs.{rounding.Flags.bits_of, rounding.Steps.Leads, arithmetic.Sums.IsSum}
use Rattle.apfloat_pair_theory.specs.{PairFormats.double, Pairs.Pair}
use Rattle.apfloat_pair_theory.specs.PairSums.{finite_sum, sum_anew, sum_of_numbers}
use Rattle.apfloat_pair_theory.proofs.sums.SumsSound.{at_test, step}
use Rattle.rustc_apfloat.proofs.double_doubles_lemmas.PairSteps.{infinite_is}
use Rattle.rustc_apfloat.proofs.double_doubles.sums.sum_of_numbers.Goals as goal

-- the sum of the high parts, and then what follows if it is infinite or not
from_high : (mode : Round) (x y x_view y_view : Pair) (z : Datum) (flags : ℕ) (value : Bool)
    (answer : Pair) (status : ℕ) → x_view ≡ x → y_view ≡ y → IsSum double mode x_view.high y_view.high z flags
    → value ≡ is_infinite z → Leads double mode (if value then sum_anew x y else finite_sum x y z flags) answer status
    → Leads double mode (sum_of_numbers x y) answer status
from_high mode x y x_view y_view z flags value answer status i j s e h =
    step z flags
    (subst₂ (λ (a : Datum) (b : Datum). IsSum double mode a b z flags) (ap (λ (p : Pair). p.high) i)
    (ap (λ (p : Pair). p.high) j) s)
    (at_test mode value (is_infinite z) (sum_anew x y) (finite_sum x y z flags) answer status e h)

pub returns-then-is_infinite : goal.returns-then-is_infinite
returns-then-is_infinite c =
    let z = c.add_r-z.result in
    from_high c.args.round c.args.x c.args.y _ _ z.value (bits_of z.status) true _ _ c.x.view_is c.y.view_is
    c.add_r-z.ensures.sum (infinite_is z.value _ _ c.is_infinite.ensures c.if-is_infinite.true) c.sum_anew.ensures

pub returns-else-is_infinite : goal.returns-else-is_infinite
returns-else-is_infinite c =
    let z = c.add_r-z.result in
    from_high c.args.round c.args.x c.args.y _ _ z.value (bits_of z.status) false _ _ c.x.view_is c.y.view_is
    c.add_r-z.ensures.sum (infinite_is z.value _ _ c.is_infinite.ensures c.if-is_infinite.false) c.finite_sum.ensures
