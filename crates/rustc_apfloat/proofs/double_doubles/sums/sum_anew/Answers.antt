use Rattle.std.proofs.Common.{Bool, false, true, ◌≡◌, ℕ, if◌then◌else◌, ap, ◌∙◌, subst}
use Rattle.apfloat_model.specs.{declared.kinds.Round.Round, formats.Datum.Datum}
use Rattle.apfloat_model.specs.rounding.{Flags.bits_of, Steps.ends, Steps.Leads}
use Rattle.apfloat_model.specs.{arithmetic.Sums.IsSum, arithmetic.Sums.IsDifference, order.Classes.is_finite}
use Rattle.apfloat_pair_theory.specs.{PairFormats.double, Pairs.Pair, Pairs.alone}
use Rattle.apfloat_pair_theory.specs.PairSums.{◌∪◌, greater, lesser, sum_anew, sum_anew_low}
use Rattle.apfloat_pair_theory.proofs.sums.SumsSound.{at_test, step}
use Rattle.rustc_apfloat.proofs.double_doubles_lemmas.PairSteps.{finite_is, joined}
use Rattle.rustc_apfloat.proofs.double_doubles.sums.sum_anew.Goals as goal

-- the sum with an equal datum
sum_at : (mode : Round) (x y other value : Datum) (status : ℕ) → y ≡ other → IsSum double mode x y value status
    → IsSum double mode x other value status
sum_at mode x y other value status e s = subst (λ (d : Datum). IsSum double mode x d value status) e s

difference_at : (mode : Round) (x y other value : Datum) (status : ℕ) → x ≡ other
    → IsDifference double mode x y value status → IsDifference double mode other y value status
difference_at mode x y other value status e s = subst (λ (d : Datum). IsDifference double mode d y value status) e s

-- the sums up to that of the high parts, and then what follows if it is finite or not
from_sum : (mode : Round) (x y : Pair) (lows with_lesser z : Datum) (s t u : ℕ) (value : Bool) (answer : Pair)
    (status : ℕ) → IsSum double mode y.low x.low lows s → IsSum double mode lows (lesser x.high y.high) with_lesser t
    → IsSum double mode with_lesser (greater x.high y.high) z u → value ≡ is_finite z
    → Leads double mode (if value then sum_anew_low x y z (s ∪ t ∪ u) else ends (alone z) (s ∪ t ∪ u)) answer status
    → Leads double mode (sum_anew x y) answer status
from_sum mode x y lows with_lesser z s t u value answer status i j k e h =
    step lows s i
    (step with_lesser t j
    (step z u k
    (at_test mode value (is_finite z) (sum_anew_low x y z (s ∪ t ∪ u)) (ends (alone z) (s ∪ t ∪ u)) answer status e h)))

pub returns-then-not-is_finite : goal.returns-then-not-is_finite
returns-then-not-is_finite c =
    rw (← c.x.view_is)
    (rw (← c.y.view_is)
    (from_sum c.args.round (record { high = c.x.inside.0; low = c.x.inside.1 })
    (record { high = c.y.inside.0; low = c.y.inside.1 }) _ _ _ _ _ _ false _ _ c.add_r.ensures.sum
    (sum_at c.args.round _ _ _ _ _ c.by_magnitude.ensures.lesser c.add_r-2.ensures.sum)
    (sum_at c.args.round _ _ _ _ _ c.by_magnitude.ensures.greater c.add_r-3.ensures.sum)
    (finite_is _ _ _ c.is_finite.ensures c.if-not-is_finite.true) (
      c.and.ensures.value ∙ c.alone.ensures,
      ap bits_of c.and.ensures.status ∙ joined _ _ _ _ (c.unpack-union-status-2.ensures tt)
          (c.unpack-union-status.ensures tt),
    )))

pub returns : goal.returns
returns c =
    rw (← c.x.view_is)
    (rw (← c.y.view_is)
    (from_sum c.args.round (record { high = c.x.inside.0; low = c.x.inside.1 })
    (record { high = c.y.inside.0; low = c.y.inside.1 }) _ _ _ _ _ _ true _ _ c.add_r.ensures.sum
    (sum_at c.args.round _ _ _ _ _ c.by_magnitude.ensures.lesser c.add_r-2.ensures.sum)
    (sum_at c.args.round _ _ _ _ _ c.by_magnitude.ensures.greater c.add_r-3.ensures.sum)
    (finite_is _ _ _ c.is_finite.ensures c.if-not-is_finite.false)
    (step _ _ c.add_r-4.ensures.sum
    (step _ _ (difference_at c.args.round _ _ _ _ _ c.by_magnitude.ensures.greater c.sub_r.ensures.difference)
    (step _ _ (sum_at c.args.round _ _ _ _ _ c.by_magnitude.ensures.lesser c.add_r-5.ensures.sum)
    (step _ _ c.add_r-6.ensures.sum (
      c.and-2.ensures.value,
      ap bits_of c.and-2.ensures.status ∙ joined _ _ _ _ (c.unpack-union-status-6.ensures tt)
          (joined _ _ _ _ (c.unpack-union-status-5.ensures tt) (joined _ _ _ _ (c.unpack-union-status-4.ensures tt)
          (joined _ _ _ _ (c.unpack-union-status-3.ensures tt) (joined _ _ _ _ (c.unpack-union-status-2.ensures tt)
          (c.unpack-union-status.ensures tt))))),
    )))))))
