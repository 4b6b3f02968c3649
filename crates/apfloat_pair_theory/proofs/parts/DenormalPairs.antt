-- The function that decides whether a pair is denormal agrees with the relation, and its value for a given sum.
use Rattle.std.proofs.Common.{◌≡◌, ℕ, Bool, true, false, not, ◌&&◌, ◌||◌, refl, ap}
use Rattle.std.specs.Bool.{MatchBool}
use Rattle.apfloat_model.specs.{declared.kinds.Round.TheVariants.NearestTiesToEven, formats.Datum.Datum}
use Rattle.apfloat_model.specs.order.Classes.{is_finite_non_zero, is_denormal}
use Rattle.apfloat_model.specs.{order.Order.is_equal, arithmetic.Sums.IsSum}
use Rattle.apfloat_model.proofs.Once.{sum_once}
use Rattle.apfloat_pair_theory.specs.{PairFormats.double, Pairs.Pair}
use Rattle.apfloat_pair_theory.specs.NearestSums.{nearest_sum, nearest_sum_is}
use Rattle.apfloat_pair_theory.specs.PairParts.{is_denormal_pair, IsDenormalByParts, IsDenormalPair}

-- any sum to nearest is the value of the function `nearest_sum`
pub nearest_sum_at : (x y sum : Datum) (status : ℕ) → IsSum double NearestTiesToEven x y sum status
    → nearest_sum x y ≡ sum
nearest_sum_at x y sum status s =
    let n = nearest_sum_is x y in
    (sum_once double NearestTiesToEven x y (nearest_sum x y) sum n.0 status n.1 s).0

-- whether a pair is denormal, from a given sum of its parts
pub denormal_by_sum : (x : Pair) (sum : Datum) (status : ℕ) → IsSum double NearestTiesToEven x.high x.low sum status
    → is_denormal_pair x ≡ (is_finite_non_zero x.high && (is_denormal double x.high || not (is_equal x.high sum)))
denormal_by_sum x sum status s =
    ap (λ (d : Datum). is_finite_non_zero x.high && (is_denormal double x.high || not (is_equal x.high d)))
    (nearest_sum_at x.high x.low sum status s)

-- for a pair that is a number, the sum of its parts decides
by_category : (is_number denormal : Bool) (x : Pair)
    → ((answer : Bool) → answer ≡ denormal → IsDenormalByParts x answer)
    → MatchBool is_number (IsDenormalByParts x (is_number && denormal)) ((is_number && denormal) ≡ false)
by_category true t x f = f t refl
by_category false t x f = refl

-- the value of the function satisfies the relation
pub is_denormal_is : (x : Pair) → IsDenormalPair x (is_denormal_pair x)
is_denormal_is x =
    let n = nearest_sum_is x.high x.low in
    by_category (is_finite_non_zero x.high)
    (is_denormal double x.high || not (is_equal x.high (nearest_sum x.high x.low))) x
    (λ a e. record { sum = nearest_sum x.high x.low; status = n.0; is_sum = n.1; is = e })
