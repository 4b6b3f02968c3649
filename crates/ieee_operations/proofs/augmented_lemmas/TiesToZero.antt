-- The pick to nearest with ties toward zero: it is unique, it follows from the picks of two modes, and no grid number
-- is nearer.
use Rattle.std.proofs.Common.{◌≡◌, ℕ, ◌+◌, ◌-◌, ◌*◌, ◌<◌, ◌≤◌, Bool, true, false, cond, ltb, sym, refl, ap, ◌∙◌, subst}
use Rattle.std.proofs.{Common.le_trans, Common.arith, lemmas.Bool.lt-ltb, lemmas.Bool.le-ltb}
use Rattle.std.specs.Prelude.{◌-ℤ◌}
use Rattle.apfloat_model.specs.declared.kinds.Round.TheVariants.{NearestTiesToEven, TowardZero}
use Rattle.apfloat_model.specs.rounding.{Grid.IsOnGrid, Rounding.IsPick}
use Rattle.apfloat_model.specs.arithmetic.Exact.{magnitude, signed}
use Rattle.apfloat_model.proofs.{arithmetic.Signs.magnitude_signed, general.Choices.cond_same}
use Rattle.apfloat_model.proofs.rounding.{Neighbours.below_unique, Neighbours.above_unique, ModesAgree.either_on_grid}
use Rattle.apfloat_model.proofs.rounding.Laws.{exact_below, exact_above}
use Rattle.apfloat_pair_theory.proofs.numbers.Roundings.{apart, signed_apart, signed_far, near_at}
use Rattle.apfloat_pair_theory.proofs.numbers.Signed.{on_grid_as}
use Rattle.ieee_operations.specs.augmented.{TiesToZero.nearer_between, TiesToZero.IsTiesToZeroPick, Numbers.IsNearestTo}
use Rattle.ieee_operations.proofs.augmented_lemmas.Numbers.{test_within}

-- ---- which neighbour is taken

pub takes_low : (below above amount parts : ℕ) → amount - below * parts ≤ above * parts - amount
    → nearer_between below above amount parts ≡ below
takes_low below above amount parts h =
    let e : ltb (above * parts - amount) (amount - below * parts) ≡ false = le-ltb _ _ h in
    rw e refl

pub takes_high : (below above amount parts : ℕ) → above * parts - amount < amount - below * parts
    → nearer_between below above amount parts ≡ above
takes_high below above amount parts h =
    let e : ltb (above * parts - amount) (amount - below * parts) ≡ true = lt-ltb _ _ h in
    rw e refl

-- at most one magnitude is picked
pub ties_to_zero_once : (precision amount parts p q : ℕ) → IsTiesToZeroPick precision amount parts p
    → IsTiesToZeroPick precision amount parts q → p ≡ q
ties_to_zero_once precision amount parts p q x y =
    let b : x.below ≡ y.below = below_unique precision x.below y.below amount parts x.is_below y.is_below in
    let a : x.above ≡ y.above = above_unique precision x.above y.above amount parts x.is_above y.is_above in
    x.is ∙ ap (λ (z : ℕ). nearer_between z x.above amount parts) b ∙
    ap (λ (z : ℕ). nearer_between y.below z amount parts) a ∙ sym y.is

-- a grid number is picked as itself
pub ties_to_zero_exact : (precision g amount parts : ℕ) → 0 < parts → IsOnGrid precision g → amount ≡ g * parts
    → IsTiesToZeroPick precision amount parts g
ties_to_zero_exact precision g amount parts p o e = record {
  below = g;
  above = g;
  is_below = exact_below precision g amount parts p o e;
  is_above = exact_above precision g amount parts p o e;
  is = cond_same _ g;
}

-- ---- from two modes

-- halfway, the lower neighbour is
half : (above : Bool) (low high amount e : ℕ) → low * 1 ≤ amount → amount ≤ high * 1 → e ≡ cond above high low
    → 2 * amount ≡ e + low → low ≡ nearer_between low high amount 1
half true low high amount e l h q n = sym (takes_low low high amount 1 (omega (arith, l, h, q, n)))
half false low high amount e l h q n = sym (takes_low low high amount 1 (omega (arith, l, h, q, n)))

-- the pick toward zero is the neighbour below
pub short_is_below : (precision : ℕ) (negative : Bool) (amount parts e t : ℕ)
    → (x : IsPick precision NearestTiesToEven negative amount parts e)
    → IsPick precision TowardZero negative amount parts t → t ≡ x.below
short_is_below precision negative amount parts e t x y =
    y.is ∙ below_unique precision y.below x.below amount parts y.is_below x.is_below

-- the neighbours of the pick to nearest are those of the pick with ties toward zero
from_pick : (precision : ℕ) (negative : Bool) (amount e p : ℕ)
    → (x : IsPick precision NearestTiesToEven negative amount 1 e) → p ≡ nearer_between x.below x.above amount 1
    → IsTiesToZeroPick precision amount 1 p
from_pick precision negative amount e p x is =
    record { below = x.below; above = x.above; is_below = x.is_below; is_above = x.is_above; is = is }

pub from_half : (precision : ℕ) (negative : Bool) (amount e t : ℕ)
    → IsPick precision NearestTiesToEven negative amount 1 e → IsPick precision TowardZero negative amount 1 t
    → 2 * amount ≡ e + t → IsTiesToZeroPick precision amount 1 t
from_half precision negative amount e t x y h =
    let s = short_is_below precision negative amount 1 e t x y in
    from_pick precision negative amount e t x
    (s ∙ half _ x.below x.above amount e x.is_below.not_above x.is_above.not_below x.is (h ∙ ap (λ (z : ℕ). e + z) s))

-- ---- no grid number is nearer

test_less : (m n : ℕ) → ltb m n ≡ true → m ≤ n
test_less m n h = grind arith

pub ties_to_zero_on_grid : (precision amount parts p : ℕ) → IsTiesToZeroPick precision amount parts p
    → IsOnGrid precision p
ties_to_zero_on_grid precision amount parts p x =
    on_grid_as (sym x.is) (either_on_grid _ precision _ _ x.is_above.on_grid x.is_below.on_grid)

pub ties_to_zero_nearest : (precision amount p other : ℕ) → IsTiesToZeroPick precision amount 1 p
    → IsOnGrid precision other → apart p amount ≤ apart other amount
ties_to_zero_nearest precision amount p other x o =
    let b : x.below * 1 ≤ amount = x.is_below.not_above in
    let a : amount ≤ x.above * 1 = x.is_above.not_below in
    near_at _ x.below x.above other amount p (omega (arith, b)) (omega (arith, a))
    (λ h. let k = test_less _ _ h in omega (arith, k)) (λ h. let k = test_within _ _ h in omega (arith, k)) x.is
    (λ h. x.is_above.least other o (omega (arith, h))) (λ h. x.is_below.greatest other o (omega (arith, h)))

-- the same with a sign
pub signed_nearest : (precision : ℕ) (negative : Bool) (amount p : ℕ) → IsOnGrid precision p
    → ((other : ℕ) → IsOnGrid precision other → apart p amount ≤ apart other amount)
    → IsNearestTo precision (signed negative amount) (signed negative p)
signed_nearest precision s amount p g near = record {
  on_grid = on_grid_as (sym (magnitude_signed s p)) g;
  nearest = λ other o. subst (λ (i : ℕ). i ≤ magnitude (other -ℤ signed s amount)) (sym (signed_apart s p amount))
      (le_trans (near (magnitude other) o) (signed_far s other amount));
}
