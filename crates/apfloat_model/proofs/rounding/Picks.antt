-- Which neighbour is picked, decided by the rest of the magnitude.
use Rattle.std.proofs.Common.{◌≡◌, ℕ, ◌+◌, ◌-◌, ◌*◌, ◌/◌, ◌%◌, ◌^◌, ◌<◌, ◌≤◌}
use Rattle.std.proofs.Common.{Bool, true, false, cond, eqb, sym, refl, ap, ◌∙◌, ⊎_elim, arith}
use Rattle.std.proofs.Math.Nat.{mul-div_cancel, mul-pos, mul-lt-mul_of_pos_right}
use Rattle.std.proofs.lemmas.{Bool.cases_lt, Nat.pow_pos}
use Rattle.apfloat_model.specs.declared.kinds.Round.{Round, TheVariants.NearestTiesToEven, TheVariants.TowardPositive}
use Rattle.apfloat_model.specs.declared.kinds.Round.TheVariants.{TowardNegative, TowardZero, NearestTiesToAway}
use Rattle.apfloat_model.specs.declared.loss.Loss.{Loss}
use Rattle.apfloat_model.specs.declared.loss.Loss.TheVariants.{ExactlyZero, LessThanHalf, ExactlyHalf, MoreThanHalf}
use Rattle.apfloat_model.specs.rounding.Rounding.{takes_above, pick_between, IsPick}
use Rattle.apfloat_model.specs.rounding.{Standing.StandsFor, Enclosure.IsEnclosed, Enclosure.rounds_up}
use Rattle.apfloat_model.proofs.rounding.Neighbours.{below_is, above_is_same, above_is_next, below_unique, above_unique}
use Rattle.apfloat_model.proofs.general.Choices.{cond_times, cond_same}

-- below the middle, a mode decides as for distances 1 and 2
pub takes_less : (mode : Round) (negative odd : Bool) (x y : ℕ) → x < y
    → takes_above mode negative x y odd ≡ takes_above mode negative 1 2 odd
takes_less NearestTiesToEven negative odd x y h = grind arith
takes_less TowardPositive negative odd x y h = refl
takes_less TowardNegative negative odd x y h = refl
takes_less TowardZero negative odd x y h = refl
takes_less NearestTiesToAway negative odd x y h = grind arith

-- at the middle, it decides as for distances 1 and 1
pub takes_half : (mode : Round) (negative odd : Bool) (x y : ℕ) → x ≡ y
    → takes_above mode negative x y odd ≡ takes_above mode negative 1 1 odd
takes_half NearestTiesToEven negative odd x y h = grind arith
takes_half TowardPositive negative odd x y h = refl
takes_half TowardNegative negative odd x y h = refl
takes_half TowardZero negative odd x y h = refl
takes_half NearestTiesToAway negative odd x y h = grind arith

-- above the middle, it decides as for distances 2 and 1
pub takes_more : (mode : Round) (negative odd : Bool) (x y : ℕ) → y < x
    → takes_above mode negative x y odd ≡ takes_above mode negative 2 1 odd
takes_more NearestTiesToEven negative odd x y h = grind arith
takes_more TowardPositive negative odd x y h = refl
takes_more TowardNegative negative odd x y h = refl
takes_more TowardZero negative odd x y h = refl
takes_more NearestTiesToAway negative odd x y h = grind arith

-- to nearest, ties to even, the upper neighbour is taken only if it is no farther, and left only if it is no nearer
pub even_nearer : (negative odd : Bool) (x y : ℕ) → takes_above NearestTiesToEven negative x y odd ≡ true → y ≤ x
even_nearer negative odd x y h = grind arith

pub even_farther : (negative odd : Bool) (x y : ℕ) → takes_above NearestTiesToEven negative x y odd ≡ false → x ≤ y
even_farther negative odd x y h = grind arith

-- a factor above 0 does not change which neighbour a mode takes
pub takes_scaled : (mode : Round) (negative odd : Bool) (x y factor : ℕ) → 0 < factor
    → takes_above mode negative x y odd ≡ takes_above mode negative (x * factor) (y * factor) odd
takes_scaled mode negative odd x y w p =
    ⊎_elim
    (λ (l : x < y).
    takes_less mode negative odd x y l ∙
    sym (takes_less mode negative odd (x * w) (y * w) (mul-lt-mul_of_pos_right l p)))
    (λ (l : y ≤ x).
    ⊎_elim
    (λ (g : y < x).
    takes_more mode negative odd x y g ∙
    sym (takes_more mode negative odd (x * w) (y * w) (mul-lt-mul_of_pos_right g p)))
    (λ (g : x ≤ y).
    let e : x ≡ y = omega arith in
    takes_half mode negative odd x y e ∙
    sym (takes_half mode negative odd (x * w) (y * w) (ap (λ (z : ℕ). z * w) e)))
    (cases_lt y x))
    (cases_lt x y)

-- the lower neighbour, counted in steps to the upper one, is odd if and only if its significand is
pub odd_is : (m c : ℕ) → eqb (m * 2 ^ c / ((m + 1) * 2 ^ c - m * 2 ^ c) % 2) 1 ≡ eqb (m % 2) 1
odd_is m c =
    let d : (m + 1) * 2 ^ c - m * 2 ^ c ≡ 2 ^ c = omega arith in
    ap (λ (x : ℕ). eqb (m * 2 ^ c / x % 2) 1) d ∙ ap (λ (x : ℕ). eqb (x % 2) 1) (mul-div_cancel m (pow_pos c))

-- the significand that is kept
abbrev pub kept : Round → Bool → Loss → ℕ → ℕ
kept mode negative loss m = cond (rounds_up mode negative loss (eqb (m % 2) 1)) (m + 1) m

-- between two neighbours, the mode picks the kept significand or the next one
pub inexact_pick : (precision : ℕ) (mode : Round) (negative : Bool) (half m c amount parts : ℕ) (up : Bool)
    → IsEnclosed precision half m c amount parts → m * 2 ^ c * parts < amount
    → takes_above mode negative (amount - m * 2 ^ c * parts) ((m + 1) * 2 ^ c * parts - amount) (eqb (m % 2) 1) ≡ up
    → IsPick precision mode negative amount parts (cond up (m + 1) m * 2 ^ c)
inexact_pick precision mode negative half m c amount parts up i h e = record {
  below = m * 2 ^ c;
  above = (m + 1) * 2 ^ c;
  is_below = below_is precision half m c amount parts i;
  is_above = above_is_next precision half m c amount parts i h;
  is =
      let e' : takes_above mode negative (amount - m * 2 ^ c * parts) ((m + 1) * 2 ^ c * parts - amount)
      (eqb (m * 2 ^ c / ((m + 1) * 2 ^ c - m * 2 ^ c) % 2) 1) ≡ up =
      ap (λ (b : Bool). takes_above mode negative (amount - m * 2 ^ c * parts) ((m + 1) * 2 ^ c * parts - amount) b)
      (odd_is m c) ∙ e in
      cond_times up (m + 1) m (2 ^ c) ∙ ap (λ (b : Bool). cond b ((m + 1) * 2 ^ c) (m * 2 ^ c)) (sym e');
}

-- a grid number is picked as itself
exact_pick : (precision : ℕ) (mode : Round) (negative : Bool) (half m c amount parts : ℕ) → 0 < parts
    → IsEnclosed precision half m c amount parts → amount ≡ m * 2 ^ c * parts
    → IsPick precision mode negative amount parts (m * 2 ^ c)
exact_pick precision mode negative half m c amount parts p i e = record {
  below = m * 2 ^ c;
  above = m * 2 ^ c;
  is_below = below_is precision half m c amount parts i;
  is_above = above_is_same precision half m c amount parts p i e;
  is = cond_same _ (m * 2 ^ c);
}

-- the significand, its place and its loss alone decide the pick
pub pick_is : (precision : ℕ) (mode : Round) (negative : Bool) (half m c amount parts : ℕ) (loss : Loss) → 0 < parts
    → IsEnclosed precision half m c amount parts → StandsFor m loss amount (2 ^ c * parts)
    → IsPick precision mode negative amount parts (kept mode negative loss m * 2 ^ c)
pick_is precision mode negative half m c amount parts ExactlyZero p i s =
    exact_pick precision mode negative half m c amount parts p i (omega (arith, s))
pick_is precision mode negative half m c amount parts LessThanHalf p i s =
    let a = s.0 in let b = s.1 in
    inexact_pick precision mode negative half m c amount parts (takes_above mode negative 1 2 (eqb (m % 2) 1)) i
    (omega (arith, a)) (takes_less mode negative (eqb (m % 2) 1) _ _ (omega (arith, a, b)))
pick_is precision mode negative half m c amount parts ExactlyHalf p i s =
    inexact_pick precision mode negative half m c amount parts (takes_above mode negative 1 1 (eqb (m % 2) 1)) i
    (let u : 0 < 2 ^ c * parts = mul-pos (pow_pos c) p in omega (arith, s))
    (takes_half mode negative (eqb (m % 2) 1) _ _ (omega (arith, s)))
pick_is precision mode negative half m c amount parts MoreThanHalf p i s =
    let a = s.0 in let b = s.1 in
    inexact_pick precision mode negative half m c amount parts (takes_above mode negative 2 1 (eqb (m % 2) 1)) i
    (omega (arith, a)) (takes_more mode negative (eqb (m % 2) 1) _ _ (omega (arith, a, b)))

-- at most one magnitude is picked
pub pick_unique : (precision : ℕ) (mode : Round) (negative : Bool) (amount parts p q : ℕ)
    → IsPick precision mode negative amount parts p → IsPick precision mode negative amount parts q → p ≡ q
pick_unique precision mode negative amount parts p q x y =
    let b : x.below ≡ y.below = below_unique precision x.below y.below amount parts x.is_below y.is_below in
    let a : x.above ≡ y.above = above_unique precision x.above y.above amount parts x.is_above y.is_above in
    x.is ∙ ap (λ (z : ℕ). pick_between mode negative z x.above amount parts) b ∙
    ap (λ (z : ℕ). pick_between mode negative y.below z amount parts) a ∙ sym y.is
