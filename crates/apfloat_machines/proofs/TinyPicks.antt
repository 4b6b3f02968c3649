-- Whether a magnitude is tiny, by its pick.
use Rattle.std.proofs.Common.{◌≡◌, ℕ, ◌+◌, ◌-◌, ◌*◌, ◌%◌, ◌^◌, ◌<◌, ◌≤◌, Bool}
use Rattle.std.proofs.Common.{true, false, not, ltb, eqb, refl, ap, ◌∙◌, inl, ⊎_elim, if◌then◌else◌}
use Rattle.std.proofs.{Common.arith, lemmas.Nat.pow_pos}
use Rattle.std.proofs.lemmas.Bool.{cases_lt, lt-ltb, le-ltb, lt-leb, le-leb}
use Rattle.apfloat_model.specs.declared.kinds.Round.{Round, TheVariants.NearestTiesToEven, TheVariants.TowardPositive}
use Rattle.apfloat_model.specs.declared.kinds.Round.TheVariants.{TowardNegative, TowardZero, NearestTiesToAway}
use Rattle.apfloat_model.specs.formats.Format.{Format, smallest_normalized}
use Rattle.apfloat_model.specs.rounding.{Grid.IsOnGrid, Enclosure.IsEnclosed}
use Rattle.apfloat_model.specs.rounding.Rounding.{takes_above, IsPick, is_tiny, rounds_below_normal}
use Rattle.apfloat_model.proofs.general.Powers.{twice_half}
use Rattle.apfloat_model.proofs.rounding.{Picks.takes_more, Picks.inexact_pick, Picks.pick_unique, Laws.pick_within}

-- ---- near the smallest normalized number, m + 1 quanta, over plain numbers

-- a mode that takes the neighbour above at any distances takes it if it is the nearer one
takes_nearer : (mode : Round) (negative odd : Bool) (x y : ℕ) → takes_above mode negative x y true ≡ true
    → takes_above mode negative 2 1 odd ≡ true
takes_nearer NearestTiesToEven negative odd x y h = refl
takes_nearer TowardPositive negative odd x y h = h
takes_nearer TowardNegative negative odd x y h = h
takes_nearer TowardZero negative odd x y h = h
takes_nearer NearestTiesToAway negative odd x y h = refl

near_enclosed : (precision m amount parts : ℕ) → 2 ^ precision ≡ 2 * (m + 1) → (2 * m + 1) * parts < 2 * amount
    → amount < (m + 1) * parts → IsEnclosed precision (m + 1) m 0 amount parts
near_enclosed precision m amount parts d l h = record {
  double = d;
  fits = omega (arith, d);
  full = inl refl;
  from = omega (arith, l);
  to = omega (arith, h);
}

-- less than half a quantum below it, a mode that rounds away from zero at half quanta picks it
near_pick : (precision : ℕ) (mode : Round) (negative : Bool) (m amount parts pick x y : ℕ)
    → 2 ^ precision ≡ 2 * (m + 1) → (2 * m + 1) * parts < 2 * amount → amount < (m + 1) * parts
    → IsPick precision mode negative amount parts pick → takes_above mode negative x y true ≡ true → pick ≡ m + 1
near_pick precision mode negative m amount parts pick x y d l h picked t =
    let i = near_enclosed precision m amount parts d l h in
    let odd : Bool = eqb (m % 2) 1 in
    let up : takes_above mode negative (amount - m * 2 ^ 0 * parts) ((m + 1) * 2 ^ 0 * parts - amount) odd ≡ true =
    takes_more mode negative odd (amount - m * 2 ^ 0 * parts) ((m + 1) * 2 ^ 0 * parts - amount)
    (omega (arith, l, h)) ∙ takes_nearer mode negative odd x y t in
    let g : IsPick precision mode negative amount parts ((m + 1) * 2 ^ 0) =
    inexact_pick precision mode negative (m + 1) m 0 amount parts true i (omega (arith, l)) up in
    let e : pick ≡ (m + 1) * 2 ^ 0 = pick_unique precision mode negative amount parts pick ((m + 1) * 2 ^ 0) picked g in
    omega (arith, e)

not_taken : (test : Bool) → (test ≡ true → ⊥) → not test ≡ true
not_taken true h = absurd (h refl)
not_taken false h = refl

-- a magnitude that is picked below it is tiny after rounding with an unbounded exponent
tiny_after : (precision : ℕ) (mode : Round) (negative : Bool) (m amount parts pick : ℕ)
    → 2 ^ precision ≡ 2 * (m + 1) → amount < (m + 1) * parts → IsPick precision mode negative amount parts pick
    → pick < m + 1 → rounds_below_normal precision mode negative amount parts ≡ true
tiny_after precision mode negative m amount parts pick d h picked low =
    let e : 2 ^ precision - 1 ≡ 2 * m + 1 = omega (arith, d) in
    let last : (2 ^ precision - 1) * parts ≡ (2 * m + 1) * parts = ap (λ (n : ℕ). n * parts) e in
    let next : 2 ^ precision * parts ≡ 2 * (m + 1) * parts = ap (λ (n : ℕ). n * parts) d in
    let less : 2 * amount < 2 ^ precision * parts = omega (arith, next, h) in
    ⊎_elim
    (λ (q : (2 ^ precision - 1) * parts < 2 * amount).
    rw (lt-leb (2 * amount) ((2 ^ precision - 1) * parts) q, lt-ltb (2 * amount) (2 ^ precision * parts) less)
    (not_taken
    (takes_above mode negative (2 * amount - (2 ^ precision - 1) * parts) (2 ^ precision * parts - 2 * amount) true)
    (λ t.
    let s : pick ≡ m + 1 =
    near_pick precision mode negative m amount parts pick (2 * amount - (2 ^ precision - 1) * parts)
    (2 ^ precision * parts - 2 * amount) d (omega (arith, q, last)) h picked t in
    omega (arith, s, low))))
    (λ (q : 2 * amount ≤ (2 ^ precision - 1) * parts).
    rw (le-leb (2 * amount) ((2 ^ precision - 1) * parts) q) refl)
    (cases_lt ((2 ^ precision - 1) * parts) (2 * amount))

not_tiny_after : (precision : ℕ) (mode : Round) (negative : Bool) (m amount parts : ℕ) → 2 ^ precision ≡ 2 * (m + 1)
    → 0 < parts → (m + 1) * parts ≤ amount → rounds_below_normal precision mode negative amount parts ≡ false
not_tiny_after precision mode negative m amount parts d some h =
    let e : 2 ^ precision - 1 ≡ 2 * m + 1 = omega (arith, d) in
    let last : (2 ^ precision - 1) * parts ≡ (2 * m + 1) * parts = ap (λ (n : ℕ). n * parts) e in
    let next : 2 ^ precision * parts ≡ 2 * (m + 1) * parts = ap (λ (n : ℕ). n * parts) d in
    rw (
      lt-leb (2 * amount) ((2 ^ precision - 1) * parts) (omega (arith, last, h, some)),
      le-ltb (2 * amount) (2 ^ precision * parts) (omega (arith, next, h)),
    ) refl

-- ---- a pick beside the smallest normalized number

half_on_grid : (precision : ℕ) → 0 < precision → IsOnGrid precision (2 ^ (precision - 1))
half_on_grid precision precise =
    let d : 2 * 2 ^ (precision - 1) ≡ 2 ^ precision = twice_half precision precise in
    let w : 0 < 2 ^ (precision - 1) = pow_pos (precision - 1) in
    record { significand = 2 ^ (precision - 1); place = 0; fits = omega (arith, d, w); is = omega arith }

-- a magnitude that is not below it is not picked below it
pub picked_from : (precision : ℕ) (mode : Round) (negative : Bool) (amount parts pick : ℕ) → 0 < precision → 0 < parts
    → IsPick precision mode negative amount parts pick → 2 ^ (precision - 1) * parts ≤ amount
    → 2 ^ (precision - 1) ≤ pick
picked_from precision mode negative amount parts pick precise some picked h =
    let within = pick_within precision mode negative amount parts pick some picked in
    let low : picked.below ≤ pick = within.1 in
    let g : 2 ^ (precision - 1) ≤ picked.below =
    picked.is_below.greatest (2 ^ (precision - 1)) (half_on_grid precision precise) h in
    omega (arith, low, g)

-- a magnitude below it is picked at most there
pub picked_to : (precision : ℕ) (mode : Round) (negative : Bool) (amount parts pick : ℕ) → 0 < precision → 0 < parts
    → IsPick precision mode negative amount parts pick → amount < 2 ^ (precision - 1) * parts
    → pick ≤ 2 ^ (precision - 1)
picked_to precision mode negative amount parts pick precise some picked h =
    let within = pick_within precision mode negative amount parts pick some picked in
    let high : pick ≤ picked.above = within.0 in
    let g : picked.above ≤ 2 ^ (precision - 1) =
    picked.is_above.least (2 ^ (precision - 1)) (half_on_grid precision precise) (omega (arith, h)) in
    omega (arith, high, g)

-- ---- by each of the three rules

by_rule : (before ieee x y z test : Bool) → x ≡ test → y ≡ test → z ≡ test
    → (if before then x else (if ieee then y else z)) ≡ test
by_rule true ieee x y z test e₁ e₂ e₃ = e₁
by_rule false true x y z test e₁ e₂ e₃ = e₂
by_rule false false x y z test e₁ e₂ e₃ = e₃

-- twice the numbers of quanta up to the smallest normalized number
doubled : (precision : ℕ) → 0 < precision
    → (2 ^ precision ≡ 2 * (2 ^ (precision - 1) - 1 + 1)) × (2 ^ (precision - 1) - 1 + 1 ≡ 2 ^ (precision - 1))
doubled precision precise =
    let d : 2 * 2 ^ (precision - 1) ≡ 2 ^ precision = twice_half precision precise in
    let w : 0 < 2 ^ (precision - 1) = pow_pos (precision - 1) in
    (omega (arith, d, w), omega (arith, w))

pub tiny_below : (f : Format) (mode : Round) (negative : Bool) (amount parts pick : ℕ) → 0 < f.precision → 0 < parts
    → IsPick f.precision mode negative amount parts pick → pick < smallest_normalized f
    → is_tiny f mode negative amount parts pick ≡ true
tiny_below f mode negative amount parts pick precise some picked low =
    let d = doubled f.precision precise in
    let e : 2 ^ (f.precision - 1) - 1 + 1 ≡ 2 ^ (f.precision - 1) = d.1 in
    let k : (2 ^ (f.precision - 1) - 1 + 1) * parts ≡ 2 ^ (f.precision - 1) * parts = ap (λ (n : ℕ). n * parts) e in
    let less : amount < 2 ^ (f.precision - 1) * parts =
    ⊎_elim (λ (q : amount < 2 ^ (f.precision - 1) * parts). q)
    (λ (q : 2 ^ (f.precision - 1) * parts ≤ amount).
    let g : 2 ^ (f.precision - 1) ≤ pick =
    picked_from f.precision mode negative amount parts pick precise some picked q in
    absurd (omega (arith, g, low)))
    (cases_lt amount (2 ^ (f.precision - 1) * parts)) in
    by_rule f.tiny_before_rounding f.ieee_flags (ltb amount (smallest_normalized f * parts))
    (rounds_below_normal f.precision mode negative amount parts) (ltb pick (smallest_normalized f)) true
    (lt-ltb amount (smallest_normalized f * parts) less)
    (tiny_after f.precision mode negative (2 ^ (f.precision - 1) - 1) amount parts pick d.0 (omega (arith, less, k))
    picked (omega (arith, low, e))) (lt-ltb pick (smallest_normalized f) low)

pub not_tiny_from : (f : Format) (mode : Round) (negative : Bool) (amount parts pick : ℕ) → 0 < f.precision
    → 0 < parts → IsPick f.precision mode negative amount parts pick → smallest_normalized f * parts ≤ amount
    → is_tiny f mode negative amount parts pick ≡ false
not_tiny_from f mode negative amount parts pick precise some picked h =
    let d = doubled f.precision precise in
    let e : 2 ^ (f.precision - 1) - 1 + 1 ≡ 2 ^ (f.precision - 1) = d.1 in
    let k : (2 ^ (f.precision - 1) - 1 + 1) * parts ≡ 2 ^ (f.precision - 1) * parts = ap (λ (n : ℕ). n * parts) e in
    by_rule f.tiny_before_rounding f.ieee_flags (ltb amount (smallest_normalized f * parts))
    (rounds_below_normal f.precision mode negative amount parts) (ltb pick (smallest_normalized f)) false
    (le-ltb amount (smallest_normalized f * parts) h)
    (not_tiny_after f.precision mode negative (2 ^ (f.precision - 1) - 1) amount parts d.0 some (omega (arith, h, k)))
    (le-ltb pick (smallest_normalized f)
    (picked_from f.precision mode negative amount parts pick precise some picked h))
