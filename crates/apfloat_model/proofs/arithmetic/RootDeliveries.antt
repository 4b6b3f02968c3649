-- A fraction that agrees with a square root at quarters of quanta is rounded like the root, where a point of the grid
-- is `parts` of the units that the root is counted in.
use Rattle.std.proofs.Common.{◌≡◌, ℕ, ◌+◌, ◌-◌, ◌*◌, ◌/◌, ◌%◌, ◌^◌, ◌<◌, ◌≤◌, Bool, true, false, not, ◌&&◌, ◌||◌, eqb}
use Rattle.std.proofs.Common.{ltb, leb, cond, if◌then◌else◌, sym, ap, ◌∙◌, ⊎_elim, arith}
use Rattle.std.proofs.lemmas.Bool.{cases_lt, eq-eqb, ne_eqb, lt-ltb, le-ltb, le-leb, lt-leb, leb-false, ltb-true}
use Rattle.apfloat_model.specs.declared.kinds.Round.{Round}
use Rattle.apfloat_model.specs.formats.{Format.Format, Format.smallest_normalized, Format.largest, Datum.Datum}
use Rattle.apfloat_model.specs.rounding.{Grid.IsBelow, Grid.IsAbove, Rounding.takes_above}
use Rattle.apfloat_model.specs.rounding.Rounding.{IsPick, IsDelivered, is_tiny, rounds_below_normal, delivered_status}
use Rattle.apfloat_model.specs.rounding.Rounding.{raises_overflow, ok_bits, overflow_bit, underflow_bit, inexact_bit}
use Rattle.apfloat_model.specs.arithmetic.Roots.{square_of, IsBelowRoot, IsAboveRoot, IsRootPick}
use Rattle.apfloat_model.specs.arithmetic.Roots.{root_rounds_below_normal, is_tiny_root, root_status, IsDeliveredRoot}
use Rattle.apfloat_model.proofs.rounding.Picks.{takes_less, takes_half, takes_more}
use Rattle.apfloat_model.proofs.arithmetic.RootSides.{AgreesWithRoot, coarser}
use Rattle.apfloat_model.proofs.general.Choices.{by_order, where_open}

-- numbers in the same order as two others pass the same tests
same_tests : (a b c d : ℕ) → (c < d → a < b) → (c ≡ d → a ≡ b) → (d < c → b < a)
    → (eqb a b ≡ eqb c d) × (ltb b a ≡ ltb d c) × (leb b a ≡ leb d c)
same_tests a b c d less same more =
    by_order ((eqb a b ≡ eqb c d) × (ltb b a ≡ ltb d c) × (leb b a ≡ leb d c)) c d
    (λ q.
    let k = less q in (
      ne_eqb a b (λ e. omega (arith, k, e)) ∙ sym (ne_eqb c d (λ e. omega (arith, q, e))),
      le-ltb b a (omega (arith, k)) ∙ sym (le-ltb d c (omega (arith, q))),
      lt-leb b a k ∙ sym (lt-leb d c q),
    ))
    (λ q.
    let k = same q in (
      eq-eqb a b k ∙ sym (eq-eqb c d q),
      le-ltb b a (omega (arith, k)) ∙ sym (le-ltb d c (omega (arith, q))),
      le-leb b a (omega (arith, k)) ∙ sym (le-leb d c (omega (arith, q))),
    ))
    (λ q.
    let k = more q in (
      ne_eqb a b (λ e. omega (arith, k, e)) ∙ sym (ne_eqb c d (λ e. omega (arith, q, e))),
      lt-ltb b a k ∙ sym (lt-ltb d c q),
      le-leb b a (omega (arith, k)) ∙ sym (le-leb d c (omega (arith, q))),
    ))

-- a fraction that agrees with the root at halves
module _ (square parts amount units : ℕ) (halves : AgreesWithRoot square 2 amount units) where
  whole : AgreesWithRoot square 1 amount units
  whole = coarser square 1 2 amount units (omega arith) halves

  point_less : (n : ℕ) → square_of n parts < square → n * (units * parts) < amount
  point_less n h = let k = whole.less (n * parts) (omega (arith, h)) in omega (arith, k)

  point_same : (n : ℕ) → square_of n parts ≡ square → n * (units * parts) ≡ amount
  point_same n h = let k = whole.same (n * parts) (omega (arith, h)) in omega (arith, k)

  point_more : (n : ℕ) → square < square_of n parts → amount < n * (units * parts)
  point_more n h = let k = whole.more (n * parts) (omega (arith, h)) in omega (arith, k)

  -- the converse, at points
  not_above : (n : ℕ) → n * (units * parts) ≤ amount → square_of n parts ≤ square
  not_above n h =
      ⊎_elim (λ (q : square < square_of n parts). let k = point_more n q in absurd (omega (arith, k, h))) (λ q. q)
      (cases_lt square (square_of n parts))

  not_below : (n : ℕ) → amount ≤ n * (units * parts) → square ≤ square_of n parts
  not_below n h =
      ⊎_elim (λ (q : square_of n parts < square). let k = point_less n q in absurd (omega (arith, k, h))) (λ q. q)
      (cases_lt (square_of n parts) square)

  at_most : (n : ℕ) → square_of n parts ≤ square → n * (units * parts) ≤ amount
  at_most n h =
      ⊎_elim (λ (q : amount < n * (units * parts)). let k = not_below n (omega (arith, q)) in
      let e = point_same n (omega (arith, k, h)) in absurd (omega (arith, e, q))) (λ q. q)
      (cases_lt amount (n * (units * parts)))

  at_least : (n : ℕ) → square ≤ square_of n parts → amount ≤ n * (units * parts)
  at_least n h =
      ⊎_elim (λ (q : n * (units * parts) < amount). let k = not_above n (omega (arith, q)) in
      let e = point_same n (omega (arith, k, h)) in absurd (omega (arith, e, q))) (λ q. q)
      (cases_lt (n * (units * parts)) amount)

  -- the neighbours of the fraction are those of the root
  pub below_root : (precision point : ℕ) → IsBelow precision point amount (units * parts)
      → IsBelowRoot precision point square parts
  below_root precision point b = record {
    on_grid = b.on_grid;
    not_above = not_above point b.not_above;
    greatest = λ other g l. b.greatest other g (at_most other l);
  }

  pub above_root : (precision point : ℕ) → IsAbove precision point amount (units * parts)
      → IsAboveRoot precision point square parts
  above_root precision point b = record {
    on_grid = b.on_grid;
    not_below = not_below point b.not_below;
    least = λ other g l. b.least other g (at_least other l);
  }

  -- the mode picks the same of two neighbours for the fraction and for the root
  pub takes_same : (mode : Round) (below above : ℕ) (odd : Bool) → below * (units * parts) ≤ amount
      → amount ≤ above * (units * parts)
      → takes_above mode false (amount - below * (units * parts)) (above * (units * parts) - amount) odd
      ≡ takes_above mode false (4 * square) (square_of (below + above) parts) odd
  takes_same mode below above odd l h =
      by_order (takes_above mode false (amount - below * (units * parts)) (above * (units * parts) - amount) odd
      ≡ takes_above mode false (4 * square) (square_of (below + above) parts) odd)
      (square_of (below + above) parts) (4 * square)
      (λ q.
      let k : (below + above) * parts * units < amount * 2 =
      halves.less ((below + above) * parts) (omega (arith, q)) in
      takes_more mode false odd _ _ (omega (arith, k, l, h)) ∙ sym (takes_more mode false odd _ _ q))
      (λ q.
      let k : (below + above) * parts * units ≡ amount * 2 =
      halves.same ((below + above) * parts) (omega (arith, q)) in
      takes_half mode false odd _ _ (omega (arith, k, l, h)) ∙ sym (takes_half mode false odd _ _ (omega (arith, q))))
      (λ q.
      let k : amount * 2 < (below + above) * parts * units =
      halves.more ((below + above) * parts) (omega (arith, q)) in
      takes_less mode false odd _ _ (omega (arith, k, l, h)) ∙ sym (takes_less mode false odd _ _ q))

  -- the pick for the fraction is the pick for the root
  pub root_pick : (precision : ℕ) (mode : Round) (pick : ℕ) → IsPick precision mode false amount (units * parts) pick
      → IsRootPick precision mode square parts pick
  root_pick precision mode pick p = record {
    below = p.below;
    above = p.above;
    is_below = below_root precision p.below p.is_below;
    is_above = above_root precision p.above p.is_above;
    is = p.is ∙ ap (λ (b : Bool). cond b p.above p.below)
        (takes_same mode p.below p.above (eqb (p.below / (p.above - p.below) % 2) 1) p.is_below.not_above
        p.is_above.not_below);
  }

  -- a point compares with the fraction as its square does with that of the root
  same_order : (n : ℕ) → (eqb (n * (units * parts)) amount ≡ eqb (square_of n parts) square)
      × (ltb amount (n * (units * parts)) ≡ ltb square (square_of n parts))
      × (leb amount (n * (units * parts)) ≡ leb square (square_of n parts))
  same_order n = same_tests (n * (units * parts)) amount (square_of n parts) square (point_less n) (point_same n)
      (point_more n)

-- twice the fraction agrees with twice the root at halves
pub doubled : (square amount parts : ℕ) → AgreesWithRoot square 4 amount parts
    → AgreesWithRoot (4 * square) 2 (2 * amount) parts
doubled square amount parts a = record {
  some = a.some;
  less = λ n h. let k = a.less n (omega (arith, h)) in omega (arith, k);
  same = λ n h. let k = a.same n (omega (arith, h)) in omega (arith, k);
  more = λ n h. let k = a.more n (omega (arith, h)) in omega (arith, k);
}

-- a fraction that agrees with the root at quarters
module _ (square parts amount units : ℕ) (agrees : AgreesWithRoot square 4 amount units) where
  halves_of : AgreesWithRoot square 2 amount units
  halves_of = coarser square 2 2 amount units (omega arith) agrees

  twice : AgreesWithRoot (4 * square) 2 (2 * amount) units
  twice = doubled square amount units agrees

  below_normal_same : (precision : ℕ) (mode : Round) → rounds_below_normal precision mode false amount (units * parts)
      ≡ root_rounds_below_normal precision mode square parts
  below_normal_same precision mode =
      let last : ℕ = 2 ^ precision - 1 in
      let next : ℕ = 2 ^ precision in
      let t : Bool = takes_above mode false (2 * amount - last * (units * parts)) (next * (units * parts) - 2 * amount)
      true in
      let u : Bool = takes_above mode false (4 * (4 * square)) (square_of (last + next) parts) true in
      where_open (leb (2 * amount) (last * (units * parts))) (ltb (2 * amount) (next * (units * parts))) t u
      (λ x y.
      let a : last * (units * parts) < 2 * amount = leb-false (2 * amount) (last * (units * parts)) x in
      takes_same (4 * square) parts (2 * amount) units twice mode last next true (omega (arith, a))
      (omega (arith, ltb-true (2 * amount) (next * (units * parts)) y))) ∙
      ap (λ (x : Bool). x || (ltb (2 * amount) (next * (units * parts)) && not u))
      (same_order (4 * square) parts (2 * amount) units twice last).2 ∙
      ap (λ (y : Bool). leb (4 * square) (square_of last parts) || (y && not u))
      (same_order (4 * square) parts (2 * amount) units twice next).1

  pub tiny_same : (f : Format) (mode : Round) (pick : ℕ)
      → is_tiny f mode false amount (units * parts) pick ≡ is_tiny_root f mode square parts pick
  tiny_same f mode pick =
      ap (λ (b : Bool). if f.tiny_before_rounding then b
      else (if f.ieee_flags then rounds_below_normal f.precision mode false amount (units * parts)
      else ltb pick (smallest_normalized f))) (same_order square parts amount units halves_of (smallest_normalized f)).1
      ∙ ap (λ (b : Bool). if f.tiny_before_rounding then ltb square (square_of (smallest_normalized f) parts)
      else (if f.ieee_flags then b else ltb pick (smallest_normalized f))) (below_normal_same f.precision mode)

  pub status_same : (f : Format) (mode : Round) (pick : ℕ)
      → delivered_status f mode false amount (units * parts) pick ≡ root_status f mode square parts pick
  status_same f mode pick =
      ap (λ (b : Bool). if ltb (largest f) pick
      then (if raises_overflow f mode false then overflow_bit + inexact_bit else inexact_bit) else (if b then ok_bits
      else (if is_tiny f mode false amount (units * parts) pick then underflow_bit + inexact_bit else inexact_bit)))
      (same_order square parts amount units halves_of pick).0 ∙ ap (λ (b : Bool). if ltb (largest f) pick
      then (if raises_overflow f mode false then overflow_bit + inexact_bit else inexact_bit)
      else (if eqb (square_of pick parts) square then ok_bits
      else (if b then underflow_bit + inexact_bit else inexact_bit))) (tiny_same f mode pick)

  -- what is delivered for the fraction is delivered for the root
  pub root_delivered : (f : Format) (mode : Round) (value : Datum) (status : ℕ)
      → IsDelivered f mode false amount (units * parts) value status → IsDeliveredRoot f mode square parts value status
  root_delivered f mode value status d = record {
    pick = d.pick;
    is_pick = root_pick square parts amount units halves_of f.precision mode d.pick d.is_pick;
    value_is = d.value_is;
    status_is = d.status_is ∙ status_same f mode d.pick;
  }
