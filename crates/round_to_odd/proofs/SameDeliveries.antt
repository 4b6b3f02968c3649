-- Two magnitudes that compare alike with the points of a format, and with its half and quarter quanta where it judges
-- tininess by them, are rounded alike.
use Rattle.std.proofs.Common.{◌≡◌, ℕ, ◌+◌, ◌-◌, ◌*◌, ◌/◌, ◌%◌, ◌^◌, ◌<◌, ◌≤◌, Bool, true, false, not, ◌&&◌, ◌||◌, eqb}
use Rattle.std.proofs.Common.{ltb, leb, cond, if◌then◌else◌, sym, refl, ap, ◌∙◌, ⊎_elim, arith}
use Rattle.std.proofs.lemmas.Bool.{cases_lt, eq-eqb, ne_eqb, lt-ltb, le-ltb, le-leb, lt-leb, leb-false, ltb-true}
use Rattle.std.proofs.lemmas.Nat.{pow_pos}
use Rattle.apfloat_model.specs.{declared.kinds.Round.Round, formats.Format.Format, formats.Format.smallest_normalized}
use Rattle.apfloat_model.specs.{formats.Format.largest, formats.Datum.Datum, rounding.Grid.IsOnGrid}
use Rattle.apfloat_model.specs.rounding.{Grid.IsBelow, Grid.IsAbove, Standing.reads_halves, Rounding.takes_above}
use Rattle.apfloat_model.specs.rounding.Rounding.{IsPick, IsDelivered, is_tiny, rounds_below_normal, delivered_status}
use Rattle.apfloat_model.specs.rounding.Rounding.{raises_overflow, ok_bits, overflow_bit, underflow_bit, inexact_bit}
use Rattle.apfloat_model.proofs.general.{Powers.twice_power, Choices.where_open, Choices.by_order}
use Rattle.apfloat_model.proofs.rounding.{FarMagnitudes.power_on_grid, ModesAgree.pick_on_grid}
use Rattle.apfloat_model.proofs.rounding.Picks.{takes_less, takes_half, takes_more}
use Rattle.round_to_odd.proofs.{OddPoints.twice_on_grid, OddPoints.wider_grid, OddPoints.sum_on_grid, Sides.SameSides}

-- two magnitudes on the same side of the midpoint take the same neighbour
pub takes_alike : (mode : Round) (negative odd : Bool) (low high x b y d : ℕ) → low * b ≤ x → x ≤ high * b
    → low * d ≤ y → y ≤ high * d → ((low + high) * b < 2 * x → (low + high) * d < 2 * y)
    → ((low + high) * b ≡ 2 * x → (low + high) * d ≡ 2 * y) → (2 * x < (low + high) * b → 2 * y < (low + high) * d)
    → takes_above mode negative (x - low * b) (high * b - x) odd
    ≡ takes_above mode negative (y - low * d) (high * d - y) odd
takes_alike mode negative odd low high x b y d h₁ h₂ h₃ h₄ less same more =
    by_order (takes_above mode negative (x - low * b) (high * b - x) odd
    ≡ takes_above mode negative (y - low * d) (high * d - y) odd) ((low + high) * b) (2 * x)
    (λ q. let k = less q in
    takes_more mode negative odd _ _ (omega (arith, q, h₁, h₂))
    ∙ sym (takes_more mode negative odd _ _ (omega (arith, k, h₃, h₄))))
    (λ q. let k = same q in
    takes_half mode negative odd _ _ (omega (arith, q, h₁, h₂))
    ∙ sym (takes_half mode negative odd _ _ (omega (arith, k, h₃, h₄))))
    (λ q. let k = more q in
    takes_less mode negative odd _ _ (omega (arith, q, h₁, h₂))
    ∙ sym (takes_less mode negative odd _ _ (omega (arith, k, h₃, h₄))))

-- two magnitudes that compare alike at halves
module _ (precision a b c d : ℕ) (halves : SameSides (precision + 1) 2 a b c d) where
  point_less : (n : ℕ) → IsOnGrid precision n → n * b < a → n * d < c
  point_less n g h =
      let g' = wider_grid precision (precision + 1) (2 * n) (omega arith) (twice_on_grid precision n g) in
      let k = halves.less (2 * n) g' (omega (arith, h)) in omega (arith, k)

  point_same : (n : ℕ) → IsOnGrid precision n → n * b ≡ a → n * d ≡ c
  point_same n g h =
      let g' = wider_grid precision (precision + 1) (2 * n) (omega arith) (twice_on_grid precision n g) in
      let k = halves.same (2 * n) g' (omega (arith, h)) in omega (arith, k)

  point_more : (n : ℕ) → IsOnGrid precision n → a < n * b → c < n * d
  point_more n g h =
      let g' = wider_grid precision (precision + 1) (2 * n) (omega arith) (twice_on_grid precision n g) in
      let k = halves.more (2 * n) g' (omega (arith, h)) in omega (arith, k)

  -- the neighbours are the same
  below_same : (point : ℕ) → IsBelow precision point c d → IsBelow precision point a b
  below_same point x = record {
    on_grid = x.on_grid;
    not_above =
        ⊎_elim (λ (q : a < point * b). let k = point_more point x.on_grid q in absurd (omega (arith, k, x.not_above)))
        (λ (q : point * b ≤ a). q) (cases_lt a (point * b));
    greatest = λ other g l.
        x.greatest other g
        (⊎_elim (λ (q : other * b < a). let k = point_less other g q in omega (arith, k))
        (λ (q : a ≤ other * b). let k = point_same other g (omega (arith, q, l)) in omega (arith, k))
        (cases_lt (other * b) a));
  }

  above_same : (point : ℕ) → IsAbove precision point c d → IsAbove precision point a b
  above_same point x = record {
    on_grid = x.on_grid;
    not_below =
        ⊎_elim (λ (q : point * b < a). let k = point_less point x.on_grid q in absurd (omega (arith, k, x.not_below)))
        (λ (q : a ≤ point * b). q) (cases_lt (point * b) a);
    least = λ other g l.
        x.least other g
        (⊎_elim (λ (q : a < other * b). let k = point_more other g q in omega (arith, k))
        (λ (q : other * b ≤ a). let k = point_same other g (omega (arith, q, l)) in omega (arith, k))
        (cases_lt a (other * b)));
  }

  -- so is the pick
  pub pick_same : (mode : Round) (negative : Bool) (pick : ℕ) → 0 < precision → 0 < d
      → IsPick precision mode negative c d pick → IsPick precision mode negative a b pick
  pick_same mode negative pick l p x =
      let below = below_same x.below x.is_below in
      let above = above_same x.above x.is_above in
      let g = sum_on_grid precision x.below x.above c d l p x.is_below x.is_above in
      record {
        below = x.below;
        above = x.above;
        is_below = below;
        is_above = above;
        is = x.is ∙
            ap (λ (t : Bool). cond t x.above x.below)
            (sym (takes_alike mode negative (eqb (x.below / (x.above - x.below) % 2) 1) x.below x.above a b c d
            below.not_above above.not_below x.is_below.not_above x.is_above.not_below
            (λ q. let k = halves.less (x.below + x.above) g (omega (arith, q)) in omega (arith, k))
            (λ q. let k = halves.same (x.below + x.above) g (omega (arith, q)) in omega (arith, k))
            (λ q. let k = halves.more (x.below + x.above) g (omega (arith, q)) in omega (arith, k))));
      }

  -- a point is the one magnitude exactly if it is the other
  pub exact_same : (n : ℕ) → IsOnGrid precision n → eqb (n * b) a ≡ eqb (n * d) c
  exact_same n g =
      by_order (eqb (n * b) a ≡ eqb (n * d) c) (n * b) a
      (λ q. let k = point_less n g q in
      ne_eqb (n * b) a (λ e. omega (arith, q, e)) ∙ sym (ne_eqb (n * d) c (λ e. omega (arith, k, e))))
      (λ q. eq-eqb (n * b) a q ∙ sym (eq-eqb (n * d) c (point_same n g q)))
      (λ q. let k = point_more n g q in
      ne_eqb (n * b) a (λ e. omega (arith, q, e)) ∙ sym (ne_eqb (n * d) c (λ e. omega (arith, k, e))))

  less_same : (n : ℕ) → IsOnGrid precision n → ltb a (n * b) ≡ ltb c (n * d)
  less_same n g =
      by_order (ltb a (n * b) ≡ ltb c (n * d)) (n * b) a
      (λ q. let k = point_less n g q in le-ltb a (n * b) (omega (arith, q)) ∙ sym (le-ltb c (n * d) (omega (arith, k))))
      (λ q. let k = point_same n g q in le-ltb a (n * b) (omega (arith, q)) ∙ sym (le-ltb c (n * d) (omega (arith, k))))
      (λ q. lt-ltb a (n * b) q ∙ sym (lt-ltb c (n * d) (point_more n g q)))

  -- twice a magnitude and a point, by a test that their order decides
  half_same : (test : ℕ → ℕ → Bool) (same : Bool) → ((x y : ℕ) → y < x → test x y ≡ false)
      → ((x y : ℕ) → x ≡ y → test x y ≡ same) → ((x y : ℕ) → x < y → test x y ≡ true)
      → (n : ℕ) → IsOnGrid (precision + 1) n → test (2 * a) (n * b) ≡ test (2 * c) (n * d)
  half_same test same above at below n g =
      by_order (test (2 * a) (n * b) ≡ test (2 * c) (n * d)) (n * b) (a * 2)
      (λ q. let k = halves.less n g q in
      above (2 * a) (n * b) (omega (arith, q)) ∙ sym (above (2 * c) (n * d) (omega (arith, k))))
      (λ q. let k = halves.same n g q in
      at (2 * a) (n * b) (omega (arith, q)) ∙ sym (at (2 * c) (n * d) (omega (arith, k))))
      (λ q. let k = halves.more n g q in
      below (2 * a) (n * b) (omega (arith, q)) ∙ sym (below (2 * c) (n * d) (omega (arith, k))))

  half_less_same : (n : ℕ) → IsOnGrid (precision + 1) n → ltb (2 * a) (n * b) ≡ ltb (2 * c) (n * d)
  half_less_same =
      half_same (λ x y. ltb x y) false (λ x y l. le-ltb x y (omega (arith, l))) (λ x y e. le-ltb x y (omega (arith, e)))
      (λ x y l. lt-ltb x y l)

  half_at_most_same : (n : ℕ) → IsOnGrid (precision + 1) n → leb (2 * a) (n * b) ≡ leb (2 * c) (n * d)
  half_at_most_same =
      half_same (λ x y. leb x y) true (λ x y l. lt-leb x y l) (λ x y e. le-leb x y (omega (arith, e)))
      (λ x y l. le-leb x y (omega (arith, l)))

-- a number below a power of two is on the grid of that many digits
few_on_grid : (digits n : ℕ) → n < 2 ^ digits → IsOnGrid digits n
few_on_grid digits n h = record { significand = n; place = 0; fits = h; is = omega arith }

-- whether they round to below the smallest normalized number is the same if they compare alike at quarters
below_normal_same : (precision a b c d : ℕ) (mode : Round) (negative : Bool) → SameSides (precision + 1) 2 a b c d
    → SameSides (precision + 1) 4 a b c d
    → rounds_below_normal precision mode negative a b ≡ rounds_below_normal precision mode negative c d
below_normal_same precision a b c d mode negative halves quarters =
    let last : ℕ = 2 ^ precision - 1 in
    let next : ℕ = 2 ^ precision in
    let p : 0 < next = pow_pos precision in
    let w : 2 ^ (precision + 1) ≡ 2 * next = twice_power precision in
    let g₃ : IsOnGrid (precision + 1) (last + next) = few_on_grid (precision + 1) (last + next) (omega (arith, p, w)) in
    let e₁ = half_at_most_same precision a b c d halves last (few_on_grid (precision + 1) last (omega (arith, p, w))) in
    let e₂ = half_less_same precision a b c d halves next (few_on_grid (precision + 1) next (omega (arith, p, w))) in
    let t : Bool = takes_above mode negative (2 * a - last * b) (next * b - 2 * a) true in
    let u : Bool = takes_above mode negative (2 * c - last * d) (next * d - 2 * c) true in
    where_open (leb (2 * a) (last * b)) (ltb (2 * a) (next * b)) t u
    (λ x y.
    let l₁ : last * b < 2 * a = leb-false (2 * a) (last * b) x in
    let l₂ : 2 * a < next * b = ltb-true (2 * a) (next * b) y in
    takes_alike mode negative true last next (2 * a) b (2 * c) d (omega (arith, l₁)) (omega (arith, l₂))
    (omega (arith, leb-false (2 * c) (last * d) (sym e₁ ∙ x))) (omega (arith, ltb-true (2 * c) (next * d) (sym e₂ ∙ y)))
    (λ q. let k = quarters.less (last + next) g₃ (omega (arith, q)) in omega (arith, k))
    (λ q. let k = quarters.same (last + next) g₃ (omega (arith, q)) in omega (arith, k))
    (λ q. let k = quarters.more (last + next) g₃ (omega (arith, q)) in omega (arith, k))) ∙
    ap (λ (x : Bool). x || (ltb (2 * a) (next * b) && not u)) e₁ ∙
    ap (λ (y : Bool). leb (2 * c) (last * d) || (y && not u)) e₂

-- of three rules of tininess, the one that is chosen agrees
by_rule : (before ieee x y z w r : Bool) → x ≡ y → ((ieee && not before) ≡ true → z ≡ w)
    → (if before then x else (if ieee then z else r)) ≡ (if before then y else (if ieee then w else r))
by_rule true ieee x y z w r e h = e
by_rule false true x y z w r e h = h refl
by_rule false false x y z w r e h = refl

-- two magnitudes that compare alike in a format
module _ (f : Format) (a b c d : ℕ) (halves : SameSides (f.precision + 1) 2 a b c d)
    (quarters : reads_halves f ≡ true → SameSides (f.precision + 1) 4 a b c d) (some : 0 < f.precision) where
  tiny_same : (mode : Round) (negative : Bool) (pick : ℕ)
      → is_tiny f mode negative a b pick ≡ is_tiny f mode negative c d pick
  tiny_same mode negative pick =
      by_rule f.tiny_before_rounding f.ieee_flags (ltb a (smallest_normalized f * b))
      (ltb c (smallest_normalized f * d)) (rounds_below_normal f.precision mode negative a b)
      (rounds_below_normal f.precision mode negative c d) (ltb pick (smallest_normalized f))
      (less_same f.precision a b c d halves (smallest_normalized f) (power_on_grid f.precision (f.precision - 1) some))
      (λ h. below_normal_same f.precision a b c d mode negative halves (quarters h))

  status_same : (mode : Round) (negative : Bool) (pick : ℕ) → IsOnGrid f.precision pick
      → delivered_status f mode negative a b pick ≡ delivered_status f mode negative c d pick
  status_same mode negative pick g =
      ap (λ (t : Bool). if ltb (largest f) pick
      then (if raises_overflow f mode negative then overflow_bit + inexact_bit else inexact_bit) else (if t then ok_bits
      else (if is_tiny f mode negative a b pick then underflow_bit + inexact_bit else inexact_bit)))
      (exact_same f.precision a b c d halves pick g) ∙ ap (λ (t : Bool). if ltb (largest f) pick
      then (if raises_overflow f mode negative then overflow_bit + inexact_bit else inexact_bit)
      else (if eqb (pick * d) c then ok_bits else (if t then underflow_bit + inexact_bit else inexact_bit)))
      (tiny_same mode negative pick)

  -- what is delivered for the one is delivered for the other
  pub same_delivered : (mode : Round) (negative : Bool) (value : Datum) (status : ℕ) → 0 < d
      → IsDelivered f mode negative c d value status → IsDelivered f mode negative a b value status
  same_delivered mode negative value status p x = record {
    pick = x.pick;
    is_pick = pick_same f.precision a b c d halves mode negative x.pick some p x.is_pick;
    value_is = x.value_is;
    status_is = x.status_is ∙
        sym (status_same mode negative x.pick (pick_on_grid f.precision mode negative c d x.pick x.is_pick));
  }
