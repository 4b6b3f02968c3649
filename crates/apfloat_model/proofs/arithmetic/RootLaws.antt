-- Laws of square roots: the roots of squares, and that no root is halfway between two neighbours.
use Rattle.std.proofs.Common.{◌≡◌, ℕ, ◌+◌, ◌-◌, ◌*◌, ◌/◌, ◌%◌, ◌^◌, ◌<◌, ◌≤◌, ◌⊎◌, Bool, true, false, not, ◌&&◌, ◌||◌}
use Rattle.std.proofs.Common.{ltb, leb, eqb, cond, if◌then◌else◌, sym, ap, ◌∙◌, subst, ⊎_elim, inl, inr, lit<, arith}
use Rattle.std.proofs.Math.Nat.{mul-le-mul_left, le_of_mul-le-mul_right, pow-le-pow_right}
use Rattle.std.proofs.lemmas.{Nat.pow_pos, Nat.pow-add, Bool.cases_lt}
use Rattle.apfloat_model.specs.{declared.kinds.Round.TheVariants.NearestTiesToAway, formats.Members.IsMember}
use Rattle.apfloat_model.specs.{formats.Datum.finite, formats.Datum.infinite, formats.Datum.nan, rounding.Grid.IsOnGrid}
use Rattle.apfloat_model.specs.declared.kinds.Round.{Round, TheVariants.NearestTiesToEven}
use Rattle.apfloat_model.specs.formats.{Format.Format, Format.smallest_normalized, Format.largest, Datum.Datum}
use Rattle.apfloat_model.specs.rounding.{Rounding.raises_overflow, Enclosure.IsEnclosed}
use Rattle.apfloat_model.specs.rounding.Rounding.{takes_above, ok_bits, overflow_bit, underflow_bit, inexact_bit}
use Rattle.apfloat_model.specs.rounding.Outcome.{Outcome, rooted, exactly, invalid, Yields}
use Rattle.apfloat_model.specs.arithmetic.Roots.{square_of, IsBelowRoot, IsAboveRoot, root_between, IsRootPick}
use Rattle.apfloat_model.specs.arithmetic.Roots.{root_rounds_below_normal, IsDeliveredRoot, IsRoot}
use Rattle.apfloat_model.proofs.general.{Choices.either, Powers.two_pos, Powers.twice_power, Powers.twice_half}
use Rattle.apfloat_model.proofs.rounding.{NeighboursExist.enclosed_at, Picks.takes_less, Picks.takes_more}
use Rattle.apfloat_model.proofs.rounding.Neighbours.{below_is, above_is_same, above_is_next}
use Rattle.apfloat_model.proofs.arithmetic.{RootSides.agreeing, RootDeliveries.below_root, RootDeliveries.above_root}
use Rattle.apfloat_model.proofs.Once.{below_root_unique, above_root_unique}

-- divided by 1, the root is itself
pub square_whole : (n : ℕ) → square_of n 1 ≡ n * n
square_whole n = omega arith

-- ---- no root is halfway between two neighbours

-- the neighbours of a root: a significand at some place, and either the same or the next one
record HasNeighbours (half square : ℕ) (precision : ℕ) : Type 0 where
  significand : ℕ
  place : ℕ
  full : (place ≡ 0) ⊎ (half ≤ significand)
  is_below : IsBelowRoot precision (significand * 2 ^ place) square 1
  is_above : IsAboveRoot precision (significand * 2 ^ place) square 1
      ⊎ IsAboveRoot precision ((significand + 1) * 2 ^ place) square 1

neighbours : (precision half square : ℕ) → 2 ^ precision ≡ 2 * half → HasNeighbours half square precision
neighbours precision half square e =
    let g = agreeing square 2 (lit< tt) in
    let some : 0 < g.parts = g.agrees.some in
    let pieces : 0 < g.parts * 1 = omega (arith, some) in
    let r = enclosed_at precision half g.amount (g.parts * 1) pieces e in
    let c : ℕ = r.0 in
    let m : ℕ = g.amount / (g.parts * 1 * 2 ^ c) in
    let i : IsEnclosed precision half m c g.amount (g.parts * 1) = r.1 in
    record {
      significand = m;
      place = c;
      full = i.full;
      is_below = below_root square 1 g.amount g.parts g.agrees precision (m * 2 ^ c)
          (below_is precision half m c g.amount (g.parts * 1) i);
      is_above = ⊎_elim
          (λ (q : m * 2 ^ c * (g.parts * 1) < g.amount).
          inr (above_root square 1 g.amount g.parts g.agrees precision ((m + 1) * 2 ^ c)
          (above_is_next precision half m c g.amount (g.parts * 1) i q)))
          (λ (q : g.amount ≤ m * 2 ^ c * (g.parts * 1)).
          let f : m * 2 ^ c * (g.parts * 1) ≤ g.amount = i.from in
          inl (above_root square 1 g.amount g.parts g.agrees precision (m * 2 ^ c)
          (above_is_same precision half m c g.amount (g.parts * 1) pieces i (omega arith))))
          (cases_lt (m * 2 ^ c * (g.parts * 1)) g.amount);
    }

-- an odd square is not a multiple of a greater power of two
odd_square : (m s c k : ℕ) → (2 * m + 1) * (2 * m + 1) * 2 ^ c ≡ s * 2 ^ k → c < k → ⊥
odd_square m s c k e l =
    let w : c + (k - (c + 1) + 1) ≡ k = omega arith in
    let p : 2 ^ k ≡ 2 ^ c * 2 ^ (k - (c + 1) + 1) = ap (λ (x : ℕ). 2 ^ x) (sym w) ∙ pow-add 2 c (k - (c + 1) + 1) in
    let t : 2 ^ (k - (c + 1) + 1) ≡ 2 * 2 ^ (k - (c + 1)) = twice_power (k - (c + 1)) in
    let d : s * 2 ^ k ≡ s * (2 ^ c * (2 * 2 ^ (k - (c + 1)))) = ap (λ (x : ℕ). s * x) p ∙
    ap (λ (x : ℕ). s * (2 ^ c * x)) t in
    let f : (2 * m + 1) * (2 * m + 1) * 2 ^ c ≤ 2 * (s * 2 ^ (k - (c + 1))) * 2 ^ c = omega arith in
    let g : 2 * (s * 2 ^ (k - (c + 1))) * 2 ^ c ≤ (2 * m + 1) * (2 * m + 1) * 2 ^ c = omega arith in
    let a : (2 * m + 1) * (2 * m + 1) ≤ 2 * (s * 2 ^ (k - (c + 1))) = le_of_mul-le-mul_right f (pow_pos c) in
    let b : 2 * (s * 2 ^ (k - (c + 1))) ≤ (2 * m + 1) * (2 * m + 1) = le_of_mul-le-mul_right g (pow_pos c) in
    omega arith

-- an odd square with many digits is not a multiple of a power of two that is at most as great
long_square : (m s c k : ℕ) → (2 * m + 1) * (2 * m + 1) * 2 ^ c ≡ s * 2 ^ k → s ≤ 2 * m → k ≤ c → ⊥
long_square m s c k e h l =
    let p : 2 ^ k ≤ 2 ^ c = pow-le-pow_right two_pos l in
    let a : s * 2 ^ k ≤ s * 2 ^ c = mul-le-mul_left s p in
    let b : (2 * m + 1) * (2 * m + 1) * 2 ^ c ≤ s * 2 ^ c = omega arith in
    let d : (2 * m + 1) * (2 * m + 1) ≤ s = le_of_mul-le-mul_right b (pow_pos c) in
    omega arith

-- the square of a midpoint is not the square of the root of a number on the grid
midpoint_apart : (half m c s k : ℕ) → (c ≡ 0) ⊎ (half ≤ m) → s < 2 * half
    → (m * 2 ^ c + (m + 1) * 2 ^ c) * (m * 2 ^ c + (m + 1) * 2 ^ c) ≡ 4 * (s * 2 ^ k) → ⊥
midpoint_apart half m c s k f h e =
    let p : 2 ^ (c + c) ≡ 2 ^ c * 2 ^ c = pow-add 2 c c in
    let q : 2 ^ (k + 2) ≡ 2 ^ k * 2 ^ 2 = pow-add 2 k 2 in
    let u : (2 * m + 1) * (2 * m + 1) * 2 ^ (c + c) ≡ (2 * m + 1) * (2 * m + 1) * (2 ^ c * 2 ^ c) =
    ap (λ (x : ℕ). (2 * m + 1) * (2 * m + 1) * x) p in
    let v : s * 2 ^ (k + 2) ≡ s * (2 ^ k * 2 ^ 2) = ap (λ (x : ℕ). s * x) q in
    let d : (2 * m + 1) * (2 * m + 1) * 2 ^ (c + c) ≡ s * 2 ^ (k + 2) = omega arith in
    ⊎_elim (λ (l : c + c < k + 2). odd_square m s (c + c) (k + 2) d l)
    (λ (l : k + 2 ≤ c + c).
    ⊎_elim (λ (z : c ≡ 0). absurd (omega arith))
    (λ (g : half ≤ m). long_square m s (c + c) (k + 2) d (omega arith) l) f)
    (cases_lt (c + c) (k + 2))

-- away from the midpoint, both modes to nearest take the same neighbour
both_nearest : (x y : ℕ) (odd : Bool) → (x ≡ y → ⊥)
    → takes_above NearestTiesToEven false x y odd ≡ takes_above NearestTiesToAway false x y odd
both_nearest x y odd n =
    ⊎_elim
    (λ (l : x < y).
    takes_less NearestTiesToEven false odd x y l ∙ sym (takes_less NearestTiesToAway false odd x y l))
    (λ (l : y ≤ x).
    let k : y < x = omega (arith, n) in
    takes_more NearestTiesToEven false odd x y k ∙ sym (takes_more NearestTiesToAway false odd x y k))
    (cases_lt x y)

-- if the root is not halfway between its neighbours, both modes to nearest pick the same
same_between : (below above square : ℕ) → (below ≡ above) ⊎ (square_of (below + above) 1 ≡ 4 * square → ⊥)
    → root_between NearestTiesToEven below above square 1 ≡ root_between NearestTiesToAway below above square 1
same_between below above square (inl e) = either _ above below (sym e) ∙ sym (either _ above below (sym e))
same_between below above square (inr n) =
    ap (λ (t : Bool). cond t above below)
    (both_nearest (4 * square) (square_of (below + above) 1) (eqb (below / (above - below) % 2) 1) (λ e. n (sym e)))

-- the root of a number on the grid is not halfway between its neighbours
apart : (precision half s k : ℕ) → 2 ^ precision ≡ 2 * half → s < 2 ^ precision
    → (pick : ℕ) → (x : IsRootPick precision NearestTiesToEven (s * 2 ^ k) 1 pick)
    → (x.below ≡ x.above) ⊎ (square_of (x.below + x.above) 1 ≡ 4 * (s * 2 ^ k) → ⊥)
apart precision half s k e l pick x =
    let n = neighbours precision half (s * 2 ^ k) e in
    let b : x.below ≡ n.significand * 2 ^ n.place =
    below_root_unique precision x.below _ (s * 2 ^ k) 1 x.is_below n.is_below in
    ⊎_elim
    (λ (h : IsAboveRoot precision (n.significand * 2 ^ n.place) (s * 2 ^ k) 1).
    inl (b ∙ sym (above_root_unique precision x.above _ (s * 2 ^ k) 1 x.is_above h)))
    (λ (h : IsAboveRoot precision ((n.significand + 1) * 2 ^ n.place) (s * 2 ^ k) 1).
    let a : x.above ≡ (n.significand + 1) * 2 ^ n.place =
    above_root_unique precision x.above _ (s * 2 ^ k) 1 x.is_above h in
    let t : x.below + x.above ≡ n.significand * 2 ^ n.place + (n.significand + 1) * 2 ^ n.place = omega arith in
    inr (λ d. midpoint_apart half n.significand n.place s k n.full (omega arith)
    (ap (λ (z : ℕ). z * z) (sym t) ∙ sym (square_whole (x.below + x.above)) ∙ d)))
    n.is_above

-- both modes to nearest pick the same neighbour of the root of a number on the grid
pub no_tie : (precision s k pick : ℕ) → 0 < precision → s < 2 ^ precision
    → IsRootPick precision NearestTiesToEven (s * 2 ^ k) 1 pick
    → IsRootPick precision NearestTiesToAway (s * 2 ^ k) 1 pick
no_tie precision s k pick p l x = record {
  below = x.below;
  above = x.above;
  is_below = x.is_below;
  is_above = x.is_above;
  is = x.is ∙ same_between x.below x.above (s * 2 ^ k)
      (apart precision (2 ^ (precision - 1)) s k (sym (twice_half precision p)) l pick x);
}

-- sixteen times a number is not the square of an odd one
odd_apart : (w half square : ℕ) → 0 < half → w ≡ 2 * half → 4 * (4 * square) ≡ square_of (w - 1 + w) 1 → ⊥
odd_apart w half square p d e =
    let v : ℕ = w - 1 + w in
    let a : v + 1 ≡ 4 * half = omega arith in
    let b : (v + 1) * (v + 1) ≡ 4 * half * (4 * half) = ap (λ (x : ℕ). x * x) a in
    let c : 4 * (4 * square) ≡ v * v = e ∙ square_whole v in
    omega arith

-- both modes to nearest agree on whether the root, rounded with an unbounded exponent, is below the smallest normalized
-- number
below_normal_agree : (precision square : ℕ) → 0 < precision
    → root_rounds_below_normal precision NearestTiesToEven square 1
    ≡ root_rounds_below_normal precision NearestTiesToAway square 1
below_normal_agree precision square p =
    let w : ℕ = 2 ^ precision in
    ap (λ (b : Bool). leb (4 * square) (square_of (w - 1) 1) || (ltb (4 * square) (square_of w 1) && not b))
    (both_nearest (4 * (4 * square)) (square_of (w - 1 + w) 1) true
    (odd_apart w (2 ^ (precision - 1)) square (pow_pos (precision - 1)) (sym (twice_half precision p))))

-- both modes to nearest deliver the same value and status for the root
pub nearest_agree : (format : Format) (quanta : ℕ) (value : Datum) (status : ℕ) → 0 < format.precision
    → IsOnGrid format.precision quanta
    → IsDeliveredRoot format NearestTiesToEven (quanta * 2 ^ format.scale) 1 value status
    → IsDeliveredRoot format NearestTiesToAway (quanta * 2 ^ format.scale) 1 value status
nearest_agree format quanta value status p g d =
    let w : 2 ^ (g.place + format.scale) ≡ 2 ^ g.place * 2 ^ format.scale = pow-add 2 g.place format.scale in
    let q : quanta * 2 ^ format.scale ≡ g.significand * 2 ^ g.place * 2 ^ format.scale =
    ap (λ (x : ℕ). x * 2 ^ format.scale) g.is in
    let u : g.significand * 2 ^ (g.place + format.scale) ≡ g.significand * (2 ^ g.place * 2 ^ format.scale) =
    ap (λ (x : ℕ). g.significand * x) w in
    let e : g.significand * 2 ^ (g.place + format.scale) ≡ quanta * 2 ^ format.scale = omega arith in
    let x : IsRootPick format.precision NearestTiesToEven (g.significand * 2 ^ (g.place + format.scale)) 1 d.pick =
    subst (λ (z : ℕ). IsRootPick format.precision NearestTiesToEven z 1 d.pick) (sym e) d.is_pick in
    record {
      pick = d.pick;
      is_pick = subst (λ (z : ℕ). IsRootPick format.precision NearestTiesToAway z 1 d.pick) e
          (no_tie format.precision g.significand (g.place + format.scale) d.pick p g.fits x);
      value_is = d.value_is;
      status_is = d.status_is ∙ ap (λ (b : Bool). if ltb (largest format) d.pick
          then (if raises_overflow format NearestTiesToEven false then overflow_bit + inexact_bit else inexact_bit)
          else (if eqb (square_of d.pick 1) (quanta * 2 ^ format.scale) then ok_bits
          else (if (if format.tiny_before_rounding
          then ltb (quanta * 2 ^ format.scale) (square_of (smallest_normalized format) 1)
          else (if format.ieee_flags then b else ltb d.pick (smallest_normalized format)))
          then underflow_bit + inexact_bit else inexact_bit)))
          (below_normal_agree format.precision (quanta * 2 ^ format.scale) p);
    }

-- what holds of each of two outcomes in another mode holds of the one that a test chooses
either_mode : (format : Format) (mode other : Round) (test : Bool) (one two : Outcome) (value : Datum) (status : ℕ)
    → (Yields format mode one value status → Yields format other one value status)
    → (Yields format mode two value status → Yields format other two value status)
    → Yields format mode (if test then one else two) value status
    → Yields format other (if test then one else two) value status
either_mode format mode other true one two v s f g h = f h
either_mode format mode other false one two v s f g h = g h

-- both modes to nearest give the same root of each value of a format
pub root_nearest : (format : Format) (x value : Datum) (status : ℕ) → 0 < format.precision → IsMember format x
    → IsRoot format NearestTiesToEven x value status → IsRoot format NearestTiesToAway x value status
root_nearest format (nan b s) value status p member h = h
root_nearest format (infinite true) value status p member h = h
root_nearest format (infinite false) value status p member h = h
root_nearest format (finite true n) value status p member h =
    either_mode format NearestTiesToEven NearestTiesToAway (eqb n 0) (exactly (finite true 0)) (invalid format) value
    status (λ d. d) (λ d. d) h
root_nearest format (finite false n) value status p member h =
    either_mode format NearestTiesToEven NearestTiesToAway (eqb n 0) (exactly (finite false 0))
    (rooted (n * 2 ^ format.scale) 1) value status (λ d. d)
    (λ d. nearest_agree format n value status p member.on_grid d) h
