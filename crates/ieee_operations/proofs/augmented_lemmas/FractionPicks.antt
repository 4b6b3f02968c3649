-- Picks of amount / parts quanta: from the pick to nearest with ties to even, halfway between two quanta, and past the
-- largest value.
use Rattle.std.proofs.Common.{◌≡◌, ℕ, zero, suc, ◌+◌, ◌-◌, ◌*◌, ◌/◌, ◌^◌, ◌<◌, ◌≤◌, ◌⊎◌, Bool, true, false, cond, sym}
use Rattle.std.proofs.Common.{refl, ap, ◌∙◌, inl, inr, ⊎_elim, arith}
use Rattle.std.proofs.Math.Nat.{mul-le-mul_right, le_of_mul-le-mul_right, lt_of_mul-lt-mul_right, pow-le-pow_right}
use Rattle.std.proofs.lemmas.{Bool.cases_lt, Nat.pow_pos, Nat.mul-le}
use Rattle.apfloat_model.specs.declared.kinds.Round.TheVariants.{NearestTiesToEven, TowardZero}
use Rattle.apfloat_model.specs.formats.Format.{Format, largest, greatest_significand}
use Rattle.apfloat_model.specs.rounding.{Enclosure.IsEnclosed, Rounding.takes_above, Rounding.IsPick}
use Rattle.apfloat_model.specs.rounding.Grid.{IsOnGrid, IsBelow, IsAbove}
use Rattle.apfloat_model.proofs.{general.Powers.two_pos, general.Powers.twice_half, rounding.Laws.pick_within}
use Rattle.apfloat_model.proofs.formats.Greatest.{greatest_fits, greatest_full}
use Rattle.apfloat_model.proofs.rounding.{NeighboursExist.enclosed_at, FarMagnitudes.largest_on_grid}
use Rattle.apfloat_model.proofs.rounding.Neighbours.{multiple_on_grid, next_on_grid, none_between, below_unique}
use Rattle.apfloat_model.proofs.rounding.Picks.{even_nearer, even_farther}
use Rattle.apfloat_pair_theory.proofs.numbers.Roundings.{apart}
use Rattle.apfloat_pair_theory.proofs.numbers.Signed.{coarse_multiple, grid_bound_at, on_grid_as}
use Rattle.ieee_operations.specs.augmented.TiesToZero.{nearer_between, IsTiesToZeroPick}
use Rattle.ieee_operations.proofs.augmented_lemmas.Multiples.{takes_low_by, takes_high_by}

-- the magnitude is not an integral number of quanta
pub record IsFractionPick (amount parts : ℕ) : Type 0 where
  pub not_whole : (whole : ℕ) → whole * parts ≡ amount → ⊥

-- the magnitude is halfway between that number of quanta and the next one
abbrev pub IsHalfPast : ℕ → ℕ → ℕ → Type 0
IsHalfPast low amount parts = 2 * amount ≡ (2 * low + 1) * parts

-- ---- the two neighbours

-- the neighbours of a fraction are on either side of it
pub above_fraction : (precision below amount parts : ℕ) → IsFractionPick amount parts
    → IsBelow precision below amount parts → below * parts < amount
above_fraction precision below amount parts n b = omega (arith, n.not_whole below, b.not_above)

pub below_fraction : (precision above amount parts : ℕ) → IsFractionPick amount parts
    → IsAbove precision above amount parts → amount < above * parts
below_fraction precision above amount parts n a = omega (arith, n.not_whole above, a.not_below)

-- A magnitude below 2 ^ (2 * precision - 1) quanta has neighbours that are at most 2 ^ (precision - 1) quanta apart.
unit_at_most : (precision half m c amount parts : ℕ) → 0 < precision → half ≡ 2 ^ (precision - 1)
    → IsEnclosed precision half m c amount parts → amount < 2 ^ precision * (2 ^ (precision - 1) * parts)
    → (c ≡ 0) ⊎ (half ≤ m) → 2 ^ c ≤ 2 ^ (precision - 1)
unit_at_most precision half m c amount parts p e i l (inl z) = pow-le-pow_right two_pos (omega (arith, z))
unit_at_most precision half m c amount parts p e i l (inr q) =
    ⊎_elim
    (λ (k : c < precision). pow-le-pow_right two_pos (omega (arith, k)))
    (λ (k : precision ≤ c).
    let w : 2 ^ precision ≤ 2 ^ c = pow-le-pow_right two_pos k in
    let v : half * 2 ^ precision ≤ m * 2 ^ c = mul-le half (2 ^ precision) m (2 ^ c) q w in
    let t : half * 2 ^ precision * parts ≤ m * 2 ^ c * parts = mul-le-mul_right parts v in
    let s : half * 2 ^ precision * parts ≡ 2 ^ (precision - 1) * 2 ^ precision * parts =
    ap (λ (x : ℕ). x * 2 ^ precision * parts) e in
    absurd (omega (arith, t, s, i.from, l)))
    (cases_lt c precision)

pub gap : (precision amount parts below above : ℕ) → 0 < precision → 0 < parts
    → amount < 2 ^ precision * (2 ^ (precision - 1) * parts) → IsBelow precision below amount parts
    → IsAbove precision above amount parts → above ≤ below + 2 ^ (precision - 1)
gap precision amount parts below above h p l b a =
    let e : 2 ^ precision ≡ 2 * 2 ^ (precision - 1) = sym (twice_half precision h) in
    let r = enclosed_at precision (2 ^ (precision - 1)) amount parts p e in
    let u : above ≤ (amount / (parts * 2 ^ r.0) + 1) * 2 ^ r.0 = a.least ((amount / (parts * 2 ^ r.0) + 1) * 2 ^ r.0)
    (next_on_grid precision (2 ^ (precision - 1)) (amount / (parts * 2 ^ r.0)) r.0 e r.1.fits)
    (omega (arith, r.1.to)) in
    let v : amount / (parts * 2 ^ r.0) * 2 ^ r.0 ≤ below = b.greatest (amount / (parts * 2 ^ r.0) * 2 ^ r.0)
    (multiple_on_grid precision (amount / (parts * 2 ^ r.0)) r.0 r.1.fits) r.1.from in
    let w = unit_at_most precision (2 ^ (precision - 1)) (amount / (parts * 2 ^ r.0)) r.0 amount parts h refl r.1 l
    r.1.full in
    omega (arith, u, v, w)

-- ---- even and odd

pub halves : (n : ℕ) → ((k : ℕ) × (n ≡ 2 * k)) ⊎ ((k : ℕ) × (n ≡ 2 * k + 1))
halves zero = inl (0, refl)
halves (suc n) =
    ⊎_elim
    (λ h. let e = h.1 in inr (h.0, omega (arith, e)))
    (λ h. let e = h.1 in inl (h.0 + 1, omega (arith, e)))
    (halves n)

-- a grid number with more digits than the precision is even
even_grid : (precision n : ℕ) → IsOnGrid precision n → 2 ^ precision ≤ n → (k : ℕ) × (n ≡ 2 * k)
even_grid precision n g l =
    ⊎_elim
    (λ (q : g.place < 1).
    let b = grid_bound_at precision n 0 g (omega (arith, q)) in
    absurd (omega (arith, b, l)))
    (λ (q : 1 ≤ g.place).
    let m = coarse_multiple precision n 1 g q in
    (m.times, omega (arith, m.is)))
    (cases_lt g.place 1)

-- twice a fraction that is an integral number of quanta is an odd one
pub odd_half : (amount parts k : ℕ) → IsFractionPick amount parts → 2 * amount ≡ k * parts
    → (i : ℕ) × IsHalfPast i amount parts
odd_half amount parts k n e =
    ⊎_elim
    (λ h.
    let w : k * parts ≡ 2 * h.0 * parts = ap (λ (x : ℕ). x * parts) h.1 in
    absurd (n.not_whole h.0 (omega (arith, e, w))))
    (λ h.
    let w : k * parts ≡ (2 * h.0 + 1) * parts = ap (λ (x : ℕ). x * parts) h.1 in
    (h.0, e ∙ w)) (halves k)

-- Two neighbours with a fraction halfway between them are one quantum apart.
pub tie_of_quanta : (precision below above amount parts : ℕ) → 0 < precision → 0 < parts → IsFractionPick amount parts
    → IsBelow precision below amount parts → IsAbove precision above amount parts
    → 2 * amount ≡ (below + above) * parts → above ≡ below + 1
tie_of_quanta precision below above amount parts h p n b a e =
    let hi = below_fraction precision above amount parts n a in
    let between : below * parts < above * parts = omega (arith, above_fraction precision below amount parts n b, hi) in
    let order : below < above = lt_of_mul-lt-mul_right parts between in
    let d : 2 ^ precision ≡ 2 * 2 ^ (precision - 1) = sym (twice_half precision h) in
    ⊎_elim
    (λ (q : below < 2 ^ precision).
    let g : IsOnGrid precision (below + 1) =
    on_grid_as (omega arith) (next_on_grid precision (2 ^ (precision - 1)) below 0 d q) in
    ⊎_elim
    (λ (k : (below + 1) * parts < amount).
    let w = b.greatest (below + 1) g (omega (arith, k)) in
    absurd (omega (arith, w)))
    (λ (k : amount ≤ (below + 1) * parts).
    omega (arith, a.least (below + 1) g k, order))
    (cases_lt ((below + 1) * parts) amount))
    (λ (q : 2 ^ precision ≤ below).
    let x = even_grid precision below b.on_grid q in
    let y = even_grid precision above a.on_grid (omega (arith, q, order)) in
    let x' : below * parts ≡ 2 * x.0 * parts = ap (λ (k : ℕ). k * parts) x.1 in
    let y' : above * parts ≡ 2 * y.0 * parts = ap (λ (k : ℕ). k * parts) y.1 in
    absurd (n.not_whole (x.0 + y.0) (omega (arith, e, x', y'))))
    (cases_lt below (2 ^ precision))

-- ---- from the pick to nearest, with ties to even

not_half_in : (negative odd above : Bool) (low high amount parts e : ℕ)
    → takes_above NearestTiesToEven negative (amount - low * parts) (high * parts - amount) odd ≡ above
    → low * parts ≤ amount → amount ≤ high * parts → e ≡ cond above high low
    → (2 * amount ≡ (e + low) * parts → ⊥) → e ≡ nearer_between low high amount parts
not_half_in negative odd true low high amount parts e t l h q n =
    let w = even_nearer negative odd (amount - low * parts) (high * parts - amount) t in
    let k : e * parts ≡ high * parts = ap (λ (x : ℕ). x * parts) q in
    ⊎_elim (λ (c : (low + high) * parts < 2 * amount). q ∙ sym (takes_high_by low high amount parts l h c))
    (λ (c : 2 * amount ≤ (low + high) * parts). absurd (n (omega (arith, w, c, k, l, h))))
    (cases_lt ((low + high) * parts) (2 * amount))
not_half_in negative odd false low high amount parts e t l h q n =
    let w = even_farther negative odd (amount - low * parts) (high * parts - amount) t in
    q ∙ sym (takes_low_by low high amount parts l h (omega (arith, w, l, h)))

-- unless it is halfway, the pick to even is that with ties toward zero
pub from_even_in : (precision : ℕ) (negative : Bool) (amount parts e : ℕ)
    → (x : IsPick precision NearestTiesToEven negative amount parts e) → (2 * amount ≡ (e + x.below) * parts → ⊥)
    → IsTiesToZeroPick precision amount parts e
from_even_in precision negative amount parts e x n = record {
  below = x.below;
  above = x.above;
  is_below = x.is_below;
  is_above = x.is_above;
  is = not_half_in negative _ _ x.below x.above amount parts e refl x.is_below.not_above x.is_above.not_below x.is n;
}

either_is : (test : Bool) (x y e : ℕ) → e ≡ cond test x y → (e ≡ x) ⊎ (e ≡ y)
either_is true x y e h = inl h
either_is false x y e h = inr h

-- a pick is one of the neighbours
pub pick_cases : (precision : ℕ) (negative : Bool) (amount parts e : ℕ)
    → (x : IsPick precision NearestTiesToEven negative amount parts e) → (e ≡ x.above) ⊎ (e ≡ x.below)
pick_cases precision negative amount parts e x = either_is _ x.above x.below e x.is

-- ---- halfway between two quanta

half_below : (precision amount parts i : ℕ) → 0 < parts → i < 2 ^ precision → IsHalfPast i amount parts
    → IsBelow precision i amount parts
half_below precision amount parts i p h e = record {
  on_grid = on_grid_as (omega arith) (multiple_on_grid precision i 0 h);
  not_above = omega (arith, e);
  greatest = λ other o l.
      ⊎_elim
      (λ (q : i < other).
      let k : (i + 1) * parts ≤ other * parts = mul-le-mul_right parts (omega (arith, q)) in
      absurd (omega (arith, k, l, e, p)))
      (λ (q : other ≤ i). q)
      (cases_lt i other);
}

half_above : (precision amount parts i : ℕ) → 0 < precision → 0 < parts → i < 2 ^ precision
    → IsHalfPast i amount parts → IsAbove precision (i + 1) amount parts
half_above precision amount parts i w p h e = record {
  on_grid = on_grid_as (omega arith)
      (next_on_grid precision (2 ^ (precision - 1)) i 0 (sym (twice_half precision w)) h);
  not_below = omega (arith, e);
  least = λ other o l.
      ⊎_elim
      (λ (q : i < other). omega (arith, q))
      (λ (q : other ≤ i).
      let k : other * parts ≤ i * parts = mul-le-mul_right parts q in
      absurd (omega (arith, k, l, e, p)))
      (cases_lt i other);
}

-- halfway between two quanta that are on the grid, the lower one is picked
pub half_pick : (precision amount parts i : ℕ) → 0 < precision → 0 < parts → i < 2 ^ precision
    → IsHalfPast i amount parts → IsTiesToZeroPick precision amount parts i
half_pick precision amount parts i w p h e = record {
  below = i;
  above = i + 1;
  is_below = half_below precision amount parts i p h e;
  is_above = half_above precision amount parts i w p h e;
  is = sym (takes_low_by i (i + 1) amount parts (omega (arith, e)) (omega (arith, e)) (omega (arith, e)));
}

-- and it is the pick toward zero
pub half_short : (precision : ℕ) (negative : Bool) (amount parts i t : ℕ) → 0 < parts → i < 2 ^ precision
    → IsHalfPast i amount parts → IsPick precision TowardZero negative amount parts t → t ≡ i
half_short precision negative amount parts i t p h e x =
    x.is ∙ below_unique precision x.below i amount parts x.is_below (half_below precision amount parts i p h e)

-- Half a quantum past the neighbour below, that neighbour is picked, however far the one above is.
pub low_pick : (precision low above amount parts : ℕ) → 0 < parts → IsBelow precision low amount parts
    → IsAbove precision above amount parts → IsHalfPast low amount parts → IsTiesToZeroPick precision amount parts low
low_pick precision low above amount parts p b a e =
    let q' : low * parts < above * parts = omega (arith, e, a.not_below, p) in
    let q : low < above = lt_of_mul-lt-mul_right parts q' in
    let k : (low + 1) * parts ≤ above * parts = mul-le-mul_right parts (omega (arith, q)) in
    record {
      below = low;
      above = above;
      is_below = b;
      is_above = a;
      is = sym (takes_low_by low above amount parts b.not_above a.not_below (omega (arith, e, k)));
    }

-- ---- what a head leaves of a fraction

-- the distance of a head from a magnitude, in parts of a quantum
abbrev pub distance : ℕ → ℕ → ℕ → ℕ
distance head amount parts = apart amount (head * parts)

-- it is not an integral number of quanta either
pub distance_fraction : (head amount parts : ℕ) → IsFractionPick amount parts
    → IsFractionPick (distance head amount parts) parts
distance_fraction head amount parts n = record {
  not_whole = λ k e. ⊎_elim (λ (q : amount < head * parts). fewer k (omega (arith, e, q)) q e)
      (λ (q : head * parts ≤ amount). n.not_whole (head + k) (omega (arith, e, q))) (cases_lt amount (head * parts));
} where
  fewer : (k : ℕ) → k * parts ≤ head * parts → amount < head * parts → k * parts ≡ distance head amount parts → ⊥
  fewer k w q e =
      ⊎_elim
      (λ (c : head < k).
      let v : (head + 1) * parts ≤ k * parts = mul-le-mul_right parts (omega (arith, c)) in
      n.not_whole 0 (omega (arith, v, w, e, q)))
      (λ (c : k ≤ head).
      let d : head ≡ k + (head - k) = omega (arith, c) in
      let v : head * parts ≡ (k + (head - k)) * parts = ap (λ (x : ℕ). x * parts) d in
      n.not_whole (head - k) (omega (arith, v, e, q)))
      (cases_lt head k)

-- twice the distance is an integral number of quanta only if twice the magnitude is
pub distance_half : (head amount parts k : ℕ) → 0 < parts → 2 * distance head amount parts ≡ k * parts
    → (m : ℕ) × (2 * amount ≡ m * parts)
distance_half head amount parts k p e =
    ⊎_elim
    (λ (q : amount < head * parts).
    let w : k * parts ≤ 2 * head * parts = omega (arith, e, q) in
    let c : k ≤ 2 * head = le_of_mul-le-mul_right w p in
    let d : 2 * head ≡ k + (2 * head - k) = omega (arith, c) in
    let v : 2 * head * parts ≡ (k + (2 * head - k)) * parts = ap (λ (x : ℕ). x * parts) d in
    (2 * head - k, omega (arith, v, e, q)))
    (λ (q : head * parts ≤ amount). (2 * head + k, omega (arith, e, q)))
    (cases_lt amount (head * parts))

-- halfway between two quanta, each head leaves that too
pub distance_half_past : (head amount parts i : ℕ) → IsHalfPast i amount parts
    → (k : ℕ) × IsHalfPast k (distance head amount parts) parts
distance_half_past head amount parts i e =
    ⊎_elim
    (λ (q : i < head).
    let d : head ≡ (i + 1) + (head - (i + 1)) = omega (arith, q) in
    let v : head * parts ≡ ((i + 1) + (head - (i + 1))) * parts = ap (λ (x : ℕ). x * parts) d in
    (head - (i + 1), omega (arith, v, e)))
    (λ (q : head ≤ i).
    let d : i ≡ head + (i - head) = omega (arith, q) in
    let v : i * parts ≡ (head + (i - head)) * parts = ap (λ (x : ℕ). x * parts) d in
    (i - head, omega (arith, v, e)))
    (cases_lt i head)

-- a neighbour leaves at most 2 ^ (precision - 1) quanta
pub distance_at_most : (precision head below above amount parts : ℕ) → above ≤ below + 2 ^ (precision - 1)
    → below * parts ≤ amount → amount ≤ above * parts → (head ≡ above) ⊎ (head ≡ below)
    → distance head amount parts ≤ 2 ^ (precision - 1) * parts
distance_at_most precision head below above amount parts g l h side =
    let v : above * parts ≤ (below + 2 ^ (precision - 1)) * parts = mul-le-mul_right parts g in
    let w : (head * parts ≡ above * parts) ⊎ (head * parts ≡ below * parts) =
    ⊎_elim (λ e. inl (ap (λ (x : ℕ). x * parts) e)) (λ e. inr (ap (λ (x : ℕ). x * parts) e)) side in
    ⊎_elim (λ e. omega (arith, e, v, l, h)) (λ e. omega (arith, e, v, l, h)) w

-- ---- past the largest value

-- half a unit in the last place of the largest value
abbrev pub half_unit : Format → ℕ
half_unit f = 2 ^ (f.span - 1)

-- a pick past the largest value is that of a greater magnitude
pub beyond_in : (f : Format) (s : Bool) (amount parts e : ℕ) → 0 < parts → largest f < e
    → IsPick f.precision NearestTiesToEven s amount parts e → largest f * parts < amount
beyond_in f s amount parts e p l x =
    ⊎_elim
    (λ (q : largest f * parts < amount). q)
    (λ (q : amount ≤ largest f * parts).
    let w = (pick_within f.precision NearestTiesToEven s amount parts e p x).0 in
    absurd (omega (arith, x.is_above.least (largest f) (largest_on_grid f) q, w, l)))
    (cases_lt (largest f * parts) amount)

-- the lower neighbour is not picked if the pick is above it
taken_in : (s odd above : Bool) (low high amount parts e : ℕ)
    → takes_above NearestTiesToEven s (amount - low * parts) (high * parts - amount) odd ≡ above
    → e ≡ cond above high low → low < e → high * parts - amount ≤ amount - low * parts
taken_in s odd true low high amount parts e t q l = even_nearer s odd (amount - low * parts) (high * parts - amount) t
taken_in s odd false low high amount parts e t q l = absurd (omega (arith, q, l))

-- the neighbour above the largest value
next_in : (f : Format) → 3 ≤ f.precision → (s : Bool) (amount parts e : ℕ) → 0 < parts → largest f * parts < amount
    → (x : IsPick f.precision NearestTiesToEven s amount parts e) → x.below ≡ largest f
    → x.above ≡ largest f + 2 ^ f.span
next_in f h s amount parts e p l x b =
    let m = greatest_significand f.nonfinite f.precision in
    let c = f.span in
    let d : 2 ^ f.precision ≡ 2 * 2 ^ (f.precision - 1) = sym (twice_half f.precision (omega (arith, h))) in
    let u : 0 < 2 ^ c = pow_pos c in
    let next : (m + 1) * 2 ^ c ≡ largest f + 2 ^ c = omega arith in
    let g = next_on_grid f.precision (2 ^ (f.precision - 1)) m c d (greatest_fits f.nonfinite f.precision) in
    let some' : largest f * parts < x.above * parts = omega (arith, x.is_above.not_below, l) in
    let some : largest f < x.above = lt_of_mul-lt-mul_right parts some' in
    let lower : (m + 1) * 2 ^ c ≤ x.above = none_between f.precision (2 ^ (f.precision - 1)) m c x.above d
    (inr (greatest_full f.nonfinite f.precision h)) x.is_above.on_grid (omega (arith, some)) in
    ⊎_elim
    (λ (q : (m + 1) * 2 ^ c * parts < amount).
    let k : (m + 1) * 2 ^ c ≤ x.below = x.is_below.greatest ((m + 1) * 2 ^ c) g (omega (arith, q)) in
    absurd (omega (arith, k, b, next, u)))
    (λ (q : amount ≤ (m + 1) * 2 ^ c * parts).
    let k : x.above ≤ (m + 1) * 2 ^ c = x.is_above.least ((m + 1) * 2 ^ c) g q in
    omega (arith, k, lower, next))
    (cases_lt ((m + 1) * 2 ^ c * parts) amount)

-- Unless the magnitude is halfway past the largest value, the pick with ties toward zero is past that value too.
pub record IsPastIn (f : Format) (amount parts : ℕ) : Type 0 where
  pub pick : ℕ
  pub is_pick : IsTiesToZeroPick f.precision amount parts pick
  pub past : largest f < pick

pub past_pick_in : (f : Format) → 3 ≤ f.precision → 1 ≤ f.span → (s : Bool) (amount parts e : ℕ) → 0 < parts
    → largest f < e → IsPick f.precision NearestTiesToEven s amount parts e
    → (amount ≡ (largest f + half_unit f) * parts → ⊥) → IsPastIn f amount parts
past_pick_in f h k s amount parts e p l x n =
    let g = beyond_in f s amount parts e p l x in
    let lo : largest f ≤ x.below = x.is_below.greatest (largest f) (largest_on_grid f) (omega (arith, g)) in
    let na = x.is_above.not_below in
    let nb = x.is_below.not_above in
    let two : 2 * half_unit f ≡ 2 ^ f.span = twice_half f.span (omega (arith, k)) in
    let two' : 2 * half_unit f * parts ≡ 2 ^ f.span * parts = ap (λ (i : ℕ). i * parts) two in
    ⊎_elim
    (λ (q : (x.below + x.above) * parts < 2 * amount). record {
      pick = x.above;
      is_pick = record {
        below = x.below;
        above = x.above;
        is_below = x.is_below;
        is_above = x.is_above;
        is = sym (takes_high_by x.below x.above amount parts nb na q);
      };
      past = let v : largest f * parts < x.above * parts = omega (arith, g, na) in lt_of_mul-lt-mul_right parts v;
    })
    (λ (q : 2 * amount ≤ (x.below + x.above) * parts). record {
      pick = x.below;
      is_pick = record {
        below = x.below;
        above = x.above;
        is_below = x.is_below;
        is_above = x.is_above;
        is = sym (takes_low_by x.below x.above amount parts nb na q);
      };
      past =
          ⊎_elim
          (λ (v : largest f < x.below). v)
          (λ (v : x.below ≤ largest f).
          let b : x.below ≡ largest f = omega (arith, lo, v) in
          let a = next_in f h s amount parts e p g x b in
          let b' : x.below * parts ≡ largest f * parts = ap (λ (i : ℕ). i * parts) b in
          let a' : x.above * parts ≡ (largest f + 2 ^ f.span) * parts = ap (λ (i : ℕ). i * parts) a in
          let t = taken_in s _ _ x.below x.above amount parts e refl x.is (omega (arith, b, l)) in
          absurd (n (omega (arith, a', b', two', t, q, na, nb))))
          (cases_lt (largest f) x.below);
    })
    (cases_lt ((x.below + x.above) * parts) (2 * amount))
