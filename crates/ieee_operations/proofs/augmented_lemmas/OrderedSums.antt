-- Augmented sums of two numbers, in each of the four cases of `ordered_sum`.
use Rattle.std.proofs.Common.{◌≡◌, ℕ, ◌+◌, ◌-◌, ◌^◌, ◌<◌, ◌≤◌, Bool, true, false, sym, ap}
use Rattle.std.proofs.Common.{◌∙◌, subst, ⊎_elim, arith, lit<, FitsSigned, to_z, of_z}
use Rattle.std.proofs.lemmas.{Bool.cases_lt, Int.ints, Int.to_z-of_z}
use Rattle.std.specs.Prelude.{ℤ, pos, ◌+ℤ◌, ◌-ℤ◌}
use Rattle.std.specs.Int.{w32}
use Rattle.apfloat_model.specs.declared.kinds.Round.TheVariants.{NearestTiesToEven, TowardZero}
use Rattle.apfloat_model.specs.formats.{Format.Format, Format.largest, Datum.Datum, Datum.finite}
use Rattle.apfloat_model.specs.rounding.Rounding.{IsPick, delivered_value, signed_quanta, ok_bits, overflow_bit}
use Rattle.apfloat_model.specs.rounding.{Rounding.inexact_bit, Negation.negated}
use Rattle.apfloat_model.specs.arithmetic.Exact.{magnitude, signed, sign_of}
use Rattle.apfloat_model.specs.arithmetic.{Signs.abs, Sums.IsSum, Sums.zero_sum_sign}
use Rattle.apfloat_model.specs.order.{Classes.is_finite, Classes.is_negative, Order.number, Order.is_equal}
use Rattle.apfloat_model.proofs.rounding.{Deliveries.signed_some, FarMagnitudes.largest_on_grid}
use Rattle.apfloat_model.proofs.whole_numbers.SignedNumbers.{largest_some}
use Rattle.apfloat_pair_theory.proofs.numbers.Signed.{on_grid_as}
use Rattle.ieee_operations.specs.augmented.{TiesToZero.IsTiesToZeroPick, Augmented.IsAugmentedSum}
use Rattle.ieee_operations.specs.augmented.Numbers.{HasNumber, IsAugmentedNumber, IsNearestTo, with_sign}
use Rattle.ieee_operations.proofs.augmented_lemmas.{Cases.sum_of_numbers, FractionPicks.half_unit}
use Rattle.ieee_operations.proofs.augmented_lemmas.{FractionPicks.past_pick_in, Heads.with_tail_is, Heads.past_in}
use Rattle.ieee_operations.proofs.augmented_lemmas.Heads.{picks_of, near_is_nearest, pick_is_nearest, tie_is, no_tie_is}
use Rattle.ieee_operations.proofs.augmented_lemmas.Heads.{at_half, beyond, short_is_largest_in, half_left, no_half_left}
use Rattle.ieee_operations.proofs.augmented_lemmas.Numbers.{signed_number, within_is, past_is, short_is, past_without}
use Rattle.ieee_operations.proofs.augmented_lemmas.Numbers.{sum_rounded, quanta_in}
use Rattle.ieee_operations.proofs.augmented_lemmas.Rests.{as_nearest, rest_in_format}

-- the sum toward zero is a number of the format
pub short_in : (f : Format) → 3 ≤ f.precision → (x y short : Datum) (j : ℕ) → IsAugmentedNumber f x
    → IsAugmentedNumber f y → IsSum f TowardZero x y short j → IsAugmentedNumber f short
short_in f h x y short j nx ny sum =
    let s = sign_of (zero_sum_sign NearestTiesToEven (is_negative x) (is_negative y)) (number x +ℤ number y) in
    let r = sum_rounded f TowardZero x y short j nx.is_finite ny.is_finite sum in
    ⊎_elim
    (λ (q : largest f < r.pick). quanta_in f s (largest f) short (largest_on_grid f) (omega arith)
    (r.value_is ∙ short_is f s r.pick q ∙ sym (signed_some f.nonfinite s (largest f) (largest_some f h))))
    (λ (q : r.pick ≤ largest f). quanta_in f s r.pick short (on_grid_as (sym r.is_pick.is) r.is_pick.is_below.on_grid) q
    (r.value_is ∙ within_is f TowardZero s r.pick q)) (cases_lt (largest f) r.pick)

-- a head within the largest value and what it leaves are the two results
finish : (f : Format) → 3 ≤ f.precision → (x y : Datum) → IsAugmentedNumber f x → IsAugmentedNumber f y → (p : ℕ)
    → IsTiesToZeroPick f.precision (magnitude (number x +ℤ number y)) 1 p → p ≤ largest f
    → (value rest head tail : Datum) (status : ℕ) → value ≡ signed_quanta f.nonfinite
    (sign_of (zero_sum_sign NearestTiesToEven (is_negative x) (is_negative y)) (number x +ℤ number y)) p
    → HasNumber ((number x +ℤ number y) -ℤ number value) rest
    → head ≡ value → tail ≡ with_sign f value rest → status ≡ ok_bits → IsAugmentedSum f x y head tail status
finish f h x y nx ny p t l value rest head tail status e r hd tl o =
    let v = number x +ℤ number y in
    let of_zero = zero_sum_sign NearestTiesToEven (is_negative x) (is_negative y) in
    let s = sign_of of_zero v in
    let n : number value ≡ signed s p = ap number e ∙ (signed_number f.nonfinite s p).number_is in
    let g = rest_in_format f h (number x) (number y) (signed s p) nx.on_grid ny.on_grid ny.within
    (as_nearest f.precision v (signed s p) (pick_is_nearest f of_zero v p t)) in
    let r' : HasNumber (v -ℤ signed s p) rest = subst (λ (z : ℤ). HasNumber (v -ℤ z) rest) n r in
    sum_of_numbers f x y head tail status nx.is_finite ny.is_finite
    (with_tail_is f of_zero v p head rest tail status t l (hd ∙ e) g.on_grid r'
    (tl ∙ ap (λ (d : Datum). with_sign f d rest) (sym hd)) o)

-- the sum toward zero is the head: it leaves exactly the opposite of what the sum to nearest leaves
pub head_is_short : (f : Format) → 3 ≤ f.precision → (x y near short rest left other : Datum) (i j rest_status : ℕ)
    → IsAugmentedNumber f x → IsAugmentedNumber f y → IsSum f NearestTiesToEven x y near i
    → IsSum f TowardZero x y short j → IsAugmentedNumber f near
    → (rest_status ≡ ok_bits → HasNumber ((number x +ℤ number y) -ℤ number near) rest)
    → (IsNearestTo f.precision (number x +ℤ number y) (number near) → rest_status ≡ ok_bits)
    → HasNumber ((number x +ℤ number y) -ℤ number short) left → other ≡ negated f.nonfinite rest
    → is_equal left other ≡ true → (head tail : Datum) (status : ℕ) → head ≡ short → tail ≡ with_sign f short left
    → status ≡ ok_bits → IsAugmentedSum f x y head tail status
head_is_short f h x y near short rest left other i j rest_status nx ny sum shorter nn exact nearest l o e head tail
    status hd tl ok =
    let v = number x +ℤ number y in
    let of_zero = zero_sum_sign NearestTiesToEven (is_negative x) (is_negative y) in
    let n = sum_rounded f NearestTiesToEven x y near i nx.is_finite ny.is_finite sum in
    let t = sum_rounded f TowardZero x y short j nx.is_finite ny.is_finite shorter in
    let a = picks_of f of_zero v 1 near short i j (lit< tt) n t nn.is_finite in
    let r = exact (nearest (near_is_nearest f of_zero v near short a)) in
    let p = tie_is f of_zero v near short rest left a r l (subst (λ (d : Datum). is_equal left d ≡ true) o e) in
    finish f h x y nx ny a.lower p a.lower_within short left head tail status a.short_is l hd tl ok

-- the sum to nearest is the head
pub head_is_near : (f : Format) → 3 ≤ f.precision
    → (x y near short rest left other : Datum) (i j rest_status left_status : ℕ) → IsAugmentedNumber f x
    → IsAugmentedNumber f y → IsSum f NearestTiesToEven x y near i → IsSum f TowardZero x y short j
    → IsAugmentedNumber f near → (rest_status ≡ ok_bits → HasNumber ((number x +ℤ number y) -ℤ number near) rest)
    → (IsNearestTo f.precision (number x +ℤ number y) (number near) → rest_status ≡ ok_bits)
    → (left_status ≡ ok_bits → HasNumber ((number x +ℤ number y) -ℤ number short) left)
    → (IsNearestTo f.precision (number x +ℤ number y) (number short) → left_status ≡ ok_bits)
    → other ≡ negated f.nonfinite rest → (left_status ≡ ok_bits → is_equal left other ≡ false)
    → (head tail : Datum) (status : ℕ) → head ≡ near → tail ≡ with_sign f near rest → status ≡ ok_bits
    → IsAugmentedSum f x y head tail status
head_is_near f h x y near short rest left other i j rest_status left_status nx ny sum shorter nn exact nearest
    left_exact left_nearest o differs head tail status hd tl ok =
    let v = number x +ℤ number y in
    let of_zero = zero_sum_sign NearestTiesToEven (is_negative x) (is_negative y) in
    let n = sum_rounded f NearestTiesToEven x y near i nx.is_finite ny.is_finite sum in
    let t = sum_rounded f TowardZero x y short j nx.is_finite ny.is_finite shorter in
    let a = picks_of f of_zero v 1 near short i j (lit< tt) n t nn.is_finite in
    let r = exact (nearest (near_is_nearest f of_zero v near short a)) in
    let p = no_tie_is f of_zero v near short rest left left_status a r left_exact left_nearest
    (λ k. subst (λ (d : Datum). is_equal left d ≡ false) o (differs k)) in
    finish f h x y nx ny a.even p a.even_within near rest head tail status a.near_is r hd tl ok

-- the sum to nearest is past the largest value, and the sum toward zero is that value
record IsSumPast (f : Format) (s : Bool) (amount : ℕ) (near short : Datum) : Type 0 where
  pub pick : ℕ
  pub is_pick : IsPick f.precision NearestTiesToEven s amount 1 pick
  pub value_is : near ≡ delivered_value f NearestTiesToEven s pick
  pub past : largest f < pick
  pub short_is : short ≡ finite s (largest f)

sum_past : (f : Format) → 3 ≤ f.precision → (x y near short : Datum) (i j : ℕ) → IsAugmentedNumber f x
    → IsAugmentedNumber f y → IsSum f NearestTiesToEven x y near i → IsSum f TowardZero x y short j
    → is_finite near ≡ false
    → IsSumPast f (sign_of (zero_sum_sign NearestTiesToEven (is_negative x) (is_negative y)) (number x +ℤ number y))
    (magnitude (number x +ℤ number y)) near short
sum_past f h x y near short i j nx ny sum shorter nn =
    let v = number x +ℤ number y in
    let of_zero = zero_sum_sign NearestTiesToEven (is_negative x) (is_negative y) in
    let n = sum_rounded f NearestTiesToEven x y near i nx.is_finite ny.is_finite sum in
    let t = sum_rounded f TowardZero x y short j nx.is_finite ny.is_finite shorter in
    let past = past_without f (sign_of of_zero v) n.pick near nn n.value_is in
    record {
      pick = n.pick;
      is_pick = n.is_pick;
      value_is = n.value_is;
      past = past;
      short_is = short_is_largest_in f h of_zero v 1 n.pick short j (lit< tt) past n.is_pick t;
    }

-- the largest value is the head: the sum is halfway past it
pub head_is_largest : (f : Format) → 3 ≤ f.precision
    → 1 ≤ f.span → (x y near short left magnitude_of_left unit : Datum) (i j : ℕ) → IsAugmentedNumber f x
    → IsAugmentedNumber f y → IsSum f NearestTiesToEven x y near i → IsSum f TowardZero x y short j
    → is_finite near ≡ false → HasNumber ((number x +ℤ number y) -ℤ number short) left → magnitude_of_left ≡ abs f left
    → unit ≡ finite false (half_unit f) → is_equal magnitude_of_left unit ≡ true → (head tail : Datum) (status : ℕ)
    → head ≡ short → tail ≡ with_sign f short left → status ≡ ok_bits → IsAugmentedSum f x y head tail status
head_is_largest f h k x y near short left magnitude_of_left unit i j nx ny sum shorter nn l m u e head tail status hd
    tl ok =
    let v = number x +ℤ number y in
    let of_zero = zero_sum_sign NearestTiesToEven (is_negative x) (is_negative y) in
    let s = sign_of of_zero v in
    let n = sum_past f h x y near short i j nx ny sum shorter nn in
    let l' : HasNumber (v -ℤ signed s (largest f)) left =
    subst (λ (d : Datum). HasNumber (v -ℤ number d) left) n.short_is l in
    let w = half_left f of_zero v left unit l' u (beyond f s (magnitude v) n.pick n.past n.is_pick)
    (subst (λ (d : Datum). is_equal d unit ≡ true) m e) in
    finish f h x y nx ny (largest f) (at_half f h k (magnitude v) w) (omega arith) short left head tail status
    (n.short_is ∙ sym (signed_some f.nonfinite s (largest f) (largest_some f h))) l hd tl ok

-- the head is past the largest value
pub head_is_past : (f : Format) → 3 ≤ f.precision → 1 ≤ f.span
    → (x y near short left magnitude_of_left unit : Datum) (i j left_status : ℕ) → IsAugmentedNumber f x
    → IsAugmentedNumber f y → IsSum f NearestTiesToEven x y near i → IsSum f TowardZero x y short j
    → is_finite near ≡ false → (left_status ≡ ok_bits → HasNumber ((number x +ℤ number y) -ℤ number short) left)
    → (IsNearestTo f.precision (number x +ℤ number y) (number short) → left_status ≡ ok_bits)
    → magnitude_of_left ≡ abs f left → unit ≡ finite false (half_unit f)
    → (left_status ≡ ok_bits → is_equal magnitude_of_left unit ≡ false) → (head tail : Datum) (status : ℕ) → head ≡ near
    → tail ≡ near → status ≡ overflow_bit + inexact_bit → IsAugmentedSum f x y head tail status
head_is_past f h k x y near short left magnitude_of_left unit i j left_status nx ny sum shorter nn exact nearest m u
    differs head tail status hd tl ok =
    let v = number x +ℤ number y in
    let of_zero = zero_sum_sign NearestTiesToEven (is_negative x) (is_negative y) in
    let s = sign_of of_zero v in
    let n = sum_past f h x y near short i j nx ny sum shorter nn in
    let number_is : number short ≡ signed s (largest f) = ap number n.short_is in
    let no_half = no_half_left f h k of_zero v left unit left_status u
    (λ o. subst (λ (z : ℤ). HasNumber (v -ℤ z) left) number_is (exact o))
    (λ q. nearest (subst (λ (z : ℤ). IsNearestTo f.precision v z) (sym number_is) q))
    (λ o. subst (λ (d : Datum). is_equal d unit ≡ false) m (differs o)) in
    let p = past_pick_in f h k s (magnitude v) 1 n.pick (lit< tt) n.past n.is_pick (λ e. no_half (omega (arith, e))) in
    sum_of_numbers f x y head tail status nx.is_finite ny.is_finite
    (past_in f of_zero v 1 p.pick head tail status p.is_pick p.past (hd ∙ n.value_is ∙ past_is f s n.pick n.past)
    (tl ∙ sym hd) ok)

-- ---- how far the smallest value is moved to half a unit in the last place of the largest one

small_fits : (n : ℕ) → n ≤ 2 ^ 21 → FitsSigned w32 (pos n)
small_fits n h = record { sfits = omega (arith, h) }

pub places_is : (max min : ℤ) (span : ℕ) → FitsSigned w32 max → FitsSigned w32 min → (max -ℤ min) ≡ pos span → 1 ≤ span
    → span ≤ 2 ^ 21
    → to_z w32 (of_z w32 (to_z w32 (of_z w32 (to_z w32 (of_z w32 max) -ℤ to_z w32 (of_z w32 min))) -ℤ pos 1))
    ≡ pos (span - 1)
places_is max min span a b e k l =
    let d : (to_z w32 (of_z w32 max) -ℤ to_z w32 (of_z w32 min)) ≡ pos span =
    ap (λ (z : ℤ). z -ℤ to_z w32 (of_z w32 min)) (to_z-of_z w32 max a)
    ∙ ap (λ (z : ℤ). max -ℤ z) (to_z-of_z w32 min b) ∙ e in
    let first = ap (λ (z : ℤ). to_z w32 (of_z w32 z)) d ∙ to_z-of_z w32 (pos span) (small_fits span l) in
    let less : (pos span -ℤ pos 1) ≡ pos (span - 1) = omega (arith, ints, k) in
    ap (λ (z : ℤ). to_z w32 (of_z w32 z)) (ap (λ (z : ℤ). z -ℤ pos 1) first ∙ less)
    ∙ to_z-of_z w32 (pos (span - 1)) (small_fits (span - 1) (omega (arith, l)))
