-- Augmented products, in each of the cases of the calls: special operands, an exact rest, and past the largest value.
use Rattle.std.proofs.Common.{◌≡◌, ℕ, zero, suc, ◌+◌, ◌-◌, ◌*◌, ◌^◌, ◌<◌, ◌≤◌, Bool}
use Rattle.std.proofs.Common.{true, false, ltb, if◌then◌else◌, sym, refl, ap, ◌∙◌, subst, ◌⊎◌, inl}
use Rattle.std.proofs.{Common.inr, Common.arith, Math.Nat.mul-pos}
use Rattle.std.proofs.lemmas.{Bool.false≢true, Bool.lt-ltb, Bool.le-ltb, Bool.eq-eqb, Int.ints, Nat.pow_pos}
use Rattle.std.specs.Prelude.{ℤ, pos, ◌+ℤ◌, ◌-ℤ◌, ◌*ℤ◌}
use Rattle.std.specs.Bool.{MatchBool}
use Rattle.apfloat_model.specs.declared.kinds.Category.TheVariants.{Normal, Zero, Infinity, NaN}
use Rattle.apfloat_model.specs.declared.kinds.Round.{Round, TheVariants.NearestTiesToEven, TheVariants.TowardZero}
use Rattle.apfloat_model.specs.formats.Format.{Format, largest}
use Rattle.apfloat_model.specs.formats.Datum.{Datum, finite, infinite, nan}
use Rattle.apfloat_model.specs.rounding.Rounding.{signed_quanta, ok_bits, overflow_bit, underflow_bit, inexact_bit}
use Rattle.apfloat_model.specs.rounding.Negation.{negated}
use Rattle.apfloat_model.specs.arithmetic.Exact.{magnitude, signed, sign_of, product_sign, IsRounded}
use Rattle.apfloat_model.specs.arithmetic.{Products.IsProduct, FusedSums.IsFusedSum, Sums.zero_sum_sign}
use Rattle.apfloat_model.specs.order.Classes.{category_of, is_finite, is_finite_non_zero, is_finite_non_zero_category}
use Rattle.apfloat_model.specs.order.{Classes.is_negative, Order.number}
use Rattle.apfloat_model.proofs.arithmetic.Signs.{magnitude_signed, no_sign}
use Rattle.apfloat_model.proofs.order.PredicatesAgree.{number_agrees}
use Rattle.apfloat_model.proofs.rounding.Laws.{delivered_once, exact_delivered, zero_on_grid}
use Rattle.apfloat_model.proofs.whole_numbers.SignedProducts.{sum_times, magnitude-mul, signed_product, signed_times}
use Rattle.apfloat_pair_theory.proofs.numbers.{Roundings.signed_exact, Signed.on_grid_as}
use Rattle.ieee_operations.specs.augmented.Augmented.{IsPastLargest, IsWithTail, IsAugmented, IsAugmentedSum}
use Rattle.ieee_operations.specs.augmented.{Augmented.IsAugmentedProduct, Numbers.IsNonzeroIn, Numbers.IsNearProduct}
use Rattle.ieee_operations.specs.augmented.TiesToZero.{IsTiesToZeroPick}
use Rattle.ieee_operations.proofs.augmented_lemmas.Cases.{each_product}
use Rattle.ieee_operations.proofs.augmented_lemmas.FractionPicks.{half_unit, past_pick_in}
use Rattle.ieee_operations.proofs.augmented_lemmas.FractionRoundings.{rest_of_product, product_rounded, rest_rounded}
use Rattle.ieee_operations.proofs.augmented_lemmas.Heads.{half_is_within, half_on_grid, past_in, short_is_largest_in}
use Rattle.ieee_operations.proofs.augmented_lemmas.Multiples.{augmented_times}
use Rattle.ieee_operations.proofs.augmented_lemmas.Numbers.{past_is, past_without, fraction_exactly, ok_parts}
use Rattle.ieee_operations.proofs.augmented_lemmas.TiesToZero.{ties_to_zero_exact}

-- ---- finite data, and others

pub product_of_numbers : (f : Format) (x y head tail : Datum) (status : ℕ) → is_finite x ≡ true → is_finite y ≡ true
    → IsAugmented f (product_sign (is_negative x) (is_negative y)) (number x *ℤ number y) (2 ^ f.scale) head tail status
    → IsAugmentedProduct f x y head tail status
product_of_numbers f (finite b m) (finite c n) head tail status p q h =
    subst (λ (i : ℤ). IsAugmented f (product_sign b c) i (2 ^ f.scale) head tail status)
    (sym (signed_product b c m n)) h
product_of_numbers f (finite b m) (infinite c) head tail status p q h = absurd (false≢true q)
product_of_numbers f (finite b m) (nan c n) head tail status p q h = absurd (false≢true q)
product_of_numbers f (infinite b) y head tail status p q h = absurd (false≢true p)
product_of_numbers f (nan b m) y head tail status p q h = absurd (false≢true p)

numbers_of_sum : (f : Format) (x y head tail : Datum) (status : ℕ) → is_finite x ≡ true → is_finite y ≡ true
    → IsAugmentedSum f x y head tail status
    → IsAugmented f (zero_sum_sign NearestTiesToEven (is_negative x) (is_negative y)) (number x +ℤ number y) 1 head
    tail status
numbers_of_sum f (finite b m) (finite c n) head tail status p q h = h
numbers_of_sum f (finite b m) (infinite c) head tail status p q h = absurd (false≢true q)
numbers_of_sum f (finite b m) (nan c n) head tail status p q h = absurd (false≢true q)
numbers_of_sum f (infinite b) y head tail status p q h = absurd (false≢true p)
numbers_of_sum f (nan b m) y head tail status p q h = absurd (false≢true p)

-- a product of numbers other than zero is not zero
pub product_some : (f : Format) (x y : Datum) → IsNonzeroIn f x → IsNonzeroIn f y → 0 < magnitude (number x *ℤ number y)
product_some f x y p q = subst (λ (i : ℕ). 0 < i) (sym (magnitude-mul (number x) (number y))) (mul-pos p.some q.some)

nothing_left : (s : Bool) (k : ℕ) → k ≡ 0 → (pos 0 -ℤ signed s k) ≡ pos 0
nothing_left true k e = omega (arith, ints, e)
nothing_left false k e = omega (arith, ints, e)

zero_has_tail : (f : Format) (s : Bool) (head tail : Datum) (status : ℕ) → head ≡ signed_quanta f.nonfinite s 0
    → tail ≡ head → status ≡ ok_bits → IsWithTail f s (pos 0) (2 ^ f.scale) 0 head tail status
zero_has_tail f s head tail status d t o =
    let u : 0 < 2 ^ f.scale = pow_pos f.scale in
    let left : (pos 0 -ℤ signed s (0 * 2 ^ f.scale)) ≡ pos 0 = nothing_left s (0 * 2 ^ f.scale) (omega arith) in
    let pick = ties_to_zero_exact f.precision 0 0 (2 ^ f.scale) u (zero_on_grid f.precision) (omega arith) in
    let same : 0 * 2 ^ f.scale ≡ magnitude (pos 0 -ℤ signed s (0 * 2 ^ f.scale)) =
    let m = ap magnitude left in omega (arith, m) in
    record {
      head_is = d;
      quanta = 0;
      is_pick = subst (λ (i : ℤ). IsTiesToZeroPick f.precision (magnitude i) (2 ^ f.scale) 0) (sym left) pick;
      tail_is = t ∙ d ∙ ap (λ (i : ℤ). signed_quanta f.nonfinite (sign_of s i) 0) (sym left);
      status_is = o ∙ sym (ap (λ (c : Bool). if c then ok_bits else underflow_bit + inexact_bit) (eq-eqb _ _ same));
    }

-- both results are the zero that is the product of a zero and a number
zero_product : (f : Format) (b c : Bool) (m n : ℕ) (head tail : Datum) (status : ℕ) → m * n ≡ 0
    → IsProduct f NearestTiesToEven (finite b m) (finite c n) head status → tail ≡ head
    → IsAugmentedProduct f (finite b m) (finite c n) head tail status
zero_product f b c m n head tail status e h t =
    let s = product_sign b c in
    let u : 0 < 2 ^ f.scale = pow_pos f.scale in
    let z : signed (product_sign b c) (m * n) ≡ pos 0 =
    ap (λ (i : ℕ). signed (product_sign b c) i) e ∙ no_sign (product_sign b c) in
    let r = delivered_once f NearestTiesToEven s (m * n) (2 ^ f.scale) head (signed_quanta f.nonfinite s 0) status
    ok_bits h
    (exact_delivered f NearestTiesToEven s 0 (m * n) (2 ^ f.scale) u (zero_on_grid f.precision) (omega arith)
    (omega (arith, e))) in
    let w : ltb (largest f) 0 ≡ false = le-ltb (largest f) 0 (omega arith) in
    let v : IsAugmented f s (pos 0) (2 ^ f.scale) head tail status =
    record {
      pick = 0;
      is_pick = ties_to_zero_exact f.precision 0 0 (2 ^ f.scale) u (zero_on_grid f.precision) (omega arith);
      is = subst (λ (i : Bool). MatchBool i (IsPastLargest f s head tail status)
          (IsWithTail f s (pos 0) (2 ^ f.scale) 0 head tail status)) (sym w)
          (zero_has_tail f s head tail status r.0 t r.1);
    } in
    subst (λ (i : ℤ). IsAugmented f s i (2 ^ f.scale) head tail status) (sym z) v

nonzero_by : (m : ℕ) → ltb 0 m ≡ false → m ≡ 0
nonzero_by zero h = refl
nonzero_by (suc m) h = absurd (false≢true (sym h ∙ lt-ltb 0 (suc m) (omega arith)))

zero_factor : (m n : ℕ) → (ltb 0 m ≡ false) ⊎ (ltb 0 n ≡ false) → m * n ≡ 0
zero_factor m n (inl e) = ap (λ (i : ℕ). i * n) (nonzero_by m e) ∙ omega arith
zero_factor m n (inr e) = ap (λ (i : ℕ). m * i) (nonzero_by n e) ∙ omega arith

-- one factor is zero, an infinity or a NaN
pub product_of_others : (f : Format) (head tail : Datum) (status : ℕ) → tail ≡ head → (x y : Datum)
    → (is_finite_non_zero x ≡ false) ⊎ (is_finite_non_zero y ≡ false)
    → IsProduct f NearestTiesToEven x y head status → IsAugmentedProduct f x y head tail status
product_of_others f head tail status e =
    each_product (λ x y Says. (is_finite_non_zero x ≡ false) ⊎ (is_finite_non_zero y ≡ false)
    → IsProduct f NearestTiesToEven x y head status → Says head tail status) f
    (λ b c m n p h. zero_product f b c m n head tail status (zero_factor m n p) h e)
    (λ x y p h. record { is = h; tail_is = e })

-- ---- an exact rest

back : (a b e : ℤ) → b ≡ e -ℤ a → (a +ℤ b) ≡ e
back a b e h = omega (arith, ints, h)

-- a datum and what it leaves exactly: their augmented sum is the augmented product
pub exact_product : (f : Format) (x y first rest : Datum) (rest_status : ℕ) → IsNonzeroIn f x → IsNonzeroIn f y
    → is_finite first ≡ true → IsFusedSum f NearestTiesToEven x y (negated f.nonfinite first) rest rest_status
    → rest_status ≡ ok_bits → (head tail : Datum) (status : ℕ) → IsAugmentedSum f first rest head tail status
    → IsAugmentedProduct f x y head tail status
exact_product f x y first rest rest_status nx ny p fused o head tail status sum =
    let r = rest_rounded f NearestTiesToEven x y first rest rest_status nx.is_in.is_finite ny.is_in.is_finite p fused in
    let k = ok_parts f NearestTiesToEven r.0 (rest_of_product f x y first) (2 ^ f.scale) rest rest_status r.1 o in
    let e : ((number first +ℤ number rest) *ℤ pos (2 ^ f.scale)) ≡ (number x *ℤ number y) =
    sum_times (number first) (number rest) (pos (2 ^ f.scale)) ∙
    back (number first *ℤ pos (2 ^ f.scale)) (number rest *ℤ pos (2 ^ f.scale)) (number x *ℤ number y) k.parts_are in
    product_of_numbers f x y head tail status nx.is_in.is_finite ny.is_in.is_finite
    (augmented_times f (number first +ℤ number rest) (number x *ℤ number y) (2 ^ f.scale) (pow_pos f.scale) e
    (zero_sum_sign NearestTiesToEven (is_negative first) (is_negative rest))
    (product_sign (is_negative x) (is_negative y)) head tail status (product_some f x y nx ny)
    (numbers_of_sum f first rest head tail status p k.is_finite sum))

-- ---- past the largest value

signed_minus : (s : Bool) (a b c : ℕ) → a ≡ b + c → signed s c ≡ (signed s a -ℤ signed s b)
signed_minus true a b c e = omega (arith, ints, e)
signed_minus false a b c e = omega (arith, ints, e)

-- Halfway past the largest value, what that value leaves is exact.
half_is_exact : (f : Format) → 3 ≤ f.precision → (of_zero s : Bool) (exact : ℤ) (parts : ℕ) (x y short rest : Datum)
    (j : ℕ) → 0 < parts → parts ≡ 2 ^ f.scale → exact ≡ (number x *ℤ number y) → signed s (magnitude exact) ≡ exact
    → short ≡ finite s (largest f) → IsRounded f NearestTiesToEven of_zero (rest_of_product f x y short) parts rest j
    → magnitude exact ≡ (largest f + half_unit f) * parts → j ≡ ok_bits
half_is_exact f h of_zero s exact parts x y short rest j p u e d is r amount =
    let k : (signed s (half_unit f) *ℤ pos parts) ≡ (exact -ℤ (signed s (largest f) *ℤ pos parts)) =
    sym (signed_times s (half_unit f) parts) ∙ signed_minus s (magnitude exact) (largest f * parts)
    (half_unit f * parts) (omega (arith, amount)) ∙ ap (λ (i : ℤ). i -ℤ signed s (largest f * parts)) d
    ∙ ap (λ (i : ℤ). exact -ℤ i) (signed_times s (largest f) parts) in
    let n : (exact -ℤ (signed s (largest f) *ℤ pos parts)) ≡ rest_of_product f x y short =
    ap (λ (i : ℤ). i -ℤ (signed s (largest f) *ℤ pos parts)) e ∙
    ap (λ (i : ℤ). (number x *ℤ number y) -ℤ (i *ℤ pos parts)) (sym (ap number is)) ∙
    ap (λ (i : ℕ). (number x *ℤ number y) -ℤ (number short *ℤ pos i)) u in
    let m : half_unit f ≡ magnitude (signed s (half_unit f)) = sym (magnitude_signed s (half_unit f)) in
    (fraction_exactly f NearestTiesToEven of_zero (signed s (half_unit f)) (rest_of_product f x y short) parts rest j p
    (on_grid_as m (half_on_grid f h)) (subst (λ (i : ℕ). i ≤ largest f) m (half_is_within f h)) (k ∙ n) r).status_is

-- the product rounded, in some mode
pub rounded_in : (f : Format) (mode : Round) (x y near value : Datum) (status : ℕ) → IsNearProduct f x y near
    → IsProduct f mode x y value status
    → IsRounded f mode (product_sign (is_negative x) (is_negative y)) (number x *ℤ number y) (2 ^ f.scale) value status
rounded_in f mode x y near value status a product =
    product_rounded f mode x y value status a.left.is_in.is_finite a.right.is_in.is_finite
    (product_some f x y a.left a.right) product

short_is_top : (f : Format) → 3 ≤ f.precision → (x y near short : Datum) (j : ℕ) → IsNearProduct f x y near
    → is_finite near ≡ false → IsProduct f TowardZero x y short j
    → short ≡ finite (sign_of (product_sign (is_negative x) (is_negative y)) (number x *ℤ number y)) (largest f)
short_is_top f h x y near short j a out shorter =
    let of_zero = product_sign (is_negative x) (is_negative y) in
    let exact = number x *ℤ number y in
    let n = rounded_in f NearestTiesToEven x y near near a.status a a.is in
    let past = past_without f (sign_of of_zero exact) n.pick near out n.value_is in
    short_is_largest_in f h of_zero exact (2 ^ f.scale) n.pick short j (pow_pos f.scale) past n.is_pick
    (rounded_in f TowardZero x y near short j a shorter)

-- the head is past the largest value: what the largest value leaves is not exact
pub product_is_past : (f : Format) → 3 ≤ f.precision → 1 ≤ f.span → (x y near short rest : Datum) (j k : ℕ)
    → IsNearProduct f x y near → is_finite near ≡ false → IsProduct f TowardZero x y short j
    → IsFusedSum f NearestTiesToEven x y (negated f.nonfinite short) rest k → (k ≡ ok_bits → ⊥)
    → (head tail : Datum) (status : ℕ) → head ≡ near → tail ≡ near → status ≡ overflow_bit + inexact_bit
    → IsAugmentedProduct f x y head tail status
product_is_past f h w x y near short rest j k a out shorter fused lost head tail status hd tl o =
    let exact = number x *ℤ number y in
    let of_zero = product_sign (is_negative x) (is_negative y) in
    let s = sign_of (product_sign (is_negative x) (is_negative y)) (number x *ℤ number y) in
    let u : 0 < 2 ^ f.scale = pow_pos f.scale in
    let n = rounded_in f NearestTiesToEven x y near near a.status a a.is in
    let past = past_without f s n.pick near out n.value_is in
    let is = short_is_top f h x y near short j a out shorter in
    let r = rest_rounded f NearestTiesToEven x y short rest k a.left.is_in.is_finite a.right.is_in.is_finite
    (ap is_finite is) fused in
    let p = past_pick_in f h w s (magnitude exact) (2 ^ f.scale) n.pick u past n.is_pick
    (λ e. lost (half_is_exact f h r.0 s exact (2 ^ f.scale) x y short rest k u refl refl (signed_exact of_zero exact) is
    r.1 e)) in
    product_of_numbers f x y head tail status a.left.is_in.is_finite a.right.is_in.is_finite
    (past_in f of_zero exact (2 ^ f.scale) p.pick head tail status p.is_pick p.past
    (hd ∙ n.value_is ∙ past_is f s n.pick past) (tl ∙ sym hd) o)

-- the product toward zero is finite
pub short_is_finite : (f : Format) → 3 ≤ f.precision → (x y near short : Datum) (j : ℕ) → IsNearProduct f x y near
    → is_finite near ≡ false → IsProduct f TowardZero x y short j → is_finite short ≡ true
short_is_finite f h x y near short j a out shorter = ap is_finite (short_is_top f h x y near short j a out shorter)

-- ---- classes

normal_some : (m : ℕ) → category_of (finite false m) ≡ Normal → 0 < m
normal_some zero e = cc
normal_some (suc m) e = omega arith

pub some_of_normal : (x : Datum) → category_of x ≡ Normal → 0 < magnitude (number x)
some_of_normal (finite b m) e = subst (λ (i : ℕ). 0 < i) (sym (magnitude_signed b m)) (normal_some m e)
some_of_normal (infinite b) e = cc
some_of_normal (nan b s) e = cc

-- a datum of another class is not a number other than zero
pub zero_of_category : (x : Datum) → category_of x ≡ Zero → is_finite_non_zero x ≡ false
zero_of_category x e = sym (number_agrees x) ∙ ap is_finite_non_zero_category e

pub infinity_of_category : (x : Datum) → category_of x ≡ Infinity → is_finite_non_zero x ≡ false
infinity_of_category x e = sym (number_agrees x) ∙ ap is_finite_non_zero_category e

pub nan_of_category : (x : Datum) → category_of x ≡ NaN → is_finite_non_zero x ≡ false
nan_of_category x e = sym (number_agrees x) ∙ ap is_finite_non_zero_category e
