-- Augmented sums, differences and products have one answer, and sums and integral numbers of quanta are exact.
use Rattle.std.proofs.Common.{◌≡◌, ℕ, ◌+◌, ◌*◌, ◌≤◌, ◌⊎◌, Bool, true, false, eqb, ltb}
use Rattle.std.proofs.Common.{if◌then◌else◌, sym, ap, ◌∙◌, subst, inl, inr, arith, lit<}
use Rattle.std.proofs.lemmas.{Bool.false≢true, Bool.eq-eqb, Int.ints, Nat.pow_pos}
use Rattle.std.specs.Prelude.{ℤ, pos, ◌^◌, ◌+ℤ◌, ◌-ℤ◌, ◌*ℤ◌}
use Rattle.std.specs.Bool.{MatchBool}
use Rattle.apfloat_model.specs.{declared.kinds.Round.TheVariants.NearestTiesToEven, formats.Format.Format}
use Rattle.apfloat_model.specs.formats.{Format.largest, Datum.Datum, Datum.finite, Datum.infinite, Datum.nan}
use Rattle.apfloat_model.specs.rounding.Grid.{IsOnGrid}
use Rattle.apfloat_model.specs.rounding.Rounding.{signed_quanta, ok_bits, underflow_bit, inexact_bit}
use Rattle.apfloat_model.specs.arithmetic.Exact.{magnitude, signed, sign_of, product_sign}
use Rattle.apfloat_model.specs.{arithmetic.Sums.zero_sum_sign, order.Classes.is_finite, order.Order.number}
use Rattle.apfloat_model.proofs.Once.{Once, sum_once, difference_once, product_once}
use Rattle.apfloat_model.proofs.whole_numbers.SignedProducts.{magnitude-times, signed_product, sign_times}
use Rattle.ieee_operations.specs.augmented.Augmented.{left_of, IsPastLargest, IsWithTail, IsAugmented, AreBoth}
use Rattle.ieee_operations.specs.augmented.Augmented.{AreExactly, IsExactSum, IsExactProduct}
use Rattle.ieee_operations.specs.augmented.{Numbers.IsNearestTo, TiesToZero.IsTiesToZeroPick}
use Rattle.ieee_operations.proofs.augmented_lemmas.{Cases.OfEachOperation, Cases.of_each, TiesToZero.ties_to_zero_once}
use Rattle.ieee_operations.proofs.augmented_lemmas.{TiesToZero.ties_to_zero_exact, Numbers.signed_number}
use Rattle.ieee_operations.proofs.augmented_lemmas.{Numbers.number_in, Rests.rest_in_format, Rests.as_nearest}
use Rattle.ieee_operations.proofs.augmented_lemmas.{Rests.eight, Heads.pick_is_nearest, FractionRoundings.whole_of}
use Rattle.ieee_operations.proofs.augmented_lemmas.Multiples.{ties_of_times, with_tail_of_times}
use Rattle.apfloat_pair_theory.proofs.numbers.{Nearest.IsNearest, Roundings.signed_exact, Signed.magnitude-sub}
use Rattle.apfloat_pair_theory.proofs.numbers.{Signed.on_grid_as, WholeProducts.product_error_on_grid}

-- three results are the same
abbrev pub AreSame : Datum → Datum → Datum → Datum → ℕ → ℕ → Type 0
AreSame h g t u i j = (h ≡ g) × (t ≡ u) × (i ≡ j)

module _ (f : Format) (s : Bool) (exact : ℤ) (parts pick : ℕ) (h g t u : Datum) (i j : ℕ) where
  by_test : (test : Bool) → MatchBool test (IsPastLargest f s h t i) (IsWithTail f s exact parts pick h t i)
      → MatchBool test (IsPastLargest f s g u j) (IsWithTail f s exact parts pick g u j) → AreSame h g t u i j
  by_test true x y =
      let e : h ≡ g = x.head_is ∙ sym y.head_is in
      (e, x.tail_is ∙ e ∙ sym y.tail_is, x.status_is ∙ sym y.status_is)
  by_test false x y =
      let left = left_of exact parts s pick in
      let q : x.quanta ≡ y.quanta =
      ties_to_zero_once f.precision (magnitude left) parts x.quanta y.quanta x.is_pick y.is_pick in (
        x.head_is ∙ sym y.head_is,
        x.tail_is ∙ ap (λ (k : ℕ). signed_quanta f.nonfinite (sign_of s left) k) q ∙ sym y.tail_is,
        x.status_is ∙
            ap (λ (k : ℕ). if eqb (k * parts) (magnitude left) then ok_bits else underflow_bit + inexact_bit) q ∙
            sym y.status_is,
      )

augmented_once : (f : Format) (of_zero : Bool) (exact : ℤ) (parts : ℕ) (h g t u : Datum) (i j : ℕ)
    → IsAugmented f of_zero exact parts h t i → IsAugmented f of_zero exact parts g u j → AreSame h g t u i j
augmented_once f of_zero exact parts h g t u i j x y =
    let s = sign_of of_zero exact in
    let e = ties_to_zero_once f.precision (magnitude exact) parts x.pick y.pick x.is_pick y.is_pick in
    by_test f s exact parts y.pick h g t u i j (ltb (largest f) y.pick)
    (subst (λ (p : ℕ). MatchBool (ltb (largest f) p) (IsPastLargest f s h t i) (IsWithTail f s exact parts p h t i)) e
    x.is) y.is

both_once : (Says : Datum → ℕ → Type 0) → Once Says → (h g t u : Datum) (i j : ℕ) → AreBoth Says h t i
    → AreBoth Says g u j → AreSame h g t u i j
both_once Says once h g t u i j x y =
    let e = once h g i j x.is y.is in
    (e.0, x.tail_is ∙ e.0 ∙ sym y.tail_is, e.1)

abbrev pub HasOne : (Datum → Datum → ℕ → Type 0) → Type 0
HasOne Says = (h g t u : Datum) (i j : ℕ) → Says h t i → Says g u j → AreSame h g t u i j

pub each_once : (f : Format) → OfEachOperation HasOne f
each_once f =
    of_each HasOne f (augmented_once f) (λ x y. both_once _ (sum_once f NearestTiesToEven x y))
    (λ x y. both_once _ (difference_once f NearestTiesToEven x y))
    (λ x y. both_once _ (product_once f NearestTiesToEven x y))

-- ---- sums are exact

exact_of : (f : Format) (s : Bool) (v : ℤ) (p : ℕ) (head tail : Datum) (status : ℕ)
    → IsOnGrid f.precision (magnitude (left_of v 1 s p)) → IsWithTail f s v 1 p head tail status
    → AreExactly v head tail status
exact_of f s v p head tail status g x =
    let left = left_of v 1 s p in
    let q = magnitude left in
    let e : x.quanta ≡ q = ties_to_zero_once f.precision q 1 x.quanta q x.is_pick
    (ties_to_zero_exact f.precision q q 1 (lit< tt) g (omega arith)) in
    let h = signed_number f.nonfinite s p in
    let t = signed_number f.nonfinite (sign_of s left) q in
    let tail_is : tail ≡ signed_quanta f.nonfinite (sign_of s left) q =
    x.tail_is ∙ ap (λ (k : ℕ). signed_quanta f.nonfinite (sign_of s left) k) e in
    let b : eqb (x.quanta * 1) q ≡ true = eq-eqb (x.quanta * 1) q (omega (arith, e)) in
    let hn : number head ≡ signed s p = ap number x.head_is ∙ h.number_is in
    let tn : number tail ≡ left = ap number tail_is ∙ t.number_is ∙ signed_exact s left in
    let one : signed s (p * 1) ≡ signed s p = ap (λ (k : ℕ). signed s k) (omega arith) in
    record {
      head_is_finite = ap is_finite x.head_is ∙ h.is_finite;
      tail_is_finite = ap is_finite tail_is ∙ t.is_finite;
      sum_is = omega (arith, ints, hn, tn, one);
      status_is = x.status_is ∙ ap (λ (c : Bool). if c then ok_bits else underflow_bit + inexact_bit) b;
    }

pub sums_are_exact : IsExactSum
sums_are_exact f h (finite b m) (finite c n) head tail status mx my p q x =
    let v = signed b m +ℤ signed c n in
    let of_zero = zero_sum_sign NearestTiesToEven b c in
    let s = sign_of of_zero v in
    let a = number_in f (finite b m) p mx in
    let k = number_in f (finite c n) q my in
    let r = rest_in_format f h (signed b m) (signed c n) (signed s x.pick) a.on_grid k.on_grid k.within
    (as_nearest f.precision v (signed s x.pick) (pick_is_nearest f of_zero v x.pick x.is_pick)) in
    let one : x.pick ≡ x.pick * 1 = omega arith in
    let g : IsOnGrid f.precision (magnitude (left_of v 1 s x.pick)) =
    subst (λ (i : ℕ). IsOnGrid f.precision (magnitude (v -ℤ signed s i))) one r.on_grid in
    by g (ltb (largest f) x.pick) x.is
  where
    by : IsOnGrid f.precision (magnitude (left_of (signed b m +ℤ signed c n) 1
        (sign_of (zero_sum_sign NearestTiesToEven b c) (signed b m +ℤ signed c n)) x.pick)) → (test : Bool)
        → MatchBool test (IsPastLargest f (sign_of (zero_sum_sign NearestTiesToEven b c)
        (signed b m +ℤ signed c n)) head tail status)
        (IsWithTail f (sign_of (zero_sum_sign NearestTiesToEven b c) (signed b m +ℤ signed c n))
        (signed b m +ℤ signed c n) 1 x.pick head tail status)
        → AreExactly (signed b m +ℤ signed c n) head tail status ⊎ ((negative : Bool)
        × IsPastLargest f negative head tail status)
    by g true y = inr (sign_of (zero_sum_sign NearestTiesToEven b c) (signed b m +ℤ signed c n), y)
    by g false y = inl (exact_of f _ (signed b m +ℤ signed c n) x.pick head tail status g y)
sums_are_exact f h (finite b m) (infinite c) head tail status mx my p q x = absurd (false≢true q)
sums_are_exact f h (finite b m) (nan c n) head tail status mx my p q x = absurd (false≢true q)
sums_are_exact f h (infinite b) y head tail status mx my p q x = absurd (false≢true p)
sums_are_exact f h (nan b m) y head tail status mx my p q x = absurd (false≢true p)

-- ---- products that are an integral number of quanta are exact

-- what is left of a whole product is on the grid
whole_rest : (f : Format) → 3 ≤ f.precision → (of_zero : Bool) (a c whole exact : ℤ) (pick : ℕ)
    → IsOnGrid f.precision (magnitude a) → IsOnGrid f.precision (magnitude c) → (a *ℤ c) ≡ exact
    → (whole *ℤ pos (2 ^ f.scale)) ≡ exact → IsTiesToZeroPick f.precision (magnitude exact) (2 ^ f.scale) pick
    → IsOnGrid f.precision (magnitude (left_of whole 1 (sign_of of_zero exact) pick))
whole_rest f h of_zero a c whole exact pick g k d e t =
    let u = pow_pos f.scale in
    let m = ap magnitude (sym e) ∙ magnitude-times whole (2 ^ f.scale) in
    let t' : IsTiesToZeroPick f.precision (magnitude whole) 1 pick = ties_of_times f.precision (magnitude whole)
    (2 ^ f.scale) pick u (subst (λ (i : ℕ). IsTiesToZeroPick f.precision i (2 ^ f.scale) pick) m t) in
    let s : sign_of of_zero whole ≡ sign_of of_zero exact =
    sym (sign_times of_zero whole (2 ^ f.scale) u) ∙ ap (λ (i : ℤ). sign_of of_zero i) e in
    let n : IsNearest f.precision whole (signed (sign_of of_zero exact) pick) =
    as_nearest f.precision whole (signed (sign_of of_zero exact) pick)
    (subst (λ (b : Bool). IsNearestTo f.precision whole (signed b pick)) s (pick_is_nearest f of_zero whole pick t')) in
    let w = whole_of f.precision f.scale a c whole (omega (arith, h)) g k (e ∙ sym d) in
    let r = product_error_on_grid f.precision (eight f.precision h) f.scale a c whole
    (signed (sign_of of_zero exact) pick) w n in
    let one : pick ≡ pick * 1 = omega arith in
    subst (λ (i : ℕ). IsOnGrid f.precision (magnitude (whole -ℤ signed (sign_of of_zero exact) i))) one
    (on_grid_as (magnitude-sub (signed (sign_of of_zero exact) pick) whole) r)

exact_or_past : (f : Format) (s : Bool) (whole exact : ℤ) (pick : ℕ) (head tail : Datum) (status : ℕ)
    → (whole *ℤ pos (2 ^ f.scale)) ≡ exact → IsOnGrid f.precision (magnitude (left_of whole 1 s pick)) → (test : Bool)
    → MatchBool test (IsPastLargest f s head tail status) (IsWithTail f s exact (2 ^ f.scale) pick head tail status)
    → AreExactly whole head tail status ⊎ ((negative : Bool) × IsPastLargest f negative head tail status)
exact_or_past f s whole exact pick head tail status e g true x = inr (s, x)
exact_or_past f s whole exact pick head tail status e g false x =
    inl (exact_of f s whole pick head tail status g
    (with_tail_of_times f whole exact (2 ^ f.scale) (pow_pos f.scale) e s pick head tail status x))

pub products_are_exact : IsExactProduct
products_are_exact f h (finite b m) (finite c n) head tail status whole mx my p q e x =
    let of_zero = product_sign b c in
    let exact = signed (product_sign b c) (m * n) in
    let d = signed_product b c m n in
    let a = number_in f (finite b m) p mx in
    let k = number_in f (finite c n) q my in
    let g = whole_rest f h of_zero (signed b m) (signed c n) whole exact x.pick a.on_grid k.on_grid (sym d) (e ∙ sym d)
    x.is_pick in
    exact_or_past f (sign_of of_zero exact) whole exact x.pick head tail status (e ∙ sym d) g (ltb (largest f) x.pick)
    x.is
products_are_exact f h (finite b m) (infinite c) head tail status whole mx my p q e x = absurd (false≢true q)
products_are_exact f h (finite b m) (nan c n) head tail status whole mx my p q e x = absurd (false≢true q)
products_are_exact f h (infinite b) y head tail status whole mx my p q e x = absurd (false≢true p)
products_are_exact f h (nan b m) y head tail status whole mx my p q e x = absurd (false≢true p)
