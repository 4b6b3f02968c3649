-- Integers and magnitudes times a number of parts: what is picked for such a multiple, and the augmented result of it.
use Rattle.std.proofs.Common.{◌≡◌, ℕ, zero, suc, ◌+◌, ◌*◌, ◌<◌, ◌≤◌, Bool, true, false, eqb}
use Rattle.std.proofs.Common.{ltb, if◌then◌else◌, sym, refl, ap, ◌∙◌, subst, ⊎_elim, arith}
use Rattle.std.proofs.Math.Nat.{mul-le-mul_right, mul-lt-mul_of_pos_right, le_of_mul-le-mul_right}
use Rattle.std.proofs.lemmas.{Bool.cases_lt, Bool.cases_eq, Bool.eq-eqb, Bool.ne_eqb, Int.ints}
use Rattle.std.specs.Prelude.{ℤ, pos, negsuc, ◌-ℤ◌, ◌*ℤ◌}
use Rattle.std.specs.Bool.{MatchBool}
use Rattle.apfloat_model.specs.formats.{Format.Format, Format.largest, Datum.Datum}
use Rattle.apfloat_model.specs.rounding.Grid.{IsBelow, IsAbove}
use Rattle.apfloat_model.specs.rounding.Rounding.{signed_quanta, ok_bits, inexact_bit, underflow_bit}
use Rattle.apfloat_model.specs.arithmetic.Exact.{magnitude, signed, sign_of}
use Rattle.apfloat_model.proofs.{arithmetic.Signs.one_side, whole_numbers.SignedProducts.difference_times}
use Rattle.apfloat_model.proofs.whole_numbers.SignedProducts.{magnitude-times, signed_times, sign_times}
use Rattle.ieee_operations.specs.augmented.TiesToZero.{nearer_between, IsTiesToZeroPick}
use Rattle.ieee_operations.specs.augmented.Augmented.{left_of, IsPastLargest, IsWithTail, IsAugmented}
use Rattle.ieee_operations.proofs.augmented_lemmas.TiesToZero.{takes_low, takes_high}

-- ---- integers

same_apart : (x y : ℤ) → x ≡ y → magnitude (x -ℤ y) ≡ 0
same_apart x y h = omega (arith, ints, h, one_side (x -ℤ y))

not_apart : (x y : ℤ) → magnitude (x -ℤ y) ≤ 0 → x ≡ y
not_apart x y h = omega (arith, ints, h, one_side (x -ℤ y))

-- a factor above 0 can be cancelled
pub times_cancelled : (a b : ℤ) (u : ℕ) → 0 < u → (a *ℤ pos u) ≡ (b *ℤ pos u) → a ≡ b
times_cancelled a b u p e =
    let z : magnitude (a -ℤ b) * u ≡ 0 = sym (magnitude-times (a -ℤ b) u) ∙ ap magnitude (difference_times a b (pos u))
    ∙ same_apart (a *ℤ pos u) (b *ℤ pos u) e in
    let l : magnitude (a -ℤ b) * u ≤ 0 * u = omega (arith, z) in
    not_apart a b (le_of_mul-le-mul_right l p)

-- an integer other than 0 has its own sign
pub sign_some : (of_zero other : Bool) (z : ℤ) → 0 < magnitude z → sign_of of_zero z ≡ sign_of other z
sign_some of_zero other (pos zero) p = absurd (omega (arith, p))
sign_some of_zero other (pos (suc n)) p = refl
sign_some of_zero other (negsuc n) p = refl

-- ---- neighbours of a multiple

pub below_times : (precision g amount parts : ℕ) → 0 < parts → IsBelow precision g amount 1
    → IsBelow precision g (amount * parts) parts
below_times precision g amount parts p x = record {
  on_grid = x.on_grid;
  not_above = mul-le-mul_right parts (omega arith);
  greatest = λ other o l. x.greatest other o (omega (arith, le_of_mul-le-mul_right l p));
}

pub above_times : (precision g amount parts : ℕ) → 0 < parts → IsAbove precision g amount 1
    → IsAbove precision g (amount * parts) parts
above_times precision g amount parts p x = record {
  on_grid = x.on_grid;
  not_below = mul-le-mul_right parts (omega arith);
  least = λ other o l. x.least other o (omega (arith, le_of_mul-le-mul_right l p));
}

-- the neighbours of a multiple are those of the magnitude
pub below_of_times : (precision g amount parts : ℕ) → 0 < parts → IsBelow precision g (amount * parts) parts
    → IsBelow precision g amount 1
below_of_times precision g amount parts p x =
    let k : g ≤ amount = le_of_mul-le-mul_right x.not_above p in
    record {
      on_grid = x.on_grid;
      not_above = omega (arith, k);
      greatest = λ other o l.
          let m : other ≤ amount = omega (arith, l) in
          x.greatest other o (mul-le-mul_right parts m);
    }

pub above_of_times : (precision g amount parts : ℕ) → 0 < parts → IsAbove precision g (amount * parts) parts
    → IsAbove precision g amount 1
above_of_times precision g amount parts p x =
    let k : amount ≤ g = le_of_mul-le-mul_right x.not_below p in
    record {
      on_grid = x.on_grid;
      not_below = omega (arith, k);
      least = λ other o l.
          let m : amount ≤ other = omega (arith, l) in
          x.least other o (mul-le-mul_right parts m);
    }

-- ---- the nearer neighbour

-- which neighbour is taken, by the sum of the two
pub takes_low_by : (low high amount parts : ℕ) → low * parts ≤ amount → amount ≤ high * parts
    → 2 * amount ≤ (low + high) * parts → nearer_between low high amount parts ≡ low
takes_low_by low high amount parts l h k = takes_low low high amount parts (omega (arith, l, h, k))

pub takes_high_by : (low high amount parts : ℕ) → low * parts ≤ amount → amount ≤ high * parts
    → (low + high) * parts < 2 * amount → nearer_between low high amount parts ≡ high
takes_high_by low high amount parts l h k = takes_high low high amount parts (omega (arith, l, h, k))

-- the nearer neighbour of a multiple is that of the magnitude
pub nearer_times : (low high amount parts : ℕ) → 0 < parts → low ≤ amount → amount ≤ high
    → nearer_between low high (amount * parts) parts ≡ nearer_between low high amount 1
nearer_times low high amount parts p l h =
    let l' : low * parts ≤ amount * parts = mul-le-mul_right parts l in
    let h' : amount * parts ≤ high * parts = mul-le-mul_right parts h in
    ⊎_elim
    (λ (q : low + high < 2 * amount).
    let k : (low + high) * parts < 2 * amount * parts = mul-lt-mul_of_pos_right q p in
    takes_high_by low high (amount * parts) parts l' h' (omega (arith, k)) ∙
    sym (takes_high_by low high amount 1 (omega (arith, l)) (omega (arith, h)) (omega (arith, q))))
    (λ (q : 2 * amount ≤ low + high).
    let k : 2 * amount * parts ≤ (low + high) * parts = mul-le-mul_right parts q in
    takes_low_by low high (amount * parts) parts l' h' (omega (arith, k)) ∙
    sym (takes_low_by low high amount 1 (omega (arith, l)) (omega (arith, h)) (omega (arith, q))))
    (cases_lt (low + high) (2 * amount))

-- what is picked for a magnitude is picked for its multiple, and the other way round
pub ties_times : (precision amount parts pick : ℕ) → 0 < parts → IsTiesToZeroPick precision amount 1 pick
    → IsTiesToZeroPick precision (amount * parts) parts pick
ties_times precision amount parts pick p x =
    let l = x.is_below.not_above in
    let h = x.is_above.not_below in
    record {
      below = x.below;
      above = x.above;
      is_below = below_times precision x.below amount parts p x.is_below;
      is_above = above_times precision x.above amount parts p x.is_above;
      is = x.is ∙ sym (nearer_times x.below x.above amount parts p (omega (arith, l)) (omega (arith, h)));
    }

pub ties_of_times : (precision amount parts pick : ℕ) → 0 < parts
    → IsTiesToZeroPick precision (amount * parts) parts pick → IsTiesToZeroPick precision amount 1 pick
ties_of_times precision amount parts pick p x =
    let l : x.below ≤ amount = le_of_mul-le-mul_right x.is_below.not_above p in
    let h : amount ≤ x.above = le_of_mul-le-mul_right x.is_above.not_below p in
    record {
      below = x.below;
      above = x.above;
      is_below = below_of_times precision x.below amount parts p x.is_below;
      is_above = above_of_times precision x.above amount parts p x.is_above;
      is = x.is ∙ nearer_times x.below x.above amount parts p l h;
    }

-- ---- the two results for a multiple

-- what a head leaves of a multiple is the multiple of what it leaves
pub left_times : (whole exact : ℤ) (parts : ℕ) (negative : Bool) (pick : ℕ) → (whole *ℤ pos parts) ≡ exact
    → (left_of whole 1 negative pick *ℤ pos parts) ≡ left_of exact parts negative pick
left_times whole exact parts s pick e =
    let one : pick * 1 * parts ≡ pick * parts = omega arith in
    difference_times whole (signed s (pick * 1)) (pos parts) ∙ ap (λ (i : ℤ). i -ℤ (signed s (pick * 1) *ℤ pos parts)) e
    ∙ ap (λ (i : ℤ). exact -ℤ i) (sym (signed_times s (pick * 1) parts) ∙ ap (λ (k : ℕ). signed s k) one)

eqb_times : (m n parts : ℕ) → 0 < parts → eqb (m * parts) (n * parts) ≡ eqb (m * 1) n
eqb_times m n parts p =
    ⊎_elim
    (λ (h : m ≡ n).
    let k : m * parts ≡ n * parts = ap (λ (i : ℕ). i * parts) h in
    eq-eqb (m * parts) (n * parts) k ∙ sym (eq-eqb (m * 1) n (omega (arith, h))))
    (λ (h : m ≡ n → ⊥).
    ne_eqb (m * parts) (n * parts)
    (λ k.
    let a : m * parts ≤ n * parts = omega (arith, k) in
    let b : n * parts ≤ m * parts = omega (arith, k) in
    let a' : m ≤ n = le_of_mul-le-mul_right a p in
    let b' : n ≤ m = le_of_mul-le-mul_right b p in
    h (omega (arith, a', b')))
    ∙ sym (ne_eqb (m * 1) n (λ k. h (omega (arith, k)))))
    (cases_eq m n)

module _ (f : Format) (whole exact : ℤ) (parts : ℕ) (some : 0 < parts) (is : (whole *ℤ pos parts) ≡ exact) where
  with_tail_times : (s : Bool) (pick : ℕ) (head tail : Datum) (status : ℕ)
      → IsWithTail f s whole 1 pick head tail status → IsWithTail f s exact parts pick head tail status
  with_tail_times s pick head tail status x =
      let e = left_times whole exact parts s pick is in
      let left = left_of whole 1 s pick in
      let m = sym (magnitude-times left parts) ∙ ap magnitude e in
      let g : sign_of s left ≡ sign_of s (left_of exact parts s pick) =
      sym (sign_times s left parts some) ∙ ap (λ (i : ℤ). sign_of s i) e in
      record {
        head_is = x.head_is;
        quanta = x.quanta;
        is_pick = subst (λ (i : ℕ). IsTiesToZeroPick f.precision i parts x.quanta) m
            (ties_times f.precision (magnitude left) parts x.quanta some x.is_pick);
        tail_is = x.tail_is ∙ ap (λ (c : Bool). signed_quanta f.nonfinite c x.quanta) g;
        status_is = x.status_is ∙ ap (λ (c : Bool). if c then ok_bits else underflow_bit + inexact_bit)
            (sym (eqb_times x.quanta (magnitude left) parts some) ∙ ap (λ (i : ℕ). eqb (x.quanta * parts) i) m);
      }

  pub with_tail_of_times : (s : Bool) (pick : ℕ) (head tail : Datum) (status : ℕ)
      → IsWithTail f s exact parts pick head tail status → IsWithTail f s whole 1 pick head tail status
  with_tail_of_times s pick head tail status x =
      let e = left_times whole exact parts s pick is in
      let left = left_of whole 1 s pick in
      let m = ap magnitude (sym e) ∙ magnitude-times left parts in
      let g : sign_of s (left_of exact parts s pick) ≡ sign_of s left =
      ap (λ (i : ℤ). sign_of s i) (sym e) ∙ sign_times s left parts some in
      record {
        head_is = x.head_is;
        quanta = x.quanta;
        is_pick = ties_of_times f.precision (magnitude left) parts x.quanta some
            (subst (λ (i : ℕ). IsTiesToZeroPick f.precision i parts x.quanta) m x.is_pick);
        tail_is = x.tail_is ∙ ap (λ (c : Bool). signed_quanta f.nonfinite c x.quanta) g;
        status_is = x.status_is ∙ ap (λ (c : Bool). if c then ok_bits else underflow_bit + inexact_bit)
            (ap (λ (i : ℕ). eqb (x.quanta * parts) i) m ∙ eqb_times x.quanta (magnitude left) parts some);
      }

  either_times : (s t : Bool) (pick : ℕ) (head tail : Datum) (status : ℕ) → s ≡ t → (test : Bool)
      → MatchBool test (IsPastLargest f s head tail status) (IsWithTail f s whole 1 pick head tail status)
      → MatchBool test (IsPastLargest f t head tail status) (IsWithTail f t exact parts pick head tail status)
  either_times s t pick head tail status e true x = subst (λ (c : Bool). IsPastLargest f c head tail status) e x
  either_times s t pick head tail status e false x =
      subst (λ (c : Bool). IsWithTail f c exact parts pick head tail status) e
      (with_tail_times s pick head tail status x)

  -- The augmented result of an integral number of quanta other than 0 is that of the same number in parts.
  pub augmented_times : (of_zero other : Bool) (head tail : Datum) (status : ℕ) → 0 < magnitude exact
      → IsAugmented f of_zero whole 1 head tail status → IsAugmented f other exact parts head tail status
  augmented_times of_zero other head tail status p x =
      let m : magnitude whole * parts ≡ magnitude exact = sym (magnitude-times whole parts) ∙ ap magnitude is in
      let g : sign_of of_zero whole ≡ sign_of other exact = sym (sign_times of_zero whole parts some)
      ∙ ap (λ (i : ℤ). sign_of of_zero i) is ∙ sign_some of_zero other exact p in
      record {
        pick = x.pick;
        is_pick = subst (λ (i : ℕ). IsTiesToZeroPick f.precision i parts x.pick) m
            (ties_times f.precision (magnitude whole) parts x.pick some x.is_pick);
        is = either_times (sign_of of_zero whole) (sign_of other exact) x.pick head tail status g
            (ltb (largest f) x.pick) x.is;
      }
