-- Operations on finite data, to nearest, as roundings of signed integers.
use Rattle.std.proofs.Common.{◌≡◌, ℕ, zero, suc, ◌+◌, ◌-◌, ◌*◌, ◌^◌, ◌<◌, ◌≤◌, Bool}
use Rattle.std.proofs.Common.{true, false, not, cond, ltb, sym, refl, ap, ◌∙◌, subst, ⊎_elim, le_trans, arith}
use Rattle.std.proofs.{Common.lit<, Math.Nat.mul-le-mul_right, Math.Nat.le_of_mul-le-mul_right}
use Rattle.std.proofs.lemmas.{Nat.pow_pos, Bool.cases_lt, Bool.false≢true, Bool.le-ltb, Bool.lt-ltb, Int.ints}
use Rattle.std.specs.Prelude.{ℤ, pos, negsuc, neg_ℤ, ◌+ℤ◌, ◌-ℤ◌, ◌*ℤ◌}
use Rattle.apfloat_model.specs.declared.kinds.{Round.TheVariants.NearestTiesToEven, NonfiniteBehavior.NonfiniteBehavior}
use Rattle.apfloat_model.specs.{declared.kinds.NonfiniteBehavior.TheVariants.IEEE754, formats.Format.Format}
use Rattle.apfloat_model.specs.formats.{Format.largest, Format.greatest_significand, Format.nan_base, Datum.Datum}
use Rattle.apfloat_model.specs.{formats.Datum.finite, formats.Datum.infinite, formats.Datum.nan, rounding.Grid.IsOnGrid}
use Rattle.apfloat_model.specs.rounding.Rounding.{IsPick, IsDelivered, delivered_value, signed_quanta, past_largest}
use Rattle.apfloat_model.specs.{rounding.Negation.negated, order.Classes.is_finite, order.Order.number}
use Rattle.apfloat_model.specs.arithmetic.Exact.{magnitude, signed, sign_of, IsRounded}
use Rattle.apfloat_model.specs.arithmetic.Sums.{IsSum, IsDifference, zero_sum_sign}
use Rattle.apfloat_model.proofs.whole_numbers.{SignedNumbers.negated_is, SignedProducts.difference_times}
use Rattle.apfloat_model.proofs.whole_numbers.SignedProducts.{magnitude-times, times_one, signed_times}
use Rattle.apfloat_model.proofs.rounding.{Neighbours.multiple_on_grid, Laws.pick_within, ModesAgree.either_on_grid}
use Rattle.apfloat_model.proofs.rounding.Picks.{even_farther, even_nearer}
use Rattle.apfloat_model.proofs.arithmetic.{Signs.magnitude_signed, Signs.one_side, SumLaws.signed_quanta_is}
use Rattle.apfloat_model.proofs.general.Choices.{cond_times}
use Rattle.apfloat_pair_theory.proofs.numbers.{Signed.IsGridNumber, Signed.on_grid_as, Nearest.IsNearest}

-- the distance of two numbers
abbrev pub apart : ℕ → ℕ → ℕ
apart m n = (m - n) + (n - m)

-- the picked neighbour is no farther than any other grid number
pub near_at : (above : Bool) (low high other amount p : ℕ) → low ≤ amount → amount ≤ high
    → (above ≡ true → high - amount ≤ amount - low) → (above ≡ false → amount - low ≤ high - amount)
    → p ≡ cond above high low → (amount ≤ other → high ≤ other) → (other ≤ amount → other ≤ low)
    → apart p amount ≤ apart other amount
near_at true low high other amount p l h f g e u v =
    let w = f refl in
    ⊎_elim (λ (q : other < amount). let k : other ≤ low = v (omega arith) in omega (arith, w))
    (λ (q : amount ≤ other). let k : high ≤ other = u q in omega (arith, w)) (cases_lt other amount)
near_at false low high other amount p l h f g e u v =
    let w = g refl in
    ⊎_elim (λ (q : other < amount). let k : other ≤ low = v (omega arith) in omega (arith, w))
    (λ (q : amount ≤ other). let k : high ≤ other = u q in omega (arith, w)) (cases_lt other amount)

pub pick_on_grid : (precision : ℕ) (negative : Bool) (amount parts p : ℕ)
    → IsPick precision NearestTiesToEven negative amount parts p → IsOnGrid precision p
pick_on_grid precision negative amount parts p x =
    on_grid_as (sym x.is) (either_on_grid _ precision _ _ x.is_above.on_grid x.is_below.on_grid)

-- no grid number is nearer to the magnitude than the pick
pub pick_nearest : (precision : ℕ) (negative : Bool) (amount parts p other : ℕ)
    → IsPick precision NearestTiesToEven negative amount parts p → IsOnGrid precision other
    → apart (p * parts) amount ≤ apart (other * parts) amount
pick_nearest precision negative amount parts p other x o =
    near_at _ (x.below * parts) (x.above * parts) (other * parts) amount
    (p * parts) x.is_below.not_above x.is_above.not_below (even_nearer negative _ _ _) (even_farther negative _ _ _)
    (ap (λ (n : ℕ). n * parts) x.is ∙ cond_times _ x.above x.below parts)
    (λ h. mul-le-mul_right parts (x.is_above.least other o h))
    (λ h. mul-le-mul_right parts (x.is_below.greatest other o h))

-- ---- with a sign

-- the sign and the magnitude of a number give the number
pub signed_exact : (of_zero : Bool) (exact : ℤ) → signed (sign_of of_zero exact) (magnitude exact) ≡ exact
signed_exact true (pos zero) = refl
signed_exact false (pos zero) = refl
signed_exact of_zero (pos (suc n)) = omega (arith, ints)
signed_exact of_zero (negsuc n) = omega (arith, ints)

-- the distance of two numbers of the same sign
pub signed_apart : (negative : Bool) (m n : ℕ) → magnitude (signed negative m -ℤ signed negative n) ≡ apart m n
signed_apart true m n = omega (arith, ints, one_side (neg_ℤ (pos m) -ℤ neg_ℤ (pos n)))
signed_apart false m n = omega (arith, ints, one_side (pos m -ℤ pos n))

-- two signed numbers are at least as far apart as their magnitudes
pub signed_far : (negative : Bool) (g : ℤ) (n : ℕ) → apart (magnitude g) n ≤ magnitude (g -ℤ signed negative n)
signed_far true g n = omega (arith, ints, one_side g, one_side (g -ℤ neg_ℤ (pos n)))
signed_far false g n = omega (arith, ints, one_side g, one_side (g -ℤ pos n))

-- the same distance, the first number in quanta and the second in parts of a quantum
pub signed_away : (negative : Bool) (m n u : ℕ)
    → magnitude ((signed negative m *ℤ pos u) -ℤ signed negative n) ≡ apart (m * u) n
signed_away s m n u = ap (λ (i : ℤ). magnitude (i -ℤ signed s n)) (sym (signed_times s m u)) ∙ signed_apart s (m * u) n

-- z is a grid number, and no grid number is nearer to exact / parts
pub record IsNearestFraction (precision parts : ℕ) (exact z : ℤ) : Type 0 where
  pub on_grid : IsGridNumber precision z
  pub nearest : (other : ℤ) → IsGridNumber precision other
      → magnitude ((z *ℤ pos parts) -ℤ exact) ≤ magnitude ((other *ℤ pos parts) -ℤ exact)

-- the pick with the sign of the amount is the nearest of all signed grid numbers
pub pick_is_nearest : (precision : ℕ) (negative : Bool) (amount parts p : ℕ)
    → IsPick precision NearestTiesToEven negative amount parts p
    → IsNearestFraction precision parts (signed negative amount) (signed negative p)
pick_is_nearest precision s amount parts p x = record {
  on_grid = on_grid_as (sym (magnitude_signed s p)) (pick_on_grid precision s amount parts p x);
  nearest = λ other o.
      let b = signed_far s (other *ℤ pos parts) amount in
      let b' : apart (magnitude other * parts) amount ≤ magnitude ((other *ℤ pos parts) -ℤ signed s amount) =
      subst (λ (i : ℕ). apart i amount ≤ magnitude ((other *ℤ pos parts) -ℤ signed s amount))
      (magnitude-times other parts) b in
      subst (λ (i : ℕ). i ≤ magnitude ((other *ℤ pos parts) -ℤ signed s amount)) (sym (signed_away s p amount parts))
      (le_trans (pick_nearest precision s amount parts p (magnitude other) x o) b');
}

-- the distance from a result of whole quanta, in parts of a quantum
away_times : (parts : ℕ) (exact x z : ℤ) → (x *ℤ pos parts) ≡ exact
    → magnitude ((z *ℤ pos parts) -ℤ exact) ≡ magnitude (z -ℤ x) * parts
away_times parts exact x z e =
    ap (λ (i : ℤ). magnitude ((z *ℤ pos parts) -ℤ i)) (sym e) ∙ ap magnitude (sym (difference_times z x (pos parts)))
    ∙ magnitude-times (z -ℤ x) parts

-- an exact result of an integral number of quanta rounds like that number
pub whole_nearest : (precision parts : ℕ) (exact x z : ℤ) → 0 < parts → (x *ℤ pos parts) ≡ exact
    → IsNearestFraction precision parts exact z → IsNearest precision x z
whole_nearest precision parts exact x z u e n = record {
  on_grid = n.on_grid;
  nearest = λ other o.
      let a : magnitude (z -ℤ x) * parts ≤ magnitude ((other *ℤ pos parts) -ℤ exact) =
      subst (λ (i : ℕ). i ≤ magnitude ((other *ℤ pos parts) -ℤ exact)) (away_times parts exact x z e)
      (n.nearest other o) in
      let b : magnitude (z -ℤ x) * parts ≤ magnitude (other -ℤ x) * parts =
      subst (λ (i : ℕ). magnitude (z -ℤ x) * parts ≤ i) (away_times parts exact x other e) a in
      le_of_mul-le-mul_right b u;
}

-- ---- delivered values

pub largest_on_grid : (format : Format) → format.nonfinite ≡ IEEE754 → IsOnGrid format.precision (largest format)
largest_on_grid format e =
    let u = pow_pos format.precision in
    subst (λ (k : NonfiniteBehavior). IsOnGrid format.precision
    (greatest_significand k format.precision * 2 ^ format.span)) (sym e)
    (multiple_on_grid format.precision (2 ^ format.precision - 1) format.span (omega arith))

-- past its largest value, an IEEE format has an infinity
past_is : (format : Format) (negative : Bool) → format.nonfinite ≡ IEEE754
    → past_largest format.nonfinite (nan_base format) negative ≡ infinite negative
past_is format s k = ap (λ (i : NonfiniteBehavior). past_largest i (nan_base format) s) k

-- a pick within the largest value is delivered
pub within_is : (format : Format) (negative : Bool) (p : ℕ) → format.nonfinite ≡ IEEE754 → p ≤ largest format
    → delivered_value format NearestTiesToEven negative p ≡ finite negative p
within_is format s p k h =
    let b : ltb (largest format) p ≡ false = le-ltb (largest format) p h in
    rw b (ap (λ (i : NonfiniteBehavior). signed_quanta i s p) k ∙ signed_quanta_is s p)

-- for a pick past the largest value, an infinity is delivered
pub beyond_is : (format : Format) (negative : Bool) (p : ℕ) → format.nonfinite ≡ IEEE754 → largest format < p
    → delivered_value format NearestTiesToEven negative p ≡ infinite negative
beyond_is format s p k h =
    let b : ltb (largest format) p ≡ true = lt-ltb (largest format) p h in
    rw b (past_is format s k)

-- a finite value is the pick with its sign
pub finite_is : (format : Format) (negative : Bool) (p : ℕ) (value : Datum) → format.nonfinite ≡ IEEE754
    → is_finite value ≡ true → value ≡ delivered_value format NearestTiesToEven negative p → value ≡ finite negative p
finite_is format s p value k h e =
    ⊎_elim
    (λ (q : largest format < p). let w : value ≡ infinite s = e ∙ beyond_is format s p k q in
    absurd (false≢true (sym (ap is_finite w) ∙ h)))
    (λ (q : p ≤ largest format). e ∙ within_is format s p k q)
    (cases_lt (largest format) p)

-- a finite datum whose number is nearest to the exact one, in whole quanta and in parts of a quantum
pub record IsRoundedTo (precision : ℕ) (exact : ℤ) (value : Datum) : Type 0 where
  pub is_finite : is_finite value ≡ true
  pub nearest : IsNearest precision exact (number value)

pub record IsFractionRoundedTo (precision parts : ℕ) (exact : ℤ) (value : Datum) : Type 0 where
  pub is_finite : is_finite value ≡ true
  pub nearest : IsNearestFraction precision parts exact (number value)

-- a rounding of a fraction that is an integral number of quanta is a rounding of those quanta
pub whole_rounded : (precision parts : ℕ) (exact x : ℤ) (value : Datum) → 0 < parts → (x *ℤ pos parts) ≡ exact
    → IsFractionRoundedTo precision parts exact value → IsRoundedTo precision x value
whole_rounded precision parts exact x value u e r = record {
  is_finite = r.is_finite;
  nearest = whole_nearest precision parts exact x (number value) u e r.nearest;
}

-- a finite delivered value is a nearest number
picked_rounded : (format : Format) (negative : Bool) (amount parts : ℕ) (exact : ℤ) (value : Datum) (p : ℕ)
    → signed negative amount ≡ exact → IsPick format.precision NearestTiesToEven negative amount parts p
    → value ≡ finite negative p → IsFractionRoundedTo format.precision parts exact value
picked_rounded format s amount parts exact value p e x v =
    let n : IsNearestFraction format.precision parts exact (signed s p) =
    subst (λ (z : ℤ). IsNearestFraction format.precision parts z (signed s p)) e
    (pick_is_nearest format.precision s amount parts p x) in
    record {
      is_finite = ap is_finite v;
      nearest = subst (λ (d : Datum). IsNearestFraction format.precision parts exact (number d)) (sym v) n;
    }

-- within the largest value, the delivered value is finite
pub fraction_delivered : (format : Format) (negative : Bool) (amount parts : ℕ) (exact : ℤ) (value : Datum) (status : ℕ)
    → format.nonfinite ≡ IEEE754 → 0 < parts → amount ≤ largest format * parts → signed negative amount ≡ exact
    → IsDelivered format NearestTiesToEven negative amount parts value status
    → IsFractionRoundedTo format.precision parts exact value
fraction_delivered format s amount parts exact value status k u h e x =
    let w = (pick_within format.precision NearestTiesToEven s amount parts x.pick u x.is_pick).0 in
    let l : x.is_pick.above ≤ largest format = x.is_pick.is_above.least (largest format) (largest_on_grid format k) h in
    picked_rounded format s amount parts exact value x.pick e x.is_pick
    (x.value_is ∙ within_is format s x.pick k (omega (arith, w)))

-- the same for a signed exact result
pub fraction_within : (format : Format) (of_zero : Bool) (exact : ℤ) (parts : ℕ) (value : Datum) (status : ℕ)
    → format.nonfinite ≡ IEEE754 → 0 < parts → magnitude exact ≤ largest format * parts
    → IsRounded format NearestTiesToEven of_zero exact parts value status
    → IsFractionRoundedTo format.precision parts exact value
fraction_within format of_zero exact parts value status k u h x =
    fraction_delivered format (sign_of of_zero exact) (magnitude exact) parts exact value status k u h
    (signed_exact of_zero exact) x

-- the same for whole quanta
pub within_nearest : (format : Format) (of_zero : Bool) (exact : ℤ) (value : Datum) (status : ℕ)
    → format.nonfinite ≡ IEEE754 → magnitude exact ≤ largest format
    → IsRounded format NearestTiesToEven of_zero exact 1 value status → IsRoundedTo format.precision exact value
within_nearest format of_zero exact value status k h x =
    whole_rounded format.precision 1 exact exact value (lit< tt) (times_one exact)
    (fraction_within format of_zero exact 1 value status k (lit< tt) (omega (arith, h)) x)

-- a finite result is a nearest number
pub finite_nearest : (format : Format) (of_zero : Bool) (exact : ℤ) (value : Datum) (status : ℕ)
    → format.nonfinite ≡ IEEE754 → is_finite value ≡ true
    → IsRounded format NearestTiesToEven of_zero exact 1 value status → IsRoundedTo format.precision exact value
finite_nearest format of_zero exact value status k h x =
    whole_rounded format.precision 1 exact exact value (lit< tt) (times_one exact)
    (picked_rounded format (sign_of of_zero exact) (magnitude exact) 1 exact value x.pick
    (signed_exact of_zero exact) x.is_pick (finite_is format (sign_of of_zero exact) x.pick value k h x.value_is))

-- ---- sums and differences of finite data

-- a finite sum of finite data is a nearest number
pub sum_finite : (format : Format) (x y value : Datum) (status : ℕ) → format.nonfinite ≡ IEEE754 → is_finite x ≡ true
    → is_finite y ≡ true → is_finite value ≡ true → IsSum format NearestTiesToEven x y value status
    → IsRoundedTo format.precision (number x +ℤ number y) value
sum_finite format (finite b m) (finite c n) value status k p q h s =
    finite_nearest format (zero_sum_sign NearestTiesToEven b c) (signed b m +ℤ signed c n) value status k h s
sum_finite format (finite b m) (infinite c) value status k p q h s = absurd (false≢true q)
sum_finite format (finite b m) (nan c n) value status k p q h s = absurd (false≢true q)
sum_finite format (infinite b) y value status k p q h s = absurd (false≢true p)
sum_finite format (nan b m) y value status k p q h s = absurd (false≢true p)

-- a sum within the largest value is finite, and a nearest number
pub sum_within : (format : Format) (x y value : Datum) (status : ℕ) → format.nonfinite ≡ IEEE754
    → is_finite x ≡ true → is_finite y ≡ true → magnitude (number x +ℤ number y) ≤ largest format
    → IsSum format NearestTiesToEven x y value status → IsRoundedTo format.precision (number x +ℤ number y) value
sum_within format (finite b m) (finite c n) value status k p q h s =
    within_nearest format (zero_sum_sign NearestTiesToEven b c) (signed b m +ℤ signed c n) value status k h s
sum_within format (finite b m) (infinite c) value status k p q h s = absurd (false≢true q)
sum_within format (finite b m) (nan c n) value status k p q h s = absurd (false≢true q)
sum_within format (infinite b) y value status k p q h s = absurd (false≢true p)
sum_within format (nan b m) y value status k p q h s = absurd (false≢true p)

-- the opposite sign negates a number
pub signed_not : (negative : Bool) (n : ℕ) → signed (not negative) n ≡ neg_ℤ (signed negative n)
signed_not true n = omega (arith, ints)
signed_not false n = refl

-- the negation of a finite datum is finite, and has the negated number
pub negated_finite : (datum : Datum) → is_finite datum ≡ true → is_finite (negated IEEE754 datum) ≡ true
negated_finite (finite s n) h = ap is_finite (negated_is s n)
negated_finite (infinite s) h = absurd (false≢true h)
negated_finite (nan s n) h = absurd (false≢true h)

pub negated_number : (datum : Datum) → is_finite datum ≡ true → number (negated IEEE754 datum) ≡ neg_ℤ (number datum)
negated_number (finite s n) h = ap number (negated_is s n) ∙ signed_not s n
negated_number (infinite s) h = absurd (false≢true h)
negated_number (nan s n) h = absurd (false≢true h)

-- a difference is the sum with the negation of y
pub difference_is : (format : Format) (x y value : Datum) (status : ℕ) → format.nonfinite ≡ IEEE754 → is_finite x ≡ true
    → is_finite y ≡ true → IsDifference format NearestTiesToEven x y value status
    → IsSum format NearestTiesToEven x (negated IEEE754 y) value status
difference_is format (finite b m) (finite c n) value status k p q s =
    subst (λ (i : NonfiniteBehavior). IsSum format NearestTiesToEven (finite b m) (negated i (finite c n)) value status)
    k s
difference_is format (finite b m) (infinite c) value status k p q s = absurd (false≢true q)
difference_is format (finite b m) (nan c n) value status k p q s = absurd (false≢true q)
difference_is format (infinite b) y value status k p q s = absurd (false≢true p)
difference_is format (nan b m) y value status k p q s = absurd (false≢true p)

-- a difference within the largest value is rounded to the nearest
pub difference_within : (format : Format) (x y value : Datum) (status : ℕ) → format.nonfinite ≡ IEEE754
    → is_finite x ≡ true → is_finite y ≡ true → magnitude (number x -ℤ number y) ≤ largest format
    → IsDifference format NearestTiesToEven x y value status → IsRoundedTo format.precision (number x -ℤ number y) value
difference_within format x y value status k p q h s =
    let e = negated_number y q in
    let d : (number x +ℤ number (negated IEEE754 y)) ≡ (number x -ℤ number y) = omega (arith, ints, e) in
    subst (λ (i : ℤ). IsRoundedTo format.precision i value) d
    (sum_within format x (negated IEEE754 y) value status k p (negated_finite y q)
    (subst (λ (i : ℤ). magnitude i ≤ largest format) (sym d) h) (difference_is format x y value status k p q s))
