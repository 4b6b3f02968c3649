-- A finite sum of finite data raises no flag other than INEXACT.
use Rattle.std.proofs.Common.{◌≡◌, ℕ, ◌-◌, ◌*◌, ◌^◌, ◌<◌, ◌≤◌, Bool, true, false, eqb}
use Rattle.std.proofs.Common.{ltb, leb, inl, inr, sym, refl, ap, ◌∙◌, ⊎_elim, arith, lit<}
use Rattle.std.proofs.{Math.Nat.pow-le-pow_right, lemmas.Nat.pow_pos}
use Rattle.std.proofs.lemmas.Bool.{cases_lt, cases_eq, false≢true, le-ltb, lt-leb, eq-eqb, ne_eqb}
use Rattle.std.specs.Prelude.{ℤ, ◌+ℤ◌}
use Rattle.apfloat_model.specs.declared.kinds.NonfiniteBehavior.TheVariants.{IEEE754}
use Rattle.apfloat_model.specs.{declared.kinds.Round.TheVariants.NearestTiesToEven, formats.Format.Format}
use Rattle.apfloat_model.specs.formats.{Format.largest, Format.smallest_normalized, Datum.Datum, Datum.finite}
use Rattle.apfloat_model.specs.{formats.Datum.infinite, formats.Datum.nan, rounding.Grid.IsOnGrid}
use Rattle.apfloat_model.specs.rounding.Rounding.{IsPick, delivered_status, is_tiny, ok_bits, inexact_bit}
use Rattle.apfloat_model.specs.{rounding.Negation.negated, order.Classes.is_finite}
use Rattle.apfloat_model.specs.arithmetic.Exact.{magnitude, signed, sign_of, IsRounded}
use Rattle.apfloat_model.specs.arithmetic.Sums.{IsSum, IsDifference, zero_sum_sign}
use Rattle.apfloat_model.proofs.general.{Powers.two_pos, Choices.either_false}
use Rattle.apfloat_model.proofs.rounding.{Laws.exact_is_picked, Laws.pick_within, Picks.pick_unique}
use Rattle.apfloat_pair_theory.specs.PairSums.{◌∪◌}
use Rattle.apfloat_pair_theory.specs.PairAccuracy.{IsOkOrInexact}
use Rattle.apfloat_pair_theory.proofs.numbers.Roundings.{beyond_is, negated_finite, difference_is}

-- ---- one rounding to a whole number of quanta

-- a number of at most `precision` digits is rounded exactly
small_is_exact : (precision : ℕ) (negative : Bool) (amount p : ℕ) → amount < 2 ^ precision
    → IsPick precision NearestTiesToEven negative amount 1 p → p ≡ amount
small_is_exact precision negative amount p h x =
    let g : IsOnGrid precision amount = record { significand = amount; place = 0; fits = h; is = omega arith } in
    pick_unique precision NearestTiesToEven negative amount 1 p amount x
    (exact_is_picked precision NearestTiesToEven negative amount amount 1 (lit< tt) g (omega arith))

-- the pick of a number of more digits has more digits too
large_is_picked_large : (precision : ℕ) (negative : Bool) (amount p : ℕ) → 1 < 2 ^ precision → 2 ^ precision ≤ amount
    → IsPick precision NearestTiesToEven negative amount 1 p → 2 ^ precision ≤ p
large_is_picked_large precision negative amount p w h x =
    let g : IsOnGrid precision (2 ^ precision) = record {
      significand = 1;
      place = precision;
      fits = w;
      is = omega arith;
    } in
    let b : 2 ^ precision ≤ x.below = x.is_below.greatest (2 ^ precision) g (omega arith) in
    let l = (pick_within precision NearestTiesToEven negative amount 1 p (lit< tt) x).1 in
    omega (arith, b, l)

-- an amount and a pick of more than `precision` digits are not tiny
not_tiny : (format : Format) (negative : Bool) (amount p : ℕ) → 2 ^ format.precision ≤ amount
    → 2 ^ format.precision ≤ p → is_tiny format NearestTiesToEven negative amount 1 p ≡ false
not_tiny format negative amount p h l =
    let s : smallest_normalized format ≤ 2 ^ format.precision = pow-le-pow_right two_pos (omega arith) in
    let w : 0 < 2 ^ format.precision = pow_pos format.precision in
    let a : leb (2 * amount) ((2 ^ format.precision - 1) * 1) ≡ false = lt-leb _ _ (omega arith) in
    let b : ltb (2 * amount) (2 ^ format.precision * 1) ≡ false = le-ltb _ _ (omega arith) in
    either_false format.tiny_before_rounding _ _ (le-ltb amount (smallest_normalized format * 1) (omega arith))
    (either_false format.ieee_flags _ _ (rw (a, b) refl) (le-ltb p (smallest_normalized format) (omega arith)))

-- an inexact pick is not tiny, since a number of at most `precision` digits is exact
inexact_not_tiny : (format : Format) (negative : Bool) (amount p : ℕ) → 1 < 2 ^ format.precision → (p * 1 ≡ amount → ⊥)
    → IsPick format.precision NearestTiesToEven negative amount 1 p
    → is_tiny format NearestTiesToEven negative amount 1 p ≡ false
inexact_not_tiny format negative amount p w n x =
    ⊎_elim
    (λ (h : amount < 2 ^ format.precision). let e = small_is_exact format.precision negative amount p h x in
    absurd (n (omega (arith, e))))
    (λ (h : 2 ^ format.precision ≤ amount).
    not_tiny format negative amount p h (large_is_picked_large format.precision negative amount p w h x))
    (cases_lt amount (2 ^ format.precision))

-- a pick within the largest value raises at most INEXACT
within_status : (format : Format) (negative : Bool) (amount p status : ℕ) → 1 < 2 ^ format.precision
    → p ≤ largest format → IsPick format.precision NearestTiesToEven negative amount 1 p
    → status ≡ delivered_status format NearestTiesToEven negative amount 1 p → IsOkOrInexact status
within_status format negative amount p status w l x e =
    let a : ltb (largest format) p ≡ false = le-ltb (largest format) p l in
    ⊎_elim
    (λ (h : p * 1 ≡ amount).
    let b : eqb (p * 1) amount ≡ true = eq-eqb (p * 1) amount h in
    let d : delivered_status format NearestTiesToEven negative amount 1 p ≡ ok_bits = rw (a, b) refl in
    inl (e ∙ d))
    (λ (h : p * 1 ≡ amount → ⊥).
    let b : eqb (p * 1) amount ≡ false = ne_eqb (p * 1) amount h in
    let t : is_tiny format NearestTiesToEven negative amount 1 p ≡ false =
    inexact_not_tiny format negative amount p w h x in
    let d : delivered_status format NearestTiesToEven negative amount 1 p ≡ inexact_bit = rw (a, b, t) refl in
    inr (e ∙ d))
    (cases_eq (p * 1) amount)

-- any rounding with a finite value raises at most INEXACT
rounded_status : (format : Format) (of_zero : Bool) (exact : ℤ) (value : Datum) (status : ℕ)
    → format.nonfinite ≡ IEEE754 → 1 < 2 ^ format.precision → is_finite value ≡ true
    → IsRounded format NearestTiesToEven of_zero exact 1 value status → IsOkOrInexact status
rounded_status format of_zero exact value status k w h x =
    ⊎_elim (λ (q : largest format < x.pick).
    absurd (false≢true (sym (ap is_finite (x.value_is ∙ beyond_is format (sign_of of_zero exact) x.pick k q)) ∙ h)))
    (λ (q : x.pick ≤ largest format). within_status format (sign_of of_zero exact)
    (magnitude exact) x.pick status w q x.is_pick x.status_is) (cases_lt (largest format) x.pick)

-- ---- sums and differences

-- a finite sum of finite data raises at most INEXACT
pub sum_status : (format : Format) (x y value : Datum) (status : ℕ) → format.nonfinite ≡ IEEE754
    → 1 < 2 ^ format.precision → is_finite x ≡ true → is_finite y ≡ true → is_finite value ≡ true
    → IsSum format NearestTiesToEven x y value status → IsOkOrInexact status
sum_status format (finite b m) (finite c n) value status k w p q h s =
    rounded_status format (zero_sum_sign NearestTiesToEven b c) (signed b m +ℤ signed c n) value status k w h s
sum_status format (finite b m) (infinite c) value status k w p q h s = absurd (false≢true q)
sum_status format (finite b m) (nan c n) value status k w p q h s = absurd (false≢true q)
sum_status format (infinite b) y value status k w p q h s = absurd (false≢true p)
sum_status format (nan b m) y value status k w p q h s = absurd (false≢true p)

-- a finite difference of finite data raises at most INEXACT
pub difference_status : (format : Format) (x y value : Datum) (status : ℕ) → format.nonfinite ≡ IEEE754
    → 1 < 2 ^ format.precision → is_finite x ≡ true → is_finite y ≡ true → is_finite value ≡ true
    → IsDifference format NearestTiesToEven x y value status → IsOkOrInexact status
difference_status format x y value status k w p q h s =
    sum_status format x (negated IEEE754 y) value status k w p (negated_finite y q) h
    (difference_is format x y value status k p q s)

-- ---- joined flags

-- the union of two known statuses
joined : (s t a b c : ℕ) → s ≡ a → t ≡ b → (a ∪ b) ≡ c → (s ∪ t) ≡ c
joined s t a b c e g h = ap (λ (i : ℕ). i ∪ t) e ∙ ap (λ (i : ℕ). a ∪ i) g ∙ h

-- the union of two statuses that are OK or INEXACT is OK or INEXACT
pub union_status : (s t : ℕ) → IsOkOrInexact s → IsOkOrInexact t → IsOkOrInexact (s ∪ t)
union_status s t a b =
    ⊎_elim
    (λ (e : s ≡ ok_bits).
    ⊎_elim (λ (g : t ≡ ok_bits). inl (joined s t ok_bits ok_bits ok_bits e g refl))
    (λ (g : t ≡ inexact_bit). inr (joined s t ok_bits inexact_bit inexact_bit e g refl)) b)
    (λ (e : s ≡ inexact_bit).
    ⊎_elim (λ (g : t ≡ ok_bits). inr (joined s t inexact_bit ok_bits inexact_bit e g refl))
    (λ (g : t ≡ inexact_bit). inr (joined s t inexact_bit inexact_bit inexact_bit e g refl)) b)
    a
