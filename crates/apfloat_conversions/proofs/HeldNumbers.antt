-- Numbers of a shape in another shape that has them: all of its numbers, or those with a given exponent.
use Rattle.std.proofs.Common.{◌≡◌, ℕ, ◌+◌, ◌-◌, ◌*◌, ◌%◌, ◌^◌, ◌<◌, ◌≤◌, Bool}
use Rattle.std.proofs.Common.{false, ℤ, ◌-ℤ◌, sym, refl, ap, ◌∙◌, ⊎_elim, arith}
use Rattle.std.proofs.Math.Nat.{mul-le-mul_right, pow-le-pow_right, mod-eq_of_lt, eq_of_mul-eq-mul_right}
use Rattle.std.proofs.lemmas.{Nat.pow-add, Nat.pow_pos, Int.ints}
use Rattle.apfloat_model.specs.{declared.kinds.Round.Round, arithmetic.Conversions.IsConvertedNumber}
use Rattle.apfloat_model.specs.{arithmetic.Exact.up, arithmetic.Exact.down, formats.Datum.Datum, formats.Datum.finite}
use Rattle.apfloat_model.specs.formats.Format.{Format, largest, greatest_significand}
use Rattle.apfloat_model.specs.{formats.Members.IsFiniteOf, rounding.Rounding.ok_bits}
use Rattle.apfloat_model.proofs.rounding.{Deliveries.signed_some, KeptDigits.fits_shifted, KeptDigits.full_shifted}
use Rattle.apfloat_model.proofs.{rounding.Laws.exact_delivered, formats.Greatest.greatest_fits}
use Rattle.apfloat_model.proofs.{formats.Greatest.greatest_full, general.Powers.both_above_zero, general.Powers.pow3}
use Rattle.apfloat_model.proofs.{general.Powers.two_pos, arithmetic.SingleScalings.scaled_stands}
use Rattle.apfloat_words.proofs.Totals.{no_down}
use Rattle.apfloat_rounding.specs.{declared.shape.Shape.Shape, Shapes.format_at}
use Rattle.apfloat_rounding.specs.Stored.{IsNormalAt, IsQuantaAt, quanta_at}
use Rattle.apfloat_rounding.proofs.StoredNumbers.{quanta_is, whole_is}
use Rattle.apfloat_rounding.proofs.ShapeExponents.{scale_is, span_is}
use Rattle.apfloat_conversions.specs.Held.{IsHeld, IsHeldAt, IsInside, IsReachedLevel}

-- ---- the largest value: g * 2 ^ m quanta, and h * 2 ^ n of the other, finer by k places

-- In `level` and `higher`, a is a number of quanta of one shape, whose largest value is g * 2 ^ m quanta; that of the
-- other is h * 2 ^ n of its own quanta, which are k places finer. g has at most p digits, h more than q, and d more
-- than g.

-- a number within the largest value of one shape is within that of the other, if the greatest exponents are equal
level : (a g h m n k d : ℕ) → a ≤ g * 2 ^ m → g * 2 ^ d ≤ h → m + k ≡ n + d → a * 2 ^ k ≤ h * 2 ^ n
level a g h m n k d l r e =
    let p : 2 ^ m * 2 ^ k ≡ 2 ^ n * 2 ^ d = sym (pow-add 2 m k) ∙ ap (λ (x : ℕ). 2 ^ x) e ∙ pow-add 2 n d in
    let b : a * 2 ^ k ≤ g * 2 ^ m * 2 ^ k = mul-le-mul_right (2 ^ k) l in
    let c : g * 2 ^ d * 2 ^ n ≤ h * 2 ^ n = mul-le-mul_right (2 ^ n) r in
    let q : g * (2 ^ m * 2 ^ k) ≡ g * (2 ^ n * 2 ^ d) = ap (λ (x : ℕ). g * x) p in
    omega arith

-- a number within the largest value of one shape is within that of the other, if the greatest exponent of the other is
-- greater
higher : (a g h m n k p q : ℕ) → a ≤ g * 2 ^ m → g < 2 ^ p → 2 ^ q ≤ h → p + m + k ≤ q + n → a * 2 ^ k ≤ h * 2 ^ n
higher a g h m n k p q l f r e =
    let b : a * 2 ^ k ≤ g * 2 ^ m * 2 ^ k = mul-le-mul_right (2 ^ k) l in
    let c : g * (2 ^ m * 2 ^ k) ≤ 2 ^ p * (2 ^ m * 2 ^ k) = mul-le-mul_right (2 ^ m * 2 ^ k) (omega arith) in
    let t : 2 ^ (p + m + k) ≡ 2 ^ p * 2 ^ m * 2 ^ k = pow3 p m k in
    let u : 2 ^ (p + m + k) ≤ 2 ^ (q + n) = pow-le-pow_right two_pos e in
    let v : 2 ^ (q + n) ≡ 2 ^ q * 2 ^ n = pow-add 2 q n in
    let w : 2 ^ q * 2 ^ n ≤ h * 2 ^ n = mul-le-mul_right (2 ^ n) r in
    omega arith

-- how many places finer the quantum is
abbrev finer : Shape → Shape → ℕ
finer source target = (format_at target).scale - (format_at source).scale

-- a number within the largest value of one shape is within that of the other
held_within : (source target : Shape) (a : ℕ) → IsHeld source target
    → a ≤ largest (format_at source) → a * 2 ^ finer source target ≤ largest (format_at target)
held_within source target a h l =
    let x = scale_is source in
    let y = scale_is target in
    let u = span_is source in
    let v = span_is target in
    let f = h.fine in
    let p = h.precise in
    ⊎_elim (λ o. higher a (greatest_significand source.nonfinite source.precision)
    (greatest_significand target.nonfinite target.precision)
    (format_at source).span (format_at target).span (finer source target) source.precision (target.precision - 1)
    l (greatest_fits source.nonfinite source.precision)
    (greatest_full target.nonfinite target.precision target.parameters.precision_low)
    (omega (arith, ints, target.parameters.precision_low)))
    (λ (o : IsReachedLevel source target). level a (greatest_significand source.nonfinite source.precision)
    (greatest_significand target.nonfinite target.precision) (format_at source).span (format_at target).span
    (finer source target) (target.precision - source.precision)
    l o.significands (let e = o.exponents in omega (arith, ints))) h.reached

-- ---- a number

-- a number in quanta of the other shape, which are finer
held_quanta : (source target : Shape) (m : ℕ) (e : ℤ) → IsHeld source target → IsNormalAt source m e
    → IsQuantaAt target.min_exp (m * 2 ^ (target.precision - source.precision)) e
    (quanta_at source.min_exp m e * 2 ^ finer source target)
held_quanta source target m e h n =
    let x = scale_is source in
    let y = scale_is target in
    let f = h.fine in
    let p = h.precise in
    let q = scaled_stands m (quanta_at source.min_exp m e) (down (e -ℤ source.min_exp)) (up (e -ℤ source.min_exp))
    (finer source target) (target.precision - source.precision) (up (e -ℤ target.min_exp))
    (down (e -ℤ target.min_exp)) n.whole (omega (arith, ints, source.parameters.precision_low)) in
    omega (arith, q)

-- a significand shifted up to the precision of the other shape has as many digits as that shape
moved_up : (source target : Shape) (m : ℕ) (e : ℤ) → source.precision ≤ target.precision
    → IsNormalAt source m e → (m * 2 ^ (target.precision - source.precision) < 2 ^ target.precision)
    × (2 ^ (target.precision - 1) ≤ m * 2 ^ (target.precision - source.precision))
moved_up source target m e p n = (
  fits_shifted m source.precision (target.precision - source.precision) target.precision n.operand.fits (omega arith),
  full_shifted m source.precision (target.precision - source.precision) target.precision
      (omega (arith, source.parameters.precision_low)) (λ _. n.operand.full) (omega arith),
)

-- a number with its significand shifted up is normal in the other shape
held_normal : (source target : Shape) (m : ℕ) (e : ℤ) → IsHeld source target → IsNormalAt source m e
    → IsNormalAt target (m * 2 ^ (target.precision - source.precision)) e
held_normal source target m e h n =
    let q = held_quanta source target m e h n in
    let digits = moved_up source target m e h.precise n in
    let x = scale_is source in
    let y = scale_is target in
    let f = h.fine in
    let p = h.precise in
    record {
      operand = record {
        fits = digits.0;
        full = digits.1;
        least = omega (arith, ints, n.operand.least, source.parameters.precision_low);
        greatest =
            ⊎_elim (λ o. omega (arith, ints, n.operand.greatest))
            (λ (o : IsReachedLevel source target). let w = o.exponents in omega (arith, ints, n.operand.greatest))
            h.reached;
      };
      whole = whole_is target.min_exp (m * 2 ^ (target.precision - source.precision)) e _ q;
      within = rw (quanta_is target.min_exp (m * 2 ^ (target.precision - source.precision)) e _ q)
          (held_within source target (quanta_at source.min_exp m e) h n.within);
    }

-- a number whose exponent is inside the other shape, in quanta of that shape
inside_quanta : (source target : Shape) (m : ℕ) (e : ℤ) → IsInside source target e
    → IsQuantaAt target.min_exp (m * 2 ^ (target.precision - source.precision)) e
    (m * 2 ^ (target.precision - source.precision) * 2 ^ up (e -ℤ target.min_exp))
inside_quanta source target m e h =
    let l = h.least in
    let z : down (e -ℤ target.min_exp) ≡ 0 = no_down (e -ℤ target.min_exp) (omega (arith, ints, l)) in
    rw z (omega arith)

-- a number whose exponent is inside the other shape is within its largest value
inside_within : (source target : Shape) (m : ℕ) (e : ℤ) → IsInside source target e → m < 2 ^ source.precision
    → m * 2 ^ (target.precision - source.precision) * 2 ^ up (e -ℤ target.min_exp) ≤ largest (format_at target)
inside_within source target m e h f =
    let p = h.precise in
    let l = h.least in
    let b = h.below in
    let v = span_is target in
    let z : down (e -ℤ target.min_exp) ≡ 0 = no_down (e -ℤ target.min_exp) (omega (arith, ints, l)) in
    let w : m * 2 ^ (target.precision - source.precision) < 2 ^ target.precision =
    fits_shifted m source.precision (target.precision - source.precision) target.precision f (omega arith) in
    let q = higher (m * 2 ^ (target.precision - source.precision) * 2 ^ up (e -ℤ target.min_exp))
    (m * 2 ^ (target.precision - source.precision)) (greatest_significand target.nonfinite target.precision)
    (up (e -ℤ target.min_exp)) (format_at target).span 0 target.precision (target.precision - 1) (omega arith) w
    (greatest_full target.nonfinite target.precision target.parameters.precision_low)
    (omega (arith, ints, v, z, b, target.parameters.precision_low)) in
    omega (arith, q)

-- a number whose exponent is inside the other shape, with its significand shifted up, is normal in that shape
inside_normal : (source target : Shape) (m : ℕ) (e : ℤ) → IsInside source target e → IsNormalAt source m e
    → IsNormalAt target (m * 2 ^ (target.precision - source.precision)) e
inside_normal source target m e h n =
    let q = inside_quanta source target m e h in
    let digits = moved_up source target m e h.precise n in
    record {
      operand = record {
        fits = digits.0;
        full = digits.1;
        least = omega (arith, ints, h.least, target.parameters.precision_low);
        greatest = omega (arith, ints, h.below);
      };
      whole = whole_is target.min_exp (m * 2 ^ (target.precision - source.precision)) e _ q;
      within = rw (quanta_is target.min_exp (m * 2 ^ (target.precision - source.precision)) e _ q)
          (inside_within source target m e h n.operand.fits);
    }

-- in either case, the number with its significand shifted up is normal in the other shape
pub normal_there : (source target : Shape) (m : ℕ) (e : ℤ) → IsHeldAt source target e → IsNormalAt source m e
    → IsNormalAt target (m * 2 ^ (target.precision - source.precision)) e
normal_there source target m e h n =
    ⊎_elim (λ o. held_normal source target m e o n) (λ o. inside_normal source target m e o n) h

-- a shape that has all numbers of another, or all of one exponent, has at least as many digits
pub precise_there : (source target : Shape) (e : ℤ) → IsHeldAt source target e → source.precision ≤ target.precision
precise_there source target e h =
    ⊎_elim (λ (o : IsHeld source target). o.precise) (λ (o : IsInside source target e). o.precise) h

-- ---- the same number: a quanta of 2 ^ (- f) are b quanta of 2 ^ (- g)

-- two counts of quanta with the same significand, and places that agree, are the same number
same_quanta : (m a b f g k d u d' u' : ℕ) → a * 2 ^ d ≡ m * 2 ^ u → b * 2 ^ d' ≡ m * 2 ^ k * 2 ^ u'
    → u + g + d' ≡ d + f + (k + u') → a * 2 ^ g ≡ b * 2 ^ f
same_quanta m a b f g k d u d' u' h h' e =
    let l : a * 2 ^ g * 2 ^ d' ≡ m * (2 ^ f * 2 ^ (k + u')) = scaled_stands m a d u g f (k + u') d' h e in
    let q : b * 2 ^ f * 2 ^ d' ≡ b * 2 ^ d' * 2 ^ f = omega arith in
    let r : b * 2 ^ d' * 2 ^ f ≡ m * 2 ^ k * 2 ^ u' * 2 ^ f = ap (λ (x : ℕ). x * 2 ^ f) h' in
    let t : m * 2 ^ k * 2 ^ u' * 2 ^ f ≡ m * (2 ^ f * 2 ^ (k + u')) = rw (pow-add 2 k u') (omega arith) in
    eq_of_mul-eq-mul_right (2 ^ d') (pow_pos d') (a * 2 ^ g) (b * 2 ^ f) (l ∙ sym (q ∙ r ∙ t))

-- the number in quanta of either shape is the same number
pub same_there : (source target : Shape) (m : ℕ) (e : ℤ) → source.precision ≤ target.precision
    → IsNormalAt source m e → IsNormalAt target (m * 2 ^ (target.precision - source.precision)) e
    → quanta_at source.min_exp m e * 2 ^ (format_at target).scale
    ≡ quanta_at target.min_exp (m * 2 ^ (target.precision - source.precision)) e * 2 ^ (format_at source).scale
same_there source target m e p n o =
    let x = scale_is source in
    let y = scale_is target in
    same_quanta m (quanta_at source.min_exp m e)
    (quanta_at target.min_exp (m * 2 ^ (target.precision - source.precision)) e)
    (format_at source).scale (format_at target).scale (target.precision - source.precision) (down (e -ℤ source.min_exp))
    (up (e -ℤ source.min_exp)) (down (e -ℤ target.min_exp)) (up (e -ℤ target.min_exp)) n.whole o.whole
    (omega (arith, ints, source.parameters.precision_low))

-- the shift loses no digit
pub held_shift : (s t m : ℕ) → s ≤ t → t ≤ 125 → m < 2 ^ s → m * 2 ^ (t - s) % 2 ^ 128 ≡ m * 2 ^ (t - s)
held_shift s t m p q f =
    let a : m * 2 ^ (t - s) < 2 ^ t = fits_shifted m s (t - s) t f (omega arith) in
    let b : 2 ^ t ≤ 2 ^ 125 = pow-le-pow_right two_pos q in
    mod-eq_of_lt (omega arith)

-- ---- the conversion of such a number rounds nothing

-- the conversion of the number rounds nothing, and raises no flag
pub same_converted : (from into : Format) (mode : Round) (negative : Bool) (a b : ℕ) (value : Datum) (status : ℕ)
    → 0 < a → a * 2 ^ into.scale ≡ b * 2 ^ from.scale → value ≡ finite negative b → IsFiniteOf into negative b
    → status ≡ ok_bits → IsConvertedNumber from into mode negative a value status false
same_converted from into mode negative a b v status p e d t s =
    let o : 0 < b = both_above_zero a b from.scale into.scale (sym e) p in
    record {
      is_delivered = rw (d, s, ← signed_some into.nonfinite negative b o)
          (exact_delivered into mode negative b (a * 2 ^ into.scale) (2 ^ from.scale) (pow_pos from.scale) t.on_grid
          t.within e);
      loses_is = rw s refl;
    }
