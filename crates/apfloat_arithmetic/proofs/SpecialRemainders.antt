-- Remainders of operands that are not both nonzero numbers, by their categories.
use Rattle.std.proofs.Common.{◌≡◌, ◌⊎◌, inl, inr, ℕ, Bool, eqb, if◌then◌else◌, count_ones, ◌*◌}
use Rattle.std.proofs.Common.{◌/◌, ◌<◌, refl, sym, ap, subst, arith}
use Rattle.std.proofs.{Math.Nat.zero-div, lemmas.Bool.ne_eqb}
use Rattle.apfloat_model.specs.declared.kinds.Category.{Category}
use Rattle.apfloat_model.specs.declared.kinds.Category.TheVariants.{Infinity, NaN, Normal, Zero}
use Rattle.apfloat_model.specs.declared.kinds.NonfiniteBehavior.{NonfiniteBehavior}
use Rattle.apfloat_model.specs.formats.Datum.{Datum, finite}
use Rattle.apfloat_model.specs.rounding.{Answer.IsAnswer, Rounding.ok_bits, Rounding.zero_sign}
use Rattle.apfloat_model.specs.arithmetic.Remainders.{IsRemainder, ones_of_quotient, rest_of}
use Rattle.apfloat_model.proofs.general.Choices.{zero_if}
use Rattle.apfloat_rounding.specs.{declared.shape.Shape.Shape, declared.unpacked.Unpacked.Unpacked, Shapes.format_at}
use Rattle.apfloat_rounding.specs.Stored.{IsStoredBy, datum_by, quanta_at}
use Rattle.apfloat_rounding.proofs.StoredBack.{quanta_some}

abbrev pub Says : Shape → (ℕ → ℕ → ℕ) → Category → Category → Unpacked → Unpacked → Datum → ℕ → Type 0
Says s quotient k l x y value status = IsRemainder (format_at s) quotient (datum_by k s x) (datum_by l s y) value status

-- the remainder of a finite dividend by a nonzero number
pub by_number : (shape : Shape) (quotient : ℕ → ℕ → ℕ) (x y : Unpacked) (m : ℕ) (value : Datum) (status : ℕ)
    → IsStoredBy Normal shape y → IsAnswer (rest_of shape.nonfinite x.negative m
    (quanta_at shape.min_exp y.significand y.exponent * quotient m (quanta_at shape.min_exp y.significand y.exponent)))
    ok_bits value status
    → IsRemainder (format_at shape) quotient (finite x.negative m) (datum_by Normal shape y) value status
by_number shape quotient x y m value status t h =
    let p = quanta_some shape y.significand y.exponent t in
    rw (ne_eqb (quanta_at shape.min_exp y.significand y.exponent) 0 (λ z. omega (arith, z, p))) h

-- the rest of a zero dividend is the zero with its sign
zero_rest : (kind : NonfiniteBehavior) (negative : Bool) (n q : ℕ) → q ≡ 0 → negative ≡ zero_sign kind negative
    → finite negative 0 ≡ rest_of kind negative 0 (n * q)
zero_rest kind b n q e z = let w : n * 0 ≡ 0 = omega arith in rw (e, w) (ap (λ (u : Bool). finite u 0) z)

-- the remainder of a zero by a nonzero number is that zero
zero_by_number : (shape : Shape) (quotient : ℕ → ℕ → ℕ) (x y : Unpacked) (value : Datum) (status : ℕ)
    → IsStoredBy Zero shape x → IsStoredBy Normal shape y → ((n : ℕ) → 0 < n → quotient 0 n ≡ 0)
    → IsAnswer (finite x.negative 0) ok_bits value status → Says shape quotient Zero Normal x y value status
zero_by_number shape quotient x y value status u t q h =
    let n : ℕ = quanta_at shape.min_exp y.significand y.exponent in
    let e = zero_rest shape.nonfinite x.negative n (quotient 0 n) (q n (quanta_some shape y.significand y.exponent t))
    u.sign_is in
    by_number shape quotient x y 0 value status t (subst (λ (d : Datum). IsAnswer d ok_bits value status) e h)

-- the remainder of a zero by a nonzero number is the dividend
pub of_zero : (shape : Shape) (quotient : ℕ → ℕ → ℕ) (first second : Category) (x y : Unpacked) (value : Datum)
    (status : ℕ) → (first ≡ Zero) ⊎ (first ≡ Normal) → (first ≡ Normal → ⊥) → second ≡ Normal
    → IsStoredBy first shape x → IsStoredBy second shape y → ((n : ℕ) → 0 < n → quotient 0 n ≡ 0)
    → IsAnswer (datum_by first shape x) ok_bits value status → Says shape quotient first second x y value status
of_zero shape quotient first second x y value status (inr z) n e t u q h = absurd (n z)
of_zero shape quotient first second x y value status (inl z) n e t u q h =
    subst (λ (o : Category). IsStoredBy o shape x → IsAnswer (datum_by o shape x) ok_bits value status
    → Says shape quotient o second x y value status) (sym z)
    (λ t h. subst (λ (o : Category). IsStoredBy o shape y → Says shape quotient Zero o x y value status) (sym e)
    (λ u. zero_by_number shape quotient x y value status t u q h) u) t h

-- ---- both operands nonzero numbers

-- the remainder of two nonzero numbers is that of their quanta
pub of_numbers : (shape : Shape) (quotient : ℕ → ℕ → ℕ) (first second : Category) (x y : Unpacked) (value : Datum)
    (status : ℕ) → first ≡ Normal → second ≡ Normal → IsStoredBy second shape y
    → IsAnswer (rest_of shape.nonfinite x.negative (quanta_at shape.min_exp x.significand x.exponent)
    (quanta_at shape.min_exp y.significand y.exponent * quotient (quanta_at shape.min_exp x.significand x.exponent)
    (quanta_at shape.min_exp y.significand y.exponent))) ok_bits value status
    → Says shape quotient first second x y value status
of_numbers shape quotient first second x y value status e f u h =
    subst (λ (o : Category). Says shape quotient o second x y value status) (sym e)
    (subst (λ (o : Category). IsStoredBy o shape y → Says shape quotient Normal o x y value status) (sym f)
    (λ u. by_number shape quotient x y (quanta_at shape.min_exp x.significand x.exponent) value status u h) u)

-- the ones of the quotient by a nonzero number are those of the quotient of the quanta
number_ones : (shape : Shape) (x y : Unpacked) (m : ℕ) → IsStoredBy Normal shape y
    → count_ones (m / quanta_at shape.min_exp y.significand y.exponent)
    ≡ ones_of_quotient (finite x.negative m) (datum_by Normal shape y)
number_ones shape x y m t =
    let p = quanta_some shape y.significand y.exponent t in
    rw (ne_eqb (quanta_at shape.min_exp y.significand y.exponent) 0 (λ z. omega (arith, z, p))) refl

-- the ones of the quotient of two nonzero numbers are those of the quotient of their quanta
pub ones_of_numbers : (shape : Shape) (first second : Category) (x y : Unpacked) → first ≡ Normal → second ≡ Normal
    → IsStoredBy second shape y
    → count_ones (quanta_at shape.min_exp x.significand x.exponent / quanta_at shape.min_exp y.significand y.exponent)
    ≡ ones_of_quotient (datum_by first shape x) (datum_by second shape y)
ones_of_numbers shape first second x y e f u =
    subst (λ (o : Category). count_ones
    (quanta_at shape.min_exp x.significand x.exponent / quanta_at shape.min_exp y.significand y.exponent)
    ≡ ones_of_quotient (datum_by o shape x) (datum_by second shape y)) (sym e)
    (subst (λ (o : Category). IsStoredBy o shape y
    → count_ones (quanta_at shape.min_exp x.significand x.exponent / quanta_at shape.min_exp y.significand y.exponent)
    ≡ ones_of_quotient (datum_by Normal shape x) (datum_by o shape y)) (sym f)
    (λ u. number_ones shape x y (quanta_at shape.min_exp x.significand x.exponent) u) u)

-- ---- not both operands nonzero numbers

-- a quotient with a dividend of 0 has no ones
zero_ones : (n : ℕ) → 0 ≡ (if eqb n 0 then 0 else count_ones (0 / n))
unfolding lib.Count.ones
zero_ones n = zero_if (eqb n 0) (count_ones (0 / n)) (ap count_ones (zero-div n))

-- if one of two values is not a nonzero number, their quotient has no ones
pub no_ones : (shape : Shape) (first second : Category) (x y : Unpacked) → (first ≡ Normal → second ≡ Normal → ⊥)
    → 0 ≡ ones_of_quotient (datum_by first shape x) (datum_by second shape y)
no_ones shape Normal Normal x y h = absurd (h refl refl)
no_ones shape Normal Zero x y h = refl
no_ones shape Normal Infinity x y h = refl
no_ones shape Normal NaN x y h = refl
no_ones shape Zero Normal x y h = zero_ones (quanta_at shape.min_exp y.significand y.exponent)
no_ones shape Zero Zero x y h = refl
no_ones shape Zero Infinity x y h = refl
no_ones shape Zero NaN x y h = refl
no_ones shape Infinity second x y h = refl
no_ones shape NaN second x y h = refl
