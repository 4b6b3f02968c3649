-- Products and quotients of numbers, zeros and infinities.
use Rattle.std.proofs.Common.{sym, subst, ◌≡◌, ℕ, ◌*◌, ◌^◌, ◌<◌, Bool, false, eqb, arith}
use Rattle.std.proofs.lemmas.{Nat.pow_pos, Bool.ne_eqb}
use Rattle.apfloat_model.specs.declared.kinds.Round.{Round}
use Rattle.apfloat_model.specs.declared.kinds.Category.TheVariants.{Infinity, Normal, Zero}
use Rattle.apfloat_model.specs.formats.{Format.Format, Datum.Datum, Datum.finite, Datum.infinite, Constants.infinity_of}
use Rattle.apfloat_model.specs.rounding.{Answer.IsAnswer, Rounding.IsDelivered, Rounding.ok_bits}
use Rattle.apfloat_model.specs.{rounding.Rounding.signed_quanta, arithmetic.Exact.product_sign}
use Rattle.apfloat_model.specs.arithmetic.{Products.IsProduct, Quotients.IsQuotient, Quotients.div_by_zero_bit}
use Rattle.apfloat_rounding.specs.{declared.shape.Shape.Shape, declared.unpacked.Unpacked.Unpacked, Shapes.format_at}
use Rattle.apfloat_rounding.specs.Stored.{IsStored, datum_at, quanta_of}
use Rattle.apfloat_arithmetic.proofs.SumCases.{datum_is, number_stored}

-- a stored nonzero number is not 0 quanta
some_quanta : (s : Shape) (x : Unpacked) → x.category ≡ Normal → IsStored s x → eqb (quanta_of s x) 0 ≡ false
some_quanta s x e h =
    let some = (number_stored s x e h).1 in
    ne_eqb (quanta_of s x) 0 (λ z. omega (arith, z, some))

-- a product with a factor of 0 is a zero
pub zero_product : (format : Format) (mode : Round) (left right sign : Bool) (m n : ℕ) (value : Datum) (status : ℕ)
    → sign ≡ product_sign left right → m * n ≡ 0
    → ((parts : ℕ) → 0 < parts → IsDelivered format mode sign 0 parts value status)
    → IsProduct format mode (finite left m) (finite right n) value status
zero_product format mode b c sign m n value status e z h =
    let d : IsDelivered format mode sign (m * n) (2 ^ format.scale) value status =
    subst (λ (x : ℕ). IsDelivered format mode sign x (2 ^ format.scale) value status) (sym z)
    (h (2 ^ format.scale) (pow_pos format.scale)) in
    subst (λ (x : Bool). IsDelivered format mode x (m * n) (2 ^ format.scale) value status) e d

-- a nonzero number times an infinity is an infinity, with no flag
pub number_by_infinity : (s : Shape) (mode : Round) (x y : Unpacked) (sign : Bool) (value : Datum) (status : ℕ)
    → x.category ≡ Normal → y.category ≡ Infinity
    → IsStored s x → sign ≡ product_sign x.negative y.negative → IsAnswer (infinite sign) ok_bits value status
    → IsProduct (format_at s) mode (datum_at s x) (datum_at s y) value status
number_by_infinity s mode x y sign value status d e stored g h =
    rw (datum_is Normal s x d, datum_is Infinity s y e, some_quanta s x d stored)
    (subst (λ (b : Bool). IsAnswer (infinite b) ok_bits value status) g h)

-- an infinity times a nonzero number is an infinity, with no flag
pub infinity_by_number : (s : Shape) (mode : Round) (x y : Unpacked) (sign : Bool) (value : Datum) (status : ℕ)
    → x.category ≡ Infinity → y.category ≡ Normal
    → IsStored s y → sign ≡ product_sign x.negative y.negative → IsAnswer (infinite sign) ok_bits value status
    → IsProduct (format_at s) mode (datum_at s x) (datum_at s y) value status
infinity_by_number s mode x y sign value status d e stored g h =
    rw (datum_is Infinity s x d, datum_is Normal s y e, some_quanta s y e stored)
    (subst (λ (b : Bool). IsAnswer (infinite b) ok_bits value status) g h)

-- a nonzero number divided by 0 is the format's infinity or its replacement, with DIV_BY_ZERO
pub number_by_zero : (s : Shape) (mode : Round) (x y : Unpacked) (sign : Bool) (value : Datum) (status : ℕ)
    → x.category ≡ Normal → y.category ≡ Zero → IsStored s x → sign ≡ product_sign x.negative y.negative
    → IsAnswer (infinity_of (format_at s) sign) div_by_zero_bit value status
    → IsQuotient (format_at s) mode (datum_at s x) (datum_at s y) value status
number_by_zero s mode x y sign value status d e stored g h =
    rw (datum_is Normal s x d, datum_is Zero s y e, some_quanta s x d stored)
    (subst (λ (b : Bool). IsAnswer (infinity_of (format_at s) b) div_by_zero_bit value status) g h)

-- a quotient of two nonzero numbers is rounded
pub some_quotient : (format : Format) (mode : Round) (left right : Bool) (m n : ℕ) (value : Datum) (status : ℕ) → 0 < n
    → IsDelivered format mode (product_sign left right) (m * 2 ^ format.scale) n value status
    → IsQuotient format mode (finite left m) (finite right n) value status
some_quotient format mode b c m n value status p h = rw (ne_eqb n 0 (λ z. omega (arith, z, p))) h

-- a zero divided by a nonzero number is a zero
pub zero_quotient : (s : Shape) (mode : Round) (x y : Unpacked) (sign : Bool) (value : Datum) (status : ℕ)
    → x.category ≡ Zero → y.category ≡ Normal → IsStored s y → sign ≡ product_sign x.negative y.negative
    → ((parts : ℕ) → 0 < parts → IsDelivered (format_at s) mode sign 0 parts value status)
    → IsQuotient (format_at s) mode (datum_at s x) (datum_at s y) value status
zero_quotient s mode x y sign value status d e stored g h =
    let n = quanta_of s y in
    let some = (number_stored s y e stored).1 in
    let z : 0 ≡ 0 * 2 ^ (format_at s).scale = omega arith in
    let a : IsDelivered (format_at s) mode sign (0 * 2 ^ (format_at s).scale) n value status =
    subst (λ (k : ℕ). IsDelivered (format_at s) mode sign k n value status) z (h n some) in
    rw (datum_is Zero s x d, datum_is Normal s y e)
    (some_quotient (format_at s) mode x.negative y.negative 0 n value status some
    (subst (λ (b : Bool). IsDelivered (format_at s) mode b (0 * 2 ^ (format_at s).scale) n value status) g a))

-- a number divided by an infinity is a zero, with no flag
pub quotient_by_infinity : (format : Format) (mode : Round) (left right sign : Bool) (m : ℕ) (value : Datum)
    (status : ℕ) → sign ≡ product_sign left right
    → IsAnswer (signed_quanta format.nonfinite sign 0) ok_bits value status
    → IsQuotient format mode (finite left m) (infinite right) value status
quotient_by_infinity format mode b c sign m value status e h =
    subst (λ (x : Bool). IsAnswer (signed_quanta format.nonfinite x 0) ok_bits value status) e h
