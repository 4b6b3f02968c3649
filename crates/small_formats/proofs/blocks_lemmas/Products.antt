-- Products with a positive number, given in another format.
use Rattle.std.proofs.Common.{◌≡◌, ℕ, ◌+◌, ◌*◌, ◌^◌, ◌<◌, Bool, false, eqb, sym, refl, ap}
use Rattle.std.proofs.Common.{◌∙◌, subst, arith, if◌then◌else◌}
use Rattle.std.proofs.lemmas.{Bool.ne_eqb, Nat.pow-add, Nat.pow_pos}
use Rattle.apfloat_model.specs.{declared.kinds.Round.Round, arithmetic.Exact.product_sign}
use Rattle.apfloat_model.specs.formats.{Datum.Datum, Datum.finite, Format.Format, Formats.half_constants}
use Rattle.apfloat_model.specs.formats.Lawful.{format_with as library_format}
use Rattle.apfloat_model.specs.rounding.Outcome.{invalid, Yields}
use Rattle.apfloat_model.specs.order.{Classes.is_negative, Classes.quanta_of, Positive.IsPositive}
use Rattle.apfloat_model.proofs.general.Powers.{both_above_zero}
use Rattle.apfloat_arithmetic.specs.other_formats.Extended.{Extended, number, infinity, not_number, seen}
use Rattle.apfloat_arithmetic.specs.other_formats.FormatOf.{infinity_to, IsProductOf, IsProductTo}
use Rattle.small_formats.specs.Codes.{datum_of, is_negative_code, magnitude_of, point}
use Rattle.small_formats.specs.Storage.{StorageConstants, format_with as stored_format}
use Rattle.small_formats.proofs.blocks_lemmas.SameFractions.{delivered_across}

-- amount * 2 ^ -places is n * 2 ^ -t
abbrev pub IsSameNumber : ℕ → ℕ → ℕ → ℕ → Type 0
IsSameNumber amount places n t = amount * 2 ^ t ≡ n * 2 ^ places

-- two products of equal numbers, in quanta
products_same : (m s m' s' n t n' t' scale : ℕ) → IsSameNumber m' s' m s → IsSameNumber n' t' n t
    → m' * n' * 2 ^ scale * 2 ^ (s + t) ≡ m * n * 2 ^ scale * 2 ^ (s' + t')
products_same m s m' s' n t n' t' scale e f =
    let a : 2 ^ (s + t) ≡ 2 ^ s * 2 ^ t = pow-add 2 s t in
    let b : 2 ^ (s' + t') ≡ 2 ^ s' * 2 ^ t' = pow-add 2 s' t' in
    let x : m' * 2 ^ s * (n' * 2 ^ t) ≡ m * 2 ^ s' * (n * 2 ^ t') =
    ap (λ (y : ℕ). y * (n' * 2 ^ t)) e ∙ ap (λ (y : ℕ). m * 2 ^ s' * y) f in
    let l : m' * n' * 2 ^ scale * (2 ^ s * 2 ^ t) ≡ m' * 2 ^ s * (n' * 2 ^ t) * 2 ^ scale = omega arith in
    let r : m * 2 ^ s' * (n * 2 ^ t') * 2 ^ scale ≡ m * n * 2 ^ scale * (2 ^ s' * 2 ^ t') = omega arith in
    ap (λ (y : ℕ). m' * n' * 2 ^ scale * y) a ∙ l ∙ ap (λ (y : ℕ). y * 2 ^ scale) x ∙ r
    ∙ ap (λ (y : ℕ). m * n * 2 ^ scale * y) (sym b)

-- a test of two numbers that are both positive
tests_same : (n n' : ℕ) → 0 < n → 0 < n' → eqb n 0 ≡ eqb n' 0
tests_same n n' p q = ne_eqb n 0 (λ e. omega (arith, e, p)) ∙ sym (ne_eqb n' 0 (λ e. omega (arith, e, q)))

-- a product with a positive number is that with the same number in another format
product_by : (g : Format) (mode : Round) (x : Extended) (n t n' t' : ℕ) (value : Datum) (status : ℕ)
    → 0 < g.precision → 0 < n → 0 < n' → IsSameNumber n' t' n t
    → IsProductOf g mode x (number false n t) value status → IsProductOf g mode x (number false n' t') value status
product_by g mode (not_number s d) n t n' t' value status some p q e h = h
product_by g mode (infinity b) n t n' t' value status some p q e h =
    subst (λ (test : Bool). Yields g mode (if test then invalid g else infinity_to g (product_sign b false)) value
    status) (tests_same n n' p q) h
product_by g mode (number b m s) n t n' t' value status some p q e h =
    delivered_across g mode (product_sign b false) (m * n' * 2 ^ g.scale) (2 ^ (s + t')) (m * n * 2 ^ g.scale)
    (2 ^ (s + t)) value status some (pow_pos (s + t')) (pow_pos (s + t))
    (products_same m s m s n t n' t' g.scale refl e) h

-- a product of a number is that of the same number in another format
product_of_number : (g : Format) (mode : Round) (b : Bool) (m s m' s' n t : ℕ) (value : Datum) (status : ℕ)
    → 0 < g.precision → IsSameNumber m' s' m s → IsProductOf g mode (number b m s) (number false n t) value status
    → IsProductOf g mode (number b m' s') (number false n t) value status
product_of_number g mode b m s m' s' n t value status some e h =
    delivered_across g mode (product_sign b false) (m' * n * 2 ^ g.scale) (2 ^ (s' + t)) (m * n * 2 ^ g.scale)
    (2 ^ (s + t)) value status some (pow_pos (s' + t)) (pow_pos (s + t))
    (products_same m s m' s' n t n t g.scale e refl) h

-- ---- elements

-- the product of a value and a positive y is its product with amount * 2 ^ -places, if that is the number of y
pub product_in : (f h g : Format) (mode : Round) (x datum y value : Datum) (status : ℕ) → 0 < g.precision
    → IsPositive h y → x ≡ datum → IsProductTo f h g mode x y value status → (amount places : ℕ)
    → IsSameNumber amount places (quanta_of y) h.scale
    → IsProductOf g mode (seen f g datum) (number false amount places) value status
product_in f h g mode x datum y value status precise positive is p amount places same =
    product_by g mode (seen f g datum) (quanta_of y) h.scale amount places value status precise positive.some
    (both_above_zero (quanta_of y) amount h.scale places same positive.some) same
    (rw (sym is) (subst (λ (d : Datum). IsProductTo f h g mode x d value status) positive.is p))

-- the product of a half is that of the code of a storage format with the same number
pub product_of_half : (c : StorageConstants) (h g : Format) (mode : Round) (code : ℕ) (half y value : Datum)
    (status : ℕ) → 0 < g.precision → IsPositive h y → (half ≡ finite (is_negative (datum_of c code)) (quanta_of half))
    × (quanta_of half * 2 ^ (stored_format c).scale ≡ quanta_of (datum_of c code) * 2 ^ 24)
    → IsProductTo (library_format half_constants) h g mode half y value status → (amount places : ℕ)
    → IsSameNumber amount places (quanta_of y) h.scale
    → IsProductOf g mode (seen (stored_format c) g (datum_of c code)) (number false amount places) value status
product_of_half c h g mode code half y value status precise positive of p amount places same =
    product_of_number g mode (is_negative_code c code) (quanta_of half) 24 (point c.precision (magnitude_of c code))
    (stored_format c).scale amount places value status precise (sym of.1)
    (product_in (library_format half_constants) h g mode half _ y value status precise positive of.0 p amount places
    same)
