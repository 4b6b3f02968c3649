-- Bits of the wide format, some of which are those of Arm's alternative half precision with another place of the sign.
use Rattle.std.proofs.Common.{◌≡◌, ℕ, ◌+◌, ◌-◌, ◌*◌, ◌/◌, ◌%◌, ◌^◌, ◌<◌, ◌≤◌, Bool, true, false, eqb, ap, ◌∙◌, arith}
use Rattle.std.proofs.Common.{refl}
use Rattle.std.proofs.Common.{lit<, subst, sym}
use Rattle.std.proofs.lemmas.Bool.{cond-false, eqb-true, false≢true, le-ltb, lt-ltb, ne_eqb}
use Rattle.std.proofs.Math.Nat.{mul-le-mul_left, mul-le-mul_right, pow-le-pow_right}
use Rattle.std.specs.Bool.{MatchBool}
use Rattle.apfloat_model.specs.{declared.kinds.Round.Round, formats.Format.Format, formats.Datum.Datum}
use Rattle.apfloat_model.specs.formats.{Datum.finite, Datum.infinite, Datum.nan, Nan.invalid_bit}
use Rattle.apfloat_model.specs.formats.Lawful.{Constants, format_with, layout_with}
use Rattle.apfloat_model.specs.{order.Classes.is_finite, order.Classes.is_negative}
use Rattle.apfloat_model.specs.arithmetic.Conversions.{IsConversion}
use Rattle.apfloat_model.specs.bits.Layout.{Fields, Layout, datum_of, datum_of_fields, fields_of, has_all_ones}
use Rattle.apfloat_model.specs.bits.Layout.{implied_number, IsEncodedBy}
use Rattle.apfloat_model.proofs.{bits.EncodedOnce.fields_with, general.Choices.if_case, general.Powers.two_pos}
use Rattle.apfloat_model.proofs.{bits.EncodedOnce.encoded_once, bits.Encodings.lawful_interchange}
use Rattle.apfloat_model.proofs.{formats.LawTest.lawful_from_test, Once.Once, Once.conversion_once}
use Rattle.apfloat_machines.specs.AlternativeHalves.{IsAlternativeHalf, greatest_code, has_code, number_coded}
use Rattle.apfloat_machines.specs.AlternativeHalves.{wide_constants, wide_half}

abbrev pub wide_layout : Layout
wide_layout = layout_with (wide_constants true)

abbrev wide_fields : ℕ → Fields
wide_fields bits = fields_of (wide_half true) wide_layout bits

abbrev wide_datum : ℕ → Datum
wide_datum bits = datum_of (wide_half true) wide_layout bits

-- the code of bits whose sixth exponent bit is 0
abbrev pub code : ℕ → ℕ
code bits = bits / 65536 * 32768 + bits % 65536

same_fields : (bits : ℕ) → bits < 131072 → bits % 65536 < 32768
    → wide_fields bits ≡ fields_of (wide_half true) (record { bits = 16; exponent_bits = 5 }) (code bits)
same_fields bits below h =
    let s : bits / 65536 % 2 ≡ code bits / 32768 % 2 = omega (arith, below, h) in
    let e : bits / 1024 % 64 ≡ code bits / 1024 % 32 = omega (arith, below, h) in
    let t : bits % 1024 ≡ code bits % 1024 = omega (arith, below, h) in
    ap (λ (n : ℕ). fields_with (eqb n 1) (bits / 1024 % 64) (bits % 1024)) s
    ∙ ap (λ (n : ℕ). fields_with (eqb (code bits / 32768 % 2) 1) n (bits % 1024)) e
    ∙ ap (λ (n : ℕ). fields_with (eqb (code bits / 32768 % 2) 1) (code bits / 1024 % 32) n) t

no_ones : (bits : ℕ) → bits % 65536 < 32768
    → has_all_ones wide_layout (wide_fields bits) ≡ false
no_ones bits h = ne_eqb (bits / 1024 % 64) 63 (λ e. omega (arith, h, e))

same_number : (bits : ℕ) → bits < 131072 → bits % 65536 < 32768 → wide_datum bits ≡ number_coded (code bits)
same_number bits below h =
    cond-false (has_all_ones wide_layout (wide_fields bits)) _ _ (no_ones bits h)
    ∙ ap (implied_number (wide_half true)) (same_fields bits below h)

short : (e t : ℕ) → e < 32 → t < 1024 → (1024 + t) * 2 ^ (e - 1) < 2 ^ 41
short e t low trailing =
    let power : 2 ^ (e - 1) ≤ 2 ^ 30 =
    pow-le-pow_right two_pos (let h : e - 1 ≤ 30 = omega (arith, low) in h) in
    let product = mul-le-mul_left (1024 + t) power in
    omega (arith, product, trailing)

long : (e t : ℕ) → 32 ≤ e → 2 ^ 41 ≤ (1024 + t) * 2 ^ (e - 1)
long e t high =
    let power : 2 ^ 31 ≤ 2 ^ (e - 1) =
    pow-le-pow_right two_pos (let h : 31 ≤ e - 1 = omega (arith, high) in h) in
    let product = mul-le-mul_left (1024 + t) power in
    omega (arith, product)

-- five exponent bits give a code, and a sixth one gives none
with_code : (b : Bool) (e t : ℕ) → e < 32 → t < 1024
    → has_code (implied_number (wide_half true) (fields_with b e t)) ≡ true
with_code b e t low trailing =
    if_case (λ (x : Datum). has_code x ≡ true) (eqb e 0) (λ zero. lt-ltb t (2 ^ 41) (omega (arith, trailing)))
    (λ nonzero. lt-ltb ((1024 + t) * 2 ^ (e - 1)) (2 ^ 41) (short e t low trailing))

without_code : (b : Bool) (e t : ℕ) → 32 ≤ e
    → has_code (datum_of_fields (wide_half true) wide_layout (fields_with b e t)) ≡ false
without_code b e t high =
    if_case (λ (x : Datum). has_code x ≡ false) (eqb e 63)
    (λ ones. if_case (λ (x : Datum). has_code x ≡ false) (eqb t 0) (λ zero. refl) (λ nonzero. refl))
    (λ other. if_case (λ (x : Datum). has_code x ≡ false) (eqb e 0)
    (λ zero. absurd (omega (arith, high, eqb-true e 0 zero)))
    (λ nonzero. le-ltb ((1024 + t) * 2 ^ (e - 1)) (2 ^ 41) (long e t high)))

-- what bits of the wide format encode, if its sixth exponent bit is 0, and if it is 1
pub coded : (tiny : Bool) (bits : ℕ) (x : Datum) → IsEncodedBy (wide_half tiny) wide_layout bits x
    → bits % 65536 < 32768
    → (has_code x ≡ true) × ((code bits < 65536) × (number_coded (code bits) ≡ x))
coded tiny bits x written h =
    let below : bits < 131072 = written.below in
    let same : number_coded (code bits) ≡ x = sym (same_number bits below h) ∙ written.is in
    let low : code bits / 1024 % 32 < 32 = omega arith in
    let trailing : code bits % 1024 < 1024 = omega arith in
    let has = with_code (eqb (code bits / 32768 % 2) 1) (code bits / 1024 % 32) (code bits % 1024) low trailing in
    (ap has_code (sym same) ∙ has, (omega (arith, below, h), same))

pub not_coded : (tiny : Bool) (bits : ℕ) (x : Datum) → IsEncodedBy (wide_half tiny) wide_layout bits x
    → 32768 ≤ bits % 65536 → has_code x ≡ false
not_coded tiny bits x written h =
    let high : 32 ≤ bits / 1024 % 64 = omega (arith, h) in
    ap has_code (sym written.is) ∙ without_code (eqb (bits / 65536 % 2) 1) (bits / 1024 % 64) (bits % 1024) high

-- a number by what it is rounded to
pub number_is_coded : (f : Format) (c : Constants) (mode : Round) (x rounded : Datum) (flags : ℕ) (loses : Bool)
    (bits status : ℕ) → c ≡ wide_constants f.tiny_before_rounding → is_finite x ≡ true
    → IsConversion f (format_with c) mode x rounded flags loses
    → MatchBool (has_code rounded) ((bits < 2 ^ 16) × ((number_coded bits ≡ rounded) × (status ≡ flags)))
    ((bits ≡ greatest_code (is_negative x)) × (status ≡ invalid_bit))
    → IsAlternativeHalf f mode x bits status
number_is_coded f c mode (finite b n) rounded flags loses bits status wide e h k =
    record {
      rounded = rounded;
      flags = flags;
      loses = loses;
      is_rounded =
          subst (λ (w : Constants). IsConversion f (format_with w) mode (finite b n) rounded flags loses) wide h;
      is_coded = k;
    }
number_is_coded f c mode (infinite b) rounded flags loses bits status wide e h k = absurd (false≢true e)
number_is_coded f c mode (nan b s) rounded flags loses bits status wide e h k = absurd (false≢true e)

-- ---- one answer

-- the bits of the wide format whose code is this
abbrev widened : ℕ → ℕ
widened n = n / 32768 * 65536 + n % 32768

encoded : (n : ℕ) → n < 65536 → IsEncodedBy (wide_half true) wide_layout (widened n) (number_coded n)
encoded n h =
    let below : widened n < 131072 = omega (arith, h) in
    let low : widened n % 65536 < 32768 = omega arith in
    let back : code (widened n) ≡ n = omega (arith, h) in
    record { below = below; canonical = refl; is = same_number (widened n) below low ∙ ap number_coded back }

-- a number has one code
code_once : (a b : ℕ) (x : Datum) → a < 65536 → b < 65536 → number_coded a ≡ x → number_coded b ≡ x → a ≡ b
code_once a b x h k e g =
    let lawful = lawful_interchange (wide_constants true) (lawful_from_test (wide_constants true) refl) (lit< tt) in
    let same : widened a ≡ widened b =
    encoded_once (wide_half true) wide_layout (number_coded a) (widened a) (widened b) lawful (encoded a h)
    (subst (λ (y : Datum). IsEncodedBy (wide_half true) wide_layout (widened b) y) (g ∙ sym e) (encoded b k)) in
    omega (arith, same, h, k)

-- what is decided by one number with its flags is one code with its flags
coded_once : (has : Bool) (x y : Datum) (flags other greatest a b status with : ℕ) → x ≡ y → flags ≡ other
    → MatchBool has ((a < 2 ^ 16) × ((number_coded a ≡ x) × (status ≡ flags)))
    ((a ≡ greatest) × (status ≡ invalid_bit))
    → MatchBool has ((b < 2 ^ 16) × ((number_coded b ≡ y) × (with ≡ other))) ((b ≡ greatest) × (with ≡ invalid_bit))
    → (a ≡ b) × (status ≡ with)
coded_once true x y flags other greatest a b status with e g h k =
    (code_once a b y h.0 k.0 (h.1.0 ∙ e) k.1.0, h.1.1 ∙ g ∙ sym k.1.1)
coded_once false x y flags other greatest a b status with e g h k = (h.0 ∙ sym k.0, h.1 ∙ sym k.1)

pub alternative_half_once : (f : Format) (mode : Round) (x : Datum) → Once (IsAlternativeHalf f mode x)
alternative_half_once f mode (finite b n) v w r s h k =
    let same = conversion_once f (wide_half f.tiny_before_rounding) mode (finite b n) h.rounded k.rounded h.flags
    k.flags h.loses k.loses h.is_rounded k.is_rounded in
    coded_once (has_code k.rounded) h.rounded k.rounded h.flags k.flags (greatest_code b) v w r s same.0 same.1
    (subst
    (λ (t : Bool). MatchBool t ((v < 2 ^ 16) × ((number_coded v ≡ h.rounded) × (r ≡ h.flags)))
    ((v ≡ greatest_code b) × (r ≡ invalid_bit)))
    (ap has_code same.0) h.is_coded)
    k.is_coded
alternative_half_once f mode (infinite b) v w r s h k = (h.0 ∙ sym k.0, h.1 ∙ sym k.1)
alternative_half_once f mode (nan b s) v w r t h k = (h.0 ∙ sym k.0, h.1 ∙ sym k.1)
