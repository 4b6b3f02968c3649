-- What is delivered in a format of P3109, and what its codes become in other formats.
use Rattle.std.proofs.Common.{◌≡◌, ℕ, zero, suc, ◌-◌, ◌*◌, ◌/◌, ◌^◌, ◌<◌, ◌≤◌, Bool}
use Rattle.std.proofs.Common.{true, false, cond, not, ◌&&◌, eqb, ltb, sym, refl, ap, ◌∙◌, subst, arith}
use Rattle.std.proofs.lemmas.{Bool.false≢true, Bool.le-ltb, Bool.lt-ltb, Bool.ne_eqb, Nat.pow_pos}
use Rattle.std.specs.Bool.{MatchBool}
use Rattle.apfloat_model.specs.declared.kinds.NonfiniteBehavior.{NonfiniteBehavior, TheVariants.NanNegativeZero}
use Rattle.apfloat_model.specs.declared.kinds.Round.{Round}
use Rattle.apfloat_model.specs.declared.kinds.Category.TheVariants.{NaN, Normal, Zero}
use Rattle.apfloat_model.specs.arithmetic.Conversions.{IsConversion, IsConvertedNumber, IsKept, loses_zero_sign}
use Rattle.apfloat_model.specs.formats.Datum.{Datum, finite, infinite, nan}
use Rattle.apfloat_model.specs.formats.Format.{Format, payload_mask}
use Rattle.apfloat_model.specs.formats.Nan.{invalid_bit, invalid_if, is_signaling_nan, nan_sign, quiet_significand}
use Rattle.apfloat_model.specs.rounding.{Negation.negated, Rounding.IsDelivered}
use Rattle.apfloat_model.specs.rounding.Rounding.{inexact_bit, leads_out, ok_bits, signed_quanta, zero_sign}
use Rattle.apfloat_model.specs.order.Classes.{category_of, is_negative, quanta_of}
use Rattle.apfloat_model.proofs.order.Categories.{no_nan}
use Rattle.small_formats.specs.Codes.{point}
use Rattle.small_formats.proofs.{CodesCompared.not_below_number, Points.low_point}
use Rattle.p3109_formats.specs.Picks.{IsProjectedAt}
use Rattle.p3109_formats.specs.ModeConversions.{IsIntoProjectionBy, IsProjectedBy, IsProjectedNumberBy}
use Rattle.p3109_formats.specs.declared.{descriptor.Descriptor.Descriptor, rules.ProjectionRule.ProjectionRule}
use Rattle.p3109_formats.specs.Projections.{IsCodeOf, IsProjection, lacks_point, largest_index, past_value}
use Rattle.p3109_formats.specs.Projections.{projected_datum, projected_format}
use Rattle.p3109_formats.proofs.Codes.{four_codes}

-- ---- in

-- a format that has the sign has the point
pub has_point : (negative signed none : Bool) → (negative ≡ true → signed ≡ true)
    → ((negative && not signed) && not none) ≡ false
has_point true true none h = refl
has_point true false none h = absurd (false≢true (h refl))
has_point false signed none h = refl

pub past_projected : (c : Descriptor) (mode : Round) (leads negative : Bool) (amount parts index code status : ℕ)
    → (negative ≡ true → c.signed ≡ true) → largest_index c < index → projected_datum c code
    ≡ cond leads (past_value c negative) (finite negative (point c.precision (largest_index c)))
    → status ≡ cond (leads_out mode negative) 20 16 → IsProjectedAt c mode leads negative amount parts index code status
past_projected c mode leads negative amount parts index code status h l value flags =
    let here : lacks_point c negative index ≡ false = has_point negative c.signed (eqb index 0) h in
    let past : ltb (largest_index c) index ≡ true = lt-ltb (largest_index c) index l in
    record { value_is = rw (here, past) value; status_is = rw (here, past) flags }

pub within_projected : (c : Descriptor) (mode : Round) (leads negative : Bool) (amount parts index code status : ℕ)
    (exact : Bool) → lacks_point c negative index ≡ false → index ≤ largest_index c
    → exact ≡ eqb (point c.precision index * parts) amount
    → projected_datum c code ≡ signed_quanta NanNegativeZero negative (point c.precision index)
    → status ≡ cond exact 0 (cond (ltb index (2 ^ (c.precision - 1))) 24 16)
    → IsProjectedAt c mode leads negative amount parts index code status
within_projected c mode leads negative amount parts index code status exact here l same value flags =
    let within : ltb (largest_index c) index ≡ false = le-ltb (largest_index c) index l in
    let told = flags ∙ ap (λ (b : Bool). cond b 0 (cond (ltb index (2 ^ (c.precision - 1))) 24 16)) same in
    record { value_is = rw (here, within) value; status_is = rw (here, within) told }

-- zero is the same with either sign
pub zero_projected : (c : Descriptor) (mode : Round) (leads : Bool) (amount parts index code status : ℕ) → index ≡ 0
    → IsProjectedAt c mode leads false amount parts index code status
    → IsProjectedAt c mode leads true amount parts index code status
zero_projected c mode leads amount parts zero code status none h =
    let here : lacks_point c true 0 ≡ false = and_false (true && not c.signed) in
    let within : ltb (largest_index c) 0 ≡ false = le-ltb (largest_index c) 0 (omega arith) in
    let nothing : point c.precision 0 ≡ 0 = low_point c.precision 0 (pow_pos (c.precision - 1)) in
    let value = rw (within, nothing) at h.value_is in
    let flags = rw within at h.status_is in
    record { value_is = rw (here, within, nothing) value; status_is = rw (here, within) flags }
  where
    and_false : (b : Bool) → (b && not true) ≡ false
    and_false true = refl
    and_false false = refl
zero_projected c mode leads amount parts (suc index) code status none h = cc

pub lacking_projected : (c : Descriptor) (mode : Round) (leads : Bool) (amount parts index code status : ℕ)
    → c.signed ≡ false → (index ≡ 0 → ⊥) → projected_datum c code ≡ nan false 0 → status ≡ invalid_bit
    → IsProjectedAt c mode leads true amount parts index code status
lacking_projected c mode leads amount parts index code status unsigned some value flags =
    let lacks : lacks_point c true index ≡ true = ap (λ (b : Bool). (true && not b) && not (eqb index 0)) unsigned
    ∙ ap (λ (b : Bool). true && not b) (ne_eqb index 0 some) in
    record { value_is = rw lacks value; status_is = rw lacks flags }

-- a number that is not zero keeps its sign
pub number_signed : (p index : ℕ) (negative : Bool) → 0 < p → 0 < index
    → signed_quanta NanNegativeZero negative (point p index) ≡ finite negative (point p index)
number_signed p index negative some l =
    let least = not_below_number p index some in
    let off : eqb (point p index) 0 ≡ false = ne_eqb (point p index) 0 (λ e. omega (arith, e, l, least)) in
    rw off refl

pub normal_category : (p index : ℕ) (negative : Bool) → 0 < p → 0 < index
    → category_of (finite negative (point p index)) ≡ Normal
normal_category p index negative some l =
    let least = not_below_number p index some in
    let off : eqb (point p index) 0 ≡ false = ne_eqb (point p index) 0 (λ e. omega (arith, e, l, least)) in
    rw off refl

pub largest_some : (c : Descriptor) → IsProjection c → 0 < largest_index c
largest_some c law = by_cases c.signed c.extended (four_codes c law)
  where
    by_cases : (signed extended : Bool) {n : ℕ} → 4 ≤ n → 0 < n - 1 - cond signed 0 1 - cond extended 1 0
    by_cases true true l = omega (arith, l)
    by_cases true false l = omega (arith, l)
    by_cases false true l = omega (arith, l)
    by_cases false false l = omega (arith, l)

-- what each category becomes in a projection: a NaN becomes the NaN
pub nan_into : (c : Descriptor) (f : Format) (rule : ProjectionRule) (x : Datum) (code status : ℕ) (loses : Bool)
    → category_of x ≡ NaN → projected_datum c code ≡ nan false 0 → status ≡ invalid_if (is_signaling_nan f x)
    → loses ≡ not (eqb (payload_mask f) 0) → IsIntoProjectionBy c f rule x code status loses
nan_into c f rule (nan b s) code status loses is value flags lost =
    record { value_is = value; status_is = flags; loses_is = lost }
nan_into c f rule (finite b n) code status loses is value flags lost = absurd (no_nan (eqb n 0) is)
nan_into c f rule (infinite b) code status loses is value flags lost = cc

number_by : (c : Descriptor) (f : Format) (rule : ProjectionRule) (b none : Bool) (n code status : ℕ)
    (loses : Bool) → cond none Zero Normal ≡ Normal → IsProjectedNumberBy c f rule b n code status loses
    → MatchBool none (IsCodeOf c (finite false 0) (cond b inexact_bit ok_bits) b code status loses)
    (IsProjectedNumberBy c f rule b n code status loses)
number_by c f rule b true n code status loses is h = cc
number_by c f rule b false n code status loses is h = h

pub number_into : (c : Descriptor) (f : Format) (rule : ProjectionRule) (x : Datum) (code status : ℕ)
    (loses negative : Bool) → category_of x ≡ Normal → negative ≡ is_negative x
    → IsProjectedBy c rule negative (quanta_of x * 2 ^ (projected_format c).scale) (2 ^ f.scale) code status
    → loses ≡ not (eqb status ok_bits) → IsIntoProjectionBy c f rule x code status loses
number_into c f rule (finite b n) code status loses negative is sign h lost =
    number_by c f rule b (eqb n 0) n code status loses is
    (record {
      is_rounded = subst (λ (d : Bool). IsProjectedBy c rule d (n * 2 ^ (projected_format c).scale) (2 ^ f.scale)
          code status) sign h;
      loses_is = lost;
    })
number_into c f rule (infinite b) code status loses negative is sign h lost = cc
number_into c f rule (nan b s) code status loses negative is sign h lost = cc

-- the number without its sign has the same quanta
normal_negated : (none : Bool) (z : Datum) (n : ℕ) → cond none Zero Normal ≡ Normal
    → quanta_of (cond none z (finite false n)) ≡ n
normal_negated true z n is = cc
normal_negated false z n is = refl

pub positive_quanta : (kind : NonfiniteBehavior) (x : Datum) → category_of x ≡ Normal
    → quanta_of (cond (is_negative x) (negated kind x) x) ≡ quanta_of x
positive_quanta kind (finite true n) is = normal_negated (eqb n 0) _ n is
positive_quanta kind (finite false n) is = refl
positive_quanta kind (infinite b) is = cc
positive_quanta kind (nan b s) is = cc

-- what has a code has a sign only if the format has one
pub signed_if : (negative signed : Bool) → (negative && not signed) ≡ false → negative ≡ true → signed ≡ true
signed_if true true e h = refl
signed_if true false e h = absurd (false≢true (sym e))
signed_if false signed e h = absurd (false≢true h)

-- a format without the sign
pub lacked_sign : (negative signed : Bool) → (negative && not signed) ≡ true → negative ≡ true
lacked_sign true signed e = refl
lacked_sign false signed e = absurd (false≢true e)

pub lacks_no_sign : (negative signed : Bool) → (negative && not signed) ≡ true → signed ≡ false
lacks_no_sign true true e = absurd (false≢true e)
lacks_no_sign true false e = refl
lacks_no_sign false signed e = absurd (false≢true e)

-- ---- out

-- the NaN of a format with one NaN at the code of -0, whatever its precision
pub nan_converted : (c : Descriptor) (g : Format) (mode : Round) (code : ℕ) (value : Datum) (status : ℕ) (loses : Bool)
    → projected_datum c code ≡ nan false 0
    → value ≡ nan (nan_sign g.nonfinite false) (quiet_significand g 0) → status ≡ ok_bits → loses ≡ false
    → IsConversion (projected_format c) g mode (projected_datum c code) value status loses
nan_converted c g mode code value status loses is v s l =
    let none : 0 * 2 ^ (g.precision - c.precision) / 2 ^ 0 ≡ 0 = omega arith in
    subst (λ (x : Datum). IsConversion (projected_format c) g mode x value status loses) (sym is)
    (record {
      value_is = v ∙ ap (λ (n : ℕ). nan (nan_sign g.nonfinite false) (quiet_significand g n)) (sym none);
      status_is = s;
      loses_is = l;
    })

-- what the conversion of another format's infinity or zero is does not depend on that format
pub infinity_converted : (c : Descriptor) (f g : Format) (mode : Round) (code : ℕ) (negative : Bool) (value : Datum)
    (status : ℕ) (loses : Bool) → projected_datum c code ≡ infinite negative
    → IsConversion f g mode (infinite negative) value status loses
    → IsConversion (projected_format c) g mode (projected_datum c code) value status loses
infinity_converted c f g mode code negative value status loses is h =
    subst (λ (x : Datum). IsConversion (projected_format c) g mode x value status loses) (sym is) h

pub zero_converted : (c : Descriptor) (f g : Format) (mode : Round) (code : ℕ) (value : Datum) (status : ℕ)
    (loses : Bool) → projected_datum c code ≡ finite false 0 → IsConversion f g mode (finite false 0) value status loses
    → IsConversion (projected_format c) g mode (projected_datum c code) value status loses
zero_converted c f g mode code value status loses is h =
    subst (λ (x : Datum). IsConversion (projected_format c) g mode x value status loses) (sym is) h

pub number_converted : (c : Descriptor)
    (g : Format) (mode : Round) (code index : ℕ) (negative : Bool) (value : Datum) (status : ℕ) (loses : Bool)
    → 0 < c.precision → 0 < index → projected_datum c code ≡ finite negative (point c.precision index)
    → IsDelivered g mode negative (point c.precision index * 2 ^ g.scale) (2 ^ (projected_format c).scale) value status
    → loses ≡ not (eqb status ok_bits)
    → IsConversion (projected_format c) g mode (projected_datum c code) value status loses
number_converted c g mode code index negative value status loses some p is h l =
    let n : ℕ = point c.precision index in
    let off : eqb n 0 ≡ false = ne_eqb n 0 (λ e. omega (arith, e, not_below_number c.precision index some, p)) in
    subst (λ (x : Datum). IsConversion (projected_format c) g mode x value status loses) (sym is)
    (subst (λ (t : Bool). MatchBool t
    (IsKept (finite (zero_sign g.nonfinite negative) 0) (loses_zero_sign g negative) value status loses)
    (IsConvertedNumber (projected_format c) g mode negative n value status loses)) (sym off)
    (record { is_delivered = h; loses_is = l }))
