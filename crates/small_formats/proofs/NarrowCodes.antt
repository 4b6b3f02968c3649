-- `e3m4` and the format with the same digits and one bit of exponent more: their codes and their roundings.
use Rattle.std.proofs.Common.{◌≡◌, ℕ, zero, suc, ◌+◌, ◌-◌, ◌*◌, ◌/◌, ◌%◌, ◌^◌, ◌<◌}
use Rattle.std.proofs.Common.{◌≤◌, Bool, true, false, cond, not, eqb, ltb, sym, refl, ap, ◌∙◌, subst, inl}
use Rattle.std.proofs.{Common.inr, Common.⊎_elim, Common.arith, Common.lit≤, Math.Nat.mul-le-mul_left}
use Rattle.std.proofs.{Math.Nat.mul-le-mul_right, Math.Nat.pow-le-pow_right, lemmas.Bool.cases_eq, lemmas.Bool.cases_lt}
use Rattle.std.proofs.lemmas.Bool.{eq-eqb, eqb-true, false≢true, le-ltb, lt-ltb, ltb-true, ne_eqb, MatchBool-at_false}
use Rattle.std.specs.Bool.{MatchBool}
use Rattle.apfloat_model.specs.{declared.kinds.Round.Round, arithmetic.Conversions.IsConversion}
use Rattle.apfloat_model.specs.arithmetic.Conversions.{IsConvertedNumber, IsExactlyConverted, IsKept, loses_zero_sign}
use Rattle.apfloat_model.specs.bits.Interchange.{AreWithin, IsInterchange, bits_of_fields}
use Rattle.apfloat_model.specs.bits.Layout.{Fields, IsEncodedBy, datum_of_fields, fields_of, implied_number}
use Rattle.apfloat_model.specs.formats.{Datum.Datum, Datum.finite, Datum.infinite, Datum.nan, Format.Format}
use Rattle.apfloat_model.specs.order.Classes.{is_finite, is_negative, quanta_of}
use Rattle.apfloat_model.specs.rounding.Rounding.{IsDelivered, delivered_status, delivered_value, leads_out, zero_sign}
use Rattle.apfloat_model.proofs.{Once.conversion_once, bits.EncodedOnce.encoded_once, bits.EncodedOnce.fields_with}
use Rattle.apfloat_model.proofs.bits.Encodings.{bits_back, fields_back, fields_within}
use Rattle.apfloat_model.proofs.general.{Powers.two_pos, Choices.digit_low}
use Rattle.small_formats.specs.Float8E3M4.{IsE3M4Once, IsNarrow, e3m4_datum, e3m4_format, e3m4_layout, narrowed}
use Rattle.small_formats.specs.Float8E3M4.{wide_datum, wide_format, wide_layout, widened}

-- ---- fields

-- The law of formats asks for a greatest exponent of at least the precision; what is known of bits does not.
pub e3m4_interchange : IsInterchange e3m4_format e3m4_layout
e3m4_interchange =
    record { precise = lit≤ tt; some = lit≤ tt; bits = refl; within = lit≤ tt; span = refl; explicit = tt }

pub wide_interchange : IsInterchange wide_format wide_layout
wide_interchange =
    record { precise = lit≤ tt; some = lit≤ tt; bits = refl; within = lit≤ tt; span = refl; explicit = tt }

-- the exponent field of nine bits
abbrev field : ℕ → ℕ
field e = cond (ltb e 7) e 15

-- the same sign and the same trailing bits
abbrev wide_fields : Fields → Fields
wide_fields x = fields_with x.negative (field x.biased_exponent) x.trailing

field_fits : (e : ℕ) → e < 8 → field e < 16
field_fits e l =
    ⊎_elim
    (λ (low : e < 7). let t = lt-ltb e 7 low in rw t (omega (arith, low)))
    (λ (high : 7 ≤ e). let t = le-ltb e 7 high in rw t (lit≤ tt))
    (cases_lt e 7)

-- both encode the same datum
same_datum : (b : Bool) (e t : ℕ) → e < 8 → datum_of_fields wide_format wide_layout (fields_with b (field e) t)
    ≡ datum_of_fields e3m4_format e3m4_layout (fields_with b e t)
same_datum b e t l =
    ⊎_elim
    (λ (low : e < 7).
    let narrow : eqb e 7 ≡ false = ne_eqb e 7 (λ q. omega (arith, q, low)) in
    let wide : eqb e 15 ≡ false = ne_eqb e 15 (λ q. omega (arith, q, low)) in
    rw (lt-ltb e 7 low, narrow, wide) refl)
    (λ (high : 7 ≤ e).
    let seven : e ≡ 7 = omega (arith, high, l) in
    rw (le-ltb e 7 high, seven) refl)
    (cases_lt e 7)

-- a code by its fields
widened_fields : (b e t : ℕ) → b < 2 → e < 8 → t < 16 → widened ((b * 8 + e) * 16 + t) ≡ (b * 16 + field e) * 16 + t
widened_fields b e t l m k =
    let whole : ((b * 8 + e) * 16 + t) / 128 ≡ b = omega (arith, m, k) in
    let rest : ((b * 8 + e) * 16 + t) % 128 ≡ e * 16 + t = omega (arith, m, k) in
    ⊎_elim
    (λ (low : e < 7).
    let test : ltb (e * 16 + t) 112 ≡ true = lt-ltb (e * 16 + t) 112 (omega (arith, low, k)) in
    rw (whole, rest, test, lt-ltb e 7 low) (omega arith))
    (λ (high : 7 ≤ e).
    let test : ltb (e * 16 + t) 112 ≡ false = le-ltb (e * 16 + t) 112 (omega (arith, high)) in
    rw (whole, rest, test, le-ltb e 7 high) (omega (arith, high, m)))
    (cases_lt e 7)

pub widened_datum : (code : ℕ) → code < 256 → wide_datum (widened code) ≡ e3m4_datum code
widened_datum code l =
    let x = fields_of e3m4_format e3m4_layout code in
    let w = fields_within e3m4_format e3m4_layout e3m4_interchange code in
    let wide : AreWithin wide_format wide_layout (wide_fields x) =
    record { biased_exponent = field_fits x.biased_exponent w.biased_exponent; trailing = w.trailing } in
    let written : widened code ≡ bits_of_fields wide_format wide_layout (wide_fields x) =
    ap widened (sym (bits_back e3m4_format e3m4_layout e3m4_interchange code l))
    ∙ widened_fields (cond x.negative 1 0) x.biased_exponent x.trailing (digit_low x.negative) w.biased_exponent
    w.trailing in
    ap (λ (n : ℕ). datum_of_fields wide_format wide_layout (fields_of wide_format wide_layout n)) written
    ∙ ap (λ (y : Fields). datum_of_fields wide_format wide_layout y)
    (fields_back wide_format wide_layout wide_interchange (wide_fields x) wide)
    ∙ same_datum x.negative x.biased_exponent x.trailing w.biased_exponent

-- a code of nine bits that is narrow is that of its narrowed code
narrowed_back : (code : ℕ) → IsNarrow code → widened (narrowed code) ≡ code
narrowed_back code n =
    ⊎_elim
    (λ (low : code % 256 < 112).
    let test : ltb (code % 256) 112 ≡ true = lt-ltb (code % 256) 112 low in
    let is : narrowed code ≡ code / 256 * 128 + code % 256 = rw test refl in
    let rest : narrowed code % 128 ≡ code % 256 = omega (arith, is, low) in
    let whole : narrowed code / 128 ≡ code / 256 = omega (arith, is, low) in
    rw (whole, rest, test) (omega arith))
    (λ (high : 240 ≤ code % 256).
    let test : ltb (code % 256) 112 ≡ false = le-ltb (code % 256) 112 (omega (arith, high)) in
    let is : narrowed code ≡ code / 256 * 128 + (code % 256 - 128) = rw test refl in
    let rest : narrowed code % 128 ≡ code % 256 - 128 = omega (arith, is, high) in
    let whole : narrowed code / 128 ≡ code / 256 = omega (arith, is, high) in
    let past : ltb (code % 256 - 128) 112 ≡ false = le-ltb (code % 256 - 128) 112 (omega (arith, high)) in
    rw (whole, rest, past) (omega (arith, high)))
    n.is

narrowed_below : (code : ℕ) → IsNarrow code → narrowed code < 256
narrowed_below code n =
    let l = n.below in
    ⊎_elim
    (λ (low : code % 256 < 112).
    let test : ltb (code % 256) 112 ≡ true = lt-ltb (code % 256) 112 low in rw test (omega (arith, low, l)))
    (λ (high : 240 ≤ code % 256).
    let test : ltb (code % 256) 112 ≡ false = le-ltb (code % 256) 112 (omega (arith, high)) in
    rw test (omega (arith, high, l)))
    n.is

pub narrowed_datum : (code : ℕ) → IsNarrow code → e3m4_datum (narrowed code) ≡ wide_datum code
narrowed_datum code n =
    sym (widened_datum (narrowed code) (narrowed_below code n)) ∙ ap wide_datum (narrowed_back code n)

-- ---- out: what is converted is the same, since a conversion reads no greatest exponent of its operand

pub same_source : (g : Format) (mode : Round) (x value : Datum) (status : ℕ) (loses : Bool)
    → IsConversion wide_format g mode x value status loses → IsConversion e3m4_format g mode x value status loses
same_source g mode (finite b n) value status loses h = number_or_zero (eqb n 0) h
  where
    number_or_zero : (none : Bool)
        → MatchBool none (IsKept (finite (zero_sign g.nonfinite b) 0) (loses_zero_sign g b) value status loses)
        (IsConvertedNumber wide_format g mode b n value status loses)
        → MatchBool none (IsKept (finite (zero_sign g.nonfinite b) 0) (loses_zero_sign g b) value status loses)
        (IsConvertedNumber e3m4_format g mode b n value status loses)
    number_or_zero true k = k
    number_or_zero false k = record { is_delivered = k.is_delivered; loses_is = k.loses_is }
same_source g mode (infinite b) value status loses h = h
same_source g mode (nan b s) value status loses h = h

pub same_exactly : (g : Format) (x value : Datum) (status : ℕ) (loses : Bool)
    → IsExactlyConverted wide_format g x value status loses → IsExactlyConverted e3m4_format g x value status loses
same_exactly g (finite b n) value status loses h = h
same_exactly g (infinite b) value status loses h = h
same_exactly g (nan b s) value status loses h = h

-- ---- in: a pick of at most 15.5 is delivered with the same flags, and any other is past the largest number

-- 992 quanta are 15.5
pub within_both : (mode : Round) (b : Bool) (amount parts pick : ℕ) → pick ≤ 992
    → (delivered_value wide_format mode b pick ≡ delivered_value e3m4_format mode b pick)
    × (delivered_status wide_format mode b amount parts pick ≡ delivered_status e3m4_format mode b amount parts pick)
within_both mode b amount parts pick l =
    let narrow : ltb 992 pick ≡ false = le-ltb 992 pick l in
    let wide : ltb 253952 pick ≡ false = le-ltb 253952 pick (omega (arith, l)) in
    (rw (narrow, wide) refl, rw (narrow, wide) refl)

pub narrow_delivered : (mode : Round) (b : Bool) (amount parts : ℕ) (value : Datum) (status : ℕ)
    → (d : IsDelivered wide_format mode b amount parts value status) → d.pick ≤ 992
    → IsDelivered e3m4_format mode b amount parts value status
narrow_delivered mode b amount parts value status d l =
    let same = within_both mode b amount parts d.pick l in
    record { pick = d.pick; is_pick = d.is_pick; value_is = d.value_is ∙ same.0; status_is = d.status_is ∙ same.1 }

pub past_narrow : (mode : Round) (b : Bool) (amount parts : ℕ) (given value : Datum) (flags status : ℕ)
    → (d : IsDelivered wide_format mode b amount parts given flags) → 992 < d.pick
    → value ≡ cond (leads_out mode b) (infinite b) (finite b 992) → status ≡ cond (leads_out mode b) 20 16
    → IsDelivered e3m4_format mode b amount parts value status
past_narrow mode b amount parts given value flags status d l v s =
    let past : ltb 992 d.pick ≡ true = lt-ltb 992 d.pick l in
    record { pick = d.pick; is_pick = d.is_pick; value_is = rw past v; status_is = rw past s }

-- the code says on which side of 15.5 a wide number is
low_number : (b : Bool) (e t : ℕ) → e < 7 → t < 16 → quanta_of (implied_number wide_format (fields_with b e t)) ≤ 992
low_number b e t l k =
    ⊎_elim
    (λ (z : e ≡ 0). let test = eq-eqb e 0 z in rw test (omega (arith, k)))
    (λ (n : e ≡ 0 → ⊥).
    let exponent : e - 1 ≤ 5 = omega (arith, l) in
    let power : 2 ^ (e - 1) ≤ 2 ^ 5 = pow-le-pow_right two_pos exponent in
    let most : (16 + t) * 2 ^ (e - 1) ≤ (16 + t) * 2 ^ 5 = mul-le-mul_left (16 + t) power in
    rw (ne_eqb e 0 n) (omega (arith, most, k)))
    (cases_eq e 0)

high_number : (b : Bool) (e t : ℕ) → 7 ≤ e → 992 < quanta_of (implied_number wide_format (fields_with b e t))
high_number b e t l =
    let test = ne_eqb e 0 (λ z. omega (arith, z, l)) in
    let exponent : 6 ≤ e - 1 = omega (arith, l) in
    let power : 2 ^ 6 ≤ 2 ^ (e - 1) = pow-le-pow_right two_pos exponent in
    let least : 16 * 2 ^ 6 ≤ (16 + t) * 2 ^ (e - 1) =
    let some : 16 ≤ 16 + t = omega arith in
    let a : 16 * 2 ^ 6 ≤ (16 + t) * 2 ^ 6 = mul-le-mul_right (2 ^ 6) some in
    let c : (16 + t) * 2 ^ 6 ≤ (16 + t) * 2 ^ (e - 1) = mul-le-mul_left (16 + t) power in
    omega (arith, a, c) in
    rw test (omega (arith, least))

-- a finite wide value is at most 15.5 exactly if the low bits of its code say so
pub record IsSided (code : ℕ) (value : Datum) : Type 0 where
  pub low : code % 256 < 112 → (is_finite value ≡ true) × (quanta_of value ≤ 992)
  pub high : 112 ≤ code % 256 → is_finite value ≡ true → 992 < quanta_of value

wide_number : (b : Bool) (e t : ℕ) → e < 15
    → datum_of_fields wide_format wide_layout (fields_with b e t) ≡ implied_number wide_format (fields_with b e t)
wide_number b e t l = let other : eqb e 15 ≡ false = ne_eqb e 15 (λ q. omega (arith, q, l)) in rw other refl

implied_finite : (b : Bool) (e t : ℕ) → is_finite (implied_number wide_format (fields_with b e t)) ≡ true
implied_finite b e t = either (eqb e 0)
  where
    either : (least : Bool) → is_finite (cond least (finite b t) (finite b ((2 ^ (5 - 1) + t) * 2 ^ (e - 1)))) ≡ true
    either true = refl
    either false = refl

wide_special : (b : Bool) (t : ℕ) → is_finite (datum_of_fields wide_format wide_layout (fields_with b 15 t)) ≡ false
wide_special b t = either (eqb t 0)
  where
    either : (none : Bool) → is_finite (cond none (infinite b) (nan b t)) ≡ false
    either true = refl
    either false = refl

sided_fields : (b : Bool) (e t rest : ℕ) → e < 16 → t < 16 → rest ≡ e * 16 + t
    → (rest < 112 → (is_finite (datum_of_fields wide_format wide_layout (fields_with b e t)) ≡ true)
    × (quanta_of (datum_of_fields wide_format wide_layout (fields_with b e t)) ≤ 992))
    × (112 ≤ rest → is_finite (datum_of_fields wide_format wide_layout (fields_with b e t)) ≡ true
    → 992 < quanta_of (datum_of_fields wide_format wide_layout (fields_with b e t)))
sided_fields b e t rest l k is = (
  λ low.
      let seven : e < 7 = omega (arith, low, is) in
      rw (wide_number b e t (omega (arith, seven))) (implied_finite b e t, low_number b e t seven k),
  λ high number.
      let seven : 7 ≤ e = omega (arith, high, is, k) in
      ⊎_elim
      (λ (o : e < 15). rw (wide_number b e t o) (high_number b e t seven))
      (λ (o : 15 ≤ e).
      let same : e ≡ 15 = omega (arith, o, l) in
      absurd (false≢true (sym (ap (λ (n : ℕ). is_finite (datum_of_fields wide_format wide_layout (fields_with b n t)))
      same ∙ wide_special b t) ∙ number)))
      (cases_lt e 15),
)

pub sided : (code : ℕ) → code < 512 → IsSided code (wide_datum code)
sided code l =
    let x = fields_of wide_format wide_layout code in
    let w = fields_within wide_format wide_layout wide_interchange code in
    let digit = digit_low x.negative in
    let rest : code % 256 ≡ x.biased_exponent * 16 + x.trailing =
    omega (arith, bits_back wide_format wide_layout wide_interchange code l, w.biased_exponent, w.trailing, digit) in
    let both = sided_fields x.negative x.biased_exponent x.trailing (code % 256) w.biased_exponent w.trailing rest in
    record { low = both.0; high = both.1 }

-- only infinities and NaNs have the greatest exponent
pub special_code : (code : ℕ) → code < 512 → is_finite (wide_datum code) ≡ false → 240 ≤ code % 256
special_code code l other =
    let x = fields_of wide_format wide_layout code in
    let w = fields_within wide_format wide_layout wide_interchange code in
    let digit = digit_low x.negative in
    let rest : code % 256 ≡ x.biased_exponent * 16 + x.trailing =
    omega (arith, bits_back wide_format wide_layout wide_interchange code l, w.biased_exponent, w.trailing, digit) in
    ⊎_elim
    (λ (o : x.biased_exponent < 15).
    let number : is_finite (wide_datum code) ≡ true =
    ap is_finite (wide_number x.negative x.biased_exponent x.trailing o)
    ∙ implied_finite x.negative x.biased_exponent x.trailing in
    absurd (false≢true (sym other ∙ number)))
    (λ (o : 15 ≤ x.biased_exponent). omega (arith, o, rest))
    (cases_lt x.biased_exponent 15)

-- what is delivered there tells the pick
pub picked_quanta : (mode : Round) (b past none leads : Bool) (pick : ℕ)
    → is_finite (cond past (cond leads (infinite b) (finite b 253952)) (cond none (finite b 0) (finite b pick))) ≡ true
    → (past ≡ true → 253952 < pick) → (none ≡ true → pick ≡ 0)
    → quanta_of (cond past (cond leads (infinite b) (finite b 253952)) (cond none (finite b 0) (finite b pick))) ≤ pick
    × (quanta_of (cond past (cond leads (infinite b) (finite b 253952)) (cond none (finite b 0) (finite b pick))) ≤ 992
    → pick ≤ 992)
picked_quanta mode b true none true pick number past nothing = absurd (false≢true number)
picked_quanta mode b true none false pick number past nothing =
    let more = past refl in (omega (arith, more), λ l. absurd (omega (arith, l)))
picked_quanta mode b false true leads pick number past nothing =
    let none = nothing refl in (omega (arith, none), λ l. omega (arith, none))
picked_quanta mode b false false leads pick number past nothing = (omega arith, λ l. l)

delivered_quanta : (mode : Round) (b : Bool) (amount parts : ℕ) (value : Datum) (status : ℕ)
    → (d : IsDelivered wide_format mode b amount parts value status) → is_finite value ≡ true
    → (quanta_of value ≤ d.pick) × (quanta_of value ≤ 992 → d.pick ≤ 992)
delivered_quanta mode b amount parts value status d number =
    let shown = picked_quanta mode b (ltb 253952 d.pick) (eqb d.pick 0) (leads_out mode b) d.pick
    (sym (ap is_finite d.value_is) ∙ number) (λ e. ltb-true 253952 d.pick e) (λ e. eqb-true d.pick 0 e) in
    subst (λ (v : Datum). (quanta_of v ≤ d.pick) × (quanta_of v ≤ 992 → d.pick ≤ 992)) (sym d.value_is) shown

-- ---- the conversion in

pub within_converted : (f : Format) (mode : Round) (x given : Datum) (status code : ℕ) (loses : Bool)
    → is_finite x ≡ true → IsSided code given → code % 256 < 112 → IsConversion f wide_format mode x given status loses
    → IsConversion f e3m4_format mode x given status loses
within_converted f mode (finite b zero) given status code loses number side low h = h
within_converted f mode (finite b (suc n)) given status code loses number side low h =
    let off : eqb (suc n) 0 ≡ false = ne_eqb (suc n) 0 (λ e. omega (arith, e)) in
    let k = MatchBool-at_false _ (IsConvertedNumber f wide_format mode b (suc n) given status loses) off h in
    let at = side.low low in
    let pick = (delivered_quanta mode b _ _ given status k.is_delivered at.0).1 at.1 in
    rw off (record {
      is_delivered = narrow_delivered mode b _ _ given status k.is_delivered pick;
      loses_is = k.loses_is;
    })
within_converted f mode (infinite b) given status code loses number side low h = absurd (false≢true number)
within_converted f mode (nan b s) given status code loses number side low h = absurd (false≢true number)

-- an infinity and a NaN are in both formats, with the same significands
pub special_converted : (f : Format) (mode : Round) (x given : Datum) (status : ℕ) (loses : Bool) → is_finite x ≡ false
    → IsConversion f wide_format mode x given status loses → IsConversion f e3m4_format mode x given status loses
special_converted f mode (finite b n) given status loses number h = absurd (false≢true (sym number))
special_converted f mode (infinite b) given status loses number h = h
special_converted f mode (nan b s) given status loses number h = h

pub quanta_finite : (none b : Bool) (n : ℕ) → is_finite (cond none (finite b 0) (finite b n)) ≡ true
quanta_finite true b n = refl
quanta_finite false b n = refl

pub lost_past : (leads : Bool) (status : ℕ) → status ≡ cond leads 20 16 → true ≡ not (eqb status 0)
lost_past true status e = ap (λ (n : ℕ). not (eqb n 0)) (sym e)
lost_past false status e = ap (λ (n : ℕ). not (eqb n 0)) (sym e)

-- a value that is not finite overflowed, so the pick is past both largest numbers
past_pick : (mode : Round) (b : Bool) (amount parts : ℕ) (given : Datum) (flags : ℕ)
    → (d : IsDelivered wide_format mode b amount parts given flags)
    → (is_finite given ≡ true → 992 < quanta_of given) → 992 < d.pick
past_pick mode b amount parts given flags d more =
    ⊎_elim
    (λ (l : 253952 < d.pick). omega (arith, l))
    (λ (l : d.pick ≤ 253952).
    let within : ltb 253952 d.pick ≡ false = le-ltb 253952 d.pick l in
    let number : is_finite given ≡ true = ap is_finite d.value_is ∙ rw within (quanta_finite (eqb d.pick 0) b d.pick) in
    omega (arith, more number, (delivered_quanta mode b amount parts given flags d number).0))
    (cases_lt 253952 d.pick)

-- an infinity or a NaN does not become a number
pub special_given : (f : Format) (mode : Round) (x given : Datum) (status : ℕ) (loses : Bool) → is_finite x ≡ false
    → IsConversion f wide_format mode x given status loses → is_finite given ≡ false
special_given f mode (finite b n) given status loses other h = absurd (false≢true (sym other))
special_given f mode (infinite b) given status loses other h = ap is_finite h.value_is
special_given f mode (nan b s) given status loses other h = ap is_finite h.value_is

-- ---- which codes are narrow

pub special_narrow : (f : Format) (mode : Round) (x given : Datum) (status code : ℕ) (loses : Bool)
    → is_finite x ≡ false → code < 512 → wide_datum code ≡ given
    → IsConversion f wide_format mode x given status loses → IsNarrow code
special_narrow f mode x given status code loses other below back h = record {
  below = below;
  is = inr (special_code code below (ap is_finite back ∙ special_given f mode x given status loses other h));
}

pub low_narrow : (code : ℕ) → code < 512 → code % 256 < 112 → IsNarrow code
low_narrow code below low = record { below = below; is = inl low }

pub past_converted : (f : Format) (mode : Round) (x given value : Datum) (flags status code : ℕ) (lost : Bool)
    → is_finite x ≡ true → IsSided code given → 112 ≤ code % 256 → IsConversion f wide_format mode x given flags lost
    → value ≡ cond (leads_out mode (is_negative x)) (infinite (is_negative x)) (finite (is_negative x) 992)
    → status ≡ cond (leads_out mode (is_negative x)) 20 16 → IsConversion f e3m4_format mode x value status true
past_converted f mode (finite b zero) given value flags status code lost number side high h v s =
    absurd (let none = ap quanta_of h.value_is in omega (arith, side.high high (ap is_finite h.value_is), none))
past_converted f mode (finite b (suc n)) given value flags status code lost number side high h v s =
    let off : eqb (suc n) 0 ≡ false = ne_eqb (suc n) 0 (λ e. omega (arith, e)) in
    let k = MatchBool-at_false _ (IsConvertedNumber f wide_format mode b (suc n) given flags lost) off h in
    let d = k.is_delivered in
    let past = past_pick mode b _ _ given flags d (λ number. side.high high number) in
    rw off (record {
      is_delivered = past_narrow mode b _ _ given value flags status d past v s;
      loses_is = lost_past (leads_out mode b) status s;
    })
past_converted f mode (infinite b) given value flags status code lost number side high h v s =
    absurd (false≢true number)
past_converted f mode (nan b t) given value flags status code lost number side high h v s = absurd (false≢true number)

-- ---- one answer

pub e3m4_encoded : (code : ℕ) → code < 256 → IsEncodedBy e3m4_format e3m4_layout code (e3m4_datum code)
e3m4_encoded code l = record { below = l; canonical = refl; is = refl }

pub e3m4_code_once : (code other : ℕ) → code < 256 → other < 256 → e3m4_datum code ≡ e3m4_datum other → code ≡ other
e3m4_code_once code other l k e =
    encoded_once e3m4_format e3m4_layout (e3m4_datum other) code other e3m4_interchange
    (subst (λ (d : Datum). IsEncodedBy e3m4_format e3m4_layout code d) e (e3m4_encoded code l)) (e3m4_encoded other k)

pub e3m4_once : IsE3M4Once
e3m4_once f mode x code other status flags loses lost l k h j =
    let same = conversion_once f e3m4_format mode x (e3m4_datum code) (e3m4_datum other) status flags loses lost h j in
    (e3m4_code_once code other l k same.0, same.1, same.2)
