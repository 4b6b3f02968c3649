-- Results of an operation rounded downward and upward are in order, and equal exactly where they are exact.
use Rattle.std.proofs.Common.{◌≡◌, ℕ, zero, suc, ◌*◌, ◌^◌, ◌<◌, ◌⊎◌, Bool, true, false, cond, eqb, sym, refl, ◌∙◌}
use Rattle.std.proofs.Common.{subst, inl, inr, ⊎_elim, lit<, arith}
use Rattle.std.proofs.lemmas.{Bool.true≢false, Bool.false≢true, Nat.pow_pos}
use Rattle.std.specs.Prelude.{not, if◌then◌else◌, ◌&&◌, ℤ, pos, negsuc, ◌+ℤ◌, ◌-ℤ◌, ◌≤ℤ◌, List}
use Rattle.apfloat_model.specs.{formats.Nan.quiet_significand, order.Classes.is_finite, order.Classes.is_nan}
use Rattle.apfloat_model.specs.{order.Classes.is_zero, rounding.Answer.IsAnswer}
use Rattle.apfloat_model.specs.declared.kinds.NonfiniteBehavior.{NonfiniteBehavior}
use Rattle.apfloat_model.specs.declared.kinds.NonfiniteBehavior.TheVariants.{IEEE754, NanOnly, NanNegativeZero}
use Rattle.apfloat_model.specs.declared.kinds.Round.{Round, TheVariants.TowardPositive, TheVariants.TowardNegative}
use Rattle.apfloat_model.specs.arithmetic.Conversions.{has_infinities, converted_nan, IsConverted, IsConversion}
use Rattle.apfloat_model.specs.arithmetic.Exact.{same_sign, product_sign, signed, magnitude, sign_of, IsRounded, down}
use Rattle.apfloat_model.specs.arithmetic.FusedSums.{on_product, with_product, IsFusedSum}
use Rattle.apfloat_model.specs.arithmetic.Products.{product, IsProduct}
use Rattle.apfloat_model.specs.arithmetic.Quotients.{div_by_zero_bit, IsQuotient}
use Rattle.apfloat_model.specs.arithmetic.Sums.{zero_sum_sign, sum, IsSum, IsDifference}
use Rattle.apfloat_model.specs.formats.{Constants.infinity_of, Datum.Datum, Datum.finite, Datum.infinite, Datum.nan}
use Rattle.apfloat_model.specs.formats.{Format.Format, Format.nan_base, Nan.invalid_bit, Nan.quieted}
use Rattle.apfloat_model.specs.rounding.{Negation.negated, Rounding.ok_bits}
use Rattle.apfloat_model.specs.rounding.Outcome.{Outcome, settled, rounded, totalled, rooted, exactly, invalid, Yields}
use Rattle.apfloat_model.specs.rounding.Rounding.{inexact_bit, past_largest, zero_sign, signed_quanta, IsDelivered}
use Rattle.apfloat_model.specs.rounding.TwoModes.{AreBounds, IsOk, IsOkOrOfZero}
use Rattle.apfloat_model.specs.texts.Readings.{read_nan, IsMeant, IsReading}
use Rattle.apfloat_model.specs.texts.Specials.{TextMeaning, infinity, not_a_number, hexadecimal}
use Rattle.apfloat_model.specs.whole_numbers.WholeNumbers.{IsFromUnsigned, IsFromSigned}
use Rattle.apfloat_model.proofs.{arithmetic.Signs.no_sign, general.Choices.not_zero, general.Choices.above_zero}
use Rattle.apfloat_model.proofs.{rounding.OutwardRoundings.delivered_encloses, texts.OneMeaning.one_meaning}
use Rattle.apfloat_model.proofs.rounding.{Laws.delivered_once, Laws.zero_delivered, OutwardRoundings.at_most_self}
use Rattle.apfloat_model.proofs.rounding.OutwardRoundings.{equal_to_self, equal_numbers, number_at_most, Encloses}

-- a datum that is not a NaN bounds itself
one_bounds : (IsExact : ℕ → Type 0) (datum : Datum) (flags : ℕ) → IsExact flags → is_nan datum ≡ false
    → AreBounds IsExact datum datum flags flags
one_bounds IsExact datum flags e n =
    record {
      in_order = at_most_self datum n;
      equal_by_low = (λ _. e, λ _. equal_to_self datum n);
      equal_by_high = (λ _. e, λ _. equal_to_self datum n);
    }

-- a result given outright, whatever the mode, gives bounds if it is exact or a NaN
answer_encloses : (IsExact : ℕ → Type 0) (datum : Datum) (flags : ℕ)
    → (is_nan datum ≡ false → IsExact flags) → Encloses IsExact (λ mode. IsAnswer datum flags)
answer_encloses IsExact datum flags e low high s t d g n m =
    let k : is_nan datum ≡ false = subst (λ (v : Datum). is_nan v ≡ false) d.value_is n in
    rw (d.value_is, g.value_is, d.status_is, g.status_is) (one_bounds IsExact datum flags (e k) k)

-- a result given outright with status OK gives bounds
ok_encloses : (datum : Datum) → Encloses IsOk (λ mode. IsAnswer datum ok_bits)
ok_encloses datum = answer_encloses IsOk datum ok_bits (λ n. refl)

-- a result given outright that is a NaN gives bounds, which claim nothing about NaNs
nan_encloses : (IsExact : ℕ → Type 0) (negative : Bool) (significand flags : ℕ)
    → Encloses IsExact (λ mode. IsAnswer (nan negative significand) flags)
nan_encloses IsExact negative significand flags =
    answer_encloses IsExact (nan negative significand) flags (λ n. absurd (true≢false n))

-- if two outcomes give bounds, so does the one that a test chooses
if_encloses : (IsExact : ℕ → Type 0) (format : Format) (test : Bool) (one other : Outcome)
    → (test ≡ true → Encloses IsExact (λ mode. Yields format mode one))
    → (test ≡ false → Encloses IsExact (λ mode. Yields format mode other))
    → Encloses IsExact (λ mode. Yields format mode (if test then one else other))
if_encloses IsExact format true one other p q = p refl
if_encloses IsExact format false one other p q = q refl

-- an invalid operation or a result given outright, as a test chooses, gives bounds
invalid_or_encloses : (IsExact : ℕ → Type 0) (format : Format) (test : Bool) (datum : Datum) (flags : ℕ)
    → (test ≡ false → is_nan datum ≡ false → IsExact flags)
    → Encloses IsExact (λ mode. Yields format mode (if test then invalid format else settled datum flags))
invalid_or_encloses IsExact format test datum flags e =
    if_encloses IsExact format test (invalid format) (settled datum flags)
    (λ _. nan_encloses IsExact false (quiet_significand format 0) invalid_bit)
    (λ t. answer_encloses IsExact datum flags (e t))

pub product_encloses : (format : Format) (x y : Datum) → Encloses IsOk (λ mode. IsProduct format mode x y)
product_encloses format (nan b s) y = nan_encloses IsOk b (quieted format s) _
product_encloses format (finite b m) (nan c t) = nan_encloses IsOk c (quieted format t) _
product_encloses format (infinite b) (nan c t) = nan_encloses IsOk c (quieted format t) _
product_encloses format (finite b m) (infinite c) =
    invalid_or_encloses IsOk format (eqb m 0) (infinite (product_sign b c)) ok_bits (λ e n. refl)
product_encloses format (infinite b) (finite c n) =
    invalid_or_encloses IsOk format (eqb n 0) (infinite (product_sign b c)) ok_bits (λ e n. refl)
product_encloses format (infinite b) (infinite c) = ok_encloses (infinite (product_sign b c))
product_encloses format (finite b m) (finite c n) =
    delivered_encloses format (product_sign b c) (m * n) (2 ^ format.scale) (pow_pos format.scale)

-- if the operand is not a zero, only a status of OK is exact
exact_by_ok : (operand low high : Datum) (s t : ℕ) → is_zero operand ≡ false → AreBounds IsOk low high s t
    → AreBounds (IsOkOrOfZero operand) low high s t
exact_by_ok operand low high s t z b =
    record {
      in_order = b.in_order;
      equal_by_low = (
        λ e. inl (b.equal_by_low.0 e),
        ⊎_elim b.equal_by_low.1 (λ (y : is_zero operand ≡ true). absurd (true≢false (sym y ∙ z))),
      );
      equal_by_high = (
        λ e. inl (b.equal_by_high.0 e),
        ⊎_elim b.equal_by_high.1 (λ (y : is_zero operand ≡ true). absurd (true≢false (sym y ∙ z))),
      );
    }

pub quotient_encloses : (format : Format) (x y : Datum) → Encloses (IsOkOrOfZero y) (λ mode. IsQuotient format mode x y)
quotient_encloses format (nan b s) y = nan_encloses (IsOkOrOfZero y) b (quieted format s) _
quotient_encloses format (finite b m) (nan c t) = nan_encloses (IsOkOrOfZero (nan c t)) c (quieted format t) _
quotient_encloses format (infinite b) (nan c t) = nan_encloses (IsOkOrOfZero (nan c t)) c (quieted format t) _
quotient_encloses format (finite b m) (infinite c) =
    answer_encloses (IsOkOrOfZero (infinite c)) (signed_quanta format.nonfinite (product_sign b c) 0) ok_bits
    (λ n. inl refl)
quotient_encloses format (infinite b) (finite c n) =
    answer_encloses (IsOkOrOfZero (finite c n)) (infinite (product_sign b c)) ok_bits (λ n. inl refl)
quotient_encloses format (infinite b) (infinite c) =
    nan_encloses (IsOkOrOfZero (infinite c)) false (quiet_significand format 0) invalid_bit
quotient_encloses format (finite b m) (finite c n) =
    if_encloses (IsOkOrOfZero (finite c n)) format (eqb n 0)
    (if eqb m 0 then invalid format else settled (infinity_of format (product_sign b c)) div_by_zero_bit)
    (rounded (product_sign b c) (m * 2 ^ format.scale) n)
    (λ e. invalid_or_encloses (IsOkOrOfZero (finite c n)) format (eqb m 0) (infinity_of format (product_sign b c))
    div_by_zero_bit (λ _ _. inr e)) (λ e low high s t d g k l. exact_by_ok (finite c n) low high s t e
    (delivered_encloses format (product_sign b c) (m * 2 ^ format.scale) n (above_zero n e) low high s t d g k l))

pub from_unsigned_encloses : (format : Format) (number : ℕ) → Encloses IsOk (λ mode. IsFromUnsigned format mode number)
from_unsigned_encloses format number = delivered_encloses format false (number * 2 ^ format.scale) 1 (lit< tt)

pub from_signed_encloses : (format : Format) (number : ℤ) → Encloses IsOk (λ mode. IsFromSigned format mode number)
from_signed_encloses format number =
    delivered_encloses format (sign_of false number) (magnitude number * 2 ^ format.scale) 1 (lit< tt)

-- a conversion keeps an infinity that the format has, with status OK
kept_infinity : (kind : NonfiniteBehavior) (base : ℕ) (negative : Bool)
    → is_nan (past_largest kind base negative) ≡ false → cond (not (has_infinities kind)) inexact_bit ok_bits ≡ ok_bits
kept_infinity IEEE754 base negative n = refl
kept_infinity NanOnly base negative n = absurd (true≢false n)
kept_infinity NanNegativeZero base negative n = absurd (true≢false n)

-- a conversion given outright, whatever the mode, gives bounds if it is exact or a NaN
converted_encloses : (IsExact : ℕ → Type 0) (datum : Datum) (flags : ℕ) (losing : Bool)
    → (is_nan datum ≡ false → IsExact flags)
    → Encloses IsExact (λ mode value status. (loses : Bool) × IsConverted datum flags losing value status loses)
converted_encloses IsExact datum flags losing e low high s t d g =
    answer_encloses IsExact datum flags e low high s t
    (record { value_is = d.1.value_is; status_is = d.1.status_is })
    (record { value_is = g.1.value_is; status_is = g.1.status_is })

-- a conversion, whether or not it loses information
pub conversion_encloses : (from into : Format) (x : Datum)
    → Encloses (IsOkOrOfZero x) (λ mode value status. (loses : Bool) × IsConversion from into mode x value status loses)
conversion_encloses from into (nan b t) =
    converted_encloses (IsOkOrOfZero (nan b t)) (converted_nan from into b t) _ _ (λ n. absurd (true≢false n))
conversion_encloses from into (infinite b) =
    converted_encloses (IsOkOrOfZero (infinite b)) (infinity_of into b) _ _
    (λ n. inl (kept_infinity into.nonfinite (nan_base into) b n))
conversion_encloses from into (finite b zero) =
    converted_encloses (IsOkOrOfZero (finite b 0)) (finite (zero_sign into.nonfinite b) 0) _ _ (λ n. inr refl)
conversion_encloses from into (finite b (suc n)) =
    rw (not_zero (suc n) (omega arith))
    (λ low high s t d g k l. exact_by_ok (finite b (suc n)) low high s t (not_zero (suc n) (omega arith))
    (delivered_encloses into b (suc n * 2 ^ into.scale) (2 ^ from.scale) (pow_pos from.scale) low high s t
    d.1.is_delivered g.1.is_delivered k l))

pub meant_encloses : (format : Format) (meaning : TextMeaning) → Encloses IsOk (λ mode. IsMeant format mode meaning)
meant_encloses format (infinity negative) = ok_encloses (infinity_of format negative)
meant_encloses format (not_a_number negative signaling payload) =
    ok_encloses (read_nan format negative signaling payload)
meant_encloses format (hexadecimal negative h places e) =
    delivered_encloses format negative _ (2 ^ down (e -ℤ pos (4 * places) +ℤ pos format.scale)) (pow_pos _)

pub reading_encloses : (format : Format) (text : List ℕ) → Encloses IsOk (λ mode. IsReading format mode text)
reading_encloses format text low high s t d g n m =
    let e = one_meaning text g.meaning d.meaning g.means d.means in
    meant_encloses format d.meaning low high s t d.is_meant
    (subst (λ (x : TextMeaning). IsMeant format TowardPositive x high t) e g.is_meant) n m

-- ---- sums: the sign of an exact zero depends on the mode

-- two zeros are equal
zeros_are_bounds : (left right : Bool) → AreBounds IsOk (finite left 0) (finite right 0) ok_bits ok_bits
zeros_are_bounds left right =
    let e : signed left 0 ≡ signed right 0 = no_sign left ∙ sym (no_sign right) in
    let equal = (equal_numbers (signed left 0) (signed right 0)).1 e in
    record {
      in_order = subst (λ (z : ℤ). signed left 0 ≤ℤ z) e (number_at_most (signed left 0));
      equal_by_low = (λ _. refl, λ _. equal);
      equal_by_high = (λ _. refl, λ _. equal);
    }

zero_is : (format : Format) (mode : Round) (negative : Bool) (parts : ℕ) (value : Datum) (status : ℕ) → 0 < parts
    → IsDelivered format mode negative 0 parts value status
    → (value ≡ finite (zero_sign format.nonfinite negative) 0) × (status ≡ ok_bits)
zero_is format mode negative parts v s p x =
    delivered_once format mode negative 0 parts v _ s ok_bits x (zero_delivered format mode negative parts 0 p refl)

pub rounded_encloses : (format : Format) (of_zero : Round → Bool) (exact : ℤ) (parts : ℕ) → 0 < parts
    → Encloses IsOk (λ mode. IsRounded format mode (of_zero mode) exact parts)
rounded_encloses format of_zero (pos zero) parts p = λ low high s t d g n m.
    let a = zero_is format TowardNegative (of_zero TowardNegative) parts low s p d in
    let b = zero_is format TowardPositive (of_zero TowardPositive) parts high t p g in
    rw (a.0, a.1, b.0, b.1) (zeros_are_bounds _ _)
rounded_encloses format of_zero (pos (suc n)) parts p =
    delivered_encloses format false (magnitude (pos (suc n))) parts p
rounded_encloses format of_zero (negsuc n) parts p = delivered_encloses format true (magnitude (negsuc n)) parts p

pub sum_encloses : (format : Format) (x y : Datum) → Encloses IsOk (λ mode. IsSum format mode x y)
sum_encloses format (nan b s) y = nan_encloses IsOk b (quieted format s) _
sum_encloses format (finite b m) (nan c t) = nan_encloses IsOk c (quieted format t) _
sum_encloses format (infinite b) (nan c t) = nan_encloses IsOk c (quieted format t) _
sum_encloses format (infinite b) (infinite c) =
    if_encloses IsOk format (same_sign b c) (exactly (infinite b)) (invalid format)
    (λ e. ok_encloses (infinite b)) (λ e. nan_encloses IsOk false (quiet_significand format 0) invalid_bit)
sum_encloses format (infinite b) (finite c n) = ok_encloses (infinite b)
sum_encloses format (finite b m) (infinite c) = ok_encloses (infinite c)
sum_encloses format (finite b m) (finite c n) =
    rounded_encloses format (λ mode. zero_sum_sign mode b c) (signed b m +ℤ signed c n) 1 (lit< tt)

pub difference_encloses : (format : Format) (x y : Datum) → Encloses IsOk (λ mode. IsDifference format mode x y)
difference_encloses format (nan b s) y = nan_encloses IsOk b (quieted format s) _
difference_encloses format (finite b m) (nan c t) = nan_encloses IsOk c (quieted format t) _
difference_encloses format (infinite b) (nan c t) = nan_encloses IsOk c (quieted format t) _
difference_encloses format (finite b m) (finite c n) = sum_encloses format (finite b m)
    (negated format.nonfinite (finite c n))
difference_encloses format (finite b m) (infinite c) = sum_encloses format (finite b m)
    (negated format.nonfinite (infinite c))
difference_encloses format (infinite b) (finite c n) = sum_encloses format (infinite b)
    (negated format.nonfinite (finite c n))
difference_encloses format (infinite b) (infinite c) = sum_encloses format (infinite b)
    (negated format.nonfinite (infinite c))

-- the outcome of a product with an infinity or a NaN
abbrev pub IsNanOrExact : Outcome → Type 0
IsNanOrExact (settled datum flags) = (is_nan datum ≡ true) ⊎ (flags ≡ ok_bits)
IsNanOrExact (rounded negative amount parts) = ⊥
IsNanOrExact (totalled left right exact parts) = ⊥
IsNanOrExact (rooted square parts) = ⊥

nan_or_exact_if : (format : Format) (test : Bool) (datum : Datum)
    → IsNanOrExact (if test then invalid format else exactly datum)
nan_or_exact_if format true datum = inl refl
nan_or_exact_if format false datum = inr refl

special_product : (format : Format) (x y : Datum) → is_finite x && is_finite y ≡ false
    → IsNanOrExact (product format x y)
special_product format (nan b u) y n = inl refl
special_product format (finite b m) (nan c u) n = inl refl
special_product format (infinite b) (nan c u) n = inl refl
special_product format (finite b m) (infinite c) n = nan_or_exact_if format (eqb m 0) (infinite (product_sign b c))
special_product format (infinite b) (finite c k) n = nan_or_exact_if format (eqb k 0) (infinite (product_sign b c))
special_product format (infinite b) (infinite c) n = inr refl
special_product format (finite b m) (finite c k) n = absurd (true≢false n)

on_nan_encloses : (format : Format) (datum z : Datum) (flags : ℕ) → is_nan datum ≡ true
    → Encloses IsOk (λ mode. Yields format mode (on_product format z (settled datum flags)))
on_nan_encloses format (nan b u) z flags e =
    if_encloses IsOk format (eqb flags ok_bits) (sum format (nan b u) z) (settled (nan b u) flags)
    (λ _. sum_encloses format (nan b u) z) (λ _. nan_encloses IsOk b u flags)
on_nan_encloses format (finite b m) z flags e = absurd (false≢true e)
on_nan_encloses format (infinite b) z flags e = absurd (false≢true e)

on_product_encloses : (format : Format) (z : Datum) (outcome : Outcome) → IsNanOrExact outcome
    → Encloses IsOk (λ mode. Yields format mode (on_product format z outcome))
on_product_encloses format z (settled datum flags) h =
    ⊎_elim (λ (e : is_nan datum ≡ true). on_nan_encloses format datum z flags e)
    (λ (e : flags ≡ ok_bits). subst (λ (t : ℕ). Encloses IsOk
    (λ mode. Yields format mode (on_product format z (settled datum t)))) (sym e) (sum_encloses format datum z)) h
on_product_encloses format z (rounded negative amount parts) h = absurd h
on_product_encloses format z (totalled left right exact parts) h = absurd h
on_product_encloses format z (rooted square parts) h = absurd h

sum_with_product_encloses : (format : Format) (x y z : Datum) → is_finite x && is_finite y ≡ false
    → Encloses IsOk (λ mode. Yields format mode (with_product format x y z))
sum_with_product_encloses format x y z special =
    on_product_encloses format z (product format x y) (special_product format x y special)

pub fused_sum_encloses : (format : Format) (x y z : Datum) → Encloses IsOk (λ mode. IsFusedSum format mode x y z)
fused_sum_encloses format (finite b l) (finite c m) (finite d n) =
    rounded_encloses format (λ mode. zero_sum_sign mode (product_sign b c) d)
    (signed (product_sign b c) (l * m) +ℤ signed d (n * 2 ^ format.scale)) (2 ^ format.scale) (pow_pos format.scale)
fused_sum_encloses format (finite b l) (finite c m) (infinite d) = sum_encloses format (finite b l) (infinite d)
fused_sum_encloses format (finite b l) (finite c m) (nan d t) = sum_encloses format (finite b l) (nan d t)
fused_sum_encloses format (finite b l) (infinite c) z =
    sum_with_product_encloses format (finite b l) (infinite c) z refl
fused_sum_encloses format (finite b l) (nan c t) z = sum_with_product_encloses format (finite b l) (nan c t) z refl
fused_sum_encloses format (infinite b) y z = sum_with_product_encloses format (infinite b) y z refl
fused_sum_encloses format (nan b u) y z = sum_with_product_encloses format (nan b u) y z refl
