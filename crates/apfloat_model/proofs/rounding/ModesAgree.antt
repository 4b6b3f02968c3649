-- Where a rounding is exact, each mode has the same result.
use Rattle.std.proofs.{Math.Nat.le_of_mul-le-mul_right, lemmas.Nat.pow_pos, lemmas.Bool.ltb-false, lemmas.Bool.eqb-true}
use Rattle.std.proofs.Common.{◌≡◌, ℕ, zero, suc, ◌+◌, ◌-◌, ◌*◌, ◌/◌, ◌%◌, ◌^◌, ◌<◌, ◌≤◌, Bool, true, false, cond, ltb}
use Rattle.std.proofs.Common.{eqb, sym, refl, ◌∙◌, subst, arith, ◌⊎◌, inl, inr, lit<, ap}
use Rattle.std.specs.Prelude.{ℤ, pos, negsuc, ◌+ℤ◌, ◌-ℤ◌, if◌then◌else◌, List}
use Rattle.apfloat_model.specs.{declared.kinds.Round.Round, formats.Format.Format, formats.Format.largest}
use Rattle.apfloat_model.specs.formats.Datum.{Datum, finite, infinite, nan}
use Rattle.apfloat_model.specs.rounding.{Grid.IsOnGrid, Rounding.takes_above, Rounding.IsPick, Rounding.IsDelivered}
use Rattle.apfloat_model.specs.rounding.{Answer.IsAnswer}
use Rattle.apfloat_model.specs.rounding.Rounding.{ok_bits, overflow_bit, underflow_bit, inexact_bit, raises_overflow}
use Rattle.apfloat_model.specs.rounding.Rounding.{is_tiny, zero_sign, signed_quanta, delivered_value, delivered_status}
use Rattle.apfloat_model.specs.rounding.DeliveredRoots.{square_of, is_tiny_root, root_status, IsDeliveredRoot}
use Rattle.apfloat_model.specs.rounding.Outcome.{Outcome, settled, rounded, totalled, rooted, Yields, IsSound}
use Rattle.apfloat_model.specs.order.Classes.{is_zero}
use Rattle.apfloat_model.specs.arithmetic.{Exact.magnitude, Exact.IsRounded, Exact.down, Sums.zero_sum_sign, Sums.sum}
use Rattle.apfloat_model.specs.arithmetic.{Sums.difference, Sums.IsSum, Sums.IsDifference, Conversions.IsConversion}
use Rattle.apfloat_model.specs.arithmetic.{Products.product, Products.IsProduct, Quotients.quotient}
use Rattle.apfloat_model.specs.arithmetic.{Quotients.IsQuotient, FusedSums.fused_sum, FusedSums.IsFusedSum}
use Rattle.apfloat_model.specs.whole_numbers.WholeNumbers.{from_unsigned, from_signed, IsFromUnsigned, IsFromSigned}
use Rattle.apfloat_model.specs.texts.Specials.{TextMeaning, infinity, not_a_number, hexadecimal}
use Rattle.apfloat_model.specs.texts.Readings.{IsMeant, IsReading}
use Rattle.apfloat_model.proofs.{arithmetic.RootSides.root_le, Outcomes.IsFixed}
use Rattle.apfloat_model.proofs.general.Choices.{if_case, not_zero, either}
use Rattle.apfloat_model.proofs.rounding.Laws.{delivered_once, exact_delivered, zero_delivered}
use Rattle.apfloat_model.proofs.rounding.RootsOnce.{below_root_unique, above_root_unique}
use Rattle.apfloat_model.proofs.Outcomes.{product_fixed, quotient_fixed, sum_sound, difference_sound, fused_sum_sound}
use Rattle.apfloat_model.proofs.texts.OneMeaning.{one_meaning}

-- ---- a status that is OK

past_not_ok : (out : Bool) → (if out then overflow_bit + inexact_bit else inexact_bit) ≡ ok_bits → ⊥
past_not_ok true e = omega (arith, e)
past_not_ok false e = omega (arith, e)

lost_not_ok : (tiny : Bool) → (if tiny then underflow_bit + inexact_bit else inexact_bit) ≡ ok_bits → ⊥
lost_not_ok true e = omega (arith, e)
lost_not_ok false e = omega (arith, e)

ok_tests : (past exact out tiny : Bool) → (if past then (if out then overflow_bit + inexact_bit else inexact_bit)
    else (if exact then ok_bits else (if tiny then underflow_bit + inexact_bit else inexact_bit))) ≡ ok_bits
    → (past ≡ false) × (exact ≡ true)
ok_tests true exact out tiny e = absurd (past_not_ok out e)
ok_tests false true out tiny e = (refl, refl)
ok_tests false false out tiny e = absurd (lost_not_ok tiny e)

-- if the status is OK, the pick is a number of the format, and is the magnitude
ok_is_exact : (format : Format) (mode : Round) (negative : Bool) (amount parts pick : ℕ)
    → delivered_status format mode negative amount parts pick ≡ ok_bits
    → (ltb (largest format) pick ≡ false) × (pick * parts ≡ amount)
ok_is_exact format mode negative amount parts pick e =
    let t = ok_tests (ltb (largest format) pick) (eqb (pick * parts) amount) (raises_overflow format mode negative)
    (is_tiny format mode negative amount parts pick) e in
    (t.0, eqb-true (pick * parts) amount t.1)

-- whichever of two grid numbers a test chooses is a grid number, and so is a pick
pub either_on_grid : (test : Bool) (precision x y : ℕ) → IsOnGrid precision x → IsOnGrid precision y
    → IsOnGrid precision (cond test x y)
either_on_grid true precision x y g h = g
either_on_grid false precision x y g h = h

pub pick_on_grid : (precision : ℕ) (mode : Round) (negative : Bool) (amount parts pick : ℕ)
    → IsPick precision mode negative amount parts pick → IsOnGrid precision pick
pick_on_grid precision mode negative amount parts pick x =
    subst (λ (point : ℕ). IsOnGrid precision point) (sym x.is)
    (either_on_grid (takes_above mode negative (amount - x.below * parts) (x.above * parts - amount)
    (eqb (x.below / (x.above - x.below) % 2) 1)) precision x.above x.below x.is_above.on_grid x.is_below.on_grid)

-- a rounding with status OK in one mode has the same value, with status OK, in each mode
pub ok_in_each_mode : (format : Format) (mode other : Round) (negative : Bool) (amount parts : ℕ) (value : Datum)
    → 0 < parts → IsDelivered format mode negative amount parts value ok_bits
    → IsDelivered format other negative amount parts value ok_bits
ok_in_each_mode format mode other negative amount parts value p x =
    let t = ok_is_exact format mode negative amount parts x.pick (sym x.status_is) in
    let g = pick_on_grid format.precision mode negative amount parts x.pick x.is_pick in
    let a : ltb (largest format) x.pick ≡ false = t.0 in
    let v : delivered_value format mode negative x.pick ≡ signed_quanta format.nonfinite negative x.pick = rw a refl in
    subst (λ (d : Datum). IsDelivered format other negative amount parts d ok_bits) (sym (x.value_is ∙ v))
    (exact_delivered format other negative x.pick amount parts p g (ltb-false (largest format) x.pick t.0) (sym t.1))

-- ---- operations

-- if the status is OK in one mode, each mode gives the same value, with status OK
abbrev pub AgreesWhereOk : (Round → Datum → ℕ → Type 0) → Type 0
AgreesWhereOk R =
    (mode other : Round) (value other_value : Datum) (status : ℕ) → R mode value ok_bits → R other other_value status
    → (other_value ≡ value) × (status ≡ ok_bits)

pub delivered_agrees : (format : Format) (negative : Bool) (amount parts : ℕ) → 0 < parts
    → AgreesWhereOk (λ mode. IsDelivered format mode negative amount parts)
delivered_agrees format negative amount parts p mode other v w s x y =
    delivered_once format other negative amount parts w v s ok_bits y
    (ok_in_each_mode format mode other negative amount parts v p x)

-- a result given outright, whatever the mode
answer_agrees : (datum : Datum) (flags : ℕ) → AgreesWhereOk (λ mode. IsAnswer datum flags)
answer_agrees datum flags mode other v w s x y = (y.value_is ∙ sym x.value_is, y.status_is ∙ sym x.status_is)

-- of two points whose squares are compared with a root, that of the smaller square is smaller
point_le : (point other parts : ℕ) → 0 < parts → square_of point parts ≤ square_of other parts → point ≤ other
point_le point other parts some h = le_of_mul-le-mul_right (root_le (point * parts) (other * parts) h) some

-- a root with status OK in one mode has the same value, with status OK, in each mode
root_agrees : (format : Format) (square parts : ℕ) → 0 < parts
    → AgreesWhereOk (λ mode. IsDeliveredRoot format mode square parts)
root_agrees format square parts some mode other v w s x y =
    let t = ok_tests (ltb (largest format) x.pick) (eqb (square_of x.pick parts) square)
    (raises_overflow format mode false) (is_tiny_root format mode square parts x.pick) (sym x.status_is) in
    let e : square_of x.pick parts ≡ square = eqb-true (square_of x.pick parts) square t.1 in
    let g : IsOnGrid format.precision x.pick = subst (λ (point : ℕ). IsOnGrid format.precision point) (sym x.is_pick.is)
    (if_case (λ (point : ℕ). IsOnGrid format.precision point)
    (takes_above mode false (4 * square) (square_of (x.is_pick.below + x.is_pick.above) parts)
    (eqb (x.is_pick.below / (x.is_pick.above - x.is_pick.below) % 2) 1))
    (λ above. x.is_pick.is_above.on_grid) (λ below. x.is_pick.is_below.on_grid)) in
    let low : y.is_pick.below ≡ x.pick = below_root_unique format.precision _ _ square parts y.is_pick.is_below
    (record {
      on_grid = g;
      not_above = omega (arith, e);
      greatest = λ point _ l. point_le point x.pick parts some (omega (arith, e, l));
    }) in
    let high : y.is_pick.above ≡ x.pick = above_root_unique format.precision _ _ square parts y.is_pick.is_above
    (record {
      on_grid = g;
      not_below = omega (arith, e);
      least = λ point _ l. point_le x.pick point parts some (omega (arith, e, l));
    }) in
    let same : y.pick ≡ x.pick = y.is_pick.is ∙ either _ _ _ (high ∙ sym low) ∙ high in
    let a : ltb (largest format) x.pick ≡ false = t.0 in
    let value : delivered_value format other false x.pick ≡ delivered_value format mode false x.pick = rw a refl in
    let status : root_status format other square parts x.pick ≡ ok_bits = rw (a, t.1) refl in (
      y.value_is ∙ ap (λ (p : ℕ). delivered_value format other false p) same ∙ value ∙ sym x.value_is,
      y.status_is ∙ ap (λ (p : ℕ). root_status format other square parts p) same ∙ status,
    )

-- ---- every outcome

pub outcome_agrees : (format : Format) (outcome : Outcome) → IsFixed outcome
    → AgreesWhereOk (λ mode. Yields format mode outcome)
outcome_agrees format (settled datum flags) h = answer_agrees datum flags
outcome_agrees format (rounded negative amount parts) h = delivered_agrees format negative amount parts h
outcome_agrees format (totalled left right exact parts) h = absurd h
outcome_agrees format (rooted square parts) h = root_agrees format square parts h

pub product_agrees : (format : Format) (x y : Datum) → AgreesWhereOk (λ mode. IsProduct format mode x y)
product_agrees format x y = outcome_agrees format (product format x y) (product_fixed format x y)

pub quotient_agrees : (format : Format) (x y : Datum) → AgreesWhereOk (λ mode. IsQuotient format mode x y)
quotient_agrees format x y = outcome_agrees format (quotient format x y) (quotient_fixed format x y)

pub from_unsigned_agrees : (format : Format) (number : ℕ) → AgreesWhereOk (λ mode. IsFromUnsigned format mode number)
from_unsigned_agrees format number = outcome_agrees format (from_unsigned format number) (lit< tt)

pub from_signed_agrees : (format : Format) (number : ℤ) → AgreesWhereOk (λ mode. IsFromSigned format mode number)
from_signed_agrees format number = outcome_agrees format (from_signed format number) (lit< tt)

-- a conversion, whether or not it loses information
pub conversion_agrees : (from into : Format) (x : Datum)
    → AgreesWhereOk (λ mode value status. (loses : Bool) × IsConversion from into mode x value status loses)
conversion_agrees from into (nan b t) = λ mode other v w s x y.
    (y.1.value_is ∙ sym x.1.value_is, y.1.status_is ∙ sym x.1.status_is)
conversion_agrees from into (infinite b) = λ mode other v w s x y.
    (y.1.value_is ∙ sym x.1.value_is, y.1.status_is ∙ sym x.1.status_is)
conversion_agrees from into (finite b zero) = λ mode other v w s x y.
    (y.1.value_is ∙ sym x.1.value_is, y.1.status_is ∙ sym x.1.status_is)
conversion_agrees from into (finite b (suc n)) =
    rw (not_zero (suc n) (omega arith))
    (λ mode other v w s x y. delivered_agrees into b (suc n * 2 ^ into.scale) (2 ^ from.scale)
    (pow_pos from.scale) mode other v w s x.1.is_delivered y.1.is_delivered)

meant_agrees : (format : Format) (meaning : TextMeaning) → AgreesWhereOk (λ mode. IsMeant format mode meaning)
meant_agrees format (infinity negative) = answer_agrees _ _
meant_agrees format (not_a_number negative signaling payload) = answer_agrees _ _
meant_agrees format (hexadecimal negative h places e) =
    delivered_agrees format negative _ (2 ^ down (e -ℤ pos (4 * places) +ℤ pos format.scale)) (pow_pos _)

pub reading_agrees : (format : Format) (text : List ℕ) → AgreesWhereOk (λ mode. IsReading format mode text)
reading_agrees format text mode other v w s h k =
    let e = one_meaning text k.meaning h.meaning k.means h.means in
    meant_agrees format h.meaning mode other v w s h.is_meant
    (subst (λ (m : TextMeaning). IsMeant format other m w s) e k.is_meant)

-- ---- sums: the sign of an exact zero depends on the mode

abbrev pub AgreesButForZeros : (Round → Datum → ℕ → Type 0) → Type 0
AgreesButForZeros R =
    (mode other : Round) (value other_value : Datum) (status : ℕ) → R mode value ok_bits → R other other_value status
    → ((other_value ≡ value) ⊎ ((is_zero value ≡ true) × (is_zero other_value ≡ true))) × (status ≡ ok_bits)

agrees_too : (R : Round → Datum → ℕ → Type 0) → AgreesWhereOk R → AgreesButForZeros R
agrees_too R h mode other v w s x y = let e = h mode other v w s x y in (inl e.0, e.1)

zero_is : (format : Format) (mode : Round) (negative : Bool) (parts : ℕ) (value : Datum) (status : ℕ) → 0 < parts
    → IsDelivered format mode negative 0 parts value status → (is_zero value ≡ true) × (status ≡ ok_bits)
zero_is format mode negative parts v s p x =
    let e = delivered_once format mode negative 0 parts v (finite (zero_sign format.nonfinite negative) 0) s ok_bits x
    (zero_delivered format mode negative parts 0 p refl) in
    (ap is_zero e.0, e.1)

pub rounded_agrees : (format : Format) (of_zero : Round → Bool) (exact : ℤ) (parts : ℕ) → 0 < parts
    → AgreesButForZeros (λ mode. IsRounded format mode (of_zero mode) exact parts)
rounded_agrees format of_zero (pos zero) parts p = λ mode other v w s x y.
    let b = zero_is format other (of_zero other) parts w s p y in
    (inr ((zero_is format mode (of_zero mode) parts v ok_bits p x).0, b.0), b.1)
rounded_agrees format of_zero (pos (suc n)) parts p =
    agrees_too _ (delivered_agrees format false (magnitude (pos (suc n))) parts p)
rounded_agrees format of_zero (negsuc n) parts p =
    agrees_too _ (delivered_agrees format true (magnitude (negsuc n)) parts p)

pub total_agrees : (format : Format) (outcome : Outcome) → IsSound outcome
    → AgreesButForZeros (λ mode. Yields format mode outcome)
total_agrees format (settled datum flags) h = agrees_too _ (answer_agrees datum flags)
total_agrees format (rounded negative amount parts) h = agrees_too _ (delivered_agrees format negative amount parts h)
total_agrees format (totalled left right exact parts) h =
    rounded_agrees format (λ mode. zero_sum_sign mode left right) exact parts h
total_agrees format (rooted square parts) h = agrees_too _ (root_agrees format square parts h)

pub sum_agrees : (format : Format) (x y : Datum) → AgreesButForZeros (λ mode. IsSum format mode x y)
sum_agrees format x y = total_agrees format (sum format x y) (sum_sound format x y)

pub difference_agrees : (format : Format) (x y : Datum) → AgreesButForZeros (λ mode. IsDifference format mode x y)
difference_agrees format x y = total_agrees format (difference format x y) (difference_sound format x y)

pub fused_sum_agrees : (format : Format) (x y z : Datum) → AgreesButForZeros (λ mode. IsFusedSum format mode x y z)
fused_sum_agrees format x y z = total_agrees format (fused_sum format x y z) (fused_sum_sound format x y z)
