-- Numbers by their signs and magnitudes.
use Rattle.std.proofs.Common.{◌≡◌, ℕ, zero, suc, ℤ, pos, negsuc, ◌+ℤ◌, ◌≤ℤ◌, ◌<◌, ◌⊎◌, Bool, true, false, refl, ◌∙◌}
use Rattle.std.proofs.{Common.inl, Common.inr, Common.arith, lemmas.Int.ints}
use Rattle.apfloat_model.specs.declared.kinds.{Round.Round, NonfiniteBehavior.NonfiniteBehavior}
use Rattle.apfloat_model.specs.declared.kinds.NonfiniteBehavior.TheVariants.{IEEE754, NanOnly, NanNegativeZero}
use Rattle.apfloat_model.specs.arithmetic.Exact.{up, down, signed, sign_of, magnitude, IsRounded}
use Rattle.apfloat_model.specs.formats.{Format.Format, Datum.Datum, Datum.finite}
use Rattle.apfloat_model.specs.rounding.{Rounding.zero_sign, Rounding.IsDelivered, Negation.negated}
use Rattle.apfloat_model.proofs.general.Choices.{not_zero}

-- 0 is the same integer with either sign
pub no_sign : (negative : Bool) → signed negative 0 ≡ pos 0
no_sign true = refl
no_sign false = refl

-- the integer of a sign and a nonzero magnitude has that sign
pub sign_signed : (of_zero negative : Bool) (n : ℕ) → 0 < n → sign_of of_zero (signed negative n) ≡ negative
sign_signed of_zero true zero p = absurd (omega arith)
sign_signed of_zero false zero p = absurd (omega arith)
sign_signed of_zero true (suc n) p = refl
sign_signed of_zero false (suc n) p = refl

-- the integer of a sign and a magnitude has that magnitude
pub magnitude_signed : (negative : Bool) (n : ℕ) → magnitude (signed negative n) ≡ n
magnitude_signed true n = omega (arith, ints)
magnitude_signed false n = omega (arith, ints)

-- each kind of format has a zero without a minus sign
pub plus_zero : (kind : NonfiniteBehavior) → zero_sign kind false ≡ false
plus_zero IEEE754 = refl
plus_zero NanOnly = refl
plus_zero NanNegativeZero = refl

-- ---- sums of integers

-- the terms of a sum may be swapped
pub swapped_sum : (a b : ℤ) → (a +ℤ b) ≡ (b +ℤ a)
swapped_sum a b = omega (arith, ints)

-- adding a zero of either sign changes nothing
pub and_zero : (z : ℤ) (negative : Bool) → (z +ℤ signed negative 0) ≡ z
and_zero z true = omega (arith, ints)
and_zero z false = omega (arith, ints)

-- adding to a zero of either sign changes nothing
pub zero_and : (negative : Bool) (z : ℤ) → (signed negative 0 +ℤ z) ≡ z
zero_and negative z = swapped_sum (signed negative 0) z ∙ and_zero z negative

-- ---- the two parts of an integer

-- at least one of the positive and the negative part is 0
pub one_side : (z : ℤ) → (up z ≡ 0) ⊎ (down z ≡ 0)
one_side (pos n) = inr refl
one_side (negsuc n) = inl refl

-- an integer with a negative part has no positive part
pub up_none : (z : ℤ) → 0 < down z → up z ≡ 0
up_none (pos n) l = absurd (omega (arith, l))
up_none (negsuc n) l = refl

-- an integer that is not positive has no positive part
pub no_up : (z : ℤ) → z ≤ℤ pos 0 → up z ≡ 0
no_up (pos zero) h = refl
no_up (pos (suc n)) h = absurd (omega (arith, ints, h))
no_up (negsuc n) h = refl

-- ---- a nonzero number is delivered as its sign and magnitude

-- the rounding of a magnitude is that of the signed number
pub rounded_signed : (format : Format) (mode : Round) (of_zero negative : Bool) (m parts : ℕ) (z : ℤ) (value : Datum)
    (status : ℕ) → z ≡ signed negative m → 0 < m → IsDelivered format mode negative m parts value status
    → IsRounded format mode of_zero z parts value status
rounded_signed format mode of_zero s m parts z value status e p h =
    rw (e, sign_signed of_zero s m p, magnitude_signed s m) h

-- negating a nonzero number changes its sign
pub negated_some : (kind : NonfiniteBehavior) (quanta : ℕ) → 0 < quanta
    → negated kind (finite false quanta) ≡ finite true quanta
negated_some kind quanta some = rw (not_zero quanta some) refl
