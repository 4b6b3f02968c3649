-- The lowest digits of a random number.
use Rattle.std.proofs.Common.{◌≡◌, ℕ, ◌%◌, ◌^◌, Bool, true, false, Ok, Err, refl, ap}
use Rattle.small_formats.specs.declared.RandomDigits.{RandomDigits}
use Rattle.small_formats.proofs.ModesOnce.{same_digits}
use Rattle.coded_calls.specs.{KnownCalls.wrong_width, P3109.digits_fit, P3109.digits_if, P3109.lowest_digits}

lowest_are : (digits random : ℕ) (fit : Bool) (is : digits_fit digits ≡ fit) (bits : RandomDigits)
    → fit ≡ true → bits.digits ≡ digits → bits.random ≡ random % 2 ^ digits → Ok bits ≡ digits_if digits random fit is
lowest_are digits random true is bits few h j = ap (λ b. Ok b) (same_digits bits _ h j)
lowest_are digits random false is bits few h j = absurd (cc)

pub lowest_are_given : (digits random : ℕ) (bits : RandomDigits) → digits_fit digits ≡ true
    → bits.digits ≡ digits → bits.random ≡ random % 2 ^ digits → Ok bits ≡ lowest_digits digits random
lowest_are_given digits random bits few h j = lowest_are digits random _ refl bits few h j

refused_if : (digits random : ℕ) (fit : Bool) (is : digits_fit digits ≡ fit) → fit ≡ false
    → Err wrong_width ≡ digits_if digits random fit is
refused_if digits random true is none = absurd (cc)
refused_if digits random false is none = refl

pub refused : (digits random : ℕ) → digits_fit digits ≡ false
    → Err wrong_width ≡ lowest_digits digits random
refused digits random none = refused_if digits random _ refl none
