-- Operands by their cases.
use Rattle.std.proofs.Common.{◌≡◌, ◌⊎◌, ◌<◌, ◌≤◌, ◌^◌, ℕ, Bool, false, eqb, subst, sym, arith, inl, inr, if◌then◌else◌}
use Rattle.std.proofs.lemmas.Bool.{eq-eqb, ne_eqb}
use Rattle.std.specs.Prelude.{◌*◌}
use Rattle.apfloat_model.specs.formats.{Datum.Datum, Datum.finite, Format.Format}
use Rattle.apfloat_model.specs.rounding.{Outcome.Outcome, Outcome.Yields, DeliveredRoots.IsDeliveredRoot}
use Rattle.apfloat_model.specs.rounding.{Answer.IsAnswer, Rounding.ok_bits, Rounding.zero_sign}
use Rattle.apfloat_model.specs.declared.kinds.Round.{Round}
use Rattle.apfloat_model.proofs.general.Choices.{not_zero}
use Rattle.apfloat_words.specs.declared.terms.Term.{Term}
use Rattle.apfloat_rounding.specs.declared.shape.Shape.{Shape}
use Rattle.apfloat_arithmetic.specs.declared.other_formats.operands.Operand.TheVariants.{Number, Infinity}
use Rattle.apfloat_arithmetic.specs.other_formats.{Operands.StandsFor, Operands.IsAmount, RootsOf.IsRootOf}
use Rattle.apfloat_arithmetic.specs.other_formats.Extended.{Extended, number, infinity, not_number}

-- what holds of the infinity that an operand is holds of each value that it stands for
pub of_infinity : (P : Extended → Type 0) (into : Shape) (negative : Bool) (left : Extended)
    → StandsFor into left (Infinity negative) → P (infinity negative) → P left
of_infinity P into negative (number b m s) h k = absurd h
of_infinity P into negative (infinity b) h k = subst (λ (x : Bool). P (infinity x)) h k
of_infinity P into negative (not_number s d) h k = absurd h

-- what holds of the numbers that a term is holds of each value that it stands for
pub of_number : (P : Extended → Type 0) (into : Shape) (x : Term) (left : Extended)
    → StandsFor into left (Number x) → ((m s : ℕ) → IsAmount m s x → P (number x.negative m s)) → P left
of_number P into x (number b m s) h k = subst (λ (z : Bool). P (number z m s)) h.sign (k m s h.is)
of_number P into x (infinity b) h k = absurd h
of_number P into x (not_number s d) h k = absurd h

-- what a choice by a test for zero yields
pub zero_yields : (g : Format) (mode : Round) (n : ℕ) (one other : Outcome) (value : Datum) (status : ℕ) → n ≡ 0
    → Yields g mode one value status → Yields g mode (if eqb n 0 then one else other) value status
zero_yields g mode n one other value status e h =
    subst (λ (b : Bool). Yields g mode (if b then one else other) value status) (sym (eq-eqb n 0 e)) h

pub some_yields : (g : Format) (mode : Round) (n : ℕ) (one other : Outcome) (value : Datum) (status : ℕ) → 0 < n
    → Yields g mode other value status → Yields g mode (if eqb n 0 then one else other) value status
some_yields g mode n one other value status some h =
    subst (λ (b : Bool). Yields g mode (if b then one else other) value status) (sym (not_zero n some)) h

-- a significand that is not zero has all its digits
pub all_digits : (s : ℕ) → (s ≡ 0) ⊎ (2 ^ 124 ≤ s) → 0 < s → 2 ^ 124 ≤ s
all_digits s (inl e) h = absurd (omega (arith, e, h))
all_digits s (inr l) h = l

-- the root of a positive number
pub positive_root : (g : Format) (mode : Round) (negative : Bool) (amount places : ℕ) (value : Datum) (status : ℕ)
    → 0 < amount → negative ≡ false
    → IsDeliveredRoot g mode (amount * 2 ^ places * (2 ^ g.scale * 2 ^ g.scale)) (2 ^ places) value status
    → IsRootOf g mode (number negative amount places) value status
positive_root g mode negative amount places value status p e h = rw (ne_eqb amount 0 (λ z. omega (arith, z, p)), e) h

-- the root of a zero
pub zero_root : (g : Format) (mode : Round) (negative : Bool) (amount places : ℕ) (value : Datum) (status : ℕ)
    → amount ≡ 0 → IsAnswer (finite (zero_sign g.nonfinite negative) 0) ok_bits value status
    → IsRootOf g mode (number negative amount places) value status
zero_root g mode negative amount places value status e h = rw (eq-eqb amount 0 e) h
