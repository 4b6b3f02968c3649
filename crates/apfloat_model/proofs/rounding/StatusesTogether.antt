-- OVERFLOW and UNDERFLOW are raised only together with INEXACT, by each rounding.
use Rattle.std.proofs.Common.{◌≡◌, ℕ, zero, suc, ◌+◌, ◌*◌, ◌^◌, ◌<◌, max, ◌⊎◌}
use Rattle.std.proofs.Common.{inl, inr, Bool, false, eqb, ltb, refl, sym, subst, ⊎_elim, lit<, arith}
use Rattle.std.proofs.Math.Nat.{mul-pos, max-zero, le-max_left, le-max_right}
use Rattle.std.proofs.lemmas.Nat.{pow_pos, Bits.bit_at_or, Bits.and_pow}
use Rattle.std.specs.{Prelude.bit_and, Prelude.bit_or, Int.bit_at}
use Rattle.apfloat_model.specs.declared.kinds.Round.{Round}
use Rattle.apfloat_model.specs.formats.{Format.Format, Format.largest, Datum.Datum, Nan.invalid_bit, Nan.invalid_if}
use Rattle.apfloat_model.specs.rounding.Rounding.{ok_bits, overflow_bit, underflow_bit, inexact_bit, raises_overflow}
use Rattle.apfloat_model.specs.rounding.Rounding.{is_tiny, delivered_status, IsDelivered}
use Rattle.apfloat_model.specs.rounding.{Answer.IsAnswer, RaisedFlags.FlagsGoTogether}
use Rattle.apfloat_model.specs.rounding.DeliveredRoots.{square_of, is_tiny_root, root_status, IsDeliveredRoot}
use Rattle.apfloat_model.specs.{arithmetic.Quotients.div_by_zero_bit, whole_numbers.WholeNumbers.inexact_unless}
use Rattle.apfloat_model.proofs.general.{Choices.if_case, Powers.left_factor}

-- the relation holds only of statuses in which these flags go together
abbrev pub Together : {A : Type 0} → (A → ℕ → Type 0) → Type 0
Together {A} R = (value : A) (status : ℕ) → R value status → FlagsGoTogether status

-- ---- a status

-- a status with INEXACT is such a status
pub inexact_together : (status : ℕ) → 0 < bit_and status inexact_bit → FlagsGoTogether status
inexact_together status i = record { overflow = λ o. i; underflow = λ u. i }

-- a status with neither OVERFLOW nor UNDERFLOW is such a status
neither_together : (status : ℕ) → bit_and status overflow_bit ≡ 0 → bit_and status underflow_bit ≡ 0
    → FlagsGoTogether status
neither_together status o u =
    record { overflow = λ h. absurd (omega (arith, h, o)); underflow = λ h. absurd (omega (arith, h, u)) }

pub ok_together : FlagsGoTogether ok_bits
ok_together = neither_together ok_bits refl refl

pub invalid_together : FlagsGoTogether invalid_bit
invalid_together = neither_together invalid_bit refl refl

pub invalid_if_together : (test : Bool) → FlagsGoTogether (invalid_if test)
invalid_if_together test = if_case FlagsGoTogether test (λ e. invalid_together) (λ e. ok_together)

pub div_by_zero_together : FlagsGoTogether div_by_zero_bit
div_by_zero_together = neither_together div_by_zero_bit refl refl

pub only_inexact_together : FlagsGoTogether inexact_bit
only_inexact_together = inexact_together inexact_bit (lit< tt)

pub inexact_unless_together : (exact : Bool) → FlagsGoTogether (inexact_unless exact)
inexact_unless_together exact = if_case FlagsGoTogether exact (λ e. ok_together) (λ e. only_inexact_together)

-- ---- the flags of two statuses

-- a bit of a maximum is a bit of one of the two
either_bit : (a b : ℕ) → 0 < max a b → (0 < a) ⊎ (0 < b)
either_bit a zero h = inl (subst (λ (n : ℕ). 0 < n) (max-zero a) h)
either_bit a (suc b) h = inr (omega arith)

-- a flag is the bit at its place
raises_bit : (status k : ℕ) → 0 < bit_and status (2 ^ k) → 0 < bit_at status k
raises_bit status k h = left_factor (bit_at status k) (2 ^ k) (subst (λ (n : ℕ). 0 < n) (and_pow status k) h)

bit_raises : (status k : ℕ) → 0 < bit_at status k → 0 < bit_and status (2 ^ k)
bit_raises status k h = subst (λ (n : ℕ). 0 < n) (sym (and_pow status k)) (mul-pos h (pow_pos k))

-- a flag of a union is a flag of one of the two
raised_by_either : (k s t : ℕ) → 0 < bit_and (bit_or s t) (2 ^ k) → (0 < bit_and s (2 ^ k)) ⊎ (0 < bit_and t (2 ^ k))
raised_by_either k s t h =
    ⊎_elim (λ (a : 0 < bit_at s k). inl (bit_raises s k a)) (λ (b : 0 < bit_at t k). inr (bit_raises t k b))
    (either_bit (bit_at s k) (bit_at t k) (subst (λ (n : ℕ). 0 < n) (bit_at_or s t k) (raises_bit (bit_or s t) k h)))

raised_left : (k s t : ℕ) → 0 < bit_and s (2 ^ k) → 0 < bit_and (bit_or s t) (2 ^ k)
raised_left k s t h =
    bit_raises (bit_or s t) k (subst (λ (n : ℕ). 0 < n) (sym (bit_at_or s t k))
    (let a : 0 < bit_at s k = raises_bit s k h in omega (arith, a, le-max_left (bit_at s k) (bit_at t k))))

raised_right : (k s t : ℕ) → 0 < bit_and t (2 ^ k) → 0 < bit_and (bit_or s t) (2 ^ k)
raised_right k s t h =
    bit_raises (bit_or s t) k (subst (λ (n : ℕ). 0 < n) (sym (bit_at_or s t k))
    (let a : 0 < bit_at t k = raises_bit t k h in omega (arith, a, le-max_right (bit_at s k) (bit_at t k))))

-- if in each of two statuses one flag is raised only together with another, the same holds for their union
pub union_keeps : (j k s t : ℕ) → (0 < bit_and s (2 ^ j) → 0 < bit_and s (2 ^ k))
    → (0 < bit_and t (2 ^ j) → 0 < bit_and t (2 ^ k))
    → 0 < bit_and (bit_or s t) (2 ^ j) → 0 < bit_and (bit_or s t) (2 ^ k)
union_keeps j k s t x y h =
    ⊎_elim (λ (a : 0 < bit_and s (2 ^ j)). raised_left k s t (x a))
    (λ (b : 0 < bit_and t (2 ^ j)). raised_right k s t (y b)) (raised_by_either j s t h)

pub union_together : (s t : ℕ) → FlagsGoTogether s → FlagsGoTogether t → FlagsGoTogether (bit_or s t)
union_together s t x y = record {
  overflow = union_keeps 2 4 s t x.overflow y.overflow;
  underflow = union_keeps 3 4 s t x.underflow y.underflow;
}

-- ---- one rounding

status_together : (format : Format) (mode : Round) (negative : Bool) (amount parts pick : ℕ)
    → FlagsGoTogether (delivered_status format mode negative amount parts pick)
status_together format mode negative amount parts pick =
    if_case FlagsGoTogether (ltb (largest format) pick)
    (λ past. if_case FlagsGoTogether (raises_overflow format mode negative)
    (λ out. inexact_together (overflow_bit + inexact_bit) (lit< tt)) (λ stays. only_inexact_together))
    (λ within. if_case FlagsGoTogether (eqb (pick * parts) amount) (λ exact. ok_together)
    (λ lost. if_case FlagsGoTogether (is_tiny format mode negative amount parts pick)
    (λ tiny. inexact_together (underflow_bit + inexact_bit) (lit< tt)) (λ normal. only_inexact_together)))

pub delivered_together : (format : Format) (mode : Round) (negative : Bool) (amount parts : ℕ)
    → Together (IsDelivered format mode negative amount parts)
delivered_together format mode negative amount parts value status x =
    subst FlagsGoTogether (sym x.status_is) (status_together format mode negative amount parts x.pick)

root_status_together : (format : Format) (mode : Round) (square parts pick : ℕ)
    → FlagsGoTogether (root_status format mode square parts pick)
root_status_together format mode square parts pick =
    if_case FlagsGoTogether (ltb (largest format) pick)
    (λ past. if_case FlagsGoTogether (raises_overflow format mode false)
    (λ out. inexact_together (overflow_bit + inexact_bit) (lit< tt)) (λ stays. only_inexact_together))
    (λ within. if_case FlagsGoTogether (eqb (square_of pick parts) square) (λ exact. ok_together)
    (λ lost. if_case FlagsGoTogether (is_tiny_root format mode square parts pick)
    (λ tiny. inexact_together (underflow_bit + inexact_bit) (lit< tt)) (λ normal. only_inexact_together)))

pub delivered_root_together : (format : Format) (mode : Round) (square parts : ℕ)
    → Together (IsDeliveredRoot format mode square parts)
delivered_root_together format mode square parts value status x =
    subst FlagsGoTogether (sym x.status_is) (root_status_together format mode square parts x.pick)

-- a result given outright has such a status
pub answer_together : (datum : Datum) (flags : ℕ) → FlagsGoTogether flags → Together (IsAnswer datum flags)
answer_together datum flags h value status x = subst FlagsGoTogether (sym x.status_is) h
