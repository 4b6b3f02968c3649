-- Counts that saturate where larger ones make no difference, and the faults of the texts that they count.
use Rattle.std.specs.Prelude.{◌≡◌, ◌⊎◌, ℕ, ◌+◌, ◌*◌, ◌^◌, ◌<◌, ◌≤◌, ℤ, pos, neg_ℤ, ◌≤ℤ◌, Bool, not, ◌&&◌, if◌then◌else◌}
use Rattle.std.specs.Prelude.{List, fold, Option, Some}
use Rattle.apfloat_model.specs.declared.parse_error.Fault.{Fault, TheVariants.WrongInSignificand, TheVariants.NoDigits}
use Rattle.apfloat_model.specs.texts.Digits.{every, begins, is_empty, is_decimal, digit_value, number}
use Rattle.apfloat_model.specs.texts.Faults.{is_p, tail_fault}

-- from this bound on, counts are not increased any further
abbrev pub far_bound : ℕ
far_bound = 2 ^ 96

-- counts and exponents stay below this bound, and so fit in 128 bits with a sign
abbrev pub count_bound : ℕ
count_bound = 2 ^ 100

-- the exact count, or another count past the bound if the exact one is
abbrev pub IsSaturated : ℕ → ℕ → Type 0
IsSaturated exact counted = (counted ≡ exact) ⊎ ((far_bound ≤ counted) × (far_bound ≤ exact))

-- the exact integer, or another integer past the bound on the same side if the exact one is
abbrev pub IsNear : ℕ → ℤ → ℤ → Type 0
IsNear bound exact near =
    (near ≡ exact) ⊎ (((pos bound ≤ℤ near) × (pos bound ≤ℤ exact))
    ⊎ ((near ≤ℤ neg_ℤ (pos bound)) × (exact ≤ℤ neg_ℤ (pos bound))))

-- the integer whose first decimal digits have the value n and are followed by these digits
abbrev pub decimal_from : ℕ → List ℕ → ℕ
decimal_from n digits = fold (λ n c. n * 10 + digit_value c) n digits

-- an integer, in terms of the decimal digits read so far and those that are left
pub record IsCounted (digits left : List ℕ) (counted : ℕ) : Type 0 where
  pub read : ℕ
  pub saturated : IsSaturated read counted
  pub fits : counted < count_bound
  pub number_is : number 10 digits ≡ decimal_from read left
  pub every_is : every is_decimal digits ≡ every is_decimal left

-- the fault in the text after a significand; `some` says whether the significand has a digit
abbrev pub fault_after : Bool → List ℕ → Option Fault
fault_after some tail =
    if not (is_empty tail) && not (begins is_p tail) then Some WrongInSignificand
    else (if not some then Some NoDigits
    else tail_fault tail)
