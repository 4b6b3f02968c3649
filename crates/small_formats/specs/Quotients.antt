-- Quotients of two values, in quanta of a third format.
use Rattle.std.specs.Prelude.{◌≡◌, ℕ, ◌+◌, ◌*◌, ◌^◌, ◌<◌}
use Rattle.apfloat_model.specs.{declared.kinds.Round.Round, formats.Datum.Datum, formats.Format.Format}
use Rattle.apfloat_model.specs.order.Classes.{is_negative, quanta_of}
use Rattle.small_formats.specs.Conversions.{IsSaturated}
use Rattle.small_formats.specs.Storage.{StorageConstants, IsLawfulStorage, format_with}

-- amount / parts quanta of the format `into` are the magnitude of x over that of y, which are values of f and g
abbrev pub IsRatioOf : Format → Format → Format → Datum → Datum → ℕ → ℕ → Type 0
IsRatioOf f g into x y amount parts =
    amount * (quanta_of y * 2 ^ f.scale) ≡ parts * (quanta_of x * 2 ^ (g.scale + into.scale))

-- the quotient of x and y, which are values of f and g, rounded once
abbrev pub IsStoredQuotient : StorageConstants → Format → Format → Round → Datum → Datum → ℕ → ℕ → Type 0
IsStoredQuotient c f g mode x y code status =
    (amount parts : ℕ) → 0 < parts → IsRatioOf f g (format_with c) x y amount parts
    → IsSaturated c mode (is_negative x) amount parts code status

-- the code and the flags are determined, if the divisor is not zero
abbrev pub IsQuotientOnce : Type 0
IsQuotientOnce =
    (c : StorageConstants) (f g : Format) (mode : Round) (x y : Datum) (code other status flags : ℕ)
    → IsLawfulStorage c → code < 2 ^ c.bits → other < 2 ^ c.bits → 0 < quanta_of y
    → IsStoredQuotient c f g mode x y code status → IsStoredQuotient c f g mode x y other flags
    → (code ≡ other) × (status ≡ flags)
