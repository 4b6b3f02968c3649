-- Why random digits are refused.
use Rattle.std.specs.Prelude.{◌≡◌, ◌⊎◌, ℕ, ◌^◌, ◌<◌, ◌≤◌}
use Rattle.small_formats.specs.declared.modes.RandomError.{RandomError, TheVariants.DigitCount, TheVariants.TooWide}

abbrev pub IsRefused : ℕ → ℕ → RandomError → Type 0
IsRefused digits random DigitCount = (digits ≡ 0) ⊎ (32 < digits)
IsRefused digits random TooWide = (1 ≤ digits) × ((digits ≤ 32) × (2 ^ digits ≤ random))
