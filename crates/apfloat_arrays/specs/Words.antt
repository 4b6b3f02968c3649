-- The conversions that words name.
use Rattle.std.specs.Prelude.{ℕ, List, Option, Some, None}
use Rattle.formats_at_run_time.specs.{declared.built_in.BuiltInFormat.BuiltInFormat, BuiltIns.kind_named}
use Rattle.formats_at_run_time.specs.{BuiltIns.format_in, Modes.mode_named}
use Rattle.apfloat_arrays.specs.declared.{widths.Extended.Extended, conversion.Conversion.Conversion}

-- the result for a value, if there is one
abbrev pub with_some : {A B : Type 0} → Option A → (A → Option B) → Option B
with_some None result = None
with_some (Some value) result = result value

-- the format that a word names; pairs are a kind without a format
abbrev pub format_named : List ℕ → Option BuiltInFormat
format_named word = with_some (kind_named word) format_in

abbrev pub conversion_named : Extended → List ℕ → List ℕ → List ℕ → Option Conversion
conversion_named extended source target mode =
    with_some (format_named source) (λ from. with_some (format_named target) (λ to.
    with_some (mode_named mode) (λ round.
    Some (record { source = from; target = to; round = round; extended = extended }))))
