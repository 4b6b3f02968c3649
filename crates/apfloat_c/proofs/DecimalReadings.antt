-- Decimals are read in every built-in format.
use Rattle.std.proofs.Common.{◌≡◌, ℕ, lit≤, List, Option, Some}
use Rattle.rustc_apfloat.specs.{Lawful.format_with, declared.Round.Round}
use Rattle.apfloat_decimals.specs.Decimals.{HasQuadExponents}
use Rattle.formats_at_run_time.specs.declared.BuiltInFormat.{BuiltInFormat, TheVariants.Half}
use Rattle.formats_at_run_time.specs.declared.{BuiltInKind.TheVariants.OfFormat, FlaggedKind.FlaggedKind}
use Rattle.formats_at_run_time.specs.{BuiltIns.constants_in, ValueKinds.of_format}
use Rattle.coded_calls.specs.declared.data.Answer.{Answer}
use Rattle.apfloat_c.specs.Decimals.{IsParsed, IsReadInto, decimal_kind, known_reading}

-- its exponents are within those of quad
pub exponents_within : (format : BuiltInFormat) → HasQuadExponents (format_with (constants_in format))
exponents_within Half = record { low = lit≤ tt; high = lit≤ tt }
exponents_within format = record { low = lit≤ tt; high = lit≤ tt }

-- what is read in a format of known codes is what the text is parsed as
pub parsed_in_format : (kind : Option FlaggedKind) (mode : Option Round) (known : FlaggedKind) (round : Round)
    (format : BuiltInFormat) (text : List ℕ) (old new : Answer) (code : ℕ) → kind ≡ Some known
    → mode ≡ Some round → decimal_kind known ≡ Some (OfFormat format)
    → IsReadInto (of_format (constants_in format)) round text old new code
    → IsParsed (known_reading kind mode) text old new code
parsed_in_format kind mode known round format text old new code k m d read = rw (k, m, d) read
