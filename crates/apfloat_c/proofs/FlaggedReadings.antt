-- Decimals are read with every rule of flags, in one way.
use Rattle.std.proofs.Common.{◌≡◌, ℕ, List, Option, Some, Ok, Err, sym, ◌∙◌}
use Rattle.rustc_apfloat.specs.{declared.Round.Round, Lawful.format_with}
use Rattle.apfloat_decimals.specs.Decimals.{HasQuadExponents}
use Rattle.formats_at_run_time.specs.declared.FlaggedFormat.{FlaggedFormat}
use Rattle.formats_at_run_time.specs.declared.FlaggedFormat.TheVariants.{BuiltIn, AfterRounding, BeforeRounding}
use Rattle.formats_at_run_time.specs.declared.FlaggedKind.{FlaggedKind}
use Rattle.formats_at_run_time.specs.FlaggedKinds.{flagged_constants, flagged_kind_of, format_of_ieee}
use Rattle.coded_calls.specs.declared.data.Answer.{Answer}
use Rattle.coded_calls.proofs.ExportsOnce.{kind_law, unchanged}
use Rattle.apfloat_c.specs.Decimals.{IsReadInto}
use Rattle.apfloat_c.specs.Readings.{IsDecimalRead, IsDecimalReadOnce, known_text}
use Rattle.apfloat_c.proofs.{DecimalReadings.exponents_within, ParsedOnce.read_into_once}

-- the exponents of a format do not depend on its rule of flags
pub flagged_exponents : (format : FlaggedFormat) → HasQuadExponents (format_with (flagged_constants format))
flagged_exponents (BuiltIn format) = exponents_within format
flagged_exponents (AfterRounding format) =
    let plain = exponents_within (format_of_ieee format) in
    record { low = plain.low; high = plain.high }
flagged_exponents (BeforeRounding format) =
    let plain = exponents_within (format_of_ieee format) in
    record { low = plain.low; high = plain.high }

-- what is read in the kind of known codes is what the text is read as
pub read_in_kind : (kind : Option FlaggedKind) (mode : Option Round) (known : FlaggedKind) (round : Round)
    (text spelled : List ℕ) (old new : Answer) (code : ℕ) → kind ≡ Some known → mode ≡ Some round
    → text ≡ spelled → IsReadInto (flagged_kind_of known) round spelled old new code
    → IsDecimalRead (known_text kind mode) text old new code
read_in_kind kind mode known round text spelled old new code k m t read = rw (k, m, t) read

pub decimal_read_once : IsDecimalReadOnce
decimal_read_once (Err error) text old a b code other x y = (x.0 ∙ sym y.0, unchanged old a b x.1 y.1)
decimal_read_once (Ok known) text old a b code other x y =
    read_into_once (flagged_kind_of known.kind) (kind_law known.kind) known.mode text old a b code other x y
