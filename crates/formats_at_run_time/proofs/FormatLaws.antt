-- Each built-in format is lawful, with each rule of flags.
use Rattle.std.proofs.Common.{◌<◌, Bool, true}
use Rattle.std.proofs.lemmas.Bool.{ltb-true}
use Rattle.rustc_apfloat.specs.Lawful.{Constants, IsLawful}
use Rattle.apfloat_model.proofs.formats.OtherFlags.{other_flags}
use Rattle.formats_at_run_time.specs.declared.built_in.BuiltInFormat.{BuiltInFormat}
use Rattle.formats_at_run_time.specs.declared.flagged.FlaggedFormat.{FlaggedFormat}
use Rattle.formats_at_run_time.specs.declared.flagged.FlaggedFormat.TheVariants.{BuiltIn, AfterRounding, BeforeRounding}
use Rattle.formats_at_run_time.specs.BuiltIns.{constants_in, known_format}
use Rattle.formats_at_run_time.specs.FlaggedKinds.{flagged_constants, format_of_ieee}

-- a lawful format, whose encoding is wider than its precision
pub record HasLaw (constants : Constants) : Type 0 where
  pub law : IsLawful constants
  pub wide : constants.precision < constants.bits

pub built_in_law : (format : BuiltInFormat) → HasLaw (constants_in format)
built_in_law format =
    let known = known_format format in
    record { law = known.lawful; wide = ltb-true _ _ known.wide }

-- a lawful format with other flags is lawful
other_flags_law : (c : Constants) (tiny ieee : Bool) → HasLaw c
    → HasLaw (record c { tiny_before_rounding = tiny; ieee_flags = ieee })
other_flags_law c tiny ieee has = record { law = other_flags c tiny ieee has.law; wide = has.wide }

pub format_law : (format : FlaggedFormat) → HasLaw (flagged_constants format)
format_law (BuiltIn format) = built_in_law format
format_law (AfterRounding format) =
    let c = constants_in (format_of_ieee format) in
    other_flags_law c c.tiny_before_rounding true (built_in_law (format_of_ieee format))
format_law (BeforeRounding format) =
    other_flags_law (constants_in (format_of_ieee format)) true true (built_in_law (format_of_ieee format))
