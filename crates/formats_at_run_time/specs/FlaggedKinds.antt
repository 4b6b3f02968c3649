-- The built-in kinds of values with a rule of flags, and their codes.
use Rattle.std.specs.Prelude.{ℕ, ◌/◌, ◌%◌, ◌==◌, true, if◌then◌else◌, Option, Some, None, option_and_then, option_map}
use Rattle.rustc_apfloat.specs.Lawful.{Constants}
use Rattle.formats_at_run_time.specs.BuiltIns.{constants_in, kind_coded}
use Rattle.formats_at_run_time.specs.ValueKinds.{Kind, of_format, of_pairs}
use Rattle.formats_at_run_time.specs.declared.built_in.BuiltInFormat.{BuiltInFormat, TheVariants.Half}
use Rattle.formats_at_run_time.specs.declared.built_in.BuiltInFormat.TheVariants.{Single, Double, Quad, BFloat, E5M2}
use Rattle.formats_at_run_time.specs.declared.built_in.{BuiltInFormat.TheVariants.X87, BuiltInKind.BuiltInKind}
use Rattle.formats_at_run_time.specs.declared.built_in.BuiltInKind.TheVariants.{Pairs as PairsOfDoubles}
use Rattle.formats_at_run_time.specs.declared.built_in.BuiltInKind.TheVariants.{OfFormat as OfBuiltIn}
use Rattle.formats_at_run_time.specs.declared.flagged.IeeeFormat.{IeeeFormat}
use Rattle.formats_at_run_time.specs.declared.flagged.IeeeFormat.TheVariants.{Half as IeeeHalf, Single as IeeeSingle}
use Rattle.formats_at_run_time.specs.declared.flagged.IeeeFormat.TheVariants.{Double as IeeeDouble, Quad as IeeeQuad}
use Rattle.formats_at_run_time.specs.declared.flagged.IeeeFormat.TheVariants.{BFloat as IeeeBFloat, E5M2 as IeeeE5M2}
use Rattle.formats_at_run_time.specs.declared.flagged.IeeeFormat.TheVariants.{X87 as IeeeX87}
use Rattle.formats_at_run_time.specs.declared.flagged.FlaggedFormat.{FlaggedFormat}
use Rattle.formats_at_run_time.specs.declared.flagged.FlaggedFormat.TheVariants.{BuiltIn, AfterRounding, BeforeRounding}
use Rattle.formats_at_run_time.specs.declared.flagged.FlaggedKind.{FlaggedKind, TheVariants.OfFormat, TheVariants.Pairs}

-- ---- constants

abbrev pub format_of_ieee : IeeeFormat → BuiltInFormat
format_of_ieee IeeeHalf = Half
format_of_ieee IeeeSingle = Single
format_of_ieee IeeeDouble = Double
format_of_ieee IeeeQuad = Quad
format_of_ieee IeeeBFloat = BFloat
format_of_ieee IeeeE5M2 = E5M2
format_of_ieee IeeeX87 = X87

-- the built-in formats detect tininess after rounding
abbrev pub after_rounding : IeeeFormat → Constants
after_rounding format = record (constants_in (format_of_ieee format)) { ieee_flags = true }

abbrev pub before_rounding : IeeeFormat → Constants
before_rounding format = record (after_rounding format) { tiny_before_rounding = true }

abbrev pub flagged_constants : FlaggedFormat → Constants
flagged_constants (BuiltIn format) = constants_in format
flagged_constants (AfterRounding format) = after_rounding format
flagged_constants (BeforeRounding format) = before_rounding format

-- the format, whatever its rule of flags
abbrev pub format_without_rule : FlaggedFormat → BuiltInFormat
format_without_rule (BuiltIn format) = format
format_without_rule (AfterRounding format) = format_of_ieee format
format_without_rule (BeforeRounding format) = format_of_ieee format

abbrev pub flagged_kind_of : FlaggedKind → Kind
flagged_kind_of (OfFormat format) = of_format (flagged_constants format)
flagged_kind_of Pairs = of_pairs

-- ---- codes

abbrev pub ieee_format_in : BuiltInKind → Option IeeeFormat
ieee_format_in (OfBuiltIn Half) = Some IeeeHalf
ieee_format_in (OfBuiltIn Single) = Some IeeeSingle
ieee_format_in (OfBuiltIn Double) = Some IeeeDouble
ieee_format_in (OfBuiltIn Quad) = Some IeeeQuad
ieee_format_in (OfBuiltIn BFloat) = Some IeeeBFloat
ieee_format_in (OfBuiltIn E5M2) = Some IeeeE5M2
ieee_format_in (OfBuiltIn X87) = Some IeeeX87
ieee_format_in kind = None

abbrev pub built_in : BuiltInKind → FlaggedKind
built_in (OfBuiltIn format) = OfFormat (BuiltIn format)
built_in PairsOfDoubles = Pairs

-- the kind with the rule of flags that the bits above its code name: none, 1 for the flags of IEEE 754-2019, or 3 for
-- these with tininess detected before rounding
abbrev pub with_flags : ℕ → BuiltInKind → Option FlaggedKind
with_flags bits kind =
    if bits == 0 then Some (built_in kind)
    else if bits == 1 then option_map (λ (f : IeeeFormat). OfFormat (AfterRounding f)) (ieee_format_in kind)
    else if bits == 3 then option_map (λ (f : IeeeFormat). OfFormat (BeforeRounding f)) (ieee_format_in kind)
    else None

abbrev pub flagged_kind_coded : ℕ → Option FlaggedKind
flagged_kind_coded code = option_and_then (with_flags (code / 256)) (kind_coded (code % 256))
