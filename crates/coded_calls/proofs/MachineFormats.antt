-- The formats of machines have infinities.
use Rattle.std.proofs.Common.{◌≡◌, Bool, true, false, if◌then◌else◌, refl}
use Rattle.apfloat_model.specs.declared.kinds.NonfiniteBehavior.TheVariants.{IEEE754}
use Rattle.rustc_apfloat.specs.Lawful.{format_with}
use Rattle.formats_at_run_time.specs.declared.FlaggedFormat.{FlaggedFormat, TheVariants.AfterRounding}
use Rattle.formats_at_run_time.specs.declared.{FlaggedFormat.TheVariants.BeforeRounding, IeeeFormat.IeeeFormat}
use Rattle.formats_at_run_time.specs.declared.IeeeFormat.TheVariants.{Half, Single, Double, Quad, BFloat, E5M2, X87}
use Rattle.formats_at_run_time.specs.BuiltIns.{constants_in}
use Rattle.formats_at_run_time.specs.FlaggedKinds.{flagged_constants, format_of_ieee}
use Rattle.coded_calls.specs.declared.machine_call.{CodedMachine.CodedMachine, MachineFormat.MachineFormat}
use Rattle.coded_calls.specs.MachineCalls.{format_on, is_tiny_before, width_of}

abbrev HasInfinities : FlaggedFormat → Type 0
HasInfinities format = (format_with (flagged_constants format)).nonfinite ≡ IEEE754

has_infinities : (format : IeeeFormat) → (format_with (constants_in (format_of_ieee format))).nonfinite ≡ IEEE754
has_infinities Half = refl
has_infinities Single = refl
has_infinities Double = refl
has_infinities Quad = refl
has_infinities BFloat = refl
has_infinities E5M2 = refl
has_infinities X87 = refl

either_has_infinities : (tiny_before : Bool) (format : IeeeFormat)
    → HasInfinities (if tiny_before then BeforeRounding format else AfterRounding format)
either_has_infinities true format = has_infinities format
either_has_infinities false format = has_infinities format

-- the format of a code on a machine has infinities
pub has_infinities_on : (machine : CodedMachine) (m : MachineFormat) → HasInfinities (format_on machine m)
has_infinities_on machine m = either_has_infinities (is_tiny_before machine m.tiny_before) m.format

either_has_width : (tiny_before : Bool) (format : IeeeFormat)
    → (flagged_constants (if tiny_before then BeforeRounding format else AfterRounding format)).bits
    ≡ width_of format
either_has_width true format = refl
either_has_width false format = refl

-- the format of a code on a machine has the width of the format
pub has_width_on : (machine : CodedMachine) (m : MachineFormat)
    → (flagged_constants (format_on machine m)).bits ≡ width_of m.format
has_width_on machine m = either_has_width (is_tiny_before machine m.tiny_before) m.format
