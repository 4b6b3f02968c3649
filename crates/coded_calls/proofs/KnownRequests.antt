-- Requests whose codes are known: what their operation leaves is the reply.
use Rattle.std.proofs.Common.{◌≡◌, ℕ, subst, Option, None, Some, Ok, refl}
use Rattle.std.specs.Prelude.{option_and_then}
use Rattle.rustc_apfloat.specs.declared.Round.{Round}
use Rattle.formats_at_run_time.specs.{declared.FlaggedKind.FlaggedKind, FlaggedKinds.flagged_constants}
use Rattle.formats_at_run_time.specs.ValueKinds.{of_format}
use Rattle.coded_calls.specs.declared.machine_call.{CodedMachine.CodedMachine, MachineCall.TheVariants.Operation}
use Rattle.coded_calls.specs.declared.machine_call.{MachineCall.TheVariants.Conversion, MachineFormat.MachineFormat}
use Rattle.coded_calls.specs.declared.{machine_call.MachineOperation.MachineOperation, data.Answer.Answer}
use Rattle.coded_calls.specs.{Answers.IsLeftBy, MachineCalls.IsFilledIn, MachineCalls.IsMachineAnswer}
use Rattle.coded_calls.specs.MachineCalls.{IsMachineCallAnswer, IsMachineConversionLeft, IsMachineLeftIn}
use Rattle.coded_calls.specs.MachineCalls.{IsMachineReply, conversion_call, kind_on, kind_without_rule, format_on}
use Rattle.coded_calls.specs.MachineCalls.{known_machine_call, machine_fault, machine_format, operation_fault_in}
use Rattle.coded_calls.proofs.MachineFormats.{has_infinities_on, has_width_on}
use Rattle.coded_calls.proofs.UsualAnswers.{conversion_known, replied}

-- what an operation leaves in the format that a machine's format has on it
pub operation_left : (machine : CodedMachine) (format : MachineFormat) (mode : Round) (operation : MachineOperation)
    (old new : Answer) (code : ℕ)
    → IsMachineLeftIn (of_format (flagged_constants (format_on machine format))) machine mode operation old new code
    → IsLeftBy (machine_fault machine format (Operation operation))
    (IsMachineCallAnswer machine format mode (Operation operation)) old new code
operation_left machine format mode operation old new code left =
    let k = flagged_constants (format_on machine format) in
    subst
    (λ (width : ℕ). IsLeftBy (operation_fault_in width machine operation) (IsMachineAnswer k machine mode operation)
    old new code)
    (has_width_on machine format) (left (has_infinities_on machine format))

-- a request of a known machine and mode, in a format that is known
pub operation_filled : (kind : Option FlaggedKind) (mode : Option Round) (round : Round) (operation : MachineOperation)
    (machine : Option CodedMachine) (on : CodedMachine) (old new : Answer) (code : ℕ)
    → mode ≡ Some round → machine ≡ Some on
    → IsFilledIn (kind_on on) (λ k o n c. IsMachineLeftIn k on round operation o n c)
    (option_and_then machine_format kind) old new (Some code)
    → IsMachineReply (known_machine_call kind mode (Ok (Operation operation)) machine) old new code
operation_filled kind mode round operation machine on old new code m h filled =
    by_format (option_and_then machine_format kind) refl filled
  where
    by_format : (target : Option MachineFormat) → option_and_then machine_format kind ≡ target
        → IsFilledIn (kind_on on) (λ k o n c. IsMachineLeftIn k on round operation o n c) target old new (Some code)
        → IsMachineReply (known_machine_call kind mode (Ok (Operation operation)) machine) old new code
    by_format None t filled = absurd filled
    by_format (Some format) t filled =
        replied kind format mode round (Ok (Operation operation)) (Operation operation) machine on old new code t m
        refl h (operation_left on format round operation old new code filled)

-- the same for a conversion, of a value of a known format to a known one
pub conversion_filled : (kind to : Option FlaggedKind) (mode : Option Round) (round : Round) (x : ℕ)
    (machine : Option CodedMachine) (on : CodedMachine) (old new : Answer) (left : Option ℕ) (code : ℕ)
    → mode ≡ Some round → machine ≡ Some on → left ≡ Some code
    → IsFilledIn kind_without_rule
    (λ k o n left. IsFilledIn (kind_on on) (IsMachineConversionLeft k on round x)
    (option_and_then machine_format to) o n left)
    (option_and_then machine_format kind) old new (Some left)
    → IsMachineReply (known_machine_call kind mode (conversion_call to x) machine) old new code
conversion_filled kind to mode round x machine on old new left code m h e filled =
    by_source (option_and_then machine_format kind) refl
    (subst
    (λ (given : Option ℕ). IsFilledIn kind_without_rule
    (λ k o n l. IsFilledIn (kind_on on) (IsMachineConversionLeft k on round x) (option_and_then machine_format to)
    o n l)
    (option_and_then machine_format kind) old new (Some given))
    e filled)
  where
    by_target : (source : MachineFormat) → option_and_then machine_format kind ≡ Some source
        → (target : Option MachineFormat) → option_and_then machine_format to ≡ target
        → IsFilledIn (kind_on on) (IsMachineConversionLeft (kind_without_rule source) on round x) target old new
        (Some code)
        → IsMachineReply (known_machine_call kind mode (conversion_call to x) machine) old new code
    by_target source s None t filled = absurd filled
    by_target source s (Some target) t filled =
        replied kind source mode round (conversion_call to x) (Conversion x target) machine on old new code s m
        (conversion_known to target x t) h filled

    by_source : (source : Option MachineFormat) → option_and_then machine_format kind ≡ source
        → IsFilledIn kind_without_rule
        (λ k o n left. IsFilledIn (kind_on on) (IsMachineConversionLeft k on round x)
        (option_and_then machine_format to) o n left)
        source old new (Some (Some code))
        → IsMachineReply (known_machine_call kind mode (conversion_call to x) machine) old new code
    by_source None s filled = absurd filled
    by_source (Some source) s filled = by_target source s (option_and_then machine_format to) refl filled
