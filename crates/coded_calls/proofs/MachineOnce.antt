-- An operation of a machine leaves one code and one result.
use Rattle.std.proofs.Common.{ℕ, Ok, Err, sym, ap, ◌∙◌}
use Rattle.std.specs.{Prelude.unsigned_abs, Prelude.true, Int.w128, Int.cast_unsigned}
use Rattle.rustc_apfloat.specs.{declared.Round.Round, declared.StatusAnd.StatusAnd, Datum.Datum, Determined.Determines}
use Rattle.rustc_apfloat.specs.{Flags.Gives, Flags.bits_of, Format.Format, Lawful.Constants, Lawful.format_with}
use Rattle.apfloat_model.proofs.{Determined.gives_once, Determined.same_answer, Once.answer_once}
use Rattle.apfloat_machines.specs.{declared.machine.Machine.Machine, WholeNumbers.IsMachineUnsigned}
use Rattle.apfloat_machines.proofs.Once.{operations_once, fused_sums_once, conversions_once, whole_numbers_once}
use Rattle.apfloat_machines.proofs.{Residues.modulo_once, Once.converted_once, Once.extended_product_once}
use Rattle.apfloat_machines.proofs.AlternativeHalves.{alternative_half_once}
use Rattle.apfloat_machines.specs.AlternativeHalves.{number_coded, wide_half}
use Rattle.formats_at_run_time.specs.declared.Arithmetic.{Arithmetic, TheVariants.Sum}
use Rattle.formats_at_run_time.specs.declared.Arithmetic.TheVariants.{Difference, Product, Quotient, NearestRemainder}
use Rattle.formats_at_run_time.specs.{declared.Arithmetic.TheVariants.TruncatedRemainder, BuiltIns.constants_in}
use Rattle.formats_at_run_time.specs.{FlaggedKinds.flagged_constants, FlaggedKinds.format_of_ieee, ValueKinds.value_of}
use Rattle.formats_at_run_time.proofs.FormatLaws.{HasLaw, format_law}
use Rattle.coded_calls.specs.declared.machine_call.{CodedMachine.CodedMachine, MachineCall.MachineCall}
use Rattle.coded_calls.specs.declared.machine_call.MachineCall.TheVariants.{Operation, Conversion}
use Rattle.coded_calls.specs.declared.machine_call.{MachineFormat.MachineFormat, MachineOperation.MachineOperation}
use Rattle.coded_calls.specs.declared.machine_call.MachineOperation.TheVariants.{OfTwo, FusedSum, SquareRoot}
use Rattle.coded_calls.specs.declared.machine_call.MachineOperation.TheVariants.{IntegralExact, Integral, ToUnsigned}
use Rattle.coded_calls.specs.declared.machine_call.MachineOperation.TheVariants.{ToSigned, Least, Greatest}
use Rattle.coded_calls.specs.declared.machine_call.MachineOperation.TheVariants.{ToSignedModulo, ExtendedProduct}
use Rattle.coded_calls.specs.declared.machine_call.MachineOperation.TheVariants.{Range, ToAlternativeHalf}
use Rattle.coded_calls.specs.declared.machine_call.MachineOperation.TheVariants.{FromAlternativeHalf}
use Rattle.coded_calls.specs.MachineCalls.{IsInteger, IsMachineAnswer, IsMachineCallAnswer, IsMachineOfTwo, choices}
use Rattle.coded_calls.specs.{MachineCalls.format_on, OneReply.IsMachineReplyOnce}
use Rattle.coded_calls.proofs.{ExportsOnce.OnceAnswer, ExportsOnce.unchanged, IeeeOnce.in_format_once}

-- an operation on two values has one value and one status
of_two_once : (f : Format) (machine : CodedMachine) (arithmetic : Arithmetic) (mode : Round) (x y : Datum)
    → Determines (IsMachineOfTwo f machine arithmetic mode x y)
of_two_once f machine Sum mode x y = (operations_once f (choices machine)).sum mode x y
of_two_once f machine Difference mode x y = (operations_once f (choices machine)).difference mode x y
of_two_once f machine Product mode x y = (operations_once f (choices machine)).product mode x y
of_two_once f machine Quotient mode x y = (operations_once f (choices machine)).quotient mode x y
of_two_once f machine NearestRemainder mode x y = (operations_once f (choices machine)).nearest x y
of_two_once f machine TruncatedRemainder mode x y = (operations_once f (choices machine)).truncated x y

-- if a relation has one integer with one status, it leaves one result
integer_once : {A : Type 0} (word : A → ℕ) (Holds : StatusAnd A → Type 0) → Determines Holds
    → OnceAnswer (IsInteger word Holds)
integer_once {A} word Holds determines a b x y =
    let same = determines x.given y.given x.holds y.holds in
    record {
      bits = x.bits_are ∙ ap (λ (d : StatusAnd A). word d.value) same ∙ sym y.bits_are;
      status = x.status_is ∙ ap (λ (d : StatusAnd A). bits_of d.status) same ∙ sym y.status_is;
      number = x.number_is ∙ sym y.number_is;
    }

-- an unsigned integer, which the relation has as a signed one
unsigned_once : (f : Format) (machine : Machine) (mode : Round) (width : ℕ) (x : Datum)
    → Determines (λ (given : StatusAnd ℕ). Gives (IsMachineUnsigned f machine mode width x) given)
unsigned_once f machine mode width x answer other h k =
    same_answer answer other (ap unsigned_abs (h.number_is ∙ sym k.number_is)) (h.status_is ∙ sym k.status_is)

-- an operation in a lawful format has one result
machine_answer_once : (c : Constants) (has : HasLaw c) (machine : CodedMachine) (mode : Round)
    (operation : MachineOperation) → OnceAnswer (IsMachineAnswer c machine mode operation)
machine_answer_once c has machine mode (OfTwo arithmetic x y) =
    in_format_once c has mode _
    (of_two_once (format_with c) machine arithmetic mode (value_of c x) (value_of c y))
machine_answer_once c has machine mode (FusedSum x y z) =
    in_format_once c has mode _
    (fused_sums_once (format_with c) (choices machine) mode (value_of c x) (value_of c y) (value_of c z))
machine_answer_once c has machine mode (SquareRoot x) =
    in_format_once c has mode _ ((operations_once (format_with c) (choices machine)).root mode (value_of c x))
machine_answer_once c has machine mode (IntegralExact x) =
    in_format_once c has mode _ ((operations_once (format_with c) (choices machine)).exact mode (value_of c x))
machine_answer_once c has machine mode (Integral x) =
    in_format_once c has mode _ ((operations_once (format_with c) (choices machine)).integral mode (value_of c x))
machine_answer_once c has machine mode (ToUnsigned x width) =
    integer_once (λ n. n) _ (unsigned_once (format_with c) (choices machine) mode width (value_of c x))
machine_answer_once c has machine mode (ToSigned x width) =
    integer_once (cast_unsigned w128) _ (whole_numbers_once (choices machine) (value_of c x) _ _)
machine_answer_once c has machine mode (Least rule x y) =
    in_format_once c has mode _ (gives_once _ (answer_once _ _))
machine_answer_once c has machine mode (Greatest rule x y) =
    in_format_once c has mode _ (gives_once _ (answer_once _ _))
machine_answer_once c has machine mode (ToSignedModulo x width) =
    integer_once (cast_unsigned w128) _ (modulo_once (format_with c) width (value_of c x))
machine_answer_once c has machine mode (ExtendedProduct x y) =
    in_format_once c has mode _
    (extended_product_once (format_with c) (choices machine) mode (value_of c x) (value_of c y))
machine_answer_once c has machine mode (Range rule x y) =
    in_format_once c has mode _ (gives_once _ (answer_once _ _))
machine_answer_once c has machine mode (ToAlternativeHalf x) =
    integer_once (λ n. n) _ (gives_once _ (alternative_half_once (format_with c) mode (value_of c x)))
machine_answer_once c has machine mode (FromAlternativeHalf x) =
    in_format_once c has mode _ (gives_once _ (converted_once (wide_half true) (format_with c) mode (number_coded x)))

-- a call on a machine has one result
pub machine_call_once : (machine : CodedMachine) (m : MachineFormat) (mode : Round) (call : MachineCall)
    → OnceAnswer (IsMachineCallAnswer machine m mode call)
machine_call_once machine m mode (Operation operation) =
    let format = format_on machine m in
    machine_answer_once (flagged_constants format) (format_law format) machine mode operation
machine_call_once machine m mode (Conversion x target) =
    let c = constants_in (format_of_ieee m.format) in
    let to = format_on machine target in
    in_format_once (flagged_constants to) (format_law to) mode _
    (conversions_once (format_with c) (format_with (flagged_constants to)) (choices machine) mode (value_of c x))

-- two replies to the same arguments are the same
pub machine_reply_once : IsMachineReplyOnce
machine_reply_once (Err error) old a b code other x y = (x.0 ∙ sym y.0, unchanged old a b x.1 y.1)
machine_reply_once (Ok known) old a b code other x y =
    (x.0 ∙ sym y.0, machine_call_once known.machine known.format known.mode known.call a b x.1 y.1)
