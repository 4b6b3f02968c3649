-- One call for an interpreter of instructions: an operation of a machine, with what a control word asks for.
use Rattle.std.specs.{Bool.MatchBool, Option.unwrap_or}
use Rattle.std.specs.Prelude.{◌≡◌, ℕ, ◌+◌, ◌/◌, ◌%◌, ◌^◌, ◌==◌, ltb, pos, Bool, true, false, not, ◌&&◌, ◌||◌, is_none}
use Rattle.std.specs.Prelude.{is_some, if◌then◌else◌, Option, Some, None, MatchOption, ok_or, option_map, Result, Ok}
use Rattle.std.specs.Prelude.{Err}
use Rattle.rustc_apfloat.specs.declared.{Round.Round, StatusAnd.StatusAnd, Round.TheVariants.TowardZero}
use Rattle.rustc_apfloat.specs.declared.Round.TheVariants.{TowardPositive, TowardNegative}
use Rattle.rustc_apfloat.specs.{Classes.is_denormal, Classes.is_negative, Datum.Datum, Flags.Gives, Flags.bits_of}
use Rattle.rustc_apfloat.specs.{Format.Format, Formats.x87_constants, Layout.IsEncodedBy, Lawful.Constants}
use Rattle.rustc_apfloat.specs.{Lawful.format_with, Lawful.layout_with}
use Rattle.apfloat_model.specs.arithmetic.Exact.{magnitude}
use Rattle.apfloat_model.specs.rounding.{Answer.IsAnswer as IsGiven, Outcome.Outcome, Outcome.Yields}
use Rattle.apfloat_model.specs.rounding.Rounding.{inexact_bit}
use Rattle.apfloat_model.specs.whole_numbers.WholeNumbersOut.{Whole, to_signed}
use Rattle.round_to_odd.specs.Odd.{IsAnswerMadeOdd}
use Rattle.apfloat_machines.specs.{declared.flushing.Flush.Flush, Flushing.IsFlushed, Flushing.without_denormal}
use Rattle.apfloat_machines.specs.Wrapping.{IsWrapped, unbounded}
use Rattle.apfloat_machines.specs.{declared.minima.MinimumRule.TheVariants.Second, Operations.is_nan_of_three}
use Rattle.formats_at_run_time.specs.{declared.FlaggedKind.FlaggedKind, Modes.mode_coded, BuiltIns.constants_in}
use Rattle.formats_at_run_time.specs.declared.IeeeFormat.{IeeeFormat, TheVariants.X87 as FormatX87}
use Rattle.formats_at_run_time.specs.declared.IeeeFormat.TheVariants.{Half as FormatHalf}
use Rattle.formats_at_run_time.specs.{FlaggedKinds.format_of_ieee, Relations.in_format, ValueKinds.Kind}
use Rattle.formats_at_run_time.specs.ValueKinds.{of_format, of_pairs, value_of}
use Rattle.coded_calls.specs.declared.{data.Answer.Answer, machine_call.CodedMachine.CodedMachine}
use Rattle.coded_calls.specs.declared.machine_call.CodedMachine.TheVariants.{X87 as MachineX87, Power as MachinePower}
use Rattle.coded_calls.specs.declared.machine_call.CodedMachine.TheVariants.{S390x as MachineS390x}
use Rattle.coded_calls.specs.declared.fewer_digits.Precision.{Precision, TheVariants.Single, TheVariants.Double}
use Rattle.coded_calls.specs.declared.machine_call.{MachineCall.MachineCall, MachineFormat.MachineFormat}
use Rattle.coded_calls.specs.declared.machine_call.MachineCall.TheVariants.{Operation, Conversion}
use Rattle.coded_calls.specs.declared.machine_call.MachineOperation.TheVariants.{IntegralExact, Integral, ToUnsigned}
use Rattle.coded_calls.specs.declared.machine_call.MachineOperation.TheVariants.{ToSigned, Least, Greatest}
use Rattle.coded_calls.specs.declared.machine_call.MachineOperation.TheVariants.{ToSignedModulo, Range}
use Rattle.coded_calls.specs.declared.machine_call.MachineOperation.TheVariants.{ToAlternativeHalf}
use Rattle.coded_calls.specs.declared.instructions.{Control.Control, Instruction.Instruction, Operands.Operands}
use Rattle.coded_calls.specs.declared.instructions.{ReadOperands.ReadOperands, Rounding.Rounding}
use Rattle.coded_calls.specs.Answers.{IsLeftBy, IsValue, whole}
use Rattle.coded_calls.specs.FewerDigits.{digits, exact_of, exact_of_any, narrow_format, widened}
use Rattle.coded_calls.specs.KnownCalls.{◌>>=◌, no_such_operation, unknown_format, unknown_mode}
use Rattle.coded_calls.specs.MachineCalls.{IsMachineCallAnswer, choices, fits, is_tiny_before, machine_call}
use Rattle.coded_calls.specs.MachineCalls.{machine_fault, machine_format, unknown_machine}

-- ---- codes

abbrev pub wrong_control : ℕ
wrong_control = 12

-- to odd begins toward zero
abbrev pub rounding_coded : ℕ → Option Rounding
rounding_coded code =
    if code == 5 then Some (record { round = TowardZero; to_odd = true })
    else option_map (λ (round : Round). record { round = round; to_odd = false }) (mode_coded code)

-- whether the digit of this power of two is set
abbrev pub has_bit : ℕ → ℕ → Bool
has_bit word power = word / power % 2 == 1

abbrev pub precision_coded : ℕ → Option Precision
precision_coded word = if has_bit word 8 then Some Single else if has_bit word 16 then Some Double else None

-- the unit of x87 has a precision control, in its format
abbrev pub has_precision : CodedMachine → IeeeFormat → Bool
has_precision MachineX87 FormatX87 = true
has_precision machine format = false

-- the machines that deliver wrapped exponents; none of them computes in half, whose range is too short for some
abbrev pub has_unmasked : CodedMachine → IeeeFormat → Bool
has_unmasked machine FormatHalf = false
has_unmasked MachineX87 format = true
has_unmasked MachinePower format = true
has_unmasked MachineS390x format = true
has_unmasked machine format = false

-- 1 flushes tiny results, 2 takes denormal operands as zeros, which some machines alone can; 4 asks what was rounded
-- up; 8 rounds to 24 digits, and 16 to 53, of which one at most can be asked for; 32 says that overflow and underflow
-- are unmasked
abbrev pub control_coded : CodedMachine → MachineFormat → ℕ → Option Control
control_coded machine m word =
    if ltb word 64
    && (ltb (word % 32) 24
    && ((word % 4 == 0 || is_some (choices machine).flush)
    && ((ltb (word % 32) 8 || has_precision machine m.format) && (ltb word 32 || has_unmasked machine m.format))))
    then Some (record {
      flush = if has_bit word 1 then (choices machine).flush else None;
      denormals_are_zeros = has_bit word 2;
      tells_rounded_up = has_bit word 4;
      precision = precision_coded word;
      unmasked = has_bit word 32;
    })
    else None

-- The faults of the codes in their order: the format, the mode, that machines do not have the format, the machine, the
-- control word.
abbrev pub known_instruction : Option FlaggedKind → Option Rounding → Option CodedMachine → ℕ → Result Instruction ℕ
known_instruction kind rounding machine word =
    ok_or kind unknown_format >>= λ known. ok_or rounding unknown_mode >>= λ rounds.
    ok_or (machine_format known) no_such_operation >>= λ format. ok_or machine unknown_machine >>= λ on.
    ok_or (control_coded on format word) wrong_control >>= λ control.
    Ok (record { machine = on; format = format; rounding = rounds; control = control })

-- ---- operands

-- what is said of the constants of a kind of values; pairs have none
abbrev pub IsSaidOf : (Constants → Type 0) → Kind → Type 0
IsSaidOf Says (of_format c) = Says c
IsSaidOf Says of_pairs = ⊥

-- 0 stands for what an operation does not take: up to the code 7, and from 14 to 18 but for 16, it takes a second one
abbrev pub operands_of : ℕ → ℕ → ℕ → ℕ → Operands
operands_of code x y z =
    record {
      x = x;
      y = if ltb code 8 || (ltb 13 code && (ltb code 19 && not (code == 16))) then y else 0;
      z = if code == 7 then z else 0;
    }

-- the constants of a format without its rule of flags, which encodings do not depend on
abbrev pub constants_for : MachineFormat → Constants
constants_for m = constants_in (format_of_ieee m.format)

abbrev pub is_denormal_in : Constants → ℕ → Bool
is_denormal_in c bits = fits c.bits bits && is_denormal (format_with c) (value_of c bits)

-- the bits that are taken for an operand: a denormal one may be taken as the zero of its sign
abbrev pub IsTaken : Constants → Control → ℕ → ℕ → Type 0
IsTaken c control bits taken =
    MatchBool (control.denormals_are_zeros && is_denormal_in c bits)
    (IsEncodedBy (format_with c) (layout_with c) taken (without_denormal (format_with c) (value_of c bits)))
    (taken ≡ bits)

abbrev pub any_is_denormal : Constants → Operands → Bool
any_is_denormal c of = is_denormal_in c of.x || (is_denormal_in c of.y || is_denormal_in c of.z)

abbrev pub any_is_nan : Constants → Operands → Bool
any_is_nan c of = is_nan_of_three (value_of c of.x) (value_of c of.y) (value_of c of.z)

-- whether an operand is denormal: where it is not taken as zero, only if none is a NaN
abbrev pub has_denormal : Constants → Control → Operands → Bool
has_denormal c control of = any_is_denormal c of && (control.denormals_are_zeros || not (any_is_nan c of))

-- operands as they are taken, and whether one of them is denormal
pub record AreRead (c : Constants) (control : Control) (of : Operands) (read : ReadOperands) : Type 0 where
  pub x_is : IsTaken c control of.x read.taken.x
  pub y_is : IsTaken c control of.y read.taken.y
  pub z_is : IsTaken c control of.z read.taken.z
  pub denormal_is : read.has_denormal ≡ has_denormal c control of

-- ---- how a call is made

-- whether a value lies between two integers of which the one nearer to zero is even
abbrev pub is_above_even : Format → Datum → Bool
is_above_even f x =
    let truncated : Whole = to_signed f TowardZero 128 x in
    truncated.status == inexact_bit && magnitude truncated.number % 2 == 0

-- the mode that takes a value to the odd one of the integers beside it
abbrev pub odd_mode : Format → Datum → Round
odd_mode f x = if is_above_even f x then (if is_negative x then TowardNegative else TowardPositive) else TowardZero

-- the operand of an operation whose result is an integer or an integral value
abbrev pub whole_operand : MachineCall → Option ℕ
whole_operand (Operation (IntegralExact x)) = Some x
whole_operand (Operation (Integral x)) = Some x
whole_operand (Operation (ToUnsigned x width)) = Some x
whole_operand (Operation (ToSigned x width)) = Some x
whole_operand (Operation (ToSignedModulo x width)) = Some x
whole_operand call = None

-- the mode of a call, by that operand, if it has one
abbrev pub mode_by : Constants → Rounding → Option ℕ → Round
mode_by c rounding None = rounding.round
mode_by c rounding (Some x) =
    if rounding.to_odd then odd_mode (format_with c) (value_of c x) else rounding.round

-- ---- what becomes of a result

abbrev pub IsFlushedBy : Format → Option Flush → StatusAnd Datum → StatusAnd Datum → Type 0
IsFlushedBy f None given result = result ≡ given
IsFlushedBy f (Some flush) given result = Gives (IsFlushed f flush given.value (bits_of given.status)) result

-- a value with its flags, made odd and flushed, where that is asked for
pub record IsFinished (f : Format) (rounding : Rounding) (control : Control) (plain result : StatusAnd Datum)
    : Type 0 where
  pub rounded : StatusAnd Datum
  pub is_rounded : MatchBool rounding.to_odd (IsAnswerMadeOdd f (is_negative plain.value) plain rounded)
      (rounded ≡ plain)
  pub is_flushed : IsFlushedBy f control.flush rounded result

-- the value that an answer tells, with its flags, of which there are eight at most
pub record IsTold (c : Constants) (answer : Answer) (told : StatusAnd Datum) : Type 0 where
  pub value_is : told.value ≡ value_of c (whole answer.bits)
  pub status_is : bits_of told.status ≡ answer.status % 2 ^ 8

-- the same of an answer
pub record IsFinishedBy (c : Constants) (rounding : Rounding) (control : Control) (given answer : Answer)
    : Type 0 where
  pub plain : StatusAnd Datum
  pub is_told : IsTold c given plain
  pub is_value : IsValue (in_format c) (IsFinished (format_with c) rounding control plain) answer

-- whether the result is left as it is: an operand, as of MINSS, VRANGE, and FMIN with FPCR.AH, and the bits of an
-- alternative half
abbrev pub is_left_alone : MachineCall → Bool
is_left_alone (Operation (Least Second x y)) = true
is_left_alone (Operation (Greatest Second x y)) = true
is_left_alone (Operation (Range rule x y)) = true
is_left_alone (Operation (ToAlternativeHalf x)) = true
is_left_alone call = false

-- whether anything may become of a result; integers and integral values are odd by the mode, and never tiny
abbrev pub finishes : Control → Rounding → MachineCall → Bool
finishes control rounding call =
    is_none (whole_operand call) && not (is_left_alone call) && (rounding.to_odd || is_some control.flush)

-- the format of the result, if it has one
abbrev pub result_format : MachineFormat → MachineCall → MachineFormat
result_format m (Operation operation) = m
result_format m (Conversion x target) = target

abbrev pub AreFinished : Instruction → MachineCall → Rounding → Answer → Answer → Type 0
AreFinished it call rounding given answer =
    MatchBool (finishes it.control rounding call)
    (IsFinishedBy (constants_for (result_format it.format call)) rounding it.control given answer)
    (answer ≡ given)

-- a call on the operands as they are taken, by a rounding, with all digits of the format
pub record IsWithAllDigits (it : Instruction) (call : MachineCall) (rounding : Rounding) (answer : Answer)
    : Type 0 where
  pub given : Answer
  pub is_given : IsMachineCallAnswer it.machine it.format
      (mode_by (constants_for it.format) rounding (whole_operand call)) call given
  pub is_finished : AreFinished it call rounding given answer

-- the exact result rounded once in a format with fewer digits, and written as the number of x87 that it is
pub record IsShortened (g : Format) (rounding : Rounding) (control : Control) (exact : Outcome) (answer : Answer)
    : Type 0 where
  pub plain : StatusAnd Datum
  pub is_plain : Gives (Yields g rounding.round exact) plain
  pub narrow : StatusAnd Datum
  pub is_narrow : IsFinished g rounding control plain narrow
  pub is_value : IsValue (in_format x87_constants)
      (Gives (IsGiven (widened g (format_with x87_constants) narrow.value) (bits_of narrow.status))) answer

-- the format with fewer digits that is asked for
abbrev pub precision_in : IeeeFormat → Option Precision → Option Precision
precision_in FormatX87 precision = precision
precision_in format precision = None

abbrev pub narrow_in : Instruction → Option Format
narrow_in it =
    option_map (narrow_format (is_tiny_before it.machine it.format.tiny_before))
    (precision_in it.format.format it.control.precision)

-- what holds of a result with all digits, or of a format with fewer and the exact result that is rounded in it
abbrev pub ByPrecision : Instruction → MachineCall → Type 0 → (Format → Outcome → Type 0) → Type 0
ByPrecision it call AllDigits Fewer =
    MatchOption (narrow_in it) AllDigits
    (λ (g : Format). MatchOption (exact_of x87_constants g call) AllDigits (Fewer g))

abbrev pub IsMasked : Instruction → MachineCall → Rounding → Answer → Type 0
IsMasked it call rounding answer =
    ByPrecision it call (IsWithAllDigits it call rounding answer)
    (λ g exact. IsShortened g rounding it.control exact answer)

-- ---- unmasked overflow and underflow

-- the digits of results, and wide exponents
abbrev pub wide_format : Instruction → Format
wide_format it =
    unbounded (unwrap_or (option_map digits (precision_in it.format.format it.control.precision))
    (constants_for it.format).precision)

-- a result whose exponent is wrapped, given the masked one: the exact result is also rounded in the wide format g
pub record IsWrappedIn (c : Constants) (g : Format) (rounding : Rounding) (control : Control) (masked : Answer)
    (exact : Outcome) (answer : Answer) : Type 0 where
  pub plain : StatusAnd Datum
  pub is_told : IsTold c masked plain
  pub rounded : StatusAnd Datum
  pub is_rounded : Gives (Yields g rounding.round exact) rounded
  pub wide : StatusAnd Datum
  pub is_wide : IsFinished g rounding control rounded wide
  pub is_value : IsValue (in_format c) (Gives (IsWrapped g (format_with c) plain wide)) answer

-- results of other operations, and of operands other than usual ones, are those of masked overflow and underflow
abbrev pub IsWrappedBy : Constants → Format → MachineCall → Rounding → Control → Answer → Answer → Type 0
IsWrappedBy c g call rounding control masked answer =
    MatchOption (exact_of_any c g call) (answer ≡ masked)
    (λ (exact : Outcome). IsWrappedIn c g rounding control masked exact answer)

pub record IsUnmasked (it : Instruction) (call : MachineCall) (rounding : Rounding) (answer : Answer)
    : Type 0 where
  pub masked : Answer
  pub is_masked : IsMasked it call rounding masked
  pub is_wrapped : IsWrappedBy (constants_for it.format) (wide_format it) call rounding it.control masked answer

abbrev pub IsDelivered : Instruction → MachineCall → Rounding → Answer → Type 0
IsDelivered it call rounding answer =
    MatchBool it.control.unmasked (IsUnmasked it call rounding answer) (IsMasked it call rounding answer)

-- ---- what else is told

abbrev pub toward_zero : Rounding
toward_zero = record { round = TowardZero; to_odd = false }

-- whether the magnitude is greater than that of the exact result: an inexact answer is not that toward zero
pub record IsRoundedUp (IsToward : Answer → Type 0) (answer : Answer) (up : Bool) : Type 0 where
  pub toward : Answer
  pub is_toward : IsToward toward
  pub up_is : up ≡ not (whole answer.bits == whole toward.bits)

abbrev pub IsUpTold : Instruction → MachineCall → Answer → Bool → Type 0
IsUpTold it call answer up =
    MatchBool (it.control.tells_rounded_up && has_bit answer.status 16)
    (IsRoundedUp (IsDelivered it call toward_zero) answer up) (up ≡ false)

-- 1 for a denormal operand, where it is not taken as zero with neither INVALID_OP nor DIV_BY_ZERO, and 2 for what was
-- rounded up
abbrev pub notes : Control → Bool → ℕ → Bool → ℕ
notes control denormal status up =
    (if denormal && (control.denormals_are_zeros || status % 4 == 0) then 1 else 0) + (if up then 2 else 0)

pub record IsInstructionAnswer (it : Instruction) (call : MachineCall) (denormal : Bool) (answer : Answer)
    : Type 0 where
  pub plain : Answer
  pub is_plain : IsDelivered it call it.rounding plain
  pub up : Bool
  pub is_up : IsUpTold it call plain up
  pub answer_is : answer ≡ record plain { number = pos (notes it.control denormal plain.status up) }

-- ---- replies

-- what the code of an operation makes of known ones
abbrev pub IsCalled : Instruction → Result MachineCall ℕ → Bool → Answer → Answer → ℕ → Type 0
IsCalled it (Err error) denormal old new code = (code ≡ error) × (new ≡ old)
IsCalled it (Ok call) denormal old new code =
    IsLeftBy (machine_fault it.machine it.format call) (IsInstructionAnswer it call denormal) old new code

-- whether operands are values of the format, as the bits of an alternative half are not
abbrev pub are_values : ℕ → Bool
are_values operation = not (operation == 20)

abbrev pub no_operands : Operands
no_operands = record { x = 0; y = 0; z = 0 }

-- the same of operands that are read before
pub record IsCarriedOut (it : Instruction) (operation to : ℕ) (of : Operands) (old new : Answer) (code : ℕ)
    : Type 0 where
  pub read : ReadOperands
  pub are_read : AreRead (constants_for it.format) it.control (if are_values operation then of else no_operands) read
  pub is_called : IsCalled it
      (machine_call operation to (if are_values operation then read.taken.x else of.x) read.taken.y read.taken.z)
      read.has_denormal old new code

-- the code 0 and the result, or the code of the first error and the previous contents
abbrev pub IsInstructionReply : Result Instruction ℕ → ℕ → ℕ → Operands → Answer → Answer → ℕ → Type 0
IsInstructionReply (Err error) operation to of old new code = (code ≡ error) × (new ≡ old)
IsInstructionReply (Ok it) operation to of old new code = IsCarriedOut it operation to of old new code
