-- The operations of machines, as their export makes them.
use Rattle.std.specs.Prelude.{◌≡◌, ℕ, ◌/◌, ◌%◌, ◌^◌, ◌==◌, ltb, pos, Bool, true, false, not, ◌&&◌, if◌then◌else◌}
use Rattle.std.specs.Prelude.{Option, Some}
use Rattle.std.specs.Prelude.{None, ok_or, option_and_then, option_map, Result, Ok, Err, [], ◌∷◌}
use Rattle.std.specs.Int.{w128, cast_unsigned}
use Rattle.apfloat_model.specs.declared.kinds.NonfiniteBehavior.TheVariants.{IEEE754}
use Rattle.rustc_apfloat.specs.{Classes.is_finite, Classes.is_negative, Classes.is_zero, Datum.Datum, Flags.Gives}
use Rattle.rustc_apfloat.specs.{Flags.bits_of, Format.Format, Lawful.Constants, Lawful.format_with}
use Rattle.rustc_apfloat.specs.declared.{Round.Round, StatusAnd.StatusAnd}
use Rattle.apfloat_machines.specs.declared.{machine.Machine.Machine, minima.MinimumRule.MinimumRule}
use Rattle.apfloat_machines.specs.declared.minima.MinimumRule.TheVariants.{Second, SecondQuietly, FirstNan, Number2008}
use Rattle.apfloat_machines.specs.declared.minima.MinimumRule.TheVariants.{Number2019, Propagated}
use Rattle.apfloat_machines.specs.declared.ranges.{RangeRule.RangeRule, RangeSign.RangeSign}
use Rattle.apfloat_machines.specs.declared.ranges.{RangeSign.TheVariants.OfFirst}
use Rattle.apfloat_machines.specs.declared.ranges.RangeSign.TheVariants.{OfChosen, Positive, Negative}
use Rattle.apfloat_machines.specs.{AlternativeHalves.IsAlternativeHalf, AlternativeHalves.IsOfAlternativeHalf}
use Rattle.apfloat_machines.specs.{Conversions.IsMachineConversion, Ranges.IsRange}
use Rattle.ieee_operations.specs.declared.extrema.Extremum.{Extremum}
use Rattle.apfloat_machines.specs.Machines.{x86, x87, arm, arm_default_nan, arm_alternate, arm_alternate_default_nan}
use Rattle.apfloat_machines.specs.Machines.{risc_v, power, s390x, webassembly, ptx, mips_2008, loongarch, sparc, m68k}
use Rattle.apfloat_machines.specs.{Minima.IsLeast, Minima.IsGreatest, Modulo.IsSignedModulo}
use Rattle.apfloat_machines.specs.Extended.{IsExtendedProduct}
use Rattle.apfloat_machines.specs.Operations.{IsMachineSum, IsMachineDifference, IsMachineProduct, IsMachineQuotient}
use Rattle.apfloat_machines.specs.Operations.{IsMachineTruncatedRemainder, IsMachineNearestRemainder, IsMachineRoot}
use Rattle.apfloat_machines.specs.Operations.{IsMachineIntegralExact, IsMachineIntegral, IsMachineFusedSum}
use Rattle.apfloat_machines.specs.WholeNumbers.{IsMachineSigned, IsMachineUnsigned}
use Rattle.formats_at_run_time.specs.{declared.IeeeFormat.IeeeFormat, BuiltIns.constants_in, BuiltIns.kind_coded}
use Rattle.formats_at_run_time.specs.{FlaggedKinds.ieee_format_in, Relations.in_format, declared.Arithmetic.Arithmetic}
use Rattle.formats_at_run_time.specs.declared.Arithmetic.TheVariants.{Sum, Difference, Product, Quotient}
use Rattle.formats_at_run_time.specs.declared.Arithmetic.TheVariants.{NearestRemainder, TruncatedRemainder}
use Rattle.formats_at_run_time.specs.declared.BuiltInKind.TheVariants.{OfFormat as OfBuiltIn}
use Rattle.formats_at_run_time.specs.declared.FlaggedFormat.{FlaggedFormat}
use Rattle.formats_at_run_time.specs.declared.FlaggedFormat.TheVariants.{BuiltIn, AfterRounding, BeforeRounding}
use Rattle.formats_at_run_time.specs.declared.FlaggedKind.{FlaggedKind, TheVariants.OfFormat, TheVariants.Pairs}
use Rattle.formats_at_run_time.specs.FlaggedKinds.{flagged_constants, flagged_kind_coded, format_of_ieee}
use Rattle.formats_at_run_time.specs.ValueKinds.{Kind, of_format, of_pairs, value_of}
use Rattle.coded_calls.specs.declared.{data.Answer.Answer, machine_call.CodedMachine.CodedMachine}
use Rattle.coded_calls.specs.declared.machine_call.{MachineCall.TheVariants.Conversion, MachineFormat.MachineFormat}
use Rattle.coded_calls.specs.declared.machine_call.MachineOperation.TheVariants.{Greatest, ToSignedModulo}
use Rattle.coded_calls.specs.declared.machine_call.MachineOperation.TheVariants.{ExtendedProduct, Range}
use Rattle.coded_calls.specs.declared.machine_call.MachineOperation.TheVariants.{ToAlternativeHalf, FromAlternativeHalf}
use Rattle.coded_calls.specs.declared.machine_call.OneOperation.{OneOperation}
use Rattle.coded_calls.specs.declared.machine_call.CodedMachine.TheVariants.{X86, X87, Arm, ArmDefaultNan, ArmAlternate}
use Rattle.coded_calls.specs.declared.machine_call.CodedMachine.TheVariants.{RiscV, Power, S390x}
use Rattle.coded_calls.specs.declared.machine_call.CodedMachine.TheVariants.{ArmAlternateDefaultNan, Webassembly, Ptx}
use Rattle.coded_calls.specs.declared.machine_call.CodedMachine.TheVariants.{Mips2008, Loongarch, Sparc, M68k}
use Rattle.coded_calls.specs.declared.machine_call.MachineCall.{MachineCall, TheVariants.Operation}
use Rattle.coded_calls.specs.declared.machine_call.MachineOperation.{MachineOperation, TheVariants.OfTwo}
use Rattle.coded_calls.specs.declared.machine_call.MachineOperation.TheVariants.{FusedSum, SquareRoot, IntegralExact}
use Rattle.coded_calls.specs.declared.machine_call.MachineOperation.TheVariants.{Integral, ToUnsigned, ToSigned, Least}
use Rattle.coded_calls.specs.declared.machine_call.OneOperation.TheVariants.{SquareRoot as SquareRootOf}
use Rattle.coded_calls.specs.declared.machine_call.OneOperation.TheVariants.{IntegralExact as IntegralExactOf}
use Rattle.coded_calls.specs.declared.machine_call.OneOperation.TheVariants.{Integral as IntegralOf}
use Rattle.coded_calls.specs.declared.machine_call.OneOperation.TheVariants.{ToUnsigned as ToUnsignedOf}
use Rattle.coded_calls.specs.declared.machine_call.OneOperation.TheVariants.{ToSigned as ToSignedOf}
use Rattle.coded_calls.specs.Answers.{IsLeftBy, IsValue, whole}
use Rattle.coded_calls.specs.KnownCalls.{◌>>=◌, answered, no_such_operation, unknown_format, unknown_mode, unless}
use Rattle.coded_calls.specs.{IeeeCalls.extremum_coded, KnownCalls.counted, KnownCalls.width_fault, KnownCalls.without}

-- ---- errors

abbrev pub unknown_machine : ℕ
unknown_machine = 8

abbrev pub wide_operand : ℕ
wide_operand = 9

abbrev pub lacking_operation : ℕ
lacking_operation = 10

-- ---- machines

-- what a machine does
abbrev pub choices : CodedMachine → Machine
choices X86 = x86
choices X87 = x87
choices Arm = arm
choices ArmDefaultNan = arm_default_nan
choices ArmAlternate = arm_alternate
choices RiscV = risc_v
choices Power = power
choices S390x = s390x
choices ArmAlternateDefaultNan = arm_alternate_default_nan
choices Webassembly = webassembly
choices Ptx = ptx
choices Mips2008 = mips_2008
choices Loongarch = loongarch
choices Sparc = sparc
choices M68k = m68k

abbrev pub is_aarch64 : CodedMachine → Bool
is_aarch64 Arm = true
is_aarch64 ArmDefaultNan = true
is_aarch64 ArmAlternate = true
is_aarch64 ArmAlternateDefaultNan = true
is_aarch64 machine = false

abbrev pub is_x86 : CodedMachine → Bool
is_x86 X86 = true
is_x86 machine = false

-- whether it has conversions to integers modulo a power of two: FJCVTZS, FCVTMOD.W.D
abbrev pub has_modulo : CodedMachine → Bool
has_modulo RiscV = true
has_modulo machine = is_aarch64 machine

-- ---- formats

-- formats with a choice of flags; a code without a rule of flags leaves tininess to the machine
abbrev pub machine_format : FlaggedKind → Option MachineFormat
machine_format (OfFormat (BuiltIn format)) =
    option_map (λ (f : IeeeFormat). record { format = f; tiny_before = None }) (ieee_format_in (OfBuiltIn format))
machine_format (OfFormat (AfterRounding format)) = Some (record { format = format; tiny_before = Some false })
machine_format (OfFormat (BeforeRounding format)) = Some (record { format = format; tiny_before = Some true })
machine_format Pairs = None

abbrev pub is_tiny_before : CodedMachine → Option Bool → Bool
is_tiny_before machine None = (choices machine).tiny_before_rounding
is_tiny_before machine (Some tiny_before) = tiny_before

abbrev pub format_on : CodedMachine → MachineFormat → FlaggedFormat
format_on machine m =
    if is_tiny_before machine m.tiny_before then BeforeRounding m.format else AfterRounding m.format

-- ---- codes

-- the format of the lower byte of a code
abbrev pub ieee_format_coded : ℕ → Option IeeeFormat
ieee_format_coded byte = option_and_then ieee_format_in (kind_coded byte)

-- whether a result is tiny by its exact magnitude, by what is above the lower byte of a code
abbrev pub tiny_before_coded : CodedMachine → ℕ → Option Bool
tiny_before_coded machine rule =
    if rule == 0 then Some (choices machine).tiny_before_rounding
    else if rule == 1 then Some false
    else if rule == 3 then Some true
    else None

abbrev pub machine_coded : ℕ → Option CodedMachine
machine_coded code =
    counted 1
    (X86 ∷ X87 ∷ Arm ∷ ArmDefaultNan ∷ ArmAlternate ∷ RiscV ∷ Power ∷ S390x ∷ ArmAlternateDefaultNan ∷ Webassembly
    ∷ Ptx ∷ Mips2008 ∷ Loongarch ∷ Sparc ∷ M68k ∷ []) code

abbrev pub rule_coded : ℕ → Option MinimumRule
rule_coded code =
    counted 1 (Second ∷ SecondQuietly ∷ FirstNan ∷ Number2008 ∷ Number2019 ∷ Propagated ∷ []) code

abbrev pub least_by : Option MinimumRule → ℕ → ℕ → Option MachineOperation
least_by None x y = None
least_by (Some rule) x y = Some (Least rule x y)

abbrev pub greatest_by : Option MinimumRule → ℕ → ℕ → Option MachineOperation
greatest_by None x y = None
greatest_by (Some rule) x y = Some (Greatest rule x y)

abbrev pub sign_coded : ℕ → Option RangeSign
sign_coded code = counted 0 (OfFirst ∷ OfChosen ∷ Positive ∷ Negative ∷ []) code

-- bits 1:0 and 3:2 of the immediate operand of VRANGE
abbrev pub range_coded : ℕ → Option RangeRule
range_coded code =
    option_and_then
    (λ (extremum : Extremum).
    option_map (λ (sign : RangeSign). record { extremum = extremum; sign = sign }) (sign_coded (code / 4)))
    (extremum_coded (code % 4))

abbrev pub range_by : Option RangeRule → ℕ → ℕ → Option MachineOperation
range_by None x y = None
range_by (Some rule) x y = Some (Range rule x y)

-- `to` is the width of an integer, or the code of a rule of minima or of VRANGE
abbrev pub machine_operation : ℕ → ℕ → ℕ → ℕ → ℕ → Option MachineOperation
machine_operation code to x y z =
    if code == 1 then Some (OfTwo Sum x y)
    else if code == 2 then Some (OfTwo Difference x y)
    else if code == 3 then Some (OfTwo Product x y)
    else if code == 4 then Some (OfTwo Quotient x y)
    else if code == 5 then Some (OfTwo NearestRemainder x y)
    else if code == 6 then Some (OfTwo TruncatedRemainder x y)
    else if code == 7 then Some (FusedSum x y z)
    else if code == 8 then Some (SquareRoot x)
    else if code == 9 then Some (IntegralExact x)
    else if code == 10 then Some (Integral x)
    else if code == 12 then Some (ToUnsigned x to)
    else if code == 13 then Some (ToSigned x to)
    else if code == 14 then least_by (rule_coded to) x y
    else if code == 15 then greatest_by (rule_coded to) x y
    else if code == 16 then Some (ToSignedModulo x to)
    else if code == 17 then Some (ExtendedProduct x y)
    else if code == 18 then range_by (range_coded to) x y
    else if code == 19 then Some (ToAlternativeHalf x)
    else if code == 20 then Some (FromAlternativeHalf x)
    else None

abbrev pub conversion_call : Option FlaggedKind → ℕ → Result MachineCall ℕ
conversion_call target x =
    ok_or target unknown_format >>= λ known. ok_or (machine_format known) no_such_operation >>= λ to.
    Ok (Conversion x to)

abbrev pub operation_call : Option MachineOperation → Result MachineCall ℕ
operation_call None = Err no_such_operation
operation_call (Some operation) = Ok (Operation operation)

-- 11 is the code of conversions, of which `to` is the code of the format
abbrev pub machine_call : ℕ → ℕ → ℕ → ℕ → ℕ → Result MachineCall ℕ
machine_call code to x y z =
    if code == 11 then conversion_call (flagged_kind_coded to) x
    else operation_call (machine_operation code to x y z)

-- an operation on one value, of that value
abbrev pub of_one : OneOperation → ℕ → ℕ → MachineOperation
of_one SquareRootOf to x = SquareRoot x
of_one IntegralExactOf to x = IntegralExact x
of_one IntegralOf to x = Integral x
of_one ToUnsignedOf to x = ToUnsigned x to
of_one ToSignedOf to x = ToSigned x to

-- ---- what is refused

abbrev pub fits : ℕ → ℕ → Bool
fits width bits = ltb bits (2 ^ width)

-- no operand has a bit at or above the width, which is 16 of an alternative half
abbrev pub operands_fit : ℕ → MachineOperation → Bool
operands_fit width (OfTwo arithmetic x y) = fits width x && fits width y
operands_fit width (FusedSum x y z) = fits width x && (fits width y && fits width z)
operands_fit width (SquareRoot x) = fits width x
operands_fit width (IntegralExact x) = fits width x
operands_fit width (Integral x) = fits width x
operands_fit width (ToUnsigned x digits) = fits width x
operands_fit width (ToSigned x digits) = fits width x
operands_fit width (Least rule x y) = fits width x && fits width y
operands_fit width (Greatest rule x y) = fits width x && fits width y
operands_fit width (ToSignedModulo x digits) = fits width x
operands_fit width (ExtendedProduct x y) = fits width x && fits width y
operands_fit width (Range rule x y) = fits width x && fits width y
operands_fit width (ToAlternativeHalf x) = fits width x
operands_fit width (FromAlternativeHalf x) = fits 16 x

abbrev pub call_fits : ℕ → MachineCall → Bool
call_fits width (Operation operation) = operands_fit width operation
call_fits width (Conversion x target) = fits width x

abbrev pub lacking_unless : Bool → Option ℕ
lacking_unless has = unless has lacking_operation

-- the first of two faults, if there is one
abbrev pub or_fault : Option ℕ → Option ℕ → Option ℕ
or_fault None other = other
or_fault (Some fault) other = Some fault

-- an integer of a wrong width, and an operation that the machine lacks
abbrev pub operation_fault : CodedMachine → MachineOperation → Option ℕ
operation_fault machine (FusedSum x y z) = lacking_unless (choices machine).has_fused
operation_fault machine (ToUnsigned x width) =
    or_fault (width_fault 1 width) (lacking_unless (choices machine).has_unsigned)
operation_fault machine (ToSigned x width) = width_fault 2 width
operation_fault machine (ToSignedModulo x width) =
    or_fault (width_fault 2 width) (lacking_unless (has_modulo machine))
operation_fault machine (ExtendedProduct x y) = lacking_unless (is_aarch64 machine)
operation_fault machine (Range rule x y) = lacking_unless (is_x86 machine)
operation_fault machine (ToAlternativeHalf x) = lacking_unless (is_aarch64 machine)
operation_fault machine (FromAlternativeHalf x) = lacking_unless (is_aarch64 machine)
operation_fault machine operation = None

-- operands that are too wide come first
abbrev pub operation_fault_in : ℕ → CodedMachine → MachineOperation → Option ℕ
operation_fault_in width machine operation =
    if operands_fit width operation then operation_fault machine operation else Some wide_operand

-- conversions have neither
abbrev pub call_fault : CodedMachine → MachineCall → Option ℕ
call_fault machine (Operation operation) = operation_fault machine operation
call_fault machine (Conversion x target) = None

abbrev pub width_of : IeeeFormat → ℕ
width_of format = (constants_in (format_of_ieee format)).bits

abbrev pub machine_fault : CodedMachine → MachineFormat → MachineCall → Option ℕ
machine_fault machine m call =
    if call_fits (width_of m.format) call then call_fault machine call else Some wide_operand

-- ---- usual operands, of which every machine gives the plain result

abbrev pub is_number : Constants → ℕ → Bool
is_number c bits = fits c.bits bits && is_finite (value_of c bits)

-- a number that is positive, or +0
abbrev pub is_root_of : Constants → ℕ → Bool
is_root_of c bits = is_number c bits && not (is_negative (value_of c bits))

-- a number that is not zero
abbrev pub is_divisor : Constants → ℕ → Bool
is_divisor c bits = is_number c bits && not (is_zero (value_of c bits))

abbrev pub divides : Arithmetic → Bool
divides Sum = false
divides Difference = false
divides Product = false
divides Quotient = true
divides NearestRemainder = true
divides TruncatedRemainder = true

abbrev pub are_usual : Constants → Arithmetic → ℕ → ℕ → Bool
are_usual c arithmetic x y = is_number c x && (if divides arithmetic then is_divisor c y else is_number c y)

abbrev pub are_usual_of_three : Constants → ℕ → ℕ → ℕ → Bool
are_usual_of_three c x y z = is_number c x && (is_number c y && is_number c z)

-- ---- requests

pub record MachineRequest : Type 0 where
  pub machine : CodedMachine
  pub format : MachineFormat
  pub mode : Round
  pub call : MachineCall

-- The faults in their order: the format, the mode, that machines do not have the format, the operation with the format
-- or the rule that it needs, the machine, operands that are too wide, the width of an integer, an operation that the
-- machine lacks.
abbrev pub known_machine_call : Option FlaggedKind → Option Round → Result MachineCall ℕ → Option CodedMachine
    → Result MachineRequest ℕ
known_machine_call kind mode call machine =
    ok_or kind unknown_format >>= λ known. ok_or mode unknown_mode >>= λ rounding.
    ok_or (machine_format known) no_such_operation >>= λ format. call >>= λ asked.
    ok_or machine unknown_machine >>= λ on.
    without (machine_fault on format asked)
    (record { machine = on; format = format; mode = rounding; call = asked })

-- ---- results in a format

-- an operation on two data
abbrev pub IsMachineOfTwo : Format → CodedMachine → Arithmetic → Round → Datum → Datum → StatusAnd Datum
    → Type 0
IsMachineOfTwo f machine Sum mode x y given = Gives (IsMachineSum f (choices machine) mode x y) given
IsMachineOfTwo f machine Difference mode x y given = Gives (IsMachineDifference f (choices machine) mode x y) given
IsMachineOfTwo f machine Product mode x y given = Gives (IsMachineProduct f (choices machine) mode x y) given
IsMachineOfTwo f machine Quotient mode x y given = Gives (IsMachineQuotient f (choices machine) mode x y) given
IsMachineOfTwo f machine NearestRemainder mode x y given =
    Gives (IsMachineNearestRemainder f (choices machine) x y) given
IsMachineOfTwo f machine TruncatedRemainder mode x y given =
    Gives (IsMachineTruncatedRemainder f (choices machine) x y) given

-- an integer as its word, with its flags; the field `number` is 0
pub record IsInteger {A : Type 0} (word : A → ℕ) (Holds : StatusAnd A → Type 0) (answer : Answer) : Type 0 where
  pub given : StatusAnd A
  pub holds : Holds given
  pub bits_are : whole answer.bits ≡ word given.value
  pub status_is : answer.status ≡ bits_of given.status
  pub number_is : answer.number ≡ pos 0

-- a value of c in values of a kind
abbrev pub IsMachineConverted : Constants → CodedMachine → Round → Datum → Kind → Answer → Type 0
IsMachineConverted c machine mode x (of_format d) answer =
    IsValue (in_format d)
    (λ given. Gives (IsMachineConversion (format_with c) (format_with d) (choices machine) mode x) given) answer
IsMachineConverted c machine mode x of_pairs answer = ⊥

-- an operation on values of a format
abbrev pub IsMachineAnswer : Constants → CodedMachine → Round → MachineOperation → Answer → Type 0
IsMachineAnswer c machine mode (OfTwo arithmetic x y) answer =
    IsValue (in_format c)
    (IsMachineOfTwo (format_with c) machine arithmetic mode (value_of c x) (value_of c y)) answer
IsMachineAnswer c machine mode (FusedSum x y z) answer =
    IsValue (in_format c)
    (λ given.
    Gives (IsMachineFusedSum (format_with c) (choices machine) mode (value_of c x) (value_of c y) (value_of c z))
    given)
    answer
IsMachineAnswer c machine mode (SquareRoot x) answer =
    IsValue (in_format c) (λ given. Gives (IsMachineRoot (format_with c) (choices machine) mode (value_of c x)) given)
    answer
IsMachineAnswer c machine mode (IntegralExact x) answer =
    IsValue (in_format c)
    (λ given. Gives (IsMachineIntegralExact (format_with c) (choices machine) mode (value_of c x)) given) answer
IsMachineAnswer c machine mode (Integral x) answer =
    IsValue (in_format c)
    (λ given. Gives (IsMachineIntegral (format_with c) (choices machine) mode (value_of c x)) given) answer
IsMachineAnswer c machine mode (ToUnsigned x width) answer =
    IsInteger (λ n. n)
    (λ given. Gives (IsMachineUnsigned (format_with c) (choices machine) mode width (value_of c x)) given) answer
IsMachineAnswer c machine mode (ToSigned x width) answer =
    IsInteger (cast_unsigned w128)
    (λ given. Gives (IsMachineSigned (format_with c) (choices machine) mode width (value_of c x)) given) answer
IsMachineAnswer c machine mode (Least rule x y) answer =
    IsValue (in_format c)
    (λ given. Gives (IsLeast rule (format_with c) (choices machine) (value_of c x) (value_of c y)) given) answer
IsMachineAnswer c machine mode (Greatest rule x y) answer =
    IsValue (in_format c)
    (λ given. Gives (IsGreatest rule (format_with c) (choices machine) (value_of c x) (value_of c y)) given) answer
IsMachineAnswer c machine mode (ToSignedModulo x width) answer =
    IsInteger (cast_unsigned w128) (λ given. Gives (IsSignedModulo (format_with c) width (value_of c x)) given) answer
IsMachineAnswer c machine mode (ExtendedProduct x y) answer =
    IsValue (in_format c)
    (λ given. Gives (IsExtendedProduct (format_with c) (choices machine) mode (value_of c x) (value_of c y)) given)
    answer
IsMachineAnswer c machine mode (Range rule x y) answer =
    IsValue (in_format c) (λ given. Gives (IsRange rule (format_with c) (value_of c x) (value_of c y)) given) answer
IsMachineAnswer c machine mode (ToAlternativeHalf x) answer =
    IsInteger (λ n. n) (λ given. Gives (IsAlternativeHalf (format_with c) mode (value_of c x)) given) answer
IsMachineAnswer c machine mode (FromAlternativeHalf x) answer =
    IsValue (in_format c) (λ given. Gives (IsOfAlternativeHalf (format_with c) mode x) given) answer

-- the value that bits of a kind encode, in another
abbrev pub IsMachineConvertedFrom : Kind → CodedMachine → Round → ℕ → Kind → Answer → Type 0
IsMachineConvertedFrom (of_format c) machine mode x target answer =
    IsMachineConverted c machine mode (value_of c x) target answer
IsMachineConvertedFrom of_pairs machine mode x target answer = ⊥

-- A call on values of a format. The rule of flags of a format from which a value is converted makes no difference.
abbrev pub IsMachineCallAnswer : CodedMachine → MachineFormat → Round → MachineCall → Answer → Type 0
IsMachineCallAnswer machine m mode (Operation operation) answer =
    IsMachineAnswer (flagged_constants (format_on machine m)) machine mode operation answer
IsMachineCallAnswer machine m mode (Conversion x target) answer =
    IsMachineConvertedFrom (of_format (constants_in (format_of_ieee m.format))) machine mode x
    (of_format (flagged_constants (format_on machine target))) answer

-- ---- replies

-- what an operation leaves in a format: the code 0 and its result, or the error and the previous contents
abbrev pub IsMachineLeft : Constants → CodedMachine → Round → MachineOperation → Answer → Answer → ℕ
    → Type 0
IsMachineLeft c machine mode operation old new code =
    IsLeftBy (operation_fault machine operation) (IsMachineAnswer c machine mode operation) old new code

-- the same in values of a kind, if it has infinities, of operands that may be too wide
abbrev pub IsMachineLeftIn : Kind → CodedMachine → Round → MachineOperation → Answer → Answer → ℕ
    → Type 0
IsMachineLeftIn (of_format c) machine mode operation old new code =
    (format_with c).nonfinite ≡ IEEE754
    → IsLeftBy (operation_fault_in c.bits machine operation) (IsMachineAnswer c machine mode operation) old new code
IsMachineLeftIn of_pairs machine mode operation old new code = ⊥

-- what a conversion of bits of a kind, which may be too wide, leaves
abbrev pub IsMachineConversionLeft : Kind → CodedMachine → Round → ℕ → Kind → Answer → Answer → ℕ
    → Type 0
IsMachineConversionLeft (of_format c) machine mode x target old new code =
    IsLeftBy (unless (fits c.bits x) wide_operand) (IsMachineConverted c machine mode (value_of c x) target)
    old new code
IsMachineConversionLeft of_pairs machine mode x target old new code = ⊥

-- What a call leaves in a place at the kind of a format that may be unknown. Where it is not made, nothing is left.
abbrev pub IsFilledIn : {F P O : Type 0} → (F → Kind) → (Kind → P → P → O → Type 0)
    → Option F → P → P → Option O → Type 0
IsFilledIn kind_of gives format old new None = new ≡ old
IsFilledIn kind_of gives (Some format) old new (Some given) = gives (kind_of format) old new given
IsFilledIn kind_of gives None old new (Some given) = ⊥

-- the kind of a format with its rule of flags on a machine
abbrev pub kind_on : CodedMachine → MachineFormat → Kind
kind_on machine format = of_format (flagged_constants (format_on machine format))

-- the same without a rule of flags
abbrev pub kind_without_rule : MachineFormat → Kind
kind_without_rule m = of_format (constants_in (format_of_ieee m.format))

-- the format of a code, if it has a choice of flags
abbrev pub machine_format_coded : ℕ → Option MachineFormat
machine_format_coded code = option_and_then machine_format (flagged_kind_coded code)

-- the code 0 and the result, or the code of the first error and the previous contents
abbrev pub IsMachineReply : Result MachineRequest ℕ → Answer → Answer → ℕ → Type 0
IsMachineReply (Err error) old new code = (code ≡ error) × (new ≡ old)
IsMachineReply (Ok known) old new code =
    (code ≡ answered) × IsMachineCallAnswer known.machine known.format known.mode known.call new
