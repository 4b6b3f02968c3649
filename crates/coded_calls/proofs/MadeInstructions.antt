-- What a call on a machine leaves, by the code that it returns.
use Rattle.std.proofs.Common.{◌≡◌, ℕ, ◌<◌, lit<, Bool, true, false, Option, None, Some, refl, sym, subst, arith}
use Rattle.std.specs.Prelude.{⊤, if◌then◌else◌}
use Rattle.coded_calls.specs.declared.{data.Answer.Answer, machine_call.CodedMachine.CodedMachine}
use Rattle.coded_calls.specs.declared.machine_call.{MachineCall.MachineCall, MachineFormat.MachineFormat}
use Rattle.coded_calls.specs.declared.machine_call.MachineCall.TheVariants.{Operation, Conversion}
use Rattle.coded_calls.specs.declared.machine_call.MachineOperation.{MachineOperation, TheVariants.OfTwo}
use Rattle.coded_calls.specs.declared.machine_call.MachineOperation.TheVariants.{FusedSum, SquareRoot, IntegralExact}
use Rattle.coded_calls.specs.declared.machine_call.MachineOperation.TheVariants.{Integral, ToUnsigned, ToSigned, Least}
use Rattle.coded_calls.specs.declared.machine_call.MachineOperation.TheVariants.{Greatest, ToSignedModulo}
use Rattle.coded_calls.specs.declared.machine_call.MachineOperation.TheVariants.{ExtendedProduct, Range}
use Rattle.coded_calls.specs.declared.machine_call.MachineOperation.TheVariants.{ToAlternativeHalf, FromAlternativeHalf}
use Rattle.coded_calls.specs.{Answers.IsLeftBy, KnownCalls.answered, KnownCalls.unless, KnownCalls.width_fault}
use Rattle.coded_calls.specs.MachineCalls.{choices, has_modulo, lacking_unless, machine_fault, operation_fault}
use Rattle.coded_calls.specs.MachineCalls.{or_fault, wide_operand}

-- the code of a fault is not 0
abbrev HasCode : Option ℕ → Type 0
HasCode None = ⊤
HasCode (Some fault) = 0 < fault

unless_code : (holds : Bool) (error : ℕ) → 0 < error → HasCode (unless holds error)
unless_code true error h = tt
unless_code false error h = h

or_code : (first second : Option ℕ) → HasCode first → HasCode second → HasCode (or_fault first second)
or_code None second h k = k
or_code (Some fault) second h k = h

operation_code : (machine : CodedMachine) (operation : MachineOperation) → HasCode (operation_fault machine operation)
operation_code machine (OfTwo arithmetic x y) = tt
operation_code machine (FusedSum x y z) = unless_code _ _ (lit< tt)
operation_code machine (SquareRoot x) = tt
operation_code machine (IntegralExact x) = tt
operation_code machine (Integral x) = tt
operation_code machine (ToUnsigned x width) =
    or_code (width_fault 1 width) (lacking_unless (choices machine).has_unsigned) (unless_code _ _ (lit< tt))
    (unless_code _ _ (lit< tt))
operation_code machine (ToSigned x width) = unless_code _ _ (lit< tt)
operation_code machine (Least rule x y) = tt
operation_code machine (Greatest rule x y) = tt
operation_code machine (ToSignedModulo x width) =
    or_code (width_fault 2 width) (lacking_unless (has_modulo machine)) (unless_code _ _ (lit< tt))
    (unless_code _ _ (lit< tt))
operation_code machine (ExtendedProduct x y) = unless_code _ _ (lit< tt)
operation_code machine (Range rule x y) = unless_code _ _ (lit< tt)
operation_code machine (ToAlternativeHalf x) = unless_code _ _ (lit< tt)
operation_code machine (FromAlternativeHalf x) = unless_code _ _ (lit< tt)

fitting_code : (fits : Bool) (fault : Option ℕ) → HasCode fault
    → HasCode (if fits then fault else Some wide_operand)
fitting_code true fault h = h
fitting_code false fault h = lit< tt

machine_code : (machine : CodedMachine) (m : MachineFormat) (call : MachineCall)
    → HasCode (machine_fault machine m call)
machine_code machine m (Operation operation) = fitting_code _ _ (operation_code machine operation)
machine_code machine m (Conversion x target) = fitting_code _ None tt

left_at : (fault : Option ℕ) → HasCode fault → (Holds : Answer → Type 0) (old new : Answer) (code : ℕ)
    → IsLeftBy fault Holds old new code → code ≡ 0 → (fault ≡ None) × Holds new
left_at None has Holds old new code left zero = (refl, left.1)
left_at (Some fault) has Holds old new code left zero = absurd (omega (arith, has, left.0, zero))

-- with the code 0, there is no fault
pub left_answered : (machine : CodedMachine) (m : MachineFormat) (call : MachineCall) (Holds : Answer → Type 0)
    (old new : Answer) (code : ℕ) → IsLeftBy (machine_fault machine m call) Holds old new code → code ≡ 0
    → (machine_fault machine m call ≡ None) × Holds new
left_answered machine m call Holds old new code left zero =
    left_at (machine_fault machine m call) (machine_code machine m call) Holds old new code left zero

-- without a fault, what holds is left
pub left_by : (fault : Option ℕ) (Holds : Answer → Type 0) (old new : Answer) → fault ≡ None → Holds new
    → IsLeftBy fault Holds old new answered
left_by fault Holds old new none holds =
    subst (λ (f : Option ℕ). IsLeftBy f Holds old new answered) (sym none) (refl, holds)
