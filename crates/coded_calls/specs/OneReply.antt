-- What a call leaves is determined by its arguments: one code, and one result.
use Rattle.std.specs.Prelude.{◌≡◌, ℕ, Option, Result}
use Rattle.rustc_apfloat.specs.declared.Round.{Round}
use Rattle.formats_at_run_time.specs.declared.FlaggedKind.{FlaggedKind}
use Rattle.coded_calls.specs.declared.{data.Answer.Answer, data.Halves.Halves, exported_call.ExportedCall.ExportedCall}
use Rattle.coded_calls.specs.declared.{flagless_call.FlaglessCall.FlaglessCall, ieee_call.IeeeCall.IeeeCall}
use Rattle.coded_calls.specs.declared.{ieee_call.InAnotherCall.InAnotherCall, p3109.P3109Call.P3109Call}
use Rattle.coded_calls.specs.declared.instructions.{Instruction.Instruction, Operands.Operands}
use Rattle.coded_calls.specs.{Answers.IsReturned, Answers.whole, Augmented.IsAugmentedCall, Augmented.IsPayloadCall}
use Rattle.coded_calls.specs.{Augmented.KnownAugmentation, Augmented.KnownPayload, FlaglessCalls.IsFlaglessReply}
use Rattle.coded_calls.specs.{IeeeCalls.IsIeeeReply, IeeeCalls.IsInAnotherReply, Instructions.IsInstructionReply}
use Rattle.coded_calls.specs.KnownCalls.{known_call}
use Rattle.coded_calls.specs.{MachineCalls.IsMachineReply, MachineCalls.MachineRequest, P3109.IsP3109Reply}

-- two results with the same number of 128 bits, the same flags, and the same extra number
pub record SameAnswer (first second : Answer) : Type 0 where
  pub bits : whole first.bits ≡ whole second.bits
  pub status : first.status ≡ second.status
  pub number : first.number ≡ second.number

-- a call on single values
abbrev pub IsReplyOnce : Type 0
IsReplyOnce =
    (format : Option FlaggedKind) (mode : Option Round) (call : ExportedCall) (old first second : Answer)
    (code other : ℕ)
    → IsReturned (known_call format mode call) old first code
    → IsReturned (known_call format mode call) old second other
    → (code ≡ other) × SameAnswer first second

-- a call that raises no flag
abbrev pub IsFlaglessReplyOnce : Type 0
IsFlaglessReplyOnce =
    (format : Option FlaggedKind) (call : FlaglessCall) (old first second : Answer) (code other : ℕ)
    → IsFlaglessReply format call old first code → IsFlaglessReply format call old second other
    → (code ≡ other) × SameAnswer first second

-- an operation of IEEE 754-2019 that `Float` lacks
abbrev pub IsIeeeReplyOnce : Type 0
IsIeeeReplyOnce =
    (format : Option FlaggedKind) (mode : Option Round) (call : Option IeeeCall) (old first second : Answer)
    (code other : ℕ)
    → IsIeeeReply format mode call old first code → IsIeeeReply format mode call old second other
    → (code ≡ other) × SameAnswer first second

-- an operation whose result is of another format
abbrev pub IsInAnotherReplyOnce : Type 0
IsInAnotherReplyOnce =
    (format target : Option FlaggedKind) (mode : Option Round) (call : Option InAnotherCall)
    (old first second : Answer) (code other : ℕ)
    → IsInAnotherReply format target mode call old first code
    → IsInAnotherReply format target mode call old second other
    → (code ≡ other) × SameAnswer first second

-- what a machine delivers
abbrev pub IsMachineReplyOnce : Type 0
IsMachineReplyOnce =
    (known : Result MachineRequest ℕ) (old first second : Answer) (code other : ℕ)
    → IsMachineReply known old first code → IsMachineReply known old second other
    → (code ≡ other) × SameAnswer first second

-- what a machine delivers with a control word
abbrev pub IsInstructionReplyOnce : Type 0
IsInstructionReplyOnce =
    (known : Result Instruction ℕ) (operation to : ℕ) (of : Operands) (old first second : Answer) (code other : ℕ)
    → IsInstructionReply known operation to of old first code
    → IsInstructionReply known operation to of old second other
    → (code ≡ other) × SameAnswer first second

-- a conversion into a format of P3109 or out of it
abbrev pub IsP3109ReplyOnce : Type 0
IsP3109ReplyOnce =
    (known : Result P3109Call ℕ) (old first second : Answer) (code other : ℕ)
    → IsP3109Reply known old first code → IsP3109Reply known old second other
    → (code ≡ other) × SameAnswer first second

-- augmented operations and operations on payloads
pub record AreAugmentedCallsOnce : Type 0 where
  pub augmented : (known : Result KnownAugmentation ℕ) (x y : ℕ) (old_tail first_tail second_tail : Halves)
      (old first second : Answer) (code other : ℕ)
      → IsAugmentedCall known x y old_tail first_tail old first code
      → IsAugmentedCall known x y old_tail second_tail old second other
      → (code ≡ other) × (whole first_tail ≡ whole second_tail) × SameAnswer first second
  pub payload : (known : Result KnownPayload ℕ) (x : ℕ) (old first second : Answer) (code other : ℕ)
      → IsPayloadCall known x old first code → IsPayloadCall known x old second other
      → (code ≡ other) × SameAnswer first second
