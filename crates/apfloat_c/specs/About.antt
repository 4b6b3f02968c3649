-- What the library says of itself: a text for each code of an error, its version, and what made it.
use Rattle.std.specs.Prelude.{◌≡◌, ℕ, ◌==◌, nat_le, Bool, true, false, if◌then◌else◌, List, codes}
use Rattle.apfloat_c.specs.{declared.decimals.DecimalText.DecimalText, Decimals.IsText}
use Rattle.coded_calls.specs.KnownCalls.{answered, no_such_operation, refused_text, unknown_format, unknown_mode}
use Rattle.coded_calls.specs.KnownCalls.{wrong_length, wrong_width}
use Rattle.coded_calls.specs.MachineCalls.{lacking_operation, unknown_machine, wide_operand}
use Rattle.coded_calls.specs.Instructions.{wrong_control}

-- the error for a number that no export returns
abbrev pub unknown_error : ℕ
unknown_error = 7

-- the error for arrays of which one is a part of the other, in calls in place; no export returns it
abbrev pub overlapping_arrays : ℕ
overlapping_arrays = 11

abbrev pub greatest_code : ℕ
greatest_code = wrong_control

abbrev pub error_text : ℕ → List ℕ
error_text error =
    if error == answered then codes "no error"
    else if error == unknown_format then codes "unknown format"
    else if error == unknown_mode then codes "unknown rounding mode"
    else if error == no_such_operation then codes "the format does not have the operation"
    else if error == wrong_width then codes "an integer cannot have this width"
    else if error == refused_text then codes "the text was refused"
    else if error == wrong_length then codes "wrong length of an array"
    else if error == unknown_machine then codes "unknown machine"
    else if error == wide_operand then codes "an operand is wider than its format"
    else if error == lacking_operation then codes "the machine does not have the operation"
    else if error == overlapping_arrays then codes "arrays overlap"
    else if error == wrong_control then codes "wrong control word"
    else codes "unknown error code"

-- the code 0 and the text of a code, or the error and the previous contents
abbrev pub IsTold : Bool → List ℕ → DecimalText → DecimalText → ℕ → Type 0
IsTold true written old new code = (code ≡ answered) × IsText written new
IsTold false written old new code = (code ≡ unknown_error) × (new ≡ old)

abbrev pub IsErrorText : ℕ → DecimalText → DecimalText → ℕ → Type 0
IsErrorText error old new code = IsTold (nat_le error greatest_code) (error_text error) old new code

-- 0.1.0
abbrev pub version : ℕ
version = 1000

-- the toolchain that proves the library
abbrev pub made_by : ℕ
made_by = 1
