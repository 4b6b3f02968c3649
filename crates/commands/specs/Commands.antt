-- What the words of a command ask for, or the word of its refusal.
use Rattle.std.specs.Prelude.{ℕ, ◌^◌, Bool, false, true, not, ◌&&◌, ◌==◌, nat_lt, nat_le, if◌then◌else◌, List, [], ◌∷◌}
use Rattle.std.specs.Prelude.{length, take, drop, slice_index_or, codes, Option, Some, None, ok_or, Result, Ok, Err}
use Rattle.rustc_apfloat.specs.{declared.Round.Round, Digits.same, Digits.every, Digits.is_empty, Digits.is_hexadecimal}
use Rattle.rustc_apfloat.specs.{Digits.number, Faults.fault_of, Faults.words}
use Rattle.apfloat_model.specs.declared.{marks.Radix.TheVariants.Ten, parse_error.Fault.Fault}
use Rattle.apfloat_model.specs.texts.Specials.{number_of_digits}
use Rattle.formats_at_run_time.specs.{ValueKinds.Kind, ValueKinds.bits_in, BuiltIns.kind_of, Limits.fuses}
use Rattle.formats_at_run_time.specs.{Limits.multiplies, Modes.mode_named, OfTwo.has_operation}
use Rattle.formats_at_run_time.specs.declared.Arithmetic.{Arithmetic}
use Rattle.formats_at_run_time.specs.declared.Arithmetic.TheVariants.{Sum, Difference, Product, Quotient}
use Rattle.formats_at_run_time.specs.declared.Arithmetic.TheVariants.{NearestRemainder, TruncatedRemainder}
use Rattle.formats_at_run_time.specs.CommandKinds.{built_in_kind, command_kind_named}
use Rattle.commands.specs.declared.operation.Operation.{Operation}
use Rattle.commands.specs.declared.operation.Operation.TheVariants.{OfTwo, FusedSum, WholeNumber, Text}

-- ---- operations

abbrev pub operations : List (List ℕ × Operation)
operations =
    (codes "add", OfTwo Sum)
    ∷ (codes "sub", OfTwo Difference)
    ∷ (codes "mul", OfTwo Product)
    ∷ (codes "div", OfTwo Quotient)
    ∷ (codes "rem", OfTwo NearestRemainder)
    ∷ (codes "mod", OfTwo TruncatedRemainder)
    ∷ (codes "fma", FusedSum)
    ∷ (codes "int", WholeNumber)
    ∷ (codes "parse", Text)
    ∷ []

-- the entry of a table for a word
abbrev pub found : {A : Type 0} → List (List ℕ × A) → List ℕ → Option A
found [] word = None
found (row ∷ rows) word = if same word row.0 then Some row.1 else found rows word

abbrev pub operand_count : Operation → ℕ
operand_count (OfTwo arithmetic) = 2
operand_count FusedSum = 3
operand_count WholeNumber = 1
operand_count Text = 1

-- whether a type has the operation, given whether it has products; fused sums are not among the calls of every type
abbrev pub type_has : Bool → Operation → Bool
type_has multiplies (OfTwo arithmetic) = has_operation multiplies arithmetic
type_has multiplies FusedSum = false
type_has multiplies WholeNumber = true
type_has multiplies Text = true

-- whether a kind of values has the operation
abbrev pub has : Kind → Operation → Bool
has kind (OfTwo arithmetic) = type_has (multiplies kind) (OfTwo arithmetic)
has kind FusedSum = fuses kind
has kind WholeNumber = true
has kind Text = true

-- ---- operands

-- the bits that 1 to 32 hexadecimal digits spell, optionally after 0x, if they are below 2 ^ width
abbrev pub after_0x : List ℕ → List ℕ
after_0x word = if same (take 2 word) (codes "0x") then drop 2 word else word

abbrev pub are_bits : ℕ → List ℕ → Bool
are_bits width digits =
    not (is_empty digits) && nat_le (length digits) 32 && every is_hexadecimal digits && nat_lt (number 16 digits)
    (2 ^ width)

abbrev pub bits_of_digits : ℕ → List ℕ → Option ℕ
bits_of_digits width digits = if are_bits width digits then Some (number 16 digits) else None

abbrev pub bits_of_word : ℕ → List ℕ → Option ℕ
bits_of_word width word = bits_of_digits width (after_0x word)

-- the integer that decimal digits spell
abbrev pub whole_number_of : List ℕ → Option ℕ
whole_number_of word = number_of_digits Ten word

-- the word at a place, or an empty one
abbrev pub word_at : List (List ℕ) → ℕ → List ℕ
word_at words place = slice_index_or words place []

-- ---- what is asked

-- an operation with what its operands say: bits, a number, or a text
pub data Calculation : Type 0 where
  of_two : Arithmetic → ℕ → ℕ → Calculation
  fused_sum : ℕ → ℕ → ℕ → Calculation
  from_whole_number : ℕ → Calculation
  from_text : List ℕ → Calculation

pub record Command : Type 0 where
  pub kind : Kind
  pub mode : Round
  pub calculation : Calculation

-- Each of the following is a command or the word of the first fault. The order of faults: the number of words, the
-- format, the operation, the mode, the number of operands, an operation that the format does not have, an operand.

infixl 10 ◌>>=◌
abbrev pub ◌>>=◌ : {A B : Type 0} → Result A (List ℕ) → (A → Result B (List ℕ)) → Result B (List ℕ)
(Ok x) >>= next = next x
(Err word) >>= next = Err word

abbrev pub provided : {A : Type 0} → Bool → List ℕ → Result A (List ℕ) → Result A (List ℕ)
provided holds word wanted = if holds then wanted else Err word

abbrev pub arguments : List ℕ
arguments = codes "arguments"

abbrev pub with_bits : ℕ → List ℕ → Result ℕ (List ℕ)
with_bits width word = ok_or (bits_of_word width word) word

abbrev pub with_two : ℕ → Arithmetic → List ℕ → List ℕ → Result Calculation (List ℕ)
with_two width arithmetic left right =
    with_bits width left >>= λ x. with_bits width right >>= λ y. Ok (of_two arithmetic x y)

abbrev pub with_three : ℕ → List ℕ → List ℕ → List ℕ → Result Calculation (List ℕ)
with_three width left right addend =
    with_bits width left >>= λ x. with_bits width right >>= λ y. with_bits width addend >>= λ z.
    Ok (fused_sum x y z)

abbrev pub with_whole_number : List ℕ → Result Calculation (List ℕ)
with_whole_number word = ok_or (whole_number_of word) word >>= λ n. Ok (from_whole_number n)

-- a text, or the words of its first fault
abbrev pub without_fault : Option Fault → List ℕ → Result Calculation (List ℕ)
without_fault None text = Ok (from_text text)
without_fault (Some fault) text = Err (words fault)

abbrev pub with_text : List ℕ → Result Calculation (List ℕ)
with_text text = without_fault (fault_of text) text

-- the calculation for these operands, if values have `width` bits
abbrev pub with_operands : ℕ → Operation → List (List ℕ) → Result Calculation (List ℕ)
with_operands width (OfTwo arithmetic) operands =
    with_two width arithmetic (word_at operands 0) (word_at operands 1)
with_operands width FusedSum operands =
    with_three width (word_at operands 0) (word_at operands 1) (word_at operands 2)
with_operands width WholeNumber operands = with_whole_number (word_at operands 0)
with_operands width Text operands = with_text (word_at operands 0)

-- an operation on its operands, which a kind of values has; `name` is the word of the operation
abbrev pub calculation : Kind → Operation → List ℕ → List (List ℕ) → Result Calculation (List ℕ)
calculation kind operation name operands =
    provided (has kind operation) name (with_operands (bits_in kind) operation operands)

abbrev pub commanded : Kind → Round → Result Calculation (List ℕ) → Result Command (List ℕ)
commanded kind mode wanted = wanted >>= λ known. Ok (record { kind = kind; mode = mode; calculation = known })

-- the operation and the mode that two words name, for a number of operands
abbrev pub named : List ℕ → List ℕ → ℕ → Result (Operation × Round) (List ℕ)
named operation mode count =
    ok_or (found operations operation) operation >>= λ known.
    ok_or (mode_named mode) mode >>= λ rounding.
    provided (count == operand_count known) arguments (Ok (known, rounding))

-- the command for a kind of values
abbrev pub with_operation : Kind → List ℕ → List ℕ → List (List ℕ) → Result Command (List ℕ)
with_operation kind operation mode operands =
    named operation mode (length operands) >>= λ both.
    commanded kind both.1 (calculation kind both.0 operation operands)

abbrev pub with_format : List ℕ → List ℕ → List ℕ → List (List ℕ) → Result Command (List ℕ)
with_format format operation mode operands =
    ok_or (command_kind_named format) format
    >>= λ kind. with_operation (kind_of (built_in_kind kind)) operation mode operands

-- the command that words give: those after the program's own name
abbrev pub command_of : List (List ℕ) → Result Command (List ℕ)
command_of given =
    provided (nat_le 4 (length given) && nat_le (length given) 6) arguments
    (with_format (word_at given 0) (word_at given 1) (word_at given 2) (drop 3 given))
