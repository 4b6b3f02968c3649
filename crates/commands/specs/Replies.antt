-- The reply to a command, and how it is written.
use Rattle.std.specs.{List.join_with_byte, Int.RustNames.bit_and, Io.KnownBytes.Appends}
use Rattle.std.specs.Prelude.{◌≡◌, ℕ, zero, suc, ◌+◌, ◌/◌, ◌%◌, ◌^◌, Bool, not, ◌==◌, nat_lt, if◌then◌else◌, List, []}
use Rattle.std.specs.Prelude.{◌∷◌, ◌++◌, filter, map, codes, Option, Result, Ok, Err}
use Rattle.std.specs.declared.io.ErrorKind.{ErrorKind, TheVariants.OutOfMemory}
use Rattle.rustc_apfloat.specs.{declared.Round.Round, declared.StatusAnd.StatusAnd, Flags.Gives, Flags.bits_of}
use Rattle.rustc_apfloat.specs.{Datum.Datum, FusedSums.IsFusedSum, Lawful.Constants, Lawful.format_with}
use Rattle.commands.specs.declared.reply.Reply as program
use Rattle.formats_at_run_time.specs.ValueKinds.{Kind, bits_in, of_format, of_pairs, value_of}
use Rattle.formats_at_run_time.specs.{OfTwo.IsOfTwo, Relations.Relations, Relations.in_format, Relations.in_pairs}
use Rattle.commands.specs.Commands.{Calculation, of_two, fused_sum, from_whole_number, from_text, Command, command_of}

-- bits with the number of their hexadecimal digits and the flags, or the word of a refusal
pub data Reply : Type 0 where
  line : ℕ → ℕ → ℕ → Reply
  refused : List ℕ → Reply

-- from the type of the program
abbrev pub reply_of : program.Reply → Reply
reply_of (program.TheVariants.Line bits digits status) = line bits digits (bits_of status)
reply_of (program.TheVariants.Refused word) = refused word.now

abbrev pub digit_count : Reply → ℕ
digit_count (line bits digits status) = digits
digit_count (refused word) = 0

-- ---- the reply in a type of values

-- the result of a calculation; a fused sum, which not every type has, has none
abbrev pub IsResult : {A : Type 0} → Relations A → Round → Calculation → StatusAnd A → Type 0
IsResult of_type mode (of_two arithmetic x y) answer =
    IsOfTwo of_type arithmetic mode (of_type.meaning.value_of_bits x) (of_type.meaning.value_of_bits y) answer
IsResult of_type mode (fused_sum x y z) answer = ⊥
IsResult of_type mode (from_whole_number n) answer = of_type.meaning.converts_unsigned n mode answer
IsResult of_type mode (from_text text) answer = of_type.meaning.reads text mode (Ok answer)

-- the bits of a value, and its status
pub record IsLineOf {A : Type 0} (of_type : Relations A) (width : ℕ) (answer : StatusAnd A)
    (reply : Reply) : Type 0 where
  pub bits : ℕ
  pub is_encoded : of_type.meaning.writes_bits answer.value bits
  pub is : reply ≡ line bits (width / 4) (bits_of answer.status)

-- the line of a result for which the relation holds
pub record IsLineWhere {A : Type 0} (of_type : Relations A) (width : ℕ) (Holds : StatusAnd A → Type 0)
    (reply : Reply) : Type 0 where
  pub answer : StatusAnd A
  pub answers : Holds answer
  pub is_line : IsLineOf of_type width answer reply

-- the reply to a calculation, or a refusal
abbrev pub IsReplyIn : {A : Type 0} → Relations A → ℕ → Round → Result Calculation (List ℕ)
    → Reply → Type 0
IsReplyIn of_type width mode (Ok calculation) reply =
    IsLineWhere of_type width (IsResult of_type mode calculation) reply
IsReplyIn of_type width mode (Err word) reply = reply ≡ refused word

-- ---- the reply in any kind of values

-- the result in a format, which may have fused sums
abbrev pub IsFormatResult : Constants → Round → Calculation → StatusAnd Datum → Type 0
IsFormatResult c mode (of_two arithmetic x y) answer = IsResult (in_format c) mode (of_two arithmetic x y) answer
IsFormatResult c mode (fused_sum x y z) answer =
    Gives (IsFusedSum (format_with c) mode (value_of c x) (value_of c y) (value_of c z)) answer
IsFormatResult c mode (from_whole_number n) answer = IsResult (in_format c) mode (from_whole_number n) answer
IsFormatResult c mode (from_text text) answer = IsResult (in_format c) mode (from_text text) answer

abbrev pub IsFormatReply : Constants → Round → Result Calculation (List ℕ) → Reply → Type 0
IsFormatReply c mode (Ok calculation) reply =
    IsLineWhere (in_format c) c.bits (IsFormatResult c mode calculation) reply
IsFormatReply c mode (Err word) reply = reply ≡ refused word

abbrev pub IsCalculated : Kind → Round → Calculation → Reply → Type 0
IsCalculated (of_format c) mode calculation reply =
    IsLineWhere (in_format c) c.bits (IsFormatResult c mode calculation) reply
IsCalculated of_pairs mode calculation reply =
    IsLineWhere in_pairs (bits_in of_pairs) (IsResult in_pairs mode calculation) reply

abbrev pub IsReplyTo : Result Command (List ℕ) → Reply → Type 0
IsReplyTo (Err word) reply = reply ≡ refused word
IsReplyTo (Ok command) reply = IsCalculated command.kind command.mode command.calculation reply

-- the reply to a command
abbrev pub IsReply : List (List ℕ) → Reply → Type 0
IsReply words reply = IsReplyTo (command_of words) reply

-- the statement holds of this reply and of no other
pub record IsOnly (Holds : Reply → Type 0) (reply : Reply) : Type 0 where
  pub holds : Holds reply
  pub only : (other : Reply) → Holds other → other ≡ reply

-- ---- what is written

-- 0 to 9, a to f
abbrev pub hexadecimal_digit : ℕ → ℕ
hexadecimal_digit d = if nat_lt d 10 then 48 + d else 87 + d

-- the last `digits` hexadecimal digits of a number
unfoldable pub hexadecimal_text : ℕ → ℕ → List ℕ
hexadecimal_text n zero = []
hexadecimal_text n (suc place) = hexadecimal_digit (n / 16 ^ place % 16) ∷ hexadecimal_text n place

-- the flags in the order of their bits (IEEE 754-2019 7.1)
abbrev pub flags : List (List ℕ × ℕ)
flags =
    (codes "INVALID_OP", 1)
    ∷ (codes "DIV_BY_ZERO", 2)
    ∷ (codes "OVERFLOW", 4)
    ∷ (codes "UNDERFLOW", 8)
    ∷ (codes "INEXACT", 16)
    ∷ []

abbrev pub is_raised : ℕ → List ℕ × ℕ → Bool
is_raised status flag = not (bit_and status flag.1 == 0)

-- the names of the flags in a table that a status has
abbrev pub raised_names : ℕ → List (List ℕ × ℕ) → List (List ℕ)
raised_names status table = map (λ (flag : List ℕ × ℕ). flag.0) (filter (is_raised status) table)

abbrev pub bar : ℕ
bar = 124

abbrev pub status_text : ℕ → List ℕ
status_text status = if status == 0 then codes "OK" else join_with_byte bar (raised_names status flags)

abbrev pub line_text : ℕ → ℕ → ℕ → List ℕ
line_text bits digits status = hexadecimal_text bits digits ++ codes " " ++ status_text status ++ codes "\n"

abbrev pub refusal_text : List ℕ → List ℕ
refusal_text word = codes "refused: " ++ word ++ codes "\n"

-- the text written to standard output, and to standard error
abbrev pub written_out : Reply → List ℕ
written_out (line bits digits status) = line_text bits digits status
written_out (refused word) = []

abbrev pub written_err : Reply → List ℕ
written_err (line bits digits status) = []
written_err (refused word) = refusal_text word

abbrev pub exit_status : Reply → ℕ
exit_status (line bits digits status) = 0
exit_status (refused word) = 2

-- the result of a run if no write failed: the text of the only reply on its two writers, and the exit status
pub record IsRun (command : List (List ℕ)) (out out' err err' : Option (List ℕ)) (status : ℕ) : Type 0 where
  pub reply : Reply
  pub is_reply : IsOnly (IsReply command) reply
  pub wrote_out : Appends out out' (written_out reply)
  pub wrote_err : Appends err err' (written_err reply)
  pub status_is : status ≡ exit_status reply

-- the result of a run if there was no memory for its words and no write failed
pub record IsMemoryRefused (kind : ErrorKind) (err err' : Option (List ℕ)) (status : ℕ) : Type 0 where
  pub kind_is : kind ≡ OutOfMemory
  pub wrote_err : Appends err err' (refusal_text (codes "memory"))
  pub status_is : status ≡ 3

-- the only reply to a command is written as this line
pub record IsReplied (command : List (List ℕ)) (text : List ℕ) : Type 0 where
  pub reply : Reply
  pub is_reply : IsOnly (IsReply command) reply
  pub is_line : written_out reply ++ written_err reply ≡ text ++ codes "\n"
