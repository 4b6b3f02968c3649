-- A calculation has only one reply.
use Rattle.std.proofs.Common.{◌≡◌, ◌≤◌, ℕ, ◌/◌, false, List, Some, None, Result, Ok, Err, nat_le}
use Rattle.std.proofs.Common.{refl, sym, ap, ◌∙◌, subst}
use Rattle.std.proofs.{Math.Path.subst₂, Math.Path.subst₃, lemmas.Bool.le-leb}
use Rattle.rustc_apfloat.specs.declared.{Round.Round, StatusAnd.StatusAnd}
use Rattle.rustc_apfloat.specs.{Determined.Determines, Faults.fault_of, Flags.Gives, Flags.bits_of, Datum.Datum}
use Rattle.rustc_apfloat.specs.FusedSums.{IsFusedSum, fused_limit}
use Rattle.rustc_apfloat.specs.{Lawful.Constants, Lawful.format_with, Meaning.AreDetermined, Readings.IsRefusal}
use Rattle.apfloat_model.proofs.{Once.fused_sum_once, Determined.gives_once}
use Rattle.formats_at_run_time.specs.{declared.Arithmetic.Arithmetic, Limits.multiplies, OfTwo.IsOfTwo}
use Rattle.formats_at_run_time.specs.Relations.{Relations, in_format, in_pairs}
use Rattle.formats_at_run_time.specs.ValueKinds.{bits_in, of_format, of_pairs, value_of}
use Rattle.formats_at_run_time.proofs.OfTwoOnce.{of_two_once}
use Rattle.commands.specs.declared.operation.Operation.{Operation}
use Rattle.commands.specs.declared.operation.Operation.TheVariants.{OfTwo, FusedSum, WholeNumber, Text}
use Rattle.commands.specs.Commands.{Calculation, of_two, fused_sum, from_whole_number, from_text, bits_of_word}
use Rattle.commands.specs.Commands.{calculation, commanded, provided, type_has, whole_number_of, word_at, with_operands}
use Rattle.commands.specs.Commands.{with_text, with_three, with_two, with_whole_number}
use Rattle.commands.specs.Replies.{Reply, line, refused, IsFormatReply, IsFormatResult, IsLineOf, IsLineWhere, IsOnly}
use Rattle.commands.specs.Replies.{IsReplyIn, IsReplyTo, IsResult}

-- ---- one line

-- the line of a result is the only one
pub only_line : {A : Type 0} (of_type : Relations A) (answer : StatusAnd A) (bits shown width : ℕ)
    → of_type.meaning.writes_bits answer.value bits → Determines (of_type.meaning.writes_bits answer.value)
    → shown ≡ width → IsOnly (IsLineOf of_type width answer) (line bits (shown / 4) (bits_of answer.status))
only_line of_type answer bits shown width written once shown_is =
    let status = bits_of answer.status in
    let digits = ap (λ (w : ℕ). line bits (w / 4) status) shown_is in
    record {
      holds = record { bits = bits; is_encoded = written; is = digits };
      only = λ other h.
          h.is ∙ ap (λ (b : ℕ). line b (width / 4) status) (once h.bits bits h.is_encoded written) ∙ sym digits;
    }

-- the line of the only result is the only reply
only_where : {A : Type 0} (of_type : Relations A) (width : ℕ) (Holds : StatusAnd A → Type 0) (answer : StatusAnd A)
    (reply : Reply) → Determines Holds → Holds answer → IsOnly (IsLineOf of_type width answer) reply
    → IsOnly (IsLineWhere of_type width Holds) reply
only_where {A} of_type width Holds answer reply once answers is_line = record {
  holds = record { answer = answer; answers = answers; is_line = is_line.holds };
  only = λ other h.
      let same = once h.answer answer h.answers answers in
      is_line.only other (subst (λ (a : StatusAnd A). IsLineOf of_type width a other) same h.is_line);
}

-- ---- the reply to operands, in a type of values

-- an operation on two values has one reply
pub only_of_two : {A : Type 0} (of_type : Relations A) (mode : Round) (precision width : ℕ)
    (arithmetic : Arithmetic) (left right : List ℕ) (x y : ℕ) (a b : A) (answer : StatusAnd A) (reply : Reply)
    → AreDetermined of_type.meaning mode precision width → bits_of_word width left ≡ Some x
    → bits_of_word width right ≡ Some y → a ≡ of_type.meaning.value_of_bits x → b ≡ of_type.meaning.value_of_bits y
    → IsOfTwo of_type arithmetic mode a b answer → IsOnly (IsLineOf of_type width answer) reply
    → IsOnly (IsReplyIn of_type width mode (with_two width arithmetic left right)) reply
only_of_two {A} of_type mode precision width arithmetic left right x y a b answer reply once first second a_is
    b_is answers is_line =
    let of_both = subst₂ (λ (d : A) (e : A). IsOfTwo of_type arithmetic mode d e answer) a_is b_is answers in
    rw (first, second)
    (only_where of_type width (IsResult of_type mode (of_two arithmetic x y)) answer reply
    (of_two_once of_type mode precision width once arithmetic _ _) of_both is_line)

-- the conversion of an integer has one reply
pub only_whole_number : {A : Type 0} (of_type : Relations A)
    (mode : Round) (precision width : ℕ) (word : List ℕ) (number : ℕ) (answer : StatusAnd A) (reply : Reply)
    → AreDetermined of_type.meaning mode precision width → whole_number_of word ≡ Some number
    → of_type.meaning.converts_unsigned number mode answer → IsOnly (IsLineOf of_type width answer) reply
    → IsOnly (IsReplyIn of_type width mode (with_whole_number word)) reply
only_whole_number of_type mode precision width word number answer reply once read answers is_line =
    rw (read)
    (only_where of_type width (IsResult of_type mode (from_whole_number number)) answer reply
    (once.of_unsigned number) answers is_line)

-- a text without a fault has one reply
pub only_text : {A : Type 0} (of_type : Relations A) (mode : Round) (precision width : ℕ)
    (text : List ℕ) (answer : StatusAnd A) (reply : Reply) → AreDetermined of_type.meaning mode precision width
    → fault_of text ≡ None → of_type.meaning.reads text mode (Ok answer) → IsOnly (IsLineOf of_type width answer) reply
    → IsOnly (IsReplyIn of_type width mode (with_text text)) reply
only_text of_type mode precision width text answer reply once none answers is_line =
    rw (none)
    (only_where of_type width (IsResult of_type mode (from_text text)) answer reply
    (λ a b h k. once.reading text (Ok a) (Ok b) h k) answers is_line)

-- the only reply to a text with a fault is its refusal
pub only_refusal : {A : Type 0} (of_type : Relations A) (mode : Round) (width : ℕ) (text word : List ℕ)
    → IsRefusal text word → IsOnly (IsReplyIn of_type width mode (with_text text)) (refused word)
only_refusal of_type mode width text word refusal =
    rw (refusal.is_first, refusal.says) (record { holds = refl; only = λ other h. h })

-- ---- the reply to operands, in a format

-- a fused sum has one reply
pub only_fused_sum : (constants : Constants) (mode : Round) (left right addend : List ℕ) (x y z : ℕ)
    (left_value right_value addend_value : Datum) (answer : StatusAnd Datum) (reply : Reply)
    → bits_of_word constants.bits left ≡ Some x → bits_of_word constants.bits right ≡ Some y
    → bits_of_word constants.bits addend ≡ Some z → left_value ≡ value_of constants x
    → right_value ≡ value_of constants y → addend_value ≡ value_of constants z
    → Gives (IsFusedSum (format_with constants) mode left_value right_value addend_value) answer
    → IsOnly (IsLineOf (in_format constants) constants.bits answer) reply
    → IsOnly (IsFormatReply constants mode (with_three constants.bits left right addend)) reply
only_fused_sum constants mode left right addend x y z a b d answer reply first second third a_is b_is d_is answers
    is_line =
    let of_all = subst₃
    (λ (e : Datum) (f : Datum) (g : Datum). Gives (IsFusedSum (format_with constants) mode e f g) answer)
    a_is b_is d_is answers in
    rw (first, second, third)
    (only_where (in_format constants) constants.bits (IsFormatResult constants mode (fused_sum x y z)) answer reply
    (gives_once _ (fused_sum_once (format_with constants) mode (value_of constants x) (value_of constants y)
    (value_of constants z))) of_all is_line)

-- ---- the reply in any kind of values

-- a reply for any type is a reply for a format
only_of_format : (constants : Constants) (mode : Round) (wanted : Result Calculation (List ℕ)) (reply : Reply)
    → IsOnly (IsReplyIn (in_format constants) constants.bits mode wanted) reply
    → IsOnly (IsReplyTo (commanded (of_format constants) mode wanted)) reply
only_of_format constants mode (Ok (of_two arithmetic x y)) reply only = only
only_of_format constants mode (Ok (fused_sum x y z)) reply only = absurd only.holds.answers
only_of_format constants mode (Ok (from_whole_number n)) reply only = only
only_of_format constants mode (Ok (from_text text)) reply only = only
only_of_format constants mode (Err word) reply only = only

-- a reply that may be a fused sum is a reply for a format
only_fused_of_format : (constants : Constants) (mode : Round) (wanted : Result Calculation (List ℕ)) (reply : Reply)
    → IsOnly (IsFormatReply constants mode wanted) reply
    → IsOnly (IsReplyTo (commanded (of_format constants) mode wanted)) reply
only_fused_of_format constants mode (Ok known) reply only = only
only_fused_of_format constants mode (Err word) reply only = only

-- the reply to a fused sum, in a format that has it
pub only_fused : (constants : Constants) (mode : Round) (operation : Operation) (name : List ℕ)
    (operands : List (List ℕ)) (left right addend : List ℕ) (reply : Reply)
    → operation ≡ FusedSum → constants.precision ≤ fused_limit
    → left ≡ word_at operands 0 → right ≡ word_at operands 1 → addend ≡ word_at operands 2
    → IsOnly (IsFormatReply constants mode (with_three constants.bits left right addend)) reply
    → IsOnly (IsReplyTo (commanded (of_format constants) mode
    (calculation (of_format constants) operation name operands))) reply
only_fused constants mode operation name operands left right addend reply is_fused within first second third only =
    let of_words = subst₃
    (λ (a b c : List ℕ). IsOnly (IsFormatReply constants mode (with_three constants.bits a b c)) reply)
    first second third only in
    rw (is_fused, le-leb _ _ within) (only_fused_of_format constants mode _ reply of_words)

-- a reply for any type is a reply for pairs
only_of_pairs : (mode : Round) (wanted : Result Calculation (List ℕ)) (reply : Reply)
    → IsOnly (IsReplyIn in_pairs (bits_in of_pairs) mode wanted) reply
    → IsOnly (IsReplyTo (commanded of_pairs mode wanted)) reply
only_of_pairs mode (Ok known) reply only = only
only_of_pairs mode (Err word) reply only = only

-- the only reply for pairs of doubles
pub only_in_pairs : (mode : Round) (operation : Operation) (name : List ℕ) (operands : List (List ℕ)) (reply : Reply)
    → IsOnly (IsReplyIn in_pairs (bits_in of_pairs) mode
    (provided (type_has (multiplies of_pairs) operation) name (with_operands (bits_in of_pairs) operation operands)))
    reply → IsOnly (IsReplyTo (commanded of_pairs mode (calculation of_pairs operation name operands))) reply
only_in_pairs mode (OfTwo arithmetic) name operands reply only = only_of_pairs mode _ reply only
only_in_pairs mode FusedSum name operands reply only = only
only_in_pairs mode WholeNumber name operands reply only = only_of_pairs mode _ reply only
only_in_pairs mode Text name operands reply only = only_of_pairs mode _ reply only

-- the only reply for a format, to an operation that every type has
pub only_in_format : (constants : Constants) (mode : Round) (operation : Operation) (name : List ℕ)
    (operands : List (List ℕ)) (reply : Reply) → (operation ≡ FusedSum → nat_le constants.precision fused_limit ≡ false)
    → IsOnly (IsReplyIn (in_format constants) constants.bits mode
    (provided (type_has (multiplies (of_format constants)) operation) name
    (with_operands constants.bits operation operands))) reply → IsOnly (IsReplyTo (commanded (of_format constants) mode
    (calculation (of_format constants) operation name operands))) reply
only_in_format constants mode (OfTwo arithmetic) name operands reply lacks only =
    only_of_format constants mode _ reply only
only_in_format constants mode FusedSum name operands reply lacks only = rw (lacks refl) only
only_in_format constants mode WholeNumber name operands reply lacks only = only_of_format constants mode _ reply only
only_in_format constants mode Text name operands reply lacks only = only_of_format constants mode _ reply only
