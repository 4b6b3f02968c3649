-- Calls that round nothing and raise no flag: signs, minima and maxima, and NaNs.
use Rattle.std.specs.Prelude.{◌≡◌, ℕ, ◌==◌, pos, Bool, not, if◌then◌else◌, Option, Some, None}
use Rattle.std.specs.declared.cmp.Ordering.{Ordering}
use Rattle.rustc_apfloat.specs.Meaning.{Meaning}
use Rattle.rustc_apfloat.specs.Predicates.{max_by, maximum_by, min_by, minimum_by, signed_like}
use Rattle.formats_at_run_time.specs.declared.BuiltInKind.{BuiltInKind}
use Rattle.formats_at_run_time.specs.declared.BuiltInKind.TheVariants.{OfFormat as OfBuiltIn, Pairs as PairsOfDoubles}
use Rattle.formats_at_run_time.specs.declared.FlaggedKind.{FlaggedKind, TheVariants.OfFormat, TheVariants.Pairs}
use Rattle.formats_at_run_time.specs.{BuiltIns.kind_of, FlaggedKinds.format_without_rule, Relations.in_format}
use Rattle.formats_at_run_time.specs.{Relations.in_pairs, ValueKinds.Kind, ValueKinds.of_format, ValueKinds.of_pairs}
use Rattle.coded_calls.specs.declared.{data.Answer.Answer, flagless_call.FlaglessCall.FlaglessCall}
use Rattle.coded_calls.specs.declared.flagless_call.FlaglessCall.TheVariants.{Negation, AbsoluteValue, SignCopy}
use Rattle.coded_calls.specs.declared.flagless_call.FlaglessCall.TheVariants.{LesserNumber, GreaterNumber, Minimum}
use Rattle.coded_calls.specs.declared.flagless_call.FlaglessCall.TheVariants.{Maximum, QuietNan, SignalingNan, SignTest}
use Rattle.coded_calls.specs.Answers.{IsNumberAlone, one_if, whole}
use Rattle.coded_calls.specs.KnownCalls.{answered, unknown_format}

-- ---- results

-- a word of C as a truth value
abbrev pub is_set : ℕ → Bool
is_set word = not (word == 0)

abbrev pub signed : {A : Type 0} → (A → A) → Bool → A → A
signed opposite negative x = if negative then opposite x else x

-- the bits of a value; the flags and the field `number` are 0
pub record IsFlagless {A : Type 0} (meaning : Meaning A) (value : A) (answer : Answer) : Type 0 where
  pub is_encoded : meaning.writes_bits value (whole answer.bits)
  pub status_is : answer.status ≡ 0
  pub number_is : answer.number ≡ pos 0

abbrev pub IsFlaglessAnswer : {A : Type 0} → Meaning A → (order : A → A → Option Ordering) → FlaglessCall
    → Answer → Type 0
IsFlaglessAnswer m order (Negation x) answer = IsFlagless m (m.negated (m.value_of_bits x)) answer
IsFlaglessAnswer m order (AbsoluteValue x) answer =
    let value = m.value_of_bits x in
    IsFlagless m (signed m.negated (m.sign_of value) value) answer
IsFlaglessAnswer m order (SignCopy x y) answer =
    IsFlagless m (signed_like m.sign_of m.negated (m.value_of_bits x) (m.value_of_bits y)) answer
IsFlaglessAnswer m order (LesserNumber x y) answer =
    IsFlagless m (min_by m.category_of order (m.value_of_bits x) (m.value_of_bits y)) answer
IsFlaglessAnswer m order (GreaterNumber x y) answer =
    IsFlagless m (max_by m.category_of order (m.value_of_bits x) (m.value_of_bits y)) answer
IsFlaglessAnswer m order (Minimum x y) answer =
    IsFlagless m (minimum_by m.category_of m.sign_of order (m.value_of_bits x) (m.value_of_bits y)) answer
IsFlaglessAnswer m order (Maximum x y) answer =
    IsFlagless m (maximum_by m.category_of m.sign_of order (m.value_of_bits x) (m.value_of_bits y)) answer
IsFlaglessAnswer m order (QuietNan negative payload) answer =
    IsFlagless m (signed m.negated negative (m.quiet_nan_of payload)) answer
IsFlaglessAnswer m order (SignalingNan negative payload) answer =
    IsFlagless m (signed m.negated negative (m.signaling_nan_of payload)) answer
IsFlaglessAnswer m order (SignTest x) answer = IsNumberAlone (λ n. n ≡ one_if (m.sign_of (m.value_of_bits x))) answer

abbrev pub IsFlaglessKindAnswer : Kind → FlaglessCall → Answer → Type 0
IsFlaglessKindAnswer (of_format c) call answer =
    IsFlaglessAnswer (in_format c).meaning (in_format c).order call answer
IsFlaglessKindAnswer of_pairs call answer = IsFlaglessAnswer in_pairs.meaning in_pairs.order call answer

-- ---- replies

-- no rule of flags changes a value
abbrev pub kind_without_rule : FlaggedKind → BuiltInKind
kind_without_rule (OfFormat format) = OfBuiltIn (format_without_rule format)
kind_without_rule Pairs = PairsOfDoubles

-- the code 0 and the result, or the error for an unknown format and the previous contents
abbrev pub IsFlaglessReply : Option FlaggedKind → FlaglessCall → Answer → Answer → ℕ → Type 0
IsFlaglessReply None call old new code = (code ≡ unknown_format) × (new ≡ old)
IsFlaglessReply (Some kind) call old new code =
    (code ≡ answered) × IsFlaglessKindAnswer (kind_of (kind_without_rule kind)) call new
