-- A decimal text is read in one way: one code, and one result.
use Rattle.std.proofs.Common.{◌≡◌, ℕ, true, false, List, Option, None, Some, Ok, Err, sym, ◌∙◌, subst, inl, inr, lit<}
use Rattle.std.specs.Prelude.{IsTrue, is_some}
use Rattle.rustc_apfloat.specs.{declared.Round.Round, Flags.bits_of, Lawful.format_with, PairFormats.wide}
use Rattle.apfloat_model.specs.declared.parse_error.Fault.{Fault}
use Rattle.apfloat_model.proofs.Determined.{gives_once}
use Rattle.apfloat_pair_theory.proofs.calls.PairsDetermined.{pairs_determined}
use Rattle.apfloat_decimals.specs.DecimalTexts.{decimal_fault_of}
use Rattle.apfloat_decimals.proofs.spelled.OneReading.{decimal_reading_once, reading_no_fault}
use Rattle.apfloat_digits.proofs.of_double_doubles_lemmas.OneReading.{pair_decimal_reading_once}
use Rattle.formats_at_run_time.specs.{BuiltIns.kind_of, Relations.in_format, Relations.in_pairs}
use Rattle.formats_at_run_time.specs.ValueKinds.{Kind, of_format, of_pairs}
use Rattle.coded_calls.specs.{declared.data.Answer.Answer, OneReply.SameAnswer}
use Rattle.coded_calls.proofs.ExportsOnce.{KindHasLaw, built_in_kind_law, OnceAnswer, format_determined, unchanged}
use Rattle.coded_calls.proofs.ExportsOnce.{value_once}
use Rattle.apfloat_c.specs.Decimals.{IsDecimalAnswer, IsDecimalOutcome, IsReadInto}
use Rattle.apfloat_c.specs.OneAnswer.{IsParsedOnce}

-- a text has one result
decimal_answer_once : (kind : Kind) → KindHasLaw kind → (mode : Round) (text : List ℕ)
    → OnceAnswer (IsDecimalAnswer kind mode text)
decimal_answer_once (of_format c) has mode text =
    value_once (in_format c) mode c.precision c.bits has.wide
    (format_determined c has mode) _ (gives_once _ (decimal_reading_once (format_with c) mode text))
decimal_answer_once of_pairs has mode text =
    value_once in_pairs mode 106 128 (lit< tt) (pairs_determined mode) _
    (gives_once _ (pair_decimal_reading_once mode text))

-- a text with a result has no fault
answer_no_fault : (kind : Kind) (mode : Round) (text : List ℕ) (answer : Answer) → IsDecimalAnswer kind mode text answer
    → decimal_fault_of text ≡ None
answer_no_fault (of_format c) mode text answer x =
    reading_no_fault (format_with c) mode text x.given.value (bits_of x.given.status) x.holds
answer_no_fault of_pairs mode text answer x =
    reading_no_fault wide mode text x.holds.value (bits_of x.given.status) x.holds.is_value

never : false ≡ true → ⊥
never e = cc

-- a text is not both read and refused
read_or_refused : (kind : Kind) (mode : Round) (text : List ℕ) (answer : Answer)
    → IsDecimalOutcome kind mode text (Some answer) → IsDecimalOutcome kind mode text None → ⊥
read_or_refused kind mode text answer x y =
    never
    (subst (λ (fault : Option Fault). IsTrue (is_some fault)) (answer_no_fault kind mode text answer x.1) (y x.0))

read_answer_once : (kind : Kind) → KindHasLaw kind → (mode : Round) (text : List ℕ) (first second : Answer)
    → IsDecimalOutcome kind mode text (Some first) → IsDecimalOutcome kind mode text (Some second)
    → SameAnswer first second
read_answer_once kind has mode text a b x y = decimal_answer_once kind has mode text a b x.1 y.1

pub read_into_once : (kind : Kind) → KindHasLaw kind → (mode : Round) (text : List ℕ) (old first second : Answer)
    (code other : ℕ) → IsReadInto kind mode text old first code → IsReadInto kind mode text old second other
    → (code ≡ other) × SameAnswer first second
read_into_once kind has mode text old a b code other (inl x) (inl y) =
    (x.0 ∙ sym y.0, read_answer_once kind has mode text a b x.1 y.1)
read_into_once kind has mode text old a b code other (inl x) (inr y) =
    absurd (read_or_refused kind mode text a x.1 y.2)
read_into_once kind has mode text old a b code other (inr x) (inl y) =
    absurd (read_or_refused kind mode text b y.1 x.2)
read_into_once kind has mode text old a b code other (inr x) (inr y) =
    (x.0 ∙ sym y.0, unchanged old a b x.1 y.1)

pub parsed_once : IsParsedOnce
parsed_once (Err error) text old a b code other x y = (x.0 ∙ sym y.0, unchanged old a b x.1 y.1)
parsed_once (Ok known) text old a b code other x y =
    read_into_once (kind_of known.kind) (built_in_kind_law known.kind) known.mode text old a b code other x y
