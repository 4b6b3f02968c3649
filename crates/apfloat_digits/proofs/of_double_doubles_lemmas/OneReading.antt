-- A text is read as one pair.
use Rattle.std.proofs.Common.{ℕ, sym, ◌∙◌, List, Ok, Err}
use Rattle.std.proofs.lemmas.Option.{none-some}
use Rattle.apfloat_model.specs.{declared.kinds.Round.Round, rounding.Flags.bits_of}
use Rattle.apfloat_model.proofs.Determined.{same_answer}
use Rattle.apfloat_pair_theory.specs.{PairFormats.wide, PairAnswers.OncePair, Pairs.Pair}
use Rattle.apfloat_pair_theory.proofs.calls.PairsOnce.{split_answer_once}
use Rattle.apfloat_decimals.specs.DecimalTexts.{IsDecimalReading, IsDecimalRefusal}
use Rattle.apfloat_decimals.proofs.spelled.OneReading.{decimal_reading_once, decimal_refusal_once, reading_no_fault}
use Rattle.apfloat_digits.specs.of_double_doubles.{OneReading.IsPairReadOnce, PairReadings.IsPairDecimalReading}

-- a text has one pair and one status
pub pair_decimal_reading_once : (mode : Round) (text : List ℕ) → OncePair (IsPairDecimalReading mode text)
pair_decimal_reading_once mode text =
    split_answer_once (IsDecimalReading wide mode text) (decimal_reading_once wide mode text)

-- a text is not both read and refused
reading_or_refusal : (mode : Round) (text said : List ℕ) (value : Pair) (status : ℕ)
    → IsPairDecimalReading mode text value status → IsDecimalRefusal text said → ⊥
reading_or_refusal mode text said value status x y =
    none-some y.fault (sym (reading_no_fault wide mode text x.value status x.is_value) ∙ y.is_first)

pub pair_read_once : IsPairReadOnce
pair_read_once mode text (Ok r) (Ok s) x y =
    let same = pair_decimal_reading_once mode text r.value s.value (bits_of r.status) (bits_of s.status) x y in
    same_answer r s same.0 same.1
pair_read_once mode text (Ok r) (Err e) x y = reading_or_refusal mode text e.0.now r.value (bits_of r.status) x y
pair_read_once mode text (Err e) (Ok r) x y = reading_or_refusal mode text e.0.now r.value (bits_of r.status) y x
pair_read_once mode text (Err e) (Err d) x y = decimal_refusal_once text e.0.now d.0.now x y
