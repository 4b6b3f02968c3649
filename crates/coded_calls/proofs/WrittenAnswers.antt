-- What calls leave, and the exponents of fractions.
use Rattle.std.proofs.Common.{◌≡◌, ℕ, Bool, true, false, List, None, Option, Some, refl, subst}
use Rattle.std.proofs.{Math.Path.subst₂, lemmas.Bool.and_right, lemmas.Bool.false≢true, lemmas.Bool.true≢false}
use Rattle.std.specs.Char.{is_ascii}
use Rattle.apfloat_model.specs.declared.parse_error.Fault.{Fault}
use Rattle.apfloat_model.proofs.texts.EachText.{no_fault_meaning}
use Rattle.rustc_apfloat.specs.{declared.Round.Round, Digits.every, Faults.fault_of, Datum.Datum}
use Rattle.rustc_apfloat.specs.{Formats.double_constants, Lawful.Constants, Lawful.IsLawful, Lawful.format_with}
use Rattle.rustc_apfloat.specs.{Members.IsMember, PairFormats.double, Pairs.Pair, Pairs.pair_of}
use Rattle.apfloat_pair_theory.proofs.pairs.PairBits.{double_is_lawful}
use Rattle.coded_calls.proofs.{ExponentWords.frexp_fits, MeaningfulTexts.meaningful_ascii}
use Rattle.coded_calls.specs.declared.{data.Answer.Answer, exported_call.ExportedCall.ExportedCall}
use Rattle.coded_calls.specs.declared.exported_call.ExportedCall.TheVariants.{Conversion, Fraction, FusedSum}
use Rattle.coded_calls.specs.KnownCalls.{answered, is_text, unless, without}
use Rattle.coded_calls.specs.Answers.{FractionFits, IsKindAnswer, IsLeft, IsLeftBy, IsReturned, IsTypeLeft}
use Rattle.formats_at_run_time.specs.Relations.{in_format, in_pairs}
use Rattle.formats_at_run_time.specs.ValueKinds.{Kind, of_format, of_pairs, value_of}

-- if the test holds, a call leaves the result
pub answered_if : (holds : Bool) (error : ℕ) (Holds : Answer → Type 0) (old answer : Answer)
    → holds ≡ true → Holds answer → IsLeftBy (unless holds error) Holds old answer answered
answered_if true error Holds old answer e h = (refl, h)
answered_if false error Holds old answer e h = absurd (false≢true e)

-- if the test does not hold, a call leaves the code of the error and the previous contents
pub refused_unless : (holds : Bool) (error : ℕ) (Holds : Answer → Type 0) (old : Answer)
    → holds ≡ false → IsLeftBy (unless holds error) Holds old old error
refused_unless true error Holds old e = absurd (true≢false e)
refused_unless false error Holds old e = (refl, refl)

-- bytes without a fault have a meaning, so they are ASCII, and a text
pub text_without_fault : (bytes : List ℕ) → fault_of bytes ≡ None → is_text bytes ≡ true
text_without_fault bytes none =
    let meant = no_fault_meaning bytes none in
    rw (meaningful_ascii bytes meant.0 meant.1, none) refl

-- bytes with a fault are not a text
pub text_with_fault : (bytes : List ℕ) (fault : Fault) → fault_of bytes ≡ Some fault → is_text bytes ≡ false
text_with_fault bytes fault some = and_right (every is_ascii bytes) _ (rw some refl)

-- what a call leaves in a known kind of values and a known mode is what the export leaves
pub left_returned : (fault : Option ℕ) (kind : Kind) (mode : Round) (call : ExportedCall) (old new : Answer) (code : ℕ)
    → IsLeftBy fault (IsKindAnswer kind mode call) old new code
    → IsReturned (without fault (record { kind = kind; mode = mode; call = call })) old new code
left_returned None kind mode call old new code left = left
left_returned (Some fault) kind mode call old new code left = left

-- what a call of every type leaves for a format is what a call in that format leaves
pub left_in_format : (constants : Constants) (mode : Round) (call : ExportedCall) (old new : Answer) (code : ℕ)
    → IsTypeLeft (in_format constants) mode call old new code
    → IsLeft (of_format constants) mode call old new code
left_in_format constants mode (FusedSum x y z) old new code left = absurd left.1
left_in_format constants mode (Conversion x target) old new code left = absurd left.1
left_in_format constants mode call old new code left = left

-- what a call of every type leaves for pairs is what a call in pairs leaves
pub left_in_pairs : (mode : Round) (call : ExportedCall) (old new : Answer) (code : ℕ)
    → IsTypeLeft in_pairs mode call old new code → IsLeft of_pairs mode call old new code
left_in_pairs mode (FusedSum x y z) old new code left = absurd left.1
left_in_pairs mode (Conversion x target) old new code left = absurd left.1
left_in_pairs mode call old new code left = left

-- of three equal data, a property of the ones is one of the others
pub replaced : {x y z a b d : Datum} (Holds : Datum → Datum → Datum → Type 0) → x ≡ a → y ≡ b → z ≡ d
    → Holds x y z → Holds a b d
replaced {x} {y} {z} {a} {b} {d} Holds x_is y_is z_is holds =
    subst (λ t. Holds a b t) z_is (subst₂ (λ t u. Holds t u z) x_is y_is holds)

-- ---- fractions

-- the exponent of the fraction of a value of a format fits in 32 bits, if a call asks for it
pub fraction_fits : (constants : Constants) → IsLawful constants → (call : ExportedCall) (x : ℕ) (value : Datum)
    → call ≡ Fraction x → value ≡ value_of constants x → IsMember (format_with constants) value
    → FractionFits (in_format constants) call
fraction_fits constants law call x value is_fraction read member =
    rw (is_fraction) (λ mode v e holds.
    frexp_fits constants law (value_of constants x) v e
    (subst (IsMember (format_with constants)) read member) holds)

-- the exponent of the fraction of a pair fits in 32 bits, if a call asks for it
pub pair_fraction_fits : (call : ExportedCall) (x : ℕ) (value : Pair)
    → call ≡ Fraction x → value ≡ pair_of x → IsMember double value.high
    → FractionFits in_pairs call
pair_fraction_fits call x value is_fraction read member =
    rw (is_fraction) (λ mode v e holds.
    frexp_fits double_constants double_is_lawful (pair_of x).high v.high e
    (subst (λ (p : Pair). IsMember double p.high) read member) holds.high_is)
