-- What an export leaves is determined by its arguments: one code, and one result.
use Rattle.std.proofs.Common.{◌≡◌, ℕ, ◌<◌, lit<, Bool, Option, Some, None, Ok, refl, sym, ap, ◌∙◌, subst}
use Rattle.std.specs.{Int.w128, Int.cast_unsigned, Prelude.ℤ, Prelude.⊤}
use Rattle.rustc_apfloat.specs.{declared.Round.Round, declared.StatusAnd.StatusAnd, Datum.Datum, Flags.bits_of}
use Rattle.rustc_apfloat.specs.{Meaning.AreDetermined, Determined.Determines, Determined.DeterminesBoth, Roots.IsRoot}
use Rattle.rustc_apfloat.specs.{PairFormats.wide, Pairs.Pair, PairAnswers.OncePair, PairRoots.IsPairRoot}
use Rattle.rustc_apfloat.specs.Lawful.{Constants, format_with, layout_with}
use Rattle.apfloat_model.proofs.Determined.{determined, gives_once, same_answer, scale_some}
use Rattle.apfloat_model.proofs.bits.Encodings.{lawful_interchange}
use Rattle.apfloat_model.proofs.Once.{OnceWith, conversion_once, fused_sum_once, root_once}
use Rattle.apfloat_pair_theory.proofs.calls.{PairsDetermined.pairs_determined, PairsOnce.wide_answer_once}
use Rattle.coded_calls.specs.{OneReply.SameAnswer, KnownCalls.fault_in, KnownCalls.known_call, KnownCalls.without}
use Rattle.coded_calls.specs.declared.{data.Answer.Answer, exported_call.ExportedCall.ExportedCall}
use Rattle.coded_calls.specs.declared.exported_call.ExportedCall.TheVariants.{OfTwo, FusedSum, SquareRoot, FromUnsigned}
use Rattle.coded_calls.specs.declared.exported_call.ExportedCall.TheVariants.{FromSigned, ToUnsigned, ToSigned}
use Rattle.coded_calls.specs.declared.exported_call.ExportedCall.TheVariants.{RoundToIntegral, Scaling, Fraction}
use Rattle.coded_calls.specs.declared.exported_call.ExportedCall.TheVariants.{Exponent, NextUp, NextDown, Comparison}
use Rattle.coded_calls.specs.declared.exported_call.ExportedCall.TheVariants.{Class, Conversion, Text}
use Rattle.coded_calls.specs.Answers.{IsKindAnswer, IsConverted, IsConvertedInto, IsAnswerConverted, IsFractionOf}
use Rattle.coded_calls.specs.Answers.{IsNumberAlone, IsReturned, IsSignedAnswer, IsTypeAnswer, IsUnsigned, IsUntold}
use Rattle.coded_calls.specs.Answers.{IsValue, IsValueWritten, one_if, whole}
use Rattle.formats_at_run_time.specs.{BuiltIns.kind_of, FlaggedKinds.flagged_kind_of, declared.BuiltInKind.BuiltInKind}
use Rattle.formats_at_run_time.specs.declared.BuiltInKind.TheVariants.{OfFormat as OfBuiltIn, Pairs as PairsOfDoubles}
use Rattle.formats_at_run_time.specs.declared.FlaggedKind.{FlaggedKind, TheVariants.OfFormat, TheVariants.Pairs}
use Rattle.formats_at_run_time.specs.Relations.{Relations, in_format, in_pairs}
use Rattle.formats_at_run_time.specs.ValueKinds.{Kind, of_format, of_pairs, value_of}
use Rattle.formats_at_run_time.proofs.OfTwoOnce.{of_two_once}
use Rattle.formats_at_run_time.proofs.FormatLaws.{HasLaw, built_in_law, format_law}

-- at most one result
abbrev pub OnceAnswer : (Answer → Type 0) → Type 0
OnceAnswer Holds = (first second : Answer) → Holds first → Holds second → SameAnswer first second

-- ---- results without a value

-- if a relation has one result, it leaves one unsigned integer
unsigned_once : (Holds : StatusAnd ℕ → Bool → Type 0) → DeterminesBoth Holds → OnceAnswer (IsUnsigned Holds)
unsigned_once Holds once a b x y =
    let same = once x.given y.given x.is_exact y.is_exact x.holds y.holds in
    record {
      bits = x.bits_are ∙ ap (λ (g : StatusAnd ℕ). g.value) same.0 ∙ sym y.bits_are;
      status = x.status_is ∙ ap (λ (g : StatusAnd ℕ). bits_of g.status) same.0 ∙ sym y.status_is;
      number = x.number_is ∙ ap one_if same.1 ∙ sym y.number_is;
    }

-- if a relation has one result, it leaves one signed integer
signed_once : (Holds : StatusAnd ℤ → Bool → Type 0) → DeterminesBoth Holds → OnceAnswer (IsSignedAnswer Holds)
signed_once Holds once a b x y =
    let same = once x.given y.given x.is_exact y.is_exact x.holds y.holds in
    record {
      bits = x.bits_are ∙ ap (λ (g : StatusAnd ℤ). cast_unsigned w128 g.value) same.0 ∙ sym y.bits_are;
      status = x.status_is ∙ ap (λ (g : StatusAnd ℤ). bits_of g.status) same.0 ∙ sym y.status_is;
      number = x.number_is ∙ ap one_if same.1 ∙ sym y.number_is;
    }

-- if a relation has one number, it leaves one result
number_once : (Holds : ℤ → Type 0) → Determines Holds → OnceAnswer (IsNumberAlone Holds)
number_once Holds once a b x y = record {
  bits = x.bits_are ∙ sym y.bits_are;
  status = x.status_is ∙ sym y.status_is;
  number = once a.number b.number x.holds y.holds;
}

-- a result that is a given number is unique
pub given_once : (given : ℤ) → OnceAnswer (IsNumberAlone (λ (n : ℤ). n ≡ given))
given_once given = number_once (λ (n : ℤ). n ≡ given) (λ m n h k. h ∙ sym k)

-- ---- values of a type

module _ {A : Type 0} (of_type : Relations A) (mode : Round) (precision width : ℕ) (wide : precision < width)
    (once : AreDetermined of_type.meaning mode precision width) where
  written_once : (given other : StatusAnd A) (i j : ℤ) (first second : Answer) → given ≡ other → i ≡ j
      → IsValueWritten of_type given i first → IsValueWritten of_type other j second → SameAnswer first second
  written_once given other i j a b given_is number_is x y =
      let encodes = λ (d : StatusAnd A). of_type.meaning.writes_bits d.value (whole a.bits) in
      record {
        bits = once.bits wide other.value (whole a.bits) (whole b.bits) (subst encodes given_is x.is_encoded)
            y.is_encoded;
        status = x.status_is ∙ ap (λ (d : StatusAnd A). bits_of d.status) given_is ∙ sym y.status_is;
        number = x.number_is ∙ number_is ∙ sym y.number_is;
      }

  -- if a relation has one value with one status, it leaves one result
  pub value_once : (Holds : StatusAnd A → Type 0) → Determines Holds → OnceAnswer (IsValue of_type Holds)
  value_once Holds determines a b x y =
      let same = determines x.given y.given x.holds y.holds in
      written_once x.given y.given _ _ a b same refl x.is_written y.is_written

  -- if a relation has one value, it leaves one result without flags
  untold_once : (Holds : A → Type 0) → Determines Holds → OnceAnswer (IsUntold of_type Holds)
  untold_once Holds determines a b x y =
      let same = determines x.given.value y.given.value x.holds y.holds in
      let given = same_answer x.given y.given same (x.no_flags ∙ sym y.no_flags) in
      written_once x.given y.given _ _ a b given refl x.is_written y.is_written

  -- if a relation has one fraction and one exponent, it leaves one result
  fraction_once : (Holds : A → ℤ → Type 0) → DeterminesBoth Holds → OnceAnswer (IsFractionOf of_type Holds)
  fraction_once Holds determines a b x y =
      let same = determines x.given.value y.given.value x.exponent y.exponent x.holds y.holds in
      let given = same_answer x.given y.given same.0 (x.no_flags ∙ sym y.no_flags) in
      written_once x.given y.given x.exponent y.exponent a b given same.1 x.is_written y.is_written

  -- if each value of a type has one square root, a call on its values has one result
  type_once : ((x : A) → Determines (of_type.takes_root x mode)) → (call : ExportedCall)
      → OnceAnswer (IsTypeAnswer of_type mode call)
  type_once root (OfTwo arithmetic x y) =
      value_once _ (of_two_once of_type mode precision width once arithmetic _ _)
  type_once root (FusedSum x y z) = λ a b h k. absurd h
  type_once root (SquareRoot x) = value_once _ (root _)
  type_once root (FromUnsigned number) = value_once _ (once.of_unsigned number)
  type_once root (FromSigned number) = value_once _ (once.of_signed number)
  type_once root (ToUnsigned x bits) = unsigned_once _ (once.to_unsigned _ bits)
  type_once root (ToSigned x bits) = signed_once _ (once.to_signed _ bits)
  type_once root (RoundToIntegral x) = value_once _ (once.integral _)
  type_once root (Scaling x power) = untold_once _ (once.scaled _ power)
  type_once root (Fraction x) = fraction_once _ (once.fraction _)
  type_once root (Exponent x) = number_once _ (once.exponent _)
  type_once root (NextUp x) = value_once _ (once.above _)
  type_once root (NextDown x) = value_once _ (once.below _)
  type_once root (Comparison x y) = given_once _
  type_once root (Class x) = given_once _
  type_once root (Conversion x target) = λ a b h k. absurd h
  type_once root (Text text) = value_once _ (λ a b h k. once.reading text.now (Ok a) (Ok b) h k)

-- ---- the kinds of the codes

abbrev pub KindHasLaw : Kind → Type 0
KindHasLaw (of_format c) = HasLaw c
KindHasLaw of_pairs = ⊤

pub kind_law : (known : FlaggedKind) → KindHasLaw (flagged_kind_of known)
kind_law (OfFormat format) = format_law format
kind_law Pairs = tt

pub built_in_kind_law : (kind : BuiltInKind) → KindHasLaw (kind_of kind)
built_in_kind_law (OfBuiltIn format) = built_in_law format
built_in_kind_law PairsOfDoubles = tt

-- ---- in a format

module _ (constants : Constants) (has : HasLaw constants) (mode : Round) where
  pub format_determined : AreDetermined (in_format constants).meaning mode constants.precision constants.bits
  format_determined =
      determined (format_with constants) (layout_with constants) constants.precision constants.bits mode
      (scale_some constants has.law) (lawful_interchange constants has.law)

  -- a value converted to another format has one result
  pub converted_once : (Holds : Datum → ℕ → Bool → Type 0) → OnceWith Holds
      → OnceAnswer (IsAnswerConverted constants Holds)
  converted_once Holds determines a b x y =
      let same = determines x.given.value y.given.value (bits_of x.given.status) (bits_of y.given.status) x.loses
      y.loses x.holds y.holds in
      written_once (in_format constants) mode constants.precision constants.bits has.wide format_determined
      x.given y.given _ _ a b
      (same_answer x.given y.given same.0 same.1) (ap one_if same.2) x.is_written y.is_written

-- a conversion to a known kind has at most one result, and none to pairs
converted_into_once : (constants : Constants) (mode : Round) (x : Datum) (target : Kind) → KindHasLaw target
    → OnceAnswer (IsConvertedInto constants mode x target)
converted_into_once constants mode x (of_format d) has =
    converted_once d has mode _ (conversion_once (format_with constants) (format_with d) mode x)
converted_into_once constants mode x of_pairs has = λ a b h k. absurd h

-- a conversion to the kind of a code, which may be unknown, has at most one result
conversion_answer_once : (constants : Constants) (mode : Round) (x : Datum) (target : Option FlaggedKind)
    → OnceAnswer (IsConverted constants mode x target)
conversion_answer_once constants mode x None = λ a b h k. absurd h
conversion_answer_once constants mode x (Some target) =
    converted_into_once constants mode x (flagged_kind_of target) (kind_law target)

-- ---- of pairs of doubles

-- a pair has one square root
pair_root_once : (mode : Round) (x : Pair) → OncePair (IsPairRoot mode x)
pair_root_once mode x = wide_answer_once (IsRoot wide mode) (root_once wide mode) x

-- ---- one reply

-- a call on values of any kind has one result
pub kind_once : (kind : Kind) → KindHasLaw kind → (mode : Round) (call : ExportedCall)
    → OnceAnswer (IsKindAnswer kind mode call)
kind_once (of_format c) has mode (FusedSum x y z) =
    value_once (in_format c) mode c.precision c.bits has.wide
    (format_determined c has mode) _
    (gives_once _ (fused_sum_once (format_with c) mode (value_of c x) (value_of c y) (value_of c z)))
kind_once (of_format c) has mode (Conversion x target) = conversion_answer_once c mode (value_of c x) target
kind_once (of_format c) has mode call =
    type_once (in_format c) mode c.precision c.bits has.wide
    (format_determined c has mode) (λ x. gives_once _ (root_once (format_with c) mode x)) call
kind_once of_pairs has mode call =
    type_once in_pairs mode 106 128 (lit< tt) (pairs_determined mode)
    (λ x. gives_once _ (pair_root_once mode x)) call

-- two results that are left as before are the same
pub unchanged : (old first second : Answer) → first ≡ old → second ≡ old → SameAnswer first second
unchanged old a b a_is b_is =
    let same = a_is ∙ sym b_is in
    record {
      bits = ap (λ (x : Answer). whole x.bits) same;
      status = ap (λ (x : Answer). x.status) same;
      number = ap (λ (x : Answer). x.number) same;
    }

-- a call that may have a fault leaves one code and one result
without_once : (fault : Option ℕ) (known : FlaggedKind) (mode : Round) (call : ExportedCall)
    (old first second : Answer) (code other : ℕ)
    → IsReturned (without fault (record { kind = flagged_kind_of known; mode = mode; call = call })) old first code
    → IsReturned (without fault (record { kind = flagged_kind_of known; mode = mode; call = call })) old second other
    → (code ≡ other) × SameAnswer first second
without_once None known mode call old a b code other x y =
    (x.0 ∙ sym y.0, kind_once (flagged_kind_of known) (kind_law known) mode call a b x.1 y.1)
without_once (Some fault) known mode call old a b code other x y =
    (x.0 ∙ sym y.0, unchanged old a b x.1 y.1)

-- two replies to the same arguments are the same
pub reply_once : (format : Option FlaggedKind) (mode : Option Round) (call : ExportedCall) (old first second : Answer)
    (code other : ℕ)
    → IsReturned (known_call format mode call) old first code
    → IsReturned (known_call format mode call) old second other
    → (code ≡ other) × SameAnswer first second
reply_once None mode call old a b code other x y = (x.0 ∙ sym y.0, unchanged old a b x.1 y.1)
reply_once (Some known) None call old a b code other x y = (x.0 ∙ sym y.0, unchanged old a b x.1 y.1)
reply_once (Some known) (Some mode) call old a b code other x y =
    without_once (fault_in (flagged_kind_of known) call) known mode call old a b code other x y
