-- Conversions of pairs of doubles from and to formats, and their fused sum.
use Rattle.std.specs.Prelude.{◌≡◌, ℕ, false, Option, Some, None, ok_or, Result, Ok, Err}
use Rattle.rustc_apfloat.specs.declared.Category.TheVariants.{Infinity as Infinite, NaN}
use Rattle.rustc_apfloat.specs.{declared.Round.Round, declared.StatusAnd.StatusAnd, Classes.is_nan_category}
use Rattle.rustc_apfloat.specs.{Predicates.is_infinite_category, Flags.Gives, Lawful.format_with, Pairs.Pair}
use Rattle.rustc_apfloat.specs.double_double_operations.PairConversions.{IsPairFrom, IsPairTo}
use Rattle.rustc_apfloat.specs.double_double_operations.PairFusedSums.{IsPairFusedSum}
use Rattle.apfloat_digits.specs.of_double_doubles.PairShortest.{GivesPairShortest}
use Rattle.formats_at_run_time.specs.declared.{BuiltInFormat.BuiltInFormat, FlaggedFormat.FlaggedFormat}
use Rattle.formats_at_run_time.specs.declared.FlaggedKind.{FlaggedKind, TheVariants.OfFormat, TheVariants.Pairs}
use Rattle.formats_at_run_time.specs.{BuiltIns.constants_in, FlaggedKinds.flagged_constants}
use Rattle.formats_at_run_time.specs.{FlaggedKinds.format_without_rule, Relations.in_format, Relations.in_pairs}
use Rattle.formats_at_run_time.specs.ValueKinds.{Kind, of_format, of_pairs, value_of}
use Rattle.coded_calls.specs.{declared.data.Answer.Answer, Answers.IsValue}
use Rattle.coded_calls.specs.KnownCalls.{◌>>=◌, answered, no_such_operation, unknown_format, unknown_mode}
use Rattle.coded_calls.specs.OneReply.{SameAnswer}
use Rattle.apfloat_c.specs.declared.decimals.{DecimalText.DecimalText, Shortest.Shortest}
use Rattle.apfloat_c.specs.declared.decimals.Shortest.TheVariants.{Number, Infinity, Nan}
use Rattle.apfloat_c.specs.Decimals.{IsText, text_of_shortest}

-- the pair with these bits
abbrev pub pair_of : ℕ → Pair
pair_of bits = in_pairs.meaning.value_of_bits bits

-- ---- to a format

pub record KnownTarget : Type 0 where
  pub target : FlaggedFormat
  pub mode : Round

abbrev pub format_of_kind : FlaggedKind → Option FlaggedFormat
format_of_kind (OfFormat format) = Some format
format_of_kind Pairs = None

-- The faults in their order: the format, the mode, and pairs of doubles.
abbrev pub known_target : Option FlaggedKind → Option Round → Result KnownTarget ℕ
known_target format mode =
    ok_or format unknown_format >>= λ known. ok_or mode unknown_mode >>= λ rounding.
    ok_or (format_of_kind known) no_such_operation >>= λ target.
    Ok (record { target = target; mode = rounding })

abbrev pub IsPairFilled : Kind → Round → ℕ → Answer → Type 0
IsPairFilled (of_format c) mode bits answer =
    IsValue (in_format c) (λ given. Gives (IsPairTo (format_with c) mode (pair_of bits)) given) answer
IsPairFilled of_pairs mode bits answer = ⊥

abbrev pub IsPairConverted : Result KnownTarget ℕ → ℕ → Answer → Answer → ℕ → Type 0
IsPairConverted (Err error) bits old new code = (code ≡ error) × (new ≡ old)
IsPairConverted (Ok known) bits old new code =
    (code ≡ answered) × IsPairFilled (of_format (flagged_constants known.target)) known.mode bits new

-- ---- from a format

pub record KnownSource : Type 0 where
  pub source : BuiltInFormat
  pub mode : Round

-- the rule of flags of the source does not matter
abbrev pub known_source : Option FlaggedKind → Option Round → Result KnownSource ℕ
known_source format mode =
    known_target format mode >>= λ known.
    Ok (record { source = format_without_rule known.target; mode = known.mode })

abbrev pub IsPairOfKind : Kind → Round → ℕ → StatusAnd Pair → Type 0
IsPairOfKind (of_format c) mode bits pair = Gives (IsPairFrom (format_with c) mode (value_of c bits)) pair
IsPairOfKind of_pairs mode bits pair = ⊥

abbrev pub IsPairMade : Result KnownSource ℕ → ℕ → Answer → Answer → ℕ → Type 0
IsPairMade (Err error) bits old new code = (code ≡ error) × (new ≡ old)
IsPairMade (Ok known) bits old new code =
    (code ≡ answered) × IsValue in_pairs (IsPairOfKind (of_format (constants_in known.source)) known.mode bits) new

-- ---- fused sums

abbrev pub IsPairFusedCall : Option Round → ℕ → ℕ → ℕ → Answer → Answer → ℕ → Type 0
IsPairFusedCall None x y z old new code = (code ≡ unknown_mode) × (new ≡ old)
IsPairFusedCall (Some mode) x y z old new code =
    (code ≡ answered)
    × IsValue in_pairs (λ given. Gives (IsPairFusedSum mode (pair_of x) (pair_of y) (pair_of z)) given) new

-- ---- texts

-- What is written of a pair: its shortest decimal, if one is read as it. An infinity and a NaN have none, but a text;
-- any other pair without one has none.
abbrev pub IsPairText : Pair → Option Shortest → Type 0
IsPairText x (Some (Number decimal)) = GivesPairShortest x (Some decimal)
IsPairText x (Some (Infinity negative)) =
    GivesPairShortest x None × (in_pairs.meaning.category_of x ≡ Infinite)
    × (negative ≡ in_pairs.meaning.sign_of x)
IsPairText x (Some Nan) = GivesPairShortest x None × (in_pairs.meaning.category_of x ≡ NaN)
IsPairText x None =
    GivesPairShortest x None × (is_infinite_category (in_pairs.meaning.category_of x) ≡ false)
    × (is_nan_category (in_pairs.meaning.category_of x) ≡ false)

abbrev pub IsPairTextTold : Option Shortest → DecimalText → DecimalText → ℕ → Type 0
IsPairTextTold (Some found) old new code = (code ≡ answered) × IsText (text_of_shortest found) new
IsPairTextTold None old new code = (code ≡ no_such_operation) × (new ≡ old)

pub record IsPairShortestWritten (bits : ℕ) (old new : DecimalText) (code : ℕ) : Type 0 where
  pub found : Option Shortest
  pub is_text : IsPairText (pair_of bits) found
  pub told : IsPairTextTold found old new code

-- ---- one answer

pub record ArePairCallsOnce : Type 0 where
  pub to_format : (known : Result KnownTarget ℕ) (bits : ℕ) (old first second : Answer) (code other : ℕ)
      → IsPairConverted known bits old first code → IsPairConverted known bits old second other
      → (code ≡ other) × SameAnswer first second
  pub from_format : (known : Result KnownSource ℕ) (bits : ℕ) (old first second : Answer) (code other : ℕ)
      → IsPairMade known bits old first code → IsPairMade known bits old second other
      → (code ≡ other) × SameAnswer first second
  pub fused_sum : (mode : Option Round) (x y z : ℕ) (old first second : Answer) (code other : ℕ)
      → IsPairFusedCall mode x y z old first code → IsPairFusedCall mode x y z old second other
      → (code ≡ other) × SameAnswer first second
  pub text : (bits : ℕ) (old first second : DecimalText) (code other : ℕ)
      → IsPairShortestWritten bits old first code → IsPairShortestWritten bits old second other
      → (code ≡ other) × (first ≡ second)
