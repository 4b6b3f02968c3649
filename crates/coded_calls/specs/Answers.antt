-- What a call returns.
use Rattle.std.specs.Prelude.{⊤, FitsSigned, ◌≡◌, ℕ, ◌+◌, ◌*◌, ◌^◌, ℤ, pos, neg_ℤ, Bool, if◌then◌else◌, Option, Some}
use Rattle.std.specs.{Prelude.None, Prelude.Result, Prelude.Ok, Prelude.Err, Int.w32, Int.w128, Int.cast_unsigned}
use Rattle.std.specs.declared.cmp.Ordering.{Ordering, TheVariants.Less, TheVariants.Equal, TheVariants.Greater}
use Rattle.rustc_apfloat.specs.{Flags.Gives, Flags.bits_of, Datum.Datum, FusedSums.IsFusedSum, Conversions.IsConversion}
use Rattle.rustc_apfloat.specs.declared.{Category.TheVariants.Zero, Round.Round, StatusAnd.StatusAnd}
use Rattle.rustc_apfloat.specs.declared.Category.{Category, TheVariants.Infinity, TheVariants.NaN, TheVariants.Normal}
use Rattle.rustc_apfloat.specs.Lawful.{Constants, format_with}
use Rattle.coded_calls.specs.declared.{data.Halves.Halves, data.Answer.Answer, exported_call.ExportedCall.ExportedCall}
use Rattle.coded_calls.specs.declared.exported_call.ExportedCall.TheVariants.{OfTwo, FusedSum, SquareRoot, FromUnsigned}
use Rattle.coded_calls.specs.declared.exported_call.ExportedCall.TheVariants.{FromSigned, ToUnsigned, ToSigned}
use Rattle.coded_calls.specs.declared.exported_call.ExportedCall.TheVariants.{RoundToIntegral, Scaling, Fraction}
use Rattle.coded_calls.specs.declared.exported_call.ExportedCall.TheVariants.{Exponent, NextUp, NextDown, Comparison}
use Rattle.coded_calls.specs.declared.exported_call.ExportedCall.TheVariants.{Class, Conversion, Text}
use Rattle.coded_calls.specs.KnownCalls.{KnownCall, answered, fault_in, type_fault}
use Rattle.formats_at_run_time.specs.{declared.FlaggedKind.FlaggedKind, FlaggedKinds.flagged_kind_of, OfTwo.IsOfTwo}
use Rattle.formats_at_run_time.specs.{Relations.Relations, Relations.in_format, Relations.in_pairs}
use Rattle.formats_at_run_time.specs.ValueKinds.{Kind, of_format, of_pairs, value_of}

-- the number that two halves represent
abbrev pub whole : Halves → ℕ
whole halves = halves.low + halves.high * 2 ^ 64

-- ---- the numbers that represent other results

abbrev pub one_if : Bool → ℤ
one_if holds = if holds then pos 1 else pos 0

abbrev pub order_code : Option Ordering → ℤ
order_code (Some Less) = neg_ℤ (pos 1)
order_code (Some Equal) = pos 0
order_code (Some Greater) = pos 1
order_code None = pos 2

-- the classes in the order of IEEE 754-2019 5.7.2, by the category, the sign, whether denormal, and whether signaling
abbrev pub class_code : Category → Bool → Bool → Bool → ℤ
class_code NaN negative denormal signaling = if signaling then pos 0 else pos 1
class_code Infinity negative denormal signaling = if negative then pos 2 else pos 9
class_code Normal negative denormal signaling =
    if negative then (if denormal then pos 4 else pos 3) else (if denormal then pos 7 else pos 8)
class_code Zero negative denormal signaling = if negative then pos 5 else pos 6

-- ---- results without a value

-- an integer, its flags, and whether it equals the value
pub record IsUnsigned (Holds : StatusAnd ℕ → Bool → Type 0) (answer : Answer) : Type 0 where
  pub given : StatusAnd ℕ
  pub is_exact : Bool
  pub holds : Holds given is_exact
  pub bits_are : whole answer.bits ≡ given.value
  pub status_is : answer.status ≡ bits_of given.status
  pub number_is : answer.number ≡ one_if is_exact

-- a signed integer in two's complement, its flags, and whether it equals the value
pub record IsSignedAnswer (Holds : StatusAnd ℤ → Bool → Type 0) (answer : Answer) : Type 0 where
  pub given : StatusAnd ℤ
  pub is_exact : Bool
  pub holds : Holds given is_exact
  pub bits_are : whole answer.bits ≡ cast_unsigned w128 given.value
  pub status_is : answer.status ≡ bits_of given.status
  pub number_is : answer.number ≡ one_if is_exact

-- a number alone
pub record IsNumberAlone (Holds : ℤ → Type 0) (answer : Answer) : Type 0 where
  pub holds : Holds answer.number
  pub bits_are : whole answer.bits ≡ 0
  pub status_is : answer.status ≡ 0

-- ---- values of a type

-- the bits of a value, its flags, and a number
pub record IsValueWritten {A : Type 0} (of_type : Relations A) (given : StatusAnd A) (number : ℤ)
    (answer : Answer) : Type 0 where
  pub is_encoded : of_type.meaning.writes_bits given.value (whole answer.bits)
  pub status_is : answer.status ≡ bits_of given.status
  pub number_is : answer.number ≡ number

-- a value with its flags; the field `number` is 0
pub record IsValue {A : Type 0} (of_type : Relations A) (Holds : StatusAnd A → Type 0)
    (answer : Answer) : Type 0 where
  pub given : StatusAnd A
  pub holds : Holds given
  pub is_written : IsValueWritten of_type given (pos 0) answer

-- a value without flags
pub record IsUntold {A : Type 0} (of_type : Relations A) (Holds : A → Type 0) (answer : Answer) : Type 0 where
  pub given : StatusAnd A
  pub holds : Holds given.value
  pub no_flags : bits_of given.status ≡ 0
  pub is_written : IsValueWritten of_type given (pos 0) answer

-- a fraction and its exponent, without flags
pub record IsFractionOf {A : Type 0} (of_type : Relations A) (Holds : A → ℤ → Type 0)
    (answer : Answer) : Type 0 where
  pub given : StatusAnd A
  pub exponent : ℤ
  pub holds : Holds given.value exponent
  pub no_flags : bits_of given.status ≡ 0
  pub is_written : IsValueWritten of_type given exponent answer

abbrev pub class_of : {A : Type 0} → Relations A → A → ℤ
class_of of_type x =
    class_code (of_type.meaning.category_of x) (of_type.meaning.sign_of x) (of_type.meaning.denormal x)
    (of_type.meaning.signals x)

-- fused sums and conversions, which are not calls of a type, have no result
abbrev pub IsTypeAnswer : {A : Type 0} → Relations A → Round → ExportedCall → Answer → Type 0
IsTypeAnswer of_type mode (OfTwo arithmetic x y) answer =
    IsValue of_type
    (IsOfTwo of_type arithmetic mode (of_type.meaning.value_of_bits x) (of_type.meaning.value_of_bits y)) answer
IsTypeAnswer of_type mode (FusedSum x y z) answer = ⊥
IsTypeAnswer of_type mode (SquareRoot x) answer =
    IsValue of_type (of_type.takes_root (of_type.meaning.value_of_bits x) mode) answer
IsTypeAnswer of_type mode (FromUnsigned number) answer =
    IsValue of_type (of_type.meaning.converts_unsigned number mode) answer
IsTypeAnswer of_type mode (FromSigned number) answer =
    IsValue of_type (of_type.meaning.converts_signed number mode) answer
IsTypeAnswer of_type mode (ToUnsigned x width) answer =
    IsUnsigned (of_type.meaning.converts_to_unsigned (of_type.meaning.value_of_bits x) width mode) answer
IsTypeAnswer of_type mode (ToSigned x width) answer =
    IsSignedAnswer (of_type.meaning.converts_to_signed (of_type.meaning.value_of_bits x) width mode) answer
IsTypeAnswer of_type mode (RoundToIntegral x) answer =
    IsValue of_type (of_type.meaning.rounds_to_integral (of_type.meaning.value_of_bits x) mode) answer
IsTypeAnswer of_type mode (Scaling x power) answer =
    IsUntold of_type (of_type.meaning.scales (of_type.meaning.value_of_bits x) power mode) answer
IsTypeAnswer of_type mode (Fraction x) answer =
    IsFractionOf of_type (of_type.meaning.has_fraction (of_type.meaning.value_of_bits x) mode) answer
IsTypeAnswer of_type mode (Exponent x) answer =
    IsNumberAlone (of_type.meaning.has_exponent (of_type.meaning.value_of_bits x)) answer
IsTypeAnswer of_type mode (NextUp x) answer =
    IsValue of_type (of_type.meaning.steps_up (of_type.meaning.value_of_bits x)) answer
IsTypeAnswer of_type mode (NextDown x) answer =
    IsValue of_type (of_type.meaning.steps_down (of_type.meaning.value_of_bits x)) answer
IsTypeAnswer of_type mode (Comparison x y) answer =
    IsNumberAlone
    (λ n. n ≡ order_code (of_type.order (of_type.meaning.value_of_bits x) (of_type.meaning.value_of_bits y))) answer
IsTypeAnswer of_type mode (Class x) answer =
    IsNumberAlone (λ n. n ≡ class_of of_type (of_type.meaning.value_of_bits x)) answer
IsTypeAnswer of_type mode (Conversion x target) answer = ⊥
IsTypeAnswer of_type mode (Text text) answer =
    IsValue of_type (λ given. of_type.meaning.reads text.now mode (Ok given)) answer

-- the exponent of the requested fraction is a number of 32 bits
abbrev pub FractionFits : {A : Type 0} → Relations A → ExportedCall → Type 0
FractionFits {A} of_type (Fraction x) =
    (mode : Round) (value : A) (exponent : ℤ)
    → of_type.meaning.has_fraction (of_type.meaning.value_of_bits x) mode value exponent → FitsSigned w32 exponent
FractionFits of_type call = ⊤

-- ---- in a format

-- a value in the target, its flags, and whether information was lost
pub record IsAnswerConverted (c : Constants) (Holds : Datum → ℕ → Bool → Type 0) (answer : Answer) : Type 0 where
  pub given : StatusAnd Datum
  pub loses : Bool
  pub holds : Holds given.value (bits_of given.status) loses
  pub is_written : IsValueWritten (in_format c) given (one_if loses) answer

-- a value of the first format in values of a kind; there is no conversion to pairs
abbrev pub IsConvertedInto : Constants → Round → Datum → Kind → Answer → Type 0
IsConvertedInto c mode x (of_format d) answer =
    IsAnswerConverted d (IsConversion (format_with c) (format_with d) mode x) answer
IsConvertedInto c mode x of_pairs answer = ⊥

abbrev pub IsConverted : Constants → Round → Datum → Option FlaggedKind → Answer → Type 0
IsConverted c mode x None answer = ⊥
IsConverted c mode x (Some target) answer = IsConvertedInto c mode x (flagged_kind_of target) answer

-- ---- of any kind

-- formats have the fused sum, and are converted
abbrev pub IsKindAnswer : Kind → Round → ExportedCall → Answer → Type 0
IsKindAnswer (of_format c) mode (FusedSum x y z) answer =
    IsValue (in_format c)
    (λ given. Gives (IsFusedSum (format_with c) mode (value_of c x) (value_of c y) (value_of c z)) given)
    answer
IsKindAnswer (of_format c) mode (Conversion x target) answer = IsConverted c mode (value_of c x) target answer
IsKindAnswer (of_format c) mode call answer = IsTypeAnswer (in_format c) mode call answer
IsKindAnswer of_pairs mode call answer = IsTypeAnswer in_pairs mode call answer

-- what a call leaves: the code 0 and a result if nothing is refused, otherwise the code of the error and the previous
-- contents
abbrev pub IsLeftBy : Option ℕ → (Answer → Type 0) → Answer → Answer → ℕ → Type 0
IsLeftBy None Holds old new code = (code ≡ answered) × Holds new
IsLeftBy (Some fault) Holds old new code = (code ≡ fault) × (new ≡ old)

abbrev pub IsTypeLeft : {A : Type 0} → Relations A → Round → ExportedCall → Answer → Answer → ℕ → Type 0
IsTypeLeft of_type mode call old new code =
    IsLeftBy (type_fault call) (IsTypeAnswer of_type mode call) old new code

abbrev pub IsLeft : Kind → Round → ExportedCall → Answer → Answer → ℕ → Type 0
IsLeft kind mode call old new code = IsLeftBy (fault_in kind call) (IsKindAnswer kind mode call) old new code

-- what an export leaves: the code 0 and the result, or the code of the error and the previous contents
abbrev pub IsReturned : Result KnownCall ℕ → Answer → Answer → ℕ → Type 0
IsReturned (Err error) old new code = (code ≡ error) × (new ≡ old)
IsReturned (Ok known) old new code =
    (code ≡ answered) × IsKindAnswer known.kind known.mode known.call new
