-- What calls on arrays leave.
use Rattle.std.specs.Prelude.{◌≡◌, ℕ, ◌+◌, ◌-◌, ◌*◌, ◌/◌, ◌^◌, ◌<◌, ◌⊎◌, ◌==◌, bit_and, Bool, not, if◌then◌else◌, List}
use Rattle.std.specs.Prelude.{length, take, drop, count_by, Result, Ok, Err}
use Rattle.rustc_apfloat.specs.{Datum.Datum, Lawful.Constants, Lawful.format_with, Pairs.pair_category, Pairs.pair_of}
use Rattle.rustc_apfloat.specs.{Products.IsProduct, Quotients.IsQuotient, Remainders.IsNearestRemainder}
use Rattle.rustc_apfloat.specs.{Remainders.IsTruncatedRemainder, Sums.IsDifference, Sums.IsSum, declared.Round.Round}
use Rattle.rustc_apfloat.specs.Classes.{is_nan, is_nan_category}
use Rattle.formats_at_run_time.specs.{declared.FlaggedKind.FlaggedKind, BuiltIns.constants_in}
use Rattle.formats_at_run_time.specs.declared.Arithmetic.{Arithmetic}
use Rattle.formats_at_run_time.specs.declared.Arithmetic.TheVariants.{Sum, Difference, Product, Quotient}
use Rattle.formats_at_run_time.specs.declared.Arithmetic.TheVariants.{NearestRemainder, TruncatedRemainder}
use Rattle.formats_at_run_time.specs.FlaggedKinds.{flagged_constants, flagged_kind_of}
use Rattle.formats_at_run_time.specs.ValueKinds.{Kind, of_format, of_pairs, value_of}
use Rattle.apfloat_arrays.specs.{Blocks.AreInPlaces, Blocks.IsBlock, Blocks.value_at, Bytes.number_of}
use Rattle.apfloat_arrays.specs.{Outcomes.HaveRoom, Outcomes.one_if, Values.IsConvertedBy, stored.Arrays.IsConverted}
use Rattle.apfloat_arrays.specs.declared.{Counts.Counts, Outcome.Outcome}
use Rattle.coded_calls.specs.{KnownCalls.answered, Answers.IsKindAnswer, Answers.whole}
use Rattle.coded_calls.specs.declared.{data.Answer.Answer, exported_call.ExportedCall.ExportedCall}
use Rattle.coded_calls.specs.declared.exported_call.ExportedCall.TheVariants.{OfTwo as CallOfTwo}
use Rattle.coded_calls.specs.declared.exported_call.ExportedCall.TheVariants.{FusedSum as CallFusedSum}
use Rattle.coded_calls.specs.declared.exported_call.ExportedCall.TheVariants.{SquareRoot as CallSquareRoot}
use Rattle.arrays_for_c.specs.declared.array_data.{ArrayAnswer.ArrayAnswer, Element.Element}
use Rattle.arrays_for_c.specs.declared.array_data.{ElementCounts.ElementCounts}
use Rattle.arrays_for_c.specs.declared.array_calls.{KnownConversion.TheVariants.Storage, MapCall.MapCall}
use Rattle.arrays_for_c.specs.declared.array_calls.ElementOperation.{ElementOperation}
use Rattle.arrays_for_c.specs.declared.array_calls.ElementOperation.TheVariants.{OfTwo, FusedSum, SquareRoot}
use Rattle.arrays_for_c.specs.declared.array_calls.KnownConversion.{KnownConversion, TheVariants.BuiltIn}
use Rattle.arrays_for_c.specs.ArrayCalls.{bytes_in, conversion_widths}

-- ---- counts

-- whether an element raised this flag
abbrev pub raised : ℕ → Element → Bool
raised flag element = not (bit_and element.status flag == 0)

abbrev pub became_nan : Element → Bool
became_nan element = element.is_nan

abbrev pub counts_of : List Element → ElementCounts
counts_of elements =
    record {
      counts = record {
        values = length elements;
        inexact = count_by (raised 16) elements;
        underflow = count_by (raised 8) elements;
        overflow = count_by (raised 4) elements;
        invalid = count_by (raised 1) elements;
        nans = count_by became_nan elements;
      };
      div_by_zero = count_by (raised 2) elements;
    }

-- the counts after one more element
abbrev pub with_element : ElementCounts → Element → ElementCounts
with_element counted element =
    record {
      counts = record {
        values = counted.counts.values + 1;
        inexact = counted.counts.inexact + one_if (raised 16 element);
        underflow = counted.counts.underflow + one_if (raised 8 element);
        overflow = counted.counts.overflow + one_if (raised 4 element);
        invalid = counted.counts.invalid + one_if (raised 1 element);
        nans = counted.counts.nans + one_if (became_nan element);
      };
      div_by_zero = counted.div_by_zero + one_if (raised 2 element);
    }

-- each count can grow by 1
pub record HaveRoomFor (counted : ElementCounts) : Type 0 where
  pub counts : HaveRoom counted.counts
  pub div_by_zero : counted.div_by_zero < 2 ^ 64 - 1

-- the flag, if it was raised
abbrev pub flag_if : ℕ → ℕ → ℕ
flag_if flag count = if count == 0 then 0 else flag

abbrev pub answer_with : ElementCounts → ArrayAnswer
answer_with counted =
    record {
      values = counted.counts.values;
      inexact = counted.counts.inexact;
      underflow = counted.counts.underflow;
      overflow = counted.counts.overflow;
      div_by_zero = counted.div_by_zero;
      invalid_op = counted.counts.invalid;
      nans = counted.counts.nans;
      status = flag_if 16 counted.counts.inexact + flag_if 8 counted.counts.underflow
          + flag_if 4 counted.counts.overflow + flag_if 2 counted.div_by_zero + flag_if 1 counted.counts.invalid;
      reserved = 0;
    }

-- ---- conversions

-- the bytes of a value, those of its conversion, and the outcome
abbrev pub IsValueConverted : KnownConversion → List ℕ → List ℕ → Outcome → Type 0
IsValueConverted (BuiltIn conversion) =
    IsConvertedBy conversion.overflow (constants_in conversion.source) (flagged_constants conversion.target)
    conversion.round
IsValueConverted (Storage array) = IsConverted array

-- each value is converted in its place, and the bytes after the last are as before
pub record AreValuesConverted (conversion : KnownConversion) (count : ℕ) (given old new : List ℕ)
    (answer : ArrayAnswer) : Type 0 where
  pub counts : Counts
  pub block : IsBlock (IsValueConverted conversion) (conversion_widths conversion).source
      (conversion_widths conversion).target count given (take (count * (conversion_widths conversion).target) new)
      counts
  pub kept : drop (count * (conversion_widths conversion).target) new
      ≡ drop (count * (conversion_widths conversion).target) old
  pub answer_is : answer ≡ answer_with (record { counts = counts; div_by_zero = 0 })

-- the code 0 and the conversions, or the code of the error and the previous contents
abbrev pub IsConvertedArray : Result KnownConversion ℕ → List ℕ → List ℕ → List ℕ → ArrayAnswer
    → ArrayAnswer → ℕ → Type 0
IsConvertedArray (Err error) given old new before after code = (code ≡ error) × (new ≡ old) × (after ≡ before)
IsConvertedArray (Ok conversion) given old new before after code =
    (code ≡ answered)
    × AreValuesConverted conversion (length given / (conversion_widths conversion).source) given old new after

-- ---- operations

-- the call on single values that is made with these operands
abbrev pub call_of : ElementOperation → ℕ → ℕ → ℕ → ExportedCall
call_of (OfTwo arithmetic) x y z = CallOfTwo arithmetic x y
call_of FusedSum x y z = CallFusedSum x y z
call_of SquareRoot x y z = CallSquareRoot x

-- whether the bits of a kind are those of a NaN
abbrev pub is_nan_in : Kind → ℕ → Bool
is_nan_in (of_format c) bits = is_nan (value_of c bits)
is_nan_in of_pairs bits = is_nan_category (pair_category (pair_of bits))

-- the element's bytes are the bits of a result of that call, and its outcome is that of the result
pub record IsElement (map : MapCall) (x y z : ℕ) (bytes : List ℕ) (element : Element) : Type 0 where
  pub answer : Answer
  pub is_answer : IsKindAnswer (flagged_kind_of map.kind) map.round (call_of map.operation x y z) answer
  pub bits_are : number_of bytes ≡ whole answer.bits
  pub status_is : element.status ≡ answer.status
  pub nan_is : element.is_nan ≡ is_nan_in (flagged_kind_of map.kind) (whole answer.bits)

-- what an operation on two values of a format gives
abbrev pub relation_of_two : Constants → Arithmetic → Round → Datum → Datum → Datum → ℕ → Type 0
relation_of_two c Sum mode x y = IsSum (format_with c) mode x y
relation_of_two c Difference mode x y = IsDifference (format_with c) mode x y
relation_of_two c Product mode x y = IsProduct (format_with c) mode x y
relation_of_two c Quotient mode x y = IsQuotient (format_with c) mode x y
relation_of_two c NearestRemainder mode x y = IsNearestRemainder (format_with c) x y
relation_of_two c TruncatedRemainder mode x y = IsTruncatedRemainder (format_with c) x y

-- The operands of an operation on `count` elements, and the room for its results, each of which takes `width` bytes. An
-- operand that the operation does not take has none.
pub record AreOperands (kind : FlaggedKind) (width count : ℕ) (xs ys zs output : List ℕ) : Type 0 where
  pub width_is : width ≡ bytes_in kind
  pub xs_are : length xs ≡ count * width
  pub ys_are : (length ys ≡ 0) ⊎ (length ys ≡ count * width)
  pub zs_are : (length zs ≡ 0) ⊎ (length zs ≡ count * width)
  pub output_is : length output ≡ count * width

-- the operands of an index
abbrev pub IsElementAt : MapCall → List ℕ → List ℕ → List ℕ → ℕ → List ℕ → Element → Type 0
IsElementAt map xs ys zs index bytes element =
    IsElement map (number_of (value_at (bytes_in map.kind) index xs))
    (number_of (value_at (bytes_in map.kind) index ys))
    (number_of (value_at (bytes_in map.kind) index zs)) bytes element

-- the operation is done at each index, with these counts of outcomes
pub record AreElements (map : MapCall) (xs ys zs : List ℕ) (count : ℕ) (bytes : List ℕ)
    (counted : ElementCounts) : Type 0 where
  pub elements : List Element
  pub places : AreInPlaces (IsElementAt map xs ys zs) (bytes_in map.kind) count bytes elements
  pub counted_are : counted ≡ counts_of elements

-- the operation is done at each index, and the bytes after the last result are as before
pub record AreMapped (map : MapCall) (count : ℕ) (xs ys zs old new : List ℕ) (answer : ArrayAnswer) : Type 0 where
  pub counted : ElementCounts
  pub are_elements : AreElements map xs ys zs count (take (count * bytes_in map.kind) new) counted
  pub kept : drop (count * bytes_in map.kind) new ≡ drop (count * bytes_in map.kind) old
  pub answer_is : answer ≡ answer_with counted

abbrev pub IsMappedArray : Result MapCall ℕ → List ℕ → List ℕ → List ℕ → List ℕ → List ℕ
    → ArrayAnswer → ArrayAnswer → ℕ → Type 0
IsMappedArray (Err error) xs ys zs old new before after code = (code ≡ error) × (new ≡ old) × (after ≡ before)
IsMappedArray (Ok map) xs ys zs old new before after code =
    (code ≡ answered) × AreMapped map (length xs / bytes_in map.kind) xs ys zs old new after
