-- What is known about the arguments of a call on arrays that is not refused, and what it leaves.
use Rattle.std.proofs.{Math.Nat.mul-le-mul_right, lemmas.Bool.and_parts}
use Rattle.std.proofs.Common.{◌≡◌, ℕ, ◌+◌, ◌*◌, ◌/◌, ◌%◌, ◌≤◌, ◌⊎◌, Bool, true, false, List, ◌++◌, length, drop, Option}
use Rattle.std.proofs.Common.{Some, None, Result, Ok, Err, refl, sym, ◌∙◌, subst, inl, inr, arith}
use Rattle.std.proofs.lemmas.{Bool.eqb-true, Bool.leb-true, List.take_at, Nat.div-add-mod', Slice.drop-append-drop}
use Rattle.std.specs.Prelude.{◌&&◌, ◌==◌, if◌then◌else◌, ok_or}
use Rattle.rustc_apfloat.specs.declared.Round.{Round}
use Rattle.formats_at_run_time.specs.{declared.FlaggedKind.FlaggedKind, FlaggedKinds.flagged_kind_coded}
use Rattle.formats_at_run_time.specs.Modes.{mode_coded}
use Rattle.apfloat_arrays.specs.{declared.Counts.Counts, declared.Widths.Widths, Blocks.IsBlock}
use Rattle.arrays_for_c.specs.{ArrayCalls.operands_of, Arrays.AreValuesConverted, Arrays.AreElements}
use Rattle.arrays_for_c.specs.declared.array_calls.{ArrayFormat.ArrayFormat, ConversionMode.ConversionMode}
use Rattle.arrays_for_c.specs.declared.array_calls.{ElementOperation.ElementOperation, KnownConversion.KnownConversion}
use Rattle.arrays_for_c.specs.declared.array_calls.MapCall.{MapCall}
use Rattle.arrays_for_c.specs.declared.array_data.{ArrayAnswer.ArrayAnswer, ElementCounts.ElementCounts}
use Rattle.arrays_for_c.specs.ArrayCalls.{array_format_coded, bytes_in, conversion_between, conversion_mode_coded}
use Rattle.arrays_for_c.specs.ArrayCalls.{conversion_widths, fitting, operation_coded, has_element_operation}
use Rattle.arrays_for_c.specs.ArrayCalls.{if_fitting}
use Rattle.arrays_for_c.specs.ArrayCalls.{known_array_conversion, known_map, lengths_fit, operand_length, operands_fit}
use Rattle.arrays_for_c.specs.Arrays.{AreMapped, IsConvertedArray, IsMappedArray, IsValueConverted, answer_with}
use Rattle.coded_calls.specs.KnownCalls.{◌>>=◌, no_such_operation}

-- ---- lengths that fit

-- the given bytes are an integral number of values, and there is room for the results
pub record AreRoomy (source target given room : ℕ) : Type 0 where
  pub whole : given ≡ given / source * source
  pub enough : given / source * target ≤ room

pub roomy : (source target given room : ℕ) → lengths_fit source target given room ≡ true
    → AreRoomy source target given room
roomy source target given room fits =
    let parts = and_parts (given % source == 0) _ fits in
    let none : given % source ≡ 0 = eqb-true _ _ parts.0 in
    let few : given / source ≤ room / target = leb-true _ _ parts.1 in
    let all : given / source * source + given % source ≡ given = div-add-mod' given source in
    let most : room / target * target + room % target ≡ room = div-add-mod' room target in
    let wide : given / source * target ≤ room / target * target = mul-le-mul_right target few in
    record { whole = omega arith; enough = omega arith }

-- ---- calls that are not refused

pub if_fitting_ok : {A : Type 0} (fits : Bool) (call known : A) → if_fitting fits call ≡ Ok known
    → (fits ≡ true) × (call ≡ known)
if_fitting_ok true call known e = (refl, cc)
if_fitting_ok false call known e = absurd (cc)

fits_of : (wanted : Result KnownConversion ℕ) (given room : ℕ) (conversion : KnownConversion)
    → (wanted >>= fitting given room) ≡ Ok conversion
    → lengths_fit (conversion_widths conversion).source (conversion_widths conversion).target given room ≡ true
fits_of (Err error) given room conversion e = absurd (cc)
fits_of (Ok wanted) given room conversion e =
    let both = if_fitting_ok
    (lengths_fit (conversion_widths wanted).source (conversion_widths wanted).target given room) wanted conversion e in
    subst
    (λ (c : KnownConversion).
    lengths_fit (conversion_widths c).source (conversion_widths c).target given room ≡ true)
    both.1 both.0

-- the lengths of a conversion that is not refused fit
pub conversion_fits : (source : Option ArrayFormat) (mode : Option ConversionMode) (target : Option ArrayFormat)
    (given room : ℕ) (conversion : KnownConversion)
    → known_array_conversion source mode target given room ≡ Ok conversion
    → AreRoomy (conversion_widths conversion).source (conversion_widths conversion).target given room
conversion_fits None mode target given room conversion e = absurd (cc)
conversion_fits (Some from) None target given room conversion e = absurd (cc)
conversion_fits (Some from) (Some rounding) None given room conversion e = absurd (cc)
conversion_fits (Some from) (Some rounding) (Some to) given room conversion e =
    roomy _ _ given room
    (fits_of (ok_or (conversion_between from to rounding) no_such_operation) given room conversion e)

-- an operation that is not refused
pub record IsKnownMap (kind : Option FlaggedKind) (mode : Option Round) (first second third room : ℕ)
    (map : MapCall) : Type 0 where
  pub kind_is : kind ≡ Some map.kind
  pub mode_is : mode ≡ Some map.round
  pub has : has_element_operation map.kind map.operation ≡ true
  pub roomy : AreRoomy (bytes_in map.kind) (bytes_in map.kind) first room
  pub second_is : (second ≡ 0) ⊎ (second ≡ first)
  pub third_is : (third ≡ 0) ⊎ (third ≡ first)

length_of : (taken : Bool) (length first : ℕ) → length ≡ operand_length taken first
    → (length ≡ 0) ⊎ (length ≡ first)
length_of true length first e = inr e
length_of false length first e = inl e

map_if : (kind : FlaggedKind) (mode : Round) (operation : ElementOperation) (first second third room : ℕ)
    (has : Bool) (map : MapCall) → has_element_operation kind operation ≡ has
    → (if has then
    if_fitting (lengths_fit (bytes_in kind) (bytes_in kind) first room
    && operands_fit (operands_of operation) (first, second, third))
    (record { kind = kind; round = mode; operation = operation })
    else Err no_such_operation) ≡ Ok map
    → IsKnownMap (Some kind) (Some mode) first second third room map
map_if kind mode operation first second third room false map has e = absurd (cc)
map_if kind mode operation first second third room true map has e =
    let both = if_fitting_ok
    (lengths_fit (bytes_in kind) (bytes_in kind) first room
    && operands_fit (operands_of operation) (first, second, third))
    (record { kind = kind; round = mode; operation = operation }) map e in
    let parts = and_parts (lengths_fit (bytes_in kind) (bytes_in kind) first room) _ both.0 in
    let others = and_parts _ _ parts.1 in
    subst (λ (m : MapCall). IsKnownMap (Some kind) (Some mode) first second third room m) both.1
    (record {
      kind_is = refl;
      mode_is = refl;
      has = has;
      roomy = roomy (bytes_in kind) (bytes_in kind) first room parts.0;
      second_is = length_of _ second first (eqb-true _ _ others.0);
      third_is = length_of _ third first (eqb-true _ _ others.1);
    })

pub map_is_known : (kind : Option FlaggedKind) (mode : Option Round) (operation : Option ElementOperation)
    (first second third room : ℕ) (map : MapCall)
    → known_map kind mode operation (first, second, third) room ≡ Ok map
    → IsKnownMap kind mode first second third room map
map_is_known None mode operation first second third room map e = absurd (cc)
map_is_known (Some k) None operation first second third room map e = absurd (cc)
map_is_known (Some k) (Some m) None first second third room map e = absurd (cc)
map_is_known (Some k) (Some m) (Some o) first second third room map e =
    map_if k m o first second third room (has_element_operation k o) map refl e

-- ---- results

-- the converted values are at the front, and the bytes after them are as before
pub are_converted : (conversion : KnownConversion) (count : ℕ) (given old front : List ℕ) (counts : Counts)
    → length front ≡ count * (conversion_widths conversion).target
    → IsBlock (IsValueConverted conversion) (conversion_widths conversion).source
    (conversion_widths conversion).target count given front counts
    → AreValuesConverted conversion count given old (front ++ drop (count * (conversion_widths conversion).target) old)
    (answer_with (record { counts = counts; div_by_zero = 0 }))
are_converted conversion count given old front counts size block =
    record {
      counts = counts;
      block = subst
          (λ (bytes : List ℕ). IsBlock (IsValueConverted conversion) (conversion_widths conversion).source
          (conversion_widths conversion).target count given bytes counts)
          (sym (take_at front (drop (count * (conversion_widths conversion).target) old) _ size)) block;
      kept = drop-append-drop (count * (conversion_widths conversion).target) old front
          (count * (conversion_widths conversion).target)
          (let least : count * (conversion_widths conversion).target ≤ count * (conversion_widths conversion).target =
          omega arith in least) size;
      answer_is = refl;
    }

-- the results of an operation are at the front, and the bytes after them are as before
pub are_mapped : (map : MapCall) (count : ℕ) (xs ys zs old front : List ℕ) (counted : ElementCounts)
    → length front ≡ count * bytes_in map.kind
    → AreElements map xs ys zs count front counted
    → AreMapped map count xs ys zs old (front ++ drop (count * bytes_in map.kind) old) (answer_with counted)
are_mapped map count xs ys zs old front counted size elements =
    record {
      counted = counted;
      are_elements = subst (λ (bytes : List ℕ). AreElements map xs ys zs count bytes counted)
          (sym (take_at front (drop (count * bytes_in map.kind) old) _ size)) elements;
      kept = drop-append-drop (count * bytes_in map.kind) old front (count * bytes_in map.kind)
          (let least : count * bytes_in map.kind ≤ count * bytes_in map.kind = omega arith in least) size;
      answer_is = refl;
    }

-- a conversion that is not refused leaves the array converted
pub converted_array : (known : Result KnownConversion ℕ) (conversion : KnownConversion) (given old new : List ℕ)
    (before after : ArrayAnswer) → known ≡ Ok conversion
    → AreValuesConverted conversion (length given / (conversion_widths conversion).source) given old new after
    → IsConvertedArray known given old new before after 0
converted_array known conversion given old new before after is converted =
    subst (λ (k : Result KnownConversion ℕ). IsConvertedArray k given old new before after 0) (sym is)
    (refl, converted)

pub mapped_array : (known : Result MapCall ℕ) (map : MapCall) (xs ys zs old new : List ℕ)
    (before after : ArrayAnswer) → known ≡ Ok map
    → AreMapped map (length xs / bytes_in map.kind) xs ys zs old new after
    → IsMappedArray known xs ys zs old new before after 0
mapped_array known map xs ys zs old new before after is mapped =
    subst (λ (k : Result MapCall ℕ). IsMappedArray k xs ys zs old new before after 0) (sym is) (refl, mapped)

-- a conversion with the widths in a variable leaves the array converted
pub conversion_left : (known : Result KnownConversion ℕ) (conversion : KnownConversion) (widths : Widths)
    (given old front : List ℕ) (counts : Counts) (before after : ArrayAnswer)
    → widths ≡ conversion_widths conversion → known ≡ Ok conversion
    → length front ≡ length given / widths.source * widths.target
    → IsBlock (IsValueConverted conversion) (conversion_widths conversion).source
    (conversion_widths conversion).target (length given / widths.source) given front counts
    → after ≡ answer_with (record { counts = counts; div_by_zero = 0 })
    → IsConvertedArray known given old (front ++ drop (length given / widths.source * widths.target) old) before
    after 0
conversion_left known conversion widths given old front counts before after widths_are known_is size block after_is =
    let Left : Widths → Type 0 = λ (w : Widths). length front ≡ length given / w.source * w.target
    → IsBlock (IsValueConverted conversion) (conversion_widths conversion).source
    (conversion_widths conversion).target (length given / w.source) given front counts
    → IsConvertedArray known given old (front ++ drop (length given / w.source * w.target) old) before after 0 in
    let at_widths : Left (conversion_widths conversion) =
    λ long made. converted_array known conversion given old _ before after known_is
    (subst
    (λ (a : ArrayAnswer). AreValuesConverted conversion (length given / (conversion_widths conversion).source) given old
    (front ++ drop (length given / (conversion_widths conversion).source * (conversion_widths conversion).target)
    old) a)
    (sym after_is)
    (are_converted conversion (length given / (conversion_widths conversion).source) given old front counts long
    made)) in
    (subst Left (sym widths_are) at_widths) size block

pub map_left : (known : Result MapCall ℕ) (map : MapCall) (width : ℕ) (xs ys zs old front : List ℕ)
    (counted : ElementCounts) (before after : ArrayAnswer)
    → width ≡ bytes_in map.kind → known ≡ Ok map → length front ≡ length xs / width * width
    → AreElements map xs ys zs (length xs / width) front counted → after ≡ answer_with counted
    → IsMappedArray known xs ys zs old (front ++ drop (length xs / width * width) old) before after 0
map_left known map width xs ys zs old front counted before after width_is known_is size elements after_is =
    let Left : ℕ → Type 0 = λ (w : ℕ). length front ≡ length xs / w * w
    → AreElements map xs ys zs (length xs / w) front counted
    → IsMappedArray known xs ys zs old (front ++ drop (length xs / w * w) old) before after 0 in
    let at_width : Left (bytes_in map.kind) = λ long made. mapped_array known map xs ys zs old _ before after known_is
    (subst (λ (a : ArrayAnswer). AreMapped map (length xs / bytes_in map.kind) xs ys zs old
    (front ++ drop (length xs / bytes_in map.kind * bytes_in map.kind) old) a)
    (sym after_is)
    (are_mapped map (length xs / bytes_in map.kind) xs ys zs old front counted long made)) in
    (subst Left (sym width_is) at_width) size elements

-- ---- widths in a variable

pub conversion_room : (format mode to given room : ℕ) (conversion : KnownConversion) (widths : Widths)
    → widths ≡ conversion_widths conversion
    → known_array_conversion (array_format_coded format) (conversion_mode_coded mode) (array_format_coded to) given
    room ≡ Ok conversion → AreRoomy widths.source widths.target given room
conversion_room format mode to given room conversion widths widths_are known_is =
    subst (λ (w : Widths). AreRoomy w.source w.target given room) (sym widths_are)
    (conversion_fits (array_format_coded format) (conversion_mode_coded mode) (array_format_coded to) given room
    conversion known_is)

pub map_room : (format mode operation first second third room : ℕ) (map : MapCall) (width : ℕ)
    → width ≡ bytes_in map.kind
    → known_map (flagged_kind_coded format) (mode_coded mode) (operation_coded operation) (first, second, third) room
    ≡ Ok map → AreRoomy width width first room
map_room format mode operation first second third room map width width_is known_is =
    subst (λ (w : ℕ). AreRoomy w w first room) (sym width_is)
    (map_is_known (flagged_kind_coded format) (mode_coded mode) (operation_coded operation) first second third room
    map known_is).roomy

-- the bytes of the first operands are an integral number of elements
pub first_whole : (first width bytes room : ℕ) → width ≡ bytes → AreRoomy width width first room
    → first ≡ first / width * bytes
first_whole first width bytes room width_is roomy =
    subst (λ (w : ℕ). first ≡ first / width * w) width_is roomy.whole

-- the bytes of another operand are none, or as many as those of the first operands
pub other_whole : (other first whole : ℕ) → (other ≡ 0) ⊎ (other ≡ first) → first ≡ whole
    → (other ≡ 0) ⊎ (other ≡ whole)
other_whole other first whole (inl none) is = inl none
other_whole other first whole (inr same) is = inr (same ∙ is)
