-- A call on arrays leaves one code, and determines the bytes and the counts.
use Rattle.std.proofs.Common.{◌≡◌, ℕ, ◌*◌, ◌≤◌, Bool, List, ◌++◌, length, take, drop, Ok, Err, sym, ap, ◌∙◌, arith}
use Rattle.std.proofs.lemmas.List.{take-take, take-append-drop, length-take}
use Rattle.std.specs.Prelude.{◌/◌, min}
use Rattle.formats_at_run_time.specs.BuiltIns.{constants_in}
use Rattle.formats_at_run_time.specs.FlaggedKinds.{flagged_constants, flagged_kind_of}
use Rattle.formats_at_run_time.proofs.FormatLaws.{format_law}
use Rattle.apfloat_arrays.specs.{Blocks.AreInPlaces, Blocks.IsBlock, Blocks.value_at, Bytes.AreBytes, Bytes.number_of}
use Rattle.apfloat_arrays.specs.declared.{Counts.Counts, Outcome.Outcome, stored.Ends.Ends}
use Rattle.apfloat_arrays.specs.declared.stored.Ends.TheVariants.{Into, OutOf}
use Rattle.apfloat_arrays.specs.Outcomes.{counts_of as counts_of_outcomes}
use Rattle.apfloat_arrays.proofs.OneBlock.{converted_value_once}
use Rattle.apfloat_arrays.proofs.PlacesOnce.{FixesPlaces, bytes_take, places_once}
use Rattle.apfloat_arrays.proofs.stored_lemmas.StoredOnce.{HasLaw, converted_at_once}
use Rattle.arrays_for_c.specs.declared.array_calls.{KnownConversion.TheVariants.Storage, MapCall.MapCall}
use Rattle.arrays_for_c.specs.declared.array_calls.KnownConversion.{KnownConversion, TheVariants.BuiltIn}
use Rattle.arrays_for_c.specs.declared.array_data.{ArrayAnswer.ArrayAnswer, Element.Element}
use Rattle.arrays_for_c.specs.declared.array_data.{ElementCounts.ElementCounts}
use Rattle.arrays_for_c.specs.ArrayCalls.{bytes_in, conversion_widths}
use Rattle.arrays_for_c.specs.Arrays.{AreValuesConverted, AreMapped, IsElement, IsElementAt, IsValueConverted}
use Rattle.arrays_for_c.specs.Arrays.{answer_with, call_of, counts_of, is_nan_in}
use Rattle.arrays_for_c.specs.OneAnswer.{IsConvertedArrayOnce, IsLeftIn, IsMappedArrayOnce}
use Rattle.coded_calls.proofs.ExportsOnce.{kind_law, kind_once}

-- ---- lists

-- the first bytes of lists of equal length have equal lengths
pub same_front_size : (n : ℕ) (bytes other : List ℕ) → length bytes ≡ length other
    → length (take n bytes) ≡ length (take n other)
same_front_size n bytes other size =
    length-take n bytes ∙ ap (λ (k : ℕ). min n k) size ∙ sym (length-take n other)

-- lists with the same bytes before and after a place are equal
pub same_whole : (n : ℕ) (bytes other : List ℕ) → take n (take n bytes) ≡ take n (take n other)
    → drop n bytes ≡ drop n other → bytes ≡ other
same_whole n bytes other front rest =
    let here : n ≤ n = omega arith in
    let same : take n bytes ≡ take n other =
    sym (take-take n n bytes here) ∙ front ∙ take-take n n other here in
    sym (take-append-drop n bytes)
    ∙ ap (λ (l : List ℕ). l ++ drop n bytes) same
    ∙ ap (λ (l : List ℕ). take n other ++ l) rest
    ∙ take-append-drop n other

-- ---- conversions

ends_law : (ends : Ends) → HasLaw ends
ends_law (Into source target) = tt
ends_law (OutOf source target) = let law = format_law target in (law.law, law.wide)

-- a conversion of a value has one result and one outcome
value_once : (conversion : KnownConversion) (input bytes other : List ℕ) (outcome also : Outcome)
    → IsValueConverted conversion input bytes outcome → IsValueConverted conversion input other also
    → (number_of bytes ≡ number_of other) × (outcome ≡ also)
value_once (BuiltIn conversion) input bytes other outcome also x y =
    let law = format_law conversion.target in
    converted_value_once conversion.overflow (constants_in conversion.source) (flagged_constants conversion.target)
    conversion.round input bytes other outcome also law.law law.wide x y
value_once (Storage array) input bytes other outcome also x y =
    converted_at_once array.overflow array.round array.ends input bytes other outcome also (ends_law array.ends) x y

-- the places of a block are determined if its values are
block_places_once : (conversion : KnownConversion) (source target count : ℕ) (input bytes other : List ℕ)
    (counts others : Counts) → AreBytes bytes → AreBytes other → length bytes ≡ length other
    → IsBlock (IsValueConverted conversion) source target count input bytes counts
    → IsBlock (IsValueConverted conversion) source target count input other others
    → (take (count * target) bytes ≡ take (count * target) other) × (counts ≡ others)
block_places_once conversion source target count input bytes other counts others a b size x y =
    let Holds : ℕ → List ℕ → Outcome → Type 0 =
    λ index output outcome. IsValueConverted conversion (value_at source index input) output outcome in
    let fixes : FixesPlaces Holds = λ index output written outcome also.
    value_once conversion (value_at source index input) output written outcome also in
    let one : AreInPlaces Holds target count bytes x.outcomes = record { size = x.size; each = x.each } in
    let two : AreInPlaces Holds target count other y.outcomes = record { size = y.size; each = y.each } in
    let same = places_once Holds target count bytes other x.outcomes y.outcomes fixes a b size one two in
    (same.0, x.counted ∙ ap counts_of_outcomes same.1 ∙ sym y.counted)

converted_once : (conversion : KnownConversion) (count : ℕ) (given old first second : List ℕ)
    (after also : ArrayAnswer) → IsLeftIn old first → IsLeftIn old second
    → AreValuesConverted conversion count given old first after
    → AreValuesConverted conversion count given old second also
    → (first ≡ second) × (after ≡ also)
converted_once conversion count given old first second after also a b x y =
    let all = count * (conversion_widths conversion).target in
    let same = block_places_once conversion (conversion_widths conversion).source
    (conversion_widths conversion).target count given (take all first) (take all second) x.counts y.counts
    (bytes_take all first a.are_bytes) (bytes_take all second b.are_bytes)
    (same_front_size all first second (a.size ∙ sym b.size)) x.block y.block in (
      same_whole all first second same.0 (x.kept ∙ sym y.kept),
      x.answer_is ∙ ap (λ (c : Counts). answer_with (record { counts = c; div_by_zero = 0 })) same.1
          ∙ sym y.answer_is,
    )

pub converted_array_once : IsConvertedArrayOnce
converted_array_once (Err error) given old first second before after also code other a b x y =
    (x.0 ∙ sym y.0, x.1 ∙ sym y.1, x.2 ∙ sym y.2)
converted_array_once (Ok conversion) given old first second before after also code other a b x y =
    let same = converted_once conversion (length given / (conversion_widths conversion).source) given old first second
    after also a b x.1 y.1 in
    (x.0 ∙ sym y.0, same.0, same.1)

-- ---- operations

same_element : (one other : Element) → one.status ≡ other.status → one.is_nan ≡ other.is_nan → one ≡ other
same_element a b status nan =
    ap (λ (n : ℕ). record { status = n; is_nan = a.is_nan }) status
    ∙ ap (λ (n : Bool). record { status = b.status; is_nan = n }) nan

-- an operation has one result and one outcome
element_once : (map : MapCall) (x y z : ℕ) (bytes other : List ℕ) (element also : Element)
    → IsElement map x y z bytes element → IsElement map x y z other also
    → (number_of bytes ≡ number_of other) × (element ≡ also)
element_once map x y z bytes other element also h k =
    let kind = flagged_kind_of map.kind in
    let same = kind_once kind (kind_law map.kind) map.round (call_of map.operation x y z) h.answer k.answer h.is_answer
    k.is_answer in (
      h.bits_are ∙ same.bits ∙ sym k.bits_are,
      same_element element also (h.status_is ∙ same.status ∙ sym k.status_is)
          (h.nan_is ∙ ap (λ (n : ℕ). is_nan_in kind n) same.bits ∙ sym k.nan_is),
    )

mapped_once : (map : MapCall) (count : ℕ) (xs ys zs old first second : List ℕ) (after also : ArrayAnswer)
    → IsLeftIn old first → IsLeftIn old second
    → AreMapped map count xs ys zs old first after → AreMapped map count xs ys zs old second also
    → (first ≡ second) × (after ≡ also)
mapped_once map count xs ys zs old first second after also a b x y =
    let width = bytes_in map.kind in
    let all = count * bytes_in map.kind in
    let fixes : FixesPlaces (IsElementAt map xs ys zs) = λ index bytes other element also.
    element_once map (number_of (value_at width index xs)) (number_of (value_at width index ys))
    (number_of (value_at width index zs)) bytes other element also in
    let same = places_once (IsElementAt map xs ys zs) (bytes_in map.kind) count (take all first) (take all second)
    x.are_elements.elements y.are_elements.elements fixes (bytes_take all first a.are_bytes)
    (bytes_take all second b.are_bytes) (same_front_size all first second (a.size ∙ sym b.size))
    x.are_elements.places y.are_elements.places in
    let counted : x.counted ≡ y.counted =
    x.are_elements.counted_are ∙ ap (λ (l : List Element). counts_of l) same.1 ∙ sym y.are_elements.counted_are in (
      same_whole all first second same.0 (x.kept ∙ sym y.kept),
      x.answer_is ∙ ap (λ (c : ElementCounts). answer_with c) counted ∙ sym y.answer_is,
    )

pub mapped_array_once : IsMappedArrayOnce
mapped_array_once (Err error) xs ys zs old first second before after also code other a b x y =
    (x.0 ∙ sym y.0, x.1 ∙ sym y.1, x.2 ∙ sym y.2)
mapped_array_once (Ok map) xs ys zs old first second before after also code other a b x y =
    let same = mapped_once map (length xs / bytes_in map.kind) xs ys zs old first second after also a b x.1 y.1 in
    (x.0 ∙ sym y.0, same.0, same.1)
