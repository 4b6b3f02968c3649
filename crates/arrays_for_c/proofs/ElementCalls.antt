-- One more element of an operation on arrays, and the bytes of its result.
use Rattle.std.proofs.Common.{◌≡◌, ℕ, ◌+◌, ◌-◌, ◌*◌, ◌^◌, ◌<◌, ◌≤◌, ◌⊎◌, List, []}
use Rattle.std.proofs.Common.{◌∷◌, ◌++◌, length, sym, subst, ap, ◌∙◌, inl, inr, lit≤, Bool, arith}
use Rattle.std.proofs.{Math.Path.subst₃, lemmas.List.Sums.count_by-le-length, lemmas.List.length_push}
use Rattle.std.specs.Prelude.{count_by, slice_range}
use Rattle.rustc_apfloat.specs.declared.Round.{Round}
use Rattle.formats_at_run_time.specs.declared.FlaggedKind.{FlaggedKind, TheVariants.OfFormat, TheVariants.Pairs}
use Rattle.formats_at_run_time.specs.FlaggedKinds.{flagged_constants, flagged_kind_of}
use Rattle.apfloat_arrays.specs.Bytes.{number_of}
use Rattle.apfloat_arrays.proofs.{LittleEndian.fits, WidthBounds.flagged_room}
use Rattle.apfloat_arrays.proofs.Places.{count_push, place_below, places_more}
use Rattle.coded_calls.specs.{declared.data.Answer.Answer, Answers.IsKindAnswer, Answers.whole}
use Rattle.arrays_for_c.specs.declared.array_calls.ElementOperation.{ElementOperation, TheVariants.FusedSum}
use Rattle.arrays_for_c.specs.declared.array_calls.{ElementOperation.TheVariants.SquareRoot, MapCall.MapCall}
use Rattle.arrays_for_c.specs.declared.array_data.{Element.Element, ElementCounts.ElementCounts}
use Rattle.arrays_for_c.specs.{ArrayCalls.bytes_in, Arrays.AreElements}
use Rattle.arrays_for_c.specs.Arrays.{HaveRoomFor, IsElement, IsElementAt, became_nan, call_of, counts_of, raised}
use Rattle.arrays_for_c.specs.Arrays.{with_element}
use borrow.Rule.Slice.PartMut.{put_mid}

-- counting one more element counts the list with that element
counts_push : (elements : List Element) (element : Element)
    → with_element (counts_of elements) element ≡ counts_of (elements ++ element ∷ [])
counts_push elements element =
    let values : length (elements ++ element ∷ []) ≡ length elements + 1 = length_push elements element in
    let inexact = count_push (raised 16) elements element in
    let underflow = count_push (raised 8) elements element in
    let overflow = count_push (raised 4) elements element in
    let divided = count_push (raised 2) elements element in
    let invalid = count_push (raised 1) elements element in
    let nans = count_push became_nan elements element in
    cc

-- counts of fewer elements than a machine word can count
pub room_for : (elements : List Element) (counted : ElementCounts) → counted ≡ counts_of elements
    → length elements < 2 ^ 64 - 1 → HaveRoomFor counted
room_for elements counted are l =
    let few : (test : Element → Bool) → count_by test elements < 2 ^ 64 - 1 =
    λ test. omega (arith, count_by-le-length test elements, l) in
    rw are (record {
      counts = record {
        values = l;
        inexact = few (raised 16);
        underflow = few (raised 8);
        overflow = few (raised 4);
        invalid = few (raised 1);
        nans = few became_nan;
      };
      div_by_zero = few (raised 2);
    })

-- the bytes of a place are within those of all
pub place_in : (index count width size : ℕ) → size ≡ count * width → index < count → index * width + width ≤ size
place_in index count width size all before =
    subst (λ (n : ℕ). index * width + width ≤ n) (sym all) (place_below index count width before)

-- or the array has none
pub place_within : (index count width size : ℕ) → (size ≡ 0) ⊎ (size ≡ count * width) → index < count
    → (size ≡ 0) ⊎ (index * width + width ≤ size)
place_within index count width size (inl none) before = inl none
place_within index count width size (inr all) before =
    inr (place_in index count width size all before)

-- one more element is computed in its place
pub elements_more : (map : MapCall) (xs ys zs : List ℕ) (width index count : ℕ) (x y z : ℕ) (bytes new : List ℕ)
    (counted : ElementCounts) (element : Element)
    → width ≡ bytes_in map.kind → index < count → length bytes ≡ count * bytes_in map.kind
    → length new ≡ width
    → x ≡ number_of (slice_range xs (index * width) (index * width + width))
    → y ≡ number_of (slice_range ys (index * width) (index * width + width))
    → z ≡ number_of (slice_range zs (index * width) (index * width + width))
    → IsElement map x y z new element
    → AreElements map xs ys zs index bytes counted
    → AreElements map xs ys zs (index + 1)
    (put_mid (index * width) (index * width + width - index * width) bytes new) (with_element counted element)
elements_more map xs ys zs width index count x y z bytes new counted element is before size long x_is y_is z_is made
    so_far =
    let At : ℕ → Type 0 = λ (w : ℕ). IsElement map (number_of (slice_range xs (index * w) (index * w + w)))
    (number_of (slice_range ys (index * w) (index * w + w))) (number_of (slice_range zs (index * w) (index * w + w)))
    new element in
    let here : IsElementAt map xs ys zs index new element = subst At is
    (subst₃ (λ (x : ℕ) (y : ℕ) (z : ℕ). IsElement map x y z new element) x_is y_is z_is made) in
    let whole_width : length new ≡ bytes_in map.kind = long ∙ is in
    let places = places_more (IsElementAt map xs ys zs) (bytes_in map.kind) index count bytes new so_far.elements
    element before size whole_width here so_far.places in
    let Done : ℕ → Type 0 = λ (w : ℕ). AreElements map xs ys zs (index + 1)
    (put_mid (index * w) (index * w + w - index * w) bytes new) (with_element counted element) in
    subst Done (sym is)
    (record {
      elements = so_far.elements ++ element ∷ [];
      places = places;
      counted_are = ap (λ (c : ElementCounts). with_element c element) so_far.counted_are
          ∙ counts_push so_far.elements element;
    })

-- ---- the bytes of a result

-- the bits of a result fit in the bytes of an element of its kind
pub result_fits : (kind : FlaggedKind) (mode : Round) (operation : ElementOperation) (x y z : ℕ) (answer : Answer)
    → IsKindAnswer (flagged_kind_of kind) mode (call_of operation x y z) answer
    → whole answer.bits < 256 ^ bytes_in kind
result_fits Pairs mode FusedSum x y z answer is = absurd is
result_fits Pairs mode operation x y z answer is =
    fits (whole answer.bits) 128 16 is.is_written.is_encoded.below (lit≤ tt)
result_fits (OfFormat format) mode SquareRoot x y z answer is =
    fits (whole answer.bits) (flagged_constants format).bits (bytes_in (OfFormat format))
    is.is_written.is_encoded.below (flagged_room format)
result_fits (OfFormat format) mode operation x y z answer is =
    fits (whole answer.bits) (flagged_constants format).bits (bytes_in (OfFormat format))
    is.is_written.is_encoded.below (flagged_room format)
