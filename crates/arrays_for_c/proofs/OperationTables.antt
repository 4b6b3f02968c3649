-- Elements that are looked up in a table.
use Rattle.std.proofs.Common.{◌≡◌, ℕ, ◌+◌, ◌-◌, ◌*◌, ◌/◌, ◌%◌, ◌^◌, ◌<◌, ◌≤◌, List, [], ◌∷◌, length, get_or, take, drop}
use Rattle.std.proofs.Common.{zero, suc, ⊎_elim, refl, sym, subst, ap, ◌∙◌, arith}
use Rattle.std.proofs.Math.{Path.subst₃, Path.ap₂, ListN.drop_of_length-le}
use Rattle.std.proofs.lemmas.{Bool.cases_lt, List.drop_more, Option.IfSome_then}
use Rattle.std.specs.Prelude.{slice_range, slice_get}
use Rattle.apfloat_arrays.specs.{Blocks.AreInPlaces, Blocks.value_at, Bytes.number_of, Entries.AreEntries}
use Rattle.apfloat_arrays.specs.{Entries.AreLookedUp, Tallies.counts_with, Tallies.packed_of}
use Rattle.apfloat_arrays.specs.declared.{Counts.Counts, Tally.Tally}
use Rattle.apfloat_arrays.proofs.TalliedResults.{are_entries, entries_more, looked_up, tally_most}
use Rattle.arrays_for_c.specs.{ArrayCalls.bytes_in, Arrays.AreElements, Arrays.IsElement}
use Rattle.arrays_for_c.specs.declared.array_calls.MapCall.{MapCall}
use Rattle.arrays_for_c.specs.declared.array_data.{Element.Element, ElementCounts.ElementCounts}
use Rattle.arrays_for_c.specs.OperationTables.{IsEntry, IsResultAt, IsTable, element_tally}
use Rattle.arrays_for_c.proofs.ElementCalls.{result_fits}
use borrow.Rule.Slice.PartMut.{put_mid}

-- an element's bytes matter only as a number
pub same_number : (map : MapCall) (x y z : ℕ) (bytes other : List ℕ) (e : Element)
    → number_of other ≡ number_of bytes → IsElement map x y z bytes e → IsElement map x y z other e
same_number map x y z bytes other e same is =
    record {
      answer = is.answer;
      is_answer = is.is_answer;
      bits_are = same ∙ is.bits_are;
      status_is = is.status_is;
      nan_is = is.nan_is;
    }

-- the number of an element's bytes
pub element_fits : (map : MapCall) (x y z : ℕ) (bytes : List ℕ) (e : Element) → bytes_in map.kind ≡ 1
    → IsElement map x y z bytes e → number_of bytes < 256
element_fits map x y z bytes e byte is =
    subst (λ (w : ℕ). number_of bytes < 256 ^ w) byte
    (subst (λ (n : ℕ). n < 256 ^ bytes_in map.kind) (sym is.bits_are)
    (result_fits map.kind map.round map.operation x y z is.answer is.is_answer))

-- the only byte of a list
only : (byte : ℕ) → number_of (byte ∷ []) ≡ byte
only byte = omega arith

-- the entry that is filled
pub entry_made : (map : MapCall) (place mark : ℕ) (bytes entry : List ℕ) (e : Element) → bytes_in map.kind ≡ 1
    → IsElement map (place / 256) (place % 256) 0 bytes e → mark ≡ packed_of (element_tally e)
    → number_of entry ≡ number_of bytes + 2 ^ 32 * mark → IsEntry map place entry e
entry_made map place mark bytes entry e byte is mark_is written =
    let fits = element_fits map (place / 256) (place % 256) 0 bytes e byte is in
    record {
      result = number_of bytes;
      is_answer = same_number map (place / 256) (place % 256) 0 bytes (number_of bytes ∷ []) e
          (only (number_of bytes)) is;
      is_entry = record {
        parts = written ∙ ap (λ (n : ℕ). number_of bytes + 2 ^ 32 * n) mark_is;
        result_fits = omega (arith, fits);
        few = tally_most e.status e.is_nan;
      };
    }

pub table_more : (map : MapCall) (place : ℕ) (table entry : List ℕ) (e : Element) → place < 65536
    → length table ≡ 65536 * 8 → length entry ≡ 8 → IsEntry map place entry e → IsTable map place table
    → IsTable map (place + 1) (put_mid (place * 8) (place * 8 + 8 - place * 8) table entry)
table_more map place table entry e within long wide made so_far =
    entries_more (IsResultAt map) element_tally place 65536 table entry made.result e within long wide made.is_answer
    made.is_entry.result_fits made.is_entry.few made.is_entry.parts so_far

pub entries_of : (map : MapCall) (table : List ℕ) → bytes_in map.kind ≡ 1 → length table ≡ 65536 * 8
    → IsTable map 65536 table → AreEntries 1 65536 table
entries_of map table byte room is =
    are_entries (IsResultAt map) element_tally 1 65536 table room
    (λ place result element made.
    let fits = element_fits map (place / 256) (place % 256) 0 (result ∷ []) element byte made in
    let same = only result in
    omega (arith, fits, same)) is

-- no bytes
drop_none : (n : ℕ) → drop {A = ℕ} n [] ≡ []
drop_none zero = refl
drop_none (suc n) = refl

take_none : (n : ℕ) → take {A = ℕ} n [] ≡ []
take_none zero = refl
take_none (suc n) = refl

nothing_at : (from to : ℕ) → number_of (slice_range [] from to) ≡ 0
nothing_at from to =
    ap (λ (bytes : List ℕ). number_of (take (to - from) bytes)) (drop_none from)
    ∙ ap number_of (take_none (to - from))

-- a byte of a list, or 0 after its end
byte_below : (bytes : List ℕ) (index : ℕ) → get_or bytes index 0 < 256
    → number_of (value_at 1 index bytes) < 256
byte_below bytes index small =
    let from : index * 1 ≡ index = omega arith in
    let to : index * 1 + 1 - index * 1 ≡ 1 = omega arith in
    let here : number_of (value_at 1 index bytes) ≡ number_of (take 1 (drop index bytes)) =
    ap₂ (λ (n : ℕ) (m : ℕ). number_of (take n (drop m bytes))) to from in
    ⊎_elim {C = number_of (value_at 1 index bytes) < 256}
    (λ (within : index < length bytes).
    let same : number_of (value_at 1 index bytes) ≡ get_or bytes index 0 =
    here ∙ ap (λ (rest : List ℕ). number_of (take 1 rest)) (drop_more bytes index 0 within)
    ∙ only (get_or bytes index 0) in
    omega (arith, same, small))
    (λ (past : length bytes ≤ index).
    let none : number_of (value_at 1 index bytes) ≡ 0 =
    here ∙ ap (λ (rest : List ℕ). number_of (take 1 rest)) (drop_of_length-le bytes past) in
    omega (arith, none))
    (cases_lt index (length bytes))

-- what is looked up for two operands
element_at : (map : MapCall) (x y z : ℕ) (bytes : List ℕ) (e : Element) → y < 256 → z ≡ 0
    → IsResultAt map (x * 256 + y) (number_of bytes) e → IsElement map x y z bytes e
element_at map x y z bytes e small none made =
    let x_is : (x * 256 + y) / 256 ≡ x = omega (arith, small) in
    let y_is : (x * 256 + y) % 256 ≡ y = omega (arith, small) in
    let last : 0 ≡ z = sym none in
    subst₃ (λ (a : ℕ) (b : ℕ) (n : ℕ). IsElement map a b n bytes e) x_is y_is last
    (same_number map ((x * 256 + y) / 256) ((x * 256 + y) % 256) 0 (number_of bytes ∷ []) bytes e
    (sym (only (number_of bytes))) made)

abbrev counted_with : ℕ → Tally → ElementCounts
counted_with count tally = record { counts = counts_with count tally; div_by_zero = tally.div_by_zero }

abbrev with_division : Counts → ℕ → ElementCounts
with_division counts divided = record { counts = counts; div_by_zero = divided }

-- the elements that are looked up
pub elements_found : (map : MapCall) (xs ys table output : List ℕ) (count : ℕ) (tally : Tally) (counts : Counts)
    → bytes_in map.kind ≡ 1 → ((index : ℕ) → get_or ys index 0 < 256) → IsTable map 65536 table
    → AreLookedUp (λ k. number_of (value_at 1 k xs) * 256 + number_of (value_at 1 k ys)) 65536 1 count table output
    tally → counts ≡ counts_with count tally
    → AreElements map xs ys [] count output (with_division counts tally.div_by_zero)
elements_found map xs ys table output count tally counts byte small is it counts_are =
    let found = looked_up (IsResultAt map) element_tally
    (λ k. number_of (value_at 1 k xs) * 256 + number_of (value_at 1 k ys)) 65536 1 count table output tally is it in
    let At : ℕ → ℕ → List ℕ → Element → Type 0 = λ w index bytes e.
    IsElement map (number_of (value_at w index xs)) (number_of (value_at w index ys))
    (number_of (value_at w index [])) bytes e in
    let places : AreInPlaces (At 1) 1 count output found.outcomes = record {
      size = found.places.size;
      each = λ index. IfSome_then (slice_get found.outcomes index) (found.places.each index)
          (λ e made. element_at map (number_of (value_at 1 index xs)) (number_of (value_at 1 index ys)) _
          (value_at 1 index output) e (byte_below ys index (small index)) (nothing_at _ _) made);
    } in
    record {
      elements = found.outcomes;
      places = subst (λ (w : ℕ). AreInPlaces (At w) w count output found.outcomes) (sym byte) places;
      counted_are = ap (λ (n : Counts). with_division n tally.div_by_zero) counts_are
          ∙ ap₂ counted_with (sym found.places.size) found.total_is;
    }
