-- One more value in its place.
use Rattle.std.proofs.{Math.Nat.mul-le-mul_right, Math.Nat.suc-mul, Math.Path.subst₃, lemmas.Bool.cases_lt}
use Rattle.std.proofs.Common.{◌≡◌, ℕ, suc, ◌+◌, ◌-◌, ◌*◌, ◌^◌, ◌<◌, ◌≤◌, Bool, ⊎_elim, if◌then◌else◌}
use Rattle.std.proofs.Common.{List, [], ◌∷◌, ◌++◌}
use Rattle.std.proofs.Common.{length, drop, Option, refl, sym, ◌∙◌, ap, subst, arith, zero-add}
use Rattle.std.proofs.lemmas.{Bool.cases_eq, List.length_push, List.Edits.length-between, List.Sums.count_by-le-length}
use Rattle.std.proofs.lemmas.{List.Sums.sum_by-append}
use Rattle.std.proofs.lemmas.{Option.slice_get_past, Slice.between_is, Slice.take-put_mid_below, Slice.between-put_mid}
use Rattle.std.specs.Prelude.{slice_get, IfSome, count_by}
use Rattle.apfloat_arrays.specs.declared.counts.{Outcome.Outcome, Counts.Counts}
use Rattle.apfloat_arrays.specs.Outcomes.{HaveRoom, counts_of, with_outcome, one_if, raised, became_nan}
use Rattle.apfloat_arrays.specs.Blocks.{AreInPlaces, IsBlock, value_at}
use Rattle.apfloat_model.proofs.general.ListLaws.{get_left, get_last}
use borrow.Rule.Slice.PartMut.{put_mid}

-- ---- counts

-- one more outcome adds 1 to a count if it passes the test
pub count_push : {O : Type 0} (test : O → Bool) (outcomes : List O) (outcome : O)
    → count_by test (outcomes ++ outcome ∷ []) ≡ count_by test outcomes + one_if (test outcome)
count_push test outcomes outcome =
    sum_by-append (λ x. if test x then 1 else 0) outcomes (outcome ∷ [])
    ∙ ap (λ n. count_by test outcomes + n) (zero-add (one_if (test outcome)))

-- one more outcome is counted
pub counts_push : (outcomes : List Outcome) (outcome : Outcome)
    → with_outcome (counts_of outcomes) outcome ≡ counts_of (outcomes ++ outcome ∷ [])
counts_push outcomes outcome =
    let values : length (outcomes ++ outcome ∷ []) ≡ length outcomes + 1 = length_push outcomes outcome in
    let inexact = count_push (raised 16) outcomes outcome in
    let underflow = count_push (raised 8) outcomes outcome in
    let overflow = count_push (raised 4) outcomes outcome in
    let invalid = count_push (raised 1) outcomes outcome in
    let nans = count_push became_nan outcomes outcome in
    cc

-- counts of fewer values than a machine word can count
pub room_for : (outcomes : List Outcome) (counts : Counts) → counts ≡ counts_of outcomes
    → length outcomes < 2 ^ 64 - 1 → HaveRoom counts
room_for outcomes counts are l =
    let few : (test : Outcome → Bool) → count_by test outcomes < 2 ^ 64 - 1 =
    λ test. omega (arith, count_by-le-length test outcomes, l) in
    rw are (record {
      values = l;
      inexact = few (raised 16);
      underflow = few (raised 8);
      overflow = few (raised 4);
      invalid = few (raised 1);
      nans = few became_nan;
    })

-- ---- places

-- the place of a value is below the places after it
pub place_below : (index later width : ℕ) → index < later → index * width + width ≤ later * width
place_below index later width before =
    let next : suc index ≤ later = omega arith in
    let all : suc index * width ≤ later * width = mul-le-mul_right width next in
    let one_more : suc index * width ≡ index * width + width = suc-mul index width in
    omega arith

-- the number of bytes of each value is its width
pub place_size : (width index count : ℕ) (bytes : List ℕ) → index < count → length bytes ≡ count * width
    → length (value_at width index bytes) ≡ width
place_size width index count bytes before size =
    let room = place_below index count width before in
    length-between bytes (index * width) (index * width + width) (omega arith)
    ∙ (let all : index * width + width - index * width ≡ width = omega arith in all)

-- a write from the place of a value on leaves the earlier ones
pub before_write : (target index from to k : ℕ) (output new : List ℕ) → from ≡ index * target → k < index
    → from ≤ length output → value_at target k (put_mid from (to - from) output new) ≡ value_at target k output
before_write target index from to k output new is before within =
    let below : k * target + target ≤ from = omega (arith, place_below k index target before, is) in
    between_is (put_mid from (to - from) output new) (k * target) (k * target + target)
    ∙ ap (drop (k * target)) (take-put_mid_below from (to - from) output new (k * target + target) below within)
    ∙ sym (between_is output (k * target) (k * target + target))

pub earlier : (width index later : ℕ) (bytes new : List ℕ) → index < later → later * width ≤ length bytes
    → value_at width index (put_mid (later * width) (later * width + width - later * width) bytes new)
    ≡ value_at width index bytes
earlier width index later bytes new before within =
    before_write width later (later * width) (later * width + width) index bytes new refl before within

-- a write to the place of a value leaves the written bytes there
pub latest : (width index : ℕ) (bytes new : List ℕ) → index * width ≤ length bytes → length new ≡ width
    → value_at width index (put_mid (index * width) (index * width + width - index * width) bytes new) ≡ new
latest width index bytes new within size =
    between-put_mid (index * width) (index * width + width - index * width) bytes new (index * width + width) within
    (omega arith)

-- ---- statements about an index

-- there is no outcome after the last
none_of : {O : Type 0} (Holds : ℕ → List ℕ → O → Type 0) (now : List ℕ) (outcomes : List O) (k : ℕ)
    → length outcomes ≤ k → IfSome (slice_get outcomes k) (λ o. Holds k now o)
none_of {O} Holds now outcomes k past =
    let Of : Option O → Type 0 = λ found. IfSome found (λ o. Holds k now o) in
    subst Of (sym (slice_get_past outcomes k past)) tt

-- ---- values in their places

-- at the start, no value is claimed to be in its place
pub places_none : {O : Type 0} (Holds : ℕ → List ℕ → O → Type 0) (width : ℕ) (bytes : List ℕ)
    → AreInPlaces Holds width 0 bytes []
places_none Holds width bytes = record { size = refl; each = λ index. tt }

-- one more value is in its place, and the earlier ones are unchanged
places_next : {O : Type 0} (Holds : ℕ → List ℕ → O → Type 0) (width index next : ℕ)
    (bytes written : List ℕ)
    (outcomes : List O) (outcome : O) → next ≡ index + 1 → Holds index (value_at width index written) outcome
    → ((k : ℕ) → k < index → value_at width k bytes ≡ value_at width k written)
    → AreInPlaces Holds width index bytes outcomes
    → AreInPlaces Holds width next written (outcomes ++ outcome ∷ [])
places_next {O} Holds width index next bytes written outcomes outcome last here same so_far =
    let Says : ℕ → Type 0 = λ k. IfSome (slice_get (outcomes ++ outcome ∷ []) k)
    (λ o. Holds k (value_at width k written) o) in
    let size = so_far.size in
    let found = ap (slice_get (outcomes ++ outcome ∷ [])) (sym size) ∙ get_last outcomes outcome in
    let at_end : Says index =
    subst (λ (o : Option O). IfSome o (λ o. Holds index (value_at width index written) o)) (sym found) here in
    let before_it : (k : ℕ) → k < index → Says k = λ k h.
    subst (λ (o : Option O). IfSome o (λ o. Holds k (value_at width k written) o))
    (sym (get_left outcomes (outcome ∷ []) k (omega (arith, size, h))))
    (subst (λ (value : List ℕ). IfSome (slice_get outcomes k) (λ o. Holds k value o)) (same k h) (so_far.each k)) in
    let longer : length (outcomes ++ outcome ∷ []) ≡ next =
    length_push outcomes outcome ∙ (let e : length outcomes + 1 ≡ next = omega (arith, size, last) in e) in
    record {
      size = longer;
      each = λ k. ⊎_elim {C = Says k} (before_it k)
          (λ h. ⊎_elim {C = Says k} (λ e. subst Says (sym e) at_end)
          (λ past. none_of Holds _ (outcomes ++ outcome ∷ []) k (omega (arith, longer, last, past, h)))
          (cases_eq k index))
          (cases_lt k index);
    }

pub places_push : {O : Type 0} (Holds : ℕ → List ℕ → O → Type 0) (width index : ℕ) (bytes : List ℕ)
    (outcomes : List O) (outcome : O) → Holds index (value_at width index bytes) outcome
    → AreInPlaces Holds width index bytes outcomes
    → AreInPlaces Holds width (suc index) bytes (outcomes ++ outcome ∷ [])
places_push Holds width index bytes outcomes outcome here so_far =
    places_next Holds width index (suc index) bytes bytes outcomes outcome (omega arith) here (λ k h. refl) so_far

-- one more value is written to its place
pub places_more : {O : Type 0} (Holds : ℕ → List ℕ → O → Type 0) (width index count : ℕ)
    (bytes new : List ℕ) (outcomes : List O) (outcome : O)
    → index < count → length bytes ≡ count * width → length new ≡ width → Holds index new outcome
    → AreInPlaces Holds width index bytes outcomes → AreInPlaces Holds width (index + 1)
    (put_mid (index * width) (index * width + width - index * width) bytes new) (outcomes ++ outcome ∷ [])
places_more Holds width index count bytes new outcomes outcome before all size here so_far =
    let room = place_below index count width before in
    let within : index * width ≤ length bytes = omega arith in
    places_next Holds width index (index + 1) bytes
    (put_mid (index * width) (index * width + width - index * width) bytes new) outcomes outcome refl
    (subst (λ (value : List ℕ). Holds index value outcome) (sym (latest width index bytes new within size)) here)
    (λ k h. sym (earlier width k index bytes new h within)) so_far

-- ---- blocks

-- an empty block is converted
pub block_none : (Holds : List ℕ → List ℕ → Outcome → Type 0) (source target : ℕ) (input output : List ℕ)
    → IsBlock Holds source target 0 input output (counts_of [])
block_none Holds source target input output = record
    { outcomes = []; size = refl; each = λ index. tt; counted = refl }

-- one more value is converted in its place
pub block_more : (Holds : List ℕ → List ℕ → Outcome → Type 0) (source target index count : ℕ)
    (input output new : List ℕ) (counts : Counts) (outcome : Outcome)
    → index < count → length output ≡ count * target → length new ≡ target
    → Holds (value_at source index input) new outcome → IsBlock Holds source target index input output counts
    → IsBlock Holds source target (index + 1) input
    (put_mid (index * target) (index * target + target - index * target) output new) (with_outcome counts outcome)
block_more Holds source target index count input output new counts outcome before size width here so_far =
    let places = places_more (λ k bytes o. Holds (value_at source k input) bytes o) target index count output new
    so_far.outcomes outcome before size width here
    (record { size = so_far.size; each = so_far.each }) in
    record {
      outcomes = so_far.outcomes ++ outcome ∷ [];
      size = places.size;
      each = places.each;
      counted = ap (λ c. with_outcome c outcome) so_far.counted ∙ counts_push so_far.outcomes outcome;
    }

-- the same block, with its parts renamed
pub block_named : (Holds : List ℕ → List ℕ → Outcome → Type 0) (source target count count' : ℕ)
    (input input' output output' : List ℕ) (counts : Counts)
    → count ≡ count' → input ≡ input' → output ≡ output'
    → IsBlock Holds source target count input output counts
    → IsBlock Holds source target count' input' output' counts
block_named Holds source target count count' input input' output output' counts same_count same_input same_output
    block =
    subst₃ (λ (n : ℕ) (bytes : List ℕ) (new : List ℕ). IsBlock Holds source target n bytes new counts)
    same_count same_input same_output block
