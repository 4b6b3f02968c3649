-- Values given by their places, one more of them or one in place of another; and what zeros in place of infinities and
-- NaNs count.
use Rattle.std.proofs.{Math.Nat.min-eq_left, lemmas.Bool.cases_eq, lemmas.Bool.cases_lt, lemmas.Bool.le-ltb}
use Rattle.std.proofs.Common.{◌≡◌, ℕ, ◌+◌, ◌-◌, ◌*◌, ◌/◌, ◌%◌, ◌^◌, ◌<◌, ◌≤◌, Bool, true, false, ⊎_elim, if◌then◌else◌}
use Rattle.std.proofs.Common.{List, [], ◌∷◌, ◌++◌, length, take, set, length-set, Option, Some, refl, sym, ◌∙◌, ap}
use Rattle.std.proofs.Common.{subst, arith, ltb, ◌||◌}
use Rattle.std.proofs.lemmas.{Bool.lt-ltb, List.get_or-set_same, List.get_or-set_other, List.Sums.count_by-le-length}
use Rattle.std.proofs.lemmas.{List.Sums.sum_by-set, Option.slice_get_past, Option.slice_get-get_or, Slice.drop-put_mid}
use Rattle.std.specs.Prelude.{slice_get, IfSome, count_by, get_or}
use Rattle.apfloat_model.specs.rounding.RoundingToOdd.{odd_quotient}
use Rattle.apfloat_model.proofs.arithmetic.Signs.{plus_zero}
use Rattle.fast_bits.specs.lanes.Targets.{IsSingleFormat}
use Rattle.fast_bits.proofs.lanes_lemmas.{Cuts.exact_odd, Cuts.inexact_odd, Singles.single_read}
use Rattle.rustc_apfloat.specs.{Classes.is_nan, Conversions.IsConversion, Datum.Datum, Datum.finite, Flags.bits_of}
use Rattle.rustc_apfloat.specs.{Format.Format, Lawful.Constants, Lawful.format_with, Lawful.layout_with}
use Rattle.rustc_apfloat.specs.{Layout.datum_of, declared.Round.Round}
use Rattle.small_formats.specs.saturation.Saturation.{IsConversionBy, saturated}
use Rattle.small_formats.specs.declared.saturation.saturation.Overflow.{Overflow}
use Rattle.small_formats.specs.declared.saturation.saturation.Overflow.TheVariants.{Rounded, Saturated, Finite}
use Rattle.apfloat_arrays.specs.{Blocks.IsBlock, Blocks.value_at, Bytes.number_of, Rows.IsRow, Rows.number_from}
use Rattle.apfloat_arrays.specs.{Rows.number_in, Values.IsConvertedBy}
use Rattle.apfloat_arrays.specs.declared.counts.{Counts.Counts, Outcome.Outcome}
use Rattle.apfloat_arrays.specs.Outcomes.{became_nan, counts_of, one_if, raised, sum_to_top, with_flags, with_outcome}
use Rattle.apfloat_arrays.proofs.Places.{counts_push, earlier, latest, place_below, places_more, places_none}
use borrow.Rule.Slice.PartMut.{put_mid}

-- ---- rows

pub row_none : (Holds : List ℕ → List ℕ → Outcome → Type 0) (given : ℕ → List ℕ) (width : ℕ)
    (output : List ℕ)
    → IsRow Holds given width 0 output (counts_of [])
row_none Holds given width output =
    record { outcomes = []; places = places_none (λ k bytes o. Holds (given k) bytes o) width output; counted = refl }

pub row_more : (Holds : List ℕ → List ℕ → Outcome → Type 0) (given : ℕ → List ℕ)
    (width index count : ℕ)
    (output new : List ℕ) (counts : Counts) (outcome : Outcome)
    → index < count → length output ≡ count * width → length new ≡ width → Holds (given index) new outcome
    → IsRow Holds given width index output counts → IsRow Holds given width (index + 1)
    (put_mid (index * width) (index * width + width - index * width) output new) (with_outcome counts outcome)
row_more Holds given width index count output new counts outcome before size wide here so_far = record {
  outcomes = so_far.outcomes ++ outcome ∷ [];
  places =
      places_more (λ k bytes o. Holds (given k) bytes o) width index count output new so_far.outcomes outcome before
      size wide here so_far.places;
  counted = ap (λ c. with_outcome c outcome) so_far.counted ∙ counts_push so_far.outcomes outcome;
}

-- the same values, given otherwise
pub row_given : (Holds : List ℕ → List ℕ → Outcome → Type 0) (given other : ℕ → List ℕ)
    (width count : ℕ)
    (output : List ℕ) (counts : Counts) → ((k : ℕ) → k < count → given k ≡ other k)
    → IsRow Holds given width count output counts → IsRow Holds other width count output counts
row_given Holds given other width count output counts same row =
    let Says : ℕ → Type 0 = λ k. IfSome (slice_get row.outcomes k)
    (λ o. Holds (other k) (value_at width k output) o) in
    record {
      outcomes = row.outcomes;
      places = record {
        size = row.places.size;
        each = λ k. ⊎_elim {C = Says k}
            (λ (before : k < count). subst
            (λ (bytes : List ℕ). IfSome (slice_get row.outcomes k) (λ o. Holds bytes (value_at width k output) o))
            (same k before) (row.places.each k))
            (λ (past : count ≤ k). let size = row.places.size in
            subst (λ (found : Option Outcome). IfSome found (λ o. Holds (other k) (value_at width k output) o))
            (sym (slice_get_past row.outcomes k (omega (arith, size, past)))) tt)
            (cases_lt k count);
      };
      counted = row.counted;
    }

-- a row of the values of a block
pub row_block : (Holds : List ℕ → List ℕ → Outcome → Type 0) (given : ℕ → List ℕ)
    (source width count : ℕ)
    (input output : List ℕ) (counts : Counts) → ((k : ℕ) → k < count → given k ≡ value_at source k input)
    → IsRow Holds given width count output counts → IsBlock Holds source width count input output counts
row_block Holds given source width count input output counts same row =
    let there = row_given Holds given (λ k. value_at source k input) width count output counts same row in
    record { outcomes = there.outcomes; size = there.places.size; each = there.places.each; counted = there.counted }

-- ---- one value in place of another

-- an outcome that nothing but the number of values counts
pub record IsQuiet (o : Outcome) : Type 0 where
  pub inexact : raised 16 o ≡ false
  pub underflow : raised 8 o ≡ false
  pub overflow : raised 4 o ≡ false
  pub invalid : raised 1 o ≡ false
  pub nans : became_nan o ≡ false

-- a write to the place of a value leaves the later ones
later : (width earlier index : ℕ) (bytes new : List ℕ) → earlier < index → earlier * width ≤ length bytes
    → length new ≡ width
    → value_at width index (put_mid (earlier * width) (earlier * width + width - earlier * width) bytes new)
    ≡ value_at width index bytes
later width earlier index bytes new after within size =
    let wide : earlier * width + width - earlier * width ≡ width = omega arith in
    let dropped = drop-put_mid (earlier * width) (earlier * width + width - earlier * width) bytes new (index * width)
    (omega (arith, place_below earlier index width after, wide)) within (size ∙ sym wide) in
    ap (λ ys. take (index * width + width - index * width) ys) dropped

count_set : (test : Outcome → Bool) (outcomes : List Outcome) (index : ℕ) (outcome : Outcome)
    → index < length outcomes → length outcomes < 2 ^ 64 → test (get_or outcomes index outcome) ≡ false
    → sum_to_top (count_by test outcomes) (one_if (test outcome)) ≡ count_by test (set outcomes index outcome)
count_set test outcomes index outcome within few quiet =
    let all : count_by test (set outcomes index outcome) + one_if (test (get_or outcomes index outcome))
    ≡ count_by test outcomes + one_if (test outcome) =
    sum_by-set (λ x. one_if (test x)) outcomes index outcome outcome within in
    let none : one_if (test (get_or outcomes index outcome)) ≡ 0 = ap one_if quiet in
    let size = length-set outcomes index outcome in
    let sum : count_by test outcomes + one_if (test outcome) ≡ count_by test (set outcomes index outcome) =
    omega (arith, all, none) in
    min-eq_left (omega (arith, sum, count_by-le-length test (set outcomes index outcome), size, few)) ∙ sum

counts_set : (outcomes : List Outcome) (index : ℕ) (outcome : Outcome) → index < length outcomes
    → length outcomes < 2 ^ 64 → IsQuiet (get_or outcomes index outcome)
    → with_flags (counts_of outcomes) outcome ≡ counts_of (set outcomes index outcome)
counts_set outcomes index outcome within few quiet =
    let values : length outcomes ≡ length (set outcomes index outcome) = sym (length-set outcomes index outcome) in
    let inexact = count_set (raised 16) outcomes index outcome within few quiet.inexact in
    let underflow = count_set (raised 8) outcomes index outcome within few quiet.underflow in
    let overflow = count_set (raised 4) outcomes index outcome within few quiet.overflow in
    let invalid = count_set (raised 1) outcomes index outcome within few quiet.invalid in
    let nans = count_set became_nan outcomes index outcome within few quiet.nans in
    cc

-- a value in place of one that is not counted
pub row_set : (Holds : List ℕ → List ℕ → Outcome → Type 0) (given other : ℕ → List ℕ)
    (width index count : ℕ)
    (output new : List ℕ) (counts : Counts) (outcome : Outcome)
    → index < count → count < 2 ^ 64 → length output ≡ count * width → length new ≡ width
    → ((k : ℕ) → (k ≡ index → ⊥) → given k ≡ other k) → Holds (other index) new outcome
    → ((bytes : List ℕ) (o : Outcome) → Holds (given index) bytes o → IsQuiet o)
    → IsRow Holds given width count output counts → IsRow Holds other width count
    (put_mid (index * width) (index * width + width - index * width) output new) (with_flags counts outcome)
row_set Holds given other width index count output new counts outcome before few room size same here quiet row =
    let outcomes = row.outcomes in
    let long : length row.outcomes ≡ count = row.places.size in
    let written : List ℕ = put_mid (index * width) (index * width + width - index * width) output new in
    let made : List Outcome = set row.outcomes index outcome in
    let longer : length (set row.outcomes index outcome) ≡ count = length-set row.outcomes index outcome ∙ long in
    let inside : index < length row.outcomes = omega (arith, before, long) in
    let place = place_below index count width before in
    let within : index * width ≤ length output = omega (arith, place, room) in
    let Says : ℕ → Type 0 = λ k. IfSome (slice_get made k) (λ o. Holds (other k) (value_at width k written) o) in
    let old : Holds (given index) (value_at width index output) (get_or row.outcomes index outcome) =
    subst (λ (found : Option Outcome). IfSome found (λ o. Holds (given index) (value_at width index output) o))
    (slice_get-get_or row.outcomes index outcome inside) (row.places.each index) in
    let found : slice_get made index ≡ Some outcome =
    slice_get-get_or made index outcome (omega (arith, before, longer))
    ∙ ap Some (get_or-set_same row.outcomes index outcome outcome inside) in
    let at_index : Says index =
    subst (λ (found : Option Outcome). IfSome found (λ o. Holds (other index) (value_at width index written) o))
    (sym found)
    (subst (λ (bytes : List ℕ). Holds (other index) bytes outcome) (sym (latest width index output new within size))
    here) in
    let elsewhere : (k : ℕ) → k < count → (k ≡ index → ⊥) → Says k = λ k low away.
    let kept : value_at width k output ≡ value_at width k written =
    ⊎_elim (λ (l : k < index). sym (earlier width k index output new l within))
    (λ (l : index ≤ k). sym (later width index k output new (omega (arith, l, away)) within size))
    (cases_lt k index) in
    let there : slice_get row.outcomes k ≡ slice_get made k =
    slice_get-get_or row.outcomes k outcome (omega (arith, low, long))
    ∙ ap Some (sym (get_or-set_other row.outcomes index k outcome outcome away))
    ∙ sym (slice_get-get_or made k outcome (omega (arith, low, longer))) in
    subst (λ (found : Option Outcome). IfSome found (λ o. Holds (other k) (value_at width k written) o)) there
    (subst (λ (bytes : List ℕ). IfSome (slice_get row.outcomes k) (λ o. Holds (other k) bytes o)) kept
    (subst (λ (bytes : List ℕ). IfSome (slice_get row.outcomes k) (λ o. Holds bytes (value_at width k output) o))
    (same k away) (row.places.each k))) in
    record {
      outcomes = made;
      places = record {
        size = longer;
        each = λ k. ⊎_elim {C = Says k}
            (λ (low : k < count). ⊎_elim {C = Says k} (λ (e : k ≡ index). subst Says (sym e) at_index)
            (λ (away : k ≡ index → ⊥). elsewhere k low away) (cases_eq k index))
            (λ (past : count ≤ k).
            subst (λ (found : Option Outcome). IfSome found (λ o. Holds (other k) (value_at width k written) o))
            (sym (slice_get_past made k (omega (arith, longer, past)))) tt)
            (cases_lt k count);
      };
      counted =
          ap (λ c. with_flags c outcome) row.counted
          ∙ counts_set row.outcomes index outcome inside (omega (arith, long, few)) (quiet _ _ old);
    }

-- ---- zeros

-- no status raises no flag
quiet_from : (o : Outcome) → bits_of o.status ≡ 0 → o.is_nan ≡ false → IsQuiet o
quiet_from o none number = record {
  inexact = rw none refl;
  underflow = rw none refl;
  overflow = rw none refl;
  invalid = rw none refl;
  nans = number;
}

-- a positive zero is converted exactly, and stays one
zero_kept : (f g : Format) (mode : Round) (value : Datum) (status : ℕ) (loses : Bool)
    → IsConversion f g mode (finite false 0) value status loses → (status ≡ 0) × (value ≡ finite false 0)
zero_kept f g mode value status loses it =
    let sign = plus_zero g.nonfinite in
    (it.status_is ∙ rw sign refl, it.value_is ∙ ap (λ (b : Bool). finite b 0) sign)

zero_by : (overflow : Overflow) (f g : Format) (mode : Round) (value : Datum) (status : ℕ) (loses : Bool)
    → IsConversionBy overflow f g mode (finite false 0) value status loses → (status ≡ 0) × (is_nan value ≡ false)
zero_by Rounded f g mode value status loses it =
    let kept = zero_kept f g mode value status loses it in (kept.0, ap is_nan kept.1)
zero_by Saturated f g mode value status loses it =
    let kept = zero_kept f g mode it.rounded status loses it.is_conversion in
    (kept.0, ap is_nan (it.value_is ∙ ap (saturated g (finite false 0)) kept.1))
zero_by (Finite nans) f g mode value status loses it =
    let kept = zero_kept f g mode it.rounded status loses it.is_conversion in
    (kept.0, ap is_nan (it.value_is ∙ ap (saturated g (finite false 0)) kept.1))

-- the zero of a single, whose conversion counts nothing
pub zeros_quiet : (overflow : Overflow) (c d : Constants) (mode : Round)
    → IsSingleFormat (format_with c) (layout_with c) → (input bytes : List ℕ) (o : Outcome) → number_of input ≡ 0
    → IsConvertedBy overflow c d mode input bytes o → IsQuiet o
zeros_quiet overflow c d mode is_single input bytes o none of =
    let read : datum_of (format_with c) (layout_with c) (number_of input) ≡ finite false 0 =
    ap (datum_of (format_with c) (layout_with c)) none
    ∙ single_read (format_with c) (layout_with c) 0 is_single (omega arith) (omega arith) in
    let zero = zero_by overflow (format_with c) (format_with d) mode of.value (bits_of o.status) of.loses
    (subst
    (λ (x : Datum). IsConversionBy overflow (format_with c) (format_with d) mode x of.value (bits_of o.status)
    of.loses) read of.is_conversion) in
    quiet_from o zero.0 (of.nan_is ∙ zero.1)

-- what no bytes encode is one
pub zero_quiet : (overflow : Overflow) (c d : Constants) (mode : Round) → IsSingleFormat (format_with c) (layout_with c)
    → (bytes : List ℕ) (o : Outcome) → IsConvertedBy overflow c d mode [] bytes o → IsQuiet o
zero_quiet overflow c d mode is_single bytes o it = zeros_quiet overflow c d mode is_single [] bytes o refl it

-- ---- which values are numbers

-- the same exponent is below the greatest one in both
below_alike : (h x : ℕ) → h % 2 ^ 15 / 2 ^ 7 ≡ x % 2 ^ 31 / 2 ^ 23
    → ltb (h % 2 ^ 15) (255 * 2 ^ 7) ≡ ltb (x % 2 ^ 31) (255 * 2 ^ 23)
below_alike h x same =
    ⊎_elim {C = ltb (h % 2 ^ 15) (255 * 2 ^ 7) ≡ ltb (x % 2 ^ 31) (255 * 2 ^ 23)}
    (λ (l : h % 2 ^ 15 < 255 * 2 ^ 7).
    lt-ltb (h % 2 ^ 15) (255 * 2 ^ 7) l
    ∙ sym (lt-ltb (x % 2 ^ 31) (255 * 2 ^ 23) (omega (arith, same, l))))
    (λ (l : 255 * 2 ^ 7 ≤ h % 2 ^ 15).
    le-ltb (h % 2 ^ 15) (255 * 2 ^ 7) l
    ∙ sym (le-ltb (x % 2 ^ 31) (255 * 2 ^ 23) (omega (arith, same, l))))
    (cases_lt (h % 2 ^ 15) (255 * 2 ^ 7))

pub upper_alike : (x : ℕ) → ltb (x / 2 ^ 16 % 2 ^ 15) (255 * 2 ^ 7) ≡ ltb (x % 2 ^ 31) (255 * 2 ^ 23)
upper_alike x = below_alike (x / 2 ^ 16) x (omega arith)

pub half_alike : (x : ℕ) → ltb (odd_quotient x (2 ^ 16) % 2 ^ 15) (255 * 2 ^ 7) ≡ ltb (x % 2 ^ 31) (255 * 2 ^ 23)
half_alike x =
    below_alike (odd_quotient x (2 ^ 16)) x
    (⊎_elim {C = odd_quotient x (2 ^ 16) % 2 ^ 15 / 2 ^ 7 ≡ x % 2 ^ 31 / 2 ^ 23}
    (λ (none : x % 2 ^ 16 ≡ 0).
    let is : odd_quotient x (2 ^ 16) ≡ x / 2 ^ 16 = exact_odd (x / 2 ^ 16) (x % 2 ^ 16) none in omega (arith, is))
    (λ (some : x % 2 ^ 16 ≡ 0 → ⊥).
    let is : odd_quotient x (2 ^ 16) ≡ x / 2 ^ 16 + 1 - x / 2 ^ 16 % 2 = inexact_odd (x / 2 ^ 16) (x % 2 ^ 16) some in
    omega (arith, is))
    (cases_eq (x % 2 ^ 16) 0))

either : (b : Bool) (bytes : List ℕ) → (if b || true then bytes else []) ≡ bytes
either true bytes = refl
either false bytes = refl

-- a number is that of its place
pub number_there : (done : ℕ) (input : List ℕ) (index : ℕ)
    → ltb (number_of (value_at 4 index input) % 2 ^ 31) (255 * 2 ^ 23) ≡ true
    → number_from done input index ≡ value_at 4 index input
number_there done input index number =
    ap (λ (b : Bool). if ltb index done || b then value_at 4 index input else []) number ∙ either (ltb index done)
    (value_at 4 index input)

-- so is any value before those that zeros stand for
pub done_there : (done : ℕ) (input : List ℕ) (index : ℕ) → index < done
    → number_from done input index ≡ value_at 4 index input
done_there done input index before =
    ap (λ (b : Bool). if b || ltb (number_of (value_at 4 index input) % 2 ^ 31) (255 * 2 ^ 23)
    then value_at 4 index input else []) (lt-ltb index done before)

-- a zero stands for what is not a number
pub zero_there : (index : ℕ) (input : List ℕ) → ltb (number_of (value_at 4 index input) % 2 ^ 31) (255 * 2 ^ 23) ≡ false
    → number_from index input index ≡ []
zero_there index input special =
    (λ i. if le-ltb index index (omega arith) i || special i then value_at 4 index input else [])

-- one more value is done
pub next_there : (index : ℕ) (input : List ℕ) (k : ℕ) → (k ≡ index → ⊥)
    → number_from index input k ≡ number_from (index + 1) input k
next_there index input k other =
    let same : ltb k index ≡ ltb k (index + 1) =
    ⊎_elim (λ (l : k < index). lt-ltb k index l ∙ sym (lt-ltb k (index + 1) (omega (arith, l))))
    (λ (l : index ≤ k). le-ltb k index l ∙ sym (le-ltb k (index + 1) (omega (arith, l, other))))
    (cases_lt k index) in
    ap (λ (b : Bool). if b || ltb (number_of (value_at 4 k input) % 2 ^ 31) (255 * 2 ^ 23) then value_at 4 k input
    else []) same

pub next_number : (index : ℕ) (input : List ℕ) → ltb (number_of (value_at 4 index input) % 2 ^ 31) (255 * 2 ^ 23) ≡ true
    → (k : ℕ) → number_from index input k ≡ number_from (index + 1) input k
next_number index input number k =
    ⊎_elim {C = number_from index input k ≡ number_from (index + 1) input k}
    (λ (same : k ≡ index).
    subst (λ (n : ℕ). number_from index input n ≡ number_from (index + 1) input n) (sym same)
    (number_there index input index number ∙ sym (number_there (index + 1) input index number)))
    (λ (other : k ≡ index → ⊥). next_there index input k other)
    (cases_eq k index)

-- more values are done if all of them are numbers
pub numbers_there : (done more : ℕ) (input : List ℕ)
    → ((j : ℕ) → j < more → number_of (value_at 4 (done + j) input) % 2 ^ 31 < 255 * 2 ^ 23)
    → (k : ℕ) → number_from done input k ≡ number_from (done + more) input k
numbers_there done more input numbers k =
    let Same : Type 0 = number_from done input k ≡ number_from (done + more) input k in
    ⊎_elim {C = Same}
    (λ (before : k < done).
    done_there done input k before ∙ sym (done_there (done + more) input k (omega (arith, before))))
    (λ (from : done ≤ k).
    ⊎_elim {C = Same}
    (λ (within : k < done + more).
    let place : done + (k - done) ≡ k = omega (arith, from) in
    let number : ltb (number_of (value_at 4 k input) % 2 ^ 31) (255 * 2 ^ 23) ≡ true =
    lt-ltb (number_of (value_at 4 k input) % 2 ^ 31) (255 * 2 ^ 23)
    (subst (λ (n : ℕ). number_of (value_at 4 n input) % 2 ^ 31 < 255 * 2 ^ 23) place
    (numbers (k - done) (omega (arith, from, within)))) in
    number_there done input k number ∙ sym (number_there (done + more) input k number))
    (λ (past : done + more ≤ k).
    ap (λ (b : Bool). if b || ltb (number_of (value_at 4 k input) % 2 ^ 31) (255 * 2 ^ 23) then value_at 4 k input
    else []) (le-ltb k done from ∙ sym (le-ltb k (done + more) past)))
    (cases_lt k (done + more)))
    (cases_lt k done)

-- ---- cleared halves

pub cleared_finite : (half : ℕ) → number_in half % 2 ^ 15 < 255 * 2 ^ 7
cleared_finite half =
    ⊎_elim {C = number_in half % 2 ^ 15 < 255 * 2 ^ 7}
    (λ (l : half % 2 ^ 15 < 255 * 2 ^ 7).
    let is : number_in half ≡ half = ap (λ (b : Bool). if b then half else 0)
    (lt-ltb (half % 2 ^ 15) (255 * 2 ^ 7) l) in
    omega (arith, is, l))
    (λ (l : 255 * 2 ^ 7 ≤ half % 2 ^ 15).
    let is : number_in half ≡ 0 = ap (λ (b : Bool). if b then half else 0)
    (le-ltb (half % 2 ^ 15) (255 * 2 ^ 7) l) in
    omega (arith, is))
    (cases_lt (half % 2 ^ 15) (255 * 2 ^ 7))

kept_or_zero : (b : Bool) (convert : ℕ → ℕ) (bytes : List ℕ) → convert 0 ≡ 0
    → (if b then convert (number_of bytes) else 0) ≡ convert (number_of (if b then bytes else []))
kept_or_zero true convert bytes zero = refl
kept_or_zero false convert bytes zero = sym zero

-- what is made of a single's word, or zero for an infinity or a NaN, is that of the number that stands for it
pub made_there : (convert : ℕ → ℕ) (number : Bool) (input : List ℕ) (index : ℕ) → convert 0 ≡ 0
    → number ≡ ltb (number_of (value_at 4 index input) % 2 ^ 31) (255 * 2 ^ 23)
    → (if number then convert (number_of (value_at 4 index input)) else 0)
    ≡ convert (number_of (number_from 0 input index))
made_there convert number input index zero is =
    let none : ltb index 0 ≡ false = le-ltb index 0 (omega arith) in
    ap (λ (b : Bool). if b then convert (number_of (value_at 4 index input)) else 0) is
    ∙ kept_or_zero (ltb (number_of (value_at 4 index input) % 2 ^ 31) (255 * 2 ^ 23)) convert (value_at 4 index input)
    zero
    ∙ ap (λ (b : Bool). convert (number_of (if b || ltb (number_of (value_at 4 index input) % 2 ^ 31) (255 * 2 ^ 23)
    then value_at 4 index input else []))) (sym none)

-- the same of the upper half of a single, rounded to odd
pub halves_there : (input : List ℕ) (index half : ℕ) → half ≡ odd_quotient (number_of (value_at 4 index input)) (2 ^ 16)
    → number_in half ≡ odd_quotient (number_of (number_from 0 input index)) (2 ^ 16)
halves_there input index half is =
    let x = number_of (value_at 4 index input) in
    ap number_in is
    ∙ made_there (λ n. odd_quotient n (2 ^ 16)) (ltb (odd_quotient x (2 ^ 16) % 2 ^ 15) (255 * 2 ^ 7)) input index
    refl (half_alike x)

-- singles whose upper halves are those of numbers
pub finite_there : (done : ℕ) (input : List ℕ) (index half : ℕ)
    → ltb (half % 2 ^ 15) (255 * 2 ^ 7) ≡ ltb (number_of (value_at 4 index input) % 2 ^ 31) (255 * 2 ^ 23)
    → half % 2 ^ 15 < 255 * 2 ^ 7 → number_from done input index ≡ value_at 4 index input
finite_there done input index half alike number =
    number_there done input index (sym alike ∙ lt-ltb (half % 2 ^ 15) (255 * 2 ^ 7) number)
