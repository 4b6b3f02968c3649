-- Tallies of few results as the digits of a number, and results that were looked up in a table of entries.
use Rattle.std.proofs.Common.{◌≡◌, ℕ, zero, suc, ◌+◌, ◌-◌, ◌*◌, ◌/◌, ◌%◌, ◌^◌, ◌<◌, ◌≤◌, Bool, true, false, ⊎_elim}
use Rattle.std.proofs.Common.{List, [], ◌∷◌, ◌++◌, length, refl, sym, subst, ap, ◌∙◌, lit≤, arith, add-one}
use Rattle.std.proofs.Math.{Path.ap₂, Nat.mul_comm}
use Rattle.std.proofs.lemmas.{Bool.cases_eq, List.Sums.sum_by_push, Nat.div-mul-add, Nat.mod-mul-add}
use Rattle.std.specs.Prelude.{IfSome}
use Rattle.apfloat_arrays.specs.{declared.tallies.Tally.Tally, Blocks.AreInPlaces, Blocks.value_at, Bytes.number_of}
use Rattle.apfloat_arrays.specs.{Outcomes.one_if, Tallies.AreTalliesAtMost}
use Rattle.apfloat_arrays.specs.Entries.{AreEntries, AreLookedUp, HasEntry, IsEntry, IsEntryOf, IsEntryTable, entry_of}
use Rattle.apfloat_arrays.specs.Tallies.{Fits, nothing, packed_of, sum_of, tallies, tally_of, total, unpacked}
use Rattle.apfloat_arrays.proofs.Places.{earlier, latest, place_below, places_more, places_none, places_push}
use Rattle.apfloat_arrays.proofs.PlacesOnce.{element}
use borrow.Rule.Slice.PartMut.{put_mid}

-- ---- digits to the base 32

lowest : (digit rest packed : ℕ) → packed ≡ digit + 32 * rest → digit ≤ 31 → packed % 32 ≡ digit
lowest digit rest packed is few = omega (arith, is, few)

others : (digit rest packed : ℕ) → packed ≡ digit + 32 * rest → digit ≤ 31 → packed / 32 ≡ rest
others digit rest packed is few = omega (arith, is, few)

digits_added : (a b c d e f p q r s t u : ℕ) → a + 32 * (b + 32 * (c + 32 * (d + 32 * (e + 32 * f))))
    + (p + 32 * (q + 32 * (r + 32 * (s + 32 * (t + 32 * u)))))
    ≡ a + p + 32 * (b + q + 32 * (c + r + 32 * (d + s + 32 * (e + t + 32 * (f + u)))))
digits_added a b c d e f p q r s t u = omega arith

pub packed_more : (some others : Tally) → packed_of some + packed_of others ≡ packed_of (sum_of some others)
packed_more some others =
    digits_added some.invalid some.div_by_zero some.overflow some.underflow some.inexact some.nans others.invalid
    others.div_by_zero others.overflow others.underflow others.inexact others.nans

abbrev with_counts : ℕ → ℕ → ℕ → ℕ → ℕ → ℕ → Tally
with_counts a b c d e f = record { inexact = a; underflow = b; overflow = c; div_by_zero = d; invalid = e; nans = f }

same_tally : {a b c d e f p q r s t u : ℕ} → a ≡ p → b ≡ q → c ≡ r → d ≡ s → e ≡ t → f ≡ u
    → with_counts a b c d e f ≡ with_counts p q r s t u
same_tally x y z u v w = cc

-- the digits are the counts, if these are few
pub taken_out : (tally : Tally) (most : ℕ) → most ≤ 31 → AreTalliesAtMost most tally
    → unpacked (packed_of tally) ≡ tally
taken_out t most few it =
    let fits : (n : ℕ) → n ≤ most → n ≤ 31 = λ n h. omega (arith, h, few) in
    let all = packed_of t in
    let p1 = others t.invalid (t.div_by_zero + 32 * (t.overflow + 32 * (t.underflow + 32 * (t.inexact + 32 * t.nans))))
    all refl (fits _ it.invalid) in
    let p2 = others t.div_by_zero (t.overflow + 32 * (t.underflow + 32 * (t.inexact + 32 * t.nans))) (all / 32) p1
    (fits _ it.div_by_zero) in
    let p3 = others t.overflow (t.underflow + 32 * (t.inexact + 32 * t.nans)) (all / 32 / 32) p2 (fits _ it.overflow) in
    let p4 = others t.underflow (t.inexact + 32 * t.nans) (all / 32 / 32 / 32) p3 (fits _ it.underflow) in
    let p5 = others t.inexact t.nans (all / 32 / 32 / 32 / 32) p4 (fits _ it.inexact) in
    same_tally (lowest t.inexact _ (all / 32 / 32 / 32 / 32) p4 (fits _ it.inexact))
    (lowest t.underflow _ (all / 32 / 32 / 32) p3 (fits _ it.underflow))
    (lowest t.overflow _ (all / 32 / 32) p2 (fits _ it.overflow))
    (lowest t.div_by_zero _ (all / 32) p1 (fits _ it.div_by_zero)) (lowest t.invalid _ all refl (fits _ it.invalid)) p5

-- ---- sums

one_most : (holds : Bool) → one_if holds ≤ 1
one_most true = omega arith
one_most false = omega arith

-- the tally of one result
pub tally_most : (flags : ℕ) (is_nan : Bool) → AreTalliesAtMost 1 (tally_of flags is_nan)
tally_most flags is_nan =
    record {
      inexact = one_most _;
      underflow = one_most _;
      overflow = one_most _;
      div_by_zero = one_most _;
      invalid = one_most _;
      nans = one_most is_nan;
    }

pub most_sum : (first size : ℕ) (some others : Tally) → AreTalliesAtMost first some → AreTalliesAtMost size others
    → AreTalliesAtMost (first + size) (sum_of some others)
most_sum first size some others p q =
    let added : (a b : ℕ) → a ≤ first → b ≤ size → a + b ≤ first + size = λ a b p q. omega (arith, p, q) in
    record {
      inexact = added _ _ p.inexact q.inexact;
      underflow = added _ _ p.underflow q.underflow;
      overflow = added _ _ p.overflow q.overflow;
      div_by_zero = added _ _ p.div_by_zero q.div_by_zero;
      invalid = added _ _ p.invalid q.invalid;
      nans = added _ _ p.nans q.nans;
    }

pub sum_fits : (most : ℕ) (tally : Tally) → most < 2 ^ 64 → AreTalliesAtMost most tally → Fits tally
sum_fits most tally room it =
    let fits : (n : ℕ) → n ≤ most → n < 2 ^ 64 = λ n h. omega (arith, h, room) in
    record {
      inexact = fits _ it.inexact;
      underflow = fits _ it.underflow;
      overflow = fits _ it.overflow;
      div_by_zero = fits _ it.div_by_zero;
      invalid = fits _ it.invalid;
      nans = fits _ it.nans;
    }

sum_assoc : (a b c : Tally) → sum_of (sum_of a b) c ≡ sum_of a (sum_of b c)
sum_assoc a b c =
    let added : (x y z : ℕ) → (x + y) + z ≡ x + (y + z) = λ x y z. omega arith in
    same_tally (added a.inexact b.inexact c.inexact) (added a.underflow b.underflow c.underflow)
    (added a.overflow b.overflow c.overflow) (added a.div_by_zero b.div_by_zero c.div_by_zero)
    (added a.invalid b.invalid c.invalid) (added a.nans b.nans c.nans)

sum_none : (a : Tally) → sum_of a nothing ≡ a
sum_none a =
    let none : (n : ℕ) → n + 0 ≡ n = λ n. omega arith in
    same_tally (none a.inexact) (none a.underflow) (none a.overflow) (none a.div_by_zero) (none a.invalid) (none a.nans)

-- ---- totals

-- a number is the packed tally of one result
pub record IsMark (mark : ℕ) : Type 0 where
  pub tally : Tally
  pub few : AreTalliesAtMost 1 tally
  pub is : mark ≡ packed_of tally

unpacked_mark : (mark : ℕ) (it : IsMark mark) → unpacked mark ≡ it.tally
unpacked_mark mark it = ap unpacked it.is ∙ taken_out it.tally 1 (lit≤ tt) it.few

none_at_most : AreTalliesAtMost 0 nothing
none_at_most =
    record {
      inexact = lit≤ tt;
      underflow = lit≤ tt;
      overflow = lit≤ tt;
      div_by_zero = lit≤ tt;
      invalid = lit≤ tt;
      nans = lit≤ tt;
    }

pub nothing_up_to : (marks : ℕ → ℕ) → nothing ≡ total marks 0
unfolding total
nothing_up_to marks = refl

-- the values up to an index, the tally of those since `first` packed in a number
pub record IsTallyTotal (marks : ℕ → ℕ) (first index : ℕ) (tally : Tally) (packed : ℕ) : Type 0 where
  pub few : Tally
  pub done : ℕ
  pub index_is : index ≡ first + done
  pub most : AreTalliesAtMost done few
  pub packed_is : packed ≡ packed_of few
  pub total_is : sum_of tally few ≡ total marks index

pub total_begun : (marks : ℕ → ℕ) (first : ℕ) (tally : Tally) → tally ≡ total marks first
    → IsTallyTotal marks first first tally 0
total_begun marks first tally is =
    record {
      few = nothing;
      done = 0;
      index_is = omega arith;
      most = none_at_most;
      packed_is = refl;
      total_is = sum_none tally ∙ is;
    }

pub total_more : (marks : ℕ → ℕ) (first index : ℕ) (tally : Tally) (packed : ℕ) → IsMark (marks index)
    → IsTallyTotal marks first index tally packed → IsTallyTotal marks first (index + 1) tally (packed + marks index)
unfolding total
total_more marks first index tally packed mark so_far =
    let e = mark.tally in
    let same : unpacked (marks index) ≡ e = unpacked_mark (marks index) mark in
    let next = ap (total marks) (add-one index) in
    record {
      few = sum_of so_far.few e;
      done = so_far.done + 1;
      index_is = let was = so_far.index_is in omega (arith, was);
      most = most_sum so_far.done 1 so_far.few e so_far.most mark.few;
      packed_is = ap₂ (λ (a : ℕ) (b : ℕ). a + b) so_far.packed_is mark.is ∙ packed_more so_far.few e;
      total_is = sym (sum_assoc tally so_far.few e) ∙ ap (λ (t : Tally). sum_of t e) so_far.total_is
          ∙ ap (sum_of (total marks index)) (sym same) ∙ sym next;
    }

-- the digits of the number are the tally
digits_are : (marks : ℕ → ℕ) (first index size : ℕ) (tally : Tally) (packed : ℕ) → index ≡ first + size → size ≤ 31
    → (it : IsTallyTotal marks first index tally packed) → (it.done ≡ size) × (unpacked packed ≡ it.few)
digits_are marks first index size tally packed last few it =
    let all : it.done ≡ size = omega (arith, it.index_is, last) in
    (all, ap unpacked it.packed_is ∙ taken_out it.few it.done (omega (arith, all, few)) it.most)

pub total_done : (marks : ℕ → ℕ) (first index size : ℕ) (tally : Tally) (packed : ℕ)
    → index ≡ first + size
    → size ≤ 31 → AreTalliesAtMost first tally → IsTallyTotal marks first index tally packed
    → (sum_of tally (unpacked packed) ≡ total marks (first + size))
    × AreTalliesAtMost (first + size) (sum_of tally (unpacked packed))
total_done marks first index size tally packed last few before it =
    let digits = digits_are marks first index size tally packed last few it in
    let most : AreTalliesAtMost size it.few = subst (λ (n : ℕ). AreTalliesAtMost n it.few) digits.0 it.most in (
      ap (sum_of tally) digits.1 ∙ it.total_is ∙ ap (total marks) last,
      subst (λ (t : Tally). AreTalliesAtMost (first + size) (sum_of tally t)) (sym digits.1)
          (most_sum first size tally it.few before most),
    )

-- ---- entries

quotient_is : (result mark entry power : ℕ) → entry ≡ result + power * mark → result < power → entry / power ≡ mark
quotient_is result mark entry power is fits =
    let turned : power * mark ≡ mark * power = mul_comm power mark in
    let parts : entry ≡ mark * power + result = omega (arith, is, turned) in
    ap (λ (n : ℕ). n / power) parts ∙ div-mul-add mark power result fits

rest_is : (result mark entry power : ℕ) → entry ≡ result + power * mark → result < power → entry % power ≡ result
rest_is result mark entry power is fits =
    let turned : power * mark ≡ mark * power = mul_comm power mark in
    let parts : entry ≡ mark * power + result = omega (arith, is, turned) in
    ap (λ (n : ℕ). n % power) parts ∙ mod-mul-add mark power result fits

pub result_in : (entry result : ℕ) (tally : Tally) → IsEntry entry result tally → entry % 2 ^ 32 ≡ result
result_in entry result tally it = rest_is result (packed_of tally) entry (2 ^ 32) it.parts it.result_fits

pub mark_in : (entry result : ℕ) (tally : Tally) → IsEntry entry result tally → entry / 2 ^ 32 ≡ packed_of tally
mark_in entry result tally it = quotient_is result (packed_of tally) entry (2 ^ 32) it.parts it.result_fits

pub mark_of_entry : (width entry : ℕ) → IsEntryOf width entry → IsMark (entry / 2 ^ 32)
mark_of_entry width entry it =
    record { tally = it.tally; few = it.is_entry.few; is = mark_in entry it.result it.tally it.is_entry }

pub result_fits : (width entry : ℕ) → IsEntryOf width entry → entry % 2 ^ 32 < 256 ^ width
result_fits width entry it =
    subst (λ (n : ℕ). n < 256 ^ width) (sym (result_in entry it.result it.tally it.is_entry)) it.fits

-- ---- results in their places

pub each_more : (value : ℕ → ℕ) (width index count : ℕ) (output new : List ℕ) → index < count
    → length output ≡ count * width → length new ≡ width → number_of new ≡ value index
    → ((k : ℕ) → k < index → number_of (value_at width k output) ≡ value k) → (k : ℕ) → k < index + 1
    → number_of (value_at width k (put_mid (index * width) (index * width + width - index * width) output new))
    ≡ value k
each_more value width index count output new before size wide here so_far k within =
    let room : index * width ≤ length output = omega (arith, place_below index count width before, size) in
    let written = put_mid (index * width) (index * width + width - index * width) output new in
    ⊎_elim {C = number_of (value_at width k written) ≡ value k}
    (λ (same : k ≡ index). ap (λ (n : ℕ). number_of (value_at width n written)) same
    ∙ ap number_of (latest width index output new room wide) ∙ here ∙ ap value (sym same))
    (λ (other : k ≡ index → ⊥). let earlier_one : k < index = omega (arith, other, within) in
    ap number_of (earlier width k index output new earlier_one room) ∙ so_far k earlier_one)
    (cases_eq k index)

-- what holds of the values up to an index holds of one more
below_more : {P : ℕ → Type 0} (index : ℕ) → P index → ((k : ℕ) → k < index → P k) → (k : ℕ) → k < index + 1 → P k
below_more {P} index here so_far k within =
    ⊎_elim {C = P k} (λ (same : k ≡ index). subst P (sym same) here)
    (λ (other : k ≡ index → ⊥). so_far k (omega (arith, other, within))) (cases_eq k index)

-- what was looked up, the tally of the values since `first` packed in a number
pub record AreLookedUpSince (place : ℕ → ℕ) (size width first index : ℕ) (table output : List ℕ)
    (tally : Tally) (packed : ℕ) : Type 0 where
  pub within : (k : ℕ) → k < index → place k < size
  pub copied : (k : ℕ) → k < index → number_of (value_at width k output) ≡ entry_of table (place k) % 2 ^ 32
  pub counted : IsTallyTotal (λ k. entry_of table (place k) / 2 ^ 32) first index tally packed

module _ (place : ℕ → ℕ) (size width first : ℕ) (table : List ℕ) (tally : Tally) where
  abbrev marks : ℕ → ℕ
  marks k = entry_of table (place k) / 2 ^ 32

  abbrev results : ℕ → ℕ
  results k = entry_of table (place k) % 2 ^ 32

  pub since_none : (output : List ℕ) → AreLookedUp place size width first table output tally
      → AreLookedUpSince place size width first first table output tally 0
  since_none output it =
      record { within = it.within; copied = it.each; counted = total_begun marks first tally it.tally_is }

  pub since_more : (index count : ℕ) (output new : List ℕ) (at packed mark : ℕ) → index < count
      → length output ≡ count * width → length new ≡ width → at ≡ place index → at < size
      → AreEntries width size table → number_of new ≡ entry_of table at % 2 ^ 32
      → mark ≡ entry_of table at / 2 ^ 32
      → AreLookedUpSince place size width first index table output tally packed
      → AreLookedUpSince place size width first (index + 1) table
      (put_mid (index * width) (index * width + width - index * width) output new) tally (packed + mark)
  since_more index count output new at packed mark before long wide at_is within are copied mark_is so_far =
      let one : IsMark (marks index) =
      subst (λ (n : ℕ). IsMark (entry_of table n / 2 ^ 32)) at_is
      (mark_of_entry width (entry_of table at) (are.each at within)) in
      let same : mark ≡ marks index = mark_is ∙ ap (λ (n : ℕ). entry_of table n / 2 ^ 32) at_is in
      record {
        within = below_more index (subst (λ (n : ℕ). n < size) at_is within) so_far.within;
        copied = each_more results width index count output new before long wide
            (copied ∙ ap (λ (n : ℕ). entry_of table n % 2 ^ 32) at_is) so_far.copied;
        counted = subst (λ (n : ℕ). IsTallyTotal marks first (index + 1) tally (packed + n)) (sym same)
            (total_more marks first index tally packed one so_far.counted);
      }

  pub since_fits : (index few : ℕ) (output : List ℕ) (packed : ℕ) → index ≡ first + few → few ≤ 31
      → first + few < 2 ^ 64 → AreTalliesAtMost first tally
      → AreLookedUpSince place size width first index table output tally packed → Fits (sum_of tally (unpacked packed))
  since_fits index few output packed last is_few room before it =
      sum_fits (first + few) (sum_of tally (unpacked packed)) room
      (total_done marks first index few tally packed last is_few before it.counted).1

  pub since_done : (index few : ℕ) (output : List ℕ) (all : Tally) (packed : ℕ) → index ≡ first + few → few ≤ 31
      → AreTalliesAtMost first tally → all ≡ sum_of tally (unpacked packed)
      → AreLookedUpSince place size width first index table output tally packed
      → AreLookedUp place size width (first + few) table output all
  since_done index few output all packed last is_few before is it =
      let done = total_done marks first index few tally packed last is_few before it.counted in
      record {
        within = subst (λ (n : ℕ). (k : ℕ) → k < n → place k < size) last it.within;
        each = subst
            (λ (n : ℕ). (k : ℕ) → k < n → number_of (value_at width k output) ≡ results k) last it.copied;
        tally_is = is ∙ done.0;
        most = subst (AreTalliesAtMost (first + few)) (sym is) done.1;
      }

pub none_looked_up : (place : ℕ → ℕ) (size width : ℕ) (table output : List ℕ)
    → AreLookedUp place size width 0 table output nothing
none_looked_up place size width table output =
    record {
      within = λ k h. absurd (omega (arith, h));
      each = λ k h. absurd (omega (arith, h));
      tally_is = nothing_up_to (λ k. entry_of table (place k) / 2 ^ 32);
      most = none_at_most;
    }

-- ---- outcomes

-- one more outcome
tallies_push : {O : Type 0} (tally : O → Tally) (outcomes : List O) (outcome : O)
    → tallies tally (outcomes ++ outcome ∷ []) ≡ sum_of (tallies tally outcomes) (tally outcome)
tallies_push {O} tally outcomes outcome =
    same_tally (sum_by_push (λ (o : O). (tally o).inexact) outcomes outcome)
    (sum_by_push (λ (o : O). (tally o).underflow) outcomes outcome)
    (sum_by_push (λ (o : O). (tally o).overflow) outcomes outcome)
    (sum_by_push (λ (o : O). (tally o).div_by_zero) outcomes outcome)
    (sum_by_push (λ (o : O). (tally o).invalid) outcomes outcome)
    (sum_by_push (λ (o : O). (tally o).nans) outcomes outcome)

-- outcomes in their places, the tallies of which have that total
pub record HaveTotal {O : Type 0} (Holds : ℕ → List ℕ → O → Type 0) (tally : O → Tally) (width count : ℕ)
    (bytes : List ℕ) (all : Tally) : Type 0 where
  pub outcomes : List O
  pub places : AreInPlaces Holds width count bytes outcomes
  pub total_is : all ≡ tallies tally outcomes

pub outcomes_of : {O : Type 0} (Holds : ℕ → List ℕ → O → Type 0) (tally : O → Tally) (marks : ℕ → ℕ)
    (width : ℕ) (bytes : List ℕ) (count : ℕ)
    → ((k : ℕ) → k < count → (o : O) × Holds k (value_at width k bytes) o × (unpacked (marks k) ≡ tally o))
    → HaveTotal Holds tally width count bytes (total marks count)
unfolding total
outcomes_of {O} Holds tally marks width bytes zero each =
    record { outcomes = []; places = places_none Holds width bytes; total_is = refl }
outcomes_of {O} Holds tally marks width bytes (suc count) each =
    let before = outcomes_of Holds tally marks width bytes count (λ k h. each k (omega (arith, h))) in
    let last = each count (omega arith) in
    record {
      outcomes = before.outcomes ++ last.0 ∷ [];
      places = places_push Holds width count bytes before.outcomes last.0 last.1 before.places;
      total_is = ap₂ sum_of before.total_is last.2 ∙ sym (tallies_push tally before.outcomes last.0);
    }

-- ---- tables

module _ {O : Type 0} (Answers : ℕ → ℕ → O → Type 0) (tally : O → Tally) where
  pub no_entries : (table : List ℕ) → IsEntryTable Answers tally 0 table
  no_entries table = record { outcomes = []; places = places_none (HasEntry Answers tally) 8 table }

  pub entries_more : (place size : ℕ) (table entry : List ℕ) (result : ℕ) (outcome : O) → place < size
      → length table ≡ size * 8 → length entry ≡ 8 → Answers place result outcome → result < 2 ^ 32
      → AreTalliesAtMost 1 (tally outcome) → number_of entry ≡ result + 2 ^ 32 * packed_of (tally outcome)
      → IsEntryTable Answers tally place table
      → IsEntryTable Answers tally (place + 1) (put_mid (place * 8) (place * 8 + 8 - place * 8) table entry)
  entries_more place size table entry result outcome within long wide is fits few parts so_far =
      let made : HasEntry Answers tally place entry outcome = record {
        result = result;
        is_answer = is;
        is_entry = record { parts = parts; result_fits = fits; few = few };
      } in
      record {
        outcomes = so_far.outcomes ++ outcome ∷ [];
        places = places_more (HasEntry Answers tally) 8 place size table entry so_far.outcomes outcome within long wide
            made so_far.places;
      }

  -- the entry of a place
  pub found : (place size : ℕ) (table : List ℕ) → place < size → IsEntryTable Answers tally size table
      → (outcome : O) × HasEntry Answers tally place (value_at 8 place table) outcome
  found place size table within is =
      let one = element is.outcomes place (subst (λ (n : ℕ). place < n) (sym is.places.size) within) in (
        one.0,
        subst (λ o. IfSome o (λ e. HasEntry Answers tally place (value_at 8 place table) e)) one.1
            (is.places.each place),
      )

  pub are_entries : (width size : ℕ) (table : List ℕ) → length table ≡ size * 8
      → ((place result : ℕ) (outcome : O) → Answers place result outcome → result < 256 ^ width)
      → IsEntryTable Answers tally size table → AreEntries width size table
  are_entries width size table room fits is =
      record {
        room = room;
        each = λ place within. let one = found place size table within is in
            record {
              result = one.1.result;
              tally = tally one.0;
              is_entry = one.1.is_entry;
              fits = fits place one.1.result one.0 one.1.is_answer;
            };
      }

  -- the outcomes of what was looked up
  pub looked_up : (place : ℕ → ℕ) (size width count : ℕ) (table output : List ℕ) (all : Tally)
      → IsEntryTable Answers tally size table → AreLookedUp place size width count table output all
      → HaveTotal (λ k bytes outcome. Answers (place k) (number_of bytes) outcome) tally width count output all
  looked_up place size width count table output all is it =
      let marks : ℕ → ℕ = λ k. entry_of table (place k) / 2 ^ 32 in
      let Holds : ℕ → List ℕ → O → Type 0 = λ k bytes outcome. Answers (place k) (number_of bytes) outcome in
      subst (λ (t : Tally). HaveTotal Holds tally width count output t) (sym it.tally_is)
      (outcomes_of Holds tally marks width output count (λ k h.
      let one = found (place k) size table (it.within k h) is in
      let entry = one.1.is_entry in
      let same = it.each k h ∙ result_in (entry_of table (place k)) one.1.result (tally one.0) entry in
      let mark = mark_in (entry_of table (place k)) one.1.result (tally one.0) entry in (
        one.0,
        subst (λ (n : ℕ). Answers (place k) n one.0) (sym same) one.1.is_answer,
        ap unpacked mark ∙ taken_out (tally one.0) 1 (lit≤ tt) entry.few,
      )))
