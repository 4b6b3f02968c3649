-- Results in the places of a table.
use Rattle.std.proofs.Common.{◌≡◌, ℕ, ◌+◌, ◌-◌, ◌*◌, ◌^◌, ◌<◌, ◌≤◌, List, length}
use Rattle.std.proofs.Common.{take, set, Option, Some, sym, ap, ◌∙◌, subst, arith}
use Rattle.std.proofs.{Math.Path.ap₂, lemmas.List.take_more_set, lemmas.Option.IfSome_then}
use Rattle.std.specs.Prelude.{slice_get, IfSome}
use Rattle.apfloat_arrays.specs.declared.{counts.Counts.Counts, counts.Outcome.Outcome, tallies.Tally.Tally}
use Rattle.apfloat_arrays.specs.Blocks.{AreInPlaces, IsBlock, value_at}
use Rattle.apfloat_arrays.specs.{Bytes.number_of, Entries.AreEntries, Entries.AreLookedUp, Tables.IsConvertedIn}
use Rattle.apfloat_arrays.specs.{Tables.IsResultTable, Tables.IsTable, Tables.outcome_tally, Tallies.counts_with}
use Rattle.apfloat_arrays.proofs.{LittleEndian.fits, Places.places_more}
use Rattle.apfloat_arrays.proofs.TalliedResults.{are_entries, looked_up as outcomes_looked_up}
use borrow.Rule.Slice.PartMut.{put_mid}

-- one more result is written to its place
pub table_more : {O : Type 0} (Holds : ℕ → List ℕ → O → Type 0) (width index count : ℕ) (bytes new : List ℕ)
    (outcomes : List O) (outcome : O) → index < count → length outcomes ≡ count → length bytes ≡ count * width
    → length new ≡ width → Holds index new outcome → AreInPlaces Holds width index bytes (take index outcomes)
    → AreInPlaces Holds width (index + 1) (put_mid (index * width) (index * width + width - index * width) bytes new)
    (take (index + 1) (set outcomes index outcome))
table_more {O} Holds width index count bytes new outcomes outcome before all size wide here so_far =
    subst
    (λ (xs : List O). AreInPlaces Holds width (index + 1)
    (put_mid (index * width) (index * width + width - index * width) bytes new) xs)
    (sym (take_more_set outcomes index outcome (omega arith)))
    (places_more Holds width index count bytes new (take index outcomes) outcome before size wide here so_far)

module _ (Gives : ℕ → ℕ → Outcome → Type 0) where
  -- what a look-up copies
  pub looked_up : (width count place at size : ℕ) (values new : List ℕ) (outcomes : List Outcome)
      (outcome : Outcome) → IsTable Gives width count values outcomes → slice_get outcomes place ≡ Some outcome
      → new ≡ value_at size place values → size ≡ width → place ≡ at → Gives at (number_of new) outcome
  looked_up width count place at size values new outcomes outcome table found copied wide is =
      let here : Gives place (number_of (value_at width place values)) outcome =
      subst (λ (o : Option Outcome). IfSome o (λ x. Gives place (number_of (value_at width place values)) x)) found
      (table.each place) in
      let same : value_at width place values ≡ new = ap (λ (n : ℕ). value_at n place values) (sym wide) ∙ sym copied in
      subst (λ (n : ℕ). Gives n (number_of new) outcome) is
      (subst (λ (bytes : List ℕ). Gives place (number_of bytes) outcome) same here)

  -- the results fit in the bytes of a value of the target
  pub entries_of : (bits width size : ℕ) (table : List ℕ)
      → ((place result : ℕ) (outcome : Outcome) → Gives place result outcome → result < 2 ^ bits)
      → length table ≡ size * 8 → bits ≤ 8 * width → IsResultTable Gives size table → AreEntries width size table
  entries_of bits width size table few room wide is =
      are_entries Gives outcome_tally width size table room
      (λ place result outcome made. fits result bits width (few place result outcome made) wide) is

  -- the values whose results were looked up are converted
  pub block_looked_up : (source width size count : ℕ) (input output table : List ℕ) (tally : Tally)
      (counts : Counts) → IsResultTable Gives size table
      → AreLookedUp (λ k. number_of (value_at source k input)) size width count table output tally
      → counts ≡ counts_with count tally → IsBlock (IsConvertedIn Gives) source width count input output counts
  block_looked_up source width size count input output table tally counts is it counts_are =
      let found = outcomes_looked_up Gives outcome_tally (λ k. number_of (value_at source k input)) size width count
      table output tally is it in
      record {
        outcomes = found.outcomes;
        size = found.places.size;
        each = λ index. IfSome_then (slice_get found.outcomes index) (found.places.each index)
            (λ outcome made. made);
        counted = counts_are ∙ ap₂ counts_with (sym found.places.size) found.total_is;
      }
