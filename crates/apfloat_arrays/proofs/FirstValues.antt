-- The first values of a block whose others are zeros, which nothing but the number of values counts.
use Rattle.std.proofs.Common.{◌≡◌, ℕ, zero, suc, ◌+◌, ◌-◌, ◌*◌, ◌<◌, ◌≤◌, Bool, false}
use Rattle.std.proofs.Common.{⊎_elim, List, ◌++◌, length, take, drop, Option, Some, sym, ◌∙◌, ap, subst}
use Rattle.std.proofs.{Common.arith, Math.Seq.take-append_seam, Math.Seq.take-length, lemmas.Bool.cases_lt}
use Rattle.std.proofs.lemmas.List.{drop-replicate, get_or-take, length-take-le, take-replicate, Sums.count_by_more_no}
use Rattle.std.proofs.lemmas.Option.{slice_get-get_or, slice_get_past}
use Rattle.std.proofs.lemmas.Slice.{between_from_start, drop-append-drop}
use Rattle.std.specs.Prelude.{slice_get, slice_range, IfSome, count_by, get_or, replicate}
use Rattle.apfloat_arrays.specs.declared.counts.{Counts.Counts, Outcome.Outcome}
use Rattle.apfloat_arrays.specs.{Blocks.IsBlock, Blocks.value_at, Bytes.number_of, Outcomes.became_nan, Outcomes.raised}
use Rattle.apfloat_arrays.proofs.{Joined.in_range, Rows.IsQuiet}

-- ---- counts

count_more : (test : Outcome → Bool) (outcomes : List Outcome) (some : Outcome) (count more : ℕ)
    → count + more ≤ length outcomes
    → ((k : ℕ) → count ≤ k → k < length outcomes → test (get_or outcomes k some) ≡ false)
    → count_by test (take (count + more) outcomes) ≡ count_by test (take count outcomes)
count_more test outcomes some count zero within quiet =
    let none : count + zero ≡ count = omega arith in ap (λ (n : ℕ). count_by test (take n outcomes)) none
count_more test outcomes some count (suc more) within quiet =
    let next : count + suc more ≡ count + more + 1 = omega arith in
    ap (λ (n : ℕ). count_by test (take n outcomes)) next
    ∙ count_by_more_no test outcomes (count + more) some (omega (arith, within))
    (quiet (count + more) (omega arith) (omega (arith, within)))
    ∙ count_more test outcomes some count more (omega (arith, within)) quiet

count_first : (test : Outcome → Bool) (outcomes : List Outcome) (some : Outcome) (count : ℕ) → count ≤ length outcomes
    → ((k : ℕ) → count ≤ k → k < length outcomes → test (get_or outcomes k some) ≡ false)
    → count_by test outcomes ≡ count_by test (take count outcomes)
count_first test outcomes some count within quiet =
    let rest : count + (length outcomes - count) ≡ length outcomes = omega (arith, within) in
    sym (ap (λ os. count_by test os) (take-length outcomes))
    ∙ sym (ap (λ (n : ℕ). count_by test (take n outcomes)) rest)
    ∙ count_more test outcomes some count (length outcomes - count) (omega (arith, rest)) quiet

-- ---- the block

exact : Outcome
exact = record { status = record { 0 = 0 }; is_nan = false }

pub block_first : (Holds : List ℕ → List ℕ → Outcome → Type 0) (source target all count : ℕ)
    (input first output : List ℕ) (counts : Counts) → count ≤ all
    → ((k : ℕ) → k < count → value_at source k input ≡ value_at source k first)
    → ((k : ℕ) → count ≤ k → k < all → (bytes : List ℕ) (o : Outcome)
    → Holds (value_at source k input) bytes o → IsQuiet o)
    → IsBlock Holds source target all input output counts
    → IsBlock Holds source target count first (take (count * target) output)
    (record {
      values = count;
      inexact = counts.inexact;
      underflow = counts.underflow;
      overflow = counts.overflow;
      invalid = counts.invalid;
      nans = counts.nans;
    })
block_first Holds source target all count input first output counts within same quiet block =
    let outcomes = block.outcomes in
    let made : List ℕ = take (count * target) output in
    let start : 0 * target ≡ 0 = omega arith in
    let end : (0 + count) * target ≡ count * target = omega arith in
    let front : slice_range output (0 * target) ((0 + count) * target) ≡ take (count * target) output =
    (λ i. slice_range output (start i) (end i)) ∙ between_from_start output (count * target) in
    let size : length block.outcomes ≡ all = block.size in
    let inside : count ≤ length block.outcomes = omega (arith, within, size) in
    let few : length (take count block.outcomes) ≡ count = length-take-le count outcomes inside in
    let held : (k : ℕ) → k < length block.outcomes
    → Holds (value_at source k input) (value_at target k output) (get_or block.outcomes k exact) = λ k low.
    subst
    (λ (found : Option Outcome). IfSome found (λ o. Holds (value_at source k input) (value_at target k output) o))
    (slice_get-get_or outcomes k exact low) (block.each k) in
    let nothing : (k : ℕ) → count ≤ k → k < length block.outcomes → IsQuiet (get_or block.outcomes k exact) =
    λ k from low.
    quiet k from (omega (arith, low, size)) (value_at target k output) (get_or outcomes k exact) (held k low) in
    let inexact : counts.inexact ≡ count_by (raised 16) (take count block.outcomes) =
    ap (λ (c : Counts). c.inexact) block.counted
    ∙ count_first (raised 16) outcomes exact count inside (λ k from low. (nothing k from low).inexact) in
    let underflow : counts.underflow ≡ count_by (raised 8) (take count block.outcomes) =
    ap (λ (c : Counts). c.underflow) block.counted
    ∙ count_first (raised 8) outcomes exact count inside (λ k from low. (nothing k from low).underflow) in
    let overflow : counts.overflow ≡ count_by (raised 4) (take count block.outcomes) =
    ap (λ (c : Counts). c.overflow) block.counted
    ∙ count_first (raised 4) outcomes exact count inside (λ k from low. (nothing k from low).overflow) in
    let invalid : counts.invalid ≡ count_by (raised 1) (take count block.outcomes) =
    ap (λ (c : Counts). c.invalid) block.counted
    ∙ count_first (raised 1) outcomes exact count inside (λ k from low. (nothing k from low).invalid) in
    let nans : counts.nans ≡ count_by became_nan (take count block.outcomes) =
    ap (λ (c : Counts). c.nans) block.counted
    ∙ count_first became_nan outcomes exact count inside (λ k from low. (nothing k from low).nans) in
    let Says : ℕ → Type 0 = λ k. IfSome (slice_get (take count block.outcomes) k)
    (λ o. Holds (value_at source k first) (value_at target k made) o) in
    record {
      outcomes = take count outcomes;
      size = few;
      each = λ k. ⊎_elim {C = Says k}
          (λ (low : k < count).
          let found : slice_get (take count block.outcomes) k ≡ Some (get_or block.outcomes k exact) =
          slice_get-get_or (take count outcomes) k exact (omega (arith, low, few))
          ∙ ap Some (get_or-take count outcomes k exact low) in
          let place : 0 + k ≡ k = omega arith in
          let there : value_at target k output ≡ value_at target k made =
          sym (sym (ap (value_at target k) front) ∙ in_range target 0 count k output low
          ∙ ap (λ (n : ℕ). value_at target n output) place) in
          subst (λ (f : Option Outcome). IfSome f (λ o. Holds (value_at source k first) (value_at target k made) o))
          (sym found)
          (subst (λ (bytes : List ℕ). Holds (value_at source k first) bytes (get_or block.outcomes k exact)) there
          (subst (λ (bytes : List ℕ). Holds bytes (value_at target k output) (get_or block.outcomes k exact))
          (same k low) (held k (omega (arith, low, inside))))))
          (λ (past : count ≤ k).
          subst (λ (f : Option Outcome). IfSome f (λ o. Holds (value_at source k first) (value_at target k made) o))
          (sym (slice_get_past (take count outcomes) k (omega (arith, few, past)))) tt)
          (cases_lt k count);
      counted = λ i. record {
        values = sym few i;
        inexact = inexact i;
        underflow = underflow i;
        overflow = overflow i;
        invalid = invalid i;
        nans = nans i;
      };
    }

-- ---- values with zeros after them

pub padded_first : (count k : ℕ) (zeros input : List ℕ) → length input ≡ count * 4 → k < count
    → value_at 4 k (input ++ drop (count * 4) zeros) ≡ value_at 4 k input
padded_first count k zeros input size low =
    let padded : List ℕ = input ++ drop (count * 4) zeros in
    let place : 0 + k ≡ k = omega arith in
    let end : (0 + count) * 4 ≡ length input = omega (arith, size) in
    let whole : slice_range (input ++ drop (count * 4) zeros) 0 ((0 + count) * 4) ≡ input =
    ap (λ (n : ℕ). slice_range padded 0 n) end ∙ between_from_start padded (length input)
    ∙ take-append_seam input (drop (count * 4) zeros) in
    sym (sym (ap (value_at 4 k) whole) ∙ in_range 4 0 count k padded low
    ∙ ap (λ (n : ℕ). value_at 4 n padded) place)

pub padded_zero : (count k : ℕ) (input : List ℕ) → length input ≡ count * 4 → count ≤ k → k < 64
    → number_of (value_at 4 k (input ++ drop (count * 4) (replicate 256 0))) ≡ 0
padded_zero count k input size from low =
    let four : k * 4 + 4 - k * 4 ≡ 4 = omega arith in
    ap (λ (xs : List ℕ). number_of (take (k * 4 + 4 - k * 4) xs))
    (drop-append-drop (count * 4) (replicate 256 0) input (k * 4) (omega (arith, from)) size
    ∙ drop-replicate (k * 4) 256 0) ∙ ap (λ (n : ℕ). number_of (take n (replicate (256 - k * 4) 0))) four
    ∙ ap number_of (take-replicate 4 (256 - k * 4) 0 (omega (arith, low)))
