-- A block after the values that were converted before it.
use Rattle.std.proofs.{Math.Nat.min-eq_left, Math.Nat.mul-le-mul_right, Math.Nat.suc-mul, lemmas.Bool.cases_lt}
use Rattle.std.proofs.Common.{◌≡◌, ℕ, suc, ◌+◌, ◌-◌, ◌*◌, ◌^◌, ◌<◌, ◌≤◌, Bool, List, [], ◌∷◌, ◌++◌, length, take, drop}
use Rattle.std.proofs.Common.{if◌then◌else◌, Option, refl, sym, ap, ◌∙◌, subst, ⊎_elim, zero-add, arith}
use Rattle.std.proofs.lemmas.{List.drop-drop, List.Sums.sum_by-append, Option.slice_get_past, Slice.between-put_mid}
use Rattle.std.proofs.lemmas.List.{drop-take, length-append, take-take, Edits.length-between, Sums.count_by-le-length}
use Rattle.std.specs.Prelude.{slice_get, slice_range, IfSome, count_by}
use Rattle.apfloat_model.proofs.general.ListLaws.{get_left}
use Rattle.apfloat_arrays.specs.declared.counts.{Counts.Counts, Outcome.Outcome}
use Rattle.apfloat_arrays.specs.Blocks.{IsBlock, value_at}
use Rattle.apfloat_arrays.specs.Outcomes.{became_nan, counts_of, raised, sum_of, sum_to_top}
use Rattle.apfloat_arrays.proofs.Places.{before_write}
use borrow.Rule.Slice.PartMut.{put_mid}

-- ---- lists

-- a range of a range
range_of_range : {X : Type 0} (xs : List X) (a b i j : ℕ) → i ≤ j → a + j ≤ b
    → slice_range (slice_range xs a b) i j ≡ slice_range xs (a + i) (a + j)
range_of_range xs a b i j order within =
    let room : b - a ≡ i + (b - a - i) = omega (arith, order, within) in
    let size : j - i ≤ b - a - i = omega (arith, order, within) in
    let same : a + j - (a + i) ≡ j - i = omega arith in
    ap (λ n. take (j - i) (drop i (take n (drop a xs)))) room
    ∙ ap (λ ys. take (j - i) ys) (drop-take i (b - a - i) (drop a xs))
    ∙ take-take (j - i) (b - a - i) (drop i (drop a xs)) size ∙ ap (λ ys. take (j - i) ys) (drop-drop i a xs)
    ∙ ap (λ n. take n (drop (a + i) xs)) (sym same)

-- an item after the first list is one of the second
get_right : {X : Type 0} (xs ys : List X) (k : ℕ) → slice_get (xs ++ ys) (length xs + k) ≡ slice_get ys k
get_right [] ys k = ap (slice_get ys) (zero-add k)
get_right (x ∷ xs) ys k =
    let next : suc (length xs) + k ≡ suc (length xs + k) = omega arith in
    ap (slice_get (x ∷ (xs ++ ys))) next ∙ get_right xs ys k

-- ---- counts

-- no sum stops at the greatest value
count_join : (test : Outcome → Bool) (first second : List Outcome) → length first + length second < 2 ^ 64
    → sum_to_top (count_by test first) (count_by test second) ≡ count_by test (first ++ second)
count_join test first second few =
    let low = count_by-le-length test first in
    let high = count_by-le-length test second in
    let all : count_by test (first ++ second) ≡ count_by test first + count_by test second =
    sum_by-append (λ x. if test x then 1 else 0) first second in
    min-eq_left (omega (arith, low, high, few)) ∙ sym all

-- the counts of outcomes one after another are the sums of the counts
pub counts_join : (first second : List Outcome) → length first + length second < 2 ^ 64
    → sum_of (counts_of first) (counts_of second) ≡ counts_of (first ++ second)
counts_join first second few =
    let all : length (first ++ second) ≡ length first + length second = length-append first second in
    let values : sum_to_top (length first) (length second) ≡ length (first ++ second) =
    min-eq_left (omega (arith, few)) ∙ sym all in
    let inexact = count_join (raised 16) first second few in
    let underflow = count_join (raised 8) first second few in
    let overflow = count_join (raised 4) first second few in
    let invalid = count_join (raised 1) first second few in
    let nans = count_join became_nan first second few in
    cc

-- ---- values in their places

-- the value of an index from the start of a range on is a value of the range
pub in_range : (width index more k : ℕ) (bytes : List ℕ) → k < more
    → value_at width k (slice_range bytes (index * width) ((index + more) * width)) ≡ value_at width (index + k) bytes
in_range width index more k bytes within =
    let next : suc k * width ≤ more * width = mul-le-mul_right width within in
    let one_more : suc k * width ≡ k * width + width = suc-mul k width in
    let ends : (index + more) * width ≡ index * width + more * width = omega arith in
    let starts : (index + k) * width ≡ index * width + k * width = omega arith in
    let last : index * width + (k * width + width) ≡ (index + k) * width + width = omega (arith, starts) in
    range_of_range bytes (index * width) ((index + more) * width) (k * width) (k * width + width) (omega arith)
    (omega (arith, next, one_more, ends)) ∙ (λ i. slice_range bytes (sym starts i) (last i))

-- The values before `index` are in their places, and `more` values from there on are converted in the bytes `new`.
pub block_joined : (Holds : List ℕ → List ℕ → Outcome → Type 0) (source target index more count : ℕ)
    (input output new : List ℕ) (counts others : Counts)
    → index + more ≤ count → count < 2 ^ 64 → length output ≡ count * target → length new ≡ more * target
    → IsBlock Holds source target more (slice_range input (index * source) ((index + more) * source)) new others
    → IsBlock Holds source target index input output counts → IsBlock Holds source target (index + more) input
    (put_mid (index * target) ((index + more) * target - index * target) output new) (sum_of counts others)
block_joined Holds source target index more count input output new counts others within few room width block so_far =
    let from = index * target in
    let to = (index + more) * target in
    let written = put_mid from (to - from) output new in
    let outcomes = so_far.outcomes ++ block.outcomes in
    let size : length (so_far.outcomes ++ block.outcomes) ≡ index + more =
    length-append so_far.outcomes block.outcomes ∙ (λ i. so_far.size i + block.size i) in
    let all : (index + more) * target ≤ count * target = mul-le-mul_right target within in
    let ends : (index + more) * target ≡ index * target + more * target = omega arith in
    let from_in : from ≤ length output = omega (arith, all, ends, room) in
    let put : slice_range written from to ≡ new =
    between-put_mid from (to - from) output new to from_in (omega (arith, ends, width)) in
    let Says : ℕ → Type 0 = λ k. IfSome (slice_get outcomes k)
    (λ o. Holds (value_at source k input) (value_at target k written) o) in
    let early : (k : ℕ) → k < index → Says k = λ k before.
    let found : slice_get outcomes k ≡ slice_get so_far.outcomes k =
    get_left so_far.outcomes block.outcomes k (omega (arith, so_far.size, before)) in
    let same = before_write target index from to k output new refl before from_in in
    subst (λ (found : Option Outcome). IfSome found
    (λ o. Holds (value_at source k input) (value_at target k written) o)) (sym found)
    (subst (λ (bytes : List ℕ). IfSome (slice_get so_far.outcomes k) (λ o. Holds (value_at source k input) bytes o))
    (sym same) (so_far.each k)) in
    let late : (k : ℕ) → k < more → Says (index + k) = λ k inside.
    let found : slice_get outcomes (index + k) ≡ slice_get block.outcomes k =
    ap (λ (n : ℕ). slice_get outcomes (n + k)) (sym so_far.size) ∙ get_right so_far.outcomes block.outcomes k in
    let made = ap (value_at target k) (sym put) ∙ in_range target index more k written inside in
    subst (λ (found : Option Outcome). IfSome found
    (λ o. Holds (value_at source (index + k) input) (value_at target (index + k) written) o)) (sym found)
    (subst (λ (bytes : List ℕ). IfSome (slice_get block.outcomes k)
    (λ o. Holds bytes (value_at target (index + k) written) o)) (in_range source index more k input inside)
    (subst (λ (bytes : List ℕ). IfSome (slice_get block.outcomes k)
    (λ o. Holds (value_at source k (slice_range input (index * source) ((index + more) * source))) bytes o)) made
    (block.each k))) in
    record {
      outcomes = outcomes;
      size = size;
      each = λ k. ⊎_elim {C = Says k} (early k)
          (λ after. ⊎_elim {C = Says k}
          (λ inside.
          let back : index + (k - index) ≡ k = omega (arith, after) in
          subst Says back (late (k - index) (omega (arith, after, inside))))
          (λ past. subst (λ (found : Option Outcome). IfSome found
          (λ o. Holds (value_at source k input) (value_at target k written) o))
          (sym (slice_get_past outcomes k (omega (arith, size, past)))) tt)
          (cases_lt k (index + more)))
          (cases_lt k index);
      counted = (λ i. sum_of (so_far.counted i) (block.counted i))
          ∙ counts_join so_far.outcomes block.outcomes (omega (arith, so_far.size, block.size, within, few));
    }

-- the same for the last values
pub block_rest : (Holds : List ℕ → List ℕ → Outcome → Type 0) (source target done count : ℕ)
    (input output new : List ℕ) (counts others : Counts)
    → done ≤ count → count < 2 ^ 64 → length output ≡ count * target
    → length new ≡ (count - done) * target
    → IsBlock Holds source target (count - done) (slice_range input (done * source) (count * source)) new others
    → IsBlock Holds source target done input output counts
    → IsBlock Holds source target count input (put_mid (done * target) (count * target - done * target) output new)
    (sum_of counts others)
block_rest Holds source target done count input output new counts others before few room width block so_far =
    let all : done + (count - done) ≡ count = omega (arith, before) in
    let there : IsBlock Holds source target (count - done)
    (slice_range input (done * source) ((done + (count - done)) * source)) new others =
    subst
    (λ (n : ℕ). IsBlock Holds source target (count - done)
    (slice_range input (done * source) (n * source)) new others) (sym all) block in
    subst
    (λ (n : ℕ). IsBlock Holds source target n input (put_mid (done * target) (n * target - done * target) output new)
    (sum_of counts others)) all
    (block_joined Holds source target done (count - done) count input output new counts others
    (omega (arith, before)) few
    room width there so_far)

-- how many bytes the last values take
pub rest_size : (target done count : ℕ) (bytes : List ℕ) → done ≤ count → length bytes ≡ count * target
    → length (slice_range bytes (done * target) (count * target)) ≡ (count - done) * target
rest_size target done count bytes before size =
    let all : done + (count - done) ≡ count = omega (arith, before) in
    let whole : (done + (count - done)) * target ≡ count * target = ap (λ (n : ℕ). n * target) all in
    let parts : (done + (count - done)) * target ≡ done * target + (count - done) * target = omega arith in
    length-between bytes (done * target) (count * target) (omega (arith, size))
    ∙ (let rest : count * target - done * target ≡ (count - done) * target = omega (arith, whole, parts) in rest)

-- the same block, with its width renamed
pub block_width : (Holds : List ℕ → List ℕ → Outcome → Type 0) (source target other count : ℕ)
    (input output : List ℕ) (counts : Counts) → target ≡ other → IsBlock Holds source target count input output counts
    → IsBlock Holds source other count input output counts
block_width Holds source target other count input output counts same block =
    subst (λ (n : ℕ). IsBlock Holds source n count input output counts) same block
