-- One more element is written in its place.
use Rattle.std.proofs.Common.{◌≡◌, ℕ, zero, suc, ◌+◌, ◌-◌, ◌^◌, ◌<◌, ◌≤◌, Bool, true, false, cond, refl, sym, ap, ◌∙◌}
use Rattle.std.proofs.Common.{subst, ⊎_elim, arith, List, [], ◌∷◌, ◌++◌, length, Some}
use Rattle.std.proofs.lemmas.{Bool.cases_lt, List.length_push, Option.slice_get_within}
use Rattle.std.specs.Prelude.{slice_get, slice_set, unwrap_or}
use Rattle.apfloat_model.proofs.general.ListLaws.{get_left, get_last}
use Rattle.small_formats.specs.{declared.blocks.counts.Counts.Counts, blocks.Places.AreCounted}
use Rattle.small_formats.specs.blocks.Places.{BlockCountsHaveRoom, count_raised, counts_of, is_raised, with_status}

-- ---- a write to a list

pub get_set : {X : Type 0} → (xs : List X) (i : ℕ) (y : X) → i < length xs → slice_get (slice_set xs i y) i ≡ Some y
get_set [] i y l = absurd (omega (arith, l))
get_set (x ∷ xs) zero y l = refl
get_set (x ∷ xs) (suc i) y l = get_set xs i y (omega (arith, l))

pub get_other : {X : Type 0} → (xs : List X) (i j : ℕ) (y : X) → (i ≡ j → ⊥)
    → slice_get (slice_set xs i y) j ≡ slice_get xs j
get_other [] i j y n = refl
get_other (x ∷ xs) zero zero y n = absurd (n refl)
get_other (x ∷ xs) zero (suc j) y n = refl
get_other (x ∷ xs) (suc i) zero y n = refl
get_other (x ∷ xs) (suc i) (suc j) y n = get_other xs i j y (λ e. n (ap suc e))

pub length_set : {X : Type 0} → (xs : List X) (i : ℕ) (y : X) → length (slice_set xs i y) ≡ length xs
length_set [] i y = refl
length_set (x ∷ xs) zero y = refl
length_set (x ∷ xs) (suc i) y = ap suc (length_set xs i y)

pub some_same : {X : Type 0} → (a b : X) → Some a ≡ Some b → a ≡ b
some_same a b e = ap (λ o. unwrap_or o a) e

-- ---- counts

push_raised : (flag : ℕ) (flags : List ℕ) (status : ℕ)
    → count_raised flag (flags ++ status ∷ []) ≡ count_raised flag flags + cond (is_raised flag status) 1 0
push_raised flag [] status = let e : cond (is_raised flag status) 1 0 + 0 ≡ 0 + cond (is_raised flag status) 1 0 =
    omega arith in e
push_raised flag (first ∷ flags) status =
    ap (λ n. cond (is_raised flag first) 1 0 + n) (push_raised flag flags status) ∙ omega arith

pub counts_more : (flags : List ℕ) (status : ℕ)
    → with_status (counts_of flags) status ≡ counts_of (flags ++ status ∷ [])
counts_more flags status =
    let invalid = sym (push_raised 1 flags status) in
    let overflow = sym (push_raised 4 flags status) in
    let underflow = sym (push_raised 8 flags status) in
    let inexact = sym (push_raised 16 flags status) in
    cc

pub at_most_all : (flag : ℕ) (flags : List ℕ) → count_raised flag flags ≤ length flags
at_most_all flag [] = omega arith
at_most_all flag (status ∷ flags) = one_more (is_raised flag status) (at_most_all flag flags)
  where
    one_more : (test : Bool) → count_raised flag flags ≤ length flags
        → cond test 1 0 + count_raised flag flags ≤ length (status ∷ flags)
    one_more true rest = omega (arith, rest)
    one_more false rest = omega (arith, rest)

-- ---- the elements before a place

pub record AreWritten {A B : Type 0} (Holds : A → B → ℕ → Type 0) (count : ℕ) (read : List A)
    (written : List B) (counts : Counts) : Type 0 where
  pub flags : List ℕ
  pub flags_size : length flags ≡ count
  pub each : (place : ℕ) (x : A) (y : B) (status : ℕ) → place < count → slice_get read place ≡ Some x
      → slice_get written place ≡ Some y → slice_get flags place ≡ Some status → Holds x y status
  pub counted : counts ≡ counts_of flags

-- counts of fewer elements than a machine word can count
pub room_for : {A B : Type 0} {Holds : A → B → ℕ → Type 0} {count : ℕ} {read : List A} {written : List B}
    {counts : Counts} → AreWritten Holds count read written counts → count < 2 ^ 64 - 1 → BlockCountsHaveRoom counts
room_for {counts = counts} so_far l =
    let flags = so_far.flags in
    let size = so_far.flags_size in
    let a : counts.invalid ≡ count_raised 1 flags = ap (λ (k : Counts). k.invalid) so_far.counted in
    let b : counts.overflow ≡ count_raised 4 flags = ap (λ (k : Counts). k.overflow) so_far.counted in
    let d : counts.underflow ≡ count_raised 8 flags = ap (λ (k : Counts). k.underflow) so_far.counted in
    let f : counts.inexact ≡ count_raised 16 flags = ap (λ (k : Counts). k.inexact) so_far.counted in
    record {
      invalid = omega (arith, a, at_most_all 1 flags, size, l);
      overflow = omega (arith, b, at_most_all 4 flags, size, l);
      underflow = omega (arith, d, at_most_all 8 flags, size, l);
      inexact = omega (arith, f, at_most_all 16 flags, size, l);
    }

pub none_written : {A B : Type 0} → (Holds : A → B → ℕ → Type 0) (read : List A) (written : List B)
    → AreWritten Holds 0 read written (counts_of [])
none_written Holds read written = record {
  flags = [];
  flags_size = refl;
  each = λ place x y status l. absurd (omega (arith, l));
  counted = refl;
}

pub one_written : {A B : Type 0} {Holds : A → B → ℕ → Type 0} {count : ℕ} {read : List A} {written : List B}
    {counts more : Counts} → AreWritten Holds count read written counts → (x : A) (y : B) (status : ℕ)
    → count < length written → slice_get read count ≡ Some x → Holds x y status → more ≡ with_status counts status
    → AreWritten Holds (count + 1) read (slice_set written count y) more
one_written {A} {B} {Holds} {count} {read} {written} so_far x y status l at here counted = record {
  flags = so_far.flags ++ status ∷ [];
  flags_size = length_push so_far.flags status ∙ ap (λ n. n + 1) so_far.flags_size;
  counted = counted ∙ ap (λ (k : Counts). with_status k status) so_far.counted ∙ counts_more so_far.flags status;
  each = λ place x' y' status' before read_at written_at flag_at.
      ⊎_elim
      (λ (k : place < count).
      let other : count ≡ place → ⊥ = λ e. omega (arith, e, k) in
      so_far.each place x' y' status' k read_at
      (sym (get_other written count place y other) ∙ written_at)
      (sym (get_left so_far.flags (status ∷ []) place (omega (arith, k, so_far.flags_size))) ∙ flag_at))
      (λ (k : count ≤ place).
      let same : place ≡ count = omega (arith, k, before) in
      let x_is : x ≡ x' = some_same x x' (sym at ∙ ap (slice_get read) (sym same) ∙ read_at) in
      let y_is : y ≡ y' =
      some_same y y' (sym (get_set written count y l) ∙ ap (slice_get (slice_set written count y)) (sym same)
      ∙ written_at) in
      let status_is : status ≡ status' =
      some_same status status' (sym (get_last so_far.flags status)
      ∙ ap (slice_get (so_far.flags ++ status ∷ [])) (so_far.flags_size ∙ sym same) ∙ flag_at) in
      subst (λ (s : ℕ). Holds x' y' s) status_is
      (subst (λ (b : B). Holds x' b status) y_is (subst (λ (a : A). Holds a y status) x_is here)))
      (cases_lt place count);
}

pub all_written : {A B : Type 0} {Holds : A → B → ℕ → Type 0} {count : ℕ} {read : List A} {written : List B}
    {counts : Counts} → AreWritten Holds count read written counts → count ≡ length read
    → length written ≡ length read → AreCounted Holds read written counts
all_written {read = read} all last size = record {
  flags = all.flags;
  in_places = record {
    same_size = size;
    flags_size = all.flags_size ∙ last;
    each = λ place x y status read_at written_at flag_at. all.each place x y status
        (omega (arith, last, slice_get_within read place x read_at)) read_at written_at flag_at;
  };
  counted = all.counted;
}
