-- Lists: items that pass a test, runs, filters, and items at their places.
use mathlib.Core.Bool.{Bool}
use Rattle.std.proofs.Common.{◌≡◌, ◌⊎◌, ℕ, true, false, cond, refl, sym, ap, ◌∙◌, List, [], ◌∷◌, ◌++◌, length, take}
use Rattle.std.proofs.Common.{drop, get_or, filter, zero, suc, ◌-◌, ◌<◌, ◌≤◌, Some, subst, inl, inr, arith}
use Rattle.std.proofs.Common.{append_assoc}
use Rattle.std.proofs.lemmas.{Bool.and_parts, Bool.and_from, Bool.cases_Bool, Bool.false≢true, List.take_all}
use Rattle.std.specs.Prelude.{slice_get}
use Rattle.apfloat_model.specs.texts.Digits.{every, begins, run, after_run, is_empty}

-- ---- members that pass

-- if the concatenation of two lists passes a test, each of them does
pub every-append : (test : ℕ → Bool) (xs ys : List ℕ) → every test (xs ++ ys) ≡ true
    → (every test xs ≡ true) × (every test ys ≡ true)
every-append test [] ys h = (refl, h)
every-append test (c ∷ xs) ys h =
    let p = and_parts (test c) (every test (xs ++ ys)) h in
    let q = every-append test xs ys p.1 in
    (and_from (test c) (every test xs) p.0 q.0, q.1)

-- if both lists pass a test, so does their concatenation
pub append-every : (test : ℕ → Bool) (xs ys : List ℕ) → every test xs ≡ true → every test ys ≡ true
    → every test (xs ++ ys) ≡ true
append-every test [] ys h g = g
append-every test (c ∷ xs) ys h g =
    let p = and_parts (test c) (every test xs) h in
    and_from (test c) (every test (xs ++ ys)) p.0 (append-every test xs ys p.1 g)

-- a list that passes a test passes a weaker one
pub every_weaker : (test other : ℕ → Bool) → ((c : ℕ) → test c ≡ true → other c ≡ true) → (xs : List ℕ)
    → every test xs ≡ true → every other xs ≡ true
every_weaker test other w [] h = refl
every_weaker test other w (c ∷ xs) h =
    let p = and_parts (test c) (every test xs) h in
    and_from (other c) (every other xs) (w c p.0) (every_weaker test other w xs p.1)

-- ---- runs

-- a run extends over a list that passes its test, up to a list whose first item does not pass it
pub run_through : (test : ℕ → Bool) (xs rest : List ℕ) → every test xs ≡ true → begins test rest ≡ false
    → run test (xs ++ rest) ≡ xs
run_through test [] [] h b = refl
run_through test [] (c ∷ rest) h b = rw b refl
run_through test (c ∷ xs) rest h b =
    let p = and_parts (test c) (every test xs) h in
    rw p.0 (ap (λ (t : List ℕ). c ∷ t) (run_through test xs rest p.1 b))

-- if a run extends up to a second list, that list follows the run
pub after_run_through : (test : ℕ → Bool) (xs rest : List ℕ) → every test xs ≡ true → begins test rest ≡ false
    → after_run test (xs ++ rest) ≡ rest
after_run_through test [] [] h b = refl
after_run_through test [] (c ∷ rest) h b = rw b refl
after_run_through test (c ∷ xs) rest h b =
    let p = and_parts (test c) (every test xs) h in
    rw p.0 (after_run_through test xs rest p.1 b)

-- a list is its run and what follows it
pub split_run : (test : ℕ → Bool) (xs : List ℕ) → xs ≡ run test xs ++ after_run test xs
split_run test [] = refl
split_run test (c ∷ xs) = go (test c) (split_run test xs)
  where
    go : (passes : Bool) → xs ≡ run test xs ++ after_run test xs
        → c ∷ xs ≡ cond passes (c ∷ run test xs) [] ++ cond passes (after_run test xs) (c ∷ xs)
    go true e = ap (λ (t : List ℕ). c ∷ t) e
    go false e = refl

-- the run passes its test
pub run_passes : (test : ℕ → Bool) (xs : List ℕ) → every test (run test xs) ≡ true
run_passes test [] = refl
run_passes test (c ∷ xs) = go (cases_Bool (test c)) (run_passes test xs)
  where
    go : (test c ≡ true) ⊎ (test c ≡ false) → every test (run test xs) ≡ true
        → every test (cond (test c) (c ∷ run test xs) []) ≡ true
    go (inl e) h = rw (e, e, h) refl
    go (inr e) h = rw e refl

-- what follows the run does not begin with an item that passes the test
pub run_stops : (test : ℕ → Bool) (xs : List ℕ) → begins test (after_run test xs) ≡ false
run_stops test [] = refl
run_stops test (c ∷ xs) = go (cases_Bool (test c)) (run_stops test xs)
  where
    go : (test c ≡ true) ⊎ (test c ≡ false) → begins test (after_run test xs) ≡ false
        → begins test (cond (test c) (after_run test xs) (c ∷ xs)) ≡ false
    go (inl e) h = rw e h
    go (inr e) h = rw e e

-- what follows a run passes each test that the whole list passes
pub after_passes : (test other : ℕ → Bool) (xs : List ℕ) → every other xs ≡ true
    → every other (after_run test xs) ≡ true
after_passes test other [] h = refl
after_passes test other (c ∷ xs) h = go (test c) (after_passes test other xs (and_parts (other c) (every other xs) h).1)
  where
    go : (passes : Bool) → every other (after_run test xs) ≡ true
        → every other (cond passes (after_run test xs) (c ∷ xs)) ≡ true
    go true g = g
    go false g = h

-- ---- filters

-- a list whose items all pass the filter is unchanged
pub filter_all : (test : ℕ → Bool) (xs : List ℕ) → every test xs ≡ true → filter test xs ≡ xs
filter_all test [] h = refl
filter_all test (c ∷ xs) h =
    let p = and_parts (test c) (every test xs) h in
    rw p.0 (ap (λ (t : List ℕ). c ∷ t) (filter_all test xs p.1))

-- if all items pass a test that excludes the filter's, nothing is left
pub filter_none : (test other : ℕ → Bool) → ((c : ℕ) → test c ≡ true → other c ≡ false) → (xs : List ℕ)
    → every test xs ≡ true → filter other xs ≡ []
filter_none test other w [] h = refl
filter_none test other w (c ∷ xs) h =
    let p = and_parts (test c) (every test xs) h in
    rw (w c p.0) (filter_none test other w xs p.1)

-- ---- groups

-- three parts before a tail, grouped together
pub regroup : (whole point fraction tail : List ℕ)
    → whole ++ (point ++ (fraction ++ tail)) ≡ (whole ++ (point ++ fraction)) ++ tail
regroup whole point fraction tail =
    ap (λ (t : List ℕ). whole ++ t) (sym (append_assoc point fraction tail)) ∙
    sym (append_assoc whole (point ++ fraction) tail)

-- ---- items by their places

-- the items of the first of two concatenated lists keep their places
pub get_left : {X : Type 0} (xs ys : List X) (k : ℕ) → k < length xs → slice_get (xs ++ ys) k ≡ slice_get xs k
get_left [] ys k within = absurd (omega arith)
get_left (x ∷ xs) ys zero within = refl
get_left (x ∷ xs) ys (suc k) within = get_left xs ys k (omega arith)

-- an item appended to a list has its length as its place
pub get_last : {X : Type 0} (xs : List X) (last : X) → slice_get (xs ++ last ∷ []) (length xs) ≡ Some last
get_last [] y = refl
get_last (x ∷ xs) y = get_last xs y

-- ---- first items

-- a list that is not empty has an item
pub some_length : (xs : List ℕ) → is_empty xs ≡ false → 1 ≤ length xs
some_length [] h = absurd (false≢true (sym h))
some_length (c ∷ xs) h = omega arith

-- a list with a first item, as a pattern takes it apart
pub parted : (P : List ℕ → Type 0) (xs : List ℕ) → 1 ≤ length xs → P xs
    → P (get_or xs 0 0 ∷ take (length xs - 1) (drop 1 xs))
parted P [] h p = absurd (omega (arith, h))
parted P (x ∷ xs) h p =
    let e : length (x ∷ xs) - 1 ≡ length xs = omega arith in
    let t : take (length (x ∷ xs) - 1) xs ≡ xs = ap (λ (n : ℕ). take n xs) e ∙ take_all (length xs) xs (omega arith) in
    subst (λ (l : List ℕ). P (x ∷ l)) (sym t) p

-- ---- lists with items

-- a list with an item is not empty
pub not_empty : (xs : List ℕ) → 1 ≤ length xs → is_empty xs ≡ false
not_empty [] h = absurd (omega (arith, h))
not_empty (c ∷ xs) h = refl

-- a list followed by an item is not empty
pub not_empty_through : (xs : List ℕ) (item : ℕ) (rest : List ℕ) → is_empty (xs ++ (item ∷ rest)) ≡ false
not_empty_through [] item rest = refl
not_empty_through (x ∷ xs) item rest = refl
