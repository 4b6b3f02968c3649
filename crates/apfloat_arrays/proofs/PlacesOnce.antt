-- Values that are determined in their places are determined as a whole.
use Rattle.std.proofs.Common.{◌≡◌, ℕ, zero, suc, ◌+◌, ◌-◌, ◌*◌, ◌<◌, List, []}
use Rattle.std.proofs.Common.{◌∷◌, ◌++◌, length, take, drop, Option, Some, refl, sym, ◌∙◌, ap, subst}
use Rattle.std.proofs.{Common.arith, Math.Nat.suc-mul, lemmas.List.take-take}
use Rattle.std.proofs.lemmas.{List.take-append-drop, List.length-take, List.length-drop, Slice.between_is}
use Rattle.std.specs.Prelude.{min, slice_get, IfSome}
use Rattle.apfloat_arrays.specs.{Blocks.AreInPlaces, Blocks.value_at, Bytes.AreBytes, Bytes.number_of}

-- ---- bytes

pub bytes_take : (n : ℕ) (bytes : List ℕ) → AreBytes bytes → AreBytes (take n bytes)
bytes_take zero [] h = tt
bytes_take zero (byte ∷ bytes) h = tt
bytes_take (suc n) [] h = tt
bytes_take (suc n) (byte ∷ bytes) h = (h.0, bytes_take n bytes h.1)

pub bytes_drop : (n : ℕ) (bytes : List ℕ) → AreBytes bytes → AreBytes (drop n bytes)
bytes_drop zero [] h = tt
bytes_drop zero (byte ∷ bytes) h = h
bytes_drop (suc n) [] h = tt
bytes_drop (suc n) (byte ∷ bytes) h = bytes_drop n bytes h.1

-- a number has only one encoding in a given number of bytes
pub same_bytes : (bytes other : List ℕ) → AreBytes bytes → AreBytes other → length bytes ≡ length other
    → number_of bytes ≡ number_of other → bytes ≡ other
same_bytes [] [] x y size same = refl
same_bytes [] (b ∷ others) x y size same = absurd (omega (arith, size))
same_bytes (a ∷ bytes) [] x y size same = absurd (omega (arith, size))
same_bytes (a ∷ bytes) (b ∷ others) x y size same =
    let p : a < 256 = x.0 in
    let q : b < 256 = y.0 in
    let first : a ≡ b = omega (arith, same, p, q) in
    let rest : number_of bytes ≡ number_of others = omega (arith, same, first) in
    let shorter : length bytes ≡ length others = omega (arith, size) in
    ap (λ (n : ℕ). n ∷ bytes) first ∙ ap (λ (l : List ℕ). b ∷ l) (same_bytes bytes others x.1 y.1 shorter rest)

-- ---- lists

-- there is an element at each index
pub element : {O : Type 0} (outcomes : List O) (index : ℕ) → index < length outcomes
    → (outcome : O) × (slice_get outcomes index ≡ Some outcome)
element [] index h = absurd (omega (arith, h))
element (outcome ∷ outcomes) zero h = (outcome, refl)
element (outcome ∷ outcomes) (suc index) h = element outcomes index (omega (arith, h))

-- lists of the same length with the same elements are equal
same_elements : {O : Type 0} (outcomes others : List O) → length outcomes ≡ length others
    → ((index : ℕ) (outcome other : O) → slice_get outcomes index ≡ Some outcome → slice_get others index ≡ Some other
    → outcome ≡ other)
    → outcomes ≡ others
same_elements [] [] size each = refl
same_elements [] (p ∷ ps) size each = absurd (omega (arith, size))
same_elements (o ∷ os) [] size each = absurd (omega (arith, size))
same_elements {O} (o ∷ os) (p ∷ ps) size each =
    ap (λ (x : O). x ∷ os) (each 0 o p refl refl) ∙ ap (λ (l : List O). p ∷ l)
    (same_elements os ps (omega (arith, size)) (λ index. each (suc index)))

-- ---- places

-- the bytes of the first places of a list, and those of one more place
one_more_place : (width count : ℕ) (bytes : List ℕ)
    → take (count * width + width) bytes ≡ take (count * width) bytes ++ value_at width count bytes
one_more_place width count bytes =
    let more = take (count * width + width) bytes in
    sym (take-append-drop (count * width) more) ∙ ap (λ (front : List ℕ). front ++ drop (count * width) more)
    (take-take (count * width) (count * width + width) bytes (omega arith))
    ∙ ap (λ (last : List ℕ). take (count * width) bytes ++ last)
    (sym (between_is bytes (count * width) (count * width + width)))

none_taken : (bytes other : List ℕ) → take 0 bytes ≡ take 0 other
none_taken [] [] = refl
none_taken [] (b ∷ other) = refl
none_taken (a ∷ bytes) [] = refl
none_taken (a ∷ bytes) (b ∷ other) = refl

-- lists with the same values in their places are equal there
same_places : (width count : ℕ) (bytes other : List ℕ)
    → ((index : ℕ) → index < count → value_at width index bytes ≡ value_at width index other)
    → take (count * width) bytes ≡ take (count * width) other
same_places width zero bytes other each =
    let none : 0 * width ≡ 0 = omega arith in
    ap (λ (n : ℕ). take n bytes) none ∙ none_taken bytes other ∙ ap (λ (n : ℕ). take n other) (sym none)
same_places width (suc count) bytes other each =
    let split : suc count * width ≡ count * width + width = suc-mul count width in
    let front = same_places width count bytes other (λ index h. each index (omega (arith, h))) in
    ap (λ (n : ℕ). take n bytes) split ∙ one_more_place width count bytes
    ∙ ap (λ (l : List ℕ). l ++ value_at width count bytes) front
    ∙ ap (λ (l : List ℕ). take (count * width) other ++ l) (each count (omega arith))
    ∙ sym (one_more_place width count other)
    ∙ ap (λ (n : ℕ). take n other) (sym split)

-- values in the same place of lists of the same length have the same length
same_size : (width index : ℕ) (bytes other : List ℕ) → length bytes ≡ length other
    → length (value_at width index bytes) ≡ length (value_at width index other)
same_size width index bytes other size =
    let taken = index * width + width - index * width in
    let rest : length (drop (index * width) bytes) ≡ length (drop (index * width) other) =
    length-drop (index * width) bytes ∙ ap (λ (n : ℕ). n - index * width) size
    ∙ sym (length-drop (index * width) other) in
    length-take taken (drop (index * width) bytes) ∙ ap (λ (n : ℕ). min taken n) rest
    ∙ sym (length-take taken (drop (index * width) other))

-- the relation determines the number in each place and its outcome
abbrev pub FixesPlaces : {O : Type 0} → (ℕ → List ℕ → O → Type 0) → Type 0
FixesPlaces {O} Holds =
    (index : ℕ) (bytes other : List ℕ) (outcome also : O) → Holds index bytes outcome → Holds index other also
    → (number_of bytes ≡ number_of other) × (outcome ≡ also)

-- a relation that determines the number and the outcome in each place determines the bytes of all places, and all
-- outcomes
pub places_once : {O : Type 0} (Holds : ℕ → List ℕ → O → Type 0) (width count : ℕ) (bytes other : List ℕ)
    (outcomes others : List O) → FixesPlaces Holds → AreBytes bytes → AreBytes other
    → length bytes ≡ length other
    → AreInPlaces Holds width count bytes outcomes → AreInPlaces Holds width count other others
    → (take (count * width) bytes ≡ take (count * width) other) × (outcomes ≡ others)
places_once {O} Holds width count bytes other outcomes others fixes a b size x y =
    let At : List ℕ → ℕ → Option O → Type 0 =
    λ all index found. IfSome found (λ (o : O). Holds index (value_at width index all) o) in
    let said : (index : ℕ) (o : O) → slice_get outcomes index ≡ Some o → Holds index (value_at width index bytes) o =
    λ index o is. subst (At bytes index) is (x.each index) in
    let also : (index : ℕ) (o : O) → slice_get others index ≡ Some o → Holds index (value_at width index other) o =
    λ index o is. subst (At other index) is (y.each index) in
    let same : (index : ℕ) → index < count → value_at width index bytes ≡ value_at width index other = λ index h.
    let one = element outcomes index (omega (arith, h, x.size)) in
    let two = element others index (omega (arith, h, y.size)) in
    let number = fixes index _ _ one.0 two.0 (said index one.0 one.1) (also index two.0 two.1) in
    same_bytes (value_at width index bytes) (value_at width index other)
    (bytes_take _ (drop (index * width) bytes) (bytes_drop (index * width) bytes a))
    (bytes_take _ (drop (index * width) other) (bytes_drop (index * width) other b))
    (same_size width index bytes other size) number.0 in (
      same_places width count bytes other same,
      same_elements outcomes others (x.size ∙ sym y.size)
          (λ index o p o_is p_is. (fixes index _ _ o p (said index o o_is) (also index p p_is)).1),
    )
