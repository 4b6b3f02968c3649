-- Where each place has one answer, the whole has one, and one count of each flag.
use Rattle.std.proofs.Common.{◌≡◌, ℕ, suc, refl, sym, ap, ◌∙◌, arith, List, [], ◌∷◌}
use Rattle.apfloat_model.proofs.Once.{Once}
use Rattle.small_formats.specs.declared.blocks.counts.Counts.{Counts}
use Rattle.small_formats.specs.blocks.Places.{AreCounted, AreElementsInPlaces, counts_of}

-- the places after the first one
pub rest_in_places : {A B : Type 0} → (Holds : A → B → ℕ → Type 0) (x : A) (xs : List A) (y : B) (ys : List B)
    (status : ℕ) (flags : List ℕ) → AreElementsInPlaces Holds (x ∷ xs) (y ∷ ys) (status ∷ flags)
    → AreElementsInPlaces Holds xs ys flags
rest_in_places Holds x xs y ys status flags all =
    record {
      same_size = omega (arith, all.same_size);
      flags_size = omega (arith, all.flags_size);
      each = λ place a b s. all.each (suc place) a b s;
    }

in_places_once : {A B : Type 0} → (Holds : A → B → ℕ → Type 0) → ((x : A) → Once (Holds x))
    → (read : List A) (written others : List B) (flags more : List ℕ) → AreElementsInPlaces Holds read written flags
    → AreElementsInPlaces Holds read others more → (written ≡ others) × (flags ≡ more)
in_places_once Holds once [] [] [] [] [] p q = (refl, refl)
in_places_once Holds once [] (y ∷ ys) others flags more p q = let s = p.same_size in absurd (omega (arith, s))
in_places_once Holds once [] [] (z ∷ zs) flags more p q = let s = q.same_size in absurd (omega (arith, s))
in_places_once Holds once [] [] [] (s ∷ ss) more p q = let n = p.flags_size in absurd (omega (arith, n))
in_places_once Holds once [] [] [] [] (t ∷ ts) p q = let n = q.flags_size in absurd (omega (arith, n))
in_places_once Holds once (x ∷ xs) [] others flags more p q = let s = p.same_size in absurd (omega (arith, s))
in_places_once Holds once (x ∷ xs) (y ∷ ys) [] flags more p q = let s = q.same_size in absurd (omega (arith, s))
in_places_once Holds once (x ∷ xs) (y ∷ ys) (z ∷ zs) [] more p q =
    let n = p.flags_size in absurd (omega (arith, n))
in_places_once Holds once (x ∷ xs) (y ∷ ys) (z ∷ zs) (s ∷ ss) [] p q =
    let n = q.flags_size in absurd (omega (arith, n))
in_places_once Holds once (x ∷ xs) (y ∷ ys) (z ∷ zs) (s ∷ ss) (t ∷ ts) p q =
    let first = once x y z s t (p.each 0 x y s refl refl refl) (q.each 0 x z t refl refl refl) in
    let rest = in_places_once Holds once xs ys zs ss ts (rest_in_places Holds x xs y ys s ss p)
    (rest_in_places Holds x xs z zs t ts q) in (
      ap (λ k. k ∷ ys) first.0 ∙ ap (λ ks. z ∷ ks) rest.0,
      ap (λ k. k ∷ ss) first.1 ∙ ap (λ ks. t ∷ ks) rest.1,
    )

pub counted_once : {A B : Type 0} → (Holds : A → B → ℕ → Type 0) → ((x : A) → Once (Holds x))
    → (read : List A) (written others : List B) (counts more : Counts) → AreCounted Holds read written counts
    → AreCounted Holds read others more → (written ≡ others) × (counts ≡ more)
counted_once Holds once read written others counts more p q =
    let same = in_places_once Holds once read written others p.flags q.flags p.in_places q.in_places in
    (same.0, p.counted ∙ ap counts_of same.1 ∙ sym q.counted)
