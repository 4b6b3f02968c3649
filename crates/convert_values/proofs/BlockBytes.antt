-- The bytes of a block.
use Rattle.std.proofs.Common.{◌≡◌, ℕ, ◌-◌, ◌≤◌, refl, ap, ◌∙◌, arith, List, [], ◌∷◌, ◌++◌, length, drop, take}
use Rattle.std.proofs.lemmas.List.{append-nil, drop_all}
use Rattle.std.specs.Prelude.{slice_set}
use borrow.Rule.Slice.PartMut.{put_mid}

none_taken : (xs : List ℕ) → take 0 xs ≡ []
none_taken [] = refl
none_taken (x ∷ xs) = refl

-- a scale that is written first, and codes after it
pub scale_and_codes : (scale : ℕ) (bytes codes : List ℕ) → 1 ≤ length bytes
    → put_mid 1 (length (slice_set bytes 0 scale) - 1) (slice_set bytes 0 scale) codes ≡ scale ∷ codes
scale_and_codes scale [] codes some = absurd (omega (arith, some))
scale_and_codes scale (b ∷ rest) codes some =
    let none : drop (length (scale ∷ rest) - 1) rest ≡ [] =
    drop_all (length (scale ∷ rest) - 1) rest (omega arith) in
    ap (λ (after : List ℕ). (scale ∷ take 0 rest) ++ (codes ++ after)) none
    ∙ ap (λ (before : List ℕ). (scale ∷ before) ++ (codes ++ [])) (none_taken rest)
    ∙ ap (λ (after : List ℕ). scale ∷ after) (append-nil codes)
