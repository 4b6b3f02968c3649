-- A pick by the index of its point: of the numbers between which a magnitude is, one is taken.
use Rattle.std.specs.Prelude.{◌≡◌, ℕ, ◌+◌, ◌-◌, ◌*◌, ◌%◌, ◌<◌, ◌≤◌, Bool, eqb, if◌then◌else◌}

-- Between the points with the indices `low` and `low + 1`. Of the distances to both and of whether `low` is odd,
-- `takes` says whether the upper one is taken; a magnitude that is a point stays.
abbrev pub index_between : (ℕ → ℕ → Bool → Bool) → (ℕ → ℕ) → ℕ → ℕ → ℕ → ℕ
index_between takes points amount parts low =
    if eqb (points low * parts) amount then low
    else (if takes (amount - points low * parts) (points (low + 1) * parts - amount) (eqb (low % 2) 1) then low + 1
    else low)

pub record IsIndexPick (takes : ℕ → ℕ → Bool → Bool) (points : ℕ → ℕ) (amount parts index : ℕ)
    : Type 0 where
  pub low : ℕ
  pub from : points low * parts ≤ amount
  pub to : amount < points (low + 1) * parts
  pub is : index ≡ index_between takes points amount parts low
