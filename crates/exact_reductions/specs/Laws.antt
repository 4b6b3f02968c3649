-- Laws of exact sums: they have one result, which does not depend on the order of the terms, but for a NaN's payload.
use Rattle.std.specs.Prelude.{◌≡◌, ℕ, ◌⊎◌, false, true, List, [], ◌∷◌, ◌++◌}
use Rattle.apfloat_model.specs.{declared.kinds.Round.Round, declared.status.StatusAnd.StatusAnd, formats.Datum.Datum}
use Rattle.apfloat_model.specs.{formats.Format.Format, formats.Members.IsMember, order.Classes.is_nan}
use Rattle.apfloat_model.specs.rounding.{Flags.Gives, Outcome.Outcome, RaisedFlags.FlagsGoTogether, Rounding.ok_bits}
use Rattle.apfloat_model.specs.arithmetic.Products.{IsProduct}
use Rattle.exact_reductions.specs.Reductions.{Tally, IsTotal, IsDot, IsSumOf, joined, tally}

-- a sum has one value and one status
abbrev pub IsTotalOnce : Type 0
IsTotalOnce =
    (f : Format) (mode : Round) (t : Tally) (answer other : StatusAnd Datum)
    → Gives (IsTotal f mode t) answer → Gives (IsTotal f mode t) other → answer ≡ other

-- every sum has a result, and OVERFLOW and UNDERFLOW are raised only together with INEXACT
pub record IsTotalSomething (f : Format) (mode : Round) (t : Tally) : Type 0 where
  pub value : Datum
  pub status : ℕ
  pub is : IsTotal f mode t value status
  pub together : FlagsGoTogether status

-- Two neighbouring terms may be swapped, and so terms may be put in any order: the result is the same, or both results
-- are NaNs, with the same status.
abbrev pub IsInAnyOrder : Type 0
IsInAnyOrder =
    (f : Format) (mode : Round) (before : List Outcome) (one other : Outcome) (after : List Outcome)
    (value swapped : Datum) (status swapped_status : ℕ)
    → IsTotal f mode (tally (before ++ one ∷ other ∷ after)) value status
    → IsTotal f mode (tally (before ++ other ∷ one ∷ after)) swapped swapped_status
    → (status ≡ swapped_status) × ((value ≡ swapped) ⊎ ((is_nan value ≡ true) × (is_nan swapped ≡ true)))

-- the tally of two parts is that of all terms
abbrev pub IsTallyOfParts : Type 0
IsTallyOfParts = (earlier later : List Outcome) → tally (earlier ++ later) ≡ joined (tally earlier) (tally later)

-- a dot product of one product is the product
abbrev pub IsOneProduct : Type 0
IsOneProduct =
    (f : Format) (mode : Round) (x y value : Datum) (status : ℕ) → IsDot f mode (x ∷ []) (y ∷ []) value status
    → IsProduct f mode x y value status

-- a sum of one value that is no NaN is the value, with no flag
abbrev pub IsOneValue : Type 0
IsOneValue =
    (f : Format) (mode : Round) (x value : Datum) (status : ℕ) → IsMember f x → is_nan x ≡ false
    → IsSumOf f mode (x ∷ []) value status → (value ≡ x) × (status ≡ ok_bits)
