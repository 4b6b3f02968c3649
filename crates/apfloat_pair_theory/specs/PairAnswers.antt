-- An operation on pairs has exactly one result: one pair and status satisfy its relation, and no others do.
use Rattle.std.specs.Prelude.{◌≡◌, ℕ}
use Rattle.apfloat_pair_theory.specs.Pairs.{Pair}

abbrev pub HasPairAnswer : (Pair → ℕ → Type 0) → Type 0
HasPairAnswer R = (answer : Pair) × ((status : ℕ) × R answer status)

abbrev pub OncePair : (Pair → ℕ → Type 0) → Type 0
OncePair R = (v w : Pair) (r s : ℕ) → R v r → R w s → (v ≡ w) × (r ≡ s)

pub record HasOneAnswer (R : Pair → ℕ → Type 0) : Type 0 where
  pub exists : HasPairAnswer R
  pub once : OncePair R
