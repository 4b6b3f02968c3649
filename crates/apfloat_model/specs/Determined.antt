-- The relations between a floating-point type's operations and their results: each determines its result.
use Rattle.std.specs.Prelude.{◌≡◌, ℕ, ◌<◌, ℤ, Bool, List, Option, Result, Ok, Err}
use Rattle.apfloat_model.specs.declared.{kinds.Round.Round, parse_error.ParseError.ParseError}
use Rattle.apfloat_model.specs.declared.status.StatusAnd.{StatusAnd}

-- at most one result satisfies the relation
abbrev pub Determines : {A : Type 0} → (A → Type 0) → Type 0
Determines {A} Says = (answer other : A) → Says answer → Says other → answer ≡ other

-- at most one pair of results satisfies the relation
abbrev pub DeterminesBoth : {A B : Type 0} → (A → B → Type 0) → Type 0
DeterminesBoth {A} {B} Say =
    (first other_first : A) (second other_second : B)
    → Say first second → Say other_first other_second
    → (first ≡ other_first) × (second ≡ other_second)

-- the same value and status, or refusals with the same words
abbrev pub AreOneReading : {A : Type 0} → Result (StatusAnd A) ParseError → Result (StatusAnd A) ParseError → Type 0
AreOneReading (Ok answer) (Ok other) = answer ≡ other
AreOneReading (Ok answer) (Err error) = ⊥
AreOneReading (Err error) (Ok answer) = ⊥
AreOneReading (Err error) (Err other) = error.0.now ≡ other.0.now

-- each relation determines its result; those that round do so under the mode
pub record IsDetermined {A : Type 0} (mode : Round) (PRECISION BITS : ℕ)
    (adds subtracts multiplies divides : A → A → Round → StatusAnd A → Type 0)
    (inverts : A → Option A → Type 0) (leaves leaves_nearest : A → A → StatusAnd A → Type 0)
    (writes_bits : A → ℕ → Type 0)
    (converts_unsigned : ℕ → Round → StatusAnd A → Type 0) (converts_signed : ℤ → Round → StatusAnd A → Type 0)
    (rounds_to_integral : A → Round → StatusAnd A → Type 0)
    (converts_to_unsigned : A → ℕ → Round → StatusAnd ℕ → Bool → Type 0)
    (converts_to_signed : A → ℕ → Round → StatusAnd ℤ → Bool → Type 0)
    (steps_up steps_down : A → StatusAnd A → Type 0)
    (scales : A → ℤ → Round → A → Type 0) (has_exponent : A → ℤ → Type 0)
    (has_fraction : A → Round → A → ℤ → Type 0)
    (reads : List ℕ → Round → Result (StatusAnd A) ParseError → Type 0) : Type 0 where
  pub sum : (x y : A) → Determines (adds x y mode)
  pub difference : (x y : A) → Determines (subtracts x y mode)
  pub product : (x y : A) → Determines (multiplies x y mode)
  pub quotient : (x y : A) → Determines (divides x y mode)
  pub inverse : (x : A) → Determines (inverts x)
  pub remainder : (x y : A) → Determines (leaves x y)
  pub nearest_remainder : (x y : A) → Determines (leaves_nearest x y)
  pub bits : PRECISION < BITS → (x : A) → Determines (writes_bits x)
  pub of_unsigned : (number : ℕ) → Determines (converts_unsigned number mode)
  pub of_signed : (number : ℤ) → Determines (converts_signed number mode)
  pub integral : (x : A) → Determines (rounds_to_integral x mode)
  pub to_unsigned : (x : A) (width : ℕ) → DeterminesBoth (converts_to_unsigned x width mode)
  pub to_signed : (x : A) (width : ℕ) → DeterminesBoth (converts_to_signed x width mode)
  pub above : (x : A) → Determines (steps_up x)
  pub below : (x : A) → Determines (steps_down x)
  pub scaled : (x : A) (places : ℤ) → Determines (scales x places mode)
  pub exponent : (x : A) → Determines (has_exponent x)
  pub fraction : (x : A) → DeterminesBoth (has_fraction x mode)
  pub reading : (text : List ℕ) (answer other : Result (StatusAnd A) ParseError)
      → reads text mode answer → reads text mode other → AreOneReading answer other
