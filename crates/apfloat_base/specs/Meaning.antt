-- What the calls of a floating-point type return: some as a value or a function, the others as a relation.
use Rattle.std.specs.Prelude.{ℕ, ℤ, Bool, Option, List, Result}
use Rattle.std.specs.declared.cmp.Ordering.{Ordering}
use Rattle.apfloat_model.specs.declared.{kinds.Category.Category, kinds.Round.Round, parse_error.ParseError.ParseError}
use Rattle.apfloat_model.specs.{declared.status.StatusAnd.StatusAnd, Determined.IsDetermined}

-- X is the type of values
pub record Meaning (X : Type 0) : Type 1 where
  -- particular values, and the NaNs with a payload
  pub the_zero : X
  pub the_infinity : X
  pub quiet_nan_of : ℕ → X
  pub signaling_nan_of : ℕ → X
  pub the_largest : X
  pub the_smallest : X
  pub the_smallest_normalized : X
  -- sums, differences, products and quotients
  pub adds : X → X → Round → StatusAnd X → Type 0
  pub subtracts : X → X → Round → StatusAnd X → Type 0
  pub multiplies : X → X → Round → StatusAnd X → Type 0
  pub divides : X → X → Round → StatusAnd X → Type 0
  -- remainders: by the integer nearest to the quotient, and by the quotient truncated toward zero
  pub leaves_nearest : X → X → StatusAnd X → Type 0
  pub leaves : X → X → StatusAnd X → Type 0
  -- rounding to an integer
  pub rounds_to_integral : X → Round → StatusAnd X → Type 0
  -- the next values above and below
  pub steps_up : X → StatusAnd X → Type 0
  pub steps_down : X → StatusAnd X → Type 0
  -- the negated value
  pub negated : X → X
  -- values from bits, from signed and unsigned integers, and from texts
  pub value_of_bits : ℕ → X
  pub converts_signed : ℤ → Round → StatusAnd X → Type 0
  pub converts_unsigned : ℕ → Round → StatusAnd X → Type 0
  pub reads : List ℕ → Round → Result (StatusAnd X) ParseError → Type 0
  -- bits of values, and integers of a given width from them
  pub writes_bits : X → ℕ → Type 0
  pub converts_to_signed : X → ℕ → Round → StatusAnd ℤ → Bool → Type 0
  pub converts_to_unsigned : X → ℕ → Round → StatusAnd ℕ → Bool → Type 0
  -- the order of magnitudes, where they can be compared, and whether two values are the same
  pub can_compare_magnitudes : X → X → Type 0
  pub magnitude_order : X → X → Ordering
  pub same : X → X → Bool
  -- what a value is: its sign, whether it is denormal or signaling, its category, whether it is an integer
  pub sign_of : X → Bool
  pub denormal : X → Bool
  pub signals : X → Bool
  pub category_of : X → Category
  pub is_whole : X → Bool
  -- the exact inverse, the exponent, a value times a power of two, and a fraction with its exponent
  pub inverts : X → Option X → Type 0
  pub has_exponent : X → ℤ → Type 0
  pub scales : X → ℤ → Round → X → Type 0
  pub has_fraction : X → Round → X → ℤ → Type 0

-- Each relation determines its result; those that round do so under the mode.
abbrev pub AreDetermined : {X : Type 0} → Meaning X → Round → (precision width : ℕ) → Type 0
AreDetermined m mode precision width =
    IsDetermined mode precision width m.adds m.subtracts m.multiplies m.divides m.inverts m.leaves m.leaves_nearest
    m.writes_bits m.converts_unsigned m.converts_signed m.rounds_to_integral m.converts_to_unsigned
    m.converts_to_signed m.steps_up m.steps_down m.scales m.has_exponent m.has_fraction m.reads
