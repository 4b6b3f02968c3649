-- Exponents within bounds, which fit in the machine word.
use Rattle.std.proofs.Common.{◌≡◌, ℕ, ◌≤◌, ℤ, to_z, of_z, w32, arith}
use Rattle.std.proofs.lemmas.Int.{ints}
use Rattle.apfloat_model.specs.rounding.Bounds.{IsWithin, exponent_bound}

-- an exponent fits in its type
pub in_word : (e : ℤ) → IsWithin exponent_bound e → to_z w32 (of_z w32 e) ≡ e
in_word e within = omega (arith, ints, within)

-- an exponent is within each greater bound
pub wider : (few more : ℕ) (e : ℤ) → few ≤ more → IsWithin few e → IsWithin more e
wider few more e h within = record { low = omega (arith, ints, h, within); high = omega (arith, ints, h, within) }

-- so is one that was stored
pub wider_word : (few more : ℕ) (e : ℤ) → few ≤ more → few ≤ exponent_bound → IsWithin few e
    → IsWithin more (to_z w32 (of_z w32 e))
wider_word few more e h l within = rw (in_word e (wider few exponent_bound e l within)) (wider few more e h within)
