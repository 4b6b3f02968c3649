-- A multiple of an integer keeps its sign.
use Rattle.std.proofs.Common.{◌≡◌, ℕ, zero, suc, ◌*◌, Bool, true, false, pos, arith}
use Rattle.std.specs.Prelude.{◌*ℤ◌}
use Rattle.std.proofs.lemmas.Int.{ints}
use Rattle.apfloat_model.specs.arithmetic.Exact.{signed}

pub signed_scaled : (negative : Bool) (amount units : ℕ)
    → signed negative (amount * units) ≡ (signed negative amount *ℤ pos units)
signed_scaled true zero units = omega (arith, ints)
signed_scaled true (suc n) units = omega (arith, ints)
signed_scaled false amount units = omega (arith, ints)
