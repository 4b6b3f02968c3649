-- What the comparison of signed numbers returns.
use Rattle.std.proofs.Common.{◌≡◌, Bool, true, false, refl, arith, ℤ, ◌≤ℤ◌, ◌<ℤ◌, int_lt}
use Rattle.std.proofs.lemmas.Int.{ints}

-- the comparison holds if the first number is less
pub less_so : (a b : ℤ) → a <ℤ b → int_lt a b ≡ true
less_so a b h = by (int_lt a b) refl
  where
    by : (test : Bool) → int_lt a b ≡ test → test ≡ true
    by true e = refl
    by false e = absurd (omega (arith, ints))

-- the comparison does not hold if the first number is not less
pub less_not : (a b : ℤ) → b ≤ℤ a → int_lt a b ≡ false
less_not a b h = by (int_lt a b) refl
  where
    by : (test : Bool) → int_lt a b ≡ test → test ≡ false
    by false e = refl
    by true e = absurd (omega (arith, ints))
