-- The bytes of sums of so many words are few: what each call owes.
use Rattle.std.proofs.Common.{ℕ, ◌+◌, ◌*◌, ◌^◌, ◌<◌, arith}
use prog.Memory.{up}

pub sides_size : (words : ℕ) → words < 2 ^ 16 → up 8 (up 8 (0 + words * 8) + words * 8) < 2 ^ 63
sides_size words few = omega (arith, few)

pub sum_size : (words : ℕ) → words < 2 ^ 16
    → up 16 (up 1 (up 1 (up 1 (up 1 (up 1 (up 16 (up 8 (0 + up 8 (up 8 (0 + words * 8) + words * 8)) + 8) + 48) + 1)
    + 1) + 1) + 1) + 1) < 2 ^ 63
sum_size words few = omega (arith, few)
