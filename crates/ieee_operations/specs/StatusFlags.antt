-- Operations on subsets of flags (IEEE 754-2019 5.7.4). Each bit of a number is a flag, and a group is a set of flags.
use Rattle.std.specs.Prelude.{ℕ, Bool, not, ◌==◌}
use Rattle.std.specs.Int.RustNames.{bit_and, bit_or}
use Rattle.bitflags.specs.Sets.{without}

-- the flags without those of the group
abbrev pub lowered : ℕ → ℕ → ℕ
lowered flags group = without 8 flags group

-- the flags and those of the group
abbrev pub raised : ℕ → ℕ → ℕ
raised flags group = bit_or flags group

-- whether any flag of the group is raised
abbrev pub is_raised : ℕ → ℕ → Bool
is_raised flags group = not (bit_and flags group == 0)

-- the flags of the group as saved, and the others as they are
abbrev pub restored : ℕ → ℕ → ℕ → ℕ
restored flags saved group = bit_or (lowered flags group) (bit_and saved group)
