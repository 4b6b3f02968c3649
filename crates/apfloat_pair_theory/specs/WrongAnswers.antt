-- Operands, and the results that a chain of steps would have for them with one step left out: the laws on sums and
-- products refuse each.
use Rattle.std.specs.Prelude.{◌^◌, false}
use Rattle.apfloat_model.specs.formats.Datum.{finite}
use Rattle.apfloat_pair_theory.specs.Pairs.{Pair, alone}

abbrev pub one : Pair
one = alone (finite false (2 ^ 1074))

abbrev pub least : Pair
least = alone (finite false 1)

-- 2 ^ -53
abbrev pub half_unit : Pair
half_unit = alone (finite false (2 ^ 1021))

-- 1 + 2 ^ -53
abbrev pub one_and_half_unit : Pair
one_and_half_unit = record { high = finite false (2 ^ 1074); low = finite false (2 ^ 1021) }

-- 1 + 2 ^ -54
abbrev pub one_and_quarter_unit : Pair
one_and_quarter_unit = record { high = finite false (2 ^ 1074); low = finite false (2 ^ 1020) }

-- For 1 + 2 ^ -53 and 2 ^ -53, the high parts add up to 1, and the rest to 2 ^ -52: before the closing step these are
-- separate parts, although their sum is a double.
abbrev pub before_closing : Pair
before_closing = record { high = finite false (2 ^ 1074); low = finite false (2 ^ 1022) }
