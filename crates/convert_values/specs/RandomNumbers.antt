-- The random numbers of a stream: the upper halves of what SplitMix64 returns, by their position.
use Rattle.std.specs.Prelude.{◌≡◌, ℕ, ◌+◌, ◌*◌, ◌/◌, ◌%◌, ◌^◌, bit_xor}
use Rattle.small_formats.specs.declared.ConversionRound.{ConversionRound}
use Rattle.small_formats.specs.declared.ConversionRound.TheVariants.{Ieee, ToOdd, Stochastic}

-- one step of the mixing of a state: its upper digits fold into the lower ones, and a factor spreads them
abbrev pub folded : ℕ → ℕ → ℕ
folded state places = bit_xor state (state / 2 ^ places)

abbrev pub mixed : ℕ → ℕ
mixed state =
    folded (folded (folded state 30 * 13787848793156543929 % 2 ^ 64) 27 * 10723151780598845931 % 2 ^ 64) 31

-- the state grows by a constant with each number
abbrev pub state_at : ℕ → ℕ → ℕ
state_at seed position = (seed + (position + 1) % 2 ^ 64 * 11400714819323198485 % 2 ^ 64) % 2 ^ 64

abbrev pub random_at : ℕ → ℕ → ℕ
random_at seed position = mixed (state_at seed position) / 2 ^ 32

-- the mode that rounds by that number
abbrev pub IsRandomMode : ℕ → ℕ → ConversionRound → Type 0
IsRandomMode seed position (Stochastic bits) = (bits.digits ≡ 32) × (bits.random ≡ random_at seed position)
IsRandomMode seed position (Ieee mode) = ⊥
IsRandomMode seed position ToOdd = ⊥
