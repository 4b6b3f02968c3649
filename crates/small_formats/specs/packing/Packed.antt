-- Codes packed into bytes: the bits of the codes one after another, each from its lowest bit, from the lowest bit of
-- the first byte on.
use Rattle.std.specs.Prelude.{◌≡◌, ◌≢◌, ℕ, ◌+◌, ◌*◌, ◌%◌, ◌^◌, ◌<◌, ◌≤◌, ⊤, List, [], ◌∷◌, length, All, Any}
use Rattle.std.specs.Prelude.{Result, Ok, Err}
use Rattle.small_formats.specs.declared.packing.errors.PackingError.{PackingError}
use Rattle.small_formats.specs.declared.packing.errors.PackingError.TheVariants.{Uneven, Lengths, CodeTooWide}

-- the number whose digits to the base 2 ^ bits these are, the first one the lowest
abbrev pub number_of_digits : ℕ → List ℕ → ℕ
number_of_digits bits [] = 0
number_of_digits bits (digit ∷ rest) = digit + 2 ^ bits * number_of_digits bits rest

-- the bytes are the bits of the codes
pub record ArePacked (bits : ℕ) (codes bytes : List ℕ) : Type 0 where
  pub codes_fit : All (λ code. code < 2 ^ bits) codes
  pub same_bits : 8 * length bytes ≡ bits * length codes
  pub same_number : number_of_digits 8 bytes ≡ number_of_digits bits codes

-- Codes fill bytes in groups: two codes of 4 bits one byte, four codes of 6 bits three. The bytes before and after the
-- call; nothing is written with an error.
abbrev pub IsPackedBy : ℕ → ℕ → List ℕ → List ℕ → List ℕ → Result ⊤ PackingError → Type 0
IsPackedBy bits group codes before after (Ok done) = ArePacked bits codes after
IsPackedBy bits group codes before after (Err Uneven) = (length codes % group ≢ 0) × (after ≡ before)
IsPackedBy bits group codes before after (Err Lengths) =
    (length codes % group ≡ 0) × (8 * length before ≢ bits * length codes) × (after ≡ before)
IsPackedBy bits group codes before after (Err CodeTooWide) =
    (length codes % group ≡ 0) × (8 * length before ≡ bits * length codes)
    × Any (λ code. 2 ^ bits ≤ code) codes × (after ≡ before)

-- the codes before and after the call
abbrev pub IsUnpackedBy : ℕ → ℕ → List ℕ → List ℕ → List ℕ → Result ⊤ PackingError → Type 0
IsUnpackedBy bits group bytes before after (Ok done) = ArePacked bits after bytes
IsUnpackedBy bits group bytes before after (Err Uneven) = (length before % group ≢ 0) × (after ≡ before)
IsUnpackedBy bits group bytes before after (Err Lengths) =
    (length before % group ≡ 0) × (8 * length bytes ≢ bits * length before) × (after ≡ before)
IsUnpackedBy bits group bytes before after (Err CodeTooWide) = ⊥
