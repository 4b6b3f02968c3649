-- Theorems about codes packed into bytes.
use Rattle.std.specs.Prelude.{◌≡◌, ℕ, ◌^◌, ◌<◌, List, All}
use Rattle.small_formats.specs.packing.Packed.{ArePacked}

-- codes are packed into one list of bytes, and no other codes into the same bytes
pub record ArePackedOnce : Type 0 where
  pub bytes : (bits : ℕ) (codes bytes others : List ℕ) → All (λ byte. byte < 2 ^ 8) bytes
      → All (λ byte. byte < 2 ^ 8) others → ArePacked bits codes bytes → ArePacked bits codes others → bytes ≡ others
  pub codes : (bits : ℕ) (codes others bytes : List ℕ) → 0 < bits → ArePacked bits codes bytes
      → ArePacked bits others bytes → codes ≡ others
