-- Eight digits in the bytes of a word.
use Rattle.std.specs.Prelude.{◌≡◌, ℕ, ◌+◌, ◌*◌, ◌<◌}

-- the digits of a number, the first of eight in the lowest byte of a word
pub record IsInBytes (number word : ℕ) : Type 0 where
  pub a : ℕ
  pub b : ℕ
  pub c : ℕ
  pub d : ℕ
  pub e : ℕ
  pub f : ℕ
  pub g : ℕ
  pub h : ℕ
  pub first : (a < 10) × (b < 10) × (c < 10) × (d < 10)
  pub second : (e < 10) × (f < 10) × (g < 10) × (h < 10)
  pub number_is : number ≡
      a * 10000000 + b * 1000000 + c * 100000 + d * 10000 + e * 1000 + f * 100 + g * 10 + h
  pub word_is : word ≡ a + 256 * (b + 256 * (c + 256 * (d + 256 * (e + 256 * (f + 256 * (g + 256 * h))))))
