-- The named elements, as the document that defines them describes them (OCP Microscaling Formats 1.0, 5.3).
use Rattle.std.specs.Prelude.{◌≡◌, ℕ, ◌+◌, ◌*◌, ◌^◌, pos, ◌-ℤ◌}
use Rattle.small_formats.specs.{Codes.largest_index, Codes.point, Storage.StorageConstants, Storage.format_with}

-- Below the sign are the exponent, with its bias, and the significand without its first digit. The largest number and
-- the smallest positive one are in sixteenths.
pub record PublishedElement : Type 0 where
  pub exponent_bits : ℕ
  pub significand_bits : ℕ
  pub bias : ℕ
  pub largest : ℕ
  pub smallest : ℕ

-- 6 and 0.5
abbrev pub e2m1 : PublishedElement
e2m1 = record { exponent_bits = 2; significand_bits = 1; bias = 1; largest = 96; smallest = 8 }

-- 7.5 and 0.125
abbrev pub e2m3 : PublishedElement
e2m3 = record { exponent_bits = 2; significand_bits = 3; bias = 1; largest = 120; smallest = 2 }

-- 28 and 0.0625
abbrev pub e3m2 : PublishedElement
e3m2 = record { exponent_bits = 3; significand_bits = 2; bias = 3; largest = 448; smallest = 1 }

pub record IsPublishedElement (e : PublishedElement) (c : StorageConstants) : Type 0 where
  pub bits_are : c.bits ≡ 1 + e.exponent_bits + e.significand_bits
  pub precision_is : c.precision ≡ e.significand_bits + 1
  pub min_exp_is : c.min_exp ≡ pos 1 -ℤ pos e.bias
  pub largest_is : point c.precision (largest_index c) * 16 ≡ e.largest * 2 ^ (format_with c).scale
  pub smallest_is : 16 ≡ e.smallest * 2 ^ (format_with c).scale
