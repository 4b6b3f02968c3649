-- The named formats, as IEEE P3109 describes them.
use Rattle.std.specs.Prelude.{◌≡◌, ℕ, ◌*◌, ◌^◌, Bool, true, false}
use Rattle.small_formats.specs.Codes.{point}
use Rattle.p3109_formats.specs.declared.descriptor.Descriptor.{Descriptor}
use Rattle.p3109_formats.specs.Projections.{bias, largest_index, nan_code, projected_format}

-- The smallest positive number is 2 ^ -scale. Of the largest one and of the NaN the codes are given too.
pub record PublishedProjection : Type 0 where
  pub bits : ℕ
  pub precision : ℕ
  pub signed : Bool
  pub extended : Bool
  pub bias : ℕ
  pub scale : ℕ
  pub largest : ℕ
  pub largest_code : ℕ
  pub nan_code : ℕ

-- of 8 bits, with a sign and infinities
abbrev binary8 : ℕ → ℕ → ℕ → ℕ → PublishedProjection
binary8 precision bias scale largest =
    record {
      bits = 8;
      precision = precision;
      signed = true;
      extended = true;
      bias = bias;
      scale = scale;
      largest = largest;
      largest_code = 126;
      nan_code = 128;
    }

abbrev pub binary8p3se : PublishedProjection
binary8p3se = binary8 3 16 17 49152

abbrev pub binary8p4se : PublishedProjection
binary8p4se = binary8 4 8 10 224

abbrev pub binary8p5se : PublishedProjection
binary8p5se = binary8 5 4 7 15

abbrev pub binary8p1uf : PublishedProjection
binary8p1uf =
    record {
      bits = 8;
      precision = 1;
      signed = false;
      extended = false;
      bias = 128;
      scale = 127;
      largest = 2 ^ 126;
      largest_code = 254;
      nan_code = 255;
    }

pub record IsPublishedProjection (p : PublishedProjection) (c : Descriptor) : Type 0 where
  pub bits_are : c.bits ≡ p.bits
  pub precision_is : c.precision ≡ p.precision
  pub signed_is : c.signed ≡ p.signed
  pub extended_is : c.extended ≡ p.extended
  pub bias_is : bias c ≡ p.bias
  pub scale_is : (projected_format c).scale ≡ p.scale
  pub largest_is : point c.precision p.largest_code ≡ p.largest * 2 ^ p.scale
  pub largest_code_is : largest_index c ≡ p.largest_code
  pub nan_code_is : nan_code c ≡ p.nan_code
