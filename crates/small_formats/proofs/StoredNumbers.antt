-- Codes by their signs and magnitudes, and numbers in the quanta of another format.
use Rattle.std.proofs.Common.{◌≡◌, ℕ, ◌+◌, ◌-◌, ◌*◌, ◌%◌, ◌^◌, ◌<◌, Bool, true, false}
use Rattle.std.proofs.Common.{cond, leb, ap, ◌∙◌, arith, ℤ, pos, ◌+ℤ◌, ◌-ℤ◌}
use Rattle.std.proofs.Math.Nat.{mod-eq_of_lt, add-mul-mod_self_right}
use Rattle.std.proofs.lemmas.{Bool.le-leb, Bool.lt-leb, Int.ints}
use Rattle.apfloat_model.specs.{formats.Datum.finite, rounding.Standing.up, rounding.Standing.down}
use Rattle.apfloat_model.proofs.arithmetic.SingleScalings.{scaled_stands}
use Rattle.small_formats.specs.{Codes.datum_of, Codes.magnitude_of, Codes.point, Storage.StorageConstants}

-- ---- codes

-- of a code with half the codes above the sign
pub record HasParts (half magnitude code : ℕ) (negative : Bool) : Type 0 where
  pub sign : leb half code ≡ negative
  pub rest : code % half ≡ magnitude

pub parts_of_code : (half magnitude code : ℕ) (negative : Bool) → magnitude < half
    → code ≡ cond negative half 0 + magnitude → HasParts half magnitude code negative
parts_of_code half magnitude code true l e =
    let swapped : code ≡ magnitude + 1 * half = omega (arith, e) in
    record {
      sign = le-leb half code (omega (arith, e));
      rest = ap (λ (n : ℕ). n % half) swapped ∙ add-mul-mod_self_right magnitude 1 half ∙ mod-eq_of_lt l;
    }
parts_of_code half magnitude code false l e =
    let same : code ≡ magnitude = omega (arith, e) in
    record { sign = lt-leb half code (omega (arith, same, l)); rest = ap (λ (n : ℕ). n % half) same ∙ mod-eq_of_lt l }

pub datum_is : (c : StorageConstants) (magnitude code : ℕ) (negative : Bool) → magnitude < 2 ^ (c.bits - 1)
    → code ≡ cond negative (2 ^ (c.bits - 1)) 0 + magnitude
    → datum_of c code ≡ finite negative (point c.precision magnitude)
datum_is c magnitude code negative l e =
    let parts = parts_of_code (2 ^ (c.bits - 1)) magnitude code negative l e in
    ap (λ (b : Bool). finite b (point c.precision (magnitude_of c code))) parts.sign
    ∙ ap (λ (n : ℕ). finite negative (point c.precision n)) parts.rest

-- ---- units

-- a point of a storage format in the quanta of another
pub point_in_quanta : (quanta significand place from into : ℕ) (exponent unit : ℤ)
    → significand * 2 ^ place ≡ quanta → exponent ≡ pos place -ℤ pos from → unit ≡ exponent +ℤ pos into
    → quanta * 2 ^ into * 2 ^ down unit ≡ significand * (2 ^ from * 2 ^ up unit)
point_in_quanta quanta significand place from into exponent unit h e f =
    scaled_stands significand quanta 0 place into from (up unit) (down unit) (omega (arith, h))
    (omega (arith, ints, e, f))
