-- Integers modulo a power of two (FJCVTZS of Arm, FCVTMOD.W.D of RISC-V).
use Rattle.std.specs.Prelude.{◌≡◌, ℕ, ◌-◌, ◌*◌, ◌/◌, ◌^◌, ℤ, pos, neg_ℤ, ◌+ℤ◌, ◌≤ℤ◌, ◌<ℤ◌}
use Rattle.apfloat_model.specs.declared.kinds.Round.TheVariants.{TowardZero}
use Rattle.apfloat_model.specs.{formats.Format.Format, formats.Datum.Datum, arithmetic.Exact.signed}
use Rattle.apfloat_model.specs.{order.Classes.is_negative, order.Classes.quanta_of}
use Rattle.apfloat_model.specs.whole_numbers.WholeNumbersOut.{Whole, to_signed}

-- the number toward zero; an infinity and a NaN count as 0
abbrev pub truncated : Format → Datum → ℤ
truncated f x = signed (is_negative x) (quanta_of x / 2 ^ f.scale)

-- The integer from -half on and below half that differs from a number by a multiple of twice half. Each of the two may
-- be the greater one.
pub record IsResidue (half : ℕ) (number residue : ℤ) : Type 0 where
  pub low : neg_ℤ (pos half) ≤ℤ residue
  pub high : residue <ℤ pos half
  pub more : ℕ
  pub fewer : ℕ
  pub congruent : number +ℤ pos (more * (2 * half)) ≡ residue +ℤ pos (fewer * (2 * half))

abbrev pub status_toward_zero : Format → ℕ → Datum → ℕ
status_toward_zero f width x = let whole : Whole = to_signed f TowardZero width x in whole.status

-- the signed integer of that width that is congruent to the number toward zero modulo 2 ^ width, with the flags of the
-- conversion to a signed integer of that width
pub record IsSignedModulo (f : Format) (width : ℕ) (x : Datum) (number : ℤ) (status : ℕ) : Type 0 where
  pub number_is : IsResidue (2 ^ (width - 1)) (truncated f x) number
  pub status_is : status ≡ status_toward_zero f width x
