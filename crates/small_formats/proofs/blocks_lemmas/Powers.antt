-- Scales as numbers of bfloat.
use Rattle.std.proofs.Common.{lit≤, Bool, eqb, refl, subst, ◌≡◌, ℕ, ◌+◌, ◌-◌, ◌*◌, ◌^◌, ◌≤◌, false, sym, ap, ◌∙◌, arith}
use Rattle.std.proofs.Math.Nat.{mul-le-mul_right, pow-le-pow_right}
use Rattle.std.proofs.lemmas.{Nat.pow-add, Nat.pow_pos, Bool.ne_eqb}
use Rattle.apfloat_model.specs.{arithmetic.Conversions.IsExactlyConverted, formats.Datum.Datum, formats.Datum.finite}
use Rattle.apfloat_model.specs.formats.{Format.Format, Formats.bfloat_constants, Lawful.format_with, Members.IsFiniteOf}
use Rattle.apfloat_model.proofs.{general.Powers.two_pos, rounding.FarMagnitudes.power_on_grid}
use Rattle.small_formats.specs.Scales.{scale_format, scale_of}

pub scale_quanta : (code : ℕ) → 2 ^ (code + 6) * 2 ^ 127 ≡ 2 ^ code * 2 ^ 133
scale_quanta code =
    let a : 2 ^ (code + 6 + 127) ≡ 2 ^ (code + 6) * 2 ^ 127 = pow-add 2 (code + 6) 127 in
    let b : 2 ^ (code + 133) ≡ 2 ^ code * 2 ^ 133 = pow-add 2 code 133 in
    let e : code + 6 + 127 ≡ code + 133 = omega arith in
    sym a ∙ ap (λ (n : ℕ). 2 ^ n) e ∙ b

pub bfloat_power : (code : ℕ) → code ≤ 254 → IsFiniteOf (format_with bfloat_constants) false (2 ^ (code + 6))
bfloat_power code l =
    let high : 2 ^ (code + 6) ≤ 2 ^ (7 + 253) = pow-le-pow_right two_pos
    (let k : code + 6 ≤ 7 + 253 = omega (arith, l) in k) in
    let split : 2 ^ (7 + 253) ≡ 2 ^ 7 * 2 ^ 253 = pow-add 2 7 253 in
    let few : 2 ^ 7 ≤ 2 ^ 8 - 1 = lit≤ tt in
    let most : 2 ^ 7 * 2 ^ 253 ≤ (2 ^ 8 - 1) * 2 ^ 253 = mul-le-mul_right (2 ^ 253) few in
    record {
      on_grid = power_on_grid 8 (code + 6) (lit≤ tt);
      within = omega (arith, high, split, most);
      zero_has = λ e. absurd (let some = pow_pos (code + 6) in omega (arith, e, some));
    }

-- the scale with that code as a number of a format that has it
pub converted_scale : (g : Format) (scale code n : ℕ) (value : Datum) (status : ℕ) (loses : Bool) → code ≤ 254
    → scale ≡ code → IsExactlyConverted scale_format g (scale_of scale) value status loses
    → n * 2 ^ 127 ≡ 2 ^ code * 2 ^ g.scale → IsFiniteOf g false n → value ≡ finite false n
converted_scale g scale code n value status loses l e h same m =
    let off : eqb code 255 ≡ false = ne_eqb code 255 (λ z. omega (arith, l, z)) in
    let at : scale_of scale ≡ finite false (2 ^ code) = ap scale_of e ∙ rw off refl in
    (subst (λ (d : Datum). IsExactlyConverted scale_format g d value status loses) at h n same m).value_is
