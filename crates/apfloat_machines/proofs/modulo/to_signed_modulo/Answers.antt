use Rattle.std.specs.Int.{w128}
use Rattle.std.proofs.Common.{◌≡◌, ℕ, ◌-◌, ◌*◌, ◌/◌, ◌%◌, ◌^◌, ◌≤◌, ap, sym, ◌∙◌, arith, to_z, of_z}
use Rattle.std.proofs.{Math.Nat.pow-le-pow_right, lemmas.Int.to_z-of_z, lemmas.Nat.mod_below, lemmas.Nat.pow_pos}
use Rattle.apfloat_model.specs.{order.Classes.is_negative, order.Classes.quanta_of}
use Rattle.apfloat_model.proofs.general.Powers.{lower_mod, twice_half, two_pos}
use Rattle.apfloat_ieee.specs.FlaggedTypes.{format_of}
use Rattle.apfloat_machines.proofs.Residues.{residue_of_lowest}
use Rattle.apfloat_machines.proofs.modulo.to_signed_modulo.Goals as goal

twice : (width : ℕ) → 2 ≤ width → 2 * 2 ^ (width - 1) ≡ 2 ^ width
twice width low = twice_half width (omega (arith, low))

pub residue-requires-clause-half : goal.residue-requires-clause-half
residue-requires-clause-half g c =
    let high = c.requires.high in
    let short : c.args.width - 1 ≤ 127 = omega (arith, high) in
    rw c.power_of_two.ensures (pow-le-pow_right two_pos short)

pub residue-requires-clause-below : goal.residue-requires-clause-below
residue-requires-clause-below g c =
    rw (c.power_of_two.ensures, c.lowest-rest.ensures, twice c.args.width c.requires.low)
    (mod_below c.whole_digits.result (2 ^ c.args.width) (pow_pos c.args.width))

pub returns : goal.returns
returns g c =
    let width = c.args.width in
    let whole = quanta_of c.args.x / 2 ^ (format_of g.S.Flagged).scale in
    let rest : c.lowest-rest.result ≡ whole % (2 * 2 ^ (c.args.width - 1)) =
    c.lowest-rest.ensures
    ∙ ap (λ (n : ℕ). n % 2 ^ width) c.whole_digits.ensures
    ∙ lower_mod whole 128 width c.requires.high ∙ ap (λ (n : ℕ). whole % n) (sym (twice width c.requires.low)) in
    let same : to_z w128 (of_z w128 c.residue.result) ≡ c.residue.result =
    to_z-of_z w128 c.residue.result (record { sfits = c.residue.type_inv }) in
    record {
      number_is = rw (c.and.ensures.value, same)
          (residue_of_lowest (2 ^ (width - 1)) whole c.lowest-rest.result (is_negative c.args.x) c.residue.result rest
          (rw (c.power_of_two.ensures, c.is_negative.ensures) at c.residue.ensures));
      status_is = rw c.and.ensures.status c.to_i128_r-plain.ensures.status_is;
    }
