use Rattle.std.proofs.Common.{◌≡◌, ◌*◌, ◌^◌, negsuc, ◌-ℤ◌, to_z, of_z, w32, refl}
use Rattle.std.proofs.lemmas.Int.{to_z-of_z}
use Rattle.apfloat_model.specs.rounding.Standing.{up}
use Rattle.apfloat_rounding.specs.Stored.{quanta_at}
use Rattle.apfloat_rounding.proofs.{StoredNumbers.quanta_is, ShapeExponents.exponent_word}
use Rattle.apfloat_conversions.proofs.NumberFractions.{fraction_size, fraction_number}
use Rattle.apfloat_conversions.proofs.Nexts.{fraction_quanta, fraction_same}
use Rattle.apfloat_conversions.proofs.scaling.number_fraction.Goals as goal

pub returns-clause-stored : goal.returns-clause-stored
returns-clause-stored c = fraction_number c.args.shape c.args.x.significand c.args.x.exponent c.requires

pub returns-clause-fraction : goal.returns-clause-fraction
returns-clause-fraction c =
    let s = c.args.shape in
    let m = c.args.x.significand in
    let er : to_z w32 (of_z w32 c.one_higher.result) ≡ c.one_higher.result =
    to_z-of_z w32 c.one_higher.result (record { sfits = c.one_higher.type_inv }) in
    let v = rw (exponent_word s m c.args.x.exponent c.requires) at c.one_higher.ensures in
    let q = fraction_quanta s.min_exp m s.parameters.min_exp_high in
    let b = fraction_size s m c.args.x.exponent c.requires in
    rw er (record {
      fraction = m * 2 ^ up (negsuc 0 -ℤ s.min_exp);
      low = b.0;
      high = b.1;
      same = fraction_same s.min_exp c.args.x.exponent c.one_higher.result m (quanta_at s.min_exp m c.args.x.exponent)
          s.parameters.min_exp_high v c.requires.whole;
      is = rw (quanta_is s.min_exp m (negsuc 0) (m * 2 ^ up (negsuc 0 -ℤ s.min_exp)) q) refl;
    })
