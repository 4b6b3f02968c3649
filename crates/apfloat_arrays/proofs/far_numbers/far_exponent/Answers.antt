use Rattle.std.proofs.Common.{◌≡◌, ◌+ℤ◌, ◌-ℤ◌, pos, to_z, of_z, w32}
use Rattle.std.proofs.lemmas.Int.{to_z-of_z}
use Rattle.rustc_apfloat.specs.FlaggedTypes.{constants_of}
use Rattle.apfloat_arrays.proofs.FarNumbers.{above_fits, above_unit, above_within, below_fits, below_unit, below_within}
use Rattle.apfloat_arrays.proofs.FarNumbers.{beside_fits, exponent_held, precision_fits, precision_held}
use Rattle.apfloat_arrays.proofs.far_numbers.far_exponent.Given.{Over}
use Rattle.apfloat_arrays.proofs.far_numbers.far_exponent.Goals as goal

-- the words hold the constants of the format
greatest : (g : Over) (c : goal.After-MAX_EXP g) → to_z w32 (of_z w32 c.MAX_EXP.result) ≡ g.T.Flagged.MAX_EXP
greatest g c = exponent_held _ _ (record { sfits = c.MAX_EXP.type_inv }) c.MAX_EXP.ensures

least : (g : Over) (c : goal.After-PRECISION g) → to_z w32 (of_z w32 c.MIN_EXP.result) ≡ g.T.Flagged.MIN_EXP
least g c = exponent_held _ _ (record { sfits = c.MIN_EXP.type_inv }) c.MIN_EXP.ensures

precision : (g : Over) (c : goal.After-PRECISION g) → to_z w32 c.PRECISION.result ≡ pos g.T.Flagged.PRECISION
precision g c = precision_held _ _ _ _ g.T.Flagged.lawful.parameters c.PRECISION.ensures

above : (g : Over) → to_z w32 (of_z w32 (g.T.Flagged.MAX_EXP +ℤ pos 1)) ≡ g.T.Flagged.MAX_EXP +ℤ pos 1
above g = to_z-of_z w32 _ (above_fits _ _ _ g.T.Flagged.lawful.parameters)

beside : (g : Over) → to_z w32 (of_z w32 (g.T.Flagged.MIN_EXP -ℤ pos g.T.Flagged.PRECISION))
    ≡ g.T.Flagged.MIN_EXP -ℤ pos g.T.Flagged.PRECISION
beside g = to_z-of_z w32 _ (beside_fits _ _ _ g.T.Flagged.lawful.parameters)

below : (g : Over) → to_z w32 (of_z w32 ((g.T.Flagged.MIN_EXP -ℤ pos g.T.Flagged.PRECISION) -ℤ pos 1))
    ≡ (g.T.Flagged.MIN_EXP -ℤ pos g.T.Flagged.PRECISION) -ℤ pos 1
below g = to_z-of_z w32 _ (below_fits _ _ _ g.T.Flagged.lawful.parameters)

pub overflow_add-result : goal.overflow_add-result
overflow_add-result g c = rw (greatest g c) (above_fits _ _ _ g.T.Flagged.lawful.parameters)

pub overflow_cast-result : goal.overflow_cast-result
overflow_cast-result g c = rw c.PRECISION.ensures (precision_fits _ _ _ g.T.Flagged.lawful.parameters)

pub overflow_sub-result : goal.overflow_sub-result
overflow_sub-result g c = rw (least g c, precision g c) (beside_fits _ _ _ g.T.Flagged.lawful.parameters)

pub overflow_sub-result-else-past : goal.overflow_sub-result-else-past
overflow_sub-result-else-past g c =
    rw (least g c, precision g c, beside g) (below_fits _ _ _ g.T.Flagged.lawful.parameters)

pub returns-then-past-clause-within : goal.returns-then-past-clause-within
returns-then-past-clause-within g c = rw (greatest g c, above g) (above_within _ _ _ g.T.Flagged.lawful.parameters)

pub returns-then-past-clause-unit : goal.returns-then-past-clause-unit
returns-then-past-clause-unit g c =
    rw (c.if-past.true, greatest g c, above g) (above_unit (constants_of g.T.Flagged) g.T.Flagged.lawful.parameters)

pub returns-else-past-clause-within : goal.returns-else-past-clause-within
returns-else-past-clause-within g c =
    rw (least g c, precision g c, beside g, below g) (below_within _ _ _ g.T.Flagged.lawful.parameters)

pub returns-else-past-clause-unit : goal.returns-else-past-clause-unit
returns-else-past-clause-unit g c =
    rw (c.if-past.false, least g c, precision g c, beside g, below g)
    (below_unit (constants_of g.T.Flagged) g.T.Flagged.lawful.parameters)
