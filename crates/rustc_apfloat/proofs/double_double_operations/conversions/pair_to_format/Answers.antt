use Rattle.rustc_apfloat.proofs.double_double_operations_lemmas.Operations.{by_sum, alone}
use Rattle.rustc_apfloat.proofs.double_double_operations.conversions.pair_to_format.Goals as goal

pub returns-then-is_finite_non_zero : goal.returns-then-is_finite_non_zero
returns-then-is_finite_non_zero g c =
    by_sum _ c.args.round c.args.x _ _ _ _ _ c.parts_of-high.ensures.high c.parts_of-high.ensures.low
    c.is_finite_non_zero.ensures c.if-is_finite_non_zero.true c.add_to.ensures

pub returns-else-is_finite_non_zero : goal.returns-else-is_finite_non_zero
returns-else-is_finite_non_zero g c =
    alone _ c.args.round c.args.x _ _ _ _ c.convert_r.new.loses_info c.parts_of-high.ensures.high
    c.is_finite_non_zero.ensures c.if-is_finite_non_zero.false c.convert_r.ensures.converted
