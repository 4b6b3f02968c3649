use Rattle.std.proofs.Common.{sym, ◌∙◌}
use Rattle.apfloat_arrays.proofs.stored_lemmas.ScaleClasses.{scale_class_nan, scale_class_number}
use Rattle.apfloat_arrays.proofs.stored.loading.class_of_scale.Goals as goal

pub returns-then-is_nan : goal.returns-then-is_nan
returns-then-is_nan c = scale_class_nan c.args.x (sym c.is_nan.ensures ∙ c.if-is_nan.true)

pub returns-else-is_nan : goal.returns-else-is_nan
returns-else-is_nan c = scale_class_number c.args.x (sym c.is_nan.ensures ∙ c.if-is_nan.false)
