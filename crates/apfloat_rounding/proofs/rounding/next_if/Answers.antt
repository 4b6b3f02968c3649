use Rattle.apfloat_model.proofs.rounding.PickedPoints.{room}
use Rattle.apfloat_rounding.proofs.rounding.next_if.Goals as goal

pub overflow_add-result : goal.overflow_add-result
overflow_add-result c = record { fits = room c.args.significand c.args.precision c.requires.precise c.requires.fits }
