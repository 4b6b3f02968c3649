use Rattle.apfloat_arrays.proofs.one_by_one.convert_with.Goals as goal

pub convert_each-requires-clause-can : goal.convert_each-requires-clause-can
convert_each-requires-clause-can g c = (c.requires.have, c.far_answers_for-far.ensures)
