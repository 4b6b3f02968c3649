use Rattle.apfloat_arrays.proofs.singles.convert_alike.Goals as goal

pub returns-then-are_finite : goal.returns-then-are_finite
returns-then-are_finite g c = rw c.all_counts.ensures c.convert_halves-few.ensures

pub returns-else-are_finite : goal.returns-else-are_finite
returns-else-are_finite g c = rw c.all_counts-else-are_finite.ensures c.convert_halves-few-else-are_finite.ensures
