use Rattle.apfloat_base.proofs.float.Float.is_finite_non_zero.Goals as goal

pub returns-in-NaN : goal.returns-in-NaN
returns-in-NaN g c = rw (← c.category.ensures, c.in-NaN.is)

pub returns-in-Zero : goal.returns-in-Zero
returns-in-Zero g c = rw (← c.category.ensures, c.in-Zero.is)

pub returns-in-Normal : goal.returns-in-Normal
returns-in-Normal g c = rw (← c.category.ensures, c.in-Normal.is)

pub returns-in-Infinity : goal.returns-in-Infinity
returns-in-Infinity g c = rw (← c.category.ensures, c.in-Infinity.is)
