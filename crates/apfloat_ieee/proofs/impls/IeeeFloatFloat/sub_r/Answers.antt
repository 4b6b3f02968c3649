use Rattle.apfloat_ieee.proofs.impls.IeeeFloatFloat.sub_r.Goals as goal

pub returns-clause-difference : goal.returns-clause-difference
returns-clause-difference g c = assumption

pub returns-clause-nearby : goal.returns-clause-nearby
returns-clause-nearby g c = assumption
