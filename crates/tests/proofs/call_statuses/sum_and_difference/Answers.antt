use Rattle.rustc_apfloat.specs.FlaggedTypes.{format_of}
use Rattle.apfloat_model.proofs.rounding.FlagsTogether.{sum_together, difference_together}
use Rattle.tests.proofs.call_statuses.sum_and_difference.Goals as goal

pub returns-clause-adds : goal.returns-clause-adds
returns-clause-adds g c = c.add_r.ensures.sum

pub returns-clause-subtracts : goal.returns-clause-subtracts
returns-clause-subtracts g c = c.sub_r.ensures.difference

pub returns-clause-sum : goal.returns-clause-sum
returns-clause-sum g c = sum_together (format_of g.S.Flagged) c.args.mode c.args.x c.args.y _ _ c.add_r.ensures.sum

pub returns-clause-difference : goal.returns-clause-difference
returns-clause-difference g c =
    difference_together (format_of g.S.Flagged) c.args.mode c.args.x c.args.y _ _ c.sub_r.ensures.difference
