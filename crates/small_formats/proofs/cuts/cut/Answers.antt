use Rattle.std.proofs.{Common.arith, Common.w32, lemmas.Int.to_z-of_z}
use Rattle.small_formats.proofs.cuts.cut.Goals as goal

pub returns-clause-rest : goal.returns-clause-rest
returns-clause-rest c = c.cut_number.ensures.rest (omega arith)

pub returns-clause-cut : goal.returns-clause-cut
returns-clause-cut c = λ amount parts u h.
    let e = to_z-of_z w32 c.args.unit c.ranges.unit in (rw e at c.cut_number.ensures.cut) amount parts u h
