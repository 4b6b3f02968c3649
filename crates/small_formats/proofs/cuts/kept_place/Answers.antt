use Rattle.std.proofs.Common.{rules}
use Rattle.small_formats.proofs.cuts.kept_place.Goals as goal

pub returns-then-top-precision-clause-near : goal.returns-then-top-precision-clause-near
returns-then-top-precision-clause-near c = search rules steps 500000

pub returns-then-top-precision-clause-covers : goal.returns-then-top-precision-clause-covers
returns-then-top-precision-clause-covers c = search rules steps 500000

pub returns-then-top-precision-clause-reached : goal.returns-then-top-precision-clause-reached
returns-then-top-precision-clause-reached c = search rules steps 500000
