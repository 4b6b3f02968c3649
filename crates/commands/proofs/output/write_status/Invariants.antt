use Rattle.std.proofs.Common.{map}
use Rattle.commands.proofs.FlagNames.{IsNamedTo}
use Rattle.commands.proofs.output.write_status.Given as goal

abbrev pub invariant-loop-flag : goal.invariant-loop-flag
invariant-loop-flag g l =
    IsNamedTo l.status.0 (map (λ f. (f.name.now, f.value.0)) l.flag-items) l.flag-index l.separator
    (g.W.Write.contents l.initial.out) (g.W.Write.contents l.out)
