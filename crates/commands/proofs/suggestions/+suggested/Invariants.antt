use Rattle.std.proofs.Common.{length}
use Rattle.commands.proofs.suggestions.+suggested.Given as goal

abbrev pub decreases-suggested : goal.decreases-suggested
decreases-suggested l = length l.known.now
