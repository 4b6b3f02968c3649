use Rattle.std.proofs.Common.{length}
use Rattle.commands.proofs.about.About.+among.Given as goal

abbrev pub decreases-among : goal.decreases-among
decreases-among l = length l.words.now
