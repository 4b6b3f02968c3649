use Rattle.std.proofs.Common.{length}
use Rattle.commands.proofs.suggestions.+is_one_edit.Given as goal

abbrev pub decreases-is_one_edit : goal.decreases-is_one_edit
decreases-is_one_edit l = length l.word.now
