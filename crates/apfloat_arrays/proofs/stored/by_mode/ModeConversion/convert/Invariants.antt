use Rattle.apfloat_arrays.specs.stored.ByMode.{AreStoredWith}
use Rattle.apfloat_arrays.proofs.stored.by_mode.ModeConversion.convert.Given as goal

-- the values before the index
abbrev pub invariant-loop-index : goal.invariant-loop-index
invariant-loop-index l = AreStoredWith l.self l.randoms l.input l.index l.output l.counts
