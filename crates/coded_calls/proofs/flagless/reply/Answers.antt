use Rattle.std.proofs.Common.{refl}
use Rattle.coded_calls.proofs.flagless.reply.Goals as goal

pub returns-in-Some-OfFormat : goal.returns-in-Some-OfFormat
returns-in-Some-OfFormat c =
    rw (← c.in-Some-OfFormat.ensures, c.in-Some-OfFormat.field-0-is, ← c.built_in.ensures) (refl, c.fill.ensures)
