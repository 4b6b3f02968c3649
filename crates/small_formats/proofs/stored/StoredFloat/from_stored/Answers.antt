use Rattle.small_formats.proofs.WideResults.{into_own, wide}
use Rattle.small_formats.proofs.stored.StoredFloat.from_stored.Goals as goal

pub returns : goal.returns
returns g c =
    into_own _ _ _ _ g.F.StorageFormat.lawful (wide _ g.G.StorageFormat.lawful) c.args.round _ _ _ _ _
    (rw c.widened.ensures at c.from_value.ensures)
