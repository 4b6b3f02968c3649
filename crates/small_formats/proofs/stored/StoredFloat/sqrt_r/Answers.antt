use Rattle.small_formats.proofs.WideResults.{root, wide}
use Rattle.small_formats.proofs.stored.StoredFloat.sqrt_r.Goals as goal

pub returns : goal.returns
returns g c =
    root _ _ _ (wide _ g.F.StorageFormat.lawful) c.args.round _ _ _ c.made_odd.ensures _ _ c.projected.ensures _ _
    (c.is_negative.ensures) (rw c.widened.ensures at c.sqrt_r-truncated.ensures.root)
