use Rattle.small_formats.proofs.WideResults.{sum, wide}
use Rattle.small_formats.proofs.stored.StoredFloat.add_r.Goals as goal

pub returns : goal.returns
returns g c =
    sum _ _ _ (wide _ g.F.StorageFormat.lawful) c.args.round _ _ _ c.made_odd.ensures _ _ c.projected.ensures _ _ _ _
    (rw (c.is_negative.ensures, c.is_negative-2.ensures) at c.sign_of_zero-of_zero.ensures)
    (rw (c.widened.ensures, c.widened-2.ensures) at c.add_r-truncated.ensures.sum)
