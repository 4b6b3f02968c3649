use Rattle.std.proofs.Common.{◌*◌, ◌^◌}
use Rattle.apfloat_model.specs.{order.Classes.quanta_of, rounding.Flags.bits_of}
use Rattle.apfloat_ieee.specs.Types.{format_of}
use Rattle.small_formats.specs.{Storage.format_with, Types.constants_of}
use Rattle.small_formats.proofs.ModePicks.{saturated_by}
use Rattle.small_formats.proofs.from_value_by.round_positive.Goals as goal

pub returns : goal.returns
returns g c =
    let d = constants_of g.F.StorageFormat in
    let amount = quanta_of c.args.x * 2 ^ (format_with d).scale in
    let parts = 2 ^ (format_of g.S.Semantics).scale in
    let picked = rw (c.scale.ensures.value, c.PRECISION.ensures) at c.pick_value-picked.ensures in
    let delivered = (rw c.ieee_mode.ensures at c.deliver_pick.ensures) amount parts picked.exact_is in
    saturated_by d c.args.mode c.args.negative amount parts c.pick_value-picked.result.index c.deliver_pick.result.value
    (bits_of c.deliver_pick.result.status) c.pick_value-picked.result.exact g.F.StorageFormat.lawful picked delivered
