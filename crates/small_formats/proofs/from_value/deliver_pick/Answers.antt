use Rattle.std.proofs.Common.{◌<◌, ◌≤◌, arith}
use Rattle.apfloat_model.specs.rounding.Flags.{bits_of}
use Rattle.small_formats.specs.{Codes.largest_index, Types.constants_of}
use Rattle.small_formats.proofs.StoredPicks.{past_delivered, within_delivered}
use Rattle.small_formats.proofs.from_value.deliver_pick.Goals as goal

pub returns-then-picked-from : goal.returns-then-picked-from
returns-then-picked-from g c = λ amount parts x.
    let d = constants_of g.F.StorageFormat in
    let l : largest_index d < c.args.picked.index =
    omega (arith, c.largest_index.ensures, c.from.ensures, c.if-picked-from.true) in
    past_delivered d c.args.mode c.args.negative amount parts c.args.picked.index c.past.result.value
    (bits_of c.past.result.status) g.F.StorageFormat.lawful l c.past.ensures.value c.past.ensures.status

pub returns-else-picked-from : goal.returns-else-picked-from
returns-else-picked-from g c = λ amount parts x.
    let d = constants_of g.F.StorageFormat in
    let l : c.args.picked.index ≤ largest_index d =
    omega (arith, c.largest_index.ensures, c.from.ensures, c.if-picked-from.false) in
    within_delivered d c.args.mode c.args.negative amount parts c.args.picked.index c.within.result.value
    (bits_of c.within.result.status) c.args.picked.exact g.F.StorageFormat.lawful x l c.within.ensures.value
    c.within.ensures.status
