use Rattle.std.proofs.Common.{◌*◌, ◌^◌}
use Rattle.std.proofs.lemmas.Nat.{pow_pos}
use Rattle.apfloat_model.specs.order.Classes.{quanta_of}
use Rattle.apfloat_ieee.specs.Types.{format_of}
use Rattle.p3109_formats.proofs.RandomParts.{chosen}
use Rattle.p3109_formats.proofs.random.pick_randomly.Goals as goal

pub returns-clause-picked : goal.returns-clause-picked
returns-clause-picked g c =
    let amount = quanta_of c.args.x * 2 ^ c.args.scale in
    let parts = 2 ^ (format_of g.S.Semantics).scale in
    let some = pow_pos (format_of g.S.Semantics).scale in
    let at = rw c.direction.ensures at c.pick_value.ensures in
    chosen c.args.precision c.args.mode c.args.bits amount parts c.pick_value.result.index c.leads_away-away.result
    c.requires.some some (c.leads_away-away.ensures amount parts some c.in_quanta.ensures.number) at.is_pick

pub returns-clause-exact : goal.returns-clause-exact
returns-clause-exact g c = c.pick_value.ensures.exact_is
