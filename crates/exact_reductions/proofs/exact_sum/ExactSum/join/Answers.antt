use Rattle.std.proofs.Common.{refl, arith}
use Rattle.exact_reductions.proofs.{Rooms.both_fit, Rooms.both_more, Sizes.sides_size}
use Rattle.exact_reductions.proofs.Tallies.{amounts_joined, either_part, same_tally}
use Rattle.exact_reductions.proofs.exact_sum.ExactSum.join.Goals as goal

pub join-requires : goal.join-requires
join-requires g c =
    let room = rw (← c.self.view_is, ← c.later.view_is) at c.requires in (
      sides_size g.row.WORDS c.self.invariant.2,
      both_fit _ _ _ _ g.row.WORDS c.self.invariant.0 c.later.invariant.0 room,
    )

pub invariant_of-self : goal.invariant_of-self
invariant_of-self g c =
    let a = c.self.inside in
    let b = c.later.inside in
    let fits = both_more _ _ _ _ g.row.WORDS c.self.invariant.0 c.later.invariant.0 in (
      rw c.join.ensures (omega (arith, fits)),
      either_part _ a.positive_infinity b.positive_infinity a.negative_infinity b.negative_infinity
          c.self.invariant.1 c.later.invariant.1,
      c.self.invariant.2,
    )

pub returns : goal.returns
returns g c =
    rw (c.join.ensures, c.first_of-self-inside.ensures, ← c.self.view_is, ← c.later.view_is)
    (same_tally _ _ refl refl refl refl refl refl refl (amounts_joined c.self.inside.sides c.later.inside.sides))
