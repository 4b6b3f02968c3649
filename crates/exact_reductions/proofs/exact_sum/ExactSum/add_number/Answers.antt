use Rattle.std.proofs.Common.{◌*◌, ◌^◌, refl, sym}
use Rattle.std.proofs.Math.Bool.{or-false}
use Rattle.exact_reductions.proofs.{Rooms.one_fits, Rooms.one_more, Sizes.sides_size}
use Rattle.exact_reductions.proofs.Tallies.{amount_added, first_none, gross_added, same_tally}
use Rattle.exact_reductions.proofs.exact_sum.ExactSum.add_number.Goals as goal

pub add-requires : goal.add-requires
add-requires g c =
    let room = rw (← c.self.view_is) at c.requires.room in (
      sides_size g.row.WORDS c.self.invariant.2,
      (c.requires.near, one_fits _ _ _ g.row.WORDS c.self.invariant.0 c.requires.small room),
    )

pub invariant_of-self : goal.invariant_of-self
invariant_of-self g c =
    let a = c.self.inside in (
      rw (c.add.ensures, gross_added a.sides c.args.negative (c.args.value * 2 ^ c.args.shift))
          (one_more _ _ _ g.row.WORDS c.self.invariant.0 c.requires.small),
      c.self.invariant.1,
      c.self.invariant.2,
    )

pub overflow_add-self : goal.overflow_add-self
overflow_add-self g c = record { fits = rw (← c.self.view_is) at c.requires.room }

pub returns : goal.returns
returns g c =
    let a = c.self.inside in
    rw (c.add.ensures, ← c.self.view_is)
    (same_tally _ _ refl (sym (first_none a.first_nan)) (sym (or-false a.invalid)) (sym (or-false a.positive_infinity))
    (sym (or-false a.negative_infinity)) refl refl
    (amount_added a.sides c.args.negative (c.args.value * 2 ^ c.args.shift)))
