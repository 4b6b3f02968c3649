use Rattle.std.proofs.Common.{◌≡◌, ◌*◌, ◌^◌, refl, sym, arith}
use Rattle.std.proofs.Math.Bool.{or-false}
use Rattle.apfloat_words.specs.Wides.{whole}
use Rattle.exact_reductions.specs.Amounts.{with_amount}
use Rattle.exact_reductions.proofs.{Placed.two_parts, Rooms.one_fits, Rooms.one_more, Sizes.sides_size}
use Rattle.exact_reductions.proofs.Tallies.{amount_added, amount_twice, first_none, gross_added, same_tally}
use Rattle.exact_reductions.proofs.exact_sum.ExactSum.add_wide_number.{Given.Over, Goals.After-add-2}
use Rattle.exact_reductions.proofs.exact_sum.ExactSum.add_wide_number.Goals as goal

pub add-requires : goal.add-requires
add-requires g c =
    let room = rw (← c.self.view_is) at c.requires.room in
    let parts = two_parts c.args.value.low c.args.value.high c.args.shift in
    let fits = one_fits _ _ _ g.row.WORDS c.self.invariant.0 c.requires.small room in (
      sides_size g.row.WORDS c.self.invariant.2,
      (omega (arith, c.requires.near), omega (arith, parts, fits)),
    )

pub add-requires-2 : goal.add-requires-2
add-requires-2 g c =
    let a = c.self.inside in
    let room = rw (← c.self.view_is) at c.requires.room in
    let parts = two_parts c.args.value.low c.args.value.high c.args.shift in
    let fits = one_fits _ _ _ g.row.WORDS c.self.invariant.0 c.requires.small room in
    let gross = gross_added a.sides c.args.negative (c.args.value.low * 2 ^ c.args.shift) in (
      sides_size g.row.WORDS c.self.invariant.2,
      (omega (arith, c.requires.near), rw (c.add.ensures, gross) (omega (arith, parts, fits))),
    )

-- the sums with both parts
both_added : (g : Over) → (state : After-add-2 g) → state.add-2.new.self
    ≡ with_amount state.args.negative (whole state.args.value * 2 ^ state.args.shift) state.self.inside.sides
both_added g c =
    rw (c.add-2.ensures, c.add.ensures)
    (amount_twice c.self.inside.sides c.args.negative _ _ _ (two_parts c.args.value.low c.args.value.high c.args.shift))

pub invariant_of-self : goal.invariant_of-self
invariant_of-self g c =
    let a = c.self.inside in
    let state = (goal.at.invariant_of-self g c).After-add-2 in (
      rw (both_added g state, gross_added a.sides c.args.negative (whole c.args.value * 2 ^ c.args.shift))
          (one_more _ _ _ g.row.WORDS c.self.invariant.0 c.requires.small),
      c.self.invariant.1,
      c.self.invariant.2,
    )

pub overflow_add-self : goal.overflow_add-self
overflow_add-self g c = record { fits = rw (← c.self.view_is) at c.requires.room }

pub returns : goal.returns
returns g c =
    let a = c.self.inside in
    let state = (goal.at.returns g c).After-add-2 in
    rw (both_added g state, ← c.self.view_is)
    (same_tally _ _ refl (sym (first_none a.first_nan)) (sym (or-false a.invalid)) (sym (or-false a.positive_infinity))
    (sym (or-false a.negative_infinity)) refl refl
    (amount_added a.sides c.args.negative (whole c.args.value * 2 ^ c.args.shift)))
