use Rattle.std.proofs.Common.{◌≡◌, ◌+◌, ◌-◌, ◌*◌, ◌^◌, ◌<◌, ◌≤◌, ◌∙◌, to_z, of_z, w32, arith}
use Rattle.std.proofs.lemmas.Int.{to_z-of_z}
use Rattle.apfloat_words.specs.declared.terms.Term.{Term}
use Rattle.apfloat_model.specs.rounding.Bounds.{IsWithin, exponent_bound}
use Rattle.apfloat_words.proofs.OddTotals.{IsMovedUp, is_moved_up, exponent_word, terms_to_odd}
use Rattle.apfloat_words.proofs.Orders.{greater_first, of_high, of_low}
use Rattle.apfloat_words.proofs.word_sum.add_word_terms.Goals.{After-word_exponent}
use Rattle.apfloat_words.proofs.word_sum.add_word_terms.Goals as goal

pub moved_up-requires : goal.moved_up-requires
moved_up-requires c = record {
  short = c.requires.short;
  fits =
      of_high (λ (t : Term). t.significand < 2 ^ c.args.precision) _ _ _ _ c.in_order_of_exponents.ensures.same
      c.requires.x_fits c.requires.y_fits;
}

pub combine-total-requires : goal.combine-total-requires
combine-total-requires c =
    let moved = λ (t : Term). IsMovedUp 62 (t.significand * 2 ^ (62 - c.args.precision)) in
    let same = c.in_order_of_exponents.ensures.same in
    let room : c.args.precision + 1 ≤ 62 = let s = c.requires.short in omega arith in
    let x = is_moved_up _ _ 62 c.requires.some room c.requires.x_full c.requires.x_fits in
    let y = is_moved_up _ _ 62 c.requires.some room c.requires.y_full c.requires.y_fits in
    let high : IsMovedUp 62 c.moved_up.result = rw c.moved_up.ensures (of_high moved _ _ _ _ same x y) in
    let low : IsMovedUp 62 c.moved_up-2.result = rw c.moved_up-2.ensures (of_low moved _ _ _ _ same x y) in
    record {
      high_full = high.full;
      high_fits = high.fits;
      high_free = high.free;
      low_fits = low.fits;
      low_free = low.free;
    }

-- the exponent of the total as it is stored
stored : (state : After-word_exponent) → to_z w32 (of_z w32 state.word_exponent.result) ≡ state.word_exponent.result
stored c = to_z-of_z w32 c.word_exponent.result (record { sfits = c.word_exponent.type_inv })

pub returns-clause-exponent : goal.returns-clause-exponent
returns-clause-exponent c =
    let same = c.in_order_of_exponents.ensures.same in
    let within = of_high (λ (t : Term). IsWithin exponent_bound t.exponent) _ _ _ _ same c.requires.x c.requires.y in
    rw (stored (goal.at.returns-clause-exponent c).After-word_exponent)
    (greater_first _ _ _ _ _ same c.in_order_of_exponents.ensures.order
    (c.word_exponent.ensures ∙ exponent_word _ within))

pub returns-clause-rounded : goal.returns-clause-rounded
returns-clause-rounded c = λ base lx ly.
    rw (stored (goal.at.returns-clause-rounded c).After-word_exponent, c.either.ensures)
    (terms_to_odd _ _ _ _ c.word_exponent.result _ (2 ^ 60) 62 _ _ _ c.in_order_of_exponents.ensures.same
    (omega arith) c.requires.x c.requires.y c.steps_between.ensures c.word_exponent.ensures
    (rw (c.moved_up.ensures, c.moved_up-2.ensures) at c.combine-total.ensures.together)
    (rw (c.moved_up.ensures, c.moved_up-2.ensures) at c.combine-total.ensures.apart) base lx ly)
