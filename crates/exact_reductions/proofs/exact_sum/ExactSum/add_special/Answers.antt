use Rattle.std.proofs.Common.{◌≡◌, eqb, not, refl, sym, ◌∙◌}
use Rattle.std.proofs.Math.Bool.{or-false}
use Rattle.apfloat_model.specs.{order.Classes.is_negative, rounding.Flags.bits_of, rounding.Rounding.ok_bits}
use Rattle.exact_reductions.specs.Amounts.{difference}
use Rattle.exact_reductions.proofs.Tallies.{first_none, infinite_tally, nan_tally, none_more, same_tally}
use Rattle.exact_reductions.proofs.exact_sum.ExactSum.add_special.Goals as goal

pub overflow_add-self : goal.overflow_add-self
overflow_add-self g c = record { fits = rw (← c.self.view_is) at c.requires.room }

pub returns-in-Infinity : goal.returns-in-Infinity
returns-in-Infinity g c =
    let a = c.self.inside in
    let n : c.is_negative-negative.result ≡ is_negative c.args.term.value = c.is_negative-negative.ensures in
    let e = infinite_tally c.args.term.value (bits_of c.args.term.status)
    (sym c.category.ensures.category ∙ c.in-Infinity.is) in
    rw (e, sym n, ← c.self.view_is)
    (same_tally _ _ refl (sym (first_none a.first_nan)) (sym (or-false a.invalid)) refl refl
    (sym (or-false a.positive)) (sym (or-false a.negative)) (none_more (difference a.sides)))

pub returns-in_default : goal.returns-in_default
returns-in_default g c =
    let a = c.self.inside in
    let ne : c.ne.result ≡ not (eqb (bits_of c.args.term.status) ok_bits) = c.ne.ensures in
    let e = nan_tally c.args.term.value (bits_of c.args.term.status) c.requires.special
    (λ k. c.in_default.not-Infinity (c.category.ensures.category ∙ k)) in
    rw (e, c.first_of-self-inside.ensures, ne, ← c.self.view_is)
    (same_tally _ _ refl refl refl (sym (or-false a.positive_infinity)) (sym (or-false a.negative_infinity))
    (sym (or-false a.positive)) (sym (or-false a.negative)) (none_more (difference a.sides)))
