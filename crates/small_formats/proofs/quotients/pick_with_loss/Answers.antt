use Rattle.std.proofs.Common.{◌+◌, ◌<◌, cond, ap, ◌∙◌, w32, arith}
use Rattle.std.proofs.lemmas.Int.{to_z-of_z}
use Rattle.apfloat_model.proofs.general.Powers.{exponent_below}
use Rattle.small_formats.proofs.StoredPicks.{picked_at}
use Rattle.small_formats.proofs.quotients.pick_with_loss.Goals as goal

-- at least 125 digits
pub cut_number-kept-requires-clause-long : goal.cut_number-kept-requires-clause-long
cut_number-kept-requires-clause-long c =
    let below = c.digits.ensures.below in
    let long : 124 < c.digits.result = exponent_below 124 c.digits.result (omega (arith, c.requires.long, below)) in
    omega (arith, long, c.requires.precise)

pub cut_number-kept-requires-clause-low : goal.cut_number-kept-requires-clause-low
cut_number-kept-requires-clause-low c =
    let below = c.digits.ensures.below in
    let long : 124 < c.digits.result = exponent_below 124 c.digits.result (omega (arith, c.requires.long, below)) in
    c.digits.ensures.full (omega (arith, long))

pub returns : goal.returns
returns c = λ amount parts u h.
    let e = to_z-of_z w32 c.args.unit c.ranges.unit in
    let kept = (rw e at c.cut_number-kept.ensures.cut) amount parts u h in
    picked_at c.args.precision c.args.mode c.args.negative c.cut_number-kept.result.significand
    c.cut_number-kept.result.place amount parts c.moved_index.result c.cut_number-kept.result.loss
    c.moves_up-moves.result c.is_exact.result c.requires.some u kept.0 kept.1 c.moves_up-moves.ensures
    (c.moved_index.ensures ∙ ap (λ n. cond c.moves_up-moves.result (n + 1) n) c.index_of-below.ensures.value)
    c.is_exact.ensures.yes c.is_exact.ensures.no
