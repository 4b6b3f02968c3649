use Rattle.std.proofs.Common.{false, ◌∙◌, arith}
use Rattle.apfloat_model.proofs.rounding.PickedPoints.{kept_moved, kept_stayed}
use Rattle.p3109_formats.proofs.RandomParts.{parts_kept}
use Rattle.p3109_formats.proofs.random.parts_of.Goals as goal

pub returns-then-moves_up : goal.returns-then-moves_up
returns-then-moves_up c = λ amount parts some is.
    let rest = c.shift_right-rest in
    let s = c.args.number in
    kept_moved c.args.mode false rest.result.loss c.low_digits-whole.result c.moves_up.result c.moves_up.ensures
    c.if-moves_up.true
    ∙ parts_kept s c.args.places c.args.digits _ _ amount parts c.args.mode rest.result.loss c.requires.cut
    rest.ensures.quotient c.low_digits-whole.ensures (rest.ensures.stands s 1 (omega arith) (omega arith)) some is

pub returns-else-moves_up : goal.returns-else-moves_up
returns-else-moves_up c = λ amount parts some is.
    let rest = c.shift_right-rest in
    let s = c.args.number in
    kept_stayed c.args.mode false rest.result.loss c.low_digits-whole.result c.moves_up.result c.moves_up.ensures
    c.if-moves_up.false
    ∙ parts_kept s c.args.places c.args.digits _ _ amount parts c.args.mode rest.result.loss c.requires.cut
    rest.ensures.quotient c.low_digits-whole.ensures (rest.ensures.stands s 1 (omega arith) (omega arith)) some is
