use Rattle.std.proofs.{Common.arith, Common.w32, lemmas.Int.to_z-of_z}
use Rattle.apfloat_digits.proofs.hexadecimal_lemmas.Lengths.{front_length, tail_room}
use Rattle.apfloat_model.proofs.arithmetic.Significands.{exponent_fits}
use Rattle.apfloat_digits.proofs.hexadecimal.texts.push_number.Goals as goal

pub push-requires-4 : goal.push-requires-4
push-requires-4 c =
    let short = front_length c.args.line.now 48 120 c.character.result c.args.number.places c.args.number.fraction
    c.requires.start c.requires.few in
    rw (c.push_dotted.ensures, c.push-3.ensures, c.push-2.ensures, c.push.ensures) (omega (arith, short))

pub push_exponent-requires : goal.push_exponent-requires
push_exponent-requires c =
    let exact = to_z-of_z w32 c.args.number.exponent (exponent_fits c.args.number.exponent c.requires.within) in
    let short = front_length c.args.line.now 48 120 c.character.result c.args.number.places c.args.number.fraction
    c.requires.start c.requires.few in
    rw (c.push-4.ensures, c.push_dotted.ensures, c.push-3.ensures, c.push-2.ensures, c.push.ensures, exact)
    (tail_room _ 112 c.args.number.exponent short c.requires.within)
