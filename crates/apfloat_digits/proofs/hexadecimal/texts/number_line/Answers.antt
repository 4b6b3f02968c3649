use Rattle.apfloat_digits.proofs.hexadecimal_lemmas.Lengths.{number_length}
use Rattle.apfloat_digits.proofs.hexadecimal.texts.number_line.Goals as goal

pub returns-clause-room : goal.returns-clause-room
returns-clause-room c =
    rw (c.push_number.ensures, c.push_sign.ensures, c.new-line.ensures)
    (number_length c.args.negative c.args.number.first c.args.number.places c.args.number.fraction
    c.args.number.exponent c.requires.few c.requires.within)
