use Rattle.commands.proofs.Hexadecimals.{last_digits}
use Rattle.commands.proofs.output.write_hexadecimal.Goals as goal

pub returns : goal.returns
returns g c =
    let digits = last_digits c.args.number c.args.digits _ c.requires c.hexadecimal-text.ensures in
    rw digits at c.write_all.ensures.bytes
