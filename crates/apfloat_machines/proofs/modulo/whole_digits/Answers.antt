use Rattle.std.proofs.Common.{sym, ◌∙◌, rules, w32}
use Rattle.std.proofs.lemmas.Int.{to_z-of_z}
use Rattle.std.specs.Prelude.{FitsSigned}
use Rattle.apfloat_model.specs.order.Classes.{quanta_of}
use Rattle.apfloat_ieee.specs.FlaggedTypes.{format_of}
use Rattle.apfloat_machines.proofs.Residues.{no_whole}
use Rattle.apfloat_machines.proofs.modulo.whole_digits.Goals as goal

pub number-number-requires : goal.number-number-requires
number-number-requires g c = sym c.category.ensures.category ∙ c.in-Normal.is

pub returns-in-Normal : goal.returns-in-Normal
returns-in-Normal g c =
    let exponent = c.number-number.result.exponent in
    let fits : FitsSigned w32 exponent = search rules in
    (rw (to_z-of_z w32 exponent fits) at c.digits_at.ensures) (format_of g.S.Flagged).scale (quanta_of c.args.x)
    c.number-number.ensures.number

pub returns-in_default : goal.returns-in_default
returns-in_default g c =
    no_whole (format_of g.S.Flagged).scale c.args.x (λ e. c.in_default.not-Normal (c.category.ensures.category ∙ e))
