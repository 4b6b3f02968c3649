use Rattle.std.proofs.Common.{refl}
use Rattle.apfloat_model.specs.declared.kinds.Category.TheVariants.{Infinity, Normal, Zero}
use Rattle.apfloat_ieee.specs.Types.{format_of}
use Rattle.apfloat_digits.proofs.hexadecimal_lemmas.NanPayloads.{full_of, other_category}
use Rattle.apfloat_digits.proofs.hexadecimal.payloads.full_line.Goals as goal

pub returns-in-Infinity-clause-text : goal.returns-in-Infinity-clause-text
returns-in-Infinity-clause-text g c =
    full_of (format_of g.S.Semantics) c.args.x c.line_of.result
    (other_category (format_of g.S.Semantics) c.args.x Infinity
    (cc (c.category.ensures.category, c.in-Infinity.is)) refl) c.line_of.ensures.text

pub returns-in-Zero-clause-text : goal.returns-in-Zero-clause-text
returns-in-Zero-clause-text g c =
    full_of (format_of g.S.Semantics) c.args.x c.line_of-in-Zero.result
    (other_category (format_of g.S.Semantics) c.args.x Zero (cc (c.category.ensures.category, c.in-Zero.is)) refl)
    c.line_of-in-Zero.ensures.text

pub returns-in-Normal-clause-text : goal.returns-in-Normal-clause-text
returns-in-Normal-clause-text g c =
    full_of (format_of g.S.Semantics) c.args.x c.line_of-in-Normal.result
    (other_category (format_of g.S.Semantics) c.args.x Normal (cc (c.category.ensures.category, c.in-Normal.is)) refl)
    c.line_of-in-Normal.ensures.text
