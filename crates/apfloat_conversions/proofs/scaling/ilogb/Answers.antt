use Rattle.std.proofs.{Common.false, Common.◌≡◌, Common.eqb, Common.arith, lemmas.Bool.ne_eqb}
use Rattle.apfloat_rounding.specs.{Shapes.format_at, Stored.quanta_at}
use Rattle.apfloat_rounding.proofs.{StoredBack.quanta_some, ShapeExponents.exponent_word, ShapeExponents.scale_is}
use Rattle.apfloat_conversions.proofs.Nexts.{logarithm_is}
use Rattle.apfloat_conversions.proofs.scaling.ilogb.Goals as goal

pub returns-in-Normal : goal.returns-in-Normal
returns-in-Normal c =
    let s = c.args.shape in
    let m = c.args.x.significand in
    let e = c.args.x.exponent in
    let n = rw c.in-Normal.is at c.requires in
    let z : eqb (quanta_at s.min_exp m e) 0 ≡ false = ne_eqb _ 0 (λ q. omega (arith, quanta_some s m e n, q)) in
    let w = exponent_word s m e n in
    rw (c.in-Normal.is, z, w) (logarithm_is (format_at s) s.precision s.min_exp s.max_exp e m (quanta_at s.min_exp m e)
    c.args.shape.parameters.precision_low (scale_is s) n.operand n.whole)
