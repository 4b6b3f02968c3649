use Rattle.std.proofs.Common.{w32, to_z, of_z, sym, subst}
use Rattle.std.specs.Prelude.{pos, ◌-ℤ◌}
use Rattle.apfloat_model.specs.arithmetic.{Exponents.IsFrexp, Scaling.IsScaling}
use Rattle.apfloat_pair_theory.specs.{PairFormats.double, Pairs.Pair}
use Rattle.rustc_apfloat.proofs.double_doubles_lemmas.PairFractions.{fraction_turns, fraction_turned, fraction_by_parts}
use Rattle.rustc_apfloat.proofs.double_doubles.parts.fraction.Goals as goal

pub overflow_sub-exponent : goal.overflow_sub-exponent
overflow_sub-exponent c =
    fraction_turns c.args.x.high c.frexp_r-high.result c.frexp_r-high.new.exp (sym c.in-Normal.ensures.category)
    c.in-Normal.ensures.high
    (subst (λ (p : Pair). IsFrexp double p.high c.frexp_r-high.result c.frexp_r-high.new.exp) c.x.view_is
    c.frexp_r-high.ensures)

pub returns-in-Normal : goal.returns-in-Normal
returns-in-Normal c =
    let h = subst (λ (p : Pair). IsFrexp double p.high c.frexp_r-high.result c.frexp_r-high.new.exp) c.x.view_is
    c.frexp_r-high.ensures in
    fraction_by_parts c.args.round c.args.x c.frexp_r-high.result c.scalbn_r.result c.frexp_r-high.new.exp
    (to_z w32 (of_z w32 (pos 0 -ℤ to_z w32 (of_z w32 c.frexp_r-high.new.exp)))) (sym c.in-Normal.ensures.category) h
    (fraction_turned c.args.x.high c.frexp_r-high.result c.frexp_r-high.new.exp (sym c.in-Normal.ensures.category)
    c.in-Normal.ensures.high h)
    (subst (λ (p : Pair). IsScaling double c.args.round p.low
    (to_z w32 (of_z w32 (pos 0 -ℤ to_z w32 (of_z w32 c.frexp_r-high.new.exp)))) c.scalbn_r.result)
    c.x-2.view_is c.scalbn_r.ensures)
