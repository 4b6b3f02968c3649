use Rattle.std.proofs.Common.{false, true, ap, ◌∙◌}
use Rattle.apfloat_model.specs.{order.Classes.is_finite, rounding.Flags.bits_of, rounding.Steps.ends}
use Rattle.apfloat_pair_theory.specs.Pairs.{alone}
use Rattle.apfloat_pair_theory.specs.PairSums.{◌∪◌, closing_low}
use Rattle.apfloat_pair_theory.proofs.sums.SumsSound.{at_test, step}
use Rattle.rustc_apfloat.proofs.double_doubles_lemmas.PairSteps.{finite_is, joined}
use Rattle.rustc_apfloat.proofs.double_doubles.sums.closed.Goals as goal

pub returns-then-not-is_finite : goal.returns-then-not-is_finite
returns-then-not-is_finite c =
    let h = c.add_r.result.value in
    let flags = bits_of c.args.status ∪ bits_of c.add_r.result.status in
    step _ _ c.add_r.ensures.sum
    (at_test c.args.round false (is_finite h) (closing_low c.args.z c.args.zz h flags) (ends (alone h) flags) _ _
    (finite_is h _ _ c.is_finite.ensures c.if-not-is_finite.true)
    (c.and.ensures.value ∙ c.alone.ensures, ap bits_of c.and.ensures.status ∙ c.unpack-union-flags.ensures tt))

pub returns : goal.returns
returns c =
    let h = c.add_r.result.value in
    let flags = bits_of c.args.status ∪ bits_of c.add_r.result.status in
    step _ _ c.add_r.ensures.sum
    (at_test c.args.round true (is_finite h) (closing_low c.args.z c.args.zz h flags) (ends (alone h) flags) _ _
    (finite_is h _ _ c.is_finite.ensures c.if-not-is_finite.false)
    (step _ _ c.sub_r.ensures.difference (step _ _ c.add_r-2.ensures.sum (
      c.and-2.ensures.value,
      ap bits_of c.and-2.ensures.status ∙ joined _ _ _ _ (c.unpack-union-flags-3.ensures tt)
          (joined _ _ _ _ (c.unpack-union-flags-2.ensures tt) (c.unpack-union-flags.ensures tt)),
    ))))
