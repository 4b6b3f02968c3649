use Rattle.std.proofs.Common.{ap, ◌∙◌, subst}
use Rattle.apfloat_model.specs.{formats.Datum.Datum, rounding.Flags.bits_of, arithmetic.Sums.IsSum}
use Rattle.apfloat_pair_theory.specs.PairFormats.{double}
use Rattle.apfloat_pair_theory.proofs.sums.SumsSound.{step}
use Rattle.rustc_apfloat.proofs.double_doubles_lemmas.PairSteps.{joined}
use Rattle.rustc_apfloat.proofs.double_doubles.sums.lost.Goals as goal

pub returns : goal.returns
returns c =
    rw (← c.x.view_is)
    (rw (← c.y.view_is)
    (step _ _ c.sub_r.ensures.difference (step _ _ c.add_r.ensures.sum (step _ _ c.add_r-2.ensures.sum
    (step _ _ c.sub_r-2.ensures.difference (step _ _
    (subst (λ (d : Datum). IsSum double c.args.round c.add_r.result.value d
    c.add_r-3.result.value (bits_of c.add_r-3.result.status))
    c.neg.ensures c.add_r-3.ensures.sum) (step _ _ c.add_r-4.ensures.sum (step _ _ c.add_r-5.ensures.sum (
      c.and.ensures.value,
      ap bits_of c.and.ensures.status ∙ joined _ _ _ _ (c.unpack-union-status-6.ensures tt)
          (joined _ _ _ _ (c.unpack-union-status-5.ensures tt) (joined _ _ _ _ (c.unpack-union-status-4.ensures tt)
          (joined _ _ _ _ (c.unpack-union-status-3.ensures tt) (joined _ _ _ _ (c.unpack-union-status-2.ensures tt)
          (c.unpack-union-status.ensures tt))))),
    )))))))))
