use Rattle.std.proofs.Common.{ap, ◌∙◌, subst}
use Rattle.apfloat_model.specs.{formats.Datum.Datum, rounding.Flags.bits_of, arithmetic.FusedSums.IsFusedSum}
use Rattle.apfloat_pair_theory.specs.PairFormats.{double}
use Rattle.apfloat_pair_theory.proofs.sums.SumsSound.{step}
use Rattle.rustc_apfloat.proofs.double_doubles_lemmas.PairSteps.{joined}
use Rattle.rustc_apfloat.proofs.double_doubles.products.lost.Goals as goal

pub returns : goal.returns
returns c =
    rw (← c.x.view_is)
    (rw (← c.y.view_is)
    (step _ _
    (subst (λ (d : Datum). IsFusedSum double c.args.round c.x.inside.0 c.y.inside.0 d
    c.mul_add_r.result.value (bits_of c.mul_add_r.result.status))
    c.neg.ensures c.mul_add_r.ensures) (step _ _ c.mul_r.ensures.product (step _ _ c.mul_r-2.ensures.product
    (step _ _ c.add_r.ensures.sum (step _ _ c.add_r-2.ensures.sum (
      c.and.ensures.value,
      ap bits_of c.and.ensures.status ∙ joined _ _ _ _ (c.unpack-union-status-4.ensures tt)
          (joined _ _ _ _ (c.unpack-union-status-3.ensures tt) (joined _ _ _ _ (c.unpack-union-status-2.ensures tt)
          (c.unpack-union-status.ensures tt))),
    )))))))
