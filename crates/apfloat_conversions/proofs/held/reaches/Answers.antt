use Rattle.std.proofs.{Common.inr, Common.sym, Common.ap, Common.◌∙◌, Common.to_z, Common.w32, lemmas.Bool.leb-true}
use Rattle.apfloat_rounding.proofs.ShapeExponents.{max_exp_word}
use Rattle.apfloat_conversions.proofs.HeldNumbers.{held_shift}
use Rattle.apfloat_conversions.proofs.held.reaches.Goals as goal

pub returns-then-from-into : goal.returns-then-from-into
returns-then-from-into c = λ h.
    let s = c.args.from in
    let t = c.args.into in
    let w = rw (held_shift s.precision t.precision c.greatest_significand.result c.requires
    c.args.into.parameters.precision_high c.greatest_significand.ensures.fits) at h in
    inr (record {
      exponents = sym (max_exp_word s) ∙ ap (to_z w32) c.if-from-into.true ∙ max_exp_word t;
      significands =
          rw (← c.greatest_significand.ensures.value, ← c.greatest_significand-then-from-into.ensures.value)
          (leb-true _ _ w);
    })
