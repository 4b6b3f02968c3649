use Rattle.std.proofs.{Common.arith, lemmas.Int.ints}
use Rattle.apfloat_arithmetic.proofs.{Ranges.wider_word, WideTerms.is_addend_term}
use Rattle.apfloat_arithmetic.proofs.fused.addend_term.Goals as goal

pub full_term-term-requires : goal.full_term-term-requires
full_term-term-requires c = c.requires.normal

pub far_lowered-requires-clause-within : goal.far_lowered-requires-clause-within
far_lowered-requires-clause-within c = wider_word _ _ _ (omega arith) (omega arith) c.full_term-term.ensures.within

pub far_lowered-requires-clause-short : goal.far_lowered-requires-clause-short
far_lowered-requires-clause-short c = omega (arith, c.requires.short)

pub raised_addend-requires-clause-some : goal.raised_addend-requires-clause-some
raised_addend-requires-clause-some c = omega (arith, c.args.shape.parameters.precision_low)

pub raised_addend-requires-clause-short : goal.raised_addend-requires-clause-short
raised_addend-requires-clause-short c = c.requires.short

pub returns : goal.returns
returns c =
    let s = c.args.shape in
    let term = c.full_term-term.ensures in
    let raised = c.raised_addend in
    is_addend_term s _ _ c.args.z.exponent c.far_lowered.result _ raised.result c.requires.normal term.negative
    (omega (arith, ints, s.parameters.precision_low, term.within, term.exponent, c.far_lowered.ensures.value))
    (rw term.significand at raised.ensures.value) c.far_lowered.ensures.within raised.ensures.fits raised.ensures.full
