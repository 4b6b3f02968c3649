use Rattle.std.proofs.Common.{◌≡◌, ◌-◌, ℕ, ℤ, pos, neg_ℤ, ◌-ℤ◌, ◌+ℤ◌, w32, to_z, of_z, sym}
use Rattle.std.proofs.{Common.subst, Common.inr, Common.arith, lemmas.Int.to_z-of_z, lemmas.Int.ints}
use Rattle.apfloat_model.specs.rounding.Bounds.{IsWithin, number_bound}
use Rattle.apfloat_rounding.specs.{declared.shape.Shape.Shape, Shapes.format_at, Stored.IsQuantaAt, Stored.quanta_at}
use Rattle.apfloat_rounding.proofs.ShapeExponents.{scale_is}
use Rattle.apfloat_arithmetic.proofs.other_formats_lemmas.Exponents.{moved_amount}
use Rattle.apfloat_arithmetic.proofs.other_formats.operands.number_term.Goals as goal

-- the exponent of the last of 125 digits
lowered_to : (s : Shape) (x last r : ℤ) → (last +ℤ pos s.precision) ≡ (x +ℤ pos 1) → IsWithin number_bound last
    → r ≡ (to_z w32 (of_z w32 last) -ℤ pos (125 - s.precision)) → r ≡ x -ℤ pos 124
lowered_to s x last r e near v = omega (arith, ints, s.parameters.precision_high, e, near, v)

pub term_of-term-requires : goal.term_of-term-requires
term_of-term-requires c = c.requires

pub full_significand-requires-clause-fits : goal.full_significand-requires-clause-fits
full_significand-requires-clause-fits c = rw c.term_of-term.ensures.significand c.requires.operand.fits

pub full_significand-requires-clause-full : goal.full_significand-requires-clause-full
full_significand-requires-clause-full c = rw c.term_of-term.ensures.significand c.requires.operand.full

pub returns-clause-term : goal.returns-clause-term
returns-clause-term c =
    let v = lowered_to c.args.from c.args.x.exponent c.term_of-term.result.exponent c.lowered.result
    c.term_of-term.ensures.exponent c.term_of-term.ensures.within c.lowered.ensures.value in
    let l : to_z w32 (of_z w32 c.lowered.result) ≡ c.lowered.result =
    to_z-of_z w32 c.lowered.result (record { sfits = c.lowered.type_inv }) in
    rw l (record {
      fits = c.full_significand.ensures.fits;
      full = inr c.full_significand.ensures.full;
      within = record {
        low = omega (arith, ints, c.args.from.parameters, c.requires.operand, v);
        high = omega (arith, ints, c.args.from.parameters, c.requires.operand, v);
      };
    })

pub returns-clause-is : goal.returns-clause-is
returns-clause-is c =
    let s = c.args.from in
    let m = c.args.x.significand in
    let v = lowered_to s c.args.x.exponent c.term_of-term.result.exponent c.lowered.result
    c.term_of-term.ensures.exponent c.term_of-term.ensures.within c.lowered.ensures.value in
    let f = rw c.term_of-term.ensures.significand at c.full_significand.ensures.value in
    let l : to_z w32 (of_z w32 c.lowered.result) ≡ c.lowered.result =
    to_z-of_z w32 c.lowered.result (record { sfits = c.lowered.type_inv }) in
    let k : (c.lowered.result -ℤ neg_ℤ (pos (format_at s).scale)) +ℤ pos (125 - s.precision)
    ≡ c.args.x.exponent -ℤ s.min_exp = omega (arith, ints, s.parameters, scale_is s, v) in
    rw l (record {
      sign = c.term_of-term.ensures.negative;
      is = subst (λ (q : ℕ). IsQuantaAt (neg_ℤ (pos (format_at s).scale)) q c.lowered.result
          (quanta_at s.min_exp m c.args.x.exponent)) (sym f)
          (moved_amount s.min_exp c.args.x.exponent (neg_ℤ (pos (format_at s).scale)) c.lowered.result
          (125 - s.precision) (quanta_at s.min_exp m c.args.x.exponent) m c.requires.whole k);
    })
