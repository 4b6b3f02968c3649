use Rattle.std.proofs.Common.{ap, sym, refl, ◌∙◌}
use Rattle.apfloat_model.specs.{formats.Datum.finite, formats.Format.largest, rounding.Flags.bits_of}
use Rattle.apfloat_ieee.specs.FlaggedTypes.{format_of}
use Rattle.small_formats.proofs.saturation_lemmas.FiniteValues.{infinity_largest, nan_kept, nan_largest}
use Rattle.small_formats.proofs.saturation_lemmas.FiniteValues.{number_saturated}
use Rattle.small_formats.proofs.saturation.saturation.treat.Goals as goal

pub returns-in-Kept : goal.returns-in-Kept
returns-in-Kept g c = λ f mode x class sign h. rw (c.in-Finite.is, c.in-Kept.is)
    (nan_kept f (format_of g.T.Flagged) mode x c.args.answer.value (bits_of c.args.answer.status)
    c.args.loses_info.now (class ∙ c.in-NotANumber.is) h)

pub returns-in-Largest : goal.returns-in-Largest
returns-in-Largest g c = λ f mode x class sign h.
    rw (c.in-Finite.is, c.in-Largest.is, c.and-in-Largest.ensures.value, c.and-in-Largest.ensures.status)
    (nan_largest f (format_of g.T.Flagged) mode x _ _ _ (class ∙ c.in-NotANumber.is) c.largest_of_sign.ensures refl
    refl)

pub returns-in-Infinity : goal.returns-in-Infinity
returns-in-Infinity g c =
    λ f mode x class sign h. rw (c.in-Finite.is, c.and-in-Infinity.ensures.value, c.and-in-Infinity.ensures.status)
    (infinity_largest c.in-Finite.nans f (format_of g.T.Flagged) mode x _ _ _ (class ∙ c.in-Infinity.is)
    (c.largest_of_sign-in-Infinity.ensures ∙ ap (λ b. finite b (largest (format_of g.T.Flagged))) (sym sign)) refl refl)

pub returns-in-Number : goal.returns-in-Number
returns-in-Number g c =
    λ f mode x class sign h. rw (c.in-Finite.is, c.and-in-Number.ensures.value, c.and-in-Number.ensures.status)
    (number_saturated c.in-Finite.nans f (format_of g.T.Flagged) mode x c.args.answer.value _ _ _
    (class ∙ c.in-Number.is) h (c.saturated-in-Number.ensures x class sign))
