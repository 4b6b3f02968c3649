use Rattle.std.proofs.Common.{◌≡◌, ℕ, ◌*◌, ◌%◌, ◌^◌, ◌≤◌, eqb, ◌∙◌, ap, refl, inl}
use Rattle.std.proofs.{Common.arith, lemmas.Bool.le-ltb}
use Rattle.apfloat_model.specs.rounding.{Enclosure.rounds_up, Flags.bits_of, Rounding.signed_quanta}
use Rattle.apfloat_model.specs.formats.Format.{largest}
use Rattle.apfloat_model.proofs.formats.Ranges.{half_within}
use Rattle.apfloat_rounding.specs.{Cuts.loss_at, Shapes.format_at, Stored.datum_at}
use Rattle.apfloat_rounding.proofs.{CutRests.delivered_within, FineCuts.below_whole}
use Rattle.apfloat_rounding.proofs.rounding.round_below.Goals as goal

pub pick_with_status-picked-requires-clause-fits : goal.pick_with_status-picked-requires-clause-fits
pick_with_status-picked-requires-clause-fits c =
    below_whole c.args.shape.precision c.args.cut.significand c.args.shape.parameters.precision_low c.requires.fits

pub returns-clause-delivered : goal.returns-clause-delivered
returns-clause-delivered c = λ amount parts u h g.
    let f = format_at c.args.shape in
    let m = c.args.cut.significand in
    let place = c.args.cut.place in
    let rest = c.args.cut.rest in
    let half = c.args.cut.half in
    let q = c.pick_with_status-picked.result.significand in
    let p = q * 2 ^ place in
    let s = ap bits_of c.and.ensures.status in
    let k : c.pick_with_status-picked.result.significand * 2 ^ c.args.cut.place
    ≡ c.pick_with_status-picked.result.significand * 2 ^ 0 = ap (λ (x : ℕ). q * 2 ^ x) c.requires.place in
    let e : c.pick_with_status-picked.result.significand
    ≡ c.pick_with_status-picked.result.significand * 2 ^ c.args.cut.place = omega (arith, k) in
    let w = half_within f c.args.shape.parameters.precision_low in
    let i : c.pick_with_status-picked.result.significand * 2 ^ c.args.cut.place ≤ largest (format_at c.args.shape) =
    omega (arith, k, c.requires.fits, c.pick_with_status-picked.ensures.bound, w) in
    delivered_within f c.args.mode c.args.negative m place amount parts p rest half
    (rounds_up c.args.mode c.args.negative (loss_at rest half) (eqb (m % 2) 1))
    c.pick_with_status-picked.result.tiny _ _ u refl
    (ap (λ (x : ℕ). x * 2 ^ place) c.pick_with_status-picked.ensures.value) (le-ltb (largest f) p i) h.0 h.1
    (c.pick_with_status-picked.ensures.tiny amount parts u h g (inl c.requires.place))
    (ap (datum_at c.args.shape) c.and.ensures.value ∙ c.value_below-value.ensures.datum
    ∙ ap (signed_quanta c.args.shape.nonfinite c.args.negative) e)
    (λ z. s ∙ c.pick_with_status-picked.ensures.exact z) (λ n. s ∙ c.pick_with_status-picked.ensures.inexact n)
