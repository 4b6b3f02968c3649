use Rattle.std.proofs.Common.{◌≡◌, ℕ, ◌<◌, ◌≤◌, eqb, ap, ◌∙◌, arith}
use Rattle.apfloat_model.specs.declared.kinds.NonfiniteBehavior.TheVariants.{NanNegativeZero}
use Rattle.apfloat_model.specs.rounding.{Rounding.signed_quanta, Flags.bits_of}
use Rattle.small_formats.specs.Codes.{point}
use Rattle.p3109_formats.specs.Projections.{largest_index, projected_datum}
use Rattle.p3109_formats.proofs.Values.{has_point, within_projected}
use Rattle.p3109_formats.proofs.from_value.deliver_signed.Goals as goal

pub returns-then-picked-from-clause-delivered : goal.returns-then-picked-from-clause-delivered
returns-then-picked-from-clause-delivered c = λ amount parts x.
    let l : largest_index c.args.format < c.args.picked.index =
    omega (arith, c.largest_index.ensures, c.from.ensures, c.if-picked-from.true) in
    c.past.ensures.delivered amount parts c.args.picked.index l

pub returns-clause-delivered : goal.returns-clause-delivered
returns-clause-delivered c = λ amount parts x.
    let d = c.args.format in
    let l : c.args.picked.index ≤ largest_index d =
    omega (arith, c.largest_index.ensures, c.from.ensures, c.if-picked-from.false) in
    let value : projected_datum d c.and.result.value
    ≡ signed_quanta NanNegativeZero c.args.negative (point d.precision c.args.picked.index) =
    ap (λ (code : ℕ). projected_datum d code) c.and.ensures.value ∙ c.number.ensures.datum in
    let status = ap bits_of c.and.ensures.status ∙ c.status_within-status.ensures in
    within_projected d c.args.mode c.args.leads c.args.negative amount parts c.args.picked.index c.and.result.value
    (bits_of c.and.result.status) c.args.picked.exact
    (has_point c.args.negative d.signed (eqb c.args.picked.index 0) c.requires.sign) l x value status
