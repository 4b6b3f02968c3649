use Rattle.std.proofs.Common.{Bool, ℕ, ap, ◌∙◌, sym, subst, arith}
use Rattle.apfloat_model.specs.rounding.Flags.{bits_of}
use Rattle.p3109_formats.specs.{Picks.IsProjectedAt, Projections.projected_datum}
use Rattle.p3109_formats.proofs.Values.{lacked_sign, lacking_projected, lacks_no_sign, zero_projected}
use Rattle.p3109_formats.proofs.from_value.deliver_pick.Goals as goal

pub returns-then-picked-ne0-clause-delivered : goal.returns-then-picked-ne0-clause-delivered
returns-then-picked-ne0-clause-delivered c = λ amount parts x.
    let d = c.args.format in
    let lacks = sym c.lacks_sign.ensures ∙ c.if-lacks_sign.true in
    subst
    (λ (b : Bool). IsProjectedAt d c.args.mode c.args.leads b amount parts c.args.picked.index c.and.result.value
    (bits_of c.and.result.status)) (sym (lacked_sign c.args.negative d.signed lacks))
    (lacking_projected d c.args.mode c.args.leads amount parts c.args.picked.index c.and.result.value
    (bits_of c.and.result.status) (lacks_no_sign c.args.negative d.signed lacks)
    (λ e. omega (arith, e, c.if-picked-ne0.true))
    (ap (λ (code : ℕ). projected_datum d code) c.and.ensures.value ∙ c.nan.ensures.datum)
    (ap bits_of c.and.ensures.status))

pub returns-then-lacks_sign-clause-delivered : goal.returns-then-lacks_sign-clause-delivered
returns-then-lacks_sign-clause-delivered c = λ amount parts x.
    let d = c.args.format in
    let made = c.deliver_signed in
    subst
    (λ (b : Bool). IsProjectedAt d c.args.mode c.args.leads b amount parts c.args.picked.index made.result.value
    (bits_of made.result.status))
    (sym (lacked_sign c.args.negative d.signed (sym c.lacks_sign.ensures ∙ c.if-lacks_sign.true)))
    (zero_projected d c.args.mode c.args.leads amount parts c.args.picked.index made.result.value
    (bits_of made.result.status) (omega (arith, c.if-picked-ne0.false))
    (made.ensures.delivered amount parts x))
