use Rattle.std.proofs.Common.{Bool, false, ap, ◌∙◌, ℕ, sym, cond}
use Rattle.apfloat_model.specs.formats.Datum.{infinite, nan}
use Rattle.p3109_formats.specs.Projections.{coded, projected_datum}
use Rattle.p3109_formats.proofs.Codes.{coded_infinity}
use Rattle.p3109_formats.proofs.descriptor.Descriptor.past.Goals as goal

pub returns-then-self-clause-datum : goal.returns-then-self-clause-datum
returns-then-self-clause-datum c =
    let d = c.args.self in
    ap (λ (code : ℕ). projected_datum d code) c.of_index.ensures.code
    ∙ ap (λ (index : ℕ). projected_datum d (coded d c.args.negative index)) c.last_index.ensures
    ∙ coded_infinity d c.args.negative c.requires.lawful c.requires.sign c.if-self.true

pub returns-else-self-clause-datum : goal.returns-else-self-clause-datum
returns-else-self-clause-datum c =
    c.nan.ensures.datum ∙ sym (ap (λ (b : Bool). cond b (infinite c.args.negative) (nan false 0)) c.if-self.false)
