use Rattle.std.proofs.Common.{◌≡◌, ◌-◌, ◌*◌, ◌<◌, true, ap, sym, ◌∙◌, not, arith, ℕ}
use Rattle.std.proofs.lemmas.Nat.{pow_pos}
use Rattle.apfloat_model.specs.rounding.Enclosure.{rounds_up}
use Rattle.apfloat_rounding.specs.Cuts.{loss_at}
use Rattle.apfloat_rounding.proofs.CutRests.{loss_at_most, loss_more}
use Rattle.apfloat_rounding.proofs.HalfQuanta.{off_last, last_by_half, last_by_more, just_below_half}
use Rattle.apfloat_rounding.proofs.rounding.rounds_below_normal.Goals as goal

pub returns-then-cut-last : goal.returns-then-cut-last
returns-then-cut-last c = λ amount parts p x g.
    off_last c.args.shape.precision c.args.cut.significand c.args.cut.place amount parts (c.integer_bit-last.result - 1)
    c.args.mode c.args.negative p (ap (λ n. n - 1) c.integer_bit-last.ensures) c.if-cut-last.true x.0

pub returns-then-cut : goal.returns-then-cut
returns-then-cut c = λ amount parts p x g.
    last_by_half c.args.shape.precision c.args.cut.significand c.args.cut.place amount parts
    (c.integer_bit-last.result - 1) c.args.mode c.args.negative (loss_at c.args.cut.rest c.args.cut.half) p
    (ap (λ n. n - 1) c.integer_bit-last.ensures) c.if-cut-last.false
    (loss_at_most c.args.cut.rest c.args.cut.half c.if-cut.true) x.0 x.1

pub returns : goal.returns
returns c = λ amount parts p x g.
    let precision = c.args.shape.precision in
    let m = c.args.cut.significand in
    let rest = c.args.cut.rest in
    let half = c.args.cut.half in
    let e = ap (λ n. n - 1) c.integer_bit-last.ensures in
    let n = c.if-cut-last.false in
    let l : c.args.cut.half < c.args.cut.rest = c.if-cut.false in
    let j = last_by_more precision m c.args.cut.place amount parts (c.integer_bit-last.result - 1)
    (loss_at rest half) e n (loss_more rest half l) x.0 x.1 in
    let d : 2 * c.args.cut.half - c.args.cut.rest ≡ c.args.cut.half - (c.args.cut.rest - c.args.cut.half) =
    omega (arith, l, c.requires.rest) in
    just_below_half precision m rest half amount parts (c.integer_bit-last.result - 1) c.args.mode c.args.negative
    (omega (arith, c.args.shape.parameters.precision_low)) e n j
    (g (omega (arith, n, pow_pos (precision - 1), c.integer_bit-last.ensures)) l)
    ∙ ap not (ap (λ (y : ℕ). rounds_up c.args.mode c.args.negative (loss_at (rest - half) y) true) d
    ∙ sym c.moves_past.ensures)
