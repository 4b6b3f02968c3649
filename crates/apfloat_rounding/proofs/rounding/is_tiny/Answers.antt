use Rattle.std.proofs.Common.{◌-◌, ◌*◌, ◌^◌, ltb, ap, sym, ◌∙◌}
use Rattle.std.proofs.Math.Nat.{le_trans}
use Rattle.apfloat_model.proofs.rounding.Deliveries.{tiny_before, tiny_after}
use Rattle.apfloat_rounding.specs.Shapes.{format_at}
use Rattle.apfloat_rounding.proofs.CutRests.{not_tiny}
use Rattle.apfloat_rounding.proofs.HalfQuanta.{before_is, picked_is, unbounded_is, read_halves}
use Rattle.apfloat_rounding.proofs.rounding.is_tiny.Goals as goal

pub returns-then-surely_normal : goal.returns-then-surely_normal
returns-then-surely_normal c = λ amount parts p x g f.
    let n = c.requires.normal (c.surely_normal.ensures c.if-surely_normal.true) in
    not_tiny (format_at c.args.shape) c.args.mode c.args.negative c.args.cut.significand c.args.cut.place amount parts
    c.args.after c.args.cut.place p n (le_trans n c.requires.above) x.0

pub returns-then-shape : goal.returns-then-shape
returns-then-shape c = λ amount parts p x g f.
    let precision = c.args.shape.precision in
    before_is (format_at c.args.shape) c.args.mode c.args.negative amount parts (c.args.after * 2 ^ c.args.cut.place)
    c.if-shape.true
    ∙ sym (tiny_before precision (2 ^ (precision - 1)) c.args.cut.significand c.args.cut.place amount parts p x.0)
    ∙ ap (λ n. ltb c.args.cut.significand n) (sym c.integer_bit.ensures)

pub returns-then-shape-2 : goal.returns-then-shape-2
returns-then-shape-2 c = λ amount parts p x g f. unbounded_is (format_at c.args.shape)
    c.args.mode c.args.negative amount parts (c.args.after * 2 ^ c.args.cut.place) c.if-shape.false c.if-shape-2.true
    ∙ (rw (c.remade.ensures, c.remade-then-shape-2.ensures) at c.rounds_below_normal.ensures) amount parts p x
    (g (read_halves (format_at c.args.shape) c.if-shape.false c.if-shape-2.true))

pub returns : goal.returns
returns c = λ amount parts p x g f. picked_is (format_at c.args.shape) c.args.mode c.args.negative amount parts
    (c.args.after * 2 ^ c.args.cut.place) c.if-shape.false c.if-shape-2.false
    ∙ sym (tiny_after (2 ^ (c.args.shape.precision - 1)) c.args.after c.args.cut.place f)
    ∙ ap (λ n. ltb c.args.after n) (sym c.integer_bit-2.ensures)
