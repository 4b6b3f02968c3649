use Rattle.std.proofs.Common.{ℕ, false, ap, ◌∙◌, sym, arith}
use Rattle.std.proofs.lemmas.Bool.{ltb-true, ltb-false}
use Rattle.apfloat_model.specs.{formats.Datum.finite, order.Classes.quanta_of}
use Rattle.small_formats.proofs.blocks_lemmas.Greatest.{below_quanta, max_left, max_right}
use Rattle.small_formats.proofs.blocks.magnitudes.larger.Goals as goal

pub returns-then-lt-clause-value : goal.returns-then-lt-clause-value
returns-then-lt-clause-value g c =
    let m = quanta_of c.args.x in
    let n = quanta_of c.args.y in
    let less = below_quanta c.args.x c.args.y m n c.lt.result c.requires.x c.requires.y c.lt.ensures in
    let l = ltb-true m n (sym less ∙ c.if-lt.true) in
    c.requires.y ∙ ap (λ (k : ℕ). finite false k) (sym (max_left n m (omega (arith, l))))

pub returns-else-lt-clause-value : goal.returns-else-lt-clause-value
returns-else-lt-clause-value g c =
    let m = quanta_of c.args.x in
    let n = quanta_of c.args.y in
    let less = below_quanta c.args.x c.args.y m n c.lt.result c.requires.x c.requires.y c.lt.ensures in
    let l = ltb-false m n (sym less ∙ c.if-lt.false) in
    c.requires.x ∙ ap (λ (k : ℕ). finite false k) (sym (max_right n m (omega (arith, l))))
