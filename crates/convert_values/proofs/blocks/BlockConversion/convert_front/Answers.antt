use Rattle.std.proofs.Common.{◌≡◌, ◌*◌, List, ℕ, length, sym, ◌∙◌, subst}
use Rattle.std.proofs.lemmas.List.{length-take-le, take_at}
use Rattle.convert_values.specs.Blocks.{AreBlocksConverted}
use Rattle.convert_values.proofs.blocks.BlockConversion.convert_front.Goals as goal

pub returns : goal.returns
returns c =
    let size : length c.convert_each.new.written ≡ c.args.count * c.args.widths.target =
    c.convert_each.auto.written
    ∙ length-take-le (c.args.count * c.args.widths.target) c.args.buffer.now c.requires.room in
    subst (λ (bytes : List ℕ). AreBlocksConverted c.args.self c.args.count c.args.read.now bytes c.convert_each.result)
    (sym (take_at c.convert_each.new.written _ _ size)) c.convert_each.ensures
