use Rattle.std.proofs.Common.{rules, ◌≡◌, ℕ, ◌*◌, ◌/◌, List, length, take, sym, subst}
use Rattle.std.proofs.lemmas.List.{take_at}
use Rattle.convert_values.specs.Blocks.{AreBlocksConverted}
use Rattle.convert_values.proofs.Converted.{converted_all}
use Rattle.convert_values.proofs.blocks.BlockConversion.convert.Goals as goal

pub returns-clause-blocks : goal.returns-clause-blocks
returns-clause-blocks c =
    let w = c.widths-widths.result in
    let read : List ℕ = c.args.read.now in
    let written : List ℕ = c.convert_front-counts.new.buffer in
    let size : length written ≡ c.args.written.len = search rules in
    converted_all c.args.self w read _ _ c.widths-widths.ensures.is
    (subst
    (λ (bytes : List ℕ). AreBlocksConverted c.args.self (length read / w.source)
    (take (length read / w.source * w.source) read) (take (length read / w.source * w.target) bytes)
    c.convert_front-counts.result)
    (sym (take_at written _ c.args.written.len size)) c.convert_front-counts.ensures)
