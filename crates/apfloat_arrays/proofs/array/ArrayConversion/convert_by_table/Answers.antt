use Rattle.std.proofs.Common.{ℕ, ◌*◌, ◌≤◌, sym, subst, ap, ◌∙◌}
use Rattle.formats_at_run_time.specs.{BuiltIns.constants_in, FlaggedKinds.flagged_constants}
use Rattle.apfloat_arrays.specs.{declared.widths.Widths.Widths, Blocks.IsBlock, Values.IsAnswerAt, Values.IsConvertedBy}
use Rattle.apfloat_arrays.proofs.{TabledResults.block_looked_up, TabledResults.entries_of, WidthBounds.flagged_room}
use Rattle.apfloat_arrays.proofs.array.ArrayConversion.convert_by_table.Goals as goal

pub look_up-requires-clause-table : goal.look_up-requires-clause-table
look_up-requires-clause-table c =
    let room : (flagged_constants c.args.self.target).bits ≤ 8 * c.widths-width.result.target =
    subst (λ (w : Widths). (flagged_constants c.args.self.target).bits ≤ 8 * w.target)
    (sym c.widths-width.ensures.is)
    (flagged_room c.args.self.target) in
    entries_of
    (IsAnswerAt c.args.self.overflow (constants_in c.args.self.source) (flagged_constants c.args.self.target)
    c.args.self.round) (flagged_constants c.args.self.target).bits c.widths-width.result.target 65536 c.write.new.bytes
    (λ place bits outcome made. made.is_encoded.below) (c.write.auto.bytes ∙ c.requires.table) room c.write.ensures

pub returns : goal.returns
returns c =
    let same = ap (λ (w : Widths). w.target) c.widths-width.ensures.is in
    subst (λ (n : ℕ). IsBlock (IsConvertedBy c.args.self.overflow (constants_in c.args.self.source)
    (flagged_constants c.args.self.target) c.args.self.round) 2 n c.args.count c.args.input.now c.look_up.new.output
    c.counts.result) same
    (block_looked_up
    (IsAnswerAt c.args.self.overflow (constants_in c.args.self.source) (flagged_constants c.args.self.target)
    c.args.self.round) 2 c.widths-width.result.target 65536 c.args.count c.args.input.now c.look_up.new.output
    c.write.new.bytes c.look_up.result c.counts.result c.write.ensures c.look_up.ensures c.counts.ensures)
