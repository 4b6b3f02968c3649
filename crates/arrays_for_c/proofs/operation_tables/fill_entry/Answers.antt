use Rattle.std.proofs.Common.{ℕ, ◌+◌, ◌*◌, ◌/◌, ◌%◌, ◌^◌, ap, ◌∙◌, arith}
use Rattle.arrays_for_c.proofs.OperationTables.{element_fits, entry_made}
use Rattle.arrays_for_c.proofs.operation_tables.fill_entry.Goals as goal

pub write_entry-requires-clause-bits : goal.write_entry-requires-clause-bits
write_entry-requires-clause-bits g c =
    let fits = element_fits (g.C.ElementCalls.map c.args.calls) (c.args.place / 256) (c.args.place % 256) 0
    c.element-made.new.bytes c.element-made.result c.requires.byte c.element-made.ensures in
    let same = c.number_of.ensures in
    omega (arith, fits, same)

pub returns : goal.returns
returns g c =
    entry_made (g.C.ElementCalls.map c.args.calls) c.args.place c.mark_of.result c.element-made.new.bytes
    c.write_entry.new.entry c.element-made.result c.requires.byte c.element-made.ensures c.mark_of.ensures.is
    (c.write_entry.ensures ∙ ap (λ (n : ℕ). n + 2 ^ 32 * c.mark_of.result) c.number_of.ensures)
