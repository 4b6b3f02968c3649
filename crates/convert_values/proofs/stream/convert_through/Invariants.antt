use Rattle.std.proofs.Common.{◌*◌, ◌/◌, ◌≤◌, length}
use Rattle.convert_values.specs.StreamWidths.{stream_widths}
use Rattle.convert_values.proofs.stream.convert_through.Given as goal

abbrev pub invariant-loop : goal.invariant-loop
invariant-loop g l =
    length l.read / (stream_widths l.conversion).source * (stream_widths l.conversion).target ≤ length l.buffer.items
