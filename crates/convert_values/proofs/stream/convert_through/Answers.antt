use Rattle.std.proofs.Common.{rules, ◌*◌, ◌≤◌, ◌/◌, ℕ, arith}
use Rattle.std.proofs.Math.Nat.{div-mul-le_self, le-div_iff_mul-le, mul-le-mul_right}
use Rattle.convert_values.specs.StreamWidths.{stream_widths}
use Rattle.convert_values.proofs.stream.convert_through.Goals as goal

-- what has room for all that a buffer holds has room for a part of it
has_room : (part read source target buffer : ℕ) → 1 ≤ source → part ≤ read
    → read / source * target ≤ buffer → part / source * target ≤ buffer
has_room part read source target buffer some less fits =
    let within : part / source * source ≤ read = omega (arith, div-mul-le_self part source, less) in
    let fewer : part / source ≤ read / source = (le-div_iff_mul-le some).1 within in
    omega (arith, mul-le-mul_right target fewer, fits)

pub convert-block-requires : goal.convert-block-requires
convert-block-requires g c =
    has_room _ _ (stream_widths c.args.conversion).source (stream_widths c.args.conversion).target _ c.requires.least
    (search rules) c.loop.invariant
