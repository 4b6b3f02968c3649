use Rattle.std.proofs.Common.{rules, ◌≡◌, ℕ, ◌*◌, ◌/◌, ◌≤◌, length, ap, ◌∙◌, subst, arith}
use Rattle.std.proofs.Math.Nat.{mul-div_cancel}
use Rattle.apfloat_arrays.specs.declared.Widths.{Widths}
use Rattle.convert_values.specs.{declared.stream.TheConstants.BUFFERED, StreamWidths.stream_widths}
use Rattle.convert_values.proofs.stream.convert_stream.Goals as goal

-- a buffer of so many values in one format has as many as one in the other has room for
room_for : (w v : Widths) (count read buffer : ℕ) → w ≡ v → 1 ≤ w.source → read ≡ count * w.source
    → buffer ≡ count * w.target → read / v.source * v.target ≤ buffer
room_for w v count read buffer e some r b =
    let many : read / w.source ≡ count =
    ap (λ (n : ℕ). n / w.source) r ∙ mul-div_cancel count {n = w.source} some in
    let same : read / w.source * w.target ≡ count * w.target = ap (λ (n : ℕ). n * w.target) many in
    subst (λ (u : Widths). read / u.source * u.target ≤ buffer) e (omega (arith, same, b))

pub convert_through-requires-clause-room : goal.convert_through-requires-clause-room
convert_through-requires-clause-room g c =
    let count : ℕ = BUFFERED / c.values_together-count.result in
    let w = c.widths-widths.result in
    let read : length c.as_mut_slice.result.now ≡ count * w.source = search rules in
    let buffer : length c.in_ok-buffer.buffer.items ≡ count * w.target = search rules in
    room_for w (stream_widths c.args.conversion) count _ _ c.widths-widths.ensures.is
    c.widths-widths.ensures.least read buffer
