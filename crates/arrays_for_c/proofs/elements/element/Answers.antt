use Rattle.std.proofs.Common.{ℕ, ◌^◌, ◌<◌, sym}
use Rattle.std.proofs.Math.Path.{subst₂}
use Rattle.arrays_for_c.proofs.ElementCalls.{result_fits}
use Rattle.arrays_for_c.proofs.elements.element.Goals as goal

pub write_number-requires : goal.write_number-requires
write_number-requires g c =
    let map = g.C.ElementCalls.map c.args.calls in
    subst₂ (λ (n : ℕ) (w : ℕ). n < 256 ^ w) (sym c.number-bits.ensures) (sym c.requires.bytes)
    (result_fits map.kind map.round map.operation c.args.x c.args.y c.args.z c.call.new.answer c.call.ensures)
