use Rattle.std.proofs.Common.{ℕ, ◌/◌, ◌%◌, ap, ◌∙◌, arith}
use Rattle.std.specs.Int.RustNames.{bit_or}
use Rattle.fast_bits.proofs.lanes_lemmas.LowBits.{one_for, or_bit}
use Rattle.fast_bits.proofs.lanes.halves.upper_half.Goals as goal

pub returns : goal.returns
returns c =
    let bits = c.args.bits in
    ap (λ (n : ℕ). bit_or (bits / 65536) n) (one_for (bits % 65536) (omega arith))
    ∙ or_bit (bits / 65536) (bits % 65536)
