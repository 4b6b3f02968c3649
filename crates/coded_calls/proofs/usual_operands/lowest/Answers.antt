use Rattle.std.proofs.Common.{ℕ, ◌-◌, ap, ◌∙◌}
use Rattle.std.specs.Int.Bits.{bit_and}
use Rattle.std.proofs.lemmas.Nat.{and_mask}
use Rattle.coded_calls.proofs.usual_operands.lowest.Goals as goal

pub returns : goal.returns
returns c =
    ap (λ (n : ℕ). bit_and c.args.number (n - 1)) c.power_of_two.ensures ∙ and_mask c.args.number c.args.places
