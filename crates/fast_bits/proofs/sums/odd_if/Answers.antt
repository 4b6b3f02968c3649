use Rattle.std.proofs.Common.{refl}
use Rattle.apfloat_words.proofs.LowestOnes.{set_last}
use Rattle.fast_bits.proofs.sums.odd_if.Goals as goal

pub returns : goal.returns
returns c =
    set_last c.args.number c.from.result c.args.lost (λ e. rw (c.from.ensures, e) refl)
    (λ e. rw (c.from.ensures, e) refl)
