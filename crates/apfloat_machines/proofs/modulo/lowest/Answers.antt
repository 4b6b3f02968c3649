use Rattle.std.proofs.Common.{◌≡◌, ℕ, ◌%◌, ◌^◌, ap, sym, ◌∙◌, arith}
use Rattle.std.proofs.Math.Nat.{mod-eq_of_lt}
use Rattle.apfloat_machines.proofs.modulo.lowest.Goals as goal

pub returns-else-places-lt128 : goal.returns-else-places-lt128
returns-else-places-lt128 c =
    let short = c.requires in
    let far = c.if-places-lt128.false in
    let all : c.args.places ≡ 128 = omega (arith, short, far) in
    sym (ap (λ (n : ℕ). c.args.number % 2 ^ n) all ∙ mod-eq_of_lt c.ranges.number.fits)
