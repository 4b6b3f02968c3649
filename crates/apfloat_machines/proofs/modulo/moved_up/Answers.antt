use Rattle.std.proofs.Common.{◌≡◌, ℕ, ◌+◌, ◌-◌, ◌*◌, ◌%◌, ◌^◌, ap, sym, ◌∙◌, arith}
use Rattle.std.proofs.{Math.Nat.mul-mod_left, lemmas.Nat.pow-add}
use Rattle.apfloat_machines.proofs.modulo.moved_up.Goals as goal

pub returns-else-places-lt128 : goal.returns-else-places-lt128
returns-else-places-lt128 c =
    let far = c.if-places-lt128.false in
    let more : c.args.places ≡ (c.args.places - 128) + 128 = omega (arith, far) in
    let split : 2 ^ c.args.places ≡ 2 ^ (c.args.places - 128) * 2 ^ 128 =
    ap (λ (n : ℕ). 2 ^ n) more ∙ pow-add 2 (c.args.places - 128) 128 in
    let multiple : c.args.number * 2 ^ c.args.places ≡ c.args.number * 2 ^ (c.args.places - 128) * 2 ^ 128 =
    ap (λ (n : ℕ). c.args.number * n) split ∙ omega arith in
    sym (ap (λ (n : ℕ). n % 2 ^ 128) multiple ∙ mul-mod_left (c.args.number * 2 ^ (c.args.places - 128)) (2 ^ 128))
