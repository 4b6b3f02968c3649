use Rattle.std.proofs.Common.{◌≡◌, ℕ, ◌+◌, true, false, List, length, take, drop, codes, Option, Some, None}
use Rattle.std.proofs.Common.{MatchOption, Bor, refl, ap, ◌∙◌}
use Rattle.std.specs.Prelude.{unwrap_or}
use Rattle.rustc_apfloat.specs.Digits.{same}
use Rattle.commands.specs.Commands.{after_0x, bits_of_digits}
use Rattle.commands.proofs.words.bits_of.Goals as goal

without_prefix : (rest : Option (Bor (List ℕ))) (bytes : Bor (List ℕ))
    → MatchOption rest (same (take 2 bytes.now) (codes "0x") ≡ false)
    (λ x. (same (take 2 bytes.now) (codes "0x") ≡ true) × (x.now ≡ drop 2 bytes.now)
    × (length x.now + 2 ≡ length bytes.now))
    → (unwrap_or rest bytes).now ≡ after_0x bytes.now
without_prefix None bytes h = rw h refl
without_prefix (Some x) bytes h = rw h.0 h.1

pub returns : goal.returns
returns c =
    let digits = without_prefix c.strip_prefix.result c.as_bytes-bytes.result c.strip_prefix.ensures.cases in
    c.bits_of_digits.ensures ∙ ap (bits_of_digits c.args.width)
    (ap (λ (b : Bor (List ℕ)). b.now) c.unwrap_or.ensures ∙ digits ∙ ap after_0x c.as_bytes-bytes.ensures.value)
