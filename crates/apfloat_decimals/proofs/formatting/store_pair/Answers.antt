use Rattle.std.proofs.Common.{◌≡◌, ◌+◌, ◌-◌, ◌*◌, ◌/◌, ◌%◌, ◌<◌, ◌++◌, ◌∷◌, take, drop, List, ℕ, [], ap, ◌∙◌, true}
use Rattle.std.proofs.{Common.refl, Common.arith, Common.rules, lemmas.Grind.common_steps, lemmas.Slice.take-put_mid}
use Rattle.apfloat_decimals.specs.declared.formatting.TheConstants.{PAIRS}
use Rattle.apfloat_decimals.proofs.spelled.LastDigits.{are_pairs, pair_after, pair_from}
use Rattle.apfloat_decimals.proofs.formatting.store_pair.Goals as goal

table : are_pairs 0 PAIRS ≡ true
unfolding are_pairs
table = refl

-- the characters of a number below 100
characters : (n : ℕ) → n < 100 → take 2 (drop (2 * n) PAIRS) ≡ (48 + n / 10) ∷ (48 + n % 10) ∷ []
characters n few =
    let all : 0 + n ≡ n = omega arith in
    rw all at (pair_from 0 PAIRS n table (omega (arith, few)))

pub returns : goal.returns
returns c =
    let two : 2 * c.args.number + 2 - 2 * c.args.number ≡ 2 = omega arith in
    let copied : c.copy_from_slice.new.self ≡ (48 + c.args.number / 10) ∷ (48 + c.args.number % 10) ∷ [] =
    c.copy_from_slice.ensures.after ∙ ap (λ (k : ℕ). take k (drop (2 * c.args.number) PAIRS)) two
    ∙ characters c.args.number c.requires.few in
    record {
      taken =
          take-put_mid c.args.at (c.args.at + 2 - c.args.at) c.args.bytes.now c.copy_from_slice.new.self
          (c.args.at + 2) (rw copied (omega arith)) (omega (arith, c.requires.room))
          ∙ ap (λ (x : List ℕ). take c.args.at c.args.bytes.now ++ x) copied
          ∙ pair_after c.args.number (take c.args.at c.args.bytes.now) c.requires.few;
      same = first_of (search rules, grind (arith, common_steps));
    }
