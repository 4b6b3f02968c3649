use Rattle.std.proofs.Common.{ℕ, ◌*◌, ◌^◌, ◌<◌, ◌≤◌, ap, ◌∙◌, sym, subst, ltb, arith}
use Rattle.tests.proofs.PlainAnswers.{from_normal, by_pick, twice_small}
use Rattle.tests.proofs.plain.rounds_below_normal.Goals as goal

pub pick-requires : goal.pick-requires
pick-requires c =
    let r = c.requires in
    let h : 2 * c.args.amount < 2 ^ c.args.precision * c.args.parts =
    subst (λ (n : ℕ). 2 * c.args.amount < n * c.args.parts) c.pow-least.ensures c.if-amount-least.false in
    record {
      some_digits = r.some_digits;
      few_digits = r.few_digits;
      amount_bound = twice_small c.args.precision c.args.amount c.args.parts r.few_digits r.parts_bound h;
      some_parts = r.some_parts;
      parts_bound = r.parts_bound;
    }

pub returns-then-amount-least : goal.returns-then-amount-least
returns-then-amount-least c =
    sym (from_normal c.args.precision c.args.mode c.args.negative c.args.amount c.args.parts c.requires.some_parts
    (subst (λ (n : ℕ). n * c.args.parts ≤ 2 * c.args.amount) c.pow-least.ensures c.if-amount-least.true))

pub returns : goal.returns
returns c =
    ap (λ (n : ℕ). ltb c.pick.result n) c.pow-least.ensures
    ∙ by_pick c.args.precision c.args.mode c.args.negative c.args.amount c.args.parts c.pick.result (omega arith)
    c.requires.some_parts c.pick.ensures
