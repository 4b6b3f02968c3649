use Rattle.std.proofs.Common.{◌≡◌, ℕ, List, ◌/◌, ◌%◌, ◌^◌, ◌<◌, ◌*◌, sym, subst, ap, ◌∙◌}
use Rattle.std.proofs.lemmas.Bool.{true≢false}
use Rattle.apfloat_arrays.specs.{Blocks.value_at, Bytes.number_of, Rows.AreTaken, Rows.number_from, Singles.AreHalves}
use Rattle.apfloat_arrays.proofs.Rows.{finite_there, upper_alike}
use Rattle.apfloat_arrays.proofs.singles.PlanBlockPlan.leave_numbers.Goals as goal

pub returns-then-are_finite : goal.returns-then-are_finite
returns-then-are_finite g c =
    let all = c.are_finite.ensures c.if-are_finite.true in
    let same : (input : List ℕ)
    → AreTaken AreHalves g.row.N c.args.uppers.now c.args.lowers.now (λ index. value_at 4 index input)
    → (k : ℕ) → k < g.row.N → number_from 0 input k ≡ value_at 4 k input = λ input read k before.
    finite_there 0 input k (number_of (value_at 4 k input) / 2 ^ 16) (upper_alike (number_of (value_at 4 k input)))
    (subst (λ (n : ℕ). n % 2 ^ 15 < 255 * 2 ^ 7) (read k before).0 (all k before)) in
    record {
      finite = all;
      kept = λ input read k before.
          let there = sym (same input read k before) in (
            (read k before).0 ∙ ap (λ bytes. number_of bytes / 2 ^ 16) there,
            (read k before).1 ∙ ap (λ bytes. number_of bytes % 2 ^ 16) there,
          );
      all = λ true input read k before. same input read k before;
    }

pub returns-else-are_finite : goal.returns-else-are_finite
returns-else-are_finite g c = record {
  finite = c.clear_specials.ensures.finite;
  kept = c.clear_specials.ensures.kept;
  all = λ none. absurd (true≢false (sym none));
}
