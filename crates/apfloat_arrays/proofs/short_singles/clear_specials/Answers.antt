use Rattle.std.proofs.Common.{◌≡◌, ℕ, refl, ap, ◌∙◌, subst, sym, ◌%◌, ◌^◌, ◌<◌, ◌*◌}
use Rattle.std.proofs.{Common.arith, Common.length-set, lemmas.List.get_or-set_other}
use Rattle.std.specs.Prelude.{slice_index}
use Rattle.apfloat_arrays.specs.Rows.{number_in}
use Rattle.apfloat_arrays.proofs.{Items.set_says, Rows.cleared_finite}
use Rattle.apfloat_arrays.proofs.short_singles.clear_specials.Goals as goal

pub loop-index-init : goal.loop-index-init
loop-index-init g c = record {
  size = c.told-halves;
  each = λ k none. absurd (omega (arith, none));
  rest = λ k from. refl;
}

pub loop-index-preserved : goal.loop-index-preserved
loop-index-preserved g c =
    let old = c.args.halves.now in
    let halves = c.loop-index.halves in
    let index = c.loop-index.index in
    let half = c.number_in.result in
    let size = c.loop-index.invariant.size in
    let within = c.loop-index-test.true in
    record {
      size = length-set halves index half ∙ size;
      each = λ k before.
          set_says (λ n made. made ≡ number_in (slice_index old n)) halves index half (omega (arith, size, within))
          (c.number_in.ensures ∙ ap number_in (c.loop-index.invariant.rest index (omega arith))) k
          (λ other. c.loop-index.invariant.each k (omega (arith, before, other)));
      rest = λ k after.
          get_or-set_other halves index k half 0 (λ same. omega (arith, same, after))
          ∙ c.loop-index.invariant.rest k (omega (arith, after));
    }

pub returns : goal.returns
returns g c =
    let kept : (k : ℕ) → k < g.row.N
    → slice_index c.loop-index.halves k ≡ number_in (slice_index c.args.halves.now k) =
    λ k before. c.loop-index.invariant.each k (omega (arith, before, c.loop-index-test.false)) in
    record {
      finite = λ k before. subst (λ (n : ℕ). n % 2 ^ 15 < 255 * 2 ^ 7) (sym (kept k before))
          (cleared_finite (slice_index c.args.halves.now k));
      kept = kept;
    }
