use Rattle.std.proofs.Common.{◌≡◌, ℕ, refl, ap, ◌∙◌, subst, sym, ◌/◌, ◌%◌, ◌^◌, ◌<◌, ◌*◌, ltb, arith, length-set}
use Rattle.std.proofs.lemmas.List.{get_or-set_other}
use Rattle.std.specs.Prelude.{slice_index}
use Rattle.apfloat_arrays.specs.{Blocks.value_at, Bytes.number_of, Rows.lower_in, Rows.number_in}
use Rattle.apfloat_arrays.proofs.{Items.set_says, Rows.cleared_finite, Rows.made_there, Rows.upper_alike}
use Rattle.apfloat_arrays.proofs.singles.clear_specials.Goals as goal

pub loop-index-init : goal.loop-index-init
loop-index-init g c = record {
  size = c.told-uppers;
  lower_size = c.told-lowers;
  each = λ k none. absurd (omega (arith, none));
  each_lower = λ k none. absurd (omega (arith, none));
  rest = λ k from. refl;
  rest_lower = λ k from. refl;
}

pub loop-index-preserved : goal.loop-index-preserved
loop-index-preserved g c =
    let old = c.args.uppers.now in
    let old_lowers = c.args.lowers.now in
    let uppers = c.loop-index.uppers in
    let lowers = c.loop-index.lowers in
    let index = c.loop-index.index in
    let so_far = c.loop-index.invariant in
    let size = so_far.size in
    let lower_size = so_far.lower_size in
    let within = c.loop-index-test.true in
    let upper = so_far.rest index (omega arith) in
    let lower = so_far.rest_lower index (omega arith) in
    record {
      size = length-set uppers index c.number_in.result ∙ size;
      lower_size = length-set lowers index c.lower_in.result ∙ lower_size;
      each = λ k before.
          set_says (λ n made. made ≡ number_in (slice_index old n)) uppers index c.number_in.result
          (omega (arith, size, within)) (c.number_in.ensures ∙ ap number_in upper) k
          (λ other. so_far.each k (omega (arith, before, other)));
      each_lower = λ k before.
          set_says (λ n made. made ≡ lower_in (slice_index old n) (slice_index old_lowers n)) lowers index
          c.lower_in.result (omega (arith, lower_size, within))
          (c.lower_in.ensures ∙ (λ i. lower_in (upper i) (lower i))) k
          (λ other. so_far.each_lower k (omega (arith, before, other)));
      rest = λ k after.
          get_or-set_other uppers index k c.number_in.result 0 (λ same. omega (arith, same, after))
          ∙ so_far.rest k (omega (arith, after));
      rest_lower = λ k after.
          get_or-set_other lowers index k c.lower_in.result 0 (λ same. omega (arith, same, after))
          ∙ so_far.rest_lower k (omega (arith, after));
    }

pub returns : goal.returns
returns g c =
    let so_far = c.loop-index.invariant in
    let kept : (k : ℕ) → k < g.row.N
    → slice_index c.loop-index.uppers k ≡ number_in (slice_index c.args.uppers.now k) =
    λ k before. so_far.each k (omega (arith, before, c.loop-index-test.false)) in
    record {
      finite = λ k before. subst (λ (n : ℕ). n % 2 ^ 15 < 255 * 2 ^ 7) (sym (kept k before))
          (cleared_finite (slice_index c.args.uppers.now k));
      kept = λ input read k before.
          let x = number_of (value_at 4 k input) in
          let number = upper_alike x in (
            kept k before ∙ ap number_in (read k before).0
                ∙ made_there (λ n. n / 2 ^ 16) (ltb (x / 2 ^ 16 % 2 ^ 15) (255 * 2 ^ 7)) input k refl number,
            so_far.each_lower k (omega (arith, before, c.loop-index-test.false))
                ∙ (λ i. lower_in ((read k before).0 i) ((read k before).1 i))
                ∙ made_there (λ n. n % 2 ^ 16) (ltb (x / 2 ^ 16 % 2 ^ 15) (255 * 2 ^ 7)) input k refl number,
          );
    }
