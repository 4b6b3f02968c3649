use Rattle.std.proofs.Common.{◌≡◌, ℕ, ◌*◌, ◌≤◌, Bool, true, false, not, ◌||◌, length, refl, sym, ap, ◌∙◌}
use Rattle.std.proofs.Common.{subst, lit≤, arith}
use Rattle.std.proofs.lemmas.Bool.{false≢true, true≢false}
use Rattle.rustc_apfloat.specs.Types.{constants_of}
use Rattle.apfloat_arrays.specs.{Blocks.value_at, Values.IsConvertedBy, stored.NumberArrays.e3m4_constants}
use Rattle.apfloat_arrays.proofs.{Rows.row_block, stored_lemmas.E3M4Codes.block_stored}
use Rattle.apfloat_arrays.proofs.stored.e3m4_arrays.store_part.Goals as goal

finite_is : (finite : Bool) → not finite ≡ false → finite ≡ true
finite_is true e = refl
finite_is false e = absurd (true≢false e)

leads_is : (leads finite : Bool) → (leads || finite) ≡ true → not finite ≡ true → leads ≡ true
leads_is true finite either other = refl
leads_is false true either other = absurd (false≢true other)
leads_is false false either other = absurd (false≢true either)

pub convert_halves-few-requires : goal.convert_halves-few-requires
convert_halves-few-requires g c =
    let call = c.args.call in
    let width : g.P.SinglesPlan.bits c.args.plan ≤ 8 * 1 =
    subst (λ (n : ℕ). n ≤ 8 * 1)
    (sym (g.met.P.SinglesPlan.fits c.args.plan call.overflow e3m4_constants call.round c.requires.plan)) (lit≤ tt) in
    let output : length c.args.output.now ≡ 64 * 1 =
    c.requires.given.output ∙ ap (λ (n : ℕ). n * 1) c.if-call-ne-BLOCK.false in (
      omega arith,
      (
        width,
        (
          λ same. c.are_finite-finite.ensures (finite_is _ same),
          (λ other. c.leads_past-leads.ensures (leads_is _ _ c.if-leads-finite.true other), (omega arith, output)),
        ),
      ),
    )

pub returns-then-leads-finite : goal.returns-then-leads-finite
returns-then-leads-finite g c =
    let call = c.args.call in
    let from = constants_of g.S.Semantics in
    let input = call.input.now in
    rw c.all_counts.ensures
    (block_stored from call c.convert_halves-few.new.output _ c.requires.singles c.if-call-ne-BLOCK.false
    (row_block (IsConvertedBy call.overflow from e3m4_constants call.round) (λ k. value_at 4 k input) 4 1 64 input
    c.convert_halves-few.new.output _ (λ k before. refl)
    (c.convert_halves-few.ensures call.overflow from e3m4_constants call.round (λ k. value_at 4 k input)
    c.requires.singles.single c.requires.plan c.read_halves.ensures)))
