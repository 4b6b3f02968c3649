use Rattle.std.proofs.Common.{ℕ, ◌*◌, ◌≤◌, refl, sym, subst, arith}
use Rattle.std.proofs.lemmas.Bool.{true≢false}
use Rattle.rustc_apfloat.specs.FlaggedTypes.{constants_of}
use Rattle.apfloat_arrays.specs.{Blocks.value_at, Rows.number_from, Values.IsConvertedBy}
use Rattle.apfloat_arrays.proofs.Rows.{row_block}
use Rattle.apfloat_arrays.proofs.singles.convert_block.Goals as goal

pub convert_alike-requires : goal.convert_alike-requires
convert_alike-requires g c =
    let task = c.args.task in
    let few = c.requires.few in
    let width : g.P.SinglesPlan.bits c.args.plan ≤ 8 * c.args.width =
    subst (λ (n : ℕ). n ≤ 8 * c.args.width)
    (sym (g.met.P.SinglesPlan.fits c.args.plan task.overflow (constants_of g.T.Flagged) task.round c.requires.plan))
    c.requires.given.width in
    (omega (arith, few), (width, (c.leads_past.ensures c.if-leads_past.true, (few, c.requires.given.output))))

pub convert_halves-few-requires : goal.convert_halves-few-requires
convert_halves-few-requires g c =
    let task = c.args.task in
    let few = c.requires.few in
    let width : g.P.SinglesPlan.bits c.args.plan ≤ 8 * c.args.width =
    subst (λ (n : ℕ). n ≤ 8 * c.args.width)
    (sym (g.met.P.SinglesPlan.fits c.args.plan task.overflow (constants_of g.T.Flagged) task.round c.requires.plan))
    c.requires.given.width in (
      omega (arith, few),
      (
        width,
        (
          λ same. c.leave_numbers-finite.ensures.finite,
          (λ none. absurd (true≢false (sym none)), (few, c.requires.given.output)),
        ),
      ),
    )

pub returns-then-leads_past : goal.returns-then-leads_past
returns-then-leads_past g c =
    let task = c.args.task in
    let input = task.input.now in
    row_block (IsConvertedBy task.overflow (constants_of g.S.Flagged) (constants_of g.T.Flagged) task.round)
    (λ k. value_at 4 k input) 4 c.args.width g.row.N input c.convert_alike.new.output _ (λ k before. refl)
    (c.convert_alike.ensures task.overflow (constants_of g.S.Flagged) (constants_of g.T.Flagged) task.round
    (λ k. value_at 4 k input) c.requires.given.single c.requires.plan c.read_halves.ensures)

pub convert_specials-requires-clause-numbers : goal.convert_specials-requires-clause-numbers
convert_specials-requires-clause-numbers g c =
    let task = c.args.task in
    rw c.all_counts-counts.ensures
    (c.convert_halves-few.ensures task.overflow (constants_of g.S.Flagged) (constants_of g.T.Flagged) task.round
    (number_from 0 task.input.now) c.requires.given.single c.requires.plan
    (c.leave_numbers-finite.ensures.kept task.input.now c.read_halves.ensures))

pub returns-then-finite : goal.returns-then-finite
returns-then-finite g c =
    let task = c.args.task in
    let input = task.input.now in
    rw c.all_counts-counts.ensures
    (row_block (IsConvertedBy task.overflow (constants_of g.S.Flagged) (constants_of g.T.Flagged) task.round)
    (number_from 0 input) 4 c.args.width g.row.N input c.convert_halves-few.new.output _
    (c.leave_numbers-finite.ensures.all c.if-finite.true input c.read_halves.ensures)
    (c.convert_halves-few.ensures task.overflow (constants_of g.S.Flagged) (constants_of g.T.Flagged) task.round
    (number_from 0 input) c.requires.given.single c.requires.plan
    (c.leave_numbers-finite.ensures.kept input c.read_halves.ensures)))
