use Rattle.std.proofs.{Math.Nat.le_antisymm, Math.Nat.mul-le-mul_right, Math.Nat.suc-mul}
use Rattle.std.proofs.lemmas.List.Edits.{length-between}
use Rattle.std.proofs.Common.{◌≡◌, ℕ, suc, ◌+◌, ◌-◌, ◌*◌, ◌^◌, ◌<◌, ◌≤◌, length, [], ◌∙◌, refl, sym, ap, subst, arith}
use Rattle.rustc_apfloat.specs.FlaggedTypes.{constants_of}
use Rattle.apfloat_arrays.specs.{Outcomes.counts_of, Tasks.AreConverted, Values.IsConvertedBy}
use Rattle.apfloat_arrays.proofs.{Joined.block_joined, Places.block_named, Places.block_none, Places.place_below}
use Rattle.apfloat_arrays.proofs.single_blocks.convert_blocks.Goals as goal

pub returns-then-blocks-eq0 : goal.returns-then-blocks-eq0
returns-then-blocks-eq0 g c =
    let task = c.args.task in
    let from = constants_of g.S.Flagged in
    let to = constants_of g.T.Flagged in
    let none : 0 ≡ c.args.blocks * g.row.N =
    (let zero : 0 ≡ 0 * g.row.N = omega arith in zero)
    ∙ ap (λ (n : ℕ). n * g.row.N) (sym c.if-blocks-eq0.true) in
    subst (λ (n : ℕ). AreConverted from to task c.args.width n c.args.output.now (counts_of [])) none
    (block_none (IsConvertedBy task.overflow from to task.round) 4 c.args.width task.input.now c.args.output.now)

pub loop-index-init : goal.loop-index-init
loop-index-init g c =
    let task = c.args.task in
    let from = constants_of g.S.Flagged in
    let to = constants_of g.T.Flagged in
    let none : 0 ≡ 0 * g.row.N = omega arith in
    subst (λ (n : ℕ). AreConverted from to task c.args.width n c.args.output.now (counts_of [])) none
    (block_none (IsConvertedBy task.overflow from to task.round) 4 c.args.width task.input.now c.args.output.now)

pub slice_bounds-block-end : goal.slice_bounds-block-end
slice_bounds-block-end g c =
    let all : (c.loop-index.index * g.row.N + g.row.N) * 4 ≤ length c.args.task.input.now =
    omega
    (arith, place_below c.loop-index.index c.args.blocks g.row.N c.loop-index-test.true, c.requires.given.input) in
    all

pub overflow_add-last : goal.overflow_add-last
overflow_add-last g c =
    let at = place_below c.loop-index.index c.args.blocks g.row.N c.loop-index-test.true in
    record { fits = omega (arith, at, c.requires.given.input) }

pub slice_bounds-target-count : goal.slice_bounds-target-count
slice_bounds-target-count g c = mul-le-mul_right c.args.width (omega arith)

pub slice_bounds-target-end : goal.slice_bounds-target-end
slice_bounds-target-end g c =
    let within : c.loop-index.index * g.row.N + g.row.N ≤ c.args.task.count =
    omega (arith, place_below c.loop-index.index c.args.blocks g.row.N c.loop-index-test.true) in
    let all : (c.loop-index.index * g.row.N + g.row.N) * c.args.width ≤ length c.loop-index.output =
    omega (arith, mul-le-mul_right c.args.width within, c.loop-index.auto.output, c.requires.given.output) in
    all

pub returns : goal.returns
returns g c = rw (le_antisymm c.loop-index.auto.index-end c.loop-index-test.false) at c.loop-index.invariant

pub loop-index-preserved : goal.loop-index-preserved
loop-index-preserved g c =
    let task = c.args.task in
    let Holds = IsConvertedBy task.overflow (constants_of g.S.Flagged) (constants_of g.T.Flagged) task.round in
    let index = c.loop-index.index in
    let before = c.loop-index-test.true in
    let blocks = c.requires.blocks in
    let target = c.args.width in
    let size : length c.loop-index.output ≡ c.args.task.count * c.args.width =
    c.loop-index.auto.output ∙ c.requires.given.output in
    let count = g.row.N in
    let upto : suc index * g.row.N ≤ c.args.blocks * g.row.N = mul-le-mul_right count before in
    let step : suc index * g.row.N ≡ index * g.row.N + g.row.N = suc-mul index count in
    let next : index * g.row.N + g.row.N ≡ (index + 1) * g.row.N = omega arith in
    let within : index * g.row.N + g.row.N ≤ c.args.task.count = omega (arith, upto, step, blocks) in
    let few : c.args.task.count < 2 ^ 64 = omega (arith, c.requires.given.input, c.ranges.task.0) in
    let room : (index * count + count) * target ≤ task.count * target = mul-le-mul_right target within in
    let ends : (index * count + count) * target ≡ index * count * target + count * target = omega arith in
    let width : length c.convert_block.new.output ≡ count * target =
    c.convert_block.auto.output
    ∙ length-between c.loop-index.output (index * count * target) ((index * count + count) * target)
    (omega (arith, size, room))
    ∙ (let rest : (index * count + count) * target - index * count * target ≡ count * target =
    omega (arith, ends) in
    rest) in
    rw c.add.ensures
    (block_named Holds 4 target (index * count + count) ((index + 1) * count) task.input.now task.input.now _ _ _
    next refl refl
    (block_joined Holds 4 target (index * count) count task.count task.input.now c.loop-index.output
    c.convert_block.new.output c.loop-index.counts c.convert_block.result within few size width c.convert_block.ensures
    c.loop-index.invariant))
