use Rattle.std.proofs.Common.{◌≡◌, ℕ, ◌+◌, ◌-◌, ◌*◌, ◌^◌, ◌<◌, ◌≤◌, length, min, ◌∙◌, refl, ap, ⊎_elim, arith}
use Rattle.std.proofs.{Math.Nat.min-eq_left, Math.Nat.min-eq_right, lemmas.Bool.cases_lt}
use Rattle.std.proofs.lemmas.List.Edits.{length-between}
use Rattle.rustc_apfloat.specs.Types.{constants_of}
use Rattle.apfloat_arrays.specs.{stored.Arrays.IsStoredIn}
use Rattle.apfloat_arrays.proofs.{Joined.block_joined, Places.block_named, Places.block_none}
use Rattle.apfloat_arrays.proofs.stored.e3m4_arrays.store_singles.Goals as goal

-- as many values as a block has, or those that are left
part_size : (first count : ℕ) → min 64 (count - first) ≡ 64 - (64 - (count - first))
part_size first count =
    ⊎_elim {C = min 64 (count - first) ≡ 64 - (64 - (count - first))}
    (λ (l : 64 < count - first).
    let m : min 64 (count - first) ≡ 64 = min-eq_left (omega (arith, l)) in omega (arith, m, l))
    (λ (l : count - first ≤ 64). let m : min 64 (count - first) ≡ count - first = min-eq_right l in omega (arith, m, l))
    (cases_lt 64 (count - first))

pub loop-index-init : goal.loop-index-init
loop-index-init g c =
    let call = c.args.call in
    let none : 0 ≡ c.args.call.count - (c.args.call.count - 0 * 64) = omega arith in
    block_named (IsStoredIn call.overflow (constants_of g.S.Semantics) call.target call.round) call.width 1 0 _
    call.input.now _ _ _ _ none refl refl
    (block_none (IsStoredIn call.overflow (constants_of g.S.Semantics) call.target call.round) call.width 1
    call.input.now c.args.output.now)

pub loop-index-preserved : goal.loop-index-preserved
loop-index-preserved g c =
    let call = c.args.call in
    let Holds = IsStoredIn call.overflow (constants_of g.S.Semantics) call.target call.round in
    let index = c.loop-index.index in
    let first = index * 64 in
    let before = c.loop-index-test.true in
    let size : length c.loop-index.output ≡ c.args.call.count * 1 =
    c.loop-index.auto.output ∙ c.requires.given.output in
    let more = c.min-more.result in
    let part : c.min-more.result ≡ 64 - (64 - (call.count - first)) = c.min-more.ensures ∙ part_size first call.count in
    let at : call.count - (call.count - index * 64) ≡ first = omega (arith, before) in
    let within : first + more ≤ call.count = omega (arith, before, part) in
    let codes : length c.store_part.new.output ≡ c.min-more.result * 1 =
    c.store_part.auto.output
    ∙ length-between c.loop-index.output (first * 1) ((first + more) * 1) (omega (arith, size, within))
    ∙ (let rest : (first + more) * 1 - first * 1 ≡ more * 1 = omega arith in rest) in
    let next : first + more ≡ call.count - (call.count - (index + 1) * 64) = omega (arith, before, part) in
    let bytes : length c.args.call.input.now ≡ c.args.call.count * 4 =
    c.requires.given.input ∙ ap (λ (n : ℕ). call.count * n) c.requires.singles.bytes in
    let few : c.args.call.count < 2 ^ 64 = omega (arith, bytes, c.ranges.call.0) in
    rw c.add.ensures
    (block_named Holds call.width 1 (first + more) _ call.input.now call.input.now _ _ _ next refl refl
    (block_joined Holds call.width 1 first more call.count call.input.now c.loop-index.output c.store_part.new.output
    c.loop-index.counts c.store_part.result within few size
    codes c.store_part.ensures
    (block_named Holds call.width 1 _ first call.input.now call.input.now _ _ _ at refl refl c.loop-index.invariant)))

pub returns : goal.returns
returns g c =
    let call = c.args.call in
    let past = c.loop-index-test.false in
    let all : call.count - (call.count - c.loop-index.index * 64) ≡ c.args.call.count = omega (arith, past) in
    block_named (IsStoredIn call.overflow (constants_of g.S.Semantics) call.target call.round) call.width 1 _ call.count
    call.input.now call.input.now _ _ _ all refl refl c.loop-index.invariant
