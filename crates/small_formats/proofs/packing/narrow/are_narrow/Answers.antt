use Rattle.std.proofs.Common.{ℕ, List, ◌+◌, ◌^◌, ◌<◌, take, get_or, subst, arith}
use Rattle.std.proofs.lemmas.{List.get_or_default, List.take_all, List.take_more, Nat.one_shl}
use Rattle.std.specs.Prelude.{All}
use Rattle.small_formats.proofs.packing_lemmas.All.{all_more}
use Rattle.small_formats.proofs.packing.narrow.are_narrow.Goals as goal

pub returns-clause-yes : goal.returns-clause-yes
returns-clause-yes c = λ e. subst (λ (xs : List ℕ). All (λ (code : ℕ). code < 2 ^ c.args.bits) xs)
    (take_all c.loop-index.index c.args.codes.now (omega (arith, c.loop-index-test.false))) c.loop-index.invariant

pub loop-index-preserved : goal.loop-index-preserved
loop-index-preserved c =
    let bits = c.args.bits in
    let codes = c.args.codes.now in
    let index = c.loop-index.index in
    let whole = one_shl bits 32 (omega (arith, c.requires)) in
    let low = c.if-from-bits.false in
    let at = c.from.ensures in
    all_more (λ (code : ℕ). code < 2 ^ bits) (take index codes) (take (index + 1) codes) (get_or codes index 0)
    c.loop-index.invariant
    (omega (arith, whole, low, at)) (take_more codes index 0 (omega (arith, c.loop-index-test.true)))

-- the code at the index has more bits
pub returns-then-from-bits-clause-no : goal.returns-then-from-bits-clause-no
returns-then-from-bits-clause-no c = λ e.
    let bits = c.args.bits in
    let codes = c.args.codes.now in
    let index = c.loop-index.index in
    let x = get_or codes index 0 in
    let within = c.loop-index-test.true in
    let whole = one_shl bits 32 (omega (arith, c.requires)) in
    let high = c.if-from-bits.true in
    let at = c.from.ensures in
    (index, x, within, get_or_default codes index x 0 within, omega (arith, whole, high, at))
