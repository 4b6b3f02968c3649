use Rattle.std.proofs.Common.{◌≡◌, ℕ, ◌+◌, ◌*◌, ◌^◌, ◌<◌, refl, sym, ◌∙◌, arith, ap, true}
use Rattle.std.proofs.{Math.Nat.mul-pos, lemmas.Nat.pow_pos}
use Rattle.apfloat_model.specs.order.Classes.{is_negative, quanta_of}
use Rattle.apfloat_model.proofs.order.PositiveValues.{magnitude_positive}
use Rattle.apfloat_ieee.specs.Types.{format_of}
use Rattle.small_formats.specs.{Storage.format_with, Types.constants_of}
use Rattle.small_formats.proofs.QuotientPicks.{magnitude_quanta, no_number, no_quotient, zero_picked}
use Rattle.small_formats.proofs.StoredPicks.{saturated, within_delivered}
use Rattle.small_formats.proofs.stored.StoredFloat.from_quotient.Goals as goal

pub divide_positive-requires-clause-x : goal.divide_positive-requires-clause-x
divide_positive-requires-clause-x g c =
    magnitude_positive (format_of g.S.Semantics) c.args.x c.abs.result
    (sym c.category.ensures.category ∙ c.in-Normal.is) c.category.ensures.member c.abs.ensures

pub returns-in-Normal : goal.returns-in-Normal
returns-in-Normal g c = λ amount parts u same.
    let into = format_with (constants_of g.F.StorageFormat) in
    let magnitude = magnitude_quanta (format_of g.S.Semantics).nonfinite c.args.x c.abs.result
    (sym c.category.ensures.category ∙ c.in-Normal.is) c.abs.ensures in
    let delivered = rw c.is_negative-negative.ensures at c.divide_positive.ensures in
    delivered amount parts u
    (same ∙ ap (λ (k : ℕ). parts * (k * 2 ^ ((format_of g.R.Semantics).scale + into.scale))) (sym magnitude))

pub returns-in_default : goal.returns-in_default
returns-in_default g c = λ amount parts u same.
    let d = constants_of g.F.StorageFormat in
    let f = format_of g.S.Semantics in
    let into = format_with d in
    let none : quanta_of c.args.x ≡ 0 =
    no_number c.args.x c.requires.finite (λ e. c.in_default.not-Normal (c.category.ensures.category ∙ e)) in
    let nothing : quanta_of c.args.x * 2 ^ ((format_of g.R.Semantics).scale + into.scale) ≡ 0 =
    ap (λ (k : ℕ). k * 2 ^ ((format_of g.R.Semantics).scale + into.scale)) none ∙ omega arith in
    let some : 0 < quanta_of c.args.y * 2 ^ f.scale = mul-pos c.requires.positive.some (pow_pos f.scale) in
    let zero : amount ≡ 0 = no_quotient amount parts (quanta_of c.args.y * 2 ^ f.scale) _ some nothing same in
    let picked = zero_picked d.precision c.args.round (is_negative c.args.x) amount parts u zero in
    rw (c.and.ensures.value, c.and.ensures.status)
    (saturated d c.args.round (is_negative c.args.x) amount parts 0 c.with_sign.result 0 true picked
    (within_delivered d c.args.round (is_negative c.args.x) amount parts 0 c.with_sign.result 0 true
    g.F.StorageFormat.lawful picked.exact_is (omega arith)
    (rw c.is_negative-negative.ensures at c.with_sign.ensures) refl))
