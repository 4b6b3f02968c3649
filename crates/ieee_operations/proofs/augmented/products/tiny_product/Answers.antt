use Rattle.std.proofs.Common.{sym, ◌∙◌}
use Rattle.std.proofs.lemmas.Bool.{false≢true}
use Rattle.apfloat_model.specs.rounding.Flags.{bits_of}
use Rattle.apfloat_ieee.specs.FlaggedTypes.{format_of, constants_of}
use Rattle.ieee_operations.proofs.augmented_lemmas.Cases.{ranges_of}
use Rattle.ieee_operations.proofs.augmented_lemmas.TinyProducts.{tiny_of, head_is_short, head_is_near_tie, head_is_near}
use Rattle.ieee_operations.proofs.augmented_lemmas.TinyProducts.{left_is_one, left_not_one, left_is_finite}
use Rattle.ieee_operations.proofs.augmented.products.tiny_product.Goals as goal

pub returns-then-is_exactly : goal.returns-then-is_exactly
returns-then-is_exactly g c =
    let short = c.wide_mul_r-short.result in
    let t = tiny_of (constants_of g.S.Flagged) (ranges_of _ g.S.Flagged.lawful) _ _ _ short.value
    (bits_of short.status) c.requires.product c.requires.near c.requires.lost c.wide_mul_r-short.ensures in
    let ok = c.is_exactly.ensures.ok c.if-is_exactly.true in
    let finite = left_is_finite _ _ _ _ _ _ _ t c.twice_left-left.ensures ok in
    let one = left_is_one (format_of g.S.Flagged) c.twice_left-left.result.value c.abs.result c.smallest.result finite
    c.abs.ensures c.smallest.ensures (c.is_exactly.ensures.equal c.if-is_exactly.true) in
    head_is_short _ _ _ _ _ _ _ t c.twice_left-left.ensures ok one _ _ _ c.with_rounded_tail.ensures

pub returns-then-is_ok : goal.returns-then-is_ok
returns-then-is_ok g c =
    let short = c.wide_mul_r-short.result in
    let t = tiny_of (constants_of g.S.Flagged) (ranges_of _ g.S.Flagged.lawful) _ _ _ short.value
    (bits_of short.status) c.requires.product c.requires.near c.requires.lost c.wide_mul_r-short.ensures in
    let ok = c.is_ok.ensures.yes c.if-is_ok.true in
    let finite = left_is_finite _ _ _ _ _ _ _ t c.twice_left-left.ensures ok in
    let other = left_not_one (format_of g.S.Flagged) c.twice_left-left.result.value c.abs.result c.smallest.result
    finite c.abs.ensures c.smallest.ensures (c.is_exactly.ensures.no c.if-is_exactly.false ok) in
    head_is_near_tie _ _ _ _ _ _ _ t c.twice_left-left.ensures ok other _ _ _ c.with_rounded_tail-then-is_ok.ensures

pub returns-else-is_ok : goal.returns-else-is_ok
returns-else-is_ok g c =
    let short = c.wide_mul_r-short.result in
    let t = tiny_of (constants_of g.S.Flagged) (ranges_of _ g.S.Flagged.lawful) _ _ _ short.value
    (bits_of short.status) c.requires.product c.requires.near c.requires.lost c.wide_mul_r-short.ensures in
    head_is_near _ _ _ _ _ _ _ t c.twice_left-left.ensures
    (λ o. false≢true (sym c.if-is_ok.false ∙ c.is_ok.ensures.no o)) _ _ _ c.with_rounded_tail-else-is_ok.ensures
