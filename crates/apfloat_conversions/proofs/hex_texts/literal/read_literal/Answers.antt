use Rattle.std.proofs.{Common.refl, lemmas.Int.to_z-of_z}
use Rattle.std.specs.Int.{w128}
use Rattle.apfloat_conversions.proofs.hex_texts_lemmas.FaultsRead.{literal_read, empty_text, some_text, exponent_fits}
use Rattle.apfloat_conversions.proofs.hex_texts.literal.read_literal.Goals as goal

pub returns-then-is_empty : goal.returns-then-is_empty
returns-then-is_empty c = rw (empty_text c.args.rest.now c.if-is_empty.ensures) refl

pub delivered-requires-clause-kept : goal.delivered-requires-clause-kept
delivered-requires-clause-kept c = (_, c.in_ok-scan.ensures.kept)

pub delivered-requires-clause-within : goal.delivered-requires-clause-within
delivered-requires-clause-within c =
    let e = c.in_ok-exponent.ensures in
    rw (to_z-of_z w128 c.in_ok-exponent.exponent (exponent_fits c.in_ok-exponent.exponent e.1)) e.1

pub returns : goal.returns
returns c =
    let s = c.in_ok-scan.ensures in
    let e = c.in_ok-exponent.ensures in
    literal_read c.args.shape c.args.round c.args.negative c.args.rest.now _ _ c.delivered.result
    (some_text c.args.rest.now c.if-is_empty.ensures) s e.2
    c.delivered.ensures.stored (c.delivered.ensures.delivered _ _ s.kept
    (rw (to_z-of_z w128 c.in_ok-exponent.exponent (exponent_fits c.in_ok-exponent.exponent e.1)) e.0))
