use Rattle.std.proofs.Common.{◌≡◌, ℕ, ◌*◌, ◌/◌, ◌≤◌, length, ◌∙◌, sym, subst, arith}
use Rattle.rustc_apfloat.specs.FlaggedTypes.{constants_of}
use Rattle.apfloat_arrays.specs.{Blocks.AreInPlaces, scaled_blocks.Dequantized.IsScaledAt}
use Rattle.apfloat_arrays.proofs.Places.{place_size, room_for}
use Rattle.apfloat_arrays.proofs.scaled_blocks_lemmas.Formats.{div_below, narrow_at}
use Rattle.apfloat_arrays.proofs.scaled_blocks_lemmas.Scaled.{scaled_more, scaled_none}
use Rattle.apfloat_arrays.proofs.scaled_blocks.dequantizing.write_each.Goals as goal

pub loop-index-init : goal.loop-index-init
loop-index-init g c =
    scaled_none c.args.call.dequantization (constants_of g.T.Flagged) c.args.call.width c.args.call.scales.now
    c.args.call.codes.now c.args.bytes.now

pub write_one-requires-clause-code : goal.write_one-requires-clause-code
write_one-requires-clause-code g c =
    let q = c.args.call.dequantization in
    let index = c.loop-index.index in
    narrow_at q.format c.args.call.scales.now c.args.call.codes.now (index / q.length) index c.requires.can.2
    (div_below index (length c.args.call.scales.now) q.length (omega (arith, c.loop-index-test.true, c.requires.can.0)))
    (omega (arith, c.loop-index-test.true))

pub write_one-requires-clause-format : goal.write_one-requires-clause-format
write_one-requires-clause-format g c = c.requires.can.1

pub write_one-requires-clause-bytes : goal.write_one-requires-clause-bytes
write_one-requires-clause-bytes g c =
    let size : length c.loop-index.bytes ≡ length c.args.call.codes.now * c.args.call.width =
    c.loop-index.auto.bytes ∙ c.requires.can.3 in
    subst (λ (n : ℕ). g.T.Flagged.BITS ≤ 8 * n)
    (sym (place_size c.args.call.width c.loop-index.index (length c.args.call.codes.now) c.loop-index.bytes
    c.loop-index-test.true size)) c.requires.can.4

pub count-requires : goal.count-requires
count-requires g c =
    let size = c.loop-index.invariant.places.size in
    room_for c.loop-index.invariant.outcomes c.loop-index.counts c.loop-index.invariant.counted
    (omega (arith, size, c.loop-index-test.true))

pub loop-index-preserved : goal.loop-index-preserved
loop-index-preserved g c =
    let q = c.args.call.dequantization in
    let size : length c.loop-index.bytes ≡ length c.args.call.codes.now * c.args.call.width =
    c.loop-index.auto.bytes ∙ c.requires.can.3 in
    let long : length c.write_one.new.bytes ≡ c.args.call.width =
    c.write_one.auto.bytes
    ∙ place_size c.args.call.width c.loop-index.index (length c.args.call.codes.now) c.loop-index.bytes
    c.loop-index-test.true size in
    rw c.count.ensures
    (scaled_more q (constants_of g.T.Flagged) c.args.call.width c.args.call.scales.now c.args.call.codes.now
    c.loop-index.index (length c.args.call.codes.now) c.loop-index.bytes c.write_one.new.bytes c.loop-index.counts
    c.write_one.result c.loop-index-test.true size long c.write_one.ensures c.loop-index.invariant)

pub returns : goal.returns
returns g c =
    let q = c.args.call.dequantization in
    let made = c.loop-index.invariant in
    let last : c.loop-index.index ≡ length c.args.call.codes.now =
    omega (arith, c.loop-index-test.false, c.loop-index.auto.index-end) in
    record {
      outcomes = made.outcomes;
      places = subst (λ (n : ℕ). AreInPlaces (IsScaledAt q (constants_of g.T.Flagged) c.args.call.scales.now
          c.args.call.codes.now) c.args.call.width n c.loop-index.bytes made.outcomes) last made.places;
      counted = made.counted;
    }
