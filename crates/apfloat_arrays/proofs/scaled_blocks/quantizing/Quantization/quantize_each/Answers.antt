use Rattle.std.proofs.Common.{◌≡◌, ℕ, ◌*◌, List, length, sym, ◌∙◌, subst, arith}
use Rattle.std.proofs.lemmas.List.{take_all}
use Rattle.rustc_apfloat.specs.Lawful.{format_with}
use Rattle.formats_at_run_time.specs.BuiltIns.{constants_in}
use Rattle.apfloat_arrays.specs.{Blocks.AreInPlaces, Blocks.value_at, scaled_blocks.Formats.IsBlockIn}
use Rattle.apfloat_arrays.specs.scaled_blocks.{Quantized.IsBlockOf, Quantized.width_in, Values.values_in}
use Rattle.apfloat_arrays.proofs.Places.{place_size}
use Rattle.apfloat_arrays.proofs.scaled_blocks_lemmas.{Fitting.block_within, Made.made_more, Made.made_none}
use Rattle.small_formats.proofs.blocks_lemmas.Places.{length_set}
use Rattle.apfloat_arrays.proofs.scaled_blocks.quantizing.Quantization.quantize_each.Goals as goal

pub loop-index-init : goal.loop-index-init
loop-index-init c = (c.requires.scales, made_none c.args.self c.args.values.now c.args.scales.now c.args.codes.now)

pub read-block-requires : goal.read-block-requires
read-block-requires c =
    let size : length c.loop-index.codes ≡ c.args.blocks * c.args.self.length =
    c.loop-index.auto.codes ∙ c.requires.codes in (
      c.requires.format,
      c.requires.least,
      c.requires.few,
      block_within c.loop-index.index c.args.blocks c.args.self.length c.args.width _ (length c.args.values.now)
          c.loop-index-test.true
          (place_size c.args.self.length c.loop-index.index c.args.blocks c.loop-index.codes c.loop-index-test.true
          size) c.requires.values,
    )

pub loop-index-preserved : goal.loop-index-preserved
loop-index-preserved c =
    let q = c.args.self in
    let k = constants_in q.source in
    let index = c.loop-index.index in
    let block = c.read-block.result in
    let new = c.read-block.new.bytes in
    let values = c.args.values.now in
    let size : length c.loop-index.codes ≡ c.args.blocks * q.length = c.loop-index.auto.codes ∙ c.requires.codes in
    let part : List ℕ = value_at q.length index c.loop-index.codes in
    let long : length part ≡ q.length =
    place_size q.length index c.args.blocks c.loop-index.codes c.loop-index-test.true size in
    let here : IsBlockOf q values index new block =
    subst (λ (n : ℕ). IsBlockIn q.rule q.format (format_with k) q.round
    (values_in k (width_in q) values (index * q.length) n) new block) long
    (subst (λ (w : ℕ). IsBlockIn q.rule q.format (format_with k) q.round
    (values_in k w values (index * q.length) (length part)) new block) c.requires.width
    c.read-block.ensures) in
    rw c.add.ensures
    (rw c.counts_of.ensures (
      length_set c.loop-index.scales index block.scale ∙ c.loop-index.invariant.0,
      made_more q values index c.args.blocks c.loop-index.scales c.loop-index.codes new c.loop-index.counts block
          c.loop-index-test.true c.loop-index.invariant.0 size (c.read-block.auto.bytes ∙ long) here
          c.loop-index.invariant.1,
    ))

pub returns : goal.returns
returns c =
    let q = c.args.self in
    let made = c.loop-index.invariant.1 in
    let many = c.loop-index.invariant.0 in
    let last : c.loop-index.index ≡ c.args.blocks =
    omega (arith, c.loop-index-test.false, c.loop-index.auto.index-end) in
    record {
      blocks = made.blocks;
      places = subst
          (λ (n : ℕ). AreInPlaces (IsBlockOf q c.args.values.now) q.length n c.loop-index.codes made.blocks)
          last made.places;
      scales_are =
          sym (take_all c.loop-index.index c.loop-index.scales (omega (arith, many, last))) ∙ made.scales_are;
      counted = made.counted;
    }
