use Rattle.std.proofs.Common.{◌≡◌, ℕ, ◌*◌, [], length, refl, ap, ◌∙◌, arith}
use Rattle.std.proofs.Math.Nat.{le_antisymm}
use Rattle.apfloat_arrays.proofs.Places.{place_below, place_size, places_none, room_for}
use Rattle.apfloat_arrays.specs.stored.ByMode.{IsStoredAt}
use Rattle.apfloat_arrays.proofs.stored_lemmas.ByMode.{random_within, stored_more}
use Rattle.apfloat_arrays.proofs.stored.by_mode.ModeConversion.convert.Goals as goal

pub loop-index-init : goal.loop-index-init
loop-index-init c =
    record {
      outcomes = [];
      places = places_none (IsStoredAt c.args.self c.args.randoms.now c.args.input.now) 1 c.args.output.now;
      counted = refl;
    }

pub random_at-random-requires : goal.random_at-random-requires
random_at-random-requires c =
    random_within c.args.self.round c.loop-index.index c.args.count (length c.args.randoms.now)
    c.loop-index-test.true c.requires.randoms

pub value_at-value-requires : goal.value_at-value-requires
value_at-value-requires c =
    omega (
      arith,
      place_below c.loop-index.index c.args.count c.width-width.result c.loop-index-test.true,
      c.requires.input,
      ap (λ (w : ℕ). c.args.count * w) c.width-width.ensures.is,
    )

pub count-requires : goal.count-requires
count-requires c =
    let so_far = c.loop-index.invariant in
    room_for so_far.outcomes c.loop-index.counts so_far.counted
    (omega (arith, so_far.places.size, c.loop-index-test.true))

pub returns : goal.returns
returns c = rw (le_antisymm c.loop-index.auto.index-end c.loop-index-test.false) at c.loop-index.invariant

pub loop-index-preserved : goal.loop-index-preserved
loop-index-preserved c =
    let it = c.args.self in
    let size : length c.loop-index.output ≡ c.args.count * 1 = c.loop-index.auto.output ∙ c.requires.output in
    let long : length c.convert_value.new.output ≡ 1 =
    c.convert_value.auto.output
    ∙ place_size 1 c.loop-index.index c.args.count c.loop-index.output c.loop-index-test.true size in
    rw c.count.ensures
    (stored_more it c.args.randoms.now c.args.input.now c.width-width.result c.loop-index.index c.args.count
    c.random_at-random.result c.loop-index.output c.convert_value.new.output c.loop-index.counts
    c.convert_value.result c.width-width.ensures.is c.loop-index-test.true size long c.random_at-random.ensures
    (rw c.value_at-value.ensures.is at c.convert_value.ensures) c.loop-index.invariant)
