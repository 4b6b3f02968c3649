use Rattle.std.proofs.Common.{◌≡◌, ◌+◌, ◌*◌, ◌^◌, ◌<◌, length, sym, subst, ap, ◌∙◌, arith}
use Rattle.apfloat_arrays.specs.{Tallies.Fits, Tallies.sum_of, Tallies.unpacked, declared.tallies.Tally.Tally}
use Rattle.apfloat_arrays.proofs.Places.{place_size}
use Rattle.apfloat_arrays.proofs.TalliedResults.{since_done, since_fits, since_more, since_none}
use Rattle.apfloat_arrays.proofs.entries.look_up_few.Goals as goal

pub loop-index-init : goal.loop-index-init
loop-index-init g c =
    since_none (g.P.TablePlaces.place c.args.places) (g.P.TablePlaces.size c.args.places) c.args.width c.args.first
    c.args.table.now c.args.tally c.args.output.now c.requires.before

pub loop-index-preserved : goal.loop-index-preserved
loop-index-preserved g c =
    let size : length c.loop-index.output ≡ c.args.count * c.args.width =
    c.loop-index.auto.output ∙ c.requires.output in
    let before : c.loop-index.index < c.args.count = omega (arith, c.loop-index-test.true, c.requires.within) in
    let room = place_size c.args.width c.loop-index.index c.args.count c.loop-index.output before size in
    let wide : length c.look_up_one-packed.new.target ≡ c.args.width = c.look_up_one-packed.auto.target ∙ room in
    since_more (g.P.TablePlaces.place c.args.places) (g.P.TablePlaces.size c.args.places) c.args.width c.args.first
    c.args.table.now c.args.tally c.loop-index.index c.args.count c.loop-index.output c.look_up_one-packed.new.target
    c.place.result c.loop-index.packed c.look_up_one-packed.result before size wide c.place.ensures.is
    c.place.ensures.within c.requires.table c.look_up_one-packed.ensures.result c.look_up_one-packed.ensures.mark
    c.loop-index.invariant

pub with-requires : goal.with-requires
with-requires g c =
    let high = c.loop-index.auto.index-end in
    let last : c.loop-index.index ≡ c.args.first + c.args.size = omega (arith, c.loop-index-test.false, high) in
    let room : c.args.first + c.args.size < 2 ^ 64 = omega (arith, c.requires.within, c.ranges.count.fits) in
    subst (λ (t : Tally). Fits (sum_of c.args.tally t)) (sym c.unpacked.ensures)
    (since_fits (g.P.TablePlaces.place c.args.places) (g.P.TablePlaces.size c.args.places) c.args.width c.args.first
    c.args.table.now c.args.tally c.loop-index.index c.args.size c.loop-index.output c.loop-index.packed last
    c.requires.few room c.requires.before.most c.loop-index.invariant)

pub returns : goal.returns
returns g c =
    let high = c.loop-index.auto.index-end in
    let last : c.loop-index.index ≡ c.args.first + c.args.size = omega (arith, c.loop-index-test.false, high) in
    let sum : c.with.result ≡ sum_of c.args.tally (unpacked c.loop-index.packed) =
    c.with.ensures ∙ ap (sum_of c.args.tally) c.unpacked.ensures in
    since_done (g.P.TablePlaces.place c.args.places) (g.P.TablePlaces.size c.args.places) c.args.width c.args.first
    c.args.table.now c.args.tally c.loop-index.index c.args.size c.loop-index.output c.with.result c.loop-index.packed
    last c.requires.few c.requires.before.most sum c.loop-index.invariant
