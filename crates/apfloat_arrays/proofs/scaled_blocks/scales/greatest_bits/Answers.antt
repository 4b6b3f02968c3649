use Rattle.std.proofs.Common.{◌≡◌, ℕ, ◌+◌, ◌-◌, ◌*◌, ◌/◌, ◌%◌, ◌^◌, ◌≤◌, max, List, ◌++◌}
use Rattle.std.proofs.Common.{◌∷◌, [], length, ap, sym, ◌∙◌, subst, arith}
use Rattle.rustc_apfloat.specs.{Datum.Datum, Types.constants_of}
use Rattle.formats_at_run_time.specs.ValueKinds.{value_of}
use Rattle.apfloat_arrays.specs.{Blocks.value_at, Bytes.number_of}
use Rattle.apfloat_arrays.specs.scaled_blocks.{Greatest.AreAtMost, Values.values_in}
use Rattle.apfloat_arrays.proofs.scaled_blocks_lemmas.{Fitting.index_within, Fitting.value_within, Listed.values_next}
use Rattle.apfloat_arrays.proofs.scaled_blocks_lemmas.Numbers.{more_at_most, none_at_most, some_special, whole_bits}
use Rattle.apfloat_arrays.proofs.scaled_blocks.scales.greatest_bits.Goals as goal

pub loop-index-init : goal.loop-index-init
loop-index-init g c =
    let k = constants_of g.S.Semantics in
    none_at_most k (some_special k g.S.Semantics.lawful c.requires.read)

pub overflow_add-first : goal.overflow_add-first
overflow_add-first g c =
    let width = c.BITS-width.ensures in
    let at = index_within c.args.first c.loop-index.index c.args.count (g.S.Semantics.BITS / 8)
    (length c.args.bytes.now)
    c.loop-index-test.true (omega (arith, c.requires.read, c.requires.whole)) c.requires.within in
    record { fits = omega (arith, at) }

pub value_at-requires : goal.value_at-requires
value_at-requires g c =
    subst (λ (b : ℕ). (c.args.first + c.loop-index.index) * (b / 8) + b / 8 ≤ length c.args.bytes.now)
    (sym c.BITS-width.ensures)
    (value_within c.args.first c.loop-index.index c.args.count (g.S.Semantics.BITS / 8) (length c.args.bytes.now)
    c.loop-index-test.true c.requires.within)

pub loop-index-preserved : goal.loop-index-preserved
loop-index-preserved g c =
    let k = constants_of g.S.Semantics in
    let index = c.loop-index.index in
    let bits = c.bits_in-bits.result in
    let width : ℕ = g.S.Semantics.BITS / 8 in
    let low = g.S.Semantics.lawful.parameters.precision_low in
    let bytes = c.args.bytes.now in
    let at = c.args.first + index in
    let bits_are : bits ≡ number_of (value_at width at bytes) =
    c.bits_in-bits.ensures.is ∙ ap number_of c.value_at.ensures.is
    ∙ ap (λ (b : ℕ). number_of (value_at (b / 8) at bytes)) c.BITS-width.ensures in
    let half : c.power_of_two-half.result ≡ 2 ^ (k.bits - 1) =
    c.power_of_two-half.ensures ∙ ap (λ (n : ℕ). 2 ^ (n - 1)) c.BITS.ensures in
    let next : values_in k width bytes c.args.first (index + 1)
    ≡ values_in k width bytes c.args.first index ++ value_of k bits ∷ [] =
    values_next k width bytes c.args.first index
    ∙ ap (λ (n : ℕ). values_in k width bytes c.args.first index ++ value_of k n ∷ []) (sym bits_are) in
    let more : AreAtMost k (values_in k width bytes c.args.first index ++ value_of k bits ∷ [])
    (max c.loop-index.greatest (bits % 2 ^ (k.bits - 1))) =
    more_at_most k (values_in k width bytes c.args.first index) c.loop-index.greatest bits (omega (arith, low))
    (whole_bits k g.S.Semantics.lawful c.requires.read c.requires.word.1) c.requires.word.0 c.requires.word.1
    c.loop-index.invariant in
    subst (λ (xs : List Datum). AreAtMost k xs c.max-greatest.result) (sym next)
    (subst (λ (n : ℕ). AreAtMost k (values_in k width bytes c.args.first index ++ value_of k bits ∷ []) n)
    (sym (c.max-greatest.ensures ∙ ap (λ (n : ℕ). max c.loop-index.greatest (bits % n)) half)) more)

pub returns : goal.returns
returns g c =
    let k = constants_of g.S.Semantics in
    let last : c.loop-index.index ≡ c.args.count =
    omega (arith, c.loop-index-test.false, c.loop-index.auto.index-end) in
    subst
    (λ (n : ℕ). AreAtMost k (values_in k (g.S.Semantics.BITS / 8) c.args.bytes.now c.args.first n)
    c.loop-index.greatest) last c.loop-index.invariant
