use Rattle.std.proofs.Common.{◌≡◌, ℕ, false, length, ◌^◌, sym, subst, ◌∙◌}
use Rattle.rustc_apfloat.specs.FlaggedTypes.{constants_of}
use Rattle.apfloat_arrays.specs.{Bytes.number_of, ShortSources.is_nan_of, Values.IsAnswerAt}
use Rattle.apfloat_arrays.proofs.{ShortSources.short_answers, TabledResults.looked_up}
use Rattle.apfloat_arrays.proofs.short_sources.ShortenedValueConversion.convert.Goals as goal

pub returns-else-is_nan : goal.returns-else-is_nan
returns-else-is_nan g c =
    let it = c.args.self.now in
    let from = constants_of g.S.Flagged in
    let short = constants_of g.Z.Flagged in
    let to = constants_of g.T.Flagged in
    let number : is_nan_of (constants_of g.S.Flagged) c.bits_in-bits.result ≡ false =
    sym c.is_nan.ensures ∙ c.if-is_nan.false in
    let found =
    looked_up (IsAnswerAt it.overflow short to it.round) 1 (2 ^ g.Z.Flagged.BITS) c.short_of.result _
    (length c.args.output.now) it.values.now c.look_up.new.target it.outcomes.now c.look_up.result c.requires.table
    c.look_up.ensures.outcome c.look_up.ensures.bytes c.requires.short.target c.short_of.ensures.is in
    let answer =
    short_answers it.overflow from short to it.round c.bits_in-bits.result
    (record { bits = number_of c.look_up.new.target; outcome = c.look_up.result }) c.requires.short.short
    g.S.Flagged.lawful g.Z.Flagged.lawful g.T.Flagged.lawful c.requires.widths.read c.requires.listed
    c.requires.short.coarse number found in
    subst (λ (n : ℕ). IsAnswerAt it.overflow from to it.round n (number_of c.look_up.new.target) c.look_up.result)
    c.bits_in-bits.ensures.is answer
