use Rattle.std.proofs.Common.{◌≡◌, ℕ, ◌-◌, ◌^◌, ◌<◌, ◌∙◌, sym, ap, subst, Bool, true, not}
use Rattle.std.proofs.{Common.eqb, lemmas.Bool.eq-eqb, lemmas.Bool.true≢false}
use Rattle.rustc_apfloat.specs.{Flags.bits_of, Types.constants_of}
use Rattle.small_formats.specs.Types.{constants_of as storage_constants_of}
use Rattle.apfloat_arrays.specs.stored.NumberCodes.{biased_of}
use Rattle.apfloat_arrays.proofs.stored_lemmas.NumberCodes.{stored_bits}
use Rattle.apfloat_arrays.proofs.stored.number_arrays.NumbersValueConversion.convert.Goals as goal

not_special : (biased top : ℕ) (number : Bool) → number ≡ true → number ≡ not (eqb biased top)
    → biased ≡ top → ⊥
not_special biased top number holds is e = true≢false (sym holds ∙ is ∙ ap not (eq-eqb biased top e))

pub store_number-answer-requires-clause-number : goal.store_number-answer-requires-clause-number
store_number-answer-requires-clause-number g c =
    not_special (biased_of (constants_of g.S.Semantics) c.bits_in-bits.result) (2 ^ g.S.Semantics.EXP_BITS - 1)
    c.is_number.result c.if-is_number.true c.is_number.ensures

pub returns-then-is_number : goal.returns-then-is_number
returns-then-is_number g c =
    let k = constants_of g.S.Semantics in
    let s = storage_constants_of g.F.StorageFormat in
    let answer = c.store_number-answer in
    let code = answer.result.value in
    let status = bits_of answer.result.status in
    rw (c.write_number.ensures, c.from.ensures, sym c.bits_in-bits.ensures.is)
    (record {
      is_stored =
          stored_bits c.args.self.now.overflow c.args.self.now.target k s c.args.self.now.plan.round
          c.bits_in-bits.result code
          status (not (eqb status 0)) c.requires.format c.requires.word
          (not_special (biased_of k c.bits_in-bits.result) (2 ^ g.S.Semantics.EXP_BITS - 1) c.is_number.result
          c.if-is_number.true c.is_number.ensures) answer.ensures.below answer.ensures.stored answer.ensures.past;
      fits = subst (λ (bits : ℕ). code < 2 ^ bits) (sym c.requires.format.bits) answer.ensures.below;
      nan_is = sym (c.requires.format.no_nans code);
    })
