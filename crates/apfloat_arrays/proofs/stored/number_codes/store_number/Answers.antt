use Rattle.std.proofs.Common.{◌≡◌, ℕ, ◌+◌, ◌-◌, ◌^◌, ◌<◌, eqb, not, sym, ap, subst, arith, pos, ◌-ℤ◌}
use Rattle.std.proofs.lemmas.{Int.ints, Nat.pow_pos}
use Rattle.apfloat_model.specs.{formats.Datum.Datum, rounding.Rounding.leads_out}
use Rattle.rustc_apfloat.specs.{Flags.bits_of, Types.constants_of, Types.format_of}
use Rattle.small_formats.specs.{Conversions.IsInto, Storage.format_with}
use Rattle.small_formats.specs.Types.{constants_of as storage_constants_of}
use Rattle.apfloat_arrays.specs.stored.NumberCodes.{IsCodedNumber, is_minus}
use Rattle.apfloat_arrays.proofs.FarNumbers.{scale_is}
use Rattle.apfloat_arrays.proofs.stored_lemmas.Numbers.{code_below, number_into, number_read, overflow_only_past}
use Rattle.apfloat_arrays.proofs.stored.number_codes.store_number.Goals as goal

pub code_number-requires-clause-most : goal.code_number-requires-clause-most
code_number-requires-clause-most g c =
    let is = c.unsigned_codes-most.ensures.is in
    let some : 0 < 2 ^ (g.F.StorageFormat.BITS - 1) = pow_pos (g.F.StorageFormat.BITS - 1) in
    omega (arith, is, some)

pub returns : goal.returns
returns g c =
    let k = constants_of g.S.Semantics in
    let s = storage_constants_of g.F.StorageFormat in
    let law = g.F.StorageFormat.lawful in
    let source = c.requires.source in
    let first = c.first_place.result in
    let mode = c.args.plan.round in
    let negative = is_minus k c.args.bits in
    let code = c.code_number.result.value in
    let status = bits_of c.code_number.result.status in
    let most : c.unsigned_codes-most.result - 1 ≡ 2 ^ (s.bits - 1) - 1 =
    ap (λ (n : ℕ). n - 1) c.unsigned_codes-most.ensures.is in
    let coded : IsCodedNumber k s mode first (2 ^ (s.bits - 1) - 1) c.args.bits code status =
    subst (λ (n : ℕ). IsCodedNumber k s mode first n c.args.bits code status) most c.code_number.ensures in
    let some : 0 < 2 ^ (s.bits - 1) = pow_pos (s.bits - 1) in
    let from_scale = scale_is k g.S.Semantics.lawful.parameters in
    let more = source.more in
    let to_scale : pos (format_with s).scale ≡ pos (s.precision - 1) -ℤ s.min_exp =
    omega (arith, ints, law.precision_low, law.min_exp_high) in
    let scales : (format_of g.S.Semantics).scale ≡ (format_with s).scale + (k.precision - s.precision) + first =
    omega (arith, ints, from_scale, to_scale, c.first_place.ensures.is, more, law.precision_low) in
    let into = number_into s k (format_of g.S.Semantics) mode first c.args.bits code status law scales coded in
    let read = number_read k c.args.bits source.nonfinite source.implied c.requires.number in
    record {
      stored =
          subst
          (λ (x : Datum). IsInto s (format_of g.S.Semantics) mode x code status (not (eqb status 0))) (sym read) into;
      below = code_below s negative (2 ^ (s.bits - 1) - 1) coded.index code
          (omega (arith, law.precision_low, law.exponent))
          (omega (arith, some)) coded.code_is;
      past = overflow_only_past s negative (leads_out mode negative) coded.exact (2 ^ (s.bits - 1) - 1) coded.index code
          status coded.code_is coded.status_is;
    }
