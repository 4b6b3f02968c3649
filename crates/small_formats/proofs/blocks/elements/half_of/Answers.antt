use Rattle.std.proofs.Common.{ℕ, ◌-◌, ◌*◌, ◌^◌, ap, ◌∙◌, subst, sym}
use Rattle.std.proofs.Math.Nat.{mod-eq_of_lt}
use Rattle.apfloat_model.specs.arithmetic.Conversions.{IsExactlyConverted}
use Rattle.apfloat_model.specs.formats.{Datum.finite, Formats.half_constants}
use Rattle.apfloat_model.specs.formats.Lawful.{format_with as library_format}
use Rattle.apfloat_model.specs.{order.Classes.quanta_of, rounding.Flags.bits_of}
use Rattle.small_formats.specs.Codes.{datum_of, is_negative_code, magnitude_of, point}
use Rattle.small_formats.specs.{Storage.format_with, Types.constants_of}
use Rattle.small_formats.proofs.blocks_lemmas.Halves.{half_member, moved_quanta}
use Rattle.small_formats.proofs.blocks.elements.half_of.Goals as goal

-- the clause `exact` of `convert_r`, for n = point * 2 ^ (24 - scale), which is a number of half
pub returns : goal.returns
returns g c =
    let d = constants_of g.F.StorageFormat in
    let code = c.args.code in
    let m : ℕ = point d.precision (magnitude_of d code) in
    let n : ℕ = m * 2 ^ (24 - (format_with d).scale) in
    let exact = subst (λ (k : ℕ). IsExactlyConverted (format_with d) (library_format half_constants) (datum_of d k)
    c.convert_r.result.value (bits_of c.convert_r.result.status) c.convert_r.new.loses_info)
    (c.from_bits.ensures ∙ mod-eq_of_lt c.requires.bits) c.convert_r.ensures.exact in
    let moved = moved_quanta m (format_with d).scale c.requires.quantum in
    let value = (exact n moved
    (half_member d code g.F.StorageFormat.lawful c.requires.precise c.requires.quantum c.requires.room)).value_is in
    let quanta = ap quanta_of value in (
      value ∙ ap (finite (is_negative_code d code)) (sym quanta),
      ap (λ (q : ℕ). q * 2 ^ (format_with d).scale) quanta ∙ moved,
    )
