use Rattle.std.proofs.Common.{◌≡◌, ℕ, ◌+◌, ◌-◌, ◌*◌, ◌^◌, ◌≤◌, sym, ap, ◌∙◌, subst, arith}
use Rattle.std.proofs.Math.Nat.{pow-le-pow_right}
use Rattle.apfloat_model.proofs.general.Powers.{two_pos}
use Rattle.rustc_apfloat.specs.FlaggedTypes.{constants_of}
use Rattle.small_formats.specs.Types.{constants_of as storage_constants_of}
use Rattle.apfloat_arrays.specs.scaled_blocks.Products.{IsProductAt}
use Rattle.apfloat_arrays.proofs.scaled_blocks_lemmas.Products.{exponent_fits, found, none_product, normal_product}
use Rattle.apfloat_arrays.proofs.scaled_blocks.products.magnitude_bits.Goals as goal

pub returns-then-index-eq0 : goal.returns-then-index-eq0
returns-then-index-eq0 g c =
    let d = constants_of g.T.Flagged in
    let s = storage_constants_of g.F.StorageFormat in
    subst (λ (n : ℕ). IsProductAt d s c.args.scale n 0) (sym c.if-index-eq0.true)
    (none_product d s c.args.scale g.T.Flagged.lawful c.requires.written)

pub overflow_sub-PRECISION : goal.overflow_sub-PRECISION
overflow_sub-PRECISION g c =
    let it = found g.F.StorageFormat.PRECISION g.T.Flagged.PRECISION c.args.index c.denormal_codes-unit.result
    c.saturating_sub-place.result c.digits-digits.result c.from.result g.F.StorageFormat.lawful.precision_low
    c.requires.source.more c.denormal_codes-unit.ensures c.saturating_sub-place.ensures c.from.ensures
    c.if-index-eq0.false c.digits-digits.ensures.below c.digits-digits.ensures.full in
    let few = it.few in
    omega (arith, few, c.PRECISION.ensures)

pub overflow_mul-all : goal.overflow_mul-all
overflow_mul-all g c =
    let k = c.digits-digits.result in
    let it = found g.F.StorageFormat.PRECISION g.T.Flagged.PRECISION c.args.index c.denormal_codes-unit.result
    c.saturating_sub-place.result c.digits-digits.result c.from.result g.F.StorageFormat.lawful.precision_low
    c.requires.source.more c.denormal_codes-unit.ensures c.saturating_sub-place.ensures c.from.ensures
    c.if-index-eq0.false c.digits-digits.ensures.below c.digits-digits.ensures.full in
    let fits = it.fits in
    let most : 2 ^ g.T.Flagged.PRECISION ≤ 2 ^ 24 = pow-le-pow_right two_pos c.requires.source.digits in
    let up : c.power_of_two.result ≡ 2 ^ (g.T.Flagged.PRECISION - c.digits-digits.result) =
    c.power_of_two.ensures ∙ ap (λ (n : ℕ). 2 ^ (n - k)) c.PRECISION.ensures in
    let all : (c.args.index - c.saturating_sub-place.result * c.denormal_codes-unit.result) * c.power_of_two.result
    ≡ c.from.result * 2 ^ (g.T.Flagged.PRECISION - c.digits-digits.result) =
    (λ i. sym c.from.ensures i * up i) in
    record { fits = omega (arith, all, fits, most) }

pub overflow_mul-result : goal.overflow_mul-result
overflow_mul-result g c =
    let e = c.in_ok-exponent.exponent in
    let within = c.in_ok-exponent.ensures.within in
    let fits = exponent_fits (constants_of g.T.Flagged) e c.requires.source.exp_bits c.requires.source.digits
    (omega (arith, within)) in
    let unit : c.in_ok-exponent.exponent * c.power_of_two-2.result
    ≡ c.in_ok-exponent.exponent * 2 ^ (g.T.Flagged.PRECISION - 1) =
    ap (λ (n : ℕ). e * n) (c.power_of_two-2.ensures ∙ ap (λ (n : ℕ). 2 ^ (n - 1)) c.PRECISION-2.ensures) in
    record { fits = omega (arith, unit, fits) }

pub overflow_add-result : goal.overflow_add-result
overflow_add-result g c =
    let k = c.digits-digits.result in
    let e = c.in_ok-exponent.exponent in
    let it = found g.F.StorageFormat.PRECISION g.T.Flagged.PRECISION c.args.index c.denormal_codes-unit.result
    c.saturating_sub-place.result c.digits-digits.result c.from.result g.F.StorageFormat.lawful.precision_low
    c.requires.source.more c.denormal_codes-unit.ensures c.saturating_sub-place.ensures c.from.ensures
    c.if-index-eq0.false c.digits-digits.ensures.below c.digits-digits.ensures.full in
    let first = it.fits in
    let most : 2 ^ g.T.Flagged.PRECISION ≤ 2 ^ 24 = pow-le-pow_right two_pos c.requires.source.digits in
    let up : c.power_of_two.result ≡ 2 ^ (g.T.Flagged.PRECISION - c.digits-digits.result) =
    c.power_of_two.ensures ∙ ap (λ (n : ℕ). 2 ^ (n - k)) c.PRECISION.ensures in
    let all : (c.args.index - c.saturating_sub-place.result * c.denormal_codes-unit.result) * c.power_of_two.result
    ≡ c.from.result * 2 ^ (g.T.Flagged.PRECISION - c.digits-digits.result) =
    (λ i. sym c.from.ensures i * up i) in
    let within = c.in_ok-exponent.ensures.within in
    let fits = exponent_fits (constants_of g.T.Flagged) e c.requires.source.exp_bits c.requires.source.digits
    (omega (arith, within)) in
    let unit : c.in_ok-exponent.exponent * c.power_of_two-2.result
    ≡ c.in_ok-exponent.exponent * 2 ^ (g.T.Flagged.PRECISION - 1) =
    ap (λ (n : ℕ). e * n) (c.power_of_two-2.ensures ∙ ap (λ (n : ℕ). 2 ^ (n - 1)) c.PRECISION-2.ensures) in
    record { fits = omega (arith, all, first, most, unit, fits) }

pub returns : goal.returns
returns g c =
    let d = constants_of g.T.Flagged in
    let s = storage_constants_of g.F.StorageFormat in
    let k = c.digits-digits.result in
    let e = c.in_ok-exponent.exponent in
    let low = g.T.Flagged.lawful.parameters.precision_low in
    let it = found g.F.StorageFormat.PRECISION g.T.Flagged.PRECISION c.args.index c.denormal_codes-unit.result
    c.saturating_sub-place.result c.digits-digits.result c.from.result g.F.StorageFormat.lawful.precision_low
    c.requires.source.more c.denormal_codes-unit.ensures c.saturating_sub-place.ensures c.from.ensures
    c.if-index-eq0.false c.digits-digits.ensures.below c.digits-digits.ensures.full in
    let up : c.power_of_two.result ≡ 2 ^ (g.T.Flagged.PRECISION - c.digits-digits.result) =
    c.power_of_two.ensures ∙ ap (λ (n : ℕ). 2 ^ (n - k)) c.PRECISION.ensures in
    let unit : c.power_of_two-2.result ≡ 2 ^ (g.T.Flagged.PRECISION - 1) =
    c.power_of_two-2.ensures ∙ ap (λ (n : ℕ). 2 ^ (n - 1)) c.PRECISION-2.ensures in
    subst (λ (n : ℕ). IsProductAt d s c.args.scale c.args.index n) (λ i. c.from.ensures i * sym up i + e * sym unit i)
    (normal_product d s c.args.scale c.args.index c.saturating_sub-place.result k c.from.result e (omega (arith, low))
    it c.in_ok-exponent.ensures)
