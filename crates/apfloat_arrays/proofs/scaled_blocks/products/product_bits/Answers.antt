use Rattle.std.proofs.Common.{◌≡◌, ℕ, ◌+◌, ◌-◌, ◌^◌, cond, leb, refl, ap, ◌∙◌, arith}
use Rattle.rustc_apfloat.specs.FlaggedTypes.{constants_of}
use Rattle.small_formats.specs.Types.{constants_of as storage_constants_of}
use Rattle.apfloat_arrays.proofs.scaled_blocks_lemmas.Products.{exact_code, sign_within, signed_fits}
use Rattle.apfloat_arrays.proofs.scaled_blocks.products.product_bits.Goals as goal

pub overflow_sub-index : goal.overflow_sub-index
overflow_sub-index g c =
    let s = storage_constants_of g.F.StorageFormat in
    let within = sign_within (2 ^ (s.bits - 1)) c.args.code in
    let sign : c.sign_if.result ≡ cond (leb (2 ^ (s.bits - 1)) c.args.code) (2 ^ (s.bits - 1)) 0 =
    c.sign_if.ensures ∙ (λ i. cond (c.is_negative-negative.ensures i) (c.unsigned_codes.ensures.is i) 0) in
    omega (arith, within, sign, c.from.ensures)

pub overflow_add-result : goal.overflow_add-result
overflow_add-result g c =
    let d = constants_of g.T.Flagged in
    let s = storage_constants_of g.F.StorageFormat in
    let negative = c.is_negative-negative.result in
    let sign : c.sign_if-sign.result ≡ cond c.is_negative-negative.result (2 ^ (d.bits - 1)) 0 =
    c.sign_if-sign.ensures ∙ ap (λ (n : ℕ). cond negative n 0)
    (c.power_of_two.ensures ∙ ap (λ (n : ℕ). 2 ^ (n - 1)) c.BITS.ensures) in
    let fits = signed_fits d s negative c.in_ok-magnitude_bits.field-0 (c.if-not-is_word_source.ensures refl)
    c.in_ok-magnitude_bits.ensures.below in
    record { fits = omega (arith, sign, fits) }

pub returns : goal.returns
returns g c = λ format has.
    let d = constants_of g.T.Flagged in
    let s = storage_constants_of g.F.StorageFormat in
    let code = c.args.code in
    let bits = c.in_ok-magnitude_bits.field-0 in
    let within = sign_within (2 ^ (s.bits - 1)) c.args.code in
    let half : c.sign_if.result ≡ cond (leb (2 ^ (s.bits - 1)) c.args.code) (2 ^ (s.bits - 1)) 0 =
    c.sign_if.ensures ∙ (λ i. cond (c.is_negative-negative.ensures i) (c.unsigned_codes.ensures.is i) 0) in
    let top : c.power_of_two.result ≡ 2 ^ (d.bits - 1) =
    c.power_of_two.ensures ∙ ap (λ (n : ℕ). 2 ^ (n - 1)) c.BITS.ensures in
    let sign : c.sign_if-sign.result ≡ cond (leb (2 ^ (s.bits - 1)) c.args.code) (2 ^ (d.bits - 1)) 0 =
    c.sign_if-sign.ensures ∙ (λ i. cond (c.is_negative-negative.ensures i) (top i) 0) in
    exact_code format d s (leb (2 ^ (s.bits - 1)) code) c.args.scale code (c.from.result - c.sign_if.result)
    c.args.most bits (c.sign_if-sign.result + bits) g.T.Flagged.lawful c.requires (c.if-not-is_word_source.ensures refl)
    has c.if-scale-eq255.false (omega (arith, c.if-index-most.false)) (omega (arith, within, half, c.from.ensures))
    c.in_ok-magnitude_bits.ensures (ap (λ (n : ℕ). n + bits) sign)
