-- The lengths of one block fit.
use Rattle.std.proofs.Common.{◌≡◌, ℕ, ◌*◌, ◌/◌, ◌%◌, ◌≤◌, ◌==◌, ◌&&◌, true, false, refl, sym, ap, ◌∙◌, subst, arith}
use Rattle.std.proofs.{Common.List, Math.Nat.mul-div_cancel, Math.Nat.mul-mod_left}
use Rattle.std.proofs.lemmas.Bool.{and_from, eq-eqb, ne_eqb}
use Rattle.std.specs.Prelude.{Err, IsOk, Ok, Result}
use Rattle.apfloat_arrays.specs.declared.Counts.{Counts}
use Rattle.apfloat_arrays.specs.declared.scaled_blocks.{BlockFormat.BlockFormat, Dequantization.Dequantization}
use Rattle.apfloat_arrays.specs.declared.scaled_blocks.ArrayError.{ArrayError, TheVariants.CodeTooWide}
use Rattle.apfloat_arrays.specs.declared.scaled_blocks.ArrayError.TheVariants.{EmptyBlock, Lengths, TensorScale, Uneven}
use Rattle.apfloat_arrays.specs.declared.scaled_blocks.Quantization.{Quantization}
use Rattle.apfloat_arrays.specs.scaled_blocks.{Quantized.AreQuantized, Quantized.IsQuantizedArray, Formats.AreNarrow}
use Rattle.apfloat_arrays.specs.scaled_blocks.Formats.{has_scale}
use Rattle.apfloat_arrays.specs.scaled_blocks.Dequantized.{IsDequantizedArray}
use Rattle.apfloat_arrays.specs.scaled_blocks.Lengths.{blocks_in, blocks_of, if_scaled}
use Rattle.apfloat_arrays.proofs.scaled_blocks_lemmas.Formats.{not_both_in}

one_block : (block width : ℕ) → 1 ≤ block → 1 ≤ width
    → blocks_of block width (block * width) 1 block ≡ Ok 1
one_block block width some wide =
    let count : block * width / width ≡ block = mul-div_cancel block {n = width} wide in
    let alone : 1 * block ≡ block = omega arith in
    let one : block / block ≡ 1 = ap (λ (n : ℕ). n / block) (sym alone) ∙ mul-div_cancel 1 {n = block} some in
    let whole : block % block ≡ 0 = ap (λ (n : ℕ). n % block) (sym alone) ∙ mul-mod_left 1 block in
    let none : (block == 0) ≡ false = ne_eqb block 0 (λ e. omega (arith, some, e)) in
    let even : (block * width % width == 0) ≡ true = eq-eqb (block * width % width) 0 (mul-mod_left block width) in
    let split : (block * width / width % block == 0) ≡ true =
    eq-eqb (block * width / width % block) 0 (ap (λ (n : ℕ). n % block) count ∙ whole) in
    let same : ((block == block * width / width) && (1 == block * width / width / block)) ≡ true =
    and_from (block == block * width / width) (1 == block * width / width / block)
    (eq-eqb block (block * width / width) (sym count))
    (eq-eqb 1 (block * width / width / block) (sym (ap (λ (n : ℕ). n / block) count ∙ one))) in
    rw (none, even, split, same) refl

pub one_block_of : (format : BlockFormat) (block width values scales codes : ℕ) → has_scale format ≡ true
    → 1 ≤ block → 1 ≤ width → values ≡ block * width → scales ≡ 1 → codes ≡ block
    → blocks_in format block width values scales codes ≡ Ok 1
one_block_of format block width values scales codes scaled some wide v s c =
    let one : if_scaled format (Ok 1) ≡ Ok 1 = rw scaled refl in
    ap (λ (n : ℕ). blocks_in format block width n scales codes) v
    ∙ ap (λ (n : ℕ). blocks_in format block width (block * width) n codes) s
    ∙ ap (λ (n : ℕ). blocks_in format block width (block * width) 1 n) c
    ∙ ap (if_scaled format) (one_block block width some wide)
    ∙ one

-- a block is quantized without an error
pub quantized : (q : Quantization) (values before scales old codes : List ℕ) (known : Result ℕ ArrayError)
    (answer : Result Counts ArrayError) → known ≡ Ok 1
    → IsQuantizedArray q known values before scales old codes answer → IsOk answer
quantized q values before scales old codes (Ok n) (Ok counts) e h = refl
quantized q values before scales old codes (Ok n) (Err error) e h = absurd h
quantized q values before scales old codes (Err fault) answer e h = cc

pub quantized_parts : (q : Quantization) (values before scales old codes : List ℕ) (known : Result ℕ ArrayError)
    (answer : Result Counts ArrayError) (counts : Counts) → known ≡ Ok 1 → answer ≡ Ok counts
    → IsQuantizedArray q known values before scales old codes answer → AreQuantized q values 1 scales codes counts
quantized_parts q values before scales old codes known answer counts e f h =
    subst (λ (r : Result ℕ ArrayError). IsQuantizedArray q r values before scales old codes (Ok counts)) e
    (subst (λ (a : Result Counts ArrayError). IsQuantizedArray q known values before scales old codes a) f h)

-- and taken apart without one, if its codes are narrow
pub dequantized : (q : Dequantization) (scales codes before after : List ℕ) (known : Result ℕ ArrayError)
    (answer : Result Counts ArrayError) → known ≡ Ok 1 → AreNarrow q.format scales codes
    → IsDequantizedArray q known scales codes before after answer → IsOk answer
dequantized q scales codes before after (Ok n) (Ok counts) e narrow h = refl
dequantized q scales codes before after (Ok n) (Err CodeTooWide) e narrow h =
    absurd (not_both_in q.format scales codes narrow h.0)
dequantized q scales codes before after (Ok n) (Err EmptyBlock) e narrow h = absurd h
dequantized q scales codes before after (Ok n) (Err Uneven) e narrow h = absurd h
dequantized q scales codes before after (Ok n) (Err Lengths) e narrow h = absurd h
dequantized q scales codes before after (Ok n) (Err TensorScale) e narrow h = absurd h
dequantized q scales codes before after (Err fault) answer e narrow h = cc
