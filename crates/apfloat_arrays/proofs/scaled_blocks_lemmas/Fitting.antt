-- Lengths that fit.
use Rattle.std.proofs.Common.{◌≡◌, ℕ, ◌+◌, ◌*◌, ◌/◌, ◌%◌, ◌<◌, ◌≤◌, ◌==◌, ◌&&◌, Bool, true, false, if◌then◌else◌, refl}
use Rattle.std.proofs.Common.{sym, ap, ◌∙◌, arith, zero, suc}
use Rattle.std.proofs.Math.Nat.{le-mul_of_pos_right, mod-add-div, mul-le-mul_right, mul_comm}
use Rattle.std.proofs.lemmas.Bool.{and_parts, eqb-false, eqb-true}
use Rattle.std.specs.Prelude.{Result, Ok, Err}
use Rattle.apfloat_arrays.proofs.Places.{place_below}
use Rattle.apfloat_arrays.specs.declared.scaled_blocks.errors.ArrayError.{ArrayError, TheVariants.EmptyBlock}
use Rattle.apfloat_arrays.specs.declared.scaled_blocks.errors.ArrayError.TheVariants.{Uneven, Lengths, TensorScale}
use Rattle.apfloat_arrays.specs.declared.scaled_blocks.formats.BlockFormat.{BlockFormat}
use Rattle.apfloat_arrays.specs.scaled_blocks.Formats.{has_scale}
use Rattle.apfloat_arrays.specs.scaled_blocks.Lengths.{blocks_in, blocks_of, if_scaled}

-- ---- values and blocks

-- one of so many values is within the bytes of all
pub value_within : (first index count width size : ℕ) → index < count → (first + count) * width ≤ size
    → (first + index) * width + width ≤ size
value_within first index count width size before within =
    let below = place_below (first + index) (first + count) width (omega (arith, before)) in
    omega (arith, below, within)

-- and its index is less than the number of bytes
pub index_within : (first index count width size : ℕ) → index < count → 1 ≤ width
    → (first + count) * width ≤ size → first + index < size
index_within first index count width size before some within =
    let value = value_within first index count width size before within in
    let at = le-mul_of_pos_right {m = width} (first + index) (omega (arith, some)) in
    omega (arith, value, at, some)

-- a block is within the bytes of all
pub block_within : (index blocks block width part size : ℕ) → index < blocks → part ≡ block
    → size ≡ blocks * block * width → (index * block + part) * width ≤ size
block_within index blocks block width part size before same all =
    let below = place_below index blocks block before in
    let wide : (index * block + part) * width ≤ blocks * block * width =
    mul-le-mul_right width (omega (arith, below, same)) in
    omega (arith, wide, all)

-- ---- the lengths that are accepted

pub record AreFitting (block width values scales codes count : ℕ) : Type 0 where
  pub some : 0 < block
  pub scales_are : scales ≡ count
  pub codes_are : codes ≡ count * block
  pub values_are : values ≡ codes * width

whole : (n m : ℕ) → n % m ≡ 0 → n ≡ n / m * m
whole n m e =
    let parts = mod-add-div n m in
    let turned = mul_comm m (n / m) in
    omega (arith, parts, e, turned)

some_of : (n : ℕ) → (n ≡ 0 → ⊥) → 0 < n
some_of zero off = absurd (off refl)
some_of (suc n) off = omega arith

abbrev count_of : Result ℕ ArrayError → ℕ
count_of (Ok n) = n
count_of (Err error) = 0

abbrev answer_by : Bool → Bool → Bool → Bool → ℕ → Result ℕ ArrayError
answer_by none even split same scales =
    if none then Err EmptyBlock
    else if even then
    (if split then (if same then Ok scales else Err Lengths) else Err Uneven)
    else Err Lengths

by_tests : (block width values scales codes count : ℕ) (none even split same : Bool) → (block == 0) ≡ none
    → (values % width == 0) ≡ even → (values / width % block == 0) ≡ split
    → ((codes == values / width) && (scales == values / width / block)) ≡ same
    → answer_by none even split same scales ≡ Ok count → AreFitting block width values scales codes count
by_tests block width values scales codes count true even split same e f g h said = cc
by_tests block width values scales codes count false false split same e f g h said = cc
by_tests block width values scales codes count false true false same e f g h said = cc
by_tests block width values scales codes count false true true false e f g h said = cc
by_tests block width values scales codes count false true true true e f g h said =
    let both = and_parts (codes == values / width) (scales == values / width / block) h in
    let as_many : codes ≡ values / width = eqb-true codes (values / width) both.0 in
    let blocks : scales ≡ values / width / block = eqb-true scales (values / width / block) both.1 in
    let known : scales ≡ count = ap count_of said in
    record {
      some = some_of block (eqb-false block 0 e);
      scales_are = known;
      codes_are = as_many ∙ whole (values / width) block (eqb-true (values / width % block) 0 g)
          ∙ ap (λ (n : ℕ). n * block) (sym blocks ∙ known);
      values_are = whole values width (eqb-true (values % width) 0 f) ∙ ap (λ (n : ℕ). n * width) (sym as_many);
    }

-- whatever the scale of the tensor
by_scale : (test : Bool) (known : Result ℕ ArrayError) (count : ℕ)
    → (if test then known else Err TensorScale) ≡ Ok count → known ≡ Ok count
by_scale true known count e = e
by_scale false known count e = cc

unscaled : (format : BlockFormat) (known : Result ℕ ArrayError) (count : ℕ) → if_scaled format known ≡ Ok count
    → known ≡ Ok count
unscaled format (Err error) count said = cc
unscaled format (Ok blocks) count said = by_scale (has_scale format) (Ok blocks) count said

pub fitting : (format : BlockFormat) (block width values scales codes count : ℕ)
    → blocks_in format block width values scales codes ≡ Ok count
    → AreFitting block width values scales codes count
fitting format block width values scales codes count said =
    by_tests block width values scales codes count (block == 0) (values % width == 0) (values / width % block == 0)
    ((codes == values / width) && (scales == values / width / block)) refl refl refl refl
    (unscaled format (blocks_of block width values scales codes) count said)
