-- Blocks that are converted one after another.
use Rattle.std.proofs.Common.{◌≡◌, ℕ, ◌+◌, ◌-◌, ◌*◌, ◌/◌, ◌<◌, refl, sym, ap, ◌∙◌}
use Rattle.std.proofs.Common.{subst, List, [], ◌∷◌, ◌++◌, length, take}
use Rattle.apfloat_arrays.specs.declared.{Counts.Counts, Widths.Widths}
use Rattle.apfloat_arrays.specs.{Blocks.value_at, Outcomes.sum_of, scaled_blocks.Quantized.no_counts}
use Rattle.apfloat_arrays.proofs.Places.{places_more}
use Rattle.convert_values.specs.declared.blocks.BlockConversion.{BlockConversion}
use Rattle.convert_values.specs.Blocks.{AreBlocksConverted, IsConverted, block_widths, total_of}
use borrow.Rule.Slice.PartMut.{put_mid}

total_push : (before : Counts) (parts : List Counts) (part : Counts)
    → total_of before (parts ++ part ∷ []) ≡ sum_of (total_of before parts) part
total_push before [] part = refl
total_push before (first ∷ parts) part = total_push (sum_of before first) parts part

abbrev IsOneOf : BlockConversion → List ℕ → ℕ → List ℕ → Counts → Type 0
IsOneOf q read index bytes part = IsConverted q (value_at (block_widths q).source index read) bytes part

-- one more block
pub converted_more : (q : BlockConversion) (index count : ℕ) (read written new : List ℕ) (counts part : Counts)
    → index < count → length written ≡ count * (block_widths q).target → length new ≡ (block_widths q).target
    → IsConverted q (value_at (block_widths q).source index read) new part
    → AreBlocksConverted q index read written counts
    → AreBlocksConverted q (index + 1) read
    (put_mid (index * (block_widths q).target)
    (index * (block_widths q).target + (block_widths q).target - index * (block_widths q).target) written new)
    (sum_of counts part)
converted_more q index count read written new counts part before all size here so_far = record {
  parts = so_far.parts ++ part ∷ [];
  places = places_more (IsOneOf q read) (block_widths q).target index count written new so_far.parts part before all
      size here so_far.places;
  counted = ap (λ (k : Counts). sum_of k part) so_far.counted ∙ sym (total_push no_counts so_far.parts part);
}

-- the same, and the widths have a name
pub converted_next : (q : BlockConversion) (w : Widths) (index count : ℕ) (read written new : List ℕ)
    (counts part : Counts) → w ≡ block_widths q → index < count → length written ≡ count * w.target
    → length new ≡ w.target → IsConverted q (value_at w.source index read) new part
    → AreBlocksConverted q index read written counts
    → AreBlocksConverted q (index + 1) read
    (put_mid (index * w.target) (index * w.target + w.target - index * w.target) written new) (sum_of counts part)
converted_next q w index count read written new counts part e before all size here so_far =
    subst
    (λ (v : Widths). length written ≡ count * v.target → length new ≡ v.target
    → IsConverted q (value_at v.source index read) new part
    → AreBlocksConverted q (index + 1) read
    (put_mid (index * v.target) (index * v.target + v.target - index * v.target) written new) (sum_of counts part))
    (sym e)
    (λ all size here. converted_more q index count read written new counts part before all size here so_far)
    all size here

-- all blocks, with the widths by their name
pub converted_all : (q : BlockConversion) (w : Widths) (read bytes : List ℕ) (counts : Counts)
    → w ≡ block_widths q
    → AreBlocksConverted q (length read / w.source) (take (length read / w.source * w.source) read) bytes counts
    → AreBlocksConverted q (length read / (block_widths q).source)
    (take (length read / (block_widths q).source * (block_widths q).source) read) bytes counts
converted_all q w read bytes counts e here =
    subst (λ (v : Widths). AreBlocksConverted q (length read / v.source) (take (length read / v.source * v.source) read)
    bytes counts) e here
