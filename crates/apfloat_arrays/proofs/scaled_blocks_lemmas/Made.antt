-- Blocks that are made one after another.
use Rattle.std.proofs.Common.{◌≡◌, ℕ, ◌+◌, ◌-◌, ◌*◌, ◌<◌, refl, sym, ap, ◌∙◌, arith, List, [], ◌∷◌, ◌++◌, length, take}
use Rattle.std.proofs.lemmas.List.{map-append, take_more_set}
use Rattle.std.specs.Prelude.{map, slice_set}
use Rattle.apfloat_arrays.specs.{Blocks.AreInPlaces, Outcomes.sum_of}
use Rattle.apfloat_arrays.specs.declared.{counts.Counts.Counts, scaled_blocks.quantizing.Quantization.Quantization}
use Rattle.apfloat_arrays.specs.scaled_blocks.Quantized.{IsBlockOf, counts_with, no_counts, total_of}
use Rattle.apfloat_arrays.proofs.Places.{places_more, places_none}
use Rattle.small_formats.specs.declared.blocks.mx.Block.{Block}
use borrow.Rule.Slice.PartMut.{put_mid}

pub record AreMade (q : Quantization) (values : List ℕ) (count : ℕ) (scales codes : List ℕ) (counts : Counts)
    : Type 0 where
  pub blocks : List Block
  pub places : AreInPlaces (IsBlockOf q values) q.length count codes blocks
  pub scales_are : take count scales ≡ map (λ (block : Block). block.scale) blocks
  pub counted : counts ≡ total_of q.length no_counts blocks

none_taken : (scales : List ℕ) → take 0 scales ≡ []
none_taken [] = refl
none_taken (s ∷ scales) = refl

pub made_none : (q : Quantization) (values scales codes : List ℕ) → AreMade q values 0 scales codes no_counts
made_none q values scales codes = record {
  blocks = [];
  places = places_none (IsBlockOf q values) q.length codes;
  scales_are = none_taken scales;
  counted = refl;
}

total_push : (length : ℕ) (before : Counts) (blocks : List Block) (block : Block)
    → total_of length before (blocks ++ block ∷ [])
    ≡ sum_of (total_of length before blocks) (counts_with length block)
total_push length before [] block = refl
total_push length before (first ∷ blocks) block =
    total_push length (sum_of before (counts_with length first)) blocks block

-- one more block
pub made_more : (q : Quantization) (values : List ℕ) (index count : ℕ) (scales codes new : List ℕ)
    (counts : Counts) (block : Block) → index < count → length scales ≡ count
    → length codes ≡ count * q.length → length new ≡ q.length → IsBlockOf q values index new block
    → AreMade q values index scales codes counts → AreMade q values (index + 1) (slice_set scales index block.scale)
    (put_mid (index * q.length) (index * q.length + q.length - index * q.length) codes new)
    (sum_of counts (counts_with q.length block))
made_more q values index count scales codes new counts block before many all size here so_far = record {
  blocks = so_far.blocks ++ block ∷ [];
  places = places_more (IsBlockOf q values) q.length index count codes new so_far.blocks block before all size here
      so_far.places;
  scales_are = take_more_set scales index block.scale (omega (arith, before, many))
      ∙ ap (λ (xs : List ℕ). xs ++ block.scale ∷ []) so_far.scales_are
      ∙ sym (map-append (λ (b : Block). b.scale) so_far.blocks (block ∷ []));
  counted = ap (λ (k : Counts). sum_of k (counts_with q.length block)) so_far.counted
      ∙ sym (total_push q.length no_counts so_far.blocks block);
}
