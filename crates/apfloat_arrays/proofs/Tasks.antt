-- Arrays that are converted between two formats.
use Rattle.std.proofs.Common.{◌≡◌, ℕ, ◌-◌, ◌*◌, ◌^◌, ◌<◌, ◌≤◌, List, length, sym, ap, ◌∙◌, subst}
use Rattle.std.specs.Prelude.{slice_range}
use Rattle.rustc_apfloat.specs.Lawful.{Constants}
use Rattle.apfloat_arrays.specs.{Blocks.IsBlock, Outcomes.sum_of, Tasks.AreSingles}
use Rattle.apfloat_arrays.specs.declared.{counts.Counts.Counts, counts.Outcome.Outcome, widths.Widths.Widths}
use Rattle.apfloat_arrays.proofs.Joined.{block_rest, block_width, rest_size}
use borrow.Rule.Slice.PartMut.{put_mid}

pub same_widths : (a b : Widths) → a.source ≡ b.source → a.target ≡ b.target → a ≡ b
same_widths a b source target = λ i. record { source = source i; target = target i }

-- the same singles, where the number of bytes of a result has another name
pub singles_width : (c d : Constants) (width other count : ℕ) (input output : List ℕ) → width ≡ other
    → AreSingles c d width count input output → AreSingles c d other count input output
singles_width c d width other count input output same it =
    subst (λ (n : ℕ). AreSingles c d n count input output) same it

-- the singles after the first ones
pub singles_after : (c d : Constants) (width target done count : ℕ) (input output made : List ℕ)
    → target ≡ width → done ≤ count → length made ≡ length output
    → AreSingles c d width count input output
    → AreSingles c d width (count - done) (slice_range input (done * 4) (count * 4))
    (slice_range made (done * target) (count * target))
singles_after c d width target done count input output made same before kept it =
    let size : length made ≡ count * target = kept ∙ it.output ∙ ap (λ (n : ℕ). count * n) (sym same) in
    record {
      read = it.read;
      written = it.written;
      single = it.single;
      target = it.target;
      width = it.width;
      input = rest_size 4 done count input before it.input;
      output = rest_size target done count made before size ∙ ap (λ (n : ℕ). (count - done) * n) same;
    }

-- the first singles are converted, and then those after them
pub singles_joined : (Holds : List ℕ → List ℕ → Outcome → Type 0) (width target done count : ℕ)
    (input output new : List ℕ) (counts others : Counts) → target ≡ width → done ≤ count → count < 2 ^ 64
    → length output ≡ count * width → length new ≡ length (slice_range output (done * target) (count * target))
    → IsBlock Holds 4 width (count - done) (slice_range input (done * 4) (count * 4)) new others
    → IsBlock Holds 4 target done input output counts
    → IsBlock Holds 4 width count input (put_mid (done * target) (count * target - done * target) output new)
    (sum_of counts others)
singles_joined Holds width target done count input output new counts others same before few room kept rest first =
    let size : length output ≡ count * target = room ∙ ap (λ (n : ℕ). count * n) (sym same) in
    block_width Holds 4 target width count input _ _ same
    (block_rest Holds 4 target done count input output new counts others before few size
    (kept ∙ rest_size target done count output before size)
    (block_width Holds 4 width target (count - done) _ _ _ (sym same) rest) first)
