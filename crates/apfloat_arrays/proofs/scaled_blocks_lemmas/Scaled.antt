-- Elements that are multiplied one after another.
use Rattle.std.proofs.Common.{◌≡◌, ℕ, ◌+◌, ◌-◌, ◌*◌, ◌<◌, refl, ap, ◌∙◌, List, [], ◌∷◌, ◌++◌, length}
use Rattle.rustc_apfloat.specs.Lawful.{Constants}
use Rattle.apfloat_arrays.specs.{declared.scaled_blocks.dequantizing.Dequantization.Dequantization, Blocks.AreInPlaces}
use Rattle.apfloat_arrays.specs.declared.counts.{Counts.Counts, Outcome.Outcome}
use Rattle.apfloat_arrays.specs.Outcomes.{counts_of, with_outcome}
use Rattle.apfloat_arrays.specs.scaled_blocks.Dequantized.{IsScaledAt}
use Rattle.apfloat_arrays.proofs.Places.{counts_push, places_more, places_none}
use Rattle.formats_at_run_time.specs.{BuiltIns.constants_in, declared.flagged.FlaggedFormat.FlaggedFormat}
use Rattle.formats_at_run_time.specs.FlaggedKinds.{flagged_constants, format_without_rule}
use Rattle.formats_at_run_time.specs.declared.flagged.FlaggedFormat.TheVariants.{BuiltIn, AfterRounding, BeforeRounding}
use borrow.Rule.Slice.PartMut.{put_mid}

pub record AreScaled (q : Dequantization) (d : Constants) (width : ℕ) (scales codes : List ℕ) (count : ℕ)
    (values : List ℕ) (counts : Counts) : Type 0 where
  pub outcomes : List Outcome
  pub places : AreInPlaces (IsScaledAt q d scales codes) width count values outcomes
  pub counted : counts ≡ counts_of outcomes

pub scaled_none : (q : Dequantization) (d : Constants) (width : ℕ) (scales codes values : List ℕ)
    → AreScaled q d width scales codes 0 values (counts_of [])
scaled_none q d width scales codes values = record {
  outcomes = [];
  places = places_none (IsScaledAt q d scales codes) width values;
  counted = refl;
}

-- one more value
pub scaled_more : (q : Dequantization) (d : Constants) (width : ℕ) (scales codes : List ℕ) (index count : ℕ)
    (values new : List ℕ) (counts : Counts) (outcome : Outcome) → index < count → length values ≡ count * width
    → length new ≡ width → IsScaledAt q d scales codes index new outcome
    → AreScaled q d width scales codes index values counts → AreScaled q d width scales codes (index + 1)
    (put_mid (index * width) (index * width + width - index * width) values new) (with_outcome counts outcome)
scaled_more q d width scales codes index count values new counts outcome before all size here so_far = record {
  outcomes = so_far.outcomes ++ outcome ∷ [];
  places = places_more (IsScaledAt q d scales codes) width index count values new so_far.outcomes outcome before all
      size here so_far.places;
  counted = ap (λ (k : Counts). with_outcome k outcome) so_far.counted ∙ counts_push so_far.outcomes outcome;
}

-- a rule of flags changes no width
pub same_bits : (target : FlaggedFormat)
    → (constants_in (format_without_rule target)).bits ≡ (flagged_constants target).bits
same_bits (BuiltIn format) = refl
same_bits (AfterRounding format) = refl
same_bits (BeforeRounding format) = refl
