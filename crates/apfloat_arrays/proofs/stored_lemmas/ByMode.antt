-- One more value that is stored by a mode of conversions.
use Rattle.std.proofs.Common.{◌≡◌, ℕ, ◌+◌, ◌-◌, ◌*◌, ◌<◌, ◌≤◌, List, [], ◌∷◌, ◌++◌, length, sym, subst, ap, ◌∙◌, lit≤}
use Rattle.apfloat_arrays.specs.{declared.stored.by_mode.ModeConversion.ModeConversion, Blocks.value_at}
use Rattle.apfloat_arrays.specs.{Bytes.number_of, Outcomes.with_outcome, stored.ByMode.AreStoredWith}
use Rattle.apfloat_arrays.specs.declared.counts.{Counts.Counts, Outcome.Outcome}
use Rattle.apfloat_arrays.specs.declared.stored.formats.StoredFormat.{StoredFormat, TheVariants.E2M1FN}
use Rattle.apfloat_arrays.specs.declared.stored.formats.StoredFormat.TheVariants.{E2M3FN, E3M2FN, E3M4, E8M0FNU, UE4M3}
use Rattle.apfloat_arrays.specs.declared.stored.by_mode.EachRound.{EachRound}
use Rattle.apfloat_arrays.specs.declared.stored.by_mode.EachRound.TheVariants.{Ieee, ToOdd, Stochastic}
use Rattle.apfloat_arrays.specs.stored.ByMode.{HasRandomAt, HasRandoms, IsStoredAt, IsStoredWith, mode_width, random_of}
use Rattle.apfloat_arrays.specs.stored.Formats.{bits_in}
use Rattle.apfloat_arrays.proofs.Places.{counts_push, place_below, places_more}
use borrow.Rule.Slice.PartMut.{put_mid}

-- a code takes a byte
pub narrow : (format : StoredFormat) → bits_in format ≤ 8 * 1
narrow E2M1FN = lit≤ tt
narrow E2M3FN = lit≤ tt
narrow E3M2FN = lit≤ tt
narrow E3M4 = lit≤ tt
narrow E8M0FNU = lit≤ tt
narrow UE4M3 = lit≤ tt

-- the bytes of a random number are there
pub random_within : (round : EachRound) (index count size : ℕ) → index < count → HasRandoms round count size
    → HasRandomAt round index size
random_within (Ieee mode) index count size before long = tt
random_within ToOdd index count size before long = tt
random_within (Stochastic digits) index count size before long =
    subst (λ (n : ℕ). index * 4 + 4 ≤ n) (sym long) (place_below index count 4 before)

pub stored_more : (it : ModeConversion) (randoms input : List ℕ) (width index count random : ℕ)
    (bytes new : List ℕ) (counts : Counts) (outcome : Outcome) → width ≡ mode_width it → index < count
    → length bytes ≡ count * 1 → length new ≡ 1 → random ≡ random_of it.round randoms index
    → IsStoredWith it random (number_of (value_at width index input)) (number_of new) outcome
    → AreStoredWith it randoms input index bytes counts
    → AreStoredWith it randoms input (index + 1) (put_mid (index * 1) (index * 1 + 1 - index * 1) bytes new)
    (with_outcome counts outcome)
stored_more it randoms input width index count random bytes new counts outcome width_is before size long random_is
    made so_far =
    let with_random : IsStoredWith it (random_of it.round randoms index) (number_of (value_at width index input))
    (number_of new) outcome =
    subst (λ (n : ℕ). IsStoredWith it n (number_of (value_at width index input)) (number_of new) outcome) random_is
    made in
    let here : IsStoredAt it randoms input index new outcome =
    subst (λ (w : ℕ). IsStoredWith it (random_of it.round randoms index) (number_of (value_at w index input))
    (number_of new) outcome) width_is with_random in
    record {
      outcomes = so_far.outcomes ++ outcome ∷ [];
      places = places_more (IsStoredAt it randoms input) 1 index count bytes new so_far.outcomes outcome before size
          long here so_far.places;
      counted = ap (λ (c : Counts). with_outcome c outcome) so_far.counted ∙ counts_push so_far.outcomes outcome;
    }
