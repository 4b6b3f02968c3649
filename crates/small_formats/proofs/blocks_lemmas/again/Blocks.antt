-- A block that was dequantized exactly, quantized again.
use Rattle.std.proofs.Common.{◌≡◌, ℕ, ◌+◌, ◌*◌, ◌^◌, ◌<◌, ◌≤◌, true, sym, ap, ◌∙◌}
use Rattle.std.proofs.Common.{subst, ⊎_elim, arith, List, length, get_or, Some}
use Rattle.std.proofs.{Math.Nat.mul-le-mul_right, lemmas.Bool.MatchBool-at_true}
use Rattle.std.proofs.lemmas.{Nat.pow-add, Nat.pow_pos, Option.slice_get-get_or, Option.slice_get_within}
use Rattle.std.specs.Prelude.{All, slice_get}
use Rattle.apfloat_model.specs.declared.kinds.Round.{Round}
use Rattle.apfloat_model.specs.formats.{Datum.Datum, Format.Format, Format.largest}
use Rattle.apfloat_model.specs.{order.Classes.is_finite, order.Classes.quanta_of, rounding.Grid.IsOnGrid}
use Rattle.apfloat_model.proofs.rounding.Laws.{zero_on_grid}
use Rattle.small_formats.specs.Scales.{nan_code}
use Rattle.small_formats.specs.blocks.Again.{IsKept, IsQuantizedAgain, greatest_element}
use Rattle.small_formats.specs.blocks.Elements.{IsQuotientBy, element_datum, format_of_element, max_exp, width}
use Rattle.small_formats.specs.blocks.{Laws.IsExactlyScaled, Magnitudes.are_finite, Magnitudes.greatest_magnitude}
use Rattle.small_formats.specs.blocks.MxBlocks.{IsBlockOfNan, IsBlockOfNumbers}
use Rattle.small_formats.specs.{blocks.Places.AreElementsInPlaces, declared.blocks.elements.ElementFormat.ElementFormat}
use Rattle.small_formats.specs.declared.blocks.mx_scales.ScaleRule.TheVariants.{Floor}
use Rattle.small_formats.proofs.blocks_lemmas.ElementNumbers.{IsElementNumber, element_number}
use Rattle.small_formats.proofs.blocks_lemmas.ElementsOnce.{code_of_element_once}
use Rattle.small_formats.proofs.blocks_lemmas.again.Elements.{kept_element, same_element}
use Rattle.small_formats.proofs.blocks_lemmas.again.Lists.{all_at, at_most_element, finite_places, greatest_has}
use Rattle.small_formats.proofs.blocks_lemmas.again.Lists.{same_lists, scaled_greatest, some_at, there}
use Rattle.small_formats.proofs.blocks_lemmas.again.Lowered.{below_end, lowered, moved_within}

-- a value and its element are finite
exact_finite : (element : ElementFormat) (g : Format) (scale code : ℕ) (value : Datum) (flag : ℕ)
    → IsExactlyScaled element g scale code value flag
    → (is_finite value ≡ true) × (is_finite (element_datum element code) ≡ true)
exact_finite element g scale code value flag e = (ap is_finite e.value_is, ap is_finite e.element_is)

-- the value in quanta of g
exact_quanta : (element : ElementFormat) (g : Format) (scale code : ℕ) (value : Datum) (flag : ℕ)
    → IsExactlyScaled element g scale code value flag → quanta_of value * 2 ^ ((format_of_element element).scale + 127)
    ≡ quanta_of (element_datum element code) * 2 ^ (scale + g.scale)
exact_quanta element g scale code value flag e =
    let into : ℕ = (format_of_element element).scale + 127 in
    let split : 2 ^ (scale + g.scale) ≡ 2 ^ scale * 2 ^ g.scale = pow-add 2 scale g.scale in
    let whole : e.number * 2 ^ scale * 2 ^ g.scale ≡ e.number * (2 ^ scale * 2 ^ g.scale) = omega arith in
    ap (λ (x : Datum). quanta_of x * 2 ^ into) e.value_is ∙ e.same ∙ whole ∙ ap (λ (k : ℕ). e.number * k) (sym split)
    ∙ ap (λ (x : Datum). quanta_of x * 2 ^ (scale + g.scale)) (sym e.element_is)

-- what the proof of a block has of it
record IsKnownBlock (element : ElementFormat) (g : Format) (scale : ℕ) (codes : List ℕ) (values : List Datum)
    : Type 0 where
  finite_is : are_finite values ≡ true
  greatest : greatest_magnitude values * 2 ^ ((format_of_element element).scale + 127)
      ≡ greatest_element element codes * 2 ^ (scale + g.scale)
  numbers : All (λ code. IsElementNumber element (quanta_of (element_datum element code))) codes
  number : IsElementNumber element (greatest_element element codes)

known_block : (element : ElementFormat) (g : Format) (scale : ℕ) (codes : List ℕ) (values : List Datum)
    (flags : List ℕ) → All (λ code. code < 2 ^ width element) codes
    → AreElementsInPlaces (λ code value status. IsExactlyScaled element g scale code value status) codes values flags
    → IsKnownBlock element g scale codes values
known_block element g scale codes values flags narrow all =
    let Holds : ℕ → Datum → ℕ → Type 0 = λ code value status. IsExactlyScaled element g scale code value status in
    let size = all.same_size in
    let count = all.flags_size in
    let numbers : (k d : ℕ) → k < length codes
    → IsElementNumber element (quanta_of (element_datum element (get_or codes k d))) = λ k d l.
    let t = there Holds codes values flags k (get_or codes k d) all (slice_get-get_or codes k d l) in
    element_number element (get_or codes k d) (narrow k d l)
    (exact_finite element g scale (get_or codes k d) t.value t.status t.holds).1 in
    record {
      finite_is = finite_places codes values flags (record {
        same_size = size;
        flags_size = count;
        each = λ place code value status a b c.
            (exact_finite element g scale code value status (all.each place code value status a b c)).0;
      });
      greatest = scaled_greatest element (2 ^ ((format_of_element element).scale + 127)) (2 ^ (scale + g.scale)) codes
          values flags (pow_pos (scale + g.scale)) (record {
            same_size = size;
            flags_size = count;
            each = λ place code value status a b c.
                exact_quanta element g scale code value status (all.each place code value status a b c);
          });
      numbers = numbers;
      number = greatest_has element (IsElementNumber element) codes
          (record { on_grid = zero_on_grid (format_of_element element).precision; within = omega arith }) numbers;
    }

-- an element of the block, quantized by the scale that is so many binades lower
again_element : (element : ElementFormat) (g : Format) (mode : Round) (scale other more : ℕ) (codes : List ℕ)
    (values : List Datum) (flags : List ℕ) (place code again status : ℕ) (value : Datum) (flag : ℕ)
    → other + more ≡ scale → IsKnownBlock element g scale codes values
    → greatest_element element codes * 2 ^ more ≤ largest (format_of_element element)
    → slice_get codes place ≡ Some code → IsExactlyScaled element g scale code value flag
    → IsQuotientBy element g mode (2 ^ other) (2 ^ 127) value again status
    → IsKept element scale other code again status
again_element element g mode scale other more codes values flags place code again status value flag sum block room at
    exact q =
    let f = format_of_element element in
    let same : quanta_of (element_datum element code) ≡ exact.number = ap quanta_of exact.element_is in
    let member = all_at (λ c. IsElementNumber element (quanta_of (element_datum element c))) codes place code
    block.numbers at in
    let moved = mul-le-mul_right (2 ^ more) (at_most_element element codes place code at) in
    kept_element element g mode scale other more code again value flag status sum exact q
    (subst (λ (n : ℕ). IsOnGrid f.precision n) same member.on_grid)
    (subst (λ (n : ℕ). n * 2 ^ more ≤ largest f) same (omega (arith, moved, room)))

pub quantized_again : IsQuantizedAgain
quantized_again element g mode scale codes before again values counts block below narrow exact has q =
    let f = format_of_element element in
    let Exact : ℕ → Datum → ℕ → Type 0 = λ code value status. IsExactlyScaled element g scale code value status in
    let all = exact.in_places in
    let b = known_block element g scale codes values exact.flags narrow all in
    let numbers : IsBlockOfNumbers Floor element g mode values again block =
    MatchBool-at_true (IsBlockOfNumbers Floor element g mode values again block)
    (IsBlockOfNan nan_code values again block) b.finite_is q.2 in
    let greatest : ℕ = greatest_element element codes in
    let within = below_end element greatest b.number.within in
    let least : scale ≤ 254 = omega (arith, below) in
    let low = lowered element g scale greatest (greatest_magnitude values) block.scale least within b.greatest
    numbers.scale_is in
    let more = low.more in
    let sum = low.sum in
    let room = moved_within element scale greatest more b.number.on_grid low.below (omega (arith, sum)) has in
    let written = numbers.elements.in_places in
    let size = all.same_size in
    let written_size = written.same_size in
    let count = written.flags_size in
    let kept : (place code other status : ℕ) → slice_get codes place ≡ Some code → slice_get again place ≡ Some other
    → slice_get numbers.elements.flags place ≡ Some status → IsKept element scale block.scale code other status
    × (other < 2 ^ width element) = λ place code other status at at_other at_status.
    let t = there Exact codes values exact.flags place code all at in
    let quotient = written.each place t.value other status t.at at_other at_status in (
      again_element element g mode scale block.scale more codes values exact.flags place code other status t.value
          t.status sum b room at t.holds quotient,
      quotient.0,
    ) in
    record {
      finite_is = numbers.finite_is;
      kept = record {
        flags = numbers.elements.flags;
        in_places = record {
          same_size = omega (arith, size, written_size);
          flags_size = omega (arith, size, count);
          each = λ place code other status at at_other at_status.
              (kept place code other status at at_other at_status).0;
        };
        counted = numbers.elements.counted;
      };
      same = λ either.
          let none : more ≡ 0 = ⊎_elim (λ (l : 2 ^ (f.scale + max_exp element) ≤ greatest). low.top l)
          (λ (e : scale ≡ 0). omega (arith, e, sum)) either in
          let scale_is : block.scale ≡ scale = omega (arith, sum, none) in (
            scale_is,
            same_lists again codes (omega (arith, size, written_size)) (λ place other code at_other at.
                let l = slice_get_within again place other at_other in
                let s = some_at numbers.elements.flags place (omega (arith, l, written_size, count)) in
                let k = kept place code other s.0 at at_other s.1 in
                code_of_element_once element other code k.1
                (all_at (λ c. c < 2 ^ width element) codes place code narrow at)
                (same_element element scale block.scale code other s.0 scale_is k.0)),
          );
    }
