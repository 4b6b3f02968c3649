-- The formats that have room for the elements of a block.
use Rattle.std.proofs.Common.{lit≤, ◌≡◌, ℕ, ◌+◌, ◌-◌, ◌*◌, ◌^◌, ◌<◌, ◌≤◌, refl, arith}
use Rattle.apfloat_model.specs.declared.kinds.NonfiniteBehavior.TheVariants.{IEEE754}
use Rattle.apfloat_model.specs.formats.Format.{Format, largest}
use Rattle.small_formats.specs.declared.blocks.elements.ElementFormat.{ElementFormat}
use Rattle.small_formats.specs.declared.blocks.elements.ElementFormat.TheVariants.{E5M2, E4M3FN, E3M2FN, E2M3FN, E2M1FN}
use Rattle.small_formats.specs.blocks.Elements.{format_of_element, max_exp}
use Rattle.small_formats.proofs.blocks_lemmas.ExactProducts.{HasProducts}

-- what the element formats have in common
pub record IsShortElement (element : ElementFormat) : Type 0 where
  pub full : 0 < (format_of_element element).precision
  pub digits : (format_of_element element).precision ≤ 4
  pub quantum : (format_of_element element).scale ≤ 16
  pub exponents : max_exp element ≤ 15
  pub exponents_low : 2 ≤ max_exp element
  -- the largest number is below 2 ^ (max_exp + 1)
  pub ends : (format_of_element element).precision + (format_of_element element).span
      ≡ (format_of_element element).scale + max_exp element + 1
  -- it has all digits set, or all but the last one
  pub most : largest (format_of_element element)
      ≤ (2 ^ (format_of_element element).precision - 1) * 2 ^ (format_of_element element).span

short_from : (element : ElementFormat) → 0 < (format_of_element element).precision
    → (format_of_element element).precision ≤ 4 → (format_of_element element).scale ≤ 16 → max_exp element ≤ 15
    → 2 ≤ max_exp element → (format_of_element element).precision + (format_of_element element).span
    ≡ (format_of_element element).scale + max_exp element + 1 → largest (format_of_element element)
    ≤ (2 ^ (format_of_element element).precision - 1) * 2 ^ (format_of_element element).span → IsShortElement element
short_from element z a b c d e f =
    record { full = z; digits = a; quantum = b; exponents = c; exponents_low = d; ends = e; most = f }

pub short : (element : ElementFormat) → IsShortElement element
short E5M2 = short_from E5M2 (lit≤ tt) (lit≤ tt) (lit≤ tt) (lit≤ tt) (lit≤ tt) refl (lit≤ tt)
short E4M3FN = short_from E4M3FN (lit≤ tt) (lit≤ tt) (lit≤ tt) (lit≤ tt) (lit≤ tt) refl (lit≤ tt)
short E3M2FN = short_from E3M2FN (lit≤ tt) (lit≤ tt) (lit≤ tt) (lit≤ tt) (lit≤ tt) refl (lit≤ tt)
short E2M3FN = short_from E2M3FN (lit≤ tt) (lit≤ tt) (lit≤ tt) (lit≤ tt) (lit≤ tt) refl (lit≤ tt)
short E2M1FN = short_from E2M1FN (lit≤ tt) (lit≤ tt) (lit≤ tt) (lit≤ tt) (lit≤ tt) refl (lit≤ tt)

-- the greatest element is below the end of the format, and the quantum is not below that of the format
pub room_in : (element : ElementFormat) (g : Format) (scale : ℕ) → g.nonfinite ≡ IEEE754 → 4 ≤ g.precision
    → (format_of_element element).scale + 127 ≤ scale + g.scale
    → max_exp element + 1 + scale + g.scale ≤ g.precision + g.span + 127
    → HasProducts g (format_of_element element).precision (format_of_element element).span
    ((format_of_element element).scale + 127) scale
room_in element g scale kind digits quantum top =
    let s = short element in
    record {
      kind = kind;
      digits = omega (arith, s.digits, digits);
      quantum = quantum;
      room = omega (arith, s.ends, top);
    }
