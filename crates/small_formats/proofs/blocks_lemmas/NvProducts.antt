-- Elements of NVFP4 times both scales.
use Rattle.std.proofs.Common.{lit≤, ◌≡◌, ℕ, ◌+◌, ◌-◌, ◌*◌, ◌^◌, ◌<◌, Bool, false, refl, ap, ◌∙◌, subst, arith}
use Rattle.std.proofs.lemmas.Nat.{pow-add, pow_pos}
use Rattle.apfloat_model.specs.{declared.kinds.Round.Round, formats.Datum.Datum, formats.Datum.finite}
use Rattle.apfloat_model.specs.{formats.Format.Format, formats.Members.IsFiniteOf, rounding.Rounding.IsDelivered}
use Rattle.apfloat_arithmetic.specs.other_formats.Extended.{number, seen}
use Rattle.apfloat_arithmetic.specs.other_formats.FormatOf.{IsProductOf, IsProductTo}
use Rattle.small_formats.specs.Codes.{is_negative_code, magnitude_of, point}
use Rattle.small_formats.specs.declared.blocks.elements.ElementFormat.TheVariants.{E2M1FN, E4M3FN}
use Rattle.small_formats.specs.blocks.Elements.{e2m1fn, element_datum, format_of_element}
use Rattle.small_formats.specs.blocks.Nvfp4.{scale_in, scale_quanta, single_format}
use Rattle.small_formats.proofs.blocks_lemmas.{ExactProducts.HasProducts, JointScales.double_format}
use Rattle.small_formats.proofs.blocks_lemmas.{JointScales.joint_exact, NvScales.number_of_code}
use Rattle.small_formats.proofs.blocks_lemmas.{Quotients.sign_over_positive, SameFractions.delivered_across}
use Rattle.small_formats.proofs.blocks_lemmas.ElementNumbers.{e2m1fn_law, stored_number}

-- the quanta of a code of 4 bits
abbrev pub quanta_in : ℕ → ℕ
quanta_in code = point 2 (magnitude_of e2m1fn code)

element_room : HasProducts double_format 26 255 150 0
element_room = record { kind = refl; digits = lit≤ tt; quantum = lit≤ tt; room = lit≤ tt }

-- an element times the tensor's scale, in double
pub element_by : (mode : Round) (code tensor : ℕ) (value : Datum) (status : ℕ) → IsFiniteOf single_format false tensor
    → IsProductOf double_format mode (seen (format_of_element E2M1FN) double_format (element_datum E2M1FN code))
    (number false tensor 149) value status
    → value ≡ finite (is_negative_code e2m1fn code) (quanta_in code * tensor * 2 ^ (1074 - 150))
element_by mode code tensor value status single h =
    let element = stored_number e2m1fn code e2m1fn_law in
    (joint_exact 2 2 1 mode (is_negative_code e2m1fn code) (quanta_in code) tensor value status element_room
    element.on_grid element.within single
    (subst (λ (b : Bool). IsDelivered double_format mode b (quanta_in code * tensor * 2 ^ 1074) (2 ^ 150) value status)
    (sign_over_positive (is_negative_code e2m1fn code)) h)).value_is

-- two fractions that are equal
joint_fraction : (n q t g k s u : ℕ) → u ≡ k + s → n * (q * t) * 2 ^ g * 2 ^ u ≡ n * t * 2 ^ k * q * 2 ^ g * 2 ^ s
joint_fraction n q t g k s u e =
    let power : 2 ^ u ≡ 2 ^ k * 2 ^ s = ap (λ (x : ℕ). 2 ^ x) e ∙ pow-add 2 k s in
    ap (λ (x : ℕ). n * (q * t) * 2 ^ g * x) power ∙ omega arith

-- that times the scale of the block, rounded once
pub scaled_by : (g : Format) (mode : Round) (code scale tensor : ℕ) (element by value : Datum) (status : ℕ)
    → 0 < g.precision
    → scale < 127 → element ≡ finite (is_negative_code e2m1fn code) (quanta_in code * tensor * 2 ^ (1074 - 150))
    → by ≡ element_datum E4M3FN scale → IsProductTo double_format scale_in g mode element by value status
    → IsDelivered g mode (is_negative_code e2m1fn code) (quanta_in code * (scale_quanta scale * tensor) * 2 ^ g.scale)
    (2 ^ 159) value status
scaled_by g mode code scale tensor element by value status precise l e f h =
    let b : Bool = is_negative_code e2m1fn code in
    let n : ℕ = quanta_in code in
    let q : ℕ = scale_quanta scale in
    let h' = subst (λ (d : Datum). IsProductTo double_format scale_in g mode
    (finite b (n * tensor * 2 ^ (1074 - 150))) d value status) (f ∙ number_of_code scale l)
    (subst (λ (d : Datum). IsProductTo double_format scale_in g mode d by value status) e h) in
    delivered_across g mode b (n * (q * tensor) * 2 ^ g.scale) (2 ^ 159)
    (n * tensor * 2 ^ (1074 - 150) * q * 2 ^ g.scale) (2 ^ 1083) value status precise (pow_pos 159) (pow_pos 1083)
    (joint_fraction n q tensor g.scale (1074 - 150) 159 1083 refl)
    (subst (λ (s : Bool). IsDelivered g mode s (n * tensor * 2 ^ (1074 - 150) * q * 2 ^ g.scale) (2 ^ 1083) value
    status) (sign_over_positive b) h')
