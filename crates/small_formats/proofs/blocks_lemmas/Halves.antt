-- Numbers of a storage format in half.
use Rattle.std.proofs.{Math.Nat.mul-le-mul_right, lemmas.Nat.pow-add, lemmas.Nat.mod_below, lemmas.Nat.pow_pos}
use Rattle.std.proofs.Common.{◌≡◌, ℕ, ◌+◌, ◌-◌, ◌*◌, ◌^◌, ◌<◌, ◌≤◌, refl, sym, ap, ◌∙◌, arith}
use Rattle.apfloat_model.specs.formats.Formats.{half_constants}
use Rattle.apfloat_model.specs.formats.Lawful.{format_with as library_format}
use Rattle.apfloat_model.specs.formats.Members.{IsFiniteOf}
use Rattle.round_to_odd.proofs.OddPoints.{moved_on_grid, wider_grid}
use Rattle.small_formats.specs.Codes.{is_negative_code, largest_index, magnitude_of, point}
use Rattle.small_formats.specs.Storage.{StorageConstants, IsLawfulStorage, format_with}
use Rattle.small_formats.proofs.{Points.point_on_grid, StoredPicks.largest_point, StoredPicks.not_greater}
use Rattle.small_formats.proofs.blocks_lemmas.Tops.{top_below}

pub moved_quanta : (m scale : ℕ) → scale ≤ 24 → m * 2 ^ (24 - scale) * 2 ^ scale ≡ m * 2 ^ 24
moved_quanta m scale l =
    let e : 24 ≡ 24 - scale + scale = omega (arith, l) in
    let p : 2 ^ 24 ≡ 2 ^ (24 - scale) * 2 ^ scale = ap (λ (n : ℕ). 2 ^ n) e ∙ pow-add 2 (24 - scale) scale in
    (let z : m * 2 ^ (24 - scale) * 2 ^ scale ≡ m * (2 ^ (24 - scale) * 2 ^ scale) = omega arith in z)
    ∙ sym (ap (λ (n : ℕ). m * n) p)

pub half_member : (c : StorageConstants) (code : ℕ) → IsLawfulStorage c → c.precision ≤ 11 → (format_with c).scale ≤ 24
    → (format_with c).span + c.precision + 24 ≤ (format_with c).scale + 40
    → IsFiniteOf (library_format half_constants) (is_negative_code c code)
    (point c.precision (magnitude_of c code) * 2 ^ (24 - (format_with c).scale))
half_member c code law precise quantum room =
    let f = format_with c in
    let some : 0 < c.precision = omega (arith, law.precision_low) in
    let m : ℕ = point c.precision (magnitude_of c code) in
    let k : ℕ = 24 - f.scale in
    let below = mod_below code (2 ^ (c.bits - 1)) (pow_pos (c.bits - 1)) in
    let most = not_greater c.precision (magnitude_of c code) (largest_index c) some (omega (arith, below)) in
    let moved : m * 2 ^ k ≤ (2 ^ c.precision - 1) * 2 ^ f.span * 2 ^ k =
    mul-le-mul_right (2 ^ k) (omega (arith, most, largest_point c law)) in
    let together : (2 ^ c.precision - 1) * 2 ^ f.span * 2 ^ k ≡ (2 ^ c.precision - 1) * 2 ^ (f.span + k) =
    (let z : (2 ^ c.precision - 1) * 2 ^ f.span * 2 ^ k ≡ (2 ^ c.precision - 1) * (2 ^ f.span * 2 ^ k) =
    omega arith in z) ∙ ap (λ (n : ℕ). (2 ^ c.precision - 1) * n) (sym (pow-add 2 f.span k)) in
    let top = top_below c.precision (f.span + k) 11 29 precise (omega (arith, room, quantum)) in
    record {
      on_grid = wider_grid c.precision 11 (m * 2 ^ k) precise
          (moved_on_grid c.precision m k (point_on_grid c.precision (magnitude_of c code) some));
      within = omega (arith, moved, together, top);
      zero_has = λ e. refl;
    }
