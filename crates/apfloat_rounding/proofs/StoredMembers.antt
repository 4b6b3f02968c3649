-- A stored value belongs to the format, and has the category that it states.
use Rattle.std.proofs.{lemmas.Nat.pow_pos, lemmas.Bool.ne_eqb, Math.Nat.mul-le-mul_left}
use Rattle.std.proofs.Common.{◌≡◌, ℕ, ◌*◌, ◌^◌, ◌<◌, ◌≤◌, ◌⊎◌, ◌-ℤ◌, inl, inr, sym, refl, ap, ◌∙◌, arith}
use Rattle.apfloat_model.specs.{rounding.Grid.IsOnGrid, order.Classes.category_of, formats.Members.IsMember}
use Rattle.apfloat_model.specs.declared.kinds.Category.{Category}
use Rattle.apfloat_model.specs.declared.kinds.Category.TheVariants.{Infinity, NaN, Normal, Zero}
use Rattle.apfloat_model.proofs.{rounding.Laws.zero_on_grid, arithmetic.Signs.one_side}
use Rattle.apfloat_rounding.specs.{declared.shape.Shape.Shape, declared.unpacked.Unpacked.Unpacked, Shapes.format_at}
use Rattle.apfloat_rounding.specs.Stored.{IsStored, IsStoredBy, datum_at, datum_by, quanta_at}
use Rattle.apfloat_rounding.proofs.StoredBack.{quanta_some}

-- a value stored with a category represents a datum of that category
category_by : (category : Category) (shape : Shape) (x : Unpacked) → IsStoredBy category shape x
    → category_of (datum_by category shape x) ≡ category
category_by Normal shape x h = let p = quanta_some shape x.significand x.exponent h in
    rw (ne_eqb (quanta_at shape.min_exp x.significand x.exponent) 0 (λ z. omega (arith, z, p))) refl
category_by Zero shape x h = refl
category_by Infinity shape x h = refl
category_by NaN shape x h = refl

-- the datum of a stored value has the category that is stored
pub category_is : (shape : Shape) (x : Unpacked) → IsStored shape x → category_of (datum_at shape x) ≡ x.category
category_is shape x h = category_by x.category shape x h

-- a stored number is on the grid
on_grid_at : (precision m n u d : ℕ) → m < 2 ^ precision → n * 2 ^ d ≡ m * 2 ^ u → (u ≡ 0) ⊎ (d ≡ 0)
    → IsOnGrid precision n
on_grid_at precision m n u d h e (inl z) =
    let w : n * 2 ^ d ≡ m * 1 = e ∙ ap (λ (x : ℕ). m * 2 ^ x) z in
    let o : 1 ≤ 2 ^ d = pow_pos d in
    let l : n * 1 ≤ n * 2 ^ d = mul-le-mul_left n o in
    record { significand = n; place = 0; fits = omega arith; is = omega arith }
on_grid_at precision m n u d h e (inr z) =
    let w : n * 1 ≡ m * 2 ^ u = ap (λ (x : ℕ). n * 2 ^ x) (sym z) ∙ e in
    record { significand = m; place = u; fits = h; is = omega arith }

-- a value stored with a category represents a member of the format
member_by : (category : Category) (shape : Shape) (x : Unpacked) → IsStoredBy category shape x
    → IsMember (format_at shape) (datum_by category shape x)
member_by Normal shape x h =
    record {
      on_grid = on_grid_at shape.precision x.significand _ _ _ h.operand.fits h.whole
          (one_side (x.exponent -ℤ shape.min_exp));
      within = h.within;
      zero_has = λ z. absurd (omega (arith, z, quanta_some shape x.significand x.exponent h));
    }
member_by Zero shape x h = record {
  on_grid = zero_on_grid shape.precision;
  within = omega arith;
  zero_has = λ _. h.sign_is;
}
member_by Infinity shape x h = h.kind
member_by NaN shape x h = h.member

-- the datum of a stored value is a member of the format
pub member_is : (shape : Shape) (x : Unpacked) → IsStored shape x → IsMember (format_at shape) (datum_at shape x)
member_is shape x h = member_by x.category shape x h
