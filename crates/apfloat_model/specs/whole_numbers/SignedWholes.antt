-- How the trait derives the signed integer of a negative value from the unsigned integer of its magnitude.
use Rattle.std.specs.Prelude.{◌≡◌, ℕ, ◌-◌, ◌^◌, ◌<◌, ◌≤◌, ℤ, pos, neg_ℤ, Bool, false, not, ◌&&◌}
use Rattle.apfloat_model.specs.formats.Nan.{invalid_bit}

-- `is_zero`: the value is -0; `number`, `flags` and `exact` are the result for the magnitude
pub record IsNegatedWhole (is_zero : Bool) (width number flags : ℕ) (exact : Bool) (value : ℤ) (status : ℕ)
    (is_exact : Bool) : Type 0 where
  pub past : 2 ^ (width - 1) < number
      → (status ≡ invalid_bit) × ((value ≡ neg_ℤ (pos (2 ^ (width - 1)))) × (is_exact ≡ false))
  pub within : number ≤ 2 ^ (width - 1)
      → (status ≡ flags) × ((value ≡ neg_ℤ (pos number)) × (is_exact ≡ (exact && not is_zero)))
