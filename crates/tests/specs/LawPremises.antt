-- The premises of the laws of the calls.
use Rattle.std.specs.Prelude.{◌≡◌, ℕ, ◌*◌, ◌^◌, ◌<◌, ◌≤◌, Bool, false}
use Rattle.rustc_apfloat.specs.{Format.Format, Datum.Datum, Datum.finite, Members.IsFiniteOf}

-- two positive numbers, neither more than twice the other
pub record AreNear (x y : Datum) : Type 0 where
  pub left : ℕ
  pub right : ℕ
  pub left_is : x ≡ finite false left
  pub right_is : y ≡ finite false right
  pub some_left : 0 < left
  pub some_right : 0 < right
  pub few_left : left ≤ 2 * right
  pub few_right : right ≤ 2 * left

-- a number of the format f that g has too, in quanta of g
pub record IsInBoth (f g : Format) (x : Datum) : Type 0 where
  pub negative : Bool
  pub quanta : ℕ
  pub other : ℕ
  pub is : x ≡ finite negative quanta
  pub same_number : other * 2 ^ f.scale ≡ quanta * 2 ^ g.scale
  pub in_other : IsFiniteOf g negative other
