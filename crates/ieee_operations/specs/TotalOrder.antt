-- The total order of the data of a format (IEEE 754-2019 5.10).
use Rattle.std.specs.Prelude.{◌≡◌, ◌⊎◌, ℕ, Bool, true, false, not, ◌&&◌, ◌||◌, leb, if◌then◌else◌}
use Rattle.std.specs.declared.cmp.Ordering.{Ordering, TheVariants.Less, TheVariants.Equal, TheVariants.Greater}
use Rattle.apfloat_model.specs.{formats.Nan.is_signaling, arithmetic.Exact.same_sign, arithmetic.Signs.abs}
use Rattle.apfloat_model.specs.formats.{Format.Format, Datum.Datum, Datum.finite, Datum.infinite, Datum.nan}
use Rattle.apfloat_model.specs.order.{Classes.is_negative, Order.is_below, Order.is_equal}

-- Two positive NaNs (d.3): a signaling one is below a quiet one, and of two of one kind the one with the lesser payload
-- is below. Their quiet bits are the same, so the one with the lesser payload has the lesser significand.
abbrev pub positive_nans_in_order : Format → ℕ → ℕ → Bool
positive_nans_in_order f s t =
    if is_signaling f s
    then not (is_signaling f t) || leb s t
    else not (is_signaling f t) && leb s t

-- two NaNs (d.3): a negative one is below a positive one, and negative ones are in the reverse order
abbrev pub nans_in_order : Format → Bool → ℕ → Bool → ℕ → Bool
nans_in_order f b s c t =
    if same_sign b c
    then (if b then positive_nans_in_order f t s else positive_nans_in_order f s t)
    else b

-- two data that are not NaNs: the first is less (a), or they are equal, but not +0 and -0 (c)
abbrev pub numbers_in_order : Datum → Datum → Bool
numbers_in_order x y = is_below x y || (is_equal x y && (is_negative x || not (is_negative y)))

-- whether the first datum is at or below the second; NaNs are at the ends (d.1, d.2)
abbrev pub total_order : Format → Datum → Datum → Bool
total_order f (nan b s) (nan c t) = nans_in_order f b s c t
total_order f (nan b s) (finite c n) = b
total_order f (nan b s) (infinite c) = b
total_order f (finite b m) (nan c t) = not c
total_order f (infinite b) (nan c t) = not c
total_order f (finite b m) (finite c n) = numbers_in_order (finite b m) (finite c n)
total_order f (finite b m) (infinite c) = numbers_in_order (finite b m) (infinite c)
total_order f (infinite b) (finite c n) = numbers_in_order (infinite b) (finite c n)
total_order f (infinite b) (infinite c) = numbers_in_order (infinite b) (infinite c)

-- the same of the data without their signs
abbrev pub total_order_mag : Format → Datum → Datum → Bool
total_order_mag f x y = total_order f (abs f x) (abs f y)

-- the order of two data in the total order
abbrev pub total_cmp : Format → Datum → Datum → Ordering
total_cmp f x y = if total_order f x y then (if total_order f y x then Equal else Less) else Greater

-- the laws of a total order; it agrees with `<`
pub record HasTotalOrder (f : Format) : Type 0 where
  pub reflexive : (x : Datum) → total_order f x x ≡ true
  pub antisymmetric : (x y : Datum) → total_order f x y ≡ true → total_order f y x ≡ true → x ≡ y
  pub transitive : (x y z : Datum) → total_order f x y ≡ true → total_order f y z ≡ true → total_order f x z ≡ true
  pub total : (x y : Datum) → (total_order f x y ≡ true) ⊎ (total_order f y x ≡ true)
  pub below : (x y : Datum) → is_below x y ≡ true → (total_order f x y ≡ true) × (total_order f y x ≡ false)
