-- What the category of a datum says of it.
use Rattle.std.proofs.Common.{◌≡◌, ◌<◌, Bool, true, false, cond, eqb, if◌then◌else◌, refl, ap}
use Rattle.std.proofs.lemmas.Bool.{and_parts, eqb-true}
use Rattle.apfloat_model.specs.declared.kinds.Category.TheVariants.{Infinity, NaN, Normal, Zero}
use Rattle.apfloat_model.specs.formats.Datum.{Datum, finite, infinite, nan}
use Rattle.apfloat_model.specs.order.Classes.{category_of, is_finite, is_nan, quanta_of, same_datum}
use Rattle.apfloat_model.proofs.general.Choices.{above_zero, eqb_self, same_sign_is, same_sign_self}

-- a number is normal or zero, and nothing else is infinite or a NaN
pub no_infinity : (none : Bool) → cond none Zero Normal ≡ Infinity → ⊥
no_infinity true h = cc
no_infinity false h = cc

pub no_nan : (none : Bool) → cond none Zero Normal ≡ NaN → ⊥
no_nan true h = cc
no_nan false h = cc

pub zero_finite : (x : Datum) → category_of x ≡ Zero → is_finite x ≡ true
zero_finite (finite b n) h = refl
zero_finite (infinite b) h = cc
zero_finite (nan b s) h = cc

pub normal_finite : (x : Datum) → category_of x ≡ Normal → is_finite x ≡ true
normal_finite (finite b n) h = refl
normal_finite (infinite b) h = cc
normal_finite (nan b s) h = cc

pub nan_category : (x : Datum) → category_of x ≡ NaN → is_nan x ≡ true
nan_category (nan b s) h = refl
nan_category (finite b n) h = absurd (no_nan (eqb n 0) h)
nan_category (infinite b) h = cc

-- a number of the category of zeros is a zero, and one of the category of nonzero numbers is not
pub zero_only : (test : Bool) → (if test then Zero else Normal) ≡ Zero → test ≡ true
zero_only true e = refl
zero_only false e = cc

pub number_only : (test : Bool) → (if test then Zero else Normal) ≡ Normal → test ≡ false
number_only true e = cc
number_only false e = refl

pub normal_quanta : (x : Datum) → category_of x ≡ Normal → 0 < quanta_of x
normal_quanta (finite b n) e = above_zero n (number_only (eqb n 0) e)
normal_quanta (infinite b) e = cc
normal_quanta (nan b s) e = cc

-- ---- data that are the same

-- data that test as the same are equal
pub same_is : (x y : Datum) → same_datum x y ≡ true → x ≡ y
same_is (finite a m) (finite b n) e =
    let p = and_parts _ _ e in
    rw (same_sign_is a b p.0, eqb-true m n p.1) refl
same_is (infinite a) (infinite b) e = ap infinite (same_sign_is a b e)
same_is (nan a s) (nan b t) e =
    let p = and_parts _ _ e in
    rw (same_sign_is a b p.0, eqb-true s t p.1) refl
same_is (finite a m) (infinite b) e = cc
same_is (finite a m) (nan b t) e = cc
same_is (infinite a) (finite b n) e = cc
same_is (infinite a) (nan b t) e = cc
same_is (nan a s) (finite b n) e = cc
same_is (nan a s) (infinite b) e = cc

-- each datum tests as the same as itself
pub same_of : (x : Datum) → same_datum x x ≡ true
same_of (finite a m) = rw (same_sign_self a, eqb_self m) refl
same_of (infinite a) = same_sign_self a
same_of (nan a s) = rw (same_sign_self a, eqb_self s) refl
