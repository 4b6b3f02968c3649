-- Values that are read back from decimals, from the contracts on decimals.
use Rattle.std.proofs.Common.{◌≡◌, true, false, refl, ⊎_elim, eqb, Result, Ok, Err}
use Rattle.std.proofs.lemmas.Bool.{cases_Bool}
use Rattle.std.specs.Result.{IsOkAnd}
use Rattle.apfloat_decimals.specs.{declared.decimal.Decimal.Decimal, ReadBack.is_written_whole, ReadBack.written}

-- the text of a decimal has its sign
pub written_sign : (x : Decimal) → (written x).negative ≡ x.negative
written_sign x =
    ⊎_elim (λ (zero : eqb x.digits 0 ≡ true). rw zero refl)
    (λ (some : eqb x.digits 0 ≡ false).
    ⊎_elim (λ (whole : is_written_whole x.digits x.exponent ≡ true). rw (some, whole) refl)
    (λ (other : is_written_whole x.digits x.exponent ≡ false). rw (some, other) refl)
    (cases_Bool (is_written_whole x.digits x.exponent)))
    (cases_Bool (eqb x.digits 0))

-- if P implies Q, a result that is P is Q
pub ok_and : {T E : Type 0} (result : Result T E) (P Q : T → Type 0) → ((answer : T) → P answer → Q answer)
    → IsOkAnd result P → IsOkAnd result Q
ok_and (Ok answer) P Q f h = f answer h
ok_and (Err error) P Q f h = h
