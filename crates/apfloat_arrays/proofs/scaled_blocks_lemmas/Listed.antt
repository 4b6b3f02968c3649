-- Values in consecutive bytes, as a list.
use Rattle.std.proofs.Common.{◌≡◌, ℕ, zero, suc, ◌+◌, ◌<◌, true, refl, ap, ◌∙◌, arith, List, [], ◌∷◌, ◌++◌, length}
use Rattle.std.proofs.{Common.Some, lemmas.Bool.and_from, lemmas.Bool.and_parts}
use Rattle.std.specs.Prelude.{slice_get}
use Rattle.rustc_apfloat.specs.{Datum.Datum, Lawful.Constants}
use Rattle.apfloat_model.specs.order.Classes.{is_finite}
use Rattle.small_formats.specs.blocks.Magnitudes.{are_finite}
use Rattle.apfloat_arrays.specs.scaled_blocks.Values.{value_in, values_in}

pub values_length : (c : Constants) (width : ℕ) (bytes : List ℕ) (first count : ℕ)
    → length (values_in c width bytes first count) ≡ count
values_length c width bytes first zero = refl
values_length c width bytes first (suc count) = ap suc (values_length c width bytes (suc first) count)

pub values_at : (c : Constants) (width : ℕ) (bytes : List ℕ) (first count index : ℕ) → index < count
    → slice_get (values_in c width bytes first count) index ≡ Some (value_in c width bytes (first + index))
values_at c width bytes first zero index l = absurd (omega (arith, l))
values_at c width bytes first (suc count) zero l =
    let same : first ≡ first + 0 = omega arith in
    ap (λ (n : ℕ). Some (value_in c width bytes n)) same
values_at c width bytes first (suc count) (suc index) l =
    let same : suc first + index ≡ first + suc index = omega arith in
    values_at c width bytes (suc first) count index (omega (arith, l))
    ∙ ap (λ (n : ℕ). Some (value_in c width bytes n)) same

-- one more value
pub values_more : (c : Constants) (width : ℕ) (bytes : List ℕ) (first count : ℕ)
    → values_in c width bytes first (suc count)
    ≡ values_in c width bytes first count ++ value_in c width bytes (first + count) ∷ []
values_more c width bytes first zero =
    let same : first ≡ first + 0 = omega arith in
    ap (λ (n : ℕ). value_in c width bytes n ∷ []) same
values_more c width bytes first (suc count) =
    let same : suc first + count ≡ first + suc count = omega arith in
    let rest : List Datum = values_in c width bytes (suc first) count in
    ap (λ (xs : List Datum). value_in c width bytes first ∷ xs)
    (values_more c width bytes (suc first) count
    ∙ ap (λ (n : ℕ). rest ++ value_in c width bytes n ∷ []) same)

pub values_next : (c : Constants) (width : ℕ) (bytes : List ℕ) (first count : ℕ)
    → values_in c width bytes first (count + 1)
    ≡ values_in c width bytes first count ++ value_in c width bytes (first + count) ∷ []
values_next c width bytes first count =
    let next : count + 1 ≡ suc count = omega arith in
    ap (λ (n : ℕ). values_in c width bytes first n) next ∙ values_more c width bytes first count

pub finite_push : (xs : List Datum) (x : Datum) → are_finite xs ≡ true → is_finite x ≡ true
    → are_finite (xs ++ x ∷ []) ≡ true
finite_push [] x h f = and_from (is_finite x) true f refl
finite_push (y ∷ xs) x h f =
    let p = and_parts (is_finite y) (are_finite xs) h in
    and_from (is_finite y) (are_finite (xs ++ x ∷ [])) p.0 (finite_push xs x p.1 f)
