-- Digits that are written several at a time.
use Rattle.std.proofs.Common.{◌≡◌, ℕ, zero, suc, ◌+◌, ◌*◌, ◌/◌, ◌%◌, ◌^◌, ◌<◌, ◌≤◌, List, [], ◌∷◌, ◌++◌, length, sym}
use Rattle.std.proofs.Common.{ap, ◌∙◌, ◌-◌, replicate, take, drop, Bool, true, false, eqb, arith, lit<, refl}
use Rattle.std.proofs.lemmas.{Bool.and_parts, Bool.eqb-true, Fmt.decimal_by_steps_wide, Fmt.decimal_step_wide}
use Rattle.std.proofs.lemmas.List.{append_assoc, length-append, length-take-le, replicate_more, take_at, take-take}
use Rattle.std.proofs.lemmas.Nat.{mod-mul-add, pow-add}
use Rattle.std.proofs.Math.Nat.{div-add-mod, div-div-eq-div-mul, div-eq_of_lt, div-lt_iff_lt-mul, mod-lt}
use Rattle.std.proofs.Math.Nat.{mul-div_cancel, mul-lt-mul_of_pos_right, mul-mod_left}
use Rattle.std.specs.Prelude.{◌&&◌}
use Rattle.std.specs.Fmt.{decimal}
use Rattle.apfloat_decimals.specs.{Buffers.IsPut, Buffers.IsStored, Texts.last_digits, Texts.padded, Texts.AreZerosFrom}
use Rattle.apfloat_decimals.proofs.{numbers.Values.power_pos, spelled.PutTexts.put_same, spelled.PutTexts.put_then}
use Rattle.apfloat_decimals.proofs.spelled.WrittenNumbers.{below_power, length_more, single}

append_none : (text : List ℕ) → text ++ [] ≡ text
append_none [] = refl
append_none (c ∷ text) = ap (λ (x : List ℕ). c ∷ x) (append_none text)

over_one : (n : ℕ) → n / 10 ^ 0 ≡ n
over_one n = let one : 10 ^ 0 ≡ 1 = omega arith in ap (λ (k : ℕ). n / k) one ∙ omega arith

ten_suc : (count : ℕ) → 10 ^ suc count ≡ 10 * 10 ^ count
ten_suc count = let e : suc count ≡ count + 1 = omega arith in
    ap (λ (k : ℕ). 10 ^ k) e ∙ pow-add 10 count 1 ∙ omega arith

-- dividing by ten and then by a power of ten divides by the next power
div_suc : (n count : ℕ) → n / 10 / 10 ^ count ≡ n / 10 ^ suc count
div_suc n count = div-div-eq-div-mul n 10 (10 ^ count) ∙ ap (λ (k : ℕ). n / k) (sym (ten_suc count))

pub last_length : (count n : ℕ) → length (last_digits count n) ≡ count
unfolding last_digits
last_length zero n = omega arith
last_length (suc count) n =
    omega (arith, last_length count (n / 10), length_more (last_digits count (n / 10)) (48 + n % 10))

-- the decimal digits of a number are those before its last ones, and those
pub decimal_split : (count n : ℕ) → 10 ^ count ≤ n → n < 2 ^ 128
    → decimal n ≡ decimal (n / 10 ^ count) ++ last_digits count n
unfolding last_digits
decimal_split zero n some few =
    let one : n / 10 ^ 0 ≡ n = over_one n in
    sym (append_none (decimal (n / 10 ^ 0)) ∙ ap (λ (k : ℕ). decimal k) one)
decimal_split (suc count) n some few =
    let ten : 10 ^ suc count ≡ 10 * 10 ^ count = ten_suc count in
    let one : 1 ≤ 10 ^ count = power_pos 10 count (lit< tt) in
    let least : 10 ^ count ≤ n / 10 = omega (arith, ten, some) in
    let less : n / 10 < 2 ^ 128 = omega (arith, few) in
    decimal_step_wide n (omega (arith, ten, one, some)) (omega (arith, few))
    ∙ ap (λ (x : List ℕ). x ++ ((48 + n % 10) ∷ [])) (decimal_split count (n / 10) least less)
    ∙ append_assoc (decimal (n / 10 / 10 ^ count)) (last_digits count (n / 10)) ((48 + n % 10) ∷ [])
    ∙ ap (λ (k : ℕ). decimal k ++ (last_digits count (n / 10) ++ ((48 + n % 10) ∷ []))) (div_suc n count)

-- the last digits of a number are those of its upper part, and the others
pub last_split : (first second n : ℕ) → last_digits (first + second) n
    ≡ last_digits first (n / 10 ^ second) ++ last_digits second n
unfolding last_digits
last_split first zero n =
    let one : n / 10 ^ 0 ≡ n = over_one n in
    let none : first + 0 ≡ first = omega arith in
    ap (λ (k : ℕ). last_digits k n) none ∙ sym (append_none (last_digits first (n / 10 ^ 0))
    ∙ ap (λ (k : ℕ). last_digits first k) one)
last_split first (suc second) n =
    let next : first + suc second ≡ suc (first + second) = omega arith in
    ap (λ (k : ℕ). last_digits k n) next
    ∙ ap (λ (x : List ℕ). x ++ ((48 + n % 10) ∷ [])) (last_split first second (n / 10))
    ∙ append_assoc (last_digits first (n / 10 / 10 ^ second)) (last_digits second (n / 10)) ((48 + n % 10) ∷ [])
    ∙ ap (λ (k : ℕ). last_digits first k ++ (last_digits second (n / 10) ++ ((48 + n % 10) ∷ []))) (div_suc n second)

-- digits above the last ones do not count
pub last_within : (count n : ℕ) → last_digits count (n % 10 ^ count) ≡ last_digits count n
unfolding last_digits
last_within zero n = refl
last_within (suc count) n =
    let ten : 10 ^ suc count ≡ 10 * 10 ^ count = ten_suc count in
    let low : n % 10 ^ suc count % 10 ≡ n % 10 = mod_low n count in
    let high : n % 10 ^ suc count / 10 ≡ n / 10 % 10 ^ count = mod_high n count in
    ap (λ (k : ℕ). last_digits count k ++ ((48 + n % 10 ^ suc count % 10) ∷ [])) high
    ∙ ap (λ (x : List ℕ). x ++ ((48 + n % 10 ^ suc count % 10) ∷ [])) (last_within count (n / 10))
    ∙ ap (λ (k : ℕ). last_digits count (n / 10) ++ ((48 + k) ∷ [])) low
  where
    parts : (n count : ℕ) → n % 10 ^ suc count ≡ 10 * (n / 10 % 10 ^ count) + n % 10
    parts n count =
        let ten : 10 ^ suc count ≡ 10 * 10 ^ count = ten_suc count in
        let rest : n / 10 % 10 ^ count < 10 ^ count = mod-lt (n / 10) (power_pos 10 count (lit< tt)) in
        let less : 10 * (n / 10 % 10 ^ count) + n % 10 < 10 * 10 ^ count = omega (arith, rest) in
        let all : n ≡ n / 10 / 10 ^ count * (10 * 10 ^ count) + (10 * (n / 10 % 10 ^ count) + n % 10) =
        omega (arith, div-add-mod (n / 10) (10 ^ count)) in
        ap (λ (k : ℕ). n % k) ten ∙ ap (λ (k : ℕ). k % (10 * 10 ^ count)) all
        ∙ mod-mul-add (n / 10 / 10 ^ count) (10 * 10 ^ count) (10 * (n / 10 % 10 ^ count) + n % 10) less

    mod_low : (n count : ℕ) → n % 10 ^ suc count % 10 ≡ n % 10
    mod_low n count = let p = parts n count in omega (arith, p)

    mod_high : (n count : ℕ) → n % 10 ^ suc count / 10 ≡ n / 10 % 10 ^ count
    mod_high n count = let p = parts n count in omega (arith, p)

-- ---- how many digits

-- a number has as many digits as what is left without its last ones, and those
pub counted_split : (count n : ℕ) → 10 ^ count ≤ n → n < 2 ^ 128
    → length (decimal n) ≡ length (decimal (n / 10 ^ count)) + count
counted_split count n some few =
    let both = length-append (decimal (n / 10 ^ count)) (last_digits count n) in
    ap (λ (x : List ℕ). length x) (decimal_split count n some few) ∙ omega (arith, both, last_length count n)

-- the digits of a number between two powers of ten
pub counted_between : (count n : ℕ) → 10 ^ count ≤ n → n < 10 * 10 ^ count → n < 2 ^ 128
    → length (decimal n) ≡ count + 1
counted_between count n some less few =
    let ten : 0 < 10 ^ count = power_pos 10 count (lit< tt) in
    let below : n / 10 ^ count < 10 = (div-lt_iff_lt-mul ten).1 (omega (arith, less)) in
    counted_split count n some few ∙ omega (arith, single (n / 10 ^ count) below)

-- ---- appended to a text

-- appending the upper digits and then the lower ones appends all
pub last_joined : (first second n : ℕ) (text : List ℕ)
    → (text ++ last_digits first (n / 10 ^ second)) ++ last_digits second (n % 10 ^ second)
    ≡ text ++ last_digits (first + second) n
last_joined first second n text =
    append_assoc text (last_digits first (n / 10 ^ second)) (last_digits second (n % 10 ^ second))
    ∙ ap (λ (x : List ℕ). text ++ (last_digits first (n / 10 ^ second) ++ x)) (last_within second n)
    ∙ ap (λ (x : List ℕ). text ++ x) (sym (last_split first second n))

-- that is so for what is stored
pub stored_both : (first second n at : ℕ) (old mid new : List ℕ)
    → IsStored old at (last_digits first (n / 10 ^ second)) mid (at + first)
    → IsStored mid (at + first) (last_digits second (n % 10 ^ second)) new (at + first + second)
    → IsStored old at (last_digits (first + second) n) new (at + (first + second))
stored_both first second n at old mid new x y =
    let end : at + first + second ≡ at + (first + second) = omega arith in
    record {
      taken = ap (λ (k : ℕ). take k new) (sym end) ∙ y.taken
          ∙ ap (λ (t : List ℕ). t ++ last_digits second (n % 10 ^ second)) x.taken
          ∙ last_joined first second n (take at old);
      same = λ i l. y.same i (omega (arith, l)) ∙ x.same i (omega (arith, l));
    }

-- what is stored before zeros is put
pub stored_put : (count n at : ℕ) (old new : List ℕ) → AreZerosFrom at old
    → IsStored old at (last_digits count n) new (at + count) → IsPut old at (last_digits count n) new (at + count)
stored_put count n at old new zeros x =
    record {
      taken = x.taken;
      moved = omega (arith, last_length count n);
      zeros = λ i l. x.same i l ∙ zeros i (omega (arith, l));
    }

-- putting the upper digits of a number that has no more, and then the lower ones, puts all
pub digits_put : {old mid new : List ℕ} {at between end : ℕ} (second count n : ℕ) → second ≤ count
    → IsPut old at (last_digits (count - second) (n / 10 ^ second)) mid between
    → IsPut mid between (last_digits second (n % 10 ^ second)) new end → IsPut old at (last_digits count n) new end
digits_put second count n within x y =
    let all : count - second + second ≡ count = omega (arith, within) in
    put_same
    (ap (λ (t : List ℕ). last_digits (count - second) (n / 10 ^ second) ++ t) (last_within second n)
    ∙ sym (last_split (count - second) second n) ∙ ap (λ (k : ℕ). last_digits k n) all) (put_then x y)

-- the upper digits are those of a lesser number
pub upper_few : (second count n : ℕ) → second ≤ count → n < 10 ^ count → n / 10 ^ second < 10 ^ (count - second)
upper_few second count n within few =
    let all : count - second + second ≡ count = omega (arith, within) in
    let split : 10 ^ count ≡ 10 ^ (count - second) * 10 ^ second =
    ap (λ (k : ℕ). 10 ^ k) (sym all) ∙ pow-add 10 (count - second) second in
    (div-lt_iff_lt-mul (power_pos 10 second (lit< tt))).1 (omega (arith, few, split))

-- one digit or none
pub one_digit : (count n : ℕ) → count ≡ 1 → n < 10 ^ count → (48 + n) ∷ [] ≡ last_digits count n
unfolding last_digits
one_digit count n one few =
    let ten : 10 ^ count ≡ 10 = ap (λ (k : ℕ). 10 ^ k) one ∙ omega arith in
    let same : 48 + n ≡ 48 + n % 10 = omega (arith, ten, few) in
    ap (λ (k : ℕ). k ∷ []) same ∙ ap (λ (k : ℕ). last_digits k n) (sym one)

pub no_digits : (count n : ℕ) → count ≡ 0 → [] ≡ last_digits count n
unfolding last_digits
no_digits count n none = ap (λ (k : ℕ). last_digits k n) (sym none)

-- the decimal digits of a number are its last ones, as many as it has
pub all_last : (n : ℕ) → n < 2 ^ 128 → last_digits (length (decimal n)) n ≡ decimal n
unfolding last_digits
all_last n few =
    decimal_by_steps_wide (λ (m : ℕ) (ds : List ℕ). last_digits (length ds) m ≡ ds) one more n (omega (arith, few))
  where
    one : (m : ℕ) → m < 10 → last_digits (length ((48 + m) ∷ [])) m ≡ (48 + m) ∷ []
    one m l = let same : 48 + m % 10 ≡ 48 + m = omega (arith, l) in ap (λ (k : ℕ). k ∷ []) same

    more : (m : ℕ) (ds : List ℕ) → 10 ≤ m → last_digits (length ds) (m / 10) ≡ ds
        → last_digits (length (ds ++ ((48 + m % 10) ∷ []))) m ≡ ds ++ ((48 + m % 10) ∷ [])
    more m ds l same =
        let longer : length (ds ++ ((48 + m % 10) ∷ [])) ≡ suc (length ds) =
        length_more ds (48 + m % 10) ∙ omega arith in
        ap (λ (k : ℕ). last_digits k m) longer ∙ ap (λ (x : List ℕ). x ++ ((48 + m % 10) ∷ [])) same

pub all_digits : (count n : ℕ) → n < 2 ^ 128 → count ≡ length (decimal n) → last_digits count n ≡ decimal n
all_digits count n few is = ap (λ (k : ℕ). last_digits k n) is ∙ all_last n few

-- the last digits of 0 are zeros
zeros_last : (count : ℕ) → last_digits count 0 ≡ replicate count 48
unfolding last_digits
zeros_last zero = refl
zeros_last (suc count) =
    let next : count + 1 ≡ suc count = omega arith in
    ap (λ (x : List ℕ). x ++ (48 ∷ [])) (zeros_last count) ∙ replicate_more count 48
    ∙ ap (λ (k : ℕ). replicate k 48) next

-- a number of so many digits that is moved up has more of them
pub moved_few : (all count n : ℕ) → count ≤ all → n < 10 ^ count → n * 10 ^ (all - count) < 10 ^ all
moved_few all count n within few =
    let sum : count + (all - count) ≡ all = omega (arith, within) in
    let split : 10 ^ all ≡ 10 ^ count * 10 ^ (all - count) =
    ap (λ (k : ℕ). 10 ^ k) (sym sum) ∙ pow-add 10 count (all - count) in
    let times = mul-lt-mul_of_pos_right few (power_pos 10 (all - count) (lit< tt)) in
    omega (arith, split, times)

-- the last digits of a number that is moved up are its own, and zeros
pub moved_last : (all count n : ℕ) (text : List ℕ) → count ≤ all
    → text ++ last_digits all (n * 10 ^ (all - count)) ≡ (text ++ last_digits count n) ++ replicate (all - count) 48
moved_last all count n text within =
    let more : ℕ = all - count in
    let sum : count + more ≡ all = omega (arith, within) in
    let some : 0 < 10 ^ more = power_pos 10 more (lit< tt) in
    let upper : n * 10 ^ more / 10 ^ more ≡ n = mul-div_cancel n some in
    let lower : n * 10 ^ more % 10 ^ more ≡ 0 = mul-mod_left n (10 ^ more) in
    ap (λ (k : ℕ). text ++ last_digits k (n * 10 ^ more)) (sym sum)
    ∙ ap (λ (x : List ℕ). text ++ x) (last_split count more (n * 10 ^ more)
    ∙ ap (λ (k : ℕ). last_digits count k ++ last_digits more (n * 10 ^ more)) upper
    ∙ ap (λ (x : List ℕ). last_digits count n ++ x) (sym (last_within more (n * 10 ^ more))
    ∙ ap (λ (k : ℕ). last_digits more k) lower ∙ zeros_last more))
    ∙ sym (append_assoc text (last_digits count n) (replicate more 48))

-- the digits of a number stand before those zeros
pub moved_taken : (all count n power at : ℕ) (old new : List ℕ) → count ≤ all → at ≤ length old
    → power ≡ 10 ^ (all - count) → take (at + all) new ≡ take at old ++ last_digits all (n * power)
    → take (at + count) new ≡ take at old ++ last_digits count n
moved_taken all count n power at old new most within is taken =
    let text : List ℕ = take at old ++ last_digits count n in
    let start : length (take at old) ≡ at = length-take-le at old within in
    let both = length-append (take at old) (last_digits count n) in
    let long : length text ≡ at + count = omega (arith, start, last_length count n, both) in
    let written : take (at + all) new ≡ text ++ replicate (all - count) 48 =
    taken ∙ ap (λ (k : ℕ). take at old ++ last_digits all (n * k)) is ∙ moved_last all count n (take at old) most in
    sym (take-take (at + count) (at + all) new (omega (arith, most))) ∙ ap (λ (x : List ℕ). take (at + count) x) written
    ∙ take_at text (replicate (all - count) 48) (at + count) long

-- leading zeros and the digits of a number are its last digits
pub padded_last : (places n : ℕ) → length (decimal n) ≤ places → n < 2 ^ 128 → last_digits places n ≡ padded places n
padded_last places n within few =
    let digits = length (decimal n) in
    let none : n / 10 ^ digits ≡ 0 = div-eq_of_lt (below_power n few) in
    let all : places - digits + digits ≡ places = omega (arith, within) in
    ap (λ (k : ℕ). last_digits k n) (sym all) ∙ last_split (places - digits) digits n
    ∙ ap (λ (k : ℕ). last_digits (places - digits) k ++ last_digits digits n) none
    ∙ ap (λ (x : List ℕ). x ++ last_digits digits n) (zeros_last (places - digits))
    ∙ ap (λ (x : List ℕ). replicate (places - digits) 48 ++ x) (all_last n few)

-- two characters are the digits of a number below 100
pub pair_joined : (n a b : ℕ) (text : List ℕ) → n < 100 → a ≡ 48 + n / 10 → b ≡ 48 + n % 10
    → (text ++ (a ∷ [])) ++ (b ∷ []) ≡ text ++ last_digits 2 n
unfolding last_digits
pair_joined n a b text few first second =
    let tens : 48 + n / 10 ≡ 48 + n / 10 % 10 = omega (arith, few) in
    append_assoc text (a ∷ []) (b ∷ []) ∙ ap (λ (k : ℕ). text ++ (k ∷ b ∷ [])) (first ∙ tens)
    ∙ ap (λ (k : ℕ). text ++ ((48 + n / 10 % 10) ∷ k ∷ [])) second

-- ---- the table of pairs

unfoldable pub are_pairs : ℕ → List ℕ → Bool
are_pairs first [] = true
are_pairs first (a ∷ []) = false
are_pairs first (a ∷ b ∷ pairs) = eqb a (48 + first / 10) && (eqb b (48 + first % 10) && are_pairs (first + 1) pairs)

-- the two characters of a number, as they stand in the table
pub pair_from : (first : ℕ) (pairs : List ℕ) (i : ℕ) → are_pairs first pairs ≡ true → 2 * i + 1 < length pairs
    → take 2 (drop (2 * i) pairs) ≡ (48 + (first + i) / 10) ∷ (48 + (first + i) % 10) ∷ []
unfolding are_pairs
pair_from first [] i e l = absurd (omega (arith, l))
pair_from first (a ∷ []) i e l = absurd (omega (arith, l))
pair_from first (a ∷ b ∷ pairs) zero e l =
    let same : first + 0 ≡ first = omega arith in
    let p = and_parts _ _ e in
    rw same (ap (λ (k : ℕ). k ∷ b ∷ []) (eqb-true a (48 + first / 10) p.0)
    ∙ ap (λ (k : ℕ). (48 + first / 10) ∷ k ∷ []) (eqb-true b (48 + first % 10) (and_parts _ _ p.1).0))
pair_from first (a ∷ b ∷ pairs) (suc i) e l =
    let same : first + suc i ≡ first + 1 + i = omega arith in
    let two : 2 * suc i ≡ suc (suc (2 * i)) = omega arith in
    rw (same, two) (pair_from (first + 1) pairs i (and_parts _ _ ((and_parts _ _ e).1)).1 (omega (arith, l)))

-- the two characters after a text
pub pair_after : (n : ℕ) (text : List ℕ) → n < 100
    → text ++ ((48 + n / 10) ∷ (48 + n % 10) ∷ []) ≡ text ++ last_digits 2 n
pair_after n text few =
    sym (append_assoc text ((48 + n / 10) ∷ []) ((48 + n % 10) ∷ []))
    ∙ pair_joined n (48 + n / 10) (48 + n % 10) text few refl refl
