-- The bytes and the codes of the groups so far, and one more group.
use Rattle.std.proofs.Common.{◌≡◌, ℕ, ◌+◌, ◌*◌, ◌/◌, ◌%◌, ◌<◌, ◌≤◌, sym, ap, ◌∙◌, arith, List, [], ◌∷◌, ◌++◌, length}
use Rattle.std.proofs.{Common.take, Common.get_or, Common.append_assoc, Math.Nat.div-div-eq-div-mul}
use Rattle.std.proofs.lemmas.{List.length-take-le, List.take_more, List.take_more_set, Nat.div-add-mod'}
use Rattle.std.specs.Prelude.{slice_set}
use Rattle.small_formats.specs.packing.Packed.{number_of_digits}
use Rattle.small_formats.proofs.packing_lemmas.Digits.{groups_more}

-- as many bits in both, and the same ones up to these places
pub record ArePackedTo (bits : ℕ) (codes bytes : List ℕ) (code byte : ℕ) : Type 0 where
  pub same_bits : 8 * length bytes ≡ bits * length codes
  pub same_number : number_of_digits 8 (take byte bytes) ≡ number_of_digits bits (take code codes)

-- ---- one item more of a group

-- it is written
pub set_next : (xs front group : List ℕ) (n next y : ℕ) → next ≡ n + 1 → n < length xs → take n xs ≡ front ++ group
    → take next (slice_set xs n y) ≡ front ++ (group ++ y ∷ [])
set_next xs front group n next y e l so_far =
    ap (λ (m : ℕ). take m (slice_set xs n y)) e ∙ take_more_set xs n y l
    ∙ ap (λ (zs : List ℕ). zs ++ y ∷ []) so_far ∙ append_assoc front group (y ∷ [])

-- it is read
pub read_next : (xs front group : List ℕ) (n next d : ℕ) → next ≡ n + 1 → n < length xs → take n xs ≡ front ++ group
    → take next xs ≡ front ++ (group ++ get_or xs n d ∷ [])
read_next xs front group n next d e l so_far =
    ap (λ (m : ℕ). take m xs) e ∙ take_more xs n d l
    ∙ ap (λ (zs : List ℕ). zs ++ get_or xs n d ∷ []) so_far ∙ append_assoc front group (get_or xs n d ∷ [])

-- ---- one group more

pub one_more : (bits : ℕ) (codes bytes more_codes more_bytes group three : List ℕ) (code byte next last : ℕ)
    → code ≤ length codes → byte ≤ length bytes → 8 * byte ≡ bits * code → length more_codes ≡ length codes
    → length more_bytes ≡ length bytes → take next more_codes ≡ take code codes ++ group
    → take last more_bytes ≡ take byte bytes ++ three → number_of_digits 8 three ≡ number_of_digits bits group
    → ArePackedTo bits codes bytes code byte → ArePackedTo bits more_codes more_bytes next last
one_more bits codes bytes more_codes more_bytes group three code byte next last l k places size count e f same so_far =
    let front : length (take byte bytes) ≡ byte = length-take-le byte bytes k in
    let before : length (take code codes) ≡ code = length-take-le code codes l in
    record {
      same_bits = ap (λ (n : ℕ). 8 * n) count ∙ so_far.same_bits ∙ ap (λ (n : ℕ). bits * n) (sym size);
      same_number = ap (number_of_digits 8) f ∙ groups_more bits (take byte bytes) three (take code codes) group
          (ap (λ (n : ℕ). 8 * n) front ∙ places ∙ ap (λ (n : ℕ). bits * n) (sym before)) so_far.same_number same
          ∙ ap (number_of_digits bits) (sym e);
    }

-- ---- the numbers of a group

pub byte_of_fours : (byte : ℕ) → number_of_digits 8 (byte ∷ []) ≡ number_of_digits 4 ((byte % 16) ∷ (byte / 16) ∷ [])
byte_of_fours byte =
    let whole : byte / 16 * 16 + byte % 16 ≡ byte = div-add-mod' byte 16 in
    omega (arith, whole)

pub bytes_of_number : (number : ℕ)
    → number_of_digits 8 ((number % 256) ∷ (number / 256 % 256) ∷ (number / 65536) ∷ []) ≡ number
bytes_of_number number =
    let first : number / 256 * 256 + number % 256 ≡ number = div-add-mod' number 256 in
    let second : number / 256 / 256 * 256 + number / 256 % 256 ≡ number / 256 = div-add-mod' (number / 256) 256 in
    let third : number / 256 / 256 ≡ number / 65536 = div-div-eq-div-mul number 256 256 in
    omega (arith, first, second, third)

pub sixes_of_bytes : (low middle high : ℕ) → number_of_digits 8 (low ∷ middle ∷ high ∷ [])
    ≡ number_of_digits 6 ((low % 64) ∷ (low / 64 + 4 * (middle % 16))
    ∷ (middle / 16 + 16 * (high % 4)) ∷ (high / 4) ∷ [])
sixes_of_bytes low middle high =
    let first : low / 64 * 64 + low % 64 ≡ low = div-add-mod' low 64 in
    let second : middle / 16 * 16 + middle % 16 ≡ middle = div-add-mod' middle 16 in
    let third : high / 4 * 4 + high % 4 ≡ high = div-add-mod' high 4 in
    omega (arith, first, second, third)
