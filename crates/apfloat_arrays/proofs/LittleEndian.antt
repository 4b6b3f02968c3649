-- Numbers read and written as bytes, one byte at a time.
use Rattle.std.proofs.Common.{◌≡◌, ℕ, zero, suc, ◌+◌, ◌-◌, ◌*◌, ◌/◌, ◌%◌, ◌^◌, ◌<◌, ◌≤◌, List, [], ◌∷◌, ◌++◌, length}
use Rattle.std.proofs.Common.{get_or, set, take, drop, refl, sym, ◌∙◌, ap, arith, lit<, pow-add, add-one}
use Rattle.std.proofs.Math.Nat.{pow-le-pow_right, pow-suc, mul_assoc, mul_comm, mul-add, mul-suc}
use Rattle.std.proofs.Math.ListN.{drop_of_length-le}
use Rattle.std.proofs.lemmas.List.{drop_more, take_more_set, take_all, length-take-le}
use Rattle.std.specs.Int.{w64, from_le_bytes}
use Rattle.apfloat_arrays.specs.Bytes.{number_of}
use Rattle.apfloat_model.proofs.general.MoreDigits.{digit_more, digit_fits}

-- ---- reading, from the last byte down

-- the last bytes, from this place down, are those of the number
pub record IsReadDown (bytes : List ℕ) (number place : ℕ) : Type 0 where
  pub below : number < 256 ^ place
  pub read : number ≡ number_of (drop (length bytes - place) bytes)

-- at the start, no byte has been read
pub read_none : (bytes : List ℕ) → IsReadDown bytes 0 0
read_none bytes = record {
  below = lit< tt;
  read = ap number_of (sym (let all : length bytes ≤ length bytes - 0 = omega arith in drop_of_length-le bytes all));
}

-- a number of at most 16 bytes is below 2 ^ 128
pub one_more_fits : (number byte place : ℕ) → number < 256 ^ place → byte < 256 → place < 16
    → number * 256 + byte < 2 ^ 128
one_more_fits number byte place small digit within = digit_fits 256 number byte place 16 small digit within

-- one more byte is read, below the others
pub read_more : (bytes : List ℕ) (number byte place : ℕ) → place < length bytes → IsReadDown bytes number place
    → byte ≡ get_or bytes (length bytes - 1 - place) 0 → byte < 256 → IsReadDown bytes (number * 256 + byte) (place + 1)
read_more bytes number byte place within so_far is small =
    let here : length bytes - (place + 1) ≡ length bytes - 1 - place = omega arith in
    let step : length bytes - 1 - place + 1 ≡ length bytes - place = omega arith in
    let split : drop (length bytes - (place + 1)) bytes ≡ byte ∷ drop (length bytes - place) bytes =
    ap (λ n. drop n bytes) here ∙ drop_more bytes (length bytes - 1 - place) 0 (omega arith)
    ∙ ap (λ b. b ∷ drop (length bytes - 1 - place + 1) bytes) (sym is) ∙ ap (λ n. byte ∷ drop n bytes) step in
    let told = ap number_of split in
    let last : number ≡ number_of (drop (length bytes - place) bytes) = so_far.read in
    record {
      below = digit_more 256 number byte place so_far.below small;
      read = (let known : number * 256 + byte
          ≡ byte + 256 * number_of (drop (length bytes - place) bytes) = omega arith in known) ∙ sym told;
    }

-- after the last byte, all bytes have been read
pub read_to_end : (bytes : List ℕ) (number place : ℕ) → place ≡ length bytes → IsReadDown bytes number place
    → number ≡ number_of bytes
read_to_end bytes number place all so_far =
    let none : length bytes - place ≡ 0 = omega arith in
    so_far.read ∙ ap (λ n. number_of (drop n bytes)) none

-- ---- writing, from the first byte up

-- one more byte added in its place
shifted : (first n more power wider byte : ℕ) → more ≡ n + power * byte → wider ≡ power * 256
    → first + 256 * more ≡ first + 256 * n + wider * byte
shifted first n more power wider byte told scale =
    let turned : power * 256 * byte ≡ 256 * (power * byte) =
    ap (λ k. k * byte) (mul_comm power 256) ∙ mul_assoc 256 power byte in
    let scaled_byte : wider * byte ≡ power * 256 * byte = ap (λ k. k * byte) scale in
    omega arith

-- a byte after the others is more significant than they are
number_of-push : (bytes : List ℕ) (byte : ℕ)
    → number_of (bytes ++ byte ∷ []) ≡ number_of bytes + 256 ^ length bytes * byte
number_of-push [] byte = omega arith
number_of-push (first ∷ bytes) byte =
    let more : 256 ^ (length bytes + 1) ≡ 256 ^ length bytes * 256 = pow-add 256 (length bytes) 1 in
    let same : 256 ^ suc (length bytes) ≡ 256 ^ length bytes * 256 = rw (← add-one (length bytes)) more in
    shifted first (number_of bytes) (number_of (bytes ++ byte ∷ [])) (256 ^ length bytes) (256 ^ suc (length bytes))
    byte (number_of-push bytes byte) same

-- the bytes written so far, with the rest above them, are those of the number
pub record IsWrittenUp (number rest place : ℕ) (bytes : List ℕ) : Type 0 where
  pub written : number_of (take place bytes) + 256 ^ place * rest ≡ number

-- at the start, the entire number is still to be written
pub write_none : (number : ℕ) (bytes : List ℕ) → IsWrittenUp number number 0 bytes
write_none number bytes = record { written = omega arith }

-- one byte split off from a number
cut : (n power wider rest number : ℕ) → wider ≡ power * 256 → n + power * rest ≡ number
    → n + power * (rest % 256) + wider * (rest / 256) ≡ number
cut n power wider rest number scale so_far =
    let parts : rest % 256 + 256 * (rest / 256) ≡ rest = omega arith in
    let spread : power * (rest % 256 + 256 * (rest / 256)) ≡ power * (rest % 256) + power * (256 * (rest / 256)) =
    mul-add power (rest % 256) (256 * (rest / 256)) in
    let turned : power * 256 * (rest / 256) ≡ power * (256 * (rest / 256)) = mul_assoc power 256 (rest / 256) in
    let scaled_rest : wider * (rest / 256) ≡ power * 256 * (rest / 256) = ap (λ k. k * (rest / 256)) scale in
    let joined : power * (rest % 256 + 256 * (rest / 256)) ≡ power * rest = ap (λ k. power * k) parts in
    omega arith

-- one more byte is written after the others
pub write_more : (number rest place : ℕ) (bytes : List ℕ) → place < length bytes → IsWrittenUp number rest place bytes
    → IsWrittenUp number (rest / 256) (place + 1) (set bytes place (rest % 256))
write_more number rest place bytes within so_far =
    let size : length (take place bytes) ≡ place = length-take-le place bytes (omega arith) in
    let pushed : number_of (take (place + 1) (set bytes place (rest % 256)))
    ≡ number_of (take place bytes) + 256 ^ place * (rest % 256) =
    ap number_of (take_more_set bytes place (rest % 256) within) ∙ number_of-push (take place bytes) (rest % 256)
    ∙ ap (λ k. number_of (take place bytes) + 256 ^ k * (rest % 256)) size in
    let more : 256 ^ (place + 1) ≡ 256 ^ place * 256 = pow-add 256 place 1 in
    let last = cut (number_of (take place bytes)) (256 ^ place) (256 ^ (place + 1)) rest number more so_far.written in
    record { written = ap (λ k. k + 256 ^ (place + 1) * (rest / 256)) pushed ∙ last }

-- if a number plus a multiple of a power is below that power, the sum is the number
none_left : (n power rest number : ℕ) → n + power * rest ≡ number → number < power → n ≡ number
none_left n power zero number told small = omega arith
none_left n power (suc rest) number told small =
    let more : power * suc rest ≡ power * rest + power = mul-suc power rest in
    absurd (omega arith)

-- after the last byte, the bytes are those of the number
pub write_to_end : (number rest place : ℕ) (bytes : List ℕ) → place ≡ length bytes
    → number < 256 ^ length bytes → IsWrittenUp number rest place bytes → number_of bytes ≡ number
write_to_end number rest place bytes all small so_far =
    let whole : take place bytes ≡ bytes = take_all place bytes (omega arith) in
    let scale : 256 ^ place ≡ 256 ^ length bytes = ap (λ k. 256 ^ k) all in
    let below : number < 256 ^ place = omega arith in
    ap number_of (sym whole) ∙ none_left (number_of (take place bytes)) (256 ^ place) rest number so_far.written below

-- ---- numbers of a given width in bits

-- n bytes have as many values as 8 n bits
bytes_of_bits : (n : ℕ) → 256 ^ n ≡ 2 ^ (8 * n)
bytes_of_bits zero = refl
bytes_of_bits (suc n) =
    pow-suc 256 n ∙ ap (λ k. k * 256) (bytes_of_bits n) ∙ sym (pow-add 2 (8 * n) 8)
    ∙ ap (λ k. 2 ^ k) (sym (mul-suc 8 n))

-- a number fits in bytes that have at least as many bits
pub fits : (number bits places : ℕ) → number < 2 ^ bits → bits ≤ 8 * places → number < 256 ^ places
fits number bits places small room =
    let base : 0 < 2 = lit< tt in
    let wider : 2 ^ bits ≤ 2 ^ (8 * places) = pow-le-pow_right base room in
    let same = bytes_of_bits places in
    omega arith

-- ---- numbers of one byte and of eight

pub one_written : (bytes : List ℕ) (number : ℕ) → length bytes ≡ 1 → number < 256 ^ length bytes
    → number_of (set bytes 0 number) ≡ number
one_written [] number all small = absurd (omega arith)
one_written (a ∷ b ∷ bytes) number all small = absurd (omega arith)
one_written (a ∷ []) number all small = omega arith

pub eight_bytes : (bytes : List ℕ) → length bytes ≡ 8 → from_le_bytes w64 bytes ≡ number_of bytes
eight_bytes [] all = absurd (omega arith)
eight_bytes (a ∷ []) all = absurd (omega arith)
eight_bytes (a ∷ b ∷ []) all = absurd (omega arith)
eight_bytes (a ∷ b ∷ c ∷ []) all = absurd (omega arith)
eight_bytes (a ∷ b ∷ c ∷ d ∷ []) all = absurd (omega arith)
eight_bytes (a ∷ b ∷ c ∷ d ∷ e ∷ []) all = absurd (omega arith)
eight_bytes (a ∷ b ∷ c ∷ d ∷ e ∷ f ∷ []) all = absurd (omega arith)
eight_bytes (a ∷ b ∷ c ∷ d ∷ e ∷ f ∷ g ∷ []) all = absurd (omega arith)
eight_bytes (a ∷ b ∷ c ∷ d ∷ e ∷ f ∷ g ∷ h ∷ more ∷ bytes) all = absurd (omega arith)
eight_bytes (a ∷ b ∷ c ∷ d ∷ e ∷ f ∷ g ∷ h ∷ []) all = omega arith
