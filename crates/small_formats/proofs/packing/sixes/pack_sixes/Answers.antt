use Rattle.std.proofs.Common.{◌≡◌, ℕ, ◌+◌, ◌*◌, ◌/◌, ◌%◌, ◌<◌, List, refl, sym, ◌∙◌, append-nil, arith, [], ◌∷◌}
use Rattle.std.proofs.Common.{length, take, get_or}
use Rattle.std.specs.Prelude.{slice_set}
use Rattle.small_formats.proofs.packing_lemmas.Groups.{bytes_of_number, one_more, read_next, set_next}
use Rattle.small_formats.proofs.packing.sixes.pack_sixes.Goals as goal
use Rattle.small_formats.proofs.blocks_lemmas.Places.{length_set}

pub loop-index-preserved : goal.loop-index-preserved
loop-index-preserved c =
    let codes = c.args.codes.now in
    let bytes = c.loop-index.bytes in
    let index = c.loop-index.index in
    let number = c.number_of-number.result in
    let at : ℕ = 4 * index in
    let to : ℕ = 3 * index in
    let front = take at codes in
    let back = take to bytes in
    let groups = c.loop-index.invariant.0 in
    let size = c.loop-index.invariant.1.same_bits in
    let test = c.loop-index-test.true in
    let room : at + 4 < length codes + 1 = omega (arith, groups, test) in
    let within : to + 3 < length bytes + 1 = omega (arith, groups, size, test) in
    let a = get_or codes at 0 in
    let b = get_or codes (at + 1) 0 in
    let d = get_or codes (at + 2) 0 in
    let e = get_or codes (at + 3) 0 in
    let read_a = read_next codes front [] at (at + 1) 0 refl (omega (arith, room)) (sym (append-nil front)) in
    let read_b = read_next codes front (a ∷ []) (at + 1) (at + 2) 0 (omega arith) (omega (arith, room)) read_a in
    let read_d = read_next codes front (a ∷ b ∷ []) (at + 2) (at + 3) 0 (omega arith) (omega (arith, room)) read_b in
    let read_e = read_next codes front (a ∷ b ∷ d ∷ []) (at + 3) (4 * (index + 1)) 0 (omega arith)
    (omega (arith, room)) read_d in
    let low : ℕ = number % 256 in
    let middle : ℕ = number / 256 % 256 in
    let high : ℕ = number / 65536 in
    let once : List ℕ = slice_set bytes to low in
    let twice : List ℕ = slice_set once (to + 1) middle in
    let all : List ℕ = slice_set twice (to + 2) high in
    let size_once : length once ≡ length bytes = length_set bytes to low in
    let size_twice : length twice ≡ length bytes = length_set once (to + 1) middle ∙ size_once in
    let set_low = set_next bytes back [] to (to + 1) low refl (omega (arith, within)) (sym (append-nil back)) in
    let set_middle = set_next once back (low ∷ []) (to + 1) (to + 2) middle (omega arith)
    (omega (arith, within, size_once)) set_low in
    let set_high = set_next twice back (low ∷ middle ∷ []) (to + 2) (3 * (index + 1)) high (omega arith)
    (omega (arith, within, size_twice)) set_middle in
    let value = c.number_of-number.ensures.value in (
      groups,
      one_more 6 codes bytes codes all _ _ at to (4 * (index + 1)) (3 * (index + 1)) (omega (arith, room))
          (omega (arith, within)) (omega arith) refl (length_set twice (to + 2) high ∙ size_twice) read_e set_high
          (bytes_of_number number
          ∙ (let z : number ≡ a + 64 * (b + 64 * (d + 64 * (e + 64 * 0))) = omega (arith, value) in z))
          c.loop-index.invariant.1,
    )
