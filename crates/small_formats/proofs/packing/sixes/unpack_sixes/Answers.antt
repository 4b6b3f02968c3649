use Rattle.std.proofs.Common.{◌≡◌, ℕ, ◌+◌, ◌*◌, ◌/◌, ◌%◌, ◌^◌, ◌<◌, List, refl, sym, ◌∙◌, append-nil, arith, [], ◌∷◌}
use Rattle.std.proofs.Common.{length, take, get_or, subst}
use Rattle.std.specs.Prelude.{All, slice_set}
use Rattle.small_formats.proofs.packing_lemmas.All.{all_append, all_cons, all_none}
use Rattle.small_formats.proofs.packing_lemmas.Groups.{one_more, read_next, set_next, sixes_of_bytes}
use Rattle.small_formats.proofs.packing.sixes.unpack_sixes.Goals as goal
use Rattle.small_formats.proofs.blocks_lemmas.Places.{length_set}

pub loop-index-preserved : goal.loop-index-preserved
loop-index-preserved c =
    let codes = c.loop-index.codes in
    let bytes = c.args.bytes.now in
    let index = c.loop-index.index in
    let at : ℕ = 4 * index in
    let to : ℕ = 3 * index in
    let front = take at codes in
    let back = take to bytes in
    let groups = c.loop-index.invariant.0 in
    let so_far = c.loop-index.invariant.2 in
    let size = so_far.same_bits in
    let test = c.loop-index-test.true in
    let room : at + 4 < length codes + 1 = omega (arith, groups, test) in
    let within : to + 3 < length bytes + 1 = omega (arith, groups, size, test) in
    let low = get_or bytes to 0 in
    let middle = get_or bytes (to + 1) 0 in
    let high = get_or bytes (to + 2) 0 in
    let read_low = read_next bytes back [] to (to + 1) 0 refl (omega (arith, within)) (sym (append-nil back)) in
    let read_middle = read_next bytes back (low ∷ []) (to + 1) (to + 2) 0 (omega arith) (omega (arith, within))
    read_low in
    let read_high = read_next bytes back (low ∷ middle ∷ []) (to + 2) (3 * (index + 1)) 0 (omega arith)
    (omega (arith, within)) read_middle in
    let a : ℕ = low % 64 in
    let b : ℕ = low / 64 + 4 * (middle % 16) in
    let d : ℕ = middle / 16 + 16 * (high % 4) in
    let e : ℕ = high / 4 in
    let one : List ℕ = slice_set codes at a in
    let two : List ℕ = slice_set one (at + 1) b in
    let three : List ℕ = slice_set two (at + 2) d in
    let four : List ℕ = slice_set three (at + 3) e in
    let size_one : length one ≡ length codes = length_set codes at a in
    let size_two : length two ≡ length codes = length_set one (at + 1) b ∙ size_one in
    let size_three : length three ≡ length codes = length_set two (at + 2) d ∙ size_two in
    let size_four : length four ≡ length codes = length_set three (at + 3) e ∙ size_three in
    let set_a = set_next codes front [] at (at + 1) a refl (omega (arith, room)) (sym (append-nil front)) in
    let set_b = set_next one front (a ∷ []) (at + 1) (at + 2) b (omega arith) (omega (arith, room, size_one)) set_a in
    let set_d = set_next two front (a ∷ b ∷ []) (at + 2) (at + 3) d (omega arith) (omega (arith, room, size_two))
    set_b in
    let set_e = set_next three front (a ∷ b ∷ d ∷ []) (at + 3) (4 * (index + 1)) e (omega arith)
    (omega (arith, room, size_three)) set_d in
    let fits = λ (code : ℕ). code < 2 ^ 6 in
    let fit_a : a < 2 ^ 6 = omega arith in
    let low_fits = (c.type_inv.bytes to).fits in
    let middle_fits = (c.type_inv.bytes (to + 1)).fits in
    let high_fits = (c.type_inv.bytes (to + 2)).fits in
    let fit_b : b < 2 ^ 6 = omega (arith, low_fits) in
    let fit_d : d < 2 ^ 6 = omega (arith, middle_fits) in
    let fit_e : e < 2 ^ 6 = omega (arith, high_fits) in (
      size_four ∙ groups,
      subst (λ (xs : List ℕ). All (λ (code : ℕ). code < 2 ^ 6) xs) (sym set_e)
          (all_append fits front (a ∷ b ∷ d ∷ e ∷ []) c.loop-index.invariant.1
          (all_cons fits a (b ∷ d ∷ e ∷ []) fit_a
          (all_cons fits b (d ∷ e ∷ []) fit_b (all_cons fits d (e ∷ []) fit_d
          (all_cons fits e [] fit_e (all_none fits)))))),
      one_more 6 codes bytes four bytes _ _ at to (4 * (index + 1)) (3 * (index + 1)) (omega (arith, room))
          (omega (arith, within)) (omega arith) size_four refl set_e read_high (sixes_of_bytes low middle high) so_far,
    )
