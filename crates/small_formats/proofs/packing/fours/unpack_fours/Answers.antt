use Rattle.std.proofs.Common.{◌≡◌, ℕ, ◌+◌, ◌*◌, ◌/◌, ◌%◌, ◌^◌, ◌<◌, List, refl, sym, ◌∙◌, append-nil, arith, [], ◌∷◌}
use Rattle.std.proofs.{Common.length, Common.take, Common.get_or, Common.subst, lemmas.List.take_more}
use Rattle.std.specs.Prelude.{All, slice_set}
use Rattle.small_formats.proofs.packing_lemmas.All.{all_append, all_cons, all_none}
use Rattle.small_formats.proofs.packing_lemmas.Groups.{byte_of_fours, one_more, set_next}
use Rattle.small_formats.proofs.packing.fours.unpack_fours.Goals as goal
use Rattle.small_formats.proofs.blocks_lemmas.Places.{length_set}

pub loop-index-preserved : goal.loop-index-preserved
loop-index-preserved c =
    let codes = c.loop-index.codes in
    let bytes = c.args.bytes.now in
    let index = c.loop-index.index in
    let byte = get_or bytes index 0 in
    let front = take (2 * index) codes in
    let size = c.loop-index.invariant.1.same_bits in
    let within : index < length bytes = c.loop-index-test.true in
    let once : List ℕ = slice_set codes (2 * index) (byte % 16) in
    let twice : List ℕ = slice_set once (2 * index + 1) (byte / 16) in
    let same : length once ≡ length codes = length_set codes (2 * index) (byte % 16) in
    let first = set_next codes front [] (2 * index) (2 * index + 1) (byte % 16) refl (omega (arith, size, within))
    (sym (append-nil front)) in
    let second = set_next once front ((byte % 16) ∷ []) (2 * index + 1) (2 * (index + 1)) (byte / 16) (omega arith)
    (omega (arith, size, same, within)) first in
    let fits = λ (code : ℕ). code < 2 ^ 4 in
    let low : byte % 16 < 2 ^ 4 = omega arith in
    let byte_fits = (c.type_inv.bytes index).fits in
    let high : byte / 16 < 2 ^ 4 = omega (arith, byte_fits) in (
      subst (λ (xs : List ℕ). All (λ (code : ℕ). code < 2 ^ 4) xs) (sym second)
          (all_append fits front ((byte % 16) ∷ (byte / 16) ∷ []) c.loop-index.invariant.0
          (all_cons fits (byte % 16) ((byte / 16) ∷ []) low (all_cons fits (byte / 16) [] high (all_none fits)))),
      one_more 4 codes bytes twice bytes _ _ (2 * index) index (2 * (index + 1)) (index + 1)
          (omega (arith, size, within)) (omega (arith, within)) (omega arith)
          (length_set once (2 * index + 1) (byte / 16) ∙ same) refl second (take_more bytes index 0 within)
          (byte_of_fours byte) c.loop-index.invariant.1,
    )
