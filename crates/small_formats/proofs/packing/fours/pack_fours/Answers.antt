use Rattle.std.proofs.Common.{◌+◌, ◌*◌, ◌<◌, sym, append-nil, refl, arith, [], ◌∷◌, length, take, get_or}
use Rattle.std.proofs.lemmas.List.{take_more_set}
use Rattle.small_formats.proofs.packing_lemmas.Groups.{one_more, read_next}
use Rattle.small_formats.proofs.packing.fours.pack_fours.Goals as goal
use Rattle.small_formats.proofs.blocks_lemmas.Places.{length_set}

pub loop-index-preserved : goal.loop-index-preserved
loop-index-preserved c =
    let codes = c.args.codes.now in
    let bytes = c.loop-index.bytes in
    let index = c.loop-index.index in
    let front = take (2 * index) codes in
    let size = c.loop-index.invariant.same_bits in
    let within : index < length bytes = omega (arith, c.loop-index-test.true, size, c.if-bytes-codes.false) in
    let first = read_next codes front [] (2 * index) (2 * index + 1) 0 refl (omega (arith, size, within))
    (sym (append-nil front)) in
    let second = read_next codes front (get_or codes (2 * index) 0 ∷ []) (2 * index + 1) (2 * (index + 1)) 0
    (omega arith) (omega (arith, size, within)) first in
    one_more 4 codes bytes codes _ _ _ (2 * index) index (2 * (index + 1)) (index + 1) (omega (arith, size, within))
    (omega (arith, within)) (omega arith) refl (length_set bytes index c.byte_of.result) second
    (take_more_set bytes index c.byte_of.result within) (let e = c.byte_of.ensures in omega (arith, e))
    c.loop-index.invariant
