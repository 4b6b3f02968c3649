use Rattle.std.proofs.Common.{◌-◌, ℕ, arith}
use Rattle.std.proofs.lemmas.List.{length-replicate}
use Rattle.apfloat_decimals.proofs.spelled.Lines.{below_one_counted, below_one_length}
use Rattle.apfloat_decimals.proofs.spelled.PutTexts.{put_same, put_then}
use Rattle.apfloat_decimals.proofs.formatting.put_below_one.Goals as goal

pub put_byte-at-requires-clause-room : goal.put_byte-at-requires-clause-room
put_byte-at-requires-clause-room c =
    let all = below_one_length c.args.number c.args.places (omega arith)
    (omega (arith, c.requires.count, c.requires.places)) in
    omega (arith, all, c.requires.room)

pub put_byte-at-requires-2-clause-room : goal.put_byte-at-requires-2-clause-room
put_byte-at-requires-2-clause-room c =
    let all = below_one_length c.args.number c.args.places (omega arith)
    (omega (arith, c.requires.count, c.requires.places)) in
    omega (arith, all, c.requires.room, c.put_byte-at.ensures.moved)

pub put_zeros-at-requires-clause-room : goal.put_zeros-at-requires-clause-room
put_zeros-at-requires-clause-room c =
    let all = below_one_length c.args.number c.args.places (omega arith)
    (omega (arith, c.requires.count, c.requires.places)) in
    omega (arith, all, c.requires.room, c.put_byte-at.ensures.moved, c.put_byte-at-2.ensures.moved)

pub put_counted-requires-clause-room : goal.put_counted-requires-clause-room
put_counted-requires-clause-room c =
    let all = below_one_length c.args.number c.args.places (omega arith)
    (omega (arith, c.requires.count, c.requires.places)) in
    let zeros = length-replicate {A = ℕ} (c.args.places - c.args.count) 48 in
    let third = c.put_zeros-at.ensures.moved in
    omega (
      arith,
      all,
      zeros,
      third,
      c.requires.count,
      c.requires.places,
      c.requires.room,
      c.put_byte-at.ensures.moved,
      c.put_byte-at-2.ensures.moved,
    )

pub returns : goal.returns
returns c =
    put_same
    (below_one_counted c.args.number c.args.count c.args.places (omega arith) c.requires.count c.requires.places)
    (put_then c.put_byte-at.ensures
    (put_then c.put_byte-at-2.ensures (put_then c.put_zeros-at.ensures c.put_counted.ensures)))
