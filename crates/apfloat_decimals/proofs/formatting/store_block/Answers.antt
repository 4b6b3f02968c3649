use Rattle.std.proofs.Common.{arith}
use Rattle.apfloat_decimals.proofs.spelled.LastDigits.{moved_few, moved_taken}
use Rattle.apfloat_decimals.proofs.formatting.store_block.Goals as goal

pub overflow_mul-number : goal.overflow_mul-number
overflow_mul-number c =
    let few = moved_few 10 c.args.count c.args.number c.if-count-le10.true c.requires.few in
    rw c.power_of_ten.ensures (record { fits = omega (arith, few) })

pub store_ten-requires-clause-few : goal.store_ten-requires-clause-few
store_ten-requires-clause-few c =
    rw c.power_of_ten.ensures (moved_few 10 c.args.count c.args.number c.if-count-le10.true c.requires.few)

pub returns-then-count-le10-clause-taken : goal.returns-then-count-le10-clause-taken
returns-then-count-le10-clause-taken c =
    moved_taken 10 c.args.count c.args.number c.power_of_ten.result c.args.at c.args.bytes.now c.store_ten.new.bytes
    c.if-count-le10.true (omega (arith, c.requires.room)) c.power_of_ten.ensures c.store_ten.ensures.taken

pub overflow_mul-number-else-count-le10 : goal.overflow_mul-number-else-count-le10
overflow_mul-number-else-count-le10 c =
    let few = moved_few 18 c.args.count c.args.number c.requires.most c.requires.few in
    rw c.power_of_ten-else-count-le10.ensures (record { fits = omega (arith, few) })

pub store_eighteen-requires-clause-few : goal.store_eighteen-requires-clause-few
store_eighteen-requires-clause-few c =
    rw c.power_of_ten-else-count-le10.ensures (moved_few 18 c.args.count c.args.number c.requires.most c.requires.few)

pub returns-else-count-le10-clause-taken : goal.returns-else-count-le10-clause-taken
returns-else-count-le10-clause-taken c =
    moved_taken 18 c.args.count c.args.number c.power_of_ten-else-count-le10.result c.args.at c.args.bytes.now
    c.store_eighteen.new.bytes c.requires.most (omega (arith, c.requires.room))
    c.power_of_ten-else-count-le10.ensures c.store_eighteen.ensures.taken
