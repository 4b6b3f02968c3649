use Rattle.std.proofs.Common.{sym, ap}
use Rattle.commands.specs.Commands.{found, operations}
use Rattle.commands.proofs.words.operation_named.Goals as goal

pub returns-in-add : goal.returns-in-add
returns-in-add c = sym (ap (found operations) c.in-add.is)

pub returns-in-sub : goal.returns-in-sub
returns-in-sub c = sym (ap (found operations) c.in-sub.is)

pub returns-in-mul : goal.returns-in-mul
returns-in-mul c = sym (ap (found operations) c.in-mul.is)

pub returns-in-div : goal.returns-in-div
returns-in-div c = sym (ap (found operations) c.in-div.is)

pub returns-in-rem : goal.returns-in-rem
returns-in-rem c = sym (ap (found operations) c.in-rem.is)

pub returns-in-mod : goal.returns-in-mod
returns-in-mod c = sym (ap (found operations) c.in-mod.is)

pub returns-in-fma : goal.returns-in-fma
returns-in-fma c = sym (ap (found operations) c.in-fma.is)

pub returns-in-int : goal.returns-in-int
returns-in-int c = sym (ap (found operations) c.in-int.is)

pub returns-in-parse : goal.returns-in-parse
returns-in-parse c = sym (ap (found operations) c.in-parse.is)
