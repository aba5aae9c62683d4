use Rattle.std.proofs.Common.{◌≡◌, rules}
use Rattle.network.proofs.OrderEntries.{numbers_of}
use Rattle.network.proofs.order.Order.of.Goals as goal

pub returns-clause-numbers : goal.returns-clause-numbers
returns-clause-numbers c =
    let copied : c.copy_from_slice.new.self ≡ c.args.placed.now = search rules in
    rw copied (numbers_of c.args.count 256 c.args.placed.now c.requires.few c.requires.numbers)
