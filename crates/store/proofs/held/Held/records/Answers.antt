-- `records` of `Held` meets its contract: a store's bytes are whole records. Assumes nothing.
use Rattle.store.proofs.HeldLaws.{given_whole}
use Rattle.store.proofs.held.Held.records.Goals as goal

pub new-requires : goal.new-requires
new-requires c = given_whole c.args.self.bytes.now c.args.self.stored
