-- `pushing::make_room` meets its contract. Assumes nothing.
use mathlib.Core.Path.{refl}
use Rattle.prack_list.proofs.PushLaws.{room_none, room_some, room_full}
use Rattle.prack_list.proofs.pushing.make_room.Goals as goal

pub returns-then-n-lt-ENTRIES_AT-clause-kept : goal.returns-then-n-lt-ENTRIES_AT-clause-kept
returns-then-n-lt-ENTRIES_AT-clause-kept c = λ t h. room_none h c.if-n-lt-ENTRIES_AT.true

pub returns-then-count-most-clause-kept : goal.returns-then-count-most-clause-kept
returns-then-count-most-clause-kept c = λ t h. room_some h c.if-n-lt-ENTRIES_AT.false refl c.if-count-most.true

pub returns-clause-kept : goal.returns-clause-kept
returns-clause-kept c = λ t h. room_full h refl c.if-count-most.false c.requires.pending c.requires.room.1 c.shift.ensures
