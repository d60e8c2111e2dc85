use Rattle.due_queue.proofs.Entries.{none_where_not, room_where_found}
use Rattle.due_queue.proofs.queue.entry_for.Goals as goal

pub returns-clause-room : goal.returns-clause-room
returns-clause-room c = room_where_found c.args.dest.now c.args.reserved.now c.first_same.result c.first_same.ensures

pub returns-clause-none : goal.returns-clause-none
returns-clause-none c = none_where_not c.args.dest.now c.args.reserved.now c.first_same.result c.first_same.ensures
