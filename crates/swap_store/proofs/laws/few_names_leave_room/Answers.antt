use Rattle.swap_store.proofs.Windows.{few_names_leave_room}
use Rattle.swap_store.proofs.laws.few_names_leave_room.Goals as goal

pub returns : goal.returns
returns c = few_names_leave_room
