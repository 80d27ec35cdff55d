use Rattle.buffer_layouts.proofs.Rooted.{entry_of_view, number_of_view}
use Rattle.buffer_layouts.proofs.laws.roots_have_numbers.Goals as goal

pub returns-clause-below : goal.returns-clause-below
returns-clause-below c = number_of_view

pub returns-clause-entry : goal.returns-clause-entry
returns-clause-entry c = entry_of_view
