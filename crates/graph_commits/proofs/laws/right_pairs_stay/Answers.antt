use Rattle.model_graphs.specs.Laws.{KeepsLaws}
use Rattle.graph_commits.proofs.VoidLaws as laws
use Rattle.graph_commits.proofs.laws.right_pairs_stay.Given
use Rattle.graph_commits.proofs.laws.right_pairs_stay.Goals as goal

keeps : (g : Given.Over) → KeepsLaws g.Op.OpMeaning.meanings
keeps g = record { local = g.Op.OpMeaning.local; dual = g.Op.OpMeaning.dual }

pub returns-clause-onward : goal.returns-clause-onward
returns-clause-onward g c = λ change old new list is right.
    laws.right_onward g.Op.OpMeaning.same g.Op.OpMeaning.meanings g.Op.OpMeaning.distinguished (keeps g) change old new list is right

pub returns-clause-back : goal.returns-clause-back
returns-clause-back g c = λ change old new list is old_rectangles new_rectangles right.
    laws.right_back g.Op.OpMeaning.same g.Op.OpMeaning.meanings g.Op.OpMeaning.distinguished (keeps g) change old new list is old_rectangles new_rectangles right
