use Rattle.std.proofs.Common.{refl}
use Rattle.name_maps.specs.Pages.{names_of}
use Rattle.name_maps.proofs.name_pages.NamePages.new.Goals as goal

pub returns : goal.returns
unfolding names_of
returns g c = rw c.new.ensures.empty refl
