use Rattle.std.proofs.Common.{sym}
use Rattle.strip_patches.proofs.Served.{member-at, shape-shown}
use Rattle.strip_patches.proofs.laws.images_are_stated.Goals as goal

pub returns : goal.returns
returns g c = λ meanings facts nodes images node stated shown below.
    let fact = member-at nodes node below in
    sym (shape-shown meanings facts nodes stated node fact.0 fact.1 images shown)
