use Rattle.outside_io.proofs.StoredFilesLemmas.{file_found, file_missing}
use Rattle.outside_io.proofs.stored_files.StoredFiles.get.Goals as goal

pub returns-in_err-number : goal.returns-in_err-number
returns-in_err-number c =
    let none = rw c.deref.ensures.value at c.in_err-number.ensures in
    rw (c.from_residual.ensures, ← c.self.view_is) (file_missing c.args.name.now c.self.inside.stored.items none)

pub returns : goal.returns
returns c =
    let found = rw c.deref.ensures.value at c.in_ok-number.ensures in
    rw (c.deref-2.ensures.value, ← c.self.view_is) (file_found c.args.name.now c.self.inside.stored.items _ _ found c.index.ensures)
