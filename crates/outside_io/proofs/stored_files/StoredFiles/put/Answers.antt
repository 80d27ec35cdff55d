use Rattle.outside_io.proofs.StoredFilesLemmas.{filed_found, filed_pushed}
use Rattle.outside_io.proofs.stored_files.StoredFiles.put.Goals as goal

pub returns-in-Some : goal.returns-in-Some
returns-in-Some c =
    let found = rw c.deref.ensures.value at c.in-Some.ensures in
    rw (← c.self.view_is, ← c.in_ok-bytes.ensures.items)
    (filed_found c.args.name.now c.in_ok-bytes.bytes _ _ _ found c.index_mut.ensures.value)

pub returns-in_ok-push-in-None : goal.returns-in_ok-push-in-None
returns-in_ok-push-in-None c =
    let none = rw c.deref.ensures.value at c.in-None.ensures in
    rw (← c.self.view_is, ← c.in_ok-bytes.ensures.items, c.in_ok-push-in-None.ensures.items)
    (filed_pushed c.args.name.now _ c.in_ok-bytes.bytes _ none c.in_ok-name-in-None.ensures.ok)
