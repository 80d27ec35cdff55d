use Rattle.std.proofs.Common.{◌≡◌, ℕ, ◌+◌, ◌++◌, List, take, drop, length, IsTrue, Ok, sym, ap, ◌∙◌, arith, subst}
use Rattle.std.proofs.lemmas.List.{take-append-le, take_all}
use Rattle.outside_io.specs.Files.{Files, file}
use Rattle.outside_io.specs.Shelf.{GivesPart}
use Rattle.run_lines.specs.Rasters.{IsPart, IsPartRead}
use Rattle.run_lines.proofs.Reading.{part_read, some_each}
use Rattle.run_lines.proofs.loads.read_part.Goals as goal

pub returns-in-Ok-clause-read : goal.returns-in-Ok-clause-read
returns-in-Ok-clause-read g c =
    let start = c.args.start in
    let count = c.args.count in
    let into = c.read_part.new.into in
    let items = c.make_room.new.bytes.items in
    let room = length c.deref_mut.result.now in
    let sum : room ≡ count + c.from.result = ap length c.deref_mut.ensures.value ∙ c.in_ok-make_room.ensures in
    let more : IsTrue c.args.is_last → room ≡ count + 1 = λ last. (let one : c.from.result ≡ 1 = rw last at c.from.ensures in omega (arith, sum, one)) in
    let whole : c.make_room.new.bytes.len ≡ length into = sym c.deref_mut.ensures.len ∙ sym c.in-Ok.ensures.length in
    let all : take c.make_room.new.bytes.len (into ++ drop (length into) items) ≡ into =
    ap (λ (n : ℕ). take n (into ++ drop (length into) items)) whole ∙ take-append-le (length into) into (drop (length into) items) (omega arith) ∙ take_all (length into) into (omega arith) in
    let first : c.truncate.new.self.items ≡ take count into = c.truncate.ensures.items ∙ ap (take count) all in
    some_each (g.F.Shelf.files c.args.shelf.now)
    (λ (files : Files). GivesPart (file files c.as_str.result.now) start room into (Ok c.in-Ok.found))
    (λ (files : Files). (wanted : ℕ) → IsPart start count c.args.is_last wanted → IsPartRead (file files c.args.file.now) start count c.args.is_last wanted c.truncate.new.self.items)
    (λ files gives.
    part_read (file files c.args.file.now) start count room c.args.is_last c.in-Ok.found into c.truncate.new.self.items
    (subst (λ (name : List ℕ). GivesPart (file files name) start room into (Ok c.in-Ok.found)) c.as_str.ensures.value gives) c.if-found-count.true more first)
    c.in-Ok.ensures.gives
