use Rattle.view_reads.proofs.levels.reach_of.Goals as goal

pub returns-then-contains : goal.returns-then-contains
returns-then-contains c = λ u v in_plane is in_box.
    c.contains.ensures.positions.0 c.if-contains.true u v
    ((c.meet-2.ensures.positions u v).1 ((c.source_of-source.ensures.positions u v).1 (in_plane, is), in_box))
