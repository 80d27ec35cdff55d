use Rattle.std.proofs.Common.{refl, sym, ap, ◌∙◌, rules, tests}
use Rattle.std.proofs.Math.ListN.{set}
use Rattle.std.specs.Str.{bytes_eq}
use Rattle.std.proofs.lemmas.Iterator.{YieldsList-from_slice}
use Rattle.std.proofs.lemmas.Iterator.Search.{position_from_yields_List}
use Rattle.std.proofs.lemmas.List.Quantifiers.{position-Some}
use Rattle.plane_rect.specs.Rectangle.{Rectangle}
use Rattle.model_graphs.specs.declared.buffer.Edited.{Edited}
use Rattle.model_graphs.specs.Facts.{rectangles_of}
use Rattle.commit_session.proofs.Hulls.{grown, none-passes, push-written, set-written}
use Rattle.commit_session.proofs.written.add_written.Goals as goal

pub returns-in-Some : goal.returns-in-Some
returns-in-Some c =
    let es = c.args.written.now.items in
    let i = c.in-Some.index in
    let entry : Edited = c.index_mut-entry.result.now in
    let found = position_from_yields_List (λ (e : Edited). bytes_eq c.args.root e.root) _ _ c.position.result c.position.ensures.ran (YieldsList-from_slice es cc) (λ x b q k. search (rules, tests)) in
    let there = position-Some (λ (e : Edited). bytes_eq c.args.root e.root) es i entry (sym found ∙ c.in-Some.is) in
    ap (λ (r : Rectangle). rectangles_of (set es i (record { root = entry.root; rect = r }))) c.hull-entry.ensures.value
    ∙ ap (λ (e : Edited). rectangles_of (set es i (grown c.args.root c.args.rect e))) c.index_mut-entry.ensures.value
    ∙ set-written c.args.root c.args.rect es i entry there.0 there.1 there.2

pub returns-in-None : goal.returns-in-None
returns-in-None c =
    let es = c.args.written.now.items in
    let last : Edited = record { root = c.args.root; rect = c.args.rect } in
    let found = position_from_yields_List (λ (e : Edited). bytes_eq c.args.root e.root) _ _ c.position.result c.position.ensures.ran (YieldsList-from_slice es cc) (λ x b q k. search (rules, tests)) in
    ap rectangles_of c.push_reserved.ensures.items
    ∙ push-written c.args.root c.args.rect es last last refl (none-passes (λ (e : Edited). bytes_eq c.args.root e.root) es last (sym found ∙ c.in-None.is))
