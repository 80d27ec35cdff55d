use Rattle.std.proofs.Common.{◌≡◌, ℕ, sym, ap, ◌∙◌, subst}
use Rattle.scene_hub.specs.declared.entry.Entry.{Entry}
use Rattle.scene_hub.specs.HubBook.{IsAppended}
use Rattle.scene_hub.proofs.BookSteps.{appends_entry}
use Rattle.scene_hub.proofs.scene_list.append_entry.Goals as goal

pub compare_exchange-requires : goal.compare_exchange-requires
compare_exchange-requires g c =
    let base = c.requires.base in
    let offer = c.plain-offer.ensures in
    let key : c.plain-offer.result.ask.key ≡ c.args.pen.nib.key = ap (λ e. e.key) offer.1 ∙ ap (λ p. p.nib.key) c.of.ensures in (
      ap (λ w. w.tracked) base,
      sym (ap (λ w. w.book) base),
      c.requires.pen.0 ∙ sym (ap (λ w. w.book) base),
      offer.0,
      rw (ap (λ w. w.key) base, offer.3) (appends_entry c.args.log.now.log c.args.pen.nib c.plain-offer.result.ask c.requires.pen.1 key),
    )

pub returns-clause-entry : goal.returns-clause-entry
returns-clause-entry g c =
    let E : ℕ → ℕ → Entry g.row.S.Denot = λ key next. record { key = key; next = next; scene = c.args.scene.value } in
    let e = c.plain-offer.ensures.1 ∙ (ap (λ p. E p.nib.key c.of-2.result.value.nib.key) c.of.ensures ∙ ap (λ p. E c.args.pen.nib.key p.nib.key) c.of-2.ensures) in
    subst (IsAppended c.args.log.now.log c.compare_exchange.new.seen.log) e c.compare_exchange.ensures.7
