use Rattle.std.proofs.Common.{◌≡◌, ℕ, List, [], ◌∷◌, ◌++◌, ◌+◌, ◌<◌, None, drop, length, sym, ap, ◌∙◌, arith}
use Rattle.std.proofs.lemmas.List.{append-nil, drop_more, drop_all}
use Rattle.script_words.specs.Lines.{text_of}
use Rattle.script_read.proofs.PrintLaws.{AreTyped, Rises, Rises-script, prints_all, prints_nothing, prints_on}
use Rattle.script_read.proofs.ReadBack.{reads_back}
use Rattle.script_read.specs.Script.{script_of}
use Rattle.script_read.specs.Spelling.{lines_printed, printed}
use Rattle.script_read.specs.declared.command.Line.{Line}
use Rattle.script_read.proofs.printer.print_script.Goals as goal

pub loop-line-init : goal.loop-line-init
loop-line-init c = record {
  text = rw c.new-text.ensures.items (prints_all c.args.lines.now);
  typed = λ typed. typed;
  rises = Rises-script 1 None c.args.lines.now c.requires;
}

pub loop-line-preserved : goal.loop-line-preserved
loop-line-preserved c =
    let text = c.loop-line.text.items in
    let lines = c.args.lines.now in
    let i = c.loop-line.line-index in
    let next = c.loop-line.next in
    let line : Line = c.line-item.result in
    let below : i < length lines = c.loop-line-test.true in
    let remaining : drop i lines ≡ line ∷ drop (i + 1) lines = drop_more lines i line below ∙ ap (λ (l : Line). l ∷ drop (i + 1) lines) (sym c.line-item.is) in
    let rises : Rises next (line ∷ drop (i + 1) lines) = rw remaining at c.loop-line.invariant.rises in
    record {
      text =
          rw (c.in_ok-push.ensures.items, c.in_ok-put_command.ensures.text, c.in_ok-put_feeds.ensures)
          (sym (prints_on text next line (drop (i + 1) lines))
          ∙ ap (λ (rest : List Line). text ++ text_of (lines_printed next rest)) (sym remaining)
          ∙ c.loop-line.invariant.text);
      typed = λ typed. c.loop-line.invariant.typed (rw remaining (c.in_ok-put_command.ensures.valid, typed));
      rises = rises.2;
    }

pub returns-clause-text : goal.returns-clause-text
returns-clause-text c =
    let text = c.loop-line.text.items in
    let lines = c.args.lines.now in
    let next = c.loop-line.next in
    let end : drop c.loop-line.line-index lines ≡ [] = drop_all c.loop-line.line-index lines (omega arith) in
    sym (append-nil text)
    ∙ ap (λ (nothing : List ℕ). text ++ nothing) (sym (prints_nothing next))
    ∙ ap (λ (rest : List Line). text ++ text_of (lines_printed next rest)) (sym end)
    ∙ c.loop-line.invariant.text

pub returns-clause-reads : goal.returns-clause-reads
returns-clause-reads c =
    let text = c.loop-line.text.items in
    let lines = c.args.lines.now in
    let next = c.loop-line.next in
    let end : drop c.loop-line.line-index lines ≡ [] = drop_all c.loop-line.line-index lines (omega arith) in
    let typed : AreTyped lines = c.loop-line.invariant.typed (rw end tt) in
    let whole : text ≡ printed lines =
    sym (append-nil text)
    ∙ ap (λ (nothing : List ℕ). text ++ nothing) (sym (prints_nothing next))
    ∙ ap (λ (rest : List Line). text ++ text_of (lines_printed next rest)) (sym end)
    ∙ c.loop-line.invariant.text in
    ap script_of whole ∙ reads_back lines c.requires typed
