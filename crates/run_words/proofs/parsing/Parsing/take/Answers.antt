use Rattle.std.proofs.Common.{Some, None, sym, ap, subst, ◌∙◌}
use Rattle.std.specs.Option.{option_map}
use Rattle.run_words.specs.Meant.{name_meant}
use Rattle.run_words.specs.Parsing.{Parsed, continued}
use Rattle.run_words.proofs.Continuing.{Sets, take-halves, take-name, take-pending, take-script}
use Rattle.run_words.proofs.parsing.Parsing.take.Goals as goal

pub returns-in-Some : goal.returns-in-Some
returns-in-Some c = λ rest.
    take-pending c.set.result c.args.self.now c.set.new.self (name_meant c.in-Some.option) c.args.word.now rest
    (sym (ap (λ (p : Parsed). p.pending) c.self.view_is) ∙ ap (option_map name_meant) c.in-Some.is)
    (subst (λ (p : Parsed). Sets c.set.result (record p { pending = None }) c.set.new.self (name_meant c.in-Some.option) c.args.word.now) c.self.view_is
    (rw c.as_bytes.ensures.value at c.set.ensures))

pub returns-in-Some-halves : goal.returns-in-Some-halves
returns-in-Some-halves c = λ rest.
    take-halves c.args.self.now (sym (ap (λ (p : Parsed). p.pending) c.self.view_is) ∙ ap (option_map name_meant) c.in_default.is) c.args.word.now rest
    (c.in-Some-halves.name.now, c.in-Some-halves.value.now) (sym (rw c.as_bytes-2.ensures.value at c.in-Some-halves.ensures))
    c.set-in-Some-halves.result c.set-in-Some-halves.new.self (name_meant c.in_ok-option.option)
    (sym c.in_ok-option.ensures) c.set-in-Some-halves.ensures

pub returns-then-is_file_name : goal.returns-then-is_file_name
returns-then-is_file_name c = λ rest.
    take-script c.args.self.now (sym (ap (λ (p : Parsed). p.pending) c.self.view_is) ∙ ap (option_map name_meant) c.in_default.is) c.args.word.now rest
    (sym (rw (c.in_default-halves.is, c.as_bytes-2.ensures.value) at c.halves.ensures))
    c.set_script.result c.set_script.new.self c.set_script.new.self.script
    (sym (rw c.as_bytes-3.ensures.value at c.if-is_file_name.ensures)) c.set_script.ensures.others c.set_script.ensures.set

pub returns : goal.returns
returns c = λ rest.
    take-name c.args.self.now (sym (ap (λ (p : Parsed). p.pending) c.self.view_is) ∙ ap (option_map name_meant) c.in_default.is) c.args.word.now rest
    (sym (rw (c.in_default-halves.is, c.as_bytes-2.ensures.value) at c.halves.ensures))
    (name_meant c.in_ok-option-2.option) (sym (rw c.as_bytes-3.ensures.value at c.if-is_file_name.ensures)) (sym (rw c.as_bytes-4.ensures.value at c.in_ok-option-2.ensures))
    ∙ ap (λ (p : Parsed). continued (record p { pending = Some (name_meant c.in_ok-option-2.option) }) rest) (sym c.self.view_is)
