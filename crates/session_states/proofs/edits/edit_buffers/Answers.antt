use Rattle.std.proofs.Common.{rules, ◌∙◌, List, ℕ, ap, sym, subst}
use Rattle.std.proofs.lemmas.Result.{IfErr-weaker}
use Rattle.chain_owners.proofs.Growing.{grows-same}
use Rattle.chain_owners.specs.Counts.{Counts, Grows}
use Rattle.model_buffers.specs.declared.edit.BufferEdit.{BufferEdit}
use Rattle.model_buffers.specs.declared.edit.BufferEdit.TheVariants.{Duplicate, Fill, Put}
use Rattle.root_tiles.specs.Chains.{chain_state}
use Rattle.buffer_view.proofs.Refusals.{added-cause}
use Rattle.buffer_view.specs.Edits.{EditsBuffers}
use Rattle.session_states.proofs.Edited.{added-edits}
use Rattle.session_states.proofs.edits.edit_buffers.Goals as goal

pub returns-in-Create : goal.returns-in-Create
returns-in-Create g c =
    subst (λ (e : BufferEdit). EditsBuffers e c.create.result c.args.buffers.now c.create.new.self (chain_state g.C.ChainMeaning c.args.chain.now) (chain_state g.C.ChainMeaning c.args.chain.now)) (sym c.in-Create.is)
    (added-edits _ c.create.result c.args.buffers.now c.create.new.self _ c.create.ensures c.requires.over)

pub returns-in-Sub : goal.returns-in-Sub
returns-in-Sub g c =
    subst (λ (e : BufferEdit). EditsBuffers e c.sub.result c.args.buffers.now c.sub.new.self (chain_state g.C.ChainMeaning c.args.chain.now) (chain_state g.C.ChainMeaning c.args.chain.now)) (sym c.in-Sub.is)
    (added-edits _ c.sub.result c.args.buffers.now c.sub.new.self _ c.sub.ensures c.requires.over)

pub returns-in-Duplicate : goal.returns-in-Duplicate
returns-in-Duplicate g c =
    let s0 = chain_state g.C.ChainMeaning c.args.chain.now in
    let s1 = chain_state g.C.ChainMeaning c.dup.new.chain in
    subst (λ (e : BufferEdit). EditsBuffers e c.dup.result c.args.buffers.now c.dup.new.self s0 s1) (sym c.in-Duplicate.is)
    (record {
      layout = c.dup.ensures.layout;
      table = c.dup.ensures.table;
      exact = c.dup.ensures.exact;
      cause = IfErr-weaker c.dup.result _ _ (added-cause c.args.buffers.now.layout (Duplicate c.in-Duplicate.name c.in-Duplicate.from) s0.counts s1.counts) c.dup.ensures.cause;
      carried_out = c.dup.ensures.carried_out;
      over = c.dup.ensures.over;
      left = record {
        others = c.dup.ensures.others;
        counts = subst (λ (n : Counts). Grows 0 s0.counts n) (sym c.dup.ensures.counts) (grows-same s0.counts);
        loans = c.dup.ensures.loans;
        valid = c.dup.ensures.valid;
      };
    })

pub returns-in-Fill : goal.returns-in-Fill
returns-in-Fill g c =
    subst (λ (e : BufferEdit). EditsBuffers e c.fill.result c.args.buffers.now c.fill.new.self (chain_state g.C.ChainMeaning c.args.chain.now) (chain_state g.C.ChainMeaning c.fill.new.chain))
    (ap (λ (xs : List ℕ). Fill c.in-Fill.name c.in-Fill.rect xs) c.as_slice.ensures ∙ sym c.in-Fill.is) c.fill.ensures

pub returns-in-Put : goal.returns-in-Put
returns-in-Put g c =
    subst (λ (e : BufferEdit). EditsBuffers e c.put_raw.result c.args.buffers.now c.put_raw.new.self (chain_state g.C.ChainMeaning c.args.chain.now) (chain_state g.C.ChainMeaning c.put_raw.new.chain))
    (ap (λ (xs : List ℕ). Put c.in-Put.name c.in-Put.rect xs) c.as_slice-in-Put.ensures ∙ sym c.in-Put.is) c.put_raw.ensures

pub returns-in-Copy : goal.returns-in-Copy
returns-in-Copy g c =
    let s0 = chain_state g.C.ChainMeaning c.args.chain.now in
    let s1 = chain_state g.C.ChainMeaning c.copy.new.chain in
    let done = c.copy.ensures in
    subst (λ (e : BufferEdit). EditsBuffers e c.copy.result c.args.buffers.now c.copy.new.self s0 s1) (sym c.in-Copy.is)
    (record {
      layout = search (rules, done.layout);
      table = search (rules, done.table);
      exact = search (rules, done.exact);
      cause = search (rules, done.cause);
      carried_out = search (rules, done.carried_out);
      over = done.over;
      left = record { others = done.left.others; counts = search (rules, done.left.counts); loans = done.left.loans; valid = done.left.valid };
    })
