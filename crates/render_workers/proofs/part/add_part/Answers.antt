use Rattle.std.proofs.Common.{[], ℕ, List, Result, length, length-append, refl, ◌∙◌, subst, arith, sym}
use Rattle.std.proofs.lemmas.List.{length-map}
use Rattle.model_graphs.specs.declared.node.NodeFact.{NodeFact}
use Rattle.model_graphs.specs.Facts.{specs_of}
use Rattle.model_graphs.specs.Meanings.{Meanings}
use Rattle.model_states.specs.declared.strip.Strip.{Strip}
use Rattle.model_states.specs.Cache.{Pair, pair_of}
use Rattle.chain_owners.specs.declared.swap_refused.SwapRefused.{SwapRefused}
use Rattle.strip_renders.specs.Ahead.{MadeTiles}
use Rattle.strip_renders.specs.Looks.{HasSameCache}
use Rattle.strip_renders.specs.Moments.{IsLeft, RenderState, render_state}
use Rattle.strip_renders.specs.Strips.{HoldsNeed, needed_from, needs_of, pairs_needed}
use Rattle.strip_renders.proofs.Moments.{left-most, read-left, read-same, refused-as}
use Rattle.strip_renders.proofs.Nexts.{next-few}
use Rattle.strip_patches.specs.declared.picture_strips.PictureStrips.{PictureStrips}
use Rattle.render_workers.specs.declared.part.LookCounts.{LookCounts}
use Rattle.render_workers.specs.Parts.{Leaves, LooksUp}
use Rattle.render_workers.specs.Renders.{RendersPart}
use Rattle.render_workers.proofs.Held.{part-held}
use Rattle.render_workers.proofs.Joined.{excused-reads, leaves-ended, leaves-reads, looks-reads}
use Rattle.render_workers.proofs.Needs.{pairs-from, pairs_of}
use Rattle.render_workers.proofs.Strip.{done-few, strip-excused, strip-leaves, strip-looks}
use Rattle.render_workers.proofs.part.add_part.Given
use Rattle.render_workers.proofs.part.add_part.Goals.{After-add_strip, After-render_strip}
use Rattle.render_workers.proofs.part.add_part.Goals as goal

module _ (g : Given.Over) where
  abbrev state : g.row.S.Denot → g.row.C.Denot → g.row.H.Denot → ℕ → RenderState
  state sources cache chain permits = render_state g.H.ChainMeaning g.S.SourceTiles g.C.PairStore sources cache chain permits

  -- what it promises where it ends in this state, with this picture
  module _ (c : After-render_strip g) where
    abbrev Does : PictureStrips → RenderState → Result LookCounts SwapRefused → Type 0
    Does strips' new result =
        RendersPart g.K.Op.OpMeaning.meanings c.args.by.now.nodes.now c.args.node c.args.strip.now c.args.later.now c.args.strips.now strips' c.args.ahead.now c.render_strip.new.ahead
        (state c.args.sources.now c.args.cache.now c.args.chain.now (g.K.OpKit.permits c.args.purse.now)) new result

-- ---- when the strip was refused

pub returns-in_err-done : goal.returns-in_err-done
returns-in_err-done g c =
    let at = (goal.at.returns-in_err-done g c).After-render_strip in
    let old = state g c.args.sources.now c.args.cache.now c.args.chain.now (g.K.OpKit.permits c.args.purse.now) in
    let mid = state g c.render_strip.new.sources c.render_strip.new.cache c.render_strip.new.chain (g.K.OpKit.permits c.render_strip.new.purse) in
    let meanings = g.K.Op.OpMeaning.meanings in
    let nodes = c.args.by.now.nodes.now in
    let need = c.args.strip.now.need in
    let all = needed_from c.args.strip.now c.args.later.now 0 in
    let refused = c.in_err-done.field-0.0 in
    let does = c.in_err-done.ensures in
    let left : IsLeft (length all) old mid =
    left-most (length need) (length all) old mid (omega (arith, length-append need (needs_of c.args.later.now))) (record { keeps = does.keeps; over = does.over; valid = does.valid }) in
    refused-as c.from_residual.result refused (Does g at c.args.strips.now mid) c.from_residual.ensures.1
    (record {
      looks = tt;
      request = record { rect = refl; at_level = refl; source = refl; format = refl; patch = refl };
      image = λ images known right are k has found. tt;
      leaves = tt;
      left = strip-leaves meanings nodes all old mid c.args.ahead.now [] left (λ images known right are. (does.right images known right are, tt)) does.sized
          (omega (arith, does.permits.0)) (omega (arith, does.permits.1));
      ahead = tt;
      excused = strip-excused meanings nodes need old mid [] [] refused does.cause does.few_names;
    })

-- ---- when it was held

pub add_strip-requires-clause-there : goal.add_strip-requires-clause-there
add_strip-requires-clause-there g c =
    let held = subst (λ (strip : Strip). HoldsNeed c.args.by.now.nodes.now strip.need c.in_ok-done.done.tiles) c.requires.rect c.in_ok-done.ensures.held in
    record { each = λ tile met. part-held g.K.Op.OpMeaning.meanings c.args.by.now.nodes.now c.args.node c.args.strip.now.rect c.in_ok-done.done.tiles tile c.requires.node held met }

-- ---- when it was added, or refused: the cache is that after it was held

module _ (g : Given.Over) (c : After-add_strip g) where
  abbrev meanings : Meanings g.row.K-Op.Denot
  meanings = g.K.Op.OpMeaning.meanings

  abbrev nodes : List (NodeFact g.row.K-Op.Denot)
  nodes = c.args.by.now.nodes.now

  abbrev pairs : List Pair
  pairs = pairs_needed nodes c.args.strip.now.need

  -- the tiles that are ahead, before it and after it
  abbrev made : MadeTiles
  made = c.args.ahead.now

  abbrev made' : MadeTiles
  made' = c.render_strip.new.ahead

  abbrev y : ℕ
  y = g.K.OpKit.permits c.render_strip.new.purse

  abbrev old : RenderState
  old = state g c.args.sources.now c.args.cache.now c.args.chain.now (g.K.OpKit.permits c.args.purse.now)

  abbrev mid : RenderState
  mid = state g c.render_strip.new.sources c.render_strip.new.cache c.render_strip.new.chain y

  abbrev end : RenderState
  end = state g c.add_strip.new.sources c.render_strip.new.cache c.add_strip.new.chain y

  -- what holding it looked up and left
  looked : LooksUp meanings nodes pairs c.in_ok-done.done.applied c.in_ok-done.done.reused old mid made made'
  looked =
      let does = c.in_ok-done.ensures in
      let done = c.in_ok-done.done in
      strip-looks meanings nodes c.args.strip.now.need old mid made made' done.applied done.reused does.pairs does.permits done.tiles does.bytes

  held : Leaves meanings nodes pairs old mid made made'
  held =
      let does = c.in_ok-done.ensures in
      let done = c.in_ok-done.done in
      let few = done-few meanings nodes c.args.strip.now.need old mid made made' done.applied done.reused does.pairs does.permits in
      strip-leaves meanings nodes c.args.strip.now.need old mid made made' (record { keeps = does.keeps; over = does.over; valid = does.valid })
      (λ images known right are. (does.right images known right are, does.made images known right are)) does.sized few.0 few.1

  same : HasSameCache mid.seen end.seen
  same =
      read-same g.H.ChainMeaning g.S.SourceTiles g.C.PairStore c.render_strip.new.sources c.add_strip.new.sources c.render_strip.new.cache c.render_strip.new.chain c.add_strip.new.chain y y
      c.add_strip.ensures.reads c.in_ok-done.ensures.over (g.met.C.PairStore.framed_sizes c.render_strip.new.cache) (g.met.C.PairStore.framed c.render_strip.new.cache)

  read : IsLeft 0 mid end
  read =
      read-left g.H.ChainMeaning g.S.SourceTiles g.C.PairStore c.render_strip.new.sources c.add_strip.new.sources c.render_strip.new.cache c.render_strip.new.chain c.add_strip.new.chain y y
      c.add_strip.ensures.reads c.in_ok-done.ensures.over (g.met.C.PairStore.framed_condition c.render_strip.new.cache) c.add_strip.ensures.over c.add_strip.ensures.valid

  leaves : Leaves meanings nodes pairs old end made made'
  leaves = leaves-reads meanings nodes pairs old mid end made made' read same refl held

  -- where the rest is given up
  left : Leaves meanings nodes (pairs_needed nodes (needed_from c.args.strip.now c.args.later.now 0)) old end made []
  left =
      let later = needs_of c.args.later.now in
      let few = next-few nodes mid.seen.pairs later made' c.in_ok-done.ensures.ahead in
      subst (λ (list : List Pair). Leaves meanings nodes list old end made []) (sym (pairs-from nodes c.args.strip.now c.args.later.now))
      (leaves-ended meanings nodes pairs (pairs_of nodes c.args.later.now) old end made made' (omega (arith, few, length-map later (pair_of (specs_of nodes)))) leaves)

pub returns-in_err-add_strip : goal.returns-in_err-add_strip
returns-in_err-add_strip g c =
    let at = (goal.at.returns-in_err-add_strip g c).After-add_strip in
    let refused = c.in_err-add_strip.field-0.0 in
    let done = c.in_ok-done.done in
    refused-as c.from_residual-in_err-add_strip.result refused (Does g (goal.at.returns-in_err-add_strip g c).After-render_strip c.add_strip.new.self (end g at))
    c.from_residual-in_err-add_strip.ensures.1
    (record {
      looks = tt;
      request = c.in_err-add_strip.ensures.request;
      image = λ images known right are k has found. tt;
      leaves = tt;
      left = left g at;
      ahead = tt;
      excused = excused-reads (meanings g at) (nodes g at) (pairs g at) (old g at) (mid g at) (end g at) (made g at) (made' g at) (read g at) (same g at) refl (held g at)
          done.applied done.reused (looked g at) refused
          (g.met.C.PairStore.within c.render_strip.new.cache (g.H.ChainMeaning.held c.render_strip.new.chain) c.in_ok-done.ensures.over.cache_over)
          (g.met.C.PairStore.few_names c.render_strip.new.cache) c.in_err-add_strip.ensures.cause;
    })

pub returns : goal.returns
returns g c =
    let at = (goal.at.returns g c).After-add_strip in
    let done = c.in_ok-done.done in
    let does = c.in_ok-done.ensures in
    record {
      looks = looks-reads (meanings g at) (nodes g at) (pairs g at) (old g at) (mid g at) (end g at) (made g at) (made' g at) (read g at) (same g at) refl (held g at)
          done.applied done.reused (looked g at);
      request = c.in_ok-add_strip.ensures.request;
      image = λ images known right are k has found.
          c.in_ok-add_strip.ensures.added images (does.keeps.images ∙ known) (does.bytes images right.list known right.known right.right are).tiles k has found;
      leaves = leaves g at;
      left = tt;
      ahead = does.ahead;
      excused = tt;
    }
