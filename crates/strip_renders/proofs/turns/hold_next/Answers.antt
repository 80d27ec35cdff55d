use Rattle.std.proofs.Common.{◌≡◌, ℕ, ◌+◌, ◌<◌, ◌≤◌, Bool, List, [], ◌∷◌, Result, Some, length, take, sym, ap, ◌∙◌, subst, arith}
use Rattle.model_graphs.specs.declared.node.NodeFact.{NodeFact}
use Rattle.model_graphs.specs.Evaluation.{Buffers}
use Rattle.model_graphs.specs.Facts.{AreImagesOf, Facts, shapes_of_facts, specs_of, stated_shapes}
use Rattle.model_states.specs.Cache.{Cached, IsPairOf, Pair, pair_of}
use Rattle.model_states.specs.Need.{Needed}
use Rattle.model_states.specs.Valid.{AreStated}
use Rattle.chain_owners.proofs.Causes.{cause-more}
use Rattle.chain_owners.specs.declared.swap_refused.SwapRefused.{SwapRefused}
use Rattle.chain_owners.specs.declared.swap_refused.SwapRefused.TheVariants as swaps
use Rattle.node_cache.specs.Stores.{AreExposed, Sized}
use Rattle.node_tiles.specs.Held.{HeldTiles}
use Rattle.node_tiles.specs.Stated.{AreTilesOf, bytes_at}
use Rattle.strip_renders.specs.Ahead.{AreMadeOf, AreNext, IsMade, IsMadeOf, IsPermitted, IsRefusedAt, IsSpentFor, MadeTiles, permits_of}
use Rattle.strip_renders.specs.Looks.{HasSameCache, IsRecent}
use Rattle.strip_renders.specs.Moments.{AreOver, IsLeft, RenderState, render_state}
use Rattle.strip_renders.specs.Steps.{HoldsNext}
use Rattle.strip_renders.specs.Strips.{AreKnownRight, AreSizedPairs, AreStatedWith, HoldsNeed, IsRendered, needed_from}
use Rattle.strip_renders.proofs.AheadLaws.{permitted-few, permitted-refused, taken-all, taken-made, taken-made_of}
use Rattle.strip_renders.proofs.HeldTiles.{need-more, tiles-more}
use Rattle.strip_renders.proofs.Looked.{list-shown, recent-pairs, right-shown}
use Rattle.strip_renders.proofs.Moments.{cause-kept, left-both, left-most, read-left, read-same, refused-as}
use Rattle.strip_renders.proofs.Needs.{strip-pair, strip-ready}
use Rattle.strip_renders.proofs.Nexts.{needed-next, next-more}
use Rattle.strip_renders.proofs.Turning.{take-more}
use Rattle.strip_renders.proofs.TurnLaws.{left-for, refused-for, spent-for}
use Rattle.strip_renders.proofs.turns.hold_next.Given
use Rattle.strip_renders.proofs.turns.hold_next.Goals.{After-look_ahead, After-needed_tile, After-take-made, In_ok-tile}
use Rattle.strip_renders.proofs.turns.hold_next.Goals as goal

-- ---- when the batch was looked ahead to

module _ (g : Given.Over) (c : After-look_ahead g) where
  abbrev needed : Needed
  needed = (c.args.node, c.args.at)

  abbrev x : ℕ
  x = g.K.OpKit.permits c.args.purse.now

  abbrev old : RenderState
  old = render_state g.H.ChainMeaning g.S.SourceTiles g.C.PairStore c.args.sources.now c.args.cache.now c.args.chain.now x

  abbrev mid : RenderState
  mid = render_state g.H.ChainMeaning g.S.SourceTiles g.C.PairStore c.look_ahead.new.sources c.args.cache.now c.look_ahead.new.chain (g.K.OpKit.permits c.look_ahead.new.purse)

  -- what it promises where it ends in this state, and with these tiles
  abbrev Does : RenderState → HeldTiles → MadeTiles → Result Bool SwapRefused → Type 0
  Does new tiles ahead result =
      HoldsNext g.K.Op.OpMeaning.meanings c.args.by.now.nodes.now c.args.strip.now c.args.later.now c.args.index needed c.args.tiles.now tiles c.args.ahead.now ahead old new result

  -- the cache is unchanged
  same : HasSameCache old.seen mid.seen
  same =
      read-same g.H.ChainMeaning g.S.SourceTiles g.C.PairStore c.args.sources.now c.look_ahead.new.sources c.args.cache.now c.args.chain.now c.look_ahead.new.chain x
      (g.K.OpKit.permits c.look_ahead.new.purse) c.look_ahead.ensures.read.reads c.requires.over (g.met.C.PairStore.framed_sizes c.args.cache.now) (g.met.C.PairStore.framed c.args.cache.now)

  left : IsLeft 0 old mid
  left =
      let does = c.look_ahead.ensures.read in
      read-left g.H.ChainMeaning g.S.SourceTiles g.C.PairStore c.args.sources.now c.look_ahead.new.sources c.args.cache.now c.args.chain.now c.look_ahead.new.chain x
      (g.K.OpKit.permits c.look_ahead.new.purse) does.reads c.requires.over (g.met.C.PairStore.framed_condition c.args.cache.now) does.over does.valid

  sized : AreSizedPairs c.args.by.now.nodes.now mid.seen.sizes
  sized = subst (λ (list : List Sized). AreSizedPairs c.args.by.now.nodes.now list) (sym same.sizes) c.requires.sized

  stated : AreStatedWith g.K.Op.OpMeaning.meanings mid.seen.facts c.args.by.now.nodes.now c.args.by.now.inputs.now
  stated = subst (λ (facts : Facts). AreStatedWith g.K.Op.OpMeaning.meanings facts c.args.by.now.nodes.now c.args.by.now.inputs.now) (sym left.keeps.facts) c.requires.stated

  of_nodes : IsPairOf (specs_of c.args.by.now.nodes.now) (stated_shapes c.args.by.now.nodes.now) (pair_of (specs_of c.args.by.now.nodes.now) needed)
  of_nodes =
      strip-pair g.K.Op.OpMeaning.meanings c.args.by.now.nodes.now c.args.strip.now g.K.Op.OpMeaning.boxed c.requires.stated.nodes.valid.distinct c.requires.strip c.args.index needed c.requires.entry

pub returns-in_err-look_ahead : goal.returns-in_err-look_ahead
returns-in_err-look_ahead g c =
    let at = (goal.at.returns-in_err-look_ahead g c).After-look_ahead in
    let refused = c.in_err-look_ahead.field-0.0 in
    let names = (old g at).seen.counts.names in
    let does = c.in_err-look_ahead.ensures in
    refused-as c.from_residual.result refused (Does g at (mid g at) c.args.tiles.now c.look_ahead.new.ahead) c.from_residual.ensures.1
    (record {
      held = tt;
      recent = tt;
      bytes = λ images list known tiles before cached right. tt;
      right = λ images known tiles before right. subst (AreKnownRight g.K.Op.OpMeaning.meanings c.args.by.now.nodes.now images) (sym (same g at).cached) right;
      sized = sized g at;
      ahead = tt;
      made = λ images known tiles before. tt;
      permits = does.permits;
      left = left-most 0 1 (old g at) (mid g at) (omega arith) (left g at);
      cause = cause-more (old g at).seen.counts (mid g at).seen.counts names (names + 1) refused (omega arith) does.read.cause;
    })

-- ---- what is asked where its pair is looked up

pub needed_tile-requires-clause-stated : goal.needed_tile-requires-clause-stated
needed_tile-requires-clause-stated g c κs within = stated g (goal.at.needed_tile-requires-clause-stated g c).After-look_ahead

pub needed_tile-requires-clause-ready : goal.needed_tile-requires-clause-ready
needed_tile-requires-clause-ready g c κs within =
    strip-ready g.K.Op.OpMeaning.meanings c.args.by.now.nodes.now (shapes_of_facts (g.S.SourceTiles.facts c.args.sources.now)) c.args.strip.now c.requires.stated.nodes c.requires.strip c.args.index
    (c.args.node, c.args.at) c.args.tiles.now c.requires.entry c.requires.held

pub needed_tile-requires-clause-of_nodes : goal.needed_tile-requires-clause-of_nodes
needed_tile-requires-clause-of_nodes g c κs within = of_nodes g (goal.at.needed_tile-requires-clause-of_nodes g c).After-look_ahead

pub needed_tile-requires-clause-over : goal.needed_tile-requires-clause-over
needed_tile-requires-clause-over g c κs within = (left g (goal.at.needed_tile-requires-clause-over g c).After-look_ahead).over

pub needed_tile-requires-clause-sized : goal.needed_tile-requires-clause-sized
needed_tile-requires-clause-sized g c κs within = sized g (goal.at.needed_tile-requires-clause-sized g c).After-look_ahead

module _ (g : Given.Over) (c : After-take-made g) where
  abbrev entry : Needed
  entry = (c.args.node, c.args.at)

  abbrev rest : List Needed
  rest = needed_from c.args.strip.now c.args.later.now (c.args.index + 1)

  abbrev pairs : List Pair
  pairs = g.C.PairStore.pairs c.args.cache.now

  parts : needed_from c.args.strip.now c.args.later.now c.args.index ≡ entry ∷ rest
  parts = needed-next c.args.strip.now c.args.later.now c.args.index entry c.requires.entry

  -- what waits from this one on
  waits : AreNext c.args.by.now.nodes.now pairs (entry ∷ rest) c.look_ahead.new.ahead
  waits = subst (λ (list : List Needed). AreNext c.args.by.now.nodes.now pairs list c.look_ahead.new.ahead) parts c.in_ok-look_ahead.ensures.ahead

  made : IsMade c.args.by.now.nodes.now pairs entry c.take-made.result
  made = taken-made c.args.by.now.nodes.now entry rest c.look_ahead.new.ahead c.take-made.new.self c.take-made.result c.take-made.ensures pairs waits.first waits.ahead

  module _ (images : Buffers) (known : g.S.SourceTiles.images c.args.sources.now (g.H.ChainMeaning.held c.args.chain.now) ≡ Some images)
      (tiles : AreTilesOf g.K.Op.OpMeaning.meanings c.args.by.now.nodes.now images c.args.tiles.now) (before : AreMadeOf g.K.Op.OpMeaning.meanings c.args.by.now.nodes.now images c.args.ahead.now) where
    waits_of : AreMadeOf g.K.Op.OpMeaning.meanings c.args.by.now.nodes.now images c.look_ahead.new.ahead
    waits_of = c.in_ok-look_ahead.ensures.bytes images known tiles before

    made_of : IsMadeOf g.K.Op.OpMeaning.meanings c.args.by.now.nodes.now images entry c.take-made.result
    made_of =
        taken-made_of c.args.by.now.nodes.now entry rest c.look_ahead.new.ahead c.take-made.new.self c.take-made.result c.take-made.ensures g.K.Op.OpMeaning.meanings images waits_of

  module _ (last : ℕ) where
    abbrev first : ℕ
    first = g.K.OpKit.permits c.args.purse.now + length c.args.ahead.now

    abbrev spare : ℕ
    spare = g.K.OpKit.permits c.look_ahead.new.purse

    many : length rest + 1 ≤ first
    many = omega (arith, c.requires.permits, ap length parts)

    enough : 0 < spare + permits_of c.take-made.result
    enough =
        left-for c.args.by.now.nodes.now entry rest pairs c.look_ahead.new.ahead c.take-made.new.self c.take-made.result c.take-made.ensures waits
        first spare last many c.in_ok-look_ahead.ensures.permits.1

    spent : (found : Bool) → IsPermitted spare last c.take-made.result found → (last ≤ g.K.OpKit.permits c.args.purse.now) × IsSpentFor first (last + length c.take-made.new.self) found
    spent found permitted = (
      omega (arith, permitted-few spare last c.take-made.result found permitted, c.in_ok-look_ahead.ensures.permits.0),
      spent-for c.args.by.now.nodes.now entry rest pairs c.look_ahead.new.ahead c.take-made.new.self c.take-made.result c.take-made.ensures waits
          first spare last many c.in_ok-look_ahead.ensures.permits.1 found permitted,
    )

    refused : IsRefusedAt spare last c.take-made.result
        → (last ≤ g.K.OpKit.permits c.args.purse.now) × (first ≤ last + length (needed_from c.args.strip.now c.args.later.now c.args.index))
    refused at = (
      omega (arith, at.0, c.in_ok-look_ahead.ensures.permits.0),
      omega (
        arith,
        refused-for c.args.by.now.nodes.now entry rest pairs c.look_ahead.new.ahead c.take-made.new.self c.take-made.result c.take-made.ensures waits
            first spare last many c.in_ok-look_ahead.ensures.permits.1 at,
        ap length parts,
      ),
    )

pub needed_tile-requires-clause-made : goal.needed_tile-requires-clause-made
needed_tile-requires-clause-made g c κs within = made g (goal.at.needed_tile-requires-clause-made g c).After-take-made

pub needed_tile-requires-clause-permits : goal.needed_tile-requires-clause-permits
needed_tile-requires-clause-permits g c κs within = enough g (goal.at.needed_tile-requires-clause-permits g c).After-take-made 0

-- ---- when its pair was looked up

module _ (g : Given.Over) (c : After-needed_tile g) where
  abbrev new : RenderState
  new =
      render_state g.H.ChainMeaning g.S.SourceTiles g.C.PairStore c.needed_tile.new.sources c.needed_tile.new.cache c.needed_tile.new.chain (g.K.OpKit.permits c.needed_tile.new.purse)

pub returns-in_err-tile : goal.returns-in_err-tile
returns-in_err-tile g c =
    let at = (goal.at.returns-in_err-tile g c).After-look_ahead in
    let taken = (goal.at.returns-in_err-tile g c).After-take-made in
    let then = (goal.at.returns-in_err-tile g c).After-needed_tile in
    let error = c.in_err-tile.field-0.0 in
    let counts = (old g at).seen.counts in
    let does = c.in_err-tile.ensures in
    refused-as c.from_residual-in_err-tile.result error (Does g at (new g then) c.args.tiles.now c.take-made.new.self) c.from_residual-in_err-tile.ensures.1
    (record {
      held = tt;
      recent = tt;
      bytes = λ images list known tiles before cached right. tt;
      right = λ images known tiles before right.
          subst (AreKnownRight g.K.Op.OpMeaning.meanings c.args.by.now.nodes.now images) (sym (does.looked.cached ∙ (same g at).cached)) right;
      sized = does.sized;
      ahead = tt;
      made = λ images known tiles before. tt;
      permits = refused g taken (new g then).permits does.permits;
      left = left-both 0 1 (old g at) (mid g at) (new g then) (left g at) does.left;
      cause = cause-kept 0 ((mid g at).seen.counts.names + 1) (counts.names + 1) (old g at).seen (mid g at).seen (new g then).seen.counts error (left g at).keeps
          (omega (arith, (left g at).keeps.counts.names)) does.cause;
    })

-- ---- when it was given

module _ (g : Given.Over) (c : In_ok-tile g) where
  abbrev nodes : List (NodeFact g.row.K-Op.Denot)
  nodes = c.args.by.now.nodes.now

  abbrev pair : Pair
  pair = pair_of (specs_of nodes) (c.args.node, c.args.at)

  abbrev now : RenderState
  now = render_state g.H.ChainMeaning g.S.SourceTiles g.C.PairStore c.look_ahead.new.sources c.args.cache.now c.look_ahead.new.chain (g.K.OpKit.permits c.look_ahead.new.purse)

  abbrev end : RenderState
  end =
      render_state g.H.ChainMeaning g.S.SourceTiles g.C.PairStore c.needed_tile.new.sources c.needed_tile.new.cache c.needed_tile.new.chain (g.K.OpKit.permits c.needed_tile.new.purse)

  -- over known images its bytes are right, and so are the cached pairs again, where they were
  module _ (over : AreOver now) (images : Buffers) (known : now.seen.images ≡ Some images) (tiles : AreTilesOf g.K.Op.OpMeaning.meanings nodes images c.args.tiles.now)
      (made : IsMadeOf g.K.Op.OpMeaning.meanings nodes images (c.args.node, c.args.at) c.take-made.result) (right : AreKnownRight g.K.Op.OpMeaning.meanings nodes images now.seen.cached) where
    exposed : AreExposed now.seen.pairs now.seen.sizes now.seen.held now.seen.cached
    exposed = g.met.C.PairStore.exposed c.args.cache.now (g.H.ChainMeaning.held c.look_ahead.new.chain) over.cache_over

    its : c.in_ok-tile.tile ≡ bytes_at g.K.Op.OpMeaning.meanings nodes images c.args.node c.args.at
    its = c.in_ok-tile.ensures.bytes images known tiles made right

    right-again : AreStated g.K.Op.OpMeaning.meanings (shapes_of_facts now.seen.facts) nodes → IsPairOf (specs_of nodes) (stated_shapes nodes) pair
        → AreKnownRight g.K.Op.OpMeaning.meanings nodes images end.seen.cached
    right-again stated is =
        let facts = now.seen.facts in
        let shown : AreImagesOf facts images = rw known at (g.met.S.SourceTiles.exposed c.look_ahead.new.sources (g.H.ChainMeaning.held c.look_ahead.new.chain) over.sources_over).shapes in
        right-shown g.K.Op.OpMeaning.meanings facts nodes images now.seen end.seen pair c.in_ok-tile.tile c.in_ok-tile.found exposed its c.in_ok-tile.ensures.looked stated shown is right

    rendered : (list : List Cached) → now.seen.cached ≡ Some list → (tiles' : HeldTiles) → AreTilesOf g.K.Op.OpMeaning.meanings nodes images tiles'
        → IsRendered g.K.Op.OpMeaning.meanings nodes images now.seen end.seen list (pair ∷ []) tiles'
    rendered list cached tiles' are = record {
      cached = list-shown g.K.Op.OpMeaning.meanings now.seen.facts nodes images now.seen end.seen pair c.in_ok-tile.tile c.in_ok-tile.found exposed its c.in_ok-tile.ensures.looked list cached;
      tiles = are;
    }

pub returns-in_err-hold : goal.returns-in_err-hold
returns-in_err-hold g c =
    let at = (goal.at.returns-in_err-hold g c).After-look_ahead in
    let taken = (goal.at.returns-in_err-hold g c).After-take-made in
    let then = (goal.at.returns-in_err-hold g c).In_ok-tile in
    let does = c.in_ok-tile.ensures in
    refused-as c.from_residual-in_err-hold.result swaps.NoMemory (Does g at (end g then) c.hold.new.self c.take-made.new.self) c.from_residual-in_err-hold.ensures.1
    (record {
      held = tt;
      recent = tt;
      bytes = λ images list known tiles before cached right. tt;
      right = λ images known tiles before right.
          right-again g then (left g at).over images ((left g at).keeps.images ∙ known) tiles (made_of g taken images known tiles before)
          (subst (AreKnownRight g.K.Op.OpMeaning.meanings c.args.by.now.nodes.now images) (sym (same g at).cached) right) (stated g at).nodes (of_nodes g at);
      sized = does.sized;
      ahead = tt;
      made = λ images known tiles before. tt;
      permits = refused g taken (end g then).permits (permitted-refused (now g then).permits (end g then).permits c.take-made.result c.in_ok-tile.found does.permits);
      left = left-both 0 1 (old g at) (mid g at) (end g then) (left g at) does.left;
      cause = tt;
    })

pub returns : goal.returns
returns g c =
    let at = (goal.at.returns g c).After-look_ahead in
    let taken = (goal.at.returns g c).After-take-made in
    let then = (goal.at.returns g c).In_ok-tile in
    let meanings = g.K.Op.OpMeaning.meanings in
    let nodes = c.args.by.now.nodes.now in
    let need = c.args.strip.now.need in
    let n : Needed = (c.args.node, c.args.at) in
    let does = c.in_ok-tile.ensures in
    let recent : IsRecent (mid g at).seen (end g then).seen (pair_of (specs_of nodes) n) c.in_ok-tile.found =
    recent-pairs (mid g at).seen (end g then).seen (pair_of (specs_of nodes) n) c.in_ok-tile.tile c.in_ok-tile.found does.looked in
    record {
      held = subst (λ (list : List Needed). HoldsNeed nodes list c.hold.new.self) (sym (take-more need c.args.index n c.requires.entry))
          (need-more nodes (take c.args.index need) n c.args.tiles.now c.hold.new.self (record { bytes = c.in_ok-tile.tile; held = c.in_ok-hold.ensures.held; length = does.long }) c.requires.held);
      recent = record { pairs = recent.pairs; there = recent.there };
      bytes = λ images list known tiles before cached right.
          let now_known = (left g at).keeps.images ∙ known in
          let made = made_of g taken images known tiles before in
          let there : AreKnownRight meanings nodes images (mid g at).seen.cached = record { list = list; known = (same g at).cached ∙ cached; right = right } in
          let is = rendered g then (left g at).over images now_known tiles made there list ((same g at).cached ∙ cached) c.hold.new.self
          (tiles-more meanings nodes images c.args.node c.args.at c.in_ok-tile.tile c.args.tiles.now c.hold.new.self c.in_ok-hold.ensures.held
          (its g then (left g at).over images now_known tiles made there) tiles) in
          record { cached = is.cached; tiles = is.tiles };
      right = λ images known tiles before right.
          right-again g then (left g at).over images ((left g at).keeps.images ∙ known) tiles (made_of g taken images known tiles before)
          (subst (AreKnownRight meanings nodes images) (sym (same g at).cached) right) (stated g at).nodes (of_nodes g at);
      sized = does.sized;
      ahead = next-more nodes n (rest g taken) (pairs g taken) c.look_ahead.new.ahead c.take-made.new.self c.take-made.result c.take-made.ensures
          (g.C.PairStore.capacity c.args.cache.now) (end g then).seen.pairs recent.pairs (waits g taken);
      made = λ images known tiles before.
          taken-all n (rest g taken) c.look_ahead.new.ahead c.take-made.new.self (λ (m : Needed × List ℕ). m.1 ≡ bytes_at meanings nodes images m.0.0 m.0.1) c.take-made.result c.take-made.ensures
          (waits_of g taken images known tiles before);
      permits = spent g taken (end g then).permits c.in_ok-tile.found does.permits;
      left = left-both 0 1 (old g at) (mid g at) (end g then) (left g at) does.left;
      cause = tt;
    }
