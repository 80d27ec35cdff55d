use Rattle.std.proofs.Common.{◌++◌, sym, subst}
use Rattle.std.specs.Map.{values_of}
use Rattle.buffer_view.specs.BufferTables.{buffers_names}
use Rattle.chain_owners.specs.Owners.{Owns}
use Rattle.node_cache.specs.NodeNames.{Entries}
use Rattle.test_renders.proofs.ReadyLaws.{owned-alone}
use Rattle.test_renders.proofs.setup.empty_cache.Goals as goal

pub returns-clause-over : goal.returns-clause-over
returns-clause-over g c =
    let held = g.C.ChainMeaning.held c.args.chain.now in
    let names = buffers_names c.args.buffers.now in
    record {
      source = c.requires.over;
      cache = c.in_ok-cache.ensures.over held;
      owned = subst (λ (entries : Entries). Owns held (names ++ values_of entries)) (sym c.in_ok-cache.ensures.empty)
          (owned-alone held names c.requires.over.owned);
    }
