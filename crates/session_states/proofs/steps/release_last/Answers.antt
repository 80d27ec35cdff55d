use Rattle.std.proofs.Common.{◌≡◌, [], ◌∷◌, ◌++◌, ap, ◌∙◌, Option}
use Rattle.std.specs.Option.{option_to_list}
use Rattle.root_tiles.specs.Chains.{chain_state}
use Rattle.buffer_view.specs.BufferTables.{BufferTable}
use Rattle.session_states.proofs.Released.{IsLastReleased, last-first, last-released}
use Rattle.session_states.proofs.steps.release_last.Given
use Rattle.session_states.proofs.steps.release_last.Goals.{After-release, After-unwrap-last}
use Rattle.session_states.proofs.steps.release_last.Goals as goal

module _ (g : Given.Over) where
  parts : (c : After-unwrap-last g) → c.args.states.now.items ≡ c.pop_back.new.self.items ++ c.unwrap-last.result ∷ []
  parts c = c.pop_back.ensures.items ∙ ap (λ (o : Option BufferTable). c.pop_back.new.self.items ++ option_to_list o) c.unwrap-last.ensures

  -- the others, where the last was released
  others : (c : After-release g) → c.args.states.now.items ≡ c.pop_back.new.self.items ++ c.unwrap-last.result ∷ []
      → IsLastReleased c.args.states.now.items c.pop_back.new.self.items (chain_state g.C.ChainMeaning c.args.chain.now) (chain_state g.C.ChainMeaning c.release.new.chain)
  others c is =
      last-released c.args.states.now.items c.pop_back.new.self.items c.unwrap-last.result is (chain_state g.C.ChainMeaning c.args.chain.now) (chain_state g.C.ChainMeaning c.release.new.chain) c.requires.over c.requires.owned
      c.release.ensures

pub release-requires : goal.release-requires
release-requires g c =
    let s0 = chain_state g.C.ChainMeaning c.args.chain.now in
    last-first c.args.states.now.items c.pop_back.new.self.items c.unwrap-last.result (parts g (goal.at.release-requires g c).After-unwrap-last) s0 s0 c.requires.over c.requires.owned

pub returns-clause-over : goal.returns-clause-over
returns-clause-over g c = let at = goal.at.returns-clause-over g c in (others g at.After-release (parts g at.After-unwrap-last)).over

pub returns-clause-owned : goal.returns-clause-owned
returns-clause-owned g c = let at = goal.at.returns-clause-owned g c in (others g at.After-release (parts g at.After-unwrap-last)).owned

pub returns-clause-same : goal.returns-clause-same
returns-clause-same g c = let at = goal.at.returns-clause-same g c in (others g at.After-release (parts g at.After-unwrap-last)).same

pub returns-clause-left : goal.returns-clause-left
returns-clause-left g c = let at = goal.at.returns-clause-left g c in (others g at.After-release (parts g at.After-unwrap-last)).left
