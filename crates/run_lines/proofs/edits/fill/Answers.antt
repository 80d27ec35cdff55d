use Rattle.std.proofs.Common.{ℕ, List, Result, Err, refl, subst}
use Rattle.model_buffers.specs.declared.edit.BufferEdit.TheVariants.{Fill}
use Rattle.model_runs.specs.Effects.{edits}
use Rattle.model_runs.specs.declared.ending.End.TheVariants as ends
use Rattle.root_tiles.specs.Chains.{chain_state}
use Rattle.run_lines.proofs.EditLines.{out_of_memory, out_of_memory_faults}
use Rattle.run_lines.proofs.Stopping.{same_stop, same_stop_faults}
use Rattle.run_lines.specs.Stops.{CarriesOverChain}
use Rattle.run_lines.specs.declared.stop.Stop.{Stop}
use Rattle.run_lines.specs.declared.stop.Stop.TheVariants as stops
use Rattle.run_lines.proofs.edits.fill.Goals as goal

pub returns-in_err-copied : goal.returns-in_err-copied
returns-in_err-copied g c = λ line shelf text reads writes puts. record {
  did = λ exposed capacity state files holds.
      same_stop exposed capacity line state files _ (stops.Ended ends.NoMemory) _ _ _ c.args.session.now (g.C.ChainMeaning.held c.args.chain.now) c.from_residual.ensures.1
      (out_of_memory exposed capacity line state files _ _ c.args.session.now (g.C.ChainMeaning.held c.args.chain.now));
  faults = same_stop_faults (let stopped : Result (Unit {0}) Stop = Err (stops.Ended ends.NoMemory) in stopped) (stops.Ended ends.NoMemory) _ _ _ refl c.from_residual.ensures.1 (out_of_memory_faults _);
  over = c.requires;
  loans = refl;
  valid = λ valid. valid;
}

pub returns : goal.returns
returns g c =
    subst (λ (samples : List ℕ). CarriesOverChain (λ line state. edits line state (Fill c.args.name c.args.rect samples)) c.make.result c.args.session.now c.make.new.session
    (chain_state g.C.ChainMeaning c.args.chain.now) (chain_state g.C.ChainMeaning c.make.new.chain)) c.in_ok-copied.ensures c.make.ensures
