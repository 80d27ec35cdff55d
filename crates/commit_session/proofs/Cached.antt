-- Cached tiles that a call on the chain wasn't handed.
use Rattle.std.proofs.Common.{◌≡◌, ℕ, List, ◌++◌, arith}
use Rattle.std.specs.Map.{values_of}
use Rattle.chain_owners.specs.Owners.{Owns}
use Rattle.chain_owners.proofs.Ownership.{alone-stays, others-own, others-unchanged, owns-fewer, times-append}
use Rattle.root_tiles.specs.Chains.{ChainState, Leaves}
use Rattle.node_cache.specs.NodeLaws.{node_framed, node_framed_condition, node_framed_sizes}
use Rattle.node_cache.specs.NodeNames.{Entries, IsNodeCache, cached_in, sizes_in}
use Rattle.node_cache.specs.Stores.{HaveOneOwner}
use Rattle.session_states.proofs.Names.{leaves-beside}

module _ (added : ℕ) (before after : List ℕ) (s0 s1 : ChainState) (leaves : Leaves added before after s0 s1) (es : Entries)
    (owned : Owns s0.held (before ++ values_of es)) where
  pub session-owned : Owns s1.held (after ++ values_of es)
  session-owned = others-own s0.held s1.held before after leaves.others (values_of es) owned

  cache-owned : Owns s1.held (values_of es)
  cache-owned = owns-fewer s1.held (after ++ values_of es) (values_of es) (λ q. omega (arith, times-append after (values_of es) q)) session-owned

  pub alone-again : HaveOneOwner s0.held (values_of es) → HaveOneOwner s1.held (values_of es)
  alone-again alone = record {
    one = λ q some. alone-stays s0.held s1.held before after leaves.others (values_of es) owned q some (alone.one q some);
  }

  pub cache-again : (most capacity : ℕ) → IsNodeCache es most capacity s0.held → IsNodeCache es most capacity s1.held
  cache-again most capacity is =
      node_framed_condition es most capacity s0.held s1.held is leaves.others.exposed
      (others-unchanged s0.held s1.held before after leaves.others (values_of es) owned) cache-owned

  pub cached-again : cached_in es s1.held ≡ cached_in es s0.held
  cached-again =
      node_framed es s0.held s1.held leaves.others.exposed (others-unchanged s0.held s1.held before after leaves.others (values_of es) owned)

  pub sizes-again : sizes_in es s1.held ≡ sizes_in es s0.held
  sizes-again =
      node_framed_sizes es s0.held s1.held leaves.others.exposed (others-unchanged s0.held s1.held before after leaves.others (values_of es) owned)

  pub session-left : Leaves added (before ++ values_of es) (after ++ values_of es) s0 s1
  session-left =
      leaves-beside added before after (before ++ values_of es) (after ++ values_of es) (values_of es) s0 s1 leaves
      (times-append before (values_of es)) (times-append after (values_of es))
