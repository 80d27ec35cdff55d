-- What a step leaves of a chain: the buffers are shared, put in their place, and then cached tiles are voided.
use Rattle.std.proofs.Common.{◌≡◌, ℕ, List, ◌++◌, arith}
use Rattle.std.specs.Map.{values_of}
use Rattle.chain_owners.specs.Owners.{Owns}
use Rattle.chain_owners.proofs.Ownership.{others-own, owns-fewer, times-append}
use Rattle.root_tiles.specs.Chains.{ChainState, Leaves}
use Rattle.node_cache.specs.NodeNames.{Entries, IsNodeCache, cached_in, sizes_in}
use Rattle.node_cache.specs.Stores.{HaveOneOwner}
use Rattle.buffer_view.specs.BufferTables.{BufferTable}
use Rattle.session_states.specs.OverChains.{AreAllOver, AreVersionsOver, tables_of, versions_names}
use Rattle.session_states.specs.Versions.{Versions, all_versions}
use Rattle.session_states.proofs.Beside.{over-again, same-again}
use Rattle.session_states.proofs.Names.{leaves-beside, leaves-both}
use Rattle.session_states.proofs.Seen.{versions-same}
use Rattle.commit_session.proofs.Cached.{alone-again, cache-again, cached-again, session-left, session-owned, sizes-again}

module _ (old versions : Versions BufferTable) (es es' : Entries) (between : List ℕ) (s0 s1 s2 : ChainState) (owned : Owns s0.held (versions_names old ++ values_of es))
    (first : Leaves 0 (versions_names old) between s0 s1) (second : Leaves 0 between (versions_names versions) s1 s2) where
  pub buffers-left : Leaves 0 (versions_names old) (versions_names versions) s0 s2
  buffers-left = leaves-both (versions_names old) between (versions_names versions) s0 s1 s2 first second

  pub cache-ready : (most capacity : ℕ) → IsNodeCache es most capacity s0.held → IsNodeCache es most capacity s2.held
  cache-ready most capacity is = cache-again 0 (versions_names old) (versions_names versions) s0 s2 buffers-left es owned most capacity is

  pub alone-ready : HaveOneOwner s0.held (values_of es) → HaveOneOwner s2.held (values_of es)
  alone-ready alone = alone-again 0 (versions_names old) (versions_names versions) s0 s2 buffers-left es owned alone

  pub cached-ready : cached_in es s2.held ≡ cached_in es s0.held
  cached-ready = cached-again 0 (versions_names old) (versions_names versions) s0 s2 buffers-left es owned

  pub sizes-ready : sizes_in es s2.held ≡ sizes_in es s0.held
  sizes-ready = sizes-again 0 (versions_names old) (versions_names versions) s0 s2 buffers-left es owned

  owned-ready : Owns s2.held (versions_names versions ++ values_of es)
  owned-ready = session-owned 0 (versions_names old) (versions_names versions) s0 s2 buffers-left es owned

  pub left-ready : Leaves 0 (versions_names old ++ values_of es) (versions_names versions ++ values_of es) s0 s2
  left-ready = session-left 0 (versions_names old) (versions_names versions) s0 s2 buffers-left es owned

  -- ---- voids

  module _ (s3 : ChainState) (third : Leaves 0 (values_of es) (values_of es') s2 s3) (over : AreVersionsOver versions s2.held) where
    beside-owned : Owns s2.held (values_of es ++ versions_names versions)
    beside-owned =
        owns-fewer s2.held (versions_names versions ++ values_of es) (values_of es ++ versions_names versions)
        (λ q. omega (arith, times-append (values_of es) (versions_names versions) q, times-append (versions_names versions) (values_of es) q)) owned-ready

    pub over-through : AreAllOver (all_versions versions) s3.held
    over-through = over-again s2.held s3.held (values_of es) (values_of es') third.others (all_versions versions) beside-owned over.over

    pub tables-through : tables_of versions s3.held ≡ tables_of versions s2.held
    tables-through = versions-same s2.held s3.held versions (same-again s2.held s3.held (values_of es) (values_of es') third.others (all_versions versions) beside-owned)

    pub owned-through : Owns s3.held (versions_names versions ++ values_of es')
    owned-through =
        owns-fewer s3.held (values_of es' ++ versions_names versions) (versions_names versions ++ values_of es')
        (λ q. omega (arith, times-append (values_of es') (versions_names versions) q, times-append (versions_names versions) (values_of es') q))
        (others-own s2.held s3.held (values_of es) (values_of es') third.others (versions_names versions) beside-owned)

    pub left-through : Leaves 0 (versions_names old ++ values_of es) (versions_names versions ++ values_of es') s0 s3
    left-through =
        leaves-both (versions_names old ++ values_of es) (versions_names versions ++ values_of es) (versions_names versions ++ values_of es') s0 s2 s3 left-ready
        (leaves-beside 0 (values_of es) (values_of es') (versions_names versions ++ values_of es) (versions_names versions ++ values_of es') (versions_names versions) s2 s3 third
        (λ q. omega (arith, times-append (versions_names versions) (values_of es) q)) (λ q. omega (arith, times-append (versions_names versions) (values_of es') q)))
