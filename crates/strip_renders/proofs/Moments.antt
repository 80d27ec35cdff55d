-- What calls on a source of tiles, and calls on a cache, leave of the other one.
use Rattle.std.proofs.Common.{◌≡◌, ℕ, ◌+◌, ◌≤◌, ◌++◌, List, length, Result, Ok, Err, refl, sym, ap, ◌∙◌, subst, arith}
use Rattle.std.specs.Prelude.{MatchResult}
use Rattle.std.specs.Result.{IsErrAnd}
use Rattle.chain_owners.specs.Counts.{Counts, Grows}
use Rattle.chain_owners.specs.Held.{Held, owners_of}
use Rattle.chain_owners.specs.Owners.{IsFramed, Owns, Respects, times}
use Rattle.chain_owners.specs.declared.chain_meaning.ChainMeaning.{Ghosts as Chains}
use Rattle.chain_owners.proofs.Growing.{grows-both, grows-more}
use Rattle.chain_owners.proofs.Ownership.{others-own, others-unchanged, owns-fewer, respects-beside, respects-both, seen-unchanged, times-append}
use Rattle.chain_owners.specs.Cause.{HasSwapCause}
use Rattle.chain_owners.specs.declared.swap_refused.SwapRefused.{SwapRefused}
use Rattle.chain_owners.proofs.Causes.{cause-before, cause-more}
use Rattle.op_contracts.specs.declared.source_tiles.SourceTiles.{Ghosts as Sources}
use Rattle.node_cache.specs.Stores.{AddsNoOther, HaveOneOwner, IsFramedCondition}
use Rattle.node_cache.specs.declared.pair_store.PairStore.{Ghosts as Stores}
use Rattle.node_tiles.specs.Reads.{Reads, Seen, seen as source_seen}
use Rattle.node_tiles.proofs.Reading.{cause-then, reads-beside, reads-both, reads-none, reads-others}
use Rattle.strip_renders.specs.Looks.{HasSameCache}
use Rattle.strip_renders.specs.Moments.{AreOver, IsLeft, Keeps, Moment, ReadsTiles, RenderState, SourceState, moment, names_of, render_state}

-- what a moment has of its source and its chain
abbrev pub source_of : Moment → Seen
source_of now = source_seen now.facts now.images now.source_names now.held now.counts now.loans

-- whoever owns both owns them in the other order
pub owns-turned : (held : Held) (a b : List ℕ) → Owns held (a ++ b) → Owns held (b ++ a)
owns-turned held a b owns = owns-fewer held (a ++ b) (b ++ a) (λ q. omega (arith, times-append a b q, times-append b a q)) owns

pub owns-last : (held : Held) (a b : List ℕ) → Owns held (a ++ b) → Owns held b
owns-last held a b owns = owns-fewer held (a ++ b) b (λ q. omega (arith, times-append a b q)) owns

-- what is asked of a chain by whoever wasn't called holds again
condition-again : (a b : Held) (before after others : List ℕ) (condition : Held → Type 0) → IsFramedCondition others condition → Respects a b before after → Owns a (before ++ others)
    → condition a → condition b
condition-again a b before after others condition framed respects owns is =
    framed a b is respects.exposed (others-unchanged a b before after respects others owns) (owns-last b after others (others-own a b before after respects others owns))

-- tiles of the source were read, and the cache wasn't touched
pub keeps-reads : (old new : Moment) → Reads (source_of old) (source_of new) → new.capacity ≡ old.capacity → new.cache_names ≡ old.cache_names → Keeps 0 old new
keeps-reads old new reads capacity names = record {
  facts = reads.facts;
  images = reads.images;
  source_names = reads.names;
  capacity = capacity;
  others = reads-beside (source_of old) (source_of new) reads old.cache_names new.cache_names names;
  one_owner = λ have. record {
    one = λ name held.
        let owners : owners_of new.held name ≡ owners_of old.held name = owners-same old.held new.held reads.owners name in
        owners ∙ have.one name (subst (λ (ns : List ℕ). 1 ≤ times ns name) names held);
  };
  other_names = λ have. record { names = omega (arith, reads.counts.names, ap length names) };
  counts = reads.counts;
  loans = reads.loans;
}
  where
    owners-same : (a b : Held) → b.owners ≡ a.owners → (name : ℕ) → owners_of b name ≡ owners_of a name
    owners-same a b same name = rw same refl

-- what a call on the cache says of it and of the chain
pub record Turns (added : ℕ) (old new : Moment) : Type 0 where
  pub others : Respects old.held new.held old.cache_names new.cache_names
  pub one_owner : HaveOneOwner old.held old.cache_names → HaveOneOwner new.held new.cache_names
  pub other_names : HaveOneOwner old.held old.cache_names → AddsNoOther old.counts new.counts old.cache_names new.cache_names
  pub counts : Grows added old.counts new.counts
  pub loans : new.loans ≡ old.loans
  pub capacity : new.capacity ≡ old.capacity

-- the cache was called, and the source wasn't touched
pub keeps-turns : (added : ℕ) (old new : Moment) → Turns added old new → new.facts ≡ old.facts → new.images ≡ old.images → new.source_names ≡ old.source_names → Keeps added old new
keeps-turns added old new turns facts images names = record {
  facts = facts;
  images = images;
  source_names = names;
  capacity = turns.capacity;
  others = turns.others;
  one_owner = turns.one_owner;
  other_names = turns.other_names;
  counts = turns.counts;
  loans = turns.loans;
}

pub keeps-both : (first second : ℕ) (a b c : Moment) → Keeps first a b → Keeps second b c → Keeps (first + second) a c
keeps-both first second a b c one two = record {
  facts = two.facts ∙ one.facts;
  images = two.images ∙ one.images;
  source_names = two.source_names ∙ one.source_names;
  capacity = two.capacity ∙ one.capacity;
  others = respects-both a.held b.held a.cache_names b.cache_names one.others c.held c.cache_names two.others;
  one_owner = λ have. two.one_owner (one.one_owner have);
  other_names = λ have. record { names = omega (arith, (one.other_names have).names, (two.other_names (one.one_owner have)).names) };
  counts = grows-both first second a.counts b.counts c.counts one.counts two.counts;
  loans = two.loans ∙ one.loans;
}

-- the owners of other names than both hold are respected
pub keeps-others : (added : ℕ) (old new : Moment) → Keeps added old new → Respects old.held new.held (names_of old) (names_of new)
keeps-others added old new keeps =
    respects-beside old.held new.held old.cache_names new.cache_names keeps.others (names_of old) (names_of new) old.source_names
    (λ q. omega (arith, times-append old.source_names old.cache_names q))
    (λ q. let is : times new.source_names q ≡ times old.source_names q = ap (λ (ns : List ℕ). times ns q) keeps.source_names in
    omega (arith, is, times-append new.source_names new.cache_names q))

-- fewer names are at most so many
pub keeps-most : (added more : ℕ) (a b : Moment) → added ≤ more → Keeps added a b → Keeps more a b
keeps-most added more a b few keeps = record {
  facts = keeps.facts;
  images = keeps.images;
  source_names = keeps.source_names;
  capacity = keeps.capacity;
  others = keeps.others;
  one_owner = keeps.one_owner;
  other_names = keeps.other_names;
  counts = grows-more added more a.counts b.counts few keeps.counts;
  loans = keeps.loans;
}

-- a refusal after a call that kept all has its cause from the beginning on
pub cause-kept : (added names most : ℕ) (a b : Moment) (last : Counts) (refused : SwapRefused) → Keeps added a b → names ≤ most → HasSwapCause b.counts last names refused
    → HasSwapCause a.counts last most refused
cause-kept added names most a b last refused keeps few cause =
    cause-before a.counts b.counts last added most refused keeps.counts (cause-more b.counts last names most refused few cause)

-- ---- what is left

pub left-both : (first second : ℕ) (a b c : RenderState) → IsLeft first a b → IsLeft second b c → IsLeft (first + second) a c
left-both first second a b c one two = record {
  keeps = keeps-both first second a.seen b.seen c.seen one.keeps two.keeps;
  over = two.over;
  valid = λ valid. two.valid (one.valid valid);
}

-- fewer pairs are at most so many
pub left-most : (count more : ℕ) (a b : RenderState) → count ≤ more → IsLeft count a b → IsLeft more a b
left-most count more a b few left = record { keeps = keeps-most count more a.seen b.seen few left.keeps; over = left.over; valid = left.valid }

module _ {H S C : Type 0} (h : Chains H) (s : Sources S H) (c : Stores C H) where
  -- tiles of the source were read, and the cache wasn't touched
  module _ (sources sources' : S) (cache : C) (chain chain' : H) (x y : ℕ) (reads : Reads (source_of (moment h s c sources cache chain)) (source_of (moment h s c sources' cache chain')))
      (over : AreOver (render_state h s c sources cache chain x)) where
    abbrev earlier : Moment
    earlier = moment h s c sources cache chain

    abbrev later : Moment
    later = moment h s c sources' cache chain'

    read-others : Respects earlier.held later.held earlier.source_names later.source_names
    read-others = reads-others (source_of earlier) (source_of later) reads

    pub read-left : IsFramedCondition (c.names cache) (c.is_over cache) → s.is_over sources' (h.held chain') → (h.is_valid chain → h.is_valid chain')
        → IsLeft 0 (render_state h s c sources cache chain x) (render_state h s c sources' cache chain' y)
    read-left framed again valid = record {
      keeps = keeps-reads earlier later reads refl refl;
      over = record {
        sources_over = again;
        cache_over = condition-again earlier.held later.held earlier.source_names later.source_names earlier.cache_names (c.is_over cache) framed read-others over.owned over.cache_over;
        owned = others-own earlier.held later.held earlier.source_names later.source_names read-others earlier.cache_names over.owned;
      };
      valid = valid;
    }

    -- the cached pairs are unchanged
    pub read-same : IsFramed (c.names cache) (c.sizes cache) → IsFramed (c.names cache) (c.cached cache) → HasSameCache earlier later
    read-same sizes cached = record {
      pairs = refl;
      sizes = seen-unchanged earlier.held later.held earlier.source_names later.source_names read-others earlier.cache_names (c.sizes cache) sizes over.owned;
      cached = seen-unchanged earlier.held later.held earlier.source_names later.source_names read-others earlier.cache_names (c.cached cache) cached over.owned;
    }

  -- the cache was called, and the source wasn't touched
  module _ (sources : S) (cache cache' : C) (chain chain' : H) (x added : ℕ) (turns : Turns added (moment h s c sources cache chain) (moment h s c sources cache' chain'))
      (over : AreOver (render_state h s c sources cache chain x)) where
    pub turn-left : IsFramedCondition (s.names sources) (s.is_over sources) → IsFramed (s.names sources) (s.images sources) → c.is_over cache' (h.held chain')
        → (h.is_valid chain → h.is_valid chain') → IsLeft added (render_state h s c sources cache chain x) (render_state h s c sources cache' chain' x)
    turn-left framed seen again valid =
        let old = moment h s c sources cache chain in
        let new = moment h s c sources cache' chain' in
        let turned = owns-turned old.held old.source_names old.cache_names over.owned in
        let images : new.images ≡ old.images = seen-unchanged old.held new.held old.cache_names new.cache_names turns.others old.source_names (s.images sources) seen turned in
        record {
          keeps = keeps-turns added old new turns refl images refl;
          over = record {
            sources_over = condition-again old.held new.held old.cache_names new.cache_names old.source_names (s.is_over sources) framed turns.others turned over.sources_over;
            cache_over = again;
            owned = owns-turned new.held new.cache_names old.source_names (others-own old.held new.held old.cache_names new.cache_names turns.others old.source_names turned);
          };
          valid = valid;
        }

-- ---- tiles that are read

pub read-none : {T : Type 0} (now : SourceState) (x : T) → now.over → ReadsTiles now now (Ok x)
read-none now x over = record { reads = reads-none now.seen; over = over; valid = λ valid. valid; cause = tt }

-- whatever was answered
pub read-as : {T U : Type 0} (old new : SourceState) (x : T) (y : U) → ReadsTiles old new (Ok x) → ReadsTiles old new (Ok y)
read-as old new x y read = record { reads = read.reads; over = read.over; valid = read.valid; cause = tt }

pub read-both : {T U : Type 0} (a b c : SourceState) (x : T) (y : U) → ReadsTiles a b (Ok x) → ReadsTiles b c (Ok y) → ReadsTiles a c (Ok y)
read-both a b c x y one two = record {
  reads = reads-both a.seen b.seen c.seen one.reads two.reads;
  over = two.over;
  valid = λ valid. two.valid (one.valid valid);
  cause = tt;
}

-- a later read was refused
pub read-refused : {T U V : Type 0} (a b c : SourceState) (x : T) (refused : SwapRefused) → ReadsTiles a b (Ok x) → ReadsTiles {T = U} b c (Err refused) → ReadsTiles {T = V} a c (Err refused)
read-refused a b c x refused one two = record {
  reads = reads-both a.seen b.seen c.seen one.reads two.reads;
  over = two.over;
  valid = λ valid. two.valid (one.valid valid);
  cause = cause-then a.seen b.seen c.seen refused one.reads two.cause;
}

-- ---- refusals

-- what holds of a refusal holds of the answer that hands it on
pub refused-as : {T E : Type 0} (r : Result T E) (e : E) (P : Result T E → Type 0) → IsErrAnd r (λ handed. handed ≡ e) → P (Err e) → P r
refused-as (Ok x) e P is holds = absurd is
refused-as (Err f) e P is holds = subst P (ap Err (sym is)) holds

-- what holds of a call that was refused
pub matched-err : {T E : Type 0} (r : Result T E) (P : T → Type 0) (Q : Type 0) (R : E → Type 0) → IsErrAnd r R → Q → MatchResult r P (λ _. Q)
matched-err (Ok x) P Q R is holds = absurd is
matched-err (Err e) P Q R is holds = holds
