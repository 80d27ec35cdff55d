use Rattle.plain_images.proofs.Pictures.{AreSamples-more, one_more}
use Rattle.plain_images.proofs.picture.sample_all.Goals as goal

pub loop-index-preserved : goal.loop-index-preserved
loop-index-preserved g c = record {
  value = one_more _ _ _ _ _ c.loop-index.invariant.value
      (cc (c.sample.ensures.value, c.position_of-column.ensures.column, c.position_of-column.ensures.row)) c.in_ok-push.ensures.items;
  range = AreSamples-more _ _ _ _ c.loop-index.invariant.range c.sample.ensures.range c.in_ok-push.ensures.items;
}
