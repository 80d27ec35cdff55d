use Rattle.std.proofs.Common.{◌≡◌, ◌∙◌, length, ap}
use Rattle.std.specs.List.{flat_map, range_with_len}
use Rattle.plane_rect.specs.Rectangle.{Rectangle, area}
use Rattle.pixel_formats.specs.Format.{pixel_bytes}
use Rattle.point_ops.specs.Flipped.{chunk_from_end}
use Rattle.point_ops.proofs.Flipped.{row-bytes, sideways-bytes, turned-long, upright-bytes}
use Rattle.point_ops.proofs.flip.flipped_bytes.Goals as goal

pub reversed-requires-then-sideways : goal.reversed-requires-then-sideways
reversed-requires-then-sideways c =
    let r = c.args.rect.now in
    let width : c.rect.inside.w ≡ r.width = ap (λ (q : Rectangle). q.width) c.rect.view_is in
    let height : c.rect.inside.h ≡ r.height = ap (λ (q : Rectangle). q.height) c.rect.view_is in
    let first : c.in_ok-pixels.pixels.items ≡ flat_map (chunk_from_end c.args.src.now (pixel_bytes c.args.format) (area r)) (range_with_len 0 (area r)) =
    rw (c.pixel_bytes.ensures, c.pixel_count.ensures.value) at c.in_ok-pixels.ensures in
    ap length c.deref.ensures.value
    ∙ turned-long c.args.format r c.args.src.now c.args.src.now c.requires.count c.in_ok-pixels.pixels.items first
    ∙ row-bytes c.args.format r c.rect.inside.w c.rect.inside.h c.pixel_bytes.result width height c.pixel_bytes.ensures

pub reversed-requires-else-sideways : goal.reversed-requires-else-sideways
reversed-requires-else-sideways c =
    let r = c.args.rect.now in
    let width : c.rect.inside.w ≡ r.width = ap (λ (q : Rectangle). q.width) c.rect.view_is in
    let height : c.rect.inside.h ≡ r.height = ap (λ (q : Rectangle). q.height) c.rect.view_is in
    c.requires.count ∙ row-bytes c.args.format r c.rect.inside.w c.rect.inside.h c.pixel_bytes.result width height c.pixel_bytes.ensures

pub returns-in_ok-reversed-clause-count : goal.returns-in_ok-reversed-clause-count
returns-in_ok-reversed-clause-count c =
    let r = c.args.rect.now in
    let width : c.rect.inside.w ≡ r.width = ap (λ (q : Rectangle). q.width) c.rect.view_is in
    let height : c.rect.inside.h ≡ r.height = ap (λ (q : Rectangle). q.height) c.rect.view_is in
    let first : c.in_ok-pixels.pixels.items ≡ flat_map (chunk_from_end c.args.src.now (pixel_bytes c.args.format) (area r)) (range_with_len 0 (area r)) =
    rw (c.pixel_bytes.ensures, c.pixel_count.ensures.value) at c.in_ok-pixels.ensures in
    (sideways-bytes c.args.format r c.args.src.now c.in_ok-reversed.field-0.items c.requires.count c.rect.inside.w c.rect.inside.h c.pixel_bytes.result
    width height c.pixel_bytes.ensures c.in_ok-pixels.pixels.items c.deref.result.now first c.deref.ensures.value c.in_ok-reversed.ensures).0

pub returns-in_ok-reversed-clause-pixels : goal.returns-in_ok-reversed-clause-pixels
returns-in_ok-reversed-clause-pixels c =
    let r = c.args.rect.now in
    let width : c.rect.inside.w ≡ r.width = ap (λ (q : Rectangle). q.width) c.rect.view_is in
    let height : c.rect.inside.h ≡ r.height = ap (λ (q : Rectangle). q.height) c.rect.view_is in
    let first : c.in_ok-pixels.pixels.items ≡ flat_map (chunk_from_end c.args.src.now (pixel_bytes c.args.format) (area r)) (range_with_len 0 (area r)) =
    rw (c.pixel_bytes.ensures, c.pixel_count.ensures.value) at c.in_ok-pixels.ensures in
    rw c.if-sideways.true
    (sideways-bytes c.args.format r c.args.src.now c.in_ok-reversed.field-0.items c.requires.count c.rect.inside.w c.rect.inside.h c.pixel_bytes.result
    width height c.pixel_bytes.ensures c.in_ok-pixels.pixels.items c.deref.result.now first c.deref.ensures.value c.in_ok-reversed.ensures).1

pub returns-in_ok-reversed-2-clause-count : goal.returns-in_ok-reversed-2-clause-count
returns-in_ok-reversed-2-clause-count c =
    let r = c.args.rect.now in
    let width : c.rect.inside.w ≡ r.width = ap (λ (q : Rectangle). q.width) c.rect.view_is in
    let height : c.rect.inside.h ≡ r.height = ap (λ (q : Rectangle). q.height) c.rect.view_is in
    (upright-bytes c.args.format r c.args.src.now c.in_ok-reversed-2.field-0.items c.requires.count c.rect.inside.w c.rect.inside.h c.pixel_bytes.result
    width height c.pixel_bytes.ensures c.in_ok-reversed-2.ensures).0

pub returns-in_ok-reversed-2-clause-pixels : goal.returns-in_ok-reversed-2-clause-pixels
returns-in_ok-reversed-2-clause-pixels c =
    let r = c.args.rect.now in
    let width : c.rect.inside.w ≡ r.width = ap (λ (q : Rectangle). q.width) c.rect.view_is in
    let height : c.rect.inside.h ≡ r.height = ap (λ (q : Rectangle). q.height) c.rect.view_is in
    rw c.if-sideways.false
    (upright-bytes c.args.format r c.args.src.now c.in_ok-reversed-2.field-0.items c.requires.count c.rect.inside.w c.rect.inside.h c.pixel_bytes.result
    width height c.pixel_bytes.ensures c.in_ok-reversed-2.ensures).1
