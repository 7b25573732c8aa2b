-- The rest come in, and then the last one; where there is no memory for it, the rest go out again.
use Rattle.std.proofs.Common.{map, refl, subst}
use Rattle.chunk_index.specs.declared.entry.Tag.{Tag}
use Rattle.cluster_store.specs.Kept.{shelved}
use Rattle.cluster_store.specs.Slots.{AddsTo}
use Rattle.cluster_store.specs.Tops.{top_tag}
use Rattle.cluster_store.proofs.Adds.{adds_same, adds_stored, adds_undone}
use Rattle.cluster_store.proofs.Arriving.{tagged}
use Rattle.cluster_store.proofs.Turning.{all_changed, may_still}
use Rattle.cluster_store.proofs.rebuilding.rebuild.Goals as goal

pub put_last-requires : goal.put_last-requires
put_last-requires g c =
    let slots = c.args.slots.now.slots in
    let mid = c.add_clusters.new.slots.slots in
    let made = c.in_ok-numbers.numbers.items in
    let adds : AddsTo (map (tagged (top_tag c.args.staged)) c.args.rest.items) made slots mid =
    subst (λ (tag : Tag). AddsTo (map (tagged tag) c.args.rest.items) made slots mid) c.new_tag.ensures c.in_ok-numbers.ensures.ok in (
      search,
      (
        search,
        (c.requires.narrow, (c.in_ok-numbers.ensures.shown, may_still c.args.staged c.args.outs.now c.args.rest.items made slots mid c.requires.may adds)),
      ),
    )

pub take_all-requires : goal.take_all-requires
take_all-requires g c =
    let added = map (tagged c.new_tag.result) c.args.rest.items in
    let made = c.in_ok-numbers.numbers.items in (
      search,
      (
        c.in-Err.ensures.shown,
        adds_stored added made c.args.slots.now.slots c.put_last.new.slots.slots
            (adds_same added made c.args.slots.now.slots c.add_clusters.new.slots.slots c.in_ok-numbers.ensures.ok made c.put_last.new.slots.slots refl
            c.in-Err.ensures.err),
      ),
    )

pub returns-in-Ok-clause-rebuilt : goal.returns-in-Ok-clause-rebuilt
returns-in-Ok-clause-rebuilt g c =
    let slots = c.args.slots.now.slots in
    let mid = c.add_clusters.new.slots.slots in
    let made = c.in_ok-numbers.numbers.items in
    let adds : AddsTo (map (tagged (top_tag c.args.staged)) c.args.rest.items) made slots mid =
    subst (λ (tag : Tag). AddsTo (map (tagged tag) c.args.rest.items) made slots mid) c.new_tag.ensures c.in_ok-numbers.ensures.ok in
    all_changed c.args.staged c.args.outs.now c.args.rest.items made slots mid c.requires.may adds c.in-Ok.number c.args.last
    (shelved c.put_last.new.slots.slots) c.in-Ok.ensures.put

pub returns-in-Err-clause-err : goal.returns-in-Err-clause-err
returns-in-Err-clause-err g c =
    let added = map (tagged c.new_tag.result) c.args.rest.items in
    let made = c.in_ok-numbers.numbers.items in
    adds_undone added made c.args.slots.now.slots c.put_last.new.slots.slots
    (adds_same added made c.args.slots.now.slots c.add_clusters.new.slots.slots c.in_ok-numbers.ensures.ok made c.put_last.new.slots.slots refl
    c.in-Err.ensures.err) c.take_all.new.slots.slots c.take_all.ensures.out
