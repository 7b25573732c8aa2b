-- One is added, and then the others leave.
use Rattle.std.proofs.Common.{◌≡◌, Some, ap, ◌∙◌}
use Rattle.chunk_index.specs.declared.entry.Tag.{Tag}
use Rattle.cluster_store.specs.Slots.{Writes}
use Rattle.cluster_store.specs.Kept.{shelved}
use Rattle.cluster_store.specs.Tops.{top_tag}
use Rattle.cluster_store.proofs.Turning.{may_all, put_beside}
use Rattle.cluster_store.proofs.rebuilding.put_beside.Goals as goal

pub leave_top-requires : goal.leave_top-requires
leave_top-requires g c =
    let slots = c.args.slots.now.slots in
    let mid = c.add.new.slots.slots in
    let n = c.in_ok-number.number in
    let is : c.new.result ≡ record { cluster = c.args.cluster; tag = top_tag c.args.staged } =
    c.new.ensures ∙ ap (λ (tag : Tag). record { cluster = c.args.cluster; tag = tag }) c.new_tag.ensures in
    let writes : Writes slots mid n (Some c.new.result) =
    record { changed = c.in_ok-number.ensures.updates.changed; others = c.in_ok-number.ensures.updates.others } in (
      search,
      (
        c.in_ok-number.ensures.shown,
        may_all c.args.staged slots mid c.args.outs.now n c.args.cluster c.new.result c.requires.may c.in_ok-number.ensures.free writes is,
      ),
    )

pub returns-clause-put : goal.returns-clause-put
returns-clause-put g c =
    let slots = c.args.slots.now.slots in
    let mid = c.add.new.slots.slots in
    let n = c.in_ok-number.number in
    let is : c.new.result ≡ record { cluster = c.args.cluster; tag = top_tag c.args.staged } =
    c.new.ensures ∙ ap (λ (tag : Tag). record { cluster = c.args.cluster; tag = tag }) c.new_tag.ensures in
    let writes : Writes slots mid n (Some c.new.result) =
    record { changed = c.in_ok-number.ensures.updates.changed; others = c.in_ok-number.ensures.updates.others } in
    put_beside c.args.staged slots mid c.args.outs.now n c.args.cluster c.new.result c.requires.may c.in_ok-number.ensures.free writes is
    (shelved c.leave_top.new.slots.slots) c.leave_top.ensures.out
