-- Each position is one more of those that are out.
use Rattle.std.proofs.Common.{◌<◌, ◌+◌, take, get_or, length, option_copied, arith, sym, ◌∙◌, subst}
use Rattle.std.proofs.lemmas.Option.{slice_get-get_or}
use Rattle.chunk_index.specs.Items.{Items}
use Rattle.cluster_store.specs.Stores.{no_part}
use Rattle.cluster_store.specs.Kept.{parts_of, Leaves}
use Rattle.cluster_store.proofs.Steps.{leave_begins, leave_there, leave_next, leave_passed}
use Rattle.cluster_store.proofs.entries.leave.Goals as goal
use Rattle.cluster_store.proofs.entries.leave.Goals.{then-not-stays, else-not-stays}

pub loop-at-init : goal.loop-at-init
loop-at-init g c = leave_begins c.args.number c.args.gone.now.parts (parts_of (option_copied c.args.other)) c.args.index.now

pub take-requires : goal.take-requires
take-requires g c =
    let parts = c.args.gone.now.parts in
    let within : c.loop-at.at < length parts = omega (arith, c.requires.within) in
    let here = slice_get-get_or parts c.loop-at.at no_part within in
    leave_there c.args.number c.loop-at.at c.args.count parts (parts_of (option_copied c.args.other))
    (get_or parts c.loop-at.at no_part) c.entry_of-entry.result
    here (c.entry_of-entry.ensures.key (get_or parts c.loop-at.at no_part) here)
    c.args.index.now c.loop-at.index c.loop-at.invariant c.args.tag c.requires.there
    c.loop-at-test.true (sym c.stays.ensures ∙ c.if-not-stays.true)

pub loop-at-preserved : goal.loop-at-preserved
loop-at-preserved g c =
    let parts = c.args.gone.now.parts in
    let others = parts_of (option_copied c.args.other) in
    let part = get_or parts c.loop-at.at no_part in
    let within : c.loop-at.at < length parts = omega (arith, c.requires.within) in
    let here = slice_get-get_or parts c.loop-at.at no_part within in
    let key = c.entry_of-entry.ensures.key part here in
    elim c.if-not-stays.branch [
      | then-not-stays w ↦
          leave_next c.args.number c.loop-at.at c.args.count parts others part
          c.entry_of-entry.result here key c.args.index.now c.loop-at.index c.loop-at.invariant
          c.if-not-stays.index (w.index-is ∙ w.take.ensures) (sym c.stays.ensures ∙ w.if-not-stays.true)
      | else-not-stays w ↦
          subst (λ (xs : Items). Leaves c.args.number (take (c.loop-at.at + 1) parts) others c.args.index.now xs) (sym w.index-is)
          (leave_passed c.args.number c.loop-at.at c.args.count parts others part
          c.entry_of-entry.result here key c.args.index.now c.loop-at.index c.loop-at.invariant
          (sym c.stays.ensures ∙ w.if-not-stays.false))
    ]

pub stays-requires : goal.stays-requires
stays-requires g c = search
