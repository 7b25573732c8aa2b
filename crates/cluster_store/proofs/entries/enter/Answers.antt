-- Each position is one more of those that are in; where there is no memory for one, those before it go out again.
use Rattle.std.proofs.Common.{ℕ, List, ◌≡◌, ◌<◌, ◌+◌, take, get_or, length, option_copied, arith, sym, ◌∙◌, subst}
use Rattle.std.proofs.lemmas.List.{take_all}
use Rattle.std.proofs.lemmas.Option.{slice_get-get_or}
use Rattle.graphs.specs.Certificates.{Part}
use Rattle.chunk_index.specs.Items.{Items}
use Rattle.cluster_store.specs.Stores.{no_part}
use Rattle.cluster_store.specs.Kept.{parts_of, Enters, Leaves}
use Rattle.cluster_store.proofs.Steps.{enter_begins, enter_absent, enter_next, enter_passed, taken_back, fresh_all, all_fresh}
use Rattle.cluster_store.proofs.entries.enter.Goals as goal
use Rattle.cluster_store.proofs.entries.enter.Goals.{then-not-stays+in_default, else-not-stays}

pub loop-at-init : goal.loop-at-init
loop-at-init g c = enter_begins c.args.number c.args.tag c.args.«new».now.parts (parts_of (option_copied c.args.other)) c.args.index.now

pub insert-requires : goal.insert-requires
insert-requires g c =
    let parts = c.args.«new».now.parts in
    let within : c.loop-at.at < length parts = omega (arith, c.part_count-at-end.ensures) in
    let here = slice_get-get_or parts c.loop-at.at no_part within in
    enter_absent c.args.number c.loop-at.at (length parts) parts (parts_of (option_copied c.args.other)) (get_or parts c.loop-at.at no_part)
    c.entry_of-entry.result here (c.entry_of-entry.ensures.key (get_or parts c.loop-at.at no_part) here) c.args.tag c.args.index.now c.loop-at.index
    c.loop-at.invariant (λ k f. c.requires.absent k (all_fresh c.args.number parts (parts_of (option_copied c.args.other)) k f)) within
    (sym c.stays.ensures ∙ c.if-not-stays.true)

pub returns-in-Err-clause-err : goal.returns-in-Err-clause-err
returns-in-Err-clause-err g c =
    let parts = c.args.«new».now.parts in
    let others = parts_of (option_copied c.args.other) in
    let out : Leaves c.args.number (take c.loop-at.at parts) others c.loop-at.index c.leave.new.index =
    subst (λ (xs : Items). Leaves c.args.number (take c.loop-at.at parts) others xs c.leave.new.index) c.in-Err.ensures.err c.leave.ensures in
    taken_back c.args.number c.args.tag (take c.loop-at.at parts) others c.args.index.now c.loop-at.index c.leave.new.index c.loop-at.invariant out
    (λ k f. c.requires.absent k (fresh_all c.args.number c.loop-at.at parts others k f))

pub loop-at-preserved : goal.loop-at-preserved
loop-at-preserved g c =
    let parts = c.args.«new».now.parts in
    let others = parts_of (option_copied c.args.other) in
    let part = get_or parts c.loop-at.at no_part in
    let within : c.loop-at.at < length parts = omega (arith, c.part_count-at-end.ensures) in
    let here = slice_get-get_or parts c.loop-at.at no_part within in
    let key = c.entry_of-entry.ensures.key part here in
    elim c.if-not-stays.branch [
      | then-not-stays+in_default w ↦
          enter_next c.args.number c.loop-at.at (length parts) parts others part c.entry_of-entry.result here key c.args.tag c.args.index.now c.loop-at.index
          c.loop-at.invariant c.entry_of-entry.ensures.number c.if-not-stays.index
          (w.index-is ∙ w.in_default.ensures.ok) (sym c.stays.ensures ∙ w.if-not-stays.true)
      | else-not-stays w ↦
          subst (λ (xs : Items). Enters c.args.number c.args.tag (take (c.loop-at.at + 1) parts) others c.args.index.now xs) (sym w.index-is)
          (enter_passed c.args.number c.loop-at.at (length parts) parts others part c.entry_of-entry.result here key c.args.tag c.args.index.now c.loop-at.index
          c.loop-at.invariant (sym c.stays.ensures ∙ w.if-not-stays.false))
    ]

pub returns-clause-ok : goal.returns-clause-ok
returns-clause-ok g c =
    let parts = c.args.«new».now.parts in
    let all : take c.loop-at.at parts ≡ parts = take_all c.loop-at.at parts (omega (arith, c.part_count-at-end.ensures, c.loop-at-test.false)) in
    subst (λ (ps : List Part). Enters c.args.number c.args.tag ps
    (parts_of (option_copied c.args.other)) c.args.index.now c.loop-at.index) all c.loop-at.invariant

pub part_count-at-end-requires : goal.part_count-at-end-requires
part_count-at-end-requires g c = search

pub entry_of-entry-requires : goal.entry_of-entry-requires
entry_of-entry-requires g c = (search, subst (λ (n : ℕ). c.loop-at.at < n) c.part_count-at-end.ensures c.loop-at-test.true)

pub stays-requires : goal.stays-requires
stays-requires g c = search
