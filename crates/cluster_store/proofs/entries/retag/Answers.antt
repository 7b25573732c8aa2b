-- Each position is one more of those that have the tag.
use Rattle.std.proofs.Common.{ℕ, List, ◌≡◌, ◌<◌, take, [], get_or, length, arith, subst}
use Rattle.std.proofs.lemmas.List.{take_all}
use Rattle.std.proofs.lemmas.Option.{slice_get-get_or}
use Rattle.graphs.specs.Certificates.{Part}
use Rattle.cluster_store.specs.Keys.{key_part}
use Rattle.cluster_store.specs.Kept.{Enters}
use Rattle.cluster_store.specs.Stores.{no_part}
use Rattle.cluster_store.proofs.Steps.{enter_begins, retag_there, retag_entry, retag_next, all_fresh, none_has}
use Rattle.cluster_store.proofs.entries.retag.Goals as goal

pub loop-at-init : goal.loop-at-init
loop-at-init g c = enter_begins c.args.number c.args.to c.args.cluster.now.parts [] c.args.index.now

pub move_tag-requires : goal.move_tag-requires
move_tag-requires g c =
    let parts = c.args.cluster.now.parts in
    let part = get_or parts c.loop-at.at no_part in
    let within : c.loop-at.at < length parts = omega (arith, c.part_count-at-end.ensures) in
    let here = slice_get-get_or parts c.loop-at.at no_part within in
    let key = c.entry_of.ensures.key part here in
    retag_entry c.args.number c.loop-at.at (length parts) parts [] part c.entry_of.result here key
    c.args.to c.args.index.now c.loop-at.index c.loop-at.invariant
    c.args.from c.entry_of.ensures.number (c.loop-at.invariant.sorted c.requires.listed).1
    (retag_there c.args.number c.loop-at.at (length parts) parts [] part c.entry_of.result here key c.args.to c.args.index.now c.loop-at.index
    c.loop-at.invariant c.args.from (λ k f. c.requires.there k (all_fresh c.args.number parts [] k f)) within
    (none_has (key_part c.args.number c.loop-at.at part)))

pub loop-at-preserved : goal.loop-at-preserved
loop-at-preserved g c =
    let parts = c.args.cluster.now.parts in
    let part = get_or parts c.loop-at.at no_part in
    let within : c.loop-at.at < length parts = omega (arith, c.part_count-at-end.ensures) in
    let here = slice_get-get_or parts c.loop-at.at no_part within in
    let key = c.entry_of.ensures.key part here in
    let lacks = none_has (key_part c.args.number c.loop-at.at part) in
    retag_next c.args.number c.loop-at.at (length parts) parts [] part c.entry_of.result here key c.args.to c.args.index.now c.loop-at.index c.loop-at.invariant
    c.args.from c.move_tag.new.self c.move_tag.ensures
    (retag_there c.args.number c.loop-at.at (length parts) parts [] part c.entry_of.result here key
    c.args.to c.args.index.now c.loop-at.index c.loop-at.invariant
    c.args.from (λ k f. c.requires.there k (all_fresh c.args.number parts [] k f)) within lacks) lacks

pub returns : goal.returns
returns g c =
    let parts = c.args.cluster.now.parts in
    let all : take c.loop-at.at parts ≡ parts = take_all c.loop-at.at parts (omega (arith, c.part_count-at-end.ensures, c.loop-at-test.false)) in
    subst (λ (ps : List Part). Enters c.args.number c.args.to ps [] c.args.index.now c.loop-at.index) all c.loop-at.invariant

pub part_count-at-end-requires : goal.part_count-at-end-requires
part_count-at-end-requires g c = search

pub entry_of-requires : goal.entry_of-requires
entry_of-requires g c = (search, subst (λ (n : ℕ). c.loop-at.at < n) c.part_count-at-end.ensures c.loop-at-test.true)
