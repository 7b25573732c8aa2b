-- The parts of the new cluster are under a number that had none.
use Rattle.std.proofs.Common.{◌≡◌, None, Some, [], sym, ap, ◌∙◌, subst}
use Rattle.cluster.specs.Clusters.{Cluster}
use Rattle.chunk_index.specs.declared.entry.Tag.{Tag}
use Rattle.cluster_store.specs.Kept.{Slots, at, Enters}
use Rattle.cluster_store.proofs.Shown.{free_absent, shown_added}
use Rattle.cluster_store.proofs.Sizes.{cluster_in_stored}
use Rattle.cluster_store.proofs.clusters.add.Goals as goal

pub enter-requires : goal.enter-requires
enter-requires g c =
    let n = c.vacant_key-number.result in
    let same : c.reserve.new.self.slots ≡ c.args.slots.now.slots = ap (λ s. s.slots) c.in_ok-reserve.ensures.rest_kept in
    let free : at c.args.slots.now.slots n ≡ None = ap (λ (s : Slots). at s n) (sym same) ∙ c.vacant_key-number.ensures.vacant in
    (search cluster_in_stored, λ k f. free_absent c.args.slots.now.slots c.args.index.now c.requires n free c.cluster.result.now.parts [] k f)

pub returns-clause-shown : goal.returns-clause-shown
returns-clause-shown g c =
    let n = c.vacant_key-number.result in
    let same : c.reserve.new.self.slots ≡ c.args.slots.now.slots = ap (λ s. s.slots) c.in_ok-reserve.ensures.rest_kept in
    let free : at c.args.slots.now.slots n ≡ None = ap (λ (s : Slots). at s n) (sym same) ∙ c.vacant_key-number.ensures.vacant in
    let here : c.insert_reserved.result ≡ n = c.insert_reserved.ensures.key ∙ sym c.vacant_key-number.ensures.value in
    let is : at c.insert_reserved.new.self.slots n ≡ Some c.args.stored =
    ap (at c.insert_reserved.new.self.slots) (sym here) ∙ c.insert_reserved.ensures.updates.changed in
    let enters : Enters n c.args.stored.tag c.args.stored.cluster.parts [] c.args.index.now c.enter.new.index =
    subst (λ (t : Tag). Enters n t c.args.stored.cluster.parts [] c.args.index.now c.enter.new.index) c.tag.ensures
    (subst (λ (x : Cluster). Enters n c.tag.result x.parts [] c.args.index.now c.enter.new.index) c.cluster.ensures c.in_ok-enter.ensures.ok) in
    shown_added c.args.slots.now.slots c.args.index.now c.requires n c.insert_reserved.new.self.slots c.enter.new.index
    (λ m other. c.insert_reserved.ensures.updates.others m (λ e. other (e ∙ here)) ∙ ap (λ (s : Slots). at s m) same) c.args.stored free is enters

pub tag-requires : goal.tag-requires
tag-requires g c = search

pub cluster-requires : goal.cluster-requires
cluster-requires g c = (search, search cluster_in_stored)
