use Rattle.std.proofs.Common.{sym, subst, List, ℕ}
use Rattle.std.specs.Prelude.{◌↔◌, Contains}
use Rattle.std.proofs.lemmas.List.Sorted.{IsNonDecreasingBy-from_sort}
use Rattle.lists.specs.Distinct.{AreDistinct}
use Rattle.graphs.specs.Graphs.{Lists}
use Rattle.graph_model.specs.States.{level_of}
use Rattle.desk.proofs.OrderLemmas.{level_names, sorted_lists}
use Rattle.desk.proofs.ordering.gather_names.Goals as goal

pub returns : goal.returns
returns c = λ state stands.
    let level = c.args.level in
    let names = c.in_ok-names.names.items in
    let sorted = c.sort_unstable.new.self.items in
    let once : AreDistinct names = subst AreDistinct (sym c.in_ok-names.ensures) c.names.ensures.once in
    let exact : (id : ℕ) → Contains names id ↔ Contains (level_of state.plain level).names id = λ id.
    let told = c.names.ensures.names id in let kept = level_names c.args.graph.now state stands level id in (
      λ here. kept.0 (told.0 (subst (λ (l : List ℕ). Contains l id) c.in_ok-names.ensures here)),
      λ there. subst (λ (l : List ℕ). Contains l id) (sym c.in_ok-names.ensures) (told.1 (kept.1 there)),
    ) in
    subst (Lists (Contains (level_of state.plain level).names)) (sym c.from_vec.ensures)
    (sorted_lists (Contains (level_of state.plain level).names) names sorted once exact c.sort_unstable.ensures.permutation
    (IsNonDecreasingBy-from_sort (λ (x : ℕ). x) sorted c.sort_unstable.ensures.sorted))
