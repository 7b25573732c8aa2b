use Rattle.std.proofs.Common.{rules, ◌≡◌, ◌*◌, ◌≤◌, ℕ, true, length, ap, ◌∙◌, refl, arith}
use Rattle.std.specs.FinSet as fin
use Rattle.bitset.specs.Members.{len_bound}
use Rattle.bitset.specs.Places.{places, first_places}
use Rattle.bitset.specs.Sets.{len-places}
use Rattle.dep_graph.specs.Rows.{graph_from}
use Rattle.dep_graph.proofs.Kept.{keeps, member_there, IsClosed-kept}
use Rattle.dep_graph.proofs.Joined.{Chosen-places, Chosen-none, Copies-none, joined_keeps, joined_is, part_of_merged, count_is, copies_lent}
use Rattle.dep_graph.proofs.graph.DepGraph.part.Goals as goal

pub copy_rows-requires : goal.copy_rows-requires
copy_rows-requires g c =
    let k = keeps c.self.invariant c.self.view_is in
    let all = λ (p : ℕ) (e : fin.contains c.args.within p ≡ true). member_there k p (c.requires p e) in
    let counted = count_is k c.args.within all c.as_slice-whole.result.now c.as_slice-whole.ensures
    _ c.as_slice-whole.type_inv.1 (omega arith) c.count-count.result c.count-count.ensures.exact in
    let few : fin.len c.args.within ≤ 64 * g.row.W = len_bound (64 * g.row.W) c.args.within c.count-count.ensures.within in
    let none = ap length c.in_ok-rows.ensures.items in (
      search rules,
      (
        search rules,
        (
          search rules,
          (
            λ p e. omega (arith, c.self.invariant.there p (all p e), ap length c.as_slice-whole.ensures),
            (omega (arith, few, none), omega (arith, none, c.in_ok-rows.ensures.capacity, counted.0)),
          ),
        ),
      ),
    )

pub first_n-requires : goal.first_n-requires
first_n-requires g c =
    let k = keeps c.self.invariant c.self.view_is in
    let all = λ (p : ℕ) (e : fin.contains c.args.within p ≡ true). member_there k p (c.requires p e) in
    let counted = count_is k c.args.within all c.as_slice-whole.result.now c.as_slice-whole.ensures
    _ c.as_slice-whole.type_inv.1 (omega arith) c.count-count.result c.count-count.ensures.exact in
    let few : fin.len c.args.within ≤ 64 * g.row.W = len_bound (64 * g.row.W) c.args.within c.count-count.ensures.within in
    (search rules, omega (arith, few, counted.0))

pub invariant_of-result : goal.invariant_of-result
invariant_of-result g c =
    let k = keeps c.self.invariant c.self.view_is in
    let all = λ (p : ℕ) (e : fin.contains c.args.within p ≡ true). member_there k p (c.requires p e) in
    let counted = count_is k c.args.within all c.as_slice-whole.result.now c.as_slice-whole.ensures
    _ c.as_slice-whole.type_inv.1 (omega arith) c.count-count.result c.count-count.ensures.exact in
    let few : fin.len c.args.within ≤ 64 * g.row.W = len_bound (64 * g.row.W) c.args.within c.count-count.ensures.within in
    let n = 64 * g.row.W in
    let ps = places n c.args.within in
    let long = len-places n c.args.within c.count-count.ensures.within in
    joined_keeps (Chosen-places k c.args.within all) (Chosen-none k) (omega (arith, few, long))
    (copies_lent ps c.as_slice-whole.ensures c.in_ok-rows.ensures.items c.copy_rows.ensures.rows) (Copies-none _ _)
    (c.first_n.ensures ∙ ap first_places (omega (arith, counted.0, long)))

pub returns-clause-part : goal.returns-clause-part
returns-clause-part g c =
    let k = keeps c.self.invariant c.self.view_is in
    let all = λ (p : ℕ) (e : fin.contains c.args.within p ≡ true). member_there k p (c.requires p e) in
    let counted = count_is k c.args.within all c.as_slice-whole.result.now c.as_slice-whole.ensures
    _ c.as_slice-whole.type_inv.1 (omega arith) c.count-count.result c.count-count.ensures.exact in
    let few : fin.len c.args.within ≤ 64 * g.row.W = len_bound (64 * g.row.W) c.args.within c.count-count.ensures.within in
    let n = 64 * g.row.W in
    let ps = places n c.args.within in
    let long = len-places n c.args.within c.count-count.ensures.within in
    part_of_merged c.args.self.now c.args.self.now ps (graph_from n c.first_n.result c.copy_rows.new.rows.items)
    (joined_is (Chosen-places k c.args.within all) (Chosen-none k) (omega (arith, few, long))
    (copies_lent ps c.as_slice-whole.ensures c.in_ok-rows.ensures.items c.copy_rows.ensures.rows) (Copies-none _ _)
    (c.first_n.ensures ∙ ap first_places (omega (arith, counted.0, long))))

pub returns-clause-closed : goal.returns-clause-closed
returns-clause-closed g c = IsClosed-kept (keeps (invariant_of-result g c) refl)
