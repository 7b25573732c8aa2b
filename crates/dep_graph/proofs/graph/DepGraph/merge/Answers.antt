use Rattle.std.proofs.Common.{rules, ◌*◌, ◌+◌, ◌^◌, ◌<◌, ◌≤◌, length, ap, ap₂, ◌∙◌, refl, subst₂, arith}
use Rattle.std.specs.FinSet as fin
use Rattle.graphs.specs.Closures.{IsMerged}
use Rattle.bitset.specs.Places.{places, first_places}
use Rattle.bitset.specs.Sets.{len-places}
use Rattle.dep_graph.specs.Rows.{graph_from}
use Rattle.dep_graph.proofs.Kept.{keeps, members_of-kept, inside, IsClosed-kept}
use Rattle.dep_graph.proofs.Joined.{Chosen-places, joined_keeps, joined_is, count_is, copies_lent}
use Rattle.dep_graph.proofs.graph.DepGraph.merge.Goals as goal

pub overflow_add-count : goal.overflow_add-count
overflow_add-count g c =
    let first = count_is (keeps c.self.invariant c.self.view_is) c.self.inside.members (λ p e. e) c.as_slice-first.result.now c.as_slice-first.ensures
    _ c.as_slice-first.type_inv.1 (omega arith) c.count.result c.count.ensures.exact in
    let second = count_is (keeps c.other.invariant c.other.view_is) c.other.inside.members (λ p e. e) c.as_slice-second.result.now c.as_slice-second.ensures
    _ c.as_slice-second.type_inv.1 (omega arith) c.count-2.result c.count-2.ensures.exact in
    let fits : c.count.result + c.count-2.result < 2 ^ 64 = omega (arith, first.1, second.1) in
    search rules

pub copy_rows-requires : goal.copy_rows-requires
copy_rows-requires g c =
    let first = count_is (keeps c.self.invariant c.self.view_is) c.self.inside.members (λ p e. e) c.as_slice-first.result.now c.as_slice-first.ensures
    _ c.as_slice-first.type_inv.1 (omega arith) c.count.result c.count.ensures.exact in
    let second = count_is (keeps c.other.invariant c.other.view_is) c.other.inside.members (λ p e. e) c.as_slice-second.result.now c.as_slice-second.ensures
    _ c.as_slice-second.type_inv.1 (omega arith) c.count-2.result c.count-2.ensures.exact in
    let few : fin.len c.self.inside.members + fin.len c.other.inside.members ≤ 64 * g.row.W =
    omega (
      arith,
      c.requires,
      ap fin.len (members_of-kept (keeps c.self.invariant c.self.view_is)),
      ap fin.len (members_of-kept (keeps c.other.invariant c.other.view_is)),
    ) in
    let none = ap length c.in_ok-rows.ensures.items in (
      search rules,
      (
        search rules,
        (
          search rules,
          (
            λ p e. omega (arith, c.self.invariant.there p e, ap length c.as_slice-first.ensures),
            (omega (arith, few, none), omega (arith, none, c.in_ok-rows.ensures.capacity, first.0, first.1, second.1)),
          ),
        ),
      ),
    )

pub copy_rows-requires-2 : goal.copy_rows-requires-2
copy_rows-requires-2 g c =
    let first = count_is (keeps c.self.invariant c.self.view_is) c.self.inside.members (λ p e. e) c.as_slice-first.result.now c.as_slice-first.ensures
    _ c.as_slice-first.type_inv.1 (omega arith) c.count.result c.count.ensures.exact in
    let second = count_is (keeps c.other.invariant c.other.view_is) c.other.inside.members (λ p e. e) c.as_slice-second.result.now c.as_slice-second.ensures
    _ c.as_slice-second.type_inv.1 (omega arith) c.count-2.result c.count-2.ensures.exact in
    let few : fin.len c.self.inside.members + fin.len c.other.inside.members ≤ 64 * g.row.W =
    omega (
      arith,
      c.requires,
      ap fin.len (members_of-kept (keeps c.self.invariant c.self.view_is)),
      ap fin.len (members_of-kept (keeps c.other.invariant c.other.view_is)),
    ) in
    let long = len-places (64 * g.row.W) c.self.inside.members (inside (keeps c.self.invariant c.self.view_is)) in
    let none = ap length c.in_ok-rows.ensures.items in (
      search rules,
      (
        search rules,
        (
          search rules,
          (
            λ p e. omega (arith, c.other.invariant.there p e, ap length c.as_slice-second.ensures),
            (
              omega (arith, few, none, long, c.copy_rows.ensures.rows.long),
              omega (
                arith,
                none,
                long,
                c.copy_rows.ensures.rows.long,
                c.copy_rows.ensures.capacity,
                c.in_ok-rows.ensures.capacity,
                first.0,
                second.0,
                first.1,
                second.1,
              ),
            ),
          ),
        ),
      ),
    )

pub first_n-requires : goal.first_n-requires
first_n-requires g c =
    let first = count_is (keeps c.self.invariant c.self.view_is) c.self.inside.members (λ p e. e) c.as_slice-first.result.now c.as_slice-first.ensures
    _ c.as_slice-first.type_inv.1 (omega arith) c.count.result c.count.ensures.exact in
    let second = count_is (keeps c.other.invariant c.other.view_is) c.other.inside.members (λ p e. e) c.as_slice-second.result.now c.as_slice-second.ensures
    _ c.as_slice-second.type_inv.1 (omega arith) c.count-2.result c.count-2.ensures.exact in
    let few : fin.len c.self.inside.members + fin.len c.other.inside.members ≤ 64 * g.row.W =
    omega (
      arith,
      c.requires,
      ap fin.len (members_of-kept (keeps c.self.invariant c.self.view_is)),
      ap fin.len (members_of-kept (keeps c.other.invariant c.other.view_is)),
    ) in
    (search rules, omega (arith, few, first.0, second.0))

pub invariant_of-result : goal.invariant_of-result
invariant_of-result g c =
    let first = count_is (keeps c.self.invariant c.self.view_is) c.self.inside.members (λ p e. e) c.as_slice-first.result.now c.as_slice-first.ensures
    _ c.as_slice-first.type_inv.1 (omega arith) c.count.result c.count.ensures.exact in
    let second = count_is (keeps c.other.invariant c.other.view_is) c.other.inside.members (λ p e. e) c.as_slice-second.result.now c.as_slice-second.ensures
    _ c.as_slice-second.type_inv.1 (omega arith) c.count-2.result c.count-2.ensures.exact in
    let few : fin.len c.self.inside.members + fin.len c.other.inside.members ≤ 64 * g.row.W =
    omega (
      arith,
      c.requires,
      ap fin.len (members_of-kept (keeps c.self.invariant c.self.view_is)),
      ap fin.len (members_of-kept (keeps c.other.invariant c.other.view_is)),
    ) in
    let n = 64 * g.row.W in
    let k = keeps c.self.invariant c.self.view_is in
    let k' = keeps c.other.invariant c.other.view_is in
    let ps = places n c.self.inside.members in
    let qs = places n c.other.inside.members in
    let long = len-places n c.self.inside.members (inside k) in
    let long' = len-places n c.other.inside.members (inside k') in
    joined_keeps (Chosen-places k c.self.inside.members (λ p e. e)) (Chosen-places k' c.other.inside.members (λ p e. e)) (omega (arith, few, long, long'))
    (copies_lent ps c.as_slice-first.ensures c.in_ok-rows.ensures.items c.copy_rows.ensures.rows)
    (copies_lent qs c.as_slice-second.ensures refl c.copy_rows-2.ensures.rows)
    (c.first_n.ensures ∙ ap first_places (ap₂ (λ a b. a + b) (first.0 ∙ long) (second.0 ∙ long')))

pub returns-clause-merged : goal.returns-clause-merged
returns-clause-merged g c =
    let first = count_is (keeps c.self.invariant c.self.view_is) c.self.inside.members (λ p e. e) c.as_slice-first.result.now c.as_slice-first.ensures
    _ c.as_slice-first.type_inv.1 (omega arith) c.count.result c.count.ensures.exact in
    let second = count_is (keeps c.other.invariant c.other.view_is) c.other.inside.members (λ p e. e) c.as_slice-second.result.now c.as_slice-second.ensures
    _ c.as_slice-second.type_inv.1 (omega arith) c.count-2.result c.count-2.ensures.exact in
    let few : fin.len c.self.inside.members + fin.len c.other.inside.members ≤ 64 * g.row.W =
    omega (
      arith,
      c.requires,
      ap fin.len (members_of-kept (keeps c.self.invariant c.self.view_is)),
      ap fin.len (members_of-kept (keeps c.other.invariant c.other.view_is)),
    ) in
    let n = 64 * g.row.W in
    let k = keeps c.self.invariant c.self.view_is in
    let k' = keeps c.other.invariant c.other.view_is in
    let ps = places n c.self.inside.members in
    let qs = places n c.other.inside.members in
    let long = len-places n c.self.inside.members (inside k) in
    let long' = len-places n c.other.inside.members (inside k') in
    subst₂ (λ s t. IsMerged c.args.self.now c.args.other.now (places n s) (places n t) (graph_from n c.first_n.result c.copy_rows-2.new.rows.items))
    (members_of-kept k) (members_of-kept k')
    (joined_is (Chosen-places k c.self.inside.members (λ p e. e)) (Chosen-places k' c.other.inside.members (λ p e. e)) (omega (arith, few, long, long'))
    (copies_lent ps c.as_slice-first.ensures c.in_ok-rows.ensures.items c.copy_rows.ensures.rows)
    (copies_lent qs c.as_slice-second.ensures refl c.copy_rows-2.ensures.rows)
    (c.first_n.ensures ∙ ap first_places (ap₂ (λ a b. a + b) (first.0 ∙ long) (second.0 ∙ long'))))

pub returns-clause-closed : goal.returns-clause-closed
returns-clause-closed g c = IsClosed-kept (keeps (invariant_of-result g c) refl)
