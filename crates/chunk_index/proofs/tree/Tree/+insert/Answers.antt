use Rattle.std.proofs.Common.{◌≡◌, ◌+◌, length, subst, List, ◌∷◌, ◌++◌, true, false, sym, ap, ◌∙◌, arith, rules}
use Rattle.chunk_index.specs.declared.entry.Entry.{Entry}
use Rattle.chunk_index.specs.declared.tree.Node.{Node}
use Rattle.chunk_index.specs.Keys.{key_of, put}
use Rattle.chunk_index.specs.TreeShape.{entries_under, entry_of, IsBalancedAt}
use Rattle.chunk_index.proofs.Steps.{goes_left, goes_right, stops, none-put, shorter_left, shorter_right, HasGrown, grows_left, grows_right}
use Rattle.chunk_index.proofs.tree.Tree.+insert.Goals as goal
use Rattle.chunk_index.proofs.tree.Tree.+insert.Goals.{in-Less, in-Greater, in-Some-2, in-None-2}

pub returns-in_default-clause-put : goal.returns-in_default-clause-put
returns-in_default-clause-put t c =
    c.of_parts-in_default.view_is ∙ c.of_parts.ensures
    ∙ rw (c.new.ensures, c.new-in_default.ensures) (none-put c.args.self.now (entry_of c.args.node.value)
    (sym c.self.view_is ∙ ap entries_under c.in_default.is))

pub insert-requires : goal.insert-requires
insert-requires t c =
    let n = c.in-Some.here.value in
    let whole = sym c.self.view_is ∙ ap entries_under c.in-Some.is in
    let way = goes_left c.args.self.now n.left (entry_of n) n.right whole c.requires.order c.args.node.value.key (search rules) in
    let shorter = shorter_left c.args.self.now n.left (entry_of n) n.right whole in
    rw c.deref_mut.ensures.value (search rules, (way.order, (way.has ∙ c.requires.absent, omega arith)))

pub unreachable-requires : goal.unreachable-requires
unreachable-requires t c =
    let n = c.in-Some.here.value in
    let whole = sym c.self.view_is ∙ ap entries_under c.in-Some.is in
    let way = stops c.args.self.now n.left (entry_of n) n.right whole c.requires.order c.args.node.value.key (search rules) in
    let both : true ≡ false = sym way.has ∙ c.requires.absent in cc

pub insert-requires-in-Greater : goal.insert-requires-in-Greater
insert-requires-in-Greater t c =
    let n = c.in-Some.here.value in
    let whole = sym c.self.view_is ∙ ap entries_under c.in-Some.is in
    let way = goes_right c.args.self.now n.left (entry_of n) n.right whole c.requires.order c.args.node.value.key (search rules) in
    let shorter = shorter_right c.args.self.now n.left (entry_of n) n.right whole in
    rw c.deref_mut-in-Greater.ensures.value (search rules, (way.order, (way.has ∙ c.requires.absent, omega arith)))

pub returns-else-is_lopsided-clause-put : goal.returns-else-is_lopsided-clause-put
returns-else-is_lopsided-clause-put t c =
    let n = c.in-Some.here.value in
    let e = entry_of c.args.node.value in
    let b = c.match-cmp.here.value in
    let whole = sym c.self.view_is ∙ ap entries_under c.in-Some.is in
    let balanced = subst IsBalancedAt c.in-Some.is c.self.invariant.balanced in
    let grown : HasGrown c.args.self.now e b.left (entry_of b) b.right = elim c.match-cmp.branch [
      | in-Less w ↦ rw (w.here-is, w.deref_mut.ensures.value)
          (grows_left c.args.self.now n.left (entry_of n) n.right whole c.requires.order balanced e (search rules)
          w.insert.new.self (w.insert.ensures.put ∙ ap (λ (m : Node). put key_of m.left e) w.deref_mut.ensures.value)
          (w.insert.ensures.longer ∙ ap (λ (m : Node). length m.left + 1) w.deref_mut.ensures.value))
      | in-Greater w ↦ rw (w.here-is, w.deref_mut-in-Greater.ensures.value)
          (grows_right c.args.self.now n.left (entry_of n) n.right whole c.requires.order balanced e (search rules)
          w.insert-in-Greater.new.self (w.insert-in-Greater.ensures.put ∙ ap (λ (m : Node). put key_of m.right e) w.deref_mut-in-Greater.ensures.value)
          (w.insert-in-Greater.ensures.longer ∙ ap (λ (m : Node). length m.right + 1) w.deref_mut-in-Greater.ensures.value))
    ] in
    grown.put

pub returns-in-Some-replace-clause-put : goal.returns-in-Some-replace-clause-put
returns-in-Some-replace-clause-put t c =
    let n = c.in-Some.here.value in
    let e = entry_of c.args.node.value in
    let b = c.match-cmp.here.value in
    let whole = sym c.self.view_is ∙ ap entries_under c.in-Some.is in
    let balanced = subst IsBalancedAt c.in-Some.is c.self.invariant.balanced in
    let grown : HasGrown c.args.self.now e b.left (entry_of b) b.right = elim c.match-cmp.branch [
      | in-Less w ↦ rw (w.here-is, w.deref_mut.ensures.value)
          (grows_left c.args.self.now n.left (entry_of n) n.right whole c.requires.order balanced e (search rules)
          w.insert.new.self (w.insert.ensures.put ∙ ap (λ (m : Node). put key_of m.left e) w.deref_mut.ensures.value)
          (w.insert.ensures.longer ∙ ap (λ (m : Node). length m.left + 1) w.deref_mut.ensures.value))
      | in-Greater w ↦ rw (w.here-is, w.deref_mut-in-Greater.ensures.value)
          (grows_right c.args.self.now n.left (entry_of n) n.right whole c.requires.order balanced e (search rules)
          w.insert-in-Greater.new.self (w.insert-in-Greater.ensures.put ∙ ap (λ (m : Node). put key_of m.right e) w.deref_mut-in-Greater.ensures.value)
          (w.insert-in-Greater.ensures.longer ∙ ap (λ (m : Node). length m.right + 1) w.deref_mut-in-Greater.ensures.value))
    ] in
    let joined : c.join.result ≡ put key_of c.args.self.now e =
    c.join.ensures
    ∙ ap (λ (l : List Entry). l ++ entry_of c.open-left.result.1.value ∷ c.open-left.result.2) c.open-left.ensures.left
    ∙ ap (λ (h : Entry). c.in-Some-replace.here.value.left ++ h ∷ c.open-left.result.2) c.open-left.ensures.node
    ∙ ap (λ (r : List Entry). c.in-Some-replace.here.value.left ++ entry_of c.in-Some-replace.here.value ∷ r) c.open-left.ensures.right
    ∙ ap entries_under (sym c.in-Some-replace.is ∙ c.replace.ensures.value) ∙ grown.put in
    elim c.match-self-join.branch [
      | in-Some-2 w ↦ w.self-is ∙ c.join-then-is_lopsided.view_is ∙ joined
      | in-None-2 w ↦ w.self-is ∙ c.join-then-is_lopsided.view_is ∙ joined
    ]
