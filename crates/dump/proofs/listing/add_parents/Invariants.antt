use Rattle.std.proofs.Common.{◌≡◌, ◌++◌, map}
use Rattle.dump.proofs.listing.add_parents.Given as goal

-- the edges from the parents so far were added
abbrev pub invariant-loop-parent : goal.invariant-loop-parent
invariant-loop-parent g l = record {
  rest : l.fn.parents ≡ l.yielded ++ l.parent-iterator;
  added : l.edges.items ≡ l.fn.edges.items ++ map (λ parent. (parent, l.fn.child)) l.yielded;
}
