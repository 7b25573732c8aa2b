-- The closure of links. So links and clusters can be told by one kind of value: names, a closure, and parts, of which links have none.
use Rattle.std.specs.Prelude.{ℕ, Bool, ◌&&◌, ◌||◌, nat_eq, List, [], ◌∷◌, ℤ}
use Rattle.std.specs.List.{filter}
use Rattle.std.specs.FinSet as set
use Rattle.std.specs.FinMap as finmap
use Rattle.graphs.specs.Certificates.{Txs}
use Rattle.graphs.specs.Closures.{Closure, Node}
use Rattle.links.specs.Links.{Links}
use Rattle.links.specs.Kept.{names_of}

-- Whether pairs lead from a to d: without the first pair, or down to its parent and on from its child.
unfoldable pub leads : List (ℕ × ℕ) → ℕ → ℕ → Bool
leads [] a d = nat_eq a d
leads (pair ∷ pairs) a d = leads pairs a d || (leads pairs a pair.0 && leads pairs pair.1 d)

-- What the closure knows of a transaction: its rate, and which of the names lead to it.
abbrev pub node : List ℕ → List (ℕ × ℕ) → ℕ × ℤ × ℕ → Node
node names pairs tx = record {
  rate = record { fee = tx.1; size = tx.2 };
  ancestors = set.from_list (filter (λ a. leads pairs a tx.0) names);
}

unfoldable pub nodes : List ℕ → List (ℕ × ℕ) → Txs → Closure
nodes names pairs [] = finmap.empty
nodes names pairs (tx ∷ txs) = finmap.insert (nodes names pairs txs) tx.0 (node names pairs tx)

-- The closure of links: their names, each with its fee and size and its ancestors.
abbrev pub closure : Links → Closure
closure links = nodes (names_of links.txs) links.pairs links.txs
