use Rattle.std.proofs.Common.{◌≡◌, ◌≤◌, ◌<◌, ℕ, true, false, ap, ◌∙◌}
use Rattle.std.specs.FinSet as fin
use Rattle.dep_graph.proofs.Changed.{free_is}
use Rattle.dep_graph.proofs.graph.free_place.Goals as goal

found : (g : _) (c : goal.After-unwrap_or g) → (fin.contains c.args.members.now c.unwrap_or.result ≡ false)
    × ((p : ℕ) → p < c.unwrap_or.result → fin.contains c.args.members.now p ≡ true) × (c.unwrap_or.result ≤ c.args.used)
found g c =
    rw c.unwrap_or.ensures
    (free_is c.args.used c.args.members.now c.minus.result c.least.result
    (c.minus.ensures ∙ ap (λ s. fin.difference s c.args.members.now) c.first_n.ensures) c.least.ensures.least c.requires.within)

pub returns-clause-free : goal.returns-clause-free
returns-clause-free g c = (found g c).0

pub returns-clause-least : goal.returns-clause-least
returns-clause-least g c = (found g c).1

pub returns-clause-within : goal.returns-clause-within
returns-clause-within g c = (found g c).2
