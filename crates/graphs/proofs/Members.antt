-- The members of a closure as a set.
use Rattle.std.proofs.Common.{◌≡◌, ℕ, sym, ◌∙◌}
use Rattle.std.specs.Cmp.{nat_cmp_total}
use Rattle.std.specs.FinMap as map
use Rattle.std.specs.FinSet as fin
use Rattle.graphs.specs.Closures.{Closure, is_member, members_of}

pub contains-members_of : (g : Closure) (p : ℕ) → fin.contains (members_of g) p ≡ is_member g p
unfolding members_of is_member
contains-members_of g p = fin.contains-from_list nat_cmp_total (map.keys g) p ∙ sym (map.contains_key-keys g p)
