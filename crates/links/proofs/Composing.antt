-- What is made of transactions and pairs.
use Rattle.std.proofs.Common.{◌≡◌, ℕ, suc, List, sym, subst}
use Rattle.std.specs.Prelude.{Contains}
use Rattle.lists.specs.Distinct.{AreDistinct}
use Rattle.graphs.specs.Graphs.{HasNoCycle}
use Rattle.graphs.specs.Certificates.{Txs}
use Rattle.graphs.proofs.WalkLemmas.{walk_within}
use Rattle.links.specs.Links.{Links, AreAmong, AreInRange, AreLinks, AreSame}
use Rattle.links.specs.Kept.{names_of}

pub same_among : (names : List ℕ) (old new : List (ℕ × ℕ)) → AreSame old new → AreAmong names old → AreAmong names new
same_among names old new same among a b here = among a b ((same a b).0 here)

-- fewer pairs, fewer cycles
pub no_cycle_within : (old new : List (ℕ × ℕ)) → ((a b : ℕ) → Contains {X = ℕ × ℕ} new (a, b) → Contains {X = ℕ × ℕ} old (a, b))
    → HasNoCycle old → HasNoCycle new
no_cycle_within old new inside acyclic a n walk = acyclic a n (walk_within new old inside a a (suc n) walk)

pub are_links : (txs : Txs) (old new : List (ℕ × ℕ)) → AreDistinct (names_of txs) → AreInRange txs → AreAmong (names_of txs) old → HasNoCycle old
    → AreSame old new → AreDistinct new → AreLinks (record { txs = txs; pairs = new })
are_links txs old new once in_range among acyclic same new_once = record {
  in_range = in_range;
  graph_is = record {
    names = once;
    pairs = new_once;
    ends = same_among (names_of txs) old new same among;
    acyclic = no_cycle_within old new (λ a b here. (same a b).0 here) acyclic;
  };
}

-- links, as their lists are read
pub as_read : (links : Links) (txs : Txs) (pairs : List (ℕ × ℕ)) → txs ≡ links.txs → pairs ≡ links.pairs → AreLinks links
    → AreLinks (record { txs = txs; pairs = pairs })
as_read links txs pairs first second are =
    subst (λ (ts : Txs). AreLinks (record { txs = ts; pairs = pairs })) (sym first)
    (subst (λ (ps : List (ℕ × ℕ)). AreLinks (record { txs = links.txs; pairs = ps })) (sym second) are)
