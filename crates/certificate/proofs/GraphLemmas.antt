-- The first test, put together.
use Rattle.std.proofs.Common.{◌≡◌, ℕ, ◌<◌, ◌≤◌, List, length, sym, ◌∙◌, subst, get_or, ℤ, pos, Option, Bool, true, false}
use Rattle.std.specs.Prelude.{Contains, MatchBool}
use Rattle.std.proofs.lemmas.Bool.{true≢false}
use Rattle.std.proofs.lemmas.List.{get_or_default}
use Rattle.std.proofs.lemmas.List.Elements.{Contains-get_or}
use Rattle.lists.specs.Distinct.{AreDistinct}
use Rattle.fee_rate.specs.declared.limits.TheConstants.{MAX_TOTAL}
use Rattle.fee_rate.specs.Limits.{IsFee, IsSize}
use Rattle.graphs.specs.Graphs.{HasNoCycle, IsGraph}
use Rattle.graphs.specs.Certificates.{Txs, HasGraph, graph_of}
use Rattle.places.specs.Places.{ArePlaces, AreAmong}
use Rattle.certificate.specs.Places.{ArePairs}
use Rattle.certificate.specs.Tables.{names_of, AreInLimits}
use Rattle.certificate.proofs.PlaceLemmas.{places_distinct}
use Rattle.certificate.proofs.Labels.{Labels, no_cycle_named, no_cycle_placed, ends_named}

-- a test's answer says as much of whatever holds where it says yes, and doesn't where it says no
pub same_answer : (answer : Bool) (Yes No Other : Type 0) → (Yes → Other) → (Other → No)
    → MatchBool answer Yes (No → ⊥) → MatchBool answer Other (Other → ⊥)
same_answer true Yes No Other f g h = f h
same_answer false Yes No Other f g h = λ o. h (g o)

-- where an answer is no, what was tested doesn't hold
pub no_answer : (answer : Bool) (Yes No : Type 0) → answer ≡ false → No → MatchBool answer Yes No
no_answer true Yes No is never = absurd (true≢false is)
no_answer false Yes No is never = never

pub labels_of : (names : List ℕ) (find : ℕ → Option ℕ) (edges pairs : List (ℕ × ℕ)) → ArePlaces names find → ArePairs names edges pairs → Labels names pairs
labels_of names find edges pairs h p = record { distinct = places_distinct names find h; within = p.within }

pub edges_acyclic : (names : List ℕ) (find : ℕ → Option ℕ) (edges pairs : List (ℕ × ℕ))
    → ArePlaces names find → ArePairs names edges pairs → HasNoCycle pairs → HasNoCycle edges
edges_acyclic names find edges pairs h p n = subst HasNoCycle (sym p.same) (no_cycle_named names pairs (labels_of names find edges pairs h p) n)

pub pairs_acyclic : (names : List ℕ) (edges pairs : List (ℕ × ℕ)) → ArePairs names edges pairs → HasNoCycle edges → HasNoCycle pairs
pairs_acyclic names edges pairs p n = no_cycle_placed names pairs (subst HasNoCycle p.same n)

pub ends_are_names : (names : List ℕ) (edges pairs : List (ℕ × ℕ)) → ArePairs names edges pairs → AreAmong names edges
ends_are_names names edges pairs p a b here = ends_named names pairs a b p.within (subst (λ l. Contains {X = ℕ × ℕ} l (a, b)) p.same here)

pub is_graph : (txs : Txs) (find : ℕ → Option ℕ) (edges pairs : List (ℕ × ℕ)) → ArePlaces (names_of txs) find
    → ArePairs (names_of txs) edges pairs → AreDistinct edges → HasNoCycle pairs → IsGraph (graph_of txs edges)
is_graph txs find edges pairs h p d n = record {
  names = places_distinct (names_of txs) find h;
  pairs = d;
  ends = ends_are_names (names_of txs) edges pairs p;
  acyclic = edges_acyclic (names_of txs) find edges pairs h p n;
}

-- ---- limits
pub limits_all : (txs : Txs) → length txs ≤ MAX_TOTAL
    → ((k : ℕ) → k < length txs → IsFee (get_or txs k (0, pos 0, 0)).1 × IsSize (get_or txs k (0, pos 0, 0)).2) → AreInLimits txs
limits_all txs few h = record {
  few = few;
  limits =
      λ id fee size (k, in', e).
      let same : ◌≡◌ {A = ℕ × ℤ × ℕ} (get_or txs k (0, pos 0, 0)) (id, fee, size) = get_or_default txs k (0, pos 0, 0) (id, fee, size) in' ∙ e in
      subst (λ (x : ℕ × ℤ × ℕ). IsFee x.1 × IsSize x.2) same (h k in');
}

pub limits_at : (txs : Txs) (k : ℕ) → AreInLimits txs → k < length txs → IsFee (get_or txs k (0, pos 0, 0)).1 × IsSize (get_or txs k (0, pos 0, 0)).2
limits_at txs k l in' = l.limits _ _ _ (Contains-get_or txs k (0, pos 0, 0) in')

pub limits_part : (txs : Txs) (edges : List (ℕ × ℕ)) → HasGraph txs edges → AreInLimits txs
limits_part txs edges h = record { few = h.few; limits = h.limits }
