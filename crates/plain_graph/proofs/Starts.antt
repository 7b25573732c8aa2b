-- Walks from one name and from two, and the places that they need.
use Rattle.std.proofs.Common.{◌≡◌, ℕ, ◌≤◌, Bool, true, false, List, [], ◌∷◌, length, sym, refl, subst, inl, inr, ◌⊎◌, arith, eqb}
use Rattle.std.specs.Prelude.{Contains, nat_eq}
use Rattle.std.specs.List.{IsDistinct}
use Rattle.std.proofs.lemmas.List.{length-map}
use Rattle.std.proofs.lemmas.Bool.Decides.{Decides-eqb}
use Rattle.lists.proofs.Entries.{Contains-head, Contains-later, Contains-cases}
use Rattle.graph_model.specs.declared.names.Limits.{Limits}
use Rattle.graphs.specs.Graphs.{AreConnected, Lists}
use Rattle.graphs.proofs.ListLemmas.{Lists-for}
use Rattle.graphs.proofs.WalkLemmas.{AreConnected-sym}
use Rattle.plain_graph.specs.declared.tx.Tx.{Tx}
use Rattle.plain_graph.specs.declared.walk.Way.{Way}
use Rattle.plain_graph.specs.declared.walk.Way.TheVariants.{Either}
use Rattle.plain_graph.specs.Walks.{Reaches, ReachesFrom, HoldsAll}
use Rattle.plain_graph.specs.Sound.{names_of, IsSound}

pub distinct_one : (id : ℕ) → IsDistinct nat_eq (id ∷ [])
unfolding IsDistinct
distinct_one id = (tt, tt)

differ : (a b : ℕ) → (a ≡ b → ⊥) → (r : Bool) → eqb a b ≡ r → eqb a b ≡ false
differ a b other true is = absurd (other ((Decides-eqb a b).0 is))
differ a b other false is = is

pub distinct_two : (a b : ℕ) → (a ≡ b → ⊥) → IsDistinct nat_eq (a ∷ b ∷ [])
unfolding IsDistinct
distinct_two a b other = ((differ a b other (eqb a b) refl, tt), (tt, tt))

only_one : (id q : ℕ) (P : ℕ → Type 0) → P id → Contains (id ∷ []) q → P q
only_one id q P here among = elim (Contains-cases id q [] among) [ inl same ↦ subst P same here | inr none ↦ absurd (omega (arith, none.1)) ]

only_two : (a b q : ℕ) (P : ℕ → Type 0) → P a → P b → Contains (a ∷ b ∷ []) q → P q
only_two a b q P one other among = elim (Contains-cases a q (b ∷ []) among) [ inl same ↦ subst P same one | inr later ↦ only_one b q P other later ]

names_fit : (set : Limits) (txs : List Tx) (pairs : List (ℕ × ℕ)) (places : ℕ) → IsSound set txs pairs places → length (names_of txs) ≤ places
names_fit set txs pairs places sound = subst (λ (n : ℕ). n ≤ places) (sym (length-map txs (λ (tx : Tx). tx.id))) sound.enough

pub holds_one : (set : Limits) (txs : List Tx) (pairs : List (ℕ × ℕ)) (places id : ℕ)
    → IsSound set txs pairs places → Contains (names_of txs) id → HoldsAll pairs (id ∷ []) places
holds_one set txs pairs places id sound here = record {
  names = names_of txs;
  ends = sound.ends;
  inside = λ q among. only_one id q (Contains (names_of txs)) here among;
  enough = names_fit set txs pairs places sound;
}

pub holds_two : (set : Limits) (txs : List Tx) (pairs : List (ℕ × ℕ)) (places a b : ℕ) → IsSound set txs pairs places
    → Contains (names_of txs) a → Contains (names_of txs) b → HoldsAll pairs (a ∷ b ∷ []) places
holds_two set txs pairs places a b sound here there = record {
  names = names_of txs;
  ends = sound.ends;
  inside = λ q among. only_two a b q (Contains (names_of txs)) here there among;
  enough = names_fit set txs pairs places sound;
}

pub lists_from_one : (way : Way) (pairs : List (ℕ × ℕ)) (id : ℕ) (ids : List ℕ) → Lists (ReachesFrom way pairs (id ∷ [])) ids → Lists (Reaches way pairs id) ids
lists_from_one way pairs id ids lists =
    Lists-for (ReachesFrom way pairs (id ∷ [])) (Reaches way pairs id) ids
    (λ q walk. only_one id walk.0 (λ start. Reaches way pairs start q → Reaches way pairs id q) (λ walk. walk) walk.1 walk.2)
    (λ q walk. (id, Contains-head id [], walk)) lists

from_either : (pairs : List (ℕ × ℕ)) (a b q : ℕ) → ReachesFrom Either pairs (a ∷ b ∷ []) q → AreConnected pairs q a ⊎ AreConnected pairs q b
from_either pairs a b q walk =
    only_two a b walk.0 (λ start. AreConnected pairs start q → AreConnected pairs q a ⊎ AreConnected pairs q b)
    (λ walk. inl (AreConnected-sym pairs a q walk)) (λ walk. inr (AreConnected-sym pairs b q walk)) walk.1 walk.2

to_either : (pairs : List (ℕ × ℕ)) (a b q : ℕ) → AreConnected pairs q a ⊎ AreConnected pairs q b → ReachesFrom Either pairs (a ∷ b ∷ []) q
to_either pairs a b q walk = elim walk [
  | inl first ↦ (a, Contains-head a (b ∷ []), AreConnected-sym pairs q a first)
  | inr second ↦ (b, Contains-later a b (b ∷ []) (Contains-head b []), AreConnected-sym pairs q b second)
]

pub lists_from_two : (pairs : List (ℕ × ℕ)) (a b : ℕ) (ids : List ℕ) → Lists (ReachesFrom Either pairs (a ∷ b ∷ [])) ids
    → Lists (λ id. AreConnected pairs id a ⊎ AreConnected pairs id b) ids
lists_from_two pairs a b ids lists =
    Lists-for (ReachesFrom Either pairs (a ∷ b ∷ [])) (λ id. AreConnected pairs id a ⊎ AreConnected pairs id b) ids
    (from_either pairs a b) (to_either pairs a b) lists
