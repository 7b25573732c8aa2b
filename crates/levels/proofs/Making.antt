-- What comes into the top level of a shelf in the place of what goes out, and what a call of the shelf makes of it.
use Rattle.std.proofs.Common.{◌≡◌, ℕ, zero, suc, ◌*◌, Bool, List, [], ◌∷◌, ◌++◌, Contains, Option, Some, None, is_some, IsSome, inl, inr, sym, ap, ◌∙◌, subst, arith}
use Rattle.std.specs.Prelude.{slice_get, slice_index}
use Rattle.std.specs.List.{AllPairs}
use Rattle.std.proofs.lemmas.Option.{none-some, same_Some}
use Rattle.std.proofs.lemmas.List.Elements.{Contains-append_left, Contains-append_right, Contains-append_cases}
use Rattle.std.specs.FinMap as finmap
use Rattle.lists.proofs.Entries.{Contains-head, Contains-later, Contains-cases, none_in_empty}
use Rattle.graphs.specs.declared.names.Level.TheVariants.{Top}
use Rattle.cluster.specs.Clusters.{Cluster, AreApart}
use Rattle.record.specs.Records.{IsRecord}
use Rattle.levels.specs.Changes.{AreAt, Covers, IsNamed, Points}
use Rattle.levels.specs.Shelves.{Shelf, numbers_at, seen_at}
use Rattle.levels.specs.Tops.{Exchanged, IsMade, TopRebuilds}
use Rattle.levels.specs.Views.{Numbers}
use Rattle.cluster_store.proofs.Listed.{at_more, at_one, only_one}
use Rattle.levels.proofs.Pointing.{one_list}

-- ---- one cluster

pub named_one : (c : Cluster) (id : ℕ) → IsNamed (c ∷ []) id → Contains c.names id
named_one c id named = elim (Contains-cases c named.0 [] named.1) [
  | inl same ↦ subst (λ (x : Cluster). Contains x.names id) (sym same) named.2
  | inr none ↦ absurd (none_in_empty named.0 none)
]

pub one_named : (c : Cluster) (id : ℕ) → Contains c.names id → IsNamed (c ∷ []) id
one_named c id here = (c, Contains-head c [], here)

pub pairs_one : (c : Cluster) → AllPairs AreApart (c ∷ [])
pairs_one c i j d before low = absurd (omega (arith, before, low))

pub all_one : (P : Cluster → Type 0) (c : Cluster) → P c → (d : Cluster) → Contains (c ∷ []) d → P d
all_one P c whole d here = elim (Contains-cases c d [] here) [
  | inl same ↦ subst P same whole
  | inr none ↦ absurd (none_in_empty d none)
]

-- the names of one cluster have its number
pub points_one : (made : ℕ) (c : Cluster) (old new : Numbers) → ((id : ℕ) → Contains c.names id → finmap.get new id ≡ Some made)
    → ((id : ℕ) → (Contains c.names id → ⊥) → finmap.get new id ≡ finmap.get old id) → Points (made ∷ []) (c ∷ []) [] old new
points_one made c old new pointed others = record {
  pointed = λ i id d at here. from i id d at here;
  lost = λ id here. absurd (none_in_empty id here);
  others = λ id none gone. others id (λ here. none (one_named c id here));
}
  where
    from : (i id : ℕ) (d : Cluster) → slice_get (c ∷ []) i ≡ Some d → Contains d.names id → finmap.get new id ≡ Some (slice_index (made ∷ []) i)
    from zero id d at here = pointed id (subst (λ (x : Cluster). Contains x.names id) (sym (same_Some c d at)) here)
    from (suc i) id d at here = absurd (none-some d at)

-- ---- what is known of a change of a shelf

pub record Shifts (staged : Bool) (outs made : List ℕ) (news : List Cluster) (old new : Shelf) : Type 0 where
  pub exchanged : Exchanged staged outs made news old.store.clusters new.store.clusters
  pub is_staged : staged ≡ is_some old.staging
  pub kept : is_some new.staging ≡ is_some old.staging
  pub limits : new.limits ≡ old.limits
  pub base : IsSome old.staging → new.main ≡ old.main

pub shifts : (w : ℕ) (staged : Bool) (outs made : List ℕ) (olds news : List Cluster) (gone : List ℕ) (old new : Shelf) → Shifts staged outs made news old new
    → AreAt (seen_at Top old.store.clusters) outs olds → Points made news gone (numbers_at Top old) (numbers_at Top new)
    → Covers (64 * w) olds news gone (numbers_at Top old) → TopRebuilds w outs made olds news gone old new
shifts w staged outs made olds news gone old new s taken points covers = record {
  top = record { taken = taken; exchanges = s.exchanged.top; points = points; covers = covers };
  staged = s.kept;
  limits = s.limits;
  base = s.base;
  main = λ some. s.exchanged.main (s.is_staged ∙ some);
  fresh = λ some. s.exchanged.fresh (s.is_staged ∙ some);
}

-- ---- what may come in

-- a new name, alone
pub covers_new : (w id : ℕ) (c : Cluster) (numbers : Numbers) → IsRecord (64 * w) c → c.names ≡ id ∷ [] → finmap.get numbers id ≡ None
    → Covers (64 * w) [] (c ∷ []) [] numbers
covers_new w id c numbers whole names absent = record {
  whole = all_one (IsRecord (64 * w)) c whole;
  apart = pairs_one c;
  from = λ q named. inr (ap (finmap.get numbers) (only_one id q (subst (λ (xs : List ℕ). Contains xs q) names (named_one c q named))) ∙ absent);
  kept = λ q named. absurd (none_in_empty named.0 named.1);
  lose = λ q here. absurd (none_in_empty q here);
}

-- a cluster of the same names
pub covers_same : (w : ℕ) (a c : Cluster) (numbers : Numbers) → IsRecord (64 * w) c → c.names ≡ a.names → Covers (64 * w) (a ∷ []) (c ∷ []) [] numbers
covers_same w a c numbers whole names = record {
  whole = all_one (IsRecord (64 * w)) c whole;
  apart = pairs_one c;
  from = λ q named. inl (one_named a q (subst (λ (xs : List ℕ). Contains xs q) names (named_one c q named)));
  kept = λ q named. inl (one_named c q (subst (λ (xs : List ℕ). Contains xs q) (sym names) (named_one a q named)));
  lose = λ q here. absurd (none_in_empty q here);
}

-- one cluster of the names of two
pub covers_joined : (w : ℕ) (a b c : Cluster) (numbers : Numbers) → IsRecord (64 * w) c → c.names ≡ a.names ++ b.names
    → Covers (64 * w) (a ∷ b ∷ []) (c ∷ []) [] numbers
covers_joined w a b c numbers whole names = record {
  whole = all_one (IsRecord (64 * w)) c whole;
  apart = pairs_one c;
  from = λ q named. inl (elim (Contains-append_cases a.names b.names q (subst (λ (xs : List ℕ). Contains xs q) names (named_one c q named))) [
    | inl x ↦ (a, Contains-head a (b ∷ []), x)
    | inr y ↦ (b, Contains-later a b (b ∷ []) (Contains-head b []), y)
  ]);
  kept = λ q named. inl (one_named c q (subst (λ (xs : List ℕ). Contains xs q) (sym names) (elim (Contains-cases a named.0 (b ∷ []) named.1) [
    | inl same ↦ Contains-append_left a.names b.names q (subst (λ (x : Cluster). Contains x.names q) (sym same) named.2)
    | inr later ↦ Contains-append_right a.names b.names q (named_one b q (named.0, later, named.2))
  ])));
  lose = λ q here. absurd (none_in_empty q here);
}

-- ---- what came in

-- one cluster came in
pub one_made : (w : ℕ) (outs made : List ℕ) (number : Option ℕ) (c : Cluster) (gone : List ℕ) (old new : Shelf)
    → (is : IsMade w outs made number [] (Some c) gone old new) → (k : ℕ) × TopRebuilds w outs (k ∷ []) is.olds (c ∷ []) gone old new
one_made w outs [] (Some k) c gone old new is = (k, is.rebuilds)
one_made w outs [] None c gone old new is = absurd (let few = is.rebuilds.top.exchanges.stand.count in omega (arith, few))
one_made w outs (x ∷ xs) number c gone old new is = absurd (let few = is.count in omega (arith, few))

-- what went out, where it is known
pub olds_are : (w : ℕ) (outs made : List ℕ) (news : List Cluster) (olds known : List Cluster) (gone : List ℕ) (old new : Shelf)
    → AreAt (seen_at Top old.store.clusters) outs known → TopRebuilds w outs made olds news gone old new → TopRebuilds w outs made known news gone old new
olds_are w outs made news olds known gone old new at r =
    subst (λ (xs : List Cluster). TopRebuilds w outs made xs news gone old new) (one_list (seen_at Top old.store.clusters) outs olds known r.top.taken at) r

-- the two clusters of two numbers
pub at_two : (at : ℕ → Option Cluster) (n m : ℕ) (a b : Cluster) → at n ≡ Some a → at m ≡ Some b → AreAt at (n ∷ m ∷ []) (a ∷ b ∷ [])
at_two at n m a b one two = at_more at n a (m ∷ []) (b ∷ []) one (at_one at m b two)
