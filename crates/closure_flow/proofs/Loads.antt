-- Places begun anew, one after another.
use Rattle.std.proofs.Common.{◌≡◌, ℕ, ◌<◌, ◌⊎◌, inl, inr, List, set, true, ℤ, pos, sym, ap, ◌∙◌, subst, get_or-set_same, get_or-set_other}
use Rattle.std.proofs.lemmas.Bool.{cases_eq}
use Rattle.std.specs.Ordering.{nat_cmp}
use Rattle.std.specs.FinSet as fin
use Rattle.bitset.specs.Members.{from_insert, insert_here, from_remove, same_by_members, to_insert, to_remove}
use Rattle.lists.proofs.Cases.{clash}
use Rattle.bitset.specs.Sets.{contains-empty}
use Rattle.closure_flow.specs.Closures.{parents_at, weight_at}
use Rattle.closure_flow.specs.Networks.{IsSized, sent}
use Rattle.closure_flow.proofs.Networks.{sent_no}

-- the places of a set that are not left are those begun: their weights are left there, and nothing flows to them
pub record Loads (weights : List ℤ) (within left begun : fin.FinSet nat_cmp) (into : List (fin.FinSet nat_cmp)) (rest : List ℤ) : Type 0 where
  pub inside : (t : ℕ) → fin.contains left t ≡ true → fin.contains within t ≡ true
  pub begins : (t : ℕ) → fin.contains within t ≡ true → (fin.contains left t ≡ true) ⊎ (fin.contains begun t ≡ true)
  pub only : (t : ℕ) → fin.contains begun t ≡ true → fin.contains within t ≡ true
  pub weight : (t : ℕ) → fin.contains begun t ≡ true → weight_at rest t ≡ weight_at weights t
  pub none : (t : ℕ) → fin.contains begun t ≡ true → parents_at into t ≡ fin.empty

pub loads_none : (weights : List ℤ) (within begun : fin.FinSet nat_cmp) (into : List (fin.FinSet nat_cmp)) (rest : List ℤ)
    → begun ≡ fin.empty → Loads weights within within begun into rest
loads_none weights within begun into rest f =
    record {
      inside = λ t m. m;
      begins = λ t m. inl m;
      only = λ t m. no t m;
      weight = λ t m. no t m;
      none = λ t m. no t m;
    }
  where
    no : {P : Type 0} (t : ℕ) → fin.contains begun t ≡ true → P
    no t m = clash _ m (ap (λ s. fin.contains s t) f ∙ contains-empty t)

pub loads_step : (n : ℕ) (weights : List ℤ) (within left begun : fin.FinSet nat_cmp) (into : List (fin.FinSet nat_cmp)) (amounts : List ℕ)
    (rest : List ℤ) (place : ℕ) (z : ℤ)
    → IsSized n into amounts rest → fin.contains left place ≡ true → place < n → z ≡ weight_at weights place
    → Loads weights within left begun into rest
    → Loads weights within (fin.remove left place) (fin.insert begun place) (set into place fin.empty) (set rest place z)
loads_step n weights within left begun into amounts rest place z s here h w old =
    record {
      inside = λ t m. old.inside t (from_remove left place t m).1;
      begins = λ t m. elim (cases_eq t place) as (λ _. (fin.contains (fin.remove left place) t ≡ true) ⊎ (fin.contains (fin.insert begun place) t ≡ true)) [
        | inl same ↦ inr (ap (λ (x : ℕ). fin.contains (fin.insert begun place) x) same ∙ insert_here begun place)
        | inr ne ↦ elim (old.begins t m) as (λ _. (fin.contains (fin.remove left place) t ≡ true) ⊎ (fin.contains (fin.insert begun place) t ≡ true)) [
          | inl is ↦ inl (to_remove left place t ne is)
          | inr was ↦ inr (to_insert begun place t was)
        ]
      ];
      only = λ t m. elim (from_insert begun place t m) as (λ _. fin.contains within t ≡ true) [
        | inl same ↦ old.inside t (ap (λ (x : ℕ). fin.contains left x) same ∙ here)
        | inr was ↦ old.only t was
      ];
      weight = λ t m. elim (cases_eq t place) as (λ _. weight_at (set rest place z) t ≡ weight_at weights t) [
        | inl same ↦ subst (λ (x : ℕ). weight_at (set rest place z) x ≡ weight_at weights x) (sym same)
            (get_or-set_same rest place z (pos 0) (subst (λ (m : ℕ). place < m) (sym s.rests) h) ∙ w)
        | inr ne ↦ get_or-set_other rest place t z (pos 0) ne ∙ old.weight t (was t m ne)
      ];
      none = λ t m. elim (cases_eq t place) as (λ _. parents_at (set into place fin.empty) t ≡ fin.empty) [
        | inl same ↦ subst (λ (x : ℕ). parents_at (set into place fin.empty) x ≡ fin.empty) (sym same)
            (get_or-set_same into place fin.empty fin.empty (subst (λ (m : ℕ). place < m) (sym s.sets) h))
        | inr ne ↦ get_or-set_other into place t fin.empty fin.empty ne ∙ old.none t (was t m ne)
      ];
    }
  where
    was : (t : ℕ) → fin.contains (fin.insert begun place) t ≡ true → (t ≡ place → ⊥) → fin.contains begun t ≡ true
    was t m ne = elim (from_insert begun place t m) as (λ _. fin.contains begun t ≡ true) [ inl same ↦ absurd (ne same) | inr is ↦ is ]

-- at the end they are all of them
pub loads_whole : (weights : List ℤ) (within left begun : fin.FinSet nat_cmp) (into : List (fin.FinSet nat_cmp)) (rest : List ℤ)
    → left ≡ fin.empty → Loads weights within left begun into rest → begun ≡ within
loads_whole weights within left begun into rest none loads =
    same_by_members begun within loads.only
    (λ t m. elim (loads.begins t m) as (λ _. fin.contains begun t ≡ true) [
      | inl is ↦ clash _ is (ap (λ s. fin.contains s t) none ∙ contains-empty t)
      | inr was ↦ was
    ])

pub loads_all : (n : ℕ) (weights : List ℤ) (within left begun : fin.FinSet nat_cmp) (into : List (fin.FinSet nat_cmp)) (amounts : List ℕ)
    (rest : List ℤ) → left ≡ fin.empty → Loads weights within left begun into rest
    → (t : ℕ) → fin.contains within t ≡ true → (weight_at rest t ≡ weight_at weights t) × ((c : ℕ) → sent n into amounts c t ≡ 0)
loads_all n weights within left begun into amounts rest none loads t m =
    let is : fin.contains begun t ≡ true = ap (λ s. fin.contains s t) (loads_whole weights within left begun into rest none loads) ∙ m in (
      loads.weight t is,
      λ c. sent_no n into amounts c t (ap (λ (s : fin.FinSet nat_cmp). fin.contains s c) (loads.none t is) ∙ contains-empty c),
    )
