-- The first entry of a list with a property.
use Rattle.std.proofs.Common.{◌≡◌, ℕ, List, [], ◌∷◌, ◌++◌, sym, refl, ap, subst, inl, inr, ◌⊎◌}
use Rattle.std.specs.Prelude.{Contains}
use Rattle.std.proofs.lemmas.List.Elements.{Contains-append_right}
use Rattle.lists.proofs.Entries.{first_of, rest_of, Contains-head, Contains-later, Contains-splits, none_in_empty, Contains-cases}
use Rattle.lists.specs.Distinct.{AreDistinct}
use Rattle.graph_model.specs.Refusals.{IsFirst}

-- the first with a property is the first with each that the same entries have
pub first_along : (P Q : List ℕ → ℕ → Type 0) (ids : List ℕ) (id : ℕ) → ((before : List ℕ) (n : ℕ) → P before n → Q before n)
    → ((before : List ℕ) (n : ℕ) → Q before n → P before n) → IsFirst P ids id → IsFirst Q ids id
first_along P Q ids id to from first = record {
  before = first.before;
  after = first.after;
  cut = first.cut;
  has = to first.before id first.has;
  earlier = λ front rest other at holds. first.earlier front rest other at (from front other holds);
}

pub first_in : (P : List ℕ → ℕ → Type 0) (ids : List ℕ) (id : ℕ) → IsFirst P ids id → Contains ids id
first_in P ids id first =
    subst (λ ns. Contains ns id) (sym first.cut) (Contains-append_right first.before (id ∷ first.after) id (Contains-head id first.after))

-- where a list has no first entry with a property, no entry has it
pub none_first : (P : List ℕ → ℕ → Type 0) (ids : List ℕ) → ((n : ℕ) → IsFirst P ids n → ⊥) → (before after : List ℕ) (n : ℕ)
    → ids ≡ before ++ n ∷ after → P before n → ⊥
none_first P [] none [] after n at holds = cc
none_first P [] none (y ∷ ys) after n at holds = cc
none_first P (x ∷ xs) none before after n at holds = by (none_first (λ front q. P (x ∷ front) q) xs later) before after n at holds
  where
    no_front : (front rest : List ℕ) (other : ℕ) → [] ≡ front ++ other ∷ rest → P front other → ⊥
    no_front [] rest other e holds = cc
    no_front (y ∷ ys) rest other e holds = cc

    not_head : P [] x → ⊥
    not_head holds = none x (record { before = []; after = xs; cut = refl; has = holds; earlier = no_front })

    none_before : (m : ℕ) (first : IsFirst (λ front q. P (x ∷ front) q) xs m) → (front rest : List ℕ) (other : ℕ)
        → x ∷ first.before ≡ front ++ other ∷ rest → P front other → ⊥
    none_before m first [] rest other e holds = not_head (subst (P []) (sym (first_of e)) holds)
    none_before m first (y ∷ ys) rest other e holds = first.earlier ys rest other (rest_of e) (subst (λ z. P (z ∷ ys) other) (sym (first_of e)) holds)

    later : (m : ℕ) → IsFirst (λ front q. P (x ∷ front) q) xs m → ⊥
    later m first = none m (record {
      before = x ∷ first.before;
      after = first.after;
      cut = ap (λ ys. x ∷ ys) first.cut;
      has = first.has;
      earlier = none_before m first;
    })

    by : ((before after : List ℕ) (n : ℕ) → xs ≡ before ++ n ∷ after → P (x ∷ before) n → ⊥) → (before after : List ℕ) (n : ℕ)
        → x ∷ xs ≡ before ++ n ∷ after → P before n → ⊥
    by rest [] after n at holds = not_head (subst (P []) (sym (first_of at)) holds)
    by rest (y ∷ ys) after n at holds = rest ys after n (rest_of at) (subst (λ z. P (z ∷ ys) n) (sym (first_of at)) holds)

-- the same of a property of an entry alone
pub none_with : (P : ℕ → Type 0) (ids : List ℕ) → ((n : ℕ) → IsFirst (λ before id. P id) ids n → ⊥) → (n : ℕ) → Contains ids n → P n → ⊥
none_with P ids none n here = let cut = Contains-splits ids n here in none_first (λ before id. P id) ids none cut.0 cut.1 n cut.2

-- a list without an entry that stands earlier too has each once
pub none_twice : (ids : List ℕ) → ((before after : List ℕ) (n : ℕ) → ids ≡ before ++ n ∷ after → Contains before n → ⊥) → AreDistinct ids
none_twice [] none = tt
none_twice (x ∷ xs) none = (
  λ here. let cut = Contains-splits xs x here in none (x ∷ cut.0) cut.1 x (ap (λ ys. x ∷ ys) cut.2) (Contains-head x cut.0),
  none_twice xs (λ before after n at here. none (x ∷ before) after n (ap (λ ys. x ∷ ys) at) (Contains-later x n before here)),
)

-- the first entry with a property that can be told of each, or none has it
pub first_or_none : (P : ℕ → Type 0) → (xs : List ℕ) → ((x : ℕ) → Contains xs x → P x ⊎ (P x → ⊥))
    → ((id : ℕ) × IsFirst (λ before id. P id) xs id) ⊎ ((x : ℕ) → Contains xs x → P x → ⊥)
first_or_none P [] told = inr (λ x none. absurd (none_in_empty x none))
first_or_none P (y ∷ ys) told = elim (told y (Contains-head y ys)) [
  | inl at_once ↦ inl (y, record { before = []; after = ys; cut = refl; has = at_once; earlier = no_front })
  | inr not_yet ↦ elim (first_or_none P ys (λ x here. told x (Contains-later y x ys here))) [
    | inl found ↦ inl (
      found.0,
      record {
        before = y ∷ found.1.before;
        after = found.1.after;
        cut = ap (λ (zs : List ℕ). y ∷ zs) found.1.cut;
        has = found.1.has;
        earlier = none_before y found.0 ys not_yet found.1;
      },
    )
    | inr none ↦ inr (λ x here holds. elim (Contains-cases y x ys here) [
      | inl same ↦ not_yet (subst P (sym same) holds)
      | inr later ↦ none x later holds
    ])
  ]
]
  where
    no_front : (front rest : List ℕ) (other : ℕ) → [] ≡ front ++ other ∷ rest → P other → ⊥
    no_front [] rest other e held = cc
    no_front (z ∷ zs) rest other e held = cc

    none_before : (y id : ℕ) (ys : List ℕ) → (P y → ⊥) → (first : IsFirst (λ before q. P q) ys id) → (front rest : List ℕ) (other : ℕ)
        → y ∷ first.before ≡ front ++ other ∷ rest → P other → ⊥
    none_before y id ys not_yet first [] rest other e held = not_yet (subst P (sym (first_of e)) held)
    none_before y id ys not_yet first (z ∷ zs) rest other e held = first.earlier zs rest other (rest_of e) held
