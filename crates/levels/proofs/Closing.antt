-- What the graph of a level is where one cluster came in, alone or in the place of another of the same names.
use Rattle.std.proofs.Common.{◌≡◌, ◌≢◌, ℕ, ℤ, true, false, ◌&&◌, ◌||◌, nat_eq, List, [], ◌∷◌, Contains, Option, None, is_some, inl, inr, refl, sym, ap, ap₂, ◌∙◌, subst, eq-eqb, ne_eqb}
use Rattle.std.proofs.lemmas.Bool.{cases_eq, and_right, or_left}
use Rattle.std.specs.FinMap as finmap
use Rattle.std.specs.FinSet as set
use Rattle.std.specs.Ordering.{nat_cmp}
use Rattle.lists.proofs.Cases.{none_of, or_false}
use Rattle.lists.proofs.Entries.{Contains-head, Contains-cases, none_in_empty}
use Rattle.lists.proofs.Told.{told_number}
use Rattle.fee_rate.specs.declared.rates.FeeRate.{FeeRate}
use Rattle.graphs.specs.Closures.{Closure, Node, is_member, is_ancestor, ancestors_of, ancestors_in, rate_of, rate_in, SetsFee}
use Rattle.cluster.specs.Clusters.{Cluster}
use Rattle.cluster.specs.Changes.{IsSingle}
use Rattle.levels.specs.Changes.{IsNamed, IsRebuilt}
use Rattle.levels.specs.Levels.{AddsName}
use Rattle.levels.specs.Views.{IsClusterOf}

-- ---- what a node says

module _ (g h : Closure) (q : ℕ) (same : finmap.get h q ≡ finmap.get g q) where
  pub member_same : is_member h q ≡ is_member g q
  unfolding is_member
  member_same = ap is_some same

  pub rate_same : rate_of h q ≡ rate_of g q
  unfolding rate_of
  rate_same = ap rate_in same

  pub above_same : (a : ℕ) → is_ancestor h a q ≡ is_ancestor g a q
  unfolding ancestors_of
  above_same a = ap (λ (o : Option Node). set.contains (ancestors_in o) a) same

pub member_absent : (g : Closure) (q : ℕ) → finmap.get g q ≡ None → is_member g q ≡ false
unfolding is_member
member_absent g q none = ap is_some none

pub above_absent : (g : Closure) (a q : ℕ) → finmap.get g q ≡ None → is_ancestor g a q ≡ false
unfolding ancestors_of
above_absent g a q none = ap (λ (o : Option Node). set.contains (ancestors_in o) a) none ∙ set.contains-empty nat_cmp a

pub absent_member : (g : Closure) (q : ℕ) → is_member g q ≡ false → finmap.get g q ≡ None
unfolding is_member
absent_member g q absent = none_of (finmap.get g q) absent

-- what descends from a name of a cluster is of the cluster
pub below_in : (g : Closure) (q d : ℕ) (c : Cluster) → IsClusterOf g q c → is_ancestor g q d ≡ true → Contains c.names d
below_in g q d c of up = of.alone d (d ∷ [], (inl up, refl))

-- ---- a cluster in the place of another of the same names

module _ (a b : Cluster) (g h : Closure) (r : IsRebuilt (a ∷ []) (b ∷ []) [] g h) (names : b.names ≡ a.names) where
  in_new : (q : ℕ) → Contains a.names q → Contains b.names q
  in_new q here = subst (λ (xs : List ℕ). Contains xs q) (sym names) here

  old_of : (q : ℕ) → Contains a.names q → IsClusterOf g q a × (is_member g q ≡ true)
  old_of q here = r.was a q (Contains-head a []) here

  new_of : (q : ℕ) → Contains a.names q → IsClusterOf h q b × (is_member h q ≡ true)
  new_of q here = r.now b q (Contains-head b []) (in_new q here)

  named_only : (c : Cluster) (q : ℕ) → (Contains a.names q → ⊥) → c.names ≡ a.names → IsNamed (c ∷ []) q → ⊥
  named_only c q out is named = elim (Contains-cases c named.0 [] named.1) [
    | inl same ↦ out (subst (λ (xs : List ℕ). Contains xs q) (sym (ap (λ (x : Cluster). x.names) same) ∙ is) named.2)
    | inr none ↦ none_in_empty named.0 none
  ]

  elsewhere : (q : ℕ) → (Contains a.names q → ⊥) → finmap.get h q ≡ finmap.get g q
  elsewhere q out = r.others q (named_only a q out refl) (named_only b q out names)

  same_members : (q : ℕ) → is_member h q ≡ is_member g q
  same_members q = elim (told_number a.names q) [
    | inl here ↦ (new_of q here).1 ∙ sym (old_of q here).1
    | inr out ↦ member_same g h q (elsewhere q out)
  ]

  old_rate : (q : ℕ) → Contains a.names q → rate_of g q ≡ rate_of a.graph q
  old_rate q here = (old_of q here).0.rates q here

  new_rate : (q : ℕ) → Contains a.names q → rate_of h q ≡ rate_of b.graph q
  new_rate q here = (new_of q here).0.rates q (in_new q here)

  old_above : (x d : ℕ) → Contains a.names d → is_ancestor g x d ≡ is_ancestor a.graph x d
  old_above x d here = (old_of d here).0.above x d here

  new_above : (x d : ℕ) → Contains a.names d → is_ancestor h x d ≡ is_ancestor b.graph x d
  new_above x d here = (new_of d here).0.above x d (in_new d here)

  pub sets_fee : (id : ℕ) (fee : ℤ) → Contains a.names id → SetsFee a.graph b.graph id fee → SetsFee g h id fee
  sets_fee id fee here sets = record {
    members = same_members;
    rate_is = new_rate id here ∙ sets.rate_is ∙ ap (λ (rate : FeeRate). record { fee = fee; size = rate.size }) (sym (old_rate id here));
    rates = λ q other. elim (told_number a.names q) [
      | inl in_it ↦ new_rate q in_it ∙ sets.rates q other ∙ sym (old_rate q in_it)
      | inr out ↦ rate_same g h q (elsewhere q out)
    ];
    ancestors = λ x d. elim (told_number a.names d) [
      | inl in_it ↦ new_above x d in_it ∙ sets.ancestors x d ∙ sym (old_above x d in_it)
      | inr out ↦ above_same g h d (elsewhere d out) x
    ];
  }

-- ---- one more cluster, of one name

module _ (c : Cluster) (g h : Closure) (r : IsRebuilt [] (c ∷ []) [] g h) (id : ℕ) (rate : FeeRate) (single : IsSingle id rate c)
    (absent : is_member g id ≡ false) where
  held : Contains c.names id
  held = subst (λ (xs : List ℕ). Contains xs id) (sym single.names) (Contains-head id [])

  only : (q : ℕ) → Contains c.names q → id ≡ q
  only q here = elim (Contains-cases id q [] (subst (λ (xs : List ℕ). Contains xs q) single.names here)) [
    | inl same ↦ same
    | inr later ↦ absurd (none_in_empty q later)
  ]

  made_of : IsClusterOf h id c × (is_member h id ≡ true)
  made_of = r.now c id (Contains-head c []) held

  away : (q : ℕ) → q ≢ id → finmap.get h q ≡ finmap.get g q
  away q other = r.others q (λ named. none_in_empty named.0 named.1) (λ named. elim (Contains-cases c named.0 [] named.1) [
    | inl same ↦ other (sym (only q (subst (λ (x : Cluster). Contains x.names q) (sym same) named.2)))
    | inr none ↦ none_in_empty named.0 none
  ])

  pub adds_name : AddsName g h id rate
  adds_name = record {
    members = λ q. elim (cases_eq q id) [
      | inl same ↦ ap (is_member h) same ∙ made_of.1 ∙ sym (or_left (nat_eq q id) (is_member g q) (eq-eqb q id same))
      | inr other ↦ member_same g h q (away q other) ∙ ap (λ b. b || is_member g q) (sym (ne_eqb q id other))
    ];
    rate_is = made_of.0.rates id held ∙ single.rate_is;
    rates = λ q other. rate_same g h q (away q other);
    ancestors = λ a d. elim (cases_eq d id) [
      | inl same ↦
          ap (is_ancestor h a) same ∙ made_of.0.above a id held ∙ single.ancestors a id
          ∙ sym (ap₂ (λ x y. (nat_eq a id && x) || y) (eq-eqb d id same) (ap (is_ancestor g a) same ∙ above_absent g a id (absent_member g id absent))
          ∙ or_false (nat_eq a id && true) ∙ ap (λ b. nat_eq a id && b) (sym (eq-eqb id id refl)))
      | inr other ↦
          above_same g h d (away d other) a
          ∙ sym (ap (λ x. x || is_ancestor g a d) (and_right (nat_eq a id) (nat_eq d id) (ne_eqb d id other)))
    ];
  }
