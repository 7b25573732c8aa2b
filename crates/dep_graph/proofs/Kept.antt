-- What a graph answers, by what is kept of it.
use Rattle.std.proofs.Common.{◌≡◌, ℕ, zero, suc, ◌+◌, ◌<◌, ◌≤◌, Bool, true, false, cond, ◌&&◌, ◌⊎◌, nat_eq, nat_lt, List, [], length, Option, Some, None}
use Rattle.std.proofs.Common.{is_some, inl, inr, refl, sym, ap, ap₂, ◌∙◌, subst, arith, lt-ltb, le-ltb, eq-eqb, ne_eqb, true≢false, add-one, Equal}
use Rattle.std.proofs.lemmas.Bool.{cases_lt, cases_eq, and_parts, and_from}
use Rattle.std.specs.Ordering.{nat_cmp}
use Rattle.std.specs.Cmp.{nat_cmp_total, unsigned_tied}
use Rattle.std.specs.FinSet as fin
use Rattle.std.specs.FinMap as map
use Rattle.graphs.proofs.Members.{contains-members_of}
use Rattle.graphs.specs.Closures.{Node, Closure, is_member, rate_of, ancestors_of, is_ancestor, members_of, descendants_of, no_rate, rate_in, ancestors_in}
use Rattle.graphs.specs.Closures.{IsOrder, IsClosed}
use Rattle.bitset.specs.Places.{IsWithin}
use Rattle.bitset.specs.Sets.{same_members, contains-empty}
use Rattle.dep_graph.specs.declared.rows.Row.{Row}
use Rattle.dep_graph.specs.Rows.{graph_where, row_at, node_of, graph_from, above, IsKept}

-- ---- the map of the members

-- what stands at q below n, where its node is x
abbrev below : (n q : ℕ) → Bool → Option Node → Option Node
below n q there x = cond (nat_lt q n && there) x None

more_below : (n q : ℕ) (here there : Bool) (x y : Option Node) → (q ≡ n → there ≡ here) → (q ≡ n → y ≡ x)
    → cond here (cond (nat_eq q n) x (below n q there y)) (below n q there y) ≡ below (n + 1) q there y
more_below n q here there x y same node =
    elim (cases_eq q n) as (λ _. cond here (cond (nat_eq q n) x (below n q there y)) (below n q there y) ≡ below (n + 1) q there y) [
      | inl e ↦ rw (eq-eqb q n e, le-ltb q n (omega arith), lt-ltb q (n + 1) (omega arith), same e, node e) (at_n here)
      | inr e ↦ rw (ne_eqb q n e) (other here e (cases_lt q n))
    ]
  where
    at_n : (b : Bool) → cond b (cond true x (cond (false && b) x None)) (cond (false && b) x None) ≡ cond (true && b) x None
    at_n true = refl
    at_n false = refl

    same_twice : {A : Type 0} (b : Bool) (z : A) → cond b z z ≡ z
    same_twice true z = refl
    same_twice false z = refl

    other : (b : Bool) → (q ≡ n → ⊥) → (q < n) ⊎ (n ≤ q) → cond b (cond false x (below n q there y)) (below n q there y) ≡ below (n + 1) q there y
    other b e (inl h) = rw (lt-ltb q n h, lt-ltb q (n + 1) (omega arith)) (same_twice b (cond there y None))
    other b e (inr h) = rw (le-ltb q n h, le-ltb q (n + 1) (omega arith)) (same_twice b None)

get-put : (rest : Closure) (n p : ℕ) (x : Node) (b : Bool)
    → map.get (cond b (map.insert rest n x) rest) p ≡ cond b (cond (nat_eq p n) (Some x) (map.get rest p)) (map.get rest p)
get-put rest n p x true = map.get-insert nat_cmp_total rest n x p ∙ ap (λ b. cond b (Some x) (map.get rest p)) (unsigned_tied p n)
get-put rest n p x false = refl

within_or : (n p : ℕ) (x : Option Node) (b : Bool) → (b ≡ true → p < n) → cond (nat_lt p n && b) x None ≡ cond b x None
within_or n p x true low = ap (λ b. cond (b && true) x None) (lt-ltb p n (low refl))
within_or n p x false low = elim (nat_lt p n) as (λ b. cond (b && false) x None ≡ None) [ true ↦ refl | false ↦ refl ]

pub get-graph_where : (members : fin.FinSet nat_cmp) (node : ℕ → Node) (n p : ℕ)
    → map.get (graph_where members node n) p ≡ cond (nat_lt p n && fin.contains members p) (Some (node p)) None
unfolding graph_where
get-graph_where members node zero p =
    map.get-empty nat_cmp p ∙ sym (ap (λ b. cond (b && fin.contains members p) (Some (node p)) None) (le-ltb p 0 (omega arith)))
get-graph_where members node (suc n) p =
    get-put (graph_where members node n) n p (node n) (fin.contains members n)
    ∙ ap (λ b. cond (fin.contains members n) (cond (nat_eq p n) (Some (node n)) b) b) (get-graph_where members node n p)
    ∙ more_below n p (fin.contains members n) (fin.contains members p) (Some (node n)) (Some (node p)) (λ e. ap (fin.contains members) e)
    (λ e. ap (λ q. Some (node q)) e)
    ∙ ap (λ m. cond (nat_lt p m && fin.contains members p) (Some (node p)) None) (add-one n)

module _ {W : ℕ} (n : ℕ) (members : fin.FinSet nat_cmp) (rows : List (Row W)) (within : IsWithin n members) where
  pub get-graph_from : (p : ℕ) → map.get (graph_from n members rows) p ≡ cond (fin.contains members p) (Some (node_of (row_at rows p))) None
  unfolding graph_from
  get-graph_from p =
      get-graph_where members (λ p. node_of (row_at rows p)) n p
      ∙ within_or n p (Some (node_of (row_at rows p))) (fin.contains members p) (within p)

  pub is_member-graph_from : (p : ℕ) → is_member (graph_from n members rows) p ≡ fin.contains members p
  unfolding is_member
  is_member-graph_from p =
      ap is_some (get-graph_from p)
      ∙ elim (fin.contains members p) as (λ b. is_some (cond b (Some (node_of (row_at rows p))) None) ≡ b) [ true ↦ refl | false ↦ refl ]

  pub rate_of-graph_from : (p : ℕ) → rate_of (graph_from n members rows) p ≡ cond (fin.contains members p) (row_at rows p).rate no_rate
  unfolding rate_of
  rate_of-graph_from p =
      ap rate_in (get-graph_from p)
      ∙ elim (fin.contains members p)
      as (λ b. rate_in (cond b (Some (node_of (row_at rows p))) None) ≡ cond b (row_at rows p).rate no_rate) [ true ↦ refl | false ↦ refl ]

  pub ancestors_of-graph_from : (p : ℕ) → ancestors_of (graph_from n members rows) p ≡ cond (fin.contains members p) (row_at rows p).ancestors fin.empty
  unfolding ancestors_of
  ancestors_of-graph_from p =
      ap ancestors_in (get-graph_from p)
      ∙ elim (fin.contains members p) as (λ b. ancestors_in (cond b (Some (node_of (row_at rows p))) None) ≡ cond b (row_at rows p).ancestors fin.empty) [
        | true ↦ refl
        | false ↦ refl
      ]

  pub is_ancestor-graph_from : (a d : ℕ) → is_ancestor (graph_from n members rows) a d ≡ above members rows a d
  unfolding ancestors_of
  is_ancestor-graph_from a d =
      ap (λ o. fin.contains (ancestors_in o) a) (get-graph_from d)
      ∙ elim (fin.contains members d)
      as (λ b. fin.contains (ancestors_in (cond b (Some (node_of (row_at rows d))) None)) a ≡ (b && fin.contains (row_at rows d).ancestors a)) [
        | true ↦ refl
        | false ↦ contains-empty a
      ]

-- ---- what is asked of any graph

tied : (p x : ℕ) → nat_cmp p x ≡ Equal → x ≡ p
tied p x e = sym (fin.nat_cmp-IsAntisymmetric p x e)

pub contains-descendants_of : (g : Closure) (a d : ℕ) → fin.contains (descendants_of g a) d ≡ (is_member g d && is_ancestor g a d)
contains-descendants_of g a d =
    fin.contains-retain (members_of g) (λ d. is_ancestor g a d) d (λ x e. ap (λ q. is_ancestor g a q) (tied d x e))
    ∙ ap (λ b. b && is_ancestor g a d) (contains-members_of g d)

-- ---- orders

-- an order told by other words is one
pub IsOrder-like : (m n : ℕ → Bool) (r s : ℕ → ℕ → Bool) → ((p : ℕ) → n p ≡ m p) → ((a d : ℕ) → s a d ≡ r a d) → IsOrder m r → IsOrder n s
IsOrder-like m n r s same alike o = record {
  among = λ a d e. let both : (m a ≡ true) × (m d ≡ true) = o.among a d (sym (alike a d) ∙ e) in (same a ∙ both.0, same d ∙ both.1);
  reflexive = λ p e. alike p p ∙ o.reflexive p (sym (same p) ∙ e);
  transitive = λ a b c e f. alike a c ∙ o.transitive a b c (sym (alike a b) ∙ e) (sym (alike b c) ∙ f);
  antisymmetric = λ a b e f. o.antisymmetric a b (sym (alike a b) ∙ e) (sym (alike b a) ∙ f);
}

-- ---- every graph that is kept

pub kept_within : {W : ℕ} (n : ℕ) (members : fin.FinSet nat_cmp) (rows : List (Row W)) → IsKept n members rows → IsWithin n members
kept_within n members rows h p e = let low : p < length rows = h.there p e in omega (arith, h.room)

-- the graph g is kept so
pub record Keeps {W : ℕ} (n : ℕ) (members : fin.FinSet nat_cmp) (rows : List (Row W)) (g : Closure) : Type 0 where
  pub kept : IsKept n members rows
  pub view : graph_from n members rows ≡ g

pub keeps : {W n : ℕ} {members : fin.FinSet nat_cmp} {rows : List (Row W)} {g : Closure} → IsKept n members rows → graph_from n members rows ≡ g
    → Keeps n members rows g
keeps h view = record { kept = h; view = view }

module _ {W n : ℕ} {members : fin.FinSet nat_cmp} {rows : List (Row W)} {g : Closure} (k : Keeps n members rows g) where
  pub inside : IsWithin n members
  inside = kept_within n members rows k.kept

  pub is_member-kept : (p : ℕ) → is_member g p ≡ fin.contains members p
  is_member-kept p = ap (λ g. is_member g p) (sym k.view) ∙ is_member-graph_from n members rows inside p

  pub is_ancestor-kept : (a d : ℕ) → is_ancestor g a d ≡ above members rows a d
  is_ancestor-kept a d = ap (λ g. is_ancestor g a d) (sym k.view) ∙ is_ancestor-graph_from n members rows inside a d

  pub rate_of-kept : (p : ℕ) → rate_of g p ≡ cond (fin.contains members p) (row_at rows p).rate no_rate
  rate_of-kept p = ap (λ g. rate_of g p) (sym k.view) ∙ rate_of-graph_from n members rows inside p

  pub members_of-kept : members ≡ members_of g
  members_of-kept = same_members members (members_of g) (λ p. sym (contains-members_of g p ∙ is_member-kept p))

  pub IsClosed-kept : IsClosed n g
  IsClosed-kept = record {
    within = λ p e. inside p (sym (is_member-kept p) ∙ e);
    order = IsOrder-like (fin.contains members) (is_member g) (above members rows) (is_ancestor g) is_member-kept is_ancestor-kept k.kept.order;
  }

  module _ (p : ℕ) (there : is_member g p ≡ true) where
    pub member_there : fin.contains members p ≡ true
    member_there = sym (is_member-kept p) ∙ there

    -- it has a row
    pub row_there : p < length rows
    row_there = k.kept.there p member_there

    pub place_there : p < n
    place_there = inside p member_there

    pub rate_there : (row_at rows p).rate ≡ rate_of g p
    rate_there = sym (rate_of-kept p ∙ ap (λ b. cond b (row_at rows p).rate no_rate) member_there)

    pub ancestors_there : (row_at rows p).ancestors ≡ ancestors_of g p
    ancestors_there =
        sym (ap (λ g. ancestors_of g p) (sym k.view) ∙ ancestors_of-graph_from n members rows inside p
        ∙ ap (λ b. cond b (row_at rows p).ancestors fin.empty) member_there)

    pub descendants_there : (row_at rows p).descendants ≡ descendants_of g p
    descendants_there = same_members _ _ (λ d.
        k.kept.mirrored p d member_there
        ∙ twice (fin.contains members d) (fin.contains (row_at rows d).ancestors p)
        ∙ sym (contains-descendants_of g p d ∙ ap₂ (λ a b. a && b) (is_member-kept d) (is_ancestor-kept p d)))
      where
        twice : (a b : Bool) → (a && b) ≡ (a && (a && b))
        twice true b = refl
        twice false b = refl

    -- what is above and below a member are members, so they have rows
    pub above_member : (a : ℕ) → fin.contains (row_at rows p).ancestors a ≡ true → fin.contains members a ≡ true
    above_member a c = (k.kept.order.among a p (and_from (fin.contains members p) (fin.contains (row_at rows p).ancestors a) member_there c)).0

    pub above_there : IsWithin (length rows) (row_at rows p).ancestors
    above_there a c = k.kept.there a (above_member a c)

    pub below_there : IsWithin (length rows) (row_at rows p).descendants
    below_there d c = k.kept.there d (k.kept.order.among p d (sym (k.kept.mirrored p d member_there) ∙ c)).1

    pub ups_within : {s : fin.FinSet nat_cmp} → s ≡ ancestors_of g p → IsWithin (length rows) s
    ups_within e = subst (IsWithin (length rows)) (ancestors_there ∙ sym e) above_there

    pub downs_within : {s : fin.FinSet nat_cmp} → s ≡ descendants_of g p → IsWithin (length rows) s
    downs_within e = subst (IsWithin (length rows)) (descendants_there ∙ sym e) below_there

-- no member
pub graph_from-empty : {W : ℕ} (n : ℕ) (rows : List (Row W)) → graph_from n fin.empty rows ≡ map.empty
graph_from-empty n rows = map.same_map nat_cmp_total fin.nat_cmp-IsAntisymmetric _ map.empty (λ p.
    get-graph_from n fin.empty rows (λ p e. absurd (true≢false (sym e ∙ contains-empty p))) p
    ∙ ap (λ b. cond b (Some (node_of (row_at rows p))) None) (contains-empty p) ∙ sym (map.get-empty nat_cmp p))

pub IsKept-empty : {W : ℕ} (n : ℕ) → IsKept {W = W} n fin.empty []
IsKept-empty n = record {
  room = omega arith;
  there = λ p e. absurd (none p e);
  order = record {
    among = λ a d e. absurd (none d (and_parts _ _ e).0);
    reflexive = λ p e. absurd (none p e);
    transitive = λ a b c e f. absurd (none b (and_parts _ _ e).0);
    antisymmetric = λ a b e f. absurd (none b (and_parts _ _ e).0);
  };
  mirrored = λ a d e. absurd (none a e);
}
  where
    none : (p : ℕ) → fin.contains {R = nat_cmp} fin.empty p ≡ true → ⊥
    none p e = true≢false (sym e ∙ contains-empty p)
