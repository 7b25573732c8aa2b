-- Rows of refusals: a row has one answer, none has `memory`, and equivalent causes give the same row.
use Rattle.std.proofs.Common.{◌≡◌, ℕ, List, [], ◌∷◌, ◌++◌, Option, Some, subst, sym, refl, ap, ◌∙◌, inl, inr, ◌⊎◌, ◌↔◌}
use Rattle.lists.proofs.Entries.{first_of, rest_of}
use Rattle.graphs.specs.Graphs.{AreConnected}
use Rattle.graphs.proofs.ListLemmas.{Lists-same}
use Rattle.graph_model.specs.declared.names.Refusal.{Refusal}
use Rattle.graph_model.specs.declared.names.Refusal.TheVariants.{Late, Range, Fee, Size, Taken, ClusterSize, Full, Unknown, Cycle, Count, Staging, Twice, Parent, Empty, NoStaging, Memory, Oversized, NoBlock, Back}
use Rattle.graph_model.specs.States.{PlainState}
use Rattle.graph_model.specs.Commands.{Command, SetLimits, Add, Dep, SetFee, Remove, Mine, Evict, Stage, Commit, Abort, Settle, Trim, Unmine, Dump, Compare, Order, Diagram, Proof, Cluster, Ancestors, Descendants, Chunk, Before, Block}
use Rattle.graph_model.specs.Commands as commands
use Rattle.graph_model.specs.Refusals.{First, FirstAt, FirstOf, NoRefusal, AddRow, DepRow, IsFirst, JoinsTo, RefusalIs}

-- ---- equivalent causes

pub first_along : {C C' L L' : Type 0} {found : Option Refusal} (why : Refusal) → C ↔ C' → (L → L') → (C × (found ≡ Some why)) ⊎ ((C → ⊥) × L)
    → (C' × (found ≡ Some why)) ⊎ ((C' → ⊥) × L')
first_along why same more row = elim row [
  | inl here ↦ inl (same.0 here.0, here.1)
  | inr on ↦ inr (λ holds. on.0 (same.1 holds), more on.1)
]

pub first_at_along : {C C' : ℕ → Type 0} {L L' : Type 0} {found : Option Refusal} (why : ℕ → Refusal) → ((n : ℕ) → C n ↔ C' n) → (L → L')
    → ((n : ℕ) × C n × (found ≡ Some (why n))) ⊎ (((n : ℕ) → C n → ⊥) × L) → ((n : ℕ) × C' n × (found ≡ Some (why n))) ⊎ (((n : ℕ) → C' n → ⊥) × L')
first_at_along why same more row = elim row [
  | inl here ↦ inl (here.0, (same here.0).0 here.1, here.2)
  | inr on ↦ inr (λ n holds. on.0 n ((same n).1 holds), more on.1)
]

pub first_of_along : {C C' : Refusal → Type 0} {L L' : Type 0} {found : Option Refusal} → ((why : Refusal) → C why ↔ C' why) → (L → L')
    → ((why : Refusal) × C why × (found ≡ Some why)) ⊎ (((why : Refusal) → C why → ⊥) × L)
    → ((why : Refusal) × C' why × (found ≡ Some why)) ⊎ (((why : Refusal) → C' why → ⊥) × L')
first_of_along same more row = elim row [
  | inl here ↦ inl (here.0, (same here.0).0 here.1, here.2)
  | inr on ↦ inr (λ why holds. on.0 why ((same why).1 holds), more on.1)
]

pub add_row_along : (f s t l u f' s' t' l' u' : Type 0) (size : ℕ) (found : Option Refusal) → f ↔ f' → s ↔ s' → t ↔ t' → l ↔ l' → u ↔ u'
    → AddRow f s t l u size found → AddRow f' s' t' l' u' size found
add_row_along f s t l u f' s' t' l' u' size found fs ss ts ls us =
    first_along Fee fs (first_along Size ss (first_along Taken ts (first_along (ClusterSize size) ls (first_along Full us (λ none. none)))))

-- the causes of a cycle need only agree where both names are there
pub dep_row_along : (p q c p' q' c' : Type 0) (m l m' l' : ℕ → Type 0) (parent child : ℕ) (found : Option Refusal)
    → p ↔ p' → q ↔ q' → ((p → ⊥) → (q → ⊥) → c ↔ c')
    → ((n : ℕ) → m n ↔ m' n) → ((n : ℕ) → l n ↔ l' n) → DepRow p q c m l parent child found → DepRow p' q' c' m' l' parent child found
dep_row_along p q c p' q' c' m l m' l' parent child found ps qs cs ms ls row = elim row [
  | inl here ↦ inl (ps.0 here.0, here.1)
  | inr on ↦ inr (
    λ holds. on.0 (ps.1 holds),
    elim on.1 [
      | inl here ↦ inl (qs.0 here.0, here.1)
      | inr more ↦
          inr (λ holds. more.0 (qs.1 holds), first_along Cycle (cs on.0 more.0) (first_at_along Count ms (first_at_along ClusterSize ls (λ none. none))) more.1)
    ],
  )
]

-- ---- no row has `memory`

first_lacks : {C L : Type 0} (why : Refusal) → (Some why ≡ Some Memory → ⊥) → (L → ⊥) → (C × (Some Memory ≡ Some why)) ⊎ ((C → ⊥) × L) → ⊥
first_lacks why other more row = elim row [ inl here ↦ other (sym here.1) | inr on ↦ more on.1 ]

first_at_lacks : {C : ℕ → Type 0} {L : Type 0} (why : ℕ → Refusal) → ((n : ℕ) → Some (why n) ≡ Some Memory → ⊥) → (L → ⊥)
    → ((n : ℕ) × C n × (Some Memory ≡ Some (why n))) ⊎ (((n : ℕ) → C n → ⊥) × L) → ⊥
first_at_lacks why other more row = elim row [ inl here ↦ other here.0 (sym here.2) | inr on ↦ more on.1 ]

first_of_lacks : {C : Refusal → Type 0} {L : Type 0} → (C Memory → ⊥) → (L → ⊥)
    → ((why : Refusal) × C why × (Some Memory ≡ Some why)) ⊎ (((why : Refusal) → C why → ⊥) × L) → ⊥
first_of_lacks {C} other more row = elim row [
  | inl here ↦ other (subst C (one_why here.0 (sym here.2)) here.1)
  | inr on ↦ more on.1
]
  where
    one_why : (why : Refusal) → Some why ≡ Some Memory → why ≡ Memory
    one_why why is = cc

end_lacks : NoRefusal (Some Memory) → ⊥
end_lacks none = cc

pub no_memory_in_row : (state : PlainState) (command : Command) → RefusalIs state command (Some Memory) → ⊥
no_memory_in_row state (SetLimits limits) = first_lacks Late (λ e. cc) (first_lacks Range (λ e. cc) end_lacks)
no_memory_in_row state (Add id fee size) =
    first_lacks Fee (λ e. cc)
    (first_lacks Size (λ e. cc) (first_lacks Taken (λ e. cc) (first_lacks (ClusterSize size) (λ e. cc) (first_lacks Full (λ e. cc) end_lacks))))
no_memory_in_row state (Dep parent child) =
    first_lacks (Unknown parent) (λ e. cc) (first_lacks (Unknown child) (λ e. cc) (first_lacks Cycle (λ e. cc)
    (first_at_lacks Count (λ n e. cc) (first_at_lacks ClusterSize (λ n e. cc) end_lacks))))
no_memory_in_row state (SetFee id fee) = first_lacks Fee (λ e. cc) (first_lacks (Unknown id) (λ e. cc) end_lacks)
no_memory_in_row state (Remove id) = first_lacks (Unknown id) (λ e. cc) end_lacks
no_memory_in_row state (Mine ids) =
    first_lacks Staging (λ e. cc) (first_at_lacks Twice (λ n e. cc) (first_at_lacks Unknown (λ n e. cc) (first_at_lacks Parent (λ n e. cc) end_lacks)))
no_memory_in_row state Evict = first_lacks Staging (λ e. cc) (first_lacks Empty (λ e. cc) (first_lacks Oversized (λ e. cc) end_lacks))
no_memory_in_row state Stage = first_lacks Staging (λ e. cc) end_lacks
no_memory_in_row state Commit = first_lacks NoStaging (λ e. cc) end_lacks
no_memory_in_row state Abort = first_lacks NoStaging (λ e. cc) end_lacks
no_memory_in_row state Settle = first_lacks NoStaging (λ e. cc) (first_lacks Oversized (λ e. cc) end_lacks)
no_memory_in_row state Compare = first_lacks NoStaging (λ e. cc) (first_lacks Oversized (λ e. cc) end_lacks)
no_memory_in_row state Trim = end_lacks
no_memory_in_row state Unmine =
    first_lacks Staging (λ e. cc) (first_lacks NoBlock (λ e. cc) (first_at_lacks Back (λ n e. cc)
    (first_lacks Full (λ e. cc) (first_of_lacks (λ over. told_other over.over.2) end_lacks))))
  where
    told_other : {A B C : Type 0} {m n : ℕ} → (A × (Memory ≡ Count m)) ⊎ (B × C × (Memory ≡ ClusterSize n)) → ⊥
    told_other told = elim told [ inl many ↦ (let e = many.1 in cc) | inr large ↦ (let e = large.2 in cc) ]
no_memory_in_row state (Order level) = first_lacks Oversized (λ e. cc) end_lacks
no_memory_in_row state (Diagram level) = first_lacks Oversized (λ e. cc) end_lacks
no_memory_in_row state (Proof level) = first_lacks Oversized (λ e. cc) end_lacks
no_memory_in_row state (Cluster id level) = first_lacks (Unknown id) (λ e. cc) (first_lacks Oversized (λ e. cc) end_lacks)
no_memory_in_row state (Ancestors id level) = first_lacks (Unknown id) (λ e. cc) (first_lacks Oversized (λ e. cc) end_lacks)
no_memory_in_row state (Descendants id level) = first_lacks (Unknown id) (λ e. cc) (first_lacks Oversized (λ e. cc) end_lacks)
no_memory_in_row state (Chunk id) = first_lacks (Unknown id) (λ e. cc) (first_lacks Oversized (λ e. cc) end_lacks)
no_memory_in_row state (Before a b) = first_lacks (Unknown a) (λ e. cc) (first_lacks (Unknown b) (λ e. cc) (first_lacks Oversized (λ e. cc) end_lacks))
no_memory_in_row state (Block size) = first_lacks Oversized (λ e. cc) end_lacks
no_memory_in_row state (commands.Count level) = end_lacks
no_memory_in_row state Dump = first_lacks Oversized (λ e. cc) end_lacks

-- ---- a row has one answer

abbrev pub IsOne : (Option Refusal → Type 0) → Type 0
IsOne row = (one other : Option Refusal) → row one → row other → one ≡ other

pub end_one : IsOne NoRefusal
end_one one other here there = here ∙ sym there

pub first_one : (cause : Type 0) (why : Refusal) (later : Option Refusal → Type 0) → IsOne later → IsOne (First cause why later)
first_one cause why later more one other here there = elim here [
  | inl a ↦ elim there [ inl b ↦ a.1 ∙ sym b.1 | inr b ↦ absurd (b.0 a.0) ]
  | inr a ↦ elim there [ inl b ↦ absurd (a.0 b.0) | inr b ↦ more one other a.1 b.1 ]
]

pub first_at_one : (cause : ℕ → Type 0) (why : ℕ → Refusal) (later : Option Refusal → Type 0)
    → ((m n : ℕ) → cause m → cause n → m ≡ n) → IsOne later → IsOne (FirstAt cause why later)
first_at_one cause why later same more one other here there = elim here [
  | inl a ↦ elim there [ inl b ↦ a.2 ∙ ap (λ n. Some (why n)) (same a.0 b.0 a.1 b.1) ∙ sym b.2 | inr b ↦ absurd (b.0 a.0 a.1) ]
  | inr a ↦ elim there [ inl b ↦ absurd (a.0 b.0 b.1) | inr b ↦ more one other a.1 b.1 ]
]

pub first_of_one : (cause : Refusal → Type 0) (later : Option Refusal → Type 0)
    → ((a b : Refusal) → cause a → cause b → a ≡ b) → IsOne later → IsOne (FirstOf cause later)
first_of_one cause later same more one other here there = elim here [
  | inl a ↦ elim there [ inl b ↦ a.2 ∙ ap (λ why. Some why) (same a.0 b.0 a.1 b.1) ∙ sym b.2 | inr b ↦ absurd (b.0 a.0 a.1) ]
  | inr a ↦ elim there [ inl b ↦ absurd (a.0 b.0 b.1) | inr b ↦ more one other a.1 b.1 ]
]

pub joins_once : (pairs : List (ℕ × ℕ)) (parent child : ℕ) (xs ys : List ℕ) → JoinsTo pairs parent child xs → JoinsTo pairs parent child ys → xs ≡ ys
joins_once pairs parent child xs ys one other = Lists-same (λ id. AreConnected pairs id parent ⊎ AreConnected pairs id child) xs ys one.1 other.1

-- two cuts of one list: the same, or one begins within the other's front
cuts : {A : Type 0} (xs ys us vs : List A) (a b : A) → xs ++ a ∷ us ≡ ys ++ b ∷ vs
    → ((xs ≡ ys) × (a ≡ b)) ⊎ (((rest : List A) × (ys ≡ xs ++ a ∷ rest)) ⊎ ((rest : List A) × (xs ≡ ys ++ b ∷ rest)))
cuts [] [] us vs a b e = inl (refl, first_of e)
cuts [] (y ∷ ys) us vs a b e = inr (inl (ys, λ i. sym (first_of e) i ∷ ys))
cuts (x ∷ xs) [] us vs a b e = inr (inr (xs, λ i. first_of e i ∷ xs))
cuts (x ∷ xs) (y ∷ ys) us vs a b e = elim (cuts xs ys us vs a b (rest_of e)) [
  | inl same ↦ inl (λ i. first_of e i ∷ same.0 i, same.1)
  | inr apart ↦ elim apart [
    | inl later ↦ inr (inl (later.0, λ i. sym (first_of e) i ∷ later.1 i))
    | inr sooner ↦ inr (inr (sooner.0, λ i. first_of e i ∷ sooner.1 i))
  ]
]

pub first_entry : (P : List ℕ → ℕ → Type 0) (ids : List ℕ) (m n : ℕ) → IsFirst P ids m → IsFirst P ids n → m ≡ n
first_entry P ids m n one other = elim (cuts one.before other.before one.after other.after m n (sym one.cut ∙ other.cut)) [
  | inl same ↦ same.1
  | inr apart ↦ elim apart [
    | inl later ↦ absurd (other.earlier one.before later.0 m later.1 one.has)
    | inr sooner ↦ absurd (one.earlier other.before sooner.0 n sooner.1 other.has)
  ]
]
