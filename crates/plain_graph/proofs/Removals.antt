-- Transactions without a name, and the step of the machine that a removal is.
use Rattle.std.proofs.Common.{◌≡◌, ◌≢◌, ℕ, ◌+◌, ◌-◌, ◌≤◌, Bool, true, false, cond, eqb, not, List, [], ◌∷◌, length, filter, sym, refl, ap, subst, ◌∙◌, inl, inr, ◌↔◌, arith, ne_eqb, Option, None, Some}
use Rattle.std.specs.Prelude.{Contains, is_some}
use Rattle.std.specs.FinMap as finmap
use Rattle.std.specs.Cmp.{nat_cmp_total, unsigned_tied}
use Rattle.std.proofs.lemmas.Bool.Decides.{Decides-eqb, nat_tests}
use Rattle.std.proofs.lemmas.List.Elements.{All-filter}
use Rattle.lists.proofs.Entries.{Contains-head, Contains-later, Contains-cases, none_in_empty}
use Rattle.lists.specs.Distinct.{AreDistinct}
use Rattle.fee_rate.specs.declared.limits.TheConstants.{MAX_SIZE}
use Rattle.graph_model.specs.declared.names.Limits.{Limits}
use Rattle.graph_model.specs.declared.names.Refusal.TheVariants.{Unknown}
use Rattle.graphs.specs.Graphs.{Graph}
use Rattle.graph_model.specs.Limits.{bounds_of}
use Rattle.graph_model.specs.States.{PlainState, Entry, Table, with_top}
use Rattle.graphs.specs.Removals.{IsWithout}
use Rattle.graph_model.specs.Changes.{begun, Forgets}
use Rattle.graph_model.specs.Commands.{Remove}
use Rattle.graph_model.specs.Refusals.{RefusalIs}
use Rattle.graph_model.specs.Replies.{Done}
use Rattle.plain_graph.specs.declared.tx.Tx.{Tx}
use Rattle.plain_graph.specs.Plain.{Kept, StandsFor, Steps, entry_in}
use Rattle.plain_graph.specs.Sound.{names_of, IsSound}
use Rattle.plain_graph.specs.Rests.{without_name, ArePairsWithout}
use Rattle.plain_graph.specs.Walks.{EndsAreAmong}
use Rattle.plain_graph.proofs.Entries.{entry_of, Contains-entry, entry-Contains}
use Rattle.plain_graph.proofs.Standing.{HasTable, state_of, of_states, steps_accepted}

-- the names that aren't this one
abbrev other_names : ℕ → List ℕ → List ℕ
other_names id names = filter (λ name. not (eqb name id)) names

names-without : (id : ℕ) (txs : List Tx) → names_of (without_name id txs) ≡ other_names id (names_of txs)
names-without id [] = refl
names-without id (tx ∷ txs) =
    (elim (eqb tx.id id) as (λ b. names_of (cond (not b) (tx ∷ without_name id txs) (without_name id txs))
    ≡ cond (not b) (tx.id ∷ other_names id (names_of txs)) (other_names id (names_of txs))) [
      | true ↦ names-without id txs
      | false ↦ λ i. tx.id ∷ names-without id txs i
    ])

other-Contains : (id : ℕ) (names : List ℕ) (n : ℕ) → Contains (other_names id names) n → Contains names n × (n ≢ id)
other-Contains id [] n here = absurd (none_in_empty n here)
other-Contains id (name ∷ names) n here =
    (elim (eqb name id)
    as (λ b. eqb name id ≡ b → Contains (cond (not b) (name ∷ other_names id names) (other_names id names)) n → Contains (name ∷ names) n × (n ≢ id)) [
      | true ↦ λ is here. let later = other-Contains id names n here in (Contains-later name n names later.0, later.1)
      | false ↦ λ is here. elim (Contains-cases name n (other_names id names) here) [
        | inl same ↦ (
          subst (Contains (name ∷ names)) same (Contains-head name names),
          λ e. let t : eqb name id ≡ true = (Decides-eqb name id).1 (same ∙ e) in let f : true ≡ false = sym t ∙ is in cc,
        )
        | inr after ↦ let later = other-Contains id names n after in (Contains-later name n names later.0, later.1)
      ]
    ]) refl here

Contains-other : (id : ℕ) (names : List ℕ) (n : ℕ) → Contains names n → (n ≡ id → ⊥) → Contains (other_names id names) n
Contains-other id [] n here apart = absurd (none_in_empty n here)
Contains-other id (name ∷ names) n here apart =
    (elim (eqb name id) as (λ b. eqb name id ≡ b → Contains (cond (not b) (name ∷ other_names id names) (other_names id names)) n) [
      | true ↦ λ is. elim (Contains-cases name n names here) [
        | inl same ↦ absurd (apart (sym same ∙ (Decides-eqb name id).0 is))
        | inr later ↦ Contains-other id names n later apart
      ]
      | false ↦ λ is. elim (Contains-cases name n names here) [
        | inl same ↦ subst (Contains (name ∷ other_names id names)) same (Contains-head name (other_names id names))
        | inr later ↦ Contains-later name n (other_names id names) (Contains-other id names n later apart)
      ]
    ]) refl

other-once : (id : ℕ) (names : List ℕ) → AreDistinct names → AreDistinct (other_names id names)
other-once id [] once = tt
other-once id (name ∷ names) once =
    (elim (eqb name id) as (λ b. AreDistinct (cond (not b) (name ∷ other_names id names) (other_names id names))) [
      | true ↦ other-once id names once.1
      | false ↦ (λ again. once.0 (other-Contains id names name again).0, other-once id names once.1)
    ])

pub without-named : (id : ℕ) (txs : List Tx) (n : ℕ) → Contains (names_of (without_name id txs)) n ↔ (Contains (names_of txs) n × (n ≢ id))
without-named id txs n = (
  λ here. other-Contains id (names_of txs) n (subst (λ (names : List ℕ). Contains names n) (names-without id txs) here),
  λ left. subst (λ (names : List ℕ). Contains names n) (sym (names-without id txs)) (Contains-other id (names_of txs) n left.0 left.1),
)

without-once : (id : ℕ) (txs : List Tx) → AreDistinct (names_of txs) → AreDistinct (names_of (without_name id txs))
without-once id txs once = subst (AreDistinct {A = ℕ}) (sym (names-without id txs)) (other-once id (names_of txs) once)

without-absent : (id : ℕ) (txs : List Tx) → (Contains (names_of txs) id → ⊥) → without_name id txs ≡ txs
without-absent id [] absent = refl
without-absent id (tx ∷ txs) absent =
    (elim (eqb tx.id id) as (λ b. eqb tx.id id ≡ b → cond (not b) (tx ∷ without_name id txs) (without_name id txs) ≡ tx ∷ txs) [
      | true ↦ λ is. absurd (absent (subst (Contains (names_of (tx ∷ txs))) ((Decides-eqb tx.id id).0 is) (Contains-head tx.id (names_of txs))))
      | false ↦ λ is. λ i. tx ∷ without-absent id txs (λ here. absent (Contains-later tx.id id (names_of txs) here)) i
    ]) refl

-- one transaction is dropped
length-without : (id : ℕ) (txs : List Tx) → AreDistinct (names_of txs) → Contains (names_of txs) id → length txs ≡ length (without_name id txs) + 1
length-without id [] once here = absurd (none_in_empty id here)
length-without id (tx ∷ txs) once here =
    (elim (eqb tx.id id) as (λ b. eqb tx.id id ≡ b → length (tx ∷ txs) ≡ length (cond (not b) (tx ∷ without_name id txs) (without_name id txs)) + 1) [
      | true ↦ λ is. let same : without_name id txs ≡ txs =
          without-absent id txs (subst (λ (n : ℕ). Contains (names_of txs) n → ⊥) ((Decides-eqb tx.id id).0 is) once.0) in
          let e : length (without_name id txs) ≡ length txs = ap length same in omega arith
      | false ↦ λ is. elim (Contains-cases tx.id id (names_of txs) here) [
        | inl same ↦ absurd (let t : eqb tx.id id ≡ true = (Decides-eqb tx.id id).1 same in let f : true ≡ false = sym t ∙ is in cc)
        | inr later ↦ let e : length txs ≡ length (without_name id txs) + 1 = length-without id txs once.1 later in omega arith
      ]
    ]) refl

gone_one : {X : Type 0} (tx id q : ℕ) (own none rest : X) → eqb tx id ≡ true → cond (eqb q id) none rest ≡ cond (eqb q id) none (cond (eqb tx q) own rest)
gone_one tx id q own none rest is = grind (arith, nat_tests)

gone_other : {X : Type 0} (tx id q : ℕ) (own none rest : X) → eqb tx id ≡ false
    → cond (eqb tx q) own (cond (eqb q id) none rest) ≡ cond (eqb q id) none (cond (eqb tx q) own rest)
gone_other tx id q own none rest is = grind (arith, nat_tests)

entry-without : (id : ℕ) (txs : List Tx) (q : ℕ) → entry_in (without_name id txs) q ≡ cond (eqb q id) None (entry_in txs q)
entry-without id [] q = (elim (eqb q id) as (λ b. ◌≡◌ {A = Option Entry} None (cond b None None)) [ true ↦ refl | false ↦ refl ])
entry-without id (tx ∷ txs) q =
    (elim (eqb tx.id id)
    as (λ b. eqb tx.id id ≡ b → entry_in (cond (not b) (tx ∷ without_name id txs) (without_name id txs)) q ≡ cond (eqb q id) None (entry_in (tx ∷ txs) q)) [
      | true ↦ λ is. entry-without id txs q ∙ gone_one tx.id id q (Some (entry_of tx)) None (entry_in txs q) is
      | false ↦ λ is. ap (cond (eqb tx.id q) (Some (entry_of tx))) (entry-without id txs q)
          ∙ gone_other tx.id id q (Some (entry_of tx)) None (entry_in txs q) is
    ]) refl

one_less : (m n : ℕ) → m ≡ n + 1 → m - 1 ≡ n
one_less m n is = omega arith

has_dropped : (txs : List Tx) (table : Table) (id : ℕ) → AreDistinct (names_of txs)
    → Contains (names_of txs) id → HasTable txs table → HasTable (without_name id txs) (finmap.remove table id)
has_dropped txs table id once here has = record {
  gets = λ q. finmap.get-remove nat_cmp_total table id q
      ∙ ap (λ b. cond b None (finmap.get table q)) (unsigned_tied q id)
      ∙ ap (cond (eqb q id) None) (has.gets q)
      ∙ sym (entry-without id txs q);
  live = finmap.len-remove nat_cmp_total table id
      ∙ ap (λ (b : Bool). cond b (finmap.len table - 1) (finmap.len table)) (ap is_some (has.gets id) ∙ Contains-entry txs id here)
      ∙ one_less (finmap.len table) (length (without_name id txs)) (has.live ∙ length-without id txs once here);
}

-- the graph without the name
abbrev graph_without : ℕ → List Tx → List (ℕ × ℕ) → Graph
graph_without id txs pairs = record { names = names_of (without_name id txs); pairs = pairs }

is_without : (id : ℕ) (txs : List Tx) (old new : List (ℕ × ℕ)) → AreDistinct (names_of txs) → ArePairsWithout old id new
    → IsWithout (record { names = names_of txs; pairs = old }) id (graph_without id txs new)
is_without id txs old new once pairs = record {
  names = without-named id txs;
  names_once = without-once id txs once;
  pairs = pairs.0;
  pairs_once = pairs.1;
}

pub remove_unknown : (kept : Kept) (id : ℕ) → (Contains (names_of kept.txs) id → ⊥)
    → (state : PlainState) → StandsFor kept state → RefusalIs state (Remove id) (Some (Unknown id))
remove_unknown kept id absent = of_states kept (λ (state : PlainState). RefusalIs state (Remove id) (Some (Unknown id))) (λ table has valid. inl (absent, refl))

pub remove_unrefused : (kept : Kept) (id : ℕ) → Contains (names_of kept.txs) id → (state : PlainState) → StandsFor kept state → RefusalIs state (Remove id) None
remove_unrefused kept id here = of_states kept (λ (state : PlainState). RefusalIs state (Remove id) None) (λ table has valid. inr (λ absent. absent here, refl))

no_entry_of : (txs : List Tx) (q : ℕ) → (Contains (names_of txs) q → ⊥) → entry_in txs q ≡ None
no_entry_of txs q absent = none_from (entry_in txs q) (λ some. absent (entry-Contains txs q some))
  where
    none_from : (found : Option Entry) → (is_some found ≡ true → ⊥) → found ≡ None
    none_from None none = refl
    none_from (Some entry) none = absurd (none refl)

-- the table that is left has the names that are left, and no other
forgets : (old : Kept) (table : Table) (id : ℕ) (pairs : List (ℕ × ℕ)) → HasTable (without_name id old.txs) (finmap.remove table id) → HasTable old.txs table
    → Forgets (with_top (begun (state_of old table)) (graph_without id old.txs pairs))
    (record (with_top (begun (state_of old table)) (graph_without id old.txs pairs)) { table = finmap.remove table id })
forgets old table id pairs dropped has =
    let stays : (q : ℕ) → Contains (names_of (without_name id old.txs)) q → finmap.get (finmap.remove table id) q ≡ finmap.get table q = λ q here.
    finmap.get-remove nat_cmp_total table id q
    ∙ ap (λ b. cond b None (finmap.get table q)) (unsigned_tied q id ∙ ne_eqb q id ((without-named id old.txs q).0 here).1) in
    record {
      same = refl;
      kept = λ q kept. elim kept [ inl one ↦ stays q one | inr two ↦ stays q two ];
      dropped = λ q gone. dropped.gets q ∙ no_entry_of (without_name id old.txs) q (λ here. gone (inl here));
    }

pub steps_removed : (old new : Kept) (id : ℕ) → new.limits ≡ old.limits → new.begun ≡ true → new.txs ≡ without_name id old.txs
    → ArePairsWithout old.pairs id new.pairs → AreDistinct (names_of old.txs) → Contains (names_of old.txs) id → Steps old new (Remove id) Done
steps_removed old new id limits begins txs pairs once here =
    steps_accepted old new (Remove id) Done tt
    (remove_unrefused old id here)
    (λ table has.
    let dropped = has_dropped old.txs table id once here has in
    let graph : Graph = graph_without id old.txs new.pairs in
    let left : PlainState = with_top (begun (state_of old table)) graph in (
      record left { table = finmap.remove table id },
      λ valid. record {
        limits = ap bounds_of (sym limits);
        most = refl;
        begun = sym begins;
        table = λ q. dropped.gets q ∙ ap (λ txs. entry_in txs q) (sym txs);
        live = dropped.live ∙ ap length (sym txs);
        names = sym (ap names_of txs);
        pairs = refl;
        staging = refl;
        blocks = refl;
        valid = valid;
      },
      λ picks. record { answer = refl; change = (graph, is_without id old.txs old.pairs new.pairs once pairs, forgets old table id new.pairs dropped has) },
    ))

-- the pairs that are left are of names that are left
ends_left : (id : ℕ) (txs : List Tx) (old new : List (ℕ × ℕ)) → EndsAreAmong (names_of txs) old
    → ArePairsWithout old id new → EndsAreAmong (names_of (without_name id txs)) new
ends_left id txs old new ends pairs a b here =
    let left = (pairs.0 a b).0 here in
    let both : Contains (names_of txs) a × Contains (names_of txs) b =
    elim left.2 [ inl same ↦ ends a b same | inr across ↦ ((ends a id across.0).0, (ends id b across.1).1) ] in
    ((without-named id txs a).1 (both.0, left.0), (without-named id txs b).1 (both.1, left.1))

shorter : (id : ℕ) (txs : List Tx) → length (without_name id txs) ≤ length txs
shorter id [] = omega arith
shorter id (tx ∷ txs) =
    (elim (eqb tx.id id) as (λ b. length (cond (not b) (tx ∷ without_name id txs) (without_name id txs)) ≤ length (tx ∷ txs)) [
      | true ↦ let le : length (without_name id txs) ≤ length txs = shorter id txs in omega arith
      | false ↦ let le : length (without_name id txs) ≤ length txs = shorter id txs in omega arith
    ])

-- what the fields keep after a removal
pub sound_removed : (set : Limits) (txs : List Tx) (old new : List (ℕ × ℕ)) (places id : ℕ)
    → IsSound set txs old places → ArePairsWithout old id new → IsSound set (without_name id txs) new places
sound_removed set txs old new places id sound pairs = record {
  in_range = sound.in_range;
  small = All-filter (λ (tx : Tx). not (eqb tx.id id)) (λ (tx : Tx). tx.size ≤ MAX_SIZE) txs sound.small;
  names_once = without-once id txs sound.names_once;
  pairs_once = pairs.1;
  ends = ends_left id txs old new sound.ends pairs;
  enough = let le : length (without_name id txs) ≤ length txs = shorter id txs in omega (arith, sound.enough);
}
