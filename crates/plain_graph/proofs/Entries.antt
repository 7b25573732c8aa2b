-- The entry of a name in a list of transactions.
use Rattle.std.proofs.Common.{◌≡◌, ℕ, ◌+◌, ◌<◌, ◌≤◌, Bool, true, false, cond, eqb, List, [], ◌∷◌, ◌++◌, sym, refl, ap, subst, ◌∙◌, inl, inr, arith, Option, None, Some, ◌↔◌}
use Rattle.std.specs.Prelude.{Contains, is_some, IsSome, IsTrue}
use Rattle.std.proofs.lemmas.Bool.Decides.{Decides-eqb, nat_tests}
use Rattle.std.proofs.lemmas.List.Elements.{All-head, All-tail}
use Rattle.std.specs.Cmp.{nat_eq_equiv}
use Rattle.lists.proofs.Cases.{some_none}
use Rattle.lists.proofs.Entries.{Contains-head, Contains-later, Contains-cases}
use Rattle.fee_rate.specs.declared.limits.TheConstants.{MAX_SIZE}
use Rattle.graph_model.specs.States.{Entry, size_in}
use Rattle.plain_graph.specs.declared.tx.Tx.{Tx}
use Rattle.plain_graph.specs.Plain.{entry_in}
use Rattle.plain_graph.specs.Sound.{names_of, AreSmall}

abbrev pub entry_of : Tx → Entry
entry_of tx = record { fee = tx.fee; size = tx.size }

pub none_of_true : false ≡ true → ⊥
none_of_true e = cc

-- a name has an entry where it is among the names
pub entry-Contains : (txs : List Tx) (id : ℕ) → IsSome (entry_in txs id) → Contains (names_of txs) id
entry-Contains [] id some = absurd (none_of_true some)
entry-Contains (tx ∷ txs) id some =
    (elim (eqb tx.id id) as (λ b. eqb tx.id id ≡ b → IsSome (cond b (Some (entry_of tx)) (entry_in txs id)) → Contains (tx.id ∷ names_of txs) id) [
      | true ↦ λ same some. subst (λ (x : ℕ). Contains (tx.id ∷ names_of txs) x) ((Decides-eqb tx.id id).0 same) (Contains-head tx.id (names_of txs))
      | false ↦ λ other some. Contains-later tx.id id (names_of txs) (entry-Contains txs id some)
    ]) refl some

true_not_false : (b : Bool) → b ≡ true → b ≡ false → ⊥
true_not_false b holds fails = let e : true ≡ false = sym holds ∙ fails in cc

pub Contains-entry : (txs : List Tx) (id : ℕ) → Contains (names_of txs) id → IsSome (entry_in txs id)
Contains-entry [] id h = absurd (omega (arith, h.1))
Contains-entry (tx ∷ txs) id h =
    (elim (eqb tx.id id) as (λ b. eqb tx.id id ≡ b → IsSome (cond b (Some (entry_of tx)) (entry_in txs id))) [
      | true ↦ λ same. refl
      | false ↦ λ other. elim (Contains-cases tx.id id (names_of txs) h) [
        | inl same ↦ absurd (true_not_false (eqb tx.id id) ((Decides-eqb tx.id id).1 same) other)
        | inr later ↦ Contains-entry txs id later
      ]
    ]) refl

swapped : (first tx : Tx) (id : ℕ) (old : Option Entry) → eqb first.id tx.id ≡ false
    → cond (eqb first.id id) (Some (entry_of first)) (cond (eqb id tx.id) (Some (entry_of tx)) old)
    ≡ cond (eqb id tx.id) (Some (entry_of tx)) (cond (eqb first.id id) (Some (entry_of first)) old)
swapped first tx id old other = grind (arith, nat_tests)

-- the entries with one more transaction, of a name that had none
pub entry-push : (txs : List Tx) (tx : Tx) (id : ℕ) → entry_in txs tx.id ≡ None
    → entry_in (txs ++ tx ∷ []) id ≡ cond (eqb id tx.id) (Some (entry_of tx)) (entry_in txs id)
entry-push [] tx id none = ap (λ b. cond b (Some (entry_of tx)) None) (nat_eq_equiv.symm tx.id id)
entry-push (first ∷ txs) tx id none =
    (elim (eqb first.id tx.id) as (λ b. eqb first.id tx.id ≡ b → cond b (Some (entry_of first)) (entry_in txs tx.id) ≡ None
    → cond (eqb first.id id) (Some (entry_of first)) (entry_in (txs ++ tx ∷ []) id)
    ≡ cond (eqb id tx.id) (Some (entry_of tx)) (cond (eqb first.id id) (Some (entry_of first)) (entry_in txs id))) [
      | true ↦ λ same none. absurd (some_none (entry_of first) none)
      | false ↦ λ other none. ap (cond (eqb first.id id) (Some (entry_of first))) (entry-push txs tx id none) ∙ swapped first tx id (entry_in txs id) other
    ]) refl none

small_one : (tx : Tx) (b : Bool) (old : Option Entry) → tx.size ≤ MAX_SIZE → size_in old ≤ MAX_SIZE → size_in (cond b (Some (entry_of tx)) old) ≤ MAX_SIZE
small_one tx true old here later = here
small_one tx false old here later = later

pub size-small : (txs : List Tx) (id : ℕ) → AreSmall txs → size_in (entry_in txs id) ≤ MAX_SIZE
size-small [] id small = omega arith
size-small (tx ∷ txs) id small =
    small_one tx (eqb tx.id id) (entry_in txs id) (All-head (λ (tx : Tx). tx.size ≤ MAX_SIZE) tx txs small)
    (size-small txs id (All-tail (λ (tx : Tx). tx.size ≤ MAX_SIZE) tx txs small))

pub live_named : (txs : List Tx) (id : ℕ) (live : Bool) → live ≡ is_some (entry_in txs id) → IsTrue live ↔ Contains (names_of txs) id
live_named txs id live is = (λ holds. entry-Contains txs id (sym is ∙ holds), λ here. is ∙ Contains-entry txs id here)

pub not_so : (test : Bool) {P : Type 0} → IsTrue test ↔ P → test ≡ false → P → ⊥
not_so test means fails holds = true_not_false test (means.1 holds) fails

pub so : (test : Bool) {P : Type 0} → IsTrue test ↔ P → test ≡ true → P
so test means holds = means.0 holds
