-- Transactions with another fee at a name, and the step of the machine that this is.
use Rattle.std.proofs.Common.{◌≡◌, ℕ, ℤ, ◌+◌, ◌≤◌, Bool, true, false, cond, eqb, List, [], ◌∷◌, length, map, sym, refl, ap, subst, ◌∙◌, arith, Option, None, Some}
use Rattle.std.specs.Prelude.{◌↔◌, is_some, IsSome, IsTrue}
use Rattle.std.specs.FinMap as finmap
use Rattle.std.specs.Cmp.{nat_cmp_total, unsigned_tied}
use Rattle.std.proofs.lemmas.Bool.Decides.{Decides-eqb, nat_tests}
use Rattle.std.proofs.lemmas.List.{length-map}
use Rattle.std.proofs.lemmas.List.Elements.{All-head, All-tail, All-cons, All-nil}
use Rattle.lists.specs.Distinct.{AreDistinct}
use Rattle.fee_rate.specs.declared.limits.TheConstants.{MAX_SIZE}
use Rattle.graph_model.specs.declared.names.Limits.{Limits}
use Rattle.graph_model.specs.declared.names.Refusal.{Refusal}
use Rattle.graph_model.specs.Limits.{bounds_of}
use Rattle.graph_model.specs.States.{PlainState, Entry, Table, size_of, size_in}
use Rattle.graph_model.specs.Oversize.{HasOver}
use Rattle.graph_model.specs.Changes.{with_fee}
use Rattle.graph_model.specs.Commands.{SetFee}
use Rattle.graph_model.specs.Refusals.{RefusalIs}
use Rattle.graph_model.specs.Replies.{Done}
use Rattle.plain_graph.specs.declared.tx.Tx.{Tx}
use Rattle.plain_graph.specs.Plain.{Kept, StandsFor, Steps, entry_in, sizes_in}
use Rattle.plain_graph.specs.Sound.{names_of, AreSmall, IsSound}
use Rattle.plain_graph.specs.Overs.{IsOver, IsRight}
use Rattle.plain_graph.specs.Rests.{paying}
use Rattle.plain_graph.specs.Walks.{EndsAreAmong}
use Rattle.plain_graph.proofs.Entries.{entry_of, none_of_true}
use Rattle.plain_graph.proofs.Standing.{HasTable, state_of, steps_accepted}

paying-id : (id : ℕ) (fee : ℤ) (tx : Tx) → (paying id fee tx).id ≡ tx.id
paying-id id fee tx = (elim (eqb tx.id id) as (λ b. (cond b (record tx { fee = fee }) tx).id ≡ tx.id) [ true ↦ refl | false ↦ refl ])

paying-size : (id : ℕ) (fee : ℤ) (tx : Tx) → (paying id fee tx).size ≡ tx.size
paying-size id fee tx = (elim (eqb tx.id id) as (λ b. (cond b (record tx { fee = fee }) tx).size ≡ tx.size) [ true ↦ refl | false ↦ refl ])

pub names-paying : (id : ℕ) (fee : ℤ) (txs : List Tx) → names_of (map (paying id fee) txs) ≡ names_of txs
names-paying id fee [] = refl
names-paying id fee (tx ∷ txs) = λ i. paying-id id fee tx i ∷ names-paying id fee txs i

small-paying : (id : ℕ) (fee : ℤ) (txs : List Tx) → AreSmall txs → AreSmall (map (paying id fee) txs)
small-paying id fee [] small = All-nil (λ (tx : Tx). tx.size ≤ MAX_SIZE)
small-paying id fee (tx ∷ txs) small =
    All-cons (λ (tx : Tx). tx.size ≤ MAX_SIZE) (paying id fee tx) (map (paying id fee) txs)
    (subst (λ (size : ℕ). size ≤ MAX_SIZE) (sym (paying-size id fee tx)) (All-head (λ (tx : Tx). tx.size ≤ MAX_SIZE) tx txs small))
    (small-paying id fee txs (All-tail (λ (tx : Tx). tx.size ≤ MAX_SIZE) tx txs small))

-- an entry with another fee
abbrev repaid : ℤ → Option Entry → Option Entry
repaid fee None = None
repaid fee (Some entry) = Some (record { fee = fee; size = entry.size })

paid_one : (tx id q : ℕ) (fee : ℤ) (own : Entry) (rest : Option Entry) → eqb tx id ≡ true
    → cond (eqb tx q) (Some (record { fee = fee; size = own.size })) (cond (eqb q id) (repaid fee rest) rest)
    ≡ cond (eqb q id) (repaid fee (cond (eqb tx q) (Some own) rest)) (cond (eqb tx q) (Some own) rest)
paid_one tx id q fee own rest is = grind (arith, nat_tests)

paid_other : (tx id q : ℕ) (fee : ℤ) (own : Entry) (rest : Option Entry) → eqb tx id ≡ false
    → cond (eqb tx q) (Some own) (cond (eqb q id) (repaid fee rest) rest)
    ≡ cond (eqb q id) (repaid fee (cond (eqb tx q) (Some own) rest)) (cond (eqb tx q) (Some own) rest)
paid_other tx id q fee own rest is = grind (arith, nat_tests)

entry-paying : (id : ℕ) (fee : ℤ) (txs : List Tx) (q : ℕ)
    → entry_in (map (paying id fee) txs) q ≡ cond (eqb q id) (repaid fee (entry_in txs q)) (entry_in txs q)
entry-paying id fee [] q = (elim (eqb q id) as (λ b. ◌≡◌ {A = Option Entry} None (cond b None None)) [ true ↦ refl | false ↦ refl ])
entry-paying id fee (tx ∷ txs) q =
    (elim (eqb tx.id id) as (λ b. eqb tx.id id ≡ b → entry_in (cond b (record tx { fee = fee }) tx ∷ map (paying id fee) txs) q
    ≡ cond (eqb q id) (repaid fee (entry_in (tx ∷ txs) q)) (entry_in (tx ∷ txs) q)) [
      | true ↦ λ is. ap (cond (eqb tx.id q) (Some (record { fee = fee; size = tx.size }))) (entry-paying id fee txs q)
          ∙ paid_one tx.id id q fee (entry_of tx) (entry_in txs q) is
      | false ↦ λ is. ap (cond (eqb tx.id q) (Some (entry_of tx))) (entry-paying id fee txs q) ∙ paid_other tx.id id q fee (entry_of tx) (entry_in txs q) is
    ]) refl

repaid_some : (fee : ℤ) (found : Option Entry) → IsSome found → Some (record { fee = fee; size = size_in found }) ≡ repaid fee found
repaid_some fee None some = absurd (none_of_true some)
repaid_some fee (Some entry) some = refl

-- the entries that the table has are those of the transactions
same_entry : (id q : ℕ) (fee : ℤ) (at : ℕ → Option Entry) → IsSome (at id)
    → cond (eqb q id) (Some (record { fee = fee; size = size_in (at id) })) (at q) ≡ cond (eqb q id) (repaid fee (at q)) (at q)
same_entry id q fee at some =
    (elim (eqb q id) as (λ b. eqb q id ≡ b → cond b (Some (record { fee = fee; size = size_in (at id) })) (at q) ≡ cond b (repaid fee (at q)) (at q)) [
      | true ↦ λ is. repaid_some fee (at id) some ∙ ap (λ (n : ℕ). repaid fee (at n)) (sym ((Decides-eqb q id).0 is))
      | false ↦ λ is. refl
    ]) refl

has_paid : (txs : List Tx) (table : Table) (id : ℕ) (fee : ℤ) → IsSome (entry_in txs id) → HasTable txs table
    → HasTable (map (paying id fee) txs) (finmap.insert table id (record { fee = fee; size = size_of table id }))
has_paid txs table id fee some has = record {
  gets = λ q. finmap.get-insert nat_cmp_total table id (record { fee = fee; size = size_of table id }) q
      ∙ ap (λ b. cond b (Some (record { fee = fee; size = size_of table id })) (finmap.get table q)) (unsigned_tied q id)
      ∙ (λ i. cond (eqb q id) (Some (record { fee = fee; size = size_in (has.gets id i) })) (has.gets q i))
      ∙ same_entry id q fee (entry_in txs) some
      ∙ sym (entry-paying id fee txs q);
  live = finmap.len-insert nat_cmp_total table id (record { fee = fee; size = size_of table id })
      ∙ ap (λ (b : Bool). cond b (finmap.len table) (finmap.len table + 1)) (ap is_some (has.gets id) ∙ some)
      ∙ has.live
      ∙ sym (length-map txs (paying id fee));
}

pub steps_paid : (old new : Kept) (id : ℕ) (fee : ℤ) → new.limits ≡ old.limits → new.begun ≡ true → new.txs ≡ map (paying id fee) old.txs
    → new.pairs ≡ old.pairs → IsSome (entry_in old.txs id) → ((state : PlainState) → StandsFor old state → RefusalIs state (SetFee id fee) None)
    → Steps old new (SetFee id fee) Done
steps_paid old new id fee limits begun txs pairs some none =
    steps_accepted old new (SetFee id fee) Done tt none
    (λ table has.
    let paid = has_paid old.txs table id fee some has in (
      with_fee (state_of old table) id fee,
      λ valid. record {
        limits = ap bounds_of (sym limits);
        most = refl;
        begun = sym begun;
        table = λ q. paid.gets q ∙ ap (λ txs. entry_in txs q) (sym txs);
        live = paid.live ∙ ap length (sym txs);
        names = sym (ap names_of txs ∙ names-paying id fee old.txs);
        pairs = sym pairs;
        staging = refl;
        blocks = refl;
        valid = valid;
      },
      λ picks. record { answer = refl; change = refl },
    ))

-- what the fields keep after a change of fee
sound_paid : (set : Limits) (txs : List Tx) (pairs : List (ℕ × ℕ)) (places id : ℕ) (fee : ℤ)
    → IsSound set txs pairs places → IsSound set (map (paying id fee) txs) pairs places
sound_paid set txs pairs places id fee sound = record {
  in_range = sound.in_range;
  small = small-paying id fee txs sound.small;
  names_once = subst (AreDistinct {A = ℕ}) (sym (names-paying id fee txs)) sound.names_once;
  pairs_once = sound.pairs_once;
  ends = subst (λ (names : List ℕ). EndsAreAmong names pairs) (sym (names-paying id fee txs)) sound.ends;
  enough = subst (λ (n : ℕ). n ≤ places) (sym (length-map txs (paying id fee))) sound.enough;
}

sizes_repaid : (b : Bool) (fee : ℤ) (found : Option Entry) → size_in (cond b (repaid fee found) found) ≡ size_in found
sizes_repaid true fee None = refl
sizes_repaid true fee (Some entry) = refl
sizes_repaid false fee found = refl

sizes-paying : (id : ℕ) (fee : ℤ) (txs : List Tx) → sizes_in (map (paying id fee) txs) ≡ sizes_in txs
sizes-paying id fee txs = λ i. λ q. (ap size_in (entry-paying id fee txs q) ∙ sizes_repaid (eqb q id) fee (entry_in txs q)) i

-- names and sizes stay, and so does what is over the limits
over_paid : (set : Limits) (txs : List Tx) (pairs : List (ℕ × ℕ)) (id : ℕ) (fee : ℤ) → IsOver set (map (paying id fee) txs) pairs ≡ IsOver set txs pairs
over_paid set txs pairs id fee =
    λ i. (set.defer ≡ true) × HasOver (bounds_of set) (sizes-paying id fee txs i) (record { names = names-paying id fee txs i; pairs = pairs })

pub right_paid : (set : Limits) (txs : List Tx) (pairs : List (ℕ × ℕ)) (places id : ℕ) (fee : ℤ) (over : Bool)
    → IsRight set txs pairs places over → IsRight set (map (paying id fee) txs) pairs places over
right_paid set txs pairs places id fee over right = record {
  sound = sound_paid set txs pairs places id fee right.sound;
  noted = subst (λ (P : Type 0). IsTrue over ↔ P) (sym (over_paid set txs pairs id fee)) right.noted;
}

-- the refusal of `fee` at an equal fee
pub at_new_fee : (kept : Kept) (id : ℕ) (given fee : ℤ) (found : Option Refusal) → given ≡ fee
    → ((state : PlainState) → StandsFor kept state → RefusalIs state (SetFee id given) found)
    → (state : PlainState) → StandsFor kept state → RefusalIs state (SetFee id fee) found
at_new_fee kept id given fee found same refused =
    subst (λ (fee : ℤ). (state : PlainState) → StandsFor kept state → RefusalIs state (SetFee id fee) found) same refused
