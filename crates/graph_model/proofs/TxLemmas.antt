-- Transactions listed along an order, each with the fee and the size that a table has of it.
use Rattle.std.proofs.Common.{◌≡◌, ℕ, ℤ, cond, List, [], ◌∷◌, map, Option, None, Some, is_some, refl, ap, ◌∙◌, inl, inr, true, true≢false, sym, eq-eqb, ne_eqb}
use Rattle.std.specs.Prelude.{Contains}
use Rattle.std.specs.FinMap as finmap
use Rattle.std.proofs.lemmas.Bool.{cases_eq}
use Rattle.lists.proofs.Entries.{Contains-cases, map-Contains, none_in_empty}
use Rattle.fee_rate.specs.declared.rates.Sum.{Sum}
use Rattle.fee_rate.specs.Limits.{IsFee, IsSize}
use Rattle.graphs.specs.Certificates.{rate_in}
use Rattle.graph_model.specs.States.{PlainState, Table, Entry, rate_of, sum_in, size_in, size_of}
use Rattle.graph_model.specs.Changes.{IsKept}
use Rattle.graph_model.specs.Validity.{IsValid}

size_entry : (o : Option Entry) → (sum_in o).size ≡ size_in o
size_entry None = refl
size_entry (Some entry) = refl

-- the size of a name, by its fee and size or by its size alone
pub size_told : (table : Table) (id : ℕ) → (rate_of table id).size ≡ size_of table id
size_told table id = size_entry (finmap.get table id)

abbrev pub tx_of : (ℕ → Sum) → ℕ → ℕ × ℤ × ℕ
tx_of rate id = (id, (rate id).fee, (rate id).size)

pub names_listed : (rate : ℕ → Sum) (order : List ℕ) → map (λ (tx : ℕ × ℤ × ℕ). tx.0) (map (tx_of rate) order) ≡ order
names_listed rate [] = refl
names_listed rate (id ∷ order) = ap (λ ids. id ∷ ids) (names_listed rate order)

pub rate_listed : (rate : ℕ → Sum) (order : List ℕ) (id : ℕ) → Contains order id → rate_in (map (tx_of rate) order) id ≡ rate id
rate_listed rate [] id here = absurd (none_in_empty id here)
rate_listed rate (x ∷ order) id here = elim (cases_eq x id) [
  | inl same ↦
      ap (λ b. cond b (record { fee = (rate x).fee; size = (rate x).size }) (rate_in (map (tx_of rate) order) id)) (eq-eqb x id same) ∙ ap rate same
  | inr other ↦
      ap (λ b. cond b (record { fee = (rate x).fee; size = (rate x).size }) (rate_in (map (tx_of rate) order) id)) (ne_eqb x id other)
      ∙ rate_listed rate order id (elim (Contains-cases x id order here) [ inl same ↦ absurd (other same) | inr later ↦ later ])
]

pub tx_named : (rate : ℕ → Sum) (order : List ℕ) (tx : ℕ × ℤ × ℕ) → Contains (map (tx_of rate) order) tx
    → (id : ℕ) × Contains order id × (tx_of rate id ≡ tx)
tx_named rate order tx here = map-Contains (tx_of rate) order tx here

-- the names of a level have fees and sizes in range
rate_fine : (o : Option Entry) → is_some o ≡ true → ((e : Entry) → o ≡ Some e → IsFee e.fee × IsSize e.size) → IsFee (sum_in o).fee × IsSize (sum_in o).size
rate_fine None none fine = absurd (true≢false (sym none))
rate_fine (Some e) some fine = fine e refl

pub kept_fine : (plain : PlainState) → IsValid plain → (id : ℕ) → IsKept plain id
    → IsFee (rate_of plain.table id).fee × IsSize (rate_of plain.table id).size
kept_fine plain valid id kept = rate_fine (finmap.get plain.table id) ((valid.live id).1 kept) (λ e is. valid.rates id e is)
