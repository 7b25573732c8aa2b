-- The cluster of one name.
use Rattle.std.proofs.Common.{◌≡◌, ℕ, ◌≤◌, false, ◌&&◌, ◌||◌, nat_eq, nat_lt, List, [], ◌∷◌, length, slice_index, inl, inr, refl, sym, ap, ap₂, ◌∙◌, subst, arith, eqb-true, eq-eqb, true≢false}
use Rattle.std.proofs.lemmas.Bool.{cases_eq, and_parts}
use Rattle.std.proofs.lemmas.Bool.Decides.{nat_tests}
use Rattle.std.specs.Ordering.{nat_cmp}
use Rattle.std.specs.FinMap as map
use Rattle.std.specs.FinSet as set
use Rattle.std.proofs.Common.{Option}
use Rattle.lists.proofs.Cases.{or_false}
use Rattle.lists.proofs.Entries.{none_in_empty}
use Rattle.lists.specs.Distinct.{AreDistinct}
use Rattle.fee_rate.specs.Limits.{IsRate}
use Rattle.graphs.specs.Certificates.{Part}
use Rattle.graphs.specs.Closures.{Node, Closure, members_of, is_member, is_ancestor, ancestors_of, ancestors_in, rate_of, IsClosed, AddsPlace}
use Rattle.bitset.specs.Sets.{contains-empty}
use Rattle.fee_rate.specs.declared.rates.FeeRate.{FeeRate}
use Rattle.cluster.specs.Changes.{IsSingle}
use Rattle.cluster.specs.Named.{named, IsNamed}
use Rattle.cluster.proofs.Names.{named-rate, named-ancestor}
use Rattle.cluster.proofs.Kept.{by_places, ancestor_ends}

none_member : (p : ℕ) → is_member map.empty p ≡ false
unfolding is_member
none_member p = ap Rattle.std.specs.Prelude.is_some (map.get-empty nat_cmp p)

pub len-none : set.len (members_of map.empty) ≡ 0
unfolding members_of
len-none = no_entry (map.entries (map.empty {X = Node} {R = nat_cmp})) (sym (map.len-entries (map.empty {X = Node} {R = nat_cmp})) ∙ map.len-empty nat_cmp Node)
  where
    no_entry : (es : List (ℕ × Node)) → length es ≡ 0 → set.len (set.from_list {R = nat_cmp} (Rattle.std.specs.Prelude.map (λ e. e.0) es)) ≡ 0
    no_entry [] e = set.len-empty nat_cmp
    no_entry (x ∷ es) e = absurd (omega arith)

none_above : (a d : ℕ) → is_ancestor map.empty a d ≡ false
unfolding ancestors_of
none_above a d = ap (λ (o : Option Node). set.contains (ancestors_in o) a) (map.get-empty nat_cmp d) ∙ contains-empty a

once_one : (id : ℕ) → AreDistinct (id ∷ [])
once_one id = (none_in_empty id, tt)

module _ (n : ℕ) (old g : Closure) (id : ℕ) (rate : FeeRate) (place : ℕ) (none : old ≡ map.empty) (adds : AddsPlace old g rate place) where
  first_place : place ≡ 0
  first_place = elim (cases_eq place 0) [
    | inl same ↦ same
    | inr other ↦ absurd (true≢false (sym (adds.least 0 (omega arith)) ∙ ap (λ g. is_member g 0) none ∙ none_member 0))
  ]

  members : (p : ℕ) → is_member g p ≡ nat_lt p 1
  members p =
      adds.members p ∙ ap₂ (λ q b. nat_eq p q || b) first_place (ap (λ g. is_member g p) none ∙ none_member p)
      ∙ both_ways p
    where
      both_ways : (p : ℕ) → (nat_eq p 0 || false) ≡ nat_lt p 1
      both_ways p = grind (arith, nat_tests)

  above : (a d : ℕ) → is_ancestor g a d ≡ (nat_eq a 0 && nat_eq d 0)
  above a d =
      adds.ancestors a d ∙ ap₂ (λ q b. (nat_eq a q && nat_eq d q) || b) first_place (ap (λ g. is_ancestor g a d) none ∙ none_above a d)
      ∙ or_false (nat_eq a 0 && nat_eq d 0)

  pub IsNamed-single : 1 ≤ n → IsRate rate → IsClosed n g → IsNamed n (id ∷ []) g
  IsNamed-single room in_range closed = record {
    some = omega arith;
    few = room;
    once = once_one id;
    members = members;
    order = closed.order;
    whole = λ p q low below. ([], omega arith);
    rates = λ p low. subst (λ (r : FeeRate). IsRate r) (sym (ap (rate_of g) (let e : p ≡ 0 = omega arith in e ∙ sym first_place) ∙ adds.rate_is)) in_range;
  }

  pub IsSingle-named : (parts : List Part) → IsSingle id rate (record { names = id ∷ []; graph = named (id ∷ []) g; parts = parts })
  IsSingle-named parts = record {
    names = refl;
    rate_is = named-rate (id ∷ []) g (once_one id) 0 (omega arith) ∙ ap (rate_of g) (sym first_place) ∙ adds.rate_is;
    ancestors = by_places (id ∷ []) (is_ancestor (named (id ∷ []) g)) (λ a d. nat_eq a id && nat_eq d id)
        (λ p q low below. named-ancestor (id ∷ []) g (once_one id) p q low below ∙ above p q ∙ both p q (omega arith) (omega arith))
        (ancestor_ends (id ∷ []) g (once_one id))
        (λ a d holds. let both = and_parts (nat_eq a id) (nat_eq d id) holds in
        ((0, omega arith, sym (eqb-true a id both.0)), (0, omega arith, sym (eqb-true d id both.1))));
  }
    where
      name_at : (p : ℕ) → p ≡ 0 → slice_index (id ∷ []) p ≡ id
      name_at p e = ap (slice_index (id ∷ [])) e

      both : (p q : ℕ) → p ≡ 0 → q ≡ 0 → (nat_eq p 0 && nat_eq q 0) ≡ (nat_eq (slice_index (id ∷ []) p) id && nat_eq (slice_index (id ∷ []) q) id)
      both p q e f = ap₂ (λ x y. x && y) (eq-eqb p 0 e) (eq-eqb q 0 f)
          ∙ sym (ap₂ (λ x y. x && y) (eq-eqb (slice_index (id ∷ []) p) id (name_at p e)) (eq-eqb (slice_index (id ∷ []) q) id (name_at q f)))
