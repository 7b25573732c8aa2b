-- A cluster that is kept in sets of other words is the same.
use Rattle.std.proofs.Common.{◌≡◌, ℕ, ◌<◌, ◌≤◌, List, length, sym, ◌∙◌, arith, ltb-true}
use Rattle.graphs.specs.declared.names.Flow.{Flow}
use Rattle.graphs.specs.Closures.{Closure, members_of}
use Rattle.graphs.proofs.Members.{contains-members_of}
use Rattle.bitset.specs.Places.{IsWithin}
use Rattle.cluster.specs.Kept.{IsKept}
use Rattle.cluster.specs.Named.{IsNamed}
use Rattle.cluster.specs.declared.order.PartEnd.{PartEnd}

-- places that have names are few where the names are
pub members_within : (n m : ℕ) (names : List ℕ) (g : Closure) → IsNamed n names g → length names ≤ m → IsWithin m (members_of g)
members_within n m names g kept few p e =
    let low : p < length names = ltb-true p (length names) (sym (kept.members p) ∙ sym (contains-members_of g p) ∙ e) in omega (arith, few)

pub kept_resized : (n m : ℕ) (names : List ℕ) (g : Closure) (shown : List PartEnd) (order : List ℕ) (flows : List Flow) → IsKept n names g shown order flows
    → length names ≤ m → IsKept m names g shown order flows
kept_resized n m names g shown order flows kept few = record {
  place = record {
    some = kept.place.some;
    few = few;
    once = kept.place.once;
    members = kept.place.members;
    order = kept.place.order;
    whole = kept.place.whole;
    rates = kept.place.rates;
  };
  ordered = kept.ordered;
}

module _ {names copy : List ℕ} {g h : Closure} {shown ends : List PartEnd} {order listed : List ℕ} {flows sent : List Flow}
    (one : copy ≡ names) (two : h ≡ g) (three : ends ≡ shown) (four : listed ≡ order) (five : sent ≡ flows) where
  pub kept_copied : (n m : ℕ) → IsKept n names g shown order flows → length names ≤ m → IsKept m copy h ends listed sent
  kept_copied n m kept few = rw (one, two, three, four, five) (kept_resized n m names g shown order flows kept few)
