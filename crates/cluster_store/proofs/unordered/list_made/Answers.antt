-- Those that came in are listed, as far as they have no order, and the others were.
use Rattle.std.proofs.Common.{◌≡◌, ◌≤◌, ◌+◌, ℕ, true, nat_eq, List, [], length, Contains, inl, inr, sym, ap, subst, arith}
use Rattle.std.specs.Prelude.{option_to_list}
use Rattle.std.proofs.lemmas.List.Elements.{Contains-append_cases, Contains-append_left, Contains-append_right}
use Rattle.lists.proofs.Entries.{Contains-head, Contains-one}
use Rattle.indexmap.specs.IndexSet.{contains, spare as room_of}
use Rattle.cluster_store.specs.Kept.{at}
use Rattle.cluster_store.specs.Unordered.{IsUnordered}
use Rattle.cluster_store.proofs.unordered.list_made.Goals as goal

pub returns-then-capacity-eq0 : goal.returns-then-capacity-eq0
returns-then-capacity-eq0 g c = λ n unordered. elim (c.requires.others n unordered) [
  | inl made ↦
      let some : length c.args.made.now.rest.items + 1 ≤ room_of c.args.over.now = c.requires.room n made unordered in
      absurd (omega (arith, some, c.capacity.ensures, c.if-capacity-eq0.true))
  | inr was ↦ was
]

pub list_all-requires : goal.list_all-requires
list_all-requires g c = (
  search,
  λ n here unordered.
      let inside = subst (λ (ns : List ℕ). Contains ns n) c.as_slice.ensures.value here in
      let all : length c.args.made.now.rest.items + 1 ≤ room_of c.args.over.now =
      c.requires.room n (Contains-append_left c.args.made.now.rest.items (option_to_list c.args.made.now.last) n inside) unordered in
      let long : length c.as_slice.result.now ≡ length c.args.made.now.rest.items = ap length c.as_slice.ensures.value in
      omega (arith, all, long, c.unlist_all.ensures.room),
)

pub list-requires : goal.list-requires
list-requires g c = (
  search,
  λ unordered.
      let number = c.in-Some.number in
      let one : Contains (option_to_list c.args.made.now.last) number =
      subst (λ (ns : List ℕ). Contains ns number) (sym (ap option_to_list c.in-Some.is)) (Contains-head number []) in
      let all : length c.args.made.now.rest.items + 1 ≤ room_of c.args.over.now =
      c.requires.room number (Contains-append_right c.args.made.now.rest.items (option_to_list c.args.made.now.last) number one) unordered in
      let long : length c.as_slice.result.now ≡ length c.args.made.now.rest.items = ap length c.as_slice.ensures.value in
      omega (arith, all, long, c.unlist_all.ensures.room, c.list_all.ensures.room),
)

pub returns-in-Some : goal.returns-in-Some
returns-in-Some g c = λ n unordered. elim (c.requires.others n unordered) [
  | inl made ↦ elim (Contains-append_cases c.args.made.now.rest.items (option_to_list c.args.made.now.last) n made) [
    | inl rest ↦
        c.list.ensures.others n (c.list_all.ensures.listed n (subst (λ (ns : List ℕ). Contains ns n) (sym c.as_slice.ensures.value) rest) unordered)
    | inr last ↦
        let same : c.in-Some.number ≡ n =
        Contains-one c.in-Some.number n (subst (λ (ns : List ℕ). Contains ns n) (ap option_to_list c.in-Some.is) last) in
        subst (λ (m : ℕ). contains nat_eq c.list.new.over m ≡ true) same
        (c.list.ensures.listed (subst (λ (m : ℕ). IsUnordered (at c.args.slots.now.slots m)) (sym same) unordered))
  ]
  | inr was ↦ c.list.ensures.others n (c.list_all.ensures.others n (c.unlist_all.ensures.unordered n unordered was))
]
