use Rattle.std.proofs.Common.{rules, ◌≡◌, ◌∙◌, ℕ, List, [], ◌∷◌, refl, ap, sym, subst, true}
use Rattle.std.specs.Cmp.{nat_cmp_total}
use Rattle.std.specs.FinSet as fin
use Rattle.std.specs.Ordering.{nat_cmp}
use Rattle.graphs.proofs.Members.{contains-members_of}
use Rattle.lists.proofs.Cases.{swap}
use Rattle.bitset.specs.Members.{empty_has_none}
use Rattle.graphs.specs.Closures.{Closure, is_member, members_of, IsNear}
use Rattle.lists.specs.Walks.{IsWalk, Walk}
use Rattle.linearize.proofs.fit.is_component.Goals as goal

-- a walk among members, by steps to ancestors and descendants
abbrev Path : Closure → fin.FinSet nat_cmp → ℕ → ℕ → Type 0
Path dep s a b = Walk (IsNear dep s) a b

abbrev IsPath : Closure → fin.FinSet nat_cmp → ℕ → List ℕ → ℕ → Type 0
IsPath dep s a us b = IsWalk (IsNear dep s) a us b

near_back : (dep : Closure) (s : fin.FinSet nat_cmp) (a b : ℕ) → IsNear dep s a b → IsNear dep s b a
near_back dep s a b near = record {
  from_within = near.to_within;
  to_within = near.from_within;
  related = swap near.related;
}

join : (dep : Closure) (s : fin.FinSet nat_cmp) (us : List ℕ) (a b c : ℕ)
    → IsPath dep s a us b → Path dep s b c → Path dep s a c
join dep s [] a b c w v = subst (λ (k : ℕ). Path dep s k c) (sym w) v
join dep s (u ∷ us) a b c w v = let rest = join dep s us u b c w.1 v in (u ∷ rest.0, (w.0, rest.1))

back : (dep : Closure) (s : fin.FinSet nat_cmp) (us : List ℕ) (a b : ℕ) → IsPath dep s a us b → Path dep s b a
back dep s [] a b w = ([], sym w)
back dep s (u ∷ us) a b w =
    let rest = back dep s us u b w.1 in
    join dep s rest.0 b u a rest.1 (a ∷ [], (near_back dep s a u w.0, (λ i. a)))

-- a set that is the members' holds members
member_of : (dep : Closure) (s : fin.FinSet nat_cmp) (p : ℕ)
    → s ≡ members_of dep → fin.contains s p ≡ true → is_member dep p ≡ true
member_of dep s p is h = sym (contains-members_of dep p) ∙ ap (λ t. fin.contains t p) (sym is) ∙ h

of_member : (dep : Closure) (s : fin.FinSet nat_cmp) (p : ℕ)
    → s ≡ members_of dep → is_member dep p ≡ true → fin.contains s p ≡ true
of_member dep s p is m = ap (λ t. fin.contains t p) is ∙ contains-members_of dep p ∙ m

pub component-requires : goal.component-requires
component-requires g c =
    let is = c.members-members.ensures.members in (
      search rules,
      (
        search rules,
        ((λ p m. member_of c.args.dep.now c.members-members.result p is m), c.in-Some.ensures.least.member),
      ),
    )

pub returns-in-Some : goal.returns-in-Some
returns-in-Some g c =
    let dep = c.args.dep.now in
    let s = c.members-members.result in
    let first = c.in-Some.first in
    let reached = c.component.result in
    let is : s ≡ members_of dep = c.members-members.ensures.members in (
      (λ e a b ma mb.
          (let all = fin.is_subset-contains nat_cmp_total s reached (sym c.is_subset.ensures ∙ e) in
          let reach : (p : ℕ) → is_member dep p ≡ true → Path dep s first p =
          λ p m. (c.component.ensures p).0 (all p (of_member dep s p is m)) in
          let there = reach a ma in
          let here = back dep s there.0 first a there.1 in
          subst (λ t. Path dep t a b) is (join dep s here.0 a first b here.1 (reach b mb)))),
      (λ joined.
          (let here : is_member dep first ≡ true = member_of dep s first is c.in-Some.ensures.least.member in
          let reach : (p : ℕ) → fin.contains s p ≡ true → Path dep s first p =
          λ p m. subst (λ t. Path dep t first p) (sym is) (joined first p here (member_of dep s p is m)) in
          let all = fin.contains-is_subset nat_cmp_total s reached (λ p m. (c.component.ensures p).1 (reach p m)) in
          c.is_subset.ensures ∙ all)),
    )

pub returns-in-None : goal.returns-in-None
returns-in-None g c =
    let s = c.members-members.result in
    let is = c.members-members.ensures.members in (
      (λ e a b ma mb. absurd (empty_has_none s a (of_member c.args.dep.now s a is ma) c.in-None.ensures.least)),
      (λ joined. refl),
    )
