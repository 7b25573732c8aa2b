use Rattle.std.proofs.Common.{◌≡◌, ◌↔◌, ◌∙◌, ℕ, List, length, nat_eq, sym, subst, arith}
use Rattle.std.specs.Prelude.{Contains}
use Rattle.std.specs.HashMap as hash
use Rattle.std.proofs.lemmas.List.{length-map}
use Rattle.graphs.specs.Certificates.{Txs}
use Rattle.lists.specs.Distinct.{AreDistinct}
use Rattle.links.specs.Kept.{names_of}
use Rattle.places.specs.Places.{ArePlaces}
use Rattle.places.specs.Chains.{AreWithin}
use Rattle.trimming.specs.Nets.{list_at}
use Rattle.trimming.proofs.Netting.{names_moved, among_moved, net_made}
use Rattle.trimming.proofs.net.net_of.Goals as goal

pub places_of-requires : goal.places_of-requires
places_of-requires c =
    subst (λ (l : Txs). AreDistinct (names_of l)) (sym c.as_slice.ensures.value)
    (names_moved c.args.txs.now c.in_ok-order.order.items c.in_ok-order.ensures.same c.requires.graph_is.names)

pub steps_of-requires : goal.steps_of-requires
steps_of-requires c = (
  names_of c.in_ok-order.order.items,
  subst (λ (l : Txs). ArePlaces (names_of l) (hash.get nat_eq c.in_ok-places.places)) c.as_slice.ensures.value c.in_ok-places.ensures,
  among_moved c.args.txs.now c.in_ok-order.order.items c.args.pairs.now c.in_ok-order.ensures.same c.requires.graph_is.ends,
)

pub parents_of-requires : goal.parents_of-requires
parents_of-requires c =
    let long : length (names_of c.as_slice.result.now) ≡ c.len.result =
    length-map c.as_slice.result.now _ ∙ (let l = c.as_slice.ensures.len in let m = c.len.ensures in omega (arith, l, m)) in
    subst (λ (n : ℕ). AreWithin n c.as_slice-2.result.now) long
    (subst (AreWithin (length (names_of c.as_slice.result.now))) (sym c.as_slice-2.ensures.value)
    (c.in_ok-steps.ensures.within (names_of c.as_slice.result.now) c.in_ok-places.ensures))

pub children_of-requires : goal.children_of-requires
children_of-requires c =
    let long : length (names_of c.as_slice.result.now) ≡ c.len-2.result =
    length-map c.as_slice.result.now _ ∙ (let l = c.as_slice.ensures.len in let m = c.len-2.ensures in omega (arith, l, m)) in
    subst (λ (n : ℕ). AreWithin n c.as_slice-3.result.now) long
    (subst (AreWithin (length (names_of c.as_slice.result.now))) (sym c.as_slice-3.ensures.value)
    (c.in_ok-steps.ensures.within (names_of c.as_slice.result.now) c.in_ok-places.ensures))

pub returns : goal.returns
returns c =
    let places = subst (λ (l : Txs). ArePlaces (names_of l) (hash.get nat_eq c.in_ok-places.places)) c.as_slice.ensures.value c.in_ok-places.ensures in
    let up = c.in_ok-parents.ensures in
    let down = c.in_ok-children.ensures in
    let one = c.len.ensures in
    let two = c.len-2.ensures in
    let ups = up.sized in
    let downs = down.sized in
    net_made c.args.txs.now c.args.pairs.now c.in_ok-steps.steps.items (hash.get nat_eq c.in_ok-places.places) _ c.requires
    c.in_ok-order.ensures.same c.in_ok-order.ensures.sorted places c.in_ok-steps.ensures.steps (omega (arith, ups, one)) (omega (arith, downs, two))
    (λ a b. subst (λ (l : List (ℕ × ℕ)). Contains (list_at c.in_ok-parents.parents.items b) a ↔ Contains {X = ℕ × ℕ} l (a, b)) c.as_slice-2.ensures.value (up.exact a b))
    (λ a b. subst (λ (l : List (ℕ × ℕ)). Contains (list_at c.in_ok-children.children.items a) b ↔ Contains {X = ℕ × ℕ} l (a, b)) c.as_slice-3.ensures.value (down.exact a b))
