use Rattle.std.proofs.Common.{◌≡◌, ℕ, ◌*◌, ◌-◌, ◌<◌, [], ◌∷◌, ◌++◌, List, length, take, drop, ap, ◌∙◌, refl, subst, arith, lit<, rules, length-append}
use Rattle.std.specs.Prelude.{Some}
use Rattle.graphs.specs.Certificates.{Part}
use Rattle.linearize.specs.Drafts.{Written, placed}
use Rattle.linearize.specs.Graphs.{sum_from}
use Rattle.linearize.specs.Known.{old_part}
use Rattle.linearize.specs.Near.{Follow}
use Rattle.linearize.proofs.KnownParts.{for_places, for_part, known_behind, no_fewer}
use Rattle.linearize.proofs.known.put_known.Goals as goal

pub put_all-requires : goal.put_all-requires
put_all-requires g c =
    let own : List ℕ → List ℕ = λ xs. take (c.args.part.end - c.args.part.start) (drop c.args.part.start xs) in
    let part : Part = old_part c.args.guess.now.places.items c.requires.known.0 c.args.part in
    let room = for_places (64 * g.row.W) c.args.dep.now c.args.members.now c.args.done.now c.in_ok-all.all c.args.draft.now c.requires.begun part
    (subst (λ (xs : List ℕ). Follow c.args.dep.now c.args.members.now c.args.done.now (own xs) c.in_ok-all.all) c.as_slice-all_places.ensures.value
    c.in_ok-all.ensures.follow) (c.requires.known.1 c.args.part c.requires.part.0 c.requires.part.1)
    (subst (λ (xs : List ℕ). 0 < length (own xs)) c.as_slice-all_places.ensures.value c.in_ok-all.ensures.some) in
    let long = length-append (placed c.args.draft.now.parts) c.args.draft.now.ids in
    let none : length c.args.draft.now.ids ≡ 0 = ap length c.requires.open.0 in
    let same : length (own c.as_slice-all_places.result.now) ≡ length (own c.args.guess.now.places.items) =
    ap (λ (xs : List ℕ). length (own xs)) c.as_slice-all_places.ensures.value in
    (lit< tt, omega (arith, room, long, none, same))

pub close-requires : goal.close-requires
close-requires g c =
    let own : List ℕ → List ℕ = λ xs. take (c.args.part.end - c.args.part.start) (drop c.args.part.start xs) in
    let part : Part = old_part c.args.guess.now.places.items c.requires.known.0 c.args.part in
    let room = for_part (64 * g.row.W) c.args.dep.now c.args.members.now c.args.done.now c.in_ok-all.all c.args.draft.now c.requires.begun part
    (subst (λ (xs : List ℕ). Follow c.args.dep.now c.args.members.now c.args.done.now (own xs) c.in_ok-all.all) c.as_slice-all_places.ensures.value
    c.in_ok-all.ensures.follow) (c.requires.known.1 c.args.part c.requires.part.0 c.requires.part.1)
    (subst (λ (xs : List ℕ). 0 < length (own xs)) c.as_slice-all_places.ensures.value c.in_ok-all.ensures.some) in
    let first : length c.put_all.new.self.parts ≡ length c.args.draft.now.parts = ap (λ (w : Written). length w.parts) c.put_all.ensures in
    (lit< tt, omega (arith, room, first))

pub returns-clause-extends : goal.returns-clause-extends
returns-clause-extends g c =
    let own : List ℕ → List ℕ = λ xs. take (c.args.part.end - c.args.part.start) (drop c.args.part.start xs) in
    let part : Part = old_part c.args.guess.now.places.items c.requires.known.0 c.args.part in
    let closing : Written → Written = λ w. record {
      parts = w.parts ++ record { rate = sum_from c.args.part.rate; ids = w.ids; flows = w.flows } ∷ [];
      ids = [];
      flows = [];
    } in
    let ids : c.args.draft.now.ids ++ own c.as_slice-all_places.result.now ≡ own c.args.guess.now.places.items =
    ap (λ (xs : List ℕ). xs ++ own c.as_slice-all_places.result.now) c.requires.open.0 ∙ ap own c.as_slice-all_places.ensures.value in
    let told : c.push.new.self.items ≡ c.args.froms.now.items ++ Some c.args.part ∷ [] = search rules in
    known_behind (64 * g.row.W) c.args.dep.now c.args.members.now c.args.done.now c.in_ok-all.all c.args.draft.now c.requires.begun part
    (subst (λ (xs : List ℕ). Follow c.args.dep.now c.args.members.now c.args.done.now (own xs) c.in_ok-all.all) c.as_slice-all_places.ensures.value
    c.in_ok-all.ensures.follow) (c.requires.known.1 c.args.part c.requires.part.0 c.requires.part.1)
    (subst (λ (xs : List ℕ). 0 < length (own xs)) c.as_slice-all_places.ensures.value c.in_ok-all.ensures.some)
    c.args.guess.now.parts.items c.args.guess.now.places.items c.args.part c.args.froms.now.items c.push.new.self.items c.close.new.self
    (c.requires.part.0, c.requires.part.1, refl) told
    (c.close.ensures ∙ ap closing c.put_all.ensures
    ∙ (λ i. record {
      parts = c.args.draft.now.parts ++ record { rate = sum_from c.args.part.rate; ids = ids i; flows = c.requires.open.1 i } ∷ [];
      ids = [];
      flows = [];
    }))

pub returns-clause-more : goal.returns-clause-more
returns-clause-more g c =
    let own : List ℕ → List ℕ = λ xs. take (c.args.part.end - c.args.part.start) (drop c.args.part.start xs) in
    let part : Part = old_part c.args.guess.now.places.items c.requires.known.0 c.args.part in
    no_fewer (64 * g.row.W) c.args.dep.now c.args.members.now c.args.done.now c.in_ok-all.all c.args.draft.now c.requires.begun part
    (subst (λ (xs : List ℕ). Follow c.args.dep.now c.args.members.now c.args.done.now (own xs) c.in_ok-all.all) c.as_slice-all_places.ensures.value
    c.in_ok-all.ensures.follow) (c.requires.known.1 c.args.part c.requires.part.0 c.requires.part.1)
    (subst (λ (xs : List ℕ). 0 < length (own xs)) c.as_slice-all_places.ensures.value c.in_ok-all.ensures.some)
