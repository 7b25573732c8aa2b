-- Components, told by closures.
use Rattle.std.proofs.Common.{◌≡◌, ℕ, ℤ, zero, suc, ◌<◌, inl, inr, List, [], length, get_or, true, refl, sym, ap, ◌∙◌, subst, arith}
use Rattle.std.specs.Prelude.{Contains}
use Rattle.std.proofs.lemmas.Bool.{cases_eq, cases_lt}
use Rattle.std.proofs.lemmas.List.{get_or_default}
use Rattle.lists.proofs.Entries.{Contains-map, map-Contains}
use Rattle.lists.proofs.Walks.{Walk-push}
use Rattle.graphs.specs.Graphs.{Walk, Trail}
use Rattle.graphs.specs.Closures.{AreLinked, IsRelated, is_ancestor, rate_of}
use Rattle.graphs.proofs.WalkLemmas.{walk_within}
use Rattle.links.specs.Links.{Links, AreLinks, Has}
use Rattle.links.specs.Closing.{closure}
use Rattle.links.specs.Parts.{AreComponentsOf}
use Rattle.links.specs.Laws.{ComponentsAreClosed}
use Rattle.links.proofs.Closed.{rates_are}
use Rattle.links.proofs.Changing.{has_member, has_above}

module _ (old : Links) (parts : List Links) (are : AreLinks old) (each : (part : Links) → Contains parts part → AreLinks part)
    (comps : AreComponentsOf old parts) where
  -- parts with a name in common are one
  one_part : (p q : Links) (id : ℕ) → Contains parts p → Contains parts q → Has p id → Has q id → p ≡ q
  one_part p q id (i, low, at) (j, bound, is) first second = elim (cases_lt i j) [
    | inl less ↦ absurd (comps.apart i j p less bound id (subst (λ (l : Links). Has l id) (sym at) first)
        (subst (λ (l : Links). Has l id) (sym (other j bound)) second))
    | inr more ↦ elim (cases_eq i j) [
      | inl same ↦ sym at ∙ ap (λ k. get_or parts k p) same ∙ other j bound
      | inr differ ↦ absurd (comps.apart j i p (omega arith) low id (subst (λ (l : Links). Has l id) (sym (other j bound)) second)
          (subst (λ (l : Links). Has l id) (sym at) first))
    ]
  ]
    where
      other : (k : ℕ) → k < length parts → get_or parts j p ≡ q
      other k less = get_or_default parts j p q bound ∙ is

  has_old : (part : Links) (id : ℕ) → Contains parts part → Has part id → Has old id
  has_old part id there here =
      let (tx, inside, is) = map-Contains (λ (t : ℕ × ℤ × ℕ). t.0) part.txs id here in
      subst (λ (x : ℕ). Has old x) is (Contains-map (λ (t : ℕ × ℤ × ℕ). t.0) old.txs tx ((comps.txs tx.0 tx.1 tx.2).1 (part, there, inside)))

  part_of : (id : ℕ) → Has old id → (part : Links) × Contains parts part × Has part id
  part_of id here =
      let (tx, inside, is) = map-Contains (λ (t : ℕ × ℤ × ℕ). t.0) old.txs id here in
      let (part, there, own) = (comps.txs tx.0 tx.1 tx.2).0 inside in
      (part, there, subst (λ (x : ℕ). Has part x) is (Contains-map (λ (t : ℕ × ℤ × ℕ). t.0) part.txs tx own))

  -- a pair whose child is a name of a part is one of the part's
  own_pair : (part : Links) → Contains parts part → (a b : ℕ) → Has part b → Contains {X = ℕ × ℕ} old.pairs (a, b) → Contains {X = ℕ × ℕ} part.pairs (a, b)
  own_pair part there a b here pair =
      let (other, among, inside) = (comps.pairs a b).0 pair in
      let below = ((each other among).graph_is.ends a b inside).1 in
      subst (λ (l : Links). Contains {X = ℕ × ℕ} l.pairs (a, b)) (one_part other part b among there below here) inside

  -- a walk that ends in a part stays there
  own_walk : (part : Links) → Contains parts part → (a b n : ℕ) → Has part b → Walk old.pairs a b n → Walk part.pairs a b n × Has part a
  own_walk part there a b zero here same = (same, subst (λ (x : ℕ). Has part x) (sym same) here)
  own_walk part there a b (suc n) here (c, walk, pair) =
      let own = own_pair part there c b here pair in
      let rest = own_walk part there a c n ((each part there).graph_is.ends c b own).0 walk in
      ((c, rest.0, own), rest.1)

  pair_inside : (part : Links) → Contains parts part → (a b : ℕ) → Contains {X = ℕ × ℕ} part.pairs (a, b) → Contains {X = ℕ × ℕ} old.pairs (a, b)
  pair_inside part there a b here = (comps.pairs a b).1 (part, there, here)

  same_rate : (part : Links) → Contains parts part → (id : ℕ) → Has part id → rate_of (closure part) id ≡ rate_of (closure old) id
  same_rate part there id here =
      let (tx, inside, is) = map-Contains (λ (t : ℕ × ℤ × ℕ). t.0) part.txs id here in
      let above : Contains old.txs tx = (comps.txs tx.0 tx.1 tx.2).1 (part, there, inside) in
      subst (λ (x : ℕ). rate_of (closure part) x ≡ rate_of (closure old) x) is
      (rates_are part (each part there) tx.0 tx.1 tx.2 inside ∙ sym (rates_are old are tx.0 tx.1 tx.2 above))

  -- a pair relates its ends
  related : (part : Links) → Contains parts part → (a b : ℕ) → Contains {X = ℕ × ℕ} part.pairs (a, b) → is_ancestor (closure part) a b ≡ true
  related part there a b pair =
      let ends = (each part there).graph_is.ends a b pair in
      (has_above part a b).1 (ends.0, ends.1, (1, (a, refl, pair)))

  linked : (part : Links) → Contains parts part → (a b n : ℕ) → Trail part.pairs a b n → AreLinked (closure part) a b
  linked part there a b zero same = ([], same)
  linked part there a b (suc n) (c, trail, step) = Walk-push (IsRelated (closure part)) a c b (linked part there a c n trail) (elim step [
    | inl pair ↦ inl (related part there c b pair)
    | inr back ↦ inr (related part there b c back)
  ])

pub falls_into : ComponentsAreClosed
falls_into old parts are each comps = record {
  members = λ id. (
    (λ h. let (part, there, own) = part_of old parts are each comps id ((has_member old id).0 h) in (part, there, (has_member part id).1 own)),
    (λ (part, there, h). (has_member old id).1 (has_old old parts are each comps part id there ((has_member part id).0 h))),
  );
  rates = same_rate old parts are each comps;
  ancestors = λ a d. (
    (λ h.
        let (first, second, walk) = (has_above old a d).0 h in
        let (part, there, own) = part_of old parts are each comps d second in
        let inside = own_walk old parts are each comps part there a d walk.0 own walk.1 in
        (part, there, (has_above part a d).1 (inside.1, own, (walk.0, inside.0)))),
    (λ (part, there, h).
        let (first, second, walk) = (has_above part a d).0 h in
        (has_above old a d).1 (
          has_old old parts are each comps part a there first,
          has_old old parts are each comps part d there second,
          (walk.0, walk_within part.pairs old.pairs (pair_inside old parts are each comps part there) a d walk.0 walk.1),
        )),
  );
  whole = λ part there a b first second. let trail = comps.whole part there a b first second in linked old parts are each comps part there a b trail.0 trail.1;
}
