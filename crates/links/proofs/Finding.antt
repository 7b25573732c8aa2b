-- Components that are found one after the other.
use Rattle.std.proofs.Common.{◌≡◌, ℕ, ℤ, pos, ◌+◌, ◌<◌, ◌≤◌, inl, inr, Bool, true, false, List, [], ◌∷◌, ◌++◌, length, map, get_or, Option, refl, sym, ap, ◌∙◌, subst, arith, true≢false}
use Rattle.std.specs.Prelude.{Contains, ◌↔◌}
use Rattle.std.proofs.lemmas.Bool.{cases_lt}
use Rattle.std.proofs.lemmas.List.{get_or_default, length-map}
use Rattle.std.proofs.lemmas.List.Elements.{Contains-get_or, Contains-push, Contains-push_cases, Contains-append_left}
use Rattle.std.proofs.lemmas.List.Quantifiers.{all_pairs_push}
use Rattle.std.proofs.lemmas.Option.{same_Some}
use Rattle.lists.proofs.Entries.{Contains-map, map-Contains, none_in_empty}
use Rattle.graphs.specs.Graphs.{AreConnected}
use Rattle.graphs.specs.Certificates.{Txs}
use Rattle.graphs.proofs.WalkLemmas.{AreConnected-sym, AreConnected-trans, AreConnected-itself}
use Rattle.links.specs.Links.{Links, AreLinks, Has}
use Rattle.links.specs.Kept.{names_of}
use Rattle.links.specs.Pairs.{AreSplit}
use Rattle.places.specs.Places.{ArePlaces, AreSteps}
use Rattle.links.specs.Walkers.{FindsAll, mark_at}
use Rattle.links.specs.Parts.{StandsBefore, AreComponentsOf}
use Rattle.links.specs.Gathering.{tx_at, both_ways, AreInto, AreFound, IsComponent, MarksMore}
use Rattle.links.proofs.Closed.{only_one}
use Rattle.links.proofs.Chosen.{names_at}
use Rattle.links.proofs.Trails.{found_around, trail_inside}

-- ---- none yet

-- ---- a place that has a component

all_next : (taken : List Bool) (at : ℕ) → ((p : ℕ) → p < at → mark_at taken p ≡ true) → mark_at taken at ≡ true
    → (p : ℕ) → p < at + 1 → mark_at taken p ≡ true
all_next taken at all here p low = elim (cases_lt p at) [
  | inl less ↦ all p less
  | inr more ↦ (let same : p ≡ at = omega arith in ap (mark_at taken) same ∙ here)
]

pub found_again : (old : Links) (at : ℕ) (taken : List Bool) (parts : List Links) → AreFound old at taken parts → mark_at taken at ≡ true
    → AreFound old (at + 1) taken parts
found_again old at taken parts f here = record {
  each = f.each;
  exact = f.exact;
  all = all_next taken at f.all here;
  begun = λ part there. let (p, low, inside, has) = f.begun part there in (p, omega arith, inside, has);
  apart = f.apart;
  order = f.order;
}

-- ---- the component of a place

module _ (old part : Links) (find : ℕ → Option ℕ) (steps : List (ℕ × ℕ)) (place : ℕ) (found : List ℕ) (h : ArePlaces (names_of old.txs) find)
    (s : AreSteps find old.pairs steps) (low : place < length old.txs) (all : FindsAll (both_ways steps) place found)
    (within : (p : ℕ) → Contains found p → p < length old.txs) (txs : part.txs ≡ map (tx_at old.txs) found)
    (into : AreInto (map (λ q. get_or (names_of old.txs) q 0) found) old.pairs part.pairs) where
  abbrev nm : ℕ → ℕ
  nm q = get_or (names_of old.txs) q 0

  names_are : names_of part.txs ≡ map nm found
  names_are = ap names_of txs ∙ names_at old.txs found within

  long : length (names_of old.txs) ≡ length old.txs
  long = length-map old.txs (λ (tx : ℕ × ℤ × ℕ). tx.0)

  -- its names are those that are connected to that of the place
  pub has : (a : ℕ) → Has part a ↔ AreConnected old.pairs a (nm place)
  has a = subst (λ (ns : List ℕ). Contains ns a ↔ AreConnected old.pairs a (nm place)) (sym names_are)
      (found_around (names_of old.txs) find old.pairs steps place found h s (omega (arith, long)) all a)

  pub has_own : Has part (nm place)
  has_own = (has (nm place)).1 (AreConnected-itself old.pairs (nm place) (nm place) refl)

  -- a place that was found has a name of the part
  pub has_found : (p : ℕ) → p < length old.txs → Contains found p ↔ Has part (nm p)
  has_found p inside = (
    (λ here. subst (λ (ns : List ℕ). Contains ns (nm p)) (sym names_are) (Contains-map nm found p here)),
    (λ there.
        let (q, here, same) = map-Contains nm found (nm p) (subst (λ (ns : List ℕ). Contains ns (nm p)) names_are there) in
        let is : q ≡ p = same_Some q p (sym (h.complete q (let w = within q here in omega (arith, long))) ∙ ap find same ∙ h.complete p (omega (arith, long))) in
        subst (λ (x : ℕ). Contains found x) is here),
  )

  closed : (a b : ℕ) → Has part b → AreConnected old.pairs a b → Has part a
  closed a b here trail = (has a).1 (AreConnected-trans old.pairs a b (nm place) trail ((has b).0 here))

  own_pairs : AreInto (names_of part.txs) old.pairs part.pairs
  own_pairs = subst (λ (ns : List ℕ). AreInto ns old.pairs part.pairs) (sym names_are) into

  pub is_component : IsComponent old part
  is_component = record {
    txs = λ tx here.
        let (q, there, is) = map-Contains (tx_at old.txs) found tx (subst (λ (ts : Txs). Contains ts tx) txs here) in
        subst (λ (t : ℕ × ℤ × ℕ). Contains old.txs t) is (Contains-get_or old.txs q (0, pos 0, 0) (within q there));
    pairs = own_pairs;
    filled = λ none. none_in_empty (nm place) (subst (λ (ts : Txs). Contains (names_of ts) (nm place)) none has_own);
    closed = closed;
    whole = λ a b first second.
        let trail = AreConnected-trans old.pairs a (nm place) b ((has a).0 first) (AreConnected-sym old.pairs b (nm place) ((has b).0 second)) in
        (trail.0, trail_inside old.pairs part.pairs (names_of part.txs) own_pairs closed a b trail.0 second trail.1);
  }

  -- one component more
  pub found_next : (taken new : List Bool) (parts : List Links) → AreFound old place taken parts → mark_at taken place ≡ false
      → MarksMore (length old.txs) taken found new → AreFound old (place + 1) new (parts ++ part ∷ [])
  found_next taken new parts f free marks =
      -- no component that was found before has a name of the part
      let alone : (p : Links) → Contains parts p → (id : ℕ) → Has p id → Has part id → ⊥ = λ p there id first second.
      let own : Has p (nm place) = (f.each p there).closed (nm place) id first (AreConnected-sym old.pairs id (nm place) ((has id).0 second)) in
      true≢false (sym ((f.exact place low).1 (p, there, own)) ∙ free) in
      let before : (p : Links) → Contains parts p → StandsBefore (names_of old.txs) (names_of p.txs) (names_of part.txs) = λ p there.
      let (i, less, inside, first) = f.begun p there in (
        i,
        omega (arith, long),
        first,
        λ j bound second. elim (cases_lt j place) [
          | inl early ↦
              let (q, among, own) = (f.exact j (omega (arith, long))).0 (f.all j early) in
              absurd (alone q among (nm j) own second)
          | inr late ↦ omega arith
        ],
      ) in
      let listed : (k : ℕ) (d : Links) → k < length parts → Contains parts (get_or parts k d) = λ k d bound. Contains-get_or parts k d bound in
      record {
        each = λ p here. elim (Contains-push_cases parts part p here) [
          | inl there ↦ f.each p there
          | inr same ↦ subst (IsComponent old) same is_component
        ];
        exact = λ p inside. (
          (λ marked. elim ((marks p inside).0 marked) [
            | inl was ↦ let (q, there, own) = (f.exact p inside).0 was in (q, Contains-append_left parts (part ∷ []) q there, own)
            | inr here ↦ (part, Contains-push parts part, (has_found p inside).0 here)
          ]),
          (λ (q, here, own). (marks p inside).1 (elim (Contains-push_cases parts part q here) [
            | inl there ↦ inl ((f.exact p inside).1 (q, there, own))
            | inr same ↦ inr ((has_found p inside).1 (subst (λ (l : Links). Has l (nm p)) (sym same) own))
          ])),
        );
        all = all_next new place (λ p less. (marks p (omega arith)).1 (inl (f.all p less))) ((marks place low).1 (inr ((has_found place low).1 has_own)));
        begun = λ p here. elim (Contains-push_cases parts part p here) [
          | inl there ↦ let (q, less, inside, own) = f.begun p there in (q, omega arith, inside, own)
          | inr same ↦ (place, omega arith, low, subst (λ (l : Links). Has l (nm place)) same has_own)
        ];
        apart = all_pairs_push (λ (p q : Links). AreSplit (names_of p.txs) (names_of q.txs)) parts part f.apart
            (λ k d bound id first second. alone (get_or parts k d) (listed k d bound) id first second);
        order = all_pairs_push (λ (p q : Links). StandsBefore (names_of old.txs) (names_of p.txs) (names_of q.txs)) parts part f.order
            (λ k d bound. before (get_or parts k d) (listed k d bound));
      }

-- ---- all of them

-- a name of a transaction by its place
placed : (txs : Txs) (id : ℕ) → Contains (names_of txs) id → (p : ℕ) × (p < length txs) × (get_or (names_of txs) p 0 ≡ id)
placed txs id (p, low, at) =
    let long = length-map txs (λ (tx : ℕ × ℤ × ℕ). tx.0) in
    (p, omega (arith, long), get_or_default (names_of txs) p 0 id low ∙ at)

-- each name is one of some component
pub some_part : (old : Links) (at : ℕ) (taken : List Bool) (parts : List Links) → AreFound old at taken parts → length old.txs ≤ at
    → (id : ℕ) → Has old id → (part : Links) × Contains parts part × Has part id
some_part old at taken parts f all id here =
    let (p, low, is) = placed old.txs id here in
    let (part, there, own) = (f.exact p low).0 (f.all p (omega arith)) in
    (part, there, subst (λ (x : ℕ). Has part x) is own)

-- and has its transaction there
own_tx : (old part : Links) → AreLinks old → IsComponent old part → (tx : ℕ × ℤ × ℕ) → Contains old.txs tx → Has part tx.0 → Contains part.txs tx
own_tx old part are is tx here own =
    let (other, inside, same) = map-Contains (λ (t : ℕ × ℤ × ℕ). t.0) part.txs tx.0 own in
    subst (λ (t : ℕ × ℤ × ℕ). Contains part.txs t) (only_one old.txs other tx are.graph_is.names (is.txs other inside) here same) inside

pub found_all : (old : Links) (at : ℕ) (taken : List Bool) (parts : List Links) → AreLinks old → AreFound old at taken parts → length old.txs ≤ at
    → AreComponentsOf old parts
found_all old at taken parts are f all = record {
  txs = λ id fee size. (
    (λ here.
        let (part, there, own) = some_part old at taken parts f all id (Contains-map (λ (tx : ℕ × ℤ × ℕ). tx.0) old.txs (id, fee, size) here) in
        (part, there, own_tx old part are (f.each part there) (id, fee, size) here own)),
    (λ (part, there, here). (f.each part there).txs (id, fee, size) here),
  );
  pairs = λ a b. (
    (λ here.
        let (part, there, own) = some_part old at taken parts f all b (are.graph_is.ends a b here).1 in
        (part, there, ((f.each part there).pairs a b).1 (here, own))),
    (λ (part, there, here). (((f.each part there).pairs a b).0 here).0),
  );
  apart = f.apart;
  order = f.order;
  filled = λ part there. (f.each part there).filled;
  whole = λ part there. (f.each part there).whole;
}
