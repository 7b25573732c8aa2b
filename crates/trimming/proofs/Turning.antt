-- One turn more.
use Rattle.std.proofs.Common.{◌≡◌, ◌≢◌, ◌⊎◌, ◌↔◌, ℕ, ◌<◌, ◌≤◌, Bool, true, false, List, [], ◌∷◌, ◌++◌, length, inl, inr, refl, sym, ap, ◌∙◌, subst, arith, true≢false, append_assoc, append-nil}
use Rattle.std.specs.Prelude.{Contains}
use Rattle.std.proofs.lemmas.Bool.{cases_lt}
use Rattle.std.proofs.lemmas.List.{map-append, length-map}
use Rattle.lists.specs.Distinct.{AreDistinct}
use Rattle.lists.proofs.Distinct.{distinct_push}
use Rattle.links.proofs.Marks.{few_below}
use Rattle.std.proofs.lemmas.List.Elements.{Contains-append_left, Contains-push, Contains-push_cases}
use Rattle.lists.proofs.Told.{told_number}
use Rattle.lists.proofs.Entries.{Contains-head, Contains-later, Contains-cases, push_cases}
use Rattle.graph_model.specs.Limits.{Bounds, AreOver}
use Rattle.graph_model.specs.Trims.{kept_of}
use Rattle.graph_model.proofs.TrimLemmas.{Marks, looked_at, entry_kept, kept_entry, entry_looked, looked_entry, kept_front}
use Rattle.lists.proofs.Entries.{Contains-splits}
use Rattle.links.specs.Walkers.{mark_at}
use Rattle.trimming.specs.declared.net.Net.{Net}
use Rattle.trimming.specs.declared.teams.Teams.{Teams}
use Rattle.trimming.specs.Nets.{list_at, size_at, IsNet, IsParent}
use Rattle.trimming.specs.Ties.{AreTied, Or}
use Rattle.trimming.specs.Counts.{HasAllKept}
use Rattle.trimming.specs.Teams.{IsKept, AreGathered}
use Rattle.trimming.specs.Turns.{IsNext, IsJudged, AreTurns}
use Rattle.trimming.proofs.Tying.{tied_map}

-- ---- marks with one more

pub looked_more : (marked : Marks) (id : ℕ) (mark : Bool) (x : ℕ) → Contains (looked_at (marked ++ (id, mark) ∷ [])) x → Contains (looked_at marked) x ⊎ (x ≡ id)
looked_more marked id mark x here =
    let more : looked_at (marked ++ (id, mark) ∷ []) ≡ looked_at marked ++ id ∷ [] = map-append (λ (entry : ℕ × Bool). entry.0) marked ((id, mark) ∷ []) in
    elim (Contains-push_cases (looked_at marked) id x (subst (λ (l : List ℕ). Contains l x) more here)) [ inl before ↦ inl before | inr same ↦ inr (sym same) ]

pub looked_front : (marked : Marks) (id : ℕ) (mark : Bool) (x : ℕ) → Contains (looked_at marked) x → Contains (looked_at (marked ++ (id, mark) ∷ [])) x
looked_front marked id mark x here =
    let more : looked_at (marked ++ (id, mark) ∷ []) ≡ looked_at marked ++ id ∷ [] = map-append (λ (entry : ℕ × Bool). entry.0) marked ((id, mark) ∷ []) in
    subst (λ (l : List ℕ). Contains l x) (sym more) (Contains-append_left (looked_at marked) (id ∷ []) x here)

pub looked_last : (marked : Marks) (id : ℕ) (mark : Bool) → Contains (looked_at (marked ++ (id, mark) ∷ [])) id
looked_last marked id mark = entry_looked (marked ++ (id, mark) ∷ []) (id, mark) (Contains-push marked (id, mark))

pub kept_more : (marked : Marks) (id : ℕ) (mark : Bool) (x : ℕ) → Contains (kept_of (marked ++ (id, mark) ∷ [])) x
    → Contains (kept_of marked) x ⊎ ((x ≡ id) × (mark ≡ true))
kept_more marked id mark x here =
    elim (Contains-push_cases {X = ℕ × Bool} marked (id, mark) (x, true) (kept_entry (marked ++ (id, mark) ∷ []) x here)) [
      | inl before ↦ inl (entry_kept marked x before)
      | inr same ↦ inr (ap (λ (e : ℕ × Bool). e.0) (sym same), ap (λ (e : ℕ × Bool). e.1) same)
    ]

pub kept_last : (marked : Marks) (id : ℕ) → Contains (kept_of (marked ++ (id, true) ∷ [])) id
kept_last marked id = entry_kept (marked ++ (id, true) ∷ []) id (Contains-push marked (id, true))

-- what is kept was looked at
pub kept_looked : (marked : Marks) (id : ℕ) → Contains (kept_of marked) id → Contains (looked_at marked) id
kept_looked marked id here = entry_looked marked (id, true) (kept_entry marked id here)

-- ---- turns

module _ (bounds : Bounds) (net : Net) where
  pub turns_more : (marked : Marks) → AreTurns bounds net marked → (id : ℕ) (mark : Bool) → IsNext net marked id
      → ((other : ℕ) → IsNext net marked other → other ≢ id → id < other) → IsJudged bounds net (kept_of marked) id mark
      → AreTurns bounds net (marked ++ (id, mark) ∷ [])
  turns_more marked turns id mark is first judged before after other its e = elim (push_cases {A = ℕ × Bool} marked (id, mark) (other, its) before after e) [
    | inr found ↦ turns before found.0 other its found.1
    | inl found ↦
        let name : id ≡ other = ap (λ (entry : ℕ × Bool). entry.0) found.1 in
        let same : mark ≡ its = ap (λ (entry : ℕ × Bool). entry.1) found.1 in
        let front : marked ≡ before = sym found.0 in (
          subst (λ zs. IsNext net zs other) front (subst (IsNext net marked) name is),
          subst (λ zs. (q : ℕ) → IsNext net zs q → q ≢ other → other < q) front
              (subst (λ n. (q : ℕ) → IsNext net marked q → q ≢ n → n < q) name first),
          subst (λ zs. IsJudged bounds net (kept_of zs) other its) front
              (subst (λ n. IsJudged bounds net (kept_of marked) n its) name
              (subst (λ m. IsJudged bounds net (kept_of marked) id m) same judged)),
        )
  ]

  -- the parents of what was looked at are kept
  pub looked_parents : (marked : Marks) → AreTurns bounds net marked → (a x : ℕ) → Contains (looked_at marked) x → IsParent net a x → Contains (kept_of marked) a
  looked_parents marked turns a x here up =
      let entry = looked_entry marked x here in
      let cut = Contains-splits marked (x, entry.0) entry.1 in
      let turn = turns cut.0 cut.1 x entry.0 cut.2 in
      subst (λ (l : Marks). Contains (kept_of l) a) (sym cut.2) (kept_front cut.0 ((x, entry.0) ∷ cut.1) a (turn.0.parents a up))

  -- what was found tells whether a place is kept
  module _ (teams : Teams) (kept : List ℕ) (same : (x : ℕ) → IsKept teams x ↔ Contains kept x) (place : ℕ) (found : List ℕ)
      (gathered : AreGathered net teams place bounds.count found) where
    there : (x : ℕ) → Or (IsKept teams) place x → Or (Contains kept) place x
    there x (inl is) = inl is
    there x (inr is) = inr ((same x).0 is)

    back : (x : ℕ) → Or (Contains kept) place x → Or (IsKept teams) place x
    back x (inl is) = inl is
    back x (inr is) = inr ((same x).1 is)

    sound : (x : ℕ) → Contains found x → AreTied (IsParent net) (Or (Contains kept) place) place x
    sound x here = tied_map (IsParent net) (Or (IsKept teams) place) (Or (Contains kept) place) there place x (gathered.sound x here)

    few : (AreOver bounds (size_at net.txs.items) found → ⊥) → length found ≤ bounds.count
    few within = elim (cases_lt bounds.count (length found)) [
      | inl many ↦ absurd (within (inl many))
      | inr low ↦ low
    ]

    pub judged_kept : (AreOver bounds (size_at net.txs.items) found → ⊥) → IsJudged bounds net kept place true
    judged_kept within = record {
      found = found;
      once = gathered.once;
      sound = sound;
      stays = λ _. (
        λ x tied. gathered.all (few within) x (tied_map (IsParent net) (Or (Contains kept) place) (Or (IsKept teams) place) back place x tied),
        within,
      );
      goes = λ isnt. absurd (true≢false isnt);
    }

    pub judged_left : AreOver bounds (size_at net.txs.items) found → IsJudged bounds net kept place false
    judged_left over = record {
      found = found;
      once = gathered.once;
      sound = sound;
      stays = λ is. absurd (true≢false (sym is));
      goes = λ _. over;
    }

  -- ---- candidates after a turn

  module _ (is_net : IsNet net) (marked : Marks) (turns : AreTurns bounds net marked) (place : ℕ) (ready : List ℕ)
      (first : (x : ℕ) → Contains ready x → place < x) (exact : (x : ℕ) → Contains (place ∷ ready) x ↔ IsNext net marked x) where
    pub place_next : IsNext net marked place
    place_next = (exact place).0 (Contains-head place ready)

    pub goes_first : (other : ℕ) → IsNext net marked other → other ≢ place → place < other
    goes_first other is differ = elim (Contains-cases place other ready ((exact other).1 is)) [
      | inl same ↦ absurd (differ (sym same))
      | inr later ↦ first other later
    ]

    was_ready : (x : ℕ) → Contains ready x → IsNext net marked x
    was_ready x here = (exact x).0 (Contains-later place x ready here)

    -- a candidate that isn't the place stood among the others
    still_ready : (x : ℕ) → IsNext net marked x → x ≢ place → Contains ready x
    still_ready x is other = elim (Contains-cases place x ready ((exact x).1 is)) [ inl same ↦ absurd (other (sym same)) | inr later ↦ later ]

    fresh_still : (mark : Bool) (x : ℕ) → IsNext net marked x → x ≢ place → Contains (looked_at (marked ++ (place, mark) ∷ [])) x → ⊥
    fresh_still mark x is other here = elim (looked_more marked place mark x here) [ inl before ↦ is.fresh before | inr same ↦ other same ]

    above : (x : ℕ) → Contains ready x → x ≢ place
    above x here same = let low = first x here in omega (arith, low, same)

    not_place : (mark : Bool) (x : ℕ) → IsNext net (marked ++ (place, mark) ∷ []) x → x ≢ place
    not_place mark x is same = is.fresh (subst (Contains (looked_at (marked ++ (place, mark) ∷ []))) (sym same) (looked_last marked place mark))

    pub left_exact : (x : ℕ) → Contains ready x ↔ IsNext net (marked ++ (place, false) ∷ []) x
    left_exact x = (
      λ here. let was = was_ready x here in record {
        within = was.within;
        fresh = fresh_still false x was (above x here);
        parents = λ a up. kept_front marked ((place, false) ∷ []) a (was.parents a up);
      },
      λ is. still_ready x (record {
        within = is.within;
        fresh = λ here. is.fresh (looked_front marked place false x here);
        parents = λ a up. elim (kept_more marked place false a (is.parents a up)) [ inl before ↦ before | inr both ↦ absurd (true≢false (sym both.1)) ];
      }) (not_place false x is),
    )

    pub kept_exact : (new : List Bool) (ready' : List ℕ)
        → ((x : ℕ) → (mark_at new x ≡ true) ↔ Contains (kept_of (marked ++ (place, true) ∷ [])) x)
        → ((x : ℕ) → Contains ready' x ↔ (Contains ready x ⊎ (IsParent net place x × HasAllKept net new x)))
        → (x : ℕ) → Contains ready' x ↔ IsNext net (marked ++ (place, true) ∷ []) x
    kept_exact new ready' kept released x = (
      λ here. elim ((released x).0 here) [
        | inl before ↦ let was = was_ready x before in record {
          within = was.within;
          fresh = fresh_still true x was (above x before);
          parents = λ a up. kept_front marked ((place, true) ∷ []) a (was.parents a up);
        }
        | inr both ↦ record {
          within = (is_net.within place x both.0).1;
          fresh = λ looked. place_next.fresh (kept_looked marked place (elim (looked_more marked place true x looked) [
            | inl before ↦ looked_parents marked turns place x before both.0
            | inr same ↦ place_next.parents place (subst (IsParent net place) same both.0)
          ]));
          parents = λ a up. (kept a).0 (both.1 a up);
        }
      ],
      λ is. (released x).1 (elim (told_number (list_at net.parents.items x) place) [
        | inl up ↦ inr (up, λ a above. (kept a).1 (is.parents a above))
        | inr none ↦ inl (still_ready x (record {
          within = is.within;
          fresh = λ here. is.fresh (looked_front marked place true x here);
          parents = λ a up. elim (kept_more marked place true a (is.parents a up)) [
            | inl before ↦ before
            | inr both ↦ absurd (none (subst (λ (q : ℕ). IsParent net q x) both.0 up))
          ];
        }) (not_place true x is))
      ]),
    )

-- ---- no place is looked at twice

module _ (bounds : Bounds) (net : Net) (marked : Marks) (turns : AreTurns bounds net marked) where
  pub looked_low : (x : ℕ) → Contains (looked_at marked) x → x < length net.txs.items
  looked_low x here =
      let entry = looked_entry marked x here in
      let cut = Contains-splits marked (x, entry.0) entry.1 in
      (turns cut.0 cut.1 x entry.0 cut.2).0.within

  looked_from : (front rest : Marks) → marked ≡ front ++ rest → AreDistinct (looked_at front) → AreDistinct (looked_at marked)
  looked_from front [] e once = subst (λ (l : Marks). AreDistinct (looked_at l)) (sym (e ∙ append-nil front)) once
  looked_from front (x ∷ rest) e once =
      let longer : marked ≡ (front ++ x ∷ []) ++ rest = e ∙ sym (append_assoc front (x ∷ []) rest) in
      let more : looked_at (front ++ x ∷ []) ≡ looked_at front ++ x.0 ∷ [] = map-append (λ (entry : ℕ × Bool). entry.0) front (x ∷ []) in
      looked_from (front ++ x ∷ []) rest longer
      (subst AreDistinct (sym more) (distinct_push (looked_at front) x.0 once (turns front rest x.0 x.1 e).0.fresh))

  pub looked_once : AreDistinct (looked_at marked)
  looked_once = looked_from [] marked refl tt

  -- so while there is a candidate, there are fewer marks than places
  pub few_marks : (place : ℕ) → IsNext net marked place → length marked < length net.txs.items
  few_marks place is =
      let all : List ℕ = place ∷ looked_at marked in
      let fits = few_below (length net.txs.items) all (is.fresh, looked_once) (λ q here. elim (Contains-cases place q (looked_at marked) here) [
        | inl same ↦ subst (λ (n : ℕ). n < length net.txs.items) same is.within
        | inr later ↦ looked_low q later
      ]) in
      let long = length-map marked (λ (entry : ℕ × Bool). entry.0) in
      omega (arith, fits, long)
