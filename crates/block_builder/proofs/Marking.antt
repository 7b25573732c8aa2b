-- Parts with marks, one more at a time; the marks of a whole walk are those of a block.
use Rattle.std.proofs.Common.{◌≡◌, ◌↔◌, ℕ, ◌+◌, ◌<◌, ◌≤◌, ◌⊎◌, inl, inr, Bool, true, false, ◌||◌, nat_eq, true≢false, eq-eqb, eqb-true, List, [], ◌∷◌, ◌++◌, map, Contains, refl, sym, ap, ◌∙◌, subst, arith}
use Rattle.std.specs.Prelude.{sum_by}
use Rattle.std.proofs.lemmas.Bool.{or_cases}
use Rattle.lists.proofs.Cases.{or_true}
use Rattle.std.proofs.lemmas.List.{append_assoc, append-nil}
use Rattle.std.proofs.lemmas.List.Elements.{Contains-append_left, Contains-append_right}
use Rattle.std.proofs.lemmas.List.Sums.{sum_by_push}
use Rattle.lists.proofs.Entries.{Contains-head, Contains-later, Contains-cases, Contains-one, none_in_empty, first_of, rest_of, not_empty, map-Contains, Contains-map, map_cut}
use Rattle.graphs.specs.Certificates.{Part}
use Rattle.graphs.specs.Graphs.{Graph}
use Rattle.graph_model.specs.Blocks.{IsBlock, ShareComponent, taken_of}
use Rattle.cluster_store.specs.Stores.{Shown}
use Rattle.tx_graph.specs.Dropped.{AreOfClusters}
use Rattle.block_builder.specs.Building.{is_marked, AddsMark, seen, TellsLeftOut}
use Rattle.block_builder.specs.Drafts.{took, size_of, MayTake, AreMarked}

abbrev pub Entry : Type 0
Entry = Shown × Bool

-- the parts without their marks
abbrev pub shown_in : List Entry → List Shown
shown_in gone = map (λ e. e.0) gone

-- ---- lists

no_empty : {X : Type 0} (xs ys : List X) (y : X) → [] ≡ xs ++ y ∷ ys → ⊥
no_empty [] ys y is = not_empty (sym is)
no_empty (x ∷ xs) ys y is = not_empty (sym is)

-- an entry of a list with one more at its end is the last one, or one before it
pub record IsCutBefore {X : Type 0} (xs before after : List X) (x y : X) : Type 0 where
  pub more : List X
  pub rest : after ≡ more ++ x ∷ []
  pub front : xs ≡ before ++ y ∷ more

pub cut_last : {X : Type 0} (xs before after : List X) (x y : X) → xs ++ x ∷ [] ≡ before ++ y ∷ after
    → ((xs ≡ before) × (x ≡ y)) ⊎ IsCutBefore xs before after x y
cut_last [] [] after x y is = inl (refl, first_of is)
cut_last [] (b ∷ before) after x y is = absurd (no_empty before after y (rest_of is))
cut_last (z ∷ xs) [] after x y is = inr (record { more = xs; rest = sym (rest_of is); front = ap (λ w. w ∷ xs) (first_of is) })
cut_last (z ∷ xs) (b ∷ before) after x y is = elim (cut_last xs before after x y (rest_of is)) [
  | inl (same, last) ↦ inl (ap (λ w. w ∷ xs) (first_of is) ∙ ap (λ ws. b ∷ ws) same, last)
  | inr cut ↦ inr (record { more = cut.more; rest = cut.rest; front = ap (λ w. w ∷ xs) (first_of is) ∙ ap (λ ws. b ∷ ws) cut.front })
]

pub Contains-both : {X : Type 0} (xs ys : List X) (x : X) → Contains (xs ++ ys) x → Contains xs x ⊎ Contains ys x
Contains-both [] ys x here = inr here
Contains-both (z ∷ xs) ys x here = elim (Contains-cases z x (xs ++ ys) here) [
  | inl same ↦ inl (subst (Contains (z ∷ xs)) same (Contains-head z xs))
  | inr later ↦ elim (Contains-both xs ys x later) [ inl front ↦ inl (Contains-later z x xs front) | inr back ↦ inr back ]
]

-- one of a list with one more at its end
pub Contains-push : {X : Type 0} (xs : List X) (x y : X) → Contains (xs ++ x ∷ []) y → Contains xs y ⊎ (x ≡ y)
Contains-push xs x y here = elim (Contains-both xs (x ∷ []) y here) [ inl front ↦ inl front | inr last ↦ inr (Contains-one x y last) ]

pub Contains-last : {X : Type 0} (xs : List X) (x : X) → Contains (xs ++ x ∷ []) x
Contains-last xs x = Contains-append_right xs (x ∷ []) x (Contains-head x [])

-- ---- what is taken

pub took_append : (a b : List Entry) → took (a ++ b) ≡ took a ++ took b
took_append [] b = refl
took_append ((s, true) ∷ a) b = ap (λ (ps : List Part). s.part ∷ ps) (took_append a b)
took_append ((s, false) ∷ a) b = took_append a b

pub took_one : (gone : List Entry) (s : Shown) → took (gone ++ (s, true) ∷ []) ≡ took gone ++ s.part ∷ []
took_one gone s = took_append gone ((s, true) ∷ [])

pub took_none : (gone : List Entry) (s : Shown) → took (gone ++ (s, false) ∷ []) ≡ took gone
took_none gone s = took_append gone ((s, false) ∷ []) ∙ append-nil (took gone)

pub size_one : (gone : List Entry) (s : Shown) → size_of (took (gone ++ (s, true) ∷ [])) ≡ size_of (took gone) + s.part.rate.size
size_one gone s =
    ap size_of (took_one gone s) ∙ sum_by_push (λ (p : Part). p.rate.size) (took gone) s.part

-- ---- marks

pub marked_none : (limit : ℕ) → AreMarked limit []
marked_none limit before after s mark is = absurd (no_empty before after (s, mark) is)

pub marked_more : (limit : ℕ) (gone : List Entry) (s : Shown) (mark : Bool) → AreMarked limit gone → ((mark ≡ true) ↔ MayTake limit gone s)
    → AreMarked limit (gone ++ (s, mark) ∷ [])
marked_more limit gone s mark marked last before after t was is = elim (cut_last gone before after (s, mark) (t, was) is) [
  | inl (same, one) ↦
      subst (λ (e : Entry). (e.1 ≡ true) ↔ MayTake limit before e.0) one (subst (λ (g : List Entry). (mark ≡ true) ↔ MayTake limit g s) same last)
  | inr cut ↦ marked before cut.more t was cut.front
]

-- a part that doesn't fit, or whose cluster has a part that wasn't taken, isn't taken
pub not_taken : (limit : ℕ) (gone : List Entry) (s : Shown) → (MayTake limit gone s → ⊥) → (false ≡ true) ↔ MayTake limit gone s
not_taken limit gone s none = (λ is. absurd (true≢false (sym is)), λ may. absurd (none may))

too_large : (limit : ℕ) (gone : List Entry) (s : Shown) → limit < size_of (took gone) + s.part.rate.size → MayTake limit gone s → ⊥
too_large limit gone s over may = omega (arith, over, may.1)

-- parts that aren't taken
abbrev pub left_out : List Shown → List Entry
left_out rest = map (λ s. (s, false)) rest

pub record LeavesOut (limit : ℕ) (gone : List Entry) (rest : List Shown) : Type 0 where
  pub marked : AreMarked limit (gone ++ left_out rest)
  pub same : took (gone ++ left_out rest) ≡ took gone

-- where none of the rest fits
pub none_fit : (limit : ℕ) (gone : List Entry) (rest : List Shown) → AreMarked limit gone
    → ((s : Shown) → Contains rest s → limit < size_of (took gone) + s.part.rate.size) → LeavesOut limit gone rest
none_fit limit gone [] marked over =
    let is : gone ++ [] ≡ gone = append-nil gone in record { marked = subst (AreMarked limit) (sym is) marked; same = ap took is }
none_fit limit gone (s ∷ rest) marked over =
    let one = took_none gone s in
    let more = marked_more limit gone s false marked (not_taken limit gone s (too_large limit gone s (over s (Contains-head s rest)))) in
    let all = none_fit limit (gone ++ (s, false) ∷ []) rest more (λ t here.
    subst (λ (ps : List Part). limit < size_of ps + t.part.rate.size) (sym one) (over t (Contains-later s t rest here))) in
    let is : (gone ++ (s, false) ∷ []) ++ left_out rest ≡ gone ++ ((s, false) ∷ left_out rest) = append_assoc gone ((s, false) ∷ []) (left_out rest) in
    record { marked = subst (AreMarked limit) is all.marked; same = ap took (sym is) ∙ all.same ∙ one }

pub shown_left_out : (rest : List Shown) → shown_in (left_out rest) ≡ rest
shown_left_out [] = refl
shown_left_out (s ∷ rest) = ap (λ ss. s ∷ ss) (shown_left_out rest)

-- ---- clusters of which a part was left out

pub left_none : TellsLeftOut [] []
left_none n = (λ is. absurd (true≢false (sym is)), λ (s, here, same). absurd (none_in_empty (s, false) here))

module _ (marks : List Bool) (gone : List Entry) (tells : TellsLeftOut marks gone) (s : Shown) where
  -- a part that is taken
  pub left_taken : TellsLeftOut marks (gone ++ (s, true) ∷ [])
  left_taken n = (
    λ is. let old = (tells n).0 is in (old.0, Contains-append_left gone ((s, true) ∷ []) (old.0, false) old.1, old.2),
    λ (t, here, same). elim (Contains-push gone (s, true) (t, false) here) [
      | inl front ↦ (tells n).1 (t, front, same)
      | inr last ↦ absurd (true≢false (ap (λ (e : Entry). e.1) last))
    ],
  )

  -- one that isn't, whose cluster was marked before
  pub left_passed : is_marked marks s.number ≡ true → TellsLeftOut marks (gone ++ (s, false) ∷ [])
  left_passed is_out n = (
    λ is. let old = (tells n).0 is in (old.0, Contains-append_left gone ((s, false) ∷ []) (old.0, false) old.1, old.2),
    λ (t, here, same). elim (Contains-push gone (s, false) (t, false) here) [
      | inl front ↦ (tells n).1 (t, front, same)
      | inr last ↦ subst (λ m. is_marked marks m ≡ true) (ap (λ (e : Entry). e.0.number) last ∙ same) is_out
    ],
  )

  -- or is marked now
  pub left_marked : (new : List Bool) → AddsMark marks new s.number → TellsLeftOut new (gone ++ (s, false) ∷ [])
  left_marked new adds n = (
    λ is. elim (or_cases (nat_eq n s.number) (is_marked marks n) (sym (adds n) ∙ is)) [
      | inl one ↦ (s, Contains-last gone (s, false), sym (eqb-true n s.number one))
      | inr before ↦ let old = (tells n).0 before in (old.0, Contains-append_left gone ((s, false) ∷ []) (old.0, false) old.1, old.2)
    ],
    λ (t, here, same).
        let both : (nat_eq n s.number || is_marked marks n) ≡ true = elim (Contains-push gone (s, false) (t, false) here) [
          | inl front ↦ ap (λ b. nat_eq n s.number || b) ((tells n).1 (t, front, same)) ∙ or_true (nat_eq n s.number)
          | inr last ↦ ap (λ b. b || is_marked marks n) (eq-eqb n s.number (sym (ap (λ (e : Entry). e.0.number) last ∙ same)))
        ] in
        adds n ∙ both,
  )

-- parts of marked clusters that are passed over
pub left_all : (marks : List Bool) (gone : List Entry) (passed : List Shown) → TellsLeftOut marks gone
    → ((s : Shown) → Contains passed s → is_marked marks s.number ≡ true) → TellsLeftOut marks (gone ++ left_out passed)
left_all marks gone [] tells out = subst (TellsLeftOut marks) (sym (append-nil gone)) tells
left_all marks gone (s ∷ passed) tells out =
    subst (TellsLeftOut marks) (append_assoc gone ((s, false) ∷ []) (left_out passed))
    (left_all marks (gone ++ (s, false) ∷ []) passed (left_passed marks gone tells s (out s (Contains-head s passed)))
    (λ t here. out t (Contains-later s t passed here)))

-- ---- a block

module _ (graph : Graph) (limit : ℕ) (gone : List Entry) (marked : AreMarked limit gone) (numbers : AreOfClusters graph (shown_in gone)) where
  in_shown : (s : Shown) (mark : Bool) → Contains gone (s, mark) → Contains (shown_in gone) s
  in_shown s mark here = Contains-map (λ (e : Entry). e.0) gone (s, mark) here

  module _ (before after : List Entry) (s : Shown) (mark : Bool) (is : gone ≡ before ++ (s, mark) ∷ after) where
    here : Contains gone (s, mark)
    here = subst (λ (g : List Entry). Contains g (s, mark)) (sym is) (Contains-append_right before ((s, mark) ∷ after) (s, mark) (Contains-head (s, mark) after))

    earlier_here : (e : Entry) → Contains before e → Contains gone e
    earlier_here e there = subst (λ (g : List Entry). Contains g e) (sym is) (Contains-append_left before ((s, mark) ∷ after) e there)

    -- by components
    abbrev pub Fits : Type 0
    Fits =
        ((earlier : Part) (was : Bool) → Contains (map seen before) (earlier, was) → ShareComponent graph earlier s.part → was ≡ true)
        × (sum_by (λ p. p.rate.size) (taken_of (map seen before)) + s.part.rate.size ≤ limit)

    from_numbers : MayTake limit before s → Fits
    from_numbers may = (
      λ earlier was there share.
          let found = map-Contains seen before (earlier, was) there in
          let t = found.0.0 in
          let part : t.part ≡ earlier = ap (λ (e : Part × Bool). e.0) found.2 in
          let one = (numbers t s (in_shown t found.0.1 (earlier_here found.0 found.1)) (in_shown s mark here)).1
          (subst (λ (p : Part). ShareComponent graph p s.part) (sym part) share) in
          sym (ap (λ (e : Part × Bool). e.1) found.2) ∙ may.0 t found.0.1 found.1 one,
      may.1,
    )

    to_numbers : Fits → MayTake limit before s
    to_numbers fits = (
      λ t was there same.
          fits.0 t.part was (Contains-map seen before (t, was) there)
          ((numbers t s (in_shown t was (earlier_here (t, was) there)) (in_shown s mark here)).0 same),
      fits.1,
    )

    pub mark_told : (mark ≡ true) ↔ Fits
    mark_told = (
      λ yes. from_numbers ((marked before after s mark is).0 yes),
      λ fits. (marked before after s mark is).1 (to_numbers fits),
    )

  -- a cut of the parts with their marks is one of those with their numbers
  seen_marks : (before after : List (Part × Bool)) (part : Part) (mark : Bool) → map seen gone ≡ before ++ (part, mark) ∷ after
      → (mark ≡ true) ↔ (((earlier : Part) (was : Bool) → Contains before (earlier, was) → ShareComponent graph earlier part → was ≡ true)
      × (sum_by (λ p. p.rate.size) (taken_of before) + part.rate.size ≤ limit))
  seen_marks before after part mark is =
      let cut = map_cut seen gone before ((part, mark) ∷ after) is in
      from cut.0 cut.1 cut.2 cut.3 cut.4
    where
      from : (ys zs : List Entry) → gone ≡ ys ++ zs → before ≡ map seen ys → (part, mark) ∷ after ≡ map seen zs
          → (mark ≡ true) ↔ (((earlier : Part) (was : Bool) → Contains before (earlier, was) → ShareComponent graph earlier part → was ≡ true)
          × (sum_by (λ p. p.rate.size) (taken_of before) + part.rate.size ≤ limit))
      from ys [] whole front back = absurd (not_empty back)
      from ys (z ∷ zs) whole front back =
          let one : seen z ≡ (part, mark) = sym (first_of back) in
          subst (λ (bs : List (Part × Bool)). (mark ≡ true) ↔ (((earlier : Part) (was : Bool) → Contains bs (earlier, was)
          → ShareComponent graph earlier part → was ≡ true) × (sum_by (λ p. p.rate.size) (taken_of bs) + part.rate.size ≤ limit))) (sym front)
          (subst (λ (e : Part × Bool). (e.1 ≡ true) ↔ (((earlier : Part) (was : Bool) → Contains (map seen ys) (earlier, was)
          → ShareComponent graph earlier e.0 → was ≡ true) × (sum_by (λ p. p.rate.size) (taken_of (map seen ys)) + e.0.rate.size ≤ limit))) one
          (mark_told ys zs z.0 z.1 whole))

  pub is_block : (parts : List Part) → map (λ (s : Shown). s.part) (shown_in gone) ≡ parts → IsBlock graph parts limit (took gone)
  is_block parts whole = record {
    marked = map seen gone;
    all = parts_seen gone ∙ whole;
    result = refl;
    marks = seen_marks;
  }
    where
      parts_seen : (g : List Entry) → map (λ (e : Part × Bool). e.0) (map seen g) ≡ map (λ (s : Shown). s.part) (shown_in g)
      parts_seen [] = refl
      parts_seen (e ∷ g) = ap (λ ps. e.0.part ∷ ps) (parts_seen g)
