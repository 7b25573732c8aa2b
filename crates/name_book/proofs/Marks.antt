-- What becomes of the touched names, where the table of names changes.
use Rattle.std.proofs.Common.{◌≡◌, ◌≢◌, ◌⊎◌, ◌↔◌, ℕ, ◌+◌, ◌<◌, List, [], ◌∷◌, ◌++◌, length, take, Contains, Option, Some, None, refl, sym, ap, subst, ◌∙◌, inl, inr, nat_eq, true≢false, true, false, arith}
use Rattle.std.specs.Prelude.{MatchOption, slice_index_or}
use Rattle.std.specs.Option.{option_eq}
use Rattle.std.proofs.lemmas.Bool.{cases_eq, eqb-true}
use Rattle.std.proofs.lemmas.Option.{none-some, same_Some}
use Rattle.std.proofs.lemmas.List.{take_more}
use Rattle.std.proofs.lemmas.List.Elements.{Contains-append_cases, Contains-append_left, Contains-append_right}
use Rattle.std.specs.FinSet as set
use Rattle.std.specs.Ordering.{nat_cmp}
use Rattle.lists.proofs.Entries.{Contains-head, Contains-later, Contains-cases}
use Rattle.name_book.specs.Books.{Table, IsNamed, AreRung, Ringed, IsMarked, AreMarks}
use Rattle.name_book.specs.Changes.{GainsAlone, JoinsAll, KeepsRing, Loses}
use Rattle.name_book.specs.Calls.{Drops, Gains, Keeps, Releases, ReleasesAll, Touches}
use Rattle.name_book.proofs.Gathering.{is-one, one-is}
use Rattle.name_book.proofs.Named.{len-less, len-more, named-less, named-more, named-same, none-named}
use Rattle.name_book.proofs.Rings.{rung-itself, rung-turned, rung-linked}

abbrev pub rings_of : Table → Option ℕ → Ringed
rings_of table touched = record { book = table; touched = touched }

-- ---- the touched name that is kept

pub touched-is : (touched : Option ℕ) (id : ℕ) → option_eq nat_eq touched (Some id) ≡ true → touched ≡ Some id
touched-is None id e = cc
touched-is (Some t) id e = ap Some (eqb-true t id e)

-- ---- the touched names

marked-map : (old new : Table) (touched : Option ℕ) (x y : ℕ) → ((t : ℕ) → touched ≡ Some t → AreRung old 1 t x → AreRung new 1 t y)
    → IsMarked (rings_of old touched) x → IsMarked (rings_of new touched) y
marked-map old new None x y f h = absurd h
marked-map old new (Some t) x y f h = f t refl h

pub marked-named : (table : Table) (touched : Option ℕ) (x : ℕ) → IsMarked (rings_of table touched) x → IsNamed table x
marked-named table None x h = absurd h
marked-named table (Some t) x h = h.to

-- a name that isn't touched is alone
pub unmarked-alone : (rings : Ringed) (a b : ℕ) → AreMarks rings → (IsMarked rings a → ⊥) → AreRung rings.book 1 a b → a ≡ b
unmarked-alone rings a b marks out rung =
    elim (cases_eq a b) [ inl same ↦ same | inr apart ↦ absurd (out (marks.alone a b rung apart)) ]

-- ring 1 stays
module _ (old new : Table) (touched : Option ℕ) (keeps : KeepsRing old new 1) where
  pub marked-kept : (x : ℕ) → IsMarked (rings_of new touched) x ↔ IsMarked (rings_of old touched) x
  marked-kept x = (
    marked-map new old touched x x (λ t is rung. (keeps t x).0 rung),
    marked-map old new touched x x (λ t is rung. (keeps t x).1 rung),
  )

  pub marks-kept : new.names ≡ old.names → AreMarks (rings_of old touched) → AreMarks (rings_of new touched)
  marks-kept names marks = record {
    live = λ t is. named-same old new names t (marks.live t is);
    alone = λ a b rung apart. (marked-kept a).1 (marks.alone a b ((keeps a b).0 rung) apart);
  }

-- no name is live
pub marks-none : (table : Table) → table.names ≡ set.empty → AreMarks (rings_of table None)
marks-none table none = record {
  live = λ t is. absurd (none-some t is);
  alone = λ a b rung apart. absurd (none-named table none a rung.from);
}

-- a first name is touched
module _ (table : Table) (id : ℕ) (live : IsNamed table id) (marks : AreMarks (rings_of table None)) where
  pub marks-first : AreMarks (rings_of table (Some id))
  marks-first = record {
    live = λ t is. subst (IsNamed table) (same_Some id t is) live;
    alone = λ a b rung apart. absurd (marks.alone a b rung apart);
  }

-- more names are touched, beside one
module _ (old new : Table) (first : ℕ) (ids : List ℕ) (names : new.names ≡ old.names) (joins : JoinsAll old new 1 first ids)
    (marks : AreMarks (rings_of old (Some first))) where
  pub all-marked : (x : ℕ) → AreRung new 1 first x ↔ (AreRung old 1 first x ⊎ Contains ids x)
  all-marked x = (
    λ rung. elim ((joins first x).0 rung) [ inl was ↦ inl was | inr both ↦ both.1 ],
    λ h. (joins first x).1 (inr (inl (rung-itself old 1 first (marks.live first refl)), h)),
  )

  pub all-marks : AreMarks (rings_of new (Some first))
  all-marks = record {
    live = λ t is. named-same old new names t (marks.live t is);
    alone = λ a b rung apart. (all-marked a).1 (elim ((joins a b).0 rung) [ inl was ↦ inl (marks.alone a b was apart) | inr both ↦ both.0 ]);
  }

-- none was touched, and the first of some names is kept
pub list-marked : (old new : Table) (first : ℕ) (rest : List ℕ) → new.names ≡ old.names → JoinsAll old new 1 first rest → IsNamed old first
    → AreMarks (rings_of old None) → (x : ℕ) → AreRung new 1 first x ↔ (⊥ ⊎ Contains (first ∷ rest) x)
list-marked old new first rest names joins live marks x =
    let marked = all-marked old new first rest names joins (marks-first old first live marks) x in (
      λ rung. inr (elim (marked.0 rung) [
        | inl was ↦ subst (Contains (first ∷ rest)) (unmarked-alone (rings_of old None) first x marks (λ none. none) was) (Contains-head first rest)
        | inr later ↦ Contains-later first x rest later
      ]),
      λ h. marked.1 (elim h [
        | inl none ↦ absurd none
        | inr here ↦ elim (Contains-cases first x rest here) [
          | inl same ↦ inl (subst (AreRung old 1 first) same (rung-itself old 1 first live))
          | inr later ↦ inr later
        ]
      ]),
    )

-- a name comes in
module _ (old new : Table) (touched : Option ℕ) (id : ℕ) (absent : IsNamed old id → ⊥) (gains : GainsAlone old new 1 id)
    (marks : AreMarks (rings_of old touched)) where
  pub gained-marked : (x : ℕ) → IsMarked (rings_of new touched) x ↔ IsMarked (rings_of old touched) x
  gained-marked x = (
    marked-map new old touched x x (λ t is rung. elim ((gains t x).0 rung) [
      | inl was ↦ was
      | inr both ↦ absurd (absent (subst (IsNamed old) both.0 (marks.live t is)))
    ]),
    marked-map old new touched x x (λ t is rung. (gains t x).1 (inl rung)),
  )

  pub gained-unmarked : IsMarked (rings_of new touched) id → ⊥
  gained-unmarked h = absent (marked-named old touched id ((gained-marked id).0 h))

  pub gained-marks : new.names ≡ set.insert old.names id → AreMarks (rings_of new touched)
  gained-marks names = record {
    live = λ t is. (named-more old new id names t).1 (inl (marks.live t is));
    alone = λ a b rung apart. elim ((gains a b).0 rung) [
      | inl was ↦ (gained-marked a).1 (marks.alone a b was apart)
      | inr both ↦ absurd (apart (both.0 ∙ sym both.1))
    ];
  }

-- another name of ring 1, or none where this one is alone
abbrev pub IsOther : Table → ℕ → Option ℕ → Type 0
IsOther table id next = MatchOption next ((x : ℕ) → AreRung table 1 id x → x ≡ id) (λ b. AreRung table 1 id b × b ≢ id)

-- the touched name that is kept is passed over
pub passed-marked : (table : Table) (id : ℕ) (next : Option ℕ) → IsOther table id next
    → (x : ℕ) → x ≢ id → IsMarked (rings_of table next) x ↔ AreRung table 1 id x
passed-marked table id None only x apart = (λ none. absurd none, λ rung. absurd (apart (only x rung)))
passed-marked table id (Some b) link x apart = (
  λ rung. rung-linked table 1 id b x link.0 rung,
  λ rung. rung-linked table 1 b id x (rung-turned table 1 id b link.0) rung,
)

pub passed-marks : (table : Table) (id : ℕ) (next : Option ℕ) → IsOther table id next → AreMarks (rings_of table (Some id)) → AreMarks (rings_of table next)
passed-marks table id None only marks = record {
  live = λ t is. absurd (none-some t is);
  alone = λ a b rung apart.
      let from = marks.alone a b rung apart in
      absurd (apart (only a from ∙ sym (only b (rung-linked table 1 id a b from rung))));
}
passed-marks table id (Some b) link marks = record {
  live = λ t is. subst (IsNamed table) (same_Some b t is) link.0.to;
  alone = λ x y rung apart. rung-linked table 1 b id x (rung-turned table 1 id b link.0) (marks.alone x y rung apart);
}

pub passed-other : (table : Table) (id : ℕ) (next : Option ℕ) → IsOther table id next → next ≢ Some id
passed-other table id None only same = none-some id same
passed-other table id (Some b) link same = link.1 (same_Some b id same)

-- a name that isn't kept goes out of ring 1
module _ (old new : Table) (touched : Option ℕ) (id : ℕ) (other : touched ≢ Some id)
    (forth : (x y : ℕ) → AreRung new 1 x y → (AreRung old 1 x y × x ≢ id × y ≢ id) ⊎ ((x ≡ id) × (y ≡ id)))
    (back : (x y : ℕ) → AreRung old 1 x y × x ≢ id × y ≢ id → AreRung new 1 x y) (marks : AreMarks (rings_of old touched)) where
  kept_other : (t : ℕ) → touched ≡ Some t → t ≢ id
  kept_other t is same = other (is ∙ ap Some same)

  pub dropped-marked : (x : ℕ) → IsMarked (rings_of new touched) x ↔ (IsMarked (rings_of old touched) x × (x ≢ id))
  dropped-marked x = (
    λ marked. (marked-map new old touched x x (λ t is rung. (was t is rung).0) marked, out touched (λ t is rung. (was t is rung).1) marked),
    λ h. marked-map old new touched x x (λ t is rung. back t x (rung, kept_other t is, h.1)) h.0,
  )
    where
      was : (t : ℕ) → touched ≡ Some t → AreRung new 1 t x → AreRung old 1 t x × (x ≢ id)
      was t is rung = elim (forth t x rung) [
        | inl all ↦ (all.0, all.2)
        | inr both ↦ absurd (kept_other t is both.0)
      ]

      out : (touched : Option ℕ) → ((t : ℕ) → touched ≡ Some t → AreRung new 1 t x → x ≢ id) → IsMarked (rings_of new touched) x → x ≢ id
      out None f marked = absurd marked
      out (Some t) f marked = f t refl marked

  pub dropped-marks : ((x : ℕ) → IsNamed old x → x ≢ id → IsNamed new x) → AreMarks (rings_of new touched)
  dropped-marks named = record {
    live = λ t is. named t (marks.live t is) (kept_other t is);
    alone = λ a b rung apart. elim (forth a b rung) [
      | inl all ↦ (dropped-marked a).1 (marks.alone a b all.0 apart, all.1)
      | inr both ↦ absurd (apart (both.0 ∙ sym both.1))
    ];
  }

-- ---- what each call changes

-- ring 1 stays, and so do the names
pub keeps-names : (old new : Table) (touched : Option ℕ) → new.names ≡ old.names → new.issued ≡ old.issued → ((r : ℕ) → r < 2 → KeepsRing old new r)
    → Keeps (rings_of old touched) (rings_of new touched)
keeps-names old new touched names issued rings =
    record { names = names; main = rings 0 (omega arith); touched = marked-kept old new touched (rings 1 (omega arith)); issued = issued }

module _ (old new : Table) (touched : Option ℕ) (id : ℕ) (absent : IsNamed old id → ⊥) (names : new.names ≡ set.insert old.names id)
    (rings : (r : ℕ) → r < 2 → GainsAlone old new r id) (counts : (new.spare + 1 ≡ old.spare) × (new.issued ≡ old.issued + 1))
    (marks : AreMarks (rings_of old touched)) where
  was-marked : (x : ℕ) → IsMarked (rings_of new touched) x ↔ IsMarked (rings_of old touched) x
  was-marked = gained-marked old new touched id absent (rings 1 (omega arith)) marks

  pub gains-untouched : Gains false id (rings_of old touched) (rings_of new touched)
  gains-untouched = record {
    names = named-more old new id names;
    main = rings 0 (omega arith);
    touched = λ x. (
      λ marked. inl ((was-marked x).0 marked),
      λ h. (was-marked x).1 (elim h [ inl was ↦ was | inr both ↦ absurd (true≢false (sym both.0)) ]),
    );
    len = len-more old new id names absent;
    spare = counts.0;
    issued = counts.1;
  }

  pub gains-touched : (later : Ringed) → Touches (Contains (id ∷ [])) (rings_of new touched) later → Gains true id (rings_of old touched) later
  gains-touched later touches = record {
    names = λ x. subst (λ (s : set.FinSet nat_cmp). (set.contains s x ≡ true) ↔ (IsNamed old x ⊎ (x ≡ id))) (sym touches.names) (named-more old new id names x);
    main = λ x y. (λ share. (rings 0 (omega arith) x y).0 ((touches.main x y).0 share), λ h. (touches.main x y).1 ((rings 0 (omega arith) x y).1 h));
    touched = λ x. (
      λ marked. elim ((touches.touched x).0 marked) [ inl was ↦ inl ((was-marked x).0 was) | inr here ↦ inr (refl, one-is id x here) ],
      λ h. (touches.touched x).1 (elim h [ inl was ↦ inl ((was-marked x).1 was) | inr both ↦ inr (is-one id x both.1) ]),
    );
    len = ap (λ s. set.len s) touches.names ∙ len-more old new id names absent;
    spare = ap (λ n. n + 1) touches.spare ∙ counts.0;
    issued = touches.issued ∙ counts.1;
  }

-- another name is kept in the place of one that goes
module _ (before mid after : Ringed) (id : ℕ) (book : mid.book ≡ before.book) (marked : (x : ℕ) → x ≢ id → IsMarked mid x ↔ IsMarked before x)
    (out : (x : ℕ) → IsMarked after x ↔ (IsMarked mid x × (x ≢ id))) where
  out-marked : (x : ℕ) → IsMarked after x ↔ (IsMarked before x × (x ≢ id))
  out-marked x = (
    λ still. let both = (out x).0 still in ((marked x both.1).0 both.0, both.1),
    λ both. (out x).1 ((marked x both.1).1 both.0, both.1),
  )

  pub drops-name : after.book.names ≡ set.remove mid.book.names id → Loses mid.book after.book 0 id
      → (after.book.spare ≡ mid.book.spare) × (after.book.issued ≡ mid.book.issued) → IsNamed mid.book id → Drops id before after
  drops-name names main counts live = record {
    names = subst (λ (t : Table). (x : ℕ) → IsNamed after.book x ↔ (IsNamed t x × (x ≢ id))) book (named-less mid.book after.book id names);
    main = subst (λ (t : Table). Loses t after.book 0 id) book main;
    touched = out-marked;
    len = len-less mid.book after.book id names live ∙ ap (λ (t : Table). set.len t.names) book;
    spare = counts.0 ∙ ap (λ (t : Table). t.spare) book;
    issued = counts.1 ∙ ap (λ (t : Table). t.issued) book;
  }

  pub releases-name : (after.book.names ≡ mid.book.names) × (after.book.spare ≡ mid.book.spare) × (after.book.issued ≡ mid.book.issued)
      → KeepsRing mid.book after.book 0 → Releases id before after
  releases-name same main = record {
    names = same.0 ∙ ap (λ (t : Table). t.names) book;
    main = subst (λ (t : Table). KeepsRing t after.book 0) book main;
    touched = out-marked;
    spare = same.1 ∙ ap (λ (t : Table). t.spare) book;
    issued = same.2 ∙ ap (λ (t : Table). t.issued) book;
  }

-- ---- names so far, and one more

module _ (ids : List ℕ) (i : ℕ) (low : i < length ids) where
  more : take (i + 1) ids ≡ take i ids ++ slice_index_or ids i 0 ∷ []
  more = take_more ids i 0 low

  pub in-more : (x : ℕ) → (Contains (take i ids) x ⊎ (x ≡ slice_index_or ids i 0)) ↔ Contains (take (i + 1) ids) x
  in-more x = (
    λ either. subst (λ (xs : List ℕ). Contains xs x) (sym more) (elim either [
      | inl before ↦ Contains-append_left (take i ids) (slice_index_or ids i 0 ∷ []) x before
      | inr same ↦ Contains-append_right (take i ids) (slice_index_or ids i 0 ∷ []) x (is-one (slice_index_or ids i 0) x same)
    ]),
    λ here. elim (Contains-append_cases (take i ids) (slice_index_or ids i 0 ∷ []) x (subst (λ (xs : List ℕ). Contains xs x) more here)) [
      | inl before ↦ inl before
      | inr last ↦ inr (one-is (slice_index_or ids i 0) x last)
    ],
  )

  -- one name more is released
  pub released-next : (old mid new : Ringed) → ReleasesAll (take i ids) old mid → Releases (slice_index_or ids i 0) mid new
      → ReleasesAll (take (i + 1) ids) old new
  released-next old mid new so next = record {
    names = next.names ∙ so.names;
    main = λ x y. (λ share. (so.main x y).0 ((next.main x y).0 share), λ share. (next.main x y).1 ((so.main x y).1 share));
    touched = λ x. (
      λ marked.
          let last = (next.touched x).0 marked in
          let was = (so.touched x).0 last.0 in
          (was.0, λ there. elim ((in-more x).1 there) [ inl before ↦ was.1 before | inr same ↦ last.1 same ]),
      λ both. (next.touched x).1 (
        (so.touched x).1 (both.0, λ before. both.1 ((in-more x).0 (inl before))),
        λ same. both.1 ((in-more x).0 (inr same)),
      ),
    );
    issued = next.issued ∙ so.issued;
  }
