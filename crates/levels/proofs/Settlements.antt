-- Where a staging is closed: the rings of the level that stays, one cluster after the other.
use Rattle.std.proofs.Common.{◌≡◌, ◌≢◌, ◌⊎◌, ◌↔◌, ℕ, true, ◌*◌, ◌+◌, ◌≤◌, List, [], ◌∷◌, ◌++◌, length, Contains, Some, None, is_some, IsSome, refl, sym, ap, ◌∙◌, subst, inl, inr, arith, length-append}
use Rattle.std.proofs.lemmas.List.Elements.{Contains-append_cases}
use Rattle.std.proofs.lemmas.Option.{none-some}
use Rattle.std.specs.FinMap as finmap
use Rattle.std.specs.FinSet as set
use Rattle.lists.specs.Distinct.{AreDistinct}
use Rattle.lists.proofs.Distinct.{distinct_push}
use Rattle.lists.proofs.Entries.{Contains-one, none_in_empty}
use Rattle.lists.proofs.Keys.{set_has}
use Rattle.lists.proofs.Told.{told_number}
use Rattle.graphs.specs.declared.names.Level.{Level}
use Rattle.graphs.specs.declared.names.Level.TheVariants.{Main, Top}
use Rattle.cluster.specs.Clusters.{Cluster}
use Rattle.name_book.specs.Books.{IsNamed}
use Rattle.name_book.specs.Calls.{Drops}
use Rattle.name_book.proofs.Marks.{marked-named}
use Rattle.name_book.proofs.Named.{named-same}
use Rattle.name_book.proofs.Rings.{rung-itself}
use Rattle.levels.specs.Rings.{Ringed, AreRight, IsHeld, IsMarked, ShareMain}
use Rattle.levels.specs.Kept.{SuitsShelf}
use Rattle.levels.specs.Settling.{AreSettling, IsDone, MakesMain, Settles, SettlesAll}
use Rattle.levels.specs.Shelves.{Shelf, IsInOrder, numbers_at, view_of}
use Rattle.levels.specs.Views.{IsIndexed, View}
use Rattle.levels.proofs.Graphs.{one_cluster, stands_in}
use Rattle.name_book.proofs.Entries.{some_key}
use Rattle.levels.proofs.Righting.{same_or}
use Rattle.levels.proofs.Seen.{one_seen}
use Rattle.levels.proofs.Standing.{indexed_at}

-- ---- what is done

-- a ring that is done was, where the name was touched no more than it is
was_done : (stays : Level) (old new : Ringed) (x : ℕ) → (IsMarked old x → IsMarked new x) → IsDone stays new x → IsDone stays old x
was_done Main old new x touched done = tt
was_done Top old new x touched done = λ marked. done (touched marked)

-- where a name isn't touched it is
out_done : (stays : Level) (rings : Ringed) (x : ℕ) → (IsMarked rings x → ⊥) → IsDone stays rings x
out_done Main rings x out = tt
out_done Top rings x out = out

module _ (stays : Level) (most : ℕ) (view : View) (indexed : IsIndexed most view) where
  -- a touched name that the level hasn't is dropped
  module _ (id : ℕ) (old new : Ringed) (so : AreSettling stays old view) (gone : finmap.get view.numbers id ≡ None) (drops : Drops id old new) where
    numbered : (x : ℕ) → IsSome (finmap.get view.numbers x) → x ≢ id
    numbered x some same =
        let at = some_key (finmap.get view.numbers x) some in
        none-some at.0 (sym gone ∙ ap (finmap.get view.numbers) (sym same) ∙ at.1)

    listed : (n x : ℕ) (c : Cluster) → view.at n ≡ Some c → Contains c.names x → x ≢ id
    listed n x c at_n here = numbered x (ap is_some (indexed.listed n x c at_n here))

    pub dropped : AreSettling stays new view
    dropped = record {
      names = λ x. (
        λ named.
            let was = (drops.names x).0 named in
            elim ((so.names x).0 was.0) [ inl some ↦ inl some | inr marked ↦ inr ((drops.touched x).1 (marked, was.1)) ],
        λ h. elim h [
          | inl some ↦ (drops.names x).1 ((so.names x).1 (inl some), numbered x some)
          | inr marked ↦ let was = (drops.touched x).0 marked in (drops.names x).1 ((so.names x).1 (inr was.0), was.1)
        ],
      );
      whole = λ n x y c at_n here there marked. (drops.touched y).1 (so.whole n x y c at_n here there ((drops.touched x).0 marked).0, listed n y c at_n there);
      zero = λ n x c at_n here out y.
          let was = so.zero n x c at_n here (was_done stays old new x (λ marked. (drops.touched x).1 (marked, listed n x c at_n here)) out) y in (
            λ share. was.0 ((drops.main x y).0 share).0,
            λ there. (drops.main x y).1 (was.1 there, listed n x c at_n here, listed n y c at_n there),
          );
    }

  -- the names of a cluster of the level are released
  module _ (number id : ℕ) (c : Cluster) (at_number : view.at number ≡ Some c) (here : Contains c.names id) (old new : Ringed)
      (so : AreSettling stays old view) (marked_id : IsMarked old id) (settles : SettlesAll stays c.names old new) where
    all_marked : (x : ℕ) → Contains c.names x → IsMarked old x
    all_marked x there = so.whole number id x c at_number here there marked_id

    -- another cluster has none of its names
    outside : (n x y : ℕ) (d : Cluster) → view.at n ≡ Some d → Contains d.names x → (Contains c.names x → ⊥) → Contains d.names y → Contains c.names y → ⊥
    outside n x y d at_n in_d out there in_c =
        out (subst (λ (e : Cluster). Contains e.names x) (one_cluster most view indexed n number y d c at_n at_number there in_c) in_d)

    live : (x : ℕ) → IsNamed new.book x ↔ (IsSome (finmap.get view.numbers x) ⊎ IsMarked new x)
    live x = (
      λ named. elim ((so.names x).0 (named-same new.book old.book (sym settles.names) x named)) [
        | inl some ↦ inl some
        | inr marked ↦ elim (told_number c.names x) [
          | inl in_c ↦ inl (ap is_some (indexed.listed number x c at_number in_c))
          | inr out ↦ inr ((settles.touched x).1 (marked, out))
        ]
      ],
      λ h. named-same old.book new.book settles.names x
          ((so.names x).1 (elim h [ inl some ↦ inl some | inr marked ↦ inr ((settles.touched x).0 marked).0 ])),
    )

    -- ring 0 of a cluster that was done, and of this one
    ring : (l : Level) → l ≡ stays → MakesMain l c.names old new → (n x : ℕ) (d : Cluster) → view.at n ≡ Some d → Contains d.names x → IsDone l new x
        → (y : ℕ) → ShareMain new x y ↔ Contains d.names y
    ring Main is main n x d at_n in_d done y =
        let was = so.zero n x d at_n in_d (subst (λ (k : Level). IsDone k old x) is tt) y in
        (λ share. was.0 ((main x y).0 share), λ there. (main x y).1 (was.1 there))
    ring Top is main n x d at_n in_d done y = elim (told_number c.names x) [
      | inl in_c ↦
          let one : d ≡ c = one_cluster most view indexed n number x d c at_n at_number in_d in_c in (
            λ share. elim ((main x y).0 share) [
              | inl all ↦ absurd (all.1 in_c)
              | inr both ↦ subst (λ (e : Cluster). Contains e.names y) (sym one) both.1
            ],
            λ there. (main x y).1 (inr (in_c, subst (λ (e : Cluster). Contains e.names y) one there)),
          )
      | inr out ↦
          let was_out : IsMarked old x → ⊥ = λ marked. done ((settles.touched x).1 (marked, out)) in
          let was = so.zero n x d at_n in_d (subst (λ (k : Level). IsDone k old x) is was_out) y in (
            λ share. elim ((main x y).0 share) [ inl all ↦ was.0 all.0 | inr both ↦ absurd (out both.0) ],
            λ there. (main x y).1 (inl (was.1 there, out, outside n x y d at_n in_d out there)),
          )
    ]

    pub released : AreSettling stays new view
    released = record {
      names = live;
      whole = λ n x y d at_n in_d there marked.
          let was = (settles.touched x).0 marked in
          (settles.touched y).1 (so.whole n x y d at_n in_d there was.0, outside n x y d at_n in_d was.1 there);
      zero = ring stays refl settles.main;
    }

    pub release_settles : Settles id old new
    release_settles = record {
      out = λ marked. ((settles.touched id).0 marked).1 here;
      fewer = λ x marked. ((settles.touched x).0 marked).0;
      few = omega (arith, ap set.len settles.names);
      issued = settles.issued;
    }

  -- no name is touched any more
  pub settled_right : (rings : Ringed) → AreSettling stays rings view → ((x : ℕ) → IsMarked rings x → ⊥) → AreRight rings view.numbers view.numbers
  settled_right rings so out = record {
    names = λ x. (
      λ named. elim ((so.names x).0 named) [ inl some ↦ inl some | inr marked ↦ absurd (out x marked) ],
      λ held. (so.names x).1 (elim held [ inl one ↦ inl one | inr two ↦ inl two ]),
    );
    zero = λ a b. (
      λ share. elim ((so.names a).0 share.from) [
        | inl some ↦
            let at = some_key (finmap.get view.numbers a) some in
            let stands = indexed.stands a at.0 at.1 in
            let there = (so.zero at.0 a stands.cluster stands.there stands.here (out_done stays rings a (out a)) b).0 share in
            inr (at.0, at.1, indexed.listed at.0 b stands.cluster stands.there there)
        | inr marked ↦ absurd (out a marked)
      ],
      λ either. elim either [
        | inl one ↦ subst (ShareMain rings a) one.1 (rung-itself rings.book 0 a one.0)
        | inr two ↦
            let stands = indexed.stands a two.0 two.1 in
            (so.zero two.0 a stands.cluster stands.there stands.here (out_done stays rings a (out a)) b).1
            (stands_in most view two.0 b stands.cluster indexed two.2 stands.there)
      ],
    );
    touched = λ x. (λ marked. absurd (out x marked), λ apart. absurd (apart refl));
  }

-- ---- the rings as they were

-- where two levels have a name in one cluster, they have every name of it there
module _ (w : ℕ) (shelf : Shelf) (order : IsInOrder w shelf) where
  same_cluster : (a b : Level) (n f x : ℕ) → finmap.get (numbers_at a shelf) f ≡ Some n → finmap.get (numbers_at b shelf) f ≡ Some n
      → finmap.get (numbers_at a shelf) x ≡ Some n → finmap.get (numbers_at b shelf) x ≡ Some n
  same_cluster a b n f x in_a in_b has =
      let one = (indexed_at w a shelf order).stands x n has in
      let two = (indexed_at w b shelf order).stands f n in_b in
      let same : one.cluster ≡ two.cluster = one_seen a b shelf.store.clusters n one.cluster two.cluster one.there two.there in
      (indexed_at w b shelf order).listed n x two.cluster two.there (subst (λ (c : Cluster). Contains c.names x) same one.here)

  -- a name whose number is the same in both levels has that in each
  either_number : (stays : Level) (f : ℕ) → finmap.get shelf.main f ≡ finmap.get (numbers_at Top shelf) f
      → finmap.get shelf.main f ≡ finmap.get (numbers_at stays shelf) f
  either_number Main f same = refl
  either_number Top f same = same

  other_number : (stays : Level) (f : ℕ) → finmap.get shelf.main f ≡ finmap.get (numbers_at Top shelf) f
      → finmap.get (numbers_at Top shelf) f ≡ finmap.get (numbers_at stays shelf) f
  other_number Main f same = sym same
  other_number Top f same = refl

  held_either : (stays : Level) (x : ℕ) → IsSome (finmap.get (numbers_at stays shelf) x) → IsHeld shelf.main (numbers_at Top shelf) x
  held_either Main x some = inl some
  held_either Top x some = inr some

module _ (w : ℕ) (stays : Level) (rings : Ringed) (shelf : Shelf) (order : IsInOrder w shelf) (suits : SuitsShelf rings shelf) where
  abbrev level : View
  level = view_of stays shelf

  indexed : IsIndexed (64 * w) level
  indexed = indexed_at w stays shelf order

  -- a name that is live is in the level if it isn't touched
  live_in : (x : ℕ) → IsHeld shelf.main (numbers_at Top shelf) x → IsSome (finmap.get level.numbers x) ⊎ IsMarked rings x
  live_in x held = elim (same_or (finmap.get shelf.main x) (finmap.get (numbers_at Top shelf) x)) [
    | inl same ↦
        let in_main : IsSome (finmap.get shelf.main x) = elim held [ inl one ↦ one | inr two ↦ ap is_some same ∙ two ] in
        inl (ap is_some (sym (either_number w shelf order stays x same)) ∙ in_main)
    | inr apart ↦ inr ((suits.touched x).1 apart)
  ]

  -- a name of a cluster that is done has its number in main
  in_main : (l : Level) → l ≡ stays → (n x : ℕ) → finmap.get level.numbers x ≡ Some n → IsDone l rings x → finmap.get shelf.main x ≡ Some n
  in_main Main is n x at done = ap (λ (k : Level). finmap.get (numbers_at k shelf) x) is ∙ at
  in_main Top is n x at done = elim (same_or (finmap.get shelf.main x) (finmap.get (numbers_at Top shelf) x)) [
    | inl one ↦ either_number w shelf order stays x one ∙ at
    | inr apart ↦ absurd (done ((suits.touched x).1 apart))
  ]

  -- where a name has one number in both levels, so has each of its cluster
  both_alike : (n x y : ℕ) (c : Cluster) → level.at n ≡ Some c → Contains c.names x → Contains c.names y
      → finmap.get shelf.main y ≡ finmap.get (numbers_at Top shelf) y → finmap.get shelf.main x ≡ finmap.get (numbers_at Top shelf) x
  both_alike n x y c at_n here there same =
      let level_y = indexed.listed n y c at_n there in
      let level_x = indexed.listed n x c at_n here in
      let main_y = either_number w shelf order stays y same ∙ level_y in
      let top_y = other_number w shelf order stays y same ∙ level_y in
      same_cluster w shelf order stays Main n y x level_y main_y level_x ∙ sym (same_cluster w shelf order stays Top n y x level_y top_y level_x)

  pub settling : AreSettling stays rings level
  settling = record {
    names = λ x. (
      λ named. live_in x ((suits.names x).0 named),
      λ h. elim h [
        | inl some ↦ (suits.names x).1 (held_either w shelf order stays x some)
        | inr marked ↦ marked-named rings.book rings.touched x marked
      ],
    );
    whole = λ n x y c at_n here there marked. (suits.touched y).1 (λ same. (suits.touched x).0 marked (both_alike n x y c at_n here there same));
    zero = λ n x c at_n here done y.
        let main_x = in_main stays refl n x (indexed.listed n x c at_n here) done in
        let to_main : (z : ℕ) → Contains c.names z → finmap.get shelf.main z ≡ Some n = λ z in_c.
        same_cluster w shelf order stays Main n x z (indexed.listed n x c at_n here) main_x (indexed.listed n z c at_n in_c) in
        let from_main : (z : ℕ) → finmap.get shelf.main z ≡ Some n → Contains c.names z = λ z has.
        stands_in (64 * w) level n z c indexed
        (same_cluster w shelf order Main stays n x z main_x (indexed.listed n x c at_n here) has) at_n in (
          λ share. elim ((suits.zero x y).0 share) [
            | inl one ↦ subst (Contains c.names) one.1 here
            | inr two ↦ from_main y (two.2 ∙ sym two.1 ∙ main_x)
          ],
          λ in_c. (suits.zero x y).1 (inr (n, main_x, to_main y in_c)),
        );
  }

-- ---- turn after turn

-- as many names as turns were touched and aren't any more
pub record AreSettled (turns : ℕ) (old new : Ringed) : Type 0 where
  pub done : List ℕ
  pub once : AreDistinct done
  pub count : length done ≡ turns
  pub was : (x : ℕ) → Contains done x → IsMarked old x
  pub out : (x : ℕ) → Contains done x → IsMarked new x → ⊥
  pub fewer : (x : ℕ) → IsMarked new x → IsMarked old x

pub none_settled : (rings : Ringed) → AreSettled 0 rings rings
none_settled rings = record {
  done = [];
  once = tt;
  count = refl;
  was = λ x none. absurd (none_in_empty x none);
  out = λ x none. absurd (none_in_empty x none);
  fewer = λ x marked. marked;
}

module _ (turns id : ℕ) (old mid new : Ringed) (so : AreSettled turns old mid) (marked_id : IsMarked mid id) (settles : Settles id mid new) where
  pub one_settled : AreSettled (turns + 1) old new
  one_settled = record {
    done = so.done ++ id ∷ [];
    once = distinct_push so.done id so.once (λ early. so.out id early marked_id);
    count = length-append so.done (id ∷ []) ∙ ap (λ n. n + 1) so.count;
    was = λ x here. elim (Contains-append_cases so.done (id ∷ []) x here) [
      | inl early ↦ so.was x early
      | inr last ↦ subst (IsMarked old) (Contains-one id x last) (so.fewer id marked_id)
    ];
    out = λ x here marked. elim (Contains-append_cases so.done (id ∷ []) x here) [
      | inl early ↦ so.out x early (settles.fewer x marked)
      | inr last ↦ settles.out (subst (IsMarked new) (sym (Contains-one id x last)) marked)
    ];
    fewer = λ x marked. so.fewer x (settles.fewer x marked);
  }

-- after as many turns as there were names none is touched
pub all_settled : (turns : ℕ) (old new : Ringed) → set.len old.book.names ≤ turns → AreSettled turns old new → (x : ℕ) → IsMarked new x → ⊥
all_settled turns old new many so x marked =
    let more = so.done ++ x ∷ [] in
    let once : AreDistinct more = distinct_push so.done x so.once (λ early. so.out x early marked) in
    let named : (q : ℕ) → Contains more q → set.contains old.book.names q ≡ true = λ q here.
    elim (Contains-append_cases so.done (x ∷ []) q here) [
      | inl early ↦ marked-named old.book old.touched q (so.was q early)
      | inr last ↦ marked-named old.book old.touched q (subst (IsMarked old) (Contains-one x q last) (so.fewer x marked))
    ] in
    omega (arith, set_has old.book.names more once named, length-append so.done (x ∷ []), so.count, many)
