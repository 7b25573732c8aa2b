-- Transactions, pairs and clusters that are looked at one after the other.
use Rattle.std.proofs.Common.{◌≡◌, ℕ, ℤ, zero, suc, ◌+◌, ◌<◌, ◌≤◌, Bool, true, false, cond, nat_eq, eq-eqb, eqb-true, List, [], ◌∷◌, ◌++◌, take, drop, length, flat_map, get_or, Contains, Option, Some, is_some, IsSome, inl, inr, ◌⊎◌, ◌↔◌, refl, sym, ap, ap₂, ◌∙◌, subst, subst₂, true≢false, arith, append_assoc, length-append}
use Rattle.std.specs.Prelude.{option_map, slice_index, MatchResult, Result, Ok, Err}
use Rattle.std.specs.Result.{IsErrAnd}
use Rattle.std.specs.FinMap as finmap
use Rattle.std.proofs.lemmas.Grind.{flat_map-append}
use Rattle.std.proofs.lemmas.List.{append-nil, map-append, length-map, length-take, take-append-drop, take_more}
use Rattle.std.proofs.lemmas.List.Elements.{Contains-get_or, Contains-push, Contains-push_cases, Contains-append_left}
use Rattle.std.proofs.lemmas.Option.{none-some, same_Some}
use Rattle.lists.specs.Distinct.{AreDistinct}
use Rattle.lists.proofs.Distinct.{distinct-append_left, distinct_apart, distinct_push}
use Rattle.lists.proofs.Entries.{Contains-head, Contains-map}
use Rattle.lists.proofs.Cases.{put_cases, put_old}
use Rattle.graphs.specs.declared.names.Level.TheVariants.{Top}
use Rattle.graphs.specs.Certificates.{Txs}
use Rattle.graph_model.specs.Changes.{ids_of}
use Rattle.cluster.specs.Clusters.{Cluster}
use Rattle.links.specs.Links.{Links, AreLinks}
use Rattle.name_book.specs.Calls.{Gains}
use Rattle.record.specs.Kept.{unordered}
use Rattle.record.specs.Leaving.{bare}
use Rattle.record.specs.Restoring.{PutsBehind}
use Rattle.cluster_store.specs.Stores.{Stored}
use Rattle.cluster_store.proofs.Listed.{at_joined}
use Rattle.cluster_store.proofs.Seen.{seen_is}
use Rattle.levels.specs.Changes.{AreAt}
use Rattle.levels.specs.Gathered.{AreHere, GainsAll, HasMore, HasNames, KeepsPair, ListsSet, PutsAll}
use Rattle.levels.specs.Rings.{Ringed}
use Rattle.levels.proofs.Ends.{got}
use Rattle.levels.proofs.Graphs.{cases_option}
use Rattle.levels.specs.Shelves.{Shelf, numbers_at, seen_at, stored_at}

-- ---- sets, and lists of what they have

-- what a set has after one more number
module _ (has later : ℕ → Bool) (x : ℕ) (more : (q : ℕ) → later q ≡ cond (nat_eq x q) true (has q)) where
  later_is : (q : ℕ) → (later q ≡ true) ↔ ((has q ≡ true) ⊎ (x ≡ q))
  later_is q = (
    λ is. elim (put_cases (nat_eq x q) (has q) (sym (more q) ∙ is)) [ inl same ↦ inr (eqb-true x q same) | inr was ↦ inl was ],
    λ either. more q ∙ elim either [
      | inl was ↦ put_old (nat_eq x q) (has q) was
      | inr same ↦ ap (λ b. cond b true (has q)) (eq-eqb x q same)
    ],
  )

  pub set_put : (list : List ℕ) → ListsSet has list → has x ≡ false → ListsSet later (list ++ x ∷ [])
  set_put list lists new = record {
    once = distinct_push list x lists.once (λ here. true≢false (sym ((lists.exact x).1 here) ∙ new));
    exact = λ q. (
      λ is. elim ((later_is q).0 is) [
        | inl was ↦ Contains-append_left list (x ∷ []) q ((lists.exact q).0 was)
        | inr same ↦ subst (λ y. Contains (list ++ x ∷ []) y) same (Contains-push list x)
      ],
      λ here. (later_is q).1 (elim (Contains-push_cases list x q here) [ inl before ↦ inl ((lists.exact q).1 before) | inr same ↦ inr same ]),
    );
  }

  pub set_again : (list : List ℕ) → ListsSet has list → has x ≡ true → ListsSet later list
  set_again list lists old = record {
    once = lists.once;
    exact = λ q. (
      λ is. elim ((later_is q).0 is) [ inl was ↦ (lists.exact q).0 was | inr same ↦ subst (Contains list) same ((lists.exact x).0 old) ],
      λ here. (later_is q).1 (inl ((lists.exact q).1 here)),
    );
  }

  -- a set of names has one more
  pub names_more : (xs : List ℕ) → HasNames has xs → HasNames later (xs ++ x ∷ [])
  names_more xs names q = (
    λ is. elim ((later_is q).0 is) [
      | inl was ↦ Contains-append_left xs (x ∷ []) q ((names q).0 was)
      | inr same ↦ subst (λ y. Contains (xs ++ x ∷ []) y) same (Contains-push xs x)
    ],
    λ here. (later_is q).1 (elim (Contains-push_cases xs x q here) [ inl before ↦ inl ((names q).1 before) | inr same ↦ inr same ]),
  )

pub more_put : (list : List ℕ) (x : ℕ) (number : Option ℕ) → number ≡ Some x → HasMore list (list ++ x ∷ []) number
more_put list x number is n = (
  λ here. elim (Contains-push_cases list x n here) [ inl before ↦ inl before | inr same ↦ inr (is ∙ ap Some same) ],
  λ either. elim either [
    | inl before ↦ Contains-append_left list (x ∷ []) n before
    | inr same ↦ subst (λ y. Contains (list ++ x ∷ []) y) (same_Some x n (sym is ∙ same)) (Contains-push list x)
  ],
)

-- names of the first transactions, one more
pub ids_more : (txs : Txs) (k : ℕ) (d : ℕ × ℤ × ℕ) → k < length txs → ids_of (take (k + 1) txs) ≡ ids_of (take k txs) ++ (get_or txs k d).0 ∷ []
ids_more txs k d low =
    ap ids_of (take_more txs k d low) ∙ map-append (λ (t : ℕ × ℤ × ℕ). t.0) (take k txs) (get_or txs k d ∷ [])

-- a name that stands once isn't among those before it
pub not_before : (txs : Txs) (k : ℕ) (d : ℕ × ℤ × ℕ) → k < length txs → AreDistinct (ids_of txs) → Contains (ids_of (take k txs)) (get_or txs k d).0 → ⊥
not_before txs k d low once here =
    let whole : ids_of txs ≡ ids_of (take (k + 1) txs) ++ ids_of (drop (k + 1) txs) =
    ap ids_of (sym (take-append-drop (k + 1) txs)) ∙ map-append (λ (t : ℕ × ℤ × ℕ). t.0) (take (k + 1) txs) (drop (k + 1) txs) in
    let front : AreDistinct (ids_of (take k txs) ++ (get_or txs k d).0 ∷ []) =
    subst AreDistinct (ids_more txs k d low)
    (distinct-append_left (ids_of (take (k + 1) txs)) (ids_of (drop (k + 1) txs)) (subst AreDistinct whole once)) in
    distinct_apart (ids_of (take k txs)) ((get_or txs k d).0 ∷ []) (get_or txs k d).0 front here (Contains-head (get_or txs k d).0 [])

pub name_listed : (txs : Txs) (k : ℕ) (d : ℕ × ℤ × ℕ) → k < length txs → Contains (ids_of txs) (get_or txs k d).0
name_listed txs k d low = Contains-map (λ (t : ℕ × ℤ × ℕ). t.0) txs (get_or txs k d) (Contains-get_or txs k d low)

pub ids_long : (txs : Txs) (k : ℕ) → k ≤ length txs → length (ids_of (take k txs)) ≡ k
ids_long txs k low = length-map (take k txs) (λ (t : ℕ × ℤ × ℕ). t.0) ∙ length_taken
  where
    length_taken : length (take k txs) ≡ k
    length_taken = omega (arith, length-take k txs, low)

-- ---- pairs

-- the numbers that the first pairs met
abbrev pub Met : Shelf → List (ℕ × ℕ) → List ℕ → Type 0
Met shelf pairs outs = (n : ℕ) → Contains outs n ↔ ((a b : ℕ) × Contains pairs (a, b) × (finmap.get (numbers_at Top shelf) b ≡ Some n))

module _ (shelf : Shelf) (pairs : List (ℕ × ℕ)) (k : ℕ) (d : ℕ × ℕ) (low : k < length pairs) where
  abbrev pair_here : ℕ × ℕ
  pair_here = get_or pairs k d

  abbrev p : ℕ
  p = pair_here.0

  abbrev q : ℕ
  q = pair_here.1

  next : take (k + 1) pairs ≡ take k pairs ++ pair_here ∷ []
  next = take_more pairs k d low

  first_parts : (a b : ℕ) → Contains (take (k + 1) pairs) (a, b) ↔ (Contains (take k pairs) (a, b) ⊎ ((a ≡ p) × (b ≡ q)))
  first_parts a b = (
    λ here. elim (Contains-push_cases (take k pairs) pair_here (a, b) (subst (λ (ps : List (ℕ × ℕ)). Contains ps (a, b)) next here)) [
      | inl before ↦ inl before
      | inr same ↦ inr (sym (ap (λ (r : ℕ × ℕ). r.0) same), sym (ap (λ (r : ℕ × ℕ). r.1) same))
    ],
    λ either. subst (λ (ps : List (ℕ × ℕ)). Contains ps (a, b)) (sym next) (elim either [
      | inl before ↦ Contains-append_left (take k pairs) (pair_here ∷ []) (a, b) before
      | inr same ↦ subst₂ (λ x y. Contains (take k pairs ++ pair_here ∷ []) (x, y)) (sym same.0) (sym same.1) (Contains-push (take k pairs) pair_here)
    ]),
  )

  pub met_more : (old new : List ℕ) → Met shelf (take k pairs) old → HasMore old new (finmap.get (numbers_at Top shelf) q) → Met shelf (take (k + 1) pairs) new
  met_more old new met more n = (
    λ here. elim ((more n).0 here) [
      | inl before ↦ let (a, b, pair, is) = (met n).0 before in (a, b, (first_parts a b).1 (inl pair), is)
      | inr same ↦ (p, q, (first_parts p q).1 (inr (refl, refl)), same)
    ],
    λ (a, b, pair, is). (more n).1 (elim ((first_parts a b).0 pair) [
      | inl before ↦ inl ((met n).1 (a, b, before, is))
      | inr same ↦ inr (ap (finmap.get (numbers_at Top shelf)) (sym same.1) ∙ is)
    ]),
  )

  pub here_more : (txs : Txs) (has : ℕ → Bool) → HasNames has (ids_of txs) → (old new : List (ℕ × ℕ)) → AreHere shelf txs (take k pairs) old
      → KeepsPair shelf has old new p q → AreHere shelf txs (take (k + 1) pairs) new
  here_more txs has names old new are keeps a b = (
    λ here. elim ((keeps a b).0 here) [
      | inl before ↦ let was = (are a b).0 before in ((first_parts a b).1 (inl was.0), was.1)
      | inr put ↦ (
        (first_parts a b).1 (inr (put.0, put.1)),
        elim put.2 [
          | inl listed ↦ inl (subst (Contains (ids_of txs)) (sym put.1) ((names q).0 listed))
          | inr some ↦ inr (subst (λ x. IsSome (finmap.get (numbers_at Top shelf) x)) (sym put.1) some)
        ],
      )
    ],
    λ (pair, is). (keeps a b).1 (elim ((first_parts a b).0 pair) [
      | inl before ↦ inl ((are a b).1 (before, is))
      | inr same ↦ inr (
        same.0,
        same.1,
        elim is [
          | inl listed ↦ inl ((names q).1 (subst (Contains (ids_of txs)) same.1 listed))
          | inr some ↦ inr (subst (λ x. IsSome (finmap.get (numbers_at Top shelf) x)) same.1 some)
        ],
      )
    ]),
  )

-- ---- clusters

pub puts_none : (shelf : Shelf) (txs : Txs) (pairs : List (ℕ × ℕ)) → PutsAll shelf [] txs pairs txs pairs
puts_none shelf txs pairs = record {
  olds = [];
  told = [];
  at = record { count = refl; stand = λ i c is. absurd (none-some c is) };
  like = refl;
  each = λ links here. absurd (omega (arith, here.1));
  txs_are = sym (append-nil txs);
  pairs_are = sym (append-nil pairs);
}

module _ (shelf : Shelf) (outs : List ℕ) (n : ℕ) (c : Cluster) (at : seen_at Top shelf.store.clusters n ≡ Some c) (txs first second : Txs)
    (pairs one two : List (ℕ × ℕ)) (done : PutsAll shelf outs txs pairs first one) (puts : PutsBehind c first one second two) where
  at_one : AreAt (seen_at Top shelf.store.clusters) (n ∷ []) (c ∷ [])
  at_one = record { count = refl; stand = λ i d is. one_here i d (got (c ∷ []) i d is) }
    where
      one_here : (i : ℕ) (d : Cluster) → (i < length (c ∷ [])) × ((e : Cluster) → get_or (c ∷ []) i e ≡ d)
          → seen_at Top shelf.store.clusters (slice_index (n ∷ []) i) ≡ Some d
      one_here zero d is = at ∙ ap Some (is.1 d)
      one_here (suc i) d is = absurd (omega (arith, is.0))

  pub puts_more : PutsAll shelf (outs ++ n ∷ []) txs pairs second two
  puts_more = record {
    olds = done.olds ++ c ∷ [];
    told = done.told ++ puts.links ∷ [];
    at = at_joined (seen_at Top shelf.store.clusters) outs (n ∷ []) done.olds (c ∷ []) done.at at_one;
    like = map-append bare done.olds (c ∷ []) ∙ ap₂ (λ (xs ys : List Cluster). xs ++ ys) done.like (ap (λ (d : Cluster). d ∷ []) (sym puts.tells))
        ∙ sym (map-append unordered done.told (puts.links ∷ []));
    each = λ links here. elim (Contains-push_cases done.told puts.links links here) [
      | inl before ↦ done.each links before
      | inr same ↦ subst AreLinks same puts.whole
    ];
    txs_are = puts.txs_are ∙ ap (λ (ts : Txs). ts ++ puts.links.txs) done.txs_are ∙ append_assoc txs (flat_map (λ (l : Links). l.txs) done.told) puts.links.txs
        ∙ ap (λ (ts : Txs). txs ++ ts) (sym (flat_push (λ (l : Links). l.txs) done.told puts.links));
    pairs_are = puts.pairs_are ∙ ap (λ (ps : List (ℕ × ℕ)). ps ++ puts.links.pairs) done.pairs_are
        ∙ append_assoc pairs (flat_map (λ (l : Links). l.pairs) done.told) puts.links.pairs
        ∙ ap (λ (ps : List (ℕ × ℕ)). pairs ++ ps) (sym (flat_push (λ (l : Links). l.pairs) done.told puts.links));
  }
    where
      flat_push : {A : Type 0} (f : Links → List A) (xs : List Links) (x : Links) → flat_map f (xs ++ x ∷ []) ≡ flat_map f xs ++ f x
      flat_push f xs x = flat_map-append f xs (x ∷ []) ∙ ap (λ ys. flat_map f xs ++ ys) (append-nil (f x))

-- ---- names of the rings

pub gains_more : (ids : List ℕ) (id : ℕ) (old mid new : Ringed) → GainsAll ids old mid → Gains false id mid new → GainsAll (ids ++ id ∷ []) old new
gains_more ids id old mid new done gains = record {
  names = λ x. (
    λ named. elim ((gains.names x).0 named) [
      | inl was ↦ elim ((done.names x).0 was) [ inl first ↦ inl first | inr listed ↦ inr (Contains-append_left ids (id ∷ []) x listed) ]
      | inr same ↦ inr (subst (λ y. Contains (ids ++ id ∷ []) y) (sym same) (Contains-push ids id))
    ],
    λ either. (gains.names x).1 (elim either [
      | inl first ↦ inl ((done.names x).1 (inl first))
      | inr listed ↦ elim (Contains-push_cases ids id x listed) [ inl before ↦ inl ((done.names x).1 (inr before)) | inr same ↦ inr (sym same) ]
    ]),
  );
  main = λ x y. (
    λ share. elim ((gains.main x y).0 share) [
      | inl was ↦ elim ((done.main x y).0 was) [ inl first ↦ inl first | inr both ↦ inr (Contains-append_left ids (id ∷ []) x both.0, both.1) ]
      | inr both ↦ inr (subst (λ z. Contains (ids ++ id ∷ []) z) (sym both.0) (Contains-push ids id), both.0 ∙ sym both.1)
    ],
    λ either. (gains.main x y).1 (elim either [
      | inl first ↦ inl ((done.main x y).1 (inl first))
      | inr both ↦ elim (Contains-push_cases ids id x both.0) [
        | inl before ↦ inl ((done.main x y).1 (inr (before, both.1)))
        | inr same ↦ inr (sym same, sym both.1 ∙ sym same)
      ]
    ]),
  );
  touched = λ x. (
    λ marked. elim ((gains.touched x).0 marked) [ inl was ↦ (done.touched x).0 was | inr both ↦ absurd (true≢false (sym both.0)) ],
    λ marked. (gains.touched x).1 (inl ((done.touched x).1 marked)),
  );
  len = omega (arith, gains.len, done.len, length-append ids (id ∷ []));
  issued = omega (arith, gains.issued, done.issued, length-append ids (id ∷ []));
}

-- a number that is seen in the top level has the cluster that is stored there
pub seen_here : (shelf : Shelf) (n : ℕ) (c : Cluster) → IsSome (seen_at Top shelf.store.clusters n) → stored_at shelf.store.clusters n ≡ Some c
    → seen_at Top shelf.store.clusters n ≡ Some c
seen_here shelf n c some is = elim (cases_option (seen_at Top shelf.store.clusters n)) [
  | inl none ↦ absurd (true≢false (sym some ∙ ap is_some none))
  | inr seen ↦
      let at = seen_is Top (finmap.get shelf.store.clusters n) seen.0 seen.1 in
      seen.1 ∙ ap Some (sym at.2 ∙ same_Some at.0.cluster c (sym (ap (option_map (λ (s : Stored). s.cluster)) at.1) ∙ is))
]

-- what holds of a result that hands on an error
pub handed : {T E : Type 0} (Q : T → Type 0) (P : E → Type 0) (r : Result T E) (e : E) → IsErrAnd r (λ y. y ≡ e) → P e → MatchResult r Q P
handed Q P (Ok x) e is holds = absurd is
handed Q P (Err y) e is holds = subst P (sym is) holds
