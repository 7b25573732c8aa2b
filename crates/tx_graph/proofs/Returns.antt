-- Transactions that come into main of a plain state, and whether that brings a component over the limits.
use Rattle.std.proofs.Common.{◌≡◌, ℕ, ℤ, ◌^◌, ◌<◌, List, [], ◌∷◌, ◌++◌, length, sym, refl, ap, subst, ◌∙◌, inl, inr, ◌⊎◌, ◌↔◌, Option, None, Some, true≢false, arith}
use Rattle.std.specs.Prelude.{Contains, sum_by}
use Rattle.std.specs.FinMap as finmap
use Rattle.std.proofs.lemmas.Bool.{cases_Bool, cases_lt}
use Rattle.std.proofs.lemmas.List.Elements.{Contains-append_left, Contains-append_right, Contains-append_cases}
use Rattle.arithmetic.proofs.Sums.{sum_by_along}
use Rattle.lists.specs.Distinct.{AreDistinct}
use Rattle.lists.proofs.Distinct.{distinct_joined}
use Rattle.lists.proofs.Entries.{Contains-cases, Contains-head, Contains-later, Contains-map, map-Contains, none_in_empty}
use Rattle.lists.proofs.Told.{cases_pair, told_in, told_number}
use Rattle.graphs.specs.Certificates.{Txs}
use Rattle.graphs.specs.Graphs.{Graph, AreConnected, IsGraph}
use Rattle.graphs.proofs.ListLemmas.{Lists-for, Lists-same}
use Rattle.graph_model.specs.declared.names.Refusal.{Refusal}
use Rattle.graph_model.specs.declared.names.Refusal.TheVariants.{ClusterSize}
use Rattle.graph_model.specs.Commands.{Unmine}
use Rattle.graph_model.specs.Limits.{Bounds, AreOver}
use Rattle.graph_model.specs.States.{PlainState, Table, size_in, size_of}
use Rattle.graph_model.specs.Changes.{PutsNames, Restores, begun, ids_of}
use Rattle.graph_model.specs.Refusals.{BringsOver, FirstOf, IsInOver, NoRefusal, ToldOver}
use Rattle.graph_model.specs.Steps.{MayGiveWay}
use Rattle.graph_model.specs.Validity.{IsValid}
use Rattle.graph_model.proofs.BackLemmas.{graph_put}
use Rattle.graph_model.proofs.FirstLemmas.{first_in, first_or_none}
use Rattle.graph_model.proofs.LevelLemmas.{connected_told, connects, one_pair, some_list}
use Rattle.graph_model.proofs.RestoreLemmas.{CanCome, joined_name, over_told}
use Rattle.graph_model.proofs.ValidLemmas.{get-put_other, get-put_same}
use Rattle.tx_graph.specs.Restored.{MayLackMemory}

-- ---- lists

-- the entries of a list with a property that can be told, each once
select : {A : Type 0} → ((x y : A) → (x ≡ y) ⊎ (x ≡ y → ⊥)) → (P : A → Type 0) → ((x : A) → P x ⊎ (P x → ⊥)) → (xs : List A)
    → (ys : List A) × AreDistinct ys × ((x : A) → Contains ys x ↔ (Contains xs x × P x))
select decide P told [] = ([], tt, λ x. (λ none. absurd (none_in_empty x none), λ both. absurd (none_in_empty x both.0)))
select decide P told (x ∷ xs) =
    let rest = select decide P told xs in
    elim (told x) [
      | inl holds ↦ elim (told_in decide rest.0 x) [
        | inl there ↦ (
          rest.0,
          rest.1,
          λ y. (
            λ here. let was = (rest.2 y).0 here in (Contains-later x y xs was.0, was.1),
            λ both. elim (Contains-cases x y xs both.0) [ inl same ↦ subst (Contains rest.0) same there | inr later ↦ (rest.2 y).1 (later, both.1) ],
          ),
        )
        | inr new ↦ (
          x ∷ rest.0,
          (new, rest.1),
          λ y. (
            λ here. elim (Contains-cases x y rest.0 here) [
              | inl same ↦ (subst (Contains (x ∷ xs)) same (Contains-head x xs), subst P same holds)
              | inr later ↦ let was = (rest.2 y).0 later in (Contains-later x y xs was.0, was.1)
            ],
            λ both. elim (Contains-cases x y xs both.0) [
              | inl same ↦ subst (Contains (x ∷ rest.0)) same (Contains-head x rest.0)
              | inr later ↦ Contains-later x y rest.0 ((rest.2 y).1 (later, both.1))
            ],
          ),
        )
      ]
      | inr fails ↦ (
        rest.0,
        rest.1,
        λ y. (
          λ here. let was = (rest.2 y).0 here in (Contains-later x y xs was.0, was.1),
          λ both. elim (Contains-cases x y xs both.0) [
            | inl same ↦ absurd (fails (subst P (sym same) both.1))
            | inr later ↦ (rest.2 y).1 (later, both.1)
          ],
        ),
      )
    ]

-- ---- tables

-- a table with more transactions
pub put_all : Table → Txs → Table
put_all table [] = table
put_all table (tx ∷ txs) = finmap.insert (put_all table txs) tx.0 (record { fee = tx.1; size = tx.2 })

put_other : (table : Table) (txs : Txs) (id : ℕ) → (Contains (ids_of txs) id → ⊥) → finmap.get (put_all table txs) id ≡ finmap.get table id
unfolding put_all
put_other table [] id out = refl
put_other table (tx ∷ txs) id out =
    get-put_other (put_all table txs) tx.0 id (record { fee = tx.1; size = tx.2 })
    (λ same. out (subst (Contains (tx.0 ∷ ids_of txs)) (sym same) (Contains-head tx.0 (ids_of txs))))
    ∙ put_other table txs id (λ later. out (Contains-later tx.0 id (ids_of txs) later))

put_listed : (table : Table) (txs : Txs) → AreDistinct (ids_of txs) → (id : ℕ) (fee : ℤ) (size : ℕ) → Contains txs (id, fee, size)
    → finmap.get (put_all table txs) id ≡ Some (record { fee = fee; size = size })
unfolding put_all
put_listed table [] once id fee size here = absurd (none_in_empty (id, fee, size) here)
put_listed table (tx ∷ txs) once id fee size here = elim (Contains-cases tx (id, fee, size) txs here) [
  | inl same ↦
      subst (λ (t : ℕ × ℤ × ℕ). finmap.get (put_all table (tx ∷ txs)) t.0 ≡ Some (record { fee = t.1; size = t.2 })) same
      (get-put_same (put_all table txs) tx.0 tx.0 (record { fee = tx.1; size = tx.2 }) refl)
  | inr later ↦
      get-put_other (put_all table txs) tx.0 id (record { fee = tx.1; size = tx.2 })
      (λ same. once.0 (subst (Contains (ids_of txs)) same (Contains-map (λ (t : ℕ × ℤ × ℕ). t.0) txs (id, fee, size) later)))
      ∙ put_listed table txs once.1 id fee size later
]

-- lists as large are told alike
told_same : (bounds : Bounds) (f h : ℕ → ℕ) (xs : List ℕ) (why : Refusal) → sum_by f xs ≡ sum_by h xs → ToldOver bounds f xs why → ToldOver bounds h xs why
told_same bounds f h xs why large told = elim told [
  | inl many ↦ inl many
  | inr big ↦ inr (big.0, subst (λ n. bounds.size < n) large big.1, big.2 ∙ ap ClusterSize large)
]

-- ---- the state then

module _ (state : PlainState) (valid : IsValid state) (txs : Txs) (pairs : List (ℕ × ℕ)) (can : CanCome state txs pairs)
    (once : AreDistinct (ids_of txs)) where
  abbrev pub ids : List ℕ
  ids = ids_of txs

  apart : (id : ℕ) → Contains ids id → Contains state.main.names id → ⊥
  apart id here main = can.gone id here ((valid.live id).1 (inl main))

  abbrev pub names : List ℕ
  names = state.main.names ++ ids

  pub more : (ys : List (ℕ × ℕ)) × AreDistinct ys × ((pair : ℕ × ℕ) → Contains ys pair ↔ (Contains pairs pair × Contains names pair.1))
  more = select cases_pair (λ pair. Contains names pair.1) (λ pair. told_number names pair.1) pairs

  abbrev pub graph : Graph
  graph = record { names = names; pairs = state.main.pairs ++ more.0 }

  abbrev pub after : PlainState
  after = record (begun state) { table = put_all state.table txs; main = graph }

  puts : PutsNames state.main ids pairs graph
  puts = record {
    names = λ id. (
      λ here. Contains-append_cases state.main.names ids id here,
      λ either. elim either [
        | inl one ↦ Contains-append_left state.main.names ids id one
        | inr two ↦ Contains-append_right state.main.names ids id two
      ],
    );
    names_once = distinct_joined state.main.names ids valid.main.whole.names once (λ id one two. apart id two one);
    pairs = λ a b. (
      λ here. elim (Contains-append_cases state.main.pairs more.0 (a, b) here) [ inl one ↦ inl one | inr two ↦ inr ((more.2 (a, b)).0 two) ],
      λ either. elim either [
        | inl one ↦ Contains-append_left state.main.pairs more.0 (a, b) one
        | inr two ↦ Contains-append_right state.main.pairs more.0 (a, b) ((more.2 (a, b)).1 two)
      ],
    );
    pairs_once =
        distinct_joined state.main.pairs more.0 valid.main.whole.pairs more.1
        (λ pair one two. apart pair.0 (can.parents pair.0 pair.1 ((more.2 pair).0 two).0) (valid.main.whole.ends pair.0 pair.1 one).0);
  }

  pub restores : Restores state txs pairs after
  restores = record {
    same = refl;
    graph = puts;
    listed = put_listed state.table txs once;
    others = λ id out. put_other state.table txs id out;
  }

  -- ---- whether a component is over the limits

  whole : IsGraph graph
  whole = graph_put state.main graph ids pairs puts valid.main.whole apart can.parents can.acyclic

  small : (id : ℕ) → Contains names id → id < 2 ^ 64
  small id here = elim (Contains-append_cases state.main.names ids id here) [ inl was ↦ valid.main.names id was | inr put ↦ can.names id put ]

  over_or_not : (bounds : Bounds) (size : ℕ → ℕ) (xs : List ℕ) → AreOver bounds size xs ⊎ (AreOver bounds size xs → ⊥)
  over_or_not bounds size xs = elim (cases_lt bounds.count (length xs)) [
    | inl many ↦ inl (inl many)
    | inr few ↦ elim (cases_lt bounds.size (sum_by size xs)) [
      | inl large ↦ inl (inr large)
      | inr within ↦ inr (λ over. elim over [ inl many ↦ omega (arith, many, few) | inr large ↦ omega (arith, large, within) ])
    ]
  ]

  told_is_over : (bounds : Bounds) (size : ℕ → ℕ) (xs : List ℕ) (why : Refusal) → ToldOver bounds size xs why → AreOver bounds size xs
  told_is_over bounds size xs why told = elim told [ inl many ↦ inl many.0 | inr large ↦ inr large.1 ]

  abbrev Over : ℕ → Type 0
  Over id = (why : Refusal) × IsInOver after id why

  told_over : (id : ℕ) → Contains ids id → Over id ⊎ (Over id → ⊥)
  told_over id listed =
      let here : Contains names id = Contains-append_right state.main.names ids id listed in
      let list = some_list (AreConnected graph.pairs id) (connected_told graph.pairs id) (2 ^ 64)
      (λ n trail. small n (joined_name graph whole id n trail.0 trail.1 here)) in
      elim (over_or_not state.limits (size_of after.table) list.0) [
        | inl over ↦ let why = over_told state.limits (size_of after.table) list.0 over in inl (why.0, (list.0, list.1, why.1))
        | inr within ↦ inr (λ (why, (xs, lists, told)).
            within (told_is_over state.limits (size_of after.table) list.0 why
            (subst (λ (ys : List ℕ). ToldOver state.limits (size_of after.table) ys why)
            (Lists-same (AreConnected graph.pairs id) xs list.0 lists list.1) told)))
      ]

  -- what another state that comes so has over the limits, this one has
  module _ (next : PlainState) (other : Restores state txs pairs next) where
    same_names : (id : ℕ) → Contains next.main.names id ↔ Contains names id
    same_names id = (λ here. (puts.names id).1 ((other.graph.names id).0 here), λ here. (other.graph.names id).1 ((puts.names id).0 here))

    to_pair : (a b : ℕ) → Contains next.main.pairs (a, b) → Contains graph.pairs (a, b)
    to_pair a b pair = (puts.pairs a b).1 (elim ((other.graph.pairs a b).0 pair) [
      | inl was ↦ inl was
      | inr put ↦ inr (put.0, (same_names b).0 put.1)
    ])

    from_pair : (a b : ℕ) → Contains graph.pairs (a, b) → Contains next.main.pairs (a, b)
    from_pair a b pair = (other.graph.pairs a b).1 (elim ((puts.pairs a b).0 pair) [
      | inl was ↦ inl was
      | inr put ↦ inr (put.0, (same_names b).1 put.1)
    ])

    same_size : (id : ℕ) → size_of next.table id ≡ size_of after.table id
    same_size id = ap size_in (elim (told_number ids id) [
      | inl listed ↦
          let (tx, here, named) = map-Contains (λ (t : ℕ × ℤ × ℕ). t.0) txs id listed in
          subst (λ x. finmap.get next.table x ≡ finmap.get after.table x) named
          (other.listed tx.0 tx.1 tx.2 here ∙ sym (restores.listed tx.0 tx.1 tx.2 here))
      | inr out ↦ other.others id out ∙ sym (restores.others id out)
    ])

    pub alike : (id : ℕ) (why : Refusal) → IsInOver next id why → IsInOver after id why
    alike id why (xs, lists, told) = (
      xs,
      Lists-for (AreConnected next.main.pairs id) (AreConnected graph.pairs id) xs
          (connects next.main.pairs graph.pairs (λ a b pair. one_pair graph.pairs a b (to_pair a b pair)) id)
          (connects graph.pairs next.main.pairs (λ a b pair. one_pair next.main.pairs a b (from_pair a b pair)) id) lists,
      told_same state.limits (size_of next.table) (size_of after.table) xs why
          (sum_by_along (size_of next.table) (size_of after.table) xs (λ id here. same_size id))
          (subst (λ (bounds : Bounds). ToldOver bounds (size_of next.table) xs why) (ap (λ (s : PlainState). s.limits) other.same) told),
    )

  gives_way : (id : ℕ) (why : Refusal) → IsInOver after id why → MayGiveWay Unmine why
  gives_way id why (xs, lists, told) = elim told [
    | inl many ↦ subst (MayGiveWay Unmine) (sym many.1) tt
    | inr large ↦ subst (MayGiveWay Unmine) (sym large.2) tt
  ]

  -- whether such a component would come can be told, and its refusal may give way
  pub over_found : (found : Option Refusal) × FirstOf (BringsOver state txs pairs) NoRefusal found × MayLackMemory found
  over_found = elim (cases_Bool state.limits.defer) [
    | inl defers ↦ (None, inr ((λ why over. true≢false (sym defers ∙ over.strict)), refl), tt)
    | inr strict ↦ elim (first_or_none Over ids told_over) [
      | inl first ↦
          let why = first.1.has.0 in
          let over : BringsOver state txs pairs why = record {
            strict = strict;
            next = after;
            restores = restores;
            id = first.0;
            first = first.1;
            over = first.1.has.1;
          } in
          (Some why, inl (why, over, refl), gives_way first.0 why first.1.has.1)
      | inr none ↦ (
        None,
        inr (
          (λ why over. none over.id (first_in (λ before id. (any : Refusal) × IsInOver over.next id any) ids over.id over.first)
              (why, alike over.next over.restores over.id why over.over)),
          refl,
        ),
        tt,
      )
    ]
  ]
