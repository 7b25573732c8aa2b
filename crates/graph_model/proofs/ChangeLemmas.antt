-- Each change keeps valid states.
use Rattle.std.proofs.Common.{◌≡◌, ℕ, ℤ, ◌+◌, ◌^◌, ◌<◌, ◌≤◌, cond, List, [], ◌∷◌, length, Option, None, Some, is_some, sym, refl, ap, subst, ◌∙◌, inl, inr, ◌⊎◌, ◌↔◌, arith, true≢false}
use Rattle.std.specs.Prelude.{Contains, sum_by, unsigned_abs}
use Rattle.std.specs.Cmp.{nat_cmp_total}
use Rattle.std.specs.FinMap as finmap
use Rattle.std.proofs.lemmas.Bool.{cases_eq, cases_lt, false_from_ne_true}
use Rattle.std.proofs.lemmas.List.Elements.{Contains-append_left, Contains-push, Contains-push_cases}
use Rattle.lists.proofs.Distinct.{distinct_push}
use Rattle.fee_rate.specs.declared.limits.TheConstants.{MAX_FEE, MAX_SIZE}
use Rattle.fee_rate.specs.Limits.{IsFee, IsSize}
use Rattle.graphs.specs.declared.names.Level.TheVariants.{Top}
use Rattle.graphs.specs.Graphs.{Graph, IsGraph}
use Rattle.graphs.specs.Closing.{with_pair}
use Rattle.graphs.proofs.PairLemmas.{no_cycle_with_pair}
use Rattle.graph_model.specs.States.{PlainState, Table, Entry, level_of, top_of, with_top, IsLive, size_in, size_of}
use Rattle.graph_model.specs.Commands.{Add, Dep}
use Rattle.graph_model.specs.Refusals.{RefusalIs}
use Rattle.graph_model.specs.Changes.{added, begun, AddsPair, IsKept}
use Rattle.graph_model.specs.Validity.{IsLevel, IsStaging, IsValid}
use Rattle.lists.proofs.Told.{told_number}
use Rattle.graph_model.proofs.LevelLemmas.{same_level, level_joined}
use Rattle.graph_model.proofs.ValidLemmas.{row_on, row_at_on, le_stable, get-put_same, get-put_other, level_added, with_more, top_level, staging_along}

-- ---- the state with another top

-- A valid state with another graph at the top: what is said of both cases, with a staging and without.
pub of_top : (state : PlainState) (top : Graph) (P : PlainState → Type 0) → (state.staging ≡ None → P (record state { main = top }))
    → ((graph : Graph) → state.staging ≡ Some graph → P (record state { staging = Some top }))
    → P (with_top state top)
of_top state top P alone both = by state.staging refl
  where
    by : (staging : Option Graph) → state.staging ≡ staging → P (with_top state top)
    by None is = subst P
        (sym (ap (λ (o : Option Graph). elim o as (λ _. PlainState) [ None ↦ record state { main = top } | Some _ ↦ record state { staging = Some top } ]) is))
        (alone is)
    by (Some graph) is = subst P
        (sym (ap (λ (o : Option Graph). elim o as (λ _. PlainState) [ None ↦ record state { main = top } | Some _ ↦ record state { staging = Some top } ]) is))
        (both graph is)

pub top_is : (state : PlainState) (graph : Graph) → state.staging ≡ Some graph → level_of state Top ≡ graph
top_is state graph is = ap (top_of state.main) is

pub top_main : (state : PlainState) → state.staging ≡ None → level_of state Top ≡ state.main
top_main state is = ap (top_of state.main) is

-- ---- `add`

pub fee_stable : (fee : ℤ) → ((IsFee fee → ⊥) → ⊥) → IsFee fee
fee_stable fee nn = le_stable (unsigned_abs fee) MAX_FEE nn

size_stable : (size : ℕ) → ((IsSize size → ⊥) → ⊥) → IsSize size
size_stable size nn = (le_stable 1 size (λ none. nn (λ is. none is.0)), le_stable size MAX_SIZE (λ none. nn (λ is. none is.1)))

not_less : (a b : ℕ) → (a < b → ⊥) → b ≤ a
not_less a b none = elim (cases_lt a b) [ inl less ↦ absurd (none less) | inr past ↦ past ]

module _ (old : PlainState) (id : ℕ) (fee : ℤ) (size : ℕ) (valid : IsValid old) (small : id < 2 ^ 64) (row : RefusalIs old (Add id fee size) None) where
  abbrev entry : Entry
  entry = record { fee = fee; size = size }

  abbrev base : PlainState
  base = record (begun old) { table = finmap.insert old.table id entry }

  good_fee : IsFee fee
  good_fee = fee_stable fee (row_on row).0

  good_size : IsSize size
  good_size = size_stable size (row_on (row_on row).1).0

  absent : IsLive old id → ⊥
  absent = (row_on (row_on (row_on row).1).1).0

  fits : size ≤ old.limits.size
  fits = not_less old.limits.size size (row_on (row_on (row_on (row_on row).1).1).1).0

  room : (old.limits.total ≤ finmap.len old.table) → ⊥
  room = (row_on (row_on (row_on (row_on (row_on row).1).1).1).1).0

  not_kept : IsKept old id → ⊥
  not_kept kept = absent ((valid.live id).1 kept)

  same_sizes : (q : ℕ) → IsKept old q → size_of base.table q ≡ size_of old.table q
  same_sizes q kept = ap size_in (get-put_other old.table id q entry (λ e. not_kept (subst (IsKept old) e kept)))

  abbrev top : Graph
  top = with_more (level_of old Top) id

  more_top : IsLevel base top
  more_top = level_added old base (level_of old Top) id refl valid.limits.count_low
      (subst (λ n. n ≤ old.limits.size) (sym (ap size_in (get-put_same old.table id id entry refl))) fits) small (λ here. not_kept (inr here))
      (λ q here. same_sizes q (inr here)) (top_level old valid)

  few : finmap.len base.table ≤ old.limits.total
  few =
      let long : finmap.len base.table ≡ cond (finmap.contains_key old.table id) (finmap.len old.table) (finmap.len old.table + 1) =
      finmap.len-insert nat_cmp_total old.table id entry in
      let none : cond (finmap.contains_key old.table id) (finmap.len old.table) (finmap.len old.table + 1) ≡ finmap.len old.table + 1 =
      ap (λ b. cond b (finmap.len old.table) (finmap.len old.table + 1)) (false_from_ne_true (finmap.contains_key old.table id) absent) in
      let left : finmap.len old.table < old.limits.total =
      elim (cases_lt (finmap.len old.table) old.limits.total) [ inl less ↦ less | inr past ↦ absurd (room past) ] in
      omega arith

  rates : (q : ℕ) (e : Entry) → finmap.get base.table q ≡ Some e → IsFee e.fee × IsSize e.size
  rates q e is = elim (cases_eq q id) [
    | inl same ↦ subst (λ (x : Entry). IsFee x.fee × IsSize x.size) (one entry e (sym (get-put_same old.table id q entry same) ∙ is)) (good_fee, good_size)
    | inr other ↦ valid.rates q e (sym (get-put_other old.table id q entry other) ∙ is)
  ]
    where
      one : (a b : Entry) → Some a ≡ Some b → a ≡ b
      one a b same = cc

  live_new : (new : PlainState) → new.table ≡ base.table → ((q : ℕ) → IsKept new q ↔ (IsKept old q ⊎ (q ≡ id))) → (q : ℕ) → IsLive new q ↔ IsKept new q
  live_new new table kept q = (
    λ live. (kept q).1 (elim (cases_eq q id) [
      | inl same ↦ inr same
      | inr other ↦ inl ((valid.live q).0 (sym (ap is_some (ap (λ (t : Table). finmap.get t q) table ∙ get-put_other old.table id q entry other)) ∙ live))
    ]),
    λ is. ap is_some (ap (λ (t : Table). finmap.get t q) table) ∙ elim (cases_eq q id) [
      | inl same ↦ ap is_some (get-put_same old.table id q entry same)
      | inr other ↦ ap is_some (get-put_other old.table id q entry other)
          ∙ (valid.live q).1 (elim ((kept q).0 is) [ inl was ↦ was | inr same ↦ absurd (other same) ])
    ],
  )

  in_more : (graph : Graph) (q : ℕ) → Contains (with_more graph id).names q ↔ (Contains graph.names q ⊎ (q ≡ id))
  in_more graph q = (
    λ here. elim (Contains-push_cases graph.names id q here) [ inl was ↦ inl was | inr same ↦ inr (sym same) ],
    λ here.
        elim here [
          | inl was ↦ Contains-append_left graph.names (id ∷ []) q was
          | inr same ↦ subst (Contains (with_more graph id).names) (sym same)
              (Contains-push graph.names id)
        ],
  )

  pub valid_added : IsValid (added old id fee size)
  valid_added = of_top base top IsValid
      (λ alone. record {
        limits = valid.limits;
        main = same_level base (record base { main = top }) top refl (λ q here. refl) more_top;
        staging = subst (IsStaging (record base { main = top })) (sym alone) tt;
        live = live_new (record base { main = top }) refl (λ q.
            let as_top : level_of (record base { main = top }) Top ≡ top = ap (top_of top) alone in (
              λ kept. elim kept [
                | inl here ↦ elim ((in_more (level_of old Top) q).0 here) [ inl was ↦ inl (inr was) | inr same ↦ inr same ]
                | inr here ↦ elim ((in_more (level_of old Top) q).0
                    (subst (λ (g : Graph). Contains g.names q) as_top here)) [ inl was ↦ inl (inr was) | inr same ↦ inr same ]
              ],
              λ is. inl ((in_more (level_of old Top) q).1 (elim is [
                | inl kept ↦ elim kept [ inl main ↦ inl (subst (λ (g : Graph). Contains g.names q) (sym (top_main old alone)) main) | inr there ↦ inl there ]
                | inr same ↦ inr same
              ])),
            ));
        few = few;
        rates = rates;
        blocks = valid.blocks;
        block_count = valid.block_count;
        fresh = λ not_yet. absurd (true≢false not_yet);
      })
      (λ graph open_is. record {
        limits = valid.limits;
        main = same_level old (record base { staging = Some top }) old.main refl (λ q here. same_sizes q (inl here)) valid.main;
        staging = same_level base (record base { staging = Some top }) top refl (λ q here. refl) more_top;
        live = live_new (record base { staging = Some top }) refl (λ q. (
          λ kept. elim kept [
            | inl here ↦ inl (inl here)
            | inr here ↦ elim ((in_more (level_of old Top) q).0 here) [ inl was ↦ inl (inr was) | inr same ↦ inr same ]
          ],
          λ is. elim is [
            | inl kept ↦ elim kept [ inl main ↦ inl main | inr there ↦ inr ((in_more (level_of old Top) q).1 (inl there)) ]
            | inr same ↦ inr ((in_more (level_of old Top) q).1 (inr same))
          ],
        ));
        few = few;
        rates = rates;
        blocks = valid.blocks;
        block_count = valid.block_count;
        fresh = λ not_yet. absurd (true≢false not_yet);
      })

-- ---- another graph at the top, of the names that it had

-- A graph at the top with the names that the top had, within the limits: the table stays.
retopped : (old : PlainState) (top : Graph) → IsValid old → IsLevel old top
    → ((q : ℕ) → Contains top.names q ↔ Contains (level_of old Top).names q) → IsValid (with_top (begun old) top)
retopped old top valid level same = of_top (begun old) top IsValid
    (λ alone. record {
      limits = valid.limits;
      main = same_level old (record (begun old) { main = top }) top refl (λ q here. refl) level;
      staging = subst (IsStaging (record (begun old) { main = top })) (sym alone) tt;
      live = λ q.
          let as_top : level_of (record (begun old) { main = top }) Top ≡ top = ap (top_of top) alone in (
            λ live. inl ((same q).1
                (elim ((valid.live q).0 live) [ inl main ↦ subst (λ (g : Graph). Contains g.names q) (sym (top_main old alone)) main | inr there ↦ there ])),
            λ kept. (valid.live q).1 (inr ((same q).0 (elim kept [ inl here ↦ here | inr here ↦ subst (λ (g : Graph). Contains g.names q) as_top here ]))),
          );
      few = valid.few;
      rates = valid.rates;
      blocks = valid.blocks;
      block_count = valid.block_count;
      fresh = λ not_yet. absurd (true≢false not_yet);
    })
    (λ graph open_is. record {
      limits = valid.limits;
      main = same_level old (record (begun old) { staging = Some top }) old.main refl (λ q here. refl) valid.main;
      staging = same_level old (record (begun old) { staging = Some top }) top refl (λ q here. refl) level;
      live = λ q. (
        λ live. elim ((valid.live q).0 live) [ inl main ↦ inl main | inr there ↦ inr ((same q).1 there) ],
        λ kept. (valid.live q).1 (elim kept [ inl main ↦ inl main | inr there ↦ inr ((same q).0 there) ]),
      );
      few = valid.few;
      rates = valid.rates;
      blocks = valid.blocks;
      block_count = valid.block_count;
      fresh = λ not_yet. absurd (true≢false not_yet);
    })

pub valid_begun : (old : PlainState) → IsValid old → IsValid (begun old)
valid_begun old valid = record {
  limits = valid.limits;
  main = same_level old (begun old) old.main refl (λ q here. refl) valid.main;
  staging = staging_along old (begun old) old.staging refl (λ graph is q here. refl) valid.staging;
  live = valid.live;
  few = valid.few;
  rates = valid.rates;
  blocks = valid.blocks;
  block_count = valid.block_count;
  fresh = λ not_yet. absurd (true≢false not_yet);
}

-- ---- `dep`

pub valid_paired : (old new : PlainState) (parent child : ℕ) → IsValid old → RefusalIs old (Dep parent child) None → AddsPair old parent child new → IsValid new
valid_paired old new parent child valid row adds = elim adds [
  | inl there ↦ subst IsValid (sym there.1) (valid_begun old valid)
  | inr fresh ↦
      let graph : Graph = level_of old Top in
      let level : IsLevel old graph = top_level old valid in
      let one = row_on row in let two = row_on one.1 in let three = row_on two.1 in let four = row_at_on three.1 in let five = row_at_on four.1 in
      let parent_in : Contains graph.names parent = stable graph.names parent one.0 in
      let child_in : Contains graph.names child = stable graph.names child two.0 in
      let whole : IsGraph (with_pair graph parent child) = record {
        names = level.whole.names;
        pairs = distinct_push graph.pairs (parent, child) level.whole.pairs fresh.0;
        ends = λ a b here. elim (Contains-push_cases graph.pairs (parent, child) (a, b) here) [
          | inl was ↦ level.whole.ends a b was
          | inr same ↦ subst (λ (pair : ℕ × ℕ). Contains graph.names pair.0 × Contains graph.names pair.1) same (parent_in, child_in)
        ];
        acyclic = (no_cycle_with_pair graph.pairs parent child level.whole.acyclic).1 three.0;
      } in
      let joint : IsLevel old (with_pair graph parent child) = level_joined old graph parent child level parent_in child_in
      (λ strict members joins. (
        not_less old.limits.count (length members) (λ over. four.0 (length members) (members, strict, joins, refl, over)),
        not_less old.limits.size (sum_by (size_of old.table) members)
            (λ over. five.0 (sum_by (size_of old.table) members) (members, strict, joins, refl, over)),
      )) whole in
      subst IsValid (sym fresh.1) (retopped old (with_pair graph parent child) valid joint (λ q. (λ here. here, λ here. here)))
]
  where
    stable : (names : List ℕ) (id : ℕ) → ((Contains names id → ⊥) → ⊥) → Contains names id
    stable names id nn = elim (told_number names id) [ inl here ↦ here | inr none ↦ absurd (nn none) ]
