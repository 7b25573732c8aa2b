-- What mining and eviction need of the levels that are kept.
use Rattle.std.proofs.Common.{◌≡◌, ◌≢◌, ℕ, true, false, List, [], ◌∷◌, ◌++◌, map, flat_map, sym, refl, ap, subst, subst₂, ◌∙◌, inl, inr, ◌↔◌, Option, None, Some, is_some, true≢false}
use Rattle.std.specs.Prelude.{Contains, Bool, All, Ok, slice_index_or, ◌<◌, ◌^◌}
use Rattle.std.proofs.lemmas.Bool.{false_from_ne_true}
use Rattle.std.proofs.lemmas.List.{map-append, get_or_default}
use Rattle.std.proofs.lemmas.List.Elements.{Contains-append_left, Contains-append_right}
use Rattle.lists.specs.Distinct.{AreDistinct}
use Rattle.lists.proofs.Cases.{none_of}
use Rattle.lists.proofs.Entries.{none_in_empty, Contains-head}
use Rattle.lists.proofs.Flats.{flat_has, flat_part_once}
use Rattle.graphs.specs.declared.names.Level.TheVariants.{Main, Top}
use Rattle.graphs.specs.Closures.{is_member}
use Rattle.graphs.specs.Certificates.{Part}
use Rattle.graph_model.specs.declared.names.Picked.{Picked}
use Rattle.graph_model.specs.declared.names.Refusal.{Refusal}
use Rattle.graph_model.specs.declared.names.Refusal.TheVariants.{Twice, Unknown, Parent, Staging, Empty, Oversized}
use Rattle.graph_model.specs.States.{PlainState, top_of}
use Rattle.graph_model.specs.Commands.{Mine, Evict, HasTypes}
use Rattle.graph_model.specs.Changes.{IsLast}
use Rattle.graph_model.specs.Replies.{Done, Evicted, Refused, evicted_reply}
use Rattle.graph_model.specs.Refusals.{IsFirst, IsAbsent, LacksAncestor, MineRow}
use Rattle.graph_model.proofs.FirstLemmas.{first_in}
use Rattle.graph_model.proofs.RowLemmas.{first_at_along}
use Rattle.graph_model.proofs.MinedLemmas.{can_mine}
use Rattle.graph_model.proofs.PickReplies.{last_same}
use Rattle.cluster_store.specs.Stores.{Shown}
use Rattle.levels.specs.Levels.{OneLevel, Levels, ChangesTop, LosesNames, HasPick, HavePicks, IsBest, IsWithin, level_at}
use Rattle.levels.specs.Lefts.{DropsWithin}
use Rattle.levels.specs.Oversize.{IsOversized}
use Rattle.levels.specs.Mining.{LacksListed, MineRefusalIs}
use Rattle.tx_graph.specs.Dropped.{IsPicked, LastFails}
use Rattle.tx_graph.specs.Kept.{Kept, StandsPlainly, MakesStep}
use Rattle.tx_graph.specs.Sound.{IsSound}
use Rattle.tx_graph.proofs.Calls.{kept_of, topped_same}
use Rattle.tx_graph.proofs.Lost.{steps_mined, steps_evicted}
use Rattle.tx_graph.proofs.Oversizing.{none_in_none, oversized_at}
use Rattle.tx_graph.proofs.Picked.{pick_at}
use Rattle.tx_graph.proofs.Rows.{ordered_row}
use Rattle.tx_graph.proofs.Standing.{Meets, named, staged, steps_refused, steps_without_memory, told}

-- ---- the row of mining

-- a property of the names of a list may be told in other words, where they agree on these
first_among : (P Q : ℕ → Type 0) (ids : List ℕ) → ((n : ℕ) → Contains ids n → P n → Q n) → ((n : ℕ) → Contains ids n → Q n → P n) → (id : ℕ)
    → IsFirst (λ before n. P n) ids id → IsFirst (λ before n. Q n) ids id
first_among P Q ids to from id first = record {
  before = first.before;
  after = first.after;
  cut = first.cut;
  has = to id (first_in (λ before n. P n) ids id first) first.has;
  earlier = λ front rest other at holds. first.earlier front rest other at (from other (listed front rest other at) holds);
}
  where
    listed : (front rest : List ℕ) (other : ℕ) → first.before ≡ front ++ other ∷ rest → Contains ids other
    listed front rest other at =
        subst (λ ns. Contains ns other) (sym first.cut)
        (Contains-append_left first.before (id ∷ first.after) other
        (subst (λ ns. Contains ns other) (sym at) (Contains-append_right front (other ∷ rest) other (Contains-head other rest))))

module _ (kept : Kept) (ids : List ℕ) (state : PlainState) (stands : StandsPlainly kept state) where
  abbrev main : OneLevel
  main = kept.levels.main

  absent : (id : ℕ) → (is_member main.graph id ≡ false) ↔ IsAbsent state Main id
  absent id = (
    λ fails here. true≢false (sym ((named kept state stands Main id).0 here) ∙ fails),
    λ none. false_from_ne_true (is_member main.graph id) (λ holds. none ((named kept state stands Main id).1 holds)),
  )

  lacks_to : (id : ℕ) → Contains ids id → LacksListed main.graph ids id → LacksAncestor state ids id
  lacks_to id here (a, up, out) = (a, (told main state.main stands.main a id).1 (inr up), out)

  lacks_from : (id : ℕ) → Contains ids id → LacksAncestor state ids id → LacksListed main.graph ids id
  lacks_from id here (a, walk, out) = elim ((told main state.main stands.main a id).0 walk) [
    | inl same ↦ absurd (out (subst (Contains ids) (sym same) here))
    | inr up ↦ (a, up, out)
  ]

  row_told : (found : Option Refusal) → MineRefusalIs main.graph ids found → MineRow (IsAbsent state Main) (LacksAncestor state ids) ids found
  row_told found =
      first_at_along Twice (λ id. (λ here. here, λ here. here))
      (first_at_along Unknown (λ id. (
        first_among (λ n. is_member main.graph n ≡ false) (IsAbsent state Main) ids (λ n here. (absent n).0) (λ n here. (absent n).1) id,
        first_among (IsAbsent state Main) (λ n. is_member main.graph n ≡ false) ids (λ n here. (absent n).1) (λ n here. (absent n).0) id,
      ))
      (first_at_along Parent (λ id. (
        first_among (LacksListed main.graph ids) (LacksAncestor state ids) ids lacks_to lacks_from id,
        first_among (LacksAncestor state ids) (LacksListed main.graph ids) ids lacks_from lacks_to id,
      )) (λ none. none)))

pub mine_row : (kept : Kept) (ids : List ℕ) (found : Option Refusal) → is_some kept.levels.staging ≡ false → MineRefusalIs kept.levels.main.graph ids found
    → Meets kept (Mine ids) found
mine_row kept ids found alone row state stands =
    inr (λ there. true≢false (sym there ∙ staged kept state stands ∙ alone), row_told kept ids state stands found row)

pub mine_staged : (kept : Kept) (ids : List ℕ) → is_some kept.levels.staging ≡ true → Meets kept (Mine ids) (Some Staging)
mine_staged kept ids is state stands = inl (staged kept state stands ∙ is, refl)

-- names that may be mined are names of main, each of them once
pub may_mine : (kept : Kept) (ids : List ℕ) → IsSound kept → is_some kept.levels.staging ≡ false → MineRefusalIs kept.levels.main.graph ids None
    → AreDistinct ids × ((id : ℕ) → Contains ids id → is_member kept.levels.main.graph id ≡ true)
may_mine kept ids sound alone row =
    let some = sound.stands in
    let can = can_mine some.0.plain ids (mine_row kept ids None alone row some.0.plain some.1.plain) in
    (can.once, λ id here. (named kept some.0.plain some.1.plain Main id).0 (can.inside id here))

-- the names of a list are of 64 bits
pub all_small : (ids : List ℕ) → ((i : ℕ) → slice_index_or ids i 0 < 2 ^ 64) → All (λ id. id < 2 ^ 64) ids
all_small ids fits k d low = subst (λ x. x < 2 ^ 64) (get_or_default ids k 0 d low) (fits k)

-- ---- the row of eviction

pub evict_staged : (kept : Kept) → is_some kept.levels.staging ≡ true → Meets kept Evict (Some Staging)
evict_staged kept is state stands = inl (staged kept state stands ∙ is, refl)

-- a list that isn't empty has a name
pub some_in : (ids : List ℕ) → ids ≢ [] → (id : ℕ) × Contains ids id
some_in [] some = absurd (some refl)
some_in (id ∷ ids) some = (id, Contains-head id ids)

-- a list that has nothing
nothing_in : (xs : List ℕ) → ((x : ℕ) → Contains xs x → ⊥) → xs ≡ []
nothing_in [] none = refl
nothing_in (x ∷ xs) none = absurd (none x (Contains-head x xs))

pub evict_empty : (kept : Kept) → is_some kept.levels.staging ≡ false → HasPick kept.levels.main → kept.levels.main.parts ≡ [] → Meets kept Evict (Some Empty)
evict_empty kept alone pick none state stands =
    let order = (pick.picked state.main stands.main.closure).certificate.order.topological in
    inr (
      λ there. true≢false (sym there ∙ staged kept state stands ∙ alone),
      inl (
        nothing_in state.main.names (λ id here.
            none_in_empty id (subst (λ ps. Contains (flat_map (λ (p : Part). p.ids) ps) id) none ((order.names id).1 here))),
        refl,
      ),
    )

-- a level without names isn't over the limits, so one that is has a name
pub evict_over : (kept : Kept) → is_some kept.levels.staging ≡ false → IsOversized kept.levels.limits kept.levels.main.graph → Meets kept Evict (Some Oversized)
evict_over kept alone over state stands = inr (
  λ there. true≢false (sym there ∙ staged kept state stands ∙ alone),
  inr (
    λ empty. none_in_none kept.levels.limits kept.levels.main.graph
        (λ id live. none_in_empty id (subst (λ ns. Contains ns id) empty ((named kept state stands Main id).1 live))) over,
    inl ((oversized_at kept state stands Main).0 over, refl),
  ),
)

pub evict_row : (kept : Kept) (id : ℕ) → IsWithin kept.levels Main → is_some kept.levels.staging ≡ false → is_member kept.levels.main.graph id ≡ true → Meets kept Evict None
evict_row kept id within alone live state stands = inr (
  λ there. true≢false (sym there ∙ staged kept state stands ∙ alone),
  inr (
    λ empty. none_in_empty id (subst (λ ns. Contains ns id) empty ((named kept state stands Main id).1 live)),
    ordered_row kept Main within state stands,
  ),
)

-- the last part that a walk shows
pub shown_last : (parts : List Part) (walk rest : List Shown) (s : Shown) → map (λ (x : Shown). x.part) walk ≡ parts → walk ≡ rest ++ s ∷ []
    → IsLast parts s.part
shown_last parts walk rest s told ends =
    (map (λ (x : Shown). x.part) rest, sym told ∙ ap (map (λ (x : Shown). x.part)) ends ∙ map-append (λ (x : Shown). x.part) rest (s ∷ []))

-- the names of a last part are names of main, each of them once
pub record IsInMain (levels : Levels) (ids : List ℕ) : Type 0 where
  pub once : AreDistinct ids
  pub live : (id : ℕ) → Contains ids id → is_member levels.main.graph id ≡ true
  pub some : (id : ℕ) × Contains ids id

pub last_in : (kept : Kept) → IsSound kept → HasPick kept.levels.main → (part : Part) → IsLast kept.levels.main.parts part → IsInMain kept.levels part.ids
last_in kept sound has part last =
    let state = sound.stands.0.plain in
    let stands = sound.stands.1.plain in
    let parts = kept.levels.main.parts in
    let pick = (has.picked state.main stands.main.closure).certificate in
    let here : Contains parts part = subst (λ ps. Contains ps part) (sym last.1) (Contains-append_right last.0 (part ∷ []) part (Contains-head part [])) in
    record {
      once = flat_part_once (λ (p : Part). p.ids) parts part pick.order.topological.once here;
      live = λ id there.
          (named kept state stands Main id).0 ((pick.order.topological.names id).0 (flat_has (λ (p : Part). p.ids) parts part id here there));
      some = some_in part.ids (pick.filled part here);
    }

pub last_refused : (kept : Kept) → IsSound kept → is_some kept.levels.staging ≡ false → (why : Refusal) → LastFails kept.levels why
    → MakesStep kept kept Evict (Refused why)
last_refused kept sound alone why fails = elim fails [
  | inl over ↦
      subst (λ w. MakesStep kept kept Evict (Refused w)) (sym over.0)
      (steps_refused kept Evict Oversized (evict_over kept alone over.1))
  | inr later ↦
      let has = pick_at kept.levels Main sound.picked later.0 in
      elim later.1 [
        | inl none ↦
            subst (λ w. MakesStep kept kept Evict (Refused w)) (sym none.0)
            (steps_refused kept Evict Empty (evict_empty kept alone has none.1))
        | inr lacks ↦
            let in_main = last_in kept sound has lacks.1.0 lacks.1.1 in
            subst (λ w. MakesStep kept kept Evict (Refused w)) (sym lacks.0)
            (steps_without_memory kept Evict tt (evict_row kept in_main.some.0 later.0 alone (in_main.live in_main.some.0 in_main.some.1)))
      ]
]

-- ---- names that go from main

-- without a staging the top level is main
pub top_main : (levels : Levels) → is_some levels.staging ≡ false → level_at levels Top ≡ levels.main
top_main levels alone = ap (top_of levels.main) (none_of levels.staging alone)

-- a change of the top level is then one of main, and no staging is open after it
lost_main : (old new : Levels) (ids : List ℕ) → is_some old.staging ≡ false → ChangesTop (λ a b. LosesNames a b ids) old new
    → LosesNames old.main.graph new.main.graph ids × (new.staging ≡ None) × (new.limits ≡ old.limits)
lost_main old new ids alone change =
    let topped = topped_same old new change.0 change.2 in
    let made = topped.alone (none_of old.staging alone) in (
      subst₂ (λ (a b : OneLevel). LosesNames a.graph b.graph ids) (top_main old alone) (sym made.0) change.1,
      made.1,
      topped.limits,
    )

module _ (most : ℕ) (begun : Bool) (old new : Levels) (picked : HavePicks new) (alone : is_some old.staging ≡ false) where
  abbrev before : Kept
  before = kept_of most begun old

  abbrev after : Kept
  after = kept_of most true new

  pub mine_step : (ids : List ℕ) → IsSound before → HasTypes (Mine ids) → MineRefusalIs old.main.graph ids None
      → ChangesTop (λ a b. LosesNames a b ids) old new → MakesStep before after (Mine ids) Done
  mine_step ids sound small row change =
      let lost = lost_main old new ids alone change in
      let one = some_in ids small.0 in
      steps_mined before after ids lost.2 refl refl (none_of old.staging alone) lost.1 lost.0 one.0 one.1
      ((may_mine before ids sound alone row).1 one.0 one.1) picked small (mine_row before ids None alone row)

  pub evict_step : (part : Part) → IsWithin old Main → IsBest old.main → IsLast old.main.parts part → (id : ℕ) → Contains part.ids id → is_member old.main.graph id ≡ true
      → ChangesTop (λ a b. LosesNames a b part.ids) old new → MakesStep before after Evict (Evicted part.rate part.ids)
  evict_step part within best last id here live change =
      let lost = lost_main old new part.ids alone change in
      steps_evicted before after part lost.2 refl refl (none_of old.staging alone) lost.1 lost.0 within best last id here live picked
      (evict_row before id within alone live)

-- what is told of a part is the reply
pub picked_told : (part : Part) (picked : Picked) → IsPicked part picked → Evicted part.rate part.ids ≡ evicted_reply (Ok picked)
picked_told part picked is = λ i. Evicted (record { fee = sym is.fee i; size = sym is.size i }) (sym is.ids i)

-- the steps of a call that drops the last part of main
pub dropped_last : (levels : Levels) (start end : ℕ) (ids : List ℕ) (last : Part) → IsLast levels.main.parts last → is_some levels.staging ≡ false
    → ids ≡ last.ids → DropsWithin levels.limits ids (level_at levels Top).graph start end
    → (part : Part) → IsLast levels.main.parts part → DropsWithin levels.limits part.ids levels.main.graph start end
dropped_last levels start end ids last one alone same drops part two =
    subst₂ (λ (ns : List ℕ) (level : OneLevel). DropsWithin levels.limits ns level.graph start end)
    (same ∙ ap (λ (p : Part). p.ids) (last_same levels.main.parts last part one two)) (top_main levels alone) drops
