-- A set of names is dropped from the top level, with all its descendants there.
use Rattle.std.proofs.Common.{◌≡◌, ◌≢◌, ℕ, true, false, nat_eq, length, true≢false, List, [], ◌∷◌, sym, refl, ap, subst, ◌∙◌, inl, inr, Some}
use Rattle.std.specs.Prelude.{Bool, Contains}
use Rattle.lists.proofs.Entries.{none_in_empty}
use Rattle.graphs.specs.declared.names.Level.TheVariants.{Top}
use Rattle.graphs.specs.Closures.{is_member}
use Rattle.graphs.specs.Graphs.{Graph}
use Rattle.graphs.specs.Drops.{HasChildren, DropsNames}
use Rattle.graphs.proofs.DropLemmas.{some_left}
use Rattle.graphs.proofs.WalkLemmas.{walk_of_pair}
use Rattle.graph_model.specs.Changes.{begun, DropsFromTop, Forgets}
use Rattle.graph_model.specs.States.{PlainState, level_of, with_top}
use Rattle.graph_model.proofs.ChangeLemmas.{valid_begun}
use Rattle.graph_model.proofs.StepLemmas.{valid_lessened}
use Rattle.levels.specs.Levels.{OneLevel, Levels, ChangesTop, HavePicks, LosesNames, level_at}
use Rattle.tx_graph.specs.Dropped.{DropsSet, HasDescendants, MayGo}
use Rattle.tx_graph.specs.Kept.{Kept, StandsPlainly, Leads, entry_of}
use Rattle.tx_graph.proofs.Calls.{kept_of, topped_same}
use Rattle.tx_graph.proofs.Lost.{graph_lost, other_lost}
use Rattle.tx_graph.proofs.Mined.{some_in}
use Rattle.tx_graph.proofs.Picked.{are_picks, picks_follow}
use Rattle.tx_graph.proofs.Standing.{StandsBarely, graph_at, made_valid, told}
use Rattle.tx_graph.proofs.Tables.{left_topped}
use Rattle.tx_graph.proofs.Tops.{AreTopped, keeps_topped}

-- a list with a name is dropped with its pairs
dropped_from : (old new : PlainState) (ids : List ℕ) (graph : Graph) (id : ℕ) → Contains ids id → DropsNames (level_of old Top) ids graph
    → Forgets (with_top (begun old) graph) new → DropsFromTop old ids new
dropped_from old new [] graph id here without forgets = absurd (none_in_empty id here)
dropped_from old new (first ∷ ids) graph id here without forgets = (graph, without, forgets)

module _ (old new : Kept) (ids : List ℕ) (most : new.most ≡ old.most) (begins : new.begun ≡ true) where
  abbrev was : OneLevel
  was = level_at old.levels Top

  module _ (top : OneLevel) (loses : LosesNames was.graph top.graph ids) (topped : AreTopped old.levels top new.levels)
      (descendants : HasDescendants was.graph ids) where
    module _ (state : PlainState) (stands : StandsPlainly old state) where
      children : HasChildren (level_of state Top).pairs ids
      children parent child pair here =
          let walk = walk_of_pair (level_of state Top).pairs parent child pair in
          elim ((told was (level_of state Top) (graph_at old state stands Top) parent child).0 (1, walk)) [
            | inl same ↦ subst (Contains ids) same here
            | inr up ↦ descendants parent child here up
          ]

      rest : (graph : Graph) × DropsNames (level_of state Top) ids graph
      rest = some_left (level_of state Top) ids (graph_at old state stands Top).valid

      next : (after : PlainState) × StandsBarely new after × Forgets (with_top (begun state) rest.0) after
      next = left_topped old new top most begins topped state stands rest.0
          (graph_lost was top ids loses (level_of state Top) rest.0 (graph_at old state stands Top) (inr children) rest.1)
          (λ q member.
          let left = (loses.members q).0 member in
          stands.table.names Top q left.1 ∙ ap (λ r. Some (entry_of r)) (sym (loses.rates q left.0)))

      drops : (id : ℕ) → Contains ids id → DropsFromTop state ids next.0
      drops id here = dropped_from state next.0 ids rest.0 id here rest.1 next.2

      stood : (id : ℕ) → Contains ids id → StandsPlainly new next.0
      stood id here = made_valid new next.0 next.1 (valid_lessened state next.0 ids stands.valid (drops id here))

    pub drops_some : (id : ℕ) → Contains ids id → is_member was.graph id ≡ true → HavePicks new.levels → Leads old new (DropsSet ids)
    drops_some id here live picked state stands =
        let plain = next state.plain stands.plain in
        let after = stood state.plain stands.plain id here in
        let picks = picks_follow old new state plain.0 stands after
        (keeps_topped old.levels new.levels top topped picked (other_lost was top ids loses id here live)) in (
          record { plain = plain.0; picks = picks.0 },
          record { plain = after; picks = picks.1 },
          (drops state.plain stands.plain id here, picks.2),
        )

-- a list that a test finds not to be empty
pub some_listed : (ids : List ℕ) (empty : Bool) → empty ≡ nat_eq (length ids) 0 → empty ≡ false → ids ≢ []
some_listed ids empty test is none = true≢false (sym (test ∙ ap (λ (xs : List ℕ). nat_eq (length xs) 0) none) ∙ is)

-- such names are dropped, some at least
pub drops_set : (most : ℕ) (before : Bool) (old new : Levels) (ids : List ℕ) → ids ≢ [] → MayGo (level_at old Top).graph ids
    → ChangesTop (λ a b. LosesNames a b ids) old new → HavePicks new → Leads (kept_of most before old) (kept_of most true new) (DropsSet ids)
drops_set most before old new ids some meets change =
    let one = some_in ids some in
    drops_some (kept_of most before old) (kept_of most true new) ids refl refl change.0 change.1 (topped_same old new change.0 change.2) meets.descendants
    one.0 one.1 (meets.live one.0 one.1)

-- an empty list changes no level
pub drops_none : (most : ℕ) (before : Bool) (levels : Levels) → HavePicks levels → Leads (kept_of most before levels) (kept_of most true levels) (DropsSet [])
drops_none most before levels picked state stands =
    let new = kept_of most true levels in
    let after : StandsPlainly new (begun state.plain) = record {
      limits = stands.plain.limits;
      most = stands.plain.most;
      begun = refl;
      table = stands.plain.table;
      main = stands.plain.main;
      staging = stands.plain.staging;
      valid = valid_begun state.plain stands.plain.valid;
    } in (
      record { plain = begun state.plain; picks = state.picks },
      record { plain = after; picks = record { main = stands.picks.main; staging = stands.picks.staging } },
      (
        refl,
        record {
          picks = are_picks new (begun state.plain) state.picks picked after (record { main = stands.picks.main; staging = stands.picks.staging });
          main = λ _ _. refl;
          staging = λ _ _ _ _. refl;
        },
      ),
    )
