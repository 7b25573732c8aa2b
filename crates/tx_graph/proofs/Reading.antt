-- The steps of the readings of names.
use Rattle.std.proofs.Common.{◌≡◌, ℕ, true, List, length, sym, refl, ap, subst, ◌∙◌, inl, inr, ◌⊎◌, None}
use Rattle.std.specs.FinMap as finmap
use Rattle.graphs.specs.declared.names.Level.{Level}
use Rattle.graphs.specs.Closures.{is_member, is_ancestor, AreLinked}
use Rattle.graphs.specs.Graphs.{Graph, IsAncestor, AreConnected, Lists}
use Rattle.graphs.proofs.ListLemmas.{Lists-for}
use Rattle.graph_model.specs.Commands.{Command, Cluster, Ancestors, Descendants, Count}
use Rattle.graph_model.specs.Replies.{Reply, Ids, Number}
use Rattle.graph_model.specs.States.{State, level_of}
use Rattle.graph_model.specs.Steps.{AcceptsPlainly, KeepsPicks}
use Rattle.lists.proofs.Keys.{len-names}
use Rattle.levels.specs.Levels.{OneLevel, HavePicks, IsWithin, level_at}
use Rattle.tx_graph.specs.Kept.{Kept, IsGraphOf, StandsFor, MakesStep}
use Rattle.tx_graph.proofs.Standing.{Meets, graph_at, order_kept, told, connected-linked}
use Rattle.tx_graph.proofs.Picked.{KeepsCommand, are_picks}
use Rattle.tx_graph.proofs.Rows.{name_row}

-- a state keeps its picks where nothing changes
keeps_itself : (kept : Kept) (state : State) → HavePicks kept.levels → StandsFor kept state → KeepsPicks state state
keeps_itself kept state picked stands = record {
  picks = are_picks kept state.plain state.picks picked stands.plain stands.picks;
  main = λ _ _. refl;
  staging = λ _ _ _ _. refl;
}

-- a reading is answered from what the graph stands for
pub steps_told : (kept : Kept) (command : Command) (reply : Reply) → HavePicks kept.levels → KeepsCommand command → Meets kept command None
    → ((state : State) → StandsFor kept state → AcceptsPlainly state.picks state.plain command reply state.plain) → MakesStep kept kept command reply
steps_told kept command reply picked follow none answered state stands = (
  state,
  stands,
  inr (inr (record {
    none = none state.plain stands.plain;
    accepts = record { plain = answered state stands; picks = follow state state (keeps_itself kept state picked stands) };
  })),
)

-- ---- how many names

len_level : (level : OneLevel) (graph : Graph) → IsGraphOf level graph → finmap.len level.graph ≡ length graph.names
unfolding is_member
len_level level graph of = sym (len-names graph.names level.graph of.valid.names of.closure.names)

pub steps_counted : (kept : Kept) (level : Level) (n : ℕ) → HavePicks kept.levels → n ≡ finmap.len (level_at kept.levels level).graph
    → MakesStep kept kept (Count level) (Number n)
steps_counted kept level n picked long =
    steps_told kept (Count level) (Number n) picked (λ a b kept. kept) (λ state stands. refl) (λ state stands. record {
      answer = ap Number (long ∙ len_level (level_at kept.levels level) (level_of state.plain level) (graph_at kept state.plain stands.plain level));
      change = refl;
    })

-- ---- the names of a cluster, ancestors and descendants

module _ (level : OneLevel) (graph : Graph) (of : IsGraphOf level graph) (id : ℕ) (ids : List ℕ) (live : is_member level.graph id ≡ true) where
  -- a name of a level is an ancestor of itself
  pub above_of : (a d : ℕ) → (a ≡ id) ⊎ (d ≡ id) → IsAncestor graph.pairs a d → is_ancestor level.graph a d ≡ true
  above_of a d one walk = elim ((told level graph of a d).0 walk) [
    | inl same ↦
        let is : d ≡ id = elim one [ inl first ↦ sym same ∙ first | inr second ↦ second ] in
        subst (λ x. is_ancestor level.graph x d ≡ true) (sym same)
        (subst (λ x. is_ancestor level.graph x x ≡ true) (sym is) ((order_kept level graph of).reflexive id live))
    | inr up ↦ up
  ]

  names_linked : Lists (λ q. AreLinked level.graph id q) ids → Lists (AreConnected graph.pairs id) ids
  names_linked = Lists-for (λ q. AreLinked level.graph id q) (AreConnected graph.pairs id) ids
      (λ q linked. (connected-linked level graph of id q).1 linked) (λ q trail. (connected-linked level graph of id q).0 trail)

  names_above : Lists (λ q. is_ancestor level.graph q id ≡ true) ids → Lists (λ a. IsAncestor graph.pairs a id) ids
  names_above = Lists-for (λ q. is_ancestor level.graph q id ≡ true) (λ a. IsAncestor graph.pairs a id) ids
      (λ q up. (told level graph of q id).1 (inr up)) (λ q walk. above_of q id (inr refl) walk)

  names_below : Lists (λ q. is_ancestor level.graph id q ≡ true) ids → Lists (λ d. IsAncestor graph.pairs id d) ids
  names_below = Lists-for (λ q. is_ancestor level.graph id q ≡ true) (λ d. IsAncestor graph.pairs id d) ids
      (λ q up. (told level graph of id q).1 (inr up)) (λ q walk. above_of id q (inl refl) walk)

module _ (kept : Kept) (level : Level) (id : ℕ) (ids : List ℕ) (picked : HavePicks kept.levels) (within : IsWithin kept.levels level)
    (live : is_member (level_at kept.levels level).graph id ≡ true) where
  abbrev at : OneLevel
  at = level_at kept.levels level

  pub steps_clustered : Lists (λ q. AreLinked at.graph id q) ids → MakesStep kept kept (Cluster id level) (Ids ids)
  steps_clustered lists =
      steps_told kept (Cluster id level) (Ids ids) picked (λ a b kept. kept) (name_row kept level id within live) (λ state stands. record {
        answer = (ids, names_linked at (level_of state.plain level) (graph_at kept state.plain stands.plain level) id ids live lists, refl);
        change = refl;
      })

  pub steps_ascended : Lists (λ q. is_ancestor at.graph q id ≡ true) ids → MakesStep kept kept (Ancestors id level) (Ids ids)
  steps_ascended lists =
      steps_told kept (Ancestors id level) (Ids ids) picked (λ a b kept. kept) (name_row kept level id within live) (λ state stands. record {
        answer = (ids, names_above at (level_of state.plain level) (graph_at kept state.plain stands.plain level) id ids live lists, refl);
        change = refl;
      })

  pub steps_descended : Lists (λ q. is_ancestor at.graph id q ≡ true) ids → MakesStep kept kept (Descendants id level) (Ids ids)
  steps_descended lists =
      steps_told kept (Descendants id level) (Ids ids) picked (λ a b kept. kept) (name_row kept level id within live) (λ state stands. record {
        answer = (ids, names_below at (level_of state.plain level) (graph_at kept state.plain stands.plain level) id ids live lists, refl);
        change = refl;
      })
