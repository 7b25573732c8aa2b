-- What the graph answers where it is asked for descendants in a main that isn't oversized.
use Rattle.std.proofs.Common.{◌≡◌, ◌↔◌, ℕ, true, List, Some, sym, refl, ap, subst, ◌∙◌, inl, inr}
use Rattle.std.specs.Prelude.{Contains}
use Rattle.lists.proofs.Cases.{some_none}
use Rattle.graphs.specs.declared.names.Level.TheVariants.{Main}
use Rattle.graphs.specs.Closures.{is_member, is_ancestor}
use Rattle.graph_model.specs.declared.names.Refusal.{Refusal}
use Rattle.graph_model.specs.Answers.{Answers}
use Rattle.graph_model.specs.Commands.{Descendants}
use Rattle.graph_model.specs.Refusals.{RefusalIs}
use Rattle.graph_model.specs.Replies.{Reply, Ids, Refused}
use Rattle.graph_model.specs.States.{State}
use Rattle.graph_model.specs.Steps.{Step}
use Rattle.levels.specs.Levels.{IsWithin}
use Rattle.tx_graph.specs.Kept.{Kept, StandsFor, MakesStep}
use Rattle.tx_graph.proofs.Oversizing.{oversized_at}
use Rattle.tx_graph.proofs.Standing.{named, order_kept, told}

module _ (kept : Kept) (id : ℕ) (some : (state : State) × StandsFor kept state) (member : is_member kept.levels.main.graph id ≡ true) where
  abbrev state : State
  state = some.0

  module _ (within : IsWithin kept.levels Main) where
    no_row : (why : Refusal) → RefusalIs state.plain (Descendants id Main) (Some why) → ⊥
    no_row why row = elim row [
      | inl absent ↦ absent.0 ((named kept state.plain some.1.plain Main id).1 member)
      | inr one ↦ elim one.1 [
        | inl over ↦ within ((oversized_at kept state.plain some.1.plain Main).1 over.0)
        | inr none ↦ some_none why none.1
      ]
    ]

    -- it refuses nothing
    pub none_refused : (why : Refusal) → MakesStep kept kept (Descendants id Main) (Refused why) → ⊥
    none_refused why steps =
        let to = steps state some.1 in
        elim to.2 [
          | inl refused ↦ no_row refused.why refused.first
          | inr rest ↦ elim rest [
            | inl lacks ↦ elim lacks [ inl none ↦ none.may | inr gives ↦ gives.may ]
            | inr accepted ↦ no_ids why accepted.accepts.plain.answer.0 accepted.accepts.plain.answer.2
          ]
        ]
      where
        no_ids : (why : Refusal) (ids : List ℕ) → Refused why ≡ Ids ids → ⊥
        no_ids why ids same = cc

  is_below : (d : ℕ) (ids : List ℕ) → Answers state.picks state.plain (Descendants id Main) (Ids ids) → Contains ids d ↔ (is_ancestor kept.levels.main.graph id d ≡ true)
  is_below d ids (listed, lists, same) = (
    λ here. elim ((told kept.levels.main state.plain.main some.1.plain.main id d).0
        ((lists.exact d).0 (subst (λ ns. Contains ns d) (one ids listed same) here))) [
          | inl itself ↦ subst (λ n. is_ancestor kept.levels.main.graph id n ≡ true) itself ((order_kept kept.levels.main state.plain.main some.1.plain.main).reflexive id member)
          | inr up ↦ up
        ],
    λ up. subst (λ ns. Contains ns d) (sym (one ids listed same))
        ((lists.exact d).1 ((told kept.levels.main state.plain.main some.1.plain.main id d).1 (inr up))),
  )
    where
      one : (a b : List ℕ) → Ids a ≡ Ids b → a ≡ b
      one a b same = cc

  -- what it answers are the descendants
  pub told_below : (ids : List ℕ) → MakesStep kept kept (Descendants id Main) (Ids ids) → (d : ℕ)
      → Contains ids d ↔ (is_ancestor kept.levels.main.graph id d ≡ true)
  told_below ids steps d =
      let to = steps state some.1 in
      elim to.2 [
        | inl refused ↦ absurd (no_refusal refused.why refused.told)
        | inr rest ↦ elim rest [
          | inl lacks ↦ absurd (elim lacks [ inl none ↦ none.may | inr gives ↦ gives.may ])
          | inr accepted ↦ is_below d ids accepted.accepts.plain.answer
        ]
      ]
    where
      no_refusal : (why : Refusal) → Ids ids ≡ Refused why → ⊥
      no_refusal why same = cc
