-- The rings are right again where a name was added.
use Rattle.std.proofs.Common.{◌≡◌, ◌≢◌, ℕ, true, [], ◌∷◌, Some, None, is_some, inl, inr, refl, sym, ap, ◌∙◌, true≢false}
use Rattle.std.proofs.lemmas.Bool.{cases_eq}
use Rattle.std.proofs.lemmas.Option.{none-some}
use Rattle.std.specs.FinMap as finmap
use Rattle.lists.proofs.Entries.{Contains-head, Contains-cases, none_in_empty}
use Rattle.name_book.specs.Calls.{Gains}
use Rattle.levels.specs.Changes.{PointsOne}
use Rattle.levels.specs.Rings.{Ringed, AreRight}
use Rattle.levels.specs.Views.{Numbers}

module _ (id number : ℕ) (main top later : Numbers) (absent_main : finmap.get main id ≡ None) (absent : finmap.get top id ≡ None)
    (points : PointsOne number (id ∷ []) top later) (before after : Ringed) (right : AreRight before main top) where
  here : finmap.get later id ≡ Some number
  here = points.pointed id (Contains-head id [])

  away : (x : ℕ) → x ≢ id → finmap.get later x ≡ finmap.get top x
  away x other = points.others x (λ at. elim (Contains-cases id x [] at) [ inl same ↦ other (sym same) | inr none ↦ none_in_empty x none ])

  pub right_added_staged : Gains true id before after → AreRight after main later
  right_added_staged gains = record {
    names = λ x. (
      λ named. elim ((gains.names x).0 named) [
        | inl was ↦ elim ((right.names x).0 was) [
          | inl one ↦ inl one
          | inr two ↦ inr (ap is_some (away x (λ same. true≢false (sym two ∙ ap is_some (ap (finmap.get top) same ∙ absent)))) ∙ two)
        ]
        | inr same ↦ inr (ap is_some (ap (finmap.get later) same ∙ here))
      ],
      λ held. elim (cases_eq x id) [
        | inl same ↦ (gains.names x).1 (inr same)
        | inr other ↦ (gains.names x).1 (inl ((right.names x).1 (elim held [ inl one ↦ inl one | inr two ↦ inr (ap is_some (sym (away x other)) ∙ two) ])))
      ],
    );
    zero = λ a b. (
      λ share. elim ((gains.main a b).0 share) [
        | inl was ↦ elim ((right.zero a b).0 was) [ inl one ↦ inl ((gains.names a).1 (inl one.0), one.1) | inr two ↦ inr two ]
        | inr both ↦ inl ((gains.names a).1 (inr both.0), both.0 ∙ sym both.1)
      ],
      λ either. (gains.main a b).1 (elim either [
        | inl one ↦ elim ((gains.names a).0 one.0) [
          | inl was ↦ inl ((right.zero a b).1 (inl (was, one.1)))
          | inr same ↦ inr (same, sym one.1 ∙ same)
        ]
        | inr two ↦ inl ((right.zero a b).1 (inr two))
      ]),
    );
    touched = λ x. (
      λ marked is. elim ((gains.touched x).0 marked) [
        | inl was ↦ (right.touched x).0 was
            (is ∙ away x (λ same. (right.touched x).0 was (ap (finmap.get main) same ∙ absent_main ∙ sym absent ∙ ap (finmap.get top) (sym same))))
        | inr both ↦ none-some number (sym absent_main ∙ ap (finmap.get main) (sym both.1) ∙ is ∙ ap (finmap.get later) both.1 ∙ here)
      ],
      λ apart. elim (cases_eq x id) [
        | inl same ↦ (gains.touched x).1 (inr (refl, same))
        | inr other ↦ (gains.touched x).1 (inl ((right.touched x).1 (λ is. apart (is ∙ sym (away x other)))))
      ],
    );
  }
