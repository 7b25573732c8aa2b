-- One more pair.
use Rattle.std.proofs.Common.{◌≡◌, ℕ, true, false, ◌&&◌, ◌||◌, sym, refl, ap, subst, ◌∙◌, inl, inr, None, Some}
use Rattle.std.specs.Prelude.{Contains}
use Rattle.std.proofs.lemmas.Bool.{or_cases, or_right, and_parts, and_from}
use Rattle.lists.proofs.Distinct.{distinct_push}
use Rattle.lists.proofs.Told.{told_in, cases_pair}
use Rattle.graphs.specs.declared.names.Level.TheVariants.{Main, Top}
use Rattle.graphs.specs.Closures.{is_member, is_ancestor, IsOrder, AddsPair}
use Rattle.graphs.specs.Closing.{IsClosureOf, with_pair}
use Rattle.graphs.specs.Graphs.{Graph}
use Rattle.graphs.proofs.ClosingLemmas.{closes_like, closes_pair}
use Rattle.graph_model.specs.Commands.{Dep}
use Rattle.graph_model.specs.Limits.{bounds_of}
use Rattle.graph_model.specs.Changes.{begun}
use Rattle.graph_model.specs.Replies.{Done}
use Rattle.graph_model.specs.States.{PlainState, level_of, with_top}
use Rattle.levels.specs.Levels.{OneLevel, Levels, HavePicks, level_at}
use Rattle.tx_graph.specs.Kept.{Kept, HasRates, IsGraphOf, IsStagingOf, StandsPlainly, MakesStep, entry_of}
use Rattle.tx_graph.proofs.Standing.{StandsBarely, Meets, graph_at}
use Rattle.tx_graph.proofs.Picked.{AreSameLevel, AcceptsAll, steps_accepted}
use Rattle.tx_graph.proofs.Tops.{AreTopped, top_is, live_stays, rates_topped, keeps_topped, stands_topped}

module _ (was top : OneLevel) (parent child : ℕ) (above : is_member was.graph parent ≡ true) (below : is_member was.graph child ≡ true)
    (no_way : is_ancestor was.graph child parent ≡ false) (pair : AddsPair was.graph top.graph parent child) where
  among_paired : (graph : Graph) → IsGraphOf was graph → (a d : ℕ) → is_ancestor top.graph a d ≡ true
      → (is_member top.graph a ≡ true) × (is_member top.graph d ≡ true)
  among_paired graph of a d up =
      let both : (is_member was.graph a ≡ true) × (is_member was.graph d ≡ true) =
      elim (or_cases (is_ancestor was.graph a d) (is_ancestor was.graph a parent && is_ancestor was.graph child d) (sym (pair.ancestors a d) ∙ up)) [
        | inl before ↦ of.among a d before
        | inr across ↦
            let parts = and_parts (is_ancestor was.graph a parent) (is_ancestor was.graph child d) across in
            ((of.among a parent parts.0).0, (of.among child d parts.1).1)
      ] in
      (pair.members a ∙ both.0, pair.members d ∙ both.1)

  closes_paired : (graph : Graph) → IsGraphOf was graph → IsClosureOf top.graph (with_pair graph parent child)
  closes_paired graph of =
      closes_like (is_member was.graph) (λ a d. is_ancestor was.graph a d || (is_ancestor was.graph a parent && is_ancestor was.graph child d))
      (with_pair graph parent child) (closes_pair (is_member was.graph) (is_ancestor was.graph) graph parent child of.closure above below no_way)
      (is_member top.graph) (is_ancestor top.graph) pair.members (λ a d _ _. pair.ancestors a d)

  graph_paired : (graph : Graph) → IsGraphOf was graph → (Contains graph.pairs (parent, child) → ⊥) → IsGraphOf top (with_pair graph parent child)
  graph_paired graph of none =
      let paired = closes_paired graph of in
      record {
        closure = paired;
        among = among_paired graph of;
        valid = record {
          names = of.valid.names;
          pairs = distinct_push graph.pairs (parent, child) of.valid.pairs none;
          ends = λ a b here. let both = paired.ends a b here in ((paired.names a).1 both.0, (paired.names b).1 both.1);
          acyclic = paired.acyclic;
        };
      }

  -- where the level is the same, the parent was an ancestor before
  was_above : IsOrder (is_member was.graph) (is_ancestor was.graph) → AreSameLevel was.graph top.graph → is_ancestor was.graph parent child ≡ true
  was_above order same =
      let across : (is_ancestor was.graph parent parent && is_ancestor was.graph child child) ≡ true =
      and_from (is_ancestor was.graph parent parent) (is_ancestor was.graph child child) (order.reflexive parent above) (order.reflexive child below) in
      sym (same.above parent child) ∙ pair.ancestors parent child
      ∙ or_right (is_ancestor was.graph parent child) (is_ancestor was.graph parent parent && is_ancestor was.graph child child) across

module _ (old new : Kept) (parent child : ℕ) (most : new.most ≡ old.most) (begins : new.begun ≡ true)
    (above : is_member (level_at old.levels Top).graph parent ≡ true) (below : is_member (level_at old.levels Top).graph child ≡ true)
    (no_way : is_ancestor (level_at old.levels Top).graph child parent ≡ false) (top : OneLevel)
    (pair : AddsPair (level_at old.levels Top).graph top.graph parent child) (topped : AreTopped old.levels top new.levels)
    (still : is_ancestor (level_at old.levels Top).graph parent child ≡ true → new.levels ≡ old.levels) where
  abbrev was : OneLevel
  was = level_at old.levels Top

  rates_paired : (state : PlainState) → StandsPlainly old state → HasRates new.levels state.table
  rates_paired state stands = record {
    names = rates_topped old.levels new.levels top topped state.table
        (λ q member. stands.table.names Top q (sym (pair.members q) ∙ member) ∙ ap (λ r. Some (entry_of r)) (sym (pair.rates q)))
        (λ _ _. stands.table.names Main);
    none = λ q gone. stands.table.none q (λ live. gone (live_stays old.levels new.levels top topped q (λ member. pair.members q ∙ member) live));
  }

  -- the pair is there: the parent is an ancestor, and the levels stay
  there_next : (state : PlainState) → StandsPlainly old state → Contains (level_of state Top).pairs (parent, child) → StandsBarely new (begun state)
  there_next state stands here =
      let of = graph_at old state stands Top in
      let same = still ((of.closure.ancestors parent child above below).0 (1, (parent, refl, here))) in
      record {
        limits = stands.limits ∙ ap bounds_of (sym topped.limits);
        most = stands.most ∙ sym most;
        begun = sym begins;
        table = subst (λ (l : Levels). HasRates l state.table) (sym same) stands.table;
        main = subst (λ (l : Levels). IsGraphOf l.main state.main) (sym same) stands.main;
        staging = subst (λ (l : Levels). IsStagingOf l.staging state.staging) (sym same) stands.staging;
      }

  new_next : (state : PlainState) → StandsPlainly old state → (Contains (level_of state Top).pairs (parent, child) → ⊥)
      → StandsBarely new (with_top (begun state) (with_pair (level_of state Top) parent child))
  new_next state stands none =
      stands_topped old new top most begins topped state stands state.table (with_pair (level_of state Top) parent child)
      (graph_paired was top parent child above below no_way pair (level_of state Top) (graph_at old state stands Top) none) (rates_paired state stands)

  accepts_paired : AcceptsAll old new (Dep parent child) Done
  accepts_paired state stands = elim (told_in cases_pair (level_of state Top).pairs (parent, child)) [
    | inl here ↦ (begun state, there_next state stands here, λ picks. record { answer = refl; change = inl (here, refl) })
    | inr none ↦ (
      with_top (begun state) (with_pair (level_of state Top) parent child),
      new_next state stands none,
      λ picks. record { answer = refl; change = inr (none, refl) },
    )
  ]

  parts_still : new.levels ≡ old.levels → top.parts ≡ was.parts
  parts_still same = ap (λ (l : OneLevel). l.parts) (sym (top_is old.levels new.levels top topped) ∙ ap (λ (l : Levels). level_at l Top) same)

  pub steps_paired : IsOrder (is_member was.graph) (is_ancestor was.graph) → Meets old (Dep parent child) None → HavePicks new.levels
      → MakesStep old new (Dep parent child) Done
  steps_paired order none picked =
      steps_accepted old new (Dep parent child) Done tt none accepts_paired (λ a b kept. kept)
      (keeps_topped old.levels new.levels top topped picked
      (λ same. parts_still (still (was_above was top parent child above below no_way pair order same))))
