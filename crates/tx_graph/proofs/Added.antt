-- One more name.
use Rattle.std.proofs.Common.{◌≡◌, ◌≢◌, ℕ, ℤ, ◌<◌, ◌^◌, true, false, ◌&&◌, ◌||◌, nat_eq, [], ◌∷◌, sym, refl, ap, subst, ◌∙◌, inl, inr, eq-eqb, ne_eqb, None, Some, true≢false}
use Rattle.std.specs.FinMap as finmap
use Rattle.std.proofs.lemmas.Bool.{cases_eq, false_from_ne_true, or_cases, or_left, or_right, and_parts}
use Rattle.std.proofs.lemmas.List.Elements.{Contains-append_left}
use Rattle.lists.proofs.Distinct.{distinct_push}
use Rattle.fee_rate.specs.declared.rates.FeeRate.{FeeRate}
use Rattle.graphs.specs.declared.names.Level.TheVariants.{Main, Top}
use Rattle.graphs.specs.Closures.{is_member, is_ancestor, rate_of}
use Rattle.graphs.specs.Closing.{with_name}
use Rattle.graphs.specs.Graphs.{Graph}
use Rattle.graphs.proofs.ClosingLemmas.{closes_like, closes_added}
use Rattle.graph_model.specs.Commands.{Add}
use Rattle.graph_model.specs.Changes.{added}
use Rattle.graph_model.specs.Replies.{Done}
use Rattle.graph_model.specs.States.{Table, level_of}
use Rattle.levels.specs.Levels.{OneLevel, HavePicks, AddsName, level_at, IsLive}
use Rattle.tx_graph.specs.Kept.{Kept, HasRates, IsGraphOf, MakesStep, entry_of}
use Rattle.tx_graph.proofs.Standing.{Meets, graph_at}
use Rattle.tx_graph.proofs.Picked.{AreSameLevel, AcceptsAll, steps_accepted}
use Rattle.graph_model.proofs.ValidLemmas.{get-put_same, get-put_other}
use Rattle.tx_graph.proofs.Tops.{AreTopped, live_in, live_stays, rates_topped, keeps_topped, stands_topped}

module _ (was top : OneLevel) (id : ℕ) (rate : FeeRate) (absent : is_member was.graph id ≡ false) (adds : AddsName was.graph top.graph id rate) where
  is_added : is_member top.graph id ≡ true
  is_added = adds.members id ∙ or_left (nat_eq id id) (is_member was.graph id) (eq-eqb id id refl)

  added_to : (q : ℕ) → is_member was.graph q ≡ true → is_member top.graph q ≡ true
  added_to q member = adds.members q ∙ or_right (nat_eq q id) (is_member was.graph q) member

  was_before : (q : ℕ) → q ≢ id → is_member top.graph q ≡ true → is_member was.graph q ≡ true
  was_before q other member = sym (adds.members q ∙ ap (λ b. b || is_member was.graph q) (ne_eqb q id other)) ∙ member

  graph_added : (graph : Graph) → IsGraphOf was graph → IsGraphOf top (with_name graph id)
  graph_added graph of = record {
    closure = closes_like (λ q. nat_eq q id || is_member was.graph q) (λ a d. (nat_eq a id && nat_eq d id) || is_ancestor was.graph a d) (with_name graph id)
        (closes_added (is_member was.graph) (is_ancestor was.graph) graph id of.closure absent of.among)
        (is_member top.graph) (is_ancestor top.graph) adds.members (λ a d here there. adds.ancestors a d);
    among = λ a d up. elim (or_cases (nat_eq a id && nat_eq d id) (is_ancestor was.graph a d) (sym (adds.ancestors a d) ∙ up)) [
      | inl both ↦
          let is = and_parts (nat_eq a id) (nat_eq d id) both in
          (adds.members a ∙ or_left (nat_eq a id) (is_member was.graph a) is.0, adds.members d ∙ or_left (nat_eq d id) (is_member was.graph d) is.1)
      | inr before ↦ let both = of.among a d before in (added_to a both.0, added_to d both.1)
    ];
    valid = record {
      names = distinct_push graph.names id of.valid.names (λ here. true≢false (sym ((of.closure.names id).0 here) ∙ absent));
      pairs = of.valid.pairs;
      ends = λ parent child pair.
          let ends = of.valid.ends parent child pair in
          (Contains-append_left graph.names (id ∷ []) parent ends.0, Contains-append_left graph.names (id ∷ []) child ends.1);
      acyclic = of.valid.acyclic;
    };
  }

module _ (old new : Kept) (id : ℕ) (fee : ℤ) (size : ℕ) (most : new.most ≡ old.most) (begins : new.begun ≡ true)
    (absent : IsLive old.levels id → ⊥) (top : OneLevel) (adds : AddsName (level_at old.levels Top).graph top.graph id (record { fee = fee; size = size }))
    (topped : AreTopped old.levels top new.levels) where
  abbrev was : OneLevel
  was = level_at old.levels Top

  abbrev rate : FeeRate
  rate = record { fee = fee; size = size }

  none_before : is_member was.graph id ≡ false
  none_before = false_from_ne_true (is_member was.graph id) (λ member. absent (inr member))

  module _ (table : Table) (rates : HasRates old.levels table) where
    in_top : (q : ℕ) → is_member top.graph q ≡ true → finmap.get (finmap.insert table id (entry_of rate)) q ≡ Some (entry_of (rate_of top.graph q))
    in_top q member = elim (cases_eq q id) [
      | inl same ↦ get-put_same table id q (entry_of rate) same ∙ ap (λ r. Some (entry_of r)) (sym (ap (rate_of top.graph) same ∙ adds.rate_is))
      | inr other ↦
          get-put_other table id q (entry_of rate) other ∙ rates.names Top q (was_before was top id rate none_before adds q other member)
          ∙ ap (λ r. Some (entry_of r)) (sym (adds.rates q other))
    ]

    in_main : (q : ℕ) → is_member old.levels.main.graph q ≡ true
        → finmap.get (finmap.insert table id (entry_of rate)) q ≡ Some (entry_of (rate_of old.levels.main.graph q))
    in_main q member =
        get-put_other table id q (entry_of rate) (λ same. absent (inl (subst (λ x. is_member old.levels.main.graph x ≡ true) same member)))
        ∙ rates.names Main q member

    rates_added : HasRates new.levels (finmap.insert table id (entry_of rate))
    rates_added = record {
      names = rates_topped old.levels new.levels top topped (finmap.insert table id (entry_of rate)) in_top (λ _ _. in_main);
      none = λ q gone.
          get-put_other table id q (entry_of rate) (λ same. gone (live_in old.levels new.levels top topped q
          (subst (λ x. is_member top.graph x ≡ true) (sym same) (is_added was top id rate none_before adds))))
          ∙ rates.none q (λ live. gone (live_stays old.levels new.levels top topped q (added_to was top id rate none_before adds q) live));
    }

  accepts_added : AcceptsAll old new (Add id fee size) Done
  accepts_added state stands =
      let table : Table = finmap.insert state.table id (entry_of rate) in
      let graph : Graph = level_of state Top in (
        added state id fee size,
        stands_topped old new top most begins topped state stands table (with_name graph id)
            (graph_added was top id rate none_before adds graph (graph_at old state stands Top)) (rates_added state.table stands.table),
        λ picks. record { answer = refl; change = refl },
      )

  -- the level has a name that it hadn't
  other_added : AreSameLevel was.graph top.graph → top.parts ≡ was.parts
  other_added same = absurd (true≢false (sym (is_added was top id rate none_before adds) ∙ same.members id ∙ none_before))

  pub steps_added : id < 2 ^ 64 → Meets old (Add id fee size) None → HavePicks new.levels → MakesStep old new (Add id fee size) Done
  steps_added small none picked =
      steps_accepted old new (Add id fee size) Done small none accepts_added (λ a b kept. kept)
      (keeps_topped old.levels new.levels top topped picked other_added)
