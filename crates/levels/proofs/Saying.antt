-- What the clusters that go out, and those that come in, say of a level's graph.
use Rattle.std.proofs.Common.{◌≡◌, ℕ, true, false, not, ◌&&◌, ◌||◌, nat_eq, List, [], ◌∷◌, Contains, inl, inr, refl, sym, ap, ◌∙◌, subst, eq-eqb, ne_eqb, true≢false}
use Rattle.std.proofs.lemmas.Bool.{and_from, and_parts, and_right, or_cases, or_left, or_right, false_from_ne_true}
use Rattle.std.specs.FinMap as finmap
use Rattle.lists.proofs.Cases.{or_false, same_test}
use Rattle.lists.proofs.Entries.{Contains-head, Contains-cases, none_in_empty}
use Rattle.graphs.specs.Closures.{Closure, is_member, is_ancestor, rate_of, AddsPair, DropsPlace}
use Rattle.cluster.specs.Clusters.{Cluster}
use Rattle.record.specs.Records.{IsConnected}
use Rattle.cluster.specs.Changes.{IsAncestorIn}
use Rattle.levels.specs.Changes.{IsNamed, IsRebuilt}
use Rattle.levels.specs.Levels.{LosesNames}
use Rattle.levels.specs.Moves.{AddsPairIn, DropsIn}
use Rattle.levels.proofs.Closing.{member_same, rate_same, above_same, member_absent, above_absent, below_in}
use Rattle.levels.proofs.Lookups.{decide_named}
use Rattle.levels.proofs.Staying.{AreAway, whole_before}

module _ (olds news : List Cluster) (gone : List ℕ) (g h : Closure) (r : IsRebuilt olds news gone g h)
    (was_whole : (c : Cluster) → Contains olds c → IsConnected c) (whole : (c : Cluster) → Contains news c → IsConnected c) where
  pub old_up : (a d : ℕ) → IsAncestorIn olds a d → is_ancestor g a d ≡ true
  old_up a d said =
      let c = was_whole said.0 said.1 in
      let here = (c.members d).0 (c.order.among a d said.2).1 in
      (r.was said.0 d said.1 here).0.above a d here ∙ said.2

  pub old_said : (a d : ℕ) → IsNamed olds d → is_ancestor g a d ≡ true → IsAncestorIn olds a d
  old_said a d named up = (named.0, named.1, sym ((r.was named.0 d named.1 named.2).0.above a d named.2) ∙ up)

  pub new_up : (a d : ℕ) → IsAncestorIn news a d → is_ancestor h a d ≡ true
  new_up a d said =
      let c = whole said.0 said.1 in
      let here = (c.members d).0 (c.order.among a d said.2).1 in
      (r.now said.0 d said.1 here).0.above a d here ∙ said.2

  pub new_said : (a d : ℕ) → IsNamed news d → is_ancestor h a d ≡ true → IsAncestorIn news a d
  new_said a d named up = (named.0, named.1, sym ((r.now named.0 d named.1 named.2).0.above a d named.2) ∙ up)

  -- what descends from a name of a cluster that goes out is of that cluster
  pub old_below : (a d : ℕ) → IsNamed olds a → is_ancestor g a d ≡ true → IsNamed olds d
  old_below a d named up = (named.0, named.1, below_in g a d named.0 (r.was named.0 a named.1 named.2).0 up)

  pub old_member : (q : ℕ) → IsNamed olds q → is_member g q ≡ true
  old_member q named = (r.was named.0 q named.1 named.2).1

  pub new_member : (q : ℕ) → IsNamed news q → is_member h q ≡ true
  new_member q named = (r.now named.0 q named.1 named.2).1

  -- a name of both has the rate in the graphs that it has in the clusters
  pub rate_kept : (q : ℕ) → (old : IsNamed olds q) → (new : IsNamed news q) → rate_of new.0.graph q ≡ rate_of old.0.graph q → rate_of h q ≡ rate_of g q
  rate_kept q old new same = (r.now new.0 q new.1 new.2).0.rates q new.2 ∙ same ∙ sym ((r.was old.0 q old.1 old.2).0.rates q old.2)

  -- ---- one more pair

  module _ (p q : ℕ) (pair : AddsPairIn olds news p q) where
    elsewhere : (d : ℕ) → (IsNamed olds d → ⊥) → finmap.get h d ≡ finmap.get g d
    elsewhere d out = r.others d out (λ named. out ((pair.names d).0 named))

    above_named : (x d : ℕ) → IsNamed olds d → is_ancestor h x d ≡ (is_ancestor g x d || (is_ancestor g x p && is_ancestor g q d))
    above_named x d named =
        same_test (is_ancestor h x d) (is_ancestor g x d || (is_ancestor g x p && is_ancestor g q d))
        (λ up. elim ((pair.ancestors x d).0 (new_said x d ((pair.names d).1 named) up)) [
          | inl was ↦ or_left (is_ancestor g x d) (is_ancestor g x p && is_ancestor g q d) (old_up x d was)
          | inr both ↦
              or_right (is_ancestor g x d) (is_ancestor g x p && is_ancestor g q d)
              (and_from (is_ancestor g x p) (is_ancestor g q d) (old_up x p both.0) (old_up q d both.1))
        ])
        (λ holds. new_up x d ((pair.ancestors x d).1 (elim (or_cases (is_ancestor g x d) (is_ancestor g x p && is_ancestor g q d) holds) [
          | inl was ↦ inl (old_said x d named was)
          | inr both ↦
              let ends = and_parts (is_ancestor g x p) (is_ancestor g q d) both in
              inr (old_said x p pair.parent ends.0, old_said q d named ends.1)
        ])))

    above_away : (x d : ℕ) → (IsNamed olds d → ⊥) → is_ancestor h x d ≡ (is_ancestor g x d || (is_ancestor g x p && is_ancestor g q d))
    above_away x d out =
        above_same g h d (elsewhere d out) x
        ∙ sym (ap (λ b. is_ancestor g x d || b) (and_right (is_ancestor g x p) (is_ancestor g q d)
        (false_from_ne_true (is_ancestor g q d) (λ up. out (old_below q d pair.child up)))) ∙ or_false (is_ancestor g x d))

    pub adds_pair : AddsPair g h p q
    adds_pair = record {
      members = λ d. elim (decide_named olds d) [
        | inl named ↦ new_member d ((pair.names d).1 named) ∙ sym (old_member d named)
        | inr out ↦ member_same g h d (elsewhere d out)
      ];
      rates = λ d. elim (decide_named olds d) [
        | inl named ↦ let now = (pair.names d).1 named in rate_kept d named now (pair.rates now.0 now.1 d now.2 named.0 named.1 named.2)
        | inr out ↦ rate_same g h d (elsewhere d out)
      ];
      ancestors = λ x d. elim (decide_named olds d) [ inl named ↦ above_named x d named | inr out ↦ above_away x d out ];
    }

    -- no component that stays has a name of the clusters that went out: the one pair is new to each
    pub pair_away : is_ancestor g p q ≡ false → AreAway olds g h
    pair_away apart ids id same here named =
        let into : (x : ℕ) → Contains named.0.names x → Contains ids x = λ x there.
        whole_before olds news gone g h r ids same.before named.0 named.1 id x named.2 there here in
        let own : (x : ℕ) → IsNamed olds x → is_ancestor g x x ≡ true = λ x at.
        let c = was_whole at.0 at.1 in (r.was at.0 x at.1 at.2).0.above x x at.2 ∙ c.order.reflexive x ((c.members x).1 at.2) in
        let up : is_ancestor h p q ≡ true = adds_pair.ancestors p q
        ∙ or_right (is_ancestor g p q) (is_ancestor g p p && is_ancestor g q q)
        (and_from (is_ancestor g p p) (is_ancestor g q q) (own p pair.parent) (own q pair.child)) in
        let both : Contains ids p × Contains ids q = elim (pair.each named.0 named.1) [
          | inl at ↦ (into p at, same.after.alone p q (into p at) (q ∷ [], (inl up, refl)))
          | inr at ↦ (same.after.alone q p (into q at) (p ∷ [], (inr up, refl)), into q at)
        ] in
        true≢false (sym up ∙ same.ancestors p q both.0 both.1 ∙ apart)

  -- ---- names that go

  module _ (drops : DropsIn olds news gone) where
    kept_named : (q : ℕ) → IsNamed olds q → (Contains gone q → ⊥) → IsNamed news q
    kept_named q named kept = (drops.names q).1 (named, kept)

    still : (q : ℕ) → (IsNamed olds q → ⊥) → finmap.get h q ≡ finmap.get g q
    still q out = r.others q out (λ named. out ((drops.names q).0 named).0)

    not_gone : (q : ℕ) → (IsNamed olds q → ⊥) → Contains gone q → ⊥
    not_gone q out lost = out (r.lose q lost).0

    -- a name that is lost has no ancestor, and is none
    lost_member : (q : ℕ) → Contains gone q → is_member h q ≡ true → ⊥
    lost_member q lost member = true≢false (sym member ∙ member_absent h q (r.lost q lost))

    lost_above : (a q : ℕ) → Contains gone q → is_ancestor h a q ≡ true → ⊥
    lost_above a q lost up = true≢false (sym up ∙ above_absent h a q (r.lost q lost))

    pub loses_names : LosesNames g h gone
    loses_names = record {
      members = λ q. elim (decide_named olds q) [
        | inl named ↦ (
          λ member. (λ lost. lost_member q lost member, old_member q named),
          λ both. new_member q (kept_named q named both.0),
        )
        | inr out ↦ (
          λ member. (not_gone q out, sym (member_same g h q (still q out)) ∙ member),
          λ both. member_same g h q (still q out) ∙ both.1,
        )
      ];
      rates = λ q kept. elim (decide_named olds q) [
        | inl named ↦ let now = kept_named q named kept in rate_kept q named now (drops.rates now.0 now.1 q now.2 named.0 named.1 named.2)
        | inr out ↦ rate_same g h q (still q out)
      ];
      ancestors = λ a d. elim (decide_named olds d) [
        | inl named ↦ (
          λ up.
              let kept : Contains gone d → ⊥ = λ lost. lost_above a d lost up in
              let was = (drops.ancestors a d).0 (new_said a d (kept_named d named kept) up) in
              (was.0, was.1, old_up a d was.2),
          λ both. new_up a d ((drops.ancestors a d).1 (both.0, both.1, old_said a d named both.2)),
        )
        | inr out ↦ (
          λ up.
              let was : is_ancestor g a d ≡ true = sym (above_same g h d (still d out) a) ∙ up in
              (λ lost. out (old_below a d (r.lose a lost).0 was), not_gone d out, was),
          λ both. above_same g h d (still d out) a ∙ both.2,
        )
      ];
    }

    -- each cluster that went out lost a name, which no component that stays can have
    pub drops_away : AreAway olds g h
    drops_away ids id same here named =
        let lost = drops.each named.0 named.1 in
        let there = whole_before olds news gone g h r ids same.before named.0 named.1 id lost.0 named.2 lost.2 here in
        lost_member lost.0 lost.1 (same.after.members lost.0 there)

-- a list of one name
pub loses_one : (g h : Closure) (id : ℕ) → LosesNames g h (id ∷ []) → DropsPlace g h id
loses_one g h id drops = record {
  members = λ q. same_test (is_member h q) (not (nat_eq q id) && is_member g q)
      (λ member. let was = (drops.members q).0 member in and_from (not (nat_eq q id)) (is_member g q) (other q was.0) was.1)
      (λ both. let parts = and_parts (not (nat_eq q id)) (is_member g q) both in (drops.members q).1 (out q parts.0, parts.1));
  rates = λ q differs. drops.rates q (λ here. elim (Contains-cases id q [] here) [ inl same ↦ differs (sym same) | inr none ↦ none_in_empty q none ]);
  ancestors = λ a d. same_test (is_ancestor h a d) (not (nat_eq a id) && (not (nat_eq d id) && is_ancestor g a d))
      (λ up.
      let was = (drops.ancestors a d).0 up in
      and_from (not (nat_eq a id)) (not (nat_eq d id) && is_ancestor g a d) (other a was.0)
      (and_from (not (nat_eq d id)) (is_ancestor g a d) (other d was.1) was.2))
      (λ holds.
      let one = and_parts (not (nat_eq a id)) (not (nat_eq d id) && is_ancestor g a d) holds in
      let two = and_parts (not (nat_eq d id)) (is_ancestor g a d) one.1 in
      (drops.ancestors a d).1 (out a one.0, out d two.0, two.1));
}
  where
    other : (q : ℕ) → (Contains (id ∷ []) q → ⊥) → not (nat_eq q id) ≡ true
    other q none = ap not (ne_eqb q id (λ same. none (subst (Contains (id ∷ [])) (sym same) (Contains-head id []))))

    out : (q : ℕ) → not (nat_eq q id) ≡ true → Contains (id ∷ []) q → ⊥
    out q kept here = elim (Contains-cases id q [] here) [
      | inl same ↦ true≢false (sym kept ∙ ap not (eq-eqb q id (sym same)))
      | inr none ↦ none_in_empty q none
    ]
