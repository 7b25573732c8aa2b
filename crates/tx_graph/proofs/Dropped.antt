-- A name is dropped.
use Rattle.std.proofs.Common.{◌≡◌, ◌≢◌, ℕ, true, not, ◌&&◌, nat_eq, sym, refl, ap, ap₂, ◌∙◌, None, Some, eq-eqb, true≢false}
use Rattle.std.proofs.lemmas.Bool.{and_parts, and_from}
use Rattle.graphs.specs.declared.names.Level.TheVariants.{Top}
use Rattle.graphs.specs.Closures.{is_member, is_ancestor, DropsPlace}
use Rattle.graphs.specs.Graphs.{Graph}
use Rattle.graphs.specs.Removals.{IsWithout}
use Rattle.graphs.proofs.ClosingLemmas.{closes_like, closes_without}
use Rattle.graphs.proofs.RemovalLemmas.{some_without, graph_left}
use Rattle.graph_model.specs.Commands.{Remove}
use Rattle.graph_model.specs.Replies.{Done}
use Rattle.graph_model.specs.States.{level_of}
use Rattle.levels.specs.Levels.{OneLevel, HavePicks, level_at}
use Rattle.tx_graph.specs.Kept.{Kept, IsGraphOf, MakesStep, entry_of}
use Rattle.tx_graph.proofs.Standing.{Meets, graph_at}
use Rattle.tx_graph.proofs.Picked.{AreSameLevel, AcceptsAll, steps_accepted}
use Rattle.tx_graph.proofs.Tables.{left_topped}
use Rattle.tx_graph.proofs.Tops.{AreTopped, keeps_topped}

module _ (was top : OneLevel) (id : ℕ) (drops : DropsPlace was.graph top.graph id) where
  -- a name that is left isn't the one, and was there
  was_left : (q : ℕ) → is_member top.graph q ≡ true → (q ≢ id) × (is_member was.graph q ≡ true)
  was_left q member =
      let both = and_parts (not (nat_eq q id)) (is_member was.graph q) (sym (drops.members q) ∙ member) in
      (λ same. true≢false (sym both.0 ∙ ap not (eq-eqb q id same)), both.1)

  -- the pairs without the name have the ancestors that are left
  graph_dropped : (graph rest : Graph) → IsGraphOf was graph → IsWithout graph id rest → IsGraphOf top rest
  graph_dropped graph rest of without = record {
    closure =
        closes_like (λ q. not (nat_eq q id) && is_member was.graph q) (is_ancestor was.graph) rest
        (closes_without (is_member was.graph) (is_ancestor was.graph) graph rest id of.closure without)
        (is_member top.graph) (is_ancestor top.graph) drops.members
        (λ a d here there.
        drops.ancestors a d
        ∙ ap₂ (λ x y. x && (y && is_ancestor was.graph a d)) (and_parts (not (nat_eq a id)) (is_member was.graph a) here).0
        (and_parts (not (nat_eq d id)) (is_member was.graph d) there).0);
    among = λ a d up.
        let one = and_parts (not (nat_eq a id)) (not (nat_eq d id) && is_ancestor was.graph a d) (sym (drops.ancestors a d) ∙ up) in
        let two = and_parts (not (nat_eq d id)) (is_ancestor was.graph a d) one.1 in
        let both = of.among a d two.1 in (
          drops.members a ∙ and_from (not (nat_eq a id)) (is_member was.graph a) one.0 both.0,
          drops.members d ∙ and_from (not (nat_eq d id)) (is_member was.graph d) two.0 both.1,
        );
    valid = graph_left graph rest id without of.valid;
  }

  -- the level lacks a name that it had
  other_dropped : is_member was.graph id ≡ true → AreSameLevel was.graph top.graph → top.parts ≡ was.parts
  other_dropped live same = absurd (true≢false
      (sym live ∙ sym (same.members id) ∙ drops.members id ∙ ap (λ b. not b && is_member was.graph id) (eq-eqb id id refl)))

module _ (old new : Kept) (id : ℕ) (most : new.most ≡ old.most) (begins : new.begun ≡ true)
    (live : is_member (level_at old.levels Top).graph id ≡ true) (top : OneLevel) (drops : DropsPlace (level_at old.levels Top).graph top.graph id)
    (topped : AreTopped old.levels top new.levels) where
  abbrev was : OneLevel
  was = level_at old.levels Top

  accepts_dropped : AcceptsAll old new (Remove id) Done
  accepts_dropped state stands =
      let graph = graph_at old state stands Top in
      let rest = some_without (level_of state Top) id graph.valid in
      let next = left_topped old new top most begins topped state stands rest.0 (graph_dropped was top id drops (level_of state Top) rest.0 graph rest.1)
      (λ q member.
      let left = was_left was top id drops q member in
      stands.table.names Top q left.1 ∙ ap (λ r. Some (entry_of r)) (sym (drops.rates q left.0))) in
      (next.0, next.1, λ picks. record { answer = refl; change = (rest.0, rest.1, next.2) })

  pub steps_dropped : Meets old (Remove id) None → HavePicks new.levels → MakesStep old new (Remove id) Done
  steps_dropped none picked =
      steps_accepted old new (Remove id) Done tt none accepts_dropped (λ a b kept. kept)
      (keeps_topped old.levels new.levels top topped picked (other_dropped was top id drops live))
