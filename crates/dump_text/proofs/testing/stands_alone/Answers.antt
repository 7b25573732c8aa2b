use Rattle.std.proofs.Common.{◌≡◌, ◌↔◌, ℕ, sym, subst}
use Rattle.std.specs.Prelude.{Contains}
use Rattle.graphs.specs.Graphs.{IsAncestor}
use Rattle.graphs.specs.declared.names.Kin.TheVariants.{Ancestors}
use Rattle.links.specs.Kept.{coming}
use Rattle.links.specs.Links.{Has}
use Rattle.links.specs.declared.link_walk.LinkWalk.{LinkWalk}
use Rattle.links.proofs.Walking.{kin_of_one}
use Rattle.lists.proofs.Entries.{Contains-one, none_in_empty}
use Rattle.dump_text.proofs.Covering.{above_of, above_to, all_more, all_seen, comes, seen_more}
use Rattle.dump_text.proofs.testing.stands_alone.Goals as goal

pub kin-requires : goal.kin-requires
kin-requires c id here =
    subst (Has c.args.links.now) (Contains-one c.args.edge.0 id here) (c.requires.links.ends c.args.edge.0 c.args.edge.1 c.requires.edge).0

pub loop-above-init : goal.loop-above-init
loop-above-init c = record {
  all = λ a. subst (λ (it : LinkWalk). Contains (coming it) a ↔ IsAncestor c.args.links.now.pairs a c.args.edge.0)
      (sym c.into_iter-above-iterator.ensures.into_iter_gives) (kin_of_one Ancestors c.args.links.now.pairs c.args.edge.0 (coming c.kin.result) c.kin.ensures.exact a);
  seen = λ a here. absurd (none_in_empty a here);
}

pub loop-above-preserved : goal.loop-above-preserved
loop-above-preserved c =
    let above : ℕ → Type 0 = λ a. IsAncestor c.args.links.now.pairs a c.args.edge.0 in
    let alone : ℕ → Type 0 = λ a. Contains {X = ℕ × ℕ} c.args.edges.now (a, c.args.edge.1) → a ≡ c.args.edge.0 in
    let inv = c.loop-above.invariant in
    record {
      all = all_more above alone c.loop-above.yielded (coming c.loop-above.above-iterator) inv.all inv.seen
          c.in-Some.above (coming c.next.new.self) c.in-Some.ensures.steps;
      seen = seen_more above alone c.loop-above.yielded (coming c.loop-above.above-iterator) inv.all inv.seen
          c.in-Some.above c.if-leads_past.ensures;
    }

pub returns-then-leads_past-clause-alone : goal.returns-then-leads_past-clause-alone
returns-then-leads_past-clause-alone c = λ none.
    let above : ℕ → Type 0 = λ a. IsAncestor c.args.links.now.pairs a c.args.edge.0 in
    let alone : ℕ → Type 0 = λ a. Contains {X = ℕ × ℕ} c.args.edges.now (a, c.args.edge.1) → a ≡ c.args.edge.0 in
    let inv = c.loop-above.invariant in
    let up = comes above alone c.loop-above.yielded (coming c.loop-above.above-iterator) inv.all inv.seen
    c.in-Some.above (coming c.next.new.self) c.in-Some.ensures.steps in
    c.if-leads_past.ensures.0
    (none c.in-Some.above (above_to c.args.edges.now c.args.links.now c.requires.links c.in-Some.above c.args.edge.0 up) c.if-leads_past.ensures.1)

pub returns-clause-alone : goal.returns-clause-alone
returns-clause-alone c = λ a up other.
    let above : ℕ → Type 0 = λ a. IsAncestor c.args.links.now.pairs a c.args.edge.0 in
    let alone : ℕ → Type 0 = λ a. Contains {X = ℕ × ℕ} c.args.edges.now (a, c.args.edge.1) → a ≡ c.args.edge.0 in
    let inv = c.loop-above.invariant in
    all_seen above alone c.loop-above.yielded (coming c.loop-above.above-iterator) inv.all inv.seen
    c.in-None.ensures.steps.0 a (above_of c.args.edges.now c.args.links.now c.requires.links a c.args.edge.0 up) other
