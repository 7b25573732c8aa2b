-- One ancestor more is looked at.
use Rattle.std.proofs.Common.{rules, ◌≡◌, ◌↔◌, false, true, true≢false, Contains, refl, sym, ◌∙◌, subst}
use Rattle.graphs.specs.Graphs.{IsAncestor}
use Rattle.graphs.specs.declared.names.Kin.TheVariants.{Ancestors}
use Rattle.links.specs.Kept.{coming}
use Rattle.links.specs.declared.link_walk.LinkWalk.{LinkWalk}
use Rattle.links.proofs.Walking.{kin_of_one}
use Rattle.lists.proofs.Entries.{none_in_empty}
use Rattle.record.proofs.Listed.{comes, all_more, listed_more, none_lacks}
use Rattle.record.proofs.listing.lacks_over.Goals as goal

pub loop-above-init : goal.loop-above-init
loop-above-init g c = record {
  all = λ a. subst (λ (it : LinkWalk). Contains (coming it) a ↔ IsAncestor c.args.links.now.pairs a c.args.id)
      (sym c.into_iter-above-iterator.ensures.into_iter_gives)
      (kin_of_one Ancestors c.args.links.now.pairs c.args.id (coming c.kin.result) c.kin.ensures.exact a);
  listed = λ a here. absurd (none_in_empty a here);
}

pub lists-requires : goal.lists-requires
lists-requires g c =
    c.requires.known c.in-Some.above
    (comes (λ a. IsAncestor c.args.links.now.pairs a c.args.id) (g.T.Listing.listed c.args.listing.now)
    c.loop-above.yielded (coming c.loop-above.above-iterator) c.loop-above.invariant.all c.loop-above.invariant.listed
    c.in-Some.above (coming c.next.new.self) c.in-Some.ensures.steps)

pub returns-then-not-lists-clause-lacks : goal.returns-then-not-lists-clause-lacks
returns-then-not-lists-clause-lacks g c =
    let shut : c.lists.result ≡ false = search rules in (
      λ _. (
        c.in-Some.above,
        comes (λ a. IsAncestor c.args.links.now.pairs a c.args.id) (g.T.Listing.listed c.args.listing.now)
            c.loop-above.yielded (coming c.loop-above.above-iterator) c.loop-above.invariant.all c.loop-above.invariant.listed
            c.in-Some.above (coming c.next.new.self) c.in-Some.ensures.steps,
        λ is. true≢false (sym (c.lists.ensures.1 is) ∙ shut),
      ),
      λ _. refl,
    )

pub loop-above-preserved : goal.loop-above-preserved
loop-above-preserved g c =
    let there : c.lists.result ≡ true = search rules in
    record {
      all = all_more (λ a. IsAncestor c.args.links.now.pairs a c.args.id) (g.T.Listing.listed c.args.listing.now)
          c.loop-above.yielded (coming c.loop-above.above-iterator) c.loop-above.invariant.all c.loop-above.invariant.listed
          c.in-Some.above (coming c.next.new.self) c.in-Some.ensures.steps;
      listed = listed_more (λ a. IsAncestor c.args.links.now.pairs a c.args.id) (g.T.Listing.listed c.args.listing.now)
          c.loop-above.yielded (coming c.loop-above.above-iterator) c.loop-above.invariant.all c.loop-above.invariant.listed
          c.in-Some.above (c.lists.ensures.0 there);
    }

pub returns-clause-lacks : goal.returns-clause-lacks
returns-clause-lacks g c = (
  λ yes. absurd (true≢false (sym yes)),
  λ lacks. absurd (none_lacks (λ a. IsAncestor c.args.links.now.pairs a c.args.id) (g.T.Listing.listed c.args.listing.now)
      c.loop-above.yielded (coming c.loop-above.above-iterator) c.loop-above.invariant.all c.loop-above.invariant.listed
      c.in-None.ensures.steps.0 lacks),
)
