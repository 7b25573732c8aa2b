-- One ancestor more is looked at.
use Rattle.std.proofs.Common.{rules, ◌≡◌, ◌↔◌, ℕ, List, false, true, true≢false, Contains, refl, sym, ◌∙◌, subst}
use Rattle.graphs.specs.Closures.{is_ancestor}
use Rattle.lists.proofs.Entries.{none_in_empty}
use Rattle.record.proofs.Listed.{comes, all_more, listed_more, none_lacks}
use Rattle.record.proofs.listing.lacks_within.Goals as goal

pub loop-above-init : goal.loop-above-init
loop-above-init g c = record {
  all = λ a. subst (λ (ids : List ℕ). Contains ids a ↔ (is_ancestor c.args.component.now.graph a c.args.id ≡ true))
      (sym c.into_iter-above-iterator.ensures.into_iter_gives) (c.ancestors-above-items.ensures a);
  listed = λ a here. absurd (none_in_empty a here);
}

pub lists-requires : goal.lists-requires
lists-requires g c =
    c.requires.known c.in-Some.above
    (comes (λ a. is_ancestor c.args.component.now.graph a c.args.id ≡ true) (g.T.Listing.listed c.args.listing.now)
    c.loop-above.yielded c.loop-above.above-iterator c.loop-above.invariant.all c.loop-above.invariant.listed
    c.in-Some.above c.next.new.self c.in-Some.ensures.steps)

pub returns-then-not-lists : goal.returns-then-not-lists
returns-then-not-lists g c =
    let shut : c.lists.result ≡ false = search rules in (
      λ _. (
        c.in-Some.above,
        comes (λ a. is_ancestor c.args.component.now.graph a c.args.id ≡ true) (g.T.Listing.listed c.args.listing.now)
            c.loop-above.yielded c.loop-above.above-iterator c.loop-above.invariant.all c.loop-above.invariant.listed
            c.in-Some.above c.next.new.self c.in-Some.ensures.steps,
        λ is. true≢false (sym (c.lists.ensures.1 is) ∙ shut),
      ),
      λ _. refl,
    )

pub loop-above-preserved : goal.loop-above-preserved
loop-above-preserved g c =
    let there : c.lists.result ≡ true = search rules in
    record {
      all = all_more (λ a. is_ancestor c.args.component.now.graph a c.args.id ≡ true) (g.T.Listing.listed c.args.listing.now)
          c.loop-above.yielded c.loop-above.above-iterator c.loop-above.invariant.all c.loop-above.invariant.listed
          c.in-Some.above c.next.new.self c.in-Some.ensures.steps;
      listed = listed_more (λ a. is_ancestor c.args.component.now.graph a c.args.id ≡ true) (g.T.Listing.listed c.args.listing.now)
          c.loop-above.yielded c.loop-above.above-iterator c.loop-above.invariant.all c.loop-above.invariant.listed
          c.in-Some.above (c.lists.ensures.0 there);
    }

pub returns : goal.returns
returns g c = (
  λ yes. absurd (true≢false (sym yes)),
  λ lacks. absurd (none_lacks (λ a. is_ancestor c.args.component.now.graph a c.args.id ≡ true) (g.T.Listing.listed c.args.listing.now)
      c.loop-above.yielded c.loop-above.above-iterator c.loop-above.invariant.all c.loop-above.invariant.listed
      c.in-None.ensures.steps.0 lacks),
)
