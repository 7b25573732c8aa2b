use Rattle.std.proofs.Common.{◌≡◌, ℕ, true, false, List, length, set, sym, ◌∙◌, subst, arith}
use Rattle.std.specs.Prelude.{Contains}
use Rattle.std.proofs.lemmas.List.{get_or_read}
use Rattle.std.proofs.lemmas.List.Elements.{Contains-push}
use Rattle.links.specs.Walkers.{mark_at, AreMarked}
use Rattle.links.proofs.Marks.{found_more, room_for}
use Rattle.trimming.proofs.room.reach.Goals as goal

pub push_reserved-requires : goal.push_reserved-requires
push_reserved-requires c =
    let marks = c.args.room.now.marks.items in
    let found = c.args.room.now.found.items in
    let none : mark_at marks c.args.place ≡ false =
    sym (get_or_read marks c.args.place c.index.result.now c.requires.place c.index.ensures false) ∙ c.if-index.false in
    let room = room_for (length marks) marks found c.args.place c.requires.finding.marked c.requires.place none in
    omega (arith, room, c.requires.finding.space)

pub returns-clause-finding : goal.returns-clause-finding
returns-clause-finding c =
    let marks = c.args.room.now.marks.items in
    let found = c.args.room.now.found.items in
    let none : mark_at marks c.args.place ≡ false =
    sym (get_or_read marks c.args.place c.index.result.now c.requires.place c.index.ensures false) ∙ c.if-index.false in
    record {
      marked = subst (λ (xs : List ℕ). AreMarked (length marks) (set marks c.args.place true) xs) (sym c.push_reserved.ensures.items)
          (found_more (length marks) marks found c.args.place c.requires.finding.marked c.requires.place none);
      space = (let k = c.push_reserved.ensures.capacity in omega (arith, k, c.requires.finding.space));
    }

pub returns-clause-found : goal.returns-clause-found
returns-clause-found c =
    subst (λ (xs : List ℕ). Contains xs c.args.place) (sym c.push_reserved.ensures.items) (Contains-push c.args.room.now.found.items c.args.place)
