use Rattle.std.proofs.Common.{◌≡◌, ◌<◌, ℕ, List, length, take, get_or, sym, ap, subst, arith}
use Rattle.std.specs.Prelude.{Contains}
use Rattle.std.proofs.lemmas.List.{take_all}
use Rattle.std.proofs.lemmas.List.Elements.{Contains-get_or}
use Rattle.lists.proofs.Entries.{none_in_empty}
use Rattle.links.specs.Walkers.{Finds}
use Rattle.links.proofs.Marks.{found_stays}
use Rattle.trimming.specs.Rooms.{IsFinding}
use Rattle.trimming.specs.Nets.{list_at, IsParent}
use Rattle.trimming.specs.Ties.{AreTied}
use Rattle.trimming.specs.Teams.{IsKept, AreGathered}
use Rattle.trimming.proofs.Finding.{only_one}
use Rattle.trimming.proofs.Teaming.{sound_more, all_more, all_found, parents_read}
use Rattle.trimming.proofs.teams.gather.Goals as goal

pub loop-parent-init : goal.loop-parent-init
loop-parent-init c =
    let only = only_one c.args.place c.reach.new.room.found.items
    (subst (λ (l : List ℕ). Finds (λ (q : ℕ). q ≡ c.args.place) l c.reach.new.room.found.items) c.clear.ensures.items c.reach.ensures.finds) in
    record {
      finding = subst (λ (n : ℕ). IsFinding n c.reach.new.room) c.requires.room.sized c.reach.ensures.finding;
      whole = λ x y here kept tied. absurd (c.requires.place.1 (subst (IsKept c.args.teams.now) (only x here) kept));
      sound = λ x here. (0, sym (only x here));
      here = c.reach.ensures.found;
      all = λ few a none. absurd (none_in_empty a none);
    }

pub loop-parent-preserved : goal.loop-parent-preserved
loop-parent-preserved c =
    let net = c.args.net.now in
    let teams = c.args.teams.now in
    let place = c.args.place in
    let fresh = c.requires.place.1 in
    let list = c.as_slice-parent-items.result.now in
    let parents = list_at net.parents.items place in
    let k = c.loop-parent.parent-index in
    let old = c.loop-parent.room.found.items in
    let new = c.reach_team.new.room.found.items in
    let same : list ≡ parents = parents_read net place c.index.result.now list c.requires.net c.requires.place.0 c.index.ensures c.as_slice-parent-items.ensures.value in
    let low : k < length parents = omega (arith, c.loop-parent-test.true, ap length same) in
    let is : get_or list k 0 ≡ get_or parents k 0 = ap (λ (l : List ℕ). get_or l k 0) same in
    let up : IsParent net (get_or list k 0) place = subst (λ (q : ℕ). IsParent net q place) (sym is) (Contains-get_or parents k 0 low) in
    let kept : IsKept teams (get_or list k 0) = c.requires.parents (get_or list k 0) up in
    let finds = c.reach_team.ensures.finds in
    let inv = c.loop-parent.invariant in
    record {
      finding = c.reach_team.ensures.finding;
      whole = c.reach_team.ensures.whole;
      sound = sound_more net teams c.requires.teams place fresh (get_or list k 0) old new up kept finds inv.sound;
      here = found_stays (AreTied (IsParent net) (IsKept teams) (get_or list k 0)) old new place finds inv.here;
      all = all_more net teams c.requires.teams place fresh (AreTied (IsParent net) (IsKept teams) (get_or list k 0)) parents old new k c.args.most low finds
          (λ few. subst (Contains new) is (c.reach_team.ensures.found few)) inv.all;
    }

pub returns-clause-found : goal.returns-clause-found
returns-clause-found c =
    let net = c.args.net.now in
    let teams = c.args.teams.now in
    let place = c.args.place in
    let list = c.as_slice-parent-items.result.now in
    let parents = list_at net.parents.items place in
    let k = c.loop-parent.parent-index in
    let found = c.loop-parent.room.found.items in
    let same : list ≡ parents = parents_read net place c.index.result.now list c.requires.net c.requires.place.0 c.index.ensures c.as_slice-parent-items.ensures.value in
    let all : take k parents ≡ parents = take_all k parents (omega (arith, c.loop-parent-test.false, ap length same)) in
    let inv = c.loop-parent.invariant in
    let made : AreGathered net teams place c.args.most found = record {
      once = inv.finding.marked.once;
      here = inv.here;
      within = inv.finding.marked.within;
      sound = inv.sound;
      all = λ few. all_found net teams c.requires.teams place c.requires.place.1 found inv.here inv.whole
          (λ a up. inv.all few a (subst (λ (l : List ℕ). Contains l a) (sym all) up));
    } in
    subst (AreGathered net teams place c.args.most) (sym c.unmark.ensures.found) made
