use Rattle.std.proofs.Common.{◌≡◌, ◌+◌, length, arith, ap}
use Rattle.graphs.specs.Rooms.{Room}
use Rattle.std.proofs.lemmas.List.Sorted.{length_permutation}
use Rattle.cluster.specs.Changes.{IsChosen}
use Rattle.cluster.proofs.Lists.{put_listed}
use Rattle.cluster.proofs.members.list_chosen.Goals as goal

pub returns-clause-lists : goal.returns-clause-lists
returns-clause-lists g c =
    put_listed (IsChosen c.args.names.now c.args.chosen.now) c.clear.new.self.ids c.add_chosen.new.out.ids c.sort.new.self.ids
    (ap (λ (r : Room). r.ids) c.clear.ensures) c.add_chosen.ensures.adds c.sort.ensures.permutation c.sort.ensures.sorted

pub returns-clause-room : goal.returns-clause-room
returns-clause-room g c =
    let cleared : length c.clear.new.self.ids + c.clear.new.self.room ≡ 0 + (c.args.out.now.room + length c.args.out.now.ids) =
    ap (λ (r : Room). length r.ids + r.room) c.clear.ensures in
    let kept : length c.add_chosen.new.out.ids + c.add_chosen.new.out.room ≡ length c.clear.new.self.ids + c.clear.new.self.room = c.add_chosen.ensures.room in
    let sorted : length c.sort.new.self.ids ≡ length c.add_chosen.new.out.ids =
    length_permutation c.add_chosen.new.out.ids c.sort.new.self.ids c.sort.ensures.permutation in
    let room : c.sort.new.self.room ≡ c.add_chosen.new.out.room = c.sort.ensures.room in
    omega arith
