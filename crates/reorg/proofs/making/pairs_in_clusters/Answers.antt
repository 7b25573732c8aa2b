use Rattle.std.proofs.Common.{lit<, ◌≡◌, ◌+◌, ◌*◌, ◌≤◌, ℕ, length, get_or, List, [], take, sym, ap, ◌∙◌, subst, arith}
use Rattle.std.proofs.lemmas.List.{take_all}
use Rattle.std.proofs.lemmas.List.Elements.{Contains-get_or}
use Rattle.reorg.specs.Blocks.{ArePairsBy, IsBelow}
use Rattle.reorg.proofs.Pairing.{longer, by_none, by_more, room_at_start}
use Rattle.reorg.proofs.making.pairs_in_clusters.Goals as goal

pub loop-id-init : goal.loop-id-init
loop-id-init g c = record {
  room = room_at_start c.in_ok-found.found c.most_members.result c.in_ok-found.ensures ∙ c.most_members.ensures;
  pairs = subst (ArePairsBy (IsBelow c.args.graph.now.levels.main.graph) []) (sym c.new-list.ensures.items)
      (by_none (IsBelow c.args.graph.now.levels.main.graph));
}

pub put_below-requires : goal.put_below-requires
put_below-requires g c =
    let ids = c.args.ids.now in let k = c.loop-id.id-index in let room = c.loop-id.invariant.room in
    (lit< tt, (c.requires.names (get_or ids k 0) (Contains-get_or ids k 0 c.loop-id-test.true), (c.requires.within, omega (arith, room))))

pub loop-id-preserved : goal.loop-id-preserved
loop-id-preserved g c =
    let ids = c.args.ids.now in let k = c.loop-id.id-index in
    record {
      room = c.in_ok-put_below.ensures.room ∙ c.loop-id.invariant.room;
      pairs = by_more (IsBelow c.args.graph.now.levels.main.graph) (take k ids) (take (k + 1) ids) (get_or ids k 0) c.loop-id.list.items
          c.put_below.new.list.items (longer ids k c.loop-id-test.true) c.loop-id.invariant.pairs c.in_ok-put_below.ensures.adds;
    }

pub returns : goal.returns
returns g c =
    subst (λ (ns : List ℕ). ArePairsBy (IsBelow c.args.graph.now.levels.main.graph) ns c.loop-id.list.items)
    (take_all c.loop-id.id-index c.args.ids.now (omega arith)) c.loop-id.invariant.pairs
