use Rattle.std.proofs.Common.{◌∷◌, [], ◌++◌, List, map, sym, subst}
use Rattle.std.specs.Borrow.{Bor}
use Rattle.std.proofs.lemmas.List.{map-append}
use Rattle.cluster.specs.Clusters.{Cluster}
use Rattle.levels.specs.Views.{AreItsClusters}
use Rattle.reorg.proofs.Unions.{ArePut, one_given, all_given, more_put, closes_all}
use Rattle.reorg.proofs.linking.pairs_in.Goals as goal

pub loop-record-preserved : goal.loop-record-preserved
loop-record-preserved g c =
    let given = c.loop-record.yielded in
    let one = c.in-Some.record in
    let was = c.loop-record.invariant in
    record {
      all = subst (AreItsClusters c.args.graph.now.levels.main.graph)
          (one_given given one c.loop-record.record-iterator c.next.new.self c.in-Some.ensures.steps) was.all;
      put = subst (λ (cs : List Cluster). ArePut cs c.put_behind.new.pairs.items) (sym (map-append (λ (x : Bor Cluster). x.now) given (one ∷ [])))
          (more_put (map (λ (x : Bor Cluster). x.now) given) one.now c.loop-record.txs.items c.put_behind.new.txs.items c.loop-record.list.items
          c.put_behind.new.pairs.items was.put c.in_ok-put_behind.ensures);
    }

pub returns : goal.returns
returns g c =
    let was = c.loop-record.invariant in
    let given = c.loop-record.yielded in
    closes_all c.args.graph.now c.additions-stands.ensures.stands (map (λ (x : Bor Cluster). x.now) given)
    (subst (AreItsClusters c.args.graph.now.levels.main.graph) (all_given given c.loop-record.record-iterator c.in-None.ensures.steps.0) was.all)
    c.loop-record.list.items was.put
