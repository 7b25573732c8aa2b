use Rattle.std.proofs.Common.{◌+◌, ◌≤◌, length, subst, sym, arith}
use Rattle.graph_model.specs.Commands.{Unmine}
use Rattle.graph_model.specs.Refusals.{latest_ids}
use Rattle.reorg.specs.Blocks.{unmined_reply}
use Rattle.reorg.specs.Kept.{Kept, MakesStep}
use Rattle.desk.proofs.PoolLemmas.{pool_of}
use Rattle.desk.proofs.pool.Pool.unmine.Goals as goal

pub invariant_of-self : goal.invariant_of-self
invariant_of-self g c =
    let pool = c.self.invariant in
    let next = c.unmine.ensures.step pool.stands.0 pool.stands.1 in record { stands = (next.0, next.1); room = pool.room }

pub returns : goal.returns
returns g c =
    subst (λ (k : Kept). MakesStep k (pool_of c.unmine.new.graph c.unmine.new.self) Unmine (unmined_reply c.unmine.result)) c.self.view_is
    c.unmine.ensures.step

pub unmine-requires : goal.unmine-requires
unmine-requires g c =
    let few = subst (λ (k : Kept). k.graph.levels.issued + length (latest_ids k.blocks) ≤ 18446744073709551615) (sym c.self.view_is) c.requires in
    omega (arith, few)
