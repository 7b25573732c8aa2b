use Rattle.std.proofs.Common.{◌≡◌, subst, sym}
use Rattle.desk.specs.Pools.{IsNew}
use Rattle.desk.proofs.CallLemmas.{if_ok}
use Rattle.desk.proofs.making.make_desk.Goals as goal

pub returns-clause-pool : goal.returns-clause-pool
returns-clause-pool c =
    if_ok c.desk_of.result (λ desk. desk.value.pool ≡ c.in_ok-pool.pool) (λ desk. IsNew c.args.limits desk.value.pool)
    (λ desk same. subst (IsNew c.args.limits) (sym same) c.in_ok-pool.ensures) c.desk_of.ensures.pool
