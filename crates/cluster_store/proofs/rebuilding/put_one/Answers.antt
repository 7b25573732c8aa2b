-- The cluster is under the number of the first, or beside all.
use Rattle.std.proofs.Common.{ℕ, List, subst}
use Rattle.std.proofs.lemmas.Result.{IfOk-weaker}
use Rattle.cluster_store.specs.Kept.{shelved}
use Rattle.cluster_store.specs.Tops.{MayLeave}
use Rattle.cluster_store.proofs.Turning.{one_beside, one_under}
use Rattle.cluster_store.proofs.rebuilding.put_one.Goals as goal

pub put_under-requires : goal.put_under-requires
put_under-requires g c = (
  search,
  (
    search,
    (
      c.requires.narrow,
      (
        c.requires.shown,
        (
          subst (λ (xs : List ℕ). MayLeave c.args.staged xs (shelved c.args.slots.now.slots)) c.in-Some.ensures.0 c.requires.may,
          c.in-Some.ensures.1,
        ),
      ),
    ),
  ),
)

pub returns-in_ok-put_under-in-Some-clause-put : goal.returns-in_ok-put_under-in-Some-clause-put
returns-in_ok-put_under-in-Some-clause-put g c =
    one_under c.args.staged c.args.outs.now c.in-Some.leaving.0 c.in-Some.leaving.1.now c.args.cluster (shelved c.args.slots.now.slots)
    (shelved c.put_under.new.slots.slots) c.in-Some.ensures.0 c.in_ok-put_under-in-Some.ensures.put

pub returns-in-None-clause-put : goal.returns-in-None-clause-put
returns-in-None-clause-put g c =
    IfOk-weaker c.put_beside.result _ _
    (λ n x. one_beside c.args.staged c.args.outs.now n c.args.cluster (shelved c.args.slots.now.slots) (shelved c.put_beside.new.slots.slots)
    c.in-None.ensures x) c.put_beside.ensures.put
