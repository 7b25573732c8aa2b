use Rattle.std.proofs.Common.{codes, refl, subst, arith, lit<}
use Rattle.std.specs.declared.result.Result.TheVariants.{Err}
use Rattle.dump_text.specs.declared.fault.LoadFault.{LoadFault}
use Rattle.dump.specs.Loading.{LoadGives}
use Rattle.graph_model.specs.Dumps as dumps
use Rattle.graph_model.specs.Limits.{default_limits}
use Rattle.graph_model.specs.Words.{line_text}
use Rattle.replay.specs.declared.session.TheConstants.{MOST_NAMES}
use Rattle.graphs.specs.declared.names.Level.TheVariants.{Main}
use Rattle.graph_model.specs.Commands.{Proof}
use Rattle.reorg.specs.Kept.{Kept}
use Rattle.replay.specs.Answers.{IsReadOf}
use Rattle.replay.proofs.LoadLemmas.{no_blocks, proof_writes, told_loaded, told_refused}
use Rattle.replay.proofs.load.load_bytes.Goals as goal

pub load_unpaid-requires : goal.load_unpaid-requires
load_unpaid-requires g c = record { name = refl; parts = refl; some = omega (arith, c.new.ensures) }

pub of-pool-requires : goal.of-pool-requires
of-pool-requires g c =
    let (text, state, finds, loads, stands, issued) = c.in-Ok-load_unpaid.ensures.loads in
    (lit< tt, (lit< tt, (state, stands, no_blocks MOST_NAMES default_limits text state loads)))

pub returns-in-Ok-load_unpaid-clause-loads : goal.returns-in-Ok-load_unpaid-clause-loads
returns-in-Ok-load_unpaid-clause-loads g c =
    let (text, state, finds, loads, stands, issued) = c.in-Ok-load_unpaid.ensures.loads in
    told_loaded g.K.Sink.written c.args.sink.now c.prove-status.new.sink c.args.bytes.now c.prove-status.result text _ finds
    (λ out (answer, is, told). proof_writes c.in-Ok-load_unpaid.graph MOST_NAMES default_limits text state answer out loads stands
    (subst (λ (kept : Kept). IsReadOf kept (Proof Main) answer) c.of-pool.ensures is) told)
    c.prove-status.ensures.tells

pub returns-in-Err-Syntax-clause-loads : goal.returns-in-Err-Syntax-clause-loads
returns-in-Err-Syntax-clause-loads g c =
    told_refused g.K.Sink.written c.args.sink.now c.refuse.new.sink c.args.bytes.now c.refuse.result dumps.NoSyntax (line_text (codes "no syntax"))
    (λ text e. cc) (subst (λ (f : LoadFault). LoadGives MOST_NAMES default_limits c.args.bytes.now (Err f)) c.in-Err-Syntax.field-0-is c.in-Err-Syntax.ensures.loads)
    refl c.refuse.ensures.tells

pub returns-in-Err-Graph-clause-loads : goal.returns-in-Err-Graph-clause-loads
returns-in-Err-Graph-clause-loads g c =
    told_refused g.K.Sink.written c.args.sink.now c.refuse-in-Err-Graph.new.sink c.args.bytes.now c.refuse-in-Err-Graph.result dumps.NoGraph (line_text (codes "no graph"))
    (λ text e. cc) (subst (λ (f : LoadFault). LoadGives MOST_NAMES default_limits c.args.bytes.now (Err f)) c.in-Err-Graph.field-0-is c.in-Err-Graph.ensures.loads)
    refl c.refuse-in-Err-Graph.ensures.tells

pub returns-in-Err-Limits-clause-loads : goal.returns-in-Err-Limits-clause-loads
returns-in-Err-Limits-clause-loads g c =
    told_refused g.K.Sink.written c.args.sink.now c.refuse-in-Err-Limits.new.sink c.args.bytes.now c.refuse-in-Err-Limits.result dumps.NoLimits (line_text (codes "no limits"))
    (λ text e. cc) (subst (λ (f : LoadFault). LoadGives MOST_NAMES default_limits c.args.bytes.now (Err f)) c.in-Err-Limits.field-0-is c.in-Err-Limits.ensures.loads)
    refl c.refuse-in-Err-Limits.ensures.tells
