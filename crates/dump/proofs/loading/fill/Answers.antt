use Rattle.std.proofs.Common.{◌≡◌, ◌+◌, ◌*◌, [], length, lit<, sym, ap, subst, subst₂, ◌∙◌, arith}
use Rattle.graphs.specs.Certificates.{Txs}
use Rattle.graph_model.specs.declared.names.Refusal.TheVariants.{ClusterSize, Count, Memory}
use Rattle.tx_graph.specs.Restored.{MayRestore, RestoreRefusalIs, RestoresSet}
use Rattle.tx_graph.specs.Kept.{Leads, start_within}
use Rattle.dump_text.specs.Lists.{text_of}
use Rattle.dump.proofs.Filled.{begins, empty_of, fits_not, is_made, may_restore}
use Rattle.dump.proofs.loading.fill.Goals as goal

pub returns-then-len-eq0 : goal.returns-then-len-eq0
returns-then-len-eq0 g c =
    begins (64 * g.row.W) c.args.graph.now.levels.limits (text_of c.args.lists.now) c.requires.types c.requires.text c.requires.small
    (empty_of c.args.lists.now.txs.items (omega (arith, c.if-len-eq0.true, c.len.ensures))) c.args.graph.now c.begin.new.graph c.begin.result
    c.requires.start c.requires.in_range c.requires.none c.begin.ensures.additions c.begin.ensures.step c.begin.ensures.memory

pub restore-requires : goal.restore-requires
restore-requires g c =
    let txs = c.args.lists.now.txs.items in (
      lit< tt,
      subst₂ (λ (ts : Txs) (es : _). MayRestore c.args.graph.now ts es) (sym c.as_slice.ensures.value) (sym c.as_slice-2.ensures.value)
          (may_restore c.args.graph.now (text_of c.args.lists.now) c.requires.text
          (λ (none : txs ≡ []). let long : length txs ≡ 0 = ap (λ (ts : Txs). length ts) none in omega (arith, c.if-len-eq0.false, c.len.ensures, long))
          (omega (arith, c.requires.small.few, c.requires.in_range.total_high)) c.requires.none),
    )

pub returns-in-Ok : goal.returns-in-Ok
returns-in-Ok g c =
    let old = c.args.graph.now in
    let new = c.restore.new.self in
    is_made (64 * g.row.W) old.levels.limits (text_of c.args.lists.now) c.requires.types c.requires.text c.requires.small old new c.requires.start
    c.requires.none
    (subst₂ (λ (ts : Txs) (es : _). Leads old new (RestoresSet ts es)) c.as_slice.ensures.value c.as_slice-2.ensures.value c.in-Ok.ensures.restores.0)
    (c.in-Ok.ensures.restores.1 ∙ ap (λ (ts : Txs). old.levels.issued + length ts) c.as_slice.ensures.value)

pub returns-in-Err-Count : goal.returns-in-Err-Count
returns-in-Err-Count g c =
    let limits = c.args.graph.now.levels.limits in
    let row = c.in-Err-Count.ensures.row (start_within (64 * g.row.W) limits) c.requires.start in
    fits_not (64 * g.row.W) limits (text_of c.args.lists.now) c.requires.types c.requires.text c.requires.small row.0 c.in-Err-Count.field-0
    (subst₂ (λ (ts : Txs) (es : _). RestoreRefusalIs (start_within (64 * g.row.W) limits).plain ts es row.0) c.as_slice.ensures.value c.as_slice-2.ensures.value row.1)
    row.2 (λ lacks. let bad : Count c.in-Err-Count.field-0-0 ≡ Memory = sym c.in-Err-Count.field-0-is ∙ lacks in cc)

pub returns-in-Err-ClusterSize : goal.returns-in-Err-ClusterSize
returns-in-Err-ClusterSize g c =
    let limits = c.args.graph.now.levels.limits in
    let row = c.in-Err-ClusterSize.ensures.row (start_within (64 * g.row.W) limits) c.requires.start in
    fits_not (64 * g.row.W) limits (text_of c.args.lists.now) c.requires.types c.requires.text c.requires.small row.0 c.in-Err-ClusterSize.field-0
    (subst₂ (λ (ts : Txs) (es : _). RestoreRefusalIs (start_within (64 * g.row.W) limits).plain ts es row.0) c.as_slice.ensures.value c.as_slice-2.ensures.value row.1)
    row.2 (λ lacks. let bad : ClusterSize c.in-Err-ClusterSize.field-0-0 ≡ Memory = sym c.in-Err-ClusterSize.field-0-is ∙ lacks in cc)
