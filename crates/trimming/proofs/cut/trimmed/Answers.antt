use Rattle.std.proofs.Common.{ℕ, Bool, List, sym, subst}
use Rattle.lists.specs.Distinct.{AreDistinct}
use Rattle.lists.proofs.Entries.{none_in_empty}
use Rattle.graphs.specs.Graphs.{Lists}
use Rattle.graphs.specs.Certificates.{Txs}
use Rattle.links.specs.Kept.{names_of}
use Rattle.graph_model.specs.Limits.{bounds_of}
use Rattle.trimming.specs.Counts.{IsUnkept}
use Rattle.trimming.specs.Nets.{IsNetOf}
use Rattle.trimming.proofs.Netting.{names_moved}
use Rattle.trimming.proofs.Renaming.{trimmed_made}
use Rattle.trimming.proofs.cut.trimmed.Goals as goal

pub unkept-requires-clause-once : goal.unkept-requires-clause-once
unkept-requires-clause-once c =
    subst (λ (l : Txs). AreDistinct (names_of l)) (sym c.as_slice.ensures.value)
    (names_moved c.args.links.now.txs c.in_ok-net.net.txs.items (subst (λ (l : Txs). IsNetOf l c.pairs.result.now c.in_ok-net.net) c.txs.ensures.txs c.in_ok-net.ensures).same
    c.txs.ensures.whole.graph_is.names)

pub returns : goal.returns
returns c =
    let links = c.args.links.now in
    let net = c.in_ok-net.net in
    let trim = c.in_ok-trim.trim in
    let t = c.in_ok-trim.ensures in
    let of : IsNetOf links.txs links.pairs net =
    subst (λ (l : List (ℕ × ℕ)). IsNetOf links.txs l net) c.pairs.ensures (subst (λ (l : Txs). IsNetOf l c.pairs.result.now net) c.txs.ensures.txs c.in_ok-net.ensures) in
    record {
      trimmed = trimmed_made links.txs links.pairs net c.txs.ensures.whole of (bounds_of c.args.limits.now) trim.marked.items t.turns trim.teams.kept.items c.in_ok-ids.ids.items
          (λ p is. none_in_empty p ((t.exact p).1 is)) t.kept
          (subst (λ (l : Txs). Lists (IsUnkept l trim.teams.kept.items) c.in_ok-ids.ids.items) c.as_slice.ensures.value
          (subst (λ (l : List Bool). Lists (IsUnkept c.as_slice.result.now l) c.in_ok-ids.ids.items) c.as_slice-2.ensures.value c.in_ok-ids.ensures));
    }
