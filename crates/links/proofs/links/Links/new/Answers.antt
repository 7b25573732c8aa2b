use Rattle.std.proofs.Common.{sym, subst}
use Rattle.graphs.specs.Certificates.{Txs}
use Rattle.links.specs.Links.{AreAmong, AreInRange}
use Rattle.links.specs.Kept.{names_of}
use Rattle.links.proofs.links.Links.new.Goals as goal

pub made-requires-clause-in_range : goal.made-requires-clause-in_range
made-requires-clause-in_range c = subst AreInRange (sym c.in_ok-txs.ensures.items) c.requires.in_range

pub made-requires-clause-among : goal.made-requires-clause-among
made-requires-clause-among c = subst (λ (ts : Txs). AreAmong (names_of ts) c.args.pairs.now) (sym c.in_ok-txs.ensures.items) c.requires.among
