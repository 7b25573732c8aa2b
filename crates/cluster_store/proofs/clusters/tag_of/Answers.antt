use Rattle.std.proofs.Common.{sym}
use Rattle.cluster_store.proofs.clusters.tag_of.Goals as goal

pub returns-in-Some : goal.returns-in-Some
returns-in-Some g c = (c.in-Some.stored.now, sym c.in-Some.ensures, c.tag.ensures)

pub tag-requires : goal.tag-requires
tag-requires g c = search
