use Rattle.std.proofs.Common.{◌*◌, rules, sym, ap, ◌∙◌, subst, ◌<◌}
use Rattle.std.specs.FinSet as set
use Rattle.bitset.specs.Places.{places}
use Rattle.graphs.specs.Closures.{IsClosed, IsPart}
use Rattle.cluster.specs.Changes.{IsSame}
use Rattle.cluster.specs.Named.{IsNamed}
use Rattle.cluster.proofs.Copied.{is_same, is_named}
use Rattle.cluster.proofs.Listings.{contains-members_of}
use Rattle.cluster.proofs.Oks.{both_ok}
use Rattle.cluster.proofs.Rooms.{dep_room, words_in_dep}
use Rattle.cluster.proofs.making.copied.Goals as goal

pub part-requires : goal.part-requires
part-requires g c =
    (search rules, (search rules, λ p here. sym (contains-members_of c.args.dep.now p) ∙ sym (ap (λ s. set.contains s p) c.members.ensures.members) ∙ here))

pub returns-clause-same : goal.returns-clause-same
returns-clause-same g c =
    both_ok c.part.result (IsPart c.args.dep.now (places (64 * g.row.W) c.members.result)) (IsClosed (64 * g.row.W)) (IsSame c.args.dep.now)
    (λ h part closed. is_same (64 * g.row.W) c.args.names.now c.args.dep.now h c.requires
    (subst (λ s. IsPart c.args.dep.now (places (64 * g.row.W) s) h) c.members.ensures.members part) closed) c.part.ensures.part c.part.ensures.closed

pub returns-clause-named : goal.returns-clause-named
returns-clause-named g c =
    both_ok c.part.result (IsPart c.args.dep.now (places (64 * g.row.W) c.members.result)) (IsClosed (64 * g.row.W)) (IsNamed (64 * g.row.W) c.args.names.now)
    (λ h part closed. is_named (64 * g.row.W) c.args.names.now c.args.dep.now h c.requires
    (subst (λ s. IsPart c.args.dep.now (places (64 * g.row.W) s) h) c.members.ensures.members part) closed) c.part.ensures.part c.part.ensures.closed

pub members-requires : goal.members-requires
members-requires g c = let fits : dep_room g.row.W < 9223372036854775808 = search in (fits, words_in_dep g.row.W fits)
