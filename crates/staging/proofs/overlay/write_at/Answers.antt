use Rattle.std.specs.Cmp.{nat_eq_equiv}
use Rattle.std.proofs.lemmas.Bool.{false≢true}
use Rattle.std.proofs.lemmas.Option.{slice_get_within}
use Rattle.indexmap.proofs.CallerLemmas.{updates-with_value_at}
use Rattle.staging.proofs.overlay.write_at.Goals as goal

pub returns-in-Some-clause-updates : goal.returns-in-Some-clause-updates
returns-in-Some-clause-updates g c =
    updates-with_value_at c.args.map.now c.args.index c.args.value nat_eq_equiv c.get_index_mut.ensures.unique c.args.key c.requires.0 c.requires.1

pub returns-in_default-clause-updates : goal.returns-in_default-clause-updates
returns-in_default-clause-updates g c =
    absurd (false≢true (c.in_default.ensures.found.1 (slice_get_within c.args.map.now.entries c.args.index _ c.requires.1)))
