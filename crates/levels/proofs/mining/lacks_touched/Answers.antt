-- The ancestors of a name in its cluster are those in the graph of main.
use Rattle.std.proofs.Common.{◌≡◌, ◌≤◌, ◌∙◌, length, sym, ap, true≢false, arith}
use Rattle.graphs.specs.declared.names.Level.TheVariants.{Main}
use Rattle.levels.proofs.Mined.{lacks_in, lone_lacks_none}
use Rattle.levels.proofs.Rooms.{record_fits}
use Rattle.levels.proofs.Under.{held, is_stored, name_live, seen_there}
use Rattle.levels.proofs.mining.lacks_touched.Goals as goal

pub at-requires : goal.at-requires
at-requires g c =
    let narrow : g.row.W ≤ 2 = c.requires.order.narrow in
    (omega arith, (record_fits g.row.W narrow, is_stored g.row.W c.args.shelves.now c.requires.order Main c.args.id c.its_number-number.result c.its_number-number.ensures))

pub returns-then-names-eq1-clause-lacks : goal.returns-then-names-eq1-clause-lacks
returns-then-names-eq1-clause-lacks g c =
    let cluster = c.at.result.now in
    let seen = seen_there g.row.W c.args.shelves.now c.requires.order Main c.args.id c.its_number-number.result c.its_number-number.ensures cluster c.at.ensures in
    let one : length cluster.names ≡ 1 = ap length (sym c.names.ensures.names) ∙ c.if-names-eq1.true in (
      λ shut. absurd (true≢false (sym shut)),
      λ lacks. absurd (lone_lacks_none g.row.W c.args.shelves.now c.requires.order c.args.rings.now c.args.id c.its_number-number.result c.its_number-number.ensures
          cluster seen one c.requires.touched lacks),
    )

pub lacks_touched-requires : goal.lacks_touched-requires
lacks_touched-requires g c =
    let cluster = c.at.result.now in
    let seen = seen_there g.row.W c.args.shelves.now c.requires.order Main c.args.id c.its_number-number.result c.its_number-number.ensures cluster c.at.ensures in (
      omega arith,
      (
        (cluster, c.at.ensures, held g.row.W c.args.shelves.now c.requires.order Main c.args.id c.its_number-number.result c.its_number-number.ensures cluster seen),
        λ k a there here. c.requires.named a (name_live g.row.W c.args.shelves.now c.requires.order Main c.args.id c.its_number-number.result
            c.its_number-number.ensures k there a here),
      ),
    )

pub returns-clause-lacks : goal.returns-clause-lacks
returns-clause-lacks g c =
    let cluster = c.at.result.now in
    let seen = seen_there g.row.W c.args.shelves.now c.requires.order Main c.args.id c.its_number-number.result c.its_number-number.ensures cluster c.at.ensures in
    let same = lacks_in g.row.W c.args.shelves.now c.requires.order c.args.rings.now c.args.id c.its_number-number.result c.its_number-number.ensures cluster seen in
    let lacks = c.lacks_touched.ensures.lacks cluster c.at.ensures in
    (λ holds. same.0 (lacks.0 holds), λ is. lacks.1 (same.1 is))
