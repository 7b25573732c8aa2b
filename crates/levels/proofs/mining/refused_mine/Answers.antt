-- The first cause of the row that holds is told.
use Rattle.graphs.specs.declared.names.Level.TheVariants.{Main}
use Rattle.levels.specs.Shelves.{view_of}
use Rattle.levels.specs.Views.{graph_of}
use Rattle.levels.proofs.Mined.{row_absent, row_lacking, row_none}
use Rattle.levels.proofs.mining.refused_mine.Goals as goal

pub returns-in-Some-first_absent-clause-row : goal.returns-in-Some-first_absent-clause-row
returns-in-Some-first_absent-clause-row g c =
    row_absent (graph_of (view_of Main c.args.shelves.now)) c.args.ids.now c.in-Some-first_absent.id c.in_default.ensures.first
    c.in-Some-first_absent.ensures

pub returns-in-Some-first_lacking-clause-row : goal.returns-in-Some-first_lacking-clause-row
returns-in-Some-first_lacking-clause-row g c =
    row_lacking (graph_of (view_of Main c.args.shelves.now)) c.args.ids.now c.in_default.ensures.first c.in_default-first_absent.ensures
    c.in-Some-first_lacking.id c.in-Some-first_lacking.ensures.first

pub returns-in-None-clause-row : goal.returns-in-None-clause-row
returns-in-None-clause-row g c =
    row_none (graph_of (view_of Main c.args.shelves.now)) c.args.ids.now c.in_default.ensures.first c.in_default-first_absent.ensures
    c.in-None.ensures.first
