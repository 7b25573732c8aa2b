use Rattle.desk.proofs.uniting.unite.Goals as goal

pub returns-in-Ancestors-clause-kin : goal.returns-in-Ancestors-clause-kin
returns-in-Ancestors-clause-kin c = rw c.in-Ancestors.is c.ancestors_union.ensures.lists

pub returns-in-Descendants-clause-kin : goal.returns-in-Descendants-clause-kin
returns-in-Descendants-clause-kin c = rw c.in-Descendants.is c.descendants_union.ensures.lists
