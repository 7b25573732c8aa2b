use Rattle.desk.proofs.request.Search.find.Goals as goal

pub returns-in-Cluster-clause-step : goal.returns-in-Cluster-clause-step
returns-in-Cluster-clause-step c = rw c.in-Cluster.is c.cluster.ensures.step

pub returns-in-Ancestors-clause-step : goal.returns-in-Ancestors-clause-step
returns-in-Ancestors-clause-step c = rw c.in-Ancestors.is c.ancestors.ensures.step

pub returns-in-Descendants-clause-step : goal.returns-in-Descendants-clause-step
returns-in-Descendants-clause-step c = rw c.in-Descendants.is c.descendants.ensures.step
