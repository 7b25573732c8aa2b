use Rattle.mempool.proofs.request.Search.find.Goals as goal

-- that the names fit in memory is asked of the caller too
pub cluster-requires : goal.cluster-requires
cluster-requires g c = assumption

pub ancestors-requires : goal.ancestors-requires
ancestors-requires g c = assumption

pub descendants-requires : goal.descendants-requires
descendants-requires g c = assumption

pub returns-in-Cluster-clause-step : goal.returns-in-Cluster-clause-step
returns-in-Cluster-clause-step g c = rw c.in-Cluster.is c.cluster.ensures.step

pub returns-in-Ancestors-clause-step : goal.returns-in-Ancestors-clause-step
returns-in-Ancestors-clause-step g c = rw c.in-Ancestors.is c.ancestors.ensures.step

pub returns-in-Descendants-clause-step : goal.returns-in-Descendants-clause-step
returns-in-Descendants-clause-step g c = rw c.in-Descendants.is c.descendants.ensures.step

pub returns-in-Cluster-clause-room : goal.returns-in-Cluster-clause-room
returns-in-Cluster-clause-room g c = c.cluster.ensures.room

pub returns-in-Ancestors-clause-room : goal.returns-in-Ancestors-clause-room
returns-in-Ancestors-clause-room g c = c.ancestors.ensures.room

pub returns-in-Descendants-clause-room : goal.returns-in-Descendants-clause-room
returns-in-Descendants-clause-room g c = c.descendants.ensures.room
