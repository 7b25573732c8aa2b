-- A graph that comes into a slot from a text.
use Rattle.std.specs.Prelude.{◌≡◌, ℕ, List, [], Ok, Err}
use Rattle.std.specs.declared.result.Result.{Result}
use Rattle.std.specs.declared.boxed.Box.{Box}
use Rattle.std.specs.Global.{Global}
use Rattle.graph_model.specs.Limits.{Bounds}
use Rattle.dump_text.specs.declared.fault.LoadFault.{LoadFault}
use Rattle.dump_text.specs.declared.fault.LoadFault.TheVariants as faults
use Rattle.dump.specs.Loading.{LoadGives}
use Rattle.tx_graph.specs.Kept.{Kept}
use Rattle.desk.specs.declared.desk.Desk.{Desk}

-- a desk with this graph, without mined blocks, with nothing picked
pub record IsLoaded (graph : Kept) (desk : Desk) : Type 0 where
  pub graph_is : desk.pool.graph ≡ graph
  pub blocks : desk.pool.blocks ≡ []
  pub picked : desk.picked ≡ []

-- the desk's graph is what is found of the bytes, or this is the first test that they fail
abbrev pub LoadsDesk : Bounds → List ℕ → Result (Box Desk Global) LoadFault → Type 0
LoadsDesk bounds bytes (Ok desk) = (graph : Kept) × LoadGives 128 bounds bytes (Ok graph) × IsLoaded graph desk.value
LoadsDesk bounds bytes (Err fault) = LoadGives 128 bounds bytes (Err fault)

abbrev pub fault_number : LoadFault → ℕ
fault_number faults.Syntax = 36
fault_number faults.Graph = 37
fault_number faults.Limits = 42
fault_number faults.Memory = 18
