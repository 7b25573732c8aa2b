use Rattle.std.proofs.Common.{◌≡◌, ℕ, List, [], Ok, Err, subst, sym, ap}
use Rattle.std.specs.Prelude.{MatchResult}
use Rattle.std.specs.declared.result.Result.{Result}
use Rattle.std.specs.declared.boxed.Box.{Box}
use Rattle.std.specs.Global.{Global}
use Rattle.graph_model.specs.Limits.{Bounds, bounds_of}
use Rattle.graph_model.specs.States.{State, PlainState}
use Rattle.dump_text.specs.declared.fault.LoadFault.{LoadFault}
use Rattle.dump_text.specs.declared.fault.LoadFault.TheVariants.{Memory}
use Rattle.dump.specs.Loading.{LoadGives}
use Rattle.tx_graph.specs.Kept.{Kept, StandsFor}
use Rattle.desk.specs.declared.desk.Desk.{Desk}
use Rattle.desk.specs.Loading.{IsLoaded, LoadsDesk}
use Rattle.desk.proofs.making.load_desk.Goals as goal

-- no block was mined in the state that a text makes
empty : (bounds : Bounds) (bytes : List ℕ) (graph : Kept) → LoadGives 128 bounds bytes (Ok graph)
    → (state : State) × StandsFor graph state × (state.plain.blocks ≡ [])
empty bounds bytes graph (text, state, finds, loads, stands, issued) = (state, stands, ap (λ (s : PlainState). s.blocks) loads.plain.same)

-- a desk of the graph, or no memory for it
carried : (bounds : Bounds) (bytes : List ℕ) (graph : Kept) → LoadGives 128 bounds bytes (Ok graph) → (r : Result (Box Desk Global) LoadFault)
    → MatchResult r (λ desk. IsLoaded graph desk.value) (λ fault. fault ≡ Memory) → LoadsDesk bounds bytes r
carried bounds bytes graph gives (Ok desk) loaded = (graph, gives, loaded)
carried bounds bytes graph gives (Err fault) none = subst (λ (f : LoadFault). LoadGives 128 bounds bytes (Err f)) (sym none) tt

pub loaded_desk-requires : goal.loaded_desk-requires
loaded_desk-requires g c = empty (bounds_of c.args.limits) c.args.bytes.now c.in-Ok.graph c.in-Ok.ensures.loads

pub returns-in-Ok-clause-answers : goal.returns-in-Ok-clause-answers
returns-in-Ok-clause-answers g c =
    carried (bounds_of c.args.limits) c.args.bytes.now c.in-Ok.graph c.in-Ok.ensures.loads c.loaded_desk.result c.loaded_desk.ensures
