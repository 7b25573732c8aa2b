-- What a call says of the slot that it is handed. A slot has a desk, or none. A desk is a graph with its mined blocks, the transactions that the
-- latest call picked, and the lists that were read last.
use Rattle.std.specs.Prelude.{◌≡◌, ◌⊎◌, ℕ, List, [], Option, None, Some, Ok, Err, length}
use Rattle.graph_model.specs.declared.names.Limits.{Limits}
use Rattle.graph_model.specs.Limits.{AreInRange, bounds_of}
use Rattle.graph_model.specs.Commands.{Command, Mine, Unmine}
use Rattle.graph_model.specs.Refusals.{latest_ids}
use Rattle.graph_model.specs.Replies.{Reply}
use Rattle.graph_model.specs.States.{State}
use Rattle.dump_text.specs.declared.fault.LoadFault.{LoadFault}
use Rattle.dump.specs.Loading.{LoadGives}
use Rattle.tx_graph.specs.Kept.{Kept}
use Rattle.desk.specs.declared.desk.Desk.{Desk}
use Rattle.desk.specs.declared.desk.Held.{Held}
use Rattle.desk.specs.Calls.{Answers, Gathers, IsSpent, LacksRoom, Nothing, Tells}
use Rattle.desk.specs.Facts.{Judges}
use Rattle.desk.specs.Loading.{IsLoaded, fault_number}
use Rattle.desk.specs.Orders.{Holds, IsRefused}
use Rattle.desk.specs.Pools.{IsNew}

-- ---- slots

-- An empty slot answers 1, and nothing changes. Else there is a desk in the slot before and after, and this is so of the two.
abbrev pub OfSlot : Option Desk → Option Desk → ℕ → Type 0 → (Desk → Desk → Type 0) → Type 0
OfSlot None new code Rest Does = (code ≡ 1) × (new ≡ None) × Rest
OfSlot (Some old) None code Rest Does = ⊥
OfSlot (Some old) (Some new) code Rest Does = Does old new

-- ---- a slot that gets a graph, and one that loses it

-- The slot has a new graph under these limits; or a limit was out of its range, or there was no memory, and it has none.
abbrev pub Begins : Limits → Option Desk → ℕ → Type 0
Begins limits None code = ((AreInRange 128 (bounds_of limits) → ⊥) × (code ≡ 4)) ⊎ (AreInRange 128 (bounds_of limits) × (code ≡ 18))
Begins limits (Some new) code = (code ≡ 0) × AreInRange 128 (bounds_of limits) × IsNew limits new.pool × (new.picked ≡ [])

-- A slot in use answers 2, and nothing changes.
abbrev pub Opens : Limits → Option Desk → Option Desk → ℕ → Type 0
Opens limits None new code = Begins limits new code
Opens limits (Some old) new code = (code ≡ 2) × (new ≡ Some old)

-- The slot has no graph, and had one where the result is 0.
abbrev pub Closes : Option Desk → Option Desk → ℕ → Type 0
Closes None new code = (code ≡ 1) × (new ≡ None)
Closes (Some old) new code = (code ≡ 0) × (new ≡ None)

-- ---- calls that change the graph

-- The graph in the slot made the step of this command. The kept number is the refusal's.
abbrev pub Steps : Option Desk → Option Desk → Command → ℕ → ℕ → ℕ → Type 0
Steps old new command code kept_old kept =
    OfSlot old new code (kept ≡ kept_old)
    (λ o n. IsSpent o n 1 code (kept ≡ kept_old) ⊎ Answers o n command code kept Nothing)

-- An empty list answers 34, and nothing changes.
abbrev pub Mines : Option Desk → Option Desk → List ℕ → ℕ → ℕ → ℕ → Type 0
Mines old new ids code kept_old kept =
    OfSlot old new code (kept ≡ kept_old)
    (λ o n. ((ids ≡ []) × (code ≡ 34) × (n ≡ o) × (kept ≡ kept_old)) ⊎ Answers o n (Mine ids) code kept Nothing)

abbrev pub Unmines : Option Desk → Option Desk → ℕ → ℕ → ℕ → Type 0
Unmines old new code kept_old kept =
    OfSlot old new code (kept ≡ kept_old)
    (λ o n. IsSpent o n (length (latest_ids o.pool.blocks)) code (kept ≡ kept_old) ⊎ Answers o n Unmine code kept Nothing)

-- What is written beside the kept number shows the reply, and stays as it was where the slot is empty.
abbrev pub Makes : {X : Type 0} → Option Desk → Option Desk → Command → ℕ → ℕ → ℕ → X → X → (X → X → Reply → Type 0) → Type 0
Makes old new command code kept_old kept out_old out Shows =
    OfSlot old new code ((kept ≡ kept_old) × (out ≡ out_old)) (λ o n. Answers o n command code kept (Shows out_old out))

-- the same of a question, which leaves the graph as it is
abbrev pub Asks : {X : Type 0} → Option Desk → Option Desk → Command → ℕ → ℕ → ℕ → X → X → (X → X → Reply → Type 0) → Type 0
Asks old new command code kept_old kept out_old out Shows =
    OfSlot old new code ((kept ≡ kept_old) × (out ≡ out_old)) (λ o n. Tells o n command code kept (Shows out_old out))

-- ---- readings

abbrev pub Reads : Option Desk → Option Desk → Command → ℕ → ℕ → ℕ → (Held → Held → Reply → Type 0) → Type 0
Reads old new command code kept_old kept Shows =
    OfSlot old new code (kept ≡ kept_old) (λ o n. LacksRoom o n code kept ⊎ Gathers o n command code kept Shows)

-- A reading that is refused as a command is, or for want of memory.
abbrev pub ReadsAs : Option Desk → Option Desk → Command → ℕ → ℕ → ℕ → (State → Held → Held → Type 0) → Type 0
ReadsAs old new command code kept_old kept Shows =
    OfSlot old new code (kept ≡ kept_old)
    (λ o n. LacksRoom o n code kept ⊎ (IsRefused o n command code kept ⊎ Holds o n code kept Shows))

-- ---- whether a list may be mined

-- An empty list answers 34, and nothing changes.
abbrev pub MayMine : Option Desk → Option Desk → List ℕ → ℕ → ℕ → ℕ → Type 0
MayMine old new ids code kept_old kept =
    OfSlot old new code (kept ≡ kept_old)
    (λ o n. ((ids ≡ []) × (code ≡ 34) × (n ≡ o) × (kept ≡ kept_old)) ⊎ Judges o n ids code kept)

-- ---- a graph that comes from a text

-- A slot in use answers 2, and nothing changes. Else the slot has the graph of the text under these limits; or a limit was out of its range, or
-- the result tells the first test that the bytes fail, or that there was no memory, and it has none.
abbrev pub LoadsInto : Limits → List ℕ → Option Desk → ℕ → Type 0
LoadsInto limits bytes None code =
    ((AreInRange 128 (bounds_of limits) → ⊥) × (code ≡ 4))
    ⊎ ((fault : LoadFault) × AreInRange 128 (bounds_of limits) × (code ≡ fault_number fault) × LoadGives 128 (bounds_of limits) bytes (Err fault))
LoadsInto limits bytes (Some new) code =
    (code ≡ 0) × AreInRange 128 (bounds_of limits)
    × ((graph : Kept) × LoadGives 128 (bounds_of limits) bytes (Ok graph) × IsLoaded graph new)

abbrev pub Loads : Limits → List ℕ → Option Desk → Option Desk → ℕ → Type 0
Loads limits bytes None new code = LoadsInto limits bytes new code
Loads limits bytes (Some old) new code = (code ≡ 2) × (new ≡ Some old)
