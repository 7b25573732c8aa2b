-- The refusal that a command meets, and the plain part of a step, are functions of the state, up to the order in which names and pairs are listed.
use Rattle.std.specs.Prelude.{◌≡◌, ◌≢◌, ◌↔◌, ℕ, List, [], ◌∷◌, Option, None, Some, Contains}
use Rattle.std.specs.FinMap as finmap
use Rattle.graphs.specs.Graphs.{Graph}
use Rattle.graph_model.specs.declared.names.Refusal.{Refusal}
use Rattle.graph_model.specs.States.{PlainState, Picks, MinedBlock}
use Rattle.graph_model.specs.Commands.{Command, Evict, Order, Proof, Chunk, Before, Block}
use Rattle.graph_model.specs.Replies.{Reply}
use Rattle.graph_model.specs.Refusals.{RefusalIs}
use Rattle.graph_model.specs.Steps.{AcceptsPlainly}
use Rattle.graph_model.specs.Validity.{IsValid, ArePicks}

-- the same names and the same pairs, in whatever order
pub record IsSameGraph (a b : Graph) : Type 0 where
  pub names : (id : ℕ) → Contains a.names id ↔ Contains b.names id
  pub pairs : (x y : ℕ) → Contains a.pairs (x, y) ↔ Contains b.pairs (x, y)

abbrev pub IsSameStaging : Option Graph → Option Graph → Type 0
IsSameStaging None None = Unit {0}
IsSameStaging (Some a) (Some b) = IsSameGraph a b
IsSameStaging None (Some b) = ⊥
IsSameStaging (Some a) None = ⊥

-- the same names with fees and sizes, as they are listed, and the same pairs, in whatever order
pub record IsSameBlock (a b : MinedBlock) : Type 0 where
  pub txs : a.txs ≡ b.txs
  pub pairs : (x y : ℕ) → Contains a.pairs (x, y) ↔ Contains b.pairs (x, y)

abbrev pub AreSameBlocks : List MinedBlock → List MinedBlock → Type 0
AreSameBlocks [] [] = Unit {0}
AreSameBlocks (x ∷ xs) (y ∷ ys) = IsSameBlock x y × AreSameBlocks xs ys
AreSameBlocks [] (y ∷ ys) = ⊥
AreSameBlocks (x ∷ xs) [] = ⊥

-- the same state, but for the order in which names and pairs are listed
pub record IsSameState (a b : PlainState) : Type 0 where
  pub limits : a.limits ≡ b.limits
  pub most : a.most ≡ b.most
  pub begun : a.begun ≡ b.begun
  pub table : (id : ℕ) → finmap.get a.table id ≡ finmap.get b.table id
  pub main : IsSameGraph a.main b.main
  pub staging : IsSameStaging a.staging b.staging
  pub blocks : AreSameBlocks a.blocks b.blocks

-- the commands whose answer, and the one whose change, is read off a pick
abbrev pub ReadsNoPick : Command → Type 0
ReadsNoPick Evict = ⊥
ReadsNoPick (Order level) = ⊥
ReadsNoPick (Proof level) = ⊥
ReadsNoPick (Chunk id) = ⊥
ReadsNoPick (Before a b) = ⊥
ReadsNoPick (Block size) = ⊥
ReadsNoPick command = Unit {0}

-- In states that are the same, a command meets the same refusal, or none in both. From valid states that are the same, whatever their picks, an
-- accepted command leads to states that are the same, unless it is `evict`, and gets the same reply, where that is read off no pick. With the
-- same picks this is so of every command and every reply.
pub record StepsAreFunctions : Type 0 where
  pub refusals : (a b : PlainState) (command : Command) (found : Option Refusal) → IsSameState a b → RefusalIs a command found ↔ RefusalIs b command found
  pub states : (pa pb : Picks) (a b a' b' : PlainState) (command : Command) (ra rb : Reply) → IsValid a → IsValid b → IsSameState a b → command ≢ Evict
      → AcceptsPlainly pa a command ra a' → AcceptsPlainly pb b command rb b' → IsSameState a' b'
  pub replies : (pa pb : Picks) (a b a' b' : PlainState) (command : Command) (ra rb : Reply) → IsValid a → IsValid b → IsSameState a b → ReadsNoPick command
      → AcceptsPlainly pa a command ra a' → AcceptsPlainly pb b command rb b' → ra ≡ rb
  pub states_by_picks : (picks : Picks) (a b a' b' : PlainState) (command : Command) (ra rb : Reply) → IsValid a → IsValid b → IsSameState a b
      → AcceptsPlainly picks a command ra a' → AcceptsPlainly picks b command rb b' → IsSameState a' b'
  pub replies_by_picks : (picks : Picks) (a b a' b' : PlainState) (command : Command) (ra rb : Reply) → IsValid a → IsValid b → ArePicks a picks
      → ArePicks b picks → IsSameState a b → AcceptsPlainly picks a command ra a' → AcceptsPlainly picks b command rb b' → ra ≡ rb
