-- What is said of a text.
use Rattle.std.specs.Prelude.{ℕ, List}
use Rattle.graph_model.specs.Lines.{Cut, with_last}
use Rattle.graph_model.specs.Texts.{Text, Verification, Verifies, NoSyntax, Found}
use Rattle.graphs.specs.Certificates.{Certified, NoGraph, NoOrder, NoFalling, NoFlow, Finds}
use Rattle.verification.specs.declared.verifying.Said.{Said}
use Rattle.verification.specs.declared.verifying.Said.TheVariants as said

-- this is what is said of the lines of the bytes
pub record IsVerified (input : List ℕ) (said : Verification) : Type 0 where
  pub lines : List (List ℕ)
  pub rest : List ℕ
  pub cut : Cut input lines rest
  pub verifies : Verifies (with_last lines rest) said

abbrev pub verification_of : Said → Verification
verification_of said.Yes = Found Certified
verification_of said.NoSyntax = NoSyntax
verification_of said.NoGraph = Found NoGraph
verification_of said.NoOrder = Found NoOrder
verification_of said.NoFalling = Found NoFalling
verification_of said.NoFlow = Found NoFlow

-- this is what is found of the text
abbrev pub IsSaidOf : Text → Said → Type 0
IsSaidOf text said.Yes = Finds text.txs text.edges text.parts Certified
IsSaidOf text said.NoSyntax = ⊥
IsSaidOf text said.NoGraph = Finds text.txs text.edges text.parts NoGraph
IsSaidOf text said.NoOrder = Finds text.txs text.edges text.parts NoOrder
IsSaidOf text said.NoFalling = Finds text.txs text.edges text.parts NoFalling
IsSaidOf text said.NoFlow = Finds text.txs text.edges text.parts NoFlow
