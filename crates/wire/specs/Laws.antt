-- What a reader would expect of lines and certificate texts.
use Rattle.std.specs.Prelude.{◌≡◌, ℕ, List}
use Rattle.graph_model.specs.Commands.{Command}
use Rattle.graph_model.specs.Lines.{Cut, Spells}
use Rattle.graph_model.specs.Texts.{Text, IsText}

-- a line spells one command at most
abbrev pub LineSpellsOneCommand : Type 0
LineSpellsOneCommand = (text : List ℕ) (a b : Command) → Spells text a → Spells text b → a ≡ b

-- lines spell one text at most
abbrev pub LinesSpellOneText : Type 0
LinesSpellOneText = (lines : List (List ℕ)) (a b : Text) → IsText lines a → IsText lines b → a ≡ b

-- bytes are cut into lines and a rest, and in one way
abbrev pub BytesHaveOneCut : Type 0
BytesHaveOneCut =
    (bytes : List ℕ) → (lines : List (List ℕ)) × (rest : List ℕ) × Cut bytes lines rest
    × ((others : List (List ℕ)) (last : List ℕ) → Cut bytes others last → (others ≡ lines) × (last ≡ rest))
