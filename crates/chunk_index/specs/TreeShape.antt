-- What a tree has, and how it is kept.
use Rattle.std.specs.Prelude.{◌≡◌, ℕ, List, [], ◌∷◌, ◌++◌, length, Option, None, Some}
use Rattle.std.specs.Global.{Box}
use Rattle.chunk_index.specs.declared.entry.Entry.{Entry}
use Rattle.chunk_index.specs.declared.tree.Node.{Node}
use Rattle.chunk_index.specs.Kept.{entry_from}
use Rattle.chunk_index.specs.Trees.{AreBalanced}

-- the entry in a node
abbrev pub entry_of : Node → Entry
entry_of n = entry_from n.key n.number

-- what stands left of the root, the root's entry, and what stands right of it
abbrev pub entries_under : Option (Box Node) → List Entry
entries_under None = []
entries_under (Some b) = b.value.left ++ entry_of b.value ∷ b.value.right

-- the sides of the root are balanced
abbrev pub IsBalancedAt : Option (Box Node) → Type 0
IsBalancedAt None = Unit {0}
IsBalancedAt (Some b) = AreBalanced (length b.value.left) (length b.value.right)

-- a tree knows how many entries it has, and is balanced
pub record IsTree (root : Option (Box Node)) (len : ℕ) : Type 0 where
  pub counted : len ≡ length (entries_under root)
  pub balanced : IsBalancedAt root
