use Rattle.std.proofs.Common.{◌≡◌, ℕ, length, take}
use Rattle.std.specs.Prelude.{Contains}
use Rattle.trimming.specs.Nets.{list_at}
use Rattle.trimming.specs.Teams.{AreSized, leader_of}
use Rattle.trimming.proofs.teams.join.Given as goal

abbrev pub invariant-loop-member : goal.invariant-loop-member
invariant-loop-member l = record {
  sized : AreSized (length l.fn.teams.kept.items) l.teams;
  kept : l.teams.kept.items ≡ l.fn.teams.kept.items;
  inside : (x : ℕ) → Contains (take l.member-index l.places) x → leader_of l.teams x ≡ l.place;
  outside : (x : ℕ) → (Contains (take l.member-index l.places) x → ⊥) → leader_of l.teams x ≡ leader_of l.fn.teams x;
  others : (x : ℕ) → (Contains (take l.member-index l.places) x → ⊥) → list_at l.teams.lists.items x ≡ list_at l.fn.teams.lists.items x;
}
