-- Teams when one more place is kept.
use Rattle.std.proofs.Common.{◌≡◌, ℕ, ◌<◌, ◌≤◌, List, length, inl, inr, sym, ap, ◌∙◌, subst}
use Rattle.std.specs.Prelude.{Contains}
use Rattle.lists.proofs.Told.{told_number}
use Rattle.trimming.specs.declared.net.Net.{Net}
use Rattle.trimming.specs.declared.teams.Teams.{Teams}
use Rattle.trimming.specs.Nets.{list_at, IsParent}
use Rattle.trimming.specs.Ties.{AreTied, Or}
use Rattle.trimming.specs.Teams.{AreSized, IsKept, leader_of, team_of, AreTeams, AreGathered, HasJoined}
use Rattle.trimming.proofs.Tying.{tied_map, tied_trans, tied_back, tied_far}

module _ (net : Net) (old new : Teams) (place most : ℕ) (found : List ℕ) (are : AreTeams net old) (fresh : IsKept old place → ⊥)
    (parents : (a : ℕ) → IsParent net a place → IsKept old a) (gathered : AreGathered net old place most found) (few : length found ≤ most)
    (joined : HasJoined place found old new) where
  abbrev Before : ℕ → ℕ → Type 0
  Before a b = AreTied (IsParent net) (IsKept old) a b

  abbrev Now : ℕ → ℕ → Type 0
  Now a b = AreTied (IsParent net) (Or (IsKept old) place) a b

  now_new : (a b : ℕ) → Now a b → AreTied (IsParent net) (IsKept new) a b
  now_new a b tied = tied_map (IsParent net) (Or (IsKept old) place) (IsKept new) (λ x is. (joined.kept x).1 is) a b tied

  new_now : (a b : ℕ) → AreTied (IsParent net) (IsKept new) a b → Now a b
  new_now a b tied = tied_map (IsParent net) (IsKept new) (Or (IsKept old) place) (λ x is. (joined.kept x).0 is) a b tied

  before_now : (a b : ℕ) → Before a b → Now a b
  before_now a b tied = tied_map (IsParent net) (IsKept old) (Or (IsKept old) place) (λ x is. inr is) a b tied

  trans : (a b c : ℕ) → Now a b → Now b c → Now a c
  trans a b c one two = tied_trans (IsParent net) (Or (IsKept old) place) a b c one two

  back : (a b : ℕ) → Now a b → Now b a
  back a b tied = tied_back (IsParent net) (Or (IsKept old) place) a b tied

  -- what is kept and wasn't found was kept
  was_kept : (x : ℕ) → IsKept new x → (Contains found x → ⊥) → IsKept old x
  was_kept x is none = elim ((joined.kept x).0 is) [
    | inl same ↦ absurd (none (subst (Contains found) (sym same) gathered.here))
    | inr before ↦ before
  ]

  lone_leader : (x : ℕ) → IsKept old x → (Contains found x → ⊥) → Contains found (leader_of old x) → ⊥
  lone_leader x is none here =
      let tied : Now place (leader_of old x) = gathered.sound (leader_of old x) here in
      none (gathered.all few x (trans place (leader_of old x) x tied (back x (leader_of old x) (before_now x (leader_of old x) (are.leaders x is).1))))

  inside_team : (x : ℕ) → Contains found x → team_of new x ≡ found
  inside_team x here = ap (list_at new.lists.items) (joined.inside x here) ∙ joined.team

  outside_team : (x : ℕ) → IsKept old x → (Contains found x → ⊥) → team_of new x ≡ team_of old x
  outside_team x is none = ap (list_at new.lists.items) (joined.outside x none) ∙ joined.others (leader_of old x) (lone_leader x is none)

  pub teams_joined : AreTeams net new
  teams_joined = record {
    sized = subst (λ (n : ℕ). AreSized n new) are.sized.kept joined.sized;
    closed = λ a b up is. (joined.kept a).1 (inr (elim ((joined.kept b).0 is) [
      | inl same ↦ parents a (subst (IsParent net a) same up)
      | inr before ↦ are.closed a b up before
    ]));
    leaders = λ x is. elim (told_number found x) [
      | inl here ↦
          let leads : leader_of new x ≡ place = joined.inside x here in (
            subst (λ (q : ℕ). q < length net.txs.items) (sym leads) (gathered.within place gathered.here),
            subst (AreTied (IsParent net) (IsKept new) x) (sym leads) (now_new x place (back place x (gathered.sound x here))),
          )
      | inr none ↦
          let before = was_kept x is none in
          let leads : leader_of new x ≡ leader_of old x = joined.outside x none in
          let was = are.leaders x before in (
            subst (λ (q : ℕ). q < length net.txs.items) (sym leads) was.0,
            subst (AreTied (IsParent net) (IsKept new) x) (sym leads) (now_new x (leader_of old x) (before_now x (leader_of old x) was.1)),
          )
    ];
    exact = λ x y is. elim (told_number found x) [
      | inl here ↦
          let team = inside_team x here in
          let near : Now place x = gathered.sound x here in (
            (λ has. now_new x y (trans x place y (back place x near) (gathered.sound y (subst (λ (l : List ℕ). Contains l y) team has)))),
            (λ tied. subst (λ (l : List ℕ). Contains l y) (sym team) (gathered.all few y (trans place x y near (new_now x y tied)))),
          )
      | inr none ↦
          let before = was_kept x is none in
          let team = outside_team x before none in (
            (λ has. now_new x y (before_now x y ((are.exact x y before).0 (subst (λ (l : List ℕ). Contains l y) team has)))),
            (λ tied. subst (λ (l : List ℕ). Contains l y) (sym team) ((are.exact x y before).1
                (tied_far (IsParent net) (IsKept old) place fresh are.closed x y before (λ near. none (gathered.all few x near)) (new_now x y tied)))),
          )
    ];
  }
