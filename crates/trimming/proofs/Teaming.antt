-- Teams of places that are kept.
use Rattle.std.proofs.Common.{◌≡◌, ◌≢◌, ℕ, ◌+◌, ◌<◌, ◌≤◌, Bool, true, false, List, [], ◌∷◌, ◌++◌, length, take, get_or, inl, inr, sym, ap, ◌∙◌, subst, arith, true≢false}
use Rattle.std.specs.Prelude.{Contains, Vec}
use Rattle.std.specs.declared.alloc.Global.{Global}
use Rattle.std.proofs.lemmas.Bool.{cases_lt}
use Rattle.std.proofs.lemmas.List.{get_or_past, get_or_read, take_more}
use Rattle.std.proofs.lemmas.List.Elements.{Contains-append_cases, Contains-push_cases, Contains-push, Contains-append_left}
use Rattle.links.specs.Walkers.{mark_at, Finds}
use Rattle.links.proofs.Marks.{found_stays, found_longer}
use Rattle.trimming.specs.declared.net.Net.{Net}
use Rattle.trimming.specs.declared.teams.Teams.{Teams}
use Rattle.trimming.specs.Nets.{list_at, IsNet, IsParent}
use Rattle.trimming.specs.Ties.{AreTied, Or}
use Rattle.trimming.specs.Teams.{IsKept, leader_of, team_of, AreTeams, AreWhole}
use Rattle.trimming.proofs.Listing.{list_read}
use Rattle.trimming.proofs.Tying.{tied_trans, tied_has, tied_near, near_tied}

-- a place with a mark is one of those that there are
pub marked_low : (marks : List Bool) (place : ℕ) → mark_at marks place ≡ true → place < length marks
marked_low marks place is = elim (cases_lt place (length marks)) [
  | inl low ↦ low
  | inr past ↦ absurd (true≢false (sym is ∙ get_or_past marks place false past))
]

module _ (net : Net) (teams : Teams) (are : AreTeams net teams) where
  pub kept_low : (place : ℕ) → IsKept teams place → place < length net.txs.items
  kept_low place is =
      let low = marked_low teams.kept.items place is in
      let sized = are.sized.kept in
      omega (arith, low, sized)

  pub team_low : (place x : ℕ) → IsKept teams place → Contains (team_of teams place) x → x < length net.txs.items
  team_low place x is here = kept_low x (tied_has (IsParent net) (IsKept teams) place x is ((are.exact place x is).0 here))

  -- what is read for a place is its team
  pub team_read : (place leader : ℕ) (v : Vec ℕ Global) (list : List ℕ) → IsKept teams place → leader ≡ get_or teams.leader.items place leader
      → v ≡ get_or teams.lists.items leader v → list ≡ v.items → list ≡ team_of teams place
  team_read place leader v list is leads read same =
      let low = kept_low place is in
      let one = are.sized.leader in
      let two = are.sized.lists in
      let leader_is : leader ≡ leader_of teams place = get_or_read teams.leader.items place leader (omega (arith, low, one)) leads 0 in
      let inside = (are.leaders place is).0 in
      same ∙ list_read teams.lists.items leader v (omega (arith, inside, two, leader_is)) read ∙ ap (list_at teams.lists.items) leader_is

  -- a team more was found
  pub whole_more : (place : ℕ) (old new : List ℕ) → IsKept teams place → AreWhole net teams old → Finds (Contains (team_of teams place)) old new
      → ((x : ℕ) → Contains (team_of teams place) x → Contains new x) → AreWhole net teams new
  whole_more place old new is whole finds all x y here kept tied =
      elim (Contains-append_cases old finds.more x (subst (λ (l : List ℕ). Contains l x) finds.is here)) [
        | inl before ↦ found_stays (Contains (team_of teams place)) old new y finds (whole x y before kept tied)
        | inr fresh ↦
            let there = (are.exact place x is).0 (finds.each x fresh) in
            all y ((are.exact place y is).1 (tied_trans (IsParent net) (IsKept teams) place x y there tied))
      ]

  pub finds_tied : (place : ℕ) (old new : List ℕ) → IsKept teams place → Finds (Contains (team_of teams place)) old new
      → Finds (AreTied (IsParent net) (IsKept teams) place) old new
  finds_tied place old new is finds =
      record { more = finds.more; is = finds.is; each = λ x here. (are.exact place x is).0 (finds.each x here) }

  -- ---- a place and the teams of its parents

  module _ (place : ℕ) (fresh : IsKept teams place → ⊥) where
    abbrev Beside : ℕ → Type 0
    Beside x = AreTied (IsParent net) (Or (IsKept teams) place) place x

    pub sound_more : (parent : ℕ) (old new : List ℕ) → IsParent net parent place → IsKept teams parent
        → Finds (AreTied (IsParent net) (IsKept teams) parent) old new → ((x : ℕ) → Contains old x → Beside x) → (x : ℕ) → Contains new x → Beside x
    sound_more parent old new up is finds sound x here =
        elim (Contains-append_cases old finds.more x (subst (λ (l : List ℕ). Contains l x) finds.is here)) [
          | inl before ↦ sound x before
          | inr more ↦ near_tied (IsParent net) (IsKept teams) place fresh are.closed x (inr (parent, up, is, finds.each x more))
        ]

    pub all_more : (P : ℕ → Type 0) (parents old new : List ℕ) (k most : ℕ) → k < length parents → Finds P old new
        → (length new ≤ most → Contains new (get_or parents k 0))
        → (length old ≤ most → (a : ℕ) → Contains (take k parents) a → Contains old a)
        → length new ≤ most → (a : ℕ) → Contains (take (k + 1) parents) a → Contains new a
    all_more P parents old new k most low finds last before few a here =
        elim (Contains-push_cases (take k parents) (get_or parents k 0) a (subst (λ (l : List ℕ). Contains l a) (take_more parents k 0 low) here)) [
          | inl early ↦
              let longer = found_longer P old new finds in
              found_stays P old new a finds (before (omega (arith, longer, few)) a early)
          | inr same ↦ subst (Contains new) same (last few)
        ]

    pub all_found : (found : List ℕ) → Contains found place → AreWhole net teams found
        → ((a : ℕ) → IsParent net a place → Contains found a) → (x : ℕ) → Beside x → Contains found x
    all_found found here whole parents x tied = elim (tied_near (IsParent net) (IsKept teams) place fresh are.closed x tied) [
      | inl same ↦ subst (Contains found) (sym same) here
      | inr near ↦ whole near.0 x (parents near.0 near.1) near.2 near.3
    ]

-- what is read for a place are its parents
pub parents_read : (net : Net) (place : ℕ) (v : Vec ℕ Global) (list : List ℕ) → IsNet net → place < length net.txs.items
    → v ≡ get_or net.parents.items place v → list ≡ v.items → list ≡ list_at net.parents.items place
parents_read net place v list is low read same =
    let sized = is.parents_sized in
    same ∙ list_read net.parents.items place v (omega (arith, low, sized)) read

-- ---- entries up to a position

pub not_first : (xs : List ℕ) (k x : ℕ) → k < length xs → (Contains (take (k + 1) xs) x → ⊥) → Contains (take k xs) x → ⊥
not_first xs k x low none here =
    none (subst (λ (l : List ℕ). Contains l x) (sym (take_more xs k 0 low)) (Contains-append_left (take k xs) (get_or xs k 0 ∷ []) x here))

pub not_last : (xs : List ℕ) (k x : ℕ) → k < length xs → (Contains (take (k + 1) xs) x → ⊥) → x ≢ get_or xs k 0
not_last xs k x low none same =
    none (subst (λ (l : List ℕ). Contains l x) (sym (take_more xs k 0 low)) (subst (Contains (take k xs ++ get_or xs k 0 ∷ [])) (sym same)
    (Contains-push (take k xs) (get_or xs k 0))))

pub last_in : (xs : List ℕ) (k x : ℕ) → k < length xs → Contains (take (k + 1) xs) x → x ≢ get_or xs k 0 → Contains (take k xs) x
last_in xs k x low here other =
    elim (Contains-push_cases (take k xs) (get_or xs k 0) x (subst (λ (l : List ℕ). Contains l x) (take_more xs k 0 low) here)) [
      | inl before ↦ before
      | inr same ↦ absurd (other (sym same))
    ]
