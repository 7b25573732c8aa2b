-- Numbers of clusters without an order, one of a list after the other.
use Rattle.std.proofs.Common.{◌≡◌, ℕ, ◌+◌, ◌<◌, ◌≤◌, Bool, true, false, cond, ◌||◌, List, [], ◌∷◌, ◌++◌, length, take, get_or, nat_eq, Option, None, Some, Contains, inl, inr, refl, sym, ap, ◌∙◌, subst, add-one, true≢false}
use Rattle.std.specs.List.{list_any}
use Rattle.std.specs.Cmp.{unsigned_Decides}
use Rattle.std.proofs.Math.Seq.{take-suc}
use Rattle.std.proofs.lemmas.List.{take_all}
use Rattle.std.proofs.lemmas.List.Elements.{Contains-push_cases}
use Rattle.std.proofs.lemmas.Option.{same_Some}
use Rattle.lists.proofs.Entries.{Contains-head, Contains-later, none_in_empty}
use Rattle.graphs.specs.declared.names.Level.{Level}
use Rattle.graphs.specs.Certificates.{Part}
use Rattle.chunk_index.specs.Items.{is_in}
use Rattle.cluster.specs.Clusters.{Cluster}
use Rattle.cluster_store.specs.Stores.{Stored}
use Rattle.cluster_store.specs.Tops.{seen_in}
use Rattle.cluster_store.specs.Unordered.{IsUnordered, LacksOrderIn}
use Rattle.cluster_store.proofs.Done.{no_items}
use Rattle.cluster_store.proofs.Seen.{seen_is}

-- ---- a property of the first of a list, and of one more

module _ {X : Type 0} (P : X → Type 0) (xs : List X) where
  pub none_yet : (x : X) → Contains (take 0 xs) x → P x
  none_yet x here = absurd (none_in_empty x (subst (λ (ys : List X). Contains ys x) (empty xs) here))
    where
      empty : (ys : List X) → take 0 ys ≡ []
      empty [] = refl
      empty (y ∷ ys) = refl

  pub one_more : (i : ℕ) (d : X) → i < length xs → ((x : X) → Contains (take i xs) x → P x) → P (get_or xs i d)
      → (x : X) → Contains (take (i + 1) xs) x → P x
  one_more i d below so_far next x here =
      let more : take (i + 1) xs ≡ take i xs ++ get_or xs i d ∷ [] = ap (λ n. take n xs) (add-one i) ∙ take-suc xs i d below in
      elim (Contains-push_cases (take i xs) (get_or xs i d) x (subst (λ (ys : List X). Contains ys x) more here)) [
        | inl before ↦ so_far x before
        | inr same ↦ subst P same next
      ]

  pub all_of : (i : ℕ) → length xs ≤ i → ((x : X) → Contains (take i xs) x → P x) → (x : X) → Contains xs x → P x
  all_of i all so_far x here = so_far x (subst (λ (ys : List X). Contains ys x) (sym (take_all i xs all)) here)

-- ---- what lacks an order

pub counts_none : (ps : List Part) (n : ℕ) → n ≡ length ps → nat_eq n 0 ≡ true → ps ≡ []
counts_none ps n long none = no_items ps (sym long ∙ (unsigned_Decides n 0).0 none)

pub none_counted : (ps : List Part) (n : ℕ) → n ≡ length ps → ps ≡ [] → nat_eq n 0 ≡ true
none_counted ps n long none = (unsigned_Decides n 0).1 (long ∙ ap length none)

pub unordered_here : (o : Option Stored) (s : Stored) → o ≡ Some s → IsUnordered o → s.cluster.parts ≡ []
unordered_here o s is (t, there, none) = ap (λ (u : Stored). u.cluster.parts) (same_Some s t (sym is ∙ there)) ∙ none

pub lacks_here : (level : Level) (o : Option Stored) (s : Stored) → o ≡ Some s → LacksOrderIn level o → s.cluster.parts ≡ []
lacks_here level o s is (c, seen, none) =
    let t = seen_is level o c seen in
    ap (λ (u : Stored). u.cluster.parts) (same_Some s t.0 (sym is ∙ t.1)) ∙ ap (λ (d : Cluster). d.parts) t.2 ∙ none

pub stands_in : (level : Level) (o : Option Stored) (s : Stored) → o ≡ Some s → is_in level s.tag ≡ true → seen_in level o ≡ Some s.cluster
stands_in level o s is there = ap (seen_in level) is ∙ ap (λ b. cond b (Some s.cluster) None) there

-- what lacks an order in a level lacks one
pub lacks_unordered : (level : Level) (o : Option Stored) → LacksOrderIn level o → IsUnordered o
lacks_unordered level o (c, seen, none) = let t = seen_is level o c seen in (t.0, t.1, ap (λ (d : Cluster). d.parts) t.2 ∙ none)

-- ---- numbers in a set

pub listed_contains : (keys : List ℕ) (n : ℕ) → list_any (nat_eq n) keys ≡ true → Contains keys n
listed_contains [] n listed = absurd (true≢false (sym listed))
listed_contains (k ∷ keys) n listed = by (nat_eq n k) refl (λ other. listed_contains keys n (sym (ap (λ b. b || list_any (nat_eq n) keys) other) ∙ listed))
  where
    by : (b : Bool) → nat_eq n k ≡ b → (nat_eq n k ≡ false → Contains keys n) → Contains (k ∷ keys) n
    by true same later = subst (Contains (k ∷ keys)) (sym ((unsigned_Decides n k).0 same)) (Contains-head k keys)
    by false other later = Contains-later k n keys (later other)
