-- What the maps that an overlay shows answer at a key, and what a change of its entries makes of them.
use Rattle.std.proofs.Common.{◌≡◌, ℕ, Bool, true, false, cond, nat_eq, List, [], ◌∷◌, ◌++◌, Option, Some, None, refl, sym, ap, ◌∙◌}
use Rattle.std.specs.Ordering.{nat_cmp, eq_by_cmp}
use Rattle.std.specs.Cmp.{nat_cmp_total, nat_eq_equiv, unsigned_tied}
use Rattle.std.specs.Option.{unwrap_or}
use Rattle.std.specs.Map.{lookup}
use Rattle.std.proofs.lemmas.Bool.{false≢true}
use Rattle.std.specs.FinMap as finmap
use Rattle.staging.specs.Maps.{Map, top_of}
use Rattle.staging.specs.Changes.{map_of_entries, changed, applied, maps_of}

turned : {A : Type 0} (key q : ℕ) (x y : A) → cond (eq_by_cmp nat_cmp q key) x y ≡ cond (nat_eq key q) x y
turned key q x y = ap (λ b. cond b x y) (unsigned_tied q key ∙ nat_eq_equiv.symm q key)

-- every look-up among new entries is what a change of one key makes of that among the old ones
abbrev pub LooksUp : {X : Type 0} → List (ℕ × X) → List (ℕ × X) → ℕ → Option X → Type 0
LooksUp old new key value = (q : ℕ) → lookup (nat_eq q) new ≡ cond (nat_eq key q) value (lookup (nat_eq q) old)

module _ {V : Type 0} where
  same_map : (m n : Map V) → ((q : ℕ) → finmap.get m q ≡ finmap.get n q) → m ≡ n
  same_map m n = finmap.same_map nat_cmp_total finmap.nat_cmp-IsAntisymmetric m n

  module _ (m : Map V) (key : ℕ) where
    get-changed : (value : Option V) (q : ℕ) → finmap.get (changed m key value) q ≡ cond (nat_eq key q) value (finmap.get m q)
    get-changed (Some value) q = finmap.get-insert nat_cmp_total m key value q ∙ turned key q (Some value) (finmap.get m q)
    get-changed None q = finmap.get-remove nat_cmp_total m key q ∙ turned key q None (finmap.get m q)

  -- ---- the base

  -- a key has the value of its entry
  pub get-entries : (entries : List (ℕ × V)) (q : ℕ) → finmap.get (map_of_entries entries) q ≡ lookup (nat_eq q) entries
  get-entries [] q = finmap.get-empty nat_cmp q
  get-entries (e ∷ entries) q =
      get-changed (map_of_entries entries) e.0 (Some e.1) q
      ∙ ap (λ b. cond b (Some e.1) (finmap.get (map_of_entries entries) q)) (nat_eq_equiv.symm e.0 q)
      ∙ ap (cond (nat_eq q e.0) (Some e.1)) (get-entries entries q)

  -- a key of the base got another value, or none
  module _ (old new : List (ℕ × V)) (key : ℕ) (value : Option V) (looks : LooksUp old new key value) where
    pub entries-changed : map_of_entries new ≡ changed (map_of_entries old) key value
    entries-changed =
        same_map _ _ (λ q. get-entries new q ∙ looks q
        ∙ ap (cond (nat_eq key q) value) (sym (get-entries old q))
        ∙ sym (get-changed (map_of_entries old) key value q))

  -- ---- the changed keys

  module _ (value : Option V) (rest : Option (Option V)) (before : Option V) where
    after-cond : (b : Bool) → unwrap_or (cond b (Some value) rest) before ≡ cond b value (unwrap_or rest before)
    after-cond true = refl
    after-cond false = refl

  module _ (m : Map V) where
    -- a changed key has what its change says, and every other what it had
    pub get-applied : (changes : List (ℕ × Option V)) (q : ℕ) → finmap.get (applied m changes) q ≡ unwrap_or (lookup (nat_eq q) changes) (finmap.get m q)
    get-applied [] q = refl
    get-applied (c ∷ changes) q =
        get-changed (applied m changes) c.0 c.1 q
        ∙ ap (λ b. cond b c.1 (finmap.get (applied m changes) q)) (nat_eq_equiv.symm c.0 q)
        ∙ ap (cond (nat_eq q c.0) c.1) (get-applied changes q)
        ∙ sym (after-cond c.1 (lookup (nat_eq q) changes) (finmap.get m q) (nat_eq q c.0))

    -- the last change can be made first
    module _ (key : ℕ) (value : Option V) where
      pub applied-append : (changes : List (ℕ × Option V)) → applied m (changes ++ (key, value) ∷ []) ≡ applied (changed m key value) changes
      applied-append [] = refl
      applied-append (c ∷ changes) = ap (λ n. changed n c.0 c.1) (applied-append changes)

    -- a key was changed once more
    module _ (old new : List (ℕ × Option V)) (key : ℕ) (value : Option V) (looks : LooksUp old new key (Some value)) where
      pub applied-changed : applied m new ≡ changed (applied m old) key value
      applied-changed =
          same_map _ _ (λ q. get-applied new q
          ∙ ap (λ c. unwrap_or c (finmap.get m q)) (looks q)
          ∙ after-cond value (lookup (nat_eq q) old) (finmap.get m q) (nat_eq key q)
          ∙ ap (cond (nat_eq key q) value) (sym (get-applied old q))
          ∙ sym (get-changed (applied m old) key value q))

  -- ---- the two maps

  module _ (base : List (ℕ × V)) (changes : List (ℕ × Option V)) (spare : ℕ) where
    -- the top level has the base with the changes made, since none are kept where nothing is staged
    top_of-maps_of : (staged : Bool) → (staged ≡ false → changes ≡ []) → top_of (maps_of base changes staged spare) ≡ applied (map_of_entries base) changes
    top_of-maps_of true none = refl
    top_of-maps_of false none = sym (ap (applied (map_of_entries base)) (none refl))

    -- what a key has in the top level
    module _ (staged : Bool) (none : staged ≡ false → changes ≡ []) (q : ℕ) where
      pub get-top_of : finmap.get (top_of (maps_of base changes staged spare)) q ≡ unwrap_or (lookup (nat_eq q) changes) (lookup (nat_eq q) base)
      get-top_of =
          ap (λ m. finmap.get m q) (top_of-maps_of staged none)
          ∙ get-applied (map_of_entries base) changes q
          ∙ ap (unwrap_or (lookup (nat_eq q) changes)) (get-entries base q)

  module _ (key : ℕ) (value : Option V) (was left : ℕ) where
    -- a change while something is staged
    module _ (base : List (ℕ × V)) (old new : List (ℕ × Option V)) (looks : LooksUp old new key (Some value)) where
      pub change_staged : (staged : Bool) → staged ≡ true → top_of (maps_of base new staged left) ≡ changed (top_of (maps_of base old staged was)) key value
      change_staged true is = applied-changed (map_of_entries base) old new key value looks
      change_staged false is = absurd (false≢true is)

    -- and one while nothing is
    module _ (old new : List (ℕ × V)) (changes : List (ℕ × Option V)) (looks : LooksUp old new key value) where
      pub change_base : (staged : Bool) → staged ≡ false
          → top_of (maps_of new changes staged left) ≡ changed (top_of (maps_of old changes staged was)) key value
      change_base true is = absurd (false≢true (sym is))
      change_base false is = entries-changed old new key value looks

pub ruleset base_gets = (get-entries)
