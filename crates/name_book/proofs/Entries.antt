-- What the index of a table shows: which names are there, and a map of what their keys have.
use Rattle.std.proofs.Common.{◌≡◌, ◌≢◌, ◌⊎◌, ℕ, ◌+◌, Bool, true, false, cond, ◌||◌, nat_eq, List, [], ◌∷◌, map, length, Option, Some, None, is_some, IsSome, refl, sym, ap, ◌∙◌, inl, inr, arith, true≢false}
use Rattle.std.specs.Ordering.{nat_cmp}
use Rattle.std.specs.Cmp.{nat_cmp_total, nat_eq_equiv, unsigned_tied}
use Rattle.std.specs.List.{IsDistinct}
use Rattle.std.specs.Option.{option_map, unwrap_or}
use Rattle.std.specs.Map.{keys_of}
use Rattle.std.specs.FinMap as finmap
use Rattle.std.specs.FinSet as set
use Rattle.std.proofs.lemmas.Bool.{cases_eq}
use Rattle.std.proofs.lemmas.Map.{lookup-none}
use Rattle.std.proofs.lemmas.Map.Entries.{none_past_head}
use Rattle.node_pool.specs.declared.pool.Key.{Key}
use Rattle.name_book.specs.Tables.{key_of}

pub some_key : {A : Type 0} (o : Option A) → IsSome o → (x : A) × (o ≡ Some x)
some_key None some = absurd (true≢false (sym some))
some_key (Some x) some = (x, refl)

pub same_some : {A : Type 0} (x y : A) → Some x ≡ Some y → x ≡ y
same_some x y e = ap (λ o. unwrap_or o x) e

pub no_some : {A : Type 0} (o : Option A) → is_some o ≡ false → o ≡ None
no_some None none = refl
no_some (Some x) none = absurd (true≢false none)

-- two keys are one, or not
pub keys_eq : (a b : Key) → (a ≡ b) ⊎ (a ≢ b)
keys_eq a b =
    elim (cases_eq a.slot b.slot) [
      | inl slot ↦ elim (cases_eq a.number b.number) [
        | inl number ↦ inl (λ j. record { slot = slot j; number = number j })
        | inr differs ↦ inr (λ e. differs (ap (λ (k : Key). k.number) e))
      ]
      | inr differs ↦ inr (λ e. differs (ap (λ (k : Key). k.slot) e))
    ]

map_cond : {A B : Type 0} (f : A → B) (b : Bool) (x : A) (o : Option A) → cond b (Some (f x)) (option_map f o) ≡ option_map f (cond b (Some x) o)
map_cond f true x o = refl
map_cond f false x o = refl

some_or : {A : Type 0} (b : Bool) (x : A) (o : Option A) → (b || is_some o) ≡ is_some (cond b (Some x) o)
some_or true x o = refl
some_or false x o = refl

-- a map of what each name's key has
pub get-keys : {X : Type 0} (h : Key → X) (es : List (ℕ × Key)) (q : ℕ)
    → finmap.get (finmap.from_entries {R = nat_cmp} (map (λ e. (e.0, h e.1)) es)) q ≡ option_map h (key_of es q)
get-keys h [] q = finmap.get-empty nat_cmp q
get-keys h (e ∷ es) q =
    finmap.get-insert nat_cmp_total (finmap.from_entries (map (λ e. (e.0, h e.1)) es)) e.0 (h e.1) q
    ∙ ap (λ b. cond b (Some (h e.1)) (finmap.get (finmap.from_entries {R = nat_cmp} (map (λ e. (e.0, h e.1)) es)) q)) (unsigned_tied q e.0)
    ∙ ap (cond (nat_eq q e.0) (Some (h e.1))) (get-keys h es q)
    ∙ map_cond h (nat_eq q e.0) e.1 (key_of es q)

-- a name is there exactly if it has a key
pub names-keys : (es : List (ℕ × Key)) (q : ℕ) → set.contains (set.from_list {R = nat_cmp} (keys_of es)) q ≡ is_some (key_of es q)
names-keys [] q = set.contains-empty nat_cmp q
names-keys (e ∷ es) q =
    set.contains-insert nat_cmp_total (set.from_list (keys_of es)) e.0 q
    ∙ ap (λ b. b || set.contains (set.from_list {R = nat_cmp} (keys_of es)) q) (unsigned_tied q e.0)
    ∙ ap (λ b. nat_eq q e.0 || b) (names-keys es q)
    ∙ some_or (nat_eq q e.0) e.1 (key_of es q)

head_absent : (e : ℕ × Key) (es : List (ℕ × Key)) → IsDistinct nat_eq (keys_of (e ∷ es)) → key_of es e.0 ≡ None
head_absent e es distinct = lookup-none (nat_eq e.0) es (none_past_head nat_eq_equiv e.0 e es distinct (nat_eq_equiv.refl e.0))

-- there are as many names as entries
pub len-names : (es : List (ℕ × Key)) → IsDistinct nat_eq (keys_of es) → set.len (set.from_list {R = nat_cmp} (keys_of es)) ≡ length es
unfolding IsDistinct
len-names [] distinct = set.len-empty nat_cmp
len-names (e ∷ es) distinct =
    let absent : set.contains (set.from_list {R = nat_cmp} (keys_of es)) e.0 ≡ false = names-keys es e.0 ∙ ap is_some (head_absent e es distinct) in
    let rest = len-names es distinct.1 in
    set.len-insert nat_cmp_total (set.from_list (keys_of es)) e.0
    ∙ ap (λ b. cond b (set.len (set.from_list {R = nat_cmp} (keys_of es))) (set.len (set.from_list {R = nat_cmp} (keys_of es)) + 1)) absent
    ∙ omega (arith, rest)
