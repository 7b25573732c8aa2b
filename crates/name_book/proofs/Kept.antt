-- Each change keeps a table: names have the keys of the nodes that have them.
use Rattle.std.proofs.Common.{◌≡◌, ◌≢◌, ◌⊎◌, ℕ, ◌+◌, Bool, true, false, cond, not, ◌&&◌, ◌||◌, nat_eq, List, Option, Some, None, is_some, OnSome, refl, sym, ap, ◌∙◌, inl, inr, true≢false}
use Rattle.std.specs.Ordering.{nat_cmp, eq_by_cmp}
use Rattle.std.specs.Cmp.{nat_cmp_total, nat_eq_equiv, unsigned_tied}
use Rattle.std.specs.Map.{keys_of}
use Rattle.std.specs.FinSet as set
use Rattle.std.proofs.lemmas.Bool.{cases_eq}
use Rattle.std.proofs.lemmas.Bool.Decides.{eqb_tells}
use Rattle.std.proofs.lemmas.Option.{none-some}
use Rattle.node_pool.specs.declared.pool.Key.{Key}
use Rattle.node_pool.specs.Nodes.{Nodes, value_at, IsLive, Updates}
use Rattle.name_book.specs.Tables.{key_of, AreKeys}
use Rattle.name_book.proofs.Entries.{same_some, keys_eq, names-keys}

-- what one name has after a change of its key, and what another has
pub key-here : (now es : List (ℕ × Key)) (id : ℕ) (given : Option Key) → ((q : ℕ) → key_of now q ≡ cond (nat_eq id q) given (key_of es q))
    → key_of now id ≡ given
key-here now es id given keys = keys id ∙ ap (λ b. cond b given (key_of es id)) (nat_eq_equiv.refl id)

pub key-there : (now es : List (ℕ × Key)) (id : ℕ) (given : Option Key) → ((q : ℕ) → key_of now q ≡ cond (nat_eq id q) given (key_of es q)) → (q : ℕ)
    → q ≢ id → key_of now q ≡ key_of es q
key-there now es id given keys q differs =
    elim (eqb_tells id q) [
      | inl same ↦ absurd (differs (sym same.1))
      | inr other ↦ keys q ∙ ap (λ b. cond b given (key_of es q)) other.0
    ]

-- a name that had none gets the key of a new node
module _ (nodes new : Nodes ℕ) (es now : List (ℕ × Key)) (id : ℕ) (key : Key) (own : AreKeys nodes es) (updates : Updates nodes new key (Some id))
    (fresh : value_at nodes key ≡ None) (none : key_of es id ≡ None) (keys : (q : ℕ) → key_of now q ≡ cond (nat_eq id q) (Some key) (key_of es q)) where
  pub put-differs : (q : ℕ) (other : Key) → q ≢ id → key_of es q ≡ Some other → other ≢ key
  put-differs q other _ has same = none-some q (sym fresh ∙ ap (value_at nodes) (sym same) ∙ (own q other).0 has)

  pub put-own : AreKeys new now
  put-own q k = (forth (cases_eq q id), back (cases_eq q id) (keys_eq k key))
    where
      forth : (q ≡ id) ⊎ (q ≢ id) → key_of now q ≡ Some k → value_at new k ≡ Some q
      forth (inl same) has =
          let is : k ≡ key = same_some k key (sym has ∙ ap (key_of now) same ∙ key-here now es id (Some key) keys) in
          ap (value_at new) is ∙ updates.changed ∙ ap Some (sym same)
      forth (inr other) has =
          let before = sym (key-there now es id (Some key) keys q other) ∙ has in
          updates.others k (put-differs q k other before) ∙ (own q k).0 before

      back : (q ≡ id) ⊎ (q ≢ id) → (k ≡ key) ⊎ (k ≢ key) → value_at new k ≡ Some q → key_of now q ≡ Some k
      back (inl same) (inl is) value = ap (key_of now) same ∙ key-here now es id (Some key) keys ∙ ap Some (sym is)
      back (inl same) (inr apart) value = absurd (none-some k (sym none ∙ ap (key_of es) (sym same) ∙ (own q k).1 (sym (updates.others k apart) ∙ value)))
      back (inr other) (inl is) value = absurd (other (same_some q id (sym value ∙ ap (value_at new) is ∙ updates.changed)))
      back (inr other) (inr apart) value = key-there now es id (Some key) keys q other ∙ (own q k).1 (sym (updates.others k apart) ∙ value)

-- a name loses its key, which has no node any more
module _ (nodes new : Nodes ℕ) (es now : List (ℕ × Key)) (id : ℕ) (key : Key) (own : AreKeys nodes es) (updates : Updates nodes new key None)
    (has : key_of es id ≡ Some key) (keys : (q : ℕ) → key_of now q ≡ cond (nat_eq id q) None (key_of es q)) where
  pub drop-differs : (q : ℕ) (other : Key) → q ≢ id → key_of es q ≡ Some other → other ≢ key
  drop-differs q other apart at_q same = apart (same_some q id (sym ((own q other).0 at_q) ∙ ap (value_at nodes) same ∙ (own id key).0 has))

  pub drop-own : AreKeys new now
  drop-own q k = (forth (cases_eq q id), back (cases_eq q id) (keys_eq k key))
    where
      forth : (q ≡ id) ⊎ (q ≢ id) → key_of now q ≡ Some k → value_at new k ≡ Some q
      forth (inl same) at_q = absurd (none-some k (sym (key-here now es id None keys) ∙ ap (key_of now) (sym same) ∙ at_q))
      forth (inr other) at_q =
          let before = sym (key-there now es id None keys q other) ∙ at_q in
          updates.others k (drop-differs q k other before) ∙ (own q k).0 before

      back : (q ≡ id) ⊎ (q ≢ id) → (k ≡ key) ⊎ (k ≢ key) → value_at new k ≡ Some q → key_of now q ≡ Some k
      back place (inl is) value = absurd (none-some q (sym updates.changed ∙ ap (value_at new) (sym is) ∙ value))
      back (inl same) (inr apart) value =
          let before = (own q k).1 (sym (updates.others k apart) ∙ value) in
          absurd (apart (same_some k key (sym before ∙ ap (key_of es) same ∙ has)))
      back (inr other) (inr apart) value = key-there now es id None keys q other ∙ (own q k).1 (sym (updates.others k apart) ∙ value)

-- where names stay in their nodes
pub same-own : (nodes new : Nodes ℕ) (es : List (ℕ × Key)) → AreKeys nodes es → ((key : Key) → value_at new key ≡ value_at nodes key) → AreKeys new es
same-own nodes new es own same q k = (λ has. same k ∙ (own q k).0 has, λ value. (own q k).1 (sym (same k) ∙ value))

-- ---- the set of names

is_some-cond : {A : Type 0} (b : Bool) (given o : Option A) → is_some (cond b given o) ≡ cond b (is_some given) (is_some o)
is_some-cond true given o = refl
is_some-cond false given o = refl

cond-or : (b o : Bool) → cond b true o ≡ (b || o)
cond-or true o = refl
cond-or false o = refl

cond-and : (b o : Bool) → cond b false o ≡ (not b && o)
cond-and true o = refl
cond-and false o = refl

tied : (id q : ℕ) → nat_eq id q ≡ eq_by_cmp nat_cmp q id
tied id q = nat_eq_equiv.symm id q ∙ sym (unsigned_tied q id)

module _ (es now : List (ℕ × Key)) (id : ℕ) where
  abbrev names : List (ℕ × Key) → set.FinSet nat_cmp
  names entries = set.from_list (keys_of entries)

  named : (given : Option Key) → ((q : ℕ) → key_of now q ≡ cond (nat_eq id q) given (key_of es q)) → (q : ℕ)
      → set.contains (names now) q ≡ cond (eq_by_cmp nat_cmp q id) (is_some given) (set.contains (names es) q)
  named given keys q =
      names-keys now q ∙ ap is_some (keys q) ∙ is_some-cond (nat_eq id q) given (key_of es q)
      ∙ ap (λ b. cond b (is_some given) (is_some (key_of es q))) (tied id q)
      ∙ ap (cond (eq_by_cmp nat_cmp q id) (is_some given)) (sym (names-keys es q))

  pub names-put : (key : Key) → ((q : ℕ) → key_of now q ≡ cond (nat_eq id q) (Some key) (key_of es q)) → names now ≡ set.insert (names es) id
  names-put key keys =
      set.same_set nat_cmp_total set.nat_cmp-IsAntisymmetric (names now) (set.insert (names es) id)
      (λ q. named (Some key) keys q ∙ cond-or (eq_by_cmp nat_cmp q id) (set.contains (names es) q) ∙ sym (set.contains-insert nat_cmp_total (names es) id q))

  pub names-drop : ((q : ℕ) → key_of now q ≡ cond (nat_eq id q) None (key_of es q)) → names now ≡ set.remove (names es) id
  names-drop keys =
      set.same_set nat_cmp_total set.nat_cmp-IsAntisymmetric (names now) (set.remove (names es) id)
      (λ q. named None keys q ∙ cond-and (eq_by_cmp nat_cmp q id) (set.contains (names es) q) ∙ sym (set.contains-remove nat_cmp_total (names es) id q))

-- ---- how many there are

-- once a name that had no key got one
pub len-put : (old : Option Key) (a b : ℕ) → old ≡ None → a ≡ b + (cond (is_some old) 0 1) → a ≡ b + 1
len-put old a b none len = len ∙ ap (λ o. b + cond (is_some o) 0 1) none

-- once a name lost its key
pub len-drop : (old : Option Key) (key : Key) (a b : ℕ) → old ≡ Some key → a + (cond (is_some old) 1 0) ≡ b → a + 1 ≡ b
len-drop old key a b some len = ap (λ o. a + cond (is_some o) 1 0) (sym some) ∙ len

-- what is said of a node that was taken holds, where its key was live
pub took : (nodes : Nodes ℕ) (key : Key) (taken : Option ℕ) (P : Type 0) → IsLive nodes key → taken ≡ value_at nodes key → OnSome taken P → P
took nodes key None P live value fact = absurd (true≢false (sym live ∙ ap is_some (sym value)))
took nodes key (Some id) P live value fact = fact
