-- One position more of a cluster whose entries go out, come in, or get another tag.
use Rattle.std.proofs.Common.{◌≡◌, ℕ, length, ◌+◌, ◌<◌, Bool, true, false, cond, not, ◌&&◌, ◌||◌, List, [], take, Some, None, is_some, nat_eq, inl, inr, refl, sym, ap, ◌∙◌, subst, arith}
use Rattle.std.proofs.lemmas.Bool.{cases_lt}
use Rattle.std.proofs.Math.Seq.{take-length}
use Rattle.std.specs.List.{slice_get}
use Rattle.std.specs.Cmp.{unsigned_Decides}
use Rattle.lists.proofs.Cases.{and_false, and_true, or_false}
use Rattle.graphs.specs.Certificates.{Part}
use Rattle.chunk_index.specs.declared.entry.Entry.{Entry}
use Rattle.chunk_index.specs.declared.entry.Tag.{Tag}
use Rattle.chunk_index.specs.declared.key.Key.{Key}
use Rattle.chunk_index.specs.Keys.{key_of}
use Rattle.chunk_index.specs.Items as indexes
use Rattle.chunk_index.specs.Items.{Items, has, with_entry, without_entry, with_tag}
use Rattle.cluster_store.specs.Keys.{key_part}
use Rattle.cluster_store.specs.Kept.{same_key, found, is_rate, has_rate, fresh, AreListed, AreNumbered, Enters, Leaves, IsSameIndex}
use Rattle.cluster_store.proofs.Founds.{same_is, found-put, found-without, found-tagged, has-found, found-item, found-entry, again}
use Rattle.cluster_store.proofs.Sorted.{entry_listed, less_listed, tag_listed}
use Rattle.cluster_store.proofs.Fresh.{take_below, take_past, rate_here, fresh-more}

-- the position itself is not among those before it
pub fresh_not_yet : (n i : ℕ) (ps qs : List Part) (part : Part) → fresh n (take i ps) qs (key_part n i part) ≡ false
unfolding fresh has_rate
fresh_not_yet n i ps qs part =
    ap (λ o. nat_eq n n && (is_rate (key_part n i part).rate o && not (has_rate qs (key_part n i part)))) (take_past ps i i (omega arith))
    ∙ and_false (nat_eq n n)

pub fresh_there : (n i count : ℕ) (ps qs : List Part) (part : Part) → slice_get ps i ≡ Some part → i < count → has_rate qs (key_part n i part) ≡ false
    → fresh n (take count ps) qs (key_part n i part) ≡ true
unfolding fresh has_rate
fresh_there n i count ps qs part here below lacks =
    ap (λ o. nat_eq n n && (is_rate (key_part n i part).rate o && not (has_rate qs (key_part n i part)))) (take_below ps count i below ∙ here)
    ∙ rw ((unsigned_Decides n n).1 refl, rate_here part, lacks) refl

module _ (n i : ℕ) (ps qs : List Part) (part : Part) (here : slice_get ps i ≡ Some part) where
  -- where the others have the part, nothing more is fresh
  pub fresh_passed : (k : Key) → has_rate qs (key_part n i part) ≡ true → fresh n (take (i + 1) ps) qs k ≡ fresh n (take i ps) qs k
  fresh_passed k stays =
      fresh-more n i ps qs part k here ∙ ap (λ b. fresh n (take i ps) qs k || (same_key (key_part n i part) k && not b)) stays
      ∙ ap (λ b. fresh n (take i ps) qs k || b) (and_false (same_key (key_part n i part) k)) ∙ or_false (fresh n (take i ps) qs k)

  pub fresh_next : (k : Key) → has_rate qs (key_part n i part) ≡ false
      → fresh n (take (i + 1) ps) qs k ≡ (fresh n (take i ps) qs k || same_key (key_part n i part) k)
  fresh_next k differs =
      fresh-more n i ps qs part k here ∙ ap (λ b. fresh n (take i ps) qs k || (same_key (key_part n i part) k && not b)) differs
      ∙ ap (λ b. fresh n (take i ps) qs k || b) (and_true (same_key (key_part n i part) k))

or_cond : {A : Type 0} (a b : Bool) (x y : A) → cond b x (cond a x y) ≡ cond (a || b) x y
or_cond true true x y = refl
or_cond true false x y = refl
or_cond false true x y = refl
or_cond false false x y = refl

module _ (n i count : ℕ) (ps qs : List Part) (part : Part) (e : Entry) (here : slice_get ps i ≡ Some part) (key : key_of e ≡ key_part n i part) where
  rate_is : (b : Bool) → is_rate e.rate (slice_get qs i) ≡ b → has_rate qs (key_part n i part) ≡ b
  unfolding has_rate
  rate_is b is = ap (λ (k : Key). is_rate k.rate (slice_get qs i)) (sym key) ∙ is

  -- ---- out
  module _ (old cur : Items) (so_far : Leaves n (take i ps) qs old cur) where
    pub leave_there : (tag : Tag) → ((k : Key) → fresh n (take count ps) qs k ≡ true → found old k ≡ Some tag) → i < count
        → is_rate e.rate (slice_get qs i) ≡ false → (number : ℕ) × (indexes.found cur (key_of e) ≡ Some (number, tag))
    leave_there tag there below differs =
        found-item cur (key_of e) tag (ap (found cur) key ∙ so_far.tags (key_part n i part)
        ∙ ap (λ b. cond b None (found old (key_part n i part))) (fresh_not_yet n i ps qs part)
        ∙ there (key_part n i part) (fresh_there n i count ps qs part here below (rate_is false differs)))

    pub leave_next : (next : Items) → next ≡ without_entry cur e → is_rate e.rate (slice_get qs i) ≡ false → Leaves n (take (i + 1) ps) qs old next
    leave_next next is differs = record {
      sorted = λ order. subst AreListed (sym is) (less_listed cur e (so_far.sorted order));
      tags = λ k.
          ap (λ (xs : Items). found xs k) is ∙ found-without cur e k ∙ ap (λ (l : Key). cond (same_key l k) None (found cur k)) key
          ∙ ap (λ o. cond (same_key (key_part n i part) k) None o) (so_far.tags k)
          ∙ or_cond (fresh n (take i ps) qs k) (same_key (key_part n i part) k) None (found old k)
          ∙ ap (λ b. cond b None (found old k)) (sym (fresh_next n i ps qs part here k (rate_is false differs)));
    }

    pub leave_passed : is_rate e.rate (slice_get qs i) ≡ true → Leaves n (take (i + 1) ps) qs old cur
    leave_passed stays = record {
      sorted = so_far.sorted;
      tags = λ k. so_far.tags k ∙ ap (λ b. cond b None (found old k)) (sym (fresh_passed n i ps qs part here k (rate_is true stays)));
    }

  -- ---- in
  module _ (tag : Tag) (old cur : Items) (so_far : Enters n tag (take i ps) qs old cur) where
    pub enter_absent : ((k : Key) → fresh n (take count ps) qs k ≡ true → found old k ≡ None) → i < count → is_rate e.rate (slice_get qs i) ≡ false
        → has cur e ≡ false
    enter_absent absent below differs =
        has-found cur e ∙ ap (λ (k : Key). is_some (found cur k)) key
        ∙ ap is_some (so_far.tags (key_part n i part) ∙ ap (λ b. cond b (Some tag) (found old (key_part n i part))) (fresh_not_yet n i ps qs part)
        ∙ absent (key_part n i part) (fresh_there n i count ps qs part here below (rate_is false differs)))

    pub enter_next : e.number ≡ n → (next : Items) → next ≡ with_entry cur e tag → is_rate e.rate (slice_get qs i) ≡ false
        → Enters n tag (take (i + 1) ps) qs old next
    enter_next own next is differs = record {
      sorted = λ order. subst AreListed (sym is) (entry_listed cur e tag (own ∙ sym (ap (λ (k : Key). k.serial) key)) (so_far.sorted order));
      tags = λ k.
          ap (λ (xs : Items). found xs k) is ∙ found-put cur e tag k ∙ ap (λ (l : Key). cond (same_key l k) (Some tag) (found cur k)) key
          ∙ ap (λ o. cond (same_key (key_part n i part) k) (Some tag) o) (so_far.tags k)
          ∙ or_cond (fresh n (take i ps) qs k) (same_key (key_part n i part) k) (Some tag) (found old k)
          ∙ ap (λ b. cond b (Some tag) (found old k)) (sym (fresh_next n i ps qs part here k (rate_is false differs)));
    }

    pub enter_passed : is_rate e.rate (slice_get qs i) ≡ true → Enters n tag (take (i + 1) ps) qs old cur
    enter_passed stays = record {
      sorted = so_far.sorted;
      tags = λ k. so_far.tags k ∙ ap (λ b. cond b (Some tag) (found old k)) (sym (fresh_passed n i ps qs part here k (rate_is true stays)));
    }

    -- ---- another tag
    module _ (from : Tag) where
      pub retag_there : ((k : Key) → fresh n (take count ps) qs k ≡ true → found old k ≡ Some from) → i < count
          → has_rate qs (key_part n i part) ≡ false → found cur (key_of e) ≡ Some from
      retag_there there below lacks =
          ap (found cur) key ∙ so_far.tags (key_part n i part)
          ∙ ap (λ b. cond b (Some tag) (found old (key_part n i part))) (fresh_not_yet n i ps qs part)
          ∙ there (key_part n i part) (fresh_there n i count ps qs part here below lacks)

      -- it is the entry itself
      pub retag_entry : e.number ≡ n → AreNumbered cur → found cur (key_of e) ≡ Some from → indexes.found cur (key_of e) ≡ Some (e.number, from)
      retag_entry own numbered there = found-entry cur e from (own ∙ sym (ap (λ (k : Key). k.serial) key)) numbered there

      same_there : (k : Key) → found cur (key_of e) ≡ Some from → (b : Bool) → same_key (key_part n i part) k ≡ b
          → cond b (again tag (found cur k)) (found cur k) ≡ cond b (Some tag) (found cur k)
      same_there k is true s = ap (again tag) (ap (found cur) (sym (key ∙ same_is (key_part n i part) k s)) ∙ is)
      same_there k is false s = refl

      pub retag_next : (next : Items) → next ≡ with_tag cur e tag → found cur (key_of e) ≡ Some from → has_rate qs (key_part n i part) ≡ false
          → Enters n tag (take (i + 1) ps) qs old next
      retag_next next is there lacks = record {
        sorted = λ order. subst AreListed (sym is) (tag_listed cur e tag (so_far.sorted order));
        tags = λ k.
            ap (λ (xs : Items). found xs k) is ∙ found-tagged cur e tag k
            ∙ ap (λ (l : Key). cond (same_key l k) (again tag (found cur k)) (found cur k)) key
            ∙ same_there k there (same_key (key_part n i part) k) refl
            ∙ ap (λ o. cond (same_key (key_part n i part) k) (Some tag) o) (so_far.tags k)
            ∙ or_cond (fresh n (take i ps) qs k) (same_key (key_part n i part) k) (Some tag) (found old k)
            ∙ ap (λ b. cond b (Some tag) (found old k)) (sym (fresh_next n i ps qs part here k lacks));
      }

-- ---- none and all

pub fresh_none : (n : ℕ) (ps qs : List Part) (k : Key) → fresh n (take 0 ps) qs k ≡ false
unfolding fresh has_rate
fresh_none n ps qs k =
    ap (λ o. nat_eq k.serial n && (is_rate k.rate o && not (has_rate qs k))) (take_past ps 0 k.position (omega arith))
    ∙ and_false (nat_eq k.serial n)

pub leave_begins : (n : ℕ) (ps qs : List Part) (old : Items) → Leaves n (take 0 ps) qs old old
leave_begins n ps qs old = record { sorted = λ order. order; tags = λ k. sym (ap (λ b. cond b None (found old k)) (fresh_none n ps qs k)) }

pub enter_begins : (n : ℕ) (tag : Tag) (ps qs : List Part) (old : Items) → Enters n tag (take 0 ps) qs old old
enter_begins n tag ps qs old = record { sorted = λ order. order; tags = λ k. sym (ap (λ b. cond b (Some tag) (found old k)) (fresh_none n ps qs k)) }

pub all_fresh : (n : ℕ) (ps qs : List Part) (k : Key) → fresh n (take (length ps) ps) qs k ≡ true → fresh n ps qs k ≡ true
all_fresh n ps qs k f = ap (λ (xs : List Part). fresh n xs qs k) (sym (take-length ps)) ∙ f

pub none_has : (k : Key) → has_rate [] k ≡ false
unfolding has_rate
none_has k = refl

-- in and out again, where none of them was there
pub taken_back : (n : ℕ) (tag : Tag) (ps qs : List Part) (old mid new : Items) → Enters n tag ps qs old mid → Leaves n ps qs mid new
    → ((k : Key) → fresh n ps qs k ≡ true → found old k ≡ None) → IsSameIndex old new
taken_back n tag ps qs old mid new enters leaves absent = record {
  sorted = λ order. leaves.sorted (enters.sorted order);
  tags = λ k. leaves.tags k ∙ by k (fresh n ps qs k) refl;
}
  where
    by : (k : Key) (b : Bool) → fresh n ps qs k ≡ b → cond (fresh n ps qs k) None (found mid k) ≡ found old k
    by k true f = rw f (sym (absent k f))
    by k false f = rw f (enters.tags k ∙ rw f refl)

-- what is fresh among the first is fresh among all
pub fresh_all : (n i : ℕ) (ps qs : List Part) (k : Key) → fresh n (take i ps) qs k ≡ true → fresh n ps qs k ≡ true
unfolding fresh has_rate
fresh_all n i ps qs k f = elim (cases_lt k.position i) [
  | inl low ↦ sym (ap (λ o. nat_eq k.serial n && (is_rate k.rate o && not (is_rate k.rate (slice_get qs k.position)))) (take_below ps i k.position low)) ∙ f
  | inr high ↦
      absurd (apart (sym (ap (λ o. nat_eq k.serial n && (is_rate k.rate o && not (is_rate k.rate (slice_get qs k.position)))) (take_past ps i k.position high)
      ∙ and_false (nat_eq k.serial n)) ∙ f))
]
  where
    apart : false ≡ true → ⊥
    apart e = cc
