-- States that are the same up to the order in which names and pairs are listed, and what is made of them.
use Rattle.std.proofs.Common.{◌≡◌, ℕ, cond, List, [], ◌∷◌, ◌++◌, Option, None, Some, sym, refl, ap₂, subst, ◌∙◌, inl, inr, nat_eq}
use Rattle.std.specs.Prelude.{Contains}
use Rattle.std.specs.FinMap as finmap
use Rattle.std.proofs.lemmas.List.Elements.{Contains-append_left, Contains-push, Contains-push_cases}
use Rattle.graphs.specs.declared.names.Level.{Level}
use Rattle.graphs.specs.declared.names.Level.TheVariants.{Main, Top}
use Rattle.graphs.specs.Graphs.{Graph, IsAncestor, AreConnected}
use Rattle.graphs.specs.Removals.{IsWithout}
use Rattle.graphs.specs.Drops.{DropsNames}
use Rattle.graphs.proofs.WalkLemmas.{walk_within}
use Rattle.graph_model.specs.States.{PlainState, MinedBlock, Table, Entry, level_of, top_of, with_top}
use Rattle.graph_model.specs.Changes.{begun, IsKept, Forgets}
use Rattle.graph_model.specs.SameLaws.{IsSameGraph, IsSameStaging, AreSameBlocks, IsSameState}
use Rattle.graph_model.proofs.LevelLemmas.{one_pair, connects}
use Rattle.graph_model.proofs.ValidLemmas.{told_kept, get-put}
use Rattle.graph_model.proofs.ChangeLemmas.{of_top}

-- ---- graphs

pub back : (a b : Graph) → IsSameGraph a b → IsSameGraph b a
back a b same = record { names = λ id. ((same.names id).1, (same.names id).0); pairs = λ x y. ((same.pairs x y).1, (same.pairs x y).0) }

pub up_to : (a b : Graph) → IsSameGraph a b → (x y : ℕ) → IsAncestor a.pairs x y → IsAncestor b.pairs x y
up_to a b same x y walk = (walk.0, walk_within a.pairs b.pairs (λ p q. (same.pairs p q).0) x y walk.0 walk.1)

pub linked_to : (a b : Graph) → IsSameGraph a b → (x y : ℕ) → AreConnected a.pairs x y → AreConnected b.pairs x y
linked_to a b same = connects a.pairs b.pairs (λ p q pair. one_pair b.pairs p q ((same.pairs p q).0 pair))

pub level_same : (a b : PlainState) (level : Level) → IsSameState a b → IsSameGraph (level_of a level) (level_of b level)
level_same a b Main same = same.main
level_same a b Top same = both a.staging b.staging same.staging
  where
    both : (sa sb : Option Graph) → IsSameStaging sa sb → IsSameGraph (top_of a.main sa) (top_of b.main sb)
    both None None none = same.main
    both (Some x) (Some y) is = is
    both None (Some y) none = absurd none
    both (Some x) None none = absurd none

pub kept_to : (a b : PlainState) (id : ℕ) → IsSameState a b → IsKept a id → IsKept b id
kept_to a b id same kept = elim kept [ inl main ↦ inl ((same.main.names id).0 main) | inr top ↦ inr (((level_same a b Top same).names id).0 top) ]

pub blocks_back : (xs ys : List MinedBlock) → AreSameBlocks xs ys → AreSameBlocks ys xs
blocks_back [] [] same = tt
blocks_back (x ∷ xs) (y ∷ ys) same =
    (record { txs = sym same.0.txs; pairs = λ p q. ((same.0.pairs p q).1, (same.0.pairs p q).0) }, blocks_back xs ys same.1)
blocks_back [] (y ∷ ys) none = absurd none
blocks_back (x ∷ xs) [] none = absurd none

pub state_back : (a b : PlainState) → IsSameState a b → IsSameState b a
state_back a b same = record {
  limits = sym same.limits;
  most = sym same.most;
  begun = sym same.begun;
  table = λ id. sym (same.table id);
  main = back a.main b.main same.main;
  staging = turned a.staging b.staging same.staging;
  blocks = blocks_back a.blocks b.blocks same.blocks;
}
  where
    turned : (sa sb : Option Graph) → IsSameStaging sa sb → IsSameStaging sb sa
    turned None None none = tt
    turned (Some x) (Some y) is = back x y is
    turned None (Some y) none = absurd none
    turned (Some x) None none = absurd none

-- ---- states

pub same_top : (a b : PlainState) (x y : Graph) → IsSameState a b → IsSameGraph x y → IsSameState (with_top a x) (with_top b y)
same_top a b x y same graphs = of_top a x (λ p. IsSameState p (with_top b y))
    (λ alone. of_top b y (IsSameState (record a { main = x }))
    (λ other. record {
      limits = same.limits;
      most = same.most;
      begun = same.begun;
      table = same.table;
      main = graphs;
      staging = same.staging;
      blocks = same.blocks;
    })
    (λ g is. absurd (subst (IsSameStaging None) is (subst (λ s. IsSameStaging s b.staging) alone same.staging))))
    (λ g is. of_top b y (IsSameState (record a { staging = Some x }))
    (λ other. absurd (subst (IsSameStaging (Some g)) other (subst (λ s. IsSameStaging s b.staging) is same.staging)))
    (λ h other. record {
      limits = same.limits;
      most = same.most;
      begun = same.begun;
      table = same.table;
      main = same.main;
      staging = graphs;
      blocks = same.blocks;
    }))

pub same_begun : (a b : PlainState) → IsSameState a b → IsSameState (begun a) (begun b)
same_begun a b same =
    record { limits = same.limits; most = same.most; begun = refl; table = same.table; main = same.main; staging = same.staging; blocks = same.blocks }

-- tables that forget the names that are in no level
pub same_left : (a b a' b' : PlainState) → IsSameState a b → Forgets a a' → Forgets b b' → IsSameState a' b'
same_left a b a' b' same one two =
    let entry : (id : ℕ) → finmap.get a'.table id ≡ finmap.get b'.table id = λ id. elim (told_kept a id) [
      | inl kept ↦ one.kept id kept ∙ same.table id ∙ sym (two.kept id (kept_to a b id same kept))
      | inr gone ↦ one.dropped id gone ∙ sym (two.dropped id (λ kept. gone (kept_to b a id (state_back a b same) kept)))
    ] in
    let all : IsSameState (record a { table = a'.table }) (record b { table = b'.table }) =
    record { limits = same.limits; most = same.most; begun = same.begun; table = entry; main = same.main; staging = same.staging; blocks = same.blocks } in
    subst (λ (p : PlainState). IsSameState p b') (sym one.same) (subst (IsSameState (record a { table = a'.table })) (sym two.same) all)

pub same_put : (ta tb : Table) (id : ℕ) (ea eb : Entry) → ea ≡ eb → ((q : ℕ) → finmap.get ta q ≡ finmap.get tb q)
    → (q : ℕ) → finmap.get (finmap.insert ta id ea) q ≡ finmap.get (finmap.insert tb id eb) q
same_put ta tb id ea eb entries same q = get-put ta id q ea ∙ ap₂ (λ (e : Entry) o. cond (nat_eq q id) (Some e) o) entries (same q) ∙ sym (get-put tb id q eb)

pub of_equal : (a b a' b' : PlainState) → a' ≡ a → b' ≡ b → IsSameState a b → IsSameState a' b'
of_equal a b a' b' one two same = subst (λ (p : PlainState). IsSameState p b') (sym one) (subst (IsSameState a) (sym two) same)

pub without_same : (a b x y : Graph) (id : ℕ) → IsSameGraph a b → IsWithout a id x → IsWithout b id y → IsSameGraph x y
without_same a b x y id same one two = record {
  names = λ q. (
    λ here. (two.names q).1 ((same.names q).0 ((one.names q).0 here).0, ((one.names q).0 here).1),
    λ here. (one.names q).1 ((same.names q).1 ((two.names q).0 here).0, ((two.names q).0 here).1),
  );
  pairs = λ p q. (
    λ here. let is = (one.pairs p q).0 here in (two.pairs p q).1
        (is.0, is.1, elim is.2 [ inl was ↦ inl ((same.pairs p q).0 was) | inr across ↦ inr ((same.pairs p id).0 across.0, (same.pairs id q).0 across.1) ]),
    λ here. let is = (two.pairs p q).0 here in (one.pairs p q).1
        (is.0, is.1, elim is.2 [ inl was ↦ inl ((same.pairs p q).1 was) | inr across ↦ inr ((same.pairs p id).1 across.0, (same.pairs id q).1 across.1) ]),
  );
}

pub drops_same : (a b x y : Graph) (ids : List ℕ) → IsSameGraph a b → DropsNames a ids x → DropsNames b ids y → IsSameGraph x y
drops_same a b x y ids same one two = record {
  names = λ q. (
    λ here. (two.names q).1 ((same.names q).0 ((one.names q).0 here).0, ((one.names q).0 here).1),
    λ here. (one.names q).1 ((same.names q).1 ((two.names q).0 here).0, ((two.names q).0 here).1),
  );
  pairs = λ p q. (
    λ here. let is = (one.pairs p q).0 here in (two.pairs p q).1 (is.0, is.1, (same.pairs p q).0 is.2),
    λ here. let is = (two.pairs p q).0 here in (one.pairs p q).1 (is.0, is.1, (same.pairs p q).1 is.2),
  );
}

pub more_names : (a b : Graph) (id : ℕ) → IsSameGraph a b → IsSameGraph (record a { names = a.names ++ id ∷ [] }) (record b { names = b.names ++ id ∷ [] })
more_names a b id same = record { names = λ q. (one a b same q, one b a (back a b same) q); pairs = same.pairs }
  where
    one : (a b : Graph) → IsSameGraph a b → (q : ℕ) → Contains (a.names ++ id ∷ []) q → Contains (b.names ++ id ∷ []) q
    one a b same q here = elim (Contains-push_cases a.names id q here) [
      | inl was ↦ Contains-append_left b.names (id ∷ []) q ((same.names q).0 was)
      | inr is ↦ subst (Contains (b.names ++ id ∷ [])) is (Contains-push b.names id)
    ]

pub more_pairs : (a b : Graph) (pair : ℕ × ℕ) → IsSameGraph a b
    → IsSameGraph (record a { pairs = a.pairs ++ pair ∷ [] }) (record b { pairs = b.pairs ++ pair ∷ [] })
more_pairs a b pair same = record { names = same.names; pairs = λ x y. (one a b same x y, one b a (back a b same) x y) }
  where
    one : (a b : Graph) → IsSameGraph a b → (x y : ℕ) → Contains (a.pairs ++ pair ∷ []) (x, y) → Contains (b.pairs ++ pair ∷ []) (x, y)
    one a b same x y here = elim (Contains-push_cases a.pairs pair (x, y) here) [
      | inl was ↦ Contains-append_left b.pairs (pair ∷ []) (x, y) ((same.pairs x y).0 was)
      | inr is ↦ subst (Contains (b.pairs ++ pair ∷ [])) is (Contains-push b.pairs pair)
    ]
