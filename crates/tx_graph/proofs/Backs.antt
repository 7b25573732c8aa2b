-- Transactions that come back into main of a graph: what that is refused for, and what it leads to.
use Rattle.std.proofs.Common.{◌≡◌, ◌≢◌, ℕ, ℤ, ◌+◌, ◌^◌, ◌<◌, ◌≤◌, true, false, List, [], ◌∷◌, length, sym, refl, ap, subst, ◌∙◌, inl, inr, Option, None, Some, is_some, true≢false, arith}
use Rattle.std.specs.Prelude.{Contains}
use Rattle.std.specs.FinMap as finmap
use Rattle.std.proofs.lemmas.List.{length-map}
use Rattle.lists.proofs.Cases.{none_of, some_none}
use Rattle.lists.proofs.Entries.{Contains-head, map-Contains}
use Rattle.lists.proofs.Told.{told_number}
use Rattle.fee_rate.specs.declared.rates.FeeRate.{FeeRate}
use Rattle.graphs.specs.declared.names.Level.{Level}
use Rattle.graphs.specs.declared.names.Level.TheVariants.{Main, Top}
use Rattle.graphs.specs.Certificates.{Txs}
use Rattle.graphs.specs.Closures.{is_member, rate_of}
use Rattle.graphs.specs.Graphs.{Lists}
use Rattle.graph_model.specs.declared.names.Refusal.{Refusal}
use Rattle.graph_model.specs.declared.names.Refusal.TheVariants.{Back, Full, Staging}
use Rattle.graph_model.specs.Limits.{Bounds, bounds_of}
use Rattle.graph_model.specs.States.{PlainState, State, size_in, size_of}
use Rattle.graph_model.specs.States as states
use Rattle.graph_model.specs.Changes.{Restores, ids_of}
use Rattle.graph_model.specs.Refusals.{BringsOver, FirstOf, IsFirst, IsInOver, NoRefusal}
use Rattle.graph_model.specs.Validity.{IsValid}
use Rattle.graph_model.proofs.FirstLemmas.{first_in}
use Rattle.graph_model.proofs.RestoreLemmas.{CanCome, none_brought, valid_restored}
use Rattle.levels.specs.Levels.{HavePicks, IsLive, Levels, OneLevel, level_at}
use Rattle.levels.specs.Restores.{BringsNoneOver, ComesOf, IsFirstOver, PutsTxs}
use Rattle.levels.specs.Restores as levels
use Rattle.tx_graph.specs.Additions.{CountsLive}
use Rattle.tx_graph.specs.Kept.{IsStagingOf, Kept, Leads, StandsPlainly, entry_of}
use Rattle.tx_graph.specs.Sound.{IsSound}
use Rattle.tx_graph.proofs.Calls.{in_range}
use Rattle.tx_graph.specs.Restored.{MayLackMemory, MayRestore, RestoreRefusalIs, RestoresSet}
use Rattle.tx_graph.proofs.Counting.{live_count}
use Rattle.tx_graph.proofs.Picked.{KeepsParts, picks_follow}
use Rattle.tx_graph.proofs.Returns.{after, over_found, restores}
use Rattle.tx_graph.proofs.Standing.{StandsBarely, live_told, made_valid, size_kept, staged}

-- ---- refusals that are told at once

module _ (old : Kept) (txs : Txs) (pairs : List (ℕ × ℕ)) (state : PlainState) (stands : StandsPlainly old state) where
  pub staged_row : is_some old.levels.staging ≡ true → RestoreRefusalIs state txs pairs (Some Staging)
  staged_row is = inl (staged old state stands ∙ is, refl)

  not_staged : is_some old.levels.staging ≡ false → states.IsStaged state → ⊥
  not_staged alone there = true≢false (sym there ∙ staged old state stands ∙ alone)

  pub back_row : is_some old.levels.staging ≡ false → (id : ℕ) → IsFirst (λ before id. IsLive old.levels id) (ids_of txs) id
      → RestoreRefusalIs state txs pairs (Some (Back id))
  back_row alone id first = inr (
    not_staged alone,
    inl (
      id,
      record {
        before = first.before;
        after = first.after;
        cut = first.cut;
        has = (live_told old.levels state.table stands.table id).0 first.has;
        earlier = λ front rest other at is. first.earlier front rest other at ((live_told old.levels state.table stands.table other).1 is);
      },
      refl,
    ),
  )

  module _ (alone : is_some old.levels.staging ≡ false) (gone : (id : ℕ) → Contains (ids_of txs) id → IsLive old.levels id → ⊥) where
    pub not_live : (id : ℕ) → Contains (ids_of txs) id → states.IsLive state id → ⊥
    not_live id here is = gone id here ((live_told old.levels state.table stands.table id).1 is)

    not_back : (id : ℕ) → IsFirst (λ before n. states.IsLive state n) (ids_of txs) id → ⊥
    not_back id first = not_live id (first_in (λ before n. states.IsLive state n) (ids_of txs) id first) first.has

    module _ (live : ℕ) (counts : CountsLive old.levels live) where
      pub counted : (finmap.len state.table + length (ids_of txs) ≡ live + length txs) × (state.limits.total ≡ old.levels.limits.total)
      counted =
          let same = live_count old.levels state.table live stands.table counts in
          let long : length (ids_of txs) ≡ length txs = length-map txs (λ (tx : ℕ × ℤ × ℕ). tx.0) in
          (omega (arith, same, long), ap (λ (b : Bounds). b.total) stands.limits)

      pub full_row : old.levels.limits.total < live + length txs → RestoreRefusalIs state txs pairs (Some Full)
      full_row past = inr (not_staged alone, inr (not_back, inl (omega (arith, past, counted.0, counted.1), refl)))

      pub later_row : live + length txs ≤ old.levels.limits.total → (found : Option Refusal) → FirstOf (BringsOver state txs pairs) NoRefusal found
          → RestoreRefusalIs state txs pairs found
      later_row room found later =
          inr (not_staged alone, inr (not_back, inr ((λ past. omega (arith, room, past, counted.0, counted.1)), later)))

-- ---- where none of these is met

module _ (old : Kept) (txs : Txs) (pairs : List (ℕ × ℕ)) (may : MayRestore old txs pairs) (small : (id : ℕ) → Contains (ids_of txs) id → id < 2 ^ 64)
    (alone : is_some old.levels.staging ≡ false) (gone : (id : ℕ) → Contains (ids_of txs) id → IsLive old.levels id → ⊥)
    (live : ℕ) (counts : CountsLive old.levels live) (room : live + length txs ≤ old.levels.limits.total) where
  abbrev ids : List ℕ
  ids = ids_of txs

  module _ (state : PlainState) (stands : StandsPlainly old state) where
    pub can : CanCome state txs pairs
    can = record {
      alone = none_of state.staging (staged old state stands ∙ alone);
      gone = not_live old txs pairs state stands alone gone;
      room =
          (let both = counted old txs pairs state stands alone gone live counts in omega (arith, room, both.0, both.1));
      names = small;
      rates = λ id fee size here. let rate = may.in_range id fee size here in (rate.fee, (rate.some, rate.size));
      parents = may.parents;
      acyclic = may.acyclic;
    }

    abbrev pub next : PlainState
    next = after state stands.valid txs pairs can may.once

    come : Restores state txs pairs next
    come = restores state stands.valid txs pairs can may.once

    -- each state that comes so has a graph that comes so
    comes : (later : PlainState) → Restores state txs pairs later → ComesOf old.levels.main.graph txs pairs later.main (size_of later.table)
    comes later back = record {
      graph = state.main;
      closure = stands.main.closure;
      whole = stands.main.valid;
      puts = back.graph;
      listed = λ id fee n here. ap size_in (back.listed id fee n here);
      others = λ id here.
          ap size_in (back.others id (λ listed. gone id listed (inl ((stands.main.closure.names id).0 here))))
          ∙ size_kept old.levels state.table stands.table Main id ((stands.main.closure.names id).0 here);
    }

    row : (found : Option Refusal) → FirstOf (BringsOver state txs pairs) NoRefusal found → RestoreRefusalIs state txs pairs found
    row = later_row old txs pairs state stands alone gone live counts room

    pub over_row : (why : Refusal) → levels.BringsOver old.levels.limits old.levels.main.graph txs pairs why → RestoreRefusalIs state txs pairs (Some why)
    over_row why over =
        let first : IsFirstOver state.limits (size_of next.table) next.main ids why =
        subst (λ (b : Bounds). IsFirstOver b (size_of next.table) next.main ids why) (sym stands.limits)
        (over.told next.main (size_of next.table) (comes next come)) in
        row (Some why) (inl (
          why,
          record {
            strict = ap (λ (b : Bounds). b.defer) stands.limits ∙ over.strict;
            next = next;
            restores = come;
            id = first.id;
            first = first.first;
            over = first.over;
          },
          refl,
        ))

    none_over : (old.levels.limits.defer ≡ false → BringsNoneOver old.levels.limits old.levels.main.graph txs pairs) → (why : Refusal)
        → BringsOver state txs pairs why → ⊥
    none_over none why over =
        none (sym (ap (λ (b : Bounds). b.defer) stands.limits) ∙ over.strict) over.next.main (size_of over.next.table) (comes over.next over.restores)
        over.id why (first_in (λ before id. (any : Refusal) × IsInOver over.next id any) ids over.id over.first)
        (subst (λ (b : Bounds). levels.IsInOver b (size_of over.next.table) over.next.main over.id why)
        (ap (λ (s : PlainState). s.limits) over.restores.same ∙ stands.limits) over.over)

    pub none_row : (old.levels.limits.defer ≡ false → BringsNoneOver old.levels.limits old.levels.main.graph txs pairs)
        → RestoreRefusalIs state txs pairs None
    none_row none = row None (inr (none_over none, refl))

    -- the row has a refusal or none, and want of memory may be answered in its place
    pub lacking_row : (found : Option Refusal) × RestoreRefusalIs state txs pairs found × MayLackMemory found
    lacking_row = let found = over_found state stands.valid txs pairs can may.once in (found.0, row found.0 found.1, found.2)

  -- ---- where they came

  module _ (new : Kept) (limits : new.levels.limits ≡ old.levels.limits) (most : new.most ≡ old.most) (begins : new.begun ≡ true)
      (still : new.levels.staging ≡ old.levels.staging) (puts : PutsTxs old.levels.main.graph new.levels.main.graph txs pairs)
      (none : old.levels.limits.defer ≡ false → BringsNoneOver old.levels.limits old.levels.main.graph txs pairs) (picked : HavePicks new.levels) where
    closed : old.levels.staging ≡ None
    closed = none_of old.levels.staging alone

    some_id : (xs : Txs) → xs ≢ [] → (id : ℕ) × Contains (ids_of xs) id
    some_id [] some = absurd (some refl)
    some_id (tx ∷ xs) some = (tx.0, Contains-head tx.0 (ids_of xs))

    -- main lacked a name that it has
    keeps : KeepsParts old.levels new.levels
    keeps = record {
      picked = picked;
      limits = limits;
      main = λ same.
          let one = some_id txs may.some in
          absurd (gone one.0 one.1 (inl (sym (same.members one.0) ∙ (puts.members one.0).1 (inr one.1))));
      staging = λ a b was is same. absurd (some_none a (sym was ∙ closed));
    }

    module _ (state : PlainState) (stands : StandsPlainly old state) where
      abbrev then : PlainState
      then = next state stands

      back : Restores state txs pairs then
      back = come state stands

      in_main : (q : ℕ) → is_member new.levels.main.graph q ≡ true → finmap.get then.table q ≡ Some (entry_of (rate_of new.levels.main.graph q))
      in_main q member = elim (told_number ids q) [
        | inl listed ↦
            let (tx, here, named) = map-Contains (λ (t : ℕ × ℤ × ℕ). t.0) txs q listed in
            subst (λ x. finmap.get then.table x ≡ Some (entry_of (rate_of new.levels.main.graph x))) named
            (back.listed tx.0 tx.1 tx.2 here ∙ ap (λ (r : FeeRate). Some (entry_of r)) (sym (puts.listed tx.0 tx.1 tx.2 here)))
        | inr out ↦ elim ((puts.members q).0 member) [
          | inl was ↦
              back.others q out ∙ stands.table.names Main q was ∙ ap (λ (r : FeeRate). Some (entry_of r)) (sym (puts.others q out))
          | inr listed ↦ absurd (out listed)
        ]
      ]

      top_main : (levels : Levels) → levels.staging ≡ None → level_at levels Top ≡ levels.main
      top_main levels is = ap (states.top_of levels.main) is

      named_in : (level : Level) (q : ℕ) → is_member (level_at new.levels level).graph q ≡ true
          → finmap.get then.table q ≡ Some (entry_of (rate_of (level_at new.levels level).graph q))
      named_in Main = in_main
      named_in Top =
          subst (λ (l : OneLevel). (q : ℕ) → is_member l.graph q ≡ true → finmap.get then.table q ≡ Some (entry_of (rate_of l.graph q)))
          (sym (top_main new.levels (still ∙ closed))) in_main

      not_in : (q : ℕ) → (IsLive new.levels q → ⊥) → finmap.get then.table q ≡ None
      not_in q out =
          back.others q (λ listed. out (inl ((puts.members q).1 (inr listed))))
          ∙ stands.table.none q (λ is. out (inl ((puts.members q).1 (inl (elim is [
            | inl main ↦ main
            | inr top ↦ subst (λ (l : OneLevel). is_member l.graph q ≡ true) (top_main old.levels closed) top
          ])))))

      barely : StandsBarely new then
      barely = record {
        limits = stands.limits ∙ ap bounds_of (sym limits);
        most = stands.most ∙ sym most;
        begun = sym begins;
        table = record { names = named_in; none = not_in };
        main = record {
          closure = puts.graphs then.main (size_of then.table) (comes state stands then back);
          among = puts.among;
          valid = valid_then.main.whole;
        };
        staging = subst (λ l. IsStagingOf l state.staging) (sym still) stands.staging;
      }
        where
          valid_then : IsValid then
          valid_then =
              valid_restored state then txs pairs stands.valid (can state stands) back
              (none_brought state then txs pairs stands.valid (can state stands) back (none_over state stands none))

      pub stood : StandsPlainly new then
      stood = made_valid new then barely
          (valid_restored state then txs pairs stands.valid (can state stands) back
          (none_brought state then txs pairs stands.valid (can state stands) back (none_over state stands none)))

    pub leads : Leads old new (RestoresSet txs pairs)
    leads state stands =
        let plain = next state.plain stands.plain in
        let later = stood state.plain stands.plain in
        let picks = picks_follow old new state plain stands later keeps in (
          record { plain = plain; picks = picks.0 },
          record { plain = later; picks = picks.1 },
          (come state.plain stands.plain, picks.2),
        )

-- ---- what the levels ask

-- Transactions that none of the first refusals stops may come into main.
pub may_come : (old : Kept) (txs : Txs) (pairs : List (ℕ × ℕ)) → IsSound old → MayRestore old txs pairs → is_some old.levels.staging ≡ false
    → ((id : ℕ) → Contains (ids_of txs) id → IsLive old.levels id → ⊥) → (ids : List ℕ) → Lists (IsLive old.levels) ids
    → length ids + length txs ≤ old.levels.limits.total → levels.MayRestore old.levels txs pairs
may_come old txs pairs sound may alone gone ids lists room = record {
  alone = none_of old.levels.staging alone;
  once = may.once;
  absent = gone;
  in_range = λ id fee size here. let rate = may.in_range id fee size here in (rate.fee, (rate.some, rate.size));
  parents = may.parents;
  acyclic = may.acyclic;
  few = (ids, lists, (let high = (in_range old sound).total_high in omega (arith, room, high)));
  issued = may.issued;
}
