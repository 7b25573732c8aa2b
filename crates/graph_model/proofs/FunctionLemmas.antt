-- The plain part of a step is a function of the state, up to the order in which names and pairs are listed.
use Rattle.std.proofs.Common.{◌≡◌, ◌≢◌, ℕ, ℤ, List, [], ◌∷◌, length, Option, None, sym, refl, ap, ap₂, subst, ◌∙◌, inl, inr, ◌⊎◌, arith}
use Rattle.std.specs.FinMap as finmap
use Rattle.graphs.specs.declared.names.Level.{Level}
use Rattle.graphs.specs.declared.names.Level.TheVariants.{Main, Top}
use Rattle.graphs.specs.declared.names.Verdict.{Verdict}
use Rattle.graphs.specs.declared.names.Verdict.TheVariants.{Better}
use Rattle.graphs.specs.Graphs.{IsAncestor, AreConnected, IsGraph, Lists}
use Rattle.graphs.specs.Certificates.{Part}
use Rattle.graphs.specs.Alikes.{AreAlike}
use Rattle.graphs.specs.Diagrams.{AreCorners, Compares}
use Rattle.graphs.proofs.ListLemmas.{Lists-same, Lists-for}
use Rattle.graphs.proofs.AlikeLemmas.{corners_to}
use Rattle.graphs.proofs.CornerLemmas.{corners_unique, one_verdict}
use Rattle.graph_model.specs.States.{PlainState, Picks, Entry, level_of, with_top, rate_of, sum_in, size_in}
use Rattle.graph_model.specs.Commands.{Command, SetLimits, Add, Dep, SetFee, Remove, Mine, Evict, Stage, Commit, Abort, Settle, Trim, Unmine, Dump, Compare, Order, Diagram, Proof, Cluster, Ancestors, Descendants, Chunk, Before, Block, Count}
use Rattle.graphs.specs.Rates.{sums}
use Rattle.graph_model.specs.Replies.{Reply, Ids, Number, Points, Compared, Settled, Trimmed, Unmined, Dumped}
use Rattle.graph_model.specs.Limits.{Bounds}
use Rattle.graph_model.specs.Trims.{IsTrimmed}
use Rattle.graph_model.specs.Dumps.{DumpText, IsDump}
use Rattle.graph_model.specs.Changes.{begun, AddsPair, Removes, DropsFromMain, DropsFromTop, Commits, Aborts, IsLast, ids_of}
use Rattle.graph_model.specs.Verdicts.{VerdictIs}
use Rattle.graph_model.specs.Steps.{AcceptsPlainly}
use Rattle.graph_model.specs.Validity.{IsValid, ArePicks}
use Rattle.graph_model.specs.SameLaws.{IsSameState, ReadsNoPick, StepsAreFunctions}
use Rattle.lists.proofs.Distinct.{distinct_within}
use Rattle.graph_model.proofs.ValidLemmas.{top_level}
use Rattle.graph_model.proofs.TrimLemmas.{trimmed_once}
use Rattle.graph_model.proofs.OverLemmas.{latest_same}
use Rattle.graph_model.proofs.SameMinedLemmas.{same_dropped, same_mined, same_unmined}
use Rattle.graph_model.proofs.RefusedLemmas.{refused_along}
use Rattle.graph_model.proofs.PickReplies.{some_same, last_same, dumps_same, pick_reply}
use Rattle.graph_model.proofs.SameLemmas.{back, up_to, linked_to, level_same, state_back, same_top, same_begun, same_left, same_put, of_equal, without_same, drops_same, more_names, more_pairs}

-- ---- what is told of both

module _ (a b : PlainState) (valid_a : IsValid a) (valid_b : IsValid b) (same : IsSameState a b) where
  whole : (state : PlainState) (level : Level) → IsValid state → IsGraph (level_of state level)
  whole state Main valid = valid.main.whole
  whole state Top valid = (top_level state valid).whole

  alike : (level : Level) → AreAlike (rate_of a.table) (level_of a level) (rate_of b.table) (level_of b level)
  alike level =
      let graphs = level_same a b level same in
      record {
        names = graphs.names;
        sums = λ id here. ap sum_in (same.table id);
        ancestors = λ x y. (
          up_to (level_of a level) (level_of b level) graphs x y,
          up_to (level_of b level) (level_of a level)
              (back (level_of a level) (level_of b level) graphs) x y,
        );
      }

  pub one_diagram : (level : Level) (p q : List (ℕ × ℤ)) → AreCorners (rate_of a.table) (level_of a level) p
      → AreCorners (rate_of b.table) (level_of b level) q → p ≡ q
  one_diagram level p q one two =
      corners_unique (rate_of b.table) (level_of b level) p q
      (corners_to (rate_of a.table) (rate_of b.table) (level_of a level) (level_of b level) (alike level) (whole a level valid_a) (whole b level valid_b) p one)
      two

  same_verdict : (v w : Verdict) → VerdictIs a v → VerdictIs b w → v ≡ w
  same_verdict v w (ta, ma, top_a, main_a, one) (tb, mb, top_b, main_b, two) =
      one_verdict ta ma v w one (subst (λ m. Compares ta m w) (sym (one_diagram Main ma mb main_a main_b))
      (subst (λ t. Compares t mb w) (sym (one_diagram Top ta tb top_a top_b)) two))

  lists_same : (P Q : ℕ → Type 0) (xs ys : List ℕ) → ((q : ℕ) → P q → Q q) → ((q : ℕ) → Q q → P q) → Lists P xs → Lists Q ys → xs ≡ ys
  lists_same P Q xs ys to from one two = Lists-same Q xs ys (Lists-for P Q xs to from one) two

  pub same_count : (level : Level) → length (level_of a level).names ≡ length (level_of b level).names
  same_count level =
      let graphs = level_same a b level same in
      let one = distinct_within (λ x. x) (level_of a level).names (level_of b level).names (whole a level valid_a).names (λ q here. (graphs.names q).0 here) in
      let two = distinct_within (λ x. x) (level_of b level).names (level_of a level).names (whole b level valid_b).names (λ q here. (graphs.names q).1 here) in
      omega (arith, one.0, two.0)

  module _ (pa pb : Picks) (a' b' : PlainState) (ra rb : Reply) where
    committed : Commits a a' → Commits b b' → IsSameState a' b'
    committed = same_left (record (begun a) { main = level_of a Top; staging = None }) (record (begun b) { main = level_of b Top; staging = None }) a' b'
        (record {
          limits = same.limits;
          most = same.most;
          begun = refl;
          table = same.table;
          main = level_same a b Top same;
          staging = tt;
          blocks = same.blocks;
        })

    aborted : Aborts a a' → Aborts b b' → IsSameState a' b'
    aborted = same_left (record (begun a) { staging = None }) (record (begun b) { staging = None }) a' b'
        (record { limits = same.limits; most = same.most; begun = refl; table = same.table; main = same.main; staging = tt; blocks = same.blocks })

    paired : (parent child : ℕ) → AddsPair a parent child a' → AddsPair b parent child b' → IsSameState a' b'
    paired parent child one two =
        let graphs = level_same a b Top same in
        elim one [
          | inl here ↦ elim two [
            | inl there ↦ of_equal (begun a) (begun b) a' b' here.1 there.1 (same_begun a b same)
            | inr fresh ↦ absurd (fresh.0 ((graphs.pairs parent child).0 here.0))
          ]
          | inr fresh ↦ elim two [
            | inl there ↦ absurd (fresh.0 ((graphs.pairs parent child).1 there.0))
            | inr also ↦ of_equal (with_top (begun a) _) (with_top (begun b) _) a' b' fresh.1 also.1
                (same_top (begun a) (begun b) _ _ (same_begun a b same) (more_pairs (level_of a Top) (level_of b Top) (parent, child) graphs))
          ]
        ]

    -- a level that trimming drops names from, or none
    lessened : (xs ys : List ℕ) → xs ≡ ys → DropsFromTop a xs a' → DropsFromTop b ys b' → IsSameState a' b'
    lessened xs ys is one two = by xs one (subst (λ ids. DropsFromTop b ids b') (sym is) two)
      where
        by : (ids : List ℕ) → DropsFromTop a ids a' → DropsFromTop b ids b' → IsSameState a' b'
        by [] one two = of_equal (begun a) (begun b) a' b' one two (same_begun a b same)
        by (id ∷ ids) one two = same_left (with_top (begun a) one.0) (with_top (begun b) two.0) a' b'
            (same_top (begun a) (begun b) one.0 two.0 (same_begun a b same)
            (drops_same (level_of a Top) (level_of b Top) one.0 two.0 (id ∷ ids) (level_same a b Top same) one.1 two.1)) one.2 two.2

    -- two valid states that are the same drop the same names
    one_trim : (xs ys : List ℕ) → IsTrimmed a.limits (rate_of a.table) (level_of a Top) xs → IsTrimmed b.limits (rate_of b.table) (level_of b Top) ys → xs ≡ ys
    one_trim xs ys one two =
        let rates : rate_of a.table ≡ rate_of b.table = λ i id. sum_in (same.table id i) in
        trimmed_once b.limits (rate_of b.table) (level_of a Top) (level_of b Top) xs ys (level_same a b Top same)
        (subst (λ (l : Bounds). IsTrimmed l (rate_of b.table) (level_of a Top) xs) same.limits
        (subst (λ rate. IsTrimmed a.limits rate (level_of a Top) xs) rates one)) two

    removed : (id : ℕ) → Removes a id a' → Removes b id b' → IsSameState a' b'
    removed id one two = same_left (with_top (begun a) one.0) (with_top (begun b) two.0) a' b'
        (same_top (begun a) (begun b) one.0 two.0 (same_begun a b same)
        (without_same (level_of a Top) (level_of b Top) one.0 two.0 id (level_same a b Top same) one.1 two.1)) one.2 two.2

    settled : (VerdictIs a Better × Commits a a') ⊎ ((VerdictIs a Better → ⊥) × Aborts a a')
        → (VerdictIs b Better × Commits b b') ⊎ ((VerdictIs b Better → ⊥) × Aborts b b') → IsSameState a' b'
    settled one two = elim one [
      | inl better ↦ elim two [ inl also ↦ committed better.1 also.1 | inr worse ↦ absurd (worse.0 (verdict_to better.0)) ]
      | inr worse ↦ elim two [ inl better ↦ absurd (worse.0 (verdict_back better.0)) | inr also ↦ aborted worse.1 also.1 ]
    ]
      where
        verdict_to : VerdictIs a Better → VerdictIs b Better
        verdict_to (t, m, top, main, compares) = (
          t,
          m,
          corners_to (rate_of a.table) (rate_of b.table) (level_of a Top) (level_of b Top) (alike Top) (whole a Top valid_a) (whole b Top valid_b) t top,
          corners_to (rate_of a.table) (rate_of b.table) (level_of a Main) (level_of b Main) (alike Main) (whole a Main valid_a) (whole b Main valid_b) m main,
          compares,
        )

        turned : (level : Level) → AreAlike (rate_of b.table) (level_of b level) (rate_of a.table) (level_of a level)
        turned level = record {
          names = λ id. (((alike level).names id).1, ((alike level).names id).0);
          sums = λ id here. ap sum_in (sym (same.table id));
          ancestors = λ x y. (((alike level).ancestors x y).1, ((alike level).ancestors x y).0);
        }

        verdict_back : VerdictIs b Better → VerdictIs a Better
        verdict_back (t, m, top, main, compares) = (
          t,
          m,
          corners_to (rate_of b.table) (rate_of a.table) (level_of b Top) (level_of a Top) (turned Top) (whole b Top valid_b) (whole a Top valid_a) t top,
          corners_to (rate_of b.table) (rate_of a.table) (level_of b Main) (level_of a Main) (turned Main) (whole b Main valid_b) (whole a Main valid_a) m main,
          compares,
        )

    reads : a' ≡ a → b' ≡ b → IsSameState a' b'
    reads one two = of_equal a b a' b' one two same

    states : (command : Command) → command ≢ Evict → AcceptsPlainly pa a command ra a' → AcceptsPlainly pb b command rb b' → IsSameState a' b'
    states (SetLimits limits) other one two = of_equal _ _ a' b' one.change two.change
        (record { limits = refl; most = same.most; begun = refl; table = same.table; main = same.main; staging = same.staging; blocks = same.blocks })
    states (Add id fee size) other one two = of_equal _ _ a' b' one.change two.change
        (same_top (record (begun a) { table = finmap.insert a.table id (record { fee = fee; size = size }) })
        (record (begun b) { table = finmap.insert b.table id (record { fee = fee; size = size }) }) _ _
        (record {
          limits = same.limits;
          most = same.most;
          begun = refl;
          table = same_put a.table b.table id (record { fee = fee; size = size })
              (record { fee = fee; size = size }) refl same.table;
          main = same.main;
          staging = same.staging;
          blocks = same.blocks;
        })
        (more_names (level_of a Top) (level_of b Top) id (level_same a b Top same)))
    states (Dep parent child) other one two = paired parent child one.change two.change
    states (SetFee id fee) other one two = of_equal _ _ a' b' one.change two.change
        (record {
          limits = same.limits;
          most = same.most;
          begun = refl;
          table = same_put a.table b.table id _ _ (ap (λ (o : Option Entry). record { fee = fee; size = size_in o }) (same.table id)) same.table;
          main = same.main;
          staging = same.staging;
          blocks = same.blocks;
        })
    states (Remove id) other one two = removed id one.change two.change
    states (Mine ids) other one two = same_mined a b a' b' ids same one.change two.change
    states Evict other one two = absurd (other refl)
    states Stage other one two = of_equal _ _ a' b' one.change two.change
        (record { limits = same.limits; most = same.most; begun = refl; table = same.table; main = same.main; staging = same.main; blocks = same.blocks })
    states Commit other one two = committed one.change two.change
    states Abort other one two = aborted one.change two.change
    states Settle other one two = settled one.change two.change
    states Trim other one two =
        let x = one.change in let y = two.change in lessened x.0 y.0 (one_trim x.0 y.0 x.1 y.1) x.2 y.2
    states Unmine other one two = same_unmined a b a' b' same one.change two.change
    states Compare other one two = reads one.change two.change
    states (Order level) other one two = reads one.change two.change
    states (Diagram level) other one two = reads one.change two.change
    states (Proof level) other one two = reads one.change two.change
    states (Cluster id level) other one two = reads one.change two.change
    states (Ancestors id level) other one two = reads one.change two.change
    states (Descendants id level) other one two = reads one.change two.change
    states (Chunk id) other one two = reads one.change two.change
    states (Before x y) other one two = reads one.change two.change
    states (Block size) other one two = reads one.change two.change
    states (Count level) other one two = reads one.change two.change
    states Dump other one two = reads one.change two.change

    one_dump : (x y : DumpText) → IsDump a.table a.main x → IsDump b.table b.main y → x ≡ y
    one_dump = dumps_same a b same

    done : (r : Reply) → ra ≡ r → rb ≡ r → ra ≡ rb
    done r one two = one ∙ sym two

    replies : (command : Command) → ReadsNoPick command → AcceptsPlainly pa a command ra a' → AcceptsPlainly pb b command rb b' → ra ≡ rb
    replies (SetLimits limits) plain one two = done _ one.answer two.answer
    replies (Add id fee size) plain one two = done _ one.answer two.answer
    replies (Dep parent child) plain one two = done _ one.answer two.answer
    replies (SetFee id fee) plain one two = done _ one.answer two.answer
    replies (Remove id) plain one two = done _ one.answer two.answer
    replies (Mine ids) plain one two = done _ one.answer two.answer
    replies Evict plain one two = absurd plain
    replies Stage plain one two = done _ one.answer two.answer
    replies Commit plain one two = done _ one.answer two.answer
    replies Abort plain one two = done _ one.answer two.answer
    replies Settle plain one two =
        let x = one.answer in let y = two.answer in x.2 ∙ ap Settled (same_verdict x.0 y.0 x.1 y.1) ∙ sym y.2
    replies Trim plain one two =
        let x = one.answer in let y = two.answer in
        x.2 ∙ ap₂ (λ rate ids. Trimmed (sums rate ids) ids) (λ i id. sum_in (same.table id i)) (one_trim x.0 y.0 x.1 y.1) ∙ sym y.2
    replies Unmine plain one two = one.answer ∙ ap (λ txs. Unmined (ids_of txs)) (latest_same a.blocks b.blocks same.blocks).txs ∙ sym two.answer
    replies Compare plain one two =
        let x = one.answer in let y = two.answer in x.2 ∙ ap Compared (same_verdict x.0 y.0 x.1 y.1) ∙ sym y.2
    replies (Order level) plain one two = absurd plain
    replies (Diagram level) plain one two =
        let x = one.answer in let y = two.answer in x.2 ∙ ap Points (one_diagram level x.0 y.0 x.1 y.1) ∙ sym y.2
    replies (Proof level) plain one two = absurd plain
    replies (Cluster id level) plain one two =
        let x = one.answer in let y = two.answer in let graphs = level_same a b level same in
        x.2 ∙ ap Ids (lists_same (AreConnected (level_of a level).pairs id) (AreConnected (level_of b level).pairs id) x.0 y.0
        (λ q. linked_to (level_of a level) (level_of b level) graphs id q)
        (λ q. linked_to (level_of b level) (level_of a level) (back (level_of a level) (level_of b level) graphs) id q) x.1 y.1) ∙ sym y.2
    replies (Ancestors id level) plain one two =
        let x = one.answer in let y = two.answer in let graphs = level_same a b level same in
        x.2 ∙ ap Ids (lists_same (λ q. IsAncestor (level_of a level).pairs q id) (λ q. IsAncestor (level_of b level).pairs q id) x.0 y.0
        (λ q. up_to (level_of a level) (level_of b level) graphs q id)
        (λ q. up_to (level_of b level) (level_of a level) (back (level_of a level) (level_of b level) graphs) q id) x.1 y.1) ∙ sym y.2
    replies (Descendants id level) plain one two =
        let x = one.answer in let y = two.answer in let graphs = level_same a b level same in
        x.2 ∙ ap Ids (lists_same (λ q. IsAncestor (level_of a level).pairs id q) (λ q. IsAncestor (level_of b level).pairs id q) x.0 y.0
        (λ q. up_to (level_of a level) (level_of b level) graphs id q)
        (λ q. up_to (level_of b level) (level_of a level) (back (level_of a level) (level_of b level) graphs) id q) x.1 y.1) ∙ sym y.2
    replies (Chunk id) plain one two = absurd plain
    replies (Before x y) plain one two = absurd plain
    replies (Block size) plain one two = absurd plain
    replies (Count level) plain one two = one.answer ∙ ap Number (same_count level) ∙ sym two.answer
    replies Dump plain one two =
        let x = one.answer in let y = two.answer in x.2 ∙ ap Dumped (one_dump x.0 y.0 x.1 y.1) ∙ sym y.2

-- ---- with the same picks

module _ (picks : Picks) (a b : PlainState) (valid_a : IsValid a) (valid_b : IsValid b) (same : IsSameState a b) (a' b' : PlainState) (ra rb : Reply) where
  evicted : AcceptsPlainly picks a Evict ra a' → AcceptsPlainly picks b Evict rb b' → IsSameState a' b'
  evicted one two =
      let x = one.change in let y = two.change in
      let pick : y.0 ≡ x.0 = some_same y.0 x.0 (sym y.2 ∙ x.2) in
      let part : x.1 ≡ y.1 = last_same x.0 x.1 y.1 x.3 (subst (λ (ps : List Part). IsLast ps y.1) pick y.3) in
      same_dropped a b a' b' x.1.ids same x.4 (subst (λ (p : Part). DropsFromMain b p.ids b') (sym part) y.4)

  states_by_picks : (command : Command) → (command ≡ Evict) ⊎ (command ≢ Evict) → AcceptsPlainly picks a command ra a'
      → AcceptsPlainly picks b command rb b' → IsSameState a' b'
  states_by_picks command (inl is) one two =
      evicted (subst (λ c. AcceptsPlainly picks a c ra a') is one) (subst (λ c. AcceptsPlainly picks b c rb b') is two)
  states_by_picks command (inr other) one two = states a b valid_a valid_b same picks picks a' b' ra rb command other one two

  replies_by_picks : (command : Command) → ArePicks a picks → ArePicks b picks → ReadsNoPick command ⊎ (ReadsNoPick command → ⊥)
      → AcceptsPlainly picks a command ra a' → AcceptsPlainly picks b command rb b' → ra ≡ rb
  replies_by_picks command picks_a picks_b (inl plain) one two = replies a b valid_a valid_b same picks picks a' b' ra rb command plain one two
  replies_by_picks command picks_a picks_b (inr reads) one two =
      pick_reply picks a b valid_a valid_b picks_a picks_b same ra rb command reads one.answer two.answer

told_command : (command : Command) → ((command ≡ Evict) ⊎ (command ≢ Evict)) × (ReadsNoPick command ⊎ (ReadsNoPick command → ⊥))
told_command Evict = (inl refl, inr (λ none. none))
told_command (Order level) = (inr (λ e. cc), inr (λ none. none))
told_command (Proof level) = (inr (λ e. cc), inr (λ none. none))
told_command (Chunk id) = (inr (λ e. cc), inr (λ none. none))
told_command (Before x y) = (inr (λ e. cc), inr (λ none. none))
told_command (Block size) = (inr (λ e. cc), inr (λ none. none))
told_command (SetLimits limits) = (inr (λ e. cc), inl tt)
told_command (Add id fee size) = (inr (λ e. cc), inl tt)
told_command (Dep parent child) = (inr (λ e. cc), inl tt)
told_command (SetFee id fee) = (inr (λ e. cc), inl tt)
told_command (Remove id) = (inr (λ e. cc), inl tt)
told_command (Mine ids) = (inr (λ e. cc), inl tt)
told_command Stage = (inr (λ e. cc), inl tt)
told_command Commit = (inr (λ e. cc), inl tt)
told_command Abort = (inr (λ e. cc), inl tt)
told_command Settle = (inr (λ e. cc), inl tt)
told_command Trim = (inr (λ e. cc), inl tt)
told_command Unmine = (inr (λ e. cc), inl tt)
told_command Compare = (inr (λ e. cc), inl tt)
told_command (Diagram level) = (inr (λ e. cc), inl tt)
told_command (Cluster id level) = (inr (λ e. cc), inl tt)
told_command (Ancestors id level) = (inr (λ e. cc), inl tt)
told_command (Descendants id level) = (inr (λ e. cc), inl tt)
told_command (Count level) = (inr (λ e. cc), inl tt)
told_command Dump = (inr (λ e. cc), inl tt)

pub steps_are_functions : StepsAreFunctions
steps_are_functions = record {
  refusals = λ a b command found same. (refused_along a b same found command, refused_along b a (state_back a b same) found command);
  states = λ pa pb a b a' b' command ra rb valid_a valid_b same other. states a b valid_a valid_b same pa pb a' b' ra rb command other;
  replies = λ pa pb a b a' b' command ra rb valid_a valid_b same plain. replies a b valid_a valid_b same pa pb a' b' ra rb command plain;
  states_by_picks = λ picks a b a' b' command ra rb valid_a valid_b same.
      states_by_picks picks a b valid_a valid_b same a' b' ra rb command (told_command command).0;
  replies_by_picks = λ picks a b a' b' command ra rb valid_a valid_b picks_a picks_b same.
      replies_by_picks picks a b valid_a valid_b same a' b' ra rb command picks_a picks_b (told_command command).1;
}
