-- What is told of a text that is loaded.
use Rattle.std.proofs.Common.{◌≡◌, ℕ, List, [], Option, None, Some, inl, inr, refl, sym, ap, subst, ◌∙◌}
use Rattle.std.specs.Io.KnownBytes.{Appends}
use Rattle.graphs.specs.declared.names.Level.TheVariants.{Main}
use Rattle.graphs.specs.Certificates.{Part}
use Rattle.graphs.specs.Graphs.{Graph}
use Rattle.graph_model.specs.Limits.{Bounds, default_limits}
use Rattle.graph_model.specs.States.{PlainState, Picks, State, Table, rate_of}
use Rattle.graph_model.specs.Commands.{Proof}
use Rattle.graph_model.specs.Dumps.{DumpText, LoadFinding, FindsLoad}
use Rattle.graph_model.specs.Dumps as dumps
use Rattle.graph_model.specs.Loads.{LoadsTo, LoadWrites}
use Rattle.graph_model.specs.Replies.{Reply}
use Rattle.graph_model.specs.Runs.{Answer, answer_text}
use Rattle.graph_model.specs.Steps.{Step, KeepsPicks}
use Rattle.graph_model.specs.Validity.{ArePicks, IsStagingPick}
use Rattle.tx_graph.specs.Kept as graphs
use Rattle.replay.specs.declared.session.TheConstants.{MOST_NAMES}
use Rattle.replay.specs.declared.top.Status.{Status}
use Rattle.replay.specs.declared.top.Status.TheVariants as statuses
use Rattle.replay.specs.Answers.{IsReadOf}
use Rattle.replay.specs.Loads.{Loads, LoadsBytes, Tells, IsAnswer, IsRefused}

-- ---- to read the proof of main leaves the state, where no staging is open

no_pick : (bounds : Bounds) (table : Table) (staging : Option Graph) (pick : Option (Option (List Part))) → staging ≡ None
    → IsStagingPick bounds table staging pick → pick ≡ None
no_pick bounds table None None none is = refl
no_pick bounds table None (Some pick) none is = absurd is
no_pick bounds table (Some graph) pick none is = absurd (cc)

same_picks : (a b : Picks) → a.main ≡ b.main → a.staging ≡ b.staging → a ≡ b
same_picks a b main staging = λ i. record { main = main i; staging = staging i }

same_state : (a b : State) → a.plain ≡ b.plain → a.picks ≡ b.picks → a ≡ b
same_state a b plain picks = λ i. record { plain = plain i; picks = picks i }

kept_state : (old new : State) → old.plain.staging ≡ None → ArePicks old.plain old.picks → new.plain ≡ old.plain → KeepsPicks old new → new ≡ old
kept_state old new alone picks same keeps =
    let main : new.picks.main ≡ old.picks.main =
    keeps.main (ap (λ (s : PlainState). s.main) same) (λ id here. ap (λ (s : PlainState). rate_of s.table id) same) in
    let now : new.picks.staging ≡ None =
    no_pick new.plain.limits new.plain.table new.plain.staging new.picks.staging (ap (λ (s : PlainState). s.staging) same ∙ alone) keeps.picks.staging in
    let before : old.picks.staging ≡ None = no_pick old.plain.limits old.plain.table old.plain.staging old.picks.staging alone picks.staging in
    same_state new old same (same_picks new.picks old.picks main (now ∙ sym before))

proof_leaves : (old new : State) (reply : Reply) → old.plain.staging ≡ None → ArePicks old.plain old.picks → Step old (Proof Main) reply new → new ≡ old
proof_leaves old new reply alone picks (inl refused) = refused.same
proof_leaves old new reply alone picks (inr (inl (inl lacks))) = lacks.same
proof_leaves old new reply alone picks (inr (inl (inr gives))) = gives.same
proof_leaves old new reply alone picks (inr (inr fine)) = kept_state old new alone picks fine.accepts.plain.change fine.accepts.picks

-- ---- what is written of a graph that stands for the state that a text makes

pub no_blocks : (most : ℕ) (bounds : Bounds) (text : DumpText) (state : State) → LoadsTo most bounds text state → state.plain.blocks ≡ []
no_blocks most bounds text state loads = ap (λ (s : PlainState). s.blocks) loads.plain.same

pub proof_writes : (graph : graphs.Kept) (most : ℕ) (bounds : Bounds) (text : DumpText) (state : State) (answer : Answer) (bytes : List ℕ)
    → LoadsTo most bounds text state → graphs.StandsFor graph state → IsReadOf (record { graph = graph; blocks = [] }) (Proof Main) answer
    → bytes ≡ answer_text answer → LoadWrites most bounds (dumps.Loads text) bytes
proof_writes graph most bounds text state answer bytes loads stands (reply, steps, told) is =
    let (next, stands_next, step) = steps state (record { graph = stands; blocks = rw (no_blocks most bounds text state loads) tt }) in
    let alone : state.plain.staging ≡ None = ap (λ (s : PlainState). s.staging) loads.plain.same in
    let same : next ≡ state = proof_leaves state next reply alone loads.picks step in
    (state, reply, loads, subst (λ (s : State). Step state (Proof Main) reply s) same step, is ∙ ap answer_text told)

-- ---- the status

module _ {K : Type 0} (written : K → Option (List ℕ)) (old new : K) (bytes : List ℕ) where
  pub told_loaded : (status : Status) (text : DumpText) (IsSo : List ℕ → Type 0) → FindsLoad default_limits bytes (dumps.Loads text)
      → ((out : List ℕ) → IsSo out → LoadWrites MOST_NAMES default_limits (dumps.Loads text) out)
      → Tells statuses.Done status IsSo (written old) (written new) → LoadsBytes status bytes written old new
  told_loaded status text IsSo finds writes (out, is, inl done) =
      subst (λ (s : Status). LoadsBytes s bytes written old new) (sym done.0) (text, (out, record { finds = finds; writes = writes out is }, done.1))
  told_loaded status text IsSo finds writes (out, is, inr fault) =
      subst (λ (s : Status). LoadsBytes s bytes written old new) (sym fault.0)
      (dumps.Loads text, out, record { finds = finds; writes = writes out is }, fault.1)

  pub told_refused : (status : Status) (finding : LoadFinding) (line : List ℕ) → IsRefused finding → FindsLoad default_limits bytes finding
      → LoadWrites MOST_NAMES default_limits finding line
      → Tells statuses.No status (λ text. text ≡ line) (written old) (written new) → LoadsBytes status bytes written old new
  told_refused status finding line refused finds writes (out, is, inl done) =
      let answer : IsAnswer bytes finding out = record { finds = finds; writes = subst (LoadWrites MOST_NAMES default_limits finding) (sym is) writes } in
      subst (λ (s : Status). LoadsBytes s bytes written old new) (sym done.0) (finding, refused, (out, answer, done.1))
  told_refused status finding line refused finds writes (out, is, inr fault) =
      let answer : IsAnswer bytes finding out = record { finds = finds; writes = subst (LoadWrites MOST_NAMES default_limits finding) (sym is) writes } in
      subst (λ (s : Status). LoadsBytes s bytes written old new) (sym fault.0) (finding, out, answer, fault.1)
