-- Commands that a number gives, answered one after another.
use Rattle.std.proofs.Common.{◌≡◌, ◌≢◌, ℕ, ◌+◌, ◌-◌, ◌<◌, ◌≤◌, suc, List, [], ◌∷◌, ◌++◌, refl, sym, ap, subst, arith, append_assoc, append-nil, false}
use Rattle.wire.specs.declared.line.Line.{Line}
use Rattle.wire.specs.declared.line.Line.TheVariants as lines
use Rattle.wire.specs.Readings.{meaning_of}
use Rattle.graphs.specs.declared.names.Level.TheVariants.{Main}
use Rattle.graph_model.specs.Limits.{Bounds}
use Rattle.graph_model.specs.States.{State, start}
use Rattle.graph_model.specs.Replies.{Reply}
use Rattle.graph_model.specs.Runs.{CommandsRun}
use Rattle.graph_model.specs.Generators.{drawn_command, commands_from, generated}
use Rattle.graph_model.proofs.LimitLemmas.{generated_strict}
use Rattle.levels.specs.Levels.{IsWithin}
use Rattle.tx_graph.proofs.Oversizing.{oversized_at}
use Rattle.reorg.specs.Kept.{Kept, StandsFor, MakesStep}
use Rattle.replay.specs.declared.session.TheConstants.{MOST_NAMES}
use Rattle.replay.specs.declared.tally.Tally.{Tally}
use Rattle.replay.specs.Generations.{IsTally, IsPlayed}
use Rattle.replay.specs.Requests.{MinesSome}

-- a line that lists no names says what it says, whatever names stand beside it
pub meaning_alone : (line : Line) (ids : List ℕ) → line ≢ lines.Mine → meaning_of line ids ≡ meaning_of line []
meaning_alone lines.Mine ids other = absurd (other refl)
meaning_alone (lines.Limits set) ids other = refl
meaning_alone lines.Quiet ids other = refl
meaning_alone lines.Syntax ids other = refl
meaning_alone (lines.Add id fee size) ids other = refl
meaning_alone (lines.Dep parent child) ids other = refl
meaning_alone (lines.Fee id fee) ids other = refl
meaning_alone (lines.Remove id) ids other = refl
meaning_alone lines.Evict ids other = refl
meaning_alone lines.Stage ids other = refl
meaning_alone lines.Commit ids other = refl
meaning_alone lines.Abort ids other = refl
meaning_alone lines.Settle ids other = refl
meaning_alone lines.Trim ids other = refl
meaning_alone lines.Unmine ids other = refl
meaning_alone lines.Compare ids other = refl
meaning_alone (lines.Order level) ids other = refl
meaning_alone (lines.Diagram level) ids other = refl
meaning_alone (lines.Proof level) ids other = refl
meaning_alone (lines.Cluster id level) ids other = refl
meaning_alone (lines.Ancestors id level) ids other = refl
meaning_alone (lines.Descendants id level) ids other = refl
meaning_alone (lines.Chunk id) ids other = refl
meaning_alone (lines.Before a b) ids other = refl
meaning_alone (lines.Block size) ids other = refl
meaning_alone (lines.Count level) ids other = refl
meaning_alone lines.Dump ids other = refl

-- and isn't to mine no transaction
pub none_mined : (line : Line) (ids : List ℕ) → line ≢ lines.Mine → MinesSome (meaning_of line ids)
none_mined lines.Mine ids other = absurd (other refl)
none_mined (lines.Limits set) ids other = λ e. cc
none_mined lines.Quiet ids other = λ e. cc
none_mined lines.Syntax ids other = λ e. cc
none_mined (lines.Add id fee size) ids other = λ e. cc
none_mined (lines.Dep parent child) ids other = λ e. cc
none_mined (lines.Fee id fee) ids other = λ e. cc
none_mined (lines.Remove id) ids other = λ e. cc
none_mined lines.Evict ids other = λ e. cc
none_mined lines.Stage ids other = λ e. cc
none_mined lines.Commit ids other = λ e. cc
none_mined lines.Abort ids other = λ e. cc
none_mined lines.Settle ids other = λ e. cc
none_mined lines.Trim ids other = λ e. cc
none_mined lines.Unmine ids other = λ e. cc
none_mined lines.Compare ids other = λ e. cc
none_mined (lines.Order level) ids other = λ e. cc
none_mined (lines.Diagram level) ids other = λ e. cc
none_mined (lines.Proof level) ids other = λ e. cc
none_mined (lines.Cluster id level) ids other = λ e. cc
none_mined (lines.Ancestors id level) ids other = λ e. cc
none_mined (lines.Descendants id level) ids other = λ e. cc
none_mined (lines.Chunk id) ids other = λ e. cc
none_mined (lines.Before a b) ids other = λ e. cc
none_mined (lines.Block size) ids other = λ e. cc
none_mined (lines.Count level) ids other = λ e. cc
none_mined lines.Dump ids other = λ e. cc

-- So far k commands of the run were answered, with this tally, and the generator is in state x.
pub record Playing (seed count : ℕ) (kept : Kept) (tally : Tally) (x k : ℕ) : Type 0 where
  pub replies : List Reply
  pub state : State
  pub stands : StandsFor kept state
  pub run : (rest : List Reply) (end : State) → CommandsRun state (commands_from x (k + 1) (count - k)) rest end
      → CommandsRun (start MOST_NAMES) (generated seed count) (replies ++ rest) end
  pub counted : IsTally replies tally

less_none : (count : ℕ) → count - 0 ≡ count
less_none count = omega arith

pub playing_nothing : (seed count : ℕ) (kept : Kept) (tally : Tally) → StandsFor kept (start MOST_NAMES) → IsTally [] tally → Playing seed count kept tally seed 0
playing_nothing seed count kept tally stands empty =
    record { replies = []; state = start MOST_NAMES; stands = stands; run = λ rest end run. subst (λ n. CommandsRun (start MOST_NAMES) (commands_from seed 1 n) rest end) (less_none count) run; counted = empty }

one_less : (count k : ℕ) → k < count → count - k ≡ suc (count - (k + 1))
one_less count k below = omega (arith, below)

-- one command more
pub play_on : (seed count : ℕ) (old new : Kept) (before after : Tally) (x k : ℕ) (reply : Reply) → k < count → Playing seed count old before x k
    → MakesStep old new (drawn_command (k + 1) x).0 reply
    → ((replies : List Reply) → IsTally replies before → IsTally (replies ++ reply ∷ []) after)
    → Playing seed count new after (drawn_command (k + 1) x).1 (k + 1)
play_on seed count old new before after x k reply below playing makes counts =
    let next = makes playing.state playing.stands in record {
      replies = playing.replies ++ reply ∷ [];
      state = next.0;
      stands = next.1;
      run = λ rest end run.
          let whole : CommandsRun playing.state (commands_from x (k + 1) (suc (count - (k + 1)))) (reply ∷ rest) end = (next.0, next.2, next_run rest end next.0 run) in
          subst (λ (rs : List Reply). CommandsRun (start MOST_NAMES) (generated seed count) rs end) (sym (append_assoc playing.replies (reply ∷ []) rest))
          (playing.run (reply ∷ rest) end
          (subst (λ n. CommandsRun playing.state (commands_from x (k + 1) n) (reply ∷ rest) end) (sym (one_less count k below)) whole));
      counted = counts playing.replies playing.counted;
    }
  where
    plus_one : (n : ℕ) → n + 1 ≡ suc n
    plus_one n = omega arith

    next_run : (rest : List Reply) (end : State) (s : State)
        → CommandsRun s (commands_from (drawn_command (k + 1) x).1 (k + 1 + 1) (count - (k + 1))) rest end
        → CommandsRun s (commands_from (drawn_command (k + 1) x).1 (suc (k + 1)) (count - (k + 1))) rest end
    next_run rest end s run =
        subst (λ n. CommandsRun s (commands_from (drawn_command (k + 1) x).1 n (count - (k + 1))) rest end) (plus_one (k + 1)) run

-- all commands
pub played_all : (seed count : ℕ) (kept : Kept) (tally : Tally) (x k : ℕ) → count ≤ k → Playing seed count kept tally x k → IsPlayed seed count kept tally
played_all seed count kept tally x k all playing = record {
  replies = playing.replies;
  state = playing.state;
  stands = playing.stands;
  run = subst (λ (rs : List Reply). CommandsRun (start MOST_NAMES) (generated seed count) rs playing.state) (append-nil playing.replies)
      (playing.run [] playing.state
      (subst (λ n. CommandsRun playing.state (commands_from x (k + 1) n) [] playing.state) (none count k all) refl));
  counted = playing.counted;
}
  where
    none : (count k : ℕ) → count ≤ k → 0 ≡ count - k
    none count k all = omega (arith, all)

-- generated commands leave the limits of the start, which no dependency may pass
pub played_within : (seed count : ℕ) (kept : Kept) (tally : Tally) → IsPlayed seed count kept tally → IsWithin kept.graph.levels Main
played_within seed count kept tally played over =
    let strict = generated_strict count seed 1 (start MOST_NAMES) played.state played.replies played.run refl in
    let stands = played.stands.graph.plain in
    stands.valid.main.within strict ((oversized_at kept.graph played.state.plain stands Main).0 over)
