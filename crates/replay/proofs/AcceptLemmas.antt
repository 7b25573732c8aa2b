-- What `proof` and `load` write is answered `yes` by `check`.
use Rattle.std.proofs.Common.{◌≡◌, ℕ, ◌<◌, ◌≤◌, false, true, List, [], ◌∷◌, ◌++◌, Bool, cond, ◌+◌, length, refl, sym, ap, subst, subst₂, ◌∙◌, inl, inr, arith, length-append, append-nil, true≢false, Option, None, Some}
use Rattle.std.specs.Prelude.{◌↔◌, ◌⊎◌, ◌==◌, Contains}
use Rattle.std.specs.List.{zip}
use Rattle.std.proofs.lemmas.Option.{same_Some}
use Rattle.lists.proofs.Entries.{Contains-cases, Contains-head, Contains-later, none_in_empty}
use Rattle.outside.specs.Transfers.{AppendsFront}
use Rattle.graphs.specs.declared.names.Level.{Level}
use Rattle.graphs.specs.declared.names.Level.TheVariants.{Main, Top}
use Rattle.graphs.specs.Certificates.{Part, Finding, Certified, NoGraph, NoOrder, NoFalling, NoFlow, Finds}
use Rattle.graph_model.specs.Words.{spaced}
use Rattle.graph_model.specs.Lines.{Cut, Means, Says, with_last, without_return, max_input}
use Rattle.graph_model.specs.Commands.{Command, Proof, words_of}
use Rattle.graph_model.specs.declared.limits.TheConstants.{MAX_COUNT}
use Rattle.graph_model.specs.Limits.{AreInRange, default_limits}
use Rattle.graph_model.specs.Dumps.{DumpText, Loads, FindsLoad}
use Rattle.graph_model.specs.Loads.{LoadWrites}
use Rattle.graph_model.specs.States.{PlainState, State, level_of, pick_of, start}
use Rattle.graph_model.specs.Validity.{IsValidState}
use Rattle.graph_model.specs.Answers.{ProvesOrder}
use Rattle.graph_model.specs.declared.names.Refusal.TheVariants.{Oversized}
use Rattle.graph_model.specs.Replies.{Reply, Proves, Refused, text_of}
use Rattle.graph_model.specs.Steps.{Step}
use Rattle.graph_model.specs.Runs.{Answer, Silence, TooLong, Unread, Replies, answer_text, LineStep, Run}
use Rattle.graph_model.specs.Texts.{Text, Verification, NoSyntax, Found, Verifies, text_lines, verification_text}
use Rattle.replay.specs.declared.session.TheConstants.{MOST_NAMES}
use Rattle.graph_model.proofs.ProofLemmas.{proofs_are_certificates}
use Rattle.graph_model.proofs.StepLemmas.{steps_keep_valid}
use Rattle.graph_model.proofs.LimitLemmas.{line_most, line_strict}
use Rattle.graph_model.proofs.LoadLemmas.{loads_prove}
use Rattle.graph_model.proofs.SoundLemmas.{line_valid}
use Rattle.graph_model.proofs.ValidLemmas.{top_level}
use Rattle.graph_model.specs.Oversize.{IsOversized}
use Rattle.wire.proofs.CommandLemmas.{one_command}
use Rattle.wire.proofs.CutLemmas.{one_cut}
use Rattle.wire.proofs.TextLemmas.{text_same}
use Rattle.replay.specs.declared.input.End.TheVariants.{Told, Limit}
use Rattle.replay.specs.declared.top.Status.{Status}
use Rattle.replay.specs.declared.top.Status.TheVariants as statuses
use Rattle.replay.specs.Inputs.{ReadsTo}
use Rattle.replay.specs.Statuses.{EndsWell}
use Rattle.replay.specs.Checks.{Checks}
use Rattle.verification.specs.Verdicts.{IsVerified}
use Rattle.replay.specs.CheckLaws.{SaysYes, AreAccepted, CheckAcceptsProofs, SetStrictly}
use Rattle.replay.proofs.FeedLemmas.{text_cut}

-- ---- what is said of lines that are a certificate

one_finding : (text : Text) (finding : Finding) → Finds text.txs text.edges text.parts Certified
    → Finds text.txs text.edges text.parts finding → finding ≡ Certified
one_finding text Certified certified other = refl
one_finding text NoGraph certified none = absurd (none certified.0)
one_finding text NoOrder certified none = absurd (none.1 certified.1)
one_finding text NoFalling certified none = absurd (none.2 certified.2)
one_finding text NoFlow certified none = absurd (none.3 certified.3)

one_verification : (lines : List (List ℕ)) (said : Verification) → Verifies lines (Found Certified) → Verifies lines said → said ≡ Found Certified
one_verification lines NoSyntax (text, is, found) none = absurd (none text is)
one_verification lines (Found finding) (text, is, found) (other, spelled, finds) =
    let same : other ≡ text = text_same lines other text spelled is in
    ap Found (one_finding text finding found (subst (λ (t : Text). Finds t.txs t.edges t.parts finding) same finds))

-- bytes that are cut into such lines
cut_said : (bytes : List ℕ) (lines : List (List ℕ)) → Cut bytes lines [] → Verifies lines (Found Certified) → (said : Verification)
    → IsVerified bytes said ↔ (said ≡ Found Certified)
cut_said bytes lines cut certified said = (
  λ verified.
      let own = one_cut bytes in
      let same : verified.lines ≡ lines = (own.3 verified.lines verified.rest verified.cut).0 ∙ sym (own.3 lines [] cut).0 in
      let none : verified.rest ≡ [] = (own.3 verified.lines verified.rest verified.cut).1 ∙ sym (own.3 lines [] cut).1 in
      let read : with_last verified.lines verified.rest ≡ lines = (λ i. with_last (same i) (none i)) in
      one_verification lines said certified (subst (λ (ls : List (List ℕ)). Verifies ls said) read verified.verifies),
  λ is. record { lines = lines; rest = []; cut = cut; verifies = subst (Verifies lines) (sym is) certified },
)

-- ---- what `check` writes then

-- a source that was read to its end gave all its bytes
whole_read : (bytes input : List ℕ) (left : Option (List ℕ)) → ReadsTo Told (Some bytes) left input → input ≡ bytes
whole_read bytes input None read = absurd read.0
whole_read bytes input (Some rest) read = sym (read.0 ∙ ap (λ (xs : List ℕ). input ++ xs) read.1 ∙ append-nil input)

-- past the limit there are more bytes than may be read
past_limit : (bytes input : List ℕ) (left : Option (List ℕ)) → ReadsTo Limit (Some bytes) left input → max_input < length bytes
past_limit bytes input None read = absurd read.3
past_limit bytes input (Some rest) read =
    omega (arith, read.1, read.4, ap length read.3, length-append (input ++ read.0) rest, length-append input read.0)

module _ {K : Type 0} (written : K → Option (List ℕ)) (bytes : List ℕ) (said : (s : Verification) → IsVerified bytes s ↔ (s ≡ Found Certified))
    (short : length bytes ≤ max_input) where
  read_said : (s : Verification) (input : List ℕ) (left : Option (List ℕ)) → ReadsTo Told (Some bytes) left input → IsVerified input s
      → s ≡ Found Certified
  read_said s input left read verified = (said s).0 (subst (λ (xs : List ℕ). IsVerified xs s) (whole_read bytes input left read) verified)

  says_yes : (status : Status) (left : Option (List ℕ)) (old new : K) → Checks status (Some bytes) left written old new → SaysYes status written old new
  says_yes statuses.Done left old new checked = checked.written
  says_yes statuses.No left old new (s, other, checked) = absurd (other (read_said s checked.input left checked.read checked.verified))
  says_yes statuses.Usage left old new checked = checked
  says_yes statuses.ReadFault left old new checked = checked.1
  says_yes statuses.WriteFault left old new checked =
      let same : checked.said ≡ Found Certified = read_said checked.said checked.input left checked.read checked.verified in
      subst (λ (s : Verification). AppendsFront (written old) (written new) (verification_text s)) same checked.front
  says_yes statuses.NoMemory left old new checked = checked
  says_yes statuses.InputLimit left old new checked =
      absurd (let more : max_input < length bytes = past_limit bytes checked.0.input left checked.0.read in omega (arith, more, short))

-- without a fault, that is with Done, or for want of memory
ends_well : {K : Type 0} (written : K → Option (List ℕ)) (status : Status) (old new : K) → SaysYes status written old new → EndsWell status
    → (status ≡ statuses.Done) ⊎ (status ≡ statuses.NoMemory)
ends_well written statuses.Done old new says well = inl refl
ends_well written statuses.No old new says well = absurd says
ends_well written statuses.Usage old new says well = absurd says
ends_well written statuses.ReadFault old new says well = absurd well
ends_well written statuses.WriteFault old new says well = absurd well
ends_well written statuses.NoMemory old new says well = inr refl
ends_well written statuses.InputLimit old new says well = absurd says

accepted : {K : Type 0} (written : K → Option (List ℕ)) (text : Text) → Verifies (text_lines text) (Found Certified)
    → AreAccepted written (text_of (Proves text))
accepted written text certified =
    let bytes : List ℕ = text_of (Proves text) in
    let only = cut_said bytes (text_lines text) (text_cut text) certified in
    record {
      said = only;
      answered = λ short status left old new checked.
          let says = says_yes written bytes only short status left old new checked in (says, ends_well written status old new says);
    }

-- ---- one step

-- where the level isn't oversized `proof` is never refused, and its reply is a text that proves the level's order
proof_reply : (old new : State) (level : Level) (reply : Reply) → (IsOversized old.plain level → ⊥) → Step old (Proof level) reply new
    → (pick : List Part) × (text : Text) × (pick_of old.picks level ≡ Some pick)
    × ProvesOrder old.plain.table (level_of old.plain level) pick text × (reply ≡ Proves text)
proof_reply old new level reply fits step = elim step [
  | inl refused ↦ absurd (elim refused.first [
    | inl over ↦ fits over.0
    | inr rest ↦ (let none : Some refused.why ≡ None = rest.1 in cc)
  ])
  | inr rest ↦ elim rest [
    | inl want ↦ elim want [ inl lacks ↦ absurd lacks.may | inr gives ↦ absurd gives.may ]
    | inr fine ↦ fine.accepts.plain.answer
  ]
]

-- a valid state, where a cluster may be allowed at most as many names as any graph can allow it
record MayProve (state : State) : Type 0 where
  valid : IsValidState state
  wide : state.plain.most ≤ MAX_COUNT

-- the text of a proof there is accepted
step_accepted : {K : Type 0} (written : K → Option (List ℕ)) (old new : State) (level : Level) (reply : Reply) → MayProve old
    → (IsOversized old.plain level → ⊥) → Step old (Proof level) reply new → AreAccepted written (text_of reply)
step_accepted written old new level reply may fits step =
    let (pick, text, picked, proves, is) = proof_reply old new level reply fits step in
    subst (λ (r : Reply). AreAccepted written (text_of r)) (sym is)
    (accepted written text (proofs_are_certificates old level pick text may.wide may.valid picked proves))

-- ---- runs

line_proves : (old new : State) (line : List ℕ) (answer : Answer) → MayProve old → LineStep old line answer new → MayProve new
line_proves old new line answer may step = record {
  valid = line_valid old new line answer may.valid step;
  wide = subst (λ m. m ≤ MAX_COUNT) (sym (line_most old new line answer step)) may.wide;
}

-- a line is at most one byte longer than it is without a carriage return at its end
one_longer : (line : List ℕ) → length line ≤ length (without_return line) + 1
one_longer [] = omega arith
one_longer (byte ∷ []) = by (byte == 13)
  where
    by : (return : Bool) → length (byte ∷ []) ≤ length (cond return [] (byte ∷ [])) + 1
    by true = omega arith
    by false = omega arith
one_longer (byte ∷ next ∷ bytes) =
    let rest : length (next ∷ bytes) ≤ length (without_return (next ∷ bytes)) + 1 = one_longer (next ∷ bytes) in omega (arith, rest)

proof_short : (level : Level) → length (spaced (words_of (Proof level))) ≤ 10
proof_short Main = omega arith
proof_short Top = omega arith

-- `proof` is refused where the level is oversized, and else its reply is accepted
step_answered : {K : Type 0} (written : K → Option (List ℕ)) (old new : State) (level : Level) (reply : Reply) → MayProve old
    → Step old (Proof level) reply new → (reply ≡ Refused Oversized) ⊎ AreAccepted written (text_of reply)
step_answered written old new level reply may step = elim step [
  | inl refused ↦ elim refused.first [
    | inl over ↦ inl (refused.told ∙ ap Refused (same_Some refused.why Oversized over.1))
    | inr rest ↦ absurd (let none : Some refused.why ≡ None = rest.1 in cc)
  ]
  | inr rest ↦ elim rest [
    | inl want ↦ elim want [ inl lacks ↦ absurd lacks.may | inr gives ↦ absurd gives.may ]
    | inr fine ↦ elim fine.none [
      | inl over ↦ absurd (let some : None ≡ Some Oversized = over.1 in cc)
      | inr fits ↦ inr (step_accepted written old new level reply may fits.0 (inr (inr fine)))
    ]
  ]
]

line_accepted : {K : Type 0} (written : K → Option (List ℕ)) (old new : State) (line : List ℕ) (level : Level) (answer : Answer) → MayProve old
    → Means line (Says (Proof level)) → LineStep old line answer new
    → (answer ≡ Replies (Refused Oversized)) ⊎ AreAccepted written (answer_text answer)
line_accepted written old new line level Silence may means step = absurd (true≢false (sym step.1 ∙ means.0))
line_accepted written old new line level TooLong may means step =
    absurd (omega (arith, step.0, one_longer line, ap length means.1.0, proof_short level))
line_accepted written old new line level Unread may means step = absurd (step.1.1 (Proof level) means.1)
line_accepted written old new line level (Replies reply) may means (short, command, others, step) =
    let same : command ≡ Proof level = one_command (without_return line) command (Proof level) others.1 means.1 in
    elim (step_answered written old new level reply may (subst (λ (c : Command). Step old c reply new) same step)) [
      | inl refused ↦ inl (ap Replies refused)
      | inr accepted ↦ inr accepted
    ]

-- each line of a run with its answer is a step from such a state
accepted_in : {K : Type 0} (written : K → Option (List ℕ)) (old end : State) (lines : List (List ℕ)) (answers : List Answer) → MayProve old
    → Run old lines answers end → (line : List ℕ) (level : Level) (answer : Answer)
    → Contains (zip lines answers) (line, answer)
    → Means line (Says (Proof level)) → (answer ≡ Replies (Refused Oversized)) ⊎ AreAccepted written (answer_text answer)
accepted_in written old end [] answers may run line level answer here means = absurd (none_in_empty (line, answer) here)
accepted_in written old end (first ∷ lines) [] may run line level answer here means = absurd run
accepted_in written old end (first ∷ lines) (reply ∷ answers) may (next, step, run) line level answer here means =
    elim (Contains-cases (first, reply) (line, answer) (zip lines answers) here) [
      | inl same ↦
          let is : first ≡ line = ap (λ (pair : List ℕ × Answer). pair.0) same in
          let gets : reply ≡ answer = ap (λ (pair : List ℕ × Answer). pair.1) same in
          line_accepted written old next line level answer may means (subst₂ (λ (l : List ℕ) (a : Answer). LineStep old l a next) is gets step)
      | inr later ↦ accepted_in written next end lines answers (line_proves old next first reply may step) run line level answer later means
    ]

-- where no dependency may pass the limits no level is oversized
none_over : (state : State) (level : Level) → IsValidState state → state.plain.limits.defer ≡ false → IsOversized state.plain level → ⊥
none_over state Main valid strict = valid.plain.main.within strict
none_over state Top valid strict = (top_level state.plain valid.plain).within strict

-- so no `proof` is refused for it
never_over : (old new : State) (line : List ℕ) (level : Level) → IsValidState old → old.plain.limits.defer ≡ false
    → Means line (Says (Proof level)) → LineStep old line (Replies (Refused Oversized)) new → ⊥
never_over old new line level valid strict means (short, command, others, step) =
    let same : command ≡ Proof level = one_command (without_return line) command (Proof level) others.1 means.1 in
    elim (subst (λ (c : Command). Step old c (Refused Oversized) new) same step) [
      | inl refused ↦ elim refused.first [
        | inl over ↦ none_over old level valid strict over.0
        | inr rest ↦ (let none : Some refused.why ≡ None = rest.1 in absurd (cc))
      ]
      | inr rest ↦ elim rest [
        | inl want ↦ elim want [ inl lacks ↦ absurd lacks.may | inr gives ↦ absurd gives.may ]
        | inr fine ↦ (let (pick, text, picked, proves, is) = fine.accepts.plain.answer in absurd (cc))
      ]
    ]

-- each line of such a run
strict_in : {K : Type 0} (written : K → Option (List ℕ)) (old end : State) (lines : List (List ℕ)) (answers : List Answer) → MayProve old
    → old.plain.limits.defer ≡ false → SetStrictly lines → Run old lines answers end → (line : List ℕ) (level : Level) (answer : Answer)
    → Contains (zip lines answers) (line, answer) → Means line (Says (Proof level)) → AreAccepted written (answer_text answer)
strict_in written old end [] answers may strict sets run line level answer here means = absurd (none_in_empty (line, answer) here)
strict_in written old end (first ∷ lines) [] may strict sets run line level answer here means = absurd run
strict_in written old end (first ∷ lines) (reply ∷ answers) may strict sets (next, step, run) line level answer here means =
    elim (Contains-cases (first, reply) (line, answer) (zip lines answers) here) [
      | inl same ↦
          let is : first ≡ line = ap (λ (pair : List ℕ × Answer). pair.0) same in
          let gets : reply ≡ answer = ap (λ (pair : List ℕ × Answer). pair.1) same in
          let this : LineStep old line answer next = subst₂ (λ (l : List ℕ) (a : Answer). LineStep old l a next) is gets step in
          elim (line_accepted written old next line level answer may means this) [
            | inl over ↦ absurd (never_over old next line level may.valid strict means (subst (λ (a : Answer). LineStep old line a next) over this))
            | inr accepted ↦ accepted
          ]
      | inr later ↦
          strict_in written next end lines answers (line_proves old next first reply may step)
          (line_strict old next first reply (λ bounds. sets first bounds (Contains-head first lines)) step strict)
          (λ other bounds there. sets other bounds (Contains-later first other lines there)) run line level answer later means
    ]

-- ---- a text that `load` accepts

-- the state that it makes is valid, and its limits are those at the start
load_accepted : {K : Type 0} (written : K → Option (List ℕ)) (bytes out : List ℕ) (text : DumpText) → FindsLoad default_limits bytes (Loads text)
    → LoadWrites MOST_NAMES default_limits (Loads text) out → AreAccepted written out
load_accepted written bytes out text found (state, reply, to, step, is) =
    let in_range : AreInRange MOST_NAMES default_limits = record {
      count_low = omega arith;
      count_high = omega arith;
      size_low = omega arith;
      size_high = omega arith;
      total_low = omega arith;
      total_high = omega arith;
    } in
    let valid : IsValidState state = loads_prove.valid MOST_NAMES default_limits bytes text state in_range found to in
    let most : state.plain.most ≡ MOST_NAMES = ap (λ (s : PlainState). s.most) to.plain.same in
    let strict : state.plain.limits.defer ≡ false = ap (λ (s : PlainState). s.limits.defer) to.plain.same in
    subst (λ (b : List ℕ). AreAccepted written b) (sym is)
    (step_accepted written state state Main reply (record { valid = valid; wide = omega (arith, most) }) (none_over state Main valid strict) step)

start_proves : MayProve (start MOST_NAMES)
start_proves = record { valid = steps_keep_valid.begins MOST_NAMES (omega arith); wide = omega arith }

pub check_accepts_proofs : {K : Type 0} (written : K → Option (List ℕ)) → CheckAcceptsProofs written
check_accepts_proofs written = record {
  steps = λ old new level reply wide valid. step_accepted written old new level reply (record { valid = valid; wide = wide });
  runs = λ lines answers end run. accepted_in written (start MOST_NAMES) end lines answers start_proves run;
  strict = λ lines answers end run sets. strict_in written (start MOST_NAMES) end lines answers start_proves refl sets run;
  loads = load_accepted written;
}
