-- Lines that are answered as they come.
use Rattle.std.proofs.Common.{◌≡◌, ◌≢◌, ℕ, ◌+◌, ◌*◌, ◌≤◌, ◌⊎◌, inl, inr, false, true, List, [], ◌∷◌, ◌++◌, length, Option, refl, sym, ap, subst, ◌∙◌, arith, append_assoc, append-nil, length-append}
use Rattle.std.specs.Prelude.{flat_map, All}
use Rattle.std.proofs.lemmas.List.Elements.{All-nil, All-push}
use Rattle.std.specs.Io.KnownBytes.{Appends}
use Rattle.std.proofs.KnownBytes.{Consumes-nil, Appends-nil}
use Rattle.outside.specs.Transfers.{AppendsFront}
use Rattle.graph_model.specs.States.{State, start}
use Rattle.replay.specs.declared.session.TheConstants.{MOST_NAMES}
use Rattle.graph_model.specs.Words.{line_text}
use Rattle.graph_model.specs.Lines.{IsOneLine, Cut, with_last, max_input}
use Rattle.graph_model.specs.Runs.{Answer, Run, LineStep, MayWrite, answer_text}
use Rattle.graph_model.proofs.RunLemmas.{run-append}
use Rattle.reorg.specs.Kept.{Kept, StandsFor}
use Rattle.replay.specs.declared.input.End.TheVariants.{Told, Fault, Limit}
use Rattle.replay.specs.declared.lines.Stage.{Stage}
use Rattle.replay.specs.declared.lines.Stage.TheVariants.{Open, Ended, Past}
use Rattle.replay.specs.Cutters.{Cutter}
use Rattle.replay.specs.declared.session.Piece.{Piece}
use Rattle.replay.specs.declared.session.Piece.TheVariants.{Whole, TooLong}
use Rattle.replay.specs.declared.lines.Next.{Next}
use Rattle.replay.specs.declared.lines.Next.TheVariants as next
use Rattle.replay.specs.Cuts.{Leaves, TakesTo, Reads, GivesLine, GivesNext, IsPiece}
use Rattle.replay.specs.Gatherings.{HasSent, Sends}
use Rattle.mempool.specs.Pools.{most_raised}
use Rattle.replay.specs.Sessions.{Answers, IsLine}
use Rattle.replay.specs.Outputs.{BeginsWith, AreFirst, IsOutput}
use Rattle.replay.specs.Statuses.{IsAnswered, IsCutOff}
use Rattle.replay.proofs.CutLemmas.{read_more}
use Rattle.replay.proofs.GatherLemmas.{sent_nothing, sent_on, sent_more_of, sent_all, sent_front}

-- The lines given so far are those of the input before the rest, or all lines at the end of the source.
abbrev pub AreGiven : Stage → List ℕ → List (List ℕ) → List ℕ → Type 0
AreGiven stage input lines rest = ((input ≡ flat_map line_text lines ++ rest) × All IsOneLine lines)
    ⊎ ((stage ≡ Ended) × (rest ≡ []) × (all : List (List ℕ)) × (last : List ℕ) × Cut input all last × (lines ≡ with_last all last))

-- So far lines of the input were answered from the start. Of the replies some went out, and the rest is held.
pub record Played (kept : Kept) (cutter : Cutter) (held : List ℕ) (left now first written : Option (List ℕ)) : Type 0 where
  pub input : List ℕ
  pub rest : List ℕ
  pub lines : List (List ℕ)
  pub answers : List Answer
  pub state : State
  pub stands : StandsFor kept state
  pub run : Run (start MOST_NAMES) lines answers state
  pub read : TakesTo Open cutter.stage left now input cutter.taken
  pub taken : cutter.taken ≡ length input
  pub leaves : Leaves cutter rest
  pub given : AreGiven cutter.stage input lines rest
  pub sent : HasSent first written (flat_map answer_text answers) held
  pub few : kept.graph.levels.issued + 32766 * length rest ≤ 32766 * length input

-- before the first line
pub played_nothing : (kept : Kept) (cutter : Cutter) (held : List ℕ) (left first : Option (List ℕ)) → StandsFor kept (start MOST_NAMES) → kept.graph.levels.issued ≡ 0
    → cutter.held ≡ [] → cutter.long ≡ false → cutter.taken ≡ 0 → cutter.stage ≡ Open → held ≡ [] → Played kept cutter held left left first first
played_nothing kept cutter held left first stands added none short taken going empty = record {
  input = [];
  rest = [];
  lines = [];
  answers = [];
  state = start MOST_NAMES;
  stands = stands;
  run = refl;
  read = subst (λ (s : Stage). TakesTo Open s left left [] cutter.taken) (sym going) (Consumes-nil left);
  taken = taken;
  leaves = rw (short, none) refl;
  given = inl (refl, All-nil IsOneLine);
  sent = subst (λ (xs : List ℕ). HasSent first first [] xs) (sym empty) (sent_nothing first);
  few = omega (arith, added);
}

-- ---- what went out
pub played_sent : (kept : Kept) (cutter : Cutter) (held less : List ℕ) (left now first before written : Option (List ℕ))
    → Played kept cutter held left now first before → Sends before written held less → Played kept cutter less left now first written
played_sent kept cutter held less left now first before written played sends =
    record {
      input = played.input;
      rest = played.rest;
      lines = played.lines;
      answers = played.answers;
      state = played.state;
      stands = played.stands;
      run = played.run;
      read = played.read;
      taken = played.taken;
      leaves = played.leaves;
      given = played.given;
      sent = sent_more_of first before written (flat_map answer_text played.answers) held less played.sent sends;
      few = played.few;
    }

-- ---- what was read
pub given_more : (old new : Stage) (a b : Option (List ℕ)) (input more rest : List ℕ) (lines : List (List ℕ)) (taken : ℕ)
    → AreGiven old input lines rest → TakesTo old new a b more taken → AreGiven new (input ++ more) lines (rest ++ more)
given_more old new a b input more rest lines taken (inl given) takes =
    inl (ap (λ (xs : List ℕ). xs ++ more) given.0 ∙ append_assoc (flat_map line_text lines) rest more, given.1)
given_more Open new a b input more rest lines taken (inr given) takes = absurd (let e = given.0 in cc)
given_more Past new a b input more rest lines taken (inr given) takes = absurd (let e = given.0 in cc)
given_more Ended new a b input more rest lines taken (inr given) takes = inr (
  takes.0,
  ap (λ (xs : List ℕ). rest ++ xs) takes.2 ∙ append-nil rest ∙ given.1,
  given.2,
  given.3,
  subst (λ (xs : List ℕ). Cut xs given.2 given.3) (sym (ap (λ (xs : List ℕ). input ++ xs) takes.2 ∙ append-nil input)) given.4,
  given.5,
)

-- ---- a line is answered
flat_map-push : {A : Type 0} (f : A → List ℕ) (xs : List A) (x : A) → flat_map f (xs ++ x ∷ []) ≡ flat_map f xs ++ f x
flat_map-push f [] x = append-nil (f x)
flat_map-push f (y ∷ xs) x = ap (λ (bytes : List ℕ). f y ++ bytes) (flat_map-push f xs x) ∙ sym (append_assoc (f y) (flat_map f xs) (f x))

with_some : (lines : List (List ℕ)) (line : List ℕ) → line ≢ [] → with_last lines line ≡ lines ++ line ∷ []
with_some lines [] some = absurd (some refl)
with_some lines (byte ∷ line) some = refl

-- the rest behind a line that was given
record Behind (new : Cutter) (input rest : List ℕ) (lines : List (List ℕ)) (line : List ℕ) : Type 0 where
  after : List ℕ
  leaves : Leaves new after
  given : AreGiven new.stage input (lines ++ line ∷ []) after
  fewer : length after + 1 ≤ length rest

behind : (new : Cutter) (input rest : List ℕ) (lines : List (List ℕ)) (line : List ℕ)
    → AreGiven new.stage input lines rest → GivesLine new rest line → Behind new input rest lines line
behind new input rest lines line (inl given) (one, inl cut) = record {
  after = cut.0;
  leaves = cut.2;
  given = inl (
    given.0 ∙ ap (λ (xs : List ℕ). flat_map line_text lines ++ xs) (cut.1 ∙ sym (append_assoc line (10 ∷ []) cut.0))
        ∙ sym (append_assoc (flat_map line_text lines) (line ++ 10 ∷ []) cut.0) ∙ ap (λ (xs : List ℕ). xs ++ cut.0) (sym (flat_map-push line_text lines line)),
    All-push IsOneLine lines line given.1 one,
  );
  fewer = omega (arith, ap length cut.1, length-append line (10 ∷ cut.0));
}
behind new input rest lines line (inl given) (one, inr last) = record {
  after = [];
  leaves = last.3;
  given = inr (
    last.0,
    refl,
    lines,
    line,
    record { whole = given.0 ∙ ap (λ (xs : List ℕ). flat_map line_text lines ++ xs) last.1; each = given.1; last = one },
    sym (with_some lines line last.2),
  );
  fewer = some_of rest line last.1 last.2;
}
  where
    some_of : (rest line : List ℕ) → rest ≡ line → line ≢ [] → 0 + 1 ≤ length rest
    some_of rest [] is some = absurd (some refl)
    some_of rest (byte ∷ line) is some = omega (arith, ap length is)
behind new input rest lines line (inr given) (one, inl cut) = absurd (omega (arith, ap length cut.1, ap length given.1, length-append line (10 ∷ cut.0)))
behind new input rest lines line (inr given) (one, inr last) = absurd (last.2 (sym last.1 ∙ given.1))

-- the run goes on by one line
one_more : (lines : List (List ℕ)) (answers : List Answer) (state next : State) (line : List ℕ) (answer : Answer)
    → Run (start MOST_NAMES) lines answers state → LineStep state line answer next → Run (start MOST_NAMES) (lines ++ line ∷ []) (answers ++ answer ∷ []) next
one_more lines answers state next line answer run step =
    run-append LineStep (start MOST_NAMES) state next lines (line ∷ []) answers (answer ∷ []) run (next, step, refl)

-- a line was given behind those that were answered
pub record Turn (kept : Kept) (cutter new : Cutter) (held : List ℕ) (left before now first written : Option (List ℕ)) (line : List ℕ) : Type 0 where
  pub played : Played kept cutter held left before first written
  pub more : List ℕ
  pub reads : Reads cutter new before now more
  pub gives : GivesLine new (played.rest ++ more) line

pub played_line : (kept next : Kept) (cutter new : Cutter) (held left_held line : List ℕ)
    (left before now first sent written : Option (List ℕ)) (answer : Answer)
    → Turn kept cutter new held left before now first sent line → Answers kept next line answer
    → HasSent sent written (held ++ answer_text answer) left_held
    → next.graph.levels.issued ≤ kept.graph.levels.issued + most_raised → Played next new left_held left now first written
played_line kept next cutter new held left_held line left before now first sent written answer turn answers tells added =
    let played = turn.played in
    let more = turn.more in
    let reads = turn.reads in
    let given = given_more cutter.stage new.stage before now played.input more played.rest played.lines new.taken played.given reads.takes in
    let rest = behind new (played.input ++ more) (played.rest ++ more) played.lines line given turn.gives in
    let step = answers played.state played.stands in
    record {
      input = played.input ++ more;
      rest = rest.after;
      lines = played.lines ++ line ∷ [];
      answers = played.answers ++ answer ∷ [];
      state = step.0;
      stands = step.1;
      run = one_more played.lines played.answers played.state step.0 line answer played.run step.2;
      read = read_more cutter.stage new.stage left before now played.input more cutter.taken new.taken played.read reads.takes reads.taken;
      taken = omega (arith, reads.taken, played.taken, length-append played.input more);
      leaves = rest.leaves;
      given = rest.given;
      sent = subst (λ (all : List ℕ). HasSent first written all left_held) (sym (flat_map-push answer_text played.answers answer))
          (sent_on first sent written (flat_map answer_text played.answers) held (answer_text answer) left_held played.sent tells);
      few = omega (arith, played.few, added, rest.fewer, length-append played.input more, length-append played.rest more);
    }

-- ---- what was read and answered
pub record Got (stage : Stage) (left now : Option (List ℕ)) : Type 0 where
  pub input : List ℕ
  pub rest : List ℕ
  pub lines : List (List ℕ)
  pub answers : List Answer
  pub state : State
  pub count : ℕ
  pub run : Run (start MOST_NAMES) lines answers state
  pub read : TakesTo Open stage left now input count
  pub taken : count ≡ length input
  pub within : count ≤ max_input
  pub given : AreGiven stage input lines rest

abbrev pub got_of : (kept : Kept) (cutter : Cutter) (held : List ℕ) (left now first written : Option (List ℕ))
    → Played kept cutter held left now first written → cutter.taken ≤ max_input → Got cutter.stage left now
got_of kept cutter held left now first written played within = record {
  input = played.input;
  rest = played.rest;
  lines = played.lines;
  answers = played.answers;
  state = played.state;
  count = cutter.taken;
  run = played.run;
  read = played.read;
  taken = played.taken;
  within = within;
  given = played.given;
}

begins : {X : Type 0} (input rest : List ℕ) (lines : List (List ℕ))
    → ((input ≡ flat_map line_text lines ++ rest) × All IsOneLine lines) ⊎ X → (X → ⊥) → BeginsWith input lines
begins input rest lines (inl given) none = record { after = rest; whole = given.0; each = given.1 }
begins input rest lines (inr given) none = absurd (none given)

first_of : (input rest : List ℕ) (lines : List (List ℕ)) → AreGiven Ended input lines rest → AreFirst true input lines
first_of input rest lines (inl given) = inl (record { after = rest; whole = given.0; each = given.1 })
first_of input rest lines (inr given) = inr (given.2, given.3, given.4, given.5)

-- a front of the replies went out
pub cut_off : (stage : Stage) (left now first written : Option (List ℕ)) → (got : Got stage left now)
    → AppendsFront first written (flat_map answer_text got.answers) → IsCutOff left now first written
cut_off Open left now first written got front = record {
  end = Fault;
  input = got.input;
  read = (got.read, omega (arith, got.taken, got.within));
  output = record {
    lines = got.lines;
    first = begins got.input got.rest got.lines got.given (λ last. let e = last.0 in cc);
    text = flat_map answer_text got.answers;
    run = (got.answers, got.state, got.run, refl);
    front = front;
  };
}
cut_off Ended left now first written got front = record {
  end = Told;
  input = got.input;
  read = (got.read.0, got.read.1, omega (arith, got.taken, got.within));
  output = record {
    lines = got.lines;
    first = first_of got.input got.rest got.lines got.given;
    text = flat_map answer_text got.answers;
    run = (got.answers, got.state, got.run, refl);
    front = front;
  };
}
cut_off Past left now first written got front = record {
  end = Limit;
  input = got.input;
  read = (got.read.0, got.read.1, got.read.2, got.read.3, omega (arith, got.taken, got.read.4));
  output = record {
    lines = got.lines;
    first = begins got.input got.rest got.lines got.given (λ last. let e = last.0 in cc);
    text = flat_map answer_text got.answers;
    run = (got.answers, got.state, got.run, refl);
    front = front;
  };
}

cut_of : {X : Type 0} (input rest : List ℕ) (lines : List (List ℕ))
    → ((input ≡ flat_map line_text lines ++ rest) × All IsOneLine lines) ⊎ X → (X → ⊥) → IsOneLine rest → Cut input lines rest
cut_of input rest lines (inl given) none one = record { whole = given.0; each = given.1; last = one }
cut_of input rest lines (inr given) none one = absurd (none given)

output_at_end : (input rest text : List ℕ) (lines : List (List ℕ))
    → AreGiven Ended input lines rest → rest ≡ [] → MayWrite MOST_NAMES lines text → IsOutput true input text
output_at_end input rest text lines (inl given) none run = record {
  lines = lines;
  rest = [];
  cut = record { whole = given.0 ∙ ap (λ (xs : List ℕ). flat_map line_text lines ++ xs) none; each = given.1; last = All-nil (λ byte. byte ≢ 10) };
  run = run;
}
output_at_end input rest text lines (inr given) none run =
    record { lines = given.2; rest = given.3; cut = given.4; run = subst (λ (all : List (List ℕ)). MayWrite MOST_NAMES all text) given.5 run }

-- all went out
pub ended : (stage : Stage) (left now first written : Option (List ℕ)) → (got : Got stage left now) → stage ≡ Ended
    → got.rest ≡ [] → Appends first written (flat_map answer_text got.answers) → IsAnswered Told left now first written
ended Open left now first written got is none out = absurd (cc)
ended Past left now first written got is none out = absurd (cc)
ended Ended left now first written got is none out = record {
  input = got.input;
  read = (got.read.0, got.read.1, omega (arith, got.taken, got.within));
  output = record {
    text = flat_map answer_text got.answers;
    output = output_at_end got.input got.rest (flat_map answer_text got.answers) got.lines got.given none (got.answers, got.state, got.run, refl);
    written = out;
  };
}

pub limited : (stage : Stage) (left now first written : Option (List ℕ)) → (got : Got stage left now) → stage ≡ Past
    → IsOneLine got.rest → Appends first written (flat_map answer_text got.answers) → IsAnswered Limit left now first written
limited Open left now first written got is one out = absurd (cc)
limited Ended left now first written got is one out = absurd (cc)
limited Past left now first written got is one out = record {
  input = got.input;
  read = (got.read.0, got.read.1, got.read.2, got.read.3, omega (arith, got.taken, got.read.4));
  output = record {
    text = flat_map answer_text got.answers;
    output = record {
      lines = got.lines;
      rest = got.rest;
      cut = cut_of got.input got.rest got.lines got.given (λ last. let e = last.0 in cc) one;
      run = (got.answers, got.state, got.run, refl);
    };
    written = out;
  };
}

pub faulted : (stage : Stage) (left now first written : Option (List ℕ)) → (got : Got stage left now) → stage ≡ Open
    → IsOneLine got.rest → Appends first written (flat_map answer_text got.answers) → IsAnswered Fault left now first written
faulted Past left now first written got is one out = absurd (cc)
faulted Ended left now first written got is one out = absurd (cc)
faulted Open left now first written got is one out = record {
  input = got.input;
  read = (got.read, omega (arith, got.taken, got.within));
  output = record {
    text = flat_map answer_text got.answers;
    output = record {
      lines = got.lines;
      rest = got.rest;
      cut = cut_of got.input got.rest got.lines got.given (λ last. let e = last.0 in cc) one;
      run = (got.answers, got.state, got.run, refl);
    };
    written = out;
  };
}

-- ---- a turn in which the text of a line's answer goes out in part
pub line_cut_off : (kept next : Kept) (cutter new : Cutter) (held line : List ℕ) (left before now first sent written : Option (List ℕ)) (answer : Answer)
    → Turn kept cutter new held left before now first sent line → Answers kept next line answer
    → AppendsFront sent written (held ++ answer_text answer) → new.taken ≤ max_input → IsCutOff left now first written
line_cut_off kept next cutter new held line left before now first sent written answer turn answers front within =
    let played = turn.played in
    let more = turn.more in
    let reads = turn.reads in
    let given = given_more cutter.stage new.stage before now played.input more played.rest played.lines new.taken played.given reads.takes in
    let rest = behind new (played.input ++ more) (played.rest ++ more) played.lines line given turn.gives in
    let step = answers played.state played.stands in
    let got : Got new.stage left now = record {
      input = played.input ++ more;
      rest = rest.after;
      lines = played.lines ++ line ∷ [];
      answers = played.answers ++ answer ∷ [];
      state = step.0;
      count = new.taken;
      run = one_more played.lines played.answers played.state step.0 line answer played.run step.2;
      read = read_more cutter.stage new.stage left before now played.input more cutter.taken new.taken played.read reads.takes reads.taken;
      taken = omega (arith, reads.taken, played.taken, length-append played.input more);
      within = within;
      given = rest.given;
    } in
    cut_off new.stage left now first written got
    (subst (λ (all : List ℕ). AppendsFront first written all) (sym (flat_map-push answer_text played.answers answer))
    (sent_front first sent written (flat_map answer_text played.answers) held (answer_text answer) played.sent front))

pub is_line : (piece : Piece) (line : List ℕ) → IsPiece piece line → IsLine piece line
is_line (Whole bytes) line is = is.0
is_line TooLong line is = is

-- a front of what was held went out
pub held_cut_off : (kept : Kept) (cutter : Cutter) (held : List ℕ) (left now first sent written : Option (List ℕ))
    → Played kept cutter held left now first sent → cutter.taken ≤ max_input → AppendsFront sent written held → IsCutOff left now first written
held_cut_off kept cutter held left now first sent written played within front =
    let all = flat_map answer_text played.answers in
    cut_off cutter.stage left now first written (got_of kept cutter held left now first sent played within)
    (subst (λ (text : List ℕ). AppendsFront first written text) (append-nil all)
    (sent_front first sent written all held [] played.sent (subst (λ (text : List ℕ). AppendsFront sent written text) (sym (append-nil held)) front)))

-- ---- a call that gives no line
abbrev pub got_more : (kept : Kept) (cutter new : Cutter) (held : List ℕ) (left before now first sent : Option (List ℕ)) (more : List ℕ)
    → Played kept cutter held left before first sent → Reads cutter new before now more → new.taken ≤ max_input → Got new.stage left now
got_more kept cutter new held left before now first sent more played reads within = record {
  input = played.input ++ more;
  rest = played.rest ++ more;
  lines = played.lines;
  answers = played.answers;
  state = played.state;
  count = new.taken;
  run = played.run;
  read = read_more cutter.stage new.stage left before now played.input more cutter.taken new.taken played.read reads.takes reads.taken;
  taken = omega (arith, reads.taken, played.taken, length-append played.input more);
  within = within;
  given = given_more cutter.stage new.stage before now played.input more played.rest played.lines new.taken played.given reads.takes;
}

pub at_end : (kept : Kept) (cutter new : Cutter) (held : List ℕ) (left before now first sent written : Option (List ℕ))
    → (played : Played kept cutter held left before first sent) → GivesNext cutter new before now played.rest next.End
    → new.taken ≤ max_input → Appends sent written held → IsAnswered Told left now first written
at_end kept cutter new held left before now first sent written played gives within out =
    ended new.stage left now first written (got_more kept cutter new held left before now first sent gives.more played gives.reads within)
    gives.gives.0 gives.gives.1 (sent_all first sent written (flat_map answer_text played.answers) held played.sent out)

pub at_limit : (kept : Kept) (cutter new : Cutter) (held : List ℕ) (left before now first sent written : Option (List ℕ))
    → (played : Played kept cutter held left before first sent) → GivesNext cutter new before now played.rest next.Limit
    → new.taken ≤ max_input → Appends sent written held → IsAnswered Limit left now first written
at_limit kept cutter new held left before now first sent written played gives within out =
    limited new.stage left now first written (got_more kept cutter new held left before now first sent gives.more played gives.reads within)
    gives.gives.0 gives.gives.1 (sent_all first sent written (flat_map answer_text played.answers) held played.sent out)

pub at_fault : (kept : Kept) (cutter new : Cutter) (held : List ℕ) (left before now first sent : Option (List ℕ))
    → (played : Played kept cutter held left before first sent) → GivesNext cutter new before now played.rest next.Fault
    → new.taken ≤ max_input → held ≡ [] → IsAnswered Fault left now first sent
at_fault kept cutter new held left before now first sent played gives within none =
    faulted new.stage left now first sent
    (got_more kept cutter new held left before now first sent gives.more played gives.reads within) gives.gives.0 gives.gives.1
    (sent_all first sent sent (flat_map answer_text played.answers) held played.sent (subst (Appends sent sent) (sym none) (Appends-nil sent)))

pub end_cut_off : (kept : Kept) (cutter new : Cutter) (held : List ℕ) (left before now first sent written : Option (List ℕ)) (answer : Next)
    → (played : Played kept cutter held left before first sent) → GivesNext cutter new before now played.rest answer
    → new.taken ≤ max_input → AppendsFront sent written held → IsCutOff left now first written
end_cut_off kept cutter new held left before now first sent written answer played gives within front =
    let all = flat_map answer_text played.answers in
    cut_off new.stage left now first written (got_more kept cutter new held left before now first sent gives.more played gives.reads within)
    (subst (λ (text : List ℕ). AppendsFront first written text) (append-nil all)
    (sent_front first sent written all held [] played.sent (subst (λ (text : List ℕ). AppendsFront sent written text) (sym (append-nil held)) front)))
