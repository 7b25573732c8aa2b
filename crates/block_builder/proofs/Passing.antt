-- What a step past a part does.
use Rattle.std.proofs.Common.{◌≡◌, ◌≢◌, inl, inr, Bool, true, false, true≢false, List, [], ◌∷◌, ◌++◌, map, Contains, Option, Some, None, refl, sym, ap, ◌∙◌, subst, ◌<◌, length, length-append, arith}
use Rattle.std.specs.Prelude.{option_map, option_to_list}
use Rattle.std.proofs.lemmas.List.{map-append, append_assoc}
use Rattle.std.proofs.lemmas.List.Elements.{Contains-append_left, Contains-append_right}
use Rattle.std.proofs.lemmas.Option.{same_Some}
use Rattle.lists.proofs.Cases.{some_none}
use Rattle.lists.proofs.Entries.{Contains-head, first_of, not_empty, map-Contains, Contains-map}
use Rattle.graphs.specs.Certificates.{Part}
use Rattle.graph_model.specs.Blocks.{ShareComponent}
use Rattle.graph_model.specs.States.{State}
use Rattle.cluster_store.specs.Stores.{Shown}
use Rattle.tx_graph.specs.Dropped.{AreOfClusters}
use Rattle.tx_graph.specs.Kept.{Kept, StandsFor}
use Rattle.block_builder.specs.Building.{Building, is_marked, seen, TellsLeftOut, PassesOver, ahead_of, HasPassed, IsOffered, IsOfLeftOut, GoesPast, StepsPast}
use Rattle.block_builder.proofs.Marking.{Entry, shown_in, left_out, left_all, left_none, shown_left_out, Contains-push}

abbrev pub part_of : Shown → Part
part_of s = s.part

seen_left_out : (passed : List Shown) → map seen (left_out passed) ≡ map (λ p. (p, false)) (map part_of passed)
seen_left_out [] = refl
seen_left_out (s ∷ passed) = ap (λ (es : List (Part × Bool)). (s.part, false) ∷ es) (seen_left_out passed)

parts_seen : (gone : List Entry) → map (λ (e : Part × Bool). e.0) (map seen gone) ≡ map part_of (shown_in gone)
parts_seen [] = refl
parts_seen (e ∷ gone) = ap (λ (ps : List Part). e.0.part ∷ ps) (parts_seen gone)

module _ (mark : Bool) (old new : Building) (over : PassesOver new.marks old.ahead new.ahead) (same : new.graph ≡ old.graph)
    (tells : (gone : List Entry) → TellsLeftOut old.marks gone → TellsLeftOut new.marks (gone ++ (over.first, mark) ∷ [])) where
  abbrev s : Shown
  s = over.first

  module _ (past : List (Part × Bool)) (passed : HasPassed old past) where
    one : List Entry
    one = passed.gone ++ (s, mark) ∷ []

    all : List Entry
    all = one ++ left_out over.passed

    cut_is : shown_in passed.gone ++ old.ahead ≡ shown_in all ++ new.ahead
    unfolding all one
    cut_is =
        let first : shown_in one ≡ shown_in passed.gone ++ s ∷ [] = map-append (λ (e : Entry). e.0) passed.gone ((s, mark) ∷ []) in
        let both : shown_in all ≡ (shown_in passed.gone ++ s ∷ []) ++ over.passed =
        map-append (λ (e : Entry). e.0) one (left_out over.passed) ∙ ap (λ ss. ss ++ shown_in (left_out over.passed)) first
        ∙ ap (λ ss. (shown_in passed.gone ++ s ∷ []) ++ ss) (shown_left_out over.passed) in
        ap (λ ss. shown_in passed.gone ++ ss) over.cut ∙ sym (append_assoc (shown_in passed.gone) (s ∷ []) (over.passed ++ new.ahead))
        ∙ sym (append_assoc (shown_in passed.gone ++ s ∷ []) over.passed new.ahead) ∙ ap (λ ss. ss ++ new.ahead) (sym both)

    one_seen : map seen one ≡ past ++ (s.part, mark) ∷ []
    unfolding one
    one_seen = map-append seen passed.gone ((s, mark) ∷ []) ∙ ap (λ (es : List (Part × Bool)). es ++ (s.part, mark) ∷ []) (sym passed.past_is)

    all_seen : (past ++ (s.part, mark) ∷ []) ++ map (λ p. (p, false)) (map part_of over.passed) ≡ map seen all
    unfolding all
    all_seen = sym (map-append seen one (left_out over.passed) ∙ ap (λ (es : List (Part × Bool)). es ++ map seen (left_out over.passed)) one_seen
        ∙ ap (λ (es : List (Part × Bool)). (past ++ (s.part, mark) ∷ []) ++ es) (seen_left_out over.passed))

    numbers : (state : State) → StandsFor old.graph state → AreOfClusters state.plain.main (shown_in all ++ new.ahead)
    numbers state stands = subst (AreOfClusters state.plain.main) cut_is (passed.numbers state stands)

    out_one : TellsLeftOut new.marks one
    unfolding one
    out_one = tells passed.gone passed.left_out

    after : HasPassed new ((past ++ (s.part, mark) ∷ []) ++ map (λ p. (p, false)) (map part_of over.passed))
    unfolding all
    after = record {
      gone = all;
      past_is = all_seen;
      whole = ap (map part_of) (sym cut_is) ∙ passed.whole ∙ ap (λ (k : Kept). k.levels.main.parts) (sym same);
      numbers = λ state stands. numbers state (subst (λ (k : Kept). StandsFor k state) same stands);
      left_out = left_all new.marks one over.passed out_one over.out;
      fresh = over.fresh;
    }

    of_left_out : (state : State) → StandsFor old.graph state → (t : Shown) → Contains over.passed t
        → IsOfLeftOut state.plain.main (past ++ (s.part, mark) ∷ []) t.part
    unfolding all
    of_left_out state stands t here =
        let earlier = (out_one t.number).0 (over.out t here) in
        let u = earlier.0 in
        let in_all : Contains all (u, false) = Contains-append_left one (left_out over.passed) (u, false) earlier.1 in
        let t_all : Contains all (t, false) =
        Contains-append_right one (left_out over.passed) (t, false) (Contains-map (λ (x : Shown). (x, false)) over.passed t here) in
        let shown : (x : Shown) → Contains all (x, false) → Contains (shown_in all ++ new.ahead) x = λ x there.
        Contains-append_left (shown_in all) new.ahead x (Contains-map (λ (e : Entry). e.0) all (x, false) there) in (
          u.part,
          subst (λ (es : List (Part × Bool)). Contains es (u.part, false)) one_seen (Contains-map seen one (u, false) earlier.1),
          (numbers state stands u t (shown u in_all) (shown t t_all)).0 earlier.2,
        )

    goes_past : GoesPast past mark old new
    goes_past = record {
      part = s.part;
      passed = map part_of over.passed;
      ahead = ap (map part_of) over.cut ∙ ap (λ ps. s.part ∷ ps) (map-append part_of over.passed new.ahead);
      skipped = λ state stands p here.
          let t = map-Contains part_of over.passed p here in
          subst (IsOfLeftOut state.plain.main (past ++ (s.part, mark) ∷ [])) t.2 (of_left_out state stands t.0 t.1);
      after = after;
    }

  fewer : length new.ahead < length old.ahead
  fewer =
      let whole = ap length over.cut in
      let parts = length-append over.passed new.ahead in
      omega (arith, whole, parts)

  pub steps_past : StepsPast mark old new
  steps_past = (same, fewer, goes_past)

-- ---- what is offered

parts_first : (o : Option Shown) (rest : List Shown) → map part_of (option_to_list o ++ rest) ≡ option_to_list (option_map part_of o) ++ map part_of rest
parts_first None rest = refl
parts_first (Some s) rest = refl

part_from : (o : Option Shown) (part : Part) → option_map part_of o ≡ Some part → (s : Shown) × (o ≡ Some s) × (s.part ≡ part)
part_from None part is = absurd (some_none part (sym is))
part_from (Some s) part is = (s, refl, same_Some s.part part is)

none_from : (o : Option Shown) → option_map part_of o ≡ None → o ≡ None
none_from None is = refl
none_from (Some s) is = absurd (some_none s.part is)

module _ (b : Building) (past : List (Part × Bool)) (passed : HasPassed b past) (state : State) (stands : StandsFor b.graph state) (o : Option Shown)
    (rest : List Shown) (ahead : b.ahead ≡ option_to_list o ++ rest) (ended : o ≡ None → rest ≡ []) where
  fresh : (part earlier : Part) → option_map part_of o ≡ Some part → Contains past (earlier, false) → ShareComponent state.plain.main earlier part → ⊥
  fresh part earlier is here share =
      let s = part_from o part is in
      let front : b.ahead ≡ s.0 ∷ rest = ahead ∙ ap (λ (x : Option Shown). option_to_list x ++ rest) s.1 in
      let found = map-Contains seen passed.gone (earlier, false) (subst (λ (es : List (Part × Bool)). Contains es (earlier, false)) passed.past_is here) in
      let t = found.0.0 in
      let out : found.0.1 ≡ false = ap (λ (e : Part × Bool). e.1) found.2 in
      let there : Contains (shown_in passed.gone ++ b.ahead) t =
      Contains-append_left (shown_in passed.gone) b.ahead t (Contains-map (λ (e : Entry). e.0) passed.gone found.0 found.1) in
      let next : Contains (shown_in passed.gone ++ b.ahead) s.0 =
      Contains-append_right (shown_in passed.gone) b.ahead s.0 (subst (λ (ss : List Shown). Contains ss s.0) (sym front) (Contains-head s.0 rest)) in
      let both : ShareComponent state.plain.main t.part s.0.part =
      subst (λ (p : Part). ShareComponent state.plain.main p s.0.part) (sym (ap (λ (e : Part × Bool). e.0) found.2))
      (subst (ShareComponent state.plain.main earlier) (sym s.2) share) in
      let number : t.number ≡ s.0.number = (passed.numbers state stands t s.0 there next).1 both in
      let marked = (passed.left_out s.0.number).1 (t, subst (λ was. Contains passed.gone (t, was)) out found.1, number) in
      true≢false (sym marked ∙ passed.fresh s.0 rest front)

  pub is_offered : IsOffered state.plain.main b.graph.levels.main.parts past (option_map part_of o)
  is_offered = record {
    rest = map part_of rest;
    whole = sym passed.whole ∙ map-append part_of (shown_in passed.gone) b.ahead
        ∙ ap (λ ps. ps ++ map part_of b.ahead) (sym (ap (map (λ (e : Part × Bool). e.0)) passed.past_is ∙ parts_seen passed.gone))
        ∙ ap (λ ps. map (λ (e : Part × Bool). e.0) past ++ ps) (ap (map part_of) ahead ∙ parts_first o rest);
    ended = λ none. ap (map part_of) (ended (none_from o none));
    fresh = fresh;
  }

-- ---- the start

pub starts_past : (b : Building) → map part_of b.ahead ≡ b.graph.levels.main.parts
    → ((state : State) → StandsFor b.graph state → AreOfClusters state.plain.main b.ahead) → b.marks ≡ [] → HasPassed b []
starts_past b whole numbers none = record {
  gone = [];
  past_is = refl;
  whole = whole;
  numbers = numbers;
  left_out = subst (λ (ms : List Bool). TellsLeftOut ms []) (sym none) left_none;
  fresh = λ s rest is. ap (λ (ms : List Bool). is_marked ms s.number) none;
}

-- ---- the walk

-- of some parts the rest is left, and those before it are of marked clusters
pub record ArePassed (marks : List Bool) (all rest : List Shown) : Type 0 where
  pub passed : List Shown
  pub cut : all ≡ passed ++ rest
  pub out : (s : Shown) → Contains passed s → is_marked marks s.number ≡ true

pub passed_more : (marks : List Bool) (all rest behind : List Shown) (s : Shown) → ArePassed marks all rest → rest ≡ s ∷ behind
    → is_marked marks s.number ≡ true → ArePassed marks all behind
passed_more marks whole rest behind s are is out = record {
  passed = are.passed ++ s ∷ [];
  cut = are.cut ∙ ap (λ ss. are.passed ++ ss) is ∙ sym (append_assoc are.passed (s ∷ []) behind);
  out = λ t here. elim (Contains-push are.passed s t here) [
    | inl front ↦ are.out t front
    | inr last ↦ subst (λ (u : Shown). is_marked marks u.number ≡ true) last out
  ];
}

-- a walk with a known first part that goes on to another, or to its end
pub goes_on : (marks : List Bool) (old : List Shown) (first : Option Shown) (behind rest left : List Shown) (s : Shown) → old ≡ ahead_of first behind → old ≢ []
    → ArePassed marks behind rest → rest ≡ s ∷ left → is_marked marks s.number ≡ false → PassesOver marks old (s ∷ left)
goes_on marks old None behind rest left s is some are next fresh = absurd (some is)
goes_on marks old (Some f) behind rest left s is some are next fresh = record {
  first = f;
  passed = are.passed;
  cut = is ∙ ap (λ ss. f ∷ ss) (are.cut ∙ ap (λ ss. are.passed ++ ss) next);
  out = are.out;
  fresh = λ t more same. ap (λ (u : Shown). is_marked marks u.number) (sym (first_of same)) ∙ fresh;
}

pub goes_out : (marks : List Bool) (old : List Shown) (first : Option Shown) (behind rest : List Shown) → old ≡ ahead_of first behind → old ≢ []
    → ArePassed marks behind rest → rest ≡ [] → PassesOver marks old []
goes_out marks old None behind rest is some are none = absurd (some is)
goes_out marks old (Some f) behind rest is some are none = record {
  first = f;
  passed = are.passed;
  cut = is ∙ ap (λ ss. f ∷ ss) (are.cut ∙ ap (λ ss. are.passed ++ ss) none);
  out = are.out;
  fresh = λ t more same. absurd (not_empty (sym same));
}
