use Rattle.std.proofs.Common.{◌≡◌, ◌∙◌, ◌↔◌, ℕ, ◌∷◌, length, length-append, sym, ap, subst, arith}
use Rattle.std.specs.Prelude.{Contains}
use Rattle.lists.proofs.Entries.{none_in_empty}
use Rattle.graph_model.specs.Limits.{bounds_of}
use Rattle.graph_model.specs.Trims.{kept_of}
use Rattle.graph_model.proofs.TrimLemmas.{Marks}
use Rattle.trimming.specs.Rooms.{IsReady}
use Rattle.trimming.specs.Teams.{AreSized}
use Rattle.trimming.specs.Turns.{IsNext}
use Rattle.trimming.proofs.turns.no_turns.Goals as goal

pub returns : goal.returns
returns c =
    let bounds = bounds_of c.args.limits.now in
    let net = c.args.net.now in
    let teams = c.in_ok-no_teams.field-0 in
    let none = c.in_ok-no_teams.ensures.none in
    let zeros = c.in_ok-first_counts.ensures.passed in
    let one : c.len.result ≡ length net.txs.items = let l = c.len.ensures in omega (arith, l) in
    let two : c.len-2.result ≡ length net.txs.items = let l = c.len-2.ensures in omega (arith, l) in
    let e = c.new.ensures.items in
    record {
      teams_are = record {
        sized = subst (λ (n : ℕ). AreSized n teams) one c.in_ok-no_teams.ensures.sized;
        closed = λ a b up is. absurd (none b is);
        leaders = λ p is. absurd (none p is);
        exact = λ p x is. absurd (none p is);
      };
      room_is = subst (λ (n : ℕ). IsReady n c.in_ok-room_for.field-0) two c.in_ok-room_for.ensures;
      kept = λ p. ((λ is. absurd (none p is)), (λ here. absurd (none_in_empty p (subst (λ (l : Marks). Contains (kept_of l) p) e here))));
      turns = λ before after p mark same.
          absurd (omega (arith, ap length (sym e ∙ same), length-append before ((p, mark) ∷ after)));
      passed = record {
        sized = zeros.0;
        few = λ p low. let zero = zeros.1 p 0 (omega (arith, low, zeros.0)) in omega (arith, zero);
        are = λ p k low early. let zero = zeros.1 p 0 (omega (arith, low, zeros.0)) in absurd (omega (arith, zero, early));
      };
      exact = λ p. subst (λ (l : Marks). Contains c.in_ok-first_counts.field-0.ready.keys p ↔ IsNext net l p) (sym e) (
        (λ here. let is = (c.in_ok-first_counts.ensures.ready p).0 here in record {
          within = is.0;
          fresh = λ looked. none_in_empty p looked;
          parents = λ a up. absurd (is.1 a up);
        }),
        (λ is. (c.in_ok-first_counts.ensures.ready p).1 (is.within, λ a up. none_in_empty a (is.parents a up))),
      );
    }
