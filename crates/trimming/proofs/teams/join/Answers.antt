use Rattle.std.proofs.Common.{◌≡◌, ◌∙◌, ℕ, true, false, List, set, take, get_or, inl, inr, sym, ap, subst, arith}
use Rattle.std.specs.Prelude.{Contains}
use Rattle.std.proofs.lemmas.Bool.{cases_eq}
use Rattle.std.proofs.lemmas.List.{length-set, get_or-set_same, get_or-set_other, take_all}
use Rattle.std.proofs.lemmas.List.Elements.{Contains-get_or}
use Rattle.trimming.proofs.Listing.{list_set_same, list_set_other}
use Rattle.trimming.proofs.Teaming.{not_first, not_last, last_in}
use Rattle.trimming.proofs.teams.join.Goals as goal

pub index_mut-requires : goal.index_mut-requires
index_mut-requires c =
    let low = c.requires.places _ (Contains-get_or c.args.places.now c.loop-member.member-index 0 c.loop-member-test.true) in
    let sized = c.loop-member.invariant.sized.leader in
    omega (arith, low, sized)

pub index_mut-requires-in-loop-member : goal.index_mut-requires-in-loop-member
index_mut-requires-in-loop-member c =
    let low = c.requires.places _ (Contains-get_or c.args.places.now c.loop-member.member-index 0 c.loop-member-test.true) in
    let sized = c.loop-member.invariant.sized.lists in
    omega (arith, low, sized)

pub loop-member-preserved : goal.loop-member-preserved
loop-member-preserved c =
    let places = c.args.places.now in
    let k = c.loop-member.member-index in
    let m : ℕ = get_or places k 0 in
    let inside = c.loop-member-test.true in
    let inv = c.loop-member.invariant in
    let leader = c.loop-member.teams.leader.items in
    let lists = c.loop-member.teams.lists.items in
    let low = c.requires.places m (Contains-get_or places k 0 inside) in
    let sized = inv.sized.leader in
    record {
      sized = record {
        kept = inv.sized.kept;
        leader = length-set leader m c.args.place ∙ inv.sized.leader;
        lists = length-set lists m c.new.result ∙ inv.sized.lists;
      };
      kept = inv.kept;
      inside = λ x here. elim (cases_eq x m) [
        | inl same ↦ ap (λ (q : ℕ). get_or (set leader m c.args.place) q 0) same ∙ get_or-set_same leader m c.args.place 0 (omega (arith, low, sized))
        | inr other ↦ get_or-set_other leader m x c.args.place 0 other ∙ inv.inside x (last_in places k x inside here other)
      ];
      outside = λ x none. get_or-set_other leader m x c.args.place 0 (not_last places k x inside none) ∙ inv.outside x (not_first places k x inside none);
      others = λ x none. list_set_other lists m x c.new.result (not_last places k x inside none) ∙ inv.others x (not_first places k x inside none);
    }

pub index_mut-requires-2 : goal.index_mut-requires-2
index_mut-requires-2 c =
    let low = c.requires.places c.args.place c.requires.place in
    let sized = c.loop-member.invariant.sized.lists in
    omega (arith, low, sized)

pub index_mut-requires-3 : goal.index_mut-requires-3
index_mut-requires-3 c =
    let low = c.requires.places c.args.place c.requires.place in
    let sized = c.loop-member.invariant.sized.kept in
    omega (arith, low, sized)

pub returns : goal.returns
returns c =
    let places = c.args.places.now in
    let place = c.args.place in
    let k = c.loop-member.member-index in
    let inv = c.loop-member.invariant in
    let kept = c.loop-member.teams.kept.items in
    let lists = c.loop-member.teams.lists.items in
    let low = c.requires.places place c.requires.place in
    let one = inv.sized.kept in
    let two = inv.sized.lists in
    let all : take k places ≡ places = take_all k places (omega (arith, c.loop-member-test.false)) in
    record {
      sized = record {
        kept = length-set kept place true ∙ inv.sized.kept;
        leader = inv.sized.leader;
        lists = length-set lists place c.in_ok-team.team ∙ inv.sized.lists;
      };
      kept = λ x. elim (cases_eq x place) [
        | inl same ↦ (
          (λ _. inl same),
          (λ _. ap (λ (q : ℕ). get_or (set kept place true) q false) same ∙ get_or-set_same kept place true false (omega (arith, low, one))),
        )
        | inr other ↦
            let stays = get_or-set_other kept place x true false other ∙ ap (λ (l : List _). get_or l x false) inv.kept in (
              (λ is. inr (sym stays ∙ is)),
              (λ is. elim is [ inl same ↦ absurd (other same) | inr before ↦ stays ∙ before ]),
            )
      ];
      inside = λ x here. inv.inside x (subst (λ (l : List ℕ). Contains l x) (sym all) here);
      outside = λ x none. inv.outside x (λ here. none (subst (λ (l : List ℕ). Contains l x) all here));
      team = list_set_same lists place c.in_ok-team.team (omega (arith, low, two)) ∙ c.in_ok-team.ensures.items;
      others = λ x none.
          list_set_other lists place x c.in_ok-team.team (λ same. none (subst (Contains places) (sym same) c.requires.place))
          ∙ inv.others x (λ here. none (subst (λ (l : List ℕ). Contains l x) all here));
    }
