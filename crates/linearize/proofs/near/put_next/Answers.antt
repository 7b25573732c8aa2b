use Rattle.std.proofs.Common.{rules, ℕ, ◌+◌, ◌*◌, ◌≤◌, ◌≡◌, length, ap, sym, ◌∙◌, Option, None, Some, List, Contains, subst, arith, lit<}
use Rattle.std.proofs.Math.Nat.{mul-le-mul_left}
use Rattle.std.specs.Prelude.{IfSome}
use Rattle.std.specs.Ordering.{nat_cmp}
use Rattle.std.specs.FinSet as fin
use Rattle.lists.proofs.Keys.{set_within}
use Rattle.linearize.specs.declared.old.OldPart.{OldPart}
use Rattle.std.proofs.lemmas.List.{length-map}
use Rattle.graphs.specs.Certificates.{Part}
use Rattle.linearize.specs.declared.draft.LinearPart.{LinearPart}
use Rattle.linearize.specs.Graphs.{sum_from}
use Rattle.linearize.specs.Known.{FillsUp}
use Rattle.linearize.specs.Near.{most_tried}
use Rattle.linearize.proofs.Trials.{solved_behind}
use Rattle.linearize.proofs.Sizes.{words_fit}
use Rattle.linearize.proofs.near.put_next.Goals as goal

pub put_known-requires : goal.put_known-requires
put_known-requires g c =
    let part : OldPart = c.in-Some.part in
    let there = subst (λ (ps : List OldPart). Contains ps part) c.as_slice.ensures.value c.in-Some.ensures.there in
    let long : length c.as_slice-2.result.now ≡ length c.args.guess.now.places.items = ap length c.as_slice-2.ensures.value in (
      search rules,
      (
        words_fit g.row.W c.requires.narrow,
        (
          lit< tt,
          (
            c.requires.narrow,
            (
              c.requires.begun,
              (
                c.requires.known,
                ((there, c.in-Some.ensures.known), ((c.in-Some.ensures.places.0, (let end = c.in-Some.ensures.places.1 in omega (arith, end, long))), c.requires.open)),
              ),
            ),
          ),
        ),
      ),
    )

some_weaker : {X : Type 0} (r : Option X) (P Q : X → Type 0) → IfSome r P → ((x : X) → P x → Q x) → IfSome r Q
some_weaker None P Q h f = tt
some_weaker (Some x) P Q h f = f x h

wider : (steps most few all : ℕ) → few ≤ all → steps + most * few ≤ steps + most * all
wider steps most few all more = let wide = mul-le-mul_left most more in omega (arith, wide)

pub returns-in-Some-clause-some : goal.returns-in-Some-clause-some
returns-in-Some-clause-some g c =
    some_weaker c.put_known.result (λ all. fin.len c.args.done.now ≤ fin.len all)
    (λ (all : fin.FinSet nat_cmp). c.args.steps.now + most_tried (fin.len c.args.members.now) * fin.len c.args.done.now
    ≤ c.args.steps.now + most_tried (fin.len c.args.members.now) * fin.len all) c.put_known.ensures.more
    (λ all more. wider c.args.steps.now (most_tried (fin.len c.args.members.now)) (fin.len c.args.done.now) (fin.len all) more)

pub returns-in-Some-clause-none : goal.returns-in-Some-clause-none
returns-in-Some-clause-none g c =
    wider c.args.steps.now (most_tried (fin.len c.args.members.now)) (fin.len c.args.done.now) (fin.len c.args.members.now)
    (set_within c.args.done.now c.args.members.now c.requires.begun.inside)

pub returns-clause-extends : goal.returns-clause-extends
returns-clause-extends g c =
    let long : length c.parts.result.now ≡ length c.put_tried.new.draft.parts =
    sym (length-map c.parts.result.now (λ (part : LinearPart). sum_from part.rate)) ∙ ap length c.parts.ensures.rates
    ∙ length-map c.put_tried.new.draft.parts (λ (part : Part). part.rate) in
    solved_behind (64 * g.row.W) c.args.dep.now c.args.guess.now.parts.items c.args.guess.now.places.items c.args.members.now c.args.done.now
    c.args.group.now.places c.args.draft.now c.put_tried.new.draft c.args.froms.now.items c.fill_up.new.froms.items c.in_ok-all.all
    c.in_ok-all.ensures.solved c.requires.even
    (subst (λ (k : ℕ). FillsUp k c.args.froms.now.items c.fill_up.new.froms.items) long (c.fill_up.ensures c.if-not-fill_up.false))
