use Rattle.std.proofs.Common.{◌≢◌, ◌⊎◌, ℕ, List, [], ◌++◌, inl, inr, refl, sym, subst, ◌∙◌, append_assoc, append-nil, arith}
use Rattle.graph_model.specs.Lines.{IsOneLine}
use Rattle.replay.specs.declared.lines.Stage.TheVariants.{Open}
use Rattle.replay.specs.Cutters.{Cutter}
use Rattle.replay.specs.Cuts.{Leaves, HasLine}
use Rattle.replay.proofs.CutLemmas.{reads_on, reads_none, ends_one, not_line}
use Rattle.replay.proofs.lines.Lines.find.Goals as goal

pub reads-init : goal.reads-init
reads-init g c = record {
  reads = λ rest leaves. (
    [],
    reads_none c.args.self.now (g.S.Source.left c.args.source.now),
    subst (λ (bytes : List ℕ). Leaves c.args.self.now bytes) (sym (append-nil rest)) leaves,
  );
  same = refl;
  lighter = omega arith;
  still = λ ready. (refl, refl);
}

-- nothing was ready before the loop, if it reads
still_open : (held : List ℕ) {X Y : Type 0} → HasLine held ⊎ X → IsOneLine held → (X → ⊥) → Y
still_open held (inl line) one going = absurd (not_line held one line)
still_open held (inr stopped) one going = absurd (going stopped)

pub reads-preserved : goal.reads-preserved
reads-preserved g c =
    let before = c.reads.invariant in
    let going = c.reads-test.ensures.1 in
    record {
      reads = λ rest leaves.
          let first = before.reads rest leaves in
          let next = c.fill.ensures.reads (rest ++ first.0) first.2 in (
            first.0 ++ next.0,
            reads_on c.args.self.now c.reads.self c.fill.new.self _ _ _ first.0 next.0 first.1 going next.1,
            subst (λ (bytes : List ℕ). Leaves c.fill.new.self bytes) (append_assoc rest first.0 next.0) next.2,
          );
      same = c.in-Ok.ensures.cause.ok ∙ before.same;
      lighter = omega (arith, before.lighter, c.fill.ensures.ahead);
      still = λ ready. still_open c.reads.self.held
          (subst (λ (k : Cutter). HasLine k.held ⊎ (k.stage ≢ Open)) (sym (before.still ready).1) ready) c.reads-test.ensures.0 (λ stopped. stopped going);
    }

pub returns-in-Err-clause-next : goal.returns-in-Err-clause-next
returns-in-Err-clause-next g c rest leaves =
    let first = c.reads.invariant.reads rest leaves in
    let next = c.fill.ensures.reads (rest ++ first.0) first.2 in
    let all = subst (λ (bytes : List ℕ). Leaves c.fill.new.self bytes) (append_assoc rest first.0 next.0) next.2 in (
      first.0 ++ next.0,
      reads_on c.args.self.now c.reads.self c.fill.new.self _ _ _ first.0 next.0 first.1 c.reads-test.ensures.1 next.1,
      (c.in-Err.ensures.err.1, ends_one c.fill.new.self.long c.fill.new.self.held (rest ++ (first.0 ++ next.0)) all c.in-Err.ensures.err.0, all),
    )

pub returns-in-Err-clause-ready : goal.returns-in-Err-clause-ready
returns-in-Err-clause-ready g c ready =
    still_open c.reads.self.held (subst (λ (k : Cutter). HasLine k.held ⊎ (k.stage ≢ Open)) (sym (c.reads.invariant.still ready).1) ready)
    c.reads-test.ensures.0 (λ stopped. stopped c.reads-test.ensures.1)
