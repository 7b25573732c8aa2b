-- One number more is listed where it has to be.
use Rattle.std.proofs.Common.{◌≡◌, ℕ, [], length, true, nat_eq, get_or, sym, ap, ◌∙◌}
use Rattle.indexmap.specs.IndexSet.{contains}
use Rattle.cluster.specs.Clusters.{Cluster}
use Rattle.cluster_store.specs.Stores.{Exchange}
use Rattle.cluster_store.proofs.Lacking.{all_of, none_yet, one_more}
use Rattle.cluster_store.proofs.unordered.list_exchanged.Goals as goal
use Rattle.cluster_store.proofs.unordered.list_exchanged.Goals.{then-part_count-eq0+in_ok-list_number, else-part_count-eq0}

pub loop-at-init : goal.loop-at-init
loop-at-init g c = record {
  others = λ n is. is;
  listed = none_yet (λ (x : Exchange). x.cluster.parts ≡ [] → contains nat_eq c.args.over.now x.number ≡ true) c.args.exchanged.now;
}

pub returns-in_err-list_number-clause-others : goal.returns-in_err-list_number-clause-others
returns-in_err-list_number-clause-others g c = λ n is. c.in_err-list_number.ensures.others n (c.loop-at.invariant.others n is)

pub loop-at-preserved : goal.loop-at-preserved
loop-at-preserved g c =
    let x = c.index-exchanged-at.result in
    let one : x.cluster.parts ≡ [] → c.part_count.result ≡ 0 =
    λ none. c.part_count.ensures ∙ ap (λ (d : Cluster). length d.parts) c.cluster.ensures ∙ ap length none in
    elim c.if-part_count-eq0.branch [
      | then-part_count-eq0+in_ok-list_number w ↦
          let more : (n : ℕ) → contains nat_eq c.loop-at.over n ≡ true → contains nat_eq c.if-part_count-eq0.over n ≡ true =
          λ n is. ap (λ s. contains nat_eq s n) w.over-is ∙ w.in_ok-list_number.ensures.others n is in
          record {
            others = λ n is. more n (c.loop-at.invariant.others n is);
            listed = one_more (λ (y : Exchange). y.cluster.parts ≡ [] → contains nat_eq c.if-part_count-eq0.over y.number ≡ true) c.args.exchanged.now
                c.loop-at.at x c.loop-at-test.true (λ y here none. more y.number (c.loop-at.invariant.listed y here none))
                (λ none. ap (λ s. contains nat_eq s (get_or c.args.exchanged.now c.loop-at.at x).number) w.over-is
                ∙ ap (contains nat_eq w.list_number.new.over) (ap (λ (y : Exchange). y.number) (sym c.index-exchanged-at.is) ∙ sym w.number.ensures)
                ∙ w.in_ok-list_number.ensures.listed);
          }
      | else-part_count-eq0 w ↦
          let more : (n : ℕ) → contains nat_eq c.loop-at.over n ≡ true → contains nat_eq c.if-part_count-eq0.over n ≡ true =
          λ n is. ap (λ s. contains nat_eq s n) w.over-is ∙ is in
          record {
            others = λ n is. more n (c.loop-at.invariant.others n is);
            listed = one_more (λ (y : Exchange). y.cluster.parts ≡ [] → contains nat_eq c.if-part_count-eq0.over y.number ≡ true) c.args.exchanged.now
                c.loop-at.at x c.loop-at-test.true (λ y here none. more y.number (c.loop-at.invariant.listed y here none))
                (λ none. absurd (w.if-part_count-eq0.false (one (ap (λ (y : Exchange). y.cluster.parts) c.index-exchanged-at.is ∙ none))));
          }
    ]

pub returns-clause-others : goal.returns-clause-others
returns-clause-others g c = c.loop-at.invariant.others

pub returns-clause-listed : goal.returns-clause-listed
returns-clause-listed g c =
    all_of (λ (x : Exchange). x.cluster.parts ≡ [] → contains nat_eq c.loop-at.over x.number ≡ true) c.args.exchanged.now c.loop-at.at c.loop-at-test.false
    c.loop-at.invariant.listed
