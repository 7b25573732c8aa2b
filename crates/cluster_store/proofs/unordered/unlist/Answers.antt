-- Another number is listed as it was.
use Rattle.std.proofs.Common.{◌≡◌, ℕ, false, nat_eq, sym, ◌∙◌, subst, true≢false}
use Rattle.std.proofs.lemmas.Bool.{false_from_ne_true}
use Rattle.std.specs.Cmp.{unsigned_Decides}
use Rattle.cluster_store.specs.Kept.{at}
use Rattle.cluster_store.specs.Unordered.{IsUnordered}
use Rattle.cluster_store.proofs.unordered.unlist.Goals as goal

pub returns-then-not-is_unordered-clause-unordered : goal.returns-then-not-is_unordered-clause-unordered
returns-then-not-is_unordered-clause-unordered g c = λ n is listed.
    let other : nat_eq c.args.number n ≡ false =
    false_from_ne_true (nat_eq c.args.number n) (λ same. true≢false (sym (c.if-not-is_unordered.ensures.1
    (subst (λ (m : ℕ). IsUnordered (at c.args.slots.now.slots m)) (sym ((unsigned_Decides c.args.number n).0 same)) is)))) in
    c.swap_remove.ensures.updates.2 n other ∙ listed
