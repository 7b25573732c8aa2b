use Rattle.std.proofs.Common.{ℕ, List, length, refl, ap, inr, ◌∙◌}
use Rattle.reorg.specs.Kept.{Kept}
use Rattle.desk.specs.Copies.{copied}
use Rattle.desk.proofs.reading.tell_kin.Goals as goal

pub returns : goal.returns
returns c = record {
  same = ap (λ (k : Kept). record c.args.desk.now { pool = k }) c.kin.ensures.same;
  told = inr (
    refl,
    record {
      found = c.in-Ok.found.ids;
      are_kin = c.in-Ok.ensures.kin;
      items = c.show_ids.ensures.items ∙ ap (λ (l : List ℕ). copied l c.args.ids.now) c.ids.ensures;
      count_is = c.show_ids.ensures.count ∙ ap (λ (l : List ℕ). length l) c.ids.ensures;
    },
  );
}
