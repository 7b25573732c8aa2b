use Rattle.std.proofs.Common.{refl, sym, ap, subst, ◌∙◌}
use Rattle.graph_model.specs.Replies.{names_reply}
use Rattle.reorg.specs.Kept.{Kept, MakesStep}
use Rattle.desk.specs.Requests.{search_command}
use Rattle.desk.proofs.CallLemmas.{names_picks, names_code, names_kept}
use Rattle.desk.proofs.reading.tell_found.Goals as goal

pub returns : goal.returns
returns c =
    let finds = c.find-outcome.ensures.finds in
    let r = c.find-outcome.result in
    let same = c.find-outcome.ensures.same in record {
      answers = record {
        reply = names_reply r finds.ids;
        step = subst (λ (k : Kept). MakesStep c.args.desk.now.pool k (search_command c.args.search) (names_reply r finds.ids)) (sym same) finds.step;
        code_is = c.tell.ensures.code ∙ names_code finds.ids r;
        kept_is = c.tell.ensures.kept ∙ names_kept finds.ids r;
        picked = names_picks c.args.desk.now.picked finds.ids r;
        held = refl;
        shows = finds.shows;
      };
      same = ap (λ (k : Kept). record c.args.desk.now { pool = k }) same;
    }
