use Rattle.std.proofs.Common.{◌≡◌, ℕ, List, subst}
use Rattle.graph_model.specs.Replies.{names_reply}
use Rattle.desk.specs.Finds.{ShowsIds}
use Rattle.desk.specs.Requests.{search_command}
use Rattle.std.specs.declared.result.Result.{Result}
use Rattle.graph_model.specs.declared.names.Refusal.{Refusal}
use Rattle.reorg.specs.Kept.{MakesStep}
use Rattle.std.proofs.Common.{sym}
use Rattle.desk.proofs.PoolLemmas.{pool_reads, search_leaves}
use Rattle.desk.proofs.pool.Pool.find.Goals as goal

pub returns-clause-finds : goal.returns-clause-finds
returns-clause-finds c =
    let found = c.find-outcome.new.ids.ids in
    let told : c.ids.result.now ≡ found = c.ids.ensures in
    let command = search_command c.args.search in
    let seen = c.args.self.now in
    let same = c.show_found.ensures.same in
    let steps = pool_reads c.self.inside.graph c.self.inside.reorg seen command (names_reply c.find-outcome.result found) (search_leaves c.args.search)
    c.self.view_is c.find-outcome.ensures.step in
    let shows = subst (λ (ids : List ℕ). ShowsIds c.args.out.now c.show_found.new.out c.args.count.now c.show_found.new.count (names_reply c.find-outcome.result ids))
    told c.show_found.ensures.shows in record {
      ids = found;
      step = subst (λ (r : Result (Unit {0}) Refusal). MakesStep seen seen command (names_reply r found)) (sym same) steps;
      shows = subst (λ (r : Result (Unit {0}) Refusal). ShowsIds c.args.out.now c.show_found.new.out c.args.count.now c.show_found.new.count (names_reply r found))
          (sym same) shows;
    }
