use Rattle.std.proofs.Common.{Some, refl, ap, ◌∙◌}
use Rattle.name_book.proofs.Kept.{same-own}
use Rattle.name_book.proofs.Rungs.{cut-rungs}
use Rattle.name_book.proofs.TableLemmas.{one_name}
use Rattle.name_book.proofs.keys.cut_key.Goals as goal

pub returns-clause-cut : goal.returns-clause-cut
returns-clause-cut c es spare id own has =
    let nodes = c.args.nodes.now in let new = c.cut.new.self in let cut = c.cut.ensures in
    cut-rungs nodes new es es own (same-own nodes new es own cut.values) cut.round.0 cut.round.1 spare spare c.args.r c.requires.r_in_range
    id c.args.key cut.parted (λ _ _. refl) (λ x other differs at_x same. differs (one_name nodes es own x id c.args.key (at_x ∙ ap Some same) has)) has
