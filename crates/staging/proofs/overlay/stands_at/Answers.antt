use Rattle.std.proofs.Common.{Some, ap, sym, ◌∙◌}
use Rattle.std.proofs.lemmas.Map.Views.{exact_unsigned_eq}
use Rattle.staging.proofs.overlay.stands_at.Goals as goal

pub returns-in-Some : goal.returns-in-Some
returns-in-Some g c equal =
    let value = c.in-Some.field-0-1.now in
    (value, sym c.in-Some.ensures.entry ∙ ap (λ key. Some (key, value)) (exact_unsigned_eq c.in-Some.found.now c.args.key equal))
