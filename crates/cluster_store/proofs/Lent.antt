-- The part that an entry stands for is the one at its position.
use Rattle.std.proofs.Common.{◌≡◌, List, Option, Some, None, ap, ◌∙◌}
use Rattle.std.proofs.lemmas.Option.{get_or_from_slice_get}
use Rattle.std.specs.List.{slice_get, slice_index_or}
use Rattle.graphs.specs.Certificates.{Part}
use Rattle.chunk_index.specs.declared.entry.Entry.{Entry}
use Rattle.cluster_store.specs.Stores.{no_part, parts_by}
use Rattle.cluster_store.specs.Walks.{shown_of}

pub shown_lent : {T : Type 0} (parts : T → List Part) (slots : List (Option T)) (e : Entry) (kept : T) (part : Part)
    → slice_index_or slots e.serial None ≡ Some kept
    → slice_get (parts kept) e.position ≡ Some part → shown_of parts slots e ≡ record { number = e.serial; part = part }
shown_lent parts slots e kept part there here =
    ap (λ o. record { number = e.serial; part = slice_index_or (parts_by parts o) e.position no_part }) there
    ∙ ap (λ (p : Part). record { number = e.serial; part = p }) (get_or_from_slice_get (parts kept) e.position part no_part here)
