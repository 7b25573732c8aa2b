-- Each call of the closure tells the key of a name.
use Rattle.std.proofs.Common.{rules}
use Rattle.std.proofs.lemmas.List.Sorted.{IsNonDecreasingBy-from_sort_by_key}
use Rattle.levels.specs.Shelves.{numbers_at}
use Rattle.levels.specs.Unions.{key_in}
use Rattle.levels.proofs.shelves.Shelves.group.Goals as goal

pub returns-clause-grouped : goal.returns-clause-grouped
returns-clause-grouped g c =
    IsNonDecreasingBy-from_sort_by_key (key_in (numbers_at c.args.level c.args.self.now)) _ c.sort_unstable_by_key.ensures.sorted (λ a r q k. search rules)
