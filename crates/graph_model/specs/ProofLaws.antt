-- What `proof` writes is a certificate.
use Rattle.std.specs.Prelude.{◌≡◌, ◌≤◌, List, Some}
use Rattle.graphs.specs.declared.names.Level.{Level}
use Rattle.graphs.specs.Certificates.{Part, Certified}
use Rattle.graph_model.specs.declared.limits.TheConstants.{MAX_COUNT}
use Rattle.graph_model.specs.States.{State, level_of, pick_of}
use Rattle.graph_model.specs.Texts.{Text, Found, Verifies, text_lines}
use Rattle.graph_model.specs.Answers.{ProvesOrder}
use Rattle.graph_model.specs.Validity.{IsValidState}

-- The text that proves the order of a level of a valid state is answered with yes, told by its lines alone. A cluster may be allowed at most
-- as many names as any graph can allow it: the lines and the amounts of a greater chunk need not fit a text.
abbrev pub ProofsAreCertificates : Type 0
ProofsAreCertificates =
    (state : State) (level : Level) (pick : List Part) (text : Text) → state.plain.most ≤ MAX_COUNT → IsValidState state
    → pick_of state.picks level ≡ Some pick
    → ProvesOrder state.plain.table (level_of state.plain level) pick text → Verifies (text_lines text) (Found Certified)
