-- What the readings of a level find.
use Rattle.std.specs.Prelude.{◌≡◌, ◌↔◌, ◌⊎◌, ℕ, true, List, map, Contains, Option, None, Some, Result, Ok, Err}
use Rattle.graphs.specs.declared.names.Level.{Level}
use Rattle.graphs.specs.declared.names.Level.TheVariants.{Top}
use Rattle.graphs.specs.declared.names.Verdict.{Verdict}
use Rattle.graphs.specs.Certificates.{Part}
use Rattle.graphs.specs.Closures.{is_member, rate_of, IsCover}
use Rattle.graphs.specs.Linearizations.{IsOptimal}
use Rattle.graphs.specs.Picks.{FollowOrder, IsPick}
use Rattle.graphs.specs.Minimal.{AreMinimal}
use Rattle.cluster.specs.declared.cluster.PartRef.{PartRef}
use Rattle.cluster_store.specs.Lent.{lent}
use Rattle.graph_model.specs.declared.names.Place.{Place}
use Rattle.graph_model.specs.declared.names.Refusal.{Refusal}
use Rattle.graph_model.specs.Answers.{order_of}
use Rattle.graph_model.specs.Refusals.{NameRow, CompareRow}
use Rattle.graph_model.specs.Replies.{Reply, Refused, OnePart, Stands, Compared, Settled}
use Rattle.graph_model.specs.States.{State, level_of, pick_of}
use Rattle.graph_model.specs.States as states
use Rattle.graph_model.specs.Texts.{Text}
use Rattle.levels.specs.Levels.{OneLevel, Levels, level_at}
use Rattle.levels.specs.Oversize.{IsOversized}

-- The parts are a level's pick: an order with flows that certify it, and so an optimal one.
pub record IsBestOrder (state : State) (level : Level) (parts : List Part) : Type 0 where
  pub pick : pick_of state.picks level ≡ Some parts
  pub certified : IsPick (states.rate_of state.plain.table) (level_of state.plain level) parts
  pub optimal : IsOptimal (states.rate_of state.plain.table) (level_of state.plain level) (map (λ part. part.ids) parts)

-- None of the parts of a level can be cut further: no proper set of a part's names, closed within the part, has its rate.
abbrev pub AreMinimalIn : State → Level → List Part → Type 0
AreMinimalIn state level parts = AreMinimal (states.rate_of state.plain.table) (level_of state.plain level).pairs parts

-- A text of an order: its names with their fees and sizes, the covering pairs by child, then by parent, and the parts.
pub record IsTextOf (level : OneLevel) (text : Text) : Type 0 where
  pub txs : text.txs ≡ map (λ id. (id, (rate_of level.graph id).fee, (rate_of level.graph id).size)) (order_of level.parts)
  pub exact : (a d : ℕ) → Contains text.edges (a, d) ↔ IsCover level.graph a d
  pub in_order : FollowOrder (order_of level.parts) (map (λ edge. (edge.1, edge.0)) text.edges)
  pub parts : text.parts ≡ level.parts

-- the refusal that a reading of a name meets: the level hasn't the name, or else is over the limits
abbrev pub NameRefusalIs : Levels → Level → ℕ → Option Refusal → Type 0
NameRefusalIs levels level id =
    NameRow (is_member (level_at levels level).graph id ≡ true → ⊥) (IsOversized levels.limits (level_at levels level).graph) id

-- the refusal that a comparison meets: there is no staging, or else one of the levels is over the limits
abbrev pub CompareRefusalIs : Levels → Option Refusal → Type 0
CompareRefusalIs levels =
    CompareRow (levels.staging ≡ None)
    (IsOversized levels.limits levels.main.graph ⊎ IsOversized levels.limits (level_at levels Top).graph)

-- the reply of a reading of one part, and of where a name stands
abbrev pub part_reply : Result PartRef Refusal → Reply
part_reply (Ok part) = OnePart (lent part)
part_reply (Err why) = Refused why

abbrev pub place_reply : Result Place Refusal → Reply
place_reply (Ok place) = Stands place
place_reply (Err why) = Refused why

-- the reply of a comparison, and of a settlement
abbrev pub compare_reply : Result Verdict Refusal → Reply
compare_reply (Ok verdict) = Compared verdict
compare_reply (Err why) = Refused why

abbrev pub settle_reply : Result Verdict Refusal → Reply
settle_reply (Ok verdict) = Settled verdict
settle_reply (Err why) = Refused why
