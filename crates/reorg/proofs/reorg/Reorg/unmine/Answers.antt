use Rattle.std.proofs.Common.{lit<, ◌≡◌, ◌+◌, ◌-◌, ◌^◌, ◌≤◌, ◌<◌, ℕ, ℤ, List, [], ◌∷◌, length, is_some, sym, ap, ◌∙◌, subst, subst₂, true≢false, Option, None, arith}
use Rattle.std.proofs.lemmas.List.{length-map}
use Rattle.graphs.specs.Certificates.{Txs}
use Rattle.graph_model.specs.declared.names.Refusal.{Refusal}
use Rattle.graph_model.specs.Changes.{ids_of}
use Rattle.graph_model.specs.Commands.{Unmine}
use Rattle.graph_model.specs.Refusals.{latest_ids}
use Rattle.graph_model.specs.Replies.{Refused, Unmined}
use Rattle.graph_model.specs.States.{MinedBlock, State}
use Rattle.tx_graph.specs.Kept as graphs
use Rattle.tx_graph.specs.Restored.{IsAnsweredBy, MayRestore, RestoreRefusalIs, RestoresSet}
use Rattle.reorg.specs.Blocks.{AreKept, HaveAtMost}
use Rattle.reorg.specs.Kept.{MakesStep}
use Rattle.reorg.proofs.Unmining.{Begins, begins, no_first, left_are, told_are, may_restore, kept_earlier, sizes_earlier, unmined_step, unmine_refused}
use Rattle.reorg.proofs.reorg.Reorg.unmine.Goals as goal

pub returns-in_default-clause-step : goal.returns-in_default-clause-step
returns-in_default-clause-step g c =
    let items = c.self.inside.blocks.items in let long = c.self.inside.blocks.ok.0 in
    let none : items ≡ [] = no_first items (λ low. true≢false (sym (c.front.ensures.variant.1 (omega (arith, long, low))) ∙ ap is_some c.in_default.is)) in
    subst (λ (bs : List MinedBlock). MakesStep (record { graph = c.args.graph.now; blocks = bs }) (record { graph = c.args.graph.now; blocks = bs }) Unmine
    (Refused c.refused_without.result))
    (sym none ∙ c.self.view_is) c.refused_without.ensures

pub restore-requires : goal.restore-requires
restore-requires g c =
    let items = c.self.inside.blocks.items in let long = c.self.inside.blocks.ok.0 in let block = c.in-Some.block.now in
    let low = c.front.ensures.variant.0 (ap is_some c.in-Some.is) in
    let is : Begins items block = begins items block (omega (arith, long, low)) c.in-Some.ensures.lookup in
    let few = subst (λ (bs : List MinedBlock). c.args.graph.now.levels.issued + length (latest_ids bs) ≤ 2 ^ 64 - 1) (sym c.self.view_is ∙ is.at) c.requires in (
      lit< tt,
      subst₂ (λ (txs : Txs) (pairs : List (ℕ × ℕ)). MayRestore c.args.graph.now txs pairs) (sym c.txs.ensures) (sym c.pairs.ensures)
          (may_restore c.args.graph.now block is.earlier (subst AreKept is.at c.self.invariant) few),
    )

pub invariant_of-self : goal.invariant_of-self
invariant_of-self g c =
    let items = c.self.inside.blocks.items in let long = c.self.inside.blocks.ok.0 in let block = c.in-Some.block.now in
    let low = c.front.ensures.variant.0 (ap is_some c.in-Some.is) in
    let is : Begins items block = begins items block (omega (arith, long, low)) c.in-Some.ensures.lookup in
    subst AreKept (left_are items c.take_latest.new.blocks.items block is c.take_latest.ensures.left)
    (kept_earlier block is.earlier (subst AreKept is.at c.self.invariant))

pub returns-in-Ok-clause-step : goal.returns-in-Ok-clause-step
returns-in-Ok-clause-step g c =
    let old = c.args.graph.now in let new = c.restore.new.self in
    let items = c.self.inside.blocks.items in let long = c.self.inside.blocks.ok.0 in let block = c.in-Some.block.now in
    let low = c.front.ensures.variant.0 (ap is_some c.in-Some.is) in
    let is : Begins items block = begins items block (omega (arith, long, low)) c.in-Some.ensures.lookup in
    let row : (state : State) → graphs.StandsFor old state → RestoreRefusalIs state.plain block.txs block.pairs None =
    subst₂ (λ (txs : Txs) (pairs : List (ℕ × ℕ)). (state : State) → graphs.StandsFor old state → RestoreRefusalIs state.plain txs pairs None)
    c.txs.ensures c.pairs.ensures c.in-Ok.ensures.row in
    let leads : graphs.Leads old new (RestoresSet block.txs block.pairs) =
    subst₂ (λ (txs : Txs) (pairs : List (ℕ × ℕ)). graphs.Leads old new (RestoresSet txs pairs)) c.txs.ensures c.pairs.ensures c.in-Ok.ensures.restores.0 in
    subst (λ (ids : List ℕ). MakesStep (record { graph = old; blocks = c.args.self.now }) (record { graph = new; blocks = c.take_latest.new.blocks.items }) Unmine
    (Unmined ids))
    (told_are items block c.take_latest.result is c.take_latest.ensures.told)
    (subst₂ (λ (bs es : List MinedBlock). MakesStep (record { graph = old; blocks = bs }) (record { graph = new; blocks = es }) Unmine (Unmined (ids_of block.txs)))
    (sym is.at ∙ c.self.view_is) (left_are items c.take_latest.new.blocks.items block is c.take_latest.ensures.left)
    (unmined_step old new block is.earlier row leads))

pub returns-in-Ok-clause-sizes : goal.returns-in-Ok-clause-sizes
returns-in-Ok-clause-sizes g c =
    let items = c.self.inside.blocks.items in let long = c.self.inside.blocks.ok.0 in let block = c.in-Some.block.now in
    let low = c.front.ensures.variant.0 (ap is_some c.in-Some.is) in
    let is : Begins items block = begins items block (omega (arith, long, low)) c.in-Some.ensures.lookup in
    λ most were. subst (λ (bs : List MinedBlock). HaveAtMost bs most) (left_are items c.take_latest.new.blocks.items block is c.take_latest.ensures.left)
    (sizes_earlier block is.earlier most (subst (λ (bs : List MinedBlock). HaveAtMost bs most) (sym c.self.view_is ∙ is.at) were))

pub returns-in-Ok-clause-additions : goal.returns-in-Ok-clause-additions
returns-in-Ok-clause-additions g c =
    let items = c.self.inside.blocks.items in let long = c.self.inside.blocks.ok.0 in let block = c.in-Some.block.now in
    let low = c.front.ensures.variant.0 (ap is_some c.in-Some.is) in
    let is : Begins items block = begins items block (omega (arith, long, low)) c.in-Some.ensures.lookup in
    let names : length c.txs.result.now ≡ length (latest_ids c.args.self.now) =
    ap (λ (txs : Txs). length txs) c.txs.ensures ∙ sym (length-map block.txs (λ (tx : ℕ × ℤ × ℕ). tx.0))
    ∙ ap (λ (bs : List MinedBlock). length (latest_ids bs)) (sym is.at ∙ c.self.view_is) in
    c.in-Ok.ensures.restores.1 ∙ ap (λ (n : ℕ). c.args.graph.now.levels.issued + n) names

pub returns-in-Err-clause-additions : goal.returns-in-Err-clause-additions
returns-in-Err-clause-additions g c =
    let same : c.restore.new.self.levels.issued ≡ c.args.graph.now.levels.issued = ap (λ (k : graphs.Kept). k.levels.issued) c.in-Err.ensures.refused.0 in
    omega (arith, same)

pub returns-in-Err-clause-step : goal.returns-in-Err-clause-step
returns-in-Err-clause-step g c =
    let old = c.args.graph.now in let why = c.in-Err.why in
    let items = c.self.inside.blocks.items in let long = c.self.inside.blocks.ok.0 in let block = c.in-Some.block.now in
    let low = c.front.ensures.variant.0 (ap is_some c.in-Some.is) in
    let is : Begins items block = begins items block (omega (arith, long, low)) c.in-Some.ensures.lookup in
    let row : (state : State) → graphs.StandsFor old state → (found : Option Refusal) × RestoreRefusalIs state.plain block.txs block.pairs found × IsAnsweredBy found why =
    subst₂ (λ (txs : Txs) (pairs : List (ℕ × ℕ)). (state : State) → graphs.StandsFor old state
    → (found : Option Refusal) × RestoreRefusalIs state.plain txs pairs found × IsAnsweredBy found why)
    c.txs.ensures c.pairs.ensures c.in-Err.ensures.row in
    subst₂ (λ (bs : List MinedBlock) (k : graphs.Kept). MakesStep (record { graph = old; blocks = bs }) (record { graph = k; blocks = bs }) Unmine (Refused why))
    (sym is.at ∙ c.self.view_is) (sym c.in-Err.ensures.refused.0) (unmine_refused old old block is.earlier why row)
