use Rattle.std.proofs.Common.{◌≡◌, refl, None}
use Rattle.std.specs.Prelude.{ℕ, List, Ok, Err}
use Rattle.world_model.specs.declared.step.Step.TheVariants as step
use Rattle.world_model.specs.rules.Event as event
use Rattle.world_model.specs.rules.Event.{Event}
use Rattle.site_partitions.specs.Answers.{Any}
use Rattle.site_partitions.specs.Reaches.{types_of}
use Rattle.cluster.proofs.Seeing.{calls_still, did_on, called_same, failed_line, error_stays, fault_of, place_here}
use Rattle.cluster.proofs.FuelStore.{line_tells_call}
use Rattle.cluster.proofs.store.LocalStore.report.Goals as goal

pub report_at-requires : goal.report_at-requires
report_at-requires g c = place_here (types_of g.C.Crdt.laws g.C.Crdt.spells g.D.Disk.state) _ _ c.self.view_is c.args.pass None c.args.at event.AskReport c.requires.may

pub returns-in-Ok-clause-ok : goal.returns-in-Ok-clause-ok
returns-in-Ok-clause-ok g c run s =
    let types = types_of g.C.Crdt.laws g.C.Crdt.spells g.D.Disk.state in
    did_on types c.args.self.now c.args.self.now Any c.args.at event.AskReport c.args.pass None event.report_count 0 (event.Reported c.in-Ok.bounds) refl (calls_still types _ c.args.self.now c.self.view_is Any c.args.at event.AskReport (λ (b : List ℕ) (e : Event g.row.C-Effect.Denot). e ≡ event.Reported b) (Ok c.in-Ok.bounds) c.in-Ok.ensures.answers) run s tt tt

pub returns-in-Ok-clause-stays : goal.returns-in-Ok-clause-stays
returns-in-Ok-clause-stays g c =
    let types = types_of g.C.Crdt.laws g.C.Crdt.spells g.D.Disk.state in
    called_same types c.args.self.now c.args.self.now Any c.args.at event.AskReport c.args.pass None (λ (b : List ℕ) (e : Event g.row.C-Effect.Denot). e ≡ event.Reported b) (Ok c.in-Ok.bounds) (calls_still types _ c.args.self.now c.self.view_is Any c.args.at event.AskReport (λ (b : List ℕ) (e : Event g.row.C-Effect.Denot). e ≡ event.Reported b) (Ok c.in-Ok.bounds) c.in-Ok.ensures.answers)

pub returns-in-Ok-failed-clause-stays : goal.returns-in-Ok-failed-clause-stays
returns-in-Ok-failed-clause-stays g c =
    let types = types_of g.C.Crdt.laws g.C.Crdt.spells g.D.Disk.state in
    called_same types c.args.self.now c.args.self.now Any c.args.at event.AskReport c.args.pass None (λ (b : List ℕ) (e : Event g.row.C-Effect.Denot). e ≡ event.Reported b) (Err c.in-Err.error) (calls_still types _ c.args.self.now c.self.view_is Any c.args.at event.AskReport (λ (b : List ℕ) (e : Event g.row.C-Effect.Denot). e ≡ event.Reported b) (Err c.in-Err.error) c.in-Err.ensures.answers)

pub returns-in-Ok-failed-clause-ok : goal.returns-in-Ok-failed-clause-ok
returns-in-Ok-failed-clause-ok g c run s =
    let types = types_of g.C.Crdt.laws g.C.Crdt.spells g.D.Disk.state in
    failed_line types c.args.self.now c.args.self.now Any c.args.at event.AskReport c.args.pass None (Unit {0}) (λ (b : List ℕ) (e : Event g.row.C-Effect.Denot). e ≡ event.Reported b) (step.Disk c.args.at) (λ b what k. fault_of c.args.at (step.Disk c.args.at) (event.Reported b) refl refl what k) c.in-Err.error _ (calls_still types _ c.args.self.now c.self.view_is Any c.args.at event.AskReport (λ (b : List ℕ) (e : Event g.row.C-Effect.Denot). e ≡ event.Reported b) (Err c.in-Err.error) c.in-Err.ensures.answers) c.in-Ok-failed.ensures run s tt tt tt

pub returns-in-Ok-failed-clause-tells : goal.returns-in-Ok-failed-clause-tells
returns-in-Ok-failed-clause-tells g c =
    let types = types_of g.C.Crdt.laws g.C.Crdt.spells g.D.Disk.state in
    line_tells_call types c.args.self.now c.args.self.now Any c.args.at event.AskReport c.args.pass None (Unit {0}) (λ (b : List ℕ) (e : Event g.row.C-Effect.Denot). e ≡ event.Reported b) (step.Disk c.args.at) (λ b what k. fault_of c.args.at (step.Disk c.args.at) (event.Reported b) refl refl what k) (λ r. (refl, r)) c.in-Err.error _ (calls_still types _ c.args.self.now c.self.view_is Any c.args.at event.AskReport (λ (b : List ℕ) (e : Event g.row.C-Effect.Denot). e ≡ event.Reported b) (Err c.in-Err.error) c.in-Err.ensures.answers) c.in-Ok-failed.ensures c.requires.may.run (c.requires.may.seen, c.requires.may.allowed.may, tt)

pub returns-in-Err-failed-clause-stays : goal.returns-in-Err-failed-clause-stays
returns-in-Err-failed-clause-stays g c =
    let types = types_of g.C.Crdt.laws g.C.Crdt.spells g.D.Disk.state in
    called_same types c.args.self.now c.args.self.now Any c.args.at event.AskReport c.args.pass None (λ (b : List ℕ) (e : Event g.row.C-Effect.Denot). e ≡ event.Reported b) (Err c.in-Err.error) (calls_still types _ c.args.self.now c.self.view_is Any c.args.at event.AskReport (λ (b : List ℕ) (e : Event g.row.C-Effect.Denot). e ≡ event.Reported b) (Err c.in-Err.error) c.in-Err.ensures.answers)

pub returns-in-Err-failed-clause-err : goal.returns-in-Err-failed-clause-err
returns-in-Err-failed-clause-err g c =
    let types = types_of g.C.Crdt.laws g.C.Crdt.spells g.D.Disk.state in
    error_stays types c.args.self.now c.args.self.now Any c.args.at event.AskReport c.args.pass None _ (λ (b : List ℕ) (e : Event g.row.C-Effect.Denot). e ≡ event.Reported b) (step.Disk c.args.at) c.in-Err.error _ (calls_still types _ c.args.self.now c.self.view_is Any c.args.at event.AskReport (λ (b : List ℕ) (e : Event g.row.C-Effect.Denot). e ≡ event.Reported b) (Err c.in-Err.error) c.in-Err.ensures.answers) c.in-Err-failed.ensures
