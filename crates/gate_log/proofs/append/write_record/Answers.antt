use Rattle.std.proofs.Common.{◌≡◌, ◌⊎◌, ⊎_elim, inl, inr, ℕ, ◌+◌, ◌++◌, [], ◌∷◌, List, length, sym, subst}
use Rattle.disk_core.specs.Images.{IsSettled, after_write}
use Rattle.disk_core.specs.States.{Story, moved, TearsAtMost}
use Rattle.disk_core.proofs.Inside.{synced}
use Rattle.gate_log.specs.Log.{IsSized}
use Rattle.gate_log.specs.Rest.{synced_write}
use Rattle.gate_log.proofs.Steps.{still, staging_stopped, opening_stopped, opening_done, log_again, on_ok, either_answer, two_calls}
use Rattle.gate_log.proofs.append.write_record.Goals as goal

-- the first write fails, or its sync
pub returns-in_err-write_durable-clause-any_moment : goal.returns-in_err-write_durable-clause-any_moment
returns-in_err-write_durable-clause-any_moment g c = λ front payloads rest.
    let sized : IsSized c.args.payload.now = (c.requires.some, c.requires.small) in
    let old = g.D.Disk.state c.args.disk.now in
    let new = g.D.Disk.state c.write_durable.new.disk in
    let whole = λ (count : List ℕ). count ++ c.args.payload.now ++ 0 ∷ [] in
    staging_stopped front old c.args.end c.args.payload.now payloads rest sized new.story (subst
    (λ (count : List ℕ). TearsAtMost (c.args.end + 1) (length (whole count)) old.story new.story ⊎ (new.story ≡ moved (after_write (c.args.end + 1) (whole count) old.story.now) old.story))
    c.to_be_bytes-count.ensures (⊎_elim (λ torn. inl (torn rest.tells)) (λ wrote. inr (wrote rest.tells)) c.in_err-write_durable.ensures.torn))

-- the gate opens, or fails to
pub returns-clause-any_moment : goal.returns-clause-any_moment
returns-clause-any_moment g c = λ front payloads rest.
    let sized : IsSized c.args.payload.now = (c.requires.some, c.requires.small) in
    let old = g.D.Disk.state c.args.disk.now in
    let mid = g.D.Disk.state c.write_durable.new.disk in
    let new = g.D.Disk.state c.write_durable-2.new.disk in
    let durable = subst (λ (count : List ℕ). mid.story ≡ synced_write (c.args.end + 1) (count ++ c.args.payload.now ++ 0 ∷ []) old.story) c.to_be_bytes-count.ensures (c.in_ok-write_durable.ensures.durable rest.tells) in
    let told = still _ _ c.write_durable.ensures.goes_on.tells rest.tells in
    either_answer c.write_durable-2.result _ _ _
    (λ done. opening_done front old c.args.end c.args.payload.now payloads rest sized mid.story durable new.story (done told))
    (λ stopped. opening_stopped front old c.args.end c.args.payload.now payloads rest sized mid.story durable new.story (⊎_elim (λ torn. inl (torn told)) (λ wrote. inr (wrote told)) stopped))
    c.write_durable-2.ensures.durable c.write_durable-2.ensures.torn

pub returns-clause-appended : goal.returns-clause-appended
returns-clause-appended g c = on_ok c.write_durable-2.result _ _
    (λ done front payloads rest.
    let sized : IsSized c.args.payload.now = (c.requires.some, c.requires.small) in
    let old = g.D.Disk.state c.args.disk.now in
    let mid = g.D.Disk.state c.write_durable.new.disk in
    let new = g.D.Disk.state c.write_durable-2.new.disk in
    let durable = subst (λ (count : List ℕ). mid.story ≡ synced_write (c.args.end + 1) (count ++ c.args.payload.now ++ 0 ∷ []) old.story) c.to_be_bytes-count.ensures (c.in_ok-write_durable.ensures.durable rest.tells) in
    let told = still _ _ c.write_durable.ensures.goes_on.tells rest.tells in
    log_again front old c.args.end c.args.payload.now payloads rest sized mid.story durable new (done told) (still _ _ c.write_durable-2.ensures.goes_on.tells told))
    c.write_durable-2.ensures.durable

pub returns-clause-settled : goal.returns-clause-settled
returns-clause-settled g c = on_ok c.write_durable-2.result _ _
    (λ done told.
    let mid = still _ _ c.write_durable.ensures.goes_on.tells told in
    let opened = moved (after_write c.args.end (1 ∷ []) (g.D.Disk.state c.write_durable.new.disk).story.now) (g.D.Disk.state c.write_durable.new.disk).story in
    subst (λ (s : Story). IsSettled s.now) (sym (done mid)) (synced opened.now))
    c.write_durable-2.ensures.durable

pub returns-clause-left : goal.returns-clause-left
returns-clause-left g c = two_calls _ _ _ c.in_ok-write_durable.ensures.left_ok c.write_durable-2.ensures.left
