use Rattle.std.proofs.Common.{◌≡◌, ℕ, ◌<◌, ◌^◌, List, length, sym, ap, ◌∙◌, subst, arith, true}
use Rattle.disk_core.specs.Moments.{AtEachMoment}
use Rattle.gate_log.proofs.Steps.{was_ok, still}
use Rattle.twin_log.specs.Twin.{is_format, items, closed_area, IsTwinLog, IsEither}
use Rattle.twin_log.specs.Rests.{IsArea}
use Rattle.twin_log.proofs.Holds.{before_call, log_left}
use Rattle.twin_log.proofs.Sizes.{few_items, is_area, next_low}
use Rattle.twin_log.proofs.log.TwinLog.switch.Goals as goal

pub returns-in_default-clause-any_moment : goal.returns-in_default-clause-any_moment
returns-in_default-clause-any_moment g c = λ before o. before_call (g.D.Disk.state c.args.self.now.disk) _ before _ c.args.payloads.now o.at_rest

pub returns-then-next-room-clause-any_moment : goal.returns-then-next-room-clause-any_moment
returns-then-next-room-clause-any_moment g c = λ before o. before_call (g.D.Disk.state c.args.self.now.disk) _ before _ c.args.payloads.now o.at_rest

pub returns-in_default-new_area-clause-any_moment : goal.returns-in_default-new_area-clause-any_moment
returns-in_default-new_area-clause-any_moment g c = λ before o. before_call (g.D.Disk.state c.args.self.now.disk) _ before _ c.args.payloads.now o.at_rest

pub new_area-requires : goal.new_area-requires
new_area-requires g c =
    omega (arith, c.in-Some.ensures.0, c.in-Some.ensures.2, ap (λ (l : List (List ℕ)). length (items l)) c.as_slice.ensures, few_items c.args.payloads.now, ap (λ (l : List (List ℕ)). length l) c.as_slice-2.ensures)

pub replace-requires-clause-at_rest : goal.replace-requires-clause-at_rest
replace-requires-clause-at_rest g c = λ told.
    let payloads = c.args.payloads.now in
    let short : length (items payloads) < 2 ^ 32 = omega (arith, c.in-Some.ensures.0, c.in-Some.ensures.2, ap (λ (l : List (List ℕ)). length (items l)) c.as_slice.ensures) in
    let made : (is_format c.args.self.now.spot.format ≡ true) → IsArea c.deref.result.now c.next_spot-next.result.format payloads =
    λ known. is_area c.deref.result.now c.next_spot-next.result.format payloads (c.deref.ensures.value ∙ c.in-Ok.ensures ∙ ap (closed_area c.next_spot-next.result.format) c.as_slice-2.ensures) (ap is_format c.next_spot-next.ensures.format ∙ known) c.requires.some short in
    let now = c.requires.ready.open_with c.if-self.false told in
    (now.0, payloads, now.1, made now.1.stands.log.known)

pub returns-then-is_err-clause-any_moment : goal.returns-then-is_err-clause-any_moment
returns-then-is_err-clause-any_moment g c = λ before o.
    let payloads = c.args.payloads.now in
    let short : length (items payloads) < 2 ^ 32 = omega (arith, c.in-Some.ensures.0, c.in-Some.ensures.2, ap (λ (l : List (List ℕ)). length (items l)) c.as_slice.ensures) in
    let made : (is_format c.args.self.now.spot.format ≡ true) → IsArea c.deref.result.now c.next_spot-next.result.format payloads =
    λ known. is_area c.deref.result.now c.next_spot-next.result.format payloads (c.deref.ensures.value ∙ c.in-Ok.ensures ∙ ap (closed_area c.next_spot-next.result.format) c.as_slice-2.ensures) (ap is_format c.next_spot-next.ensures.format ∙ known) c.requires.some short in
    subst (λ (format : ℕ). AtEachMoment (g.D.Disk.state c.args.self.now.disk).story (g.D.Disk.state c.replace.new.disk).story (IsEither c.args.self.now.spot.format before format payloads)) c.next_spot-next.ensures.format
    (c.replace.ensures.any_moment before payloads o.at_rest (made o.at_rest.stands.log.known))

pub returns-clause-any_moment : goal.returns-clause-any_moment
returns-clause-any_moment g c = λ before o.
    let payloads = c.args.payloads.now in
    let short : length (items payloads) < 2 ^ 32 = omega (arith, c.in-Some.ensures.0, c.in-Some.ensures.2, ap (λ (l : List (List ℕ)). length (items l)) c.as_slice.ensures) in
    let made : (is_format c.args.self.now.spot.format ≡ true) → IsArea c.deref.result.now c.next_spot-next.result.format payloads =
    λ known. is_area c.deref.result.now c.next_spot-next.result.format payloads (c.deref.ensures.value ∙ c.in-Ok.ensures ∙ ap (closed_area c.next_spot-next.result.format) c.as_slice-2.ensures) (ap is_format c.next_spot-next.ensures.format ∙ known) c.requires.some short in
    subst (λ (format : ℕ). AtEachMoment (g.D.Disk.state c.args.self.now.disk).story (g.D.Disk.state c.replace.new.disk).story (IsEither c.args.self.now.spot.format before format payloads)) c.next_spot-next.ensures.format
    (c.replace.ensures.any_moment before payloads o.at_rest (made o.at_rest.stands.log.known))

pub returns-clause-switched : goal.returns-clause-switched
returns-clause-switched g c = λ before o.
    let payloads = c.args.payloads.now in
    let short : length (items payloads) < 2 ^ 32 = omega (arith, c.in-Some.ensures.0, c.in-Some.ensures.2, ap (λ (l : List (List ℕ)). length (items l)) c.as_slice.ensures) in
    let made : (is_format c.args.self.now.spot.format ≡ true) → IsArea c.deref.result.now c.next_spot-next.result.format payloads =
    λ known. is_area c.deref.result.now c.next_spot-next.result.format payloads (c.deref.ensures.value ∙ c.in-Ok.ensures ∙ ap (closed_area c.next_spot-next.result.format) c.as_slice-2.ensures) (ap is_format c.next_spot-next.ensures.format ∙ known) c.requires.some short in
    record { is_open = o.is_open; at_rest = was_ok c.replace.result _ (sym c.is_err.ensures.value ∙ c.if-is_err.false) c.replace.ensures.replaced before payloads o.at_rest (made o.at_rest.stands.log.known) }

pub returns-clause-durable : goal.returns-clause-durable
returns-clause-durable g c = λ before o image left.
    let payloads = c.args.payloads.now in
    let short : length (items payloads) < 2 ^ 32 = omega (arith, c.in-Some.ensures.0, c.in-Some.ensures.2, ap (λ (l : List (List ℕ)). length (items l)) c.as_slice.ensures) in
    let made : (is_format c.args.self.now.spot.format ≡ true) → IsArea c.deref.result.now c.next_spot-next.result.format payloads =
    λ known. is_area c.deref.result.now c.next_spot-next.result.format payloads (c.deref.ensures.value ∙ c.in-Ok.ensures ∙ ap (closed_area c.next_spot-next.result.format) c.as_slice-2.ensures) (ap is_format c.next_spot-next.ensures.format ∙ known) c.requires.some short in
    let rest = was_ok c.replace.result _ (sym c.is_err.ensures.value ∙ c.if-is_err.false) c.replace.ensures.replaced before payloads o.at_rest (made o.at_rest.stands.log.known) in
    subst (λ (format : ℕ). IsTwinLog image format payloads) c.next_spot-next.ensures.format (log_left (g.D.Disk.state c.replace.new.disk) c.next_spot-next.result payloads image rest left)

pub returns-clause-ready : goal.returns-clause-ready
returns-clause-ready g c =
    let payloads = c.args.payloads.now in
    let short : length (items payloads) < 2 ^ 32 = omega (arith, c.in-Some.ensures.0, c.in-Some.ensures.2, ap (λ (l : List (List ℕ)). length (items l)) c.as_slice.ensures) in
    let made : (is_format c.args.self.now.spot.format ≡ true) → IsArea c.deref.result.now c.next_spot-next.result.format payloads =
    λ known. is_area c.deref.result.now c.next_spot-next.result.format payloads (c.deref.ensures.value ∙ c.in-Ok.ensures ∙ ap (closed_area c.next_spot-next.result.format) c.as_slice-2.ensures) (ap is_format c.next_spot-next.ensures.format ∙ known) c.requires.some short in
    let low = next_low c.args.self.now.spot c.next_spot-next.result c.in-Some.size c.next_spot-next.ensures.next c.requires.ready.low c.requires.ready.order in
    record {
      fits = omega (arith, c.replace.ensures.goes_on.room, c.room-room.ensures, c.if-next-room.false);
      low = low;
      order = omega (arith, c.next_spot-next.ensures.next.gate, c.in-Some.ensures.0);
      open_with = λ is_open told.
          let now = c.requires.ready.open_with c.if-self.false (still _ _ (sym c.replace.ensures.goes_on.tells) told) in
          (payloads, was_ok c.replace.result _ (sym c.is_err.ensures.value ∙ c.if-is_err.false) c.replace.ensures.replaced now.0 payloads now.1 (made now.1.stands.log.known));
    }
