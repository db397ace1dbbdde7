use Rattle.std.proofs.Common.{ℕ, ◌+◌, ◌-◌, ◌<◌, length, refl, arith, inl, inr}
use Rattle.std.proofs.lemmas.Option.{slice_get-get_or}
use Rattle.effect_store.proofs.Committing.{wide_up_to, lists_none, lists_set, room_set, as_site}
use Rattle.effect_store.proofs.commits.list_part.Goals.{else-site-ge1-via-then-site-ge1+else-site-sites, else-site-ge1-via-else-site-ge1}
use Rattle.effect_store.proofs.commits.list_part.Goals as goal

pub add-requires-clause-listed : goal.add-requires-clause-listed
add-requires-clause-listed g c =
    let i : ℕ = c.args.part.now.tx.site - 1 in
    let n : i < length c.args.lists.now = omega (arith, c.told-lists, c.requires.sites, c.if-site-ge1.true, c.if-site-sites.true) in
    let v = slice_get-get_or c.args.lists.now i c.index-lists-site.result n in
    as_site _ _ _ i _ _ c.requires.all v (omega (arith, c.if-site-ge1.true, c.if-site-sites.true)) (omega (arith, c.if-site-ge1.true))

pub add-requires-clause-wide : goal.add-requires-clause-wide
add-requires-clause-wide g c = wide_up_to _ _ _ c.if-site-sites.true c.requires.wide

pub add-requires-clause-room : goal.add-requires-clause-room
add-requires-clause-room g c =
    let i : ℕ = c.args.part.now.tx.site - 1 in
    let n : i < length c.args.lists.now = omega (arith, c.told-lists, c.requires.sites, c.if-site-ge1.true, c.if-site-sites.true) in
    let v = slice_get-get_or c.args.lists.now i c.index-lists-site.result n in
    let room = c.requires.room i _ (omega (arith, c.if-site-ge1.true, c.if-site-sites.true)) v in
    omega (arith, room)

pub returns-then-site-sites-clause-all : goal.returns-then-site-sites-clause-all
returns-then-site-sites-clause-all g c = lists_set _ _ _ _ (c.args.part.now.tx.site - 1) _ _ refl (omega (arith, c.if-site-ge1.true)) c.add.ensures.listed c.requires.all

pub returns-then-site-sites-clause-room : goal.returns-then-site-sites-clause-room
returns-then-site-sites-clause-room g c = λ m r.
    (let i : ℕ = c.args.part.now.tx.site - 1 in
    let n : i < length c.args.lists.now = omega (arith, c.told-lists, c.requires.sites, c.if-site-ge1.true, c.if-site-sites.true) in
    let v = slice_get-get_or c.args.lists.now i c.index-lists-site.result n in
    room_set _ (m + 1) m _ i _ _ v c.add.ensures.len c.add.ensures.capacity (omega (arith, c.if-site-ge1.true, c.if-site-sites.true)) refl r)

pub returns-else-site-ge1-clause-all : goal.returns-else-site-ge1-clause-all
returns-else-site-ge1-clause-all g c = lists_none _ _ _ _ (elim c.else-site-ge1.branch [
  | else-site-ge1-via-then-site-ge1+else-site-sites w ↦ inr w.if-site-sites.false
  | else-site-ge1-via-else-site-ge1 w ↦ inl w.if-site-ge1.false
]) c.requires.all
