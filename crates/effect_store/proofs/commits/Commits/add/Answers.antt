use Rattle.effect_store.proofs.Committing.{list_more, done_ok}
use Rattle.effect_store.proofs.commits.Commits.add.Goals as goal

pub returns-clause-listed : goal.returns-clause-listed
returns-clause-listed g c =
    list_more _ _ _ _ _ c.as_slice.result.now _ _ c.requires.mine c.requires.fresh c.requires.listed c.as_slice.ensures.value c.place_of-at.ensures.most c.place_of-at.ensures.before c.place_of-at.ensures.after
    (done_ok c.insert-room_was_reserved.result _ _ _ c.insert-room_was_reserved.ensures.items (c.insert-room_was_reserved.ensures.succeeds c.requires.room)) c.requires.last
