use Rattle.std.proofs.Common.{ap, ◌∙◌, ◌∷◌, []}
use Rattle.std.specs.FinMap.{entries}
use Rattle.std.specs.Map.Iter.{deref_pair}
use Rattle.std.proofs.lemmas.Map.Iter.{rest_more}
use Rattle.crdt_meanings.specs.Maps.{resets_of}
use Rattle.crdt_maps.specs.Ready.{first_spelled, rest_spelled}
use Rattle.crdt_maps.proofs.FieldTrees.{grow_by, resets_more}
use Rattle.crdt_maps.proofs.made.reset_all.Goals as goal

pub loop-field-preserved : goal.loop-field-preserved
loop-field-preserved g c =
    let I = g.I.Crdt in
    let one = deref_pair (c.in-Some.field, c.in-Some.state) in
    let it = c.loop-field.field-iterator in
    let rest = c.next.new.self in
    let more = rest_more deref_pair it rest c.next.result (c.in-Some.field, c.in-Some.state) c.in-Some.is c.next.ensures.steps in (
      grow_by (resets_of I.has I.generated I.is_blank c.args.now (entries c.args.fields.now)) c.loop-field.resets c.push_reset.new.resets (resets_of I.has I.generated I.is_blank c.args.now it) (resets_of I.has I.generated I.is_blank c.args.now rest) (resets_of I.has I.generated I.is_blank c.args.now (one ∷ [])) c.loop-field.invariant.0
          (ap (resets_of I.has I.generated I.is_blank c.args.now) more ∙ resets_more I.has I.generated I.is_blank c.args.now one rest)
          c.in_ok-push_reset.ensures.made,
      λ h. let before = c.loop-field.invariant.1 h in (rest_spelled I.holds one it rest before.0 more, c.in_ok-push_reset.ensures.ready (first_spelled I.holds one it rest before.0 more) before.1),
    )
