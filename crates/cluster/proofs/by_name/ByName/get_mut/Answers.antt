use Rattle.std.proofs.Common.{refl, ap, subst, ◌∙◌}
use Rattle.std.specs.Str.{bytes_eq}
use Rattle.std.specs.Map.{lookup}
use Rattle.indexmap.specs.IndexMap.{set_value_at}
use Rattle.cluster.specs.Named.{Named, IsWritten}
use Rattle.cluster.proofs.Places.{found, missing, written, unwritten}
use Rattle.cluster.proofs.by_name.ByName.get_mut.Goals as goal

pub returns-in-Some : goal.returns-in-Some
returns-in-Some g c =
    let name = c.args.name.now in
    let all = c.self.inside.all.entries in
    let place = c.in-Some.place in (
      (refl, λ w. subst (λ (n : Named g.row.V.Denot). IsWritten n.entries name w (set_value_at all place w)) c.self.view_is (written name w all place c.in-Some.ensures.place), refl),
      record { writes_back = tt; value = found name all place _ c.in-Some.ensures.place c.index_mut.ensures.value ∙ ap (λ n. lookup (bytes_eq name) n.entries) c.self.view_is },
    )

pub returns-in-None : goal.returns-in-None
returns-in-None g c =
    let name = c.args.name.now in
    let all = c.self.inside.all.entries in (
      (refl, λ w. subst (λ (n : Named g.row.V.Denot). IsWritten n.entries name w all) c.self.view_is (unwritten name w all c.in-None.ensures.place), c.self.view_is),
      record { writes_back = tt; value = missing name all c.in-None.ensures.place ∙ ap (λ n. lookup (bytes_eq name) n.entries) c.self.view_is },
    )
