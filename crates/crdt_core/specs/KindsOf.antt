-- What the kinds of objects do, as one record.
use Rattle.std.specs.Prelude.{ℕ, Bool, not, ◌&&◌, List, Option}
use Rattle.site_vector.specs.declared.ids.Dot.{Dot}
use Rattle.crdt_core.specs.declared.kind.Kind.{Kind}
use Rattle.crdt_core.specs.declared.object.Field.{Field}
use Rattle.crdt_core.specs.declared.object.ObjectId.{ObjectId}
use Rattle.crdt_core.specs.declared.operation.Act.{Act}
use Rattle.crdt_core.specs.declared.operation.Op.{Op}
use Rattle.crdt_core.specs.declared.value.Value.{Value}
use Rattle.crdt_core.specs.Fits.{fits}
use Rattle.crdt_core.specs.Seen.{Update}
use Rattle.crdt_core.specs.Law.{KeepsLaw}

-- what the kinds of objects do, under the law of a kind: the trait `Crdt` of whoever stores them
pub record Kinds (S E : Type 0) : Type 0 where
  pub has : Kind → Bool
  pub too_deep : Kind → List Field → Bool
  pub initial : Kind → S
  pub applied : S → Dot → E → S
  pub generated : Kind → S → List Field → Act → ℕ → E
  pub value_of : S → Value
  pub stamp_of : E → Option ℕ
  pub meaning : Kind → List Update → Value
  pub names : E → Dot → Bool
  pub holds : S → Dot → Bool
  pub laws : KeepsLaw has too_deep initial applied generated value_of stamp_of meaning names holds

-- the operation is one of the object's kind, and leads no deeper than the type reaches
abbrev pub fits_kind : (Kind → List Field → Bool) → ObjectId → Op → Bool
fits_kind too_deep o op = fits o.kind op.path op.act && not (too_deep o.kind op.path)

-- those of a type that implements `Crdt`, by its member `laws`
abbrev pub kinds_of : {S E : Type 0} {has : Kind → Bool} {too_deep : Kind → List Field → Bool} {initial : Kind → S} {applied : S → Dot → E → S} {generated : Kind → S → List Field → Act → ℕ → E} {value_of : S → Value} {stamp_of : E → Option ℕ} {meaning : Kind → List Update → Value} {names : E → Dot → Bool} {holds : S → Dot → Bool} → KeepsLaw has too_deep initial applied generated value_of stamp_of meaning names holds → Kinds S E
kinds_of {has = has} {too_deep = too_deep} {initial = initial} {applied = applied} {generated = generated} {value_of = value_of} {stamp_of = stamp_of} {meaning = meaning} {names = names} {holds = holds} laws = record {
  has = has;
  too_deep = too_deep;
  initial = initial;
  applied = applied;
  generated = generated;
  value_of = value_of;
  stamp_of = stamp_of;
  meaning = meaning;
  names = names;
  holds = holds;
  laws = laws;
}
