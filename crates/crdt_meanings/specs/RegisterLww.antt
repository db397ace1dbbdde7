-- The states and effects of the register that the last writer wins.
use Rattle.std.specs.Prelude.{ℕ, ◌+◌, max, min, Bool, false, List, Option, Some, None, not, is_some}
use Rattle.site_vector.specs.declared.ids.Dot.{Dot}
use Rattle.crdt_core.specs.declared.kind.Kind.{Kind}
use Rattle.crdt_core.specs.declared.kind.Kind.TheVariants.{RegisterLww}
use Rattle.crdt_core.specs.declared.object.Field.{Field}
use Rattle.crdt_core.specs.declared.operation.Act.{Act}
use Rattle.crdt_core.specs.Kinds.{same_kind}
use Rattle.crdt_core.specs.Stamps.{last_stamp}
use Rattle.std.specs.Ordering.{is_lt}
use Rattle.crdt_meanings.specs.Later.{later, stamped_cmp}
use Rattle.crdt_meanings.specs.RegisterMeaning.{text_of}
use Rattle.crdt_meanings.specs.declared.registers.Stamped.{Stamped}
use Rattle.crdt_meanings.specs.declared.registers.Assigned.{Assigned}

abbrev pub lww_has : Kind → Bool
lww_has k = same_kind k RegisterLww

abbrev pub unassigned : Option Stamped → Bool
unassigned s = not (is_some s)

abbrev pub lww_step : Option Stamped → Dot → Assigned → Option Stamped
lww_step s d e = later (Some (record { stamp = e.stamp; dot = d; text = e.text })) s

-- the greater of the clock value and one more than the stamp that stands
abbrev pub above : ℕ → Option Stamped → ℕ
above now None = now
above now (Some a) = max (a.stamp + 1) now

abbrev pub lww_made_on : Option Stamped → Act → ℕ → Assigned
lww_made_on s a now = record { stamp = min last_stamp (above now s); text = text_of a }

abbrev pub lww_made : Kind → Option Stamped → List Field → Act → ℕ → Assigned
lww_made k s p a now = lww_made_on s a now

abbrev pub lww_stamp : Assigned → Option ℕ
lww_stamp e = Some e.stamp

-- the assign that stands is later than this one
abbrev pub outlasts : Option Stamped → Dot → Assigned → Bool
outlasts None d e = false
outlasts (Some a) d e = is_lt (stamped_cmp (record { stamp = e.stamp; dot = d; text = e.text }) a)
