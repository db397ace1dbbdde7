-- Which records fit a partition: those that its own calls may have written.
use Rattle.std.specs.Prelude.{ℕ, leb, ltb, Bool, true, not, ◌&&◌, ◌==◌, if◌then◌else◌, List, [], ◌∷◌, length, Option, None, Some}
use Rattle.std.specs.List.{list_all}
use Rattle.std.specs.Str.{bytes_eq}
use Rattle.site_vector.specs.declared.ids.PartId.{PartId}
use Rattle.site_vector.specs.declared.ids.TxId.{TxId}
use Rattle.site_vector.specs.Vector.{entry, replaced}
use Rattle.crdt_core.specs.declared.record.Upd.{Upd}
use Rattle.crdt_core.specs.declared.record.Part.{Part}
use Rattle.crdt_core.specs.declared.record.Message.{Message}
use Rattle.crdt_core.specs.declared.record.Record.{Record}
use Rattle.crdt_core.specs.declared.record.Record.TheVariants.{Lease, Prepare, Decide, Finish, Abort, Batch}
use Rattle.crdt_core.specs.Placing.{place_of}
use Rattle.crdt_core.specs.Log.{end_of_time, ceiling, pending, prepare_time, prepared_lead, prepared_snapshot, is_named_in, logged_bound}
use Rattle.crdt_core.specs.Parts.{lists}

-- a vector has an entry for each site, and no time past the end
abbrev pub is_vector : ℕ → List ℕ → Bool
is_vector sites v = length v == sites && list_all (λ n. leb n end_of_time) v

abbrev pub unfit_next : Option ℕ → Bool → ℕ → Option ℕ
unfit_next (Some n) fits count = Some n
unfit_next None fits count = if fits then None else Some count

module _ {E : Type 0} where
  -- the objects of these updates stand at the partitions with this number, of so many
  abbrev pub are_placed_at : ℕ → ℕ → List (Upd E) → Bool
  are_placed_at parts number us = list_all (λ u. place_of u.object.bucket u.object.key parts == number) us

  -- a commit vector of what is prepared: its snapshot, with an own entry that is at least the prepare time
  abbrev pub fits_commit : ℕ → PartId → List (Record E) → TxId → List ℕ → Bool
  fits_commit sites id log t c = is_vector sites c && (bytes_eq c (replaced (prepared_snapshot log t) id.site (entry c id.site)) && leb (prepare_time log t) (entry c id.site))

  abbrev pub fits_part : ℕ → ℕ → Message E → Part E → Bool
  fits_part sites parts m x = x.tx.site == m.from && (is_vector sites x.c && (are_placed_at parts m.part x.updates && (ltb m.lo (entry x.c m.from) && leb (entry x.c m.from) m.hi)))

  -- no two parts are of one transaction
  abbrev pub are_apart : List (Part E) → Bool
  are_apart [] = true
  are_apart (x ∷ xs) = not (lists xs x.tx) && are_apart xs

  -- a message fits a partition of another site, for whose number it is
  abbrev pub fits_message : ℕ → ℕ → PartId → Message E → Bool
  fits_message sites parts id m =
      not (m.from == id.site) && (leb 1 m.from && (leb m.from sites && (m.to == id.site && (m.part == id.part && (leb m.lo end_of_time && (leb m.hi end_of_time
      && (list_all (fits_part sites parts m) m.parts && are_apart m.parts)))))))

  -- a record fits a partition after the log that it has, where the last lease of the whole log has this ceiling
  abbrev pub fits_record : ℕ → ℕ → PartId → ℕ → List (Record E) → Record E → Bool
  fits_record sites parts id top log (Lease n) = leb n end_of_time
  fits_record sites parts id top log (Prepare t l n s w) =
      t.site == id.site && (leb 1 t.part && (leb t.part parts && (not (is_named_in log t) && (leb 1 l && (leb l id.part
      && (is_vector sites s && (are_placed_at parts id.part w && (ltb (entry s id.site) n && leb n top))))))))
  fits_record sites parts id top log (Decide t c) = pending log t && (prepared_lead log t == id.part && fits_commit sites id log t c)
  fits_record sites parts id top log (Finish t c) = pending log t && (not (prepared_lead log t == id.part) && fits_commit sites id log t c)
  fits_record sites parts id top log (Abort t) = pending log t
  fits_record sites parts id top log (Batch m) = fits_message sites parts id m && (leb (logged_bound log m.from) m.lo && list_all (λ x. not (is_named_in log x.tx)) m.parts)

  -- the number of the first record that doesn't fit under this ceiling, from 0, the oldest; none where all fit
  abbrev pub unfit_under : ℕ → ℕ → PartId → ℕ → List (Record E) → Option ℕ
  unfit_under sites parts id top [] = None
  unfit_under sites parts id top (r ∷ log) = unfit_next (unfit_under sites parts id top log) (fits_record sites parts id top log r) (length log)

  -- the same under the log's own ceiling, which its last lease tells: earlier ones may be gone
  abbrev pub unfit : ℕ → ℕ → PartId → List (Record E) → Option ℕ
  unfit sites parts id log = unfit_under sites parts id (ceiling log) log
