-- What a commit does to what is pending and what is held.
use Rattle.std.specs.Prelude.{◌≡◌, ◌⊎◌, ℕ, true, false, List, Result, Ok, Err}
use Rattle.site_vector.specs.declared.ids.TxId.{TxId}
use Rattle.crdt_core.specs.declared.record.Part.{Part}
use Rattle.crdt_core.specs.Orders.{insert_by, fold_cmp}
use Rattle.crdt_core.specs.Parts.{lists}
use Rattle.prepared_table.specs.declared.entry.Entry.{Entry}
use Rattle.prepared_table.specs.Entries.{has_entry, IsTakenOut}
use Rattle.partition_core.specs.declared.answers.Refusal.{Refusal}
use Rattle.partition_core.specs.declared.answers.Refusal.TheVariants as answer

module _ {E : Type 0} (t : TxId) (c : List ℕ) (pending : List (Entry E)) (held : List (Part E)) where
  -- the entry of t became a part
  pub record IsCommitted (still_pending : List (Entry E)) (now_held : List (Part E)) : Type 0 where
    pub entry : Entry E
    pub tx : entry.tx ≡ t
    pub taken : IsTakenOut entry pending still_pending
    pub put : now_held ≡ insert_by fold_cmp (record { tx = t; c = c; updates = entry.updates }) held

  -- t isn't pending, and nothing changed
  pub record IsNotPending (still_pending : List (Entry E)) (now_held : List (Part E)) : Type 0 where
    pub out : has_entry pending t ≡ false
    pub same_pending : still_pending ≡ pending
    pub same_held : now_held ≡ held

  -- it was pending, or was held already, or is gone
  abbrev pub Commits : {A : Type 0} → Result A Refusal → List (Entry E) → List (Part E) → Type 0
  Commits (Ok x) still_pending now_held = IsCommitted still_pending now_held ⊎ (IsNotPending still_pending now_held × (lists held t ≡ true))
  Commits (Err why) still_pending now_held = (why ≡ answer.Gone) × IsNotPending still_pending now_held × (lists held t ≡ false)
