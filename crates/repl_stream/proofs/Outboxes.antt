-- What callers see of an outbox after each call.
use Rattle.std.proofs.Common.{◌≡◌, ℕ, ◌+◌, ◌<◌, List, [], ◌∷◌, ◌++◌, length, Some, None, sym, refl, ap, ◌∙◌, subst}
use Rattle.std.specs.Prelude.{◌==◌, if◌then◌else◌}
use Rattle.std.specs.Ordering.{nat_cmp}
use Rattle.std.specs.BTreeMap.{is_at, insert_entry}
use Rattle.std.specs.Map.{lookup, remove_entry}
use Rattle.crdt_core.specs.declared.record.Message.{Message}
use Rattle.repl_stream.specs.Numbers.{Numbered, item_at, without, IsOutbox}
use Rattle.repl_stream.proofs.Numbered.{appended, item_append, outbox_more, removed, looked_up, item_without, outbox_less}

module _ {E : Type 0} where
  abbrev made : List (ℕ × Message E) → ℕ → Numbered E
  made xs next = record { messages = xs; next = next }

  pub seen_at : (o : Numbered E) (xs : List (ℕ × Message E)) (next k : ℕ) → record { messages = xs; next = next } ≡ o → lookup (is_at (nat_cmp k)) xs ≡ item_at o.messages k
  seen_at o xs next k v = looked_up xs k ∙ ap (λ (y : Numbered E). item_at y.messages k) v

  -- ---- one more

  pub messages_more : (o : Numbered E) (xs ys : List (ℕ × Message E)) (next : ℕ) (m : Message E) → record { messages = xs; next = next } ≡ o → IsOutbox xs next → ys ≡ insert_entry nat_cmp xs next m → (next ≡ o.next) × (made ys (next + 1) ≡ made (o.messages ++ (next, m) ∷ []) (o.next + 1))
  messages_more o xs ys next m v h e =
      let P : Numbered E → Type 0 = λ y. (next ≡ y.next) × (made ys (next + 1) ≡ made (y.messages ++ (next, m) ∷ []) (y.next + 1)) in
      subst P v (refl, ap (λ (l : List (ℕ × Message E)). made l (next + 1)) (e ∙ appended xs next m h.given))

  pub found_more : (o : Numbered E) (xs ys : List (ℕ × Message E)) (next : ℕ) (m : Message E) → record { messages = xs; next = next } ≡ o → IsOutbox xs next → ys ≡ insert_entry nat_cmp xs next m → (j : ℕ) → item_at ys j ≡ (if j == o.next then Some m else item_at o.messages j)
  found_more o xs ys next m v h e j =
      let P : Numbered E → Type 0 = λ y. item_at ys j ≡ (if j == y.next then Some m else item_at y.messages j) in
      subst P v (ap (λ (l : List (ℕ × Message E)). item_at l j) (e ∙ appended xs next m h.given) ∙ item_append xs next m h.given j)

  pub sound_more : (xs ys : List (ℕ × Message E)) (next : ℕ) (m : Message E) → IsOutbox xs next → length xs < 4096 → ys ≡ insert_entry nat_cmp xs next m → IsOutbox ys (next + 1)
  sound_more xs ys next m h l e = subst (λ (zs : List (ℕ × Message E)). IsOutbox zs (next + 1)) (sym (e ∙ appended xs next m h.given)) (outbox_more xs next m h l)

  -- ---- one less

  pub messages_less : (o : Numbered E) (xs ys : List (ℕ × Message E)) (next k : ℕ) → record { messages = xs; next = next } ≡ o → ys ≡ remove_entry (is_at (nat_cmp k)) xs → record { messages = ys; next = next } ≡ record o { messages = without o.messages k }
  messages_less o xs ys next k v e =
      let P : Numbered E → Type 0 = λ y. record { messages = ys; next = next } ≡ record y { messages = without y.messages k } in
      subst P v (ap (λ (l : List (ℕ × Message E)). record { messages = l; next = next }) (e ∙ removed xs k))

  pub found_less : (o : Numbered E) (xs ys : List (ℕ × Message E)) (next k : ℕ) → record { messages = xs; next = next } ≡ o → IsOutbox xs next → ys ≡ remove_entry (is_at (nat_cmp k)) xs → (j : ℕ) → item_at ys j ≡ (if j == k then None else item_at o.messages j)
  found_less o xs ys next k v h e j =
      let P : Numbered E → Type 0 = λ y. item_at ys j ≡ (if j == k then None else item_at y.messages j) in
      subst P v (ap (λ (l : List (ℕ × Message E)). item_at l j) (e ∙ removed xs k) ∙ item_without xs k h.ascend j)

  pub sound_less : (xs ys : List (ℕ × Message E)) (next k : ℕ) → IsOutbox xs next → ys ≡ remove_entry (is_at (nat_cmp k)) xs → IsOutbox ys next
  sound_less xs ys next k h e = subst (λ (zs : List (ℕ × Message E)). IsOutbox zs next) (sym (e ∙ removed xs k)) (outbox_less xs next k h)
