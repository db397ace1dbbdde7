-- How transactions, updates, vectors and objects are spelled, and what reading them answers.
use Rattle.std.specs.Prelude.{ℕ, ◌^◌, Bool, true, ◌&&◌, nat_le, List, ◌++◌, length, None}
use Rattle.std.specs.List.{flat_map, list_all}
use Rattle.field_codec.specs.Spelling.{number, is_number, text, is_text, list, is_list, is_below, are_in_order}
use Rattle.field_codec.specs.Reading.{Read, number_at, text_at, list_at, members_at, checked_at, then_at, mapped_at}
use Rattle.site_vector.specs.declared.ids.TxId.{TxId}
use Rattle.site_vector.specs.declared.ids.Dot.{Dot}
use Rattle.site_vector.specs.Order.{dot_cmp}
use Rattle.crdt_core.specs.declared.kind.Kind.{Kind}
use Rattle.crdt_core.specs.declared.object.ObjectId.{ObjectId}
use Rattle.crdt_core.specs.Kinds.{kind_code}
use Rattle.crdt_core.specs.KindCodes.{coded_kind}

abbrev pub is_between : ℕ → ℕ → ℕ → Bool
is_between least most n = nat_le least n && nat_le n most

abbrev pub between_at : ℕ → ℕ → ℕ → List ℕ → ℕ → Read ℕ
between_at width least most = checked_at (is_between least most) (number_at width)

-- ---- the site, the partition, the time

abbrev pub is_tx : TxId → Bool
is_tx t = is_between 1 8 t.site && (is_between 1 16 t.part && is_between 0 (2 ^ 62) t.time)

abbrev pub tx : TxId → List ℕ
tx t = number 1 t.site ++ (number 1 t.part ++ number 8 t.time)

abbrev pub tx_of : ℕ × (ℕ × ℕ) → TxId
tx_of p = record { site = p.0; part = p.1.0; time = p.1.1 }

unfoldable pub tx_at : List ℕ → ℕ → Read TxId
tx_at = mapped_at tx_of (then_at (between_at 1 1 8) (λ _. then_at (between_at 1 1 16) (λ _. between_at 8 0 (2 ^ 62))))

-- ---- the transaction, the number

abbrev pub is_dot : Dot → Bool
is_dot d = is_tx d.tx && is_between 1 256 d.index

abbrev pub dot : Dot → List ℕ
dot d = tx d.tx ++ number 2 d.index

abbrev pub dot_of : TxId × ℕ → Dot
dot_of p = record { tx = p.0; index = p.1 }

unfoldable pub dot_at : List ℕ → ℕ → Read Dot
dot_at = mapped_at dot_of (then_at tx_at (λ _. between_at 2 1 256))

-- ---- ascending lists of updates

-- each has a spelling
abbrev pub are_dots : List Dot → Bool
are_dots ds = list_all is_dot ds

-- each is below the next, as in each `Dots`
abbrev pub ascend : List Dot → Bool
ascend ds = are_in_order (is_below dot_cmp) None ds

abbrev pub is_dots : List Dot → Bool
is_dots ds = is_list (is_below dot_cmp) is_dot ds

abbrev pub dots : List Dot → List ℕ
dots ds = list dot ds

abbrev pub dots_at : List ℕ → ℕ → Read (List Dot)
dots_at = list_at (is_below dot_cmp) dot_at

-- ---- the width, the entries

abbrev pub vector : List ℕ → List ℕ
vector v = number 1 (length v) ++ flat_map (number 8) v

abbrev pub is_vector : List ℕ → Bool
is_vector v = is_between 1 8 (length v) && list_all (is_number 8) v

unfoldable pub vector_at : List ℕ → ℕ → Read (List ℕ)
vector_at = mapped_at (λ p. p.1) (then_at (between_at 1 1 8) (λ n. members_at (λ _ _. true) (number_at 8) None n))

-- ---- the code of a kind

abbrev pub kind : Kind → List ℕ
kind k = number 1 (kind_code k)

unfoldable pub kind_at : List ℕ → ℕ → Read Kind
kind_at = mapped_at coded_kind (between_at 1 1 11)

-- ---- the bucket, the key, the code of a kind that the type has

abbrev pub is_object : (Kind → Bool) → ObjectId → Bool
is_object has o = is_text o.bucket && (is_text o.key && has o.kind)

abbrev pub object : ObjectId → List ℕ
object o = text o.bucket ++ (text o.key ++ kind o.kind)

abbrev pub object_of : List ℕ × (List ℕ × Kind) → ObjectId
object_of p = record { bucket = p.0; key = p.1.0; kind = p.1.1 }

unfoldable pub object_at : (Kind → Bool) → List ℕ → ℕ → Read ObjectId
object_at has = mapped_at object_of (then_at text_at (λ _. then_at text_at (λ _. checked_at has kind_at)))
