-- How values are written, as JSON without spaces.
use Rattle.std.specs.Prelude.{ℕ, List, [], ◌++◌, if◌then◌else◌, codes, fold}
use Rattle.std.specs.List.{join_by}
use Rattle.std.specs.Fmt.{signed_decimal}
use Rattle.std.specs.Ordering.{nat_cmp}
use Rattle.std.specs.Cmp.Lexicographic.{slice_cmp}
use Rattle.std.specs.BTreeMap.{insert_entry}
use Rattle.crdt_core.specs.declared.object.Field.{Field}
use Rattle.crdt_core.specs.declared.value.Value.{Value, fold-Value}
use Rattle.crdt_core.specs.declared.value.Value.TheOpen.{Value-F}
use Rattle.json.specs.Print.{quoted}
use Rattle.script_words.specs.Kinds.{kind_name}

-- the name of a field's member: its kind, a colon and its name
abbrev pub member_name : Field → List ℕ
member_name f = kind_name f.kind ++ codes ":" ++ f.name

-- the members of the fields, sorted by the bytes of their names
abbrev pub members : List (Field × List ℕ) → List (List ℕ × List ℕ)
members = fold (λ ms f. insert_entry (slice_cmp nat_cmp) ms (member_name f.0) f.1) []

abbrev pub member_text : List ℕ × List ℕ → List ℕ
member_text m = quoted m.0 ++ codes ":" ++ m.1

abbrev pub array_text : List (List ℕ) → List ℕ
array_text ws = codes "[" ++ join_by quoted (codes ",") ws ++ codes "]"

abbrev pub object_text : List (List ℕ × List ℕ) → List ℕ
object_text ms = codes "{" ++ join_by member_text (codes ",") ms ++ codes "}"

-- one level, with the text of each value inside in its place
abbrev pub value_step : Value-F (List ℕ) → List ℕ
value_step (Value-F.Int n) = signed_decimal n
value_step (Value-F.Flag b) = if b then codes "true" else codes "false"
value_step (Value-F.Word w) = quoted w
value_step (Value-F.Words ws) = array_text ws
value_step (Value-F.Fields fs) = object_text (members fs)

abbrev pub value_text : Value → List ℕ
value_text = fold-Value (List ℕ) value_step
