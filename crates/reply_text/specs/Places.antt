-- How vectors, texts and objects are written in a reply.
use Rattle.std.specs.Prelude.{ℕ, List, [], ◌∷◌, ◌++◌, if◌then◌else◌, codes, decimal}
use Rattle.std.specs.List.{join_by}
use Rattle.crdt_core.specs.declared.object.ObjectId.{ObjectId}
use Rattle.json.specs.Print.{quoted}
use Rattle.script_words.specs.Bare.{is_bare}
use Rattle.script_words.specs.Kinds.{kind_name}

-- the entries in the order of the sites, as [101,0,7]
abbrev pub vector_text : List ℕ → List ℕ
vector_text v = codes "[" ++ join_by decimal (codes ",") v ++ codes "]"

-- bare where it may be, and else as JSON writes a text
abbrev pub word_text : List ℕ → List ℕ
word_text w = if is_bare w then w else quoted w

-- the bucket of an object, where it isn't empty
abbrev pub bucket_text : List ℕ → List ℕ
bucket_text [] = []
bucket_text (c ∷ cs) = codes " @" ++ word_text (c ∷ cs)

-- key, kind and bucket, as milk counter_pn @shop
abbrev pub object_text : ObjectId → List ℕ
object_text o = word_text o.key ++ codes " " ++ kind_name o.kind ++ bucket_text o.bucket

-- the number of a message, as m3, and of a report, as g3
abbrev pub message_text : ℕ → List ℕ
message_text n = codes "m" ++ decimal n

abbrev pub report_text : ℕ → List ℕ
report_text n = codes "g" ++ decimal n

-- the times above lo up to hi
abbrev pub interval_text : ℕ → ℕ → List ℕ
interval_text lo hi = codes "(" ++ decimal lo ++ codes "," ++ decimal hi ++ codes "]"
