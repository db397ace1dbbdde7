-- Objects as they are printed are read as the same objects.
use Rattle.std.proofs.Common.{◌≡◌, ℕ, true, List, [], ◌∷◌, ◌++◌, Option, Some, None, option_map, option_and_then, refl, sym, ap, ◌∙◌, append_assoc, append-nil}
use Rattle.std.specs.List.{list_all}
use Rattle.crdt_core.specs.declared.kind.Kind.{Kind}
use Rattle.crdt_core.specs.declared.kind.Kind.TheVariants as kind
use Rattle.crdt_core.specs.declared.object.ObjectId.{ObjectId}
use Rattle.script_words.specs.Kinds.{kind_name, kind_named}
use Rattle.script_words.proofs.KindNames.{named}
use Rattle.field_codec.specs.Spelling.{is_text}
use Rattle.script_text.specs.Split.{words, space, is_some_bytes}
use Rattle.script_text.specs.Objects.{object, bucket, field, field_of, object_of}
use Rattle.reply_text.specs.Places.{word_text, bucket_text, object_text}
use Rattle.read_back.specs.ReadBack.{ReadsBackObject}
use Rattle.read_back.proofs.Cutting.{IsUncut, is_inner, inner_both, is_plain, plain_uncut, uncut_both, ending, words-uncut, text_uncut, text_some}
use Rattle.read_back.proofs.QuotedTexts.{text-word_text}

pub kind_uncut : (k : Kind) → IsUncut (kind_name k)
kind_uncut k = plain_uncut (kind_name k) (plain k)
  where
    plain : (k : Kind) → list_all is_plain (kind_name k) ≡ true
    plain kind.CounterPn = refl
    plain kind.CounterFat = refl
    plain kind.SetGo = refl
    plain kind.SetAw = refl
    plain kind.SetRw = refl
    plain kind.FlagEw = refl
    plain kind.FlagDw = refl
    plain kind.RegisterLww = refl
    plain kind.RegisterMv = refl
    plain kind.MapGo = refl
    plain kind.MapRr = refl

kind_some : (k : Kind) → is_some_bytes (kind_name k) ≡ true
kind_some kind.CounterPn = refl
kind_some kind.CounterFat = refl
kind_some kind.SetGo = refl
kind_some kind.SetAw = refl
kind_some kind.SetRw = refl
kind_some kind.FlagEw = refl
kind_some kind.FlagDw = refl
kind_some kind.RegisterLww = refl
kind_some kind.RegisterMv = refl
kind_some kind.MapGo = refl
kind_some kind.MapRr = refl

words-text : (t : List ℕ) (e : Option (List ℕ)) → words (word_text t ++ ending e) ≡ word_text t ∷ words (ending e)
words-text t e = words-uncut (word_text t) e (text_uncut t) (text_some t)

words-kind : (k : Kind) (e : Option (List ℕ)) → words (kind_name k ++ ending e) ≡ kind_name k ∷ words (ending e)
words-kind k e = words-uncut (kind_name k) e (kind_uncut k) (kind_some k)

-- an at sign and a text are one word
named_bucket : (t : List ℕ) → IsUncut (64 ∷ word_text t)
named_bucket t = uncut_both (64 ∷ []) (word_text t) (plain_uncut (64 ∷ []) refl) (text_uncut t)

words-bucket : (t : List ℕ) (e : Option (List ℕ)) → words ((64 ∷ word_text t) ++ ending e) ≡ (64 ∷ word_text t) ∷ words (ending e)
words-bucket t e = words-uncut (64 ∷ word_text t) e (named_bucket t) refl

abbrev pub bucket_words : List ℕ → List (List ℕ)
bucket_words [] = []
bucket_words (c ∷ cs) = (64 ∷ word_text (c ∷ cs)) ∷ []

words-kind_bucket : (k : Kind) (b : List ℕ) (e : Option (List ℕ)) → words ((kind_name k ++ bucket_text b) ++ ending e) ≡ kind_name k ∷ (bucket_words b ++ words (ending e))
words-kind_bucket k [] e = ap (λ w. words (w ++ ending e)) (append-nil (kind_name k)) ∙ words-kind k e
words-kind_bucket k (c ∷ cs) e =
    let more : List ℕ = (64 ∷ word_text (c ∷ cs)) ++ ending e in
    ap words (append_assoc (kind_name k) (bucket_text (c ∷ cs)) (ending e)) ∙ words-kind k (Some more) ∙ ap (λ ws. kind_name k ∷ ws) (words-bucket (c ∷ cs) e)

pub words-object : (o : ObjectId) (e : Option (List ℕ)) → words (object_text o ++ ending e) ≡ word_text o.key ∷ kind_name o.kind ∷ (bucket_words o.bucket ++ words (ending e))
words-object o e =
    let more : List ℕ = kind_name o.kind ++ bucket_text o.bucket in
    ap (λ l. words (l ++ ending e)) (append_assoc (word_text o.key ++ space ∷ []) (kind_name o.kind) (bucket_text o.bucket) ∙ append_assoc (word_text o.key) (space ∷ []) more)
    ∙ ap words (append_assoc (word_text o.key) (space ∷ more) (ending e)) ∙ words-text o.key (Some (more ++ ending e))
    ∙ ap (λ ws. word_text o.key ∷ ws) (words-kind_bucket o.kind o.bucket e)

-- ---- no byte of it ends the line

inner_bucket : (b : List ℕ) → list_all is_inner (bucket_text b) ≡ true
inner_bucket [] = refl
inner_bucket (c ∷ cs) = (named_bucket (c ∷ cs)).inner

pub inner_object : (o : ObjectId) → list_all is_inner (object_text o) ≡ true
inner_object o =
    let key : List ℕ = word_text o.key ++ space ∷ [] in
    let name : List ℕ = key ++ kind_name o.kind in
    let inner_key : list_all is_inner key ≡ true = inner_both (word_text o.key) (space ∷ []) (text_uncut o.key).inner refl in
    inner_both name (bucket_text o.bucket) (inner_both key (kind_name o.kind) inner_key (kind_uncut o.kind).inner) (inner_bucket o.bucket)

-- ---- what they are read as

read-bucket : (b : List ℕ) (ws : List (List ℕ)) → is_text b ≡ true → (b ≡ [] → bucket ws ≡ Some ([], ws)) → bucket (bucket_words b ++ ws) ≡ Some (b, ws)
read-bucket [] ws h none = none refl
read-bucket (c ∷ cs) ws h none = ap (option_map (λ t. (t, ws))) (text-word_text (c ∷ cs) h)

read-field : (t : List ℕ) (k : Kind) → is_text t ≡ true → field (word_text t) (kind_name k) ≡ Some (field_of t k)
read-field t k h = ap (option_and_then (λ t. option_map (λ kind. field_of t kind) (kind_named (kind_name k)))) (text-word_text t h) ∙ ap (option_map (λ kind. field_of t kind)) (named k)

read-object : (o : ObjectId) (e : Option (List ℕ)) → is_text o.key ≡ true → is_text o.bucket ≡ true → (o.bucket ≡ [] → bucket (words (ending e)) ≡ Some ([], words (ending e)))
    → object (words (object_text o ++ ending e)) ≡ Some (o, words (ending e))
read-object o e key in_bucket none =
    let ws : List (List ℕ) = words (ending e) in
    ap object (words-object o e)
    ∙ ap (option_and_then (λ f. option_map (λ b. (object_of f.name f.kind b.0, b.1)) (bucket (bucket_words o.bucket ++ ws)))) (read-field o.key o.kind key)
    ∙ ap (option_map (λ b. (object_of o.key o.kind b.0, b.1))) (read-bucket o.bucket ws in_bucket none)

pub reads_back_object : (o : ObjectId) → is_text o.key ≡ true → is_text o.bucket ≡ true → ReadsBackObject o
reads_back_object o key in_bucket = record {
  followed = λ rest none. read-object o (Some rest) key in_bucket none;
  last = ap (λ l. object (words l)) (sym (append-nil (object_text o))) ∙ read-object o None key in_bucket (λ e. refl);
}
