-- Where the bytes of a text lie.
use Rattle.std.specs.Prelude.{ℕ, List, string_bytes}
use Rattle.field_codec.specs.declared.text.Bytes.{Bytes}
use Rattle.field_codec.specs.declared.text.Bytes.TheVariants.{Inline, Apart}

unfoldable pub bytes_of : Bytes → List ℕ
bytes_of (Inline t) = t.bytes
bytes_of (Apart t) = string_bytes t
