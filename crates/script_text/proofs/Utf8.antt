-- Which bytes are UTF-8.
use Rattle.std.proofs.Common.{arith, ap, ◌∙◌, ◌≡◌, ℕ, List, Option, Some, None, true, ◌<◌, if◌then◌else◌, eq-eqb}
use Rattle.std.specs.Str.{IsUtf8}
use Rattle.std.proofs.lemmas.Str.{utf8_valid_len-IsUtf8, IsUtf8-from_ascii}
use Rattle.std.specs.List.{list_all}
use Rattle.std.proofs.lemmas.List.Sums.{AllPass-from_list_all}
use Rattle.std.proofs.lemmas.Str.Ascii.{IsAscii-from_all}
use Rattle.std.specs.Prelude.{option_and_then}
use Rattle.std.proofs.lemmas.Bool.Decides.{nat_tests}
use Rattle.serde_json.specs.Read.{read}
use Rattle.serde_json.specs.Find.{as_str}
use Rattle.script_text.specs.Ascii.{is_ascii_byte}
use Rattle.script_text.specs.Texts.{string_of, at_most_256}

below_128 : (c : ℕ) → is_ascii_byte c ≡ true → c < 128
below_128 c h = grind (arith, nat_tests)

pub ascii_utf8 : (w : List ℕ) → list_all is_ascii_byte w ≡ true → IsUtf8 w
ascii_utf8 w h = IsUtf8-from_ascii w (IsAscii-from_all w (λ k d within. below_128 _ (AllPass-from_list_all is_ascii_byte w h k d within)))

-- a text is UTF-8, so the string is what it is read as
string_read : (w : List ℕ) → IsUtf8 w → string_of w ≡ option_and_then as_str (read w)
string_read w h = ap (λ b. if b then option_and_then as_str (read w) else None) (eq-eqb _ _ (utf8_valid_len-IsUtf8 w h))

pub string_is : (w s : List ℕ) (t : Option (List ℕ)) → IsUtf8 w → option_and_then as_str (read w) ≡ Some s → at_most_256 s ≡ t → option_and_then at_most_256 (string_of w) ≡ t
string_is w s t h e fits = ap (option_and_then at_most_256) (string_read w h ∙ e) ∙ fits

pub string_none : (w : List ℕ) → IsUtf8 w → option_and_then as_str (read w) ≡ None → option_and_then at_most_256 (string_of w) ≡ None
string_none w h e = ap (option_and_then at_most_256) (string_read w h ∙ e)
