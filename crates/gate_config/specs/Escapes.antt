-- An octet of a basic string, as the writer of TOML spells it.

use Rattle.std.specs.Prelude.{ℕ, ◌/◌, ◌%◌, false, true, List, [], ◌∷◌, ◌++◌, codes, if◌then◌else◌}
use Rattle.std.specs.Fmt.{digit_glyph}
use Rattle.toml_writer.specs.Text.{needs_escape, escape_text}

abbrev pub octet_text : ℕ → List ℕ
octet_text octet = if needs_escape false 0 octet then escape_text octet else octet ∷ []

abbrev pub code_text : ℕ → List ℕ
code_text octet =
    codes "\\u00" ++ digit_glyph true (octet / 16) ∷ digit_glyph true (octet % 16) ∷ []
