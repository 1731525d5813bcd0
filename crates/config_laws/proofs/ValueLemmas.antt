-- A basic string, a number and a moment are read back as they were written.

use Rattle.std.proofs.Common.{◌≡◌, ℕ, suc, ◌^◌, ◌<◌, true, false, ◌&&◌, ◌||◌, ◌==◌, pos, List, [], ◌∷◌, ◌++◌, length, slice_index, Some, refl, ◌∙◌, inl, inr, arith, append_assoc}
use Rattle.std.proofs.lemmas.Bool.{cases_Bool, and_parts}
use Rattle.std.proofs.lemmas.Bool.Decides.{nat_tests}
use Rattle.std.specs.List.{list_all}
use Rattle.std.specs.Fmt.{decimal}
use Rattle.toml_parser.specs.declared.scalar.Scalar.{Scalar}
use Rattle.toml_parser.specs.declared.scalar.Scalar.TheVariants.{Integer}
use Rattle.toml_parser.specs.Lexical.{first, is_word}
use Rattle.toml_parser.specs.Strings.{one_line, quoted}
use Rattle.toml_writer.specs.Text.{basic, encoded, escaped, needs_escape}
use Rattle.toml_writer.proofs.Escapes.{Escaped-needed, apart_from_plain, needs_quote}
use Rattle.toml_writer.proofs.Bodies.{escaped-cons, escaped-nil, body_escaped}
use Rattle.toml_writer.proofs.Scalars.{IsWord, IsWord-pos, unquoted-word}
use Rattle.toml.specs.Data.{string, integer}
use Rattle.toml.specs.Parse.{atom, scalar_data}
use Rattle.toml.proofs.Turns.{val_atom}
use Rattle.config_laws.proofs.LineLemmas.{IsValue}

-- ---- strings

-- what is written of an octet doesn't begin with a quote
no_quote : (c : ℕ) (cs tail : List ℕ) → (first (escaped false 0 (c ∷ cs) ++ tail) == 34) ≡ false
no_quote c cs tail =
    elim (cases_Bool (needs_escape false 0 c)) [
      | inl needed ↦ rw (escaped-cons false 0 c cs tail, needed, (Escaped-needed false 0 c needed).text) refl
      | inr plain ↦ rw (escaped-cons false 0 c cs tail, plain) (apart_from_plain false 0 c 34 plain (needs_quote 0))
    ]

-- so the quotes at its front are no three, which would begin a string of several lines
no_three : (s rest : List ℕ) → (first rest == 34) ≡ false
    → (first (escaped false 0 s ++ 34 ∷ rest) == 34 && slice_index (escaped false 0 s ++ 34 ∷ rest) 1 == 34) ≡ false
no_three [] rest stop = rw (escaped-nil false 0) stop
no_three (c ∷ cs) rest stop = rw (no_quote c cs (34 ∷ rest)) refl

quoted-basic : (s rest : List ℕ) → (first rest == 34) ≡ false → quoted (34 ∷ (escaped false 0 s ++ 34 ∷ rest)) ≡ Some (s, rest)
unfolding quoted one_line
quoted-basic s rest stop =
    let text = escaped false 0 s ++ 34 ∷ rest in
    rw (no_three s rest stop) (body_escaped false s rest 0 (suc (length text)) (omega arith) stop (omega arith))

pub string_value : (s : List ℕ) → IsValue (encoded basic s) (string s)
unfolding atom
string_value s = record {
  starts = λ rest. refl;
  reads = λ rest ends.
      let text = 34 ∷ (escaped false 0 s ++ 34 ∷ rest) in
      let same : encoded basic s ++ rest ≡ text = simp append_assoc refl in
      rw same (val_atom 80 text refl refl ∙ rw (quoted-basic s rest ends.0.0) refl);
}

-- ---- words

-- an octet of a word begins no string, no list and no table
begins_word : (c : ℕ) → is_word c ≡ true → ((c == 91) ≡ false) × ((c == 123) ≡ false) × ((c == 34 || c == 39) ≡ false)
begins_word c word = (grind (arith, nat_tests), grind (arith, nat_tests), grind (arith, nat_tests))

pub word_value : (w : List ℕ) (d : Scalar) → IsWord w d → IsValue w (scalar_data d)
unfolding atom
word_value [] d h = let some = h.some in absurd (omega arith)
word_value (c ∷ cs) d h =
    let word = (and_parts (is_word c) (list_all is_word cs) h.all).0 in
    let (list, table, text) = begins_word c word in
    record {
      starts = λ rest. rw word refl;
      reads = λ rest ends.
          val_atom 80 (c ∷ cs ++ rest) list table
          ∙ rw (text, unquoted-word (c ∷ cs) rest d h.some h.all ends.1 h.value) refl;
    }

pub number_value : (n : ℕ) → n < 2 ^ 63 → IsValue (decimal n) (integer (pos n))
number_value n small = word_value (decimal n) (Integer (pos n)) (IsWord-pos n small)
