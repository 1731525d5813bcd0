-- A line that is shown is read as the expression that it spells, and a text of such lines as all of them.

use Rattle.std.proofs.Common.{◌≡◌, ℕ, ◌-◌, ◌<◌, true, false, ◌==◌, List, [], ◌∷◌, ◌++◌, length, codes, Option, Some, None, option_and_then, refl, ap, ◌∙◌, arith, append_assoc, length-append}
use Rattle.std.proofs.lemmas.Bool.Decides.{nat_tests}
use Rattle.toml_parser.specs.Lexical.{first, skip_blank, skip_ws}
use Rattle.toml_parser.specs.Strings.{Key}
use Rattle.toml_parser.proofs.LexicalLemmas.{skip_ws_none, skip_from-nil}
use Rattle.toml_writer.specs.Text.{key_text}
use Rattle.toml_writer.proofs.Strings.{is_key_start-key_text}
use Rattle.toml.specs.Data.{Data}
use Rattle.toml.specs.Tables.{Document, Expression, define, key_value}
use Rattle.toml.specs.Parse.{keyval, val, expression, ends_line, line, lines}
use Rattle.toml.proofs.Turns.{keyval_ok, lines_end, lines_more, lines_refused}
use Rattle.toml.proofs.Blanks.{starts_value, skip_start, skip_newline, skip_within}
use Rattle.toml.proofs.ReadValues.{EndsValue, key_equals-pair}
use Rattle.toml.proofs.ReadLines.{run, Turn}

-- ---- one line

-- whatever follows, the line is read as this expression
abbrev pub IsLine : Expression → List ℕ → Type 0
IsLine e this = (rest : List ℕ) → Turn e.0 e.1 (this ++ rest) rest

-- whatever may follow a value, the text is read as this value
pub record IsValue (text : List ℕ) (d : Data) : Type 0 where
  pub starts : (rest : List ℕ) → starts_value (first (text ++ rest)) ≡ true
  pub reads : (rest : List ℕ) → EndsValue rest → val 80 (text ++ rest) ≡ Some (d, rest)

-- a line feed ends a line
line_ends : (rest : List ℕ) → ends_line (skip_ws (10 ∷ rest)) ≡ true
line_ends rest = rw (skip_ws_none (10 ∷ rest) refl) (grind (arith, nat_tests))

-- key and value are read as such, up to the line's end
pair_read : (k v rest : List ℕ) (d : Data) → IsValue v d
    → keyval (val 80) (key_text k ++ (codes " = " ++ (v ++ 10 ∷ rest))) ≡ Some ((([], k), d), 10 ∷ rest)
pair_read k v rest d value =
    keyval_ok (val 80) (key_text k ++ (codes " = " ++ (v ++ 10 ∷ rest))) (v ++ 10 ∷ rest) (10 ∷ rest) ([], k) d
    (key_equals-pair k (v ++ 10 ∷ rest) (value.starts (10 ∷ rest))) (value.reads (10 ∷ rest) ((refl, refl), (refl, refl)))

-- a line that doesn't begin as a header, and is read as key and value
line_of_pair : (text rest : List ℕ) (key : Key) (d : Data) → (first text == 91) ≡ false → keyval (val 80) text ≡ Some ((key, d), 10 ∷ rest)
    → line text ≡ Some ((key, key_value d), 10 ∷ rest)
unfolding line expression
line_of_pair text rest key d other read = rw (other, read, line_ends rest) refl

-- how a key's text begins
record Begins (text : List ℕ) : Type 0 where
  value : starts_value (first text) ≡ true
  no_header : (first text == 91) ≡ false
  no_mark : (first text == 239) ≡ false

key_begins : (k rest : List ℕ) → Begins (key_text k ++ rest)
key_begins k rest =
    let key_first = is_key_start-key_text k rest in
    record { value = grind (arith, nat_tests); no_header = grind (arith, nat_tests); no_mark = grind (arith, nat_tests) }

-- a key and its value
pub pair_turn : (k v : List ℕ) (d : Data) → IsValue v d
    → IsLine (([], k), key_value d) (key_text k ++ (codes " = " ++ (v ++ codes "\n")))
pair_turn k v d value rest =
    let s = key_text k ++ (codes " = " ++ (v ++ 10 ∷ rest)) in
    let same : (key_text k ++ (codes " = " ++ (v ++ codes "\n"))) ++ rest ≡ s = simp append_assoc refl in
    let begins = key_begins k (codes " = " ++ (v ++ 10 ∷ rest)) in
    let key_size = length-append (key_text k) (codes " = " ++ (v ++ 10 ∷ rest)) in
    let value_size = length-append v (10 ∷ rest) in
    rw same (
      s,
      skip_start s begins.value,
      line_of_pair s rest ([], k) d begins.no_header (pair_read k v rest d value),
      omega (arith, key_size),
      omega (arith, key_size, value_size),
      begins.no_mark,
    )

-- ---- a text of lines

-- the text spells these expressions, a line each
abbrev pub AreLines : List Expression → List ℕ → Type 0
AreLines [] text = text ≡ []
AreLines (e ∷ es) text = (this : List ℕ) × (more : List ℕ) × (text ≡ this ++ more) × IsLine e this × AreLines es more

pub AreLines-append : (es fs : List Expression) (t u : List ℕ) → AreLines es t → AreLines fs u → AreLines (es ++ fs) (t ++ u)
AreLines-append [] fs t u none second = rw none second
AreLines-append (e ∷ es) fs t u front second =
    let (this, more, whole, at, rest) = front in
    (this, more ++ u, rw whole (append_assoc this more u), at, AreLines-append es fs more u rest second)

-- one line more, whether it is refused or goes on
one_more : (es : List Expression) (e : Expression) (x after : List ℕ) (doc : Document) (m : ℕ) → 0 < m
    → (length (skip_blank x) == 0) ≡ false → line (skip_blank x) ≡ Some (e, after)
    → ((next : Document) → lines (m - 1) next after ≡ run next es) → lines m doc x ≡ run doc (e ∷ es)
one_more es e x after doc m some other read more = by (define doc e) refl
  where
    by : (made : Option Document) → define doc e ≡ made → lines m doc x ≡ option_and_then (λ next. run next es) made
    by None none = lines_refused m doc x e after some other read none
    by (Some next) is = lines_more m doc next x e after some other read is ∙ more next

pub read_lines : (es : List Expression) (text x : List ℕ) (doc : Document) (m : ℕ) → AreLines es text
    → skip_blank x ≡ skip_blank text → length x < m → lines m doc x ≡ run doc es
read_lines [] text x doc m none skip room = lines_end m doc x (omega arith) (rw (skip, none, skip_from-nil true false) refl)
read_lines (e ∷ es) text x doc m (this, rest, whole, at, more) skip room =
    let (s, at_start, read, some, shorter, mark) = at rest in
    let here : skip_blank x ≡ s = skip ∙ rw whole at_start in
    let other : (length s == 0) ≡ false = grind (arith, nat_tests) in
    let size = skip_within x in
    one_more es e x (10 ∷ rest) doc m (omega arith) (rw here other) (rw here read)
    (λ next. read_lines es rest (10 ∷ rest) next (m - 1) more (skip_newline rest) (omega (arith, ap length here)))

pub not_bom : (es : List Expression) (text : List ℕ) → AreLines es text → (first text == 239) ≡ false
not_bom [] text h = rw h refl
not_bom (e ∷ es) text h =
    let (this, rest, whole, at, more) = h in
    rw whole (at rest).5
