-- What TOML's reader leaves of a text that is UTF-8 is UTF-8, and so is each string that it reads.

use Rattle.std.proofs.Common.{◌≡◌, ℕ, zero, suc, ◌+◌, ◌<◌, Bool, true, false, ◌&&◌, ◌==◌, nat_lt, nat_le, if◌then◌else◌, List, [], ◌∷◌, ◌++◌, length, take, drop, get_or, slice_index, Option, Some, None, is_some, unwrap_or, option_map, option_and_then, IfSome, IsUtf8, encode_utf8, refl, sym, subst, arith, append_assoc, append-nil, eqb-true}
use Rattle.std.proofs.lemmas.Bool.{and_parts, false≢true}
use Rattle.std.proofs.lemmas.Bool.Decides.{nat_tests}
use Rattle.std.proofs.lemmas.Str.{IsUtf8-append, IsUtf8-nil, IsUtf8-encode, IsUtf8-drop, IsCharBoundary-after_ascii, IsCharBoundary-from_rest, encode_ascii}
use Rattle.std.specs.Char.{is_digit, is_ascii_digit}
use Rattle.std.specs.List.{prefix_len, list_all}
use Rattle.std.specs.Str.{IsCharBoundary}
use Rattle.std.specs.Str.Parse.{digits_value}
use Rattle.toml_parser.specs.Lexical.{first, is_ws, is_bare, is_word, starts_newline, skip_ws, skip_turn, skip_from, skip_blank, skip_lines, split_while}
use Rattle.toml_parser.specs.Strings.{simple_escape, hex_len, is_scalar, hex_escape, escape_char, escape, is_plain, at_delims, special, prepend, after_piece, body, trim_newline, one_line, quoted, starts_string, simple_key, key_after, key}
use Rattle.toml_parser.specs.Numbers.{word_len, word_value, unquoted}
use Rattle.toml_parser.proofs.NumbersLemmas.{hex_digit_bounds}
use Rattle.toml_parser.proofs.LexicalLemmas.{within_from_byte, IsCharBoundary-ascii_run, skip_turn_ascii}
use Rattle.config_laws.proofs.TextLemmas.{cut_before, cut_after, text_utf8}

-- ---- what is found, if something is

pub if_then : {A B : Type 0} (P : A → Type 0) (Q : B → Type 0) (f : A → Option B) (o : Option A) → IfSome o P → ((a : A) → P a → IfSome (f a) Q) → IfSome (option_and_then f o) Q
if_then P Q f None h more = tt
if_then P Q f (Some a) h more = more a h

pub if_map : {A B : Type 0} (P : A → Type 0) (Q : B → Type 0) (f : A → B) (o : Option A) → IfSome o P → ((a : A) → P a → Q (f a)) → IfSome (option_map f o) Q
if_map P Q f None h more = tt
if_map P Q f (Some a) h more = more a h

pub if_test : {B : Type 0} (Q : B → Type 0) (test : Bool) (x y : Option B) → (test ≡ true → IfSome x Q) → (test ≡ false → IfSome y Q) → IfSome (if test then x else y) Q
if_test Q true x y one other = one refl
if_test Q false x y one other = other refl

pub if_weaker : {A : Type 0} (P Q : A → Type 0) (o : Option A) → IfSome o P → ((a : A) → P a → Q a) → IfSome o Q
if_weaker P Q None h more = tt
if_weaker P Q (Some a) h more = more a h

-- ---- octets at the front

-- a text may be cut before an octet below 128
cut_at : (p : List ℕ) (c : ℕ) (cs : List ℕ) → IsUtf8 (p ++ c ∷ cs) → c < 128 → IsUtf8 (c ∷ cs)
cut_at p c cs utf8 low =
    let rest = cut_after p c cs utf8 low in
    IsUtf8-append (c ∷ []) cs (text_utf8 (c ∷ []) (grind (arith, nat_tests))) rest

-- before a text whose first octet is below 128
front_utf8 : (p text : List ℕ) → IsUtf8 (p ++ text) → first text < 128 → IsUtf8 p
front_utf8 p [] utf8 low = rw (append-nil p) at utf8
front_utf8 p (c ∷ cs) utf8 low = cut_before p c cs utf8 low

back_utf8 : (p text : List ℕ) → IsUtf8 (p ++ text) → first text < 128 → IsUtf8 text
back_utf8 p [] utf8 low = IsUtf8-nil
back_utf8 p (c ∷ cs) utf8 low = cut_at p c cs utf8 low

pub drop_low : (text : List ℕ) → IsUtf8 text → first text < 128 → IsUtf8 (drop 1 text)
drop_low [] utf8 low = IsUtf8-nil
drop_low (c ∷ cs) utf8 low = cut_after [] c cs utf8 low

-- octets below 128 are dropped
drop_all_low : (p : ℕ → Bool) → ((c : ℕ) → p c ≡ true → c < 128) → (n : ℕ) (text : List ℕ) → IsUtf8 text → list_all p (take n text) ≡ true → IsUtf8 (drop n text)
drop_all_low p low zero text utf8 all = utf8
drop_all_low p low (suc n) [] utf8 all = IsUtf8-nil
drop_all_low p low (suc n) (c ∷ cs) utf8 all =
    let (here, more) = and_parts (p c) (list_all p (take n cs)) all in
    drop_all_low p low n cs (cut_after [] c cs utf8 (low c here)) more

run_low : (p : ℕ → Bool) → ((c : ℕ) → p c ≡ true → c < 128) → (text : List ℕ) → IsUtf8 text → IsUtf8 (drop (prefix_len p text) text)
run_low p low text utf8 = IsUtf8-drop text (prefix_len p text) utf8 (IsCharBoundary-ascii_run p text utf8 low)

-- ---- between tokens

pub skip_ws_utf8 : (text : List ℕ) → IsUtf8 text → IsUtf8 (skip_ws text)
unfolding skip_ws
skip_ws_utf8 text utf8 = run_low is_ws (λ c ws. grind (arith, nat_tests)) text utf8

-- a turn of it: before a comment nothing is left behind
skip_step : (comments inside : Bool) (p : List ℕ) (c : ℕ) (cs : List ℕ) (turn : Option Bool) → (inside ≡ false → p ≡ []) → IsUtf8 (p ++ c ∷ cs)
    → skip_turn comments inside c (first cs) ≡ turn
    → ((next : Bool) (q : List ℕ) → (next ≡ false → q ≡ []) → IsUtf8 (q ++ cs) → IsUtf8 (skip_from comments next cs))
    → IsUtf8 (if is_some turn then skip_from comments (unwrap_or turn false) cs else c ∷ cs)
skip_step comments false p c cs None clean utf8 is more = let none = clean refl in rw none at utf8
skip_step comments true p c cs None clean utf8 is more = cut_at p c cs utf8 (grind (arith, nat_tests))
skip_step comments inside p c cs (Some false) clean utf8 is more =
    more false [] (λ _. refl) (cut_after p c cs utf8 (skip_turn_ascii comments inside c (first cs) is))
skip_step comments inside p c cs (Some true) clean utf8 is more =
    more true (p ++ c ∷ []) (λ same. absurd (false≢true (sym same))) (rw (append_assoc p (c ∷ []) cs) utf8)

skip_from_utf8 : (comments inside : Bool) (p text : List ℕ) → (inside ≡ false → p ≡ []) → IsUtf8 (p ++ text) → IsUtf8 (skip_from comments inside text)
unfolding skip_from
skip_from_utf8 comments inside p [] clean utf8 = IsUtf8-nil
skip_from_utf8 comments inside p (c ∷ cs) clean utf8 =
    skip_step comments inside p c cs (skip_turn comments inside c (first cs)) clean utf8 refl
    (λ next q clean_next utf8_next. skip_from_utf8 comments next q cs clean_next utf8_next)

pub skip_blank_utf8 : (text : List ℕ) → IsUtf8 text → IsUtf8 (skip_blank text)
skip_blank_utf8 text utf8 = skip_from_utf8 true false [] text (λ _. refl) utf8

skip_lines_utf8 : (text : List ℕ) → IsUtf8 text → IsUtf8 (skip_lines text)
skip_lines_utf8 text utf8 = skip_from_utf8 false false [] text (λ _. refl) utf8

-- ---- escapes

-- the scalar value that was read, and the text after it
abbrev ReadsScalar : ℕ × List ℕ → Type 0
ReadsScalar r = IsUtf8 (encode_utf8 r.0) × IsUtf8 r.1

scalar_utf8 : (c : ℕ) → is_scalar c ≡ true → IsUtf8 (encode_utf8 c)
scalar_utf8 c h = IsUtf8-encode c (grind (arith, nat_tests))

hex_escape_utf8 : (n : ℕ) (text : List ℕ) → IsUtf8 text → IfSome (hex_escape n text) ReadsScalar
unfolding hex_escape
hex_escape_utf8 n text utf8 =
    let value = digits_value 16 (take n text) in
    if_test ReadsScalar ((nat_le n (length text) && list_all (λ c. is_digit c 16) (take n text)) && is_scalar value) (Some (value, drop n text)) None
    (λ is.
    let outer = and_parts _ _ is in
    let all = (and_parts _ _ outer.0).1 in
    (scalar_utf8 value outer.1, drop_all_low (λ c. is_digit c 16) (λ c digit. (hex_digit_bounds c digit).1) n text utf8 all))
    (λ is. tt)

simple_step : (c d : ℕ) → simple_escape c ≡ Some d → (c < 128) × (d < 128)
simple_step c d is = grind (arith, nat_tests)

simple_utf8 : (text : List ℕ) (o : Option ℕ) → IsUtf8 text → simple_escape (first text) ≡ o → IfSome (option_map (λ c. (c, drop 1 text)) o) ReadsScalar
simple_utf8 text None utf8 is = tt
simple_utf8 text (Some d) utf8 is =
    let (low, small) = simple_step (first text) d is in
    (rw (encode_ascii d small) (text_utf8 (d ∷ []) (grind (arith, nat_tests))), drop_low text utf8 low)

escape_char_utf8 : (text : List ℕ) → IsUtf8 text → IfSome (escape_char text) ReadsScalar
unfolding escape_char
escape_char_utf8 text utf8 =
    if_test ReadsScalar (nat_lt 0 (hex_len (first text))) (hex_escape (hex_len (first text)) (drop 1 text)) (option_map (λ c. (c, drop 1 text)) (simple_escape (first text)))
    (λ hex. hex_escape_utf8 (hex_len (first text)) (drop 1 text) (drop_low text utf8 (grind (arith, nat_tests))))
    (λ simple. simple_utf8 text (simple_escape (first text)) utf8 refl)

-- the octets that were read, and the text after them
abbrev pub ReadsText : List ℕ × List ℕ → Type 0
ReadsText r = IsUtf8 r.0 × IsUtf8 r.1

escape_utf8 : (multi : Bool) (text : List ℕ) → IsUtf8 text → IfSome (escape multi text) ReadsText
unfolding escape
escape_utf8 multi text utf8 =
    if_test ReadsText (multi && starts_newline (skip_ws text)) (Some ([], skip_lines text)) (option_map (λ p. (encode_utf8 p.0, p.1)) (escape_char text))
    (λ cut. (IsUtf8-nil, skip_lines_utf8 text utf8))
    (λ char. if_map ReadsScalar ReadsText (λ p. (encode_utf8 p.0, p.1)) (escape_char text) (escape_char_utf8 text utf8) (λ r is. is))

-- ---- strings

-- a piece that was read, or the end, and the text after it
abbrev ReadsPiece : List ℕ → Option (List ℕ) × List ℕ → Type 0
ReadsPiece p r = IsUtf8 p × IfSome r.0 IsUtf8 × IsUtf8 r.1

at_delims_utf8 : (delim : ℕ) (p text : List ℕ) → delim < 128 → IsUtf8 p → IsUtf8 text → (first text == delim) ≡ true → IfSome (at_delims delim text) (ReadsPiece p)
at_delims_utf8 delim p text low before utf8 is =
    let count = prefix_len (λ c. c == delim) text in
    let at : first text < 128 = omega (arith, eqb-true (first text) delim is) in
    if_test (ReadsPiece p) (count == 3) (Some (None, drop 3 text)) (if nat_lt count 6 then Some (Some (delim ∷ []), drop 1 text) else None)
    (λ three. (before, tt, subst (λ n. IsUtf8 (drop n text)) (eqb-true count 3 three) (run_low (λ c. c == delim) (λ c same. omega (arith, eqb-true c delim same)) text utf8)))
    (λ other. if_test (ReadsPiece p) (nat_lt count 6) (Some (Some (delim ∷ []), drop 1 text)) None
    (λ few. (before, text_utf8 (delim ∷ []) (grind (arith, nat_tests)), drop_low text utf8 at))
    (λ many. tt))

newline_low : (text : List ℕ) → starts_newline text ≡ true → first text < 128
newline_low text is = grind (arith, nat_tests)

special_utf8 : (delim : ℕ) (multi : Bool) (p text : List ℕ) → delim < 128 → IsUtf8 (p ++ text) → IfSome (special delim multi text) (ReadsPiece p)
unfolding special
special_utf8 delim multi p text low utf8 =
    if_test (ReadsPiece p) (first text == delim) (if multi then at_delims delim text else Some (None, drop 1 text)) _
    (λ is.
    let at : first text < 128 = omega (arith, eqb-true (first text) delim is) in
    let before = front_utf8 p text utf8 at in
    let here = back_utf8 p text utf8 at in
    if_test (ReadsPiece p) multi (at_delims delim text) (Some (None, drop 1 text))
    (λ lines. at_delims_utf8 delim p text low before here is)
    (λ line. (before, tt, drop_low text here at)))
    (λ other. if_test (ReadsPiece p) (first text == 92) (option_map (λ r. (Some r.0, r.1)) (escape multi (drop 1 text))) _
    (λ is.
    let at : first text < 128 = omega (arith, eqb-true (first text) 92 is) in
    let before = front_utf8 p text utf8 at in
    if_map ReadsText (ReadsPiece p) (λ r. (Some r.0, r.1)) (escape multi (drop 1 text))
    (escape_utf8 multi (drop 1 text) (drop_low text (back_utf8 p text utf8 at) at)) (λ r reads. (before, reads.0, reads.1)))
    (λ plain. if_test (ReadsPiece p) (multi && starts_newline text) (Some (Some (first text ∷ []), drop 1 text)) None
    (λ is.
    let at = newline_low text (and_parts multi (starts_newline text) is).1 in
    (front_utf8 p text utf8 at, text_utf8 (first text ∷ []) (grind (arith, nat_tests)), drop_low text (back_utf8 p text utf8 at) at))
    (λ none. tt)))

-- what stands before, the octets that were read, and the text after them
abbrev ReadsAfter : List ℕ → List ℕ × List ℕ → Type 0
ReadsAfter p r = IsUtf8 (p ++ r.0) × IsUtf8 r.1

after_piece_utf8 : (more : List ℕ → Option (List ℕ × List ℕ)) (p : List ℕ) (piece : Option (List ℕ)) (rest : List ℕ) → ReadsPiece p (piece, rest)
    → ((text : List ℕ) → IsUtf8 text → IfSome (more text) ReadsText) → IfSome (after_piece more piece rest) (ReadsAfter p)
after_piece_utf8 more p None rest reads all = (rw (append-nil p) reads.0, reads.2)
after_piece_utf8 more p (Some bytes) rest reads all =
    if_map ReadsText (ReadsAfter p) (λ r. (bytes ++ r.0, r.1)) (more rest) (all rest reads.2)
    (λ r is. (IsUtf8-append p (bytes ++ r.0) reads.0 (IsUtf8-append bytes r.0 reads.1 is.0), is.1))

plain_some : (delim : ℕ) (multi : Bool) → is_plain delim multi 0 ≡ false
plain_some delim multi = grind (arith, nat_tests)

body_utf8 : (delim : ℕ) (multi : Bool) → delim < 128 → (n : ℕ) (p text : List ℕ) → IsUtf8 (p ++ text) → IfSome (body delim multi n text) (ReadsAfter p)
unfolding body
body_utf8 delim multi low zero p text utf8 = tt
body_utf8 delim multi low (suc n) p [] utf8 =
    rw (plain_some delim multi)
    (if_then (ReadsPiece p) (ReadsAfter p) (λ r. after_piece (body delim multi n) r.0 r.1) (special delim multi []) (special_utf8 delim multi p [] low utf8)
    (λ r reads. after_piece_utf8 (body delim multi n) p r.0 r.1 reads (λ text clean. body_utf8 delim multi low n [] text clean)))
body_utf8 delim multi low (suc n) p (c ∷ cs) utf8 =
    if_test (ReadsAfter p) (is_plain delim multi c) (prepend (c ∷ []) (body delim multi n cs)) (option_and_then (λ r. after_piece (body delim multi n) r.0 r.1) (special delim multi (c ∷ cs)))
    (λ plain. if_map (ReadsAfter (p ++ c ∷ [])) (ReadsAfter p) (λ r. (c ∷ r.0, r.1)) (body delim multi n cs)
    (body_utf8 delim multi low n (p ++ c ∷ []) cs (rw (append_assoc p (c ∷ []) cs) utf8))
    (λ r is. (rw (append_assoc p (c ∷ []) r.0) at is.0, is.1)))
    (λ other. if_then (ReadsPiece p) (ReadsAfter p) (λ r. after_piece (body delim multi n) r.0 r.1) (special delim multi (c ∷ cs)) (special_utf8 delim multi p (c ∷ cs) low utf8)
    (λ r reads. after_piece_utf8 (body delim multi n) p r.0 r.1 reads (λ text clean. body_utf8 delim multi low n [] text clean)))

string_low : (text : List ℕ) → starts_string text ≡ true → first text < 128
string_low text is = grind (arith, nat_tests)

one_line_utf8 : (text : List ℕ) → IsUtf8 text → first text < 128 → IfSome (one_line text) ReadsText
unfolding one_line
one_line_utf8 text utf8 low = body_utf8 (first text) false low (length text) [] (drop 1 text) (drop_low text utf8 low)

-- three delimiters are dropped
drop_three : (text : List ℕ) → IsUtf8 text → first text < 128 → (slice_index text 1 == first text && slice_index text 2 == first text) ≡ true → IsUtf8 (drop 3 text)
drop_three [] utf8 low same = IsUtf8-nil
drop_three (a ∷ []) utf8 low same = IsUtf8-nil
drop_three (a ∷ b ∷ []) utf8 low same = IsUtf8-nil
drop_three (a ∷ b ∷ c ∷ cs) utf8 low same =
    let (one, two) = and_parts (b == a) (c == a) same in
    let b_low : b < 128 = omega (arith, eqb-true b a one) in
    let c_low : c < 128 = omega (arith, eqb-true c a two) in
    cut_after [] c cs (cut_after [] b (c ∷ cs) (cut_after [] a (b ∷ c ∷ cs) utf8 low) b_low) c_low

drop_two : (text : List ℕ) → IsUtf8 text → starts_newline text ≡ true → (first text == 10) ≡ false → IsUtf8 (drop 2 text)
drop_two [] utf8 is other = IsUtf8-nil
drop_two (a ∷ []) utf8 is other = IsUtf8-nil
drop_two (a ∷ b ∷ cs) utf8 is other =
    let a_low : a < 128 = newline_low (a ∷ b ∷ cs) is in
    let b_low : b < 128 = grind (arith, nat_tests) in
    cut_after [] b cs (cut_after [] a (b ∷ cs) utf8 a_low) b_low

utf8_test : (test : Bool) (a b : List ℕ) → (test ≡ true → IsUtf8 a) → (test ≡ false → IsUtf8 b) → IsUtf8 (if test then a else b)
utf8_test true a b one other = one refl
utf8_test false a b one other = other refl

trim_utf8 : (text : List ℕ) → IsUtf8 text → IsUtf8 (trim_newline text)
trim_utf8 text utf8 =
    utf8_test (first text == 10) (drop 1 text) (if starts_newline text then drop 2 text else text)
    (λ is. drop_low text utf8 (omega (arith, eqb-true (first text) 10 is)))
    (λ other. utf8_test (starts_newline text) (drop 2 text) text (λ is. drop_two text utf8 is other) (λ none. utf8))

pub quoted_utf8 : (text : List ℕ) → IsUtf8 text → starts_string text ≡ true → IfSome (quoted text) ReadsText
unfolding quoted
quoted_utf8 text utf8 is =
    let low = string_low text is in
    if_test ReadsText (slice_index text 1 == first text && slice_index text 2 == first text) (body (first text) true (length text) (trim_newline (drop 3 text))) (one_line text)
    (λ three. body_utf8 (first text) true low (length text) [] (trim_newline (drop 3 text)) (trim_utf8 (drop 3 text) (drop_three text utf8 low three)))
    (λ other. one_line_utf8 text utf8 low)

-- ---- keys

simple_key_utf8 : (text : List ℕ) → IsUtf8 text → IfSome (simple_key text) (λ r. IsUtf8 r.1)
unfolding simple_key
simple_key_utf8 text utf8 =
    if_test (λ r. IsUtf8 r.1) (starts_string text) (one_line text) (if is_bare (first text) then Some (split_while is_bare text) else None)
    (λ is. if_weaker ReadsText (λ r. IsUtf8 r.1) (one_line text) (one_line_utf8 text utf8 (string_low text is)) (λ r reads. reads.1))
    (λ other. if_test (λ r. IsUtf8 r.1) (is_bare (first text)) (Some (split_while is_bare text)) None
    (λ bare. run_low is_bare (λ c b. grind (arith, nat_tests)) text utf8)
    (λ none. tt))

-- a key's parts are read in at most n turns
key_after_utf8 : (n : ℕ) (path : List (List ℕ)) (text : List ℕ) → IsUtf8 text → IfSome (key_after n path text) (λ r. IsUtf8 r.1)
unfolding key_after
key_after_utf8 zero path text utf8 = tt
key_after_utf8 (suc n) path text utf8 =
    if_then (λ r. IsUtf8 r.1) (λ r. IsUtf8 r.1) _ (simple_key text) (simple_key_utf8 text utf8)
    (λ part is.
    let rest = skip_ws part.1 in
    let clean = skip_ws_utf8 part.1 is in
    if_test (λ r. IsUtf8 r.1) (first rest == 46) (key_after n (path ++ part.0 ∷ []) (skip_ws (drop 1 rest))) (Some ((path, part.0), rest))
    (λ dot. key_after_utf8 n (path ++ part.0 ∷ []) (skip_ws (drop 1 rest)) (skip_ws_utf8 (drop 1 rest) (drop_low rest clean (omega (arith, eqb-true (first rest) 46 dot)))))
    (λ none. clean))

pub key_utf8 : (text : List ℕ) → IsUtf8 text → IfSome (key text) (λ r. IsUtf8 r.1)
key_utf8 text utf8 = key_after_utf8 80 [] text utf8

-- ---- words

word_low : (c : ℕ) → is_word c ≡ true → c < 128
word_low c word = grind (arith, nat_tests)

word_step : (text : List ℕ) (joins : Bool) → IsUtf8 text → (joins ≡ true → get_or text (prefix_len is_word text) 0 ≡ 32)
    → IsCharBoundary text (if joins then prefix_len is_word text + 1 + prefix_len is_word (drop (prefix_len is_word text + 1) text) else prefix_len is_word text)
word_step text false utf8 space = IsCharBoundary-ascii_run is_word text utf8 word_low
word_step text true utf8 space =
    let len = prefix_len is_word text in
    let at : get_or text len 0 ≡ 32 = space refl in
    let within : len < length text = within_from_byte text len (omega arith) in
    let after = IsCharBoundary-after_ascii text len utf8 within (omega arith) in
    let rest = IsCharBoundary-ascii_run is_word (drop (len + 1) text) (IsUtf8-drop text (len + 1) utf8 after) word_low in
    IsCharBoundary-from_rest text (len + 1) (prefix_len is_word (drop (len + 1) text)) after.0 rest

word_ends : (text : List ℕ) → IsUtf8 text → IsCharBoundary text (word_len text)
unfolding word_len
word_ends text utf8 =
    let len = prefix_len is_word text in
    word_step text (slice_index text len == 32 && is_ascii_digit (slice_index text (len + 1))) utf8
    (λ joins. eqb-true _ _ (and_parts (slice_index text len == 32) (is_ascii_digit (slice_index text (len + 1))) joins).0)

pub unquoted_utf8 : (text : List ℕ) → IsUtf8 text → IfSome (unquoted text) (λ r. IsUtf8 r.1)
unfolding unquoted
unquoted_utf8 text utf8 =
    if_test (λ r. IsUtf8 r.1) (word_len text == 0) None (option_map (λ d. (d, drop (word_len text) text)) (word_value (take (word_len text) text)))
    (λ none. tt)
    (λ some. if_map (λ d. Unit {0}) (λ r. IsUtf8 r.1) (λ d. (d, drop (word_len text) text)) (word_value (take (word_len text) text)) (any (word_value (take (word_len text) text)))
    (λ d u. IsUtf8-drop text (word_len text) utf8 (word_ends text utf8)))
  where
    any : {A : Type 0} (o : Option A) → IfSome o (λ a. Unit {0})
    any None = tt
    any (Some a) = tt
