-- Each string in the document that TOML's reader makes of a text that is UTF-8 is UTF-8.

use Rattle.std.proofs.Common.{◌≡◌, ℕ, zero, suc, ◌<◌, Bool, true, false, ◌&&◌, ◌==◌, if◌then◌else◌, Ordering, Less, Equal, Greater, nat_cmp, List, [], ◌∷◌, ◌++◌, length, drop, slice_index, Option, Some, None, IfSome, IsUtf8, refl, arith, eqb-true}
use Rattle.std.proofs.lemmas.Bool.{and_parts}
use Rattle.std.proofs.lemmas.Str.{IsUtf8-drop}
use Rattle.std.specs.Cmp.Lexicographic.{slice_cmp}
use Rattle.std.specs.Ordering.{match_ordering}
use Rattle.toml_parser.specs.declared.scalar.Scalar.{Scalar}
use Rattle.toml_parser.specs.declared.scalar.Scalar.TheVariants.{Boolean, Integer, Float, Datetime}
use Rattle.toml_parser.specs.Lexical.{first, skip_ws, skip_blank}
use Rattle.toml_parser.specs.Strings.{Key, key, quoted, starts_string}
use Rattle.toml_parser.specs.Numbers.{unquoted}
use Rattle.toml.specs.Data.{Data, string, integer, float, boolean, datetime, array, table, Items, no_items, item, Members, no_members, member, push_item, same_key}
use Rattle.toml.specs.Tables.{implicit, dotted, header, Node, value, open_table, open_array, Nodes, no_nodes, node, Edit, Definition, key_value, std_table, array_table, Expression, Document, get_node, insert, replace, close, close_node, header_node, dot_node, by_header, by_dot, along_header, along_dots, new_node, redefine, at_found, at_key, put, define}
use Rattle.toml.specs.Parse.{read_map, after_byte, after_element, key_equals, keyval, items, members, scalar_data, atom, val, header_key, expression, ends_line, line, lines, skip_bom, parse_document}
use Rattle.toml.proofs.Turns.{bom_boundary}
use Rattle.config_laws.proofs.Utf8Lemmas.{if_then, if_map, if_test, skip_ws_utf8, skip_blank_utf8, ReadsText, quoted_utf8, key_utf8, unquoted_utf8, drop_low}

-- ---- data whose strings are UTF-8

abbrev mutual
  pub IsClean : Data → Type 0
  IsClean (string s) = IsUtf8 s
  IsClean (integer z) = Unit {0}
  IsClean (float x) = Unit {0}
  IsClean (boolean b) = Unit {0}
  IsClean (datetime when) = Unit {0}
  IsClean (array ds) = AreClean ds
  IsClean (table ms) = HasClean ms

  pub AreClean : Items → Type 0
  AreClean no_items = Unit {0}
  AreClean (item d ds) = IsClean d × AreClean ds

  pub HasClean : Members → Type 0
  HasClean no_members = Unit {0}
  HasClean (member k d ms) = IsClean d × HasClean ms

abbrev mutual
  pub NodeClean : Node → Type 0
  NodeClean (value d) = IsClean d
  NodeClean (open_table origin ns) = NodesClean ns
  NodeClean (open_array done last) = AreClean done × NodesClean last

  pub NodesClean : Nodes → Type 0
  NodesClean no_nodes = Unit {0}
  NodesClean (node k x ns) = NodeClean x × NodesClean ns

-- ---- tables

push_clean : (ds : Items) (d : Data) → AreClean ds → IsClean d → AreClean (push_item ds d)
push_clean no_items d are is = (is, tt)
push_clean (item e ds) d are is = (are.0, push_clean ds d are.1 is)

mutual
  close_clean : (ns : Nodes) → NodesClean ns → HasClean (close ns)
  close_clean no_nodes h = tt
  close_clean (node k x ns) h = (close_node_clean x h.0, close_clean ns h.1)

  close_node_clean : (x : Node) → NodeClean x → IsClean (close_node x)
  close_node_clean (value d) h = h
  close_node_clean (open_table origin ns) h = close_clean ns h
  close_node_clean (open_array done last) h = push_clean done (table (close last)) h.0 (close_clean last h.1)

by_order : (o : Ordering) (a b c : Nodes) → NodesClean a → NodesClean b → NodesClean c → NodesClean (match_ordering o a b c)
by_order Less a b c one two three = one
by_order Equal a b c one two three = two
by_order Greater a b c one two three = three

insert_clean : (k : List ℕ) (x : Node) (ns : Nodes) → NodeClean x → NodesClean ns → NodesClean (insert k x ns)
insert_clean k x no_nodes new h = (new, tt)
insert_clean k x (node l y ns) new h =
    by_order (slice_cmp nat_cmp k l) (node k x (node l y ns)) (node l x ns) (node l y (insert k x ns))
    (new, h) (new, h.1) (h.0, insert_clean k x ns new h.1)

by_same : (same : Bool) (a b : Nodes) → NodesClean a → NodesClean b → NodesClean (if same then a else b)
by_same true a b one two = one
by_same false a b one two = two

replace_clean : (k : List ℕ) (x : Node) (ns : Nodes) → NodeClean x → NodesClean ns → NodesClean (replace k x ns)
replace_clean k x no_nodes new h = tt
replace_clean k x (node l y ns) new h = by_same (same_key k l) (node l x ns) (node l y (replace k x ns)) (new, h.1) (h.0, replace_clean k x ns new h.1)

get_clean : (k : List ℕ) (ns : Nodes) → NodesClean ns → IfSome (get_node k ns) NodeClean
get_clean k no_nodes h = tt
get_clean k (node l x ns) h = if_test NodeClean (same_key k l) (Some x) (get_node k ns) (λ same. h.0) (λ other. get_clean k ns h.1)

-- the change keeps it so
abbrev Keeps : Edit → Type 0
Keeps edit = (ns : Nodes) → NodesClean ns → IfSome (edit ns) NodesClean

header_node_clean : (edit : Edit) (x : Node) → Keeps edit → NodeClean x → IfSome (header_node edit x) NodeClean
header_node_clean edit (value d) keeps h = tt
header_node_clean edit (open_table origin ns) keeps h = if_map NodesClean NodeClean (open_table origin) (edit ns) (keeps ns h) (λ new is. is)
header_node_clean edit (open_array done last) keeps h = if_map NodesClean NodeClean (open_array done) (edit last) (keeps last h.1) (λ new is. (h.0, is))

dot_node_clean : (edit : Edit) (x : Node) → Keeps edit → NodeClean x → IfSome (dot_node edit x) NodeClean
dot_node_clean edit (value d) keeps h = tt
dot_node_clean edit (open_table header ns) keeps h = tt
dot_node_clean edit (open_table implicit ns) keeps h = if_map NodesClean NodeClean (open_table dotted) (edit ns) (keeps ns h) (λ new is. is)
dot_node_clean edit (open_table dotted ns) keeps h = if_map NodesClean NodeClean (open_table dotted) (edit ns) (keeps ns h) (λ new is. is)
dot_node_clean edit (open_array done last) keeps h = tt

by_header_clean : (k : List ℕ) (edit : Edit) (ns : Nodes) (o : Option Node) → Keeps edit → NodesClean ns → IfSome o NodeClean → IfSome (by_header k edit ns o) NodesClean
by_header_clean k edit ns None keeps h found =
    if_map NodesClean NodesClean (λ new. insert k (open_table implicit new) ns) (edit no_nodes) (keeps no_nodes tt) (λ new is. insert_clean k (open_table implicit new) ns is h)
by_header_clean k edit ns (Some x) keeps h found =
    if_map NodeClean NodesClean (λ new. replace k new ns) (header_node edit x) (header_node_clean edit x keeps found) (λ new is. replace_clean k new ns is h)

by_dot_clean : (k : List ℕ) (edit : Edit) (ns : Nodes) (o : Option Node) → Keeps edit → NodesClean ns → IfSome o NodeClean → IfSome (by_dot k edit ns o) NodesClean
by_dot_clean k edit ns None keeps h found =
    if_map NodesClean NodesClean (λ new. insert k (open_table dotted new) ns) (edit no_nodes) (keeps no_nodes tt) (λ new is. insert_clean k (open_table dotted new) ns is h)
by_dot_clean k edit ns (Some x) keeps h found =
    if_map NodeClean NodesClean (λ new. replace k new ns) (dot_node edit x) (dot_node_clean edit x keeps found) (λ new is. replace_clean k new ns is h)

along_header_clean : (path : List (List ℕ)) (edit : Edit) → Keeps edit → Keeps (along_header path edit)
unfolding along_header
along_header_clean [] edit keeps ns h = keeps ns h
along_header_clean (k ∷ path) edit keeps ns h =
    by_header_clean k (along_header path edit) ns (get_node k ns) (along_header_clean path edit keeps) h (get_clean k ns h)

along_dots_clean : (path : List (List ℕ)) (edit : Edit) → Keeps edit → Keeps (along_dots path edit)
unfolding along_dots
along_dots_clean [] edit keeps ns h = keeps ns h
along_dots_clean (k ∷ path) edit keeps ns h =
    by_dot_clean k (along_dots path edit) ns (get_node k ns) (along_dots_clean path edit keeps) h (get_clean k ns h)

-- ---- what is defined

abbrev DefinesClean : Definition → Type 0
DefinesClean (key_value d) = IsClean d
DefinesClean std_table = Unit {0}
DefinesClean array_table = Unit {0}

new_clean : (what : Definition) → DefinesClean what → NodeClean (new_node what)
new_clean (key_value d) h = h
new_clean std_table h = tt
new_clean array_table h = (tt, tt)

redefine_clean : (what : Definition) (x : Node) → NodeClean x → IfSome (redefine what x) NodeClean
redefine_clean (key_value d) (value e) h = tt
redefine_clean (key_value d) (open_table origin ns) h = tt
redefine_clean (key_value d) (open_array done last) h = tt
redefine_clean std_table (value e) h = tt
redefine_clean std_table (open_table implicit ns) h = h
redefine_clean std_table (open_table dotted ns) h = tt
redefine_clean std_table (open_table header ns) h = tt
redefine_clean std_table (open_array done last) h = tt
redefine_clean array_table (value e) h = tt
redefine_clean array_table (open_table origin ns) h = tt
redefine_clean array_table (open_array done last) h = (push_clean done (table (close last)) h.0 (close_clean last h.1), tt)

at_found_clean : (k : List ℕ) (what : Definition) (ns : Nodes) (o : Option Node) → DefinesClean what → NodesClean ns → IfSome o NodeClean → IfSome (at_found k what ns o) NodesClean
at_found_clean k what ns None new h found = insert_clean k (new_node what) ns (new_clean what new) h
at_found_clean k what ns (Some x) new h found =
    if_map NodeClean NodesClean (λ y. replace k y ns) (redefine what x) (redefine_clean what x found) (λ y is. replace_clean k y ns is h)

at_key_clean : (k : List ℕ) (what : Definition) → DefinesClean what → Keeps (at_key k what)
unfolding at_key
at_key_clean k what new ns h = at_found_clean k what ns (get_node k ns) new h (get_clean k ns h)

put_clean : (key : Key) (d : Data) → IsClean d → Keeps (put key d)
put_clean key d is = along_dots_clean key.0 (at_key key.1 (key_value d)) (at_key_clean key.1 (key_value d) is)

define_clean : (doc : Document) (key : Key) (what : Definition) → NodesClean doc.0 → DefinesClean what → IfSome (define doc (key, what)) (λ d. NodesClean d.0)
unfolding define
define_clean doc key (key_value d) h new =
    if_map NodesClean (λ d. NodesClean d.0) (λ root. (root, doc.1)) (along_header doc.1 (put key d) doc.0)
    (along_header_clean doc.1 (put key d) (put_clean key d new) doc.0 h) (λ root is. is)
define_clean doc key std_table h new =
    if_map NodesClean (λ d. NodesClean d.0) (λ root. (root, key.0 ++ key.1 ∷ [])) (along_header key.0 (at_key key.1 std_table) doc.0)
    (along_header_clean key.0 (at_key key.1 std_table) (at_key_clean key.1 std_table tt) doc.0 h) (λ root is. is)
define_clean doc key array_table h new =
    if_map NodesClean (λ d. NodesClean d.0) (λ root. (root, key.0 ++ key.1 ∷ [])) (along_header key.0 (at_key key.1 array_table) doc.0)
    (along_header_clean key.0 (at_key key.1 array_table) (at_key_clean key.1 array_table tt) doc.0 h) (λ root is. is)

-- ---- values

-- a value whose strings are UTF-8, and text that is, after it
abbrev ReadsClean : Data × List ℕ → Type 0
ReadsClean r = IsClean r.0 × IsUtf8 r.1

after_byte_utf8 : (byte : ℕ) (text : List ℕ) → byte < 128 → IsUtf8 text → IfSome (after_byte byte text) IsUtf8
after_byte_utf8 byte text low utf8 =
    if_test IsUtf8 (first text == byte) (Some (drop 1 text)) None (λ is. drop_low text utf8 (omega (arith, eqb-true (first text) byte is))) (λ other. tt)

after_element_utf8 : (closing : ℕ) (text : List ℕ) → IsUtf8 text → IfSome (after_element closing text) IsUtf8
unfolding after_element
after_element_utf8 closing text utf8 =
    let rest = skip_blank text in
    let clean = skip_blank_utf8 text utf8 in
    if_test IsUtf8 (first rest == 44) (Some (drop 1 rest)) (if first rest == closing then Some rest else None)
    (λ is. drop_low rest clean (omega (arith, eqb-true (first rest) 44 is)))
    (λ other. if_test IsUtf8 (first rest == closing) (Some rest) None (λ is. clean) (λ none. tt))

key_equals_utf8 : (text : List ℕ) → IsUtf8 text → IfSome (key_equals text) (λ r. IsUtf8 r.1)
unfolding key_equals
key_equals_utf8 text utf8 =
    if_then (λ r. IsUtf8 r.1) (λ r. IsUtf8 r.1) _ (key text) (key_utf8 text utf8)
    (λ k is. if_map IsUtf8 (λ r. IsUtf8 r.1) (λ rest. (k.0, skip_ws rest)) (after_byte 61 k.1) (after_byte_utf8 61 k.1 (omega arith) is) (λ rest clean. skip_ws_utf8 rest clean))

scalar_clean : (s : Scalar) → IsClean (scalar_data s)
scalar_clean (Boolean b) = tt
scalar_clean (Integer z) = tt
scalar_clean (Float x) = tt
scalar_clean (Datetime when) = tt

atom_clean : (text : List ℕ) → IsUtf8 text → IfSome (atom text) ReadsClean
unfolding atom
atom_clean text utf8 =
    if_test ReadsClean (starts_string text) (read_map string (quoted text)) (read_map scalar_data (unquoted text))
    (λ is. if_map ReadsText ReadsClean (λ p. (string p.0, p.1)) (quoted text) (quoted_utf8 text utf8 is) (λ r reads. reads))
    (λ other. if_map (λ r. IsUtf8 r.1) ReadsClean (λ p. (scalar_data p.0, p.1)) (unquoted text) (unquoted_utf8 text utf8) (λ r reads. (scalar_clean r.0, reads)))

module _ (read : List ℕ → Option (Data × List ℕ)) (reads : (text : List ℕ) → IsUtf8 text → IfSome (read text) ReadsClean) where
  keyval_clean : (text : List ℕ) → IsUtf8 text → IfSome (keyval read text) (λ r. IsClean r.0.1 × IsUtf8 r.1)
  keyval_clean text utf8 =
      if_then (λ r. IsUtf8 r.1) (λ r. IsClean r.0.1 × IsUtf8 r.1) _ (key_equals text) (key_equals_utf8 text utf8)
      (λ k is. if_map ReadsClean (λ r. IsClean r.0.1 × IsUtf8 r.1) (λ p. ((k.0, p.0), p.1)) (read k.1) (reads k.1 is) (λ r clean. clean))

  items_clean : (n : ℕ) (found : Items) (text : List ℕ) → AreClean found → IsUtf8 text → IfSome (items read n found text) (λ r. AreClean r.0 × IsUtf8 r.1)
  unfolding items
  items_clean zero found text are utf8 = tt
  items_clean (suc n) found text are utf8 =
      let start = skip_blank text in
      let clean = skip_blank_utf8 text utf8 in
      if_test (λ r. AreClean r.0 × IsUtf8 r.1) (first start == 93) (Some (found, drop 1 start)) _
      (λ is. (are, drop_low start clean (omega (arith, eqb-true (first start) 93 is))))
      (λ other. if_then ReadsClean (λ r. AreClean r.0 × IsUtf8 r.1) _ (read start) (reads start clean)
      (λ v is. if_then IsUtf8 (λ r. AreClean r.0 × IsUtf8 r.1) _ (after_element 93 v.1) (after_element_utf8 93 v.1 is.1)
      (λ rest after. items_clean n (push_item found v.0) rest (push_clean found v.0 are is.0) after)))

  members_clean : (n : ℕ) (found : Nodes) (text : List ℕ) → NodesClean found → IsUtf8 text → IfSome (members read n found text) (λ r. HasClean r.0 × IsUtf8 r.1)
  unfolding members
  members_clean zero found text are utf8 = tt
  members_clean (suc n) found text are utf8 =
      let start = skip_blank text in
      let clean = skip_blank_utf8 text utf8 in
      if_test (λ r. HasClean r.0 × IsUtf8 r.1) (first start == 125) (Some (close found, drop 1 start)) _
      (λ is. (close_clean found are, drop_low start clean (omega (arith, eqb-true (first start) 125 is))))
      (λ other. if_then (λ r. IsClean r.0.1 × IsUtf8 r.1) (λ r. HasClean r.0 × IsUtf8 r.1) _ (keyval read start) (keyval_clean start clean)
      (λ e is. if_then NodesClean (λ r. HasClean r.0 × IsUtf8 r.1) _ (put e.0.0 e.0.1 found) (put_clean e.0.0 e.0.1 is.0 found are)
      (λ more made. if_then IsUtf8 (λ r. HasClean r.0 × IsUtf8 r.1) _ (after_element 125 e.1) (after_element_utf8 125 e.1 is.1)
      (λ rest after. members_clean n more rest made after))))

val_clean : (depth : ℕ) (text : List ℕ) → IsUtf8 text → IfSome (val depth text) ReadsClean
unfolding val
val_clean zero text utf8 = atom_clean text utf8
val_clean (suc depth) text utf8 =
    if_test ReadsClean (first text == 91) (read_map array (items (val depth) (length text) no_items (drop 1 text))) _
    (λ is. if_map (λ r. AreClean r.0 × IsUtf8 r.1) ReadsClean (λ p. (array p.0, p.1)) (items (val depth) (length text) no_items (drop 1 text))
    (items_clean (val depth) (val_clean depth) (length text) no_items (drop 1 text) tt (drop_low text utf8 (omega (arith, eqb-true (first text) 91 is)))) (λ r clean. clean))
    (λ other. if_test ReadsClean (first text == 123) (read_map table (members (val depth) (length text) no_nodes (drop 1 text))) (atom text)
    (λ is. if_map (λ r. HasClean r.0 × IsUtf8 r.1) ReadsClean (λ p. (table p.0, p.1)) (members (val depth) (length text) no_nodes (drop 1 text))
    (members_clean (val depth) (val_clean depth) (length text) no_nodes (drop 1 text) tt (drop_low text utf8 (omega (arith, eqb-true (first text) 123 is)))) (λ r clean. clean))
    (λ none. atom_clean text utf8))

-- ---- lines

abbrev ReadsLine : Expression × List ℕ → Type 0
ReadsLine r = DefinesClean r.0.1 × IsUtf8 r.1

header_key_utf8 : (text : List ℕ) → IsUtf8 text → IfSome (header_key text) (λ r. IsUtf8 r.1)
unfolding header_key
header_key_utf8 text utf8 =
    if_then (λ r. IsUtf8 r.1) (λ r. IsUtf8 r.1) _ (key (skip_ws text)) (key_utf8 (skip_ws text) (skip_ws_utf8 text utf8))
    (λ k is. if_map IsUtf8 (λ r. IsUtf8 r.1) (λ rest. (k.0, rest)) (after_byte 93 k.1) (after_byte_utf8 93 k.1 (omega arith) is) (λ rest clean. clean))

drop_two : (text : List ℕ) → IsUtf8 text → (first text == 91 && slice_index text 1 == 91) ≡ true → IsUtf8 (drop 2 text)
drop_two [] utf8 is = utf8
drop_two (a ∷ []) utf8 is = drop_low (a ∷ []) utf8 (omega (arith, eqb-true a 91 (and_parts (a == 91) _ is).0))
drop_two (a ∷ b ∷ cs) utf8 is =
    let (one, two) = and_parts (a == 91) (b == 91) is in
    drop_low (b ∷ cs) (drop_low (a ∷ b ∷ cs) utf8 (omega (arith, eqb-true a 91 one))) (omega (arith, eqb-true b 91 two))

expression_clean : (text : List ℕ) → IsUtf8 text → IfSome (expression text) ReadsLine
unfolding expression
expression_clean text utf8 =
    if_test ReadsLine (first text == 91 && slice_index text 1 == 91) _ _
    (λ is. if_then (λ r. IsUtf8 r.1) ReadsLine _ (header_key (drop 2 text)) (header_key_utf8 (drop 2 text) (drop_two text utf8 is))
    (λ k clean. if_map IsUtf8 ReadsLine (λ rest. ((k.0, array_table), rest)) (after_byte 93 k.1) (after_byte_utf8 93 k.1 (omega arith) clean) (λ rest after. (tt, after))))
    (λ other. if_test ReadsLine (first text == 91) (read_map (λ k. (k, std_table)) (header_key (drop 1 text))) _
    (λ is. if_map (λ r. IsUtf8 r.1) ReadsLine (λ p. ((p.0, std_table), p.1)) (header_key (drop 1 text))
    (header_key_utf8 (drop 1 text) (drop_low text utf8 (omega (arith, eqb-true (first text) 91 is)))) (λ r clean. (tt, clean)))
    (λ none. if_map (λ r. IsClean r.0.1 × IsUtf8 r.1) ReadsLine (λ p. ((p.0.0, key_value p.0.1), p.1)) (keyval (val 80) text)
    (keyval_clean (val 80) (val_clean 80) text utf8) (λ r clean. clean)))

line_clean : (text : List ℕ) → IsUtf8 text → IfSome (line text) ReadsLine
unfolding line
line_clean text utf8 =
    if_then ReadsLine ReadsLine _ (expression text) (expression_clean text utf8)
    (λ e clean. if_test ReadsLine (ends_line (skip_ws e.1)) (Some e) None (λ ends. clean) (λ none. tt))

lines_clean : (n : ℕ) (doc : Document) (text : List ℕ) → NodesClean doc.0 → IsUtf8 text → IfSome (lines n doc text) (λ d. NodesClean d.0)
unfolding lines
lines_clean zero doc text h utf8 = tt
lines_clean (suc n) doc text h utf8 =
    let start = skip_blank text in
    if_test (λ d. NodesClean d.0) (length start == 0) (Some doc) _
    (λ over. h)
    (λ more. if_then ReadsLine (λ d. NodesClean d.0) _ (line start) (line_clean start (skip_blank_utf8 text utf8))
    (λ e clean. if_then (λ d. NodesClean d.0) (λ d. NodesClean d.0) _ (define doc e.0) (define_clean doc e.0.0 e.0.1 h clean.0)
    (λ next made. lines_clean n next e.1 made clean.1)))

skip_bom_utf8 : (text : List ℕ) → IsUtf8 text → IsUtf8 (skip_bom text)
unfolding skip_bom
skip_bom_utf8 text utf8 = by ((first text == 0xEF && slice_index text 1 == 0xBB) && slice_index text 2 == 0xBF) refl
  where
    by : (b : Bool) → ((first text == 0xEF && slice_index text 1 == 0xBB) && slice_index text 2 == 0xBF) ≡ b → IsUtf8 (if b then drop 3 text else text)
    by true is = IsUtf8-drop text 3 utf8 (bom_boundary text utf8 is)
    by false is = utf8

document_clean : (text : List ℕ) → IsUtf8 text → IfSome (parse_document text) HasClean
unfolding parse_document
document_clean text utf8 =
    if_map (λ d. NodesClean d.0) HasClean (λ doc. close doc.0) (lines (suc (length text)) (no_nodes, []) (skip_bom text))
    (lines_clean (suc (length text)) (no_nodes, []) (skip_bom text) tt (skip_bom_utf8 text utf8)) (λ doc clean. close_clean doc.0 clean)

-- the strings of a document that a text is are UTF-8, where the text is
pub parsed_clean : (text : List ℕ) (ms : Members) → IsUtf8 text → parse_document text ≡ Some ms → HasClean ms
parsed_clean text ms utf8 is = rw is at (document_clean text utf8)
