-- The texts of objects: what serde_json writes of one, with the texts of blocks, octets and references where it is cut.
use Rattle.std.proofs.Common.{◌≡◌, ℕ, Bool, true, false, List, [], ◌∷◌, ◌++◌, drop, codes, decimal, Result, Ok, Err, is_ok, refl, sym, ap, ap₂, ◌∙◌, append_assoc, append-nil}
use Rattle.std.specs.Prelude.{if◌then◌else◌, OnOk, ◌||◌, Option, Some, None}
use Rattle.json.specs.Print.{escape_byte}
use Rattle.hex_text.specs.Hex.{encode_lower, IsBytes}
use Rattle.serde_json.specs.Written.{compact_text, members_text, has_float, members_have_float}
use Rattle.endpoint.specs.declared.extent.Fragment.{Fragment}
use Rattle.bundle6.specs.declared.block.Block6.{Block6}
use Rattle.bundle6.specs.declared.bundle.Bundle6.{Bundle6}
use Rattle.bundle6.specs.declared.primary.Primary6.{Primary6}
use Rattle.bundle7.specs.declared.block.Block7.{Block7}
use Rattle.bundle7.specs.declared.bundle.Bundle7.{Bundle7}
use Rattle.bundle_json.specs.declared.shown.Rest.{Rest}
use Rattle.bundle_json.specs.declared.shown.Head6.{Head6}
use Rattle.bundle_json.specs.declared.shown.Head7.{Head7}
use Rattle.bundle_json.specs.Commas.{with_commas}
use Rattle.bundle_json.specs.Json.{name, part, list_of, keys_of, fields6, fields7, block6, bundle6, block7, bundle7}
use Rattle.bundle_json.specs.declared.shown.Frame6.{Frame6}
use Rattle.bundle_json.specs.Frames.{empty, one, last_block, head6, head7, head6_shown, head7_shown, rest_members, frame6, frame7}
use Rattle.bundle_json.specs.Telling.{closing_text, head_text, primary_text}
use Rattle.bundle_json.proofs.ListLemmas.{list-text}
use Rattle.bundle_json.proofs.StringLemmas.{quoted-hex}

-- ---- the last piece

-- it is written
pub ends : {V E : Type 0} (done : Result V E) (start before now piece whole : List ℕ)
    → now ≡ (if is_ok done then before ++ piece else before) → before ++ piece ≡ start ++ whole → OnOk done (now ≡ start ++ whole)
ends (Ok v) start before now piece whole last is = last ∙ is
ends (Err e) start before now piece whole last is = tt

-- ---- piece by piece

-- what is written after a piece, after what stood before the piece
step : (before now piece rest : List ℕ) → now ≡ before ++ piece → now ++ rest ≡ before ++ (piece ++ rest)
step before now piece rest is = ap (λ (s : List ℕ). s ++ rest) is ∙ append_assoc before piece rest

pub three-pieces : (start one two now first second third whole : List ℕ) → whole ≡ first ++ (second ++ third)
    → one ≡ start ++ first → two ≡ one ++ second → now ≡ two ++ third → now ≡ start ++ whole
three-pieces start one two now first second third whole is begun more last =
    last ∙ step one two second third more ∙ step start one first (second ++ third) begun ∙ ap (λ (s : List ℕ). start ++ s) (sym is)

pub five-pieces : (start one two three four first second third fourth fifth whole : List ℕ)
    → whole ≡ first ++ (second ++ (third ++ (fourth ++ fifth)))
    → one ≡ start ++ first → two ≡ one ++ second → three ≡ two ++ third → four ≡ three ++ fourth → four ++ fifth ≡ start ++ whole
five-pieces start one two three four first second third fourth fifth whole is a b c d =
    step three four fourth fifth d ∙ step two three third (fourth ++ fifth) c ∙ step one two second (third ++ (fourth ++ fifth)) b
    ∙ step start one first (second ++ (third ++ (fourth ++ fifth))) a ∙ ap (λ (s : List ℕ). start ++ s) (sym is)

-- a text goes on to its end
pub to-end : (lent text front rest : List ℕ) → lent ≡ text → text ≡ front ++ rest → lent ≡ front ++ (rest ++ [])
to-end lent text front rest is parts = is ∙ parts ∙ ap (λ (s : List ℕ). front ++ s) (sym (append-nil rest))

-- ---- no float stands in what is sent

part-whole : (p : Option Fragment) → has_float (part p) ≡ false
part-whole None = refl
part-whole (Some fragment) = refl

rest-whole : (rest : Rest) → members_have_float (rest_members rest) ≡ false
rest-whole rest = ap (λ (b : Bool). b || false) (part-whole rest.fragment)

last-whole : (last : Option Frame6) → has_float (last_block last) ≡ false
last-whole None = refl
last-whole (Some frame) = refl

pub head6-whole : (head : Head6) → has_float (head6_shown head) ≡ false
head6-whole head = ap₂ (λ (b c : Bool). b || c) (last-whole head.last) (rest-whole head.rest)

pub head7-whole : (head : Head7) → has_float (head7_shown head) ≡ false
head7-whole head = rest-whole head.rest

-- ---- bundles

list-open : (front items rest : List ℕ) → front ++ ((91 ∷ (items ++ 93 ∷ [])) ++ rest) ≡ front ++ (91 ∷ (items ++ 93 ∷ rest))
list-open front items rest = ap (λ (v : List ℕ). front ++ (91 ∷ v)) (append_assoc items (93 ∷ []) rest)

pub head6-text : (p : Primary6) → compact_text (head6 empty p) ≡ codes "{\"blocks\":[" ++ primary_text p
unfolding primary_text escape_byte
head6-text p = refl

pub bundle6-text : (b : Bundle6) → compact_text (bundle6 b)
    ≡ codes "{\"blocks\":[" ++ (with_commas block6 false b.blocks ++ primary_text b.primary)
unfolding bundle6 primary_text escape_byte
bundle6-text b =
    let more = members_text true (keys_of (fields6 b.primary)) in
    ap (λ (v : List ℕ). codes "{\"blocks\":" ++ (v ++ more)) (list-text block6 b.blocks)
    ∙ list-open (codes "{\"blocks\":") (with_commas block6 false b.blocks) more

-- what stands after the blocks
abbrev pub after7 : Bundle7 → List ℕ
after7 b = 93 ∷ members_text true (keys_of (fields7 b.primary))

pub bundle7-text : (b : Bundle7) → compact_text (bundle7 b)
    ≡ codes "{\"blocks\":[" ++ (with_commas block7 false (b.exts ++ b.payload ∷ []) ++ after7 b)
unfolding bundle7 escape_byte
bundle7-text b =
    let more = members_text true (keys_of (fields7 b.primary)) in
    ap (λ (v : List ℕ). codes "{\"blocks\":" ++ (v ++ more)) (list-text block7 (b.exts ++ b.payload ∷ []))
    ∙ list-open (codes "{\"blocks\":") (with_commas block7 false (b.exts ++ b.payload ∷ [])) more

-- ---- blocks

pub frame6-text : (flags kind : ℕ) → compact_text (frame6 flags kind) ≡ codes "{\"body\":\"" ++ (head_text flags kind ++ codes "]}")
unfolding escape_byte
frame6-text flags kind = simp append_assoc

-- what stands after the octets of a block
abbrev pub after_body7 : Block7 → List ℕ
after_body7 b = drop 9 (compact_text (frame7 b.crc b.flags b.kind b.number))

pub frame7-text : (b : Block7) → compact_text (frame7 b.crc b.flags b.kind b.number) ≡ codes "{\"body\":\"" ++ after_body7 b
unfolding escape_byte
frame7-text b = refl

body-open : (hex rest : List ℕ) → codes "{\"body\":" ++ ((codes "\"" ++ (hex ++ codes "\"")) ++ rest) ≡ codes "{\"body\":\"" ++ (hex ++ (34 ∷ rest))
body-open hex rest = ap (λ (v : List ℕ). codes "{\"body\":\"" ++ v) (append_assoc hex (codes "\"") rest)

pub block7-text : (b : Block7) → IsBytes b.body → compact_text (block7 b) ≡ codes "{\"body\":\"" ++ (encode_lower b.body ++ after_body7 b)
unfolding block7 escape_byte
block7-text b small =
    let rest = drop 10 (compact_text (frame7 b.crc b.flags b.kind b.number)) in
    ap (λ (v : List ℕ). codes "{\"body\":" ++ (v ++ rest)) (quoted-hex b.body small) ∙ body-open (encode_lower b.body) rest

block-parts : (hex flags kind items : List ℕ)
    → codes "{\"body\":" ++ ((codes "\"" ++ (hex ++ codes "\"")) ++ (codes ",\"flags\":" ++ (flags ++ (codes ",\"kind\":" ++ (kind
    ++ (codes ",\"refs\":" ++ ((91 ∷ (items ++ 93 ∷ [])) ++ codes "}")))))))
    ≡ codes "{\"body\":\"" ++ (hex ++ ((codes "\",\"flags\":" ++ (flags ++ (codes ",\"kind\":" ++ (kind ++ codes ",\"refs\":[")))) ++ (items ++ codes "]}")))
block-parts hex flags kind items = simp append_assoc

pub block6-text : (b : Block6) → IsBytes b.body
    → compact_text (block6 b) ≡ codes "{\"body\":\"" ++ (encode_lower b.body ++ (head_text b.flags b.kind ++ (with_commas name false b.refs ++ codes "]}")))
unfolding block6 escape_byte
block6-text b small =
    let numbers = λ (v : List ℕ). codes ",\"flags\":" ++ (decimal b.flags ++ (codes ",\"kind\":" ++ (decimal b.kind ++ (codes ",\"refs\":" ++ (v ++ codes "}"))))) in
    ap (λ (v : List ℕ). codes "{\"body\":" ++ (v ++ numbers (compact_text (list_of name b.refs)))) (quoted-hex b.body small)
    ∙ ap (λ (v : List ℕ). codes "{\"body\":" ++ ((codes "\"" ++ (encode_lower b.body ++ codes "\"")) ++ numbers v)) (list-text name b.refs)
    ∙ block-parts (encode_lower b.body) (decimal b.flags) (decimal b.kind) (with_commas name false b.refs)

-- ---- the last block, with what stands after the blocks

last-open : (frame rest : List ℕ) → codes "{\"blocks\":" ++ ((91 ∷ ((codes "{\"body\":\"" ++ frame) ++ 93 ∷ [])) ++ rest)
    ≡ codes "{\"blocks\":[{\"body\":\"" ++ (frame ++ (93 ∷ rest))
last-open frame rest = simp append_assoc

pub last7-text : (b : Bundle7) → compact_text (head7 b) ≡ codes "{\"blocks\":[{\"body\":\"" ++ (after_body7 b.payload ++ after7 b)
unfolding escape_byte
last7-text b = last-open (after_body7 b.payload) (members_text true (keys_of (fields7 b.primary)))

last-parts : (head rest : List ℕ) → (head ++ codes "]}") ++ (93 ∷ rest) ≡ head ++ (codes "]}" ++ (93 ∷ rest))
last-parts head rest = append_assoc head (codes "]}") (93 ∷ rest)

pub last6-text : (frame : Frame6) (p : Primary6)
    → compact_text (head6 (last_block (Some frame)) p) ≡ codes "{\"blocks\":[{\"body\":\"" ++ closing_text frame.flags frame.kind p
unfolding primary_text escape_byte
last6-text frame p =
    let more = members_text true (keys_of (fields6 p)) in
    ap (λ (v : List ℕ). codes "{\"blocks\":" ++ ((91 ∷ (v ++ 93 ∷ [])) ++ more)) (frame6-text frame.flags frame.kind)
    ∙ last-open (head_text frame.flags frame.kind ++ codes "]}") more
    ∙ ap (λ (v : List ℕ). codes "{\"blocks\":[{\"body\":\"" ++ v) (last-parts (head_text frame.flags frame.kind) more)

-- the last of the blocks is written with what stands after them
pub last-ends : (first start before one two now hex tail rest whole blocks block : List ℕ)
    → whole ≡ codes "{\"blocks\":[" ++ (blocks ++ rest) → block ≡ codes "{\"body\":\"" ++ (hex ++ tail)
    → start ≡ first ++ codes "{\"blocks\":[" → before ++ block ≡ start ++ blocks
    → one ≡ before ++ codes "{\"body\":\"" → two ≡ one ++ hex → now ≡ two ++ (tail ++ rest) → now ≡ first ++ whole
last-ends first start before one two now hex tail rest whole blocks block is parts opened ends begun more last =
    last ∙ step one two hex (tail ++ rest) more ∙ step before one (codes "{\"body\":\"") (hex ++ (tail ++ rest)) begun
    ∙ ap (λ (v : List ℕ). before ++ (codes "{\"body\":\"" ++ v)) (sym (append_assoc hex tail rest))
    ∙ ap (λ (v : List ℕ). before ++ v) (sym (append_assoc (codes "{\"body\":\"") (hex ++ tail) rest) ∙ ap (λ (v : List ℕ). v ++ rest) (sym parts))
    ∙ sym (append_assoc before block rest) ∙ ap (λ (v : List ℕ). v ++ rest) ends ∙ append_assoc start blocks rest
    ∙ step first start (codes "{\"blocks\":[") (blocks ++ rest) opened ∙ ap (λ (v : List ℕ). first ++ v) (sym is)
