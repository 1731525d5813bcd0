-- Telling a bundle part by part.
use Rattle.std.proofs.Common.{◌≡◌, ℕ, ◌+◌, ◌<◌, ◌≤◌, Bool, true, false, List, [], ◌∷◌, ◌++◌, length, take, drop, codes, refl, sym, ◌∙◌, ap, arith, append_assoc, append-nil, length-append}
use Rattle.std.proofs.lemmas.List.{take-append-drop, length-take-le, nil_from_length}
use Rattle.hex_text.specs.Hex.{encode_lower, encode_with, IsBytes}
use Rattle.endpoint.specs.declared.name.Endpoint.{Endpoint}
use Rattle.std.specs.Prelude.{if◌then◌else◌, OnOk, Result, Ok, Err}
use Rattle.serde_json.specs.Written.{comma_if, compact_text}
use Rattle.wire_fields.specs.Format.{Spells}
use Rattle.wire_fields.specs.Reading.{IsOctets}
use Rattle.wire_fields.proofs.TextLemmas.{octets-drop}
use Rattle.wire_fields.proofs.StayLemmas.{octets-parts}
use Rattle.bundle6.specs.declared.primary.Primary6.{Primary6}
use Rattle.bundle6.specs.declared.block.Block6.{Block6}
use Rattle.bundle6.specs.declared.bundle.Bundle6.{Bundle6}
use Rattle.bundle6.specs.Table.{primary, bundle}
use Rattle.bundle6.specs.Legal.{Spells6}
use Rattle.bundle_json.specs.declared.walk.Pair.{Pair}
use Rattle.bundle_json.specs.declared.walk.PrimaryView.{PrimaryView}
use Rattle.bundle_json.specs.declared.walk.BlockView.{BlockView}
use Rattle.bundle_json.specs.declared.telling6.Telling6.{Telling6}
use Rattle.bundle_json.specs.declared.telling6.Stage.{Stage}
use Rattle.bundle_json.specs.declared.telling6.Stage.TheVariants as stages
use Rattle.bundle_json.specs.Json.{name, block6, bundle6}
use Rattle.bundle_json.specs.Commas.{with_commas}
use Rattle.bundle_json.specs.Laid.{LiesAt, ValueOf as ValueIn, IsPair, Names, SpellsBlock, ShowsPrimary, ShowsBlock, BlocksLie, texts_in}
use Rattle.bundle6.specs.Table.{offsets}
use Rattle.bundle_json.specs.Telling.{closing_text, head_text, primary_text, blocks_text, refs_text, body_text, AtRefs, Left, Tells}
use Rattle.hex_text.proofs.DigitLemmas.{encode_lower-append}
use Rattle.bundle_json.proofs.ObjectLemmas.{bundle6-text, block6-text}
use Rattle.bundle_json.proofs.WalkLemmas.{lies-parts, lies-long, lies-after, block-long, blocks-are, next-ref}

-- ---- texts

block-parts : (hex head items rest : List ℕ)
    → (codes "{\"body\":\"" ++ (hex ++ (head ++ (items ++ codes "]}")))) ++ rest
    ≡ codes "{\"body\":\"" ++ (hex ++ (head ++ (items ++ (codes "]}" ++ rest))))
block-parts hex head items rest = simp append_assoc

-- a block, and what stands after it
block-text : (b : Block6) (blocks : List Block6) (p : Primary6) → IsBytes b.body
    → compact_text (block6 b) ++ blocks_text true blocks p ≡ codes "{\"body\":\"" ++ body_text b.body b blocks p
block-text b blocks p small =
    ap (λ (v : List ℕ). v ++ blocks_text true blocks p) (block6-text b small)
    ∙ block-parts (encode_lower b.body) (head_text b.flags b.kind) (with_commas name false b.refs) (blocks_text true blocks p)

hex-none : encode_lower [] ≡ []
unfolding encode_with
hex-none = refl

body-bytes : (octets : List ℕ) (at : ℕ) (text rest : List ℕ) → IsOctets octets → LiesAt octets at (text ++ rest) → IsBytes text
body-bytes octets at text rest fits lies =
    let parts = octets-parts (drop at octets) text rest lies.is (octets-drop at octets fits) in
    λ i. parts.0 i

-- ---- the start

pub new-left : (octets : List ℕ) (b : Bundle6) (view : PrimaryView) (at : ℕ) → Spells6 b octets
    → ((dictionary front rest : List ℕ) (value : Primary6) → octets ≡ front ++ rest → Spells primary [] front (value, dictionary)
    → (texts_in octets view.texts ≡ dictionary) × ShowsPrimary octets view value × LiesAt octets at rest)
    → Left octets (record { primary = view; at = at; stage = stages.Open }) (compact_text (bundle6 b))
unfolding bundle
new-left octets b view at spells walks =
    let s = spells.spelled in
    let t = s.5 in
    let there = walks s.2.1 s.0 s.1 s.2.0 s.3 s.4 in
    let blocks = blocks-are 65 64 s.2.0.fragment s.2.1 s.0 t.0 [] t.2 t.4 in
    let own : s.1 ≡ t.0 = t.3 ∙ ap (λ (v : List ℕ). t.0 ++ v) t.5.0 ∙ append-nil t.0 in
    let is : b ≡ record { primary = s.2.0; blocks = blocks.0 } =
    t.5.1 ∙ ap (λ (v : List Block6). record { primary = s.2.0; blocks = v }) blocks.1 in
    record {
      primary = s.2.0;
      shows = there.1;
      left = (
        blocks_text false blocks.0 s.2.0,
        ap (λ (v : Bundle6). compact_text (bundle6 v)) is ∙ bundle6-text (record { primary = s.2.0; blocks = blocks.0 }),
        record {
          blocks = blocks.0;
          blocks_lie = record {
            text = t.0;
            blocks_are = rw there.0 blocks.2;
            lie = rw own at there.2;
          };
          text = refl;
        },
      );
    }

-- ---- steps

abbrev At : Telling6 → Stage → ℕ → Telling6
At old stage at = record { primary = old.primary; at = at; stage = stage }

pub tells-open : (octets : List ℕ) (old : Telling6) (before now rest : List ℕ) → old.stage ≡ stages.Open → Left octets old rest
    → now ≡ before ++ codes "{\"blocks\":[" → Tells octets old (At old (stages.Block false) old.at) before now rest
tells-open octets old before now rest is left added =
    let there = rw is at left.left in
    record {
      part = codes "{\"blocks\":[";
      later = there.0;
      added = added;
      parts = there.1;
      left = record { primary = left.primary; shows = left.shows; left = there.2 };
      less = rw is (omega arith);
    }

-- after the last block
no-blocks : (octets dictionary : List ℕ) (at : ℕ) (blocks : List Block6) → BlocksLie octets dictionary at blocks → length octets ≤ at → blocks ≡ []
no-blocks octets dictionary at [] lie past = refl
no-blocks octets dictionary at (first ∷ blocks) lie past =
    let (own, later, parts, spells, more) = lie.blocks_are in
    absurd (omega (arith, lies-long octets at lie.text lie.lie, past, block-long dictionary own first spells, ap length parts, length-append own later))

pub tells-primary : (octets : List ℕ) (old : Telling6) (later : Bool) (before now rest : List ℕ) → old.stage ≡ stages.Block later → Left octets old rest
    → length octets ≤ old.at → ((value : Primary6) → ShowsPrimary octets old.primary value → now ≡ before ++ primary_text value)
    → Tells octets old (At old stages.Over old.at) before now rest
tells-primary octets old later before now rest is left past written =
    let there = rw is at left.left in
    let none = no-blocks octets (texts_in octets old.primary.texts) old.at there.blocks there.blocks_lie past in
    record {
      part = primary_text left.primary;
      later = [];
      added = written left.primary left.shows;
      parts = there.text ∙ ap (λ (v : List Block6). blocks_text later v left.primary) none ∙ sym (append-nil (primary_text left.primary));
      left = record { primary = left.primary; shows = left.shows; left = refl };
      less = rw is (omega arith);
    }

open-text : Bool → List ℕ
open-text true = codes ",{\"body\":\""
open-text false = codes "{\"body\":\""

blocks-open : (later : Bool) (b : Block6) (blocks : List Block6) (p : Primary6) → IsBytes b.body
    → blocks_text later (b ∷ blocks) p ≡ open-text later ++ body_text b.body b blocks p
unfolding open-text
blocks-open true b blocks p small =
    ap (λ (v : List ℕ). 44 ∷ v) (append_assoc (compact_text (block6 b)) (with_commas block6 true blocks) (primary_text p) ∙ block-text b blocks p small)
blocks-open false b blocks p small =
    append_assoc (compact_text (block6 b)) (with_commas block6 true blocks) (primary_text p) ∙ block-text b blocks p small

pub tells-block : (octets : List ℕ) (old : Telling6) (later : Bool) (view : BlockView) (before now rest : List ℕ) → IsOctets octets
    → old.stage ≡ stages.Block later → Left octets old rest → old.at < length octets
    → ((dictionary own more : List ℕ) (value : Block6) → SpellsBlock dictionary own value → LiesAt octets old.at (own ++ more)
    → ShowsBlock octets dictionary old.at view value × LiesAt octets view.after more)
    → now ≡ before ++ (if later then codes ",{\"body\":\"" else codes "{\"body\":\"")
    → Tells octets old (At old (stages.Body view) view.body) before now rest
unfolding open-text
tells-block octets old later view before now rest fits is left inside walks added =
    let there = rw is at left.left in
    by there.blocks there.blocks_lie there.text
  where
    opened : (t : Bool) → (if t then codes ",{\"body\":\"" else codes "{\"body\":\"") ≡ open-text t
    opened true = refl
    opened false = refl

    by : (blocks : List Block6) → BlocksLie octets (texts_in octets old.primary.texts) old.at blocks → rest ≡ blocks_text later blocks left.primary
        → Tells octets old (At old (stages.Body view) view.body) before now rest
    by [] lie text = absurd (omega (arith, lies-long octets old.at lie.text lie.lie, inside, ap length lie.blocks_are))
    by (first ∷ blocks) lie text =
        let (own, more, parts, spells, others) = lie.blocks_are in
        let lies : LiesAt octets old.at (own ++ more) = rw parts at lie.lie in
        let found = walks (texts_in octets old.primary.texts) own more first spells lies in
        let shows = found.0 in
        let small = body-bytes octets view.body first.body shows.rest fits shows.body_lies in
        record {
          part = open-text later;
          later = body_text first.body first blocks left.primary;
          added = added ∙ ap (λ (v : List ℕ). before ++ v) (opened later);
          parts = text ∙ blocks-open later first blocks left.primary small;
          left = record {
            primary = left.primary;
            shows = left.shows;
            left = record {
              block = first;
              blocks = blocks;
              start = old.at;
              shows = shows;
              blocks_lie = record { text = more; blocks_are = others; lie = found.1 };
              left = first.body;
              more = shows.rest;
              left_lies = shows.body_lies;
              reach = omega (arith, lies-long octets view.body (first.body ++ shows.rest) shows.body_lies, lies-long octets view.after shows.rest shows.after_lies, length-append first.body shows.rest);
              text = refl;
            };
          };
          less = rw is (omega (arith, shows.room, shows.after_lies.inside, lies-long octets view.body (first.body ++ shows.rest) shows.body_lies, lies-long octets view.after shows.rest shows.after_lies, length-append first.body shows.rest));
        }

pub tells-body : (octets : List ℕ) (old : Telling6) (view : BlockView) (size : ℕ) (piece before now rest : List ℕ)
    → old.stage ≡ stages.Body view → Left octets old rest → 0 < size → old.at + size ≤ view.after
    → ((text more : List ℕ) → length text ≡ size → LiesAt octets old.at (text ++ more) → piece ≡ text)
    → now ≡ before ++ encode_lower piece
    → Tells octets old (At old (stages.Body view) (old.at + size)) before now rest
tells-body octets old view size piece before now rest is left some fits part_is added =
    let there = rw is at left.left in
    let first = take size there.left in
    let second = drop size there.left in
    let long : length first ≡ size = length-take-le size there.left (omega (arith, there.reach, fits)) in
    let parts : there.left ≡ first ++ second = sym (take-append-drop size there.left) in
    let lies : LiesAt octets old.at (first ++ (second ++ there.more)) = lies-parts octets old.at there.left first second there.more there.left_lies parts in
    let after : LiesAt octets (old.at + size) (second ++ there.more) = rw long at (lies-after octets old.at first (second ++ there.more) lies) in
    record {
      part = encode_lower first;
      later = body_text second there.block there.blocks left.primary;
      added = added ∙ ap (λ (v : List ℕ). before ++ encode_lower v) (part_is first (second ++ there.more) long lies);
      parts =
          there.text ∙ ap (λ (v : List ℕ). body_text v there.block there.blocks left.primary) parts
          ∙ rw (encode_lower-append first second) (append_assoc (encode_lower first) (encode_lower second) _);
      left = record {
        primary = left.primary;
        shows = left.shows;
        left = record {
          block = there.block;
          blocks = there.blocks;
          start = there.start;
          shows = there.shows;
          blocks_lie = there.blocks_lie;
          left = second;
          more = there.more;
          left_lies = after;
          reach = omega (arith, there.reach, ap length parts, length-append first second, long);
          text = refl;
        };
      };
      less = rw is (omega (arith, some, fits));
    }

pub tells-head : (octets : List ℕ) (old : Telling6) (view : BlockView) (before now rest : List ℕ)
    → old.stage ≡ stages.Body view → Left octets old rest → view.after ≤ old.at
    → now ≡ before ++ head_text view.flags view.kind
    → Tells octets old (At old (stages.Refs view.count false view.after) view.refs) before now rest
tells-head octets old view before now rest is left past added =
    let there = rw is at left.left in
    let none : there.left ≡ [] = nil_from_length there.left (omega (arith, there.reach, past)) in
    record {
      part = head_text there.block.flags there.block.kind;
      later = refs_text false there.block.refs there.blocks left.primary;
      added =
          added ∙ ap (λ (n : ℕ). before ++ head_text n view.kind) there.shows.flags
          ∙ ap (λ (n : ℕ). before ++ head_text there.block.flags n) there.shows.kind;
      parts =
          there.text ∙ ap (λ (v : List ℕ). body_text v there.block there.blocks left.primary) none
          ∙ ap (λ (v : List ℕ). v ++ (head_text there.block.flags there.block.kind ++ refs_text false there.block.refs there.blocks left.primary)) hex-none;
      left = record {
        primary = left.primary;
        shows = left.shows;
        left = record {
          refs = there.block.refs;
          blocks = there.blocks;
          own = there.shows.text;
          more = there.shows.more;
          are = there.shows.refs;
          many = there.shows.count;
          lie = there.shows.refs_lie;
          blocks_lie = there.blocks_lie;
          text = refl;
        };
      };
      less = rw is (omega arith);
    }

pub tells-end : (octets : List ℕ) (old : Telling6) (left_refs after : ℕ) (later : Bool) (before now rest : List ℕ)
    → old.stage ≡ stages.Refs left_refs later after → Left octets old rest → left_refs ≡ 0 → now ≡ before ++ codes "]}"
    → Tells octets old (At old (stages.Block true) after) before now rest
tells-end octets old left_refs after later before now rest is left none added =
    let there = rw is at left.left in
    let empty : there.refs ≡ [] = nil_from_length there.refs (omega (arith, there.many, none)) in
    record {
      part = codes "]}";
      later = blocks_text true there.blocks left.primary;
      added = added;
      parts = there.text ∙ ap (λ (v : List Endpoint). refs_text later v there.blocks left.primary) empty;
      left = record {
        primary = left.primary;
        shows = left.shows;
        left = record { blocks = there.blocks; blocks_lie = there.blocks_lie; text = refl };
      };
      less = rw is (omega arith);
    }

-- a comma, where another stands before
comma : Bool → List ℕ
comma true = codes ","
comma false = []

pub tells-ref : (octets : List ℕ) (old : Telling6) (left_refs next after : ℕ) (later : Bool) (found : Pair × ℕ) (before between now rest : List ℕ)
    → old.stage ≡ stages.Refs left_refs later after → Left octets old rest → left_refs ≡ next + 1
    → ((front text more : List ℕ) (value : ValueIn offsets) → Spells offsets front text value → LiesAt octets old.at (text ++ more)
    → IsPair found.0 value × LiesAt octets found.1 more)
    → between ≡ before ++ (if later then codes "," else [])
    → ((endpoint : Endpoint) → Names (texts_in octets old.primary.texts) found.0 endpoint → now ≡ between ++ compact_text (name endpoint))
    → Tells octets old (At old (stages.Refs next true after) found.1) before now rest
unfolding comma
tells-ref octets old left_refs next after later found before between now rest is left some walks begun written =
    let there = rw is at left.left in
    by there there.refs refl
  where
    commas : (t : Bool) → (if t then codes "," else []) ≡ comma t
    commas true = refl
    commas false = refl

    commas-if : (t : Bool) → comma_if t ≡ comma t
    commas-if true = refl
    commas-if false = refl

    by : (there : AtRefs octets (texts_in octets old.primary.texts) left.primary old.at left_refs after later rest) (refs : List Endpoint) → there.refs ≡ refs
        → Tells octets old (At old (stages.Refs next true after) found.1) before now rest
    by there [] same = absurd (omega (arith, there.many, ap length same, some))
    by there (endpoint ∷ refs) same =
        let one = next-ref octets (texts_in octets old.primary.texts) old.at there.own there.more endpoint refs found (rw same at there.are) there.lie walks in
        record {
          part = comma later ++ compact_text (name endpoint);
          later = refs_text true refs there.blocks left.primary;
          added =
              written endpoint one.named ∙ ap (λ (v : List ℕ). v ++ compact_text (name endpoint)) (begun ∙ ap (λ (v : List ℕ). before ++ v) (commas later))
              ∙ append_assoc before (comma later) (compact_text (name endpoint));
          parts =
              there.text ∙ ap (λ (v : List Endpoint). refs_text later v there.blocks left.primary) same
              ∙ ap (λ (v : List ℕ). (v ++ (compact_text (name endpoint) ++ with_commas name true refs)) ++ (codes "]}" ++ blocks_text true there.blocks left.primary)) (commas-if later)
              ∙ append_assoc (comma later) (compact_text (name endpoint) ++ with_commas name true refs) _
              ∙ ap (λ (v : List ℕ). comma later ++ v) (append_assoc (compact_text (name endpoint)) (with_commas name true refs) _)
              ∙ sym (append_assoc (comma later) (compact_text (name endpoint)) _);
          left = record {
            primary = left.primary;
            shows = left.shows;
            left = record {
              refs = refs;
              blocks = there.blocks;
              own = one.later;
              more = there.more;
              are = one.are;
              many = omega (arith, there.many, ap length same, some);
              lie = one.lie;
              blocks_lie = there.blocks_lie;
              text = refl;
            };
          };
          less = rw is (omega (arith, some));
        }

-- ---- several steps

pub tells-more : (octets : List ℕ) (old mid new : Telling6) (before between now rest : List ℕ) → Tells octets old mid before between rest
    → ((later : List ℕ) → Left octets mid later → Tells octets mid new between now later) → Tells octets old new before now rest
tells-more octets old mid new before between now rest first more =
    let second = more first.later first.left in
    record {
      part = first.part ++ second.part;
      later = second.later;
      added = second.added ∙ ap (λ (v : List ℕ). v ++ second.part) first.added ∙ append_assoc before first.part second.part;
      parts = first.parts ∙ ap (λ (v : List ℕ). first.part ++ v) second.parts ∙ sym (append_assoc first.part second.part second.later);
      left = second.left;
      less = omega (arith, first.less, second.less);
    }

pub tells-more-ok : {E : Type 0} (octets : List ℕ) (old mid new : Telling6) (before between now rest : List ℕ) (result : Result (Unit {0}) E)
    → Tells octets old mid before between rest
    → ((later : List ℕ) → Left octets mid later → OnOk result (Tells octets mid new between now later)) → OnOk result (Tells octets old new before now rest)
tells-more-ok octets old mid new before between now rest (Ok done) first more = tells-more octets old mid new before between now rest first more
tells-more-ok octets old mid new before between now rest (Err e) first more = tt

-- ---- the last block, where it has no references

-- its end and the primary block are told at once
pub tells-closing : (octets : List ℕ) (old : Telling6) (view : BlockView) (before now rest : List ℕ)
    → old.stage ≡ stages.Body view → Left octets old rest → view.after ≤ old.at → view.count ≡ 0 → length octets ≤ view.after
    → ((value : Primary6) → ShowsPrimary octets old.primary value → now ≡ before ++ closing_text view.flags view.kind value)
    → Tells octets old (At old stages.Over view.after) before now rest
tells-closing octets old view before now rest is left past none last written =
    let head = before ++ head_text view.flags view.kind in
    let close = head ++ codes "]}" in
    let refs = At old (stages.Refs view.count false view.after) view.refs in
    let block = At old (stages.Block true) view.after in
    tells-more octets old refs (At old stages.Over view.after) before head now rest
    (tells-head octets old view before head rest is left past refl)
    (λ more stands. tells-more octets refs block (At old stages.Over view.after) head close now more
    (tells-end octets refs view.count view.after false head close more refl stands none refl)
    (λ later ends. tells-primary octets block true close now later refl ends last
    (λ value shows. written value shows
    ∙ sym (append_assoc before (head_text view.flags view.kind) (codes "]}" ++ primary_text value))
    ∙ sym (append_assoc head (codes "]}") (primary_text value)))))
