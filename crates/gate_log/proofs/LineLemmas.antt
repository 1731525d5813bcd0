-- A line and a subject, piece by piece.
use Rattle.std.proofs.Common.{◌≡◌, ℕ, true, List, [], ◌∷◌, ◌++◌, codes, Option, None, Some, refl, sym, ap, ◌∙◌, append_assoc, append-nil}
use Rattle.json.specs.Print.{quoted, escape_byte}
use Rattle.serde_json.specs.Written.{compact_text, members_text}
use Rattle.gate_log.specs.declared.event.Event.{Event}
use Rattle.gate_log.specs.declared.subject.Subject.{Subject}
use Rattle.gate_log.specs.Values.{Entry, keys_of, moment, created, bundle}
use Rattle.gate_log.specs.Lines.{count_if, event_entries, line_of}
use Rattle.gate_log.specs.Written.{later_text, later_texts, later_if, written_line, written_bundle, subject_rest}

-- ---- piece by piece

-- the last piece of a list of pieces
pub ends : (start now piece : List ℕ) → now ≡ start ++ piece → now ≡ start ++ (piece ++ [])
ends start now piece last = last ∙ ap (λ (v : List ℕ). start ++ v) (sym (append-nil piece))

-- a piece before the rest
pub before : (start mid now piece rest : List ℕ) → mid ≡ start ++ piece → now ≡ mid ++ rest → now ≡ start ++ (piece ++ rest)
before start mid now piece rest first more = more ∙ ap (λ (v : List ℕ). v ++ rest) first ∙ append_assoc start piece rest

-- two pieces before the rest
pub two-before : (start mid now a b rest : List ℕ) → mid ≡ start ++ (a ++ (b ++ [])) → now ≡ mid ++ rest → now ≡ start ++ (a ++ (b ++ rest))
two-before start mid now a b rest first more =
    more ∙ ap (λ (v : List ℕ). v ++ rest) first ∙ regroup
  where
    regroup : (start ++ (a ++ (b ++ []))) ++ rest ≡ start ++ (a ++ (b ++ rest))
    regroup = append_assoc start (a ++ (b ++ [])) rest ∙ ap (λ (v : List ℕ). start ++ v) (append_assoc a (b ++ []) rest ∙ ap (λ (v : List ℕ). a ++ v) (append_assoc b [] rest))

-- a number that may be left out, before the rest
pub later_counted : (key : List ℕ) (number : Option ℕ) (rest : List Entry) → later_texts (count_if key number rest) ≡ later_if key number ++ later_texts rest
later_counted key None rest = refl
later_counted key (Some n) rest = refl

-- ---- objects

parts : (key value rest : List ℕ) → codes "," ++ (key ++ (58 ∷ (value ++ (rest ++ codes "}"))))
    ≡ ((codes "," ++ (key ++ (codes ":" ++ value))) ++ rest) ++ codes "}"
parts key value rest = simp append_assoc

pub members-later : (entries : List Entry) → members_text true (keys_of entries) ≡ later_texts entries ++ codes "}"
unfolding later_text
members-later [] = refl
members-later (entry ∷ entries) =
    ap (λ (v : List ℕ). codes "," ++ (quoted entry.0 ++ (58 ∷ (compact_text entry.1 ++ v)))) (members-later entries)
    ∙ parts (quoted entry.0) (compact_text entry.1) (later_texts entries)

line-end : (at rest : List ℕ) → (codes "{\"at\":" ++ (at ++ (rest ++ codes "}"))) ++ codes "\n" ≡ codes "{\"at\":" ++ (at ++ (rest ++ codes "}\n"))
line-end at rest = simp append_assoc

pub line-text : (at : ℕ) (event : Event) → line_of at event ≡ written_line at event
unfolding line_of escape_byte
line-text at event =
    ap (λ (v : List ℕ). (codes "{\"at\":" ++ (compact_text (moment at) ++ v)) ++ codes "\n") (members-later (event_entries event))
    ∙ line-end (compact_text (moment at)) (later_texts (event_entries event))

pub bundle-text : (s : Subject) → compact_text (bundle s) ≡ written_bundle s
unfolding escape_byte
bundle-text s =
    ap (λ (v : List ℕ). codes "{\"creation\":" ++ (compact_text (created s.creation) ++ v)) (members-later (subject_rest s))
