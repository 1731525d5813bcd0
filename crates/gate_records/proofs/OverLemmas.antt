-- Which marks are cleared with a step.
use Rattle.std.proofs.Common.{◌≡◌, ℕ, suc, ◌+◌, ◌<◌, ◌≤◌, ◌==◌, ◌||◌, not, Bool, true, false, if◌then◌else◌, List, [], ◌∷◌, ◌++◌, length, map, drop, get_or, Option, None, Some, refl, sym, ap, ◌∙◌, append_assoc}
use Rattle.std.proofs.lemmas.List.{at_drop_more, drop_all, append-nil}
use Rattle.std.specs.List.{list_any}
use Rattle.gate_cases.specs.declared.face.Face.{Face}
use Rattle.gate_cases.specs.declared.face.Face.TheVariants.{Old, New}
use Rattle.gateway_core.specs.declared.effects.FaceNote.{FaceNote}
use Rattle.gateway_core.specs.declared.effects.FaceUp.{FaceUp}
use Rattle.journal_file.specs.declared.kept.Mark.{Mark}
use Rattle.journal_file.specs.declared.record.How.{How}
use Rattle.gateway_core.specs.Gate.{if_same}
use Rattle.journal_file.specs.Values.{RecordValue}
use Rattle.gate_records.specs.Happened.{Happened, note_ends, came_whole, is_over}
use Rattle.gate_records.specs.Records.{clear_records}
use Rattle.gate_records.specs.Ties.{own_of, end_told, told_of, cancels, left_after, cancelled_by, end_cancels, cancels_any, may_be_over, clear_of}
use Rattle.gate_records.proofs.CancelLemmas.{some-left, cancelled-is}

-- ---- where no block came whole, and no note says that a session was cancelled

parts : (a b : Bool) → (a || b) ≡ false → (a ≡ false) × (b ≡ false)
parts true b quiet = absurd (cc)
parts false b quiet = (refl, quiet)

quiet-end : (face at : Face) (session : ℕ) (is_open : Bool) (left : ℕ) (end : Option (ℕ × How)) → end_cancels end ≡ false → cancels is_open left (end_told face session at end) ≡ false
quiet-end face at session is_open left None quiet = refl
quiet-end face at session is_open left (Some end) quiet = by face at (end.0 == session)
  where
    by : (face at : Face) (t : Bool) → cancels is_open left (if_same at face (if t then Some end.1 else None) None) ≡ false
    by Old Old true = rw quiet refl
    by Old Old false = refl
    by Old New t = refl
    by New Old t = refl
    by New New true = rw quiet refl
    by New New false = refl

quiet-walk : (is_open : Bool) (left : ℕ) (face : Face) (session : ℕ) (ns : List FaceNote) → list_any cancels_any ns ≡ false → cancelled_by is_open left face session ns ≡ false
unfolding cancelled_by
quiet-walk is_open left face session [] quiet = refl
quiet-walk is_open left face session (n ∷ ns) quiet =
    let both = parts (cancels_any n) (list_any cancels_any ns) quiet in
    rw (quiet-end face n.face session is_open left (note_ends n.note) both.0)
    (quiet-walk is_open (left_after is_open left (told_of face session n)) face session ns both.1)

no_both : (t : Bool) → t ≡ false → not t ≡ false → ⊥
no_both true is other = cc
no_both false is other = cc

quiet-ups : (face : Face) (session : ℕ) (ups : List FaceUp) → not (length ups == 0) ≡ false → came_whole face session ups ≡ false
quiet-ups face session [] quiet = refl
quiet-ups face session (up ∷ ups) quiet = let some = some-left (length ups) in absurd (no_both (suc (length ups) == 0) some quiet)

quiet-over : (h : Happened) (face : Face) (session : ℕ) → may_be_over h.ups h.notes ≡ false → is_over h face session ≡ false
quiet-over h face session quiet =
    let both = parts (not (length h.ups == 0)) (list_any cancels_any h.notes) quiet in
    rw (
      quiet-ups face session h.ups both.0,
      cancelled-is h.is_open face session h.own h.notes,
      quiet-walk (h.is_open face session) (own_of face session h.own) face session h.notes both.1,
    ) refl

pub quiet-clears : (h : Happened) (marks : List Mark) → may_be_over h.ups h.notes ≡ false → clear_records h marks ≡ []
unfolding clear_records
quiet-clears h [] quiet = refl
quiet-clears h (m ∷ marks) quiet = rw (quiet-over h m.face m.session quiet) (quiet-clears h marks quiet)

-- ---- the walk through the marks

one-by-one : (h : Happened) (m : Mark) (ms : List Mark) → clear_records h (m ∷ ms) ≡ clear_records h (m ∷ []) ++ clear_records h ms
unfolding clear_records
one-by-one h m ms = by (is_over h m.face m.session)
  where
    by : (t : Bool) → (if t then clear_of m ∷ clear_records h ms else clear_records h ms) ≡ (if t then clear_of m ∷ [] else []) ++ clear_records h ms
    by true = refl
    by false = refl

pub over-step : (h : Happened) (marks over now : List Mark) (i : ℕ) (d : Mark) → i < length marks
    → map clear_of now ≡ map clear_of over ++ clear_records h (get_or marks i d ∷ [])
    → clear_records h marks ≡ map clear_of over ++ clear_records h (drop i marks)
    → clear_records h marks ≡ map clear_of now ++ clear_records h (drop (i + 1) marks)
over-step h marks over now i d low is so_far =
    so_far
    ∙ ap (λ (rs : List RecordValue). map clear_of over ++ rs) (at_drop_more (clear_records h) marks i d low ∙ one-by-one h (get_or marks i d) (drop (i + 1) marks))
    ∙ sym (append_assoc (map clear_of over) (clear_records h (get_or marks i d ∷ [])) (clear_records h (drop (i + 1) marks)))
    ∙ ap (λ (rs : List RecordValue). rs ++ clear_records h (drop (i + 1) marks)) (sym is)

pub over-end : (h : Happened) (marks over : List Mark) (i : ℕ) → length marks ≤ i
    → clear_records h marks ≡ map clear_of over ++ clear_records h (drop i marks) → map clear_of over ≡ clear_records h marks
unfolding clear_records
over-end h marks over i high so_far =
    sym (so_far ∙ ap (λ (xs : List Mark). map clear_of over ++ clear_records h xs) (drop_all i marks high) ∙ append-nil (map clear_of over))
