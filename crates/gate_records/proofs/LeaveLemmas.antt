-- What records do to the pending blocks.
use Rattle.std.proofs.Common.{◌≡◌, Bool, true, false, if◌then◌else◌, List, [], ◌∷◌, ◌++◌, Option, None, Some, refl}
use Rattle.gate_cases.specs.declared.face.Face.TheVariants.{Old, New}
use Rattle.gateway_core.specs.declared.effects.Routed.{Routed}
use Rattle.journal_file.specs.declared.kept.Mark.{Mark}
use Rattle.journal_file.specs.Values.{KeptValue, RecordValue, a_begun, a_done, a_mark, a_clear, a_reserved}
use Rattle.journal_file.specs.Keeping.{kept_with, kept_after}
use Rattle.gate_records.specs.Happened.{Happened, reports_on, is_over}
use Rattle.gate_records.specs.Records.{due_mark, mark_with, marks_then, mark_records, clear_records}

-- records that begin no block, and ends none
abbrev pub AreApart : List RecordValue → Type 0
AreApart [] = Unit {0}
AreApart (a_begun p ∷ rs) = ⊥
AreApart (a_done id how ∷ rs) = ⊥
AreApart (a_mark m ∷ rs) = AreApart rs
AreApart (a_clear face session ∷ rs) = AreApart rs
AreApart (a_reserved face n ∷ rs) = AreApart rs

pub apart-pending : (kept : KeptValue) (rs : List RecordValue) → AreApart rs → (kept_after kept rs).pending ≡ kept.pending
unfolding kept_with
apart-pending kept [] are = refl
apart-pending kept (a_begun p ∷ rs) are = absurd are
apart-pending kept (a_done id how ∷ rs) are = absurd are
apart-pending kept (a_mark m ∷ rs) are = apart-pending (kept_with kept (a_mark m)) rs are
apart-pending kept (a_clear face session ∷ rs) are = apart-pending (kept_with kept (a_clear face session)) rs are
apart-pending kept (a_reserved Old n ∷ rs) are = apart-pending (kept_with kept (a_reserved Old n)) rs are
apart-pending kept (a_reserved New n ∷ rs) are = apart-pending (kept_with kept (a_reserved New n)) rs are

apart-append : (rs qs : List RecordValue) → AreApart rs → AreApart qs → AreApart (rs ++ qs)
apart-append [] qs are be = be
apart-append (a_begun p ∷ rs) qs are be = absurd are
apart-append (a_done id how ∷ rs) qs are be = absurd are
apart-append (a_mark m ∷ rs) qs are be = apart-append rs qs are be
apart-append (a_clear face session ∷ rs) qs are be = apart-append rs qs are be
apart-append (a_reserved face n ∷ rs) qs are be = apart-append rs qs are be

mark-apart : (o : Option Mark) → AreApart (mark_with o)
mark-apart None = tt
mark-apart (Some m) = tt

marks-apart : (h : Happened) (out : List Routed) (marks : List Mark) → AreApart (mark_records h out marks)
unfolding mark_records
marks-apart h [] marks = tt
marks-apart h (r ∷ out) marks =
    let due = due_mark h r.face (reports_on r.datagram) marks in
    apart-append (mark_with due) (mark_records h out (marks_then due marks)) (mark-apart due) (marks-apart h out (marks_then due marks))

clears-apart : (h : Happened) (marks : List Mark) → AreApart (clear_records h marks)
unfolding clear_records
clears-apart h [] = tt
clears-apart h (m ∷ marks) = by (is_over h m.face m.session) (clears-apart h marks)
  where
    by : (t : Bool) → AreApart (clear_records h marks) → AreApart (if t then a_clear m.face m.session ∷ clear_records h marks else clear_records h marks)
    by true rest = rest
    by false rest = rest

pub others-apart : (h : Happened) (out : List Routed) (marks later : List Mark) → AreApart (mark_records h out marks ++ clear_records h later)
others-apart h out marks later = apart-append (mark_records h out marks) (clear_records h later) (marks-apart h out marks) (clears-apart h later)
