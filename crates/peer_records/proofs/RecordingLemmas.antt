-- The parts of a step, one after the other, are the step.
use Rattle.std.proofs.Common.{◌≡◌, ℕ, ◌+◌, ◌^◌, ◌<◌, Bool, true, false, if◌then◌else◌, List, [], ◌∷◌, ◌++◌, length, Option, None, Some, IfSome, refl, sym, ap, ◌∙◌, subst}
use Rattle.gate_cases.specs.declared.face.Face.{Face}
use Rattle.gateway_core.specs.declared.effects.FaceNote.{FaceNote}
use Rattle.gateway_core.specs.declared.effects.Routed.{Routed}
use Rattle.gate_events.specs.Own.{OpenAt}
use Rattle.journal_file.specs.declared.kept.Mark.{Mark}
use Rattle.journal_file.specs.declared.record.How.{How}
use Rattle.journal_file.specs.Values.{KeptValue, RecordValue, a_begun, a_done}
use Rattle.journal_file.specs.Keeping.{kept_with, kept_after}
use Rattle.journal_file.proofs.AnewLemmas.{after-append}
use Rattle.gate_records.specs.declared.named.Named.{Named}
use Rattle.gate_records.specs.Happened.{Happened, note_ends, reports_on}
use Rattle.gate_records.specs.Records.{due_mark, mark_with, marks_then, mark_records, marks_after, clear_records}
use Rattle.peer_gateway.specs.Gate.{AddedAt}
use Rattle.peer_records.specs.Happened.{PeerHappened, notes_in, marking}
use Rattle.peer_records.specs.Keeping.{PeerKeeping}
use Rattle.peer_records.specs.Records.{ids_of, all_done, end_done, end_leaves, done_records, named_left, pending_with, begun_records, added_records, added_waiting, Going, all_go, step_records, after_step}
use Rattle.peer_records.specs.Halves.{recording}
use Rattle.peer_records.specs.Laws.{IsToAdd, AddsWell}
use Rattle.peer_records.specs.Said.{SaidValue, said_with, shown}
use Rattle.peer_records.specs.Ties.{with_waiting, with_named}
use Rattle.peer_records.proofs.SaidLemmas.{with-with, marked}

-- ---- what each kind leaves alone

record Same (k now : KeptValue) : Type 0 where
  marks : now.marks ≡ k.marks
  greatest : now.greatest ≡ k.greatest

same-none : (k : KeptValue) → Same k k
same-none k = record { marks = refl; greatest = refl }

same-done : (k : KeptValue) (how : How) (ids : List ℕ) → Same k (kept_after k (all_done how ids))
unfolding kept_with
same-done k how [] = same-none k
same-done k how (x ∷ ids) = let rest = same-done (kept_with k (a_done x how)) how ids in record { marks = rest.marks; greatest = rest.greatest }

same-end : (k : KeptValue) (o : OpenAt) (face : Face) (end : Option (ℕ × How)) (named : List Named) → Same k (kept_after k (end_done o face end named))
same-end k o face None named = same-none k
same-end k o face (Some end) named = by (o face end.0)
  where
    by : (t : Bool) → Same k (kept_after k (if t then [] else all_done end.1 (ids_of face end.0 named)))
    by true = same-none k
    by false = same-done k end.1 (ids_of face end.0 named)

same-ends : (k : KeptValue) (o : OpenAt) (ns : List FaceNote) (named : List Named) → Same k (kept_after k (done_records o ns named))
unfolding done_records
same-ends k o [] named = same-none k
same-ends k o (n ∷ ns) named =
    let rs = end_done o n.face (note_ends n.note) named in
    let mid = end_leaves o n.face (note_ends n.note) named in
    let one = same-end k o n.face (note_ends n.note) named in
    let two = same-ends (kept_after k rs) o ns mid in
    let whole = after-append k rs (done_records o ns mid) in record {
      marks = ap (λ (j : KeptValue). j.marks) whole ∙ two.marks ∙ one.marks;
      greatest = ap (λ (j : KeptValue). j.greatest) whole ∙ two.greatest ∙ one.greatest;
    }

pub ends-greatest : (k : KeptValue) (o : OpenAt) (ns : List FaceNote) (named : List Named) → (kept_after k (done_records o ns named)).greatest ≡ k.greatest
ends-greatest k o ns named = (same-ends k o ns named).greatest

same-pieces : (k : KeptValue) (g : ℕ) (added : List AddedAt) → (kept_after k (begun_records g added)).marks ≡ k.marks
unfolding begun_records kept_with
same-pieces k g [] = refl
same-pieces k g (a ∷ added) = by a.is_report (same-pieces k g added) (same-pieces (kept_with k (a_begun (pending_with (g + 1) a))) (g + 1) added)
  where
    by : (t : Bool) → (kept_after k (begun_records g added)).marks ≡ k.marks
        → (kept_after (kept_with k (a_begun (pending_with (g + 1) a))) (begun_records (g + 1) added)).marks ≡ k.marks
        → (kept_after k (if t then begun_records g added else a_begun (pending_with (g + 1) a) ∷ begun_records (g + 1) added)).marks ≡ k.marks
    by true report piece = report
    by false report piece = piece

same-added : (k : KeptValue) (again : Option ℕ) (g : ℕ) (added : List AddedAt) → (kept_after k (added_records again g added)).marks ≡ k.marks
same-added k None g added = same-pieces k g added
same-added k (Some id) g added = refl

marked-all : (h : Happened) (k : KeptValue) (out : List Routed) → (kept_after k (mark_records h out k.marks)).marks ≡ marks_after h out k.marks
unfolding mark_records marks_after
marked-all h k [] = refl
marked-all h k (routed ∷ out) =
    let due = due_mark h routed.face (reports_on routed.datagram) k.marks in
    let ms = marks_then due k.marks in
    let is = marked k due in
    ap (λ (j : KeptValue). j.marks) (after-append k (mark_with due) (mark_records h out ms))
    ∙ ap (λ (xs : List Mark). (kept_after (kept_after k (mark_with due)) (mark_records h out xs)).marks) (sym is)
    ∙ marked-all h (kept_after k (mark_with due)) out ∙ ap (marks_after h out) is

-- ---- all of them

four : (rs qs ps os : List RecordValue) (s : SaidValue) → said_with os (said_with ps (said_with qs (said_with rs s))) ≡ said_with (rs ++ (qs ++ (ps ++ os))) s
four rs qs ps os s = with-with ps os (said_with qs (said_with rs s)) ∙ with-with qs (ps ++ os) (said_with rs s) ∙ with-with rs (qs ++ (ps ++ os)) s

-- in turn: ends, pieces, blocks that begin, marks, clears
pub record Parts (h : PeerHappened) (s s1 s2 s3 s4 : SaidValue) (g g1 g2 g3 : Going) : Type 0 where
  pub ended : s1 ≡ said_with (done_records h.is_open (notes_in h.told) g.named) s
  pub left : g1 ≡ with_named g (named_left h.is_open (notes_in h.told) g.named)
  pub added : s2 ≡ said_with (added_records h.again (s1.kept).greatest h.added) s1
  pub waits : g2 ≡ with_waiting g1 (added_waiting h.again (s1.kept).greatest h.added g1.waiting)
  pub going : g3 ≡ all_go h.begun g2
  pub reported : s3 ≡ said_with (mark_records (marking h) h.out (s2.kept).marks) s2
  pub over : s4 ≡ said_with (clear_records (marking h) (s3.kept).marks) s3

-- the marks before and after those of a step's reports
pub pieces-marks : (h : PeerHappened) (s s1 s2 : SaidValue) (named : List Named) → s1 ≡ said_with (done_records h.is_open (notes_in h.told) named) s
    → s2 ≡ said_with (added_records h.again (s1.kept).greatest h.added) s1 → (s2.kept).marks ≡ (s.kept).marks
pieces-marks h s s1 s2 named ended added =
    ap (λ (t : SaidValue). (t.kept).marks) added ∙ same-added s1.kept h.again (s1.kept).greatest h.added
    ∙ ap (λ (t : SaidValue). (t.kept).marks) ended ∙ (same-ends s.kept h.is_open (notes_in h.told) named).marks

pub reports-marks : (h : PeerHappened) (s s2 s3 : SaidValue) → (s2.kept).marks ≡ (s.kept).marks → s3 ≡ said_with (mark_records (marking h) h.out (s2.kept).marks) s2
    → (s3.kept).marks ≡ marks_after (marking h) h.out (s.kept).marks
reports-marks h s s2 s3 same reported =
    ap (λ (t : SaidValue). (t.kept).marks) reported ∙ marked-all (marking h) s2.kept h.out ∙ ap (marks_after (marking h) h.out) same

steps : (h : PeerHappened) (s : SaidValue) (g : Going) (ended : SaidValue) (greatest : ℕ) (after_pieces after_marks : List Mark)
    → ended ≡ said_with (done_records h.is_open (notes_in h.told) g.named) s
    → greatest ≡ (s.kept).greatest → after_pieces ≡ (s.kept).marks → after_marks ≡ marks_after (marking h) h.out (s.kept).marks
    → shown (said_with (clear_records (marking h) after_marks) (said_with (mark_records (marking h) h.out after_pieces) (said_with (added_records h.again greatest h.added) ended)))
    (all_go h.begun (record { waiting = added_waiting h.again greatest h.added g.waiting; named = named_left h.is_open (notes_in h.told) g.named }))
    ≡ recording h (shown s g)
unfolding step_records after_step
steps h s g ended greatest after_pieces after_marks is same p m =
    let going = all_go h.begun (record { waiting = added_waiting h.again (s.kept).greatest h.added g.waiting; named = named_left h.is_open (notes_in h.told) g.named }) in
    rw (is, same, p, m) (ap (λ (t : SaidValue). shown t going) (four (done_records h.is_open (notes_in h.told) g.named) (added_records h.again (s.kept).greatest h.added)
    (mark_records (marking h) h.out (s.kept).marks) (clear_records (marking h) (marks_after (marking h) h.out (s.kept).marks)) s))

pub parts-recorded : (h : PeerHappened) (s s1 s2 s3 s4 : SaidValue) (g g1 g2 g3 : Going) → Parts h s s1 s2 s3 s4 g g1 g2 g3 → shown s4 g3 ≡ recording h (shown s g)
parts-recorded h s s1 s2 s3 s4 g g1 g2 g3 is =
    rw (is.over, is.going, is.reported, is.waits, is.added, is.left)
    (steps h s g s1 (s1.kept).greatest (two.kept).marks (three.kept).marks is.ended greatest marks (reports-marks h s two three marks refl))
  where
    two : SaidValue
    two = said_with (added_records h.again (s1.kept).greatest h.added) s1

    three : SaidValue
    three = said_with (mark_records (marking h) h.out (two.kept).marks) two

    greatest : (s1.kept).greatest ≡ (s.kept).greatest
    greatest = ap (λ (t : SaidValue). (t.kept).greatest) is.ended ∙ ends-greatest s.kept h.is_open (notes_in h.told) g.named

    marks : (two.kept).marks ≡ (s.kept).marks
    marks = pieces-marks h s s1 two g.named is.ended refl

-- ---- what is added fits, as it does after the ends

pub adds-well : (again : Option ℕ) (added : List AddedAt) (k now : PeerKeeping) → (now.kept).greatest ≡ (k.kept).greatest
    → (IfSome again (IsToAdd now) → AddsWell again added now) → IfSome again (IsToAdd k) → AddsWell again added k
adds-well None added k now same well free =
    let (ids, short) = well tt in (subst (λ (g : ℕ). g + length added < 2 ^ 64) same ids, short)
adds-well (Some id) added k now same well free = free
