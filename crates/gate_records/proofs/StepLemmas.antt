-- The records of a step may follow what is kept, part by part.
use Rattle.std.proofs.Common.{◌≡◌, ℕ, ◌^◌, ◌<◌, ◌||◌, Bool, true, false, if◌then◌else◌, List, [], ◌∷◌, ◌++◌, Option, None, Some, IfSome, refl, sym, ap, ◌∙◌, subst, arith}
use Rattle.gate_cases.specs.declared.face.Face.{Face}
use Rattle.gateway_core.specs.declared.effects.FaceNote.{FaceNote}
use Rattle.gateway_core.specs.declared.effects.Routed.{Routed}
use Rattle.gate_events.specs.Own.{OpenAt}
use Rattle.journal_file.specs.declared.kept.Pending.{Pending}
use Rattle.journal_file.specs.declared.kept.Mark.{Mark}
use Rattle.journal_file.specs.declared.record.How.{How}
use Rattle.journal_file.specs.Values.{KeptValue, RecordValue, a_done, a_clear}
use Rattle.journal_file.specs.Keeping.{is_pending, marks_with, MARKS_MAX, kept_with, kept_after}
use Rattle.journal_file.specs.Spelling.{MayFollow}
use Rattle.journal_file.specs.Legal.{AreSmall, IsLegal}
use Rattle.journal_file.proofs.AnewLemmas.{after-append, may-append}
use Rattle.journal_file.proofs.SoundLemmas.{legal-after}
use Rattle.gate_records.specs.declared.named.Named.{Named}
use Rattle.gate_records.specs.Named.{find_id, without_named}
use Rattle.gate_records.specs.Happened.{Happened, note_ends, reports_on, is_over}
use Rattle.gate_records.specs.Keeping.{KeepingValue}
use Rattle.gate_records.specs.Records.{done_with, note_done, note_leaves, done_records, named_left, is_marked, mark_of, due_mark, mark_with, marks_then, mark_records, marks_after, clear_records, step_records, after_step}
use Rattle.gate_records.specs.Laws.{ArePending, HaveOwnIds, IsKeeping, ReportSmall, Fits}
use Rattle.gate_records.proofs.PendingLemmas.{pending-up-to}
use Rattle.gate_records.proofs.NamedLemmas.{found-pending, ended-pending, none-found, own-left}

-- ---- ends

-- after the records of ends
record Ended (kept : KeptValue) (records : List RecordValue) (left : List Named) : Type 0 where
  may : MayFollow kept records
  marks : (kept_after kept records).marks ≡ kept.marks
  greatest : (kept_after kept records).greatest ≡ kept.greatest
  pending : ArePending (kept_after kept records).pending left
  own_ids : HaveOwnIds left

ended-none : (kept : KeptValue) (named : List Named) → ArePending kept.pending named → HaveOwnIds named → Ended kept [] named
ended-none kept named are own = record { may = tt; marks = refl; greatest = refl; pending = are; own_ids = own }

ended-one : (kept : KeptValue) (is_open : OpenAt) (face : Face) (end : Option (ℕ × How)) (named : List Named) → IsLegal kept → ArePending kept.pending named → HaveOwnIds named
    → Ended kept (note_done is_open face end named) (note_leaves is_open face end named)
unfolding kept_with
ended-one kept is_open face None named legal are own = ended-none kept named are own
ended-one kept is_open face (Some end) named legal are own = by (is_open face end.0)
  where
    found : (o : Option ℕ) → find_id face end.0 named ≡ o → Ended kept (done_with o end.1) (without_named face end.0 named)
    found None is = rw (none-found face end.0 named is) (ended-none kept named are own)
    found (Some id) is = one (found-pending kept.pending face end.0 id named are is)
      where
        one : is_pending id kept.pending ≡ true → Ended kept (a_done id end.1 ∷ []) (without_named face end.0 named)
        one there = record {
          may = ((there, omega (arith, legal.greatest, pending-up-to kept.greatest id kept.pending legal.up_to there)), tt);
          marks = refl;
          greatest = refl;
          pending = ended-pending kept.pending face end.0 id named are own is;
          own_ids = own-left face end.0 named own;
        }

    by : (t : Bool) → Ended kept (done_with (if t then None else find_id face end.0 named) end.1) (if t then named else without_named face end.0 named)
    by true = ended-none kept named are own
    by false = found (find_id face end.0 named) refl

ended-on : (kept : KeptValue) (rs qs : List RecordValue) (mid left : List Named) → Ended kept rs mid → Ended (kept_after kept rs) qs left → Ended kept (rs ++ qs) left
ended-on kept rs qs mid left one two =
    let whole = after-append kept rs qs in record {
      may = may-append kept rs qs one.may two.may;
      marks = ap (λ (k : KeptValue). k.marks) whole ∙ two.marks ∙ one.marks;
      greatest = ap (λ (k : KeptValue). k.greatest) whole ∙ two.greatest ∙ one.greatest;
      pending = subst (λ (k : KeptValue). ArePending k.pending left) (sym whole) two.pending;
      own_ids = two.own_ids;
    }

ends-follow : (kept : KeptValue) (is_open : OpenAt) (notes : List FaceNote) (named : List Named) → IsLegal kept → ArePending kept.pending named → HaveOwnIds named
    → Ended kept (done_records is_open notes named) (named_left is_open notes named)
unfolding done_records named_left
ends-follow kept is_open [] named legal are own = ended-none kept named are own
ends-follow kept is_open (n ∷ notes) named legal are own =
    let one = ended-one kept is_open n.face (note_ends n.note) named legal are own in
    let rs = note_done is_open n.face (note_ends n.note) named in
    let mid = note_leaves is_open n.face (note_ends n.note) named in
    ended-on kept rs (done_records is_open notes mid) mid (named_left is_open notes mid) one
    (ends-follow (kept_after kept rs) is_open notes mid (legal-after kept rs legal one.may) one.pending one.own_ids)

-- ---- marks

record Marks (kept : KeptValue) (records : List RecordValue) (marks : List Mark) : Type 0 where
  may : MayFollow kept records
  marks_are : (kept_after kept records).marks ≡ marks
  pending : (kept_after kept records).pending ≡ kept.pending

mark-one : (h : Happened) (kept : KeptValue) (face : Face) (o : Option ℕ) (marks : List Mark) → h.wall < 2 ^ 64 → kept.marks ≡ marks → IfSome o (λ session. session < 2 ^ 64)
    → Marks kept (mark_with (due_mark h face o marks)) (marks_then (due_mark h face o marks) marks)
unfolding kept_with
mark-one h kept face None marks wall is small = record { may = tt; marks_are = is; pending = refl }
mark-one h kept face (Some session) marks wall is small = by (h.is_handed_up face session || is_marked face session marks)
  where
    due : Bool → Option Mark
    due t = if t then None else Some (mark_of h.wall face session)

    by : (t : Bool) → Marks kept (mark_with (if t then None else Some (mark_of h.wall face session))) (marks_then (if t then None else Some (mark_of h.wall face session)) marks)
    by true = record { may = tt; marks_are = is; pending = refl }
    by false = record { may = ((small, wall), tt); marks_are = ap (λ (ms : List Mark). marks_with MARKS_MAX (mark_of h.wall face session) ms) is; pending = refl }

marks-on : (kept : KeptValue) (rs qs : List RecordValue) (mid left : List Mark) → Marks kept rs mid → Marks (kept_after kept rs) qs left → Marks kept (rs ++ qs) left
marks-on kept rs qs mid left one two =
    let whole = after-append kept rs qs in record {
      may = may-append kept rs qs one.may two.may;
      marks_are = ap (λ (k : KeptValue). k.marks) whole ∙ two.marks_are;
      pending = ap (λ (k : KeptValue). k.pending) whole ∙ two.pending ∙ one.pending;
    }

marks-follow : (h : Happened) (kept : KeptValue) (out : List Routed) (marks : List Mark) → h.wall < 2 ^ 64 → kept.marks ≡ marks → ReportSmall out
    → Marks kept (mark_records h out marks) (marks_after h out marks)
unfolding mark_records marks_after
marks-follow h kept [] marks wall is small = record { may = tt; marks_are = is; pending = refl }
marks-follow h kept (r ∷ out) marks wall is (small, rest) =
    let one = mark-one h kept r.face (reports_on r.datagram) marks wall is small in
    let due = due_mark h r.face (reports_on r.datagram) marks in
    marks-on kept (mark_with due) (mark_records h out (marks_then due marks)) (marks_then due marks) (marks_after h out (marks_then due marks)) one
    (marks-follow h (kept_after kept (mark_with due)) out (marks_then due marks) wall one.marks_are rest)

-- ---- clears

record Clears (kept : KeptValue) (records : List RecordValue) : Type 0 where
  may : MayFollow kept records
  pending : (kept_after kept records).pending ≡ kept.pending

clears-follow : (h : Happened) (kept : KeptValue) (marks : List Mark) → AreSmall marks → Clears kept (clear_records h marks)
unfolding clear_records kept_with
clears-follow h kept [] small = record { may = tt; pending = refl }
clears-follow h kept (m ∷ marks) (session, moment, small) =
    by (is_over h m.face m.session) (clears-follow h kept marks small) (clears-follow h (kept_with kept (a_clear m.face m.session)) marks small)
  where
    by : (t : Bool) → Clears kept (clear_records h marks) → Clears (kept_with kept (a_clear m.face m.session)) (clear_records h marks)
        → Clears kept (if t then a_clear m.face m.session ∷ clear_records h marks else clear_records h marks)
    by true kept_on cleared = record { may = (session, cleared.may); pending = cleared.pending }
    by false kept_on cleared = kept_on

-- ---- all of them

record Steps (kept : KeptValue) (records : List RecordValue) (named : List Named) : Type 0 where
  may : MayFollow kept records
  pending : ArePending (kept_after kept records).pending named
  own_ids : HaveOwnIds named

step-follows : (h : Happened) (k : KeepingValue) → IsKeeping k → Fits h k
    → Steps k.kept (step_records h k) (named_left h.is_open h.notes k.named)
unfolding step_records
step-follows h k is fits =
    let named : List Named = named_left h.is_open h.notes k.named in
    let ended = done_records h.is_open h.notes k.named in
    let reports = mark_records h h.out (k.kept).marks in
    let over = clear_records h (marks_after h h.out (k.kept).marks) in
    let one = ends-follow k.kept h.is_open h.notes k.named is.legal is.pending is.own_ids in
    let kept1 : KeptValue = kept_after k.kept ended in
    let legal1 = legal-after k.kept ended is.legal one.may in
    let two = marks-follow h kept1 h.out (k.kept).marks fits.wall one.marks fits.sessions in
    let kept2 : KeptValue = kept_after kept1 reports in
    let legal2 = legal-after kept1 reports legal1 two.may in
    let three = clears-follow h kept2 (marks_after h h.out (k.kept).marks)
    (subst (λ (ms : List Mark). AreSmall ms) two.marks_are (legal2.marks).small) in
    let rest : kept_after k.kept (ended ++ (reports ++ over)) ≡ kept_after kept2 over =
    after-append k.kept ended (reports ++ over) ∙ after-append kept1 reports over in
    record {
      may = may-append k.kept ended (reports ++ over) one.may (may-append kept1 reports over two.may three.may);
      pending = subst (λ (ps : List Pending). ArePending ps named)
          (sym (ap (λ (j : KeptValue). j.pending) rest ∙ three.pending ∙ two.pending)) one.pending;
      own_ids = one.own_ids;
    }

pub step-may-follow : (h : Happened) (k : KeepingValue) → IsKeeping k → Fits h k → MayFollow k.kept (step_records h k) × IsKeeping (after_step h k)
unfolding after_step
step-may-follow h k is fits =
    let all = step-follows h k is fits in
    (all.may, record { legal = legal-after k.kept (step_records h k) is.legal all.may; pending = all.pending; own_ids = all.own_ids })
