-- Where there is nothing to record, no memory is wanted.
use Rattle.std.proofs.Common.{◌≡◌, ℕ, ◌+◌, ◌<◌, ◌≤◌, Bool, true, false, if◌then◌else◌, List, [], ◌∷◌, ◌++◌, length, map, drop, get_or, refl, sym, ap, ◌∙◌, arith}
use Rattle.std.proofs.lemmas.List.{at_drop_more}
use Rattle.gateway_core.specs.declared.effects.Routed.{Routed}
use Rattle.gate_cases.specs.declared.face.Face.{Face}
use Rattle.gate_events.specs.Own.{OpenAt}
use Rattle.journal_file.specs.declared.kept.Mark.{Mark}
use Rattle.gate_records.specs.Happened.{Happened, is_over, reports_on}
use Rattle.gate_records.specs.Records.{due_mark, mark_with, marks_then, mark_records, clear_records}
use Rattle.gate_records.specs.Ties.{clear_of}
use Rattle.peer_gateway.specs.declared.told.RemarkAt.{RemarkAt}
use Rattle.peer_gateway.specs.Answers.{told_seen}
use Rattle.peer_gateway.specs.Gate.{FaceTold}
use Rattle.peer_records.specs.declared.ending.Ended.{Ended}
use Rattle.peer_records.specs.declared.sending.Sending.{Sending}
use Rattle.peer_records.specs.Happened.{PeerHappened, notes_in}
use Rattle.peer_records.specs.Keeping.{PeerKeeping}
use Rattle.peer_records.specs.Laws.{DoesNothing}
use Rattle.peer_records.specs.Records.{Going, ids_of, end_done, end_leaves, done_records, ended_records, piece_records, report_records, over_records, step_records}
use Rattle.peer_records.specs.Said.{SaidValue, done_of}
use Rattle.peer_records.specs.Ties.{named_of, named_all}
use Rattle.peer_records.specs.Told.{ends_told}
use Rattle.peer_records.proofs.EndingLemmas.{SoFar}
use Rattle.peer_records.proofs.SaidLemmas.{marked, report_one}
use Rattle.peer_records.proofs.SessionLemmas.{all-of, ids-step, is_it}
use Rattle.peer_records.proofs.ToldLemmas.{done-more}

-- ---- lists of which nothing is left

second-none : {T : Type 0} (xs ys : List T) → xs ++ ys ≡ [] → ys ≡ []
second-none [] ys none = none
second-none (x ∷ xs) ys none = absurd (cc)

first-none : {T : Type 0} (xs ys : List T) → xs ++ ys ≡ [] → xs ≡ []
first-none [] ys none = refl
first-none (x ∷ xs) ys none = absurd (cc)

pub none-mapped : {T S : Type 0} (f : T → S) (xs : List T) → map f xs ≡ [] → xs ≡ []
none-mapped f [] none = refl
none-mapped f (x ∷ xs) none = absurd (cc)

-- ---- the walks

pub all-wanted : (s : Sending) (face : Face) (session : ℕ) (len cap : ℕ) (slice : List ℕ) → is_it face session s ≡ true → slice ≡ s.ids.items
    → len ≤ cap → cap < len + length slice → ids_of face session (named_of s) ≡ [] → ⊥
all-wanted s face session len cap slice is same low high none =
    let empty : slice ≡ [] = same ∙ all-of s face session [] is ∙ none in
    let no = ap (λ (l : List ℕ). length l) empty in omega (arith, low, high, no)

pub ids-wanted : (face : Face) (session : ℕ) (ss : List Sending) (i : ℕ) (s : Sending) (ids : List ℕ) → i < length ss → s ≡ get_or ss i s
    → ids_of face session (named_all ss) ≡ ids ++ ids_of face session (named_all (drop i ss))
    → (ids_of face session (named_of s) ≡ [] → ⊥) → ids_of face session (named_all ss) ≡ [] → ⊥
ids-wanted face session ss i s ids low at so_far some none =
    let here = ids_of face session (named_of s) in
    let more = ids_of face session (named_all (drop (i + 1) ss)) in
    let whole = ids-step face session ss i s ids (ids ++ here) (ids_of face session (named_all ss)) low at refl so_far in
    some (second-none ids here (first-none (ids ++ here) more (sym whole ∙ none)))

pub ends-wanted : (o : OpenAt) (whole : List RemarkAt) (i : ℕ) (t : RemarkAt) (ended : List Ended) (held initial : Going) → i < length whole → t ≡ get_or whole i t
    → SoFar o (drop i whole) ended held initial whole → (end_done o t.face (ends_told (told_seen t).told) held.named ≡ [] → ⊥)
    → done_records o (notes_in (map told_seen whole)) initial.named ≡ [] → ⊥
ends-wanted o whole i t ended held initial low at so_far some none =
    let more : List FaceTold = map told_seen (drop (i + 1) whole) in
    let first = end_done o t.face (ends_told (told_seen t).told) held.named in
    let rest = done_records o (notes_in more) (end_leaves o t.face (ends_told (told_seen t).told) held.named) in
    let here : done_records o (notes_in (map told_seen (drop i whole))) held.named ≡ first ++ rest =
    at_drop_more (λ (xs : List RemarkAt). done_records o (notes_in (map told_seen xs)) held.named) whole i t low
    ∙ ap (λ (x : RemarkAt). done_records o (notes_in (map told_seen (x ∷ drop (i + 1) whole))) held.named) (sym at)
    ∙ done-more o (told_seen t) more held.named in
    some (first-none first rest (sym here ∙ second-none (map done_of ended) (done_records o (notes_in (map told_seen (drop i whole))) held.named) (so_far.done ∙ none)))

mark-first : (h : Happened) (routed : Routed) (more : List Routed) (marks : List Mark) → mark_records h (routed ∷ more) marks
    ≡ mark_with (due_mark h routed.face (reports_on routed.datagram) marks) ++ mark_records h more (marks_then (due_mark h routed.face (reports_on routed.datagram) marks) marks)
unfolding mark_records
mark-first h routed more marks = refl

mark-split : (h : Happened) (out : List Routed) (i : ℕ) (d : Routed) (marks : List Mark) → i < length out → d ≡ get_or out i d → mark_records h (drop i out) marks
    ≡ mark_with (due_mark h d.face (reports_on d.datagram) marks) ++ mark_records h (drop (i + 1) out) (marks_then (due_mark h d.face (reports_on d.datagram) marks) marks)
mark-split h out i d marks low at =
    at_drop_more (λ (xs : List Routed). mark_records h xs marks) out i d low
    ∙ ap (λ (x : Routed). mark_records h (x ∷ drop (i + 1) out) marks) (sym at)
    ∙ mark-first h d (drop (i + 1) out) marks

pub mark-none : (h : Happened) (out : List Routed) (i : ℕ) (d : Routed) (s now : SaidValue) → i < length out → d ≡ get_or out i d → now ≡ report_one h d s
    → mark_records h (drop i out) (s.kept).marks ≡ [] → mark_records h (drop (i + 1) out) (now.kept).marks ≡ []
mark-none h out i d s now low at is none =
    let due = due_mark h d.face (reports_on d.datagram) (s.kept).marks in
    let marks : (now.kept).marks ≡ marks_then due (s.kept).marks = ap (λ (t : SaidValue). (t.kept).marks) is ∙ marked s.kept due in
    ap (λ (ms : List Mark). mark_records h (drop (i + 1) out) ms) marks
    ∙ second-none (mark_with due) (mark_records h (drop (i + 1) out) (marks_then due (s.kept).marks)) (sym (mark-split h out i d (s.kept).marks low at) ∙ none)

pub mark-wanted : (h : Happened) (out : List Routed) (i : ℕ) (d : Routed) (marks : List Mark) → i < length out → d ≡ get_or out i d
    → (mark_with (due_mark h d.face (reports_on d.datagram) marks) ≡ [] → ⊥) → mark_records h (drop i out) marks ≡ [] → ⊥
mark-wanted h out i d marks low at some none =
    let due = due_mark h d.face (reports_on d.datagram) marks in
    some (first-none (mark_with due) (mark_records h (drop (i + 1) out) (marks_then due marks)) (sym (mark-split h out i d marks low at) ∙ none))

clear-first : (h : Happened) (m : Mark) (ms : List Mark) → clear_records h (m ∷ ms) ≡ [] → clear_records h (m ∷ []) ≡ []
unfolding clear_records
clear-first h m ms none = by (is_over h m.face m.session) none
  where
    by : (t : Bool) → (if t then clear_of m ∷ clear_records h ms else clear_records h ms) ≡ [] → (if t then clear_of m ∷ [] else []) ≡ []
    by true is = absurd (cc)
    by false is = refl

pub clear-wanted : (h : Happened) (marks over : List Mark) (i : ℕ) (d : Mark) → i < length marks
    → clear_records h marks ≡ map clear_of over ++ clear_records h (drop i marks)
    → (clear_records h (get_or marks i d ∷ []) ≡ [] → ⊥) → clear_records h marks ≡ [] → ⊥
clear-wanted h marks over i d low so_far some none =
    some (clear-first h (get_or marks i d) (drop (i + 1) marks)
    (sym (at_drop_more (clear_records h) marks i d low) ∙ second-none (map clear_of over) (clear_records h (drop i marks)) (sym so_far ∙ none)))

-- ---- a step that does nothing

pub record Nothing (h : PeerHappened) (k : PeerKeeping) : Type 0 where
  pub ended : ended_records h k ≡ []
  pub reports : report_records h k ≡ []
  pub over : over_records h k ≡ []

pub nothing : (h : PeerHappened) (k : PeerKeeping) → DoesNothing h k → Nothing h k
unfolding step_records
nothing h k does =
    let others = report_records h k ++ over_records h k in
    let later = second-none (ended_records h k) (piece_records h k ++ others) does.records in
    let last = second-none (piece_records h k) others later in
    record {
      ended = first-none (ended_records h k) (piece_records h k ++ others) does.records;
      reports = first-none (report_records h k) (over_records h k) last;
      over = second-none (report_records h k) (over_records h k) last;
    }
