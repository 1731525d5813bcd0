-- Each piece that a run adds stays in its journal until the session of its block ends.

use Rattle.std.proofs.Common.{◌≡◌, ℕ, ◌+◌, ◌<◌, ◌≤◌, Bool, true, false, ◌==◌, ◌||◌, not, List, [], ◌∷◌, ◌++◌, Option, None, Some, ◌⊎◌, inl, inr, if◌then◌else◌, refl, ap, ◌∙◌, sym, subst, arith}
use Rattle.std.proofs.lemmas.Bool.{eqb-true}
use Rattle.std.specs.List.{filter, list_any}
use Rattle.gate_cases.specs.declared.face.Face.{Face}
use Rattle.gate_cases.specs.declared.face.Face.TheVariants as faces
use Rattle.gateway_core.specs.declared.effects.FaceNote.{FaceNote}
use Rattle.gate_events.specs.Own.{OpenAt}
use Rattle.journal_file.specs.declared.kept.Pending.{Pending}
use Rattle.journal_file.specs.declared.record.How.{How}
use Rattle.journal_file.specs.Values.{KeptValue, RecordValue, a_begun, a_done, a_mark, a_clear, a_reserved}
use Rattle.journal_file.specs.Keeping.{has_id, kept_after, kept_with}
use Rattle.journal_file.proofs.DropLemmas.{drop_first, drop_first-is}
use Rattle.gate_records.specs.declared.named.Named.{Named}
use Rattle.gate_records.specs.Named.{is_of}
use Rattle.gate_records.specs.Happened.{note_ends}
use Rattle.gate_records.specs.Laws.{ends_of, is_end}
use Rattle.gate_records.proofs.LeaveLemmas.{AreApart, apart-pending, others-apart}
use Rattle.peer_gateway.specs.Gate.{AddedAt}
use Rattle.peer_records.specs.Happened.{PeerHappened, notes_in, marking}
use Rattle.peer_records.specs.Keeping.{PeerKeeping, ids_named, one_if, times}
use Rattle.peer_records.specs.Records.{added_records, after_step, all_done, begun_records, done_records, end_done, end_leaves, ended_records, ids_of, others_than, pending_with, piece_records, report_records, over_records, step_records}
use Rattle.gate_records.specs.Records.{marks_after}
use Rattle.peer_records.specs.Laws.{PiecesArePending}
use Rattle.peer_half.specs.Journals.{Journalled, anew_in, starts_journal}
use Rattle.peer_half.specs.Runs.{Run, begins_at}
use Rattle.peer_journal_laws.specs.Pieces.{EarlierAreKept, EndsPiece, IsAmong, IsEnded, PiecesAreKept, pending_of}
use Rattle.peer_journal_laws.specs.Steps.{JournalStep, known_then, records_of, steps_of}
use Rattle.peer_journal_laws.proofs.JournalLemmas.{journal-begins}
use Rattle.peer_journal_laws.proofs.StepLemmas.{AreReserved, Chain, Moves, chain-after, keeping_of, known-run}

-- ---- a piece that is pending, and records after it

among-push : (p q : Pending) (ps : List Pending) → IsAmong p ps → IsAmong p (ps ++ q ∷ [])
among-push p q [] is = absurd is
among-push p q (x ∷ ps) (inl here) = inl here
among-push p q (x ∷ ps) (inr there) = inr (among-push p q ps there)

not_other : (a b : ℕ) → (a == b) ≡ true → (b == a) ≡ false → ⊥
not_other a b same other = let is : a ≡ b = eqb-true a b same in absurd (cc (is, same, other))

among-drop : (p : Pending) (id : ℕ) (ps : List Pending) → (id == p.id) ≡ false → IsAmong p ps → IsAmong p (drop_first (has_id id) ps)
unfolding drop_first
among-drop p id [] other is = absurd is
among-drop p id (x ∷ ps) other is = by_test (has_id id x) refl (λ there. among-drop p id ps other there) is where
  by_test : (t : Bool) → has_id id x ≡ t → (IsAmong p ps → IsAmong p (drop_first (has_id id) ps)) → IsAmong p (x ∷ ps) → IsAmong p (if t then ps else x ∷ drop_first (has_id id) ps)
  by_test true is rest (inl here) = let same : (p.id == id) ≡ true = ap (λ (y : Pending). y.id == id) here ∙ is in absurd (not_other p.id id same other)
  by_test true is rest (inr there) = there
  by_test false is rest (inl here) = inl here
  by_test false is rest (inr there) = inr (rest there)

abbrev either : Bool → Bool → Bool
either a b = a || b

abbrev ends_one : ℕ → List RecordValue → Bool
ends_one id rs = list_any (λ said. is_end id (ends_of said)) rs

-- it stays, or one of them ends it
stays-after : (p : Pending) (kept : KeptValue) (rs : List RecordValue) → IsAmong p kept.pending → IsAmong p (kept_after kept rs).pending ⊎ (ends_one p.id rs ≡ true)
unfolding kept_with
stays-after p kept [] is = inl is
stays-after p kept (a_begun q ∷ rs) is = stays-after p (kept_with kept (a_begun q)) rs (among-push p q kept.pending is)
stays-after p kept (a_done id how ∷ rs) is = by_id (id == p.id) refl (λ there. stays-after p (kept_with kept (a_done id how)) rs there) where
  by_id : (t : Bool) → (id == p.id) ≡ t
      → (IsAmong p (kept_with kept (a_done id how)).pending → IsAmong p (kept_after (kept_with kept (a_done id how)) rs).pending ⊎ (ends_one p.id rs ≡ true))
      → IsAmong p (kept_after (kept_with kept (a_done id how)) rs).pending ⊎ (either t (ends_one p.id rs) ≡ true)
  by_id true same rest = inr refl
  by_id false other rest = rest (subst (IsAmong p) (sym (drop_first-is (has_id id) kept.pending)) (among-drop p id kept.pending other is))
stays-after p kept (a_mark m ∷ rs) is = stays-after p (kept_with kept (a_mark m)) rs is
stays-after p kept (a_clear face session ∷ rs) is = stays-after p (kept_with kept (a_clear face session)) rs is
stays-after p kept (a_reserved faces.Old n ∷ rs) is = stays-after p (kept_with kept (a_reserved faces.Old n)) rs is
stays-after p kept (a_reserved faces.New n ∷ rs) is = stays-after p (kept_with kept (a_reserved faces.New n)) rs is

-- ---- which records of a step end one: those of its session's end

ends-split : (id : ℕ) (rs qs : List RecordValue) → ends_one id (rs ++ qs) ≡ true → (ends_one id rs ≡ true) ⊎ (ends_one id qs ≡ true)
ends-split id [] qs is = inr is
ends-split id (r ∷ rs) qs is = by (is_end id (ends_of r)) is (λ later. ends-split id rs qs later)
  where
    by : (t : Bool) → either t (ends_one id (rs ++ qs)) ≡ true → (ends_one id (rs ++ qs) ≡ true → (ends_one id rs ≡ true) ⊎ (ends_one id qs ≡ true))
        → (either t (ends_one id rs) ≡ true) ⊎ (ends_one id qs ≡ true)
    by true is rest = inl refl
    by false is rest = rest is

apart-ends : (id : ℕ) (rs : List RecordValue) → AreApart rs → ends_one id rs ≡ false
apart-ends id [] are = refl
apart-ends id (a_begun p ∷ rs) are = absurd are
apart-ends id (a_done j how ∷ rs) are = absurd are
apart-ends id (a_mark m ∷ rs) are = apart-ends id rs are
apart-ends id (a_clear face session ∷ rs) are = apart-ends id rs are
apart-ends id (a_reserved face n ∷ rs) are = apart-ends id rs are

begun-ends : (id : ℕ) (greatest : ℕ) (added : List AddedAt) → ends_one id (begun_records greatest added) ≡ false
unfolding begun_records
begun-ends id greatest [] = refl
begun-ends id greatest (a ∷ added) = by a.is_report (begun-ends id greatest added) (begun-ends id (greatest + 1) added)
  where
    by : (t : Bool) → ends_one id (begun_records greatest added) ≡ false → ends_one id (begun_records (greatest + 1) added) ≡ false
        → ends_one id (if t then begun_records greatest added else a_begun (pending_with (greatest + 1) a) ∷ begun_records (greatest + 1) added) ≡ false
    by true report piece = report
    by false report piece = piece

added-ends : (id : ℕ) (again : Option ℕ) (greatest : ℕ) (added : List AddedAt) → ends_one id (added_records again greatest added) ≡ false
added-ends id None greatest added = begun-ends id greatest added
added-ends id (Some other) greatest added = refl

-- by a note, of whose session it was
record Noted (id : ℕ) (is_open : OpenAt) (notes : List FaceNote) (named : List Named) : Type 0 where
  earlier : List FaceNote
  note : FaceNote
  later : List FaceNote
  session : ℕ
  how : How
  noted : notes ≡ earlier ++ note ∷ later
  tells : note_ends note.note ≡ Some (session, how)
  closed : is_open note.face session ≡ false
  has : 0 < times id (ids_of note.face session named)

done-has : (id : ℕ) (how : How) (ids : List ℕ) → ends_one id (all_done how ids) ≡ true → 0 < times id ids
unfolding times
done-has id how [] is = absurd (cc)
done-has id how (x ∷ ids) is = by (x == id) is (λ more. done-has id how ids more)
  where
    by : (t : Bool) → either t (ends_one id (all_done how ids)) ≡ true → (ends_one id (all_done how ids) ≡ true → 0 < times id ids) → 0 < one_if t + times id ids
    by true is rest = omega arith
    by false is rest = let more = rest is in omega (arith, more)

-- those of a session are no more after others ended
fewer : (id : ℕ) (test other : Named → Bool) (ns : List Named) → times id (ids_named (filter test (filter other ns))) ≤ times id (ids_named (filter test ns))
unfolding times
fewer id test other [] = omega arith
fewer id test other (n ∷ ns) = by (other n) (test n) refl (fewer id test other ns)
  where
    by : (a b : Bool) → test n ≡ b → times id (ids_named (filter test (filter other ns))) ≤ times id (ids_named (filter test ns))
        → times id (ids_named (filter test (if a then n ∷ filter other ns else filter other ns))) ≤ times id (ids_named (if b then n ∷ filter test ns else filter test ns))
    by true true is rest = rw is (omega (arith, rest))
    by true false is rest = rw is rest
    by false true is rest = omega (arith, rest)
    by false false is rest = rest

noted-later : (id : ℕ) (is_open : OpenAt) (n : FaceNote) (notes : List FaceNote) (named mid : List Named)
    → ((face : Face) (session : ℕ) → times id (ids_of face session mid) ≤ times id (ids_of face session named)) → Noted id is_open notes mid → Noted id is_open (n ∷ notes) named
noted-later id is_open n notes named mid few more = record {
  earlier = n ∷ more.earlier;
  note = more.note;
  later = more.later;
  session = more.session;
  how = more.how;
  noted = ap (λ (ns : List FaceNote). n ∷ ns) more.noted;
  tells = more.tells;
  closed = more.closed;
  has = let least = few more.note.face more.session in let has = more.has in omega (arith, least, has);
}

leaves-few : (id : ℕ) (is_open : OpenAt) (at : Face) (end : Option (ℕ × How)) (named : List Named) (face : Face) (session : ℕ)
    → times id (ids_of face session (end_leaves is_open at end named)) ≤ times id (ids_of face session named)
leaves-few id is_open at None named face session = omega arith
leaves-few id is_open at (Some end) named face session = by (is_open at end.0)
  where
    by : (t : Bool) → times id (ids_of face session (if t then named else others_than at end.0 named)) ≤ times id (ids_of face session named)
    by true = omega arith
    by false = fewer id (is_of face session) (λ (n : Named). not (is_of at end.0 n)) named

noted-first : (id : ℕ) (is_open : OpenAt) (n : FaceNote) (end : Option (ℕ × How)) (notes : List FaceNote) (named : List Named) → note_ends n.note ≡ end
    → ends_one id (end_done is_open n.face end named) ≡ true → Noted id is_open (n ∷ notes) named
noted-first id is_open n None notes named tells is = absurd (cc)
noted-first id is_open n (Some end) notes named tells is = by (is_open n.face end.0) refl is
  where
    by : (t : Bool) → is_open n.face end.0 ≡ t → ends_one id (if t then [] else all_done end.1 (ids_of n.face end.0 named)) ≡ true → Noted id is_open (n ∷ notes) named
    by true closed done = absurd (cc)
    by false closed done = record {
      earlier = [];
      note = n;
      later = notes;
      session = end.0;
      how = end.1;
      noted = refl;
      tells = tells;
      closed = closed;
      has = done-has id end.1 (ids_of n.face end.0 named) done;
    }

done-noted : (id : ℕ) (is_open : OpenAt) (notes : List FaceNote) (named : List Named) → ends_one id (done_records is_open notes named) ≡ true → Noted id is_open notes named
unfolding done_records
done-noted id is_open [] named is = absurd (cc)
done-noted id is_open (n ∷ notes) named is =
    by (ends-split id (end_done is_open n.face (note_ends n.note) named) (done_records is_open notes mid) is) (λ more. done-noted id is_open notes mid more)
  where
    mid : List Named
    mid = end_leaves is_open n.face (note_ends n.note) named

    by : (ends_one id (end_done is_open n.face (note_ends n.note) named) ≡ true) ⊎ (ends_one id (done_records is_open notes mid) ≡ true)
        → (ends_one id (done_records is_open notes mid) ≡ true → Noted id is_open notes mid) → Noted id is_open (n ∷ notes) named
    by (inl first) rest = noted-first id is_open n (note_ends n.note) notes named refl first
    by (inr more) rest = noted-later id is_open n notes named mid (leaves-few id is_open n.face (note_ends n.note) named) (rest more)

step-ends : (id : ℕ) (step : JournalStep) → ends_one id (records_of step) ≡ true → EndsPiece id step
unfolding step_records
step-ends id step is =
    by_ended (ends-split id (ended_records h k) (piece_records h k ++ others) is)
  where
    h : PeerHappened
    h = step.happened

    k : PeerKeeping
    k = step.keeping

    others : List RecordValue
    others = report_records h k ++ over_records h k

    none : ends_one id others ≡ false
    none = apart-ends id others (others-apart (marking h) h.out (k.kept).marks (marks_after (marking h) h.out (k.kept).marks))

    not_piece : ends_one id (piece_records h k) ≡ false
    not_piece = added-ends id h.again (k.kept).greatest h.added

    by_piece : (ends_one id (piece_records h k) ≡ true) ⊎ (ends_one id others ≡ true) → EndsPiece id step
    by_piece (inl piece) = absurd (cc (piece, not_piece))
    by_piece (inr other) = absurd (cc (other, none))

    by_ended : (ends_one id (ended_records h k) ≡ true) ⊎ (ends_one id (piece_records h k ++ others) ≡ true) → EndsPiece id step
    by_ended (inl ended) =
        let so = done-noted id h.is_open (notes_in h.told) k.named ended in
        record {
          earlier = so.earlier;
          note = so.note;
          later = so.later;
          session = so.session;
          how = so.how;
          noted = so.noted;
          tells = so.tells;
          closed = so.closed;
          has = so.has;
        }
    by_ended (inr rest) = by_piece (ends-split id (piece_records h k) others rest)

stays-step : (p : Pending) (step : JournalStep) → IsAmong p ((step.keeping).kept).pending → IsAmong p ((known_then step).kept).pending ⊎ EndsPiece p.id step
unfolding after_step
stays-step p step is = by (stays-after p (step.keeping).kept (records_of step) is)
  where
    by : IsAmong p (kept_after (step.keeping).kept (records_of step)).pending ⊎ (ends_one p.id (records_of step) ≡ true)
        → IsAmong p (kept_after (step.keeping).kept (records_of step)).pending ⊎ EndsPiece p.id step
    by (inl there) = inl there
    by (inr ended) = inr (step-ends p.id step ended)

-- ---- steps, one after the other

pub reserved-apart : (rs : List RecordValue) → AreReserved rs → AreApart rs
reserved-apart [] are = tt
reserved-apart (a_begun p ∷ rs) are = absurd are
reserved-apart (a_done id how ∷ rs) are = absurd are
reserved-apart (a_mark m ∷ rs) are = absurd are
reserved-apart (a_clear face session ∷ rs) are = absurd are
reserved-apart (a_reserved face n ∷ rs) are = reserved-apart rs are

pub moves-pending : (from to : PeerKeeping) → Moves from to → (to.kept).pending ≡ (from.kept).pending
moves-pending from to so = ap (λ (k : KeptValue). k.pending) so.kept_is ∙ apart-pending from.kept so.records (reserved-apart so.records so.reserved)

stays-steps : (p : Pending) (from to : PeerKeeping) (steps : List JournalStep) → Chain from steps to → IsAmong p (from.kept).pending
    → IsAmong p (to.kept).pending ⊎ IsEnded p.id steps
stays-steps p from to [] so is = inl (subst (IsAmong p) (sym (moves-pending from to so)) is)
stays-steps p from to (step ∷ more) so is =
    by_step (stays-step p step (subst (IsAmong p) (sym (moves-pending from step.keeping so.0)) is)) (λ there. stays-steps p (known_then step) to more so.1.1 there)
  where
    by_rest : IsAmong p (to.kept).pending ⊎ IsEnded p.id more → IsAmong p (to.kept).pending ⊎ IsEnded p.id (step ∷ more)
    by_rest (inl stays) = inl stays
    by_rest (inr ended) = inr (inr ended)

    by_step : IsAmong p ((known_then step).kept).pending ⊎ EndsPiece p.id step
        → (IsAmong p ((known_then step).kept).pending → IsAmong p (to.kept).pending ⊎ IsEnded p.id more) → IsAmong p (to.kept).pending ⊎ IsEnded p.id (step ∷ more)
    by_step (inl there) rest = by_rest (rest there)
    by_step (inr ended) rest = inr (inl ended)

-- ---- a run

among-middle : (p : Pending) (earlier later : List Pending) → IsAmong p (earlier ++ p ∷ later)
among-middle p [] later = inl refl
among-middle p (x ∷ earlier) later = inr (among-middle p earlier later)

pub pieces-are-kept : PiecesArePending → PiecesAreKept
pieces-are-kept law r face came kept is earlier step later steps_are new before a after added piece =
    let there = law step.happened step.keeping before a after new added piece in
    let p : Pending = pending_with there.id a in
    let known = known-run r face came kept is in
    let chain = subst (λ xs. Chain (keeping_of known.first) xs known.last) steps_are known.chain in
    record {
      piece = there;
      stays = subst (λ (k : KeptValue). IsAmong p k.pending ⊎ IsEnded there.id later) known.kept_is
          (stays-steps p (known_then step) known.last later (chain-after (keeping_of known.first) known.last earlier step later chain)
          (subst (IsAmong p) (sym there.pending) (among-middle p there.earlier there.later)));
    }

-- what was pending when the run began
begins-pending : (r : Run) (j : Journalled) → (begins_at r).journal ≡ Some j → ((keeping_of j).kept).pending ≡ pending_of r.kept
begins-pending r j begins = by r.kept (sym (journal-begins r) ∙ begins)
  where
    by : (kept : Option KeptValue) → anew_in (starts_journal r.file r.wall kept) ≡ Some j → ((keeping_of j).kept).pending ≡ pending_of kept
    by None is = absurd (cc)
    by (Some kept) is = ap (λ (o : Option Journalled). pending_in_some o) (sym is)
      where
        pending_in_some : Option Journalled → List Pending
        pending_in_some None = []
        pending_in_some (Some i) = ((keeping_of i).kept).pending

pub earlier-are-kept : EarlierAreKept
earlier-are-kept r face came kept is p there =
    let known = known-run r face came kept is in
    subst (λ (k : KeptValue). IsAmong p k.pending ⊎ IsEnded p.id (steps_of face came r)) known.kept_is
    (stays-steps p (keeping_of known.first) known.last (steps_of face came r) known.chain
    (subst (IsAmong p) (sym (begins-pending r known.first known.begins)) there))
