-- Whether the sender of a session cancelled it, note by note.
use Rattle.std.proofs.Common.{◌≡◌, ℕ, suc, ◌-◌, ◌==◌, ◌||◌, not, Bool, true, false, if◌then◌else◌, List, [], ◌∷◌, None, Some, is_some, refl, sym, ap, arith}
use Rattle.std.proofs.lemmas.Bool.{eqb-true, eq-eqb, ne_eqb}
use Rattle.ltp_segment.specs.declared.session.Note.{Note}
use Rattle.ltp_segment.specs.declared.session.Note.TheVariants as engine
use Rattle.gate_cases.specs.declared.face.Face.{Face}
use Rattle.gate_cases.specs.declared.face.Face.TheVariants.{Old, New}
use Rattle.gateway_core.specs.declared.effects.FaceNote.{FaceNote}
use Rattle.gateway_core.specs.declared.note.GateNote.{GateNote}
use Rattle.gateway_core.specs.declared.note.GateNote.TheVariants as notes
use Rattle.gateway_core.specs.Gate.{if_same}
use Rattle.gate_events.specs.declared.own.Own.{Own}
use Rattle.gate_events.specs.Own.{OpenAt, is_of, find_own, without_own, left_by, end_of}
use Rattle.gate_events.specs.Events.{own_after, own_untold}
use Rattle.journal_file.specs.declared.record.How.{How}
use Rattle.journal_file.specs.declared.record.How.TheVariants as hows
use Rattle.gate_records.specs.Happened.{engine_ends, note_ends, names, engine_cancels, note_cancels, cancelled}
use Rattle.gate_records.specs.Ties.{own_of, end_told, told_of, cancels, left_after, cancelled_by}

-- ---- own sessions of a number

pub some-left : (n : ℕ) → (suc n == 0) ≡ false
some-left n = ne_eqb (suc n) 0 (λ e. omega (arith, e))

found-count : (face : Face) (session : ℕ) (own : List Own) → is_some (find_own face session own) ≡ not (own_of face session own == 0)
unfolding find_own
found-count face session [] = refl
found-count face session (o ∷ own) = by (is_of face session o) refl (found-count face session own)
  where
    by : (t : Bool) → is_of face session o ≡ t → is_some (find_own face session own) ≡ not (own_of face session own == 0)
        → is_some (if t then Some o else find_own face session own) ≡ not (own_of face session (o ∷ own) == 0)
    by true is rest = rw (is, some-left (own_of face session own)) refl
    by false is rest = rw is rest

left-count : (face : Face) (session : ℕ) (own : List Own) → own_of face session (without_own face session own) ≡ own_of face session own - 1
unfolding without_own
left-count face session [] = refl
left-count face session (o ∷ own) = by (is_of face session o) refl (left-count face session own)
  where
    by : (t : Bool) → is_of face session o ≡ t → own_of face session (without_own face session own) ≡ own_of face session own - 1
        → own_of face session (if t then own else o ∷ without_own face session own) ≡ own_of face session (o ∷ own) - 1
    by true is rest = rw is (omega arith)
    by false is rest = rw is rest

-- what has one number hasn't another
apart : (f at face : Face) (n s session : ℕ) → if_same f at (n == s) false ≡ true → if_same at face (s == session) false ≡ false → if_same f face (n == session) false ≡ false
apart Old Old Old n s session is other = rw (eqb-true n s is) other
apart Old Old New n s session is other = refl
apart Old New face n s session is other = absurd (cc)
apart New Old face n s session is other = absurd (cc)
apart New New Old n s session is other = refl
apart New New New n s session is other = rw (eqb-true n s is) other

others-count : (at face : Face) (s session : ℕ) (own : List Own) → if_same at face (s == session) false ≡ false → own_of face session (without_own at s own) ≡ own_of face session own
unfolding without_own
others-count at face s session [] other = refl
others-count at face s session (o ∷ own) other = by (is_of at s o) refl (is_of face session o) refl (others-count at face s session own other)
  where
    by : (t : Bool) → is_of at s o ≡ t → (u : Bool) → is_of face session o ≡ u → own_of face session (without_own at s own) ≡ own_of face session own
        → own_of face session (if t then own else o ∷ without_own at s own) ≡ own_of face session (o ∷ own)
    by true is u there rest = let not_it : is_of face session o ≡ false = apart o.face at face o.session s session is other in rw not_it refl
    by false is true there rest = rw there (ap (λ (n : ℕ). suc n) rest)
    by false is false there rest = rw there rest

-- ---- a note of an end

left-same : (o : OpenAt) (face : Face) (session : ℕ) (how : How) (own : List Own) → own_of face session (left_by o face session own) ≡ left_after (o face session) (own_of face session own) (Some how)
left-same o face session how own = by (o face session)
  where
    by : (t : Bool) → own_of face session (if t then own else without_own face session own) ≡ (if t then own_of face session own else own_of face session own - 1)
    by true = refl
    by false = left-count face session own

left-other : (o : OpenAt) (at face : Face) (s session : ℕ) (own : List Own) → if_same at face (s == session) false ≡ false → own_of face session (left_by o at s own) ≡ own_of face session own
left-other o at face s session own other = by (o at s)
  where
    by : (t : Bool) → own_of face session (if t then own else without_own at s own) ≡ own_of face session own
    by true = refl
    by false = others-count at face s session own other

self-named : (face : Face) (session : ℕ) → names face session face (Some session) ≡ true
self-named Old session = eq-eqb session session refl
self-named New session = eq-eqb session session refl

not-named : (at face : Face) (s session : ℕ) (b : Bool) → if_same at face (s == session) false ≡ false → names face session at (if b then None else Some s) ≡ false
not-named at face s session true other = refl
not-named at face s session false other = other

cancel-same : (o : OpenAt) (face : Face) (session : ℕ) (own : List Own)
    → names face session face (if is_some (end_of o face session own) then None else Some session) ≡ cancels (o face session) (own_of face session own) (Some hows.Cancelled)
cancel-same o face session own = by (o face session)
  where
    none : (t : Bool) → names face session face (if not t then None else Some session) ≡ t
    none true = self-named face session
    none false = refl

    by : (t : Bool) → names face session face (if is_some (if t then None else find_own face session own) then None else Some session) ≡ (t || own_of face session own == 0)
    by true = self-named face session
    by false = rw (found-count face session own) (none (own_of face session own == 0))

-- the session of whose end a note tells is this one, or it isn't
data Told (at face : Face) (s session : ℕ) : Type 0 where
  this : at ≡ face → s ≡ session → Told at face s session
  another : if_same at face (s == session) false ≡ false → ((how : How) → end_told face session at (Some (s, how)) ≡ None) → Told at face s session

told : (at face : Face) (s session : ℕ) → Told at face s session
told Old New s session = another refl (λ how. refl)
told New Old s session = another refl (λ how. refl)
told Old Old s session = by (s == session) refl
  where
    by : (t : Bool) → (s == session) ≡ t → Told Old Old s session
    by true is = this refl (eqb-true s session is)
    by false is = another is (λ how. rw is refl)
told New New s session = by (s == session) refl
  where
    by : (t : Bool) → (s == session) ≡ t → Told New New s session
    by true is = this refl (eqb-true s session is)
    by false is = another is (λ how. rw is refl)

told-this : (face : Face) (session : ℕ) (how : How) → end_told face session face (Some (session, how)) ≡ Some how
told-this Old session how = rw (eq-eqb session session refl) refl
told-this New session how = rw (eq-eqb session session refl) refl

end-left : (o : OpenAt) (at face : Face) (s session : ℕ) (how : How) (own : List Own)
    → own_of face session (left_by o at s own) ≡ left_after (o face session) (own_of face session own) (end_told face session at (Some (s, how)))
end-left o at face s session how own = by (told at face s session)
  where
    by : Told at face s session → own_of face session (left_by o at s own) ≡ left_after (o face session) (own_of face session own) (end_told face session at (Some (s, how)))
    by (this same number) = rw (same, number, told-this face session how) (left-same o face session how own)
    by (another other none) = rw (none how) (left-other o at face s session own other)

end-cancels : (o : OpenAt) (at face : Face) (s session : ℕ) (own : List Own)
    → names face session at (if is_some (end_of o at s own) then None else Some s) ≡ cancels (o face session) (own_of face session own) (end_told face session at (Some (s, hows.Cancelled)))
end-cancels o at face s session own = by (told at face s session)
  where
    by : Told at face s session → names face session at (if is_some (end_of o at s own) then None else Some s) ≡ cancels (o face session) (own_of face session own) (end_told face session at (Some (s, hows.Cancelled)))
    by (this same number) = rw (same, number, told-this face session hows.Cancelled) (cancel-same o face session own)
    by (another other none) = rw (none hows.Cancelled) (not-named at face s session (is_some (end_of o at s own)) other)

-- other ends cancel nothing
end-kept : (is_open : Bool) (left : ℕ) (at face : Face) (s session : ℕ) → (how : How) → cancels false 0 (Some how) ≡ false
    → cancels is_open left (end_told face session at (Some (s, how))) ≡ false
end-kept is_open left at face s session how quiet = by (told at face s session)
  where
    other_end : (how : How) → cancels false 0 (Some how) ≡ false → cancels is_open left (Some how) ≡ false
    other_end hows.Sent nothing = refl
    other_end hows.Failed nothing = refl
    other_end hows.Cancelled nothing = absurd (cc)

    by : Told at face s session → cancels is_open left (end_told face session at (Some (s, how))) ≡ false
    by (this same number) = rw (same, number, told-this face session how) (other_end how quiet)
    by (another other none) = rw (none how) refl

-- ---- any note

note-cancels : (o : OpenAt) (face : Face) (session : ℕ) (own : List Own) (n : FaceNote)
    → names face session n.face (note_cancels o own n.face n.note) ≡ cancels (o face session) (own_of face session own) (told_of face session n)
note-cancels o face session own n = by n.note
  where
    by_engine : (m : Note) → names face session n.face (engine_cancels o own n.face m) ≡ cancels (o face session) (own_of face session own) (end_told face session n.face (engine_ends m))
    by_engine (engine.Sent s) = sym (end-kept (o face session) (own_of face session own) n.face face s session hows.Sent refl)
    by_engine (engine.Failed s reason) = sym (end-kept (o face session) (own_of face session own) n.face face s session hows.Failed refl)
    by_engine (engine.Refused s service) = refl
    by_engine (engine.Cancelled s reason) = end-cancels o n.face face s session own
    by_engine (engine.Evicted s) = refl
    by_engine engine.Stranger = refl
    by_engine (engine.BadSegment at cause) = refl
    by_engine (engine.BadBounds s) = refl
    by_engine (engine.Closed s) = refl
    by_engine (engine.HistoryFull s) = refl

    by : (m : GateNote) → names face session n.face (note_cancels o own n.face m) ≡ cancels (o face session) (own_of face session own) (end_told face session n.face (note_ends m))
    by (notes.Engine m) = by_engine m
    by (notes.BadBundle s at cause) = refl
    by (notes.Untranslated s cause) = refl
    by (notes.Expired s) = refl
    by (notes.HopLimit s) = refl
    by (notes.Storage s) = refl
    by (notes.Passed s pieces) = refl
    by (notes.Reported s) = refl
    by (notes.Unreported s) = refl

note-left : (o : OpenAt) (face : Face) (session : ℕ) (own : List Own) (n : FaceNote)
    → own_of face session (own_untold o n.face n.note own) ≡ left_after (o face session) (own_of face session own) (told_of face session n)
note-left o face session own n = by n.note
  where
    by_engine : (m : Note) → own_of face session (own_after o n.face m own) ≡ left_after (o face session) (own_of face session own) (end_told face session n.face (engine_ends m))
    by_engine (engine.Sent s) = end-left o n.face face s session hows.Sent own
    by_engine (engine.Failed s reason) = end-left o n.face face s session hows.Failed own
    by_engine (engine.Refused s service) = refl
    by_engine (engine.Cancelled s reason) = end-left o n.face face s session hows.Cancelled own
    by_engine (engine.Evicted s) = refl
    by_engine engine.Stranger = refl
    by_engine (engine.BadSegment at cause) = refl
    by_engine (engine.BadBounds s) = refl
    by_engine (engine.Closed s) = refl
    by_engine (engine.HistoryFull s) = refl

    by : (m : GateNote) → own_of face session (own_untold o n.face m own) ≡ left_after (o face session) (own_of face session own) (end_told face session n.face (note_ends m))
    by (notes.Engine m) = by_engine m
    by (notes.BadBundle s at cause) = refl
    by (notes.Untranslated s cause) = refl
    by (notes.Expired s) = refl
    by (notes.HopLimit s) = refl
    by (notes.Storage s) = refl
    by (notes.Passed s pieces) = refl
    by (notes.Reported s) = refl
    by (notes.Unreported s) = refl

pub cancelled-is : (o : OpenAt) (face : Face) (session : ℕ) (own : List Own) (ns : List FaceNote)
    → cancelled o face session own ns ≡ cancelled_by (o face session) (own_of face session own) face session ns
unfolding cancelled cancelled_by
cancelled-is o face session own [] = refl
cancelled-is o face session own (n ∷ ns) =
    let rest = cancelled-is o face session (own_untold o n.face n.note own) ns in
    rw (note-cancels o face session own n, rest, note-left o face session own n) refl
