-- Clean events of a path, one after the other: they are few, and complete the sessions.

use Rattle.std.proofs.Common.{◌≡◌, ℕ, zero, suc, ◌+◌, ◌<◌, ◌≤◌, Bool, true, false, List, [], ◌∷◌}
use Rattle.std.proofs.Common.{◌++◌, length, drop, Option, None, Some, ◌⊎◌, inl, inr, refl, sym, ◌∙◌, ap}
use Rattle.std.proofs.Common.{arith, subst, nat_lt, if◌then◌else◌, ⊎_elim}
use Rattle.std.proofs.lemmas.Bool.{ltb-false, ltb-true}
use Rattle.std.specs.List.{slice_get}
use Rattle.std.specs.Option.{option_map}
use Rattle.ltp_session.specs.Engine.{earlier}
use Rattle.ltp_session.specs.Receiver.{Receiving, is_cancelling}
use Rattle.ltp_session.specs.World.{End, Sent, at_end, clock, other}
use Rattle.ltp_laws.specs.Facts.{SessionFacts}
use Rattle.ltp_laws.specs.View.{IsIn, view}
use Rattle.ltp_laws.proofs.FrameLemmas.{same_self}
use Rattle.ltp_laws.proofs.RunLemmas.{in-left, in-right}
use Rattle.ltp_drain.specs.Clean.{link_deadline}
use Rattle.ltp_drain.specs.Completion.{IsReady}
use Rattle.ltp_drain.specs.Draining.{oldest}
use Rattle.ltp_drain.specs.Hopeful.{IsHanded, IsKeptSender, IsReached, Room}
use Rattle.ltp_drain.specs.Standing.{setting}
use Rattle.ltp_drain.proofs.CleanSteps.{IsGoing, drop-end, idle-link, idle-senders}
use Rattle.ltp_drain.proofs.CompletionLemmas.{first_rank, starts-going, starts-low}
use Rattle.ltp_drain.proofs.DrainFrame.{Begun, is-begun, never_begun, was_begun}
use Rattle.ltp_drain.proofs.DrainRun.{used-low}
use Rattle.ltp_drain.proofs.StartLemmas.{ample-at}
use Rattle.gate_cases.specs.declared.face.Face.{Face}
use Rattle.gate_cases.specs.declared.face.Face.TheVariants as faces
use Rattle.path_laws.specs.declared.effects.NoteAt.{NoteAt}
use Rattle.path_laws.specs.declared.effects.UpAt.{UpAt}
use Rattle.path_laws.specs.declared.places.Place.{Place}
use Rattle.path_laws.specs.Places.{across, link_end_of, link_of}
use Rattle.path_laws.specs.Path.{PathSetup, Path, SentFrom, PathEvent, clock_shows, delivers}
use Rattle.path_laws.specs.Path.{path_run, path_step, starts_path}
use Rattle.path_laws.specs.Log.{begun_at, begun_in, ups_in}
use Rattle.path_laws.specs.Log.{Begun as BegunAt}
use Rattle.path_laws.specs.Links.{link_at, link_engines, link_events, link_parties, link_sent}
use Rattle.path_laws.specs.Links.{sent_on}
use Rattle.path_laws.proofs.ChunkLemmas.{place_at, submission_from, submissions_on}
use Rattle.path_laws.proofs.LogLemmas.{in-link}
use Rattle.path_laws.proofs.RunLemmas.{got-on, whole-chunk}
use Rattle.path_laws.proofs.LawLemmas.{at-place}
use Rattle.path_drain.specs.RoomKept.{IsOfLength, IsRoomyPath, MayFollow, NoneForRoom, PathStands}
use Rattle.path_drain.specs.RoomKept.{RoomIsKept}
use Rattle.path_drain.specs.Clean.{AreCleanOnPath, path_clean_event}
use Rattle.path_drain.specs.Clean.{path_deadline, path_passed, path_passed_after}
use Rattle.path_drain.specs.Effects.{IsNotedSent, IsShort, IsUpAt, notes_in}
use Rattle.path_drain.specs.Hopeful.{IsPathReached, PathHopeful, path_cost}
use Rattle.path_drain.specs.Hopeful.{session_at}
use Rattle.path_drain.proofs.AdvanceLemmas.{advances-both, in-either}
use Rattle.path_drain.proofs.PathLists.{counted-all, counted_on}
use Rattle.path_drain.proofs.PathSteps.{AreFit, FaceAdvance, LeavesRoom, PathGoes, PathOn}
use Rattle.path_drain.proofs.PathSteps.{clock-on, delivery-on, path_sum}
use Rattle.path_drain.proofs.ShownLemmas.{place-here}

-- ---- a clean event

-- what stands at a place of a list
record StandsAt {X : Type 0} (xs : List X) (k : ℕ) : Type 0 where
  x : X
  is : slice_get xs k ≡ Some x

stands-at : {X : Type 0} (xs : List X) (k : ℕ) → k < length xs → StandsAt xs k
stands-at [] k low = absurd (omega (arith, low))
stands-at (x ∷ xs) zero low = record { x = x; is = refl }
stands-at (x ∷ xs) (suc k) low =
    let rest = stands-at xs k (omega (arith, low)) in record { x = rest.x; is = rest.is }

pub clean-on : (s : PathSetup) (w0 w : Path) (c : ℕ) (rank : Face → End → ℕ → ℕ) (event : PathEvent)
    → AreFit s → PathGoes s w0 w c rank → path_clean_event w c ≡ Some event
    → LeavesRoom s w event → PathOn s w0 w c rank event
clean-on s w0 w c rank event fit goes clean room =
    by_test (nat_lt c (length w.sent)) refl clean
  where
    Goal : PathEvent → Type 0
    Goal event = PathOn s w0 w c rank event

    by_delivery : c < length w.sent → LeavesRoom s w (delivers c) → Goal (delivers c)
    by_delivery low room =
        let t = stands-at w.sent c low in
        delivery-on s w0 w c rank t.x fit goes t.is room

    by_deadline : (x : Option ℕ) → path_deadline w ≡ x → length w.sent ≤ c
        → option_map clock_shows x ≡ Some event → Goal event
    by_deadline None is over clean = absurd (cc)
    by_deadline (Some now) is over clean =
        let one : clock_shows now ≡ event = cc in
        subst Goal one (clock-on s w0 w c rank now fit goes over is)

    by_test : (b : Bool) → nat_lt c (length w.sent) ≡ b
        → (if b then Some (delivers c) else option_map clock_shows (path_deadline w)) ≡ Some event
        → Goal event
    by_test true is clean =
        let one : delivers c ≡ event = cc in
        subst Goal one (by_delivery (ltb-true c (length w.sent) is)
        (subst (LeavesRoom s w) (sym one) room))
    by_test false is clean = by_deadline (path_deadline w) refl (ltb-false c (length w.sent) is)
        clean

-- ---- room

-- what is new on each link
abbrev pub new_on : Path → ℕ → Face → List Sent
new_on w c face = drop (counted_on face c w.sent) (sent_on face w.sent)

pub path-stands : (s : PathSetup) (w0 w : Path) (c : ℕ) (rank : Face → End → ℕ → ℕ) → AreFit s
    → PathGoes s w0 w c rank → PathStands s w (new_on w c) rank
path-stands s w0 w c rank fit goes = record {
  peers = fit.peers;
  ample = λ face. ample-at (link_parties s face) (fit.alike face);
  reached = λ face. (goes.going face).reached;
  holds = λ face. (goes.going face).holds;
}

drop-at : {X : Type 0} (xs : List X) (k : ℕ) (x : X) → slice_get xs k ≡ Some x
    → drop k xs ≡ x ∷ drop (suc k) xs
drop-at [] k x is = absurd (cc)
drop-at (y ∷ xs) zero x is = let same : y ≡ x = cc in ap (λ z. z ∷ xs) same
drop-at (y ∷ xs) (suc k) x is = drop-at xs k x is

oldest-first : (x : Sent) (xs : List Sent)
    → oldest x.from (x ∷ xs) ≡ Some (record { first = x; others = xs })
unfolding oldest
oldest-first x xs = rw (same_self x.from) refl

-- the next segment is the oldest new one of its place
delivery-follows : (w : Path) (c : ℕ) (d : SentFrom) → slice_get w.sent c ≡ Some d
    → MayFollow w (new_on w c) (delivers c)
delivery-follows w c d is = (
  d,
  record {
    first = link_sent d;
    others = drop (suc (counted_on (link_of d.from) c w.sent)) (sent_on (link_of d.from) w.sent);
  },
  is,
  ap (oldest (link_end_of d.from)) (drop-at (sent_on (link_of d.from) w.sent)
      (counted_on (link_of d.from) c w.sent) (link_sent d)
      (got-on (link_of d.from) w.sent c d is refl))
      ∙ oldest-first (link_sent d)
      (drop (suc (counted_on (link_of d.from) c w.sent)) (sent_on (link_of d.from) w.sent)),
  refl,
)

pub clean-follows : (w : Path) (c : ℕ) (event : PathEvent) → path_clean_event w c ≡ Some event
    → MayFollow w (new_on w c) event
clean-follows w c event clean = by_test (nat_lt c (length w.sent)) refl clean
  where
    Goal : PathEvent → Type 0
    Goal event = MayFollow w (new_on w c) event

    none : length w.sent ≤ c → (face : Face) → new_on w c face ≡ []
    none over face = drop-end (sent_on face w.sent) (counted_on face c w.sent)
        (omega (arith, counted-all face c w.sent over))

    by_deadline : (x : Option ℕ) → length w.sent ≤ c
        → option_map clock_shows x ≡ Some event → Goal event
    by_deadline None over clean = absurd (cc)
    by_deadline (Some now) over clean =
        let one : clock_shows now ≡ event = cc in subst Goal one (none over)

    by_test : (b : Bool) → nat_lt c (length w.sent) ≡ b
        → (if b then Some (delivers c) else option_map clock_shows (path_deadline w)) ≡ Some event
        → Goal event
    by_test true is clean =
        let one : delivers c ≡ event = cc in
        let t = stands-at w.sent c (ltb-true c (length w.sent) is) in
        subst Goal one (delivery-follows w c t.x t.is)
    by_test false is clean = by_deadline (path_deadline w) (ltb-false c (length w.sent) is) clean

-- no note names an eviction, or a full record of closed numbers
none-more : (xs ys : List NoteAt) → NoneForRoom xs → NoneForRoom ys → NoneForRoom (xs ++ ys)
none-more xs ys first later = record {
  evicted = λ place n is. ⊎_elim (first.evicted place n) (later.evicted place n)
      (in-either _ xs ys is);
  full = λ place n is. ⊎_elim (first.full place n) (later.full place n) (in-either _ xs ys is);
}

-- a bundle that is stopped for want of storage has a piece that is too long
long-left : (s : PathSetup) (xs ys : List UpAt) (face : Face) (n : ℕ) → IsOfLength s xs face n
    → IsOfLength s (xs ++ ys) face n
long-left s xs ys face n is = record {
  up = is.up;
  among = in-left is.up xs ys is.among;
  place = is.place;
  session = is.session;
  long = is.long;
}

long-right : (s : PathSetup) (xs ys : List UpAt) (face : Face) (n : ℕ) → IsOfLength s ys face n
    → IsOfLength s (xs ++ ys) face n
long-right s xs ys face n is = record {
  up = is.up;
  among = in-right is.up xs ys is.among;
  place = is.place;
  session = is.session;
  long = is.long;
}

short-more : (s : PathSetup) (ms ns : List NoteAt) (xs ys : List UpAt)
    → ((face : Face) (n : ℕ) → IsShort ms face n → IsOfLength s xs face n)
    → ((face : Face) (n : ℕ) → IsShort ns face n → IsOfLength s ys face n)
    → (face : Face) (n : ℕ) → IsShort (ms ++ ns) face n → IsOfLength s (xs ++ ys) face n
short-more s ms ns xs ys first later face n is =
    ⊎_elim (λ here. long-left s xs ys face n (first face n here))
    (λ there. long-right s xs ys face n (later face n there)) (in-either _ ms ns is)

-- ---- effects, and more after them

pub up-left : (xs ys : List UpAt) (place : Place) (n : ℕ) → IsUpAt xs place n
    → IsUpAt (xs ++ ys) place n
up-left xs ys place n is = record {
  up = is.up;
  among = in-left is.up xs ys is.among;
  at = is.at;
  session = is.session;
}

pub up-right : (xs ys : List UpAt) (place : Place) (n : ℕ) → IsUpAt ys place n
    → IsUpAt (xs ++ ys) place n
up-right xs ys place n is = record {
  up = is.up;
  among = in-right is.up xs ys is.among;
  at = is.at;
  session = is.session;
}

-- ---- sessions that are begun

-- a session is open, or it was noted as sent, and its red part was handed up
abbrev pub IsDone : PathSetup → Path → List NoteAt → List UpAt → Place → ℕ → Type 0
IsDone s v ns us place n =
    IsKeptSender (session_at s v place n).sender
    ⊎ (IsNotedSent ns place n × IsUpAt us (across place) n)

-- no receiver knows of a number that wasn't given yet
none-received : (s : PathSetup) (w0 w : Path) (c : ℕ) (rank : Face → End → ℕ → ℕ) (face : Face)
    (o : End) (n : ℕ) → PathGoes s w0 w c rank → (at_end (link_engines w face) o).next ≤ n
    → IsHanded (view (link_parties s face) (link_at face w) o n).receiver → ⊥
none-received s w0 w c rank face o n goes late handed =
    by_begun (is-begun SessionFacts (setting (link_parties s face) o n)
    (view (link_parties s face) (link_at face w) o n) _ _ (rank face o n)
    ((goes.going face).holds.session o n))
  where
    by_begun : {new_s new_r : List _} → Begun SessionFacts (setting (link_parties s face) o n)
        (view (link_parties s face) (link_at face w) o n) new_s new_r (rank face o n) → ⊥
    by_begun (never_begun unused idle) = subst IsHanded (idle.unused).receiver handed
    by_begun (was_begun used st) = omega (
      arith,
      late,
      used-low (at_end (link_parties s face) o) (at_end (link_engines w face) o) n used,
    )

-- a session that an event begins
begun-done : (s : PathSetup) (w0 w : Path) (c : ℕ) (rank : Face → End → ℕ → ℕ)
    (event : PathEvent) (v : Path) (ns : List NoteAt) (us : List UpAt) (b : BegunAt)
    → PathGoes s w0 w c rank → PathOn s w0 w c rank event
    → ((face : Face) → FaceAdvance s face (path_step s w event).path v ns us)
    → IsIn b (begun_at s w event)
    → IsDone s v ((path_step s w event).effects.notes ++ ns)
    ((path_step s w event).effects.ups ++ us) b.place b.session
begun-done s w0 w c rank event v ns us b goes on later is =
    by_rest ((later face end b.session).sender opens)
  where
    face : Face
    face = link_of b.place

    end : End
    end = link_end_of b.place

    among : IsIn (submission_from b) (submissions_on (link_of b.place) (begun_at s w event))
    among = in-link (λ (b : BegunAt). b.place) submission_from (link_of b.place)
        (begun_at s w event) b is refl

    opens : IsKeptSender (session_at s (path_step s w event).path b.place b.session).sender
    opens = (on.begun (link_of b.place)).opens (submission_from b) among

    Up : List UpAt → Place → Type 0
    Up us place = IsUpAt us place b.session

    by_first : IsHanded (session_at s w b.place b.session).receiver
        ⊎ IsUpAt (path_step s w event).effects.ups (place_at (link_of b.place)
        (other (link_end_of b.place))) b.session
        → IsUpAt ((path_step s w event).effects.ups ++ us) (across b.place) b.session
    by_first (inl was) = absurd (none-received s w0 w c rank (link_of b.place)
        (link_end_of b.place) b.session goes
        ((on.begun (link_of b.place)).fresh (submission_from b) among) was)
    by_first (inr up) = up-left (path_step s w event).effects.ups us (across b.place) b.session
        (subst (Up (path_step s w event).effects.ups) (place-here b.place) up)

    by_up : IsHanded (session_at s (path_step s w event).path b.place b.session).receiver
        ⊎ IsUpAt us (place_at (link_of b.place) (other (link_end_of b.place))) b.session
        → IsUpAt ((path_step s w event).effects.ups ++ us) (across b.place) b.session
    by_up (inl was) = by_first ((on.advances face end b.session).receiver was)
    by_up (inr up) = up-right (path_step s w event).effects.ups us (across b.place) b.session
        (subst (Up us) (place-here b.place) up)

    by_rest : IsKeptSender (session_at s v b.place b.session).sender
        ⊎ (IsNotedSent ns (place_at (link_of b.place) (link_end_of b.place)) b.session
        × (IsHanded (session_at s (path_step s w event).path b.place b.session).receiver
        ⊎ IsUpAt us (place_at (link_of b.place) (other (link_end_of b.place))) b.session))
        → IsDone s v ((path_step s w event).effects.notes ++ ns)
        ((path_step s w event).effects.ups ++ us) b.place b.session
    by_rest (inl still) = inl still
    by_rest (inr done) = inr (
      in-right _ (path_step s w event).effects.notes ns
          (subst (λ (p : Place). IsNotedSent ns p b.session) (at-place b.place) done.0),
      by_up done.1,
    )

-- it stays done
done-later : (s : PathSetup) (v : Path) (ms ns : List NoteAt) (ts us : List UpAt) (place : Place)
    (n : ℕ) → IsDone s v ns us place n → IsDone s v (ms ++ ns) (ts ++ us) place n
done-later s v ms ns ts us place n (inl still) = inl still
done-later s v ms ns ts us place n (inr done) =
    inr (in-right _ ms ns done.0, up-right ts us (across place) n done.1)

-- ---- a list of clean events

pub record PathRunsOn (s : PathSetup) (w0 w : Path) (c : ℕ) (rank : Face → End → ℕ → ℕ)
    (events : List PathEvent) : Type 0 where
  pub rank' : Face → End → ℕ → ℕ
  pub goes : PathGoes s w0 (path_run s w events) (path_passed c events) rank'
  pub bound : length events + path_sum (path_run s w events) rank' + path_cost s w0 w
      ≤ path_sum w rank + path_cost s w0 (path_run s w events)
  pub advances : (face : Face) → FaceAdvance s face w (path_run s w events) (notes_in s w events)
      (ups_in s w events)
  pub begun : (b : BegunAt) → IsIn b (begun_in s w events)
      → IsDone s (path_run s w events) (notes_in s w events) (ups_in s w events) b.place b.session
  pub noted : NoneForRoom (notes_in s w events)
  pub storage : (face : Face) (n : ℕ) → IsShort (notes_in s w events) face n
      → IsOfLength s (ups_in s w events) face n

pub path-runs : RoomIsKept → (s : PathSetup) (w0 : Path) → AreFit s
    → (events : List PathEvent) (w : Path) (c : ℕ) (rank : Face → End → ℕ → ℕ)
    → PathGoes s w0 w c rank → IsRoomyPath s w → AreCleanOnPath s w c events
    → PathRunsOn s w0 w c rank events
unfolding path_run notes_in ups_in begun_in
path-runs kept s w0 fit [] w c rank goes room clean = record {
  rank' = rank;
  goes = goes;
  bound = omega arith;
  advances = λ face o n. record { sender = λ is_open. inl is_open; receiver = λ was. inl was };
  begun = λ b is. absurd is;
  noted = record { evicted = λ place n is. is; full = λ place n is. is };
  storage = λ face n is. absurd is;
}
path-runs kept s w0 fit (event ∷ events) w c rank goes room clean =
    let after = kept s w (new_on w c) rank event (path-stands s w0 w c rank fit goes) room
    (clean-follows w c event clean.0) in
    let on = clean-on s w0 w c rank event fit goes clean.0 after.through in
    let rest = path-runs kept s w0 fit events (path_step s w event).path
    (path_passed_after c event) on.rank' on.goes after.kept clean.1 in
    record {
      rank' = rest.rank';
      goes = rest.goes;
      bound = omega (arith, on.bound, rest.bound);
      advances = λ face o n. advances-both
          (view (link_parties s face) (link_at face w) o n)
          (view (link_parties s face) (link_at face (path_step s w event).path) o n)
          (view (link_parties s face)
          (link_at face (path_run s (path_step s w event).path events)) o n)
          _ _ _ _ _ _
          (in-left _ (path_step s w event).effects.notes
          (notes_in s (path_step s w event).path events))
          (in-right _ (path_step s w event).effects.notes
          (notes_in s (path_step s w event).path events))
          (up-left (path_step s w event).effects.ups (ups_in s (path_step s w event).path events)
          (place_at face (other o)) n)
          (up-right (path_step s w event).effects.ups (ups_in s (path_step s w event).path events)
          (place_at face (other o)) n)
          (on.advances face o n) (rest.advances face o n);
      begun = λ b is. by_begun on rest b (in-either b (begun_at s w event)
          (begun_in s (path_step s w event).path events) is);
      noted = none-more (path_step s w event).effects.notes
          (notes_in s (path_step s w event).path events) after.noted rest.noted;
      storage = short-more s (path_step s w event).effects.notes
          (notes_in s (path_step s w event).path events) (path_step s w event).effects.ups
          (ups_in s (path_step s w event).path events) after.storage rest.storage;
    }
  where
    v : Path
    v = path_run s (path_step s w event).path events

    by_begun : (on : PathOn s w0 w c rank event)
        → PathRunsOn s w0 (path_step s w event).path (path_passed_after c event) on.rank' events
        → (b : BegunAt)
        → IsIn b (begun_at s w event) ⊎ IsIn b (begun_in s (path_step s w event).path events)
        → IsDone s (path_run s (path_step s w event).path events)
        ((path_step s w event).effects.notes ++ notes_in s (path_step s w event).path events)
        ((path_step s w event).effects.ups ++ ups_in s (path_step s w event).path events)
        b.place b.session
    by_begun on rest b (inl is) = begun-done s w0 w c rank event v
        (notes_in s (path_step s w event).path events)
        (ups_in s (path_step s w event).path events) b goes on rest.advances is
    by_begun on rest b (inr is) = done-later s v (path_step s w event).effects.notes
        (notes_in s (path_step s w event).path events) (path_step s w event).effects.ups
        (ups_in s (path_step s w event).path events) b.place b.session (rest.begun b is)

-- ---- where it begins

-- what is asked of a path
pub record StartsWell (s : PathSetup) (w : Path) : Type 0 where
  pub fit : AreFit s
  pub reached : IsPathReached s w
  pub hopeful : PathHopeful s w
  pub room : (face : Face) → Room (link_at face w)
  pub roomy : IsRoomyPath s w

link-reached : (s : PathSetup) (w : Path) (face : Face) → IsPathReached s w
    → IsReached (link_parties s face) (link_at face w)
link-reached s w face reached = record {
  events = clock reached.start ∷ link_events face s (starts_path s reached.start) reached.events;
  leads = sym (whole-chunk face s reached.start reached.events).runs
      ∙ ap (λ (w : Path). link_at face w) reached.leads;
}

link-ready : (s : PathSetup) (w : Path) (face : Face) → StartsWell s w
    → IsReady (link_parties s face) (link_at face w)
link-ready s w face well = record {
  peers = (well.fit).peers face;
  alike = (well.fit).alike face;
  reached = link-reached s w face well.reached;
  hopeful = (well.hopeful).each face;
  room = well.room face;
}

abbrev pub first_ranks : PathSetup → Path → Face → End → ℕ → ℕ
first_ranks s w face = first_rank (link_parties s face) (link_at face w)

pub path-starts : (s : PathSetup) (w : Path) → StartsWell s w
    → PathGoes s w w (length w.sent) (first_ranks s w)
path-starts s w well = record {
  going = λ face. subst (λ (c : ℕ). IsGoing (link_parties s face) (link_at face w) c
      (first_ranks s w face)) (sym (counted-all face (length w.sent) w.sent (omega arith)))
      (starts-going (link_parties s face) (link_at face w) (link-ready s w face well));
  before = λ face o. omega arith;
  within = omega arith;
}

starts-few : (s : PathSetup) (w : Path) → path_sum w (first_ranks s w) ≤ path_cost s w w
starts-few s w = omega (
  arith,
  starts-low (link_parties s faces.Old) (link_at faces.Old w) (link_at faces.Old w) (λ o. refl),
  starts-low (link_parties s faces.New) (link_at faces.New w) (link_at faces.New w) (λ o. refl),
)

pub all-run : RoomIsKept → (s : PathSetup) (w : Path) (events : List PathEvent)
    → StartsWell s w → AreCleanOnPath s w (length w.sent) events
    → PathRunsOn s w w (length w.sent) (first_ranks s w) events
all-run kept s w events well clean = path-runs kept s w well.fit events w (length w.sent)
    (first_ranks s w) (path-starts s w well) well.roomy clean

pub all-few : RoomIsKept → (s : PathSetup) (w : Path) (events : List PathEvent)
    → StartsWell s w → AreCleanOnPath s w (length w.sent) events
    → length events ≤ path_cost s w (path_run s w events)
all-few kept s w events well clean = omega (
  arith,
  (all-run kept s w events well clean).bound,
  starts-few s w,
)

-- ---- where it ends

earlier-none : (a b : Option ℕ) → earlier a b ≡ None → (a ≡ None) × (b ≡ None)
earlier-none None b is = (refl, is)
earlier-none (Some a) None is = absurd (cc)
earlier-none (Some a) (Some b) is = absurd (cc)

-- no sender is kept where no timer runs
pub none-kept : (s : PathSetup) (v : Path) → path_deadline v ≡ None → (place : Place) (n : ℕ)
    → (session_at s v place n).sender ≡ None
none-kept s v none place n = idle-senders
    (at_end (link_engines v (link_of place)) (link_end_of place)) n
    (idle-link (link_at (link_of place) v) (by (link_of place)) (link_end_of place))
  where
    by : (face : Face) → link_deadline (link_at face v) ≡ None
    by faces.Old = (earlier-none (link_deadline (link_at faces.Old v))
        (link_deadline (link_at faces.New v)) none).0
    by faces.New = (earlier-none (link_deadline (link_at faces.Old v))
        (link_deadline (link_at faces.New v)) none).1

-- nobody cancels
pub none-cancels : (s : PathSetup) (w0 w : Path) (c : ℕ) (rank : Face → End → ℕ → ℕ)
    (place : Place) (n : ℕ) (r : Receiving) → PathGoes s w0 w c rank
    → (session_at s w place n).receiver ≡ Some r → is_cancelling r.phase ≡ false
none-cancels s w0 w c rank place n r goes is =
    by_begun (is-begun SessionFacts (setting (link_parties s face) end n)
    (session_at s w place n) _ _ (rank face end n) ((goes.going face).holds.session end n))
  where
    face : Face
    face = link_of place

    end : End
    end = link_end_of place

    by_begun : {new_s new_r : List _} → Begun SessionFacts
        (setting (link_parties s (link_of place)) (link_end_of place) n)
        (session_at s w place n) new_s new_r (rank (link_of place) (link_end_of place) n)
        → is_cancelling r.phase ≡ false
    by_begun (was_begun used st) = ((st.drains).calm).receiving r is
    by_begun (never_begun unused idle) = absurd
        (let none : (session_at s w place n).receiver ≡ None = (idle.unused).receiver in cc)

-- what became of a session that was open
pub record SessionEnds (s : PathSetup) (w : Path) (ns : List NoteAt) (us : List UpAt)
    (place : Place) (n : ℕ) : Type 0 where
  pub sent : IsNotedSent ns place n
  pub handed : IsHanded (session_at s w place n).receiver ⊎ IsUpAt us (across place) n

pub session-ends : (s : PathSetup) (w v : Path) (ns : List NoteAt) (us : List UpAt)
    (place : Place) (n : ℕ) → ((face : Face) → FaceAdvance s face w v ns us)
    → path_deadline v ≡ None → IsKeptSender (session_at s w place n).sender
    → SessionEnds s w ns us place n
session-ends s w v ns us place n advances none is_open =
    by ((advances (link_of place) (link_end_of place) n).sender is_open)
  where
    by : IsKeptSender (session_at s v place n).sender
        ⊎ (IsNotedSent ns (place_at (link_of place) (link_end_of place)) n
        × (IsHanded (session_at s w place n).receiver
        ⊎ IsUpAt us (place_at (link_of place) (other (link_end_of place))) n))
        → SessionEnds s w ns us place n
    by (inl still) = absurd (subst IsKeptSender (none-kept s v none place n) still)
    by (inr done) = record {
      sent = subst (λ (p : Place). IsNotedSent ns p n) (at-place place) done.0;
      handed = subst (λ (p : Place). IsHanded (session_at s w place n).receiver ⊎ IsUpAt us p n)
          (place-here place) done.1;
    }

-- and of one that was begun
pub done-ends : (s : PathSetup) (v : Path) (ns : List NoteAt) (us : List UpAt) (place : Place)
    (n : ℕ) → path_deadline v ≡ None → IsDone s v ns us place n
    → IsNotedSent ns place n × IsUpAt us (across place) n
done-ends s v ns us place n none (inl still) =
    absurd (subst IsKeptSender (none-kept s v none place n) still)
done-ends s v ns us place n none (inr done) = done
