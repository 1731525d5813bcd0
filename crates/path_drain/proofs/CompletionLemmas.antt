-- A drain from a path that is ready has no more events than its sessions cost, and completes them.

use Rattle.std.proofs.Common.{◌≡◌, ℕ, ◌+◌, ◌^◌, ◌≤◌, List, [], ◌∷◌, length, None, ◌⊎◌, inl, inr}
use Rattle.std.proofs.Common.{refl, sym, ◌∙◌, ap, arith, subst}
use Rattle.ltp_laws.specs.View.{IsIn}
use Rattle.ltp_session.specs.World.{first_end, second_end}
use Rattle.ltp_drain.specs.Hopeful.{IsKeptSender, Room}
use Rattle.gate_cases.specs.declared.face.Face.{Face}
use Rattle.gate_cases.specs.declared.face.Face.TheVariants as faces
use Rattle.path_laws.specs.declared.effects.UpAt.{UpAt}
use Rattle.path_laws.specs.declared.places.Place.{Place}
use Rattle.path_laws.specs.Places.{across, face_place}
use Rattle.path_laws.specs.Path.{PathSetup, Path, PathEvent, path_run, path_step}
use Rattle.path_laws.specs.Log.{Begun, begun_in, ups_in}
use Rattle.path_laws.specs.Links.{link_at}
use Rattle.path_drain.specs.OnTheWay.{gate_at, node_at}
use Rattle.path_drain.specs.Owing.{RoomStarts}
use Rattle.path_drain.specs.PathRoom.{PathRoom}
use Rattle.path_drain.specs.Pieces.{PathNotesCases}
use Rattle.path_drain.specs.RoomKept.{IsRoomyPath, NodesSendRed, RoomIsKept, SendsRed}
use Rattle.path_drain.specs.Clean.{AreCleanOnPathFrom, PathCleanRun, path_deadline}
use Rattle.path_drain.specs.Completion.{Completes, HasPathRun, IsCaseNotedIn, IsPathComplete, IsPathReady}
use Rattle.path_drain.specs.Effects.{IsNotedSent, IsUpAt, IsUpWhole, notes_in}
use Rattle.path_drain.specs.Hopeful.{path_cost, session_at}
use Rattle.path_drain.proofs.AdvanceLemmas.{in-either}
use Rattle.path_drain.proofs.PathRuns.{PathRunsOn, SessionEnds, StartsWell, all-few, all-run}
use Rattle.path_drain.proofs.PathRuns.{done-ends, first_ranks, none-cancels, none-kept}
use Rattle.path_drain.proofs.PathRuns.{session-ends}
use Rattle.path_drain.proofs.PathRuns.{path-starts}
use Rattle.path_drain.proofs.RunsEnd.{DrainsOut, numbers-end}
use Rattle.path_drain.proofs.WholeLemmas.{handed-whole}
use Rattle.path_drain.proofs.CountSteps.{link-room}

-- ---- notes

-- the case of each block that is handed up at the gate
pub cases-noted : PathNotesCases → (s : PathSetup) (w : Path) (events : List PathEvent)
    (face : Face) (up : UpAt) → IsIn up (ups_in s w events) → up.place ≡ face_place face
    → IsCaseNotedIn s w events face up
unfolding ups_in path_run
cases-noted law s w [] face up is at = absurd is
cases-noted law s w (event ∷ events) face up is at =
    by (cases-noted law s (path_step s w event).path events face up) (in-either up
    (path_step s w event).effects.ups (ups_in s (path_step s w event).path events) is)
  where
    by : (IsIn up (ups_in s (path_step s w event).path events) → up.place ≡ face_place face
        → IsCaseNotedIn s (path_step s w event).path events face up)
        → IsIn up (path_step s w event).effects.ups
        ⊎ IsIn up (ups_in s (path_step s w event).path events)
        → IsCaseNotedIn s w (event ∷ events) face up
    by rest (inl here) = record {
      earlier = [];
      event = event;
      later = events;
      among = refl;
      hands_up = here;
      noted = law s w event face up here at;
    }
    by rest (inr there) =
        let one = rest there at in
        record {
          earlier = event ∷ one.earlier;
          event = one.event;
          later = one.later;
          among = ap (λ (es : List PathEvent). event ∷ es) one.among;
          hands_up = one.hands_up;
          noted = one.noted;
        }

-- ---- where it starts

-- the laws of room on a path, on which these stand
pub record RoomLaws : Type 0 where
  pub starts : RoomStarts
  pub reds : NodesSendRed
  pub kept : RoomIsKept
  pub cases : PathNotesCases

links-room : (s : PathSetup) (w : Path) → PathRoom s w → (face : Face) → Room (link_at face w)
links-room s w room faces.Old = record {
  first = link-room _ _ _ _ (room.nodes faces.Old);
  second = link-room _ _ _ _ (room.faces faces.Old);
}
links-room s w room faces.New = record {
  first = link-room _ _ _ _ (room.faces faces.New);
  second = link-room _ _ _ _ (room.nodes faces.New);
}

roomy-starts : RoomLaws → (s : PathSetup) (w : Path) → IsPathReady s w → IsRoomyPath s w
roomy-starts laws s w ready = record {
  room = laws.starts s w ready.room numbers;
  reds = λ face. subst (λ (w : Path). SendsRed (node_at w face)) (ready.reached).leads
      (laws.reds s (ready.reached).start (ready.reached).events (ready.linked).each face);
}
  where
    numbers : (face : Face) → (gate_at w face).next + 64 ≤ 2 ^ 32
    numbers faces.Old = omega (arith, ((ready.hopeful).each faces.Old).numbers second_end)
    numbers faces.New = omega (arith, ((ready.hopeful).each faces.New).numbers first_end)

starts-well : RoomLaws → (s : PathSetup) (w : Path) → IsPathReady s w → StartsWell s w
starts-well laws s w ready = record {
  fit = record { peers = (ready.linked).each; alike = (ready.alike).each };
  reached = ready.reached;
  hopeful = ready.hopeful;
  room = links-room s w ready.room;
  roomy = roomy-starts laws s w ready;
}

-- ---- the laws

pub path-few : RoomLaws → (s : PathSetup) (w : Path) (events : List PathEvent) → IsPathReady s w
    → AreCleanOnPathFrom s w events
    → length events ≤ path_cost s w (path_run s w events)
path-few laws s w events ready clean =
    all-few laws.kept s w events (starts-well laws s w ready) clean

-- there is a clean run
run-of : RoomLaws → (s : PathSetup) (w : Path) → IsPathReady s w → DrainsOut s w (length w.sent)
    → HasPathRun s w
run-of laws s w ready all = record {
  n = length all.events;
  v = path_run s w all.events;
  run = record {
    events = all.events;
    count = refl;
    clean = all.clean;
    leads = refl;
    drained = all.drained;
  };
  bound = path-few laws s w all.events ready all.clean;
}

pub path-ends : RoomLaws → (s : PathSetup) (w : Path) → IsPathReady s w → HasPathRun s w
path-ends laws s w ready = run-of laws s w ready (numbers-end laws.kept s w
    (starts-well laws s w ready).fit (2 ^ 32 + 2 ^ 32 + 2 ^ 32 + 2 ^ 32) (omega arith)
    (2 ^ 32 + 2 ^ 32 + 2 ^ 32 + 2 ^ 32) w (length w.sent) (first_ranks s w) (record {
      goes = path-starts s w (starts-well laws s w ready);
      room = roomy-starts laws s w ready;
      low = λ face o. omega (arith, ((ready.hopeful).each face).numbers o);
    }) (omega arith))

pub path-completes : RoomLaws → (s : PathSetup) (w : Path) (n : ℕ) (v : Path)
    → IsPathReady s w → (drain : PathCleanRun s w n v) → Completes s w n v drain.events
path-completes laws s w n v ready drain = record {
  bound = omega (
    arith,
    drain.count,
    path-few laws s w drain.events ready drain.clean,
    ap (λ (v : Path). path_cost s w v) drain.leads,
  );
  complete = subst (λ (v : Path). IsPathComplete s w drain.events v) drain.leads (record {
    sent = λ place m is_open. (ends place m is_open).sent;
    handed = λ place m is_open. (ends place m is_open).handed;
    begun_sent = λ b among. (done b among).0;
    begun_handed = λ b among. whole b among (done b among).1;
    no_sender = none-kept s v' none;
    no_cancel = λ place m r is. none-cancels s w v' _ on.rank' place m r on.goes is;
    noted = on.noted;
    cases = cases-noted laws.cases s w drain.events;
    storage = on.storage;
  });
}
  where
    v' : Path
    v' = path_run s w drain.events

    on : PathRunsOn s w w (length w.sent) (first_ranks s w) drain.events
    on = all-run laws.kept s w drain.events (starts-well laws s w ready) drain.clean

    none : path_deadline (path_run s w drain.events) ≡ None
    none = ap path_deadline drain.leads ∙ (drain.drained).no_timer

    ends : (place : Place) (m : ℕ) → IsKeptSender (session_at s w place m).sender
        → SessionEnds s w (notes_in s w drain.events) (ups_in s w drain.events) place m
    ends place m is_open = session-ends s w (path_run s w drain.events)
        (notes_in s w drain.events) (ups_in s w drain.events) place m on.advances none is_open

    done : (b : Begun) → IsIn b (begun_in s w drain.events)
        → IsNotedSent (notes_in s w drain.events) b.place b.session
        × IsUpAt (ups_in s w drain.events) (across b.place) b.session
    done b among = done-ends s (path_run s w drain.events) (notes_in s w drain.events)
        (ups_in s w drain.events) b.place b.session none (on.begun b among)

    whole : (b : Begun) → IsIn b (begun_in s w drain.events)
        → IsUpAt (ups_in s w drain.events) (across b.place) b.session
        → IsUpWhole (ups_in s w drain.events) b
    whole b among up = record {
      is = up;
      whole = handed-whole s (ready.reached).start (ready.reached).events drain.events b up.up
          ready.linked
          (subst (λ (w : Path). IsIn b (begun_in s w drain.events)) (sym (ready.reached).leads)
          among)
          (subst (λ (w : Path). IsIn up.up (ups_in s w drain.events)) (sym (ready.reached).leads)
          up.among)
          up.at up.session;
    }
