-- What a run of a path and a drain after it have done to the sessions.

use Rattle.std.proofs.Common.{◌≡◌, ℕ, List, ◌∷◌, ◌++◌, length, ◌⊎◌, inl, inr, refl, sym, ◌∙◌, ap, subst}
use Rattle.ltp_session.specs.World.{End, clock, starts_world}
use Rattle.ltp_laws.specs.Log.{hand_ups}
use Rattle.ltp_laws.specs.View.{IsIn, view}
use Rattle.ltp_drain.specs.Hopeful.{IsHanded}
use Rattle.gate_cases.specs.declared.face.Face.{Face}
use Rattle.path_laws.specs.declared.effects.UpAt.{UpAt}
use Rattle.path_laws.specs.declared.places.Place.{Place}
use Rattle.path_laws.specs.Places.{across, link_end_of, link_of}
use Rattle.path_laws.specs.Path.{PathSetup, Path, PathEvent, path_run, starts_path}
use Rattle.path_laws.specs.Log.{ups_in}
use Rattle.path_laws.specs.Laws.{IsAsSent, IsLinked}
use Rattle.path_laws.specs.Links.{link_events, link_parties}
use Rattle.path_laws.proofs.ChunkLemmas.{hand_up_from, place_at, same_up}
use Rattle.path_laws.proofs.LawLemmas.{OneLink, as-sent, one-link}
use Rattle.path_laws.proofs.LogLemmas.{OnLink, all-in, link-in}
use Rattle.path_laws.proofs.RunLemmas.{whole-chunk}
use Rattle.path_drain.proofs.CaseNotes.{make-in}
use Rattle.path_drain.specs.Completion.{Completes}
use Rattle.path_drain.specs.Effects.{IsUpAt}
use Rattle.path_drain.specs.Hopeful.{session_at}
use Rattle.path_drain.proofs.CleanLemmas.{none-left}
use Rattle.path_drain.proofs.LawLemmas.{runs-complete}
use Rattle.path_drain.proofs.WholeLemmas.{ups-append, across-twice}
use Rattle.path_drain.specs.WholeRun.{IsHandedWhole, WholeRunsComplete}
use Rattle.path_drain.specs.Runs.{HandedUpInRuns, run_begun, run_path, run_ups}
use Rattle.path_drain.proofs.HandedUps.{WasHandedUp, start-hands}
use Rattle.path_drain.proofs.RunLemmas.{noted-in-runs}
use Rattle.path_drain.proofs.PathRuns.{up-left, up-right}
use Rattle.path_drain.proofs.ShownLemmas.{place-here}

-- ---- a receiver that has handed up

-- what a link hands up, the path does
up-on-path : (s : PathSetup) (start : ℕ) (events : List PathEvent) (place : Place) (n : ℕ)
    → WasHandedUp (hand_ups (link_parties s (link_of place))
    (starts_world (link_parties s (link_of place)))
    (clock start ∷ link_events (link_of place) s (starts_path s start) events))
    (link_end_of place) n
    → IsUpAt (run_ups s start events) (across place) n
up-on-path s start events place n was =
    let face = link_of place in
    let found : OnLink (λ (u : UpAt). u.place) same_up face (run_ups s start events)
    (hand_up_from face was.up) =
    link-in (λ (u : UpAt). u.place) same_up face (run_ups s start events)
    (hand_up_from face was.up)
    (subst (λ (us : List UpAt). IsIn (hand_up_from face was.up) us)
    (sym (whole-chunk face s start events).handed)
    (make-in (hand_up_from face) _ was.up was.among)) in
    record {
      up = found.x;
      among = found.among;
      at = ap (λ (u : UpAt). u.place) found.is
          ∙ (ap (λ (e : End). place_at face e) was.end ∙ place-here place);
      session = ap (λ (u : UpAt). u.session) found.is ∙ was.session;
    }

-- where a run has led to, a red part that has been handed up was so in the run
pub handed-in-run : HandedUpInRuns
handed-in-run s start events linked place n handed =
    up-on-path s start events place n
    (start-hands (link_parties s (link_of place))
    (clock start ∷ link_events (link_of place) s (starts_path s start) events)
    (linked.each (link_of place)) (link_end_of place) n
    (subst (λ w. IsHanded (view (link_parties s (link_of place)) w (link_end_of place) n).receiver)
    (whole-chunk (link_of place) s start events).runs handed))

-- ---- a run, and a drain

-- it was handed up in the run, or in the drain
up-in-both : (s : PathSetup) (start : ℕ) (events made : List PathEvent) → IsLinked s
    → (place : Place) (n : ℕ)
    → IsHanded (session_at s (run_path s start events) place n).receiver
    ⊎ IsUpAt (ups_in s (run_path s start events) made) (across place) n
    → IsUpAt (run_ups s start (events ++ made)) (across place) n
up-in-both s start events made linked place n either =
    subst (λ (us : List UpAt). IsUpAt us (across place) n)
    (sym (ups-append s (starts_path s start) events made)) (by either)
  where
    by : IsHanded (session_at s (run_path s start events) place n).receiver
        ⊎ IsUpAt (ups_in s (run_path s start events) made) (across place) n
        → IsUpAt (run_ups s start events ++ ups_in s (run_path s start events) made)
        (across place) n
    by (inl before) = up-left (run_ups s start events)
        (ups_in s (run_path s start events) made) (across place) n
        (handed-in-run s start events linked place n before)
    by (inr since) = up-right (run_ups s start events)
        (ups_in s (run_path s start events) made) (across place) n since

-- what is handed up is the whole block of a session that was begun across the link
whole-there : (s : PathSetup) (start : ℕ) (events : List PathEvent) → IsLinked s → (place : Place)
    (n : ℕ) → IsUpAt (run_ups s start events) (across place) n
    → IsHandedWhole (run_begun s start events) (run_ups s start events) place n
whole-there s start events linked place n up = record {
  session = sent.session;
  among = sent.among;
  place = from;
  number = sent.number ∙ up.session;
  up = record {
    is = record {
      up = up.up;
      among = up.among;
      at = up.at ∙ sym (ap across from);
      session = sym sent.number;
    };
    whole = sym sent.whole;
  };
}
  where
    links : (face : Face) → OneLink face s (run_begun s start events) (run_ups s start events)
    links face = one-link face s start events (linked.each face)

    sent : IsAsSent (run_begun s start events) up.up
    sent = all-in (IsAsSent (run_begun s start events)) (run_ups s start events)
        (as-sent s (run_begun s start events) (run_ups s start events) links) up.up up.among

    from : (sent.session).place ≡ place
    from = sent.place ∙ (ap across up.at ∙ across-twice place)

-- ---- the law

pub whole-runs : WholeRunsComplete
whole-runs s start events made linked alike hopeful room clean none = record {
  bound = (all.bound);
  sent = (all.complete).sent;
  handed = λ place n is_open. whole-there s start (events ++ made) linked place n
      (up-in-both s start events made linked place n ((all.complete).handed place n is_open));
  begun_sent = (all.complete).begun_sent;
  begun_handed = (all.complete).begun_handed;
  cases = noted-in-runs s (starts_path s start) (events ++ made);
  noted = (all.complete).noted;
  storage = (all.complete).storage;
  no_sender = (all.complete).no_sender;
  no_cancel = (all.complete).no_cancel;
  no_timer = (none-left s w made clean none).no_timer;
}
  where
    w : Path
    w = run_path s start events

    all : Completes s (run_path s start events) (length made)
        (path_run s (run_path s start events) made) made
    all = runs-complete s (run_path s start events) (length made)
        (path_run s (run_path s start events) made) (record {
          linked = linked;
          alike = alike;
          reached = record { start = start; events = events; leads = refl };
          hopeful = hopeful;
          room = room;
        }) (record {
          events = made;
          count = refl;
          clean = clean;
          leads = refl;
          drained = none-left s (run_path s start events) made clean none;
        })
