-- A drain from a hopeful world with room has no more events than its sessions cost, and completes
-- them.

use Rattle.std.proofs.Common.{◌<◌, ◌≡◌, ℕ, zero, suc, ◌+◌, ◌≤◌, Bool, true, false, List, [], ◌∷◌}
use Rattle.std.proofs.Common.{◌++◌, length, drop, Option, None, Some, ◌⊎◌, inl, inr, refl, sym}
use Rattle.std.proofs.Common.{◌∙◌, ap, arith, subst, nat_lt, if◌then◌else◌}
use Rattle.std.proofs.lemmas.Bool.{lt-ltb, ltb-false}
use Rattle.std.specs.Option.{option_map}
use Rattle.ltp_segment.specs.declared.session.Note.{Note}
use Rattle.ltp_segment.specs.declared.session.Note.TheVariants as notes
use Rattle.ltp_session.specs.Engine.{Party}
use Rattle.ltp_session.specs.Receiver.{Receiving, is_cancelling}
use Rattle.ltp_session.specs.World.{ArePeers, End, Event, Sent, World, at_end, clock, deliver}
use Rattle.ltp_session.specs.World.{first_end, happens, other, run, second_end}
use Rattle.ltp_laws.specs.Facts.{SessionFacts}
use Rattle.ltp_laws.specs.View.{said, view}
use Rattle.ltp_laws.proofs.RunLemmas.{in-left, in-right}
use Rattle.ltp_drain.specs.Clean.{AreClean, AreCleanFrom, CleanRun, IsDrained, clean_event}
use Rattle.ltp_drain.specs.Clean.{link_deadline, passed, passed_after}
use Rattle.ltp_drain.specs.Completion.{HasCleanRun, IsComplete, IsReady}
use Rattle.ltp_drain.specs.Effects.{EndEffects, IsHandedUp, IsNoted, effects_at, effects_in}
use Rattle.ltp_drain.specs.Hopeful.{IsHanded, IsKeptSender, AreAlike, cost, session_cost, sum_below}
use Rattle.ltp_drain.specs.Hopeful.{view_cost}
use Rattle.ltp_drain.specs.Standing.{AllAdvance, DrainHolds, setting, sum_of}
use Rattle.ltp_drain.proofs.CleanSteps.{GoesOn, IsGoing, clean-goes, idle-link, idle-senders}
use Rattle.ltp_drain.proofs.CleanSteps.{reached-more}
use Rattle.ltp_drain.proofs.DrainFrame.{Begun, is-begun, never_begun, was_begun}
use Rattle.ltp_drain.proofs.DrainLists.{sum-below}
use Rattle.ltp_drain.proofs.DrainRun.{all-still}
use Rattle.ltp_drain.proofs.StartLemmas.{drain-starts, start-most, start_rank}

-- ---- effects

noted-first : (xs ys : List EndEffects) (end : End) (note : Note) → IsNoted xs end note
    → IsNoted (xs ++ ys) end note
noted-first xs ys end note is = record {
  of = is.of;
  among = in-left is.of xs ys is.among;
  by = is.by;
  noted = is.noted;
}

noted-later : (xs ys : List EndEffects) (end : End) (note : Note) → IsNoted ys end note
    → IsNoted (xs ++ ys) end note
noted-later xs ys end note is = record {
  of = is.of;
  among = in-right is.of xs ys is.among;
  by = is.by;
  noted = is.noted;
}

handed-first : (xs ys : List EndEffects) (end : End) (n : ℕ) → IsHandedUp xs end n
    → IsHandedUp (xs ++ ys) end n
handed-first xs ys end n is = record {
  of = is.of;
  among = in-left is.of xs ys is.among;
  by = is.by;
  up = is.up;
  handed = is.handed;
  session = is.session;
}

handed-later : (xs ys : List EndEffects) (end : End) (n : ℕ) → IsHandedUp ys end n
    → IsHandedUp (xs ++ ys) end n
handed-later xs ys end n is = record {
  of = is.of;
  among = in-right is.of xs ys is.among;
  by = is.by;
  up = is.up;
  handed = is.handed;
  session = is.session;
}

-- ---- one event, and others after it

pub advances-on : (parties : Party × Party) (w w' v : World) (xs ys : List EndEffects)
    → AllAdvance parties w w' xs → AllAdvance parties w' v ys
    → AllAdvance parties w v (xs ++ ys)
advances-on parties w w' v xs ys first later o n = record {
  sender = λ is_open. by_first ((first o n).sender is_open);
  receiver = λ handed. by_later ((later o n).receiver handed);
}
  where
    Up : Type 0
    Up = IsHandedUp (xs ++ ys) (other o) n

    before : IsHanded (view parties w' o n).receiver → IsHanded (view parties w o n).receiver
        ⊎ IsHandedUp (xs ++ ys) (other o) n
    before handed = go ((first o n).receiver handed)
      where
        go : IsHanded (view parties w o n).receiver ⊎ IsHandedUp xs (other o) n
            → IsHanded (view parties w o n).receiver ⊎ IsHandedUp (xs ++ ys) (other o) n
        go (inl was) = inl was
        go (inr up) = inr (handed-first xs ys (other o) n up)

    by_later : IsHanded (view parties w' o n).receiver ⊎ IsHandedUp ys (other o) n
        → IsHanded (view parties w o n).receiver ⊎ IsHandedUp (xs ++ ys) (other o) n
    by_later (inl was) = before was
    by_later (inr up) = inr (handed-later xs ys (other o) n up)

    by_rest : IsKeptSender (view parties v o n).sender
        ⊎ (IsNoted ys o (notes.Sent n) × (IsHanded (view parties w' o n).receiver
        ⊎ IsHandedUp ys (other o) n))
        → IsKeptSender (view parties v o n).sender ⊎ (IsNoted (xs ++ ys) o (notes.Sent n)
        × (IsHanded (view parties w o n).receiver ⊎ IsHandedUp (xs ++ ys) (other o) n))
    by_rest (inl still) = inl still
    by_rest (inr done) = inr (noted-later xs ys o (notes.Sent n) done.0, by_later done.1)

    early : IsHanded (view parties w o n).receiver ⊎ IsHandedUp xs (other o) n
        → IsHanded (view parties w o n).receiver ⊎ IsHandedUp (xs ++ ys) (other o) n
    early (inl was) = inl was
    early (inr up) = inr (handed-first xs ys (other o) n up)

    by_first : IsKeptSender (view parties w' o n).sender
        ⊎ (IsNoted xs o (notes.Sent n) × (IsHanded (view parties w o n).receiver
        ⊎ IsHandedUp xs (other o) n))
        → IsKeptSender (view parties v o n).sender ⊎ (IsNoted (xs ++ ys) o (notes.Sent n)
        × (IsHanded (view parties w o n).receiver ⊎ IsHandedUp (xs ++ ys) (other o) n))
    by_first (inl still) = by_rest ((later o n).sender still)
    by_first (inr done) = inr (noted-first xs ys o (notes.Sent n) done.0, early done.1)

-- ---- a list of clean events

going-on : (parties : Party × Party) (w : World) (c : ℕ) (rank : End → ℕ → ℕ) (event : Event)
    (es : List EndEffects)
    → IsGoing parties w c rank → (on : GoesOn parties w rank (happens parties w event)
    (passed_after c event) es)
    → IsGoing parties (happens parties w event) (passed_after c event) on.rank'
going-on parties w c rank event es going on =
    record {
      holds = on.holds;
      room = on.room;
      within = on.within;
      reached = reached-more parties
          w event going.reached;
    }

record RunsOn (parties : Party × Party) (w : World) (c : ℕ) (rank : End → ℕ
    → ℕ) (events : List Event) : Type 0 where
  rank' : End → ℕ → ℕ
  going : IsGoing parties (run parties w events) (passed c events) rank'
  bound : length events + sum_of (run parties w events) rank' ≤ sum_of w rank
  advances : AllAdvance parties w (run parties w events) (effects_in parties w events)
  next : (o : End) → (at_end (run parties w events).engines o).next ≡ (at_end w.engines o).next

runs-on : (parties : Party × Party) → ArePeers parties → AreAlike parties
    → (events : List Event) (w : World) (c : ℕ) (rank : End → ℕ → ℕ)
    → IsGoing parties w c rank → AreClean parties w c events → RunsOn parties w c rank events
unfolding effects_in
runs-on parties peers alike [] w c rank going clean =
    record {
      rank' = rank;
      going = going;
      bound = omega arith;
      advances = all-still parties w [];
      next = λ o. refl;
    }
runs-on parties peers alike (event ∷ events) w c rank going clean =
    let on = clean-goes parties w c rank event peers alike going clean.0 in
    let rest = runs-on parties peers alike events (happens parties w event) (passed_after c event)
    on.rank'
    (going-on parties w c rank event (effects_at parties w event) going on) clean.1 in
    record {
      rank' = rest.rank';
      going = rest.going;
      bound = omega (arith, rest.bound, on.falls);
      advances = advances-on parties w (happens parties w event)
          (run parties (happens parties w event) events)
          (effects_at parties w event) (effects_in parties (happens parties w event) events)
          on.advances rest.advances;
      next = λ o. rest.next o ∙ on.next o;
    }

-- ---- where it begins

pub first_rank : Party × Party → World → End → ℕ → ℕ
first_rank parties w o n = start_rank (at_end parties o).policy (view parties w o n).sender
    (view parties w o n).receiver

pub starts-going : (parties : Party × Party) (w : World) → IsReady parties w
    → IsGoing parties w (length w.sent) (first_rank parties w)
unfolding first_rank
starts-going parties w ready = record {
  holds = subst (λ new. DrainHolds SessionFacts parties (record { world = w; new = new })
      (first_rank parties w)) (sym (drop-all w.sent))
      (drain-starts parties w ready.peers ready.alike ready.reached ready.hopeful);
  room = ready.room;
  within = omega arith;
  reached = ready.reached;
}
  where
    drop-all : (xs : List Sent) → drop (length xs) xs ≡ []
    drop-all [] = refl
    drop-all (x ∷ xs) = drop-all xs

pub starts : (parties : Party × Party) (w : World) → IsReady parties w
    → DrainHolds SessionFacts parties (record { world = w; new = [] }) (first_rank parties w)
unfolding first_rank
starts parties w ready = drain-starts parties w ready.peers ready.alike ready.reached
    ready.hopeful

pub first-low : (parties : Party × Party) (w : World) (o : End) (n : ℕ)
    → first_rank parties w o n ≤ view_cost parties o (view parties w o n)
unfolding first_rank
first-low parties w o n = start-most (at_end parties o).policy (view parties w o n).sender
    (view parties w o n).receiver

pub first-none : (parties : Party × Party) (w : World) (o : End) (n : ℕ)
    → (view parties w o n).sender ≡ None → (view parties w o n).receiver ≡ None
    → first_rank parties w o n ≡ 0
unfolding first_rank start_rank
first-none parties w o n no_sender no_receiver = rw (no_sender, no_receiver) refl

pub starts-low : (parties : Party × Party) (w v : World)
    → ((o : End) → (at_end v.engines o).next ≡ (at_end w.engines o).next)
    → sum_of w (first_rank parties w) ≤ cost parties w v
unfolding first_rank cost
starts-low parties w v next = omega (arith, at first_end, at second_end)
  where
    kept : (o : End) (n : ℕ) → n < (at_end w.engines o).next
        → start_rank (at_end parties o).policy (view parties w o n).sender
        (view parties w o n).receiver ≤ session_cost parties w v o n
    kept o n low =
        let yes : nat_lt n (at_end w.engines o).next ≡ true =
        lt-ltb n (at_end w.engines o).next low in
        rw yes (start-most (at_end parties o).policy (view parties w o n).sender
        (view parties w o n).receiver)

    at : (o : End) → sum_below (at_end w.engines o).next
        (λ n. start_rank (at_end parties o).policy (view parties w o n).sender
        (view parties w o n).receiver)
        ≤ sum_below (at_end v.engines o).next (session_cost parties w v o)
    at o = subst (λ (k : ℕ). sum_below (at_end w.engines o).next
        (λ n. start_rank (at_end parties o).policy (view parties w o n).sender
        (view parties w o n).receiver) ≤ sum_below k (session_cost parties w v o)) (sym (next o))
        (sum-below (at_end w.engines o).next _ (session_cost parties w v o) (kept o))

pub clean-few : (parties : Party × Party) (w : World) (events : List Event) → IsReady parties w
    → AreCleanFrom parties w events
    → length events ≤ cost parties w (run parties w events)
clean-few parties w events ready clean =
    let on = runs-on parties ready.peers ready.alike events w (length w.sent)
    (first_rank parties w) (starts-going parties w ready) clean in
    omega (arith, on.bound, starts-low parties w (run parties w events) on.next)

-- ---- where it ends

pub clean-completes : (parties : Party × Party) (w : World) (n : ℕ) (v : World)
    → IsReady parties w
    → (drain : CleanRun parties w n v) → IsComplete parties w drain.events v
clean-completes parties w n v ready drain = record {
  sent = λ o m is_open. by_sent o m ((advances o m).sender is_open);
  handed = λ o m is_open. by_handed o m ((advances o m).sender is_open);
  no_sender = no_sender;
  no_cancel = no_cancel;
}
  where
    on : RunsOn parties w (length w.sent) (first_rank parties w) drain.events
    on = runs-on parties ready.peers ready.alike drain.events w (length w.sent)
        (first_rank parties w) (starts-going parties w ready) drain.clean

    advances : AllAdvance parties w v (effects_in parties w drain.events)
    advances = subst (λ (v : World). AllAdvance parties w v (effects_in parties w drain.events))
        drain.leads on.advances

    no_sender : (o : End) (m : ℕ) → (view parties v o m).sender ≡ None
    no_sender o m = idle-senders (at_end v.engines o) m (idle-link v (drain.drained).no_timer o)

    never : (o : End) (m : ℕ) → IsKeptSender (view parties v o m).sender → ⊥
    never o m is_open = subst IsKeptSender (no_sender o m) is_open

    by_sent : (o : End) (m : ℕ) → IsKeptSender (view parties v o m).sender
        ⊎ (IsNoted (effects_in parties w drain.events) o (notes.Sent m)
        × (IsHanded (view parties w o m).receiver
        ⊎ IsHandedUp (effects_in parties w drain.events) (other o) m))
        → IsNoted (effects_in parties w drain.events) o (notes.Sent m)
    by_sent o m (inl still) = absurd (never o m still)
    by_sent o m (inr done) = done.0

    by_handed : (o : End) (m : ℕ) → IsKeptSender (view parties v o m).sender
        ⊎ (IsNoted (effects_in parties w drain.events) o (notes.Sent m)
        × (IsHanded (view parties w o m).receiver
        ⊎ IsHandedUp (effects_in parties w drain.events) (other o) m))
        → IsHanded (view parties w o m).receiver
        ⊎ IsHandedUp (effects_in parties w drain.events) (other o) m
    by_handed o m (inl still) = absurd (never o m still)
    by_handed o m (inr done) = done.1

    no_cancel : (o : End) (m : ℕ) (r : Receiving) → (view parties v o m).receiver ≡ Some r
        → is_cancelling r.phase ≡ false
    no_cancel o m r is = by_begun (is-begun SessionFacts (setting parties o m)
        (view parties (run parties w drain.events) o m) _ _ (on.rank' o m)
        ((on.going).holds.session o m))
      where
        by_begun : Begun SessionFacts (setting parties o m)
            (view parties (run parties w drain.events) o m)
            (said o (at_end parties o).own m (drop (passed (length w.sent) drain.events)
            (run parties w drain.events).sent))
            (said (other o) (at_end parties o).own m
            (drop (passed (length w.sent) drain.events) (run parties w drain.events).sent))
            (on.rank' o m)
            → is_cancelling r.phase ≡ false
        by_begun (was_begun used st) = ((st.drains).calm).receiving r
            (ap (λ (v : World). (view parties v o m).receiver) drain.leads ∙ is)
        by_begun (never_begun unused idle) = absurd (
            let none : (view parties (run parties w drain.events) o m).receiver ≡ None =
            (idle.unused).receiver in
            let some : (view parties (run parties w drain.events) o m).receiver ≡ Some r =
            ap (λ (v : World). (view parties v o m).receiver) drain.leads ∙ is in
            cc)

-- ---- there is such a run

record Drained (parties : Party × Party) (w : World) (c : ℕ) : Type 0 where
  events : List Event
  clean : AreClean parties w c events
  drained : IsDrained (run parties w events) (passed c events)

pub over-drained : (w : World) (c : ℕ) → c ≤ length w.sent → clean_event w c ≡ None
    → IsDrained w c
over-drained w c within none = by_test (nat_lt c (length w.sent)) refl none
  where
    by_deadline : (x : Option ℕ) → link_deadline w ≡ x → option_map clock x ≡ None
        → link_deadline w ≡ None
    by_deadline None is none = is
    by_deadline (Some now) is none = absurd (cc)

    by_test : (b : Bool) → nat_lt c (length w.sent) ≡ b
        → (if b then Some (deliver c) else option_map clock (link_deadline w)) ≡ None
        → IsDrained w c
    by_test true is none = absurd (cc)
    by_test false is none = record {
      delivered = omega (arith, within, ltb-false c (length w.sent) is);
      no_timer = by_deadline (link_deadline w) refl none;
    }

drains-in : (parties : Party × Party) → ArePeers parties → AreAlike parties
    → (fuel : ℕ) (w : World) (c : ℕ) (rank : End → ℕ → ℕ)
    → IsGoing parties w c rank → sum_of w rank ≤ fuel → Drained parties w c
drains-in parties peers alike zero w c rank going low = by_event (clean_event w c) refl
  where
    by_event : (x : Option Event) → clean_event w c ≡ x → Drained parties w c
    by_event None is = record {
      events = [];
      clean = tt;
      drained = over-drained w c going.within
          is;
    }
    by_event (Some event) is = absurd (omega (
      arith,
      low,
      (clean-goes parties w c rank event peers alike going is).falls,
    ))
drains-in parties peers alike (suc fuel) w c rank going low =
    by_event (clean_event w c) refl (λ event on less. drains-in parties peers alike fuel
    (happens parties w event) (passed_after c event) (GoesOn.rank' on)
    (going-on parties w c rank event (effects_at parties w event) going on) less)
  where
    by_event : (x : Option Event) → clean_event w c ≡ x
        → ((event : Event) (on : GoesOn parties w rank (happens parties w event)
        (passed_after c event) (effects_at parties w event))
        → sum_of (happens parties w event) (on.rank') ≤ fuel
        → Drained parties (happens parties w event) (passed_after c event))
        → Drained parties w c
    by_event None is further = record {
      events = [];
      clean = tt;
      drained = over-drained w c going.within is;
    }
    by_event (Some event) is further =
        let on = clean-goes parties w c rank event peers alike going is in
        let rest = further event on (omega (arith, low, on.falls)) in
        record { events = event ∷ rest.events; clean = (is, rest.clean); drained = rest.drained }

pub clean-ends : (parties : Party × Party) (w : World) → IsReady parties w → HasCleanRun parties w
clean-ends parties w ready =
    let d = drains-in parties ready.peers ready.alike (sum_of w (first_rank parties w)) w
    (length w.sent) (first_rank parties w) (starts-going parties w ready) (omega arith) in
    record {
      n = length d.events;
      v = run parties w d.events;
      run = record {
        events = d.events;
        count = refl;
        clean = d.clean;
        leads = refl;
        drained = d.drained;
      };
      bound = clean-few parties w d.events ready d.clean;
    }
