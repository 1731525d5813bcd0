-- After the picks: what is new is delivered in the order of sending, and then the drain goes on.

use Rattle.std.proofs.Common.{◌≡◌, ℕ, zero, suc, ◌+◌, ◌<◌, ◌≤◌, Bool, true, false, not, List}
use Rattle.std.proofs.Common.{[], ◌∷◌, ◌++◌, length, map, drop, Some, Ok, Err, Result}
use Rattle.std.proofs.Common.{refl, sym, ◌∙◌, ap, arith, subst, nat_le}
use Rattle.std.specs.List.{AllByRecursion, slice_get}
use Rattle.std.proofs.lemmas.List.{append-nil, append_assoc, map-append}
use Rattle.ltp_segment.specs.declared.fault.SegmentCause.{SegmentCause}
use Rattle.ltp_segment.specs.Reading.{segment_of}
use Rattle.ltp_segment.specs.Values.{ContentValue, SegmentValue, a_piece, a_receiver_cancel}
use Rattle.ltp_segment.specs.Values.{a_receiver_cancel_ack, a_report, a_report_ack}
use Rattle.ltp_segment.specs.Values.{a_sender_cancel, a_sender_cancel_ack}
use Rattle.ltp_session.specs.Engine.{Party}
use Rattle.ltp_session.specs.World.{End, Event, World, at_end, deliver, first_end, happens}
use Rattle.ltp_session.specs.World.{run, second_end}
use Rattle.ltp_session.specs.World.{Sent as LinkSent}
use Rattle.ltp_laws.proofs.ListLemmas.{all-append}
use Rattle.ltp_drain.specs.Draining.{since}
use Rattle.ltp_drain.specs.Left.{burden}
use Rattle.ltp_drain.specs.Effects.{effects_at}
use Rattle.ltp_drain.proofs.CleanSteps.{Taken, drop-end, taken, drop-append}
use Rattle.ltp_picks.specs.Picks.{AreNext, Crossing, Placed, Turn, after_turn, after_turns}
use Rattle.ltp_picks.specs.Picks.{events_of, next_turn, placed_from}
use Rattle.ltp_picks.proofs.CrossingLemmas.{delivered-sent}
use Rattle.ltp_world.specs.declared.effects.EndEffects.{EndEffects}
use Rattle.ltp_world.specs.declared.picks.Marks.{Marks}
use Rattle.ltp_world.specs.declared.sent.Sent.{Sent}
use Rattle.ltp_world.specs.Clean.{TakesEvent, TellsEvent}
use Rattle.ltp_world.specs.Drain.{IsEarly, done_in, told_of}
use Rattle.ltp_world.specs.Marks.{AreLeft, AreMarks, AreWithin, RestIn, RestTo, is_new_in}
use Rattle.ltp_world.specs.Marks.{least_mark, marks_at, new_from}
use Rattle.ltp_world.specs.Shows.{ShowsRun, link_after, spelled}
use Rattle.ltp_world.specs.Values.{WorldValue, parties_of}
use Rattle.ltp_world.specs.Work.{datagrams_burden, left_of, read_burden}
use Rattle.ltp_world.proofs.DrainLemmas.{done-append, length-sent, link-on}
use Rattle.ltp_world.proofs.MarkLemmas.{all-new, new-append, new-drop, new-skip, new-take}
use Rattle.ltp_world.proofs.PickLemmas.{each-within, new-in}

-- ---- turns after turns

pub events-append : (xs ys : List Turn) → events_of (xs ++ ys) ≡ events_of xs ++ events_of ys
events-append xs ys = map-append (λ (t : Turn). t.event) xs ys

pub next-append : (parties : Party × Party) (d : Crossing) (xs ys : List Turn)
    → AreNext parties d xs → AreNext parties (after_turns parties d xs) ys
    → AreNext parties d (xs ++ ys)
unfolding after_turns
next-append parties d [] ys first second = second
next-append parties d (x ∷ xs) ys first second =
    (first.0, next-append parties (after_turn parties d x) xs ys first.1 second)

pub turns-append : (parties : Party × Party) (d : Crossing) (xs ys : List Turn)
    → after_turns parties d (xs ++ ys) ≡ after_turns parties (after_turns parties d xs) ys
unfolding after_turns
turns-append parties d [] ys = refl
turns-append parties d (x ∷ xs) ys = turns-append parties (after_turn parties d x) xs ys

pub turns-world : (parties : Party × Party) (d : Crossing) (ts : List Turn)
    → (after_turns parties d ts).world ≡ run parties d.world (events_of ts)
unfolding after_turns
turns-world parties d [] = refl
turns-world parties d (t ∷ ts) = turns-world parties (after_turn parties d t) ts

pub rest-none : (v : WorldValue) (k : ℕ) (marks : Marks) (told : List (List EndEffects))
    → v.spent ≡ false → RestTo v v k k marks told told
unfolding done_in after_turns
rest-none v k marks told whole = record {
  whole = whole;
  parties = refl;
  run = λ events shows d stands left. record {
    turns = [];
    next = tt;
    early = tt;
    told = sym (append-nil told);
    shows = subst (ShowsRun v) (sym (append-nil events)) shows;
    left = left;
    stands = stands ∙ ap (link_after v) (sym (append-nil events));
  };
}

pub rest-more : (u v w : WorldValue) (j k l : ℕ) (marks : Marks)
    (xs ys zs : List (List EndEffects)) → RestTo u v j k marks xs ys → RestTo v w k l marks ys zs
    → RestTo u w j l marks xs zs
rest-more u v w j k l marks xs ys zs first second = record {
  whole = second.whole;
  parties = second.parties ∙ first.parties;
  run = λ events shows d stands left.
      let one = first.run events shows d stands left in
      let two = second.run (events ++ events_of one.turns) one.shows
      (after_turns (parties_of u) d one.turns) one.stands one.left in
      join events d one
      (subst (λ (ps : Party × Party). RestIn ps (after_turns (parties_of u) d one.turns) w l marks
      ys zs (events ++ events_of one.turns)) first.parties two);
}
  where
    join : (events : List Event) (d : Crossing)
        (one : RestIn (parties_of u) d v k marks xs ys events)
        → RestIn (parties_of u) (after_turns (parties_of u) d one.turns) w l marks ys zs
        (events ++ events_of one.turns)
        → RestIn (parties_of u) d w l marks xs zs events
    join events d one two = record {
      turns = one.turns ++ two.turns;
      next = next-append (parties_of u) d one.turns two.turns one.next two.next;
      early = subst (AllByRecursion IsEarly) (sym (events-append one.turns two.turns))
          (all-append IsEarly (events_of one.turns) (events_of two.turns) one.early two.early);
      told = two.told ∙ ap (λ b. b ++ done_in (parties_of u)
          (after_turns (parties_of u) d one.turns).world (events_of two.turns)) one.told
          ∙ append_assoc xs (done_in (parties_of u) d.world (events_of one.turns))
          (done_in (parties_of u) (after_turns (parties_of u) d one.turns).world
          (events_of two.turns))
          ∙ ap (λ rest. xs ++ rest)
          (ap (λ (x : World). done_in (parties_of u) d.world (events_of one.turns)
          ++ done_in (parties_of u) x (events_of two.turns))
          (turns-world (parties_of u) d one.turns)
          ∙ sym (done-append (parties_of u) d.world (events_of one.turns) (events_of two.turns))
          ∙ ap (done_in (parties_of u) d.world) (sym (events-append one.turns two.turns)));
      shows = subst (ShowsRun w) (all-events events one.turns two.turns) two.shows;
      left = subst (AreLeft l marks) (sym (turns-append (parties_of u) d one.turns two.turns))
          two.left;
      stands = ap (λ (d : Crossing). d.world) (turns-append (parties_of u) d one.turns two.turns)
          ∙ two.stands ∙ ap (link_after w) (all-events events one.turns two.turns);
    }
      where
        all-events : (events : List Event) (xs ys : List Turn)
            → (events ++ events_of xs) ++ events_of ys ≡ events ++ events_of (xs ++ ys)
        all-events events xs ys = append_assoc events (events_of xs) (events_of ys)
            ∙ ap (λ (more : List Event). events ++ more) (sym (events-append xs ys))

-- ---- one datagram

-- what stands at its place
at-place : (v : WorldValue) (d : Crossing) (events : List Event) (k : ℕ) → ShowsRun v events
    → d.world ≡ link_after v events → k < length v.sent → Taken d.world.sent k
at-place v d events k shows stands low = taken d.world.sent k
    (let size = length-sent v (link_after v events) shows.link in
    let same = ap (λ (w : World). length w.sent) stands in
    omega (arith, low, size, same))

-- whether it is new
new-at : (v : WorldValue) (d : Crossing) (events : List Event) (marks : Marks) (k : ℕ)
    (x : LinkSent) (new : Bool) → ShowsRun v events → d.world ≡ link_after v events
    → slice_get d.world.sent k ≡ Some x → is_new_in v.sent k marks ≡ new
    → nat_le (at_end (marks_at marks) x.from) k ≡ new
new-at v d events marks k x new shows stands got is =
    sym (new-in d.world.sent marks k x got)
    ∙ ap (λ (ds : List Sent). is_new_in ds k marks)
    (sym (shows.link.sent ∙ ap (λ (w : World). map spelled w.sent) (sym stands))) ∙ is

not-is : (b c : Bool) → not b ≡ c → b ≡ not c
not-is true c is = ap not is
not-is false c is = ap not is

one-more : (k : ℕ) → suc k ≡ k + 1
one-more k = omega arith

pub rest-skip : (v : WorldValue) (k : ℕ) (marks : Marks) (told : List (List EndEffects))
    → v.spent ≡ false → k < length v.sent → not (is_new_in v.sent k marks) ≡ true
    → RestTo v v k (k + 1) marks told told
unfolding done_in after_turns
rest-skip v k marks told whole low is = record {
  whole = whole;
  parties = refl;
  run = λ events shows d stands left. record {
    turns = [];
    next = tt;
    early = tt;
    told = sym (append-nil told);
    shows = subst (ShowsRun v) (sym (append-nil events)) shows;
    left = left ∙ skipped d (at-place v d events k shows stands low)
        (new-at v d events marks k _ false shows stands
        (at-place v d events k shows stands low).got (not-is _ true is));
    stands = stands ∙ ap (link_after v) (sym (append-nil events));
  };
}
  where
    skipped : (d : Crossing) (t : Taken d.world.sent k)
        → nat_le (at_end (marks_at marks) t.x.from) k ≡ false
        → new_from k (marks_at marks) (drop k d.world.sent)
        ≡ new_from (k + 1) (marks_at marks) (drop (k + 1) d.world.sent)
    skipped d t old = ap (new_from k (marks_at marks)) t.rest
        ∙ new-skip k (marks_at marks) t.x (drop (suc k) d.world.sent) old
        ∙ ap (λ (j : ℕ). new_from (k + 1) (marks_at marks) (drop j d.world.sent)) (one-more k)

-- a datagram that is passed over leaves less
pub skip-falls : (v : WorldValue) (k : ℕ) → k < length v.sent → left_of v (k + 1) < left_of v k
unfolding datagrams_burden
skip-falls v k low =
    let t = taken v.sent k low in
    omega (
      arith,
      ap datagrams_burden t.rest,
      ap (λ (j : ℕ). datagrams_burden (drop j v.sent)) (one-more k),
      read-weighs (segment_of t.x.datagram),
    )
  where
    weighs : (c : ContentValue) → 1 ≤ burden c
    weighs (a_piece q) = omega arith
    weighs (a_report x) = omega arith
    weighs (a_report_ack n) = omega arith
    weighs (a_sender_cancel n) = omega arith
    weighs a_sender_cancel_ack = omega arith
    weighs (a_receiver_cancel n) = omega arith
    weighs a_receiver_cancel_ack = omega arith

    read-weighs : (r : Result SegmentValue (ℕ × SegmentCause)) → 1 ≤ read_burden r
    read-weighs (Ok s) = weighs s.content
    read-weighs (Err refusal) = omega arith

length-left : {X : Type 0} (k : ℕ) (xs : List X) → k ≤ length xs → k + length (drop k xs) ≡ length xs
length-left zero xs low = omega arith
length-left (suc k) [] low = absurd (omega (arith, low))
length-left (suc k) (x ∷ xs) low = omega (arith, length-left k xs (omega (arith, low)))

-- what is new after the delivery of datagram k, where those before it aren't
pub left-after : (parties : Party × Party) (d : Crossing) (k : ℕ) (marks : Marks) (t : Turn)
    → (happens parties d.world t.event).sent
    ≡ d.world.sent ++ since d.world (happens parties d.world t.event)
    → t.left ≡ new_from (k + 1) (marks_at marks) (drop (k + 1) d.world.sent)
    → k < length d.world.sent → marks.first ≤ length d.world.sent
    → marks.second ≤ length d.world.sent
    → AreLeft (k + 1) marks (after_turn parties d t)
left-after parties d k marks t adds left low first second =
    ap (λ (es : List Placed). es ++ placed_from (length d.world.sent) added) left
    ∙ ap (λ (es : List Placed).
    new_from (k + 1) (marks_at marks) (drop (k + 1) d.world.sent) ++ es)
    (sym (all-new (length d.world.sent) (marks_at marks) added
    (each-within marks (length d.world.sent) first second)))
    ∙ ap (λ (j : ℕ). new_from (k + 1) (marks_at marks) (drop (k + 1) d.world.sent)
    ++ new_from j (marks_at marks) added) (sym (length-left (k + 1) d.world.sent (omega (arith, low))))
    ∙ sym (ap (λ (sent : List LinkSent). new_from (k + 1) (marks_at marks) (drop (k + 1) sent)) adds
    ∙ ap (new_from (k + 1) (marks_at marks))
    (drop-append (k + 1) d.world.sent added (omega (arith, low)))
    ∙ new-append (k + 1) (marks_at marks) (drop (k + 1) d.world.sent) added)
  where
    added : List LinkSent
    added = since d.world (happens parties d.world t.event)

pub rest-deliver : (old new : WorldValue) (k : ℕ) (marks : Marks)
    (before now : List (List EndEffects)) → TakesEvent old new (deliver k) before now
    → k < length old.sent → AreWithin marks old → not (is_new_in old.sent k marks) ≡ false
    → RestTo old new k (k + 1) marks before now
unfolding done_in after_turns
rest-deliver old new k marks before now takes low within is = record {
  whole = takes.whole;
  parties = takes.parties;
  run = λ events shows d stands left. by_place events shows d stands left
      (at-place old d events k shows stands low);
}
  where
    by_place : (events : List Event) → ShowsRun old events → (d : Crossing)
        → d.world ≡ link_after old events → AreLeft k marks d → Taken d.world.sent k
        → RestIn (parties_of old) d new (k + 1) marks before now events
    by_place events shows d stands left got = record {
      turns = t ∷ [];
      next = (ap (next_turn d.world) new_is, tt);
      early = (tt, tt);
      told = one.told ∙ ap (λ (w : World). before ++ map told_of
          (effects_at (parties_of old) w (deliver k)) ∷ []) (sym stands);
      shows = one.shows;
      left = left-after (parties_of old) d k marks t (delivered-sent (parties_of old) d.world k) refl
          (omega (arith, low, size, same)) (omega (arith, within.0, size, same))
          (omega (arith, within.1, size, same));
      stands = ap (λ (w : World). happens (parties_of old) w (deliver k)) stands
          ∙ sym (link-on old new events (deliver k ∷ []) takes.parties);
    }
      where
        one : TellsEvent (parties_of old) (link_after old events) new (deliver k) before now events
        one = takes.run events shows

        size : length old.sent ≡ length (link_after old events).sent
        size = length-sent old (link_after old events) shows.link

        same : length d.world.sent ≡ length (link_after old events).sent
        same = ap (λ (w : World). length w.sent) stands

        t : Turn
        t = record {
          event = deliver k;
          left = new_from (k + 1) (marks_at marks) (drop (k + 1) d.world.sent);
        }

        new_is : d.new ≡ record { place = k; sent = got.x }
            ∷ new_from (k + 1) (marks_at marks) (drop (k + 1) d.world.sent)
        new_is = left ∙ ap (new_from k (marks_at marks)) got.rest
            ∙ new-take k (marks_at marks) got.x (drop (suc k) d.world.sent)
            (new-at old d events marks k got.x true shows stands got.got (not-is _ false is))
            ∙ ap (λ (j : ℕ). record { place = k; sent = got.x }
            ∷ new_from (k + 1) (marks_at marks) (drop j d.world.sent)) (one-more k)

-- ---- where it begins, and where it goes on

pub marks-left : (marks : Marks) (d : Crossing) → AreMarks marks d
    → AreLeft (least_mark marks) marks d
marks-left marks d are =
    are.new ∙ new-drop 0 (least_mark marks) (marks_at marks) d.world.sent high
    (omega (arith, are.first))
    ∙ ap (λ (j : ℕ). new_from j (marks_at marks) (drop (least_mark marks) d.world.sent))
    (zero-plus (least_mark marks))
  where
    zero-plus : (n : ℕ) → 0 + n ≡ n
    zero-plus n = omega arith

    high : (o : End) → 0 + least_mark marks ≤ at_end (marks_at marks) o
    high first_end = omega arith
    high second_end = omega arith

pub nothing-left : (marks : Marks) (d : Crossing) (k : ℕ) → AreLeft k marks d
    → length d.world.sent ≤ k → d.new ≡ []
unfolding new_from
nothing-left marks d k left high =
    left ∙ ap (new_from k (marks_at marks)) (drop-end d.world.sent k high)
