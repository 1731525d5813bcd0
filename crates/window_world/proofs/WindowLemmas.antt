-- A link world's calls at contact time, and clean events one after the other, each at its moment.

use Rattle.std.proofs.Common.{◌≡◌, ℕ, suc, ◌+◌, ◌<◌, ◌≤◌, ◌^◌, Bool, true, false, ◌||◌, List, [], ◌∷◌, ◌++◌, length, map, Option, None, Some, Result, Ok, Err, refl, sym, ◌∙◌, ap, arith, subst, nat_lt, nat_le}
use Rattle.std.specs.List.{AllByRecursion, slice_get}
use Rattle.std.specs.Option.{option_map}
use Rattle.std.proofs.lemmas.Bool.{ltb-true, ltb-false}
use Rattle.std.proofs.lemmas.List.{append-nil, append_assoc}
use Rattle.ltp_session.specs.declared.name.SessionName.{SessionName}
use Rattle.ltp_session.specs.Engine.{Party, Reply, arrives}
use Rattle.ltp_session.specs.World.{Sent as LinkSent}
use Rattle.ltp_session.specs.World.{End, Event, World, at_end, clock, deliver, delivered, happens, other, replies, run, starts_world, submit, submit_reply, submitted, ticks}
use Rattle.ltp_drain.specs.Clean.{AreClean, link_deadline, passed}
use Rattle.ltp_drain.specs.Completion.{IsReady}
use Rattle.ltp_drain.specs.Effects.{effects_at}
use Rattle.ltp_drain.proofs.CompletionLemmas.{clean-few}
use Rattle.ltp_engine.specs.declared.effects.Effects.{Effects}
use Rattle.ltp_engine.specs.declared.refused.SubmitRefused.{SubmitRefused}
use Rattle.ltp_engine.specs.declared.refused.SubmitRefused.TheVariants as causes
use Rattle.ltp_world.specs.declared.effects.EndEffects.{EndEffects}
use Rattle.ltp_world.specs.declared.refused.DeliverRefused.{DeliverRefused}
use Rattle.ltp_world.specs.declared.refused.DeliverRefused.TheVariants as refused
use Rattle.ltp_world.specs.Clean.{deadline_in}
use Rattle.ltp_world.specs.Drain.{DrainsAll, IsEarly, done_in, told_of}
use Rattle.ltp_world.specs.Drain.{Drains as LinkDrains}
use Rattle.ltp_world.specs.Ends.{link_end}
use Rattle.ltp_world.specs.RedParts.{DrainHandsUpFronts, HandsUpFrontsIn}
use Rattle.ltp_world.specs.Shows.{ShowsRun, Stands, link_after}
use Rattle.ltp_world.specs.Steps.{Delivers as LinkDelivers}
use Rattle.ltp_world.specs.Steps.{Submits as LinkSubmits}
use Rattle.ltp_world.specs.Steps.{Ticks as LinkTicks}
use Rattle.ltp_world.specs.Steps.{Happens}
use Rattle.ltp_world.specs.Values.{WorldValue, parties_of}
use Rattle.ltp_world.proofs.DrainFrontLemmas.{clean-fronts}
use Rattle.ltp_world.proofs.DrainLemmas.{clean-append, deliver-clock, drain-completes, hears-told, length-sent, less, link-deadline, link-on, not-less, passed-append, tick-clock, ticks-told}
use Rattle.contact_plan.specs.declared.window.Window.{Window}
use Rattle.contact_plan.specs.Windows.{IsMoment, IsPlan, elapsed, is_open, total}
use Rattle.contact_plan.proofs.ContactLemmas.{elapsed-le, elapsed-up, moment-after, moments-are-apart, open-early}
use Rattle.window_world.specs.declared.effects.At.{At}
use Rattle.window_world.specs.declared.effects.WindowDrained.{WindowDrained}
use Rattle.window_world.specs.Drain.{Completes, CostsAtMost, Drains, DrainsAt, EndsAt, GoOn, HappenAt, HasNoMoment, untimed, without_moments}
use Rattle.window_world.specs.Leads.{LeadsAt, LeadsOn}
use Rattle.window_world.specs.Ties.{IsSound, made_world}
use Rattle.window_world.specs.Values.{WindowValue, later_of}

-- ---- memory

pub whole-link : (broken : Bool) (link : WorldValue) → (broken || link.spent) ≡ false → link.spent ≡ false
whole-link true link whole = absurd (cc)
whole-link false link whole = whole

spent-still : (broken : Bool) (link : WorldValue) → link.spent ≡ true → (broken || link.spent) ≡ false → ⊥
spent-still true link spent whole = absurd (cc)
spent-still false link spent whole = absurd (cc)

-- ---- the clock of a link after an event

now-of-replies : (w : World) (end : End) (name : SessionName) (reply : Option Reply) → (replies w end name reply).now ≡ w.now
now-of-replies w end name None = refl
now-of-replies w end name (Some reply) = refl

now-of-submitted : (parties : Party × Party) (w : World) (end : End) (block : List ℕ) (red : ℕ) → (submitted parties w end block red).now ≡ w.now
unfolding submitted
now-of-submitted parties w end block red = by (nat_le red (length block)) refl where
  by : (b : Bool) → nat_le red (length block) ≡ b → (submitted parties w end block red).now ≡ w.now
  by true is = rw is (now-of-replies w end _ (submit_reply parties w end block red))
  by false is = rw is refl

pub now-of-delivered : (parties : Party × Party) (w : World) (got : Option LinkSent) → (delivered parties w got).now ≡ w.now
now-of-delivered parties w None = refl
now-of-delivered parties w (Some d) = now-of-replies w (other d.from) _ (arrives (at_end parties (other d.from)) (at_end w.engines (other d.from)) d.segment w.now)

-- the clock where a world stands after one more event
now-after : (old new : WorldValue) (event : Event) (stands : Stands old) → Happens old new event
    → new.moment ≡ (happens (parties_of old) (link_after old stands.events) event).now
now-after old new event stands does =
    let shows = does.run stands.events stands.shows in
    let at = link-on old new stands.events (event ∷ []) does.parties in
    sym shows.link.now ∙ ap (λ (l : World). l.now) at

stands-on : (old new : WorldValue) (event : Event) → Stands old → Happens old new event → Stands new
stands-on old new event stands does = record { events = stands.events ++ event ∷ []; shows = does.run stands.events stands.shows }

now-of-submit : (old new : WorldValue) (end : End) (block : List ℕ) (red : ℕ) → Stands old → Happens old new (submit end block red) → new.moment ≡ old.moment
now-of-submit old new end block red stands does =
    now-after old new (submit end block red) stands does
    ∙ (now-of-submitted (parties_of old) (link_after old stands.events) end block red ∙ stands.shows.link.now)

-- ---- what each call keeps

-- a sound world at the same moment, whose link stands on
kept-sound : (broken : Bool) (link link' : WorldValue) (plan : List Window) (moment : ℕ) → IsSound (made_world broken link plan moment) → (broken || link.spent) ≡ false
    → Stands link' → link'.moment ≡ link.moment → IsSound (made_world broken link' plan moment)
kept-sound broken link link' plan moment sound whole stands same = record {
  moment = sound.moment;
  plan = sound.plan;
  stands = λ _. stands;
  contact = λ now_whole. (whole-link broken link' now_whole, same ∙ (sound.contact whole).1);
}

-- memory ran out in the link
pub spent-sound : (broken : Bool) (link link' : WorldValue) (plan : List Window) (moment : ℕ) → IsSound (made_world broken link plan moment) → link'.spent ≡ true
    → IsSound (made_world broken link' plan moment)
spent-sound broken link link' plan moment sound spent = record {
  moment = sound.moment;
  plan = sound.plan;
  stands = λ whole. absurd (cc);
  contact = λ whole. absurd (spent-still broken link' spent whole);
}

pub submits-sound : (broken : Bool) (link link' : WorldValue) (plan : List Window) (moment : ℕ) (end : _) (block : List ℕ) (red : ℕ) (result : Result Effects SubmitRefused)
    → IsSound (made_world broken link plan moment) → (broken || link.spent) ≡ false → LinkSubmits link link' end block red result → IsSound (made_world broken link' plan moment)
submits-sound broken link link' plan moment end block red (Ok effects) sound whole does =
    let stands = sound.stands (whole-link broken link whole) in
    kept-sound broken link link' plan moment sound whole (stands-on link link' (submit (link_end end) block red) stands does.0)
    (now-of-submit link link' (link_end end) block red stands does.0)
submits-sound broken link link' plan moment end block red (Err causes.Empty) sound whole does = subst (λ l. IsSound (made_world broken l plan moment)) (sym does.0) sound
submits-sound broken link link' plan moment end block red (Err causes.TooLarge) sound whole does = subst (λ l. IsSound (made_world broken l plan moment)) (sym does.0) sound
submits-sound broken link link' plan moment end block red (Err causes.NumbersSpent) sound whole does = subst (λ l. IsSound (made_world broken l plan moment)) (sym does.0) sound
submits-sound broken link link' plan moment end block red (Err causes.Busy) sound whole does = subst (λ l. IsSound (made_world broken l plan moment)) (sym does.0) sound
submits-sound broken link link' plan moment end block red (Err causes.Memory) sound whole does = spent-sound broken link link' plan moment sound does.0

pub delivers-sound : (broken : Bool) (link link' : WorldValue) (plan : List Window) (moment : ℕ) (k : ℕ) (result : Result EndEffects DeliverRefused)
    → IsSound (made_world broken link plan moment) → (broken || link.spent) ≡ false → LinkDelivers link link' k result → IsSound (made_world broken link' plan moment)
delivers-sound broken link link' plan moment k (Ok told) sound whole does =
    let stands = sound.stands (whole-link broken link whole) in
    kept-sound broken link link' plan moment sound whole (stands-on link link' (deliver k) stands does.1) (deliver-clock link link' k told stands does).0
delivers-sound broken link link' plan moment k (Err refused.NoSuchDatagram) sound whole does = subst (λ l. IsSound (made_world broken l plan moment)) (sym does.1) sound
delivers-sound broken link link' plan moment k (Err refused.Memory) sound whole does = spent-sound broken link link' plan moment sound does.1

-- a clock that is set to a contact time
pub now-of-tick : (parties : Party × Party) (w : World) (contact : ℕ) → (happens parties w (clock contact)).now ≡ later_of w.now contact
unfolding ticks
now-of-tick parties w contact = by (nat_lt contact w.now) refl where
  by : (b : Bool) → nat_lt contact w.now ≡ b → (happens parties w (clock contact)).now ≡ later_of w.now contact
  by true is = rw is refl
  by false is = rw is refl

later-elapsed : (plan : List Window) (moment now : ℕ) → later_of (elapsed plan moment) (elapsed plan now) ≡ elapsed plan (later_of moment now)
later-elapsed plan moment now = by (nat_lt now moment) refl (nat_lt (elapsed plan now) (elapsed plan moment)) refl where
  by : (b : Bool) → nat_lt now moment ≡ b → (d : Bool) → nat_lt (elapsed plan now) (elapsed plan moment) ≡ d
      → later_of (elapsed plan moment) (elapsed plan now) ≡ elapsed plan (later_of moment now)
  by true is true goes = rw (is, goes) refl
  by true is false goes = rw (is, goes)
      (let low = ltb-true now moment is in let up = elapsed-up plan now moment (omega (arith, low)) in let high = ltb-false (elapsed plan now) (elapsed plan moment) goes in omega (arith, up, high))
  by false is true goes = absurd
      (let high = ltb-false now moment is in let up = elapsed-up plan moment now high in let low = ltb-true (elapsed plan now) (elapsed plan moment) goes in omega (arith, up, low))
  by false is false goes = rw (is, goes) refl

later-below : (moment now bound : ℕ) → moment < bound → now < bound → later_of moment now < bound
later-below moment now bound one other = by (nat_lt now moment) refl where
  by : (b : Bool) → nat_lt now moment ≡ b → later_of moment now < bound
  by true is = rw is one
  by false is = rw is other

pub ticks-sound : (broken : Bool) (link link' : WorldValue) (plan : List Window) (moment now : ℕ) (told : List EndEffects) → IsSound (made_world broken link plan moment)
    → (broken || link.spent) ≡ false → now < 2 ^ 62 → LinkTicks link link' (elapsed plan now) told → IsSound (made_world broken link' plan (later_of moment now))
ticks-sound broken link link' plan moment now told sound whole early does = record {
  moment = later-below moment now (2 ^ 62) sound.moment early;
  plan = sound.plan;
  stands = λ _. stands-on link link' (clock (elapsed plan now)) (sound.stands (whole-link broken link whole)) does.0;
  contact = λ now_whole. (whole-link broken link' now_whole, at);
} where
  stands : Stands link
  stands = sound.stands (whole-link broken link whole)

  at : link'.moment ≡ elapsed plan (later_of moment now)
  at = now-after link link' (clock (elapsed plan now)) stands does.0
      ∙ (now-of-tick (parties_of link) (link_after link stands.events) (elapsed plan now)
      ∙ (ap (λ (n : ℕ). later_of n (elapsed plan now)) (stands.shows.link.now ∙ (sound.contact whole).1) ∙ later-elapsed plan moment now))

-- a clock that is set to the contact time of a moment to come
pub moves-sound : (broken : Bool) (link link' : WorldValue) (plan : List Window) (moment contact now : ℕ) (told : List EndEffects) → IsSound (made_world broken link plan moment)
    → link.spent ≡ false → link.moment < contact → IsMoment plan contact now → LinkTicks link link' contact told → IsSound (made_world false link' plan now)
moves-sound broken link link' plan moment contact now told sound whole later is does = record {
  moment = open-early 0 plan now sound.plan.order is.is_in;
  plan = sound.plan;
  stands = λ _. stands-on link link' (clock contact) (sound.stands whole) does.0;
  contact = λ now_whole. (now_whole, (tick-clock link link' contact told (sound.stands whole) does later).0 ∙ sym is.below);
}

-- a link at its beginning, once its clock is set
new-moment : (v : WorldValue) (n : ℕ) → ShowsRun v (clock n ∷ []) → v.moment ≡ n
new-moment v n shows = sym shows.link.now ∙ (now-of-tick (parties_of v) (starts_world (parties_of v)) n ∙ later-zero n) where
  later-zero : (n : ℕ) → later_of 0 n ≡ n
  later-zero n = rw (not-less n 0 (omega arith)) refl

pub new-sound : (link : WorldValue) (plan : List Window) (now contact : ℕ) → now < 2 ^ 62 → IsPlan plan → contact ≡ elapsed plan now → ShowsRun link (clock contact ∷ [])
    → IsSound (made_world false link plan now)
new-sound link plan now contact early is_plan is shows = record {
  moment = early;
  plan = is_plan;
  stands = λ _. record { events = clock contact ∷ []; shows = shows };
  contact = λ now_whole. (now_whole, new-moment link contact shows ∙ is);
}

-- a contact time comes before 2^62
pub contact-early : (plan : List Window) (now contact : ℕ) → now < 2 ^ 62 → contact ≡ elapsed plan now → contact < 2 ^ 62
contact-early plan now contact early is = let le = elapsed-le plan now in omega (arith, le, early, is)

-- ---- moments

go-append : (plan : List Window) (a b c : ℕ) (xs ys : List At) → GoOn plan a b xs → GoOn plan b c ys → GoOn plan a c (xs ++ ys)
go-append plan a b c [] ys first second = subst (λ m. GoOn plan m c ys) first second
go-append plan a b c (x ∷ xs) ys first second = (first.0, first.1, go-append plan x.now b c xs ys first.2 second)

happen-append : (plan : List Window) (parties : Party × Party) (w : World) (xs ys : List Event) (us bs : List At) → HappenAt plan parties w xs us
    → HappenAt plan parties (run parties w xs) ys bs → HappenAt plan parties w (xs ++ ys) (us ++ bs)
happen-append plan parties w [] ys [] bs first second = second
happen-append plan parties w [] ys (u ∷ us) bs first second = absurd first
happen-append plan parties w (x ∷ xs) ys [] bs first second = absurd first
happen-append plan parties w (x ∷ xs) ys (u ∷ us) bs first second = (first.0, first.1, happen-append plan parties (happens parties w x) xs ys us bs first.2 second)

-- ---- going on

pub leads-none : (v : WindowValue) (c : ℕ) (told : List At) → v.spent ≡ false → v.link.spent ≡ false → LeadsOn v v c c told told
leads-none v c told whole link_whole = record {
  whole = whole;
  plan = refl;
  ats = [];
  told = sym (append-nil told);
  moments = refl;
  run = record {
    whole = link_whole;
    parties = refl;
    run = λ events shows. record {
      made = [];
      clean = tt;
      reaches = refl;
      moments = tt;
      shows = subst (ShowsRun v.link) (sym (append-nil events)) shows;
    };
  };
}

-- clean events after clean events, of one plan and one pair of parties
leads-join : (plan : List Window) (parties : Party × Party) (u v : WorldValue) (new : WorldValue) (c d e : ℕ) (xs ys : List At) (events : List Event)
    → parties_of u ≡ parties → parties_of v ≡ parties_of u
    → (one : LeadsAt plan parties (link_after u events) v c d xs events)
    → LeadsAt plan parties (link_after v (events ++ one.made)) new d e ys (events ++ one.made)
    → LeadsAt plan parties (link_after u events) new c e (xs ++ ys) events
leads-join plan parties u v new c d e xs ys events of_u same one two =
    let at : link_after v (events ++ one.made) ≡ run parties (link_after u events) one.made =
    link-on u v events one.made same ∙ ap (λ (ps : Party × Party). run ps (link_after u events) one.made) of_u in
    record {
      made = one.made ++ two.made;
      clean = clean-append parties (link_after u events) c one.made two.made one.clean
          (subst (λ n. AreClean parties (run parties (link_after u events) one.made) n two.made) (sym one.reaches)
          (subst (λ l. AreClean parties l d two.made) at two.clean));
      reaches = passed-append c one.made two.made ∙ (ap (λ n. passed n two.made) one.reaches ∙ two.reaches);
      moments = happen-append plan parties (link_after u events) one.made two.made xs ys one.moments
          (subst (λ l. HappenAt plan parties l two.made ys) at two.moments);
      shows = subst (ShowsRun new) (append_assoc events one.made two.made) two.shows;
    }

pub leads-more : (u v w : WindowValue) (c d e : ℕ) (xs ys zs : List At) → LeadsOn u v c d xs ys → LeadsOn v w d e ys zs → LeadsOn u w c e xs zs
leads-more u v w c d e xs ys zs first second = record {
  whole = second.whole;
  plan = second.plan ∙ first.plan;
  ats = first.ats ++ second.ats;
  told = second.told ∙ (ap (λ b. b ++ second.ats) first.told ∙ append_assoc xs first.ats second.ats);
  moments = go-append u.plan u.moment v.moment w.moment first.ats second.ats first.moments
      (subst (λ (p : List Window). GoOn p v.moment w.moment second.ats) first.plan second.moments);
  run = record {
    whole = second.run.whole;
    parties = second.run.parties ∙ first.run.parties;
    run = λ events shows. joined events (first.run.run events shows);
  };
} where
  joined : (events : List Event) → LeadsAt u.plan (parties_of u.link) (link_after u.link events) v.link c d first.ats events
      → LeadsAt u.plan (parties_of u.link) (link_after u.link events) w.link c e (first.ats ++ second.ats) events
  joined events one =
      leads-join u.plan (parties_of u.link) u.link v.link w.link c d e first.ats second.ats events refl first.run.parties one
      (subst (λ (ps : Party × Party). LeadsAt u.plan ps (link_after v.link (events ++ one.made)) w.link d e second.ats (events ++ one.made)) first.run.parties
      (subst (λ (p : List Window). LeadsAt p (parties_of v.link) (link_after v.link (events ++ one.made)) w.link d e second.ats (events ++ one.made)) first.plan
      (second.run.run (events ++ one.made) one.shows)))

-- a datagram is delivered where the link is open
pub leads-deliver : (old new : WindowValue) (k : ℕ) (told : EndEffects) (steps : List At) → new.spent ≡ false → new.plan ≡ old.plan → new.moment ≡ old.moment
    → LinkDelivers old.link new.link k (Ok told) → is_open old.plan old.moment ≡ true → old.link.moment ≡ elapsed old.plan old.moment
    → LeadsOn old new k (k + 1) steps (steps ++ record { now = old.moment; effects = told ∷ [] } ∷ [])
leads-deliver old new k told steps whole plan moment does opens contact = record {
  whole = whole;
  plan = plan;
  ats = record { now = old.moment; effects = told ∷ [] } ∷ [];
  told = refl;
  moments = (omega arith, opens, moment);
  run = record {
    whole = does.1.whole;
    parties = does.1.parties;
    run = λ events shows. record {
      made = deliver k ∷ [];
      clean = (rw (less k (length (link_after old.link events).sent) (let same = length-sent old.link (link_after old.link events) shows.link in let low = does.0 in omega (arith, low, same))) refl, tt);
      reaches = refl;
      moments = (
        record { is_in = opens; below = sym contact ∙ sym shows.link.now },
        hears-told (parties_of old.link) (link_after old.link events) told (slice_get (link_after old.link events).sent k) (does.2 events shows),
        tt,
      );
      shows = does.1.run events shows;
    };
  };
}

-- the clock is set to the moment of the least deadline
pub leads-tick : (old new : WindowValue) (deadline moment : ℕ) (told : List EndEffects) (steps : List At) → new.spent ≡ false → new.plan ≡ old.plan → new.moment ≡ moment
    → LinkTicks old.link new.link deadline told → deadline_in old.link ≡ Some deadline → old.link.moment < deadline → IsMoment old.plan deadline moment
    → old.link.moment ≡ elapsed old.plan old.moment
    → LeadsOn old new (length old.link.sent) (length old.link.sent) steps (steps ++ record { now = moment; effects = told } ∷ [])
leads-tick old new deadline moment told steps whole plan moved does due later is contact = record {
  whole = whole;
  plan = plan;
  ats = record { now = moment; effects = told } ∷ [];
  told = refl;
  moments = (moment-after old.plan deadline old.moment moment is (omega (arith, later, contact)), is.is_in, moved);
  run = record {
    whole = does.0.whole;
    parties = does.0.parties;
    run = λ events shows. record {
      made = clock deadline ∷ [];
      clean = (
        rw (not-less (length old.link.sent) (length (link_after old.link events).sent) (let same = length-sent old.link (link_after old.link events) shows.link in omega (arith, same)))
            (ap (option_map clock) (link-deadline old.link (link_after old.link events) shows.link ∙ due)),
        tt,
      );
      reaches = refl;
      moments = (
        is,
        does.1 events shows
            ∙ ticks-told (parties_of old.link) (link_after old.link events) deadline
            (not-less deadline (link_after old.link events).now (let now = shows.link.now in omega (arith, now, later))),
        tt,
      );
      shows = does.0.run events shows;
    };
  };
}

-- ---- the end of a drain

length-happen : (plan : List Window) (parties : Party × Party) (w : World) (events : List Event) (ats : List At) → HappenAt plan parties w events ats → length events ≡ length ats
length-happen plan parties w [] [] are = refl
length-happen plan parties w [] (u ∷ us) are = absurd are
length-happen plan parties w (x ∷ xs) [] are = absurd are
length-happen plan parties w (x ∷ xs) (u ∷ us) are = ap suc (length-happen plan parties (happens parties w x) xs us are.2)

no-moment : (plan : List Window) (deadline : ℕ) → IsPlan plan → total plan ≤ deadline → HasNoMoment plan deadline
no-moment plan deadline is_plan past moment is =
    let below = (moments-are-apart plan deadline moment moment is_plan is).0 in omega (arith, below, past)

drain-at : (old new : WindowValue) (drained : WindowDrained) → LeadsOn old new (length old.link.sent) (length new.link.sent) [] drained.effects
    → drained.events ≡ length drained.effects → EndsAt old.plan drained.plan_ends (deadline_in new.link) → Drains old new drained
drain-at old new drained leads count by = record {
  whole = leads.whole;
  plan = leads.plan;
  moments = subst (GoOn old.plan old.moment new.moment) (sym leads.told) leads.moments;
  run = record {
    whole = leads.run.whole;
    parties = leads.run.parties;
    run = λ events shows. by_run events shows (leads.run.run events shows);
  };
} where
  by_run : (events : List Event) → ShowsRun old.link events
      → LeadsAt old.plan (parties_of old.link) (link_after old.link events) new.link (length old.link.sent) (length new.link.sent) leads.ats events
      → DrainsAt old new drained events
  by_run events shows on =
      let same = length-sent old.link (link_after old.link events) shows.link in
      let at = link-on old.link new.link events on.made leads.run.parties in
      let all : passed (length (link_after old.link events).sent) on.made ≡ length (run (parties_of old.link) (link_after old.link events) on.made).sent =
      ap (λ n. passed n on.made) (sym same) ∙ (on.reaches
      ∙ (length-sent new.link (link_after new.link (events ++ on.made)) on.shows.link ∙ ap (λ (l : World). length l.sent) at)) in
      record {
        made = on.made;
        count = length-happen old.plan (parties_of old.link) (link_after old.link events) on.made leads.ats on.moments ∙ (ap length (sym leads.told) ∙ sym count);
        clean = subst (λ n. AreClean (parties_of old.link) (link_after old.link events) n on.made) same on.clean;
        moments = subst (HappenAt old.plan (parties_of old.link) (link_after old.link events) on.made) (sym leads.told) on.moments;
        delivered = all;
        ends = subst (EndsAt old.plan drained.plan_ends)
            (sym (ap link_deadline (sym at) ∙ link-deadline new.link (link_after new.link (events ++ on.made)) on.shows.link)) by;
        shows = on.shows;
      }

pub drain-done : (old new : WindowValue) (drained : WindowDrained) → LeadsOn old new (length old.link.sent) (length new.link.sent) [] drained.effects
    → drained.events ≡ length drained.effects → drained.plan_ends ≡ false → deadline_in new.link ≡ None → Drains old new drained
drain-done old new drained leads count over none =
    drain-at old new drained leads count (subst (λ b. EndsAt old.plan b (deadline_in new.link)) (sym over) none)

pub drain-stops : (old new : WindowValue) (drained : WindowDrained) (deadline : ℕ) → LeadsOn old new (length old.link.sent) (length new.link.sent) [] drained.effects
    → drained.events ≡ length drained.effects → drained.plan_ends ≡ true → deadline_in new.link ≡ Some deadline → IsPlan old.plan → total old.plan ≤ deadline
    → Drains old new drained
drain-stops old new drained deadline leads count over due plan past =
    drain-at old new drained leads count
    (subst (λ b. EndsAt old.plan b (deadline_in new.link)) (sym over)
    (subst (EndsAt old.plan true) (sym due) (no-moment old.plan deadline plan past)))

-- ---- as a drain of a link that is always open

untimed-done : (plan : List Window) (parties : Party × Party) (w : World) (events : List Event) (ats : List At) → HappenAt plan parties w events ats → untimed ats ≡ done_in parties w events
unfolding done_in
untimed-done plan parties w [] [] are = refl
untimed-done plan parties w [] (u ∷ us) are = absurd are
untimed-done plan parties w (x ∷ xs) [] are = absurd are
untimed-done plan parties w (x ∷ xs) (u ∷ us) are =
    ap (λ e. e ∷ untimed us) are.1 ∙ ap (λ es. map told_of (effects_at parties w x) ∷ es) (untimed-done plan parties (happens parties w x) xs us are.2)

all-early : (plan : List Window) (parties : Party × Party) (w : World) (events : List Event) (ats : List At) → IsPlan plan → HappenAt plan parties w events ats → AllByRecursion IsEarly events
all-early plan parties w [] [] is are = tt
all-early plan parties w [] (u ∷ us) is are = absurd are
all-early plan parties w (x ∷ xs) [] is are = absurd are
all-early plan parties w (submit end block red ∷ xs) (u ∷ us) is are = (tt, all-early plan parties (happens parties w (submit end block red)) xs us is are.2)
all-early plan parties w (deliver k ∷ xs) (u ∷ us) is are = (tt, all-early plan parties (happens parties w (deliver k)) xs us is are.2)
all-early plan parties w (clock contact ∷ xs) (u ∷ us) is are = (
  let low = elapsed-le plan u.now in let same = are.0.below in let early = open-early 0 plan u.now is.order are.0.is_in in omega (arith, low, same, early),
  all-early plan parties (happens parties w (clock contact)) xs us is are.2,
)

pub drain-fronts-at : (old new : WindowValue) (drained : WindowDrained) → Drains old new drained → DrainHandsUpFronts old.link (untimed drained.effects)
drain-fronts-at old new drained drains events shows = by_run (drains.run.run events shows) where
  by_run : DrainsAt old new drained events → HandsUpFrontsIn old.link events (untimed drained.effects)
  by_run at = subst (HandsUpFrontsIn old.link events)
      (sym (untimed-done old.plan (parties_of old.link) (link_after old.link events) at.made drained.effects at.moments))
      (clean-fronts old.link events at.made (length (link_after old.link events).sent) shows at.clean)

as-link : (old new : WindowValue) (drained : WindowDrained) → IsPlan old.plan → Drains old new drained → drained.plan_ends ≡ false → LinkDrains old.link new.link (Ok (without_moments drained))
as-link old new drained plan drains over = record {
  whole = drains.run.whole;
  parties = drains.run.parties;
  run = λ events shows. by_run events (drains.run.run events shows);
} where
  by_run : (events : List Event) → DrainsAt old new drained events → DrainsAll old.link new.link (without_moments drained) events
  by_run events at =
      record {
        end = run (parties_of old.link) (link_after old.link events) at.made;
        clean = record {
          events = at.made;
          count = at.count;
          clean = at.clean;
          leads = refl;
          drained = record {
            delivered = at.delivered;
            no_timer = subst (λ b. EndsAt old.plan b (link_deadline (run (parties_of old.link) (link_after old.link events) at.made))) over at.ends;
          };
        };
        early = all-early old.plan (parties_of old.link) (link_after old.link events) at.made drained.effects plan at.moments;
        told = untimed-done old.plan (parties_of old.link) (link_after old.link events) at.made drained.effects at.moments;
        shows = at.shows;
      }

pub drain-completes-at : (old new : WindowValue) (drained : WindowDrained) → IsPlan old.plan → Drains old new drained → Completes old drained
drain-completes-at old new drained plan drains events shows hopeful room = (
  costs (drains.run.run events shows),
  λ over. drain-completes old.link new.link (without_moments drained) (as-link old new drained plan drains over) events shows hopeful room,
) where
  ready : IsReady (parties_of old.link) (link_after old.link events)
  ready = record { peers = shows.peers; alike = shows.alike; reached = record { events = events; leads = refl }; hopeful = hopeful; room = room }

  costs : DrainsAt old new drained events → CostsAtMost (parties_of old.link) (link_after old.link events) drained.events
  costs at =
      let few = clean-few (parties_of old.link) (link_after old.link events) at.made ready at.clean in
      let count = at.count in record {
        made = at.made;
        count = at.count;
        clean = at.clean;
        bound = omega (arith, few, count);
      }

-- ---- as the code has it

-- a delivery inside a drain
pub step-sound : (broken : Bool) (link link' : WorldValue) (plan : List Window) (moment k : ℕ) (told : EndEffects) → IsSound (made_world broken link plan moment)
    → (broken || link.spent) ≡ false → LinkDelivers link link' k (Ok told) → IsSound (made_world false link' plan moment)
step-sound broken link link' plan moment k told sound whole does = record {
  moment = sound.moment;
  plan = sound.plan;
  stands = λ _. stands-on link link' (deliver k) stands does.1;
  contact = λ now_whole. (now_whole, (deliver-clock link link' k told stands does).0 ∙ (sound.contact whole).1);
} where
  stands : Stands link
  stands = sound.stands (whole-link broken link whole)

pub deliver-told : (broken : Bool) (link link' : WorldValue) (plan : List Window) (moment k : ℕ) (told : EndEffects) (one : List EndEffects) (before now : List At)
    → IsSound (made_world broken link plan moment) → (broken || link.spent) ≡ false → LinkDelivers link link' k (Ok told) → is_open plan moment ≡ true
    → one ≡ told ∷ [] → now ≡ before ++ record { now = moment; effects = one } ∷ []
    → LeadsOn (made_world broken link plan moment) (made_world false link' plan moment) k (k + 1) before now
deliver-told broken link link' plan moment k told one before now sound whole does opens one_is now_is =
    subst (λ steps. LeadsOn (made_world broken link plan moment) (made_world false link' plan moment) k (k + 1) before steps)
    (sym (now_is ∙ ap (λ (es : List EndEffects). before ++ record { now = moment; effects = es } ∷ []) one_is))
    (leads-deliver (made_world broken link plan moment) (made_world false link' plan moment) k told before does.1.whole refl refl does opens (sound.contact whole).1)

pub tick-told : (broken : Bool) (link link' : WorldValue) (plan : List Window) (moment deadline next : ℕ) (told : List EndEffects) (before now : List At)
    → IsSound (made_world broken link plan moment) → (broken || link.spent) ≡ false → LinkTicks link link' deadline told → deadline_in link ≡ Some deadline
    → link.moment < deadline → IsMoment plan deadline next → now ≡ before ++ record { now = next; effects = told } ∷ []
    → LeadsOn (made_world broken link plan moment) (made_world false link' plan next) (length link.sent) (length link.sent) before now
tick-told broken link link' plan moment deadline next told before now sound whole does due later is now_is =
    subst (λ steps. LeadsOn (made_world broken link plan moment) (made_world false link' plan next) (length link.sent) (length link.sent) before steps) (sym now_is)
    (leads-tick (made_world broken link plan moment) (made_world false link' plan next) deadline next told before does.0.whole refl refl does due later is (sound.contact whole).1)

-- a contact time that has a moment comes before 2^62
pub moment-early : (plan : List Window) (contact moment : ℕ) → IsPlan plan → IsMoment plan contact moment → contact < 2 ^ 62
moment-early plan contact moment is_plan is =
    let low = elapsed-le plan moment in let same = is.below in let early = open-early 0 plan moment is_plan.order is.is_in in omega (arith, low, same, early)
