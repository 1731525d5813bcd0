-- Acts, one after the other, and code that does them.
use Rattle.std.proofs.Common.{◌≡◌, ℕ, zero, suc, ◌+◌, ◌-◌, ◌≤◌, Bool, List, [], ◌∷◌, ◌++◌, map, drop, take, length, get_or, false, ◌<◌, Option, None, Some, Result, Ok, Err, IsErrAnd, subst, true, refl, sym, ◌∙◌, ap, append_assoc, arith}
use Rattle.std.proofs.lemmas.List.{append-nil, at_drop_more}
use Rattle.std.proofs.lemmas.Grind.{flat_map-append}
use Rattle.edge_traits.specs.Content.{Gains, GainsFront}
use Rattle.edge_traits.specs.Datagrams.{PollsAtMost}
use Rattle.edge_traits.specs.Faults.{one_more, NoneFailed}
use Rattle.edge_traits.specs.Outcome.{SinkTells}
use Rattle.edge_traits.proofs.ContentLemmas.{Gains-none, Gains-more}
use Rattle.edge_traits.proofs.FaultsLemmas.{NoneFailed-same, NoneFailed-more, LastFailed-after}
use Rattle.gate_cases.specs.declared.face.Face.{Face}
use Rattle.gate_cases.specs.declared.face.Face.TheVariants.{Old, New}
use Rattle.serve_run.specs.declared.stop.Stop.{Stop}
use Rattle.serve_run.specs.declared.stop.Stop.TheVariants.{Fault, NoMemory}
use Rattle.edge_traits.specs.declared.status.Status.TheVariants.{Done}
use Rattle.serve_run.specs.Outside.{LinkAhead, ClockAhead, Outside, Polled, failed, empty, gave}
use Rattle.gateway_core.specs.declared.effects.Routed.{Routed}
use Rattle.serve_run.specs.Turns.{Call, clock_read, link_polled, datagram_sent, datagram_lost, lines_written, Made, datagram_on, IsNoSend, IsWhole, MayWrite, EndsWriting, says, does, StepEffects, polls, answers, TurnRules, half, turn, turns, reads_clock, sends, sends_all, Acted, Act, give, put_before, ◌>>=◌}
use Rattle.serve_run.specs.Deeds.{polled_link, written, deeds_of, call_text, text_of, link_line}
use Rattle.serve_run.specs.Edges.{ClockRead, LinkPolled, DatagramSent, TextWritten}
use Rattle.serve_run.proofs.DeedLemmas.{sends-more, deeds-sends, deeds-step, deeds-more, breaks-after, did-until}
use Rattle.serve_run.proofs.LinkLemmas.{polls-told, sends-told, reads-told}
use Rattle.serve_run.specs.Tells.{LinkTells, OutsideTells, LinkAgrees, ClockAgrees, RanTurns, status_of, Agrees, noted, failed_on, counted, LinkWent, LinksWent, Explains, Leads, IsFrontOf, Breaks, Passed, Stopped, StopsAfter, StopsWithin, StopsWriting, Goes, PolledAs, StepsTo, polled_in, Sent, made_by_send, AreSends}

-- ---- what was made

pub text-more : (a b : Made) → text_of (a ++ b) ≡ text_of a ++ text_of b
text-more a b = flat_map-append call_text a b

noted-append : (face : Face) (xs ys : Made) → noted face (xs ++ ys) ≡ noted face xs + noted face ys
noted-append face [] ys = omega arith
noted-append face (x ∷ xs) ys = ap (λ v. failed_on face x + v) (noted-append face xs ys) ∙ omega arith

-- ---- whole steps

whole-more : (a b : Made) → IsWhole a → IsWhole b → IsWhole (a ++ b)
whole-more [] b first second = second
whole-more (call ∷ []) [] first second = first
whole-more (call ∷ []) (next ∷ later) first second = second
whole-more (call ∷ next ∷ later) b first second = whole-more (next ∷ later) b first second

-- a last call more
whole-last : (a : Made) (call : Call) → IsNoSend call → IsWhole (a ++ call ∷ [])
whole-last [] call is = is
whole-last (first ∷ []) call is = is
whole-last (first ∷ next ∷ later) call is = whole-last (next ∷ later) call is

writing-more : (a b : Made) → EndsWriting b → EndsWriting (a ++ b)
writing-more [] b ends = ends
writing-more (call ∷ []) [] ends = absurd ends
writing-more (call ∷ []) (next ∷ later) ends = ends
writing-more (call ∷ next ∷ later) b ends = writing-more (next ∷ later) b ends

writing-last : (a : Made) (call : Call) → MayWrite call → EndsWriting (a ++ call ∷ [])
writing-last a call is = writing-more a (call ∷ []) is

after-more : (stop : Stop) (a b : Made) → IsWhole a → StopsAfter stop b → StopsAfter stop (a ++ b)
after-more Fault a b first second = writing-more a b second
after-more NoMemory a b first second = whole-more a b first second

counted-more : (n m f : ℕ) → counted (counted f n) m ≡ counted f (n + m)
counted-more zero m f =
    let none : m ≡ 0 + m = omega arith in
    ap (counted f) none
counted-more (suc n) m f =
    let one : suc n + m ≡ suc (n + m) = omega arith in
    counted-more n m (one_more f) ∙ ap (counted f) (sym one)

put-twice : {X : Type 0} (a b : Made) (acted : Acted X) → put_before a (put_before b acted) ≡ put_before (a ++ b) acted
put-twice a b acted = rw (append_assoc a b acted.made) refl

-- ---- links

LinkWent-more : (s t : List (List ℕ)) (n m : ℕ) (a b c : LinkTells) → LinkWent s n a b → LinkWent t m b c → LinkWent (s ++ t) (n + m) a c
LinkWent-more s t n m a b c first second = record {
  gone = Gains-more a.gone b.gone c.gone s t first.gone second.gone;
  count = second.count ∙ ap (λ f. counted f m) first.count ∙ counted-more n m a.faults;
}

LinksWent-none : (t : OutsideTells) → LinksWent [] t t
LinksWent-none t = record {
  old = record { gone = Gains-none t.old.gone; count = refl };
  new = record { gone = Gains-none t.new.gone; count = refl };
}

LinksWent-more : (first second : Made) (a b c : OutsideTells) → LinksWent first a b → LinksWent second b c → LinksWent (first ++ second) a c
LinksWent-more first second a b c one two = record {
  old = rw (noted-append Old first second, flat_map-append (datagram_on Old) first second) (LinkWent-more _ _ _ _ _ b.old _ one.old two.old);
  new = rw (noted-append New first second, flat_map-append (datagram_on New) first second) (LinkWent-more _ _ _ _ _ b.new _ one.new two.new);
}

-- ---- acts

module _ {X : Type 0} where
  pub Leads-start : (act : Act X) (t : OutsideTells) → Leads act [] act t t
  Leads-start act t = record { back = λ later agrees. (later, agrees, refl); links = LinksWent-none t }

  pub Leads-more : {Y : Type 0} (act : Act X) (one : Act Y) (next : Y → Act X) (y : Y) (first second : Made) (a b c : OutsideTells)
      → Leads act first (one >>= next) a b → Explains one y second b c → Leads act (first ++ second) (next y) a c
  Leads-more act one next y first second a b c leads does = record {
    back = λ later agrees.
        let (middle, middle_is, done) = does.back later agrees in
        let (start, start_is, led) = leads.back middle middle_is in (
          start,
          start_is,
          led ∙ ap (λ acted. put_before first (put_before acted.made (next acted.value acted.outside))) done
              ∙ put-twice first second (next y later),
        );
    links = LinksWent-more first second a b c leads.links does.links;
  }

  pub Leads-end : (act : Act X) (x : X) (made : Made) (a b : OutsideTells) → Leads act made (give x) a b → Explains act x made a b
  Leads-end act x made a b leads = record {
    back = λ later agrees.
        let (start, start_is, led) = leads.back later agrees in
        (start, start_is, led ∙ ap (λ m. record { value = x; outside = later; made = m }) (append-nil made));
    links = leads.links;
  }

  pub Leads-break : (act rest : Act X) (made : Made) (a b : OutsideTells) → Leads act made rest a b → Breaks act made a b
  Leads-break act rest made a b leads = record {
    back = λ later agrees.
        let (start, start_is, led) = leads.back later agrees in
        (start, start_is, ((rest later).made, ap (λ acted. acted.made) led));
    links = leads.links;
  }

  pub Breaks-more : {Y : Type 0} (act : Act X) (one : Act Y) (next : Y → Act X) (first second : Made) (a b c : OutsideTells)
      → Leads act first (one >>= next) a b → Breaks one second b c → Breaks act (first ++ second) a c
  Breaks-more act one next first second a b c leads breaks = record {
    back = λ later agrees.
        let (middle, middle_is, (more, parts)) = breaks.back later agrees in
        let (start, start_is, led) = leads.back middle middle_is in
        let rest = (next (one middle).value (one middle).outside).made in
        let whole : (act start).made ≡ first ++ ((one middle).made ++ rest) = ap (λ acted. acted.made) led in (
          start,
          start_is,
          (
            more ++ rest,
            whole ∙ ap (λ m. first ++ (m ++ rest)) parts ∙ ap (λ m. first ++ m) (append_assoc second more rest)
                ∙ sym (append_assoc first second (more ++ rest)),
          ),
        );
    links = LinksWent-more first second a b c leads.links breaks.links;
  }

-- ---- what was written

front-all : (a b : Option (List ℕ)) (text : List ℕ) → Gains a b text → GainsFront a b text
front-all a None text gains = tt
front-all None (Some now) text gains = absurd gains
front-all (Some held) (Some now) text gains = (text, [], sym (append-nil text), gains)

front-more : (a b c : Option (List ℕ)) (text new : List ℕ) → Gains a b text → GainsFront b c new → GainsFront a c (text ++ new)
front-more a b None text new first second = tt
front-more a None (Some now) text new first second = absurd second
front-more None (Some mid) (Some now) text new first second = absurd first
front-more (Some held) (Some mid) (Some now) text new first (front, rest, parts, gains) = (
  text ++ front,
  rest,
  ap (λ v. text ++ v) parts ∙ sym (append_assoc text front rest),
  gains ∙ ap (λ v. v ++ front) first ∙ append_assoc held text front,
)

-- ---- code that does an act so far

-- it did a front of the act, and wrote all that this says; the rest is this act
pub record Going {X : Type 0} (act rest : Act X) (a b : OutsideTells) (sink sink_now : SinkTells) : Type 0 where
  pub made : Made
  pub leads : Leads act made rest a b
  pub whole : IsWhole made
  pub wrote : Gains sink.held sink_now.held (text_of made)
  pub writes : NoneFailed sink.calls sink_now.calls
  pub trace : Gains a.trace b.trace (deeds_of made)

wrote-until : (stop : Stop) (a b c : Option (List ℕ)) (text new : List ℕ) → Gains a b text → StopsWithin stop b c new → StopsWithin stop a c (text ++ new)
wrote-until Fault a b c text new first second = front-more a b c text new first second
wrote-until NoMemory a b c text new first second = Gains-more a b c text new first second

stopped-writing : (stop : Stop) (sink sink_mid sink_now : SinkTells) → NoneFailed sink.calls sink_mid.calls
    → StopsWriting stop sink_mid.calls sink_now.calls → StopsWriting stop sink.calls sink_now.calls
stopped-writing Fault sink sink_mid sink_now first second = LastFailed-after sink.calls sink_mid.calls sink_now.calls first second
stopped-writing NoMemory sink sink_mid sink_now first second = NoneFailed-more sink.calls sink_mid.calls sink_now.calls first second

module _ {X : Type 0} where
  pub Going-start : (act : Act X) (t : OutsideTells) (sink : SinkTells) → Going act act t t sink sink
  Going-start act t sink = record {
    made = [];
    leads = Leads-start act t;
    whole = tt;
    wrote = Gains-none sink.held;
    writes = NoneFailed-same sink.calls;
    trace = Gains-none t.trace;
  }

  -- a call with which nothing is written
  pub Going-silent : {Y : Type 0} (act : Act X) (one : Act Y) (next : Y → Act X) (y : Y) (call : Call) (a b c : OutsideTells) (sink sink_now : SinkTells)
      → IsNoSend call → call_text call ≡ []
      → Going act (one >>= next) a b sink sink_now → Explains one y (call ∷ []) b c → Gains b.trace c.trace (deeds_of (call ∷ []))
      → Going act (next y) a c sink sink_now
  Going-silent act one next y call a b c sink sink_now is silent going does traced = record {
    made = going.made ++ call ∷ [];
    leads = Leads-more act one next y going.made (call ∷ []) a b c going.leads does;
    whole = whole-last going.made call is;
    wrote = rw (text-more going.made (call ∷ []), silent, append-nil (text_of going.made)) going.wrote;
    writes = going.writes;
    trace = rw (deeds-more going.made (call ∷ []) going.whole)
        (Gains-more a.trace b.trace c.trace (deeds_of going.made) (deeds_of (call ∷ [])) going.trace traced);
  }

  pub Going-passed : {Y : Type 0} (Shows : Y → Type 0) (act : Act X) (one : Act Y) (next : Y → Act X) (a b c : OutsideTells) (sink sink_mid sink_now : SinkTells)
      → Going act (one >>= next) a b sink sink_mid → Passed Shows one b c sink_mid sink_now
      → (y : Y) × Shows y × Going act (next y) a c sink sink_now
  Going-passed Shows act one next a b c sink sink_mid sink_now going passed = (
    passed.value,
    passed.shows,
    record {
      made = going.made ++ passed.made;
      leads = Leads-more act one next passed.value going.made passed.made a b c going.leads passed.does;
      whole = whole-more going.made passed.made going.whole passed.whole;
      wrote = rw (text-more going.made passed.made)
          (Gains-more sink.held sink_mid.held sink_now.held (text_of going.made) (text_of passed.made) going.wrote passed.wrote);
      writes = NoneFailed-more sink.calls sink_mid.calls sink_now.calls going.writes passed.writes;
      trace = rw (deeds-more going.made passed.made going.whole)
          (Gains-more a.trace b.trace c.trace (deeds_of going.made) (deeds_of passed.made) going.trace passed.trace);
    },
  )

  pub Going-stopped : {Y : Type 0} (stop : Stop) (act : Act X) (one : Act Y) (next : Y → Act X) (a b c : OutsideTells) (sink sink_mid sink_now : SinkTells)
      → Going act (one >>= next) a b sink sink_mid → Stopped one stop b c sink_mid sink_now → Stopped act stop a c sink sink_now
  Going-stopped stop act one next a b c sink sink_mid sink_now going stopped = record {
    made = going.made ++ stopped.made;
    breaks = Breaks-more act one next going.made stopped.made a b c going.leads stopped.breaks;
    after = after-more stop going.made stopped.made going.whole stopped.after;
    wrote = rw (text-more going.made stopped.made)
        (wrote-until stop sink.held sink_mid.held sink_now.held (text_of going.made) (text_of stopped.made) going.wrote stopped.wrote);
    writes = stopped-writing stop sink sink_mid sink_now going.writes stopped.writes;
    trace = rw (deeds-more going.made stopped.made going.whole)
        (did-until stop a.trace b.trace c.trace (deeds_of going.made) (deeds_of stopped.made) going.trace stopped.trace);
  }

  pub Going-end : (Shows : X → Type 0) (act : Act X) (x : X) (a b : OutsideTells) (sink sink_now : SinkTells)
      → Going act (give x) a b sink sink_now → Shows x → Passed Shows act a b sink sink_now
  Going-end Shows act x a b sink sink_now going shows = record {
    value = x;
    shows = shows;
    made = going.made;
    does = Leads-end act x going.made a b going.leads;
    whole = going.whole;
    wrote = going.wrote;
    writes = going.writes;
    trace = going.trace;
  }

-- ---- sending

pub Breaks-does : {X : Type 0} (act : Act X) (x : X) (made : Made) (a b : OutsideTells) → Explains act x made a b → Breaks act made a b
Breaks-does act x made a b does = record {
  back = λ later agrees.
      let (start, start_is, done) = does.back later agrees in
      (start, start_is, ([], ap (λ acted. acted.made) done ∙ sym (append-nil made)));
  links = does.links;
}

module _ {E : Type 0} (routed : Routed) (text : List ℕ) (a b : OutsideTells) (result : Result (Unit {0}) E)
    (told : DatagramSent routed.face result routed.datagram a b) where
  send-did : Explains (sends routed) tt (made_by_send routed result) a b
  send-did = sends-told a b routed.datagram routed.face result told

  pub sent-ok : (x : Unit {0}) → result ≡ Ok x → Sent (sends routed) tt text text a b
  sent-ok x is = record {
    made = datagram_sent routed.face routed.datagram ∷ [];
    does = rw is at send-did;
    noted_is = sym (append-nil text);
    sends = (tt, tt);
    trace = rw is at told.trace;
  }

  pub sent-noted : (e : E) → result ≡ Err e → (text_now : List ℕ) → text_now ≡ text ++ link_line routed.face true
      → Sent (sends routed) tt text text_now a b
  sent-noted e is text_now added = record {
    made = datagram_lost routed.face routed.datagram ∷ [];
    does = rw is at send-did;
    noted_is = rw (append-nil (link_line routed.face true)) added;
    sends = (tt, tt);
    trace = rw is at told.trace;
  }

-- ---- sending several

pub left-is : {X : Type 0} (xs : List X) (i : ℕ) (x : X) → i < length xs → x ≡ get_or xs i x → drop i xs ≡ x ∷ drop (i + 1) xs
left-is xs i x inside is = at_drop_more (λ v. v) xs i x inside ∙ ap (λ v. v ∷ drop (i + 1) xs) (sym is)

-- some were sent of several, and the rest is left
pub record Sending (out rest : List Routed) (text text_now : List ℕ) (a b : OutsideTells) : Type 0 where
  pub made : Made
  pub leads : Leads (sends_all out) made (sends_all rest) a b
  pub noted_is : text_now ≡ text ++ text_of made
  pub sends : AreSends made
  pub trace : Gains a.trace b.trace (deeds_of made)

pub sending-start : (out : List Routed) (text : List ℕ) (a : OutsideTells) → Sending out out text text a a
sending-start out text a = record {
  made = [];
  leads = Leads-start (sends_all out) a;
  noted_is = sym (append-nil text);
  sends = tt;
  trace = Gains-none a.trace;
}

module _ (out : List Routed) (k : ℕ) (text text_mid text_now : List ℕ) (a b c : OutsideTells) (first : Routed)
    (at : drop k out ≡ first ∷ drop (k + 1) out) (sending : Sending out (drop k out) text text_mid a b) where
  leads_on : Leads (sends_all out) sending.made (sends first >>= (λ x. sends_all (drop (k + 1) out))) a b
  unfolding sends_all
  leads_on = rw at at sending.leads

  pub sending-more : Sent (sends first) tt text_mid text_now b c → Sending out (drop (k + 1) out) text text_now a c
  sending-more sent = record {
    made = sending.made ++ sent.made;
    leads = Leads-more (sends_all out) (sends first) (λ x. sends_all (drop (k + 1) out)) tt sending.made sent.made a b c leads_on sent.does;
    noted_is = sent.noted_is ∙ ap (λ v. v ++ text_of sent.made) sending.noted_is ∙ append_assoc text (text_of sending.made) (text_of sent.made)
        ∙ ap (λ v. text ++ v) (sym (text-more sending.made sent.made));
    sends = sends-more sending.made sent.made sending.sends sent.sends;
    trace = rw (deeds-sends sending.made sent.made sending.sends sent.sends)
        (Gains-more a.trace b.trace c.trace (deeds_of sending.made) (deeds_of sent.made) sending.trace sent.trace);
  }

pub sending-end : (out : List Routed) (text text_now : List ℕ) (a b : OutsideTells) → Sending out [] text text_now a b → Sent (sends_all out) tt text text_now a b
unfolding sends_all
sending-end out text text_now a b sending = record {
  made = sending.made;
  does = Leads-end (sends_all out) tt sending.made a b sending.leads;
  noted_is = sending.noted_is;
  sends = sending.sends;
  trace = sending.trace;
}

-- ---- what a step does

pub Explains-then : {X Y : Type 0} (one : Act Y) (next : Y → Act X) (y : Y) (x : X) (first second : Made) (a b c : OutsideTells)
    → Explains one y first a b → Explains (next y) x second b c → Explains (one >>= next) x (first ++ second) a c
Explains-then one next y x first second a b c does then = record {
  back = λ later agrees.
      let (middle, middle_is, after) = then.back later agrees in
      let (start, start_is, done) = does.back middle middle_is in
      (start, start_is, ap (λ acted. put_before acted.made (next acted.value acted.outside)) done ∙ ap (put_before first) after);
  links = LinksWent-more first second a b c does.links then.links;
}

-- a text is written, and links and clock stay as they are
module _ {T E : Type 0} (a b : OutsideTells) (sink sink_now : SinkTells) (text : List ℕ) (result : Result T E)
    (told : TextWritten text result a b sink sink_now) where
  pub agrees-before : (o : Outside) → Agrees b o → Agrees a o
  agrees-before o agrees = record {
    old = rw told.old at agrees.old;
    new = rw told.new at agrees.new;
    clock = rw told.readings at agrees.clock;
  }

  Explains-says : (said : List ℕ) → Explains (says said) tt (lines_written said ∷ []) a b
  Explains-says said = record {
    back = λ later agrees. (later, agrees-before later agrees, refl);
    links = record {
      old = rw told.old (record { gone = Gains-none a.old.gone; count = refl });
      new = rw told.new (record { gone = Gains-none a.new.gone; count = refl });
    };
  }

  -- what was done before it
  Explains-before : {X : Type 0} (act : Act X) (x : X) (made : Made) (first : OutsideTells) → Explains act x made first a → Explains act x made first b
  Explains-before act x made first does = record {
    back = λ later agrees. does.back later (agrees-before later agrees);
    links = record { old = rw told.old does.links.old; new = rw told.new does.links.new };
  }

module _ (effects : StepEffects) (a b c : OutsideTells) (sink sink_now : SinkTells) where
  module _ {T E : Type 0} (notes : List ℕ) (result : Result T E) (sent : Sent (sends_all effects.out) tt [] notes a b)
      (told : TextWritten (notes ++ effects.text) result b c sink sink_now) where
    abbrev made : Made
    made = sent.made ++ lines_written effects.text ∷ []

    does-all : Explains (does effects) tt made a c
    unfolding does
    does-all =
        Explains-then (sends_all effects.out) (λ x. says effects.text) tt tt sent.made (lines_written effects.text ∷ []) a b c sent.does
        (Explains-says b c sink sink_now (notes ++ effects.text) result told effects.text)

    said-all : text_of made ≡ notes ++ effects.text
    said-all =
        text-more sent.made (lines_written effects.text ∷ []) ∙ ap (λ v. text_of sent.made ++ v) (append-nil effects.text)
        ∙ ap (λ v. v ++ effects.text) (sym sent.noted_is)

    deeds-all : deeds_of made ≡ deeds_of sent.made ++ written (notes ++ effects.text)
    deeds-all =
        deeds-step sent.made effects.text sent.sends
        ∙ ap (λ v. deeds_of sent.made ++ written (v ++ effects.text)) (sym sent.noted_is)

    pub performed : (t : T) → result ≡ Ok t → Passed (λ x. Unit {0}) (does effects) a c sink sink_now
    performed t is =
        let done = rw is at told.wrote in
        record {
          value = tt;
          shows = tt;
          made = made;
          does = does-all;
          whole = whole-last sent.made (lines_written effects.text) tt;
          wrote = rw said-all done.0;
          writes = done.1;
          trace = rw deeds-all (Gains-more a.trace b.trace c.trace _ _ sent.trace (rw is at told.trace));
        }

    pub performed-stopped : (e : E) → result ≡ Err e → Stopped (does effects) Fault a c sink sink_now
    performed-stopped e is =
        let done = rw is at told.wrote in
        record {
          made = made;
          breaks = Breaks-does (does effects) tt made a c does-all;
          after = writing-last sent.made (lines_written effects.text) tt;
          wrote = rw said-all done.0;
          writes = done.1;
          trace = rw deeds-all (breaks-after a.trace b.trace c.trace _ _ sent.trace (rw is at told.trace));
        }

-- ---- polls

module _ {E : Type 0} (face : Face) (buffer : List ℕ) (a b : OutsideTells) (result : Result (Option ℕ) E)
    (told : LinkPolled face result buffer a b) where
  poll-did : Explains (polls face) (polled_in buffer result) (link_polled face (polled_in buffer result) ∷ []) a b
  poll-did = polls-told a b buffer face result told

  pub polled-ok : (sink : SinkTells) (came : Option ℕ) → result ≡ Ok came → PollsAtMost result buffer
      → Passed (PolledAs buffer came) (polls face) a b sink sink
  polled-ok sink None is bound = record {
    value = empty;
    shows = tt;
    made = link_polled face empty ∷ [];
    does = rw is at poll-did;
    whole = tt;
    wrote = Gains-none sink.held;
    writes = NoneFailed-same sink.calls;
    trace = rw is at told.trace;
  }
  polled-ok sink (Some n) is bound = record {
    value = gave (take n buffer);
    shows = (rw is at bound, refl);
    made = link_polled face (gave (take n buffer)) ∷ [];
    does = rw is at poll-did;
    whole = tt;
    wrote = Gains-none sink.held;
    writes = NoneFailed-same sink.calls;
    trace = rw is at told.trace;
  }

  module _ (e : E) (is : result ≡ Err e) {T F : Type 0} (c : OutsideTells) (sink sink_now : SinkTells) (noted : Result T F)
      (wrote : TextWritten (link_line face false) noted b c sink sink_now) where
    both : Explains (polls face) failed (link_polled face failed ∷ []) a c
    both = Explains-before b c sink sink_now (link_line face false) noted wrote (polls face) failed (link_polled face failed ∷ []) a (rw is at poll-did)

    deeds-both : deeds_of (link_polled face failed ∷ []) ≡ polled_link face failed ∷ [] ++ written (link_line face false)
    deeds-both = ap (λ xs. polled_link face failed ∷ xs) (append-nil (written (link_line face false)))

    pub polled-failed : (x : T) → noted ≡ Ok x → Passed (PolledAs buffer None) (polls face) a c sink sink_now
    polled-failed x ok =
        let done = rw ok at wrote.wrote in
        record {
          value = failed;
          shows = tt;
          made = link_polled face failed ∷ [];
          does = both;
          whole = tt;
          wrote = rw (append-nil (link_line face false)) done.0;
          writes = done.1;
          trace = rw deeds-both (Gains-more a.trace b.trace c.trace (polled_link face failed ∷ []) _ (rw is at told.trace) (rw ok at wrote.trace));
        }

    pub polled-stopped : (f : F) → noted ≡ Err f → Stopped (polls face) Fault a c sink sink_now
    polled-stopped f err =
        let done = rw err at wrote.wrote in
        record {
          made = link_polled face failed ∷ [];
          breaks = Breaks-does (polls face) failed (link_polled face failed ∷ []) a c both;
          after = tt;
          wrote = rw (append-nil (link_line face false)) done.0;
          writes = done.1;
          trace = rw deeds-both (breaks-after a.trace b.trace c.trace (polled_link face failed ∷ []) _ (rw is at told.trace) (rw err at wrote.trace));
        }

-- ---- steps

-- a step for which there was no memory: nothing is made
pub stopped-at-once : {X : Type 0} (act : Act X) (a : OutsideTells) (sink : SinkTells) → Stopped act NoMemory a a sink sink
stopped-at-once act a sink = record {
  made = [];
  breaks = record { back = λ later agrees. (later, agrees, ((act later).made, refl)); links = LinksWent-none a };
  after = tt;
  wrote = Gains-none sink.held;
  writes = NoneFailed-same sink.calls;
  trace = Gains-none a.trace;
}

-- what is shown of a value is shown where the act comes to it
pub goes-shown : {T X : Type 0} (act : Act X) (a b : OutsideTells) (sink sink_now : SinkTells) (result : Result T Stop)
    → Goes (λ t x. Unit {0}) act a b sink sink_now result → (P : Type 0) → P → Goes (λ t x. P) act a b sink sink_now result
goes-shown act a b sink sink_now (Ok t) goes P p = record {
  value = goes.value;
  shows = p;
  made = goes.made;
  does = goes.does;
  whole = goes.whole;
  wrote = goes.wrote;
  writes = goes.writes;
  trace = goes.trace;
}
goes-shown act a b sink sink_now (Err stop) goes P p = record {
  made = goes.made;
  breaks = goes.breaks;
  after = goes.after;
  wrote = goes.wrote;
  writes = goes.writes;
  trace = goes.trace;
}

-- ---- what came is taken

Explains-give : {X : Type 0} (x : X) (a : OutsideTells) → Explains (give x) x [] a a
Explains-give x a = record { back = λ later agrees. (later, agrees, refl); links = LinksWent-none a }

passed-give : {X : Type 0} (Shows : X → Type 0) (x : X) (a : OutsideTells) (sink : SinkTells) → Shows x → Passed Shows (give x) a a sink sink
passed-give Shows x a sink shows = record {
  value = x;
  shows = shows;
  made = [];
  does = Explains-give x a;
  whole = tt;
  wrote = Gains-none sink.held;
  writes = NoneFailed-same sink.calls;
  trace = Gains-none a.trace;
}

-- an act, and then a value
then-give : {T X : Type 0} (Shows : X → Type 0) (act : Act (Unit {0})) (x : X) (a b : OutsideTells) (sink sink_now : SinkTells) (result : Result T Stop)
    → Goes (λ t y. Unit {0}) act a b sink sink_now result → Shows x
    → Goes (λ t. Shows) (act >>= (λ y. give x)) a b sink sink_now result
then-give Shows act x a b sink sink_now (Ok t) goes shows = record {
  value = x;
  shows = shows;
  made = goes.made;
  does = subst (λ m. Explains (act >>= (λ y. give x)) x m a b) (append-nil goes.made)
      (Explains-then act (λ y. give x) goes.value x goes.made [] a b b goes.does (Explains-give x b));
  whole = goes.whole;
  wrote = goes.wrote;
  writes = goes.writes;
  trace = goes.trace;
}
then-give Shows act x a b sink sink_now (Err stop) goes shows = record {
  made = goes.made;
  breaks = Breaks-more (act >>= (λ y. give x)) act (λ y. give x) [] goes.made a a b (Leads-start (act >>= (λ y. give x)) a) goes.breaks;
  after = goes.after;
  wrote = goes.wrote;
  writes = goes.writes;
  trace = goes.trace;
}

module _ {S : Type 0} (Shows : S → Type 0) (rules : TurnRules S) (face : Face) (now : ℕ) (buffer : List ℕ) (state : S) (a : OutsideTells) where
  pub taken-none : (came : Option ℕ) → came ≡ None → (polled : Polled) → PolledAs buffer came polled → (sink : SinkTells) → Shows state
      → Passed Shows (answers rules face now polled state) a a sink sink
  taken-none (Some n) none polled is sink shows = absurd (cc)
  taken-none None none failed is sink shows = passed-give Shows state a sink shows
  taken-none None none empty is sink shows = passed-give Shows state a sink shows
  taken-none None none (gave datagram) is sink shows = absurd is

module _ {S : Type 0} (Shows : S → Type 0) (rules : TurnRules S) (face : Face) (now : ℕ) (buffer : List ℕ) (state : S) (a b : OutsideTells) where
  pub taken-some : {T : Type 0} (came : Option ℕ) (n : ℕ) → came ≡ Some n → (polled : Polled) → PolledAs buffer came polled
      → (sink sink_now : SinkTells) (result : Result T Stop) (effects : StepEffects)
      → StepsTo Shows (rules.arrive face (take n buffer) now state) effects
      → Goes (λ t y. Unit {0}) (does effects) a b sink sink_now result
      → Goes (λ t. Shows) (answers rules face now polled state) a b sink sink_now result
  taken-some None n some polled is sink sink_now result effects steps goes = absurd (cc)
  taken-some (Some k) n some failed is sink sink_now result effects steps goes = absurd is
  taken-some (Some k) n some empty is sink sink_now result effects steps goes = absurd is
  taken-some (Some k) n some (gave datagram) is sink sink_now result effects steps goes =
      let same : k ≡ n = cc in
      let whole : take n buffer ≡ datagram = rw same at is.1 in
      let now_steps = rw whole at steps in
      then-give Shows (does (rules.arrive face datagram now state).effects) (rules.arrive face datagram now state).state a b sink sink_now result
      (rw now_steps.effects_are at goes) now_steps.shows

-- ---- halves and turns

pub goes-err : {T X : Type 0} (Shows : T → X → Type 0) (act : Act X) (a b : OutsideTells) (sink sink_now : SinkTells) (result : Result T Stop) (stop : Stop)
    → IsErrAnd result (λ e. e ≡ stop) → Stopped act stop a b sink sink_now → Goes Shows act a b sink sink_now result
goes-err Shows act a b sink sink_now (Ok t) stop is stopped = absurd is
goes-err Shows act a b sink sink_now (Err e) stop is stopped = rw is stopped

-- the rest of an act is done
pub goes-last : {T X : Type 0} (Shows : X → Type 0) (act rest : Act X) (a b c : OutsideTells) (sink sink_mid sink_now : SinkTells) (result : Result T Stop)
    → Going act rest a b sink sink_mid → Goes (λ t. Shows) rest b c sink_mid sink_now result → Goes (λ t. Shows) act a c sink sink_now result
goes-last Shows act rest a b c sink sink_mid sink_now (Ok t) going goes = record {
  value = goes.value;
  shows = goes.shows;
  made = going.made ++ goes.made;
  does = record {
    back = λ later agrees.
        let (middle, middle_is, done) = goes.does.back later agrees in
        let (start, start_is, led) = going.leads.back middle middle_is in
        (start, start_is, led ∙ ap (put_before going.made) done);
    links = LinksWent-more going.made goes.made a b c going.leads.links goes.does.links;
  };
  whole = whole-more going.made goes.made going.whole goes.whole;
  wrote = rw (text-more going.made goes.made)
      (Gains-more sink.held sink_mid.held sink_now.held (text_of going.made) (text_of goes.made) going.wrote goes.wrote);
  writes = NoneFailed-more sink.calls sink_mid.calls sink_now.calls going.writes goes.writes;
  trace = rw (deeds-more going.made goes.made going.whole)
      (Gains-more a.trace b.trace c.trace (deeds_of going.made) (deeds_of goes.made) going.trace goes.trace);
}
goes-last Shows act rest a b c sink sink_mid sink_now (Err stop) going goes = record {
  made = going.made ++ goes.made;
  breaks = record {
    back = λ later agrees.
        let (middle, middle_is, (more, parts)) = goes.breaks.back later agrees in
        let (start, start_is, led) = going.leads.back middle middle_is in
        (start, start_is, (more, ap (λ acted. acted.made) led ∙ ap (λ m. going.made ++ m) parts ∙ sym (append_assoc going.made goes.made more)));
    links = LinksWent-more going.made goes.made a b c going.leads.links goes.breaks.links;
  };
  after = after-more stop going.made goes.made going.whole goes.after;
  wrote = rw (text-more going.made goes.made)
      (wrote-until stop sink.held sink_mid.held sink_now.held (text_of going.made) (text_of goes.made) going.wrote goes.wrote);
  writes = stopped-writing stop sink sink_mid sink_now going.writes goes.writes;
  trace = rw (deeds-more going.made goes.made going.whole)
      (did-until stop a.trace b.trace c.trace (deeds_of going.made) (deeds_of goes.made) going.trace goes.trace);
}

module _ {S : Type 0} (rules : TurnRules S) (face : Face) (state : S) (now : ℕ) where
  pub after-poll : Polled → Act S
  after-poll came = answers rules face now came (rules.tick now state).state

  pub after-pass : Act S
  after-pass = polls face >>= after-poll

  pub half-read : (a b : OutsideTells) (sink sink_now : SinkTells) → ClockRead now a b → sink_now ≡ sink
      → Going (half rules face state) (does (rules.tick now state).effects >>= (λ x. after-pass)) a b sink sink_now
  unfolding half after-pass after-poll
  half-read a b sink sink_now told same =
      rw same (Going-silent (half rules face state) reads_clock (λ n. does (rules.tick n state).effects >>= (λ x. polls face >>= (λ came. answers rules face n came (rules.tick n state).state)))
      now (clock_read now) a a b sink sink tt refl (Going-start (half rules face state) a sink) (reads-told a b now told) told.trace)

  module _ (a b c : OutsideTells) (sink sink_mid sink_now : SinkTells) where
    pub polled-half : (Shows : Polled → Type 0) → Going (half rules face state) after-pass a b sink sink_mid
        → Passed Shows (polls face) b c sink_mid sink_now
        → (came : Polled) × Shows came × Going (half rules face state) (answers rules face now came (rules.tick now state).state) a c sink sink_now
    unfolding after-pass after-poll
    polled-half Shows going passed = Going-passed Shows (half rules face state) (polls face) after-poll a b c sink sink_mid sink_now going passed

    pub polled-stopped-half : (stop : Stop) → Going (half rules face state) after-pass a b sink sink_mid
        → Stopped (polls face) stop b c sink_mid sink_now → Stopped (half rules face state) stop a c sink sink_now
    unfolding after-pass after-poll
    polled-stopped-half stop going stopped = Going-stopped stop (half rules face state) (polls face) after-poll a b c sink sink_mid sink_now going stopped

-- ---- a turn

module _ {S : Type 0} (rules : TurnRules S) (state : S) (a b : OutsideTells) (sink sink_mid : SinkTells) where
  begun : Going (turn rules state) (half rules Old state >>= half rules New) a a sink sink
  unfolding turn
  begun = Going-start (turn rules state) a sink

  pub turn-stopped : (stop : Stop) → Stopped (half rules Old state) stop a b sink sink_mid → Stopped (turn rules state) stop a b sink sink_mid
  turn-stopped stop stopped = Going-stopped stop (turn rules state) (half rules Old state) (half rules New) a a b sink sink sink_mid begun stopped

  pub turn-between : (Shows : S → Type 0) → Passed Shows (half rules Old state) a b sink sink_mid
      → (between : S) × Shows between × Going (turn rules state) (half rules New between) a b sink sink_mid
  turn-between Shows passed = Going-passed Shows (turn rules state) (half rules Old state) (half rules New) a a b sink sink sink_mid begun passed

-- ---- several turns

-- turns that are left
pub turns-done : {S : Type 0} (rules : TurnRules S) (left : ℕ) (state : S) (whole : Act S) (Shows : S → Type 0) (a b c : OutsideTells) (sink sink_mid sink_now : SinkTells)
    → Going whole (turns rules (suc left) state) a b sink sink_mid → Passed Shows (turn rules state) b c sink_mid sink_now
    → (next : S) × Shows next × Going whole (turns rules left next) a c sink sink_now
unfolding turns
turns-done rules left state whole Shows a b c sink sink_mid sink_now going passed =
    Going-passed Shows whole (turn rules state) (turns rules left) a b c sink sink_mid sink_now going passed

pub turns-stopped : {S : Type 0} (rules : TurnRules S) (left : ℕ) (state : S) (whole : Act S) (stop : Stop) (a b c : OutsideTells) (sink sink_mid sink_now : SinkTells)
    → Going whole (turns rules (suc left) state) a b sink sink_mid → Stopped (turn rules state) stop b c sink_mid sink_now
    → Stopped whole stop a c sink sink_now
unfolding turns
turns-stopped rules left state whole stop a b c sink sink_mid sink_now going stopped =
    Going-stopped stop whole (turn rules state) (turns rules left) a b c sink sink_mid sink_now going stopped

-- ---- a whole run

-- links and a clock that go on as they tell
goes_on_as : (tells : LinkTells) → (link : LinkAhead) × LinkAgrees tells link
goes_on_as tells = by tells.coming tells.failing
  where
    by : (coming : Option (List (List ℕ))) (failing : Option (List Bool))
        → (link : LinkAhead) × LinkAgrees (record { coming = coming; gone = tells.gone; failing = failing; faults = tells.faults }) link
    by None None = (record { gives = []; failing = [] }, record { gives = tt; failing = tt })
    by None (Some failing) = (record { gives = []; failing = failing }, record { gives = tt; failing = refl })
    by (Some coming) None = (record { gives = map Some coming; failing = [] }, record { gives = refl; failing = tt })
    by (Some coming) (Some failing) = (record { gives = map Some coming; failing = failing }, record { gives = refl; failing = refl })

shows_as : (readings : Option (List ℕ)) → (clock : ClockAhead) × ClockAgrees readings clock
shows_as None = (record { shows = 0; later = [] }, tt)
shows_as (Some []) = (record { shows = 0; later = [] }, tt)
shows_as (Some (first ∷ later)) = (record { shows = first; later = later }, (refl, refl))

outside-as : (tells : OutsideTells) → (o : Outside) × Agrees tells o
outside-as tells =
    let (old, old_is) = goes_on_as tells.old in
    let (new, new_is) = goes_on_as tells.new in
    let (clock, clock_is) = shows_as tells.readings in
    (record { old = old; new = new; clock = clock }, record { old = old_is; new = new_is; clock = clock_is })

pub ran-stopped : {X : Type 0} (run : Act X) (stop : Stop) (a b : OutsideTells) (sink sink_now : SinkTells)
    → Stopped run stop a b sink sink_now → RanTurns run (status_of stop) a b sink sink_now
ran-stopped run stop a b sink sink_now stopped =
    let (later, agrees) = outside-as b in
    let (first, told, front) = stopped.breaks.back later agrees in
    by stop stopped first told front
  where
    by : (why : Stop) → (stopped : Stopped run why a b sink sink_now) → (first : Outside) → Agrees a first → IsFrontOf stopped.made (run first).made
        → RanTurns run (status_of why) a b sink sink_now
    by Fault stopped first told front = record {
      outside = first;
      told = told;
      made = stopped.made;
      went = (front, stopped.after);
      links = stopped.breaks.links;
      wrote = stopped.wrote;
      writes = stopped.writes;
      trace = stopped.trace;
    }
    by NoMemory stopped first told front = record {
      outside = first;
      told = told;
      made = stopped.made;
      went = (front, stopped.after);
      links = stopped.breaks.links;
      wrote = stopped.wrote;
      writes = stopped.writes;
      trace = stopped.trace;
    }

pub ran-done : {S : Type 0} (rules : TurnRules S) (state : S) (run : Act S) (a b : OutsideTells) (sink sink_now : SinkTells)
    → Going run (turns rules 0 state) a b sink sink_now → RanTurns run Done a b sink sink_now
unfolding turns
ran-done rules state run a b sink sink_now going =
    let does = Leads-end run state going.made a b going.leads in
    let (later, agrees) = outside-as b in
    let (first, told, done) = does.back later agrees in
    record {
      outside = first;
      told = told;
      made = going.made;
      went = (sym (ap (λ acted. acted.made) done), rw done agrees);
      links = going.leads.links;
      wrote = going.wrote;
      writes = going.writes;
      trace = going.trace;
    }

-- turns of which none were made yet
pub none-made : {S : Type 0} (Shows : S → Type 0) (rules : TurnRules S) (count : ℕ) (state : S) (a : OutsideTells) (sink : SinkTells) → Shows state
    → (now : S) × Shows now × Going (turns rules count state) (turns rules count now) a a sink sink
none-made Shows rules count state a sink shows = (state, shows, Going-start (turns rules count state) a sink)

pub ran-out : {S : Type 0} (rules : TurnRules S) (run : Act S) (a b : OutsideTells) (sink sink_now : SinkTells) (left : ℕ) → left ≤ 0 → (state : S)
    → Going run (turns rules left state) a b sink sink_now → RanTurns run Done a b sink sink_now
ran-out rules run a b sink sink_now zero none state going = ran-done rules state run a b sink sink_now going
ran-out rules run a b sink sink_now (suc n) none state going = absurd (omega arith)

-- one turn of those left
pub one-less : (left : ℕ) → 0 < left → left ≡ suc (left - 1)
one-less zero some = absurd (omega arith)
one-less (suc n) some = omega arith
