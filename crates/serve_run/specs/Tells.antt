-- What is told of the outside, and how a run went over it, whatever is told.
use Rattle.std.specs.Prelude.{◌≤◌, length, take, Result, Ok, Err, is_err, ◌≡◌, ℕ, zero, suc, ◌+◌, Bool, List, [], ◌∷◌, ◌++◌, map, Option, None, Some, IfSome, IsSomeAnd}
use Rattle.edge_traits.specs.Content.{Gains, GainsFront}
use Rattle.edge_traits.specs.Faults.{one_more, Calls, NoneFailed, LastFailed}
use Rattle.edge_traits.specs.Outcome.{SinkTells, WentWriting}
use Rattle.edge_traits.specs.declared.status.Status.{Status}
use Rattle.edge_traits.specs.declared.status.Status.TheVariants.{Done, Refused, Usage, ReadFault, WriteFault, Limit, Memory}
use Rattle.gate_cases.specs.declared.face.Face.{Face}
use Rattle.gate_cases.specs.declared.face.Face.TheVariants.{Old, New}
use Rattle.serve_run.specs.Outside.{LinkAhead, ClockAhead, Outside, Polled, failed, empty, gave}
use Rattle.gateway_core.specs.declared.effects.Routed.{Routed}
use Rattle.gateway_core.specs.Gate.{if_same}
use Rattle.serve_run.specs.declared.stop.Stop.{Stop}
use Rattle.serve_run.specs.declared.stop.Stop.TheVariants.{Fault, NoMemory}
use Rattle.serve_run.specs.Deeds.{Deed, write_failed, written, deeds_of, text_of}
use Rattle.serve_run.specs.Turns.{Call, clock_read, link_polled, datagram_sent, datagram_lost, lines_written, Made, sent_on, IsWhole, EndsWriting, Act, Acted, put_before, tried, Stepped, StepEffects}

-- ---- what is told

-- what a link tells: the datagrams to come, those that went, which of its calls are to fail, and its
-- count of faults
pub record LinkTells : Type 0 where
  pub coming : Option (List (List ℕ))
  pub gone : Option (List (List ℕ))
  pub failing : Option (List Bool)
  pub faults : ℕ

-- what both links tell, and the clock of its readings to come; and all that was done outside so far, in
-- the order done
pub record OutsideTells : Type 0 where
  pub old : LinkTells
  pub new : LinkTells
  pub readings : Option (List ℕ)
  pub trace : Option (List Deed)

-- what a link tells, by the four words of its kind
abbrev pub link_tells : {L : Type 0} → (L → Option (List (List ℕ))) → (L → Option (List (List ℕ))) → (L → Option (List Bool)) → (L → ℕ) → L → LinkTells
link_tells coming gone failing faults link =
    record { coming = coming link; gone = gone link; failing = failing link; faults = faults link }

-- what two links of a kind tell, and a clock, each by itself: so nothing of the order
abbrev pub links_tell : {L : Type 0} → (L → Option (List (List ℕ))) → (L → Option (List (List ℕ))) → (L → Option (List Bool)) → (L → ℕ) → L → L → Option (List ℕ) → OutsideTells
links_tell coming gone failing faults old new readings = record {
  old = link_tells coming gone failing faults old;
  new = link_tells coming gone failing faults new;
  readings = readings;
  trace = None;
}

-- a link goes on as it tells
pub record LinkAgrees (tells : LinkTells) (link : LinkAhead) : Type 0 where
  pub gives : IfSome tells.coming (λ coming. link.gives ≡ map Some coming)
  pub failing : IfSome tells.failing (λ failing. link.failing ≡ failing)

-- a clock goes on as it tells
abbrev pub ClockAgrees : Option (List ℕ) → ClockAhead → Type 0
ClockAgrees None clock = Unit {0}
ClockAgrees (Some []) clock = Unit {0}
ClockAgrees (Some (first ∷ later)) clock = (clock.shows ≡ first) × (clock.later ≡ later)

pub record Agrees (tells : OutsideTells) (o : Outside) : Type 0 where
  pub old : LinkAgrees tells.old o.old
  pub new : LinkAgrees tells.new o.new
  pub clock : ClockAgrees tells.readings o.clock

-- ---- what was made

-- how many calls of a face's link failed
abbrev pub failed_on : Face → Call → ℕ
failed_on face (clock_read now) = 0
failed_on face (link_polled at failed) = if_same at face 1 0
failed_on face (link_polled at empty) = 0
failed_on face (link_polled at (gave datagram)) = 0
failed_on face (datagram_sent at datagram) = 0
failed_on face (datagram_lost at datagram) = if_same at face 1 0
failed_on face (lines_written text) = 0

abbrev pub noted : Face → Made → ℕ
noted face [] = 0
noted face (call ∷ later) = failed_on face call + noted face later

-- a count after so many faults more
abbrev pub counted : ℕ → ℕ → ℕ
counted faults zero = faults
counted faults (suc n) = counted (one_more faults) n

-- these datagrams went on a link, and its count rose by so many faults
pub record LinkWent (sent : List (List ℕ)) (n : ℕ) (before now : LinkTells) : Type 0 where
  pub gone : Gains before.gone now.gone sent
  pub count : now.faults ≡ counted before.faults n

-- this was made over two links
pub record LinksWent (made : Made) (before now : OutsideTells) : Type 0 where
  pub old : LinkWent (sent_on Old made) (noted Old made) before.old now.old
  pub new : LinkWent (sent_on New made) (noted New made) before.new now.new

-- ---- how an act went

-- For every future that agrees with what links and clock tell now there is a past that agrees with what
-- they told before, and the act leads from that past to that future, with this value and these calls; and
-- the calls are counted.
pub record Explains {X : Type 0} (act : Act X) (value : X) (made : Made) (before now : OutsideTells) : Type 0 where
  pub back : (later : Outside) → Agrees now later → (first : Outside) × Agrees before first
      × (act first ≡ record { value = value; outside = later; made = made })
  pub links : LinksWent made before now

-- The same of an act of which a front is done: from that past these calls lead to that future, and the rest
-- is this act.
pub record Leads {X : Type 0} (act : Act X) (made : Made) (rest : Act X) (before now : OutsideTells) : Type 0 where
  pub back : (later : Outside) → Agrees now later → (first : Outside) × Agrees before first
      × (act first ≡ put_before made (rest later))
  pub links : LinksWent made before now

-- what was made is a front of the whole
abbrev pub IsFrontOf : Made → Made → Type 0
IsFrontOf made whole = (rest : Made) × (whole ≡ made ++ rest)

-- The same of an act that was broken off: from that past these calls are a front of those that the act makes.
pub record Breaks {X : Type 0} (act : Act X) (made : Made) (before now : OutsideTells) : Type 0 where
  pub back : (later : Outside) → Agrees now later → (first : Outside) × Agrees before first
      × IsFrontOf made (act first).made
  pub links : LinksWent made before now

-- ---- how code went that does an act and writes what it says

-- of what was due all was done but octets at its end, and then a write failed: nothing was done after it
abbrev pub BreaksOff : Option (List Deed) → Option (List Deed) → List Deed → Type 0
BreaksOff before now due = IfSome now (λ after. IsSomeAnd before (λ earlier.
    (done : List Deed) × (lacking : List ℕ) × (due ≡ done ++ written lacking)
    × (after ≡ earlier ++ (done ++ write_failed ∷ []))))

-- it did the act, and wrote all that this says
pub record Passed {X : Type 0} (Shows : X → Type 0) (act : Act X) (before now : OutsideTells) (sink sink_now : SinkTells) : Type 0 where
  pub value : X
  pub shows : Shows value
  pub made : Made
  pub does : Explains act value made before now
  pub whole : IsWhole made
  pub wrote : Gains sink.held sink_now.held (text_of made)
  pub writes : NoneFailed sink.calls sink_now.calls
  pub trace : Gains before.trace now.trace (deeds_of made)

-- the last call of code that stopped: a write failed with it; where memory ran out, it was done, and so
-- no step was broken off
abbrev pub StopsAfter : Stop → Made → Type 0
StopsAfter Fault made = EndsWriting made
StopsAfter NoMemory made = IsWhole made

-- what it wrote: a front of the text, or all of it
abbrev pub StopsWithin : Stop → Option (List ℕ) → Option (List ℕ) → List ℕ → Type 0
StopsWithin Fault before now text = GainsFront before now text
StopsWithin NoMemory before now text = Gains before now text

-- what it did: all of it, or until a write failed
abbrev pub StopsDoing : Stop → Option (List Deed) → Option (List Deed) → List Deed → Type 0
StopsDoing Fault before now due = BreaksOff before now due
StopsDoing NoMemory before now due = Gains before now due

-- the writes of code that stopped
abbrev pub StopsWriting : Stop → Calls → Calls → Type 0
StopsWriting Fault before now = LastFailed before now
StopsWriting NoMemory before now = NoneFailed before now

-- it stopped
pub record Stopped {X : Type 0} (act : Act X) (stop : Stop) (before now : OutsideTells) (sink sink_now : SinkTells) : Type 0 where
  pub made : Made
  pub breaks : Breaks act made before now
  pub after : StopsAfter stop made
  pub wrote : StopsWithin stop sink.held sink_now.held (text_of made)
  pub writes : StopsWriting stop sink.calls sink_now.calls
  pub trace : StopsDoing stop before.trace now.trace (deeds_of made)

-- it did the act, with a value that the answer stands for, or stopped
abbrev pub Goes : {T X : Type 0} → (T → X → Type 0) → Act X → OutsideTells → OutsideTells → SinkTells → SinkTells → Result T Stop → Type 0
Goes Shows act before now sink sink_now (Ok t) = Passed (Shows t) act before now sink sink_now
Goes Shows act before now sink sink_now (Err stop) = Stopped act stop before now sink sink_now

-- ---- a whole run

-- What was made is all that the run makes, and links and clock go on as they tell now. Or it is a front:
-- with its last call a write failed; or memory ran out, and then no step was broken off, so that it is
-- what whole steps make.
abbrev pub WentOn : {X : Type 0} → Acted X → Made → OutsideTells → Status → Type 0
WentOn run made now Done = (made ≡ run.made) × Agrees now run.outside
WentOn run made now WriteFault = IsFrontOf made run.made × EndsWriting made
WentOn run made now Memory = IsFrontOf made run.made × IsWhole made
WentOn run made now Refused = ⊥
WentOn run made now Usage = ⊥
WentOn run made now ReadFault = ⊥
WentOn run made now Limit = ⊥

-- what was written of what was made
abbrev pub WroteMade : Made → Option (List ℕ) → Option (List ℕ) → Status → Type 0
WroteMade made before now Done = Gains before now (text_of made)
WroteMade made before now WriteFault = GainsFront before now (text_of made)
WroteMade made before now Memory = Gains before now (text_of made)
WroteMade made before now Refused = ⊥
WroteMade made before now Usage = ⊥
WroteMade made before now ReadFault = ⊥
WroteMade made before now Limit = ⊥

-- what was done outside of what was made, in order
abbrev pub DidMade : Made → Option (List Deed) → Option (List Deed) → Status → Type 0
DidMade made before now Done = Gains before now (deeds_of made)
DidMade made before now WriteFault = BreaksOff before now (deeds_of made)
DidMade made before now Memory = Gains before now (deeds_of made)
DidMade made before now Refused = ⊥
DidMade made before now Usage = ⊥
DidMade made before now ReadFault = ⊥
DidMade made before now Limit = ⊥

-- How a run ended that links and a clock are driven by: as they go on, which is as they told before
-- it, this was made of it; exactly these datagrams went, each count rose by exactly the calls that are
-- noted, and exactly that was written, or a front of it where a write failed. And exactly this was done,
-- in this order, and nothing after a write that failed.
pub record RanTurns {X : Type 0} (run : Act X) (status : Status) (before now : OutsideTells) (sink sink_now : SinkTells) : Type 0 where
  pub outside : Outside
  pub told : Agrees before outside
  pub made : Made
  pub went : WentOn (run outside) made now status
  pub links : LinksWent made before now
  pub wrote : WroteMade made sink.held sink_now.held status
  pub writes : WentWriting status sink.calls sink_now.calls
  pub trace : DidMade made before.trace now.trace status

-- ---- what only ties code to these

-- an answer and a buffer stand for what a poll came to; that it failed is noted already
abbrev pub PolledAs : List ℕ → Option ℕ → Polled → Type 0
PolledAs buffer None failed = Unit {0}
PolledAs buffer None empty = Unit {0}
PolledAs buffer None (gave datagram) = ⊥
PolledAs buffer (Some n) failed = ⊥
PolledAs buffer (Some n) empty = ⊥
PolledAs buffer (Some n) (gave datagram) = (n ≤ length buffer) × (take n buffer ≡ datagram)

-- what a poll answered
abbrev pub polled_in : {E : Type 0} → List ℕ → Result (Option ℕ) E → Polled
polled_in buffer (Ok None) = empty
polled_in buffer (Ok (Some n)) = gave (take n buffer)
polled_in buffer (Err e) = failed

-- a send that was made or failed
abbrev pub made_by_send : {E : Type 0} → Routed → Result (Unit {0}) E → Made
made_by_send routed result = tried routed.face (is_err result) routed.datagram ∷ []

-- a text was written, or a front of it where a write failed
abbrev pub WroteText : {T E : Type 0} → List ℕ → SinkTells → SinkTells → Result T E → Type 0
WroteText text sink now (Ok t) = Gains sink.held now.held text × NoneFailed sink.calls now.calls
WroteText text sink now (Err e) = GainsFront sink.held now.held text × LastFailed sink.calls now.calls

-- they are sends, made or failed
abbrev pub IsSend : Call → Type 0
IsSend (clock_read now) = ⊥
IsSend (link_polled face polled) = ⊥
IsSend (datagram_sent face datagram) = Unit {0}
IsSend (datagram_lost face datagram) = Unit {0}
IsSend (lines_written text) = ⊥

abbrev pub AreSends : Made → Type 0
AreSends [] = Unit {0}
AreSends (call ∷ later) = IsSend call × AreSends later

-- datagrams were sent, and lines about those that were lost were added to a text
pub record Sent {X : Type 0} (act : Act X) (value : X) (text text_now : List ℕ) (before now : OutsideTells) : Type 0 where
  pub made : Made
  pub does : Explains act value made before now
  pub noted_is : text_now ≡ text ++ text_of made
  pub sends : AreSends made
  pub trace : Gains before.trace now.trace (deeds_of made)

-- a step of what is driven
pub record StepsTo {S : Type 0} (Shows : S → Type 0) (stepped : Stepped S) (effects : StepEffects) : Type 0 where
  pub shows : Shows stepped.state
  pub effects_are : effects ≡ stepped.effects

-- how a run ends that stopped
abbrev pub status_of : Stop → Status
status_of Fault = WriteFault
status_of NoMemory = Memory
