-- One call on a link, as the outside goes on before it and after it.
use Rattle.std.proofs.Common.{◌≡◌, ℕ, Bool, List, [], ◌∷◌, map, take, Option, None, Some, IfSome, Result, Ok, Err, is_err, refl, sym, ◌∙◌, ap}
use Rattle.edge_traits.specs.Content.{Gains}
use Rattle.edge_traits.specs.Datagrams.{Polls, Reads}
use Rattle.edge_traits.specs.Faults.{fails_next, after_next, FailsAsTold}
use Rattle.edge_traits.proofs.ContentLemmas.{Gains-none}
use Rattle.gate_cases.specs.declared.face.Face.{Face}
use Rattle.gate_cases.specs.declared.face.Face.TheVariants.{Old, New}
use Rattle.serve_run.specs.Outside.{LinkAhead, ClockAhead, given, after_given, polled, past_poll, past_send, past_reading, gave}
use Rattle.serve_run.specs.Turns.{polls, sends, reads_clock, clock_read, link_polled}
use Rattle.serve_run.specs.Tells.{LinkTells, OutsideTells, LinkAgrees, ClockAgrees, LinkWent, LinksWent, Explains, polled_in, made_by_send}
use Rattle.serve_run.specs.Edges.{ClockRead, LinkPolled, DatagramSent}

-- ---- which calls fail

failing-back : {T E : Type 0} (before now : Option (List Bool)) (result : Result T E) → FailsAsTold before now result
    → (later : List Bool) → IfSome now (λ failing. later ≡ failing)
    → (first : List Bool) × IfSome before (λ failing. first ≡ failing) × (fails_next first ≡ is_err result) × (after_next first ≡ later)
failing-back None now result told later agrees = (is_err result ∷ later, tt, refl, refl)
failing-back (Some calls) None result told later agrees = absurd told
failing-back (Some calls) (Some now) result told later agrees =
    (calls, refl, sym told.0, sym (agrees ∙ told.1))

-- ---- what polls give

given-back : (E : Type 0) (before now : Option (List (List ℕ))) (o : Option ℕ) (buf : List ℕ) → Polls {E = E} before now (Ok o) buf
    → (later : List (Option (List ℕ))) → IfSome now (λ coming. later ≡ map Some coming)
    → (first : List (Option (List ℕ))) × IfSome before (λ coming. first ≡ map Some coming)
    × (given first ≡ polled_in {E = E} buf (Ok o)) × (after_given first ≡ later)
given-back E None now None buf told later agrees = (None ∷ later, tt, refl, refl)
given-back E None now (Some n) buf told later agrees = (Some (take n buf) ∷ later, tt, refl, refl)
given-back E (Some coming) None o buf told later agrees = absurd told
given-back E (Some []) (Some now) None buf told later agrees = ([], refl, refl, sym (agrees ∙ ap (map Some) told))
given-back E (Some []) (Some now) (Some n) buf told later agrees = absurd told
given-back E (Some (first ∷ coming)) (Some now) None buf told later agrees = absurd told
given-back E (Some (first ∷ coming)) (Some now) (Some n) buf (size, is, next) later agrees =
    (map Some (first ∷ coming), refl, ap gave (sym is), sym (agrees ∙ ap (map Some) next))

kept-back : {E : Type 0} (before now : Option (List (List ℕ))) (e : E) (buf : List ℕ) → Polls before now (Err e) buf
    → (later : List (Option (List ℕ))) → IfSome now (λ coming. later ≡ map Some coming)
    → IfSome before (λ coming. later ≡ map Some coming)
kept-back None now e buf told later agrees = tt
kept-back (Some coming) None e buf told later agrees = absurd told
kept-back (Some coming) (Some now) e buf told later agrees = agrees ∙ ap (map Some) told

poll-back : {E : Type 0} (before now : LinkTells) (result : Result (Option ℕ) E) (buf : List ℕ)
    → Polls before.coming now.coming result buf → FailsAsTold before.failing now.failing result
    → (later : LinkAhead) → LinkAgrees now later
    → (first : LinkAhead) × LinkAgrees before first × (polled first ≡ polled_in buf result) × (past_poll first ≡ later)
poll-back {E = E} before now (Ok o) buf told fails later agrees =
    let (failing, failing_is, sound, next) = failing-back before.failing now.failing (Ok o) fails later.failing agrees.failing in
    let (gives, gives_is, poll, past) = given-back E before.coming now.coming o buf told later.gives agrees.gives in (
      record { gives = gives; failing = failing },
      record { gives = gives_is; failing = failing_is },
      rw sound poll,
      rw (sound, past, next) refl,
    )
poll-back before now (Err e) buf told fails later agrees =
    let (failing, failing_is, broken, next) = failing-back before.failing now.failing (Err e) fails later.failing agrees.failing in (
      record { gives = later.gives; failing = failing },
      record { gives = kept-back before.coming now.coming e buf told later.gives agrees.gives; failing = failing_is },
      rw broken refl,
      rw (broken, next) refl,
    )

-- ---- a link that isn't called

stays : (link : LinkTells) → LinkWent [] 0 link link
stays link = record { gone = Gains-none link.gone; count = refl }

-- what went is as it was
kept : (before now : Option (List (List ℕ))) → now ≡ before → Gains before now []
kept before now same = rw same (Gains-none before)

-- ---- a poll

module _ {E : Type 0} (before now : OutsideTells) (buf : List ℕ) where
  went-old : (r : Result (Option ℕ) E) → LinkPolled Old r buf before now → LinksWent (link_polled Old (polled_in buf r) ∷ []) before now
  went-old (Ok None) told = record { old = record { gone = kept before.old.gone now.old.gone told.gone; count = told.count }; new = rw told.beside (stays before.new) }
  went-old (Ok (Some n)) told = record { old = record { gone = kept before.old.gone now.old.gone told.gone; count = told.count }; new = rw told.beside (stays before.new) }
  went-old (Err e) told = record { old = record { gone = kept before.old.gone now.old.gone told.gone; count = told.count }; new = rw told.beside (stays before.new) }

  went-new : (r : Result (Option ℕ) E) → LinkPolled New r buf before now → LinksWent (link_polled New (polled_in buf r) ∷ []) before now
  went-new (Ok None) told = record { new = record { gone = kept before.new.gone now.new.gone told.gone; count = told.count }; old = rw told.beside (stays before.old) }
  went-new (Ok (Some n)) told = record { new = record { gone = kept before.new.gone now.new.gone told.gone; count = told.count }; old = rw told.beside (stays before.old) }
  went-new (Err e) told = record { new = record { gone = kept before.new.gone now.new.gone told.gone; count = told.count }; old = rw told.beside (stays before.old) }

  pub polls-told : (face : Face) (result : Result (Option ℕ) E) → LinkPolled face result buf before now
      → Explains (polls face) (polled_in buf result) (link_polled face (polled_in buf result) ∷ []) before now
  polls-told Old result told = record {
    back = λ later agrees.
        let (first, is, poll, past) = poll-back before.old now.old result buf told.datagram told.told later.old agrees.old in (
          record { old = first; new = later.new; clock = later.clock },
          record { old = is; new = rw told.beside at agrees.new; clock = rw told.readings at agrees.clock },
          rw (poll, past) refl,
        );
    links = went-old result told;
  }
  polls-told New result told = record {
    back = λ later agrees.
        let (first, is, poll, past) = poll-back before.new now.new result buf told.datagram told.told later.new agrees.new in (
          record { old = later.old; new = first; clock = later.clock },
          record { old = rw told.beside at agrees.old; new = is; clock = rw told.readings at agrees.clock },
          rw (poll, past) refl,
        );
    links = went-new result told;
  }

-- ---- a send

send-back : {E : Type 0} (before now : LinkTells) (result : Result (Unit {0}) E) → now.coming ≡ before.coming
    → FailsAsTold before.failing now.failing result
    → (later : LinkAhead) → LinkAgrees now later
    → (first : LinkAhead) × LinkAgrees before first × (fails_next first.failing ≡ is_err result) × (past_send first ≡ later)
send-back before now result same fails later agrees =
    let (failing, failing_is, failed, next) = failing-back before.failing now.failing result fails later.failing agrees.failing in (
      record { gives = later.gives; failing = failing },
      record { gives = rw same at agrees.gives; failing = failing_is },
      failed,
      rw next refl,
    )

module _ {E : Type 0} (before now : OutsideTells) (datagram : List ℕ) where
  sent-old : (r : Result (Unit {0}) E) → DatagramSent Old r datagram before now → LinksWent (made_by_send (record { face = Old; datagram = datagram }) r) before now
  sent-old (Ok x) told = record { old = record { gone = told.gone; count = told.count }; new = rw told.beside (stays before.new) }
  sent-old (Err e) told = record { old = record { gone = kept before.old.gone now.old.gone told.gone; count = told.count }; new = rw told.beside (stays before.new) }

  sent-new : (r : Result (Unit {0}) E) → DatagramSent New r datagram before now → LinksWent (made_by_send (record { face = New; datagram = datagram }) r) before now
  sent-new (Ok x) told = record { new = record { gone = told.gone; count = told.count }; old = rw told.beside (stays before.old) }
  sent-new (Err e) told = record { new = record { gone = kept before.new.gone now.new.gone told.gone; count = told.count }; old = rw told.beside (stays before.old) }

  pub sends-told : (face : Face) (result : Result (Unit {0}) E) → DatagramSent face result datagram before now
      → Explains (sends (record { face = face; datagram = datagram })) tt (made_by_send (record { face = face; datagram = datagram }) result) before now
  sends-told Old result told = record {
    back = λ later agrees.
        let (first, is, failed, past) = send-back before.old now.old result told.coming told.told later.old agrees.old in (
          record { old = first; new = later.new; clock = later.clock },
          record { old = is; new = rw told.beside at agrees.new; clock = rw told.readings at agrees.clock },
          rw (failed, past) refl,
        );
    links = sent-old result told;
  }
  sends-told New result told = record {
    back = λ later agrees.
        let (first, is, failed, past) = send-back before.new now.new result told.coming told.told later.new agrees.new in (
          record { old = later.old; new = first; clock = later.clock },
          record { old = rw told.beside at agrees.old; new = is; clock = rw told.readings at agrees.clock },
          rw (failed, past) refl,
        );
    links = sent-new result told;
  }

-- ---- the clock

reading-back : (before now : Option (List ℕ)) (moment : ℕ) → Reads before now moment
    → (later : ClockAhead) → ClockAgrees now later
    → (first : ClockAhead) × ClockAgrees before first × (first.shows ≡ moment) × (past_reading first ≡ later)
reading-back None now moment told later agrees =
    (record { shows = moment; later = later.shows ∷ later.later }, tt, refl, refl)
reading-back (Some readings) None moment told later agrees = absurd told
reading-back (Some []) (Some now) moment told later agrees = absurd told
reading-back (Some (last ∷ [])) (Some []) moment told later agrees = let wrong = told.1 in absurd (cc)
reading-back (Some (last ∷ [])) (Some (next ∷ more)) moment told later agrees =
    let next_is : next ≡ last = cc in
    let more_is : more ≡ [] = cc in (
      record { shows = last; later = [] },
      (refl, refl),
      sym told.0,
      rw (agrees.0 ∙ next_is, agrees.1 ∙ more_is) refl,
    )
reading-back (Some (first ∷ second ∷ readings)) (Some []) moment told later agrees = let wrong = told.1 in absurd (cc)
reading-back (Some (first ∷ second ∷ readings)) (Some (next ∷ more)) moment told later agrees =
    let next_is : next ≡ second = cc in
    let more_is : more ≡ readings = cc in (
      record { shows = first; later = second ∷ readings },
      (refl, refl),
      sym told.0,
      rw (agrees.0 ∙ next_is, agrees.1 ∙ more_is) refl,
    )

pub reads-told : (before now : OutsideTells) (moment : ℕ) → ClockRead moment before now → Explains reads_clock moment (clock_read moment ∷ []) before now
reads-told before now moment told = record {
  back = λ later agrees.
      let (first, is, shows, past) = reading-back before.readings now.readings moment told.reading later.clock agrees.clock in (
        record { old = later.old; new = later.new; clock = first },
        record { old = rw told.old at agrees.old; new = rw told.new at agrees.new; clock = is },
        rw (past, shows) refl,
      );
  links = record { old = rw told.old (stays before.old); new = rw told.new (stays before.new) };
}
