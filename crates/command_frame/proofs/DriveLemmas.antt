-- How a run went of a task that is answered as its input comes.
use Rattle.std.proofs.Common.{◌≡◌, ℕ, ◌<◌, ◌≤◌, List, [], ◌++◌, length, take, Option, None, Some, IfSome, refl, sym, ◌∙◌, ap, arith, append_assoc, length-append, length-drop, drop, ◌+◌, ◌-◌, min}
use Rattle.std.proofs.lemmas.List.{append-nil, take-append-drop, take-take, length-take-le, nil_from_length}
use Rattle.std.specs.Io.KnownBytes.{Consumes, Keeps, IsAtEnd}
use Rattle.edge_traits.specs.declared.status.Status.{Status}
use Rattle.edge_traits.specs.declared.status.Status.TheVariants as statuses
use Rattle.edge_traits.specs.Content.{Gains, GainsFront, Took}
use Rattle.edge_traits.specs.Faults.{NoneFailed, LastFailed}
use Rattle.edge_traits.specs.Settled.{at_end, goes_on, Settled, put_before, GoesOnAs, EarliestDecides}
use Rattle.edge_traits.specs.Outcome.{SourceTells, SinkTells, EndsAs, Wrote, Ran}
use Rattle.edge_traits.proofs.ContentLemmas.{Gains-none, Gains-more, Consumes-none, Consumes-more}
use Rattle.edge_traits.proofs.FaultsLemmas.{NoneFailed-same, NoneFailed-more, LastFailed-after}
use Rattle.command_frame.specs.Task.{Settling, IsQuiet, WritesOfNothing, over, GoesOnTo, Takes}
use Rattle.command_frame.specs.Handing.{SettlesFirst, Handed, EndedSo, HandedEnd}
use Rattle.command_frame.specs.Within.{within}
use Rattle.command_frame.proofs.HandingLemmas.{GainsFront-more}
use Rattle.command_frame.proofs.WithinLemmas.{within-low, within-text, within-now, within-past, within-over, GoesOnTo-more}

-- ---- by the input

pub on_input : (P : List ℕ → Type 0) (left now : Option (List ℕ)) (taken cut : List ℕ) → Consumes left now (taken ++ cut)
    → ((rest : List ℕ) → P (taken ++ (cut ++ rest))) → IfSome left P
on_input P None now taken cut read all = tt
on_input P (Some input) None taken cut read all = absurd read
on_input P (Some input) (Some rest) taken cut read all =
    let same : input ≡ taken ++ (cut ++ rest) = read ∙ append_assoc taken cut rest in
    rw same (all rest)

pub on_end : (P : List ℕ → Type 0) (left now : Option (List ℕ)) (taken : List ℕ) → Consumes left now taken → IsAtEnd now → P taken → IfSome left P
on_end P None now taken read ends all = tt
on_end P (Some input) None taken read ends all = absurd read
on_end P (Some input) (Some rest) taken read ends all =
    let same : input ≡ taken = read ∙ (ap (λ (v : List ℕ). taken ++ v) ends ∙ append-nil taken) in
    rw same all

-- ---- what was written

pub gains-front : (a b : Option (List ℕ)) (text whole more : List ℕ) → Gains a b text → whole ≡ text ++ more → GainsFront a b whole
gains-front a None text whole more gains is = tt
gains-front None (Some now) text whole more gains is = absurd gains
gains-front (Some before) (Some now) text whole more gains is = (text, more, is, gains)

front-more : (a b c : Option (List ℕ)) (text new whole more : List ℕ) → Gains a b text → GainsFront b c new → whole ≡ (text ++ new) ++ more → GainsFront a c whole
front-more a b None text new whole more first second is = tt
front-more a None (Some now) text new whole more first second is = absurd second
front-more None (Some mid) (Some now) text new whole more first second is = absurd first
front-more (Some before) (Some mid) (Some now) text new whole more first (front, rest, parts, gains) is = (
  text ++ front,
  rest ++ more,
  rw (is, parts, append_assoc text (front ++ rest) more, append_assoc front rest more, append_assoc text front (rest ++ more)) refl,
  rw (gains, first, append_assoc before text front) refl,
)

append-inside : (a b c d : List ℕ) → (a ++ (b ++ c)) ++ d ≡ (a ++ b) ++ (c ++ d)
append-inside a b c d =
    append_assoc a (b ++ c) d ∙ ap (λ (v : List ℕ). a ++ v) (append_assoc b c d) ∙ sym (append_assoc a b (c ++ d))

-- what was written before a failed read is a front of the answer
pub fault-front : (settles : Settling) → EarliestDecides settles → (input : List ℕ) (left before now : Option (List ℕ))
    → Wrote settles statuses.ReadFault input left before now → GainsFront before now (settles at_end input).text
fault-front settles front input None before now wrote = absurd wrote
fault-front settles front input (Some rest) before now (taken, parts, open_end, gains) =
    let (more, is) : (more : List ℕ) × ((settles at_end (taken ++ rest)).text ≡ (settles goes_on taken).text ++ more) =
    by_end (settles goes_on taken).ends open_end (front at_end taken rest) in
    rw parts (gains-front before now (settles goes_on taken).text _ more gains is)
  where
    by_end : (e : Option Status) → e ≡ None → GoesOnAs e (settles goes_on taken) (settles at_end (taken ++ rest))
        → (more : List ℕ) × ((settles at_end (taken ++ rest)).text ≡ (settles goes_on taken).text ++ more)
    by_end None is front = front
    by_end (Some status) is front = absurd (cc)

-- ---- the run so far

-- a task that stands so, and began or not, was fed all that came, and what that settles was written
pub record Going (Stands : Settling → Type 0) (Began : Type 0) (settles : Settling) (source source_now : SourceTells) (sink sink_now : SinkTells) (count : ℕ) : Type 0 where
  pub came : List ℕ
  pub text : List ℕ
  pub later : Settling
  pub stands : Stands later
  pub quiet : IsQuiet later
  pub goes : GoesOnTo settles came text later
  pub began : Began → 0 < length came + length (later at_end []).text
  pub size : length came ≡ count
  pub read : Consumes source.left source_now.left came
  pub reads : NoneFailed source.calls source_now.calls
  pub wrote : Gains sink.held sink_now.held text
  pub writes : NoneFailed sink.calls sink_now.calls

module _ (most : ℕ) (Stands : Settling → Type 0) (Began : Type 0) (settles : Settling) (source source_now : SourceTells) (sink sink_now : SinkTells) (count : ℕ)
    (going : Going Stands Began settles source source_now sink sink_now count) (low : count ≤ most) where
  inside : length going.came ≤ most
  inside = omega (arith, going.size, low)

  pub ran-fault : (later : SourceTells) → Keeps source_now.left later.left → LastFailed source_now.calls later.calls
      → Ran (within most settles) statuses.ReadFault source later sink sink_now
  ran-fault later kept failed = record {
    wrote = wrote source.left source_now.left later.left going.read kept;
    reads = LastFailed-after source.calls source_now.calls later.calls going.reads failed;
    writes = going.writes;
    to_end = λ done. absurd (cc);
  }
    where
      now : within most settles goes_on going.came ≡ record { text = going.text; ends = None }
      now = within-now settles going.later going.came going.text going.goes most inside going.quiet

      wrote : (a b c : Option (List ℕ)) → Consumes a b going.came → Keeps b c
          → IfSome a (λ input. Wrote (within most settles) statuses.ReadFault input c sink.held sink_now.held)
      wrote None b c read kept = tt
      wrote (Some input) None c read kept = absurd read
      wrote (Some input) (Some rest) None read kept = absurd kept
      wrote (Some input) (Some rest) (Some left) read kept = (going.came, rw kept read, rw now refl, rw now going.wrote)

  -- octets were handed on that were read, and perhaps not all of those
  module _ (later : SourceTells) (piece cut : List ℕ) (fits : length (going.came ++ piece) ≤ most)
      (read : Consumes source.left later.left ((going.came ++ piece) ++ cut)) (reads : NoneFailed source_now.calls later.calls) where
    -- what was written is a front of the answer
    text-so-far : (new : List ℕ) → SettlesFirst going.later piece new → (more : List ℕ)
        → (rest : List ℕ) × ((within most settles at_end ((going.came ++ piece) ++ more)).text ≡ (going.text ++ new) ++ rest)
    text-so-far new first more =
        let low : length (going.came ++ first.taken) ≤ most =
        omega (
          arith,
          fits,
          ap length first.parts,
          length-append going.came piece,
          length-append going.came first.taken,
          length-append first.taken first.left,
        ) in
        let (rest, is) = within-text settles first.later (going.came ++ first.taken) (going.text ++ (new ++ first.due))
        (GoesOnTo-more settles going.later first.later going.came going.text first.taken (new ++ first.due) going.goes first.goes) most low at_end (first.left ++ more) in
        let same : (going.came ++ piece) ++ more ≡ (going.came ++ first.taken) ++ (first.left ++ more) =
        ap (λ (v : List ℕ). (going.came ++ v) ++ more) first.parts ∙ append-inside going.came first.taken first.left more in
        (first.due ++ rest, rw same (is ∙ append-inside going.text new first.due rest))

    ran-write : (new : List ℕ) → SettlesFirst going.later piece new → (after : SinkTells) → GainsFront sink_now.held after.held new
        → LastFailed sink_now.calls after.calls → Ran (within most settles) statuses.WriteFault source later sink after
    ran-write new first after gains failed = record {
      wrote = on_input (λ input. Wrote (within most settles) statuses.WriteFault input later.left sink.held after.held)
          source.left later.left (going.came ++ piece) cut read
          (λ rest.
          let (more, is) = text-so-far new first (cut ++ rest) in
          front-more sink.held sink_now.held after.held going.text new _ more going.wrote gains is);
      reads = NoneFailed-more source.calls source_now.calls later.calls going.reads reads;
      writes = LastFailed-after sink.calls sink_now.calls after.calls going.writes failed;
      to_end = λ done. absurd (cc);
    }

    -- there was no memory for octets that came
    ran-memory : (new : List ℕ) → SettlesFirst going.later piece new → (after : SinkTells) → Gains sink_now.held after.held new
        → NoneFailed sink_now.calls after.calls → 0 < length piece + length cut → Ran (within most settles) statuses.Memory source later sink after
    ran-memory new first after gains writes some = record {
      wrote = on_input (λ input. Wrote (within most settles) statuses.Memory input later.left sink.held after.held)
          source.left later.left (going.came ++ piece) cut read
          (λ rest.
          let (more, is) = text-so-far new first (cut ++ rest) in
          let long : 0 < length ((going.came ++ piece) ++ (cut ++ rest)) =
          omega (arith, length-append (going.came ++ piece) (cut ++ rest), length-append cut rest, length-append going.came piece, some) in (
            omega (arith, long),
            gains-front sink.held after.held (going.text ++ new) _ more
                (Gains-more sink.held sink_now.held after.held going.text new going.wrote gains) is,
          ));
      reads = NoneFailed-more source.calls source_now.calls later.calls going.reads reads;
      writes = NoneFailed-more sink.calls sink_now.calls after.calls going.writes writes;
      to_end = λ done. absurd (cc);
    }

    -- all that they settle was written
    module _ (new : List ℕ) (after : SinkTells) (gains : Gains sink_now.held after.held new) (writes : NoneFailed sink_now.calls after.calls)
        (StandsNow : Settling → Type 0) where
      all-written : Gains sink.held after.held (going.text ++ new)
      all-written = Gains-more sink.held sink_now.held after.held going.text new going.wrote gains

      over-now : (status : Status) → Takes StandsNow going.later piece new (Some status) → (more : List ℕ)
          → within most settles at_end ((going.came ++ piece) ++ more) ≡ record { text = going.text ++ new; ends = Some status }
      over-now status (stop, goes) more =
          within-over settles (going.came ++ piece) (going.text ++ new) status
          (GoesOnTo-more settles going.later (over status) going.came going.text piece new going.goes goes) most fits at_end more

      ended-so : (status : Status) → Takes StandsNow going.later piece new (Some status)
          → IfSome source.left (λ input. EndsAs (within most settles at_end input) status sink.held after.held)
      ended-so status takes = on_input (λ input. EndsAs (within most settles at_end input) status sink.held after.held)
          source.left later.left (going.came ++ piece) cut read
          (λ rest. rw (over-now status takes (cut ++ rest)) (refl, all-written))

      ran-refused : Takes StandsNow going.later piece new (Some statuses.Refused)
          → Ran (within most settles) statuses.Refused source later sink after
      ran-refused takes = record {
        wrote = ended-so statuses.Refused takes;
        reads = NoneFailed-more source.calls source_now.calls later.calls going.reads reads;
        writes = NoneFailed-more sink.calls sink_now.calls after.calls going.writes writes;
        to_end = λ done. absurd (cc);
      }

      ran-stopped : Takes StandsNow going.later piece new (Some statuses.Limit)
          → Ran (within most settles) statuses.Limit source later sink after
      ran-stopped takes = record {
        wrote = ended-so statuses.Limit takes;
        reads = NoneFailed-more source.calls source_now.calls later.calls going.reads reads;
        writes = NoneFailed-more sink.calls sink_now.calls after.calls going.writes writes;
        to_end = λ done. absurd (cc);
      }

      pub ran-limit : Takes StandsNow going.later piece new None → length (going.came ++ piece) ≡ most → 0 < length cut
          → Ran (within most settles) statuses.Limit source later sink after
      ran-limit (last, stands, quiet, goes) size some = record {
        wrote = on_input (λ input. Wrote (within most settles) statuses.Limit input later.left sink.held after.held)
            source.left later.left (going.came ++ piece) cut read
            (λ rest.
            let long : 0 < length (cut ++ rest) = omega (arith, length-append cut rest, some) in
            rw (within-past settles last (going.came ++ piece) (going.text ++ new)
            (GoesOnTo-more settles going.later last going.came going.text piece new going.goes goes)
            most quiet size at_end (cut ++ rest) long) (refl, all-written));
        reads = NoneFailed-more source.calls source_now.calls later.calls going.reads reads;
        writes = NoneFailed-more sink.calls sink_now.calls after.calls going.writes writes;
        to_end = λ done. absurd (cc);
      }

      pub goes-on : Takes StandsNow going.later piece new None → cut ≡ [] → (counted : ℕ) → length (going.came ++ piece) ≡ counted
          → (BeganNow : Type 0) → 0 < counted → Going StandsNow BeganNow settles source later sink after counted
      goes-on (last, stands, quiet, goes) none counted size BeganNow some = record {
        came = going.came ++ piece;
        text = going.text ++ new;
        later = last;
        stands = stands;
        quiet = quiet;
        goes = GoesOnTo-more settles going.later last going.came going.text piece new going.goes goes;
        began = λ began. omega (arith, size, some);
        size = size;
        read = rw (none, append-nil (going.came ++ piece)) at read;
        reads = NoneFailed-more source.calls source_now.calls later.calls going.reads reads;
        wrote = all-written;
        writes = NoneFailed-more sink.calls sink_now.calls after.calls going.writes writes;
      }

    -- the run ended with them
    pub ran-handed : (StandsNow : Settling → Type 0) (after : SinkTells) (status : Status) → 0 < length piece + length cut
        → Handed StandsNow going.later piece sink_now after (Some status) → Ran (within most settles) status source later sink after
    ran-handed StandsNow after statuses.WriteFault some (new, first, gains, failed) = ran-write new first after gains failed
    ran-handed StandsNow after statuses.Memory some (new, first, gains, writes) = ran-memory new first after gains writes some
    ran-handed StandsNow after statuses.Refused some (new, takes, gains, writes) = ran-refused new after gains writes StandsNow takes
    ran-handed StandsNow after statuses.Limit some (new, takes, gains, writes) = ran-stopped new after gains writes StandsNow takes
    ran-handed StandsNow after statuses.Done some handed = absurd handed
    ran-handed StandsNow after statuses.Usage some handed = absurd handed
    ran-handed StandsNow after statuses.ReadFault some handed = absurd handed

  -- the input ended
  module _ (later : SourceTells) (read : Consumes source.left later.left going.came) (end : IsAtEnd later.left) (reads : NoneFailed source_now.calls later.calls)
      (after : SinkTells) where
    whole : within most settles at_end going.came ≡ put_before going.text (going.later at_end [])
    whole =
        let all = going.goes at_end [] in
        within-low most settles at_end going.came inside ∙ (rw (append-nil going.came) at all)

    reads-now : NoneFailed source.calls later.calls
    reads-now = NoneFailed-more source.calls source_now.calls later.calls going.reads reads

    ended-as : (status : Status) → EndsAs (going.later at_end []) status sink_now.held after.held
        → EndsAs (within most settles at_end going.came) status sink.held after.held
    ended-as status (ends, gains) =
        rw whole (ends, Gains-more sink.held sink_now.held after.held going.text (going.later at_end []).text going.wrote gains)

    ran-done : EndedSo statuses.Done going.later sink_now after → Ran (within most settles) statuses.Done source later sink after
    ran-done (ended, writes) = record {
      wrote = on_end (λ input. EndsAs (within most settles at_end input) statuses.Done sink.held after.held)
          source.left later.left going.came read end (ended-as statuses.Done ended);
      reads = reads-now;
      writes = NoneFailed-more sink.calls sink_now.calls after.calls going.writes writes;
      to_end = λ done. end;
    }

    ran-end-refused : EndedSo statuses.Refused going.later sink_now after → Ran (within most settles) statuses.Refused source later sink after
    ran-end-refused (ended, writes) = record {
      wrote = on_end (λ input. EndsAs (within most settles at_end input) statuses.Refused sink.held after.held)
          source.left later.left going.came read end (ended-as statuses.Refused ended);
      reads = reads-now;
      writes = NoneFailed-more sink.calls sink_now.calls after.calls going.writes writes;
      to_end = λ done. end;
    }

    ran-end-limit : EndedSo statuses.Limit going.later sink_now after → Ran (within most settles) statuses.Limit source later sink after
    ran-end-limit (ended, writes) = record {
      wrote = on_end (λ input. EndsAs (within most settles at_end input) statuses.Limit sink.held after.held)
          source.left later.left going.came read end (ended-as statuses.Limit ended);
      reads = reads-now;
      writes = NoneFailed-more sink.calls sink_now.calls after.calls going.writes writes;
      to_end = λ done. end;
    }

    front-now : GainsFront sink_now.held after.held (going.later at_end []).text
        → GainsFront sink.held after.held (within most settles at_end going.came).text
    front-now front =
        rw whole (GainsFront-more sink.held sink_now.held after.held going.text (going.later at_end []).text going.wrote front)

    ran-end-write : GainsFront sink_now.held after.held (going.later at_end []).text → LastFailed sink_now.calls after.calls
        → Ran (within most settles) statuses.WriteFault source later sink after
    ran-end-write front failed = record {
      wrote = on_end (λ input. GainsFront sink.held after.held (within most settles at_end input).text)
          source.left later.left going.came read end (front-now front);
      reads = reads-now;
      writes = LastFailed-after sink.calls sink_now.calls after.calls going.writes failed;
      to_end = λ done. end;
    }

    ran-end-memory : Began → GainsFront sink_now.held after.held (going.later at_end []).text → NoneFailed sink_now.calls after.calls
        → Ran (within most settles) statuses.Memory source later sink after
    ran-end-memory began front writes = record {
      wrote = on_end (λ input. Wrote (within most settles) statuses.Memory input later.left sink.held after.held)
          source.left later.left going.came read end (wanted, front-now front);
      reads = reads-now;
      writes = NoneFailed-more sink.calls sink_now.calls after.calls going.writes writes;
      to_end = λ done. end;
    }
      where
        wanted : 0 < length going.came + length (within most settles at_end going.came).text
        wanted =
            let text = ap (λ (s : Settled). length s.text) whole in
            omega (arith, going.began began, text, length-append going.text (going.later at_end []).text)

    pub ran-closed : (status : Status) → HandedEnd Began going.later sink_now after status → Ran (within most settles) status source later sink after
    ran-closed statuses.Done ended = ran-done ended
    ran-closed statuses.Refused ended = ran-end-refused ended
    ran-closed statuses.Limit ended = ran-end-limit ended
    ran-closed statuses.WriteFault (front, failed) = ran-end-write front failed
    ran-closed statuses.Memory (began, front, writes) = ran-end-memory began front writes
    ran-closed statuses.Usage ended = absurd ended
    ran-closed statuses.ReadFault ended = absurd ended

-- ---- one read

-- so many octets of the buffer were read, and of those the first, `size`, are within the limit
pub record CameMore (most : ℕ) (before now : Option (List ℕ)) (came buffer : List ℕ) (n size count : ℕ) : Type 0 where
  pub read : Consumes before now ((came ++ take size buffer) ++ drop size (take n buffer))
  pub counted : length (came ++ take size buffer) ≡ count + size
  pub fits : length (came ++ take size buffer) ≤ most
  pub full : size < n → length (came ++ take size buffer) ≡ most
  pub cut : size < n → 0 < length (drop size (take n buffer))
  pub none : n ≤ size → drop size (take n buffer) ≡ []
  pub some : 0 < n → 0 < length (take size buffer) + length (drop size (take n buffer))

pub came-more : (most : ℕ) (a b c : Option (List ℕ)) (came buffer : List ℕ) (n size count : ℕ) → count ≤ most → length came ≡ count
    → size ≡ min n (most - count) → n ≤ length buffer → Consumes a b came → Consumes b c (take n buffer)
    → CameMore most a c came buffer n size count
came-more most a b c came buffer n size count low counted size_is inside first second =
    let fits : size ≤ n = omega (arith, size_is) in
    let parts : take n buffer ≡ take size buffer ++ drop size (take n buffer) =
    sym (take-append-drop size (take n buffer)) ∙ ap (λ (v : List ℕ). v ++ drop size (take n buffer)) (take-take size n buffer fits) in
    let whole : length (take n buffer) ≡ n = length-take-le n buffer inside in
    let front : length (take size buffer) ≡ size = length-take-le size buffer (omega (arith, fits, inside)) in
    let both : length (came ++ take size buffer) ≡ count + size = omega (arith, length-append came (take size buffer), front, counted) in
    record {
      read = rw (append_assoc came (take size buffer) (drop size (take n buffer)), ← parts) (Consumes-more a b c came (take n buffer) first second);
      counted = both;
      fits = omega (arith, both, size_is, low);
      full = λ less. omega (arith, both, size_is, low, less);
      cut = λ less. omega (arith, length-drop size (take n buffer), whole, less);
      none = λ all. nil_from_length _ (omega (arith, length-drop size (take n buffer), whole, all));
      some = λ octets. omega (arith, octets, front, length-drop size (take n buffer), whole);
    }

pub read-end : (a b c : Option (List ℕ)) (came buffer : List ℕ) (n : ℕ) → n ≡ 0 → Consumes a b came → Took b c (take n buffer)
    → Consumes a c came × IsAtEnd c
read-end a b c came buffer n none first took =
    let last = rw none at took in
    let read = Consumes-more a b c came [] first last.read in
    (rw (append-nil came) at read, last.ends refl)

pub going-start : (Stands : Settling → Type 0) (Began : Type 0) (settles : Settling) (source : SourceTells) (sink : SinkTells)
    → Stands settles → IsQuiet settles → (Began → WritesOfNothing settles) → Going Stands Began settles source source sink sink 0
going-start Stands Began settles source sink stands quiet fresh = record {
  came = [];
  text = [];
  later = settles;
  stands = stands;
  quiet = quiet;
  goes = λ ends more. refl;
  began = λ began. omega (arith, fresh began);
  size = refl;
  read = Consumes-none source.left;
  reads = NoneFailed-same source.calls;
  wrote = Gains-none sink.held;
  writes = NoneFailed-same sink.calls;
}
