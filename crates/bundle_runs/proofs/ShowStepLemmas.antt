-- What a piece makes of the reading of `show`.
use Rattle.std.proofs.Common.{false, ◌≡◌, ℕ, ◌+◌, ◌-◌, ◌<◌, ◌≤◌, Bool, List, [], ◌++◌, length, take, drop, codes, Option, None, Some, Result, Ok, Err, is_err, IfOk, refl, sym, ◌∙◌, ap, arith, append_assoc, length-append}
use Rattle.std.proofs.lemmas.List.{append-nil, take-append-drop, length-take-le, length-drop, nil_from_length}
use Rattle.std.proofs.Math.Seq.{take-append_seam}
use Rattle.std.specs.declared.alloc.AllocError.{AllocError}
use Rattle.edge_traits.specs.declared.status.Status.TheVariants as statuses
use Rattle.command_frame.specs.declared.part_task.Taken.TheVariants as takens
use Rattle.command_frame.specs.Task.{Settling, over, Finishes}
use Rattle.command_frame.specs.PartTask.{FeedsPart, LeavesFewer, TellsPart, IsDue}
use Rattle.command_frame.proofs.WithinLemmas.{GoesOnTo-more}
use Rattle.wire_fields.specs.Reading.{IsOctets}
use Rattle.bundle7.specs.Streaming.{Reading}
use Rattle.bundle_judges.specs.Judging6 as judging6
use Rattle.bundle_json.specs.declared.telling6.Telling6.{Telling6}
use Rattle.bundle_runs.specs.declared.commands.command.Command.TheVariants.{Show}
use Rattle.bundle_runs.specs.declared.front.Bundle.{Bundle}
use Rattle.bundle_runs.specs.declared.front.Cause.{Cause}
use Rattle.bundle_runs.specs.declared.given.Given.{Given}
use Rattle.bundle_runs.specs.declared.given.Given.TheVariants.{Whole, Refused}
use Rattle.bundle_runs.specs.declared.unfinished.Unfinished.{Unfinished}
use Rattle.bundle_runs.specs.declared.unfinished.Unfinished.TheVariants.{Six, Seven}
use Rattle.bundle_runs.specs.declared.coming.Coming.{Coming}
use Rattle.bundle_runs.specs.declared.coming.Coming.TheVariants as comings
use Rattle.bundle_runs.specs.declared.bundle_reader.Standing.{Standing}
use Rattle.bundle_runs.specs.declared.bundle_reader.Next.TheVariants.{After, End}
use Rattle.bundle_runs.specs.declared.show_reader.Showing.{Showing}
use Rattle.bundle_runs.specs.Front.{front_of}
use Rattle.bundle_runs.specs.Answering.{settles_from}
use Rattle.bundle_runs.specs.WrittenLines.{refused_line}
use Rattle.bundle_runs.specs.Taking.{kept_of, kept_by, keeps_going, settling_of, IsReady, IsCut, HasBegun, IsSound, IsCutAt}
use Rattle.bundle_runs.specs.Legal.{IsLegal}
use Rattle.bundle_runs.specs.Coming.{TookNone, ComesFor, ComesForAny, JudgedSo}
use Rattle.bundle_runs.specs.Showing.{octets_of_six, Owes, OwesLine, steps_due, ShowsAs, IsShowing, StandsShowing, KeepsOctets, KeepsOneBundle, parts_due, IsBundle, BeginsLine, ShowsStep, ShowsSoFar}
use Rattle.bundle_runs.proofs.TakingLemmas.{quiet, finish-done, finish-cut, cut-inside}
use Rattle.bundle_runs.proofs.BegunLemmas.{front-kept}
use Rattle.bundle_runs.proofs.ComingLemmas.{coming-some, coming-none}
use Rattle.bundle_runs.proofs.ShowJudgeLemmas.{kept-is, no-due, old-room, inside-whole, room-whole, bundle-whole, read-legal, room-refused}

-- ---- the steps so far

pub some-old : (s : Showing) → s.telling ≡ None → IsShowing s → (old : Standing) × ShowsAs s [] old
some-old s none (due, old, shows) = (old, no-due s due old none shows)

-- octets of one bundle were judged, whatever reading it stands for
abbrev Judges : Showing → List ℕ → Option Coming → Reading → Given (Option Bundle) → Type 0
Judges s left begun seven given = (old : Standing) → ComesForAny s.begun s.seven old.unfinished → IsSound old
    → old.at + old.taken + length left ≤ 67108864 → JudgedSo old left begun seven given

module _ (s : Showing) (left : List ℕ) (fits : IsOctets left) (some : 0 < length left) (none : s.telling ≡ None)
    (room : s.at + s.taken + length left ≤ 67108864) where
  pub judged-for : (begun : Option Coming) (seven : Reading) (given : Given (Option Bundle)) → Judges s left begun seven given
      → (old : Standing) → ShowsAs s [] old → JudgedSo old left begun seven given
  judged-for begun seven given judges old shows = judges old shows.bundle shows.sound (old-room s left fits some none room old shows)

  module _ (showing : IsShowing s) (begun : Option Coming) (seven : Reading) where
    pub whole-inside-of : (found : Option Bundle) (used : ℕ) → Judges s left begun seven (Whole found used) → used ≤ length left
    whole-inside-of found used judges =
        let (old, shows) = some-old s none showing in
        (inside-whole s left fits some none room old shows begun seven found used (judged-for begun seven (Whole found used) judges old shows)).1

    pub whole-room-of : (found : Option Bundle) (used : ℕ) → Judges s left begun seven (Whole found used)
        → (s.at + (s.taken + used) ≤ 67108864) × (s.number ≤ 67108864)
    whole-room-of found used judges =
        let (old, shows) = some-old s none showing in
        room-whole s left fits some none room old shows begun seven found used (judged-for begun seven (Whole found used) judges old shows)

    pub read-legal-of : (b : Bundle) (used : ℕ) → Judges s left begun seven (Whole (Some b) used) → IsLegal b
    read-legal-of b used judges =
        let (old, shows) = some-old s none showing in
        read-legal s left fits some none room old shows begun seven (Some b) used (judged-for begun seven (Whole (Some b) used) judges old shows) b refl

    pub whole-bundle-of : (used : ℕ) → Judges s left begun seven (Whole None used) → (octets : List ℕ) → octets ≡ s.octets.items ++ take used left
        → (b : Bundle) × IsBundle octets b
    whole-bundle-of used judges octets is =
        let (old, shows) = some-old s none showing in
        let judged = judged-for begun seven (Whole None used) judges old shows in
        (judged.took.finds.0, bundle-whole s left fits some none room old shows begun seven None used judged octets refl is)

    pub refused-room-of : (at : ℕ) (cause : Cause) → Judges s left begun seven (Refused at cause) → s.at + at ≤ 67108864
    refused-room-of at cause judges =
        let (old, shows) = some-old s none showing in
        room-refused s left fits some none room old shows begun seven at cause (judged-for begun seven (Refused at cause) judges old shows)

pub shows-kept : (s new : Showing) (left : List ℕ) (used : ℕ) (before now : List ℕ) → s.telling ≡ None → IsShowing s
    → s.at + s.taken + length left ≤ 67108864
    → ((old : Standing) → ShowsAs s [] old → ShowsStep old left before new now (After used))
    → IsShowing new × (new.at + new.taken + length (drop used left) ≤ 67108864) × (0 < used) × (used ≤ length left)
shows-kept s new left used before now none showing room step =
    let (old, shows) = some-old s none showing in
    let (some, inside, on) = step old shows in (
      (on.due, on.later, on.shows),
      omega (
        arith,
        room,
        on.passed,
        length-take-le used left inside,
        inside,
        on.shows.place,
        on.shows.took,
        shows.place,
        shows.took,
        length-drop used left,
      ),
      some,
      inside,
    )

pub so-far-more : (old : Standing) (s new : Showing) (piece left : List ℕ) (used : ℕ) (before text after : List ℕ) → s.telling ≡ None
    → ShowsSoFar old piece left before s text
    → ((now : Standing) → ShowsAs s [] now → ShowsStep now left text new after (After used)) → ShowsSoFar old piece (drop used left) before new after
so-far-more old s new piece left used before text after none so_far step =
    let on = so_far.on in
    let nothing : on.due ≡ [] = (kept-is s on.due on.later none on.shows).1 in
    let (some, inside, more) = step on.later (no-due s on.due on.later none on.shows) in
    record {
      taken = so_far.taken ++ take used left;
      parts =
          so_far.parts ∙ ap (λ (v : List ℕ). so_far.taken ++ v) (sym (take-append-drop used left))
          ∙ sym (append_assoc so_far.taken (take used left) (drop used left));
      on = record {
        later = more.later;
        due = more.due;
        shows = more.shows;
        text = on.text ++ more.text;
        added =
            more.added ∙ ap (λ (v : List ℕ). v ++ more.text) on.added
            ∙ append_assoc before on.text more.text;
        goes =
            let all : (on.text ++ on.due) ++ (more.text ++ more.due) ≡ (on.text ++ more.text) ++ more.due =
            ap (λ (v : List ℕ). (on.text ++ v) ++ (more.text ++ more.due)) nothing
            ∙ ap (λ (v : List ℕ). v ++ (more.text ++ more.due)) (append-nil on.text)
            ∙ sym (append_assoc on.text more.text more.due) in
            rw (← all) (GoesOnTo-more (settling_of old) (settling_of on.later) (settling_of more.later) so_far.taken (on.text ++ on.due)
            (take used left) (more.text ++ more.due) on.goes more.goes);
        passed = omega (arith, on.passed, more.passed, length-append so_far.taken (take used left));
      };
    }

pub so-far-all : (old : Standing) (s : Showing) (piece left before text : List ℕ) → s.telling ≡ None → length left ≡ 0 → ShowsSoFar old piece left before s text
    → FeedsPart (StandsShowing s) (settling_of old) piece before text takens.All
so-far-all old s piece left before text none empty so_far =
    let on = so_far.on in
    let nothing : on.due ≡ [] = (kept-is s on.due on.later none on.shows).1 in
    let plain : on.text ++ on.due ≡ on.text = ap (λ (v : List ℕ). on.text ++ v) nothing ∙ append-nil on.text in
    let all : piece ≡ so_far.taken = so_far.parts ∙ ap (λ (v : List ℕ). so_far.taken ++ v) (nil_from_length left empty) ∙ append-nil so_far.taken in
    record {
      text = on.text;
      added = on.added;
      takes = (
        settling_of on.later,
        (on.later, no-due s on.due on.later none on.shows, refl),
        quiet on.later on.shows.sound,
        rw all (rw plain at on.goes),
      );
    }

pub so-far-due : (old : Standing) (s : Showing) (piece left before text : List ℕ) (used : ℕ) → used ≡ length piece - length left
    → ShowsSoFar old piece left before s text
    → FeedsPart (StandsShowing s) (settling_of old) piece before text (takens.Due used)
so-far-due old s piece left before text used is so_far =
    let on = so_far.on in
    let size : used ≡ length so_far.taken = omega (arith, is, ap length so_far.parts, length-append so_far.taken left) in
    let front : take used piece ≡ so_far.taken =
    ap (λ (n : ℕ). take n piece) size ∙ ap (take (length so_far.taken)) so_far.parts ∙ take-append_seam so_far.taken left in
    record {
      text = on.text;
      added = on.added;
      takes = (on.due, (settling_of on.later, (on.later, on.shows, refl), quiet on.later on.shows.sound, rw front on.goes));
    }

-- the run ends with the octets that are left
pub so-far-stop : (old : Standing) (s new : Showing) (piece left before text after : List ℕ) → s.telling ≡ None → ShowsSoFar old piece left before s text
    → ((now : Standing) → ShowsAs s [] now → ShowsStep now left text new after End)
    → FeedsPart (StandsShowing new) (settling_of old) piece before after (takens.Ends statuses.Refused)
so-far-stop old s new piece left before text after none so_far step =
    let on = so_far.on in
    let nothing : on.due ≡ [] = (kept-is s on.due on.later none on.shows).1 in
    let plain : on.text ++ on.due ≡ on.text = ap (λ (v : List ℕ). on.text ++ v) nothing ∙ append-nil on.text in
    let ends = step on.later (no-due s on.due on.later none on.shows) in
    record {
      text = on.text ++ ends.text;
      added =
          ends.added ∙ ap (λ (v : List ℕ). v ++ ends.text) on.added
          ∙ append_assoc before on.text ends.text;
      takes = (
        tt,
        rw so_far.parts (GoesOnTo-more (settling_of old) (settling_of on.later) (over statuses.Refused) so_far.taken on.text left ends.text
            (rw plain at on.goes) ends.goes),
      );
    }

-- ---- the start and the end

pub shows-fresh : (s : Showing) → s.taken ≡ 0 → s.begun ≡ None → s.telling ≡ None → s.octets.items ≡ [] → TookNone s.seven → s.at ≤ 67108864
    → s.number ≤ s.at + 1 → ShowsAs s [] (record { command = Show; any_refused = false; joiner = record { joins = []; spent = false }; number = s.number; at = s.at; taken = 0; unfinished = None })
shows-fresh s none_taken none_begun none_told none_kept rests low counted = record {
  command = refl;
  number = refl;
  place = refl;
  took = none_taken;
  bundle = rw none_begun rests;
  kept = rw none_told none_kept;
  owes = rw none_told refl;
  sound = record { begun = tt; held = refl; within = omega (arith, low); counted = counted; memory = refl; clean = λ plain. refl };
}

pub stands-start : (s : Showing) → s.number ≡ 1 → s.at ≡ 0 → s.taken ≡ 0 → s.begun ≡ None → s.telling ≡ None → s.octets.items ≡ []
    → TookNone s.seven → StandsShowing s [] (settles_from Show false [] 1 0)
stands-start s number place none_taken none_begun none_told none_kept rests = (
  record { command = Show; any_refused = false; joiner = record { joins = []; spent = false }; number = s.number; at = s.at; taken = 0; unfinished = None },
  shows-fresh s none_taken none_begun none_told none_kept rests (omega (arith, place)) (omega (arith, place, number)),
  rw (number, place) refl,
)

pub showing-counts : (s : Showing) → IsShowing s → (s.at ≤ 67108864) × (s.number ≤ s.at + 1)
showing-counts s (due, old, shows) = (
  omega (arith, shows.place, shows.sound.within),
  omega (arith, shows.place, shows.number, shows.sound.counted),
)

-- places and counts stay, and nothing is kept any more
pub showing-after : (s new : Showing) → IsShowing s → new.number ≡ s.number → new.at ≡ s.at → new.taken ≡ 0 → new.begun ≡ None
    → new.telling ≡ None → new.octets.items ≡ [] → TookNone new.seven → IsShowing new
showing-after s new showing number place none_taken none_begun none_told none_kept rests =
    let counts = showing-counts s showing in (
      [],
      record { command = Show; any_refused = false; joiner = record { joins = []; spent = false }; number = new.number; at = new.at; taken = 0; unfinished = None },
      shows-fresh new none_taken none_begun none_told none_kept rests (omega (arith, place, counts.0)) (omega (arith, place, number, counts.1)),
    )

-- a part was told, and the reading stands where it did
showing-told : (s new : Showing) → new.number ≡ s.number → new.at ≡ s.at → new.taken ≡ s.taken → new.begun ≡ s.begun → new.seven ≡ s.seven
    → 0 < parts_due s → (before now : List ℕ) → {due : List ℕ} → (line : BeginsLine due before new.telling new.octets.items now)
    → (old : Standing) → ShowsAs s due old → ShowsAs new line.due old
showing-told s new number place took same_begun same_seven some before now line old shows = record {
  command = shows.command;
  number = number ∙ shows.number;
  place = place ∙ shows.place;
  took = took ∙ shows.took;
  bundle = rw (same_begun, same_seven) shows.bundle;
  kept = rw (nothing s.telling refl) line.none_begun;
  owes = line.owes;
  sound = shows.sound;
}
  where
    nothing : (telling : Option Telling6) → s.telling ≡ telling → old.unfinished ≡ None
    nothing None none =
        let zero : 0 < 0 = rw none at some in
        absurd (omega (arith, zero))
    nothing (Some telling) is = rw is at shows.kept

-- ---- telling

-- no part is due, so no text is
nothing-due : (telling : Option Telling6) (octets due : List ℕ) → steps_due telling octets ≡ 0 → Owes telling octets due → due ≡ []
nothing-due None octets due none owes = owes
nothing-due (Some telling) octets due none owes = absurd (omega (arith, none, owes.some))

-- nothing but the line that is told and its octets differ
abbrev pub with_line_of : Showing → Showing → Showing
with_line_of new s = record {
  number = s.number;
  at = s.at;
  taken = s.taken;
  begun = s.begun;
  telling = new.telling;
  octets = new.octets;
  seven = s.seven;
}

module _ (s new : Showing) (before now : List ℕ) (some : 0 < parts_due s) where
  told-on : new ≡ with_line_of new s → {due : List ℕ} → (line : BeginsLine due before new.telling new.octets.items now)
      → (old : Standing) → ShowsAs s due old → ShowsAs new line.due old
  told-on same = showing-told s new (ap (λ (t : Showing). t.number) same) (ap (λ (t : Showing). t.at) same) (ap (λ (t : Showing). t.taken) same)
      (ap (λ (t : Showing). t.begun) same) (ap (λ (t : Showing). t.seven) same) some before now

  pub tells-part : (result : Result Bool AllocError)
      → IfOk result (λ more. new ≡ with_line_of new s)
      → ((due : List ℕ) → Owes s.telling s.octets.items due → IfOk result (λ more. BeginsLine due before new.telling new.octets.items now))
      → IfOk result (LeavesFewer (parts_due s) (parts_due new))
      → (due : List ℕ) (settles : Settling) → StandsShowing s due settles → IfOk result (TellsPart (StandsShowing new) settles due before now)
  tells-part (Err e) same told leaves due settles stands = tt
  tells-part (Ok more) same told leaves due settles (old, shows, is) =
      let line = told due shows.owes in
      record {
        part = line.text;
        rest = line.due;
        added = line.added;
        parts = line.parts;
        stands = (
          old,
          told-on same line old shows,
          is,
        );
        last = λ none.
            let zero : IsDue false (parts_due new) = rw none at leaves.1 in
            nothing-due new.telling new.octets.items line.due zero line.owes;
      }

  pub showing-tell : (result : Result Bool AllocError) → is_err result ≡ false → IsShowing s
      → IfOk result (λ more. new ≡ with_line_of new s)
      → ((due : List ℕ) → Owes s.telling s.octets.items due → IfOk result (λ more. BeginsLine due before new.telling new.octets.items now))
      → IsShowing new
  showing-tell (Err e) ok showing same told = absurd (cc)
  showing-tell (Ok more) ok (due, old, shows) same told =
      let line = told due shows.owes in (
        line.due,
        old,
        told-on same line old shows,
      )

pub show-finish-none : (s : Showing) (old : Standing) (text : List ℕ) → s.begun ≡ None → ShowsAs s [] old → Finishes (settling_of old) text text statuses.Done
show-finish-none s old text is shows =
    finish-done old text (ap keeps_going shows.command) shows.sound (ap kept_by (coming-none s.seven old.unfinished (rw is at shows.bundle)).0)

begun-bundle : (s : Showing) (old : Standing) (begun : Coming) → s.begun ≡ Some begun → ShowsAs s [] old
    → (bundle : Unfinished) × (old.unfinished ≡ Some bundle) × ComesFor begun s.seven bundle × IsReady bundle
begun-bundle s old begun is shows =
    let (bundle, some, stands) = coming-some s.seven begun old.unfinished (rw is at shows.bundle) in
    let has : HasBegun bundle = rw some at shows.sound.begun in
    (bundle, some, stands, has.ready)

pub show-finish-room : (s : Showing) (begun : Coming) (at : ℕ) → s.telling ≡ None → IsShowing s → s.begun ≡ Some begun
    → ((bundle : Unfinished) → ComesFor begun s.seven bundle → IsReady bundle → IsCutAt bundle (Some at)) → s.at + at ≤ 67108864
show-finish-room s begun at none showing is cut =
    let (old, shows) = some-old s none showing in
    let (bundle, some, stands, ready) = begun-bundle s old begun is shows in
    let has : HasBegun bundle = rw some at shows.sound.begun in
    let held : old.taken ≡ length (kept_of bundle) = rw some at shows.sound.held in
    let inside = cut-inside bundle at has (cut bundle stands ready).0 in
    omega (arith, inside, held, shows.sound.within, shows.place)

pub show-finish-cut : (s : Showing) (old : Standing) (begun : Coming) (at : ℕ) (before now : List ℕ) → s.begun ≡ Some begun → ShowsAs s [] old
    → ((bundle : Unfinished) → ComesFor begun s.seven bundle → IsReady bundle → IsCutAt bundle (Some at))
    → now ≡ before ++ refused_line s.number (s.at + at) (codes "Truncated") → Finishes (settling_of old) before now statuses.Refused
show-finish-cut s old begun at before now is shows cut added =
    let (bundle, some, stands, ready) = begun-bundle s old begun is shows in
    let has : HasBegun bundle = rw some at shows.sound.begun in
    finish-cut old bundle at before now some has (cut bundle stands ready).0
    (added ∙ ap (λ (n : ℕ). before ++ refused_line n (s.at + at) (codes "Truncated")) shows.number
    ∙ ap (λ (n : ℕ). before ++ refused_line old.number (n + at) (codes "Truncated")) shows.place)

-- ---- what is kept

pub keeps-one : (s : Showing) → IsShowing s → KeepsOneBundle s
keeps-one s (due, old, shows) = by_telling s.telling s.begun refl refl
  where
    -- where nothing has begun
    none-begun : old.unfinished ≡ None → (begun : Option Coming) → s.begun ≡ begun → (begun ≡ None) × (s.seven.stream.kept ≡ [])
    none-begun none None began =
        let (same, rests) = coming-none s.seven old.unfinished (rw began at shows.bundle) in
        (refl, ap (λ (r : Reading). r.stream.kept) rests)
    none-begun none (Some coming) began =
        let (bundle, is, comes) = coming-some s.seven coming old.unfinished (rw began at shows.bundle) in
        absurd (cc)

    cut : (bundle : Unfinished) → old.unfinished ≡ Some bundle → IsCut (front_of (kept_of bundle))
    cut bundle is =
        let has : HasBegun bundle = rw is at shows.sound.begun in
        rw (front-kept bundle has) has.cut

    six : (judge : judging6.Judging) (bundle : Unfinished) → old.unfinished ≡ Some bundle → ComesFor (comings.Six judge) s.seven bundle
        → s.octets.items ≡ octets_of_six old.unfinished → IsCut (front_of s.octets.items) × judging6.KeepsLittle judge.stand × (s.seven.stream.kept ≡ [])
    six judge (Six reader) is comes kept =
        let same : s.octets.items ≡ reader.stream.kept = kept ∙ ap octets_of_six is in
        (rw same (cut (Six reader) is), comes.0.2.keeps, ap (λ (r : Reading). r.stream.kept) comes.1)
    six judge (Seven reader) is comes kept = absurd comes.0

    by_telling : (telling : Option Telling6) (begun : Option Coming) → s.telling ≡ telling → s.begun ≡ begun
        → KeepsOctets telling begun s.octets.items s.seven.stream.kept
    by_telling (Some telling) begun told began =
        let owes : OwesLine s.octets.items telling due = rw told at shows.owes in
        let none : old.unfinished ≡ None = rw told at shows.kept in
        let nothing = none-begun none begun began in
        ((owes.bundle, owes.spells), nothing.0, nothing.1)
    by_telling None None told began =
        let kept : s.octets.items ≡ octets_of_six old.unfinished = rw told at shows.kept in
        let (none, rests) = coming-none s.seven old.unfinished (rw began at shows.bundle) in
        (kept ∙ ap octets_of_six none, ap (λ (r : Reading). r.stream.kept) rests)
    by_telling None (Some (comings.Six judge)) told began =
        let kept : s.octets.items ≡ octets_of_six old.unfinished = rw told at shows.kept in
        let (bundle, is, comes) = coming-some s.seven (comings.Six judge) old.unfinished (rw began at shows.bundle) in
        six judge bundle is comes kept
    by_telling None (Some comings.Seven) told began =
        let kept : s.octets.items ≡ octets_of_six old.unfinished = rw told at shows.kept in
        let (bundle, is, comes) = coming-some s.seven comings.Seven old.unfinished (rw began at shows.bundle) in
        (kept ∙ ap octets_of_six (is ∙ ap Some comes), cut (Seven s.seven) (is ∙ ap Some comes))
