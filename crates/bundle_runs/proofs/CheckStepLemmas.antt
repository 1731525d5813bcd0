-- What a piece makes of the reading of `check`.
use Rattle.std.proofs.Common.{false, ◌≡◌, ℕ, ◌+◌, ◌*◌, ◌<◌, ◌≤◌, List, [], ◌∷◌, ◌++◌, length, drop, codes, None, Some, refl, sym, ◌∙◌, ap, arith}
use Rattle.std.proofs.lemmas.List.{length-drop}
use Rattle.edge_traits.specs.declared.status.Status.TheVariants as statuses
use Rattle.command_frame.specs.Task.{Settling, Feeds, Finishes}
use Rattle.wire_fields.specs.Reading.{IsOctets}
use Rattle.bundle_judges.specs.Judging7 as judging7
use Rattle.bundle_runs.specs.declared.commands.command.Command.TheVariants.{Check}
use Rattle.bundle_runs.specs.declared.front.Cause.{Cause}
use Rattle.bundle_runs.specs.declared.given.Given.TheVariants.{Whole, Part, Refused}
use Rattle.bundle_runs.specs.declared.unfinished.Unfinished.{Unfinished}
use Rattle.bundle_runs.specs.declared.begun.Begun.{Begun}
use Rattle.bundle_runs.specs.declared.bundle_reader.Standing.{Standing}
use Rattle.bundle_runs.specs.declared.bundle_reader.Next.TheVariants.{After, End}
use Rattle.bundle_runs.specs.declared.check_reader.Checking.{Checking}
use Rattle.bundle_runs.specs.Front.{word_of}
use Rattle.bundle_runs.specs.Answering.{settles_from}
use Rattle.bundle_runs.specs.WrittenLines.{check_line, refused_line}
use Rattle.bundle_runs.specs.Given.{IsVersion}
use Rattle.bundle_runs.specs.Taking.{kept_of, kept_by, keeps_going, settling_of, passed, waiting, IsReady, HasBegun, SoFar, IsCutAt}
use Rattle.bundle_runs.specs.Checking.{StandsFor, IsNew, Shadows, IsShadowed, StandsChecking, with_judges, JudgedOn, ChecksOn}
use Rattle.bundle_runs.proofs.TakingLemmas.{whole-room, refused-room, step-checked, step-part, step-refused, quiet, so_far-start, so_far-more, so_far-stop, finish-done, finish-cut, cut-inside}
use Rattle.bundle_runs.proofs.CheckLemmas.{unfinished-none, unfinished-some}

-- ---- a step

module _ (s : Checking) (old : Standing) (left : List ℕ) (shadows : Shadows s old) (fits : IsOctets left) (some : 0 < length left)
    (room : s.at + s.taken + length left ≤ 67108864) where
  old-room : old.at + old.taken + length left ≤ 67108864
  old-room = omega (arith, room, shadows.place, shadows.took)

  pub check-room : (new : Checking) (version used : ℕ) → JudgedOn old left new (Whole version used)
      → (s.at + (s.taken + used) ≤ 67108864) × (s.number ≤ 67108864)
  check-room new version used judged =
      let there = whole-room IsVersion old judged.mid left shadows.sound fits some old-room version used judged.took in
      let same = judged.took.same in (
        omega (arith, there.0, ap (λ (t : Standing). t.at) same, ap (λ (t : Standing). t.taken) same, shadows.place, shadows.took),
        omega (arith, there.1, ap (λ (t : Standing). t.number) same, shadows.number),
      )

  pub check-room-of : (new : Checking) (version used : ℕ) → new ≡ with_judges s new.begun new.seven → JudgedOn old left new (Whole version used)
      → (new.at + (new.taken + used) ≤ 67108864) × (new.number ≤ 67108864)
  check-room-of new version used same judged =
      let there = check-room new version used judged in (
        omega (arith, there.0, ap (λ (t : Checking). t.at) same, ap (λ (t : Checking). t.taken) same),
        omega (arith, there.1, ap (λ (t : Checking). t.number) same),
      )

  pub check-refused-room : (new : Checking) (at : ℕ) (cause : Cause) → JudgedOn old left new (Refused at cause) → s.at + at ≤ 67108864
  check-refused-room new at cause judged =
      let there = refused-room IsVersion old judged.mid left shadows.sound fits some old-room at cause judged.took in
      omega (arith, there, ap (λ (t : Standing). t.at) judged.took.same, shadows.place)

  pub check-refused-room-of : (new : Checking) (at : ℕ) (cause : Cause) → new ≡ with_judges s new.begun new.seven → JudgedOn old left new (Refused at cause)
      → new.at + at ≤ 67108864
  check-refused-room-of new at cause same judged =
      omega (arith, check-refused-room new at cause judged, ap (λ (t : Checking). t.at) same)

  pub check-whole : (new after : Checking) (version used : ℕ) (before now : List ℕ) → JudgedOn old left new (Whole version used)
      → now ≡ before ++ check_line version (s.taken + used)
      → after ≡ record { number = s.number + 1; at = s.at + (s.taken + used); taken = 0; begun = None; seven = new.seven }
      → ChecksOn old left before after now (After used)
  check-whole new after version used before now judged added is =
      let same = judged.took.same in
      let number : s.number ≡ judged.mid.number = shadows.number ∙ sym (ap (λ (t : Standing). t.number) same) in
      let place : s.at ≡ judged.mid.at = shadows.place ∙ sym (ap (λ (t : Standing). t.at) same) in
      let took : s.taken ≡ judged.mid.taken = shadows.took ∙ sym (ap (λ (t : Standing). t.taken) same) in
      let goes = step-checked old judged.mid left shadows.sound fits some old-room version used before now judged.took shadows.command
      (added ∙ ap (λ (n : ℕ). before ++ check_line version (n + used)) took) in (
        passed judged.mid used,
        rw is (record {
          command = ap (λ (t : Standing). t.command) same ∙ shadows.command;
          number = ap (λ (n : ℕ). n + 1) number;
          place = omega (arith, place, took);
          took = refl;
          bundle = tt;
          sound = goes.sound;
          seven = judged.seven;
        }),
        goes,
      )

  pub check-part : (new after : Checking) (text : List ℕ) → JudgedOn old left new Part
      → after ≡ record { number = s.number; at = s.at; taken = s.taken + length left; begun = new.begun; seven = new.seven }
      → ChecksOn old left text after text (After (length left))
  check-part new after text judged is =
      let same = judged.took.same in
      let goes = step-part IsVersion old judged.mid left shadows.sound fits some old-room text judged.took in
      let took : s.taken ≡ judged.mid.taken = shadows.took ∙ sym (ap (λ (t : Standing). t.taken) same) in (
        waiting judged.mid (length left),
        rw is (record {
          command = ap (λ (t : Standing). t.command) same ∙ shadows.command;
          number = shadows.number ∙ sym (ap (λ (t : Standing). t.number) same);
          place = shadows.place ∙ sym (ap (λ (t : Standing). t.at) same);
          took = omega (arith, took);
          bundle = judged.part;
          sound = goes.sound;
          seven = judged.seven;
        }),
        goes,
      )

  pub check-refused : (new after : Checking) (at : ℕ) (cause : Cause) (before now : List ℕ) → JudgedOn old left new (Refused at cause)
      → now ≡ before ++ refused_line s.number (s.at + at) (word_of cause) → ChecksOn old left before after now End
  check-refused new after at cause before now judged added =
      let same = judged.took.same in
      let number : s.number ≡ judged.mid.number = shadows.number ∙ sym (ap (λ (t : Standing). t.number) same) in
      let place : s.at ≡ judged.mid.at = shadows.place ∙ sym (ap (λ (t : Standing). t.at) same) in
      step-refused IsVersion old judged.mid left shadows.sound fits some old-room at cause before now judged.took
      (added ∙ ap (λ (n : ℕ). before ++ refused_line n (s.at + at) (word_of cause)) number
      ∙ ap (λ (n : ℕ). before ++ refused_line judged.mid.number (n + at) (word_of cause)) place)

  pub check-whole-of : (new after : Checking) (version used : ℕ) (before now : List ℕ) → new ≡ with_judges s new.begun new.seven
      → JudgedOn old left new (Whole version used) → now ≡ before ++ check_line version (new.taken + used)
      → after ≡ record { number = new.number + 1; at = new.at + (new.taken + used); taken = 0; begun = None; seven = new.seven }
      → ChecksOn old left before after now (After used)
  check-whole-of new after version used before now same judged added is =
      check-whole new after version used before now judged
      (added ∙ ap (λ (t : Checking). before ++ check_line version (t.taken + used)) same)
      (is ∙ ap (λ (t : Checking). record { number = t.number + 1; at = t.at + (t.taken + used); taken = 0; begun = None; seven = new.seven }) same)

  pub check-part-of : (new : Checking) (text : List ℕ) → new ≡ with_judges s new.begun new.seven → JudgedOn old left new Part
      → ChecksOn old left text (record { number = new.number; at = new.at; taken = new.taken + length left; begun = new.begun; seven = new.seven }) text (After (length left))
  check-part-of new text same judged =
      check-part new (record { number = new.number; at = new.at; taken = new.taken + length left; begun = new.begun; seven = new.seven }) text judged
      (ap (λ (t : Checking). record { number = t.number; at = t.at; taken = t.taken + length left; begun = new.begun; seven = new.seven }) same)

  pub check-refused-of : (new after : Checking) (at : ℕ) (cause : Cause) (before now : List ℕ) → new ≡ with_judges s new.begun new.seven
      → JudgedOn old left new (Refused at cause) → now ≡ before ++ refused_line new.number (new.at + at) (word_of cause)
      → ChecksOn old left before after now End
  check-refused-of new after at cause before now same judged added =
      check-refused new after at cause before now judged
      (added ∙ ap (λ (t : Checking). before ++ refused_line t.number (t.at + at) (word_of cause)) same)

-- ---- all steps

pub checks-kept : (s new : Checking) (left : List ℕ) (used : ℕ) (before now : List ℕ) → IsShadowed s → s.at + s.taken + length left ≤ 67108864
    → ((old : Standing) → Shadows s old → ChecksOn old left before new now (After used))
    → IsShadowed new × (new.at + new.taken + length (drop used left) ≤ 67108864) × (used ≤ length left) × (new.taken < s.taken + 2 * used)
checks-kept s new left used before now (old, shadows) room step =
    let (later, follows, goes) = step old shadows in (
      (later, follows),
      omega (arith, room, goes.passed, goes.inside, follows.place, follows.took, shadows.place, shadows.took, length-drop used left),
      goes.inside,
      omega (arith, goes.less, follows.took, shadows.took),
    )

-- the steps so far, beside a reading that began at `start`
pub record ChecksSoFar (start : Standing) (s : Checking) (piece left before text : List ℕ) : Type 0 where
  pub now : Standing
  pub shadows : Shadows s now
  pub so_far : SoFar start now piece left before text

pub checks-start : (start : Standing) (s : Checking) (piece text : List ℕ) → Shadows s start → ChecksSoFar start s piece piece text text
checks-start start s piece text shadows = record { now = start; shadows = shadows; so_far = so_far-start start piece text }

pub checks-more : (start : Standing) (s new : Checking) (piece left : List ℕ) (used : ℕ) (before text after : List ℕ)
    → ChecksSoFar start s piece left before text
    → ((old : Standing) → Shadows s old → ChecksOn old left text new after (After used)) → ChecksSoFar start new piece (drop used left) before after
checks-more start s new piece left used before text after so_far step =
    let (later, shadows, goes) = step so_far.now so_far.shadows in
    record {
      now = later;
      shadows = shadows;
      so_far = so_far-more start so_far.now later piece left used before text after so_far.so_far goes;
    }

pub checks-end : (start : Standing) (s : Checking) (piece left before text : List ℕ) → length left ≡ 0 → ChecksSoFar start s piece left before text
    → Feeds (StandsChecking s) (settling_of start) piece before text None
checks-end start s piece [] before text none so_far = record {
  text = so_far.so_far.written;
  added = so_far.so_far.added;
  takes = (settling_of so_far.now, (so_far.now, so_far.shadows, refl), quiet so_far.now so_far.shadows.sound, so_far.so_far.goes);
}
checks-end start s piece (octet ∷ left) before text none so_far = absurd (omega (arith, none))

pub checks-stop : (start : Standing) (s new : Checking) (Later : Settling → Type 0) (piece left before text after : List ℕ)
    → ChecksSoFar start s piece left before text
    → ((old : Standing) → Shadows s old → ChecksOn old left text new after End)
    → Feeds Later (settling_of start) piece before after (Some statuses.Refused)
checks-stop start s new Later piece left before text after so_far step =
    so_far-stop start so_far.now Later piece left before text after so_far.so_far (step so_far.now so_far.shadows)

-- ---- the start and the end

pub shadows-start : (seven : judging7.Judging) → IsNew seven
    → (x : Standing) × Shadows (record { number = 1; at = 0; taken = 0; begun = None; seven = seven }) x × (settles_from Check false [] 1 0 ≡ settling_of x)
shadows-start seven fresh = (
  record { command = Check; any_refused = false; joiner = record { joins = []; spent = false }; number = 1; at = 0; taken = 0; unfinished = None },
  record {
    command = refl;
    number = refl;
    place = refl;
    took = refl;
    bundle = tt;
    sound = record { begun = tt; held = refl; within = omega arith; counted = omega arith; memory = refl; clean = λ plain. refl };
    seven = fresh;
  },
  refl,
)

pub shadowed-start : (seven : judging7.Judging) → IsNew seven → IsShadowed (record { number = 1; at = 0; taken = 0; begun = None; seven = seven })
shadowed-start seven fresh = let start = shadows-start seven fresh in (start.0, start.1)

-- nothing is left of the bundle
pub shadowed-after : (s : Checking) → IsShadowed s → IsShadowed (record { number = s.number; at = s.at; taken = 0; begun = None; seven = s.seven })
shadowed-after s (old, shadows) = (
  record { command = Check; any_refused = false; joiner = old.joiner; number = old.number; at = old.at; taken = 0; unfinished = None },
  record {
    command = refl;
    number = shadows.number;
    place = shadows.place;
    took = refl;
    bundle = tt;
    sound = record {
      begun = tt;
      held = refl;
      within = omega (arith, shadows.sound.within);
      counted = shadows.sound.counted;
      memory = shadows.sound.memory;
      clean = λ plain. refl;
    };
    seven = shadows.seven;
  },
)

pub check-finish-none : (s : Checking) (old : Standing) (text : List ℕ) → s.begun ≡ None → Shadows s old → Finishes (settling_of old) text text statuses.Done
check-finish-none s old text is shadows =
    finish-done old text (ap keeps_going shadows.command) shadows.sound (ap kept_by (unfinished-none old.unfinished (rw is at shadows.bundle)))

-- the bundle that has begun, and its reader
pub begun-bundle : (s : Checking) (old : Standing) (begun : Begun) → s.begun ≡ Some begun → Shadows s old
    → (bundle : Unfinished) × (old.unfinished ≡ Some bundle) × StandsFor begun bundle × IsReady bundle
begun-bundle s old begun is shadows =
    let (bundle, some, stands) = unfinished-some begun old.unfinished (rw is at shadows.bundle) in
    let has : HasBegun bundle = rw some at shadows.sound.begun in
    (bundle, some, stands, has.ready)

pub check-finish-empty : (s : Checking) (old : Standing) (begun : Begun) (text : List ℕ) → s.begun ≡ Some begun → Shadows s old
    → ((bundle : Unfinished) → StandsFor begun bundle → IsReady bundle → IsCutAt bundle None) → Finishes (settling_of old) text text statuses.Done
check-finish-empty s old begun text is shadows cut =
    let (bundle, some, stands, ready) = begun-bundle s old begun is shadows in
    finish-done old text (ap keeps_going shadows.command) shadows.sound (ap kept_by some ∙ cut bundle stands ready)

pub check-finish-room : (s : Checking) (old : Standing) (begun : Begun) (at : ℕ) → s.begun ≡ Some begun → Shadows s old
    → ((bundle : Unfinished) → StandsFor begun bundle → IsReady bundle → IsCutAt bundle (Some at)) → s.at + at ≤ 67108864
check-finish-room s old begun at is shadows cut =
    let (bundle, some, stands, ready) = begun-bundle s old begun is shadows in
    let has : HasBegun bundle = rw some at shadows.sound.begun in
    let held : old.taken ≡ length (kept_of bundle) = rw some at shadows.sound.held in
    let inside = cut-inside bundle at has (cut bundle stands ready).0 in
    omega (arith, inside, held, shadows.sound.within, shadows.place)

pub check-finish-cut : (s : Checking) (old : Standing) (begun : Begun) (at : ℕ) (before now : List ℕ) → s.begun ≡ Some begun → Shadows s old
    → ((bundle : Unfinished) → StandsFor begun bundle → IsReady bundle → IsCutAt bundle (Some at))
    → now ≡ before ++ refused_line s.number (s.at + at) (codes "Truncated") → Finishes (settling_of old) before now statuses.Refused
check-finish-cut s old begun at before now is shadows cut added =
    let (bundle, some, stands, ready) = begun-bundle s old begun is shadows in
    let has : HasBegun bundle = rw some at shadows.sound.begun in
    finish-cut old bundle at before now some has (cut bundle stands ready).0
    (added ∙ ap (λ (n : ℕ). before ++ refused_line n (s.at + at) (codes "Truncated")) shadows.number
    ∙ ap (λ (n : ℕ). before ++ refused_line old.number (n + at) (codes "Truncated")) shadows.place)
