-- What a piece makes of the reading, and what is due then.
use Rattle.std.proofs.Common.{Bool, true, false, ◌≡◌, ℕ, ◌+◌, ◌-◌, ◌<◌, ◌≤◌, List, [], ◌∷◌, ◌++◌, length, take, drop, None, Result, Ok, Err, IfOk, OnOk, IfSome, refl, sym, ◌∙◌, ap, arith, append_assoc, length-append}
use Rattle.std.proofs.lemmas.List.{append-nil, take-append-drop, length-take-le, length-drop, take_all, nil_from_length}
use Rattle.std.proofs.Math.Seq.{take-append_seam}
use Rattle.std.specs.declared.alloc.AllocError.{AllocError}
use Rattle.edge_traits.specs.declared.status.Status.TheVariants as statuses
use Rattle.edge_traits.specs.Settled.{put_before}
use Rattle.command_frame.specs.declared.part_task.Taken.TheVariants as takens
use Rattle.command_frame.specs.Task.{Settling, over}
use Rattle.command_frame.specs.PartTask.{FeedsPart, TellsPart, IsDue}
use Rattle.command_frame.proofs.WithinLemmas.{GoesOnTo-more}
use Rattle.wire_fields.specs.Reading.{IsOctets}
use Rattle.fragments.specs.Joining.{Joining}
use Rattle.fragment_lines.specs.declared.turned_down.TurnedDown.{TurnedDown}
use Rattle.fragment_lines.specs.Lines.{turned_down_word, Writes}
use Rattle.bundle_runs.specs.declared.front.Bundle.{Bundle}
use Rattle.bundle_runs.specs.declared.given.Given.TheVariants.{Whole, Part}
use Rattle.bundle_runs.specs.declared.bundle_reader.Standing.{Standing}
use Rattle.bundle_runs.specs.declared.bundle_reader.Reading.{Reading}
use Rattle.bundle_runs.specs.declared.bundle_reader.Next.{Next}
use Rattle.bundle_runs.specs.declared.bundle_reader.Next.TheVariants.{After, End}
use Rattle.bundle_runs.specs.Front.{whole, front_of}
use Rattle.bundle_runs.specs.Answering.{step_of, leaves_of}
use Rattle.bundle_runs.specs.WrittenLines.{turned_down_line}
use Rattle.bundle_runs.specs.Given.{IsRead}
use Rattle.bundle_runs.specs.Taking.{kept_by, settling_of, keeps_going, with_unfinished, with_refused, with_joiner, passed, waiting, IsSound, Took, GoesAfter, EndsWith}
use Rattle.bundle_runs.specs.Telling.{StandsReading, TellsDue, ReadsStep, ReadSoFar}
use Rattle.bundle_runs.proofs.TakingLemmas.{quiet, step-part, step-said, step-turned-down, step-kept}
use Rattle.bundle_runs.proofs.BegunLemmas.{drop-all}
use Rattle.bundle_runs.proofs.ShowJudgeLemmas.{low, used-some, front-is, near-size, near-fits, near-none}

-- the reader of a bundle that has ended is let go
pub let-go : {A : Type 0} (IsWanted : Bundle → A → Type 0) (old mid : Standing) (left : List ℕ) (wanted : A) (used : ℕ)
    → Took IsWanted old left mid (Whole wanted used) → Took IsWanted old left (with_unfinished mid None) (Whole wanted used)
let-go IsWanted old mid left wanted used took = record {
  same = ap (λ (s : Standing). with_unfinished s None) took.same;
  finds = took.finds;
  keeps = tt;
}

-- ---- a step

module _ (old mid : Standing) (left : List ℕ) (sound : IsSound old) (fits : IsOctets left) (some : 0 < length left)
    (room : old.at + old.taken + length left ≤ 67108864) where
  -- a bundle ended, and of this text a part was written
  module _ (b : Bundle) (used : ℕ) (front : front_of (kept_by old.unfinished ++ left) ≡ whole b (length (kept_by old.unfinished) + used)) where
    size : length (take used left) ≡ used
    size = near-size old left sound fits some room b used front

    near-some : 0 < length (take used left)
    near-some = omega (arith, size, used-some old left sound fits some room b used front)

    near-room : old.at + old.taken + length (take used left) ≤ 67108864
    near-room = omega (arith, size, low old left sound fits some room b used front, room)

    reads-goes : (new : Standing) (all text due before now : List ℕ) → GoesAfter old (take used left) used [] new all → all ≡ text ++ due
        → now ≡ before ++ text → ReadsStep old left before new due now (After used)
    reads-goes new all text due before now goes is added = (
      used-some old left sound fits some room b used front,
      low old left sound fits some room b used front,
      record {
        sound = goes.sound;
        text = text;
        added = added;
        goes = λ ends more.
            goes.goes ends more
            ∙ ap (λ (v : List ℕ). put_before v (settling_of new ends (drop used (take used left) ++ more))) (sym goes.added ∙ is)
            ∙ ap (λ (v : List ℕ). put_before (text ++ due) (settling_of new ends (v ++ more))) (near-none old left sound fits some room b used front);
        passed = omega (arith, goes.passed, size);
      },
    )

  near-took : (read : Bundle) (used : ℕ) → Took IsRead old left mid (Whole read used) → Took IsRead old (take used left) mid (Whole read used)
  near-took read used took = record {
    same = took.same;
    finds =
        let (b, is, front) = took.finds in
        (b, is, front-is old left sound fits some room b used front);
    keeps = tt;
  }

  pub reads-said : (read : Bundle) (used : ℕ) (joiner : Joining) (due before now : List ℕ) → Took IsRead old left mid (Whole read used)
      → Writes (step_of mid.command mid.joiner.joins read (mid.taken + used)) before now joiner.joins (Ok due) → joiner.spent ≡ false
      → ReadsStep old left before (passed (with_joiner mid joiner) used) due now (After used)
  reads-said read used joiner due before now took (text, said, added) memory =
      let (b, is, front) = took.finds in
      reads-goes b used front (passed (with_joiner mid joiner) used) (text ++ due) text due before now
      (step-said old mid (take used left) sound (near-fits old left sound fits some room b used front) (near-some b used front) (near-room b used front)
      read used joiner (text ++ due) [] (text ++ due) (near-took read used took) said refl memory)
      refl added

  pub reads-part : (text : List ℕ) → Took IsRead old left mid Part → ReadsStep old left text (waiting mid (length left)) [] text (After (length left))
  reads-part text took =
      let goes = step-part IsRead old mid left sound fits some room [] took in
      let all : take (length left) left ≡ left = take_all (length left) left (omega arith) in (
        some,
        omega arith,
        rw all (record {
          sound = goes.sound;
          text = [];
          added = sym (append-nil text);
          goes = λ ends more.
              goes.goes ends more
              ∙ ap (λ (v : List ℕ). put_before v (settling_of (waiting mid (length left)) ends (drop (length left) left ++ more))) (sym goes.added)
              ∙ ap (λ (v : List ℕ). put_before [] (settling_of (waiting mid (length left)) ends (v ++ more))) (drop-all left);
          passed = goes.passed;
        }),
      )

  -- the command refused it: by whether it keeps going
  pub reads-refusal : (new : Standing) (next : Next) (read : Bundle) (used : ℕ) (joiner : Joining) (cause : TurnedDown) (due before now after : List ℕ)
      → Took IsRead old left mid (Whole read used)
      → Writes (step_of mid.command mid.joiner.joins read (mid.taken + used)) before now joiner.joins (Err cause)
      → IfSome (leaves_of mid.command mid.joiner.joins read) (λ left. joiner.joins ≡ left) → joiner.spent ≡ false
      → after ≡ now ++ turned_down_line mid.number (turned_down_word cause)
      → (keeps_going mid.command ≡ false → next ≡ End)
      → (keeps_going mid.command ≡ true → next ≡ After used)
      → (keeps_going mid.command ≡ true → new ≡ passed (with_refused (with_joiner mid joiner) true) used)
      → due ≡ [] → ReadsStep old left before new due after next
  reads-refusal new next read used joiner cause due before now after took (said, same) leaves memory added ends on is none = by_keeps (keeps_going mid.command) refl
    where
      line : List ℕ
      line = turned_down_line mid.number (turned_down_word cause)

      by_keeps : (b : Bool) → keeps_going mid.command ≡ b → ReadsStep old left before new due after next
      by_keeps false plain =
          rw (ends plain) (step-turned-down old mid left sound fits some room read used joiner.joins cause before now after took (said, same) plain added, none)
      by_keeps true keeps =
          let (b, wanted, front) = took.finds in
          rw (on keeps, is keeps) (reads-goes b used front (passed (with_refused (with_joiner mid joiner) true) used) line line due before after
          (step-kept old mid (take used left) sound (near-fits old left sound fits some room b used front) (near-some b used front) (near-room b used front)
          read used joiner cause [] [] line (near-took read used took) (said, refl) leaves memory keeps refl)
          (sym (ap (λ (v : List ℕ). line ++ v) none ∙ append-nil line))
          (added ∙ ap (λ (v : List ℕ). v ++ line) same))

-- the run ends with the line of a refusal
pub reads-refused : {P : Type 0} (old new : Standing) (left due before now : List ℕ) (result : Result Next AllocError)
    → IfOk result (λ next. next ≡ End) → OnOk result P → (P → EndsWith old left before now) → due ≡ []
    → IfOk result (ReadsStep old left before new due now)
reads-refused old new left due before now (Ok next) ends line with_line none = rw ends (with_line line, none)
reads-refused old new left due before now (Err e) ends line with_line none = tt

-- ---- what is due

nothing-told : (part new : List ℕ) → [] ≡ part ++ new → (part ≡ []) × (new ≡ [])
nothing-told [] new is = (refl, sym is)
nothing-told (octet ∷ part) new is = absurd (cc)

-- the first part of it is told with the step
pub tells-step : (old new : Standing) (left before due text later after : List ℕ) (next : Next) → ReadsStep old left before new due text next
    → TellsDue due later text after → ReadsStep old left before new later after next
tells-step old new left before due text later after (After used) (some, inside, on) told = (
  some,
  inside,
  record {
    sound = on.sound;
    text = on.text ++ told.part;
    added =
        told.added ∙ ap (λ (v : List ℕ). v ++ told.part) on.added
        ∙ append_assoc before on.text told.part;
    goes =
        let all : on.text ++ due ≡ (on.text ++ told.part) ++ later =
        ap (λ (v : List ℕ). on.text ++ v) told.parts ∙ sym (append_assoc on.text told.part later) in
        rw (← all) on.goes;
    passed = on.passed;
  },
)
tells-step old new left before due text later after End (ends, none) told =
    let nothing = nothing-told told.part later (sym none ∙ told.parts) in
    let same : after ≡ text = told.added ∙ ap (λ (v : List ℕ). text ++ v) nothing.0 ∙ append-nil text in
    (rw same ends, nothing.1)

-- and the next one is
pub tells-part : (old new : Reading) (before now : List ℕ) (more : Bool) → new.standing ≡ old.standing
    → TellsDue old.due new.due before now → IsDue more (length new.due)
    → (due : List ℕ) (settles : Settling) → StandsReading old due settles → TellsPart (StandsReading new) settles due before now more
tells-part old new before now more same told left due settles (is, stands) = record {
  part = told.part;
  rest = new.due;
  added = told.added;
  parts = is ∙ told.parts;
  stands = (refl, stands ∙ ap settling_of (sym same));
  last = λ none.
      let zero : IsDue false (length new.due) = rw none at left in
      nil_from_length new.due zero;
}

-- ---- the steps so far

pub read-start : (s : Standing) (piece text : List ℕ) → IsSound s → ReadSoFar s piece piece text s [] text
read-start s piece text sound = record {
  taken = [];
  parts = refl;
  on = record {
    sound = sound;
    text = [];
    added = sym (append-nil text);
    goes = λ ends more. refl;
    passed = omega arith;
  };
}

pub read-more : (old now later : Standing) (piece left : List ℕ) (used : ℕ) (due more before text after : List ℕ) → due ≡ []
    → ReadSoFar old piece left before now due text → ReadsStep now left text later more after (After used)
    → ReadSoFar old piece (drop used left) before later more after
read-more old now later piece left used due more before text after nothing so_far (some, inside, step) =
    let on = so_far.on in
    record {
      taken = so_far.taken ++ take used left;
      parts =
          so_far.parts ∙ ap (λ (v : List ℕ). so_far.taken ++ v) (sym (take-append-drop used left))
          ∙ sym (append_assoc so_far.taken (take used left) (drop used left));
      on = record {
        sound = step.sound;
        text = on.text ++ step.text;
        added =
            step.added ∙ ap (λ (v : List ℕ). v ++ step.text) on.added
            ∙ append_assoc before on.text step.text;
        goes =
            let all : (on.text ++ due) ++ (step.text ++ more) ≡ (on.text ++ step.text) ++ more =
            ap (λ (v : List ℕ). (on.text ++ v) ++ (step.text ++ more)) nothing
            ∙ ap (λ (v : List ℕ). v ++ (step.text ++ more)) (append-nil on.text)
            ∙ sym (append_assoc on.text step.text more) in
            rw (← all) (GoesOnTo-more (settling_of old) (settling_of now) (settling_of later) so_far.taken (on.text ++ due)
            (take used left) (step.text ++ more) on.goes step.goes);
        passed = omega (arith, on.passed, step.passed, length-append so_far.taken (take used left));
      };
    }

pub read-room : (now later : Standing) (left : List ℕ) (used : ℕ) (text due after : List ℕ) → now.at + now.taken + length left ≤ 67108864
    → ReadsStep now left text later due after (After used)
    → IsSound later × (later.at + later.taken + length (drop used left) ≤ 67108864) × (0 < used) × (used ≤ length left)
read-room now later left used text due after room (some, inside, step) = (
  step.sound,
  omega (arith, room, step.passed, length-take-le used left inside, inside, length-drop used left),
  some,
  inside,
)

pub read-all : (old : Standing) (r : Reading) (piece left before text : List ℕ) → length left ≡ 0 → r.due ≡ []
    → ReadSoFar old piece left before r.standing r.due text → FeedsPart (StandsReading r) (settling_of old) piece before text takens.All
read-all old r piece left before text empty nothing so_far =
    let on = so_far.on in
    let plain : on.text ++ r.due ≡ on.text = ap (λ (v : List ℕ). on.text ++ v) nothing ∙ append-nil on.text in
    let all : piece ≡ so_far.taken = so_far.parts ∙ ap (λ (v : List ℕ). so_far.taken ++ v) (nil_from_length left empty) ∙ append-nil so_far.taken in
    record {
      text = on.text;
      added = on.added;
      takes = (settling_of r.standing, (sym nothing, refl), quiet r.standing on.sound, rw all (rw plain at on.goes));
    }

pub read-due : (old : Standing) (r : Reading) (piece left before text : List ℕ) (used : ℕ) → used ≡ length piece - length left
    → ReadSoFar old piece left before r.standing r.due text → FeedsPart (StandsReading r) (settling_of old) piece before text (takens.Due used)
read-due old r piece left before text used is so_far =
    let on = so_far.on in
    let size : used ≡ length so_far.taken = omega (arith, is, ap length so_far.parts, length-append so_far.taken left) in
    let front : take used piece ≡ so_far.taken =
    ap (λ (n : ℕ). take n piece) size ∙ ap (take (length so_far.taken)) so_far.parts ∙ take-append_seam so_far.taken left in
    record {
      text = on.text;
      added = on.added;
      takes = (r.due, (settling_of r.standing, (refl, refl), quiet r.standing on.sound, rw front on.goes));
    }

-- the run ends with the octets that are left
pub read-stop : (old now new : Standing) (r : Reading) (piece left due more before text after : List ℕ) → due ≡ []
    → ReadSoFar old piece left before now due text → ReadsStep now left text new more after End
    → FeedsPart (StandsReading r) (settling_of old) piece before after (takens.Ends statuses.Refused)
read-stop old now new r piece left due more before text after nothing so_far (ends, none) =
    let on = so_far.on in
    let plain : on.text ++ due ≡ on.text = ap (λ (v : List ℕ). on.text ++ v) nothing ∙ append-nil on.text in
    record {
      text = on.text ++ ends.text;
      added =
          ends.added ∙ ap (λ (v : List ℕ). v ++ ends.text) on.added
          ∙ append_assoc before on.text ends.text;
      takes = (
        tt,
        rw so_far.parts (GoesOnTo-more (settling_of old) (settling_of now) (over statuses.Refused) so_far.taken on.text left ends.text
            (rw plain at on.goes) ends.goes),
      );
    }
