-- What a piece makes of the reading.
use Rattle.std.proofs.Common.{Bool, true, false, ◌≡◌, ℕ, ◌+◌, ◌<◌, ◌≤◌, List, [], ◌++◌, length, drop, codes, Option, None, Some, Result, Ok, Err, OnErr, IfSome, IsSomeAnd, refl, sym, subst, ◌∙◌, ap, arith, append_assoc, length-append}
use Rattle.std.proofs.lemmas.List.{append-nil}
use Rattle.edge_traits.specs.declared.status.Status.TheVariants as statuses
use Rattle.edge_traits.specs.declared.status.Status.{Status}
use Rattle.edge_traits.specs.Settled.{Ends, at_end, goes_on, put_before}
use Rattle.edge_traits.proofs.AnswerLemmas.{put_before-put_before}
use Rattle.command_frame.specs.Task.{Settling, IsQuiet, over, Feeds, Finishes}
use Rattle.wire_fields.specs.Reading.{read, IsOctets}
use Rattle.fragments.specs.declared.join.Join.{Join}
use Rattle.fragments.specs.Joining.{Joining}
use Rattle.bundle_runs.specs.declared.commands.command.Command.{Command}
use Rattle.bundle_runs.specs.declared.commands.command.Command.TheVariants as commands
use Rattle.bundle_runs.specs.declared.commands.command.Command.TheVariants.{Check}
use Rattle.bundle_runs.specs.declared.front.Bundle.{Bundle}
use Rattle.bundle_runs.specs.declared.front.Cause.{Cause}
use Rattle.bundle_runs.specs.declared.given.Given.TheVariants.{Whole, Part, Refused}
use Rattle.bundle_runs.specs.declared.unfinished.Unfinished.{Unfinished}
use Rattle.bundle_runs.specs.declared.bundle_reader.Standing.{Standing}
use Rattle.bundle_runs.specs.Front.{whole, cut_short, refused, front_of, word_of, version_of, IsWithin}
use Rattle.bundle_runs.specs.Answering.{settles_from, step_of, leaves_of, status_by}
use Rattle.bundle_runs.specs.WrittenLines.{check_line, refused_line, turned_down_line}
use Rattle.fragment_lines.specs.Said.{says, refuses}
use Rattle.fragment_lines.specs.declared.turned_down.TurnedDown.{TurnedDown}
use Rattle.fragment_lines.specs.Lines.{turned_down_word, Writes}
use Rattle.bundle_runs.specs.Given.{IsVersion, IsRead}
use Rattle.bundle_runs.specs.Taking.{kept_of, front_in, kept_by, settling_of, settling_after, keeps_going, with_unfinished, with_refused, with_joiner, passed, waiting, HasBegun, HasBegunWith, IsSound, Took, GoesAfter, EndsWith, SoFar}
use Rattle.bundle_runs.proofs.FrontsLemmas.{settles-none, settles-cut, front-within}
use Rattle.bundle_runs.proofs.LawLemmas.{goes-says, goes-turned-down, goes-kept, goes-cut, goes-refused}
use Rattle.bundle_runs.proofs.BegunLemmas.{drop-all, drop-past, front-kept, is-cut, octets-join}

-- ---- commands that keep going

-- what a refusal leaves is none where a command doesn't keep going
plain-leaves : (command : Command) (joins : List Join) (b : Bundle) → keeps_going command ≡ false → leaves_of command joins b ≡ None
plain-leaves commands.Check joins b plain = refl
plain-leaves commands.Show joins b plain = refl
plain-leaves commands.Convert joins b plain = refl
plain-leaves (commands.Cut most) joins b plain = refl
plain-leaves commands.Join joins b plain = refl
plain-leaves commands.KeepConverting joins b plain = cc
plain-leaves (commands.KeepCutting most) joins b plain = cc
plain-leaves commands.KeepJoining joins b plain = cc

-- and else it is the joins then
kept-leaves : (command : Command) (joins : List Join) (b : Bundle) (now : List Join) → keeps_going command ≡ true
    → IfSome (leaves_of command joins b) (λ left. now ≡ left) → leaves_of command joins b ≡ Some now
kept-leaves commands.Check joins b now keeps leaves = cc
kept-leaves commands.Show joins b now keeps leaves = cc
kept-leaves commands.Convert joins b now keeps leaves = cc
kept-leaves (commands.Cut most) joins b now keeps leaves = cc
kept-leaves commands.Join joins b now keeps leaves = cc
kept-leaves commands.KeepConverting joins b now keeps leaves = ap Some (sym leaves)
kept-leaves (commands.KeepCutting most) joins b now keeps leaves = ap Some (sym leaves)
kept-leaves commands.KeepJoining joins b now keeps leaves = ap Some (sym leaves)

-- ---- a step

module _ (old : Standing) (left : List ℕ) (sound : IsSound old) (fits : IsOctets left) (some : 0 < length left) where
  all : List ℕ
  all = kept_by old.unfinished ++ left

  kept-octets : (unfinished : Option Unfinished) → IfSome unfinished HasBegun → IsOctets (kept_by unfinished)
  kept-octets None begun = λ i. omega arith
  kept-octets (Some bundle) begun = begun.octets

  all-octets : IsOctets (kept_by old.unfinished ++ left)
  all-octets = octets-join (kept_by old.unfinished) left (kept-octets old.unfinished sound.begun) fits

  size : length (kept_by old.unfinished ++ left) ≡ old.taken + length left
  size = omega (arith, sound.held, length-append (kept_by old.unfinished) left)

  all-some : 0 < length (kept_by old.unfinished ++ left)
  all-some = omega (arith, some, size)

  within-all : IsWithin (old.taken + length left) (front_of (kept_by old.unfinished ++ left))
  within-all = rw size at (front-within (kept_by old.unfinished ++ left) all-octets)

  pub whole-inside : (b : Bundle) (used : ℕ) → front_of (kept_by old.unfinished ++ left) ≡ whole b (length (kept_by old.unfinished) + used)
      → (used ≤ length left) × (0 < old.taken + used)
  whole-inside b used is =
      let there = rw is at within-all in
      (omega (arith, sound.held, there.1), omega (arith, sound.held, there.0))

  pub refused-inside : (at : ℕ) (cause : Cause) → front_of (kept_by old.unfinished ++ left) ≡ refused at cause → at ≤ old.taken + length left
  refused-inside at cause is = rw is at within-all

  from-old : (ends : Ends) (more : List ℕ)
      → settling_of old ends (left ++ more) ≡ settles_from old.command old.any_refused old.joiner.joins old.number old.at ends ((kept_by old.unfinished ++ left) ++ more)
  from-old ends more = ap (settles_from old.command old.any_refused old.joiner.joins old.number old.at ends) (sym (append_assoc (kept_by old.unfinished) left more))

  -- it ended, and a text was written of it
  goes-after : (any_refused : Bool) (b : Bundle) (used : ℕ) (joiner : Joining) (text before now : List ℕ) → old.at + old.taken + length left ≤ 67108864
      → front_of (kept_by old.unfinished ++ left) ≡ whole b (length (kept_by old.unfinished) + used)
      → (keeps_going old.command ≡ false → any_refused ≡ false)
      → ((ends : Ends) (more : List ℕ)
      → settles_from old.command old.any_refused old.joiner.joins old.number old.at ends ((kept_by old.unfinished ++ left) ++ more)
      ≡ put_before text (settles_from old.command any_refused joiner.joins (old.number + 1) (old.at + (length (kept_by old.unfinished) + used)) ends
      (drop (length (kept_by old.unfinished) + used) (kept_by old.unfinished ++ left) ++ more)))
      → joiner.spent ≡ false → now ≡ before ++ text
      → GoesAfter old left used before (passed (with_refused (with_joiner old joiner) any_refused) used) now
  goes-after any_refused b used joiner text before now room is clean goes memory added =
      let inside = whole-inside b used is in
      let k = length (kept_by old.unfinished) + used in
      let count : k ≡ old.taken + used = omega (arith, sound.held) in
      record {
        sound = record {
          begun = tt;
          held = refl;
          within = omega (arith, room, inside.0);
          counted = omega (arith, sound.counted, inside.1);
          memory = memory;
          clean = clean;
        };
        text = text;
        added = added;
        goes = λ ends more.
            from-old ends more
            ∙ goes ends more
            ∙ ap (λ (t : List ℕ). put_before text (settles_from old.command any_refused joiner.joins (old.number + 1) (old.at + (length (kept_by old.unfinished) + used)) ends (t ++ more))) (drop-past (kept_by old.unfinished) left used)
            ∙ ap (λ (p : ℕ). put_before text (settles_from old.command any_refused joiner.joins (old.number + 1) (old.at + p) ends (drop used left ++ more))) count;
        inside = inside.0;
        passed = omega arith;
        less = omega (arith, inside.1);
      }

  -- the command said lines of it
  pub goes-after-whole : (b : Bundle) (used : ℕ) (joiner : Joining) (text before now : List ℕ) → old.at + old.taken + length left ≤ 67108864
      → front_of (kept_by old.unfinished ++ left) ≡ whole b (length (kept_by old.unfinished) + used)
      → step_of old.command old.joiner.joins b (old.taken + used) ≡ says text joiner.joins → joiner.spent ≡ false → now ≡ before ++ text
      → GoesAfter old left used before (passed (with_joiner old joiner) used) now
  goes-after-whole b used joiner text before now room is said memory added =
      let inside = whole-inside b used is in
      let count : length (kept_by old.unfinished) + used ≡ old.taken + used = omega (arith, sound.held) in
      goes-after old.any_refused b used joiner text before now room is sound.clean
      (goes-says old.command old.any_refused old.joiner.joins old.number old.at (length (kept_by old.unfinished) + used) b text joiner.joins (kept_by old.unfinished ++ left)
      all-octets all-some is (omega (arith, count, inside.1)) (omega (arith, inside.0, length-append (kept_by old.unfinished) left)) (rw count said))
      memory added

  -- the command refuses it, and keeps going
  pub goes-after-kept : (b : Bundle) (used : ℕ) (joiner : Joining) (word before now : List ℕ) → old.at + old.taken + length left ≤ 67108864
      → front_of (kept_by old.unfinished ++ left) ≡ whole b (length (kept_by old.unfinished) + used)
      → keeps_going old.command ≡ true
      → step_of old.command old.joiner.joins b (old.taken + used) ≡ refuses word → leaves_of old.command old.joiner.joins b ≡ Some joiner.joins
      → joiner.spent ≡ false → now ≡ before ++ turned_down_line old.number word
      → GoesAfter old left used before (passed (with_refused (with_joiner old joiner) true) used) now
  goes-after-kept b used joiner word before now room is keeps said leaves memory added =
      let inside = whole-inside b used is in
      let count : length (kept_by old.unfinished) + used ≡ old.taken + used = omega (arith, sound.held) in
      goes-after true b used joiner (turned_down_line old.number word) before now room is
      (λ plain. sym keeps ∙ plain)
      (goes-kept old.command old.any_refused old.joiner.joins old.number old.at (length (kept_by old.unfinished) + used) b word joiner.joins (kept_by old.unfinished ++ left)
      all-octets all-some is (omega (arith, count, inside.1)) (omega (arith, inside.0, length-append (kept_by old.unfinished) left)) (rw count said) leaves)
      memory added

  -- it goes on after them
  pub goes-after-part : (new : Option Unfinished) (text : List ℕ) → old.at + old.taken + length left ≤ 67108864
      → IsSomeAnd new (HasBegunWith (kept_by old.unfinished ++ left))
      → GoesAfter old left (length left) text (waiting (with_unfinished old new) (length left)) text
  goes-after-part None text room begun = absurd begun
  goes-after-part (Some new) text room (begun, kept) = record {
    sound = record {
      begun = begun;
      held = sym size ∙ ap length (sym kept);
      within = omega (arith, room);
      counted = sound.counted;
      memory = sound.memory;
      clean = sound.clean;
    };
    text = [];
    added = sym (append-nil text);
    goes = λ ends more.
        from-old ends more
        ∙ ap (λ (t : List ℕ). settles_from old.command old.any_refused old.joiner.joins old.number old.at ends (t ++ more)) (sym kept)
        ∙ ap (λ (t : List ℕ). settles_from old.command old.any_refused old.joiner.joins old.number old.at ends (kept_of new ++ (t ++ more))) (sym (drop-all left));
    inside = omega arith;
    passed = omega arith;
    less = omega (arith, some);
  }

  -- it is refused
  pub ends-refused : (at : ℕ) (cause : Cause) (before now : List ℕ) → front_of (kept_by old.unfinished ++ left) ≡ refused at cause
      → now ≡ before ++ refused_line old.number (old.at + at) (word_of cause) → EndsWith old left before now
  ends-refused at cause before now is added = record {
    text = refused_line old.number (old.at + at) (word_of cause);
    added = added;
    goes = λ ends more.
        from-old ends more
        ∙ goes-refused old.command old.any_refused old.joiner.joins old.number old.at at cause (kept_by old.unfinished ++ left) all-octets all-some is ends more;
  }

  -- it is valid, and the command refuses it, which ends the run
  pub ends-turned-down : (b : Bundle) (used : ℕ) (word before now : List ℕ)
      → front_of (kept_by old.unfinished ++ left) ≡ whole b (length (kept_by old.unfinished) + used)
      → step_of old.command old.joiner.joins b (old.taken + used) ≡ refuses word → leaves_of old.command old.joiner.joins b ≡ None
      → now ≡ before ++ turned_down_line old.number word → EndsWith old left before now
  ends-turned-down b used word before now is said leaves added = record {
    text = turned_down_line old.number word;
    added = added;
    goes = λ ends more.
        let inside = whole-inside b used is in
        let count : length (kept_by old.unfinished) + used ≡ old.taken + used = omega (arith, sound.held) in
        from-old ends more
        ∙ goes-turned-down old.command old.any_refused old.joiner.joins old.number old.at (length (kept_by old.unfinished) + used) b word (kept_by old.unfinished ++ left)
        all-octets all-some is (omega (arith, count, inside.1)) (omega (arith, inside.0, length-append (kept_by old.unfinished) left)) (rw count said) leaves ends more;
  }

-- ---- the same, of what the code stands at once the octets were looked at

module _ {A : Type 0} (IsWanted : Bundle → A → Type 0) (old mid : Standing) (left : List ℕ) (sound : IsSound old) (fits : IsOctets left) (some : 0 < length left)
    (room : old.at + old.taken + length left ≤ 67108864) where
  -- places and counts are in range
  pub whole-room : (wanted : A) (used : ℕ) → Took IsWanted old left mid (Whole wanted used)
      → (mid.at + (mid.taken + used) ≤ 67108864) × (mid.number ≤ 67108864)
  whole-room wanted used took =
      let inside = whole-inside old left sound fits some took.finds.0 used took.finds.2 in
      rw took.same (omega (arith, inside.0, room), omega (arith, sound.counted, sound.within, inside.0, room))

  pub refused-room : (at : ℕ) (cause : Cause) → Took IsWanted old left mid (Refused at cause) → mid.at + at ≤ 67108864
  refused-room at cause took = rw took.same (omega (arith, room, refused-inside old left sound fits some at cause took.finds))

  pub part-room : mid ≡ with_unfinished old mid.unfinished → mid.taken + length left ≤ 67108864
  part-room same = rw same (omega (arith, room))

  pub step-part : (text : List ℕ) → Took IsWanted old left mid Part → GoesAfter old left (length left) text (waiting mid (length left)) text
  step-part text took =
      let is : waiting mid (length left) ≡ waiting (with_unfinished old mid.unfinished) (length left) = ap (λ (s : Standing). waiting s (length left)) took.same in
      rw is (goes-after-part old left sound fits some mid.unfinished text room took.keeps)

  pub step-refused : (at : ℕ) (cause : Cause) (before now : List ℕ) → Took IsWanted old left mid (Refused at cause)
      → now ≡ before ++ refused_line mid.number (mid.at + at) (word_of cause) → EndsWith old left before now
  step-refused at cause before now took added =
      let line : refused_line mid.number (mid.at + at) (word_of cause) ≡ refused_line old.number (old.at + at) (word_of cause) =
      ap (λ (s : Standing). refused_line s.number (s.at + at) (word_of cause)) took.same in
      ends-refused old left sound fits some at cause before now took.finds (added ∙ ap (λ (t : List ℕ). before ++ t) line)

module _ (old mid : Standing) (left : List ℕ) (sound : IsSound old) (fits : IsOctets left) (some : 0 < length left)
    (room : old.at + old.taken + length left ≤ 67108864) where
  pub step-checked : (version used : ℕ) (before now : List ℕ) → Took IsVersion old left mid (Whole version used) → old.command ≡ Check
      → now ≡ before ++ check_line version (mid.taken + used) → GoesAfter old left used before (passed mid used) now
  step-checked version used before now took check added =
      let (b, is, front) = took.finds in
      let new : passed mid used ≡ passed (with_joiner old old.joiner) used = ap (λ (s : Standing). passed s used) took.same in
      let line : check_line version (mid.taken + used) ≡ check_line (version_of b) (old.taken + used) =
      ap (λ (s : Standing). check_line version (s.taken + used)) took.same ∙ ap (λ (v : ℕ). check_line v (old.taken + used)) is in
      let said : step_of old.command old.joiner.joins b (old.taken + used) ≡ says (check_line (version_of b) (old.taken + used)) old.joiner.joins = rw check refl in
      rw new (goes-after-whole old left sound fits some b used old.joiner (check_line (version_of b) (old.taken + used)) before now room front said sound.memory (added ∙ ap (λ (t : List ℕ). before ++ t) line))

  said-old : (b : Bundle) (used : ℕ) → mid ≡ with_unfinished old mid.unfinished
      → step_of old.command old.joiner.joins b (old.taken + used) ≡ step_of mid.command mid.joiner.joins b (mid.taken + used)
  said-old b used same = sym (ap (λ (s : Standing). step_of s.command s.joiner.joins b (s.taken + used)) same)

  pub step-said : (read : Bundle) (used : ℕ) (joiner : Joining) (text before now : List ℕ) → Took IsRead old left mid (Whole read used)
      → step_of mid.command mid.joiner.joins read (mid.taken + used) ≡ says text joiner.joins → now ≡ before ++ text → joiner.spent ≡ false
      → GoesAfter old left used before (passed (with_joiner mid joiner) used) now
  step-said read used joiner text before now took said added memory =
      let (b, is, front) = took.finds in
      let new : passed (with_joiner mid joiner) used ≡ passed (with_joiner old joiner) used = ap (λ (s : Standing). passed (with_joiner s joiner) used) took.same in
      rw new (goes-after-whole old left sound fits some b used joiner text before now room front (said-old b used took.same ∙ rw is.0 at said) memory added)

  line-old : (word now : List ℕ) → mid ≡ with_unfinished old mid.unfinished
      → now ++ turned_down_line mid.number word ≡ now ++ turned_down_line old.number word
  line-old word now same = ap (λ (s : Standing). now ++ turned_down_line s.number word) same

  pub step-turned-down : (read : Bundle) (used : ℕ) (joins : List Join) (cause : TurnedDown) (before now after : List ℕ) → Took IsRead old left mid (Whole read used)
      → Writes (step_of mid.command mid.joiner.joins read (mid.taken + used)) before now joins (Err cause)
      → keeps_going mid.command ≡ false
      → after ≡ now ++ turned_down_line mid.number (turned_down_word cause) → EndsWith old left before after
  step-turned-down read used joins cause before now after took (said, same) plain added =
      let (b, is, front) = took.finds in
      let ends : keeps_going old.command ≡ false = sym (ap (λ (s : Standing). keeps_going s.command) took.same) ∙ plain in
      ends-turned-down old left sound fits some b used (turned_down_word cause) before after front (said-old b used took.same ∙ rw is.0 at said)
      (plain-leaves old.command old.joiner.joins b ends)
      (added ∙ line-old (turned_down_word cause) now took.same ∙ ap (λ (t : List ℕ). t ++ turned_down_line old.number (turned_down_word cause)) same)

  pub step-kept : (read : Bundle) (used : ℕ) (joiner : Joining) (cause : TurnedDown) (before now after : List ℕ) → Took IsRead old left mid (Whole read used)
      → Writes (step_of mid.command mid.joiner.joins read (mid.taken + used)) before now joiner.joins (Err cause)
      → IfSome (leaves_of mid.command mid.joiner.joins read) (λ left. joiner.joins ≡ left) → joiner.spent ≡ false
      → keeps_going mid.command ≡ true
      → after ≡ now ++ turned_down_line mid.number (turned_down_word cause)
      → GoesAfter old left used before (passed (with_refused (with_joiner mid joiner) true) used) after
  step-kept read used joiner cause before now after took (said, same) leaves memory keeps added =
      let (b, is, front) = took.finds in
      let new : passed (with_refused (with_joiner mid joiner) true) used ≡ passed (with_refused (with_joiner old joiner) true) used =
      ap (λ (s : Standing). passed (with_refused (with_joiner s joiner) true) used) took.same in
      let goes : keeps_going old.command ≡ true = sym (ap (λ (s : Standing). keeps_going s.command) took.same) ∙ keeps in
      let left_old : leaves_of old.command old.joiner.joins b ≡ leaves_of mid.command mid.joiner.joins b =
      sym (ap (λ (s : Standing). leaves_of s.command s.joiner.joins b) took.same) in
      rw new (goes-after-kept old left sound fits some b used joiner (turned_down_word cause) before after room front goes
      (said-old b used took.same ∙ rw is.0 at said)
      (left_old ∙ kept-leaves mid.command mid.joiner.joins b joiner.joins keeps (rw is.0 at leaves))
      memory
      (added ∙ line-old (turned_down_word cause) now took.same ∙ ap (λ (t : List ℕ). t ++ turned_down_line old.number (turned_down_word cause)) same))

-- ---- the steps so far

-- all that the octets so far settle was written
pub quiet : (s : Standing) → IsSound s → IsQuiet (settling_of s)
quiet s sound = by_unfinished s.unfinished refl sound.begun
  where
    by_unfinished : (unfinished : Option Unfinished) → s.unfinished ≡ unfinished → IfSome unfinished HasBegun → IsQuiet (settling_of s)
    by_unfinished None is begun = rw is (settles-none s.command s.any_refused s.joiner.joins s.number s.at goes_on)
    by_unfinished (Some bundle) is begun =
        let (at, front) = is-cut (front_in bundle (kept_of bundle)) begun.cut in
        rw is (goes-cut s.command s.any_refused s.joiner.joins s.number s.at at (kept_of bundle) begun.some (front-kept bundle begun ∙ front))

pub so_far-start : (s : Standing) (piece text : List ℕ) → SoFar s s piece piece text text
so_far-start s piece text = record {
  written = [];
  added = sym (append-nil text);
  goes = λ ends more. refl;
}

pub so_far-more : (start now later : Standing) (piece left : List ℕ) (used : ℕ) (before text after : List ℕ)
    → SoFar start now piece left before text → GoesAfter now left used text later after
    → SoFar start later piece (drop used left) before after
so_far-more start now later piece left used before text after so_far step = record {
  written = so_far.written ++ step.text;
  added =
      step.added ∙ ap (λ (t : List ℕ). t ++ step.text) so_far.added
      ∙ append_assoc before so_far.written step.text;
  goes = λ ends more.
      so_far.goes ends more
      ∙ ap (put_before so_far.written) (step.goes ends more)
      ∙ put_before-put_before so_far.written step.text (settling_after later (drop used left) ends more);
}

pub so_far-stop : (start now : Standing) (Later : Settling → Type 0) (piece left before text after : List ℕ)
    → SoFar start now piece left before text → EndsWith now left text after
    → Feeds Later (settling_of start) piece before after (Some statuses.Refused)
so_far-stop start now Later piece left before text after so_far step = record {
  text = so_far.written ++ step.text;
  added =
      step.added ∙ ap (λ (t : List ℕ). t ++ step.text) so_far.added
      ∙ append_assoc before so_far.written step.text;
  takes = (
    tt,
    λ ends more.
        so_far.goes ends more
        ∙ ap (put_before so_far.written) (step.goes ends more)
        ∙ put_before-put_before so_far.written step.text (over statuses.Refused ends more),
  );
}

-- how the run ends is no matter of where the task stands then
pub feeds-any : (Now Later : Settling → Type 0) (settles : Settling) (piece before now : List ℕ) (status : Status)
    → Feeds Now settles piece before now (Some status) → Feeds Later settles piece before now (Some status)
feeds-any Now Later settles piece before now status feeds = record { text = feeds.text; added = feeds.added; takes = feeds.takes }

-- ---- the end of the input

pub finish-none : (s : Standing) (text : List ℕ) → kept_by s.unfinished ≡ [] → Finishes (settling_of s) text text (status_by s.any_refused)
finish-none s text none = record {
  text = [];
  added = sym (append-nil text);
  ends =
      ap (λ (t : List ℕ). settles_from s.command s.any_refused s.joiner.joins s.number s.at at_end (t ++ [])) none
      ∙ settles-none s.command s.any_refused s.joiner.joins s.number s.at at_end;
}

pub finish-done : (s : Standing) (text : List ℕ) → keeps_going s.command ≡ false → IsSound s → kept_by s.unfinished ≡ []
    → Finishes (settling_of s) text text statuses.Done
finish-done s text plain sound none =
    subst (λ (any : Bool). Finishes (settling_of s) text text (status_by any)) (sound.clean plain) (finish-none s text none)

pub finish-cut : (s : Standing) (bundle : Unfinished) (at : ℕ) (before now : List ℕ) → s.unfinished ≡ Some bundle
    → HasBegun bundle → front_in bundle (kept_of bundle) ≡ cut_short at
    → now ≡ before ++ refused_line s.number (s.at + at) (codes "Truncated") → Finishes (settling_of s) before now statuses.Refused
finish-cut s bundle at before now is begun front added = record {
  text = refused_line s.number (s.at + at) (codes "Truncated");
  added = added;
  ends =
      ap (λ (u : Option Unfinished). settles_from s.command s.any_refused s.joiner.joins s.number s.at at_end (kept_by u ++ [])) is
      ∙ ap (settles_from s.command s.any_refused s.joiner.joins s.number s.at at_end) (append-nil (kept_of bundle))
      ∙ settles-cut s.command s.any_refused s.joiner.joins s.number s.at at_end (kept_of bundle) at begun.some (front-kept bundle begun ∙ front);
}

-- octets that are cut short somewhere are some
pub cut-inside : (bundle : Unfinished) (at : ℕ) → HasBegun bundle → front_in bundle (kept_of bundle) ≡ cut_short at
    → at ≤ length (kept_of bundle)
cut-inside bundle at begun is =
    let there = front-within (kept_of bundle) begun.octets in
    rw (front-kept bundle begun ∙ is) at there

pub in-any-err : {T E P : Type 0} (r : Result T E) → P → OnErr r P
in-any-err (Ok x) p = tt
in-any-err (Err e) p = p
