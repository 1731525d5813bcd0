-- Octets of one bundle, and the line that they begin.
use Rattle.std.proofs.Common.{◌≡◌, ℕ, zero, suc, ◌+◌, ◌<◌, ◌≤◌, List, [], ◌∷◌, ◌++◌, length, take, drop, slice_index, Option, None, Some, IfSome, IsSomeAnd, refl, sym, ◌∙◌, ap, arith, append_assoc, length-append}
use Rattle.std.proofs.lemmas.List.{append-nil, take-append-drop, length-take-le, length-drop, take_all, nil_from_length}
use Rattle.edge_traits.specs.Settled.{put_before}
use Rattle.wire_fields.specs.Reading.{IsOctets}
use Rattle.bundle7.specs.Streaming.{Reading}
use Rattle.bundle_runs.specs.declared.commands.command.Command.TheVariants.{Show}
use Rattle.bundle_runs.specs.declared.front.Bundle.{Bundle}
use Rattle.bundle_runs.specs.declared.front.Cause.{Cause}
use Rattle.bundle_runs.specs.declared.given.Given.TheVariants.{Whole, Part, Refused}
use Rattle.bundle_runs.specs.declared.unfinished.Unfinished.{Unfinished}
use Rattle.bundle_runs.specs.declared.unfinished.Unfinished.TheVariants.{Six, Seven}
use Rattle.bundle_runs.specs.declared.coming.Coming.{Coming}
use Rattle.bundle_runs.specs.declared.coming.Coming.TheVariants as comings
use Rattle.bundle_runs.specs.declared.bundle_reader.Standing.{Standing}
use Rattle.bundle_runs.specs.declared.bundle_reader.Next.TheVariants.{After, End}
use Rattle.bundle_runs.specs.declared.show_reader.Showing.{Showing}
use Rattle.bundle_runs.specs.Front.{whole, front_of, word_of, version_of}
use Rattle.bundle_runs.specs.Answering.{step_of}
use Rattle.bundle_runs.specs.WrittenLines.{show_line, refused_line}
use Rattle.fragment_lines.specs.Said.{says}
use Rattle.bundle_runs.specs.Given.{IsRead}
use Rattle.bundle_runs.specs.Legal.{IsLegal}
use Rattle.bundle_runs.specs.Taking.{kept_of, mark_of, kept_by, settling_of, with_joiner, passed, waiting, IsCut, HasBegun, HasBegunWith, IsSound}
use Rattle.bundle_runs.specs.Coming.{IsShown, TookNone, ComesForAny, JudgedSo}
use Rattle.bundle_runs.specs.Showing.{octets_of_six, octets_with, ShowsAs, IsBundle, BeginsLine, ShowsOn, ShowsStep}
use Rattle.bundle_runs.proofs.TakingLemmas.{whole-inside, goes-after-whole, whole-room, refused-room, step-part, step-refused}
use Rattle.bundle_runs.proofs.BegunLemmas.{octets-join, drop-all, first-more, front-kept}
use Rattle.bundle_runs.proofs.CheckLemmas.{six-is}
use Rattle.bundle_runs.proofs.ComingLemmas.{coming-some, coming-none, begun-six, begun-seven}
use Rattle.bundle_runs.proofs.ShowLemmas.{front-own}

-- ---- octets of one bundle

-- where no text is due
pub kept-is : (s : Showing) (due : List ℕ) (old : Standing) → s.telling ≡ None → ShowsAs s due old
    → (s.octets.items ≡ octets_of_six old.unfinished) × (due ≡ [])
kept-is s due old none shows =
    let kept : s.octets.items ≡ octets_of_six old.unfinished = rw none at shows.kept in
    let nothing : due ≡ [] = rw none at shows.owes in
    (kept, nothing)

pub no-due : (s : Showing) (due : List ℕ) (old : Standing) → s.telling ≡ None → ShowsAs s due old → ShowsAs s [] old
no-due s due old none shows = rw (kept-is s due old none shows).1 at shows

-- ---- the octets of a bundle of version 6

-- where a bundle of version 6 ends, all its octets are kept
six-kept : (old : Standing) (left : List ℕ) (b : Bundle) (size : ℕ) → IsSound old → version_of b ≡ 6
    → front_of (kept_by old.unfinished ++ left) ≡ whole b size → octets_of_six old.unfinished ≡ kept_by old.unfinished
six-kept old left b size sound six = by old.unfinished sound.begun
  where
    by : (unfinished : Option Unfinished) → IfSome unfinished HasBegun → front_of (kept_by unfinished ++ left) ≡ whole b size
        → octets_of_six unfinished ≡ kept_by unfinished
    by None begun front = refl
    by (Some (Six reader)) begun front = refl
    by (Some (Seven reader)) begun front = absurd (omega (arith, six, begun-seven reader left b size begun front))

-- and where one of version 7 ends, none are
seven-kept : (old : Standing) (left : List ℕ) (b : Bundle) (size : ℕ) → IsSound old → version_of b ≡ 7
    → front_of (kept_by old.unfinished ++ left) ≡ whole b size → octets_of_six old.unfinished ≡ []
seven-kept old left b size sound seven = by old.unfinished sound.begun
  where
    by : (unfinished : Option Unfinished) → IfSome unfinished HasBegun → front_of (kept_by unfinished ++ left) ≡ whole b size
        → octets_of_six unfinished ≡ []
    by None begun front = refl
    by (Some (Six reader)) begun front = absurd (omega (arith, seven, begun-six reader left b size begun front))
    by (Some (Seven reader)) begun front = refl

-- a bundle that goes on keeps its version
same-mark : (old new : Unfinished) (left : List ℕ) → HasBegun old → HasBegunWith (kept_of old ++ left) new → mark_of old ≡ mark_of new
same-mark old new left begun (more, kept) =
    sym begun.mark ∙ sym (first-more (kept_of old) left begun.some) ∙ sym (ap (λ (t : List ℕ). slice_index t 0) kept) ∙ more.mark

-- and where octets don't end it, those are kept that came
module _ (seven : Reading) (old mid : Standing) (left : List ℕ) (sound : IsSound old)
    (keeps : IsSomeAnd mid.unfinished (HasBegunWith (kept_by old.unfinished ++ left))) where
  with-six : (reader : _) → mid.unfinished ≡ Some (Six reader) → octets_of_six old.unfinished ++ left ≡ octets_of_six mid.unfinished
  with-six reader is = by old.unfinished sound.begun (rw is at keeps) ∙ ap octets_of_six (sym is)
    where
      by : (unfinished : Option Unfinished) → IfSome unfinished HasBegun → HasBegunWith (kept_by unfinished ++ left) (Six reader)
          → octets_of_six unfinished ++ left ≡ octets_of_six (Some (Six reader))
      by None begun has = sym has.1
      by (Some (Six before)) begun has = sym has.1
      by (Some (Seven before)) begun has =
          let same : 0x9F ≡ 0x06 = same-mark (Seven before) (Six reader) left begun has in
          absurd (omega (arith, same))

  without-six : (reader : _) → mid.unfinished ≡ Some (Seven reader) → octets_of_six old.unfinished ≡ octets_of_six mid.unfinished
  without-six reader is = by old.unfinished sound.begun (rw is at keeps) ∙ ap octets_of_six (sym is)
    where
      by : (unfinished : Option Unfinished) → IfSome unfinished HasBegun → HasBegunWith (kept_by unfinished ++ left) (Seven reader)
          → octets_of_six unfinished ≡ []
      by None begun has = refl
      by (Some (Six before)) begun has =
          let same : 0x06 ≡ 0x9F = same-mark (Six before) (Seven reader) left begun has in
          absurd (omega (arith, same))
      by (Some (Seven before)) begun has = refl

  pub kept-with : (begun : Option Coming) → ComesForAny begun seven mid.unfinished
      → octets_with begun (octets_of_six old.unfinished) left ≡ octets_of_six mid.unfinished
  kept-with None comes =
      let has : IsSomeAnd None (HasBegunWith (kept_by old.unfinished ++ left)) = rw (coming-none seven mid.unfinished comes).0 at keeps in
      absurd has
  kept-with (Some (comings.Six judge)) comes =
      let (bundle, is, stands) = coming-some seven (comings.Six judge) mid.unfinished comes in
      let (reader, six) = six-is judge bundle stands.0 in
      with-six reader (is ∙ ap Some six)
  kept-with (Some comings.Seven) comes =
      let (bundle, is, stands) = coming-some seven comings.Seven mid.unfinished comes in
      without-six seven (is ∙ ap Some stands)

octets-front : (u v : List ℕ) → IsOctets (u ++ v) → IsOctets u
octets-front [] v fits i = omega arith
octets-front (x ∷ u) v fits zero = fits 0
octets-front (x ∷ u) v fits (suc i) = octets-front u v (λ j. fits (suc j)) i

module _ (old : Standing) (left : List ℕ) (sound : IsSound old) (fits : IsOctets left) (some : 0 < length left)
    (room : old.at + old.taken + length left ≤ 67108864) where
  kept-octets : (unfinished : Option Unfinished) → old.unfinished ≡ unfinished → IsOctets (kept_by unfinished)
  kept-octets None is = λ i. omega arith
  kept-octets (Some bundle) is =
      let has : HasBegun bundle = rw is at sound.begun in
      has.octets

  all-fit : IsOctets (kept_by old.unfinished ++ left)
  all-fit = octets-join (kept_by old.unfinished) left (kept-octets old.unfinished refl) fits

  -- a bundle doesn't end before the octets that are left
  module _ (b : Bundle) (used : ℕ) (is : front_of (kept_by old.unfinished ++ left) ≡ whole b (length (kept_by old.unfinished) + used)) where
    pub low : used ≤ length left
    low = (whole-inside old left sound fits some b used is).0

    pub used-some : 0 < used
    used-some = by old.unfinished refl is
      where
        by : (unfinished : Option Unfinished) → old.unfinished ≡ unfinished
            → front_of (kept_by unfinished ++ left) ≡ whole b (length (kept_by unfinished) + used) → 0 < used
        by None none front =
            let held : old.taken ≡ 0 = rw none at sound.held in
            omega (arith, (whole-inside old left sound fits some b used is).1, held)
        by (Some bundle) some front = by_used used refl
          where
            has : HasBegun bundle
            has = rw some at sound.begun

            by_used : (n : ℕ) → used ≡ n → 0 < n
            by_used zero none =
                let size : length (kept_of bundle) + used ≡ length (kept_of bundle) = omega (arith, none) in
                let there : IsOctets (kept_of bundle ++ left) = octets-join (kept_of bundle) left has.octets fits in
                let own : front_of (kept_of bundle) ≡ whole b (length (kept_of bundle)) =
                front-own (kept_of bundle) left b (length (kept_of bundle)) there has.some (omega arith) (front ∙ ap (whole b) size) in
                let cut : IsCut (front_of (kept_of bundle)) = rw (front-kept bundle has) has.cut in
                absurd (rw own at cut)
            by_used (suc n) more = omega arith

    abbrev own-octets : List ℕ
    own-octets = kept_by old.unfinished ++ take used left

    own-size : length own-octets ≡ length (kept_by old.unfinished) + used
    own-size = length-append (kept_by old.unfinished) (take used left) ∙ ap (λ (n : ℕ). length (kept_by old.unfinished) + n) (length-take-le used left low)

    all-parts : kept_by old.unfinished ++ left ≡ own-octets ++ drop used left
    all-parts =
        ap (λ (v : List ℕ). kept_by old.unfinished ++ v) (sym (take-append-drop used left))
        ∙ sym (append_assoc (kept_by old.unfinished) (take used left) (drop used left))

    pub front-is : front_of own-octets ≡ whole b (length (kept_by old.unfinished) + used)
    front-is =
        front-own own-octets (drop used left) b (length (kept_by old.unfinished) + used) (rw all-parts at all-fit)
        (omega (arith, own-size, used-some)) (omega (arith, own-size)) (rw all-parts at is)

    pub near-size : length (take used left) ≡ used
    near-size = length-take-le used left low

    pub near-fits : IsOctets (take used left)
    near-fits = octets-front (take used left) (drop used left) (rw (take-append-drop used left) fits)

    pub near-none : drop used (take used left) ≡ []
    near-none = nil_from_length (drop used (take used left)) (omega (arith, length-drop used (take used left), near-size))

    pub own-bundle : front_of (kept_by old.unfinished ++ take used left) ≡ whole b (length (kept_by old.unfinished ++ take used left))
    own-bundle = front-is ∙ ap (whole b) (sym own-size)

    pub own-fits : IsOctets (kept_by old.unfinished ++ take used left)
    own-fits = octets-join (kept_by old.unfinished) (take used left) (kept-octets old.unfinished refl) near-fits

    -- it ended, and its line was begun
    pub line-begun : (new : Showing) (before now : List ℕ) → old.command ≡ Show → new.number ≡ old.number + 1
        → new.at ≡ old.at + (old.taken + used) → new.taken ≡ 0 → new.begun ≡ None → TookNone new.seven
        → BeginsLine (show_line b) before new.telling new.octets.items now → ShowsOn old (take used left) before new now
    line-begun new before now show number place none_taken begun rests line =
        let said : step_of old.command old.joiner.joins b (old.taken + used) ≡ says (show_line b) old.joiner.joins = rw show refl in
        let goes = goes-after-whole old (take used left) sound near-fits (omega (arith, near-size, used-some)) b used old.joiner (show_line b) [] (show_line b)
        (omega (arith, near-size, low, room)) front-is said sound.memory refl in
        record {
          later = passed (with_joiner old old.joiner) used;
          due = line.due;
          shows = record {
            command = show;
            number = number;
            place = place;
            took = none_taken;
            bundle = rw begun rests;
            kept = line.none_begun;
            owes = line.owes;
            sound = goes.sound;
          };
          text = line.text;
          added = line.added;
          goes = λ ends more.
              goes.goes ends more
              ∙ ap (λ (v : List ℕ). put_before v (settling_of (passed (with_joiner old old.joiner) used) ends (drop used (take used left) ++ more))) (sym goes.added ∙ line.parts)
              ∙ ap (λ (v : List ℕ). put_before (line.text ++ line.due) (settling_of (passed (with_joiner old old.joiner) used) ends (v ++ more))) near-none;
          passed = omega (arith, near-size);
        }

-- ---- a step, by what the reading stood at

module _ (s : Showing) (left : List ℕ) (fits : IsOctets left) (some : 0 < length left) (none : s.telling ≡ None)
    (room : s.at + s.taken + length left ≤ 67108864) (old : Standing) (shows : ShowsAs s [] old) where
  kept : s.octets.items ≡ octets_of_six old.unfinished
  kept = (kept-is s [] old none shows).0

  pub old-room : old.at + old.taken + length left ≤ 67108864
  old-room = omega (arith, room, shows.place, shows.took)

  module _ (begun : Option Coming) (seven : Reading) (found : Option Bundle) (used : ℕ) (judged : JudgedSo old left begun seven (Whole found used)) where
    pub inside-whole : (0 < used) × (used ≤ length left)
    inside-whole =
        let (b, is, front) = judged.took.finds in
        (used-some old left shows.sound fits some old-room b used front, low old left shows.sound fits some old-room b used front)

    pub room-whole : (s.at + (s.taken + used) ≤ 67108864) × (s.number ≤ 67108864)
    room-whole =
        let there = whole-room IsShown old judged.mid left shows.sound fits some old-room found used judged.took in
        let same = judged.took.same in (
          omega (
            arith,
            there.0,
            ap (λ (t : Standing). t.at) same,
            ap (λ (t : Standing). t.taken) same,
            shows.place,
            shows.took,
          ),
          omega (arith, there.1, ap (λ (t : Standing). t.number) same, shows.number),
        )

    -- one of version 6 is told out of its octets
    pub bundle-whole : (octets : List ℕ) → found ≡ None → octets ≡ s.octets.items ++ take used left → IsBundle octets judged.took.finds.0
    bundle-whole octets six is =
        let (b, shown, front) = judged.took.finds in
        let version : version_of b ≡ 6 = rw six at shown in
        let all : s.octets.items ≡ kept_by old.unfinished = kept ∙ six-kept old left b _ shows.sound version front in
        let same : octets ≡ kept_by old.unfinished ++ take used left = is ∙ ap (λ (v : List ℕ). v ++ take used left) all in
        record {
          named = sym version;
          fits = rw same (own-fits old left shows.sound fits some old-room b used front);
          front = rw same (own-bundle old left shows.sound fits some old-room b used front);
        }

    pub shows-whole : (new : Showing) (octets before now : List ℕ) → found ≡ None → octets ≡ s.octets.items ++ take used left → new.number ≡ s.number + 1
        → new.at ≡ s.at + (s.taken + used) → new.taken ≡ 0 → new.begun ≡ None → new.seven ≡ seven
        → ((b : Bundle) → IsBundle octets b → BeginsLine (show_line b) before new.telling new.octets.items now)
        → ShowsStep old left before new now (After used)
    shows-whole new octets before now six is number place none_taken none_begun same line =
        let (b, shown, front) = judged.took.finds in (
          inside-whole.0,
          inside-whole.1,
          line-begun old left shows.sound fits some old-room b used front new before now shows.command
              (number ∙ ap (λ (n : ℕ). n + 1) shows.number) (omega (arith, place, shows.place, shows.took)) none_taken none_begun
              (same ∙ judged.rests) (line b (bundle-whole octets six is)),
        )

    -- the line of one of version 7 is written at once
    pub read-legal : (b : Bundle) → found ≡ Some b → IsLegal b
    read-legal b seven =
        let (bundle, shown, front) = judged.took.finds in
        let is : (version_of bundle ≡ 7) × IsRead bundle b = rw seven at shown in
        rw is.1.0 is.1.1

    pub shows-read : (new : Showing) (b : Bundle) (before now : List ℕ) → found ≡ Some b → new.number ≡ s.number + 1
        → new.at ≡ s.at + (s.taken + used) → new.taken ≡ 0 → new.begun ≡ None → new.seven ≡ seven → new.telling ≡ None
        → new.octets.items ≡ s.octets.items → now ≡ before ++ show_line b → ShowsStep old left before new now (After used)
    shows-read new b before now read number place none_taken none_begun same none_told same_octets added =
        let (bundle, shown, front) = judged.took.finds in
        let (version, is) : (version_of bundle ≡ 7) × IsRead bundle b = rw read at shown in
        let nothing : new.octets.items ≡ [] = same_octets ∙ kept ∙ seven-kept old left bundle _ shows.sound version front in (
          inside-whole.0,
          inside-whole.1,
          line-begun old left shows.sound fits some old-room bundle used front new before now shows.command
              (number ∙ ap (λ (n : ℕ). n + 1) shows.number)
              (omega (arith, place, shows.place, shows.took)) none_taken none_begun (same ∙ judged.rests)
              (rw none_told (record {
                text = show_line bundle;
                due = [];
                added = added ∙ ap (λ (v : Bundle). before ++ show_line v) is.0;
                parts = sym (append-nil (show_line bundle));
                owes = refl;
                none_begun = nothing;
              })),
        )

  pub shows-part : (new : Showing) (text : List ℕ) → JudgedSo old left new.begun new.seven Part → new.number ≡ s.number → new.at ≡ s.at
      → new.taken ≡ s.taken + length left → new.telling ≡ None → new.octets.items ≡ octets_with new.begun s.octets.items left
      → ShowsStep old left text new text (After (length left))
  shows-part new text judged number place took not_telling octets =
      let goes = step-part IsShown old judged.mid left shows.sound fits some old-room [] judged.took in
      let same = judged.took.same in
      let all : take (length left) left ≡ left = take_all (length left) left (omega arith) in
      let added : new.octets.items ≡ octets_of_six judged.mid.unfinished =
      octets ∙ ap (λ (v : List ℕ). octets_with new.begun v left) kept
      ∙ kept-with new.seven old judged.mid left shows.sound judged.took.keeps new.begun judged.part in (
        some,
        omega arith,
        rw all (record {
          later = waiting judged.mid (length left);
          due = [];
          shows = record {
            command = ap (λ (t : Standing). t.command) same ∙ shows.command;
            number = number ∙ shows.number ∙ sym (ap (λ (t : Standing). t.number) same);
            place = place ∙ shows.place ∙ sym (ap (λ (t : Standing). t.at) same);
            took = omega (arith, took, shows.took, ap (λ (t : Standing). t.taken) same);
            bundle = judged.part;
            kept = rw not_telling added;
            owes = rw not_telling refl;
            sound = goes.sound;
          };
          text = [];
          added = sym (append-nil text);
          goes = λ ends more.
              goes.goes ends more
              ∙ ap (λ (v : List ℕ). put_before v (settling_of (waiting judged.mid (length left)) ends (drop (length left) left ++ more))) (sym goes.added)
              ∙ ap (λ (v : List ℕ). put_before [] (settling_of (waiting judged.mid (length left)) ends (v ++ more))) (drop-all left);
          passed = goes.passed;
        }),
      )

  pub shows-waited : (begun : Option Coming) (seven : Reading) (new : Showing) (text : List ℕ) → JudgedSo old left begun seven Part
      → new ≡ record {
        number = s.number;
        at = s.at;
        taken = s.taken + length left;
        begun = begun;
        telling = s.telling;
        octets = new.octets;
        seven = seven;
      } → new.octets.items ≡ octets_with begun s.octets.items left → ShowsStep old left text new text (After (length left))
  shows-waited begun seven new text judged same octets =
      let begun_same : new.begun ≡ begun = ap (λ (t : Showing). t.begun) same in
      let seven_same : new.seven ≡ seven = ap (λ (t : Showing). t.seven) same in
      shows-part new text (rw (begun_same, seven_same) judged) (ap (λ (t : Showing). t.number) same) (ap (λ (t : Showing). t.at) same)
      (ap (λ (t : Showing). t.taken) same) (ap (λ (t : Showing). t.telling) same ∙ none) (rw begun_same octets)

  pub room-refused : (begun : Option Coming) (seven : Reading) (at : ℕ) (cause : Cause) → JudgedSo old left begun seven (Refused at cause)
      → s.at + at ≤ 67108864
  room-refused begun seven at cause judged =
      let there = refused-room IsShown old judged.mid left shows.sound fits some old-room at cause judged.took in
      omega (arith, there, ap (λ (t : Standing). t.at) judged.took.same, shows.place)

  pub shows-refused : (begun : Option Coming) (seven : Reading) (new : Showing) (at : ℕ) (cause : Cause) (before now : List ℕ)
      → JudgedSo old left begun seven (Refused at cause)
      → now ≡ before ++ refused_line s.number (s.at + at) (word_of cause) → ShowsStep old left before new now End
  shows-refused begun seven new at cause before now judged added =
      let same = judged.took.same in
      let number : s.number ≡ judged.mid.number = shows.number ∙ sym (ap (λ (t : Standing). t.number) same) in
      let place : s.at ≡ judged.mid.at = shows.place ∙ sym (ap (λ (t : Standing). t.at) same) in
      step-refused IsShown old judged.mid left shows.sound fits some old-room at cause before now judged.took
      (added ∙ ap (λ (n : ℕ). before ++ refused_line n (s.at + at) (word_of cause)) number
      ∙ ap (λ (n : ℕ). before ++ refused_line judged.mid.number (n + at) (word_of cause)) place)
