-- What a judge of the bundle under way gives, beside a reading that keeps all octets.
use Rattle.std.proofs.Common.{false, ◌≡◌, ℕ, ◌+◌, ◌<◌, ◌≤◌, List, [], length, slice_index, Option, None, Some, Result, Ok, Err, IfOk, IsSomeAnd, refl, ◌∙◌, ap, arith}
use Rattle.std.specs.declared.alloc.AllocError.{AllocError}
use Rattle.wire_fields.specs.Reading.{IsOctets}
use Rattle.bundle6.specs.declared.fault.Cause6.{Cause6}
use Rattle.bundle6.specs.declared.fault.Fail6.TheVariants as fails6
use Rattle.bundle6.specs.declared.reader.Judged6.{Judged6}
use Rattle.bundle6.specs.Streaming as streaming6
use Rattle.bundle7.specs.declared.fault.Cause7.{Cause7}
use Rattle.bundle7.specs.declared.fault.Fail7.TheVariants as fails7
use Rattle.bundle7.specs.declared.reader.Judged7.{Judged7}
use Rattle.bundle7.specs.Streaming as streaming7
use Rattle.bundle_judges.specs.Judging6 as judging6
use Rattle.bundle_judges.specs.Judging7 as judging7
use Rattle.bundle_runs.specs.declared.front.Cause.TheVariants as causes
use Rattle.bundle_runs.specs.declared.given.Given.{Given}
use Rattle.bundle_runs.specs.declared.given.Given.TheVariants.{Whole, Part, Refused}
use Rattle.bundle_runs.specs.declared.unfinished.Unfinished.{Unfinished}
use Rattle.bundle_runs.specs.declared.unfinished.Unfinished.TheVariants.{Six, Seven}
use Rattle.bundle_runs.specs.declared.begun.Begun.{Begun}
use Rattle.bundle_runs.specs.declared.begun.Begun.TheVariants as begins
use Rattle.bundle_runs.specs.declared.bundle_reader.Standing.{Standing}
use Rattle.bundle_runs.specs.declared.check_reader.Checking.{Checking}
use Rattle.bundle_runs.specs.Front.{cut_short, front_of}
use Rattle.bundle_runs.specs.Given.{Finds, IsVersion}
use Rattle.bundle_runs.specs.Taking.{kept_of, with_unfinished, IsReady, IsCut, HasBegun, HasBegunWith, IsCutAt}
use Rattle.bundle_runs.specs.Checking.{StandsFor, StandsForAny, MayTake, IfPart, IfOn, IsNew, JudgesMore, Shadows, with_judges, JudgedOn}
use Rattle.bundle_runs.proofs.GivenLemmas.{judge-whole6, part6, refuses6, begun6, cut6, judge-whole7, part7, refuses7, cut7}
use Rattle.bundle_runs.proofs.BegunLemmas.{took-more, took-first}

-- ---- a judge of version 6

reading6 : streaming6.Stream → streaming6.Reading
reading6 stream = record { stream = stream; refused = None; spent = false }

pub six-whole : (reader : streaming6.Reading) (piece : List ℕ) (new : judging6.Judging) (judged : Judged6) (size : ℕ) → IsReady (Six reader)
    → judged.whole ≡ Some size → judging6.JudgesOn 67108864 reader.stream piece (Ok judged) new.stand
    → JudgesMore (Six reader) piece (begins.Six new) (Whole 6 judged.used)
unfolding reading6
six-whole reader piece new judged size ready is (after, judges, taken) = record {
  later = Six (reading6 after);
  takes = judge-whole6 67108864 reader (reading6 after) piece ready.2 judged.used size (rw is at judges);
  part = tt;
}

pub six-part : (reader : streaming6.Reading) (piece : List ℕ) (new : judging6.Judging) (judged : Judged6) → IsReady (Six reader)
    → judged.whole ≡ None → judging6.JudgesOn 67108864 reader.stream piece (Ok judged) new.stand → (new.refused ≡ None) × (new.spent ≡ false)
    → JudgesMore (Six reader) piece (begins.Six new) Part
unfolding reading6
six-part reader piece new judged ready is (after, judges, taken) fresh = record {
  later = Six (reading6 after);
  takes = part6 67108864 reader (reading6 after) piece ready.2 IsVersion judged.used (rw is at judges) (refl, refl);
  part = (fresh.0, fresh.1, taken);
}

pub six-refused : (reader : streaming6.Reading) (piece : List ℕ) (new : judging6.Judging) (at : ℕ) (cause : Cause6) → IsReady (Six reader)
    → length reader.stream.kept + length piece ≤ 67108864
    → judging6.JudgesOn 67108864 reader.stream piece (Err (fails6.Refused at cause)) new.stand
    → JudgesMore (Six reader) piece (begins.Six new) (Refused at (causes.Six cause))
six-refused reader piece new at cause ready fits judges = record {
  later = Six reader;
  takes = refuses6 67108864 reader reader piece ready.2 IsVersion at cause fits judges;
  part = tt;
}

pub six-begun : (octets : List ℕ) (new : judging6.Judging) (judged : Judged6) → judging6.JudgesOn 67108864 (record { before = 0; kept = [] }) octets (Ok judged) new.stand
    → (new.refused ≡ None) × (new.spent ≡ false) → IsOctets octets → 0 < length octets → slice_index octets 0 ≡ 6 → IsCut (front_of octets)
    → (bundle : Unfinished) × StandsFor (begins.Six new) bundle × HasBegunWith octets bundle
unfolding reading6
six-begun octets new judged (after, judges, taken) fresh fits some first cut = (
  Six (reading6 after),
  (fresh.0, fresh.1, taken),
  begun6 67108864 (reading6 after) octets judged.used judged.whole judges (refl, refl) fits some first cut,
)

pub six-finished : (reader : streaming6.Reading) → IsReady (Six reader) → streaming6.Finishes reader.stream (Ok tt) → IsCutAt (Six reader) None
six-finished reader ready none = none

pub six-cut : (reader : streaming6.Reading) (at : ℕ) (cause : Cause6) → IsReady (Six reader)
    → streaming6.Finishes reader.stream (Err (fails6.Refused at cause)) → IsCutAt (Six reader) (Some at)
six-cut reader at cause ready (some, named, (p, reads, spot)) =
    let place : p ≡ at = omega (arith, spot, ready.2) in
    (cut6 reader.stream.kept p reads ∙ ap cut_short place, some)

pub six-is : (judge : judging6.Judging) (bundle : Unfinished) → StandsFor (begins.Six judge) bundle → (reader : streaming6.Reading) × (bundle ≡ Six reader)
six-is judge (Six reader) stands = (reader, refl)
six-is judge (Seven reader) stands = absurd stands

-- ---- a judge of version 7

reading7 : streaming7.Stream → streaming7.Reading
reading7 stream = record { stream = stream; refused = None; spent = false }

pub seven-whole : (reader : streaming7.Reading) (piece : List ℕ) (new : judging7.Judging) (judged : Judged7) (size : ℕ) → IsReady (Seven reader)
    → judged.whole ≡ Some size → judging7.JudgesOn 67108864 reader.stream piece (Ok judged) new.stand
    → JudgesMore (Seven reader) piece (begins.Seven new) (Whole 7 judged.used)
unfolding reading7
seven-whole reader piece new judged size ready is (after, judges, taken) = record {
  later = Seven (reading7 after);
  takes = judge-whole7 67108864 reader (reading7 after) piece ready.2 judged.used size (rw is at judges);
  part = tt;
}

pub seven-part : (reader : streaming7.Reading) (piece : List ℕ) (new : judging7.Judging) (judged : Judged7) → IsReady (Seven reader)
    → judged.whole ≡ None → judging7.JudgesOn 67108864 reader.stream piece (Ok judged) new.stand → (new.refused ≡ None) × (new.spent ≡ false)
    → JudgesMore (Seven reader) piece (begins.Seven new) Part
unfolding reading7
seven-part reader piece new judged ready is (after, judges, taken) fresh = record {
  later = Seven (reading7 after);
  takes = part7 67108864 reader (reading7 after) piece ready.2 IsVersion judged.used (rw is at judges) (refl, refl);
  part = (fresh.0, fresh.1, taken);
}

pub seven-refused : (reader : streaming7.Reading) (piece : List ℕ) (new : judging7.Judging) (at : ℕ) (cause : Cause7) → IsReady (Seven reader)
    → length reader.stream.kept + length piece ≤ 67108864
    → judging7.JudgesOn 67108864 reader.stream piece (Err (fails7.Refused at cause)) new.stand
    → JudgesMore (Seven reader) piece (begins.Seven new) (Refused at (causes.Seven cause))
seven-refused reader piece new at cause ready fits judges = record {
  later = Seven reader;
  takes = refuses7 67108864 reader reader piece ready.2 IsVersion at cause fits judges;
  part = tt;
}

pub seven-finished : (reader : streaming7.Reading) → IsReady (Seven reader) → streaming7.Finishes reader.stream (Ok tt) → IsCutAt (Seven reader) None
seven-finished reader ready none = none

pub seven-cut : (reader : streaming7.Reading) (at : ℕ) (cause : Cause7) → IsReady (Seven reader)
    → streaming7.Finishes reader.stream (Err (fails7.Refused at cause)) → IsCutAt (Seven reader) (Some at)
seven-cut reader at cause ready (some, named, (p, reads, spot)) =
    let place : p ≡ at = omega (arith, spot, ready.2) in
    (cut7 reader.stream.kept p reads ∙ ap cut_short place, some)

pub seven-is : (judge : judging7.Judging) (bundle : Unfinished) → StandsFor (begins.Seven judge) bundle → (reader : streaming7.Reading) × (bundle ≡ Seven reader)
seven-is judge (Six reader) stands = absurd stands
seven-is judge (Seven reader) stands = (reader, refl)

-- ---- octets of one bundle

pub unfinished-some : (begun : Begun) (unfinished : Option Unfinished) → StandsForAny (Some begun) unfinished
    → (bundle : Unfinished) × (unfinished ≡ Some bundle) × StandsFor begun bundle
unfinished-some begun None stands = absurd stands
unfinished-some begun (Some bundle) stands = (bundle, refl, stands)

pub unfinished-none : (unfinished : Option Unfinished) → StandsForAny None unfinished → unfinished ≡ None
unfinished-none None stands = refl
unfinished-none (Some bundle) stands = absurd stands

-- the judge of a bundle that has begun may take them
pub may-take : (s : Checking) (old : Standing) (begun : Begun) (left : List ℕ) → s.begun ≡ Some begun → Shadows s old
    → s.at + s.taken + length left ≤ 67108864
    → (bundle : Unfinished) × (old.unfinished ≡ Some bundle) × MayTake begun left bundle
may-take s old begun left is shadows room =
    let (bundle, some, stands) = unfinished-some begun old.unfinished (rw is at shadows.bundle) in
    let has : HasBegun bundle = rw some at shadows.sound.begun in
    let held : old.taken ≡ length (kept_of bundle) = rw some at shadows.sound.held in
    (bundle, some, (stands, has.ready, omega (arith, held, shadows.took, room)))

if-on : {A Fact : Type 0} (given : Given A) → Fact → IfOn given Fact
if-on (Whole wanted used) fact = fact
if-on Part fact = fact
if-on (Refused at cause) fact = tt

pub judged-more : (s : Checking) (old : Standing) (begun new : Begun) (left : List ℕ) (given : Given ℕ) → s.begun ≡ Some begun → Shadows s old
    → IsOctets left → s.at + s.taken + length left ≤ 67108864
    → ((bundle : Unfinished) → MayTake begun left bundle → JudgesMore bundle left new given)
    → JudgedOn old left (with_judges s (Some new) s.seven) given
judged-more s old begun new left given is shadows fits room judges =
    let (bundle, some, may) = may-take s old begun left is shadows room in
    let more = judges bundle may in
    record {
      mid = with_unfinished old (Some more.later);
      took = took-more IsVersion old bundle more.later left given some shadows.sound fits more.takes;
      part = more.part;
      seven = if-on given shadows.seven;
    }

pub judged-more-of : (s : Checking) (old : Standing) (begun new : Begun) (left : List ℕ) (result : Result (Given ℕ) AllocError) → s.begun ≡ Some begun
    → Shadows s old → IsOctets left → s.at + s.taken + length left ≤ 67108864
    → ((bundle : Unfinished) → MayTake begun left bundle → IfOk result (JudgesMore bundle left new))
    → IfOk result (JudgedOn old left (with_judges s (Some new) s.seven))
judged-more-of s old begun new left (Ok given) is shadows fits room judges = judged-more s old begun new left given is shadows fits room judges
judged-more-of s old begun new left (Err e) is shadows fits room judges = tt

pub not-part : (given : Given ℕ) → (given ≡ Part → ⊥) → IfPart given ⊥
not-part (Whole version used) other = tt
not-part Part other = other refl
not-part (Refused at cause) other = tt

pub judged-at-once : (s new : Checking) (old : Standing) (left : List ℕ) (given : Given ℕ) → s.begun ≡ None → Shadows s old → new.seven ≡ s.seven
    → Finds IsVersion (front_of left) 0 given → IfPart given ⊥ → JudgedOn old left new given
judged-at-once s new old left (Whole version used) is shadows seven finds whole =
    let none = unfinished-none old.unfinished (rw is at shadows.bundle) in
    record { mid = old; took = record { same = refl; finds = rw none finds; keeps = tt }; part = tt; seven = rw seven shadows.seven }
judged-at-once s new old left Part is shadows seven finds whole = absurd whole
judged-at-once s new old left (Refused at cause) is shadows seven finds whole =
    let none = unfinished-none old.unfinished (rw is at shadows.bundle) in
    record { mid = old; took = record { same = refl; finds = rw none finds; keeps = tt }; part = tt; seven = tt }

pub judged-begun : (s new : Checking) (old : Standing) (left : List ℕ) → s.begun ≡ None → Shadows s old → new.seven ≡ s.seven
    → Finds IsVersion (front_of left) 0 Part
    → IsSomeAnd new.begun (λ begun. (bundle : Unfinished) × StandsFor begun bundle × HasBegunWith left bundle)
    → JudgedOn old left new Part
judged-begun s new old left is shadows seven finds begun = by new.begun refl begun
  where
    none : old.unfinished ≡ None
    none = unfinished-none old.unfinished (rw is at shadows.bundle)

    by : (begun : Option Begun) → new.begun ≡ begun → IsSomeAnd begun (λ begun. (bundle : Unfinished) × StandsFor begun bundle × HasBegunWith left bundle)
        → JudgedOn old left new Part
    by None here begun = absurd begun
    by (Some begun) here (bundle, stands, has) = record {
      mid = with_unfinished old (Some bundle);
      took = record { same = refl; finds = rw none finds; keeps = rw none has };
      part = rw here stands;
      seven = rw seven shadows.seven;
    }

-- a new judge of version 7 may take the octets that begin a bundle
abbrev pub new7 : Unfinished
new7 = Seven (record { stream = record { before = 0; kept = [] }; refused = None; spent = false })

pub may-begin : (s : Checking) (old : Standing) (left : List ℕ) → Shadows s old → length left ≤ 67108864
    → MayTake (begins.Seven s.seven) left new7
may-begin s old left shadows few =
    ((shadows.seven.fresh, shadows.seven.whole, shadows.seven.taken), (refl, refl, refl), omega (arith, few))

-- and is kept where they don't end it
pub judged-first : (s new : Checking) (old : Standing) (judge : judging7.Judging) (left : List ℕ) (given : Given ℕ) → s.begun ≡ None → Shadows s old
    → IsOctets left → 0 < length left → slice_index left 0 ≡ 0x9F → JudgesMore new7 left (begins.Seven judge) given
    → IfPart given (new.begun ≡ Some (begins.Seven judge)) → IfOn given (IsNew new.seven) → JudgedOn old left new given
judged-first s new old judge left given is shadows fits some first more kept fresh =
    let none = unfinished-none old.unfinished (rw is at shadows.bundle) in
    record {
      mid = with_unfinished old (Some more.later);
      took = took-first IsVersion old new7 more.later left given none fits some first refl more.takes;
      part = by given more.part kept;
      seven = fresh;
    }
  where
    by : (given : Given ℕ) → IfPart given (StandsFor (begins.Seven judge) more.later) → IfPart given (new.begun ≡ Some (begins.Seven judge))
        → IfPart given (StandsForAny new.begun (Some more.later))
    by (Whole version used) stands kept = tt
    by Part stands kept = rw kept stands
    by (Refused at cause) stands kept = tt
