-- Octets of one bundle that `show` takes.
use Rattle.std.proofs.Common.{◌≡◌, ◌≢◌, ℕ, ◌+◌, ◌<◌, ◌≤◌, List, [], ◌++◌, length, slice_index, Option, None, Some, Result, Ok, Err, IfOk, IsSomeAnd, Bool, false, refl, sym, ◌∙◌, ap, arith}
use Rattle.std.specs.declared.alloc.AllocError.{AllocError}
use Rattle.wire_fields.specs.Refusal.{Stop, truncated, because}
use Rattle.wire_fields.specs.Reading.{read, IsOctets}
use Rattle.bundle6.specs.declared.fault.Cause6.{Cause6}
use Rattle.bundle6.specs.declared.bundle.Bundle6.{Bundle6}
use Rattle.bundle6.specs.Streaming as streaming6
use Rattle.bundle6.specs.Table as table6
use Rattle.bundle7.specs.declared.fault.Cause7.{Cause7}
use Rattle.bundle7.specs.declared.fault.Refused7.{Refused7}
use Rattle.bundle7.specs.declared.bundle.Bundle7.{Bundle7}
use Rattle.bundle7.specs.Streaming as streaming7
use Rattle.bundle7.specs.Table as table7
use Rattle.bundle_judges.specs.Judging6 as judging6
use Rattle.bundle_runs.specs.declared.front.Bundle.{Bundle}
use Rattle.bundle_runs.specs.declared.front.Bundle.TheVariants as bundles
use Rattle.bundle_runs.specs.declared.front.Cause.TheVariants as causes
use Rattle.bundle_runs.specs.declared.given.Given.{Given}
use Rattle.bundle_runs.specs.declared.given.Given.TheVariants.{Whole, Part, Refused}
use Rattle.bundle_runs.specs.declared.unfinished.Unfinished.{Unfinished}
use Rattle.bundle_runs.specs.declared.unfinished.Unfinished.TheVariants.{Six, Seven}
use Rattle.bundle_runs.specs.declared.begun.Begun.TheVariants as begins
use Rattle.bundle_runs.specs.declared.coming.Coming.{Coming}
use Rattle.bundle_runs.specs.declared.coming.Coming.TheVariants as comings
use Rattle.bundle_runs.specs.declared.bundle_reader.Standing.{Standing}
use Rattle.bundle_runs.specs.Front.{whole, front_of, front6, front7, front_read, version_of}
use Rattle.bundle_runs.specs.Given.{Finds, IsVersion, IsRead}
use Rattle.bundle_runs.specs.Taking.{kept_of, with_unfinished, HasBegun, GoesOn, Takes, IsSound}
use Rattle.bundle_runs.specs.Checking.{IfPart, JudgesMore}
use Rattle.bundle_runs.specs.Coming.{IsShown, shown6, shown7, IfWhole, TookNone, ComesFor, ComesForAny, BeginsSix, MayCome, ReadsOn, ComesMore, JudgedSo}
use Rattle.bundle_runs.proofs.BegunLemmas.{took-more, took-first, took-none, front-begun}

-- ---- a bundle that has begun

module _ (reader : streaming7.Reading) where
  -- what takes a bundle that has begun, and the bundle
  pub coming-some : (coming : Coming) (unfinished : Option Unfinished) → ComesForAny (Some coming) reader unfinished
      → (bundle : Unfinished) × (unfinished ≡ Some bundle) × ComesFor coming reader bundle
  coming-some coming None comes = absurd comes
  coming-some coming (Some bundle) comes = (bundle, refl, comes)

  pub coming-none : (unfinished : Option Unfinished) → ComesForAny None reader unfinished → (unfinished ≡ None) × TookNone reader
  coming-none None comes = (refl, comes)
  coming-none (Some bundle) comes = absurd comes

-- it may take octets
pub may-come : (coming : Coming) (reader : streaming7.Reading) (old : Standing) (left : List ℕ) → ComesForAny (Some coming) reader old.unfinished
    → IsSound old → old.at + old.taken + length left ≤ 67108864
    → (bundle : Unfinished) × (old.unfinished ≡ Some bundle) × MayCome coming reader left bundle
may-come coming reader old left comes sound room =
    let (bundle, some, is) = coming-some reader coming old.unfinished comes in
    let has : HasBegun bundle = rw some at sound.begun in
    let held : old.taken ≡ length (kept_of bundle) = rw some at sound.held in
    (bundle, some, (is, has.ready, omega (arith, held, room)))

judged-so-more : (coming new : Coming) (reader after : streaming7.Reading) (old : Standing) (left : List ℕ) (given : Given (Option Bundle))
    → ComesForAny (Some coming) reader old.unfinished → IsSound old → IsOctets left → old.at + old.taken + length left ≤ 67108864
    → ((bundle : Unfinished) → MayCome coming reader left bundle → ComesMore bundle left new after given)
    → JudgedSo old left (Some new) after given
judged-so-more coming new reader after old left given comes sound fits room takes =
    let (bundle, some, may) = may-come coming reader old left comes sound room in
    let more = takes bundle may in
    record {
      mid = with_unfinished old (Some more.later);
      took = took-more IsShown old bundle more.later left given some sound fits more.takes;
      part = more.part;
      rests = more.rests;
    }

pub judged-so-more-of : (coming new : Coming) (reader after : streaming7.Reading) (old : Standing) (left : List ℕ)
    (result : Result (Given (Option Bundle)) AllocError)
    → ComesForAny (Some coming) reader old.unfinished → IsSound old → IsOctets left → old.at + old.taken + length left ≤ 67108864
    → ((bundle : Unfinished) → MayCome coming reader left bundle → IfOk result (ComesMore bundle left new after))
    → IfOk result (JudgedSo old left (Some new) after)
judged-so-more-of coming new reader after old left (Ok given) comes sound fits room takes =
    judged-so-more coming new reader after old left given comes sound fits room takes
judged-so-more-of coming new reader after old left (Err e) comes sound fits room takes = tt

-- ---- of version 6

pub front-six : (octets : List ℕ) → slice_index octets 0 ≡ 0x06 → front_of octets ≡ front6 octets
unfolding front_of
front-six octets first = rw first refl

six-read : (b : Bundle) (r : Result (Bundle6 × ℕ) (ℕ × Stop Cause6)) (k : ℕ) → front_read bundles.Six causes.Six r ≡ whole b k → version_of b ≡ 6
six-read (bundles.Six x) (Ok y) k is = refl
six-read (bundles.Seven x) (Ok y) k is = absurd (cc)
six-read b (Err (at, truncated)) k is = absurd (cc)
six-read b (Err (at, because c)) k is = absurd (cc)

seven-read : (b : Bundle) (r : Result (Bundle7 × ℕ) (ℕ × Stop Cause7)) (k : ℕ) → front_read bundles.Seven causes.Seven r ≡ whole b k → version_of b ≡ 7
seven-read (bundles.Seven x) (Ok y) k is = refl
seven-read (bundles.Six x) (Ok y) k is = absurd (cc)
seven-read b (Err (at, truncated)) k is = absurd (cc)
seven-read b (Err (at, because c)) k is = absurd (cc)

-- a bundle has the version that its first octet named
pub begun-six : (reader : streaming6.Reading) (more : List ℕ) (b : Bundle) (k : ℕ) → HasBegun (Six reader)
    → front_of (reader.stream.kept ++ more) ≡ whole b k → version_of b ≡ 6
begun-six reader more b k has front =
    six-read b (read (table6.bundle 64) (reader.stream.kept ++ more) 0) k (sym (front-begun (Six reader) more has) ∙ front)

pub begun-seven : (reader : streaming7.Reading) (more : List ℕ) (b : Bundle) (k : ℕ) → HasBegun (Seven reader)
    → front_of (reader.stream.kept ++ more) ≡ whole b k → version_of b ≡ 7
begun-seven reader more b k has front =
    seven-read b (read (table7.bundle 64) (reader.stream.kept ++ more) 0) k (sym (front-begun (Seven reader) more has) ∙ front)

-- of a bundle only its end is wanted
finds-shown6 : (octets : List ℕ) (before : ℕ) (given : Given ℕ) → Finds IsVersion (front6 octets) before given → Finds IsShown (front6 octets) before (shown6 given)
finds-shown6 octets before (Whole version used) (b, is, front) = (b, six-read b (read (table6.bundle 64) octets 0) (before + used) front, front)
finds-shown6 octets before Part finds = finds
finds-shown6 octets before (Refused at cause) finds = finds

part-shown6 : (Fact : Type 0) (given : Given ℕ) → IfPart given Fact → IfPart (shown6 given) Fact
part-shown6 Fact (Whole version used) part = part
part-shown6 Fact Part part = part
part-shown6 Fact (Refused at cause) part = part

goes-shown6 : (old new : Unfinished) (piece : List ℕ) (given : Given ℕ) → GoesOn old piece new given → GoesOn old piece new (shown6 given)
goes-shown6 old new piece (Whole version used) goes = goes
goes-shown6 old new piece Part goes = goes
goes-shown6 old new piece (Refused at cause) goes = goes

if-whole : {A Fact : Type 0} (given : Given A) → Fact → IfWhole given Fact
if-whole (Whole wanted used) fact = fact
if-whole Part fact = tt
if-whole (Refused at cause) fact = tt

part-beside : {A : Type 0} (Fact Other : Type 0) (given : Given A) → IfPart given Fact → Other → IfPart given (Fact × Other)
part-beside Fact Other (Whole wanted used) part other = tt
part-beside Fact Other Part part other = (part, other)
part-beside Fact Other (Refused at cause) part other = tt

pub comes-six : (bundle : Unfinished) (seven : streaming7.Reading) (old new : judging6.Judging) (piece : List ℕ) (given : Given ℕ)
    → ComesFor (comings.Six old) seven bundle
    → ((reader : streaming6.Reading) → bundle ≡ Six reader → JudgesMore (Six reader) piece (begins.Six new) given)
    → ComesMore bundle piece (comings.Six new) seven (shown6 given)
comes-six (Six reader) seven old new piece given comes judges =
    let more = judges reader refl in
    record {
      later = more.later;
      takes = record {
        finds = finds-shown6 (kept_of (Six reader) ++ piece) (length (kept_of (Six reader))) given more.takes.finds;
        goes_on = goes-shown6 (Six reader) more.later piece given more.takes.goes_on;
      };
      part = part-beside _ _ (shown6 given) (part-shown6 _ given more.part) comes.1;
      rests = if-whole (shown6 given) comes.1;
    }
comes-six (Seven reader) seven old new piece given comes judges = absurd comes.0

pub six-at-once : (coming : Option Coming) (seven : streaming7.Reading) (old : Standing) (left : List ℕ) (given : Given ℕ) → TookNone seven
    → old.unfinished ≡ None → slice_index left 0 ≡ 0x06
    → Finds IsVersion (front6 left) 0 given → (given ≡ Part → ⊥) → JudgedSo old left coming seven (shown6 given)
six-at-once coming seven old left (Whole version used) rests none first finds other = record {
  mid = old;
  took = record { same = refl; finds = rw (none, front-six left first) (finds-shown6 left 0 (Whole version used) finds); keeps = tt };
  part = tt;
  rests = rests;
}
six-at-once coming seven old left Part rests none first finds other = absurd (other refl)
six-at-once coming seven old left (Refused at cause) rests none first finds other = record {
  mid = old;
  took = record { same = refl; finds = rw (none, front-six left first) finds; keeps = tt };
  part = tt;
  rests = tt;
}

pub six-begun-so : (begun : Option Coming) (seven : streaming7.Reading) (old : Standing) (left : List ℕ) → TookNone seven → old.unfinished ≡ None
    → slice_index left 0 ≡ 0x06 → Finds IsVersion (front6 left) 0 Part → IsSomeAnd begun (BeginsSix left)
    → JudgedSo old left begun seven Part
six-begun-so None seven old left rests none first finds begins = absurd begins
six-begun-so (Some coming) seven old left rests none first finds (judge, judged, (bundle, is, has)) = record {
  mid = with_unfinished old (Some bundle);
  took = record { same = refl; finds = rw (none, front-six left first) finds; keeps = rw none has };
  part = rw judged (is, rests);
  rests = tt;
}

pub none-so : (coming : Option Coming) (seven : streaming7.Reading) (old : Standing) (left : List ℕ) → old.unfinished ≡ None
    → slice_index left 0 ≢ 0x06 → slice_index left 0 ≢ 0x9F → JudgedSo old left coming seven (Refused 0 causes.Version)
none-so coming seven old left none six other = record { mid = old; took = took-none IsShown old left none (six, other); part = tt; rests = tt }

-- ---- of version 7

finds-shown7 : (octets : List ℕ) (before : ℕ) (given : Given Bundle) → Finds IsRead (front7 octets) before given → Finds IsShown (front7 octets) before (shown7 given)
finds-shown7 octets before (Whole bundle used) (b, is, front) =
    (b, (seven-read b (read (table7.bundle 64) octets 0) (before + used) front, is), front)
finds-shown7 octets before Part finds = finds
finds-shown7 octets before (Refused at cause) finds = finds

goes-shown7 : (old new : Unfinished) (piece : List ℕ) (given : Given Bundle) → GoesOn old piece new given → GoesOn old piece new (shown7 given)
goes-shown7 old new piece (Whole bundle used) goes = goes
goes-shown7 old new piece Part goes = goes
goes-shown7 old new piece (Refused at cause) goes = goes

pub took-none-is : (reader : streaming7.Reading) → reader.stream ≡ record { before = 0; kept = [] } → reader.refused ≡ None → reader.spent ≡ false → TookNone reader
took-none-is reader stream fresh memory =
    ap (λ (s : streaming7.Stream). record { stream = s; refused = reader.refused; spent = reader.spent }) stream
    ∙ ap (λ (r : Option Refused7). record { stream = record { before = 0; kept = [] }; refused = r; spent = reader.spent }) fresh
    ∙ ap (λ (b : Bool). record { stream = record { before = 0; kept = [] }; refused = None; spent = b }) memory

takes-shown7 : (old new : streaming7.Reading) (piece : List ℕ) (given : Given Bundle) → Takes IsRead (Seven old) piece (Seven new) given
    → Takes IsShown (Seven old) piece (Seven new) (shown7 given)
takes-shown7 old new piece given takes = record {
  finds = finds-shown7 (old.stream.kept ++ piece) (length old.stream.kept) given takes.finds;
  goes_on = goes-shown7 (Seven old) (Seven new) piece given takes.goes_on;
}

part-shown7 : (Fact : Type 0) (given : Given Bundle) → IfPart given Fact → IfPart (shown7 given) Fact
part-shown7 Fact (Whole bundle used) part = part
part-shown7 Fact Part part = part
part-shown7 Fact (Refused at cause) part = part

rests-shown7 : (Fact : Type 0) (given : Given Bundle) → IfWhole given Fact → IfWhole (shown7 given) Fact
rests-shown7 Fact (Whole bundle used) rests = rests
rests-shown7 Fact Part rests = rests
rests-shown7 Fact (Refused at cause) rests = rests

part-seven : (given : Given (Option Bundle)) (reader later : streaming7.Reading) → IfPart given (reader ≡ later) → IfPart given (Seven later ≡ Seven reader)
part-seven (Whole wanted used) reader later part = tt
part-seven Part reader later part = ap Seven (sym part)
part-seven (Refused at cause) reader later part = tt

pub comes-seven : (bundle : Unfinished) (old new : streaming7.Reading) (piece : List ℕ) (given : Given Bundle) → ComesFor comings.Seven old bundle
    → ReadsOn old piece new given → ComesMore bundle piece comings.Seven new (shown7 given)
comes-seven bundle old new piece given comes reads = record {
  later = Seven reads.later;
  takes = rw comes (takes-shown7 old reads.later piece given reads.takes);
  part = part-seven (shown7 given) new reads.later (part-shown7 _ given reads.part);
  rests = rests-shown7 _ given reads.rests;
}

-- a reader that took nothing takes octets, and goes on where they don't end the bundle
pub seven-so : (coming : Option Coming) (old : Standing) (fresh new : streaming7.Reading) (left : List ℕ) (given : Given Bundle) → TookNone fresh
    → old.unfinished ≡ None → IsOctets left → 0 < length left → slice_index left 0 ≡ 0x9F → ReadsOn fresh left new given
    → IfPart given (coming ≡ Some comings.Seven) → JudgedSo old left coming new (shown7 given)
seven-so coming old fresh new left given rests none fits some first reads kept = record {
  mid = with_unfinished old (Some (Seven reads.later));
  took = took-first IsShown old (Seven fresh) (Seven reads.later) left (shown7 given) none fits some first
      (ap (λ (r : streaming7.Reading). r.stream.kept) rests) (takes-shown7 fresh reads.later left given reads.takes);
  part = by (shown7 given) (part-seven (shown7 given) new reads.later (part-shown7 _ given reads.part)) (part-shown7 _ given kept);
  rests = rests-shown7 _ given reads.rests;
}
  where
    by : (given : Given (Option Bundle)) → IfPart given (Seven reads.later ≡ Seven new) → IfPart given (coming ≡ Some comings.Seven)
        → IfPart given (ComesForAny coming new (Some (Seven reads.later)))
    by (Whole wanted used) is kept = tt
    by Part is kept = rw kept is
    by (Refused at cause) is kept = tt

pub never-part : {A : Type 0} (Fact : Type 0) (given : Given A) → (given ≡ Part → ⊥) → IfPart given Fact
never-part Fact (Whole wanted used) other = tt
never-part Fact Part other = absurd (other refl)
never-part Fact (Refused at cause) other = tt
