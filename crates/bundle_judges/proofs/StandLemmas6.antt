-- Where a judge stands: what a step into octets that are there makes of it.

use Rattle.std.proofs.Common.{◌≡◌, ℕ, ◌+◌, ◌-◌, ◌<◌, ◌≤◌, Bool, true, false, List, [], ◌++◌, length, take, drop, Option, Vec, Global, Result, Ok, Err, refl, sym, ap, ◌∙◌, subst, arith, append-nil}
use Rattle.std.proofs.lemmas.List.{length-drop}
use Rattle.endpoint.specs.declared.extent.Fragment.{Fragment}
use Rattle.wire_fields.specs.Refusal.{Stop, because}
use Rattle.wire_fields.specs.Reading.{read, IsOctets}
use Rattle.wire_fields.proofs.ReadLemmas.{read-refused}
use Rattle.wire_fields.proofs.StayLemmas.{refusal-within}
use Rattle.bundle6.specs.declared.fault.Cause6.{Cause6}
use Rattle.bundle6.specs.declared.fault.Refused6.{Refused6}
use Rattle.bundle6.specs.declared.fault.Fail6.{Fail6}
use Rattle.bundle6.specs.declared.fault.Fail6.TheVariants.{Refused, Memory}
use Rattle.bundle6.specs.declared.block.Seen.{Seen}
use Rattle.bundle6.specs.declared.pass.Texts.{Texts}
use Rattle.bundle6.specs.Judging.{judged_bundle}
use Rattle.bundle6.specs.Passing.{left_at, next_stage}
use Rattle.bundle_judges.specs.declared.stand6.Small.TheVariants.{Block}
use Rattle.bundle_judges.specs.declared.stand6.Stage.{Stage}
use Rattle.bundle_judges.specs.declared.stand6.Stage.TheVariants.{Primary, Field, Body}
use Rattle.bundle_judges.specs.declared.stand6.Step.{Step}
use Rattle.bundle_judges.specs.declared.stand6.Step.TheVariants.{After, Ended}
use Rattle.bundle_judges.specs.declared.stand6.Stand.{Stand}
use Rattle.bundle_judges.specs.Field6.{left_for}
use Rattle.bundle_judges.specs.Stand6.{dictionary_of, Steps, Keeps, IsAt, Fails6, Moves, Ends, entered, IsLater, Enters, Leaves}
use Rattle.bundle_judges.proofs.FieldLemmas6.{small-begun, octets-continue}

-- ---- a stage is entered

-- a stage that has octets to wait for
abbrev pub IsFuller : Stage → Type 0
IsFuller Primary = ⊥
IsFuller (Field small) = Unit {0}
IsFuller (Body size last) = 0 < size

-- the octets of a block that has none are over
pub later-fuller : (stage : Stage) → IsLater stage → ((size : ℕ) (last : Bool) → stage ≡ Body size last → ⊥) → IsFuller stage
later-fuller Primary later other = absurd later
later-fuller (Field small) later other = tt
later-fuller (Body size last) later other = absurd (other size last refl)

keeps-entered : (text : List ℕ) (s : Stand) (seen : Seen) (stage : Stage) (at : ℕ) → s.head ≡ [] → IsFuller stage
    → Keeps text (entered s seen stage at) stage
keeps-entered text s seen Primary at none fuller = absurd fuller
keeps-entered text s seen (Field small) at none fuller =
    let nothing : at - at ≡ 0 = omega arith in
    (none ∙ sym (ap (λ n. take n (drop at text)) nothing), rw none (small-begun s.part (dictionary_of s) seen small))
keeps-entered text s seen (Body size last) at none fuller = (omega (arith, fuller), none)

not-primary : (stage : Stage) → IsFuller stage → stage ≡ Primary → ⊥
not-primary Primary fuller is = fuller
not-primary (Field small) fuller is = cc
not-primary (Body size last) fuller is = cc

pub moves-entered : (text : List ℕ) (old s : Stand) (seen : Seen) (stage : Stage) (more : ℕ) → Enters text s seen stage more
    → IsFuller stage → s.came ≡ old.came → s.before ≡ old.before → Moves text old more (entered s seen stage (s.came + more))
moves-entered text old s seen stage more enters fuller came before = record {
  stands = record {
    octets = enters.octets;
    within = enters.within;
    place = omega arith;
    few = enters.few;
    order = enters.order;
    inside = enters.inside;
    goes_on = enters.goes_on;
    main = enters.main;
    keeps = keeps-entered text s seen stage (s.came + more) enters.head fuller;
  };
  some = enters.some;
  came = omega (arith, came);
  before = before;
  stage = λ is. absurd (not-primary stage fuller is);
}

-- what a step gives is no matter of what it leaves alone
pub steps-same : (text : List ℕ) (s t : Stand) (result : Result Step Fail6) (new : Stand) → t.came ≡ s.came → t.before ≡ s.before → t.stage ≡ s.stage
    → Steps text t result new → Steps text s result new
steps-same text s t (Ok (After n)) new came before stage moves = record {
  stands = moves.stands;
  some = moves.some;
  came = omega (arith, moves.came, came);
  before = moves.before ∙ before;
  stage = λ is. sym stage ∙ moves.stage is;
}
steps-same text s t (Ok (Ended end)) new came before stage ends = record {
  ended = ends.ended;
  late = omega (arith, ends.late, came);
  before = ends.before ∙ before;
}
steps-same text s t (Err (Refused at cause)) new came before stage fails = fails
steps-same text s t (Err Memory) new came before stage fails = sym stage ∙ fails

-- ---- refusals

pub fails-here : (text : List ℕ) (s : Stand) (e : ℕ × Stop Cause6) → IsAt text s
    → read (left_for s.part (dictionary_of s) s.seen s.stage) text s.at ≡ Err e → read (judged_bundle 64) text 0 ≡ Err e
fails-here text s e stands is =
    subst (λ t. read (judged_bundle 64) t 0 ≡ read (left_for s.part (dictionary_of s) s.seen s.stage) t s.at) (append-nil text) (stands.goes_on []) ∙ is

pub fails-inside : (text : List ℕ) (s : Stand) (at : ℕ) (cause : Cause6) → IsOctets text → Fails6 text s (Refused at cause) → at ≤ length text
fails-inside text s at cause fits is =
    refusal-within (judged_bundle 64) text at (because cause) (read-refused (judged_bundle 64) text 0 at (because cause) fits (omega arith) is)

pub refused-same : (text : List ℕ) (s : Stand) (fail : Fail6) (refused : Refused6) {at : ℕ} {cause : Cause6}
    → fail ≡ Refused refused.at refused.cause → refused ≡ record { at = at; cause = cause } → Fails6 text s (Refused at cause) → Fails6 text s fail
refused-same text s fail refused is same fails = rw (is, same) fails

-- ---- the octets of a block

-- so many octets more came, and the primary block is kept so
abbrev pub came_more : Stand → ℕ → Stand → Stand
came_more s more new = record {
  before = s.before;
  came = s.came + more;
  at = s.at;
  stage = s.stage;
  seen = s.seen;
  part = s.part;
  main = new.main;
  texts = s.texts;
  head = s.head;
}

abbrev pub with_main : Stand → Vec ℕ Global → Stand
with_main s main = record {
  before = s.before;
  came = s.came;
  at = s.at;
  stage = s.stage;
  seen = s.seen;
  part = s.part;
  main = main;
  texts = s.texts;
  head = s.head;
}

abbrev pub read_again : Stand → Option Fragment → Texts → Stand
read_again s part texts = record {
  before = s.before;
  came = s.came;
  at = s.at;
  stage = s.stage;
  seen = s.seen;
  part = part;
  main = s.main;
  texts = texts;
  head = s.head;
}

abbrev pub set_seen : Stand → Seen → Stand
set_seen s seen = record {
  before = s.before;
  came = s.came;
  at = s.at;
  stage = s.stage;
  seen = seen;
  part = s.part;
  main = s.main;
  texts = s.texts;
  head = s.head;
}

pub body-leaves : (text : List ℕ) (s : Stand) (size : ℕ) (last : Bool) (left : ℕ) → IsAt text s → s.stage ≡ Body size last
    → left ≡ size - (s.came - s.at) → left ≤ length (drop s.came text) → Leaves text s last left
body-leaves text s size last left stands stage is there =
    let keeps : Keeps text s (Body size last) = rw stage at stands.keeps in
    let long = length-drop s.came text in
    let ends : s.came + left ≡ s.at + size = omega (arith, is, keeps.0, stands.place) in
    record {
      octets = stands.octets;
      within = omega (arith, there, long, stands.within);
      some = omega (arith, is, keeps.0, stands.place);
      few = stands.few;
      order = stands.order;
      inside = stands.inside;
      main = stands.main;
      head = keeps.1;
      goes_on = λ more.
          stands.goes_on more
          ∙ ap (λ g. read (left_for s.part (dictionary_of s) s.seen g) (text ++ more) s.at) stage
          ∙ octets-continue s.part (dictionary_of s) s.seen size last text s.at stands.octets (omega (arith, ends, there, long, stands.within)) more
          ∙ ap (λ to. read (left_at 64 s.part (dictionary_of s) s.seen (next_stage last)) (text ++ more) to) (sym ends);
    }

pub body-waits : (text : List ℕ) (s : Stand) (size : ℕ) (last : Bool) (more : ℕ) → IsAt text s → s.stage ≡ Body size last
    → more ≡ length (drop s.came text) → 0 < more → more < size - (s.came - s.at) → Moves text s more (came_more s more s)
body-waits text s size last more stands stage is some few =
    let keeps : Keeps text s (Body size last) = rw stage at stands.keeps in
    let now : Keeps text (came_more s more s) (Body size last) = (omega (arith, few, keeps.0, stands.place), keeps.1) in
    record {
      stands = record {
        octets = stands.octets;
        within = omega (arith, is, length-drop s.came text, stands.within);
        place = omega (arith, stands.place);
        few = stands.few;
        order = stands.order;
        inside = stands.inside;
        goes_on = stands.goes_on;
        main = stands.main;
        keeps = rw stage now;
      };
      some = some;
      came = refl;
      before = refl;
      stage = λ same. same;
    }

-- ---- after a block

pub leaves-ended : (text : List ℕ) (s : Stand) (more : ℕ) → Leaves text s true more → Ends text s (s.came + more) s
leaves-ended text s more leaves = record {
  ended = (
    s.seen,
    subst (λ t. read (judged_bundle 64) t 0 ≡ read (left_at 64 s.part (dictionary_of s) s.seen (next_stage true)) t (s.came + more))
        (append-nil text) (leaves.goes_on []),
  );
  late = omega arith;
  before = refl;
}

pub leaves-on : (text : List ℕ) (s : Stand) (more : ℕ) → Leaves text s false more → Moves text s more (entered s s.seen (Field Block) (s.came + more))
unfolding left_for
leaves-on text s more leaves =
    moves-entered text s s s.seen (Field Block) more (record {
      octets = leaves.octets;
      within = leaves.within;
      some = leaves.some;
      few = leaves.few;
      order = leaves.order;
      inside = leaves.inside;
      main = leaves.main;
      head = leaves.head;
      later = tt;
      goes_on = leaves.goes_on;
    }) tt refl refl

-- a field of few octets ended, and the octets of a block are none
pub enters-leaves : (text : List ℕ) (s : Stand) (seen : Seen) (last : Bool) (more : ℕ) → Enters text s seen (Body 0 last) more
    → Leaves text (set_seen s seen) last more
enters-leaves text s seen last more enters =
    let none : s.came + more + 0 ≡ s.came + more = omega arith in
    record {
      octets = enters.octets;
      within = enters.within;
      some = enters.some;
      few = enters.few;
      order = enters.order;
      inside = enters.inside;
      main = enters.main;
      head = enters.head;
      goes_on = λ rest.
          enters.goes_on rest
          ∙ octets-continue s.part (dictionary_of s) seen 0 last text (s.came + more) enters.octets (omega (arith, enters.within)) rest
          ∙ ap (λ to. read (left_at 64 s.part (dictionary_of s) seen (next_stage last)) (text ++ rest) to) none;
    }
