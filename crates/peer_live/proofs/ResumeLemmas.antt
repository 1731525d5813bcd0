-- What waits of earlier runs is added.

use Rattle.std.proofs.Common.{◌≡◌, ℕ, ◌-◌, ◌<◌, arith, zero, suc, Bool, true, false, Option, None, Some, if◌then◌else◌, refl, ap, sym, subst, ◌∙◌}
use Rattle.gate_cases.specs.declared.face.Face.{Face}
use Rattle.gate_log.specs.declared.event.Event.{Event}
use Rattle.gate_log.specs.declared.subject.Subject.{Subject}
use Rattle.gate_log.specs.Subjects.{subject_of}
use Rattle.journal_file.specs.declared.kept.Pending.{Pending}
use Rattle.peer_gateway.specs.Answers.{Answered}
use Rattle.peer_gateway.specs.Gate.{PeerGate}
use Rattle.peer_gateway.specs.Keys.{PeerSetup}
use Rattle.peer_gateway.specs.Steps.{next_if}
use Rattle.peer_gateway.specs.Ties.{PeerGatewayValue, PeerSteps}
use Rattle.peer_gateway.specs.Views.{moments_of}
use Rattle.peer_half.specs.Journals.{Journalled}
use Rattle.peer_half.specs.Standing.{Standing, saying}
use Rattle.peer_half.specs.Parts as parts
use Rattle.peer_live.specs.declared.work.Work.{Work}
use Rattle.peer_live.specs.Telling.{KeptValue, added_event, outboxes_of, says_if}
use Rattle.peer_live.specs.Shows.{Does, IsWhole, ShowsWork, added_if, resumes_one, settles, tries_one}
use Rattle.peer_live.proofs.ShowsLemmas.{does-event, steps-so}
use Rattle.peer_live.proofs.PartLemmas.{does-says, whole-kept}

-- ---- one piece

event-is : (p : Pending) (session : Option ℕ) → added_event p.face (subject_of p.block) session ≡ parts.resumed_event p session
event-is p None = refl
event-is p (Some session) = refl

-- whether it was added
pub added-is : (w : Work) (gate : PeerGatewayValue) (p : Pending) (octets : ℕ × ℕ) (answer : Answered) (added : Bool) (s : Standing) → ShowsWork w s
    → octets ≡ outboxes_of (w.kept).faces → PeerSteps w.gate gate (parts.begin_of p) (moments_of w.moments) octets answer
    → added ≡ parts.any_added answer.added → added ≡ parts.is_added p s
added-is w gate p octets answer added s shows octets_are steps is =
    is ∙ ap (λ (a : Answered). parts.any_added a.added) (steps-so w gate (parts.begin_of p) octets answer s shows octets_are steps).answer_is

number-is : (w : Work) (face : Face) (session : Option ℕ) (s : Standing) → ShowsWork w s → session ≡ next_if (w.gate).setup face (w.gate).gate
    → session ≡ parts.next_number face s
number-is w face session s shows is =
    is ∙ ap (λ (u : PeerSetup). next_if u face (w.gate).gate) shows.setup ∙ ap (λ (g : PeerGate). next_if s.setup face g) shows.gate

-- where it was, that is said; else nothing is
tells-one : (w settled : Work) (kept : KeptValue) (p : Pending) (event : Event) (added : Bool) (s : Standing)
    → Does w settled (parts.tries p) → kept ≡ says_if added event settled.kept → event ≡ parts.resumed_event p (parts.next_number p.face s)
    → added ≡ parts.is_added p s → ShowsWork w s → ShowsWork (record settled { kept = kept }) (tries_one p s)
tells-one w settled kept p event true s does kept_is event_is added_is shows =
    let said = does-says settled kept event does.whole kept_is in
    let goes : ShowsWork (record settled { kept = kept }) (parts.resumed p s) =
    subst (λ (e : Event). ShowsWork (record settled { kept = kept }) (saying e (parts.tries p s))) event_is
    (said.goes_on (parts.tries p s) (does.goes_on s shows)) in
    subst (λ (b : Bool). ShowsWork (record settled { kept = kept }) (if b then parts.resumed p s else parts.tries p s)) added_is goes
tells-one w settled kept p event false s does kept_is event_is added_is shows =
    let goes : ShowsWork (record settled { kept = kept }) (parts.tries p s) =
    subst (λ (k : KeptValue). ShowsWork (record settled { kept = k }) (parts.tries p s)) (sym kept_is) (does.goes_on s shows) in
    subst (λ (b : Bool). ShowsWork (record settled { kept = kept }) (if b then parts.resumed p s else parts.tries p s)) added_is goes

does-try : (w settled : Work) (gate : PeerGatewayValue) (p : Pending) (octets : ℕ × ℕ) (answer : Answered) → IsWhole w
    → octets ≡ outboxes_of (w.kept).faces → PeerSteps w.gate gate (parts.begin_of p) (moments_of w.moments) octets answer
    → settled ≡ settles (Some p.id) answer (record w { gate = gate }) → Does w settled (parts.tries p)
unfolding parts.tries
does-try w settled gate p octets answer whole octets_are steps is = does-event w settled gate (Some p.id) (parts.begin_of p) octets answer whole octets_are steps is

pub does-one : (w settled : Work) (gate : PeerGatewayValue) (kept : KeptValue) (p : Pending) (octets : ℕ × ℕ) (answer : Answered) (session : Option ℕ)
    (subject : Option Subject) (event : Event) (added : Bool) → IsWhole w
    → octets ≡ outboxes_of (w.kept).faces → PeerSteps w.gate gate (parts.begin_of p) (moments_of w.moments) octets answer
    → session ≡ next_if (w.gate).setup p.face (w.gate).gate → subject ≡ subject_of p.block → event ≡ added_event p.face subject session
    → added ≡ parts.any_added answer.added
    → settled ≡ settles (Some p.id) answer (record w { gate = gate })
    → kept ≡ says_if added event settled.kept
    → Does w (record settled { kept = kept }) (tries_one p)
does-one w settled gate kept p octets answer session subject event added whole octets_are steps session_is subject_is event_is added_any settled_is kept_is =
    let does = does-try w settled gate p octets answer whole octets_are steps settled_is in
    record {
      whole = whole-kept settled kept does.whole;
      goes_on = λ s shows.
          tells-one w settled kept p event added s does kept_is
          (event_is ∙ ap (λ (o : Option Subject). added_event p.face o session) subject_is ∙ event-is p session
          ∙ ap (λ (n : Option ℕ). parts.resumed_event p n) (number-is w p.face session s shows session_is))
          (added-is w gate p octets answer added s shows octets_are steps added_any) shows;
    }

-- ---- in the loop

-- some were added, and so many may be
pub record Resuming (w : Work) (left : ℕ) (face : Face) (whole : Standing) : Type 0 where
  pub standing : Standing
  pub shows : ShowsWork w standing
  pub goes_on : parts.resumes_within left face standing ≡ whole

-- each that is pending at most
pub resuming-start : (w : Work) (n : ℕ) (face : Face) (s : Standing) → n ≡ parts.pending_in w.journal → ShowsWork w s → Resuming w n face (parts.resumes_at face s)
resuming-start w n face s n_is shows = record {
  standing = s;
  shows = shows;
  goes_on = ap (λ (k : ℕ). parts.resumes_within k face s) (n_is ∙ ap (λ (j : Option Journalled). parts.pending_in j) shows.journal);
}

within-more : (n : ℕ) (face : Face) (s : Standing) → added_if s (parts.next_resumed face s) ≡ true
    → parts.resumes_within n face (resumes_one face s) ≡ parts.resumes_within (suc n) face s
unfolding parts.resumes_within
within-more n face s went = by-next (parts.next_resumed face s) went
  where
    by-added : (p : Pending) (b : Bool) → b ≡ true
        → parts.resumes_within n face (if b then parts.resumed p s else parts.tries p s)
        ≡ (if b then parts.resumes_within n face (parts.resumed p s) else parts.tries p s)
    by-added p true is = refl
    by-added p false is = absurd (cc)

    by-next : (o : Option Pending) → added_if s o ≡ true
        → parts.resumes_within n face (parts.where_some o (λ p. tries_one p s) s)
        ≡ parts.where_some o (λ p. if parts.is_added p s then parts.resumes_within n face (parts.resumed p s) else parts.tries p s) s
    by-next None is = absurd (cc)
    by-next (Some p) is = by-added p (parts.is_added p s) is

within-last : (n : ℕ) (face : Face) (s : Standing) → added_if s (parts.next_resumed face s) ≡ false
    → resumes_one face s ≡ parts.resumes_within (suc n) face s
unfolding parts.resumes_within
within-last n face s went = by-next (parts.next_resumed face s) went
  where
    by-added : (p : Pending) (b : Bool) → b ≡ false
        → (if b then parts.resumed p s else parts.tries p s)
        ≡ (if b then parts.resumes_within n face (parts.resumed p s) else parts.tries p s)
    by-added p true is = absurd (cc)
    by-added p false is = refl

    by-next : (o : Option Pending) → added_if s o ≡ false
        → parts.where_some o (λ p. tries_one p s) s
        ≡ parts.where_some o (λ p. if parts.is_added p s then parts.resumes_within n face (parts.resumed p s) else parts.tries p s) s
    by-next None is = refl
    by-next (Some p) is = by-added p (parts.is_added p s) is

one-back : (n : ℕ) → suc n - 1 ≡ n
one-back n = omega arith

-- another one was
pub resuming-more : (old new : Work) (left : ℕ) (face : Face) (whole : Standing) (went : Bool) → 0 < left → Resuming old left face whole
    → ((s : Standing) → ShowsWork old s → went ≡ added_if s (parts.next_resumed face s)) → went ≡ true
    → Does old new (resumes_one face) → Resuming new (left - 1) face whole
resuming-more old new zero face whole went some resuming asked is does = absurd (omega arith)
resuming-more old new (suc n) face whole went some resuming asked is does = record {
  standing = resumes_one face resuming.standing;
  shows = does.goes_on resuming.standing resuming.shows;
  goes_on =
      ap (λ (k : ℕ). parts.resumes_within k face (resumes_one face resuming.standing)) (one-back n)
      ∙ within-more n face resuming.standing (sym (asked resuming.standing resuming.shows) ∙ is) ∙ resuming.goes_on;
}

-- none was
pub resuming-last : (old new : Work) (left : ℕ) (face : Face) (whole : Standing) (went : Bool) → 0 < left → Resuming old left face whole
    → ((s : Standing) → ShowsWork old s → went ≡ added_if s (parts.next_resumed face s)) → went ≡ false
    → Does old new (resumes_one face) → ShowsWork new whole
resuming-last old new zero face whole went some resuming asked is does = absurd (omega arith)
resuming-last old new (suc n) face whole went some resuming asked is does =
    subst (ShowsWork new) (within-last n face resuming.standing (sym (asked resuming.standing resuming.shows) ∙ is) ∙ resuming.goes_on)
    (does.goes_on resuming.standing resuming.shows)

pub resuming-end : (w : Work) (left : ℕ) (face : Face) (whole : Standing) → left ≡ 0 → Resuming w left face whole → ShowsWork w whole
unfolding parts.resumes_within
resuming-end w zero face whole none resuming = subst (ShowsWork w) resuming.goes_on resuming.shows
resuming-end w (suc left) face whole none resuming = absurd (cc)
