-- A gateway at work stands as a run begins.

use Rattle.std.proofs.Common.{◌≡◌, ℕ, false, List, Option, None, refl, ap, subst, ◌∙◌}
use Rattle.gate_cases.specs.declared.face.Face.TheVariants as faces
use Rattle.gate_config.specs.declared.file.GateFile.{GateFile}
use Rattle.journal_file.specs.Values.{KeptValue as JournalValue}
use Rattle.peer_gateway.specs.Answers.{Answered, answer_of}
use Rattle.peer_gateway.specs.declared.moments.Moments.{Moments}
use Rattle.peer_gateway.specs.Gate.{PeerGate, PeerMoments, starts_peer_gate}
use Rattle.peer_gateway.specs.Keys.{PeerSetup}
use Rattle.peer_gateway.specs.Ties.{PeerGatewayValue, starts_effects}
use Rattle.peer_gateway.specs.Views.{moments_of}
use Rattle.peer_half.specs.Journals.{Journalled, marked_at, marked_each, marked_in, starts_journal}
use Rattle.peer_half.specs.Setup.{setup_in}
use Rattle.peer_half.specs.Moments.{same}
use Rattle.peer_half.specs.Standing.{Standing, starts_empty}
use Rattle.peer_half.specs.Starts.{cancels_in, starts_at}
use Rattle.peer_live.specs.declared.work.Work.{Work}
use Rattle.peer_live.specs.Telling.{KeptValue, kept_of, puts}
use Rattle.peer_live.specs.Shows.{Does, IsWhole, ShowsWork, sends_out}
use Rattle.peer_live.proofs.ShowsLemmas.{kept-goes}
use Rattle.peer_live.proofs.PartLemmas.{whole-kept}

-- ---- before anything is sent

-- a gateway at its beginning, where it is set up so, and these sessions are marked
abbrev pub begins : PeerSetup → ℕ → List ℕ × List ℕ → PeerGatewayValue
begins setup wall marks =
    record { spent = false; setup = setup; gate = starts_peer_gate setup (wall, wall) marks }

-- at both faces the moment is the wall clock's
pub begins-at : (m : Moments) (setup : PeerSetup) (wall : ℕ) (marks : List ℕ × List ℕ) → moments_of m ≡ same wall
    → record { spent = false; setup = setup; gate = starts_peer_gate setup ((m.old).at, (m.new).at) marks } ≡ begins setup wall marks
begins-at m setup wall marks is =
    ap (λ (p : PeerMoments). record { spent = false; setup = setup; gate = starts_peer_gate setup (p.at faces.Old, p.at faces.New) marks }) is

-- those of both faces are marked
pub marks-are : (old new : List ℕ) (journal : Option Journalled) → old ≡ marked_at faces.Old (marked_in journal) → new ≡ marked_at faces.New (marked_in journal)
    → (old, new) ≡ marked_each journal
marks-are old new journal old_is new_is = rw (old_is, new_is) refl

-- of this file, and what earlier runs kept
begins-so : (setup : PeerSetup) (marks : List ℕ × List ℕ) (journal : Option Journalled) (file : GateFile) (kept : Option JournalValue) (wall : ℕ)
    → setup ≡ setup_in file kept wall → marks ≡ marked_each journal → journal ≡ starts_journal file wall kept
    → begins setup wall marks ≡ begins (setup_in file kept wall) wall (marked_each (starts_journal file wall kept))
begins-so setup marks journal file kept wall setup_is marks_are journal_is =
    ap (λ (u : PeerSetup). begins u wall marks) setup_is
    ∙ ap (begins (setup_in file kept wall) wall) (marks_are ∙ ap (λ (j : Option Journalled). marked_each j) journal_is)

pub shows-begun : (w : Work) (setup : PeerSetup) (marks : List ℕ × List ℕ) (file : GateFile) (kept : Option JournalValue) (wall : ℕ)
    → w.gate ≡ begins setup wall marks
    → setup ≡ setup_in file kept wall → marks ≡ marked_each w.journal → w.journal ≡ starts_journal file wall kept
    → moments_of w.moments ≡ same wall → w.kept ≡ kept_of (starts_empty file kept wall)
    → w.old_first ≡ (setup.keys.0.party).first → w.new_first ≡ (setup.keys.1.party).first → w.started ≡ false → w.shown ≡ None
    → ShowsWork w (starts_empty file kept wall)
shows-begun w setup marks file kept wall gate_is setup_is marks_are journal_is moments_are kept_is old_is new_is started_is shown_is =
    let is = gate_is ∙ begins-so setup marks w.journal file kept wall setup_is marks_are journal_is in
    record {
      setup = ap (λ (g : PeerGatewayValue). g.setup) is;
      gate = ap (λ (g : PeerGatewayValue). g.gate) is;
      moments = moments_are;
      kept = kept_is;
      old_first = old_is ∙ ap (λ (u : PeerSetup). (u.keys.0.party).first) setup_is;
      new_first = new_is ∙ ap (λ (u : PeerSetup). (u.keys.1.party).first) setup_is;
      started = started_is;
      shown = shown_is;
      journal = journal_is;
    }

pub cancels-are : (answer : Answered) (setup : PeerSetup) (marks : List ℕ × List ℕ) (journal : Option Journalled) (file : GateFile) (kept : Option JournalValue) (wall : ℕ)
    → answer ≡ answer_of (starts_effects setup marks)
    → setup ≡ setup_in file kept wall → marks ≡ marked_each journal → journal ≡ starts_journal file wall kept
    → answer ≡ cancels_in (starts_empty file kept wall)
cancels-are answer setup marks journal file kept wall is setup_is marks_are journal_is =
    is ∙ ap (λ (u : PeerSetup). answer_of (starts_effects u marks)) setup_is
    ∙ ap (λ (ms : List ℕ × List ℕ). answer_of (starts_effects (setup_in file kept wall) ms))
    (marks_are ∙ ap (λ (j : Option Journalled). marked_each j) journal_is)

-- ---- the cancels wait

pub does-send-out : (w : Work) (kept : KeptValue) (answer : Answered) → IsWhole w → kept ≡ puts answer w.kept
    → Does w (record w { kept = kept }) (sends_out answer)
does-send-out w kept answer whole kept_is = record {
  whole = whole-kept w kept whole;
  goes_on = λ s shows. kept-goes w kept s (sends_out answer s) shows (kept_is ∙ ap (puts answer) shows.kept) refl;
}

pub starts-so : (old new : Work) (answer : Answered) (file : GateFile) (kept : Option JournalValue) (wall : ℕ)
    → ShowsWork old (starts_empty file kept wall) → answer ≡ cancels_in (starts_empty file kept wall) → Does old new (sends_out answer)
    → ShowsWork new (starts_at file kept wall)
unfolding starts_at
starts-so old new answer file kept wall shows answer_is does =
    subst (λ (a : Answered). ShowsWork new (sends_out a (starts_empty file kept wall))) answer_is
    (does.goes_on (starts_empty file kept wall) shows)
