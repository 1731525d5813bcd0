-- What every run of a path keeps of its links: blocks are sent all red, and nothing is kept of a
-- closed number.

use Rattle.std.proofs.Common.{◌≡◌, ℕ, Bool, true, false, List, ◌∷◌, length, None, Some, sym, ◌∙◌}
use Rattle.std.proofs.Common.{ap, subst}
use Rattle.ltp_session.specs.Engine.{Party, is_closed}
use Rattle.ltp_session.specs.Receiver.{Receiving}
use Rattle.ltp_session.specs.Sender.{Sending}
use Rattle.ltp_session.specs.Table.{find}
use Rattle.ltp_session.specs.World.{ArePeers, End, World, at_end, clock, first_end, run}
use Rattle.ltp_session.specs.World.{second_end, starts_world}
use Rattle.ltp_laws.specs.Blocks.{BlockFacts, IsSenderOf}
use Rattle.ltp_laws.specs.Engines.{ClosedFacts}
use Rattle.ltp_laws.specs.Kept.{IfKept}
use Rattle.ltp_laws.specs.Log.{HasFacts, HasFactsBy, Submission, submissions}
use Rattle.ltp_laws.specs.View.{IsIn, View, view}
use Rattle.ltp_laws.proofs.ClosedLemmas.{closed-keep}
use Rattle.ltp_laws.proofs.FactLemmas.{facts-keep}
use Rattle.ltp_laws.proofs.LogLemmas.{every_submitted}
use Rattle.ltp_drain.specs.Hopeful.{IsReached}
use Rattle.gate_cases.specs.declared.face.Face.{Face}
use Rattle.gate_cases.specs.declared.face.Face.TheVariants as faces
use Rattle.path_laws.specs.Links.{link_at, link_events, link_parties}
use Rattle.path_laws.specs.Log.{Begun, begun_in}
use Rattle.path_laws.specs.Path.{PathEvent, PathSetup, path_run, starts_path}
use Rattle.path_laws.proofs.ChunkLemmas.{submission_from, submissions_on}
use Rattle.path_laws.proofs.LogLemmas.{link-in}
use Rattle.path_laws.proofs.RunLemmas.{whole-chunk}
use Rattle.path_drain.specs.RoomKept.{NodesSendRed}

-- the sessions that a run began on a link
begun_on : (s : PathSetup) → ℕ → List PathEvent → Face → List Submission
begun_on s start events face = submissions_on face (begun_in s (starts_path s start) events)

facts-at : (s : PathSetup) (start : ℕ) (events : List PathEvent) (face : Face)
    → ArePeers (link_parties s face) → (o : End) (n : ℕ)
    → HasFacts BlockFacts (begun_on s start events face) o n
    (view (link_parties s face) (link_at face (path_run s (starts_path s start) events)) o n)
unfolding begun_on
facts-at s start events face peers o n =
    let chunk = whole-chunk face s start events in
    subst (λ (x : World). HasFacts BlockFacts (submissions_on face
    (begun_in s (starts_path s start) events)) o n
    (view (link_parties s face) x o n)) (sym chunk.runs)
    (subst (λ all. HasFacts BlockFacts all o n (view (link_parties s face)
    (run (link_parties s face) (starts_world (link_parties s face))
    (clock start ∷ link_events face s (starts_path s start) events)) o n)) (sym chunk.begins)
    (every_submitted BlockFacts facts-keep (link_parties s face)
    (clock start ∷ link_events face s (starts_path s start) events) peers o n))

-- ---- blocks are sent all red

red-of : (all : List Submission) (o : End) (n : ℕ) (v : View)
    → ((p : Submission) → IsIn p all → p.red ≡ length p.block)
    → HasFacts BlockFacts all o n v → (s : Sending) → v.sender ≡ Some s → s.red ≡ length s.block
red-of all o n v reds has s kept = by v.used has
  where
    by : (b : Bool) → HasFactsBy BlockFacts all o n b v → s.red ≡ length s.block
    by false unused = absurd (let none : v.sender ≡ None = unused.sender in cc)
    by true submitted =
        let of : IsSenderOf (submitted.submission).block (submitted.submission).red s =
        subst (IfKept (IsSenderOf (submitted.submission).block (submitted.submission).red)) kept
        (submitted.facts).sender in
        of.same_red ∙ reds submitted.submission submitted.among
        ∙ sym (ap length of.same_block)

begun-red : (face : Face) (begun : List Begun) (p : Submission)
    → IsIn p (submissions_on face begun) → p.red ≡ length p.block
begun-red face begun p among =
    let found = link-in (λ (b : Begun). b.place) submission_from face begun p among in
    sym (ap (λ (q : Submission). q.red) found.is)
    ∙ ap (λ (q : Submission). length q.block) found.is

pub nodes-red : NodesSendRed
unfolding begun_on
nodes-red s start events peers faces.Old = record {
  red = λ n x kept. red-of _ first_end n _ (begun-red faces.Old _)
      (facts-at s start events faces.Old (peers faces.Old) first_end n) x kept;
}
nodes-red s start events peers faces.New = record {
  red = λ n x kept. red-of _ second_end n _ (begun-red faces.New _)
      (facts-at s start events faces.New (peers faces.New) second_end n) x kept;
}

-- ---- nothing is kept of a closed number

closed-of : (all : List Submission) (o : End) (n : ℕ) (v : View) → HasFacts ClosedFacts all o n v
    → (r : Receiving) → v.receiver ≡ Some r → v.closed ≡ false
closed-of all o n v has r kept = by v.used has
  where
    by : (b : Bool) → HasFactsBy ClosedFacts all o n b v → v.closed ≡ false
    by false unused = unused.closed
    by true submitted = subst (IfKept (λ r. v.closed ≡ false)) kept (submitted.facts).kept

closed-at : (parties : Party × Party) (w : World) → ArePeers parties → IsReached parties w
    → (o : End) (n : ℕ) (r : Receiving) → (view parties w o n).receiver ≡ Some r
    → (view parties w o n).closed ≡ false
closed-at parties w peers reached o n r kept =
    closed-of _ o n (view parties w o n)
    (subst (λ (x : World). HasFacts ClosedFacts
    (submissions parties (starts_world parties) reached.events) o n (view parties x o n))
    reached.leads (every_submitted ClosedFacts closed-keep parties reached.events peers o n)) r kept

pub kept-unclosed : (parties : Party × Party) (w : World) → ArePeers parties
    → IsReached parties w → (o : End) (n : ℕ) (r : Receiving)
    → find n (at_end w.engines o).receivers ≡ Some r
    → is_closed n (at_end w.engines o).closed ≡ false
kept-unclosed parties w peers reached first_end n r kept =
    closed-at parties w peers reached second_end n r kept
kept-unclosed parties w peers reached second_end n r kept =
    closed-at parties w peers reached first_end n r kept
