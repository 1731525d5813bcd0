use Rattle.std.proofs.Common.{ℕ, ◌^◌, ◌<◌, List, map, IfSome, ap, subst, ◌∙◌}
use Rattle.std.proofs.lemmas.Result.{on_err_weaker, on_ok_weaker}
use Rattle.gateway_core.specs.declared.effects.Routed.{Routed}
use Rattle.gate_records.specs.Laws.{ReportSmall}
use Rattle.gate_records.specs.Records.{clear_records, mark_records}
use Rattle.journal_file.specs.declared.kept.Mark.{Mark}
use Rattle.journal_file.proofs.WantsLemmas.{on_err_of}
use Rattle.peer_gateway.specs.Answers.{told_seen}
use Rattle.peer_gateway.specs.Gate.{AddedAt, BegunAt, FaceTold}
use Rattle.peer_records.specs.Happened.{notes_in, marking}
use Rattle.peer_records.specs.Keeping.{PeerKeeping}
use Rattle.peer_records.specs.Laws.{IsToAdd, AddsWell, DoesNothing}
use Rattle.peer_records.specs.Records.{done_records, named_left, added_records, added_waiting, all_go}
use Rattle.peer_records.specs.Said.{SaidValue, happened_by, said_with, shown}
use Rattle.peer_records.specs.Ties.{with_waiting, with_named}
use Rattle.peer_records.proofs.RecordingLemmas.{parts-recorded, pieces-marks, reports-marks, ends-greatest, adds-well}
use Rattle.peer_records.proofs.WantedLemmas.{nothing}
use Rattle.peer_records.proofs.recording.record.Goals as goal

pub returns-clause-ok : goal.returns-clause-ok
returns-clause-ok g c =
    let h = happened_by c.args.step.now (g.G.GateSessions.opened c.args.gate.now) (g.G.GateSessions.handed_up c.args.gate.now) in
    let s = c.args.said.now in
    let g0 = c.args.held.now in
    let ended = c.record_ends.new.said in
    let left = c.record_ends.new.held in
    on_ok_weaker c.clear_over.result
    (λ over. parts-recorded h s ended c.record_added.new.said c.mark_all.new.self c.clear_over.new.self g0 left c.record_added.new.held c.begin_all.new.self
    (record {
      ended = c.in_ok-record_ends.ensures.said ∙ ap (λ (ts : List FaceTold). said_with (done_records h.is_open (notes_in ts) g0.named) s) c.told.ensures;
      left = c.in_ok-record_ends.ensures.left ∙ ap (λ (ts : List FaceTold). with_named g0 (named_left h.is_open (notes_in ts) g0.named)) c.told.ensures;
      added = c.in_ok-record_added.ensures.said ∙ ap (λ (xs : List AddedAt). said_with (added_records h.again (ended.kept).greatest xs) ended) c.added.ensures;
      waits = c.in_ok-record_added.ensures.waits ∙ ap (λ (xs : List AddedAt). with_waiting left (added_waiting h.again (ended.kept).greatest xs left.waiting)) c.added.ensures;
      going = c.in_ok-begin_all.ensures.ok ∙ ap (λ (bs : List BegunAt). all_go bs c.record_added.new.held) c.begun.ensures;
      reported = c.in_ok-mark_all.ensures.ok ∙ ap (λ (out : List Routed). said_with (mark_records (marking h) out ((c.record_added.new.said).kept).marks) c.record_added.new.said) c.out.ensures;
      over = over;
    }))
    c.clear_over.ensures.ok

pub returns-in_err-record_ends-clause-wanted : goal.returns-in_err-record_ends-clause-wanted
returns-in_err-record_ends-clause-wanted g c =
    let h = happened_by c.args.step.now (g.G.GateSessions.opened c.args.gate.now) (g.G.GateSessions.handed_up c.args.gate.now) in
    let k : PeerKeeping = (shown c.args.said.now c.args.held.now).keeping in
    let no : DoesNothing h k → ⊥ = λ does.
    c.in_err-record_ends.ensures.wanted (ap (λ (ts : List FaceTold). done_records h.is_open (notes_in ts) k.named) c.told.ensures ∙ (nothing h k does).ended) in
    on_err_of _ _ no

pub returns-in_err-mark_all-clause-wanted : goal.returns-in_err-mark_all-clause-wanted
returns-in_err-mark_all-clause-wanted g c =
    let h = happened_by c.args.step.now (g.G.GateSessions.opened c.args.gate.now) (g.G.GateSessions.handed_up c.args.gate.now) in
    let s = c.args.said.now in
    let k : PeerKeeping = (shown s c.args.held.now).keeping in
    let ended = c.record_ends.new.said in
    let pieces = c.record_added.new.said in
    let ended_is = c.in_ok-record_ends.ensures.said ∙ ap (λ (ts : List FaceTold). said_with (done_records h.is_open (notes_in ts) k.named) s) c.told.ensures in
    let added_is = c.in_ok-record_added.ensures.said ∙ ap (λ (xs : List AddedAt). said_with (added_records h.again (ended.kept).greatest xs) ended) c.added.ensures in
    let no : DoesNothing h k → ⊥ = λ does.
    c.in_err-mark_all.ensures.wanted
    (ap (λ (out : List Routed). mark_records (marking h) out (pieces.kept).marks) c.out.ensures
    ∙ ap (λ (ms : List Mark). mark_records (marking h) h.out ms) (pieces-marks h s ended pieces k.named ended_is added_is) ∙ (nothing h k does).reports) in
    on_err_of _ _ no

pub returns-clause-wanted : goal.returns-clause-wanted
returns-clause-wanted g c =
    let h = happened_by c.args.step.now (g.G.GateSessions.opened c.args.gate.now) (g.G.GateSessions.handed_up c.args.gate.now) in
    let s = c.args.said.now in
    let k : PeerKeeping = (shown s c.args.held.now).keeping in
    let ended = c.record_ends.new.said in
    let pieces = c.record_added.new.said in
    let ended_is = c.in_ok-record_ends.ensures.said ∙ ap (λ (ts : List FaceTold). said_with (done_records h.is_open (notes_in ts) k.named) s) c.told.ensures in
    let added_is = c.in_ok-record_added.ensures.said ∙ ap (λ (xs : List AddedAt). said_with (added_records h.again (ended.kept).greatest xs) ended) c.added.ensures in
    let marks_are = c.in_ok-mark_all.ensures.ok ∙ ap (λ (out : List Routed). said_with (mark_records (marking h) out (pieces.kept).marks) pieces) c.out.ensures in
    on_err_weaker c.clear_over.result
    (λ wanted does. wanted
    (ap (λ (ms : List Mark). clear_records (marking h) ms) (reports-marks h s pieces c.mark_all.new.self (pieces-marks h s ended pieces k.named ended_is added_is) marks_are) ∙ (nothing h k does).over))
    c.clear_over.ensures.wanted

pub returns-clause-fits : goal.returns-clause-fits
returns-clause-fits g c =
    let h = happened_by c.args.step.now (g.G.GateSessions.opened c.args.gate.now) (g.G.GateSessions.handed_up c.args.gate.now) in
    let k : PeerKeeping = (shown c.args.said.now c.args.held.now).keeping in
    let now : PeerKeeping = (shown c.record_ends.new.said c.record_ends.new.held).keeping in
    on_ok_weaker c.clear_over.result
    (λ over. λ free. record {
      wall = subst (λ (n : ℕ). n < 2 ^ 64) c.wall.ensures c.wall.type_inv;
      added = adds-well h.again h.added k now
          (ap (λ (t : SaidValue). (t.kept).greatest) c.in_ok-record_ends.ensures.said
          ∙ ends-greatest (c.args.said.now).kept h.is_open (notes_in (map told_seen c.told.result.now)) (c.args.held.now).named)
          (subst (λ (xs : List AddedAt). IfSome h.again (IsToAdd now) → AddsWell h.again xs now) c.added.ensures c.in_ok-record_added.ensures.fits) free;
      sessions = subst (λ (out : List Routed). ReportSmall out) c.out.ensures c.in_ok-mark_all.ensures.small;
    })
    c.clear_over.ensures.ok
