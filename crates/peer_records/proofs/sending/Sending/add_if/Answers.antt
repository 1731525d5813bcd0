use Rattle.std.proofs.Common.{◌++◌, sym, ap, ◌∙◌, List, ℕ}
use Rattle.journal_file.proofs.WantsLemmas.{on_err_of}
use Rattle.peer_records.proofs.SessionLemmas.{all-of, none-of}
use Rattle.peer_records.proofs.WantedLemmas.{all-wanted}
use Rattle.peer_records.proofs.sending.Sending.add_if.Goals as goal

pub returns-then-not-is_of-clause-ids : goal.returns-then-not-is_of-clause-ids
returns-then-not-is_of-clause-ids c =
    none-of c.args.self.now c.args.face c.args.session c.args.ids.now.items (sym c.is_of.ensures ∙ c.if-not-is_of.true)

pub returns-in_err-extend_from_slice-clause-wanted : goal.returns-in_err-extend_from_slice-clause-wanted
returns-in_err-extend_from_slice-clause-wanted c =
    on_err_of _ _
    (all-wanted c.args.self.now c.args.face c.args.session c.args.ids.now.len c.args.ids.now.cap c.as_slice.result.now (sym c.is_of.ensures ∙ c.if-not-is_of.false) c.as_slice.ensures.value
    c.args.ids.now.ok.1 c.in_err-extend_from_slice.ensures.full)

pub returns-clause-ids : goal.returns-clause-ids
returns-clause-ids c =
    c.in_ok-extend_from_slice.ensures.items ∙ ap (λ (l : List ℕ). c.args.ids.now.items ++ l) c.as_slice.ensures.value
    ∙ all-of c.args.self.now c.args.face c.args.session c.args.ids.now.items (sym c.is_of.ensures ∙ c.if-not-is_of.false)
