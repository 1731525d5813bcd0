-- What the new file says.
use Rattle.std.proofs.Common.{◌≡◌, ◌-◌, ◌++◌, ℕ, List, length, ap, ◌∙◌, arith}
use Rattle.journal_file.specs.Anew.{file_of}
use Rattle.journal_file.specs.Ties.{kept_of}
use Rattle.gate_journal.proofs.RestLemmas.{new-any, new-rests, new-long}
use Rattle.gate_journal.proofs.journal.Journal.install.Goals as goal

pub returns-in_err-replace-clause-any_moment : goal.returns-in_err-replace-clause-any_moment
returns-in_err-replace-clause-any_moment g c =
    let kept = kept_of c.args.kept.now in
    let wrote = c.in_ok-write_file.ensures.ok ∙ ap (λ (w : List ℕ). w ++ file_of kept) c.new-octets.ensures.items in
    new-any c.as_slice.result.now kept (c.as_slice.ensures.value ∙ wrote) g.S.Store.moment g.S.Store.left_since c.args.self.now.store c.replace.new.store
    (g.S.Store.may_leave c.args.self.now.store) (g.S.Store.seen c.args.self.now.store) c.replace.ensures.any_moment

pub returns-clause-any_moment : goal.returns-clause-any_moment
returns-clause-any_moment g c =
    let kept = kept_of c.args.kept.now in
    let wrote = c.in_ok-write_file.ensures.ok ∙ ap (λ (w : List ℕ). w ++ file_of kept) c.new-octets.ensures.items in
    new-any c.as_slice.result.now kept (c.as_slice.ensures.value ∙ wrote) g.S.Store.moment g.S.Store.left_since c.args.self.now.store c.replace.new.store
    (g.S.Store.may_leave c.args.self.now.store) (g.S.Store.seen c.args.self.now.store) c.replace.ensures.any_moment

pub returns-clause-rests : goal.returns-clause-rests
returns-clause-rests g c =
    let kept = kept_of c.args.kept.now in
    let wrote = c.in_ok-write_file.ensures.ok ∙ ap (λ (w : List ℕ). w ++ file_of kept) c.new-octets.ensures.items in
    let whole = c.as_slice.ensures.value ∙ wrote in
    let long = new-long c.as_slice.result.now kept whole in
    let size : c.len-gate.result ≡ length c.as_slice.result.now = omega (arith, c.len-gate.ensures, c.as_slice.ensures.len) in
    new-rests c.as_slice.result.now kept whole (g.S.Store.may_leave c.replace.new.store) (c.len-gate.result - 1) (g.S.Store.seen c.args.self.now.store) (g.S.Store.seen c.replace.new.store)
    (omega (arith, long, size)) c.in_ok-replace.ensures.seen c.in_ok-replace.ensures.durable

pub returns-clause-gate : goal.returns-clause-gate
returns-clause-gate g c =
    let kept = kept_of c.args.kept.now in
    let wrote = c.in_ok-write_file.ensures.ok ∙ ap (λ (w : List ℕ). w ++ file_of kept) c.new-octets.ensures.items in
    let long = new-long c.as_slice.result.now kept (c.as_slice.ensures.value ∙ wrote) in
    omega (arith, long, c.len-gate.ensures, c.as_slice.ensures.len)

pub returns-clause-place : goal.returns-clause-place
returns-clause-place g c =
    let kept = kept_of c.args.kept.now in
    let wrote = c.in_ok-write_file.ensures.ok ∙ ap (λ (w : List ℕ). w ++ file_of kept) c.new-octets.ensures.items in
    let long = new-long c.as_slice.result.now kept (c.as_slice.ensures.value ∙ wrote) in
    omega (arith, long, c.len-gate.ensures, c.as_slice.ensures.len)
