-- What the two writes leave, as what the files say.
use Rattle.std.proofs.Common.{◌≡◌, ◌+◌, ◌++◌, ℕ, List, length, map, Some, IfSome, sym, ap, ◌∙◌, subst, arith}
use Rattle.store_traits.specs.Disk.{Only, LeavesOnly}
use Rattle.journal_file.specs.Values.{KeptValue}
use Rattle.journal_file.specs.Keeping.{kept_after}
use Rattle.journal_file.specs.Spelling.{MayFollow, behind_gate}
use Rattle.journal_file.specs.Ties.{record_of}
use Rattle.journal_file.proofs.LengthLemmas.{behind-length}
use Rattle.gate_journal.specs.Rest.{RestsWith}
use Rattle.gate_journal.specs.Steps.{IsShutAt, opened, MayStand}
use Rattle.gate_journal.proofs.RestLemmas.{unmoved, all-or-none, done-told, some-records}
use Rattle.gate_journal.proofs.journal.Journal.commit.Goals as goal

pub returns-then-is_empty-clause-any_moment : goal.returns-then-is_empty-clause-any_moment
returns-then-is_empty-clause-any_moment g c =
    let old = c.args.self.now.store in
    unmoved g.S.Store.moment g.S.Store.left_since old (g.S.Store.may_leave old) c.args.self.now.gate (map record_of c.args.records.now) (g.S.Store.seen old)
    (λ f left. g.met.S.Store.only_now old f left)

pub returns-then-self-ge-GATE_MAX-clause-any_moment : goal.returns-then-self-ge-GATE_MAX-clause-any_moment
returns-then-self-ge-GATE_MAX-clause-any_moment g c =
    let old = c.args.self.now.store in
    unmoved g.S.Store.moment g.S.Store.left_since old (g.S.Store.may_leave old) c.args.self.now.gate (map record_of c.args.records.now) (g.S.Store.seen old)
    (λ f left. g.met.S.Store.only_now old f left)

pub returns-in_err-write_behind_gate-clause-any_moment : goal.returns-in_err-write_behind_gate-clause-any_moment
returns-in_err-write_behind_gate-clause-any_moment g c =
    let old = c.args.self.now.store in
    unmoved g.S.Store.moment g.S.Store.left_since old (g.S.Store.may_leave old) c.args.self.now.gate (map record_of c.args.records.now) (g.S.Store.seen old)
    (λ f left. g.met.S.Store.only_now old f left)

pub returns-in_err-open-clause-any_moment : goal.returns-in_err-open-clause-any_moment
returns-in_err-open-clause-any_moment g c =
    let rs = map record_of c.args.records.now in
    let old = c.args.self.now.store in
    let wrote = c.in_ok-write_behind_gate.ensures.ok ∙ ap (λ (w : List ℕ). w ++ behind_gate rs) c.new-octets.ensures.items in
    let step = subst (λ (w : List ℕ). IfSome (g.S.Store.seen old) (λ s. IsShutAt c.args.self.now.gate s → Only s (g.S.Store.may_leave old)
    → LeavesOnly g.S.Store.moment g.S.Store.left_since old c.open.new.store (MayStand c.args.self.now.gate w s))) (c.as_slice.ensures.value ∙ wrote) c.open.ensures.any_moment in
    all-or-none g.S.Store.moment g.S.Store.left_since old c.open.new.store (g.S.Store.may_leave old) c.args.self.now.gate rs (g.S.Store.seen old)
    (some-records c.args.records.now c.if-is_empty.ensures) step

pub returns-clause-any_moment : goal.returns-clause-any_moment
returns-clause-any_moment g c =
    let rs = map record_of c.args.records.now in
    let old = c.args.self.now.store in
    let wrote = c.in_ok-write_behind_gate.ensures.ok ∙ ap (λ (w : List ℕ). w ++ behind_gate rs) c.new-octets.ensures.items in
    let step = subst (λ (w : List ℕ). IfSome (g.S.Store.seen old) (λ s. IsShutAt c.args.self.now.gate s → Only s (g.S.Store.may_leave old)
    → LeavesOnly g.S.Store.moment g.S.Store.left_since old c.open.new.store (MayStand c.args.self.now.gate w s))) (c.as_slice.ensures.value ∙ wrote) c.open.ensures.any_moment in
    all-or-none g.S.Store.moment g.S.Store.left_since old c.open.new.store (g.S.Store.may_leave old) c.args.self.now.gate rs (g.S.Store.seen old)
    (some-records c.args.records.now c.if-is_empty.ensures) step

pub returns-clause-done : goal.returns-clause-done
returns-clause-done g c =
    let rs = map record_of c.args.records.now in
    let old = c.args.self.now.store in
    let new = c.open.new.store in
    let wrote = c.in_ok-write_behind_gate.ensures.ok ∙ ap (λ (w : List ℕ). w ++ behind_gate rs) c.new-octets.ensures.items in
    let seen = subst (λ (w : List ℕ). IfSome (g.S.Store.seen old) (λ s. IsShutAt c.args.self.now.gate s → g.S.Store.seen new ≡ Some (opened c.args.self.now.gate w s)))
    (c.as_slice.ensures.value ∙ wrote) c.in_ok-open.ensures.seen in
    let told = done-told (g.S.Store.may_leave old) (g.S.Store.may_leave new) c.args.self.now.gate rs (some-records c.args.records.now c.if-is_empty.ensures)
    (g.S.Store.seen old) (g.S.Store.seen new) seen c.in_ok-open.ensures.durable in
    let size : c.len-length.result ≡ length c.as_slice.result.now = omega (arith, c.len-length.ensures, c.as_slice.ensures.len) in
    subst (λ (n : ℕ). IfSome (g.S.Store.seen old) (λ s. (k : KeptValue) → RestsWith s (g.S.Store.may_leave old) c.args.self.now.gate k → MayFollow k rs
    → IfSome (g.S.Store.seen new) (λ t. RestsWith t (g.S.Store.may_leave new) (c.args.self.now.gate + n) (kept_after k rs))))
    (sym (size ∙ ap length (c.as_slice.ensures.value ∙ wrote))) told

pub returns-clause-gate : goal.returns-clause-gate
returns-clause-gate g c =
    let rs = map record_of c.args.records.now in
    let wrote = c.in_ok-write_behind_gate.ensures.ok ∙ ap (λ (w : List ℕ). w ++ behind_gate rs) c.new-octets.ensures.items in
    omega (arith, c.len-length.ensures, c.as_slice.ensures.len, ap length (c.as_slice.ensures.value ∙ wrote), behind-length rs)

pub returns-clause-length : goal.returns-clause-length
returns-clause-length g c =
    let rs = map record_of c.args.records.now in
    let wrote = c.in_ok-write_behind_gate.ensures.ok ∙ ap (λ (w : List ℕ). w ++ behind_gate rs) c.new-octets.ensures.items in
    omega (arith, c.len-length.ensures, c.as_slice.ensures.len, ap length (c.as_slice.ensures.value ∙ wrote), behind-length rs)
