use Rattle.std.proofs.Common.{sym, ◌∙◌, ap, arith}
use Rattle.std.proofs.lemmas.List.{length-take-le}
use Rattle.wire_fields.specs.Reading.{IsOctets}
use Rattle.bundle_runs.specs.declared.show_reader.Showing.{Showing}
use Rattle.bundle_runs.proofs.ShowJudgeLemmas.{shows-whole, shows-read, shows-waited, shows-refused}
use Rattle.bundle_runs.proofs.ShowStepLemmas.{judged-for, whole-inside-of, whole-room-of, whole-bundle-of, refused-room-of}
use Rattle.bundle_runs.proofs.show_reader.Showing.show.Goals as goal

pub slice_bounds-extend_from_slice-end : goal.slice_bounds-extend_from_slice-end
slice_bounds-extend_from_slice-end c =
    sym (length-take-le c.in-Whole.used c.args.left.now
    (whole-inside-of c.args.self.now c.args.left.now (λ i. omega (arith, c.type_inv.left i)) c.requires.some c.requires.none_due c.requires.room c.requires.showing
    c.come.new.coming c.come.new.reader c.in-Whole.found c.in-Whole.used (rw c.in-Whole.is at c.in_ok-given.ensures)))

pub begin-requires : goal.begin-requires
begin-requires c =
    rw c.pass.ensures
    (whole-bundle-of c.args.self.now c.args.left.now (λ i. omega (arith, c.type_inv.left i)) c.requires.some c.requires.none_due c.requires.room c.requires.showing
    c.come.new.coming c.come.new.reader c.in-Whole.used (rw (c.in-Whole.is, c.in-None.is) at c.in_ok-given.ensures) _ c.in_ok-extend_from_slice-in-None.ensures.items)

pub pass-requires : goal.pass-requires
pass-requires c =
    let room = whole-room-of c.args.self.now c.args.left.now (λ i. omega (arith, c.type_inv.left i)) c.requires.some c.requires.none_due c.requires.room c.requires.showing
    c.come.new.coming c.come.new.reader c.in-Whole.found c.in-Whole.used (rw c.in-Whole.is at c.in_ok-given.ensures) in
    record { few = room.0; counted = room.1 }

pub pass-requires-in-Some : goal.pass-requires-in-Some
pass-requires-in-Some c =
    let room = whole-room-of c.args.self.now c.args.left.now (λ i. omega (arith, c.type_inv.left i)) c.requires.some c.requires.none_due c.requires.room c.requires.showing
    c.come.new.coming c.come.new.reader c.in-Whole.found c.in-Whole.used (rw c.in-Whole.is at c.in_ok-given.ensures) in
    record { few = room.0; counted = room.1 }

pub overflow_add-self : goal.overflow_add-self
overflow_add-self c =
    let room = refused-room-of c.args.self.now c.args.left.now (λ i. omega (arith, c.type_inv.left i)) c.requires.some c.requires.none_due c.requires.room c.requires.showing
    c.come.new.coming c.come.new.reader c.in-Refused.at c.in-Refused.cause (rw c.in-Refused.is at c.in_ok-given.ensures) in
    omega (arith, room)

pub returns-in_ok-begin-in-None : goal.returns-in_ok-begin-in-None
returns-in_ok-begin-in-None c = λ old shows.
    let fits : IsOctets c.args.left.now = λ i. omega (arith, c.type_inv.left i) in
    let same = c.in_ok-begin-in-None.ensures.same in
    shows-whole c.args.self.now c.args.left.now fits c.requires.some c.requires.none_due c.requires.room old shows c.come.new.coming c.come.new.reader c.in-Whole.found c.in-Whole.used
    (judged-for c.args.self.now c.args.left.now fits c.requires.some c.requires.none_due c.requires.room c.come.new.coming c.come.new.reader _ (rw c.in-Whole.is at c.in_ok-given.ensures) old shows)
    c.begin.new.self c.extend_from_slice.new.self.items _ _ c.in-None.is c.in_ok-extend_from_slice-in-None.ensures.items
    (ap (λ (t : Showing). t.number) same ∙ ap (λ (t : Showing). t.number) c.pass.ensures)
    (ap (λ (t : Showing). t.at) same ∙ ap (λ (t : Showing). t.at) c.pass.ensures)
    (ap (λ (t : Showing). t.taken) same ∙ ap (λ (t : Showing). t.taken) c.pass.ensures)
    (ap (λ (t : Showing). t.begun) same ∙ ap (λ (t : Showing). t.begun) c.pass.ensures)
    (ap (λ (t : Showing). t.seven) same ∙ ap (λ (t : Showing). t.seven) c.pass.ensures)
    (rw c.pass.ensures at c.in_ok-begin-in-None.ensures.line)

pub returns-in_ok-write_show-in-Some : goal.returns-in_ok-write_show-in-Some
returns-in_ok-write_show-in-Some c = λ old shows.
    let fits : IsOctets c.args.left.now = λ i. omega (arith, c.type_inv.left i) in
    let passed = c.pass-in-Some.ensures in
    shows-read c.args.self.now c.args.left.now fits c.requires.some c.requires.none_due c.requires.room old shows c.come.new.coming c.come.new.reader c.in-Whole.found c.in-Whole.used
    (judged-for c.args.self.now c.args.left.now fits c.requires.some c.requires.none_due c.requires.room c.come.new.coming c.come.new.reader _ (rw c.in-Whole.is at c.in_ok-given.ensures) old shows)
    _ c.in-Some.bundle _ _ c.in-Some.is
    (ap (λ (t : Showing). t.number) passed) (ap (λ (t : Showing). t.at) passed) (ap (λ (t : Showing). t.taken) passed)
    (ap (λ (t : Showing). t.begun) passed) (ap (λ (t : Showing). t.seven) passed)
    (ap (λ (t : Showing). t.telling) passed ∙ c.requires.none_due) (ap (λ (t : Showing). t.octets.items) passed) c.in_ok-write_show-in-Some.ensures

pub wait-requires : goal.wait-requires
wait-requires c = omega (arith, c.requires.room)

pub returns-in_ok-wait-in-Part : goal.returns-in_ok-wait-in-Part
returns-in_ok-wait-in-Part c = λ old shows.
    let fits : IsOctets c.args.left.now = λ i. omega (arith, c.type_inv.left i) in
    let waited = c.in_ok-wait-in-Part.ensures.same in
    shows-waited c.args.self.now c.args.left.now fits c.requires.some c.requires.none_due c.requires.room old shows c.come.new.coming c.come.new.reader _ _
    (judged-for c.args.self.now c.args.left.now fits c.requires.some c.requires.none_due c.requires.room c.come.new.coming c.come.new.reader _ (rw c.in-Part.is at c.in_ok-given.ensures) old shows)
    waited c.in_ok-wait-in-Part.ensures.kept

pub returns-in_ok-write_refused-in-Refused : goal.returns-in_ok-write_refused-in-Refused
returns-in_ok-write_refused-in-Refused c = λ old shows.
    let fits : IsOctets c.args.left.now = λ i. omega (arith, c.type_inv.left i) in
    shows-refused c.args.self.now c.args.left.now fits c.requires.some c.requires.none_due c.requires.room old shows c.come.new.coming c.come.new.reader c.args.self.now
    c.in-Refused.at c.in-Refused.cause _ _
    (judged-for c.args.self.now c.args.left.now fits c.requires.some c.requires.none_due c.requires.room c.come.new.coming c.come.new.reader _ (rw c.in-Refused.is at c.in_ok-given.ensures) old shows)
    (rw c.word.ensures at c.in_ok-write_refused-in-Refused.ensures)
