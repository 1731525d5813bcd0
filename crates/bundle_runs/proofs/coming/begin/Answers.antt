use Rattle.std.proofs.Common.{◌≡◌, ◌≢◌, slice_index, Some, ◌∙◌, arith, rules}
use Rattle.bundle_runs.specs.declared.coming.Coming.TheVariants as comings
use Rattle.bundle_runs.specs.Checking.{IfPart}
use Rattle.bundle_runs.proofs.ComingLemmas.{six-begun-so, six-at-once, none-so, seven-so, never-part}
use Rattle.bundle_runs.proofs.coming.begin.Goals as goal
use Rattle.bundle_runs.proofs.coming.begin.Goals.{in-Part-given, in_default-given}

pub returns-in_ok-begin_six-in-Part : goal.returns-in_ok-begin_six-in-Part
returns-in_ok-begin_six-in-Part c = λ old none.
    six-begun-so c.begin_six.new.coming c.args.reader.now old c.args.left.now c.requires.rests none c.in-6.is c.in-Part.ensures
    c.in_ok-begin_six-in-Part.ensures

pub returns-in_default-judged6 : goal.returns-in_default-judged6
returns-in_default-judged6 c = λ old none.
    rw c.shown6.ensures
    (six-at-once c.args.coming.now c.args.reader.now old c.args.left.now c.judged6.result c.requires.rests none c.in-6.is c.judged6.ensures
    c.in_default-judged6.not-Part)

pub returns-after-given : goal.returns-after-given
returns-after-given c = λ old none.
    let given = c.in_ok-given-in-159.given in
    let kept : IfPart given (c.match-given.coming ≡ Some comings.Seven) = elim c.match-given.branch [
      | in-Part-given w ↦ rw w.in-Part-given.is (w.coming-is ∙ w.begin_seven.ensures)
      | in_default-given w ↦ never-part _ given w.in_default-given.not-Part
    ] in
    rw c.shown7.ensures
    (seven-so c.match-given.coming old c.args.reader.now c.feed_seven.new.reader c.args.left.now given c.requires.rests none
    (λ i. omega (arith, c.type_inv.left i)) c.requires.some c.in-159.is c.in_ok-given-in-159.ensures kept)

pub returns-in_default : goal.returns-in_default
returns-in_default c = λ old none.
    let six : slice_index c.args.left.now 0 ≢ 0x06 = search rules in
    let seven : slice_index c.args.left.now 0 ≢ 0x9F = search rules in
    none-so c.args.coming.now c.args.reader.now old c.args.left.now none six seven
