use Rattle.std.proofs.Common.{◌≢◌, slice_index, ap, refl, sym, ◌∙◌, subst, rules}
use Rattle.bundle_runs.specs.declared.check_reader.Checking.{Checking}
use Rattle.bundle_runs.specs.declared.given.Given.TheVariants.{Part}
use Rattle.bundle_runs.specs.Given.{Finds, IsVersion}
use Rattle.bundle_runs.specs.Checking.{with_judges}
use Rattle.bundle_runs.proofs.BegunLemmas.{front-none}
use Rattle.bundle_runs.proofs.ComingLemmas.{front-six}
use Rattle.bundle_runs.proofs.CheckLemmas.{judged-begun, judged-at-once, not-part}
use Rattle.bundle_runs.proofs.check_reader.Checking.begin.Goals as goal

pub returns-in_ok-keep6-in-Part : goal.returns-in_ok-keep6-in-Part
returns-in_ok-keep6-in-Part c =
    let seven = ap (λ (t : Checking). t.seven) c.in_ok-keep6-in-Part.ensures.same in
    record {
      same = c.in_ok-keep6-in-Part.ensures.same ∙ ap (λ j. with_judges c.args.self.now c.keep6.new.self.begun j) (sym seven);
      judged = λ old shadows.
          judged-begun c.args.self.now _ old c.args.left.now c.requires.none shadows seven
          (subst (λ f. Finds IsVersion f 0 Part) (sym (front-six c.args.left.now c.in-6.is)) c.in-Part.ensures) c.in_ok-keep6-in-Part.ensures.begun;
    }

pub returns-in_default-judged6 : goal.returns-in_default-judged6
returns-in_default-judged6 c = record {
  same = refl;
  judged = λ old shadows.
      judged-at-once c.args.self.now _ old c.args.left.now c.judged6.result c.requires.none shadows refl
      (subst (λ f. Finds IsVersion f 0 c.judged6.result) (sym (front-six c.args.left.now c.in-6.is)) c.judged6.ensures)
      (not-part c.judged6.result c.in_default-judged6.not-Part);
}

pub returns-in_default-clause-judged : goal.returns-in_default-clause-judged
returns-in_default-clause-judged c = λ old shadows.
    let six : slice_index c.args.left.now 0 ≢ 0x06 = search rules in
    let seven : slice_index c.args.left.now 0 ≢ 0x9F = search rules in
    judged-at-once c.args.self.now _ old c.args.left.now _ c.requires.none shadows refl (front-none c.args.left.now (six, seven)) tt
