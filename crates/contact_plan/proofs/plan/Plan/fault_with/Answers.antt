use Rattle.std.proofs.Common.{◌≡◌, ℕ, ◌<◌, true, false, List, ◌++◌, ◌∷◌, [], length, Some, sym, ap, ◌∙◌, subst, arith}
use Rattle.contact_plan.specs.declared.fault.PlanFault.TheVariants as causes
use Rattle.contact_plan.specs.declared.kept.Kept.{Kept}
use Rattle.contact_plan.specs.declared.window.Window.{Window}
use Rattle.contact_plan.specs.Fault.{may_follow, plan_fault}
use Rattle.contact_plan.specs.Kept.{last_from}
use Rattle.contact_plan.specs.Windows.{IsPlan}
use Rattle.contact_plan.proofs.FaultLemmas.{none-more, order-more}
use Rattle.contact_plan.proofs.KeptLemmas.{plan-of}
use Rattle.contact_plan.proofs.plan.Plan.fault_with.Goals as goal

pub returns-clause-plan : goal.returns-clause-plan
returns-clause-plan c = subst IsPlan c.self.view_is (plan-of c.self.inside.kept.items c.self.invariant)

pub returns-then-index-ge-WINDOWS_MOST-clause-plan : goal.returns-then-index-ge-WINDOWS_MOST-clause-plan
returns-then-index-ge-WINDOWS_MOST-clause-plan c = subst IsPlan c.self.view_is (plan-of c.self.inside.kept.items c.self.invariant)

pub returns-then-not-may_follow-clause-plan : goal.returns-then-not-may_follow-clause-plan
returns-then-not-may_follow-clause-plan c = subst IsPlan c.self.view_is (plan-of c.self.inside.kept.items c.self.invariant)

pub returns-then-not-may_follow-clause-fault : goal.returns-then-not-may_follow-clause-fault
returns-then-not-may_follow-clause-fault c =
    let count : c.len-index.result ≡ length c.self.inside.kept.items =
    c.len-index.ensures ∙ (sym c.deref.ensures.len ∙ ap (λ (ps : List Kept). length ps) c.deref.ensures.value) in
    let few : length c.self.inside.kept.items < 4096 = let low = c.if-index-ge-WINDOWS_MOST.false in omega (arith, low, count) in
    let may : may_follow (last_from 0 0 c.self.inside.kept.items).0 c.args.window ≡ false =
    subst (λ (e : ℕ). may_follow e c.args.window ≡ false) (ap (λ (p : ℕ × ℕ). p.0) c.last-end.ensures ∙ ap (λ (ps : List Kept). (last_from 0 0 ps).0) c.deref.ensures.value)
    (sym c.may_follow.ensures ∙ c.if-not-may_follow.true) in
    ap (λ (i : ℕ). Some (causes.Order i)) count
    ∙ (sym (order-more c.self.inside.kept.items c.args.window c.self.invariant.order few may)
    ∙ ap (λ (ws : List Window). plan_fault (ws ++ c.args.window ∷ [])) c.self.view_is)

pub returns-clause-fault : goal.returns-clause-fault
returns-clause-fault c =
    let count : c.len-index.result ≡ length c.self.inside.kept.items =
    c.len-index.ensures ∙ (sym c.deref.ensures.len ∙ ap (λ (ps : List Kept). length ps) c.deref.ensures.value) in
    let few : length c.self.inside.kept.items < 4096 = let low = c.if-index-ge-WINDOWS_MOST.false in omega (arith, low, count) in
    let may : may_follow (last_from 0 0 c.self.inside.kept.items).0 c.args.window ≡ true =
    subst (λ (e : ℕ). may_follow e c.args.window ≡ true) (ap (λ (p : ℕ × ℕ). p.0) c.last-end.ensures ∙ ap (λ (ps : List Kept). (last_from 0 0 ps).0) c.deref.ensures.value)
    (sym c.may_follow.ensures ∙ c.if-not-may_follow.false) in
    sym (none-more c.self.inside.kept.items c.args.window c.self.invariant.order few may)
    ∙ ap (λ (ws : List Window). plan_fault (ws ++ c.args.window ∷ [])) c.self.view_is
