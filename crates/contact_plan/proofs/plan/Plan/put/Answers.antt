use Rattle.std.proofs.Common.{◌≡◌, ℕ, ◌+◌, ◌-◌, true, List, ◌++◌, ◌∷◌, [], None, sym, ap, ◌∙◌, subst, arith}
use Rattle.contact_plan.specs.declared.kept.Kept.{Kept}
use Rattle.contact_plan.specs.declared.window.Window.{Window}
use Rattle.contact_plan.specs.Fault.{may_follow, plan_fault}
use Rattle.contact_plan.specs.Kept.{IsKept, last_from}
use Rattle.contact_plan.proofs.FaultLemmas.{follows, is-kept-more, joins, joins-room}
use Rattle.contact_plan.proofs.KeptLemmas.{plan-of}
use Rattle.contact_plan.proofs.plan.Plan.put.Goals as goal

pub after-requires-clause-order : goal.after-requires-clause-order
after-requires-clause-order c =
    (follows (last_from 0 0 c.self.inside.kept.items).0 c.args.window (joins c.self.inside.kept.items c.args.window c.self.invariant.order
    (subst (λ (ws : List Window). plan_fault (ws ++ c.args.window ∷ []) ≡ None) (sym c.self.view_is) c.requires)).may).order

pub after-requires-clause-room : goal.after-requires-clause-room
after-requires-clause-room c =
    let j = joins c.self.inside.kept.items c.args.window c.self.invariant.order
    (subst (λ (ws : List Window). plan_fault (ws ++ c.args.window ∷ []) ≡ None) (sym c.self.view_is) c.requires) in
    let room = joins-room c.self.inside.kept.items c.args.window c.self.invariant.order j in
    let is = ap (λ (p : ℕ × ℕ). p.1) c.last-contact.ensures ∙ ap (λ (ps : List Kept). (last_from 0 0 ps).1) c.deref.ensures.value in
    omega (arith, room, is)

pub invariant_of-self-2 : goal.invariant_of-self-2
invariant_of-self-2 c =
    let j = joins c.self.inside.kept.items c.args.window c.self.invariant.order
    (subst (λ (ws : List Window). plan_fault (ws ++ c.args.window ∷ []) ≡ None) (sym c.self.view_is) c.requires) in
    let contact = ap (λ (p : ℕ × ℕ). p.1) c.last-contact.ensures ∙ ap (λ (ps : List Kept). (last_from 0 0 ps).1) c.deref.ensures.value in
    subst IsKept (sym c.in_ok-push.ensures.items)
    (is-kept-more c.self.inside.kept.items c.after.result c.self.invariant j.few
    (subst (λ (w : Window). may_follow (last_from 0 0 c.self.inside.kept.items).0 w ≡ true) (sym c.after.ensures.window) j.may)
    (c.after.ensures.contact
    ∙ (ap (λ (n : ℕ). n + (c.args.window.to - c.args.window.from)) contact
    ∙ ap (λ (w : Window). (last_from 0 0 c.self.inside.kept.items).1 + (w.to - w.from)) (sym c.after.ensures.window))))

pub returns-clause-plan : goal.returns-clause-plan
returns-clause-plan c = plan-of c.push.new.self.items (invariant_of-self-2 c)
