use Rattle.std.proofs.Common.{◌≡◌, ℕ, false, ◌∙◌, ap, subst, sym}
use Rattle.contact_plan.specs.Windows.{elapsed}
use Rattle.ltp_world.specs.Steps.{Ticks as LinkTicks}
use Rattle.window_world.specs.Ties.{IsSound, made_world}
use Rattle.window_world.specs.Values.{WindowValue}
use Rattle.window_world.proofs.WindowLemmas.{contact-early, ticks-sound, whole-link}
use Rattle.window_world.proofs.QuietLemmas.{quiet-clock}
use Rattle.window_world.proofs.world.WindowWorld.clock.Goals as goal

pub clock-requires-clause-moment : goal.clock-requires-clause-moment
clock-requires-clause-moment c =
    contact-early c.self.inside.plan c.args.now c.elapsed-contact.result c.requires.moment c.elapsed-contact.ensures.elapsed

pub invariant_of-self-2 : goal.invariant_of-self-2
invariant_of-self-2 c =
    subst (λ (m : ℕ). IsSound (made_world c.self.inside.broken c.clock.new.self c.self.inside.plan m)) (sym c.later_of-self-inside.ensures)
    (ticks-sound c.self.inside.broken c.self.inside.link c.clock.new.self c.self.inside.plan c.self.inside.moment c.args.now c.in_ok-told.told
    c.self.invariant (ap (λ (v : WindowValue). v.spent) c.self.view_is ∙ c.requires.whole) c.requires.moment
    (subst (λ (n : ℕ). LinkTicks c.self.inside.link c.clock.new.self n c.in_ok-told.told) c.elapsed-contact.ensures.elapsed c.in_ok-told.ensures.done))

pub returns-clause-contact : goal.returns-clause-contact
returns-clause-contact c = (invariant_of-self-2 c).contact

pub returns-clause-quiet : goal.returns-clause-quiet
returns-clause-quiet c = λ still.
    let whole : c.self.inside.link.spent ≡ false =
    whole-link c.self.inside.broken c.self.inside.link (ap (λ (v : WindowValue). v.spent) c.self.view_is ∙ c.requires.whole) in
    let stood : elapsed c.self.inside.plan c.args.now ≡ elapsed c.self.inside.plan c.self.inside.moment =
    subst (λ (v : WindowValue). elapsed v.plan c.args.now ≡ elapsed v.plan v.moment) (sym c.self.view_is) still in
    quiet-clock c.self.inside.link c.clock.new.self c.elapsed-contact.result c.in_ok-told.told (c.self.invariant.stands whole)
    (c.elapsed-contact.ensures.elapsed ∙ (stood ∙ sym (c.self.invariant.contact (ap (λ (v : WindowValue). v.spent) c.self.view_is ∙ c.requires.whole)).1))
    c.in_ok-told.ensures.done
