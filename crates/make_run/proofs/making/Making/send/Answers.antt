use Rattle.std.proofs.Common.{refl, inr}
use Rattle.path_laws.specs.Path.{sends}
use Rattle.world_run.proofs.StepLemmas.{sent_whole, refused-so}
use Rattle.make_run.proofs.PlayLemmas.{plays-done, sends-refused}
use Rattle.make_run.proofs.making.Making.send.Goals as goal

pub returns-in-Ok-clause-plays : goal.returns-in-Ok-clause-plays
returns-in-Ok-clause-plays c = λ s w stands.
    plays-done c.args.self.now (record c.args.self.now { path = c.send.new.self }) c.tell.new.self (sends c.args.end c.args.bundle.now)
    c.in-Ok.effects s w stands c.in-Ok.ensures.does.0 refl refl c.tell.ensures.path refl
    (sent_whole c.args.self.now.path c.send.new.self c.args.end c.args.bundle.now s w stands c.in-Ok.ensures.does.1)
    c.tell.result c.tell.ensures.few c.tell.ensures.past c.tell.ensures.takes (λ is. inr tt)

pub returns-in_ok-take_unsent-in_default : goal.returns-in_ok-take_unsent-in_default
returns-in_ok-take_unsent-in_default c =
    let (stays, fault) = refused-so c.args.self.now.path c.send.new.self c.args.end c.args.bundle.now c.in-Err.refused c.in_default.not-Memory c.in-Err.ensures.does in
    record {
      whole = rw c.take_unsent.ensures.path stays.happens.whole;
      plays = λ s w stands.
          sends-refused c.args.self.now (record c.args.self.now { path = c.send.new.self }) c.take_unsent.new.self c.args.end c.args.bundle.now s w stands
          c.in-Err.refused stays refl refl c.take_unsent.ensures.path fault
          (λ which is. c.in_ok-take_unsent-in_default.ensures.takes which is);
    }
