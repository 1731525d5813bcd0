use Rattle.std.proofs.Common.{refl, inr}
use Rattle.std.proofs.Math.Path.{subst}
use Rattle.path_laws.specs.Path.{delivers}
use Rattle.world_run.proofs.StepLemmas.{delivered_whole}
use Rattle.make_run.specs.Ties.{Plays, Played}
use Rattle.make_run.proofs.PlayLemmas.{plays-done, delivers-refused, delivers-as}
use Rattle.make_run.proofs.making.Making.deliver.Goals as goal

pub returns-in-Ok-clause-plays : goal.returns-in-Ok-clause-plays
returns-in-Ok-clause-plays c = λ s w stands.
    subst (λ event. Plays s w event c.args.self.now c.tell.new.self c.tell.result)
    (delivers-as c.args.self.now.path s w stands c.sent.result c.one_of_last-k.result c.args.t c.sent.ensures c.one_of_last-k.ensures)
    (plays-done c.args.self.now (record c.args.self.now { path = c.deliver.new.self }) c.tell.new.self (delivers c.one_of_last-k.result)
    c.in-Ok.effects s w stands c.in-Ok.ensures.does.1 refl refl c.tell.ensures.path refl
    (delivered_whole c.args.self.now.path c.deliver.new.self c.one_of_last-k.result s w stands c.in-Ok.ensures.does.0)
    c.tell.result c.tell.ensures.few c.tell.ensures.past c.tell.ensures.takes (λ is. inr tt))

pub returns-in_ok-take_undelivered-in-Err-NoSuchDatagram : goal.returns-in_ok-take_undelivered-in-Err-NoSuchDatagram
returns-in_ok-take_undelivered-in-Err-NoSuchDatagram c =
    let none = rw c.in-Err-NoSuchDatagram.field-0-is at c.in-Err-NoSuchDatagram.ensures.does in
    record {
      whole = rw c.take_undelivered.ensures.path none.1.happens.whole;
      plays = λ s w stands.
          subst (λ event. Played s w event c.args.self.now c.take_undelivered.new.self)
          (delivers-as c.args.self.now.path s w stands c.sent.result c.one_of_last-k.result c.args.t c.sent.ensures c.one_of_last-k.ensures)
          (delivers-refused c.args.self.now (record c.args.self.now { path = c.deliver.new.self }) c.take_undelivered.new.self c.one_of_last-k.result s w stands
          none.0 none.1 refl refl c.take_undelivered.ensures.path c.in_ok-take_undelivered-in-Err-NoSuchDatagram.ensures.takes);
    }
