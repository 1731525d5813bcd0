use Rattle.std.proofs.Common.{refl}
use Rattle.std.specs.String.{string_bytes}
use Rattle.path_laws.specs.Path.{delivers}
use Rattle.world_run.proofs.StepLemmas.{done_turn, delivered_whole, undelivered_turn}
use Rattle.world_run.proofs.world.deliver.Goals as goal

pub returns-in-Ok-clause-turn : goal.returns-in-Ok-clause-turn
returns-in-Ok-clause-turn c = λ s w stands.
    done_turn c.args.path.now c.deliver.new.self (delivers c.args.k) c.in-Ok.effects s w stands c.in-Ok.ensures.does.1 refl
    (string_bytes c.args.text.now) (string_bytes c.tell.new.text) _ c.tell.result
    (delivered_whole c.args.path.now c.deliver.new.self c.args.k s w stands c.in-Ok.ensures.does.0) c.tell.ensures.told

pub returns-in_ok-write_undelivered-in-Err-NoSuchDatagram-clause-turn :
    goal.returns-in_ok-write_undelivered-in-Err-NoSuchDatagram-clause-turn
returns-in_ok-write_undelivered-in-Err-NoSuchDatagram-clause-turn c = λ s w stands.
    let none = rw c.in-Err-NoSuchDatagram.field-0-is at c.in-Err-NoSuchDatagram.ensures.does in
    undelivered_turn c.args.path.now c.deliver.new.self c.args.k s w stands none.0 none.1 (string_bytes c.args.text.now) (string_bytes c.write_undelivered.new.text)
    c.in_ok-write_undelivered-in-Err-NoSuchDatagram.ensures
