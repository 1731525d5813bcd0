use Rattle.std.proofs.Common.{refl}
use Rattle.std.specs.String.{string_bytes}
use Rattle.path_laws.specs.Path.{sends}
use Rattle.world_run.proofs.StepLemmas.{done_turn, sent_whole, refused-so, unsent_turn}
use Rattle.world_run.proofs.world.send.Goals as goal

pub returns-in-Ok-clause-turn : goal.returns-in-Ok-clause-turn
returns-in-Ok-clause-turn c = λ s w stands.
    done_turn c.args.path.now c.send.new.self (sends c.args.end c.args.body.now) c.in-Ok.effects s w stands c.in-Ok.ensures.does.0 refl
    (string_bytes c.args.text.now) (string_bytes c.tell.new.text) _ c.tell.result
    (sent_whole c.args.path.now c.send.new.self c.args.end c.args.body.now s w stands c.in-Ok.ensures.does.1) c.tell.ensures.told

pub returns-in_ok-write_unsent-in_default : goal.returns-in_ok-write_unsent-in_default
returns-in_ok-write_unsent-in_default c =
    let (stays, fault) = refused-so c.args.path.now c.send.new.self c.args.end c.args.body.now c.in-Err.refused c.in_default.not-Memory c.in-Err.ensures.does in
    record {
      stops = tt;
      whole = stays.happens.whole;
      turn = λ s w stands.
          unsent_turn c.args.path.now c.send.new.self c.args.end c.args.body.now s w stands c.in-Err.refused stays
          (string_bytes c.args.text.now) (string_bytes c.write_unsent.new.text) fault
          (λ which is. c.in_ok-write_unsent-in_default.ensures which is);
    }
