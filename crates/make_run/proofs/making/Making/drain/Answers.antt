use Rattle.std.proofs.Common.{refl, inl, ◌∙◌}
use Rattle.path_drain.proofs.OneDrain.{drains-are-one}
use Rattle.path_world.specs.Drain.{ups_told}
use Rattle.world_run.specs.World.{drain_made}
use Rattle.world_run.specs.WrittenLines.{end_line}
use Rattle.world_run.specs.Shows.{steps_text}
use Rattle.make_run.specs.Making.{count_at_ends}
use Rattle.make_run.proofs.PlayLemmas.{takes-end}
use Rattle.make_run.proofs.DrainLemmas.{told-so, drain-past, drain-done, drain-late, drain-stops, drain-has, drain-out}
use Rattle.make_run.proofs.making.Making.drain.Goals as goal

pub returns-in_err-stay_within-in-Ok : goal.returns-in_err-stay_within-in-Ok
returns-in_err-stay_within-in-Ok c = λ s w stands.
    let told = told-so drains-are-one c.args.self.now.path c.drain.new.self s w stands c.in-Ok.ensures.does.setup c.in-Ok.field-0
    (c.in-Ok.ensures.does.run stands.start stands.events stands.run) in
    drain-stops s w (drain_made s w) c.args.self.now (record c.args.self.now { path = c.drain.new.self }) c.in_err-stay_within-in-Ok.field-0.0
    c.in_err-stay_within-in-Ok.ensures.past.0
    (drain-past c.args.self.now (record c.args.self.now { path = c.drain.new.self }) (record c.args.self.now { path = c.drain.new.self })
    s w (drain_made s w) c.in-Ok.field-0 told refl refl c.in_err-stay_within-in-Ok.ensures.past.1)
    c.from_residual.result c.from_residual.ensures.1

pub returns-in_ok-take_end-in-Ok : goal.returns-in_ok-take_end-in-Ok
returns-in_ok-take_end-in-Ok c = λ s w stands.
    let told = told-so drains-are-one c.args.self.now.path c.drain.new.self s w stands c.in-Ok.ensures.does.setup c.in-Ok.field-0
    (c.in-Ok.ensures.does.run stands.start stands.events stands.run) in
    drain-done c.args.self.now (record c.args.self.now { path = c.drain.new.self }) c.take_end.new.self
    s w (drain_made s w) c.in-Ok.field-0 told refl refl c.in_ok-stay_within-in-Ok.ensures.few
    (takes-end (record c.args.self.now { path = c.drain.new.self }) c.take_all.new.self c.take_end.new.self
    (steps_text c.in-Ok.field-0.effects) (end_line c.in-Ok.field-0.events) (count_at_ends (ups_told c.in-Ok.field-0.effects))
    c.in_ok-take_all-in-Ok.ensures.takes c.in_ok-take_end-in-Ok.ensures.takes)
    (c.take_end.ensures.path ∙ c.take_all.ensures.path)

pub returns-in-Err-TooLate : goal.returns-in-Err-TooLate
returns-in-Err-TooLate c =
    let late = rw c.in-Err-TooLate.field-0-is at c.in-Err-TooLate.ensures.does in
    λ s w stands.
    drain-late drains-are-one c.args.self.now.path c.drain.new.self s w stands late.setup
    (late.run stands.start stands.events stands.run)

pub returns-in_err-take_all-in-Ok : goal.returns-in_err-take_all-in-Ok
returns-in_err-take_all-in-Ok c = λ s w stands.
    let told = told-so drains-are-one c.args.self.now.path c.drain.new.self s w stands c.in-Ok.ensures.does.setup c.in-Ok.field-0
    (c.in-Ok.ensures.does.run stands.start stands.events stands.run) in
    drain-out s w (drain_made s w) c.args.self.now c.take_all.new.self
    (inl (drain-has c.args.self.now (record c.args.self.now { path = c.drain.new.self }) c.take_all.new.self
    s w (drain_made s w) c.in-Ok.field-0 told refl refl c.in_ok-stay_within-in-Ok.ensures.few))
    c.from_residual-in_err-take_all-in-Ok.result c.from_residual-in_err-take_all-in-Ok.ensures.1

pub returns-in_err-take_end-in-Ok : goal.returns-in_err-take_end-in-Ok
returns-in_err-take_end-in-Ok c = λ s w stands.
    let told = told-so drains-are-one c.args.self.now.path c.drain.new.self s w stands c.in-Ok.ensures.does.setup c.in-Ok.field-0
    (c.in-Ok.ensures.does.run stands.start stands.events stands.run) in
    drain-out s w (drain_made s w) c.args.self.now c.take_end.new.self
    (inl (drain-has c.args.self.now (record c.args.self.now { path = c.drain.new.self }) c.take_end.new.self
    s w (drain_made s w) c.in-Ok.field-0 told refl refl c.in_ok-stay_within-in-Ok.ensures.few))
    c.from_residual-in_err-take_end-in-Ok.result c.from_residual-in_err-take_end-in-Ok.ensures.1
