-- One endpoint more, or none.
use Rattle.std.proofs.Common.{arith, ◌∙◌}
use Rattle.wire_fields.specs.Reading.{read}
use Rattle.wire_fields.specs.Words.{listed}
use Rattle.wire_fields.proofs.GroupLemmas.{listed-step}
use Rattle.bundle_meaning.proofs.NamesLemmas.{a_name, names-end, name_of-read}
use Rattle.bundle_meaning.proofs.wrap_new.Names.collect.Goals as goal

pub copying-preserved : goal.copying-preserved
copying-preserved c =
    let text = c.args.self.text.now in
    let all = read (listed c.args.self.count a_name) text c.args.self.at in
    let same = name_of-read c.in-Ok.text.now c.in-Ok-from_text.endpoint c.in-Ok-from_text.ensures.exact in
    record {
      place = record {
        behind = omega (arith, c.copying.invariant.place.behind, c.in-Ok.ensures.within.behind);
        within = c.in-Ok.ensures.within.within;
      };
      rest = rw (c.in_ok-push.ensures.ok, c.lent.ensures)
          (listed-step a_name text c.args.self.count c.copying.counter c.copying.refs c.in-Ok-from_text.endpoint
          c.copying.behind c.in-Ok.after all c.copying-test.true (rw same at c.in-Ok.ensures.exact) c.copying.invariant.rest);
    }

pub returns-clause-found : goal.returns-clause-found
returns-clause-found c =
    c.in_ok-into_refs.ensures
    ∙ names-end c.args.self c.copying.refs c.copying.counter c.copying.behind (omega arith) c.copying.invariant.rest
