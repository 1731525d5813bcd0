-- What is left to read gives what all of it gives.
use Rattle.std.proofs.Common.{◌≡◌, ◌-◌}
use Rattle.wire_fields.specs.Reading.{read}
use Rattle.wire_fields.specs.Words.{repeated, one_more, listed}
use Rattle.wire_fields.specs.Gives.{IsOn}
use Rattle.bundle_meaning.proofs.NamesLemmas.{a_name}
use Rattle.bundle_meaning.proofs.wrap_new.Names.collect.Given as goal

abbrev pub invariant-copying : goal.invariant-copying
invariant-copying l = record {
  place : IsOn l.self.at l.self.text.now l.behind;
  rest : read (repeated (l.self.count - l.counter) (one_more a_name) l.refs) l.self.text.now l.behind
      ≡ read (listed l.self.count a_name) l.self.text.now l.self.at;
}
