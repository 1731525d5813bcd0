-- Each way out of the loop, by the step of a list of groups that it is.
use Rattle.std.proofs.Common.{arith, List, ◌∷◌, []}
use Rattle.std.proofs.lemmas.List.{map-append}
use Rattle.wire_fields.specs.Reading.{read}
use Rattle.wire_fields.specs.Words.{listed}
use Rattle.wire_fields.proofs.FrontLemmas.{gives-fault}
use Rattle.wire_fields.proofs.GroupLemmas.{listed-step, listed-fails}
use Rattle.endpoint.specs.declared.name.Endpoint.{Endpoint}
use Rattle.endpoint.specs.Places.{endpoint_at, endpoints_at}
use Rattle.bundle6.specs.Cause.{refusal}
use Rattle.bundle6.specs.Table.{name}
use Rattle.bundle6.proofs.block.places_at.Goals as goal

pub returns-in_err-place-clause-exact : goal.returns-in_err-place-clause-exact
returns-in_err-place-clause-exact c =
    let dictionary = c.args.dictionary.now in
    let names = λ (earlier : List Endpoint). name dictionary in
    let all = read (listed c.args.count names) c.args.text.now c.args.at in
    gives-fault (λ places. endpoints_at dictionary places) refusal c.from_residual-in_err-place.result
    c.in_err-place.field-0.0 all c.from_residual-in_err-place.ensures.1
    (listed-fails names c.args.text.now c.args.count c.references.counter (endpoints_at dictionary c.references.places)
    c.references.after (refusal c.in_err-place.field-0.0) all c.references-test.true c.in_err-place.ensures.exact
    c.references.invariant.rest)

pub references-preserved : goal.references-preserved
references-preserved c =
    let dictionary = c.args.dictionary.now in
    let names = λ (earlier : List Endpoint). name dictionary in
    let all = read (listed c.args.count names) c.args.text.now c.args.at in
    record {
      place = record {
        behind = omega (arith, c.references.invariant.place.behind, c.in_ok-place.ensures.within.behind);
        within = c.in_ok-place.ensures.within.within;
      };
      rest = rw (c.in_ok-push.ensures.ok, map-append (endpoint_at dictionary) c.references.places (c.in_ok-place.place ∷ []))
          (listed-step names c.args.text.now c.args.count c.references.counter (endpoints_at dictionary c.references.places)
          (endpoint_at dictionary c.in_ok-place.place)
          c.references.after c.in_ok-place.next all c.references-test.true c.in_ok-place.ensures.exact
          c.references.invariant.rest);
    }
