use Rattle.make_run.specs.Making.{answer_of}
use Rattle.make_run.proofs.AnswerLemmas.{ran-limit, ran-memory}
use Rattle.make_run.proofs.run.make.Goals as goal

pub returns-in-Ok : goal.returns-in-Ok
returns-in-Ok g c = record {
  ran = rw (c.in-Ok.ensures, ← c.as_bytes.ensures.value) c.write_made.ensures.ran;
  memory = λ is. absurd (c.write_made.ensures.memory is);
}

pub returns-in-Err-Limit : goal.returns-in-Err-Limit
returns-in-Err-Limit g c =
    let limit = rw c.in-Err-Limit.field-0-is at c.in-Err-Limit.ensures in
    record {
      ran = ran-limit (answer_of c.args.seed c.args.count) _ limit;
      memory = λ is. absurd (cc);
    }

pub returns-in-Err-Memory : goal.returns-in-Err-Memory
returns-in-Err-Memory g c =
    let out = rw c.in-Err-Memory.field-0-is at c.in-Err-Memory.ensures in
    record {
      ran = ran-memory (answer_of c.args.seed c.args.count) _;
      memory = λ is. out;
    }
