-- A record that begins no block is above each id.
use Rattle.std.proofs.Common.{ℕ}
use Rattle.std.proofs.lemmas.Result.{IfOk-weaker}
use Rattle.journal_file.specs.Ties.{record_of}
use Rattle.journal_file.specs.Rising.{IsAbove}
use Rattle.journal_file.proofs.reading.read_fields.Goals as goal

pub returns-in-2-clause-above : goal.returns-in-2-clause-above
returns-in-2-clause-above c =
    IfOk-weaker c.read_done.result (λ x. (n : ℕ) → IsAbove n (record_of x.0)) (λ x. IsAbove c.args.book.now.greatest (record_of x.0)) (λ x any. any c.args.book.now.greatest) c.read_done.ensures.above

pub returns-in-3-clause-above : goal.returns-in-3-clause-above
returns-in-3-clause-above c =
    IfOk-weaker c.read_mark.result (λ x. (n : ℕ) → IsAbove n (record_of x.0)) (λ x. IsAbove c.args.book.now.greatest (record_of x.0)) (λ x any. any c.args.book.now.greatest) c.read_mark.ensures.above

pub returns-in-4-clause-above : goal.returns-in-4-clause-above
returns-in-4-clause-above c =
    IfOk-weaker c.read_clear.result (λ x. (n : ℕ) → IsAbove n (record_of x.0)) (λ x. IsAbove c.args.book.now.greatest (record_of x.0)) (λ x any. any c.args.book.now.greatest) c.read_clear.ensures.above

pub returns-in-5-clause-above : goal.returns-in-5-clause-above
returns-in-5-clause-above c =
    IfOk-weaker c.read_reserved.result (λ x. (n : ℕ) → IsAbove n (record_of x.0)) (λ x. IsAbove c.args.book.now.greatest (record_of x.0)) (λ x any. any c.args.book.now.greatest) c.read_reserved.ensures.above
