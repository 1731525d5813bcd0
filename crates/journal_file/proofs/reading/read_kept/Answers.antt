-- Each clause follows from what reading gives.
use Rattle.std.proofs.Common.{arith}
use Rattle.std.proofs.lemmas.Result.{IfOk-weaker}
use Rattle.journal_file.specs.File.{Reads}
use Rattle.journal_file.specs.Anew.{IsSound}
use Rattle.journal_file.specs.Legal.{IsLegal}
use Rattle.journal_file.specs.Ties.{refusal, kept_of}
use Rattle.journal_file.proofs.FileLemmas.{clause-found, clause-only, clause-refused, clause-refuses}
use Rattle.journal_file.proofs.SoundLemmas.{reads-legal, reads-sound}
use Rattle.journal_file.proofs.reading.read_kept.Goals as goal

pub returns-clause-found : goal.returns-clause-found
returns-clause-found c = clause-found kept_of refusal c.args.file.now c.read_all.result (λ i. omega (arith, c.type_inv.file i)) c.read_all.ensures.exact

pub returns-clause-only : goal.returns-clause-only
returns-clause-only c = clause-only kept_of refusal c.args.file.now c.read_all.result c.read_all.ensures.exact

pub returns-clause-refused : goal.returns-clause-refused
returns-clause-refused c = clause-refused kept_of refusal c.args.file.now c.read_all.result (λ i. omega (arith, c.type_inv.file i)) c.read_all.ensures.exact

pub returns-clause-refuses : goal.returns-clause-refuses
returns-clause-refuses c = clause-refuses kept_of refusal c.args.file.now c.read_all.result (λ i. omega (arith, c.type_inv.file i)) c.read_all.ensures.exact

pub returns-clause-legal : goal.returns-clause-legal
returns-clause-legal c =
    IfOk-weaker c.read_all.result (λ kept. Reads c.args.file.now (kept_of kept)) (λ kept. IsLegal (kept_of kept)) (λ kept reads. reads-legal c.args.file.now (kept_of kept) reads)
    (clause-found kept_of refusal c.args.file.now c.read_all.result (λ i. omega (arith, c.type_inv.file i)) c.read_all.ensures.exact)

pub returns-clause-sound : goal.returns-clause-sound
returns-clause-sound c =
    IfOk-weaker c.read_all.result (λ kept. Reads c.args.file.now (kept_of kept)) (λ kept. IsSound (kept_of kept)) (λ kept reads. reads-sound c.args.file.now (kept_of kept) reads)
    (clause-found kept_of refusal c.args.file.now c.read_all.result (λ i. omega (arith, c.type_inv.file i)) c.read_all.ensures.exact)
