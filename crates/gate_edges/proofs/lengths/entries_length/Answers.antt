use Rattle.std.proofs.Common.{◌++◌, ℕ, List, length, map, ap, ◌∙◌, arith}
use Rattle.journal_file.specs.Spelling.{behind_gate}
use Rattle.journal_file.specs.Ties.{record_of}
use Rattle.journal_file.proofs.LengthLemmas.{behind-length}
use Rattle.gate_edges.proofs.lengths.entries_length.Goals as goal

pub returns : goal.returns
returns c =
    let rs = map record_of c.args.records.now in
    let wrote = c.in_ok-write_behind_gate.ensures.ok ∙ ap (λ (w : List ℕ). w ++ behind_gate rs) c.new-octets.ensures.items in
    omega (arith, c.len.ensures, ap length wrote, behind-length rs)
