use Rattle.std.proofs.Common.{◌++◌, ℕ, List, length, ap, ◌∙◌, arith}
use Rattle.journal_file.specs.Anew.{file_of}
use Rattle.journal_file.specs.Ties.{kept_of}
use Rattle.journal_file.proofs.LengthLemmas.{file-length}
use Rattle.gate_edges.proofs.lengths.gate_of.Goals as goal

pub returns : goal.returns
returns c =
    let kept = kept_of c.args.kept.now in
    let wrote = c.in_ok-write_file.ensures.ok ∙ ap (λ (w : List ℕ). w ++ file_of kept) c.new-octets.ensures.items in
    omega (arith, c.len.ensures, ap length wrote, file-length kept)
