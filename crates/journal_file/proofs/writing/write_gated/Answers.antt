use Rattle.std.proofs.Common.{ℕ, List, [], ◌∷◌, ◌++◌, sym, ap, ◌∙◌, append_assoc}
use Rattle.std.specs.List.{flat_map}
use Rattle.journal_file.specs.Ties.{entry_of}
use Rattle.journal_file.proofs.WritingLemmas.{gated-entries}
use Rattle.journal_file.proofs.writing.write_gated.Goals as goal

pub returns : goal.returns
returns c = record {
  ok = c.in_ok-push.ensures.items ∙ ap (λ (w : List ℕ). w ++ 0 ∷ []) c.in_ok-write_entries.ensures.ok
      ∙ append_assoc c.args.out.now.items (flat_map entry_of c.args.records.now) (0 ∷ [])
      ∙ ap (λ (w : List ℕ). c.args.out.now.items ++ w) (sym (gated-entries c.args.records.now));
}
