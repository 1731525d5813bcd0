use Rattle.std.proofs.Common.{List, ℕ, [], ◌∷◌, ◌++◌, sym, ap, ◌∙◌}
use Rattle.std.specs.List.{flat_map}
use Rattle.journal_file.specs.Ties.{kept_of, begun_entry, mark_entry, head_octets}
use Rattle.journal_file.proofs.AnewLemmas.{appended, file-parts}
use Rattle.journal_file.proofs.whole.write_file.Goals as goal

pub returns : goal.returns
returns c =
    let old = c.args.out.now.items in
    let begun = flat_map begun_entry c.args.kept.now.pending.items in
    let marks = flat_map mark_entry c.args.kept.now.marks.items in record {
      ok = c.in_ok-push.ensures.items
          ∙ ap (λ (w : List ℕ). w ++ 0 ∷ []) (rw c.as_slice-2.ensures.value at c.in_ok-write_marks.ensures.ok)
          ∙ ap (λ (w : List ℕ). (w ++ marks) ++ 0 ∷ []) (rw c.as_slice.ensures.value at c.in_ok-write_pending.ensures.ok)
          ∙ ap (λ (w : List ℕ). ((w ++ begun) ++ marks) ++ 0 ∷ []) c.in_ok-write_head.ensures.ok
          ∙ appended old (head_octets (kept_of c.args.kept.now)) begun marks
          ∙ ap (λ (w : List ℕ). old ++ w) (sym (file-parts (kept_of c.args.kept.now)));
    }
