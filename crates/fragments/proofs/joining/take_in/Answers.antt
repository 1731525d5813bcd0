-- A fragment that brings nothing new is a repeat.
use Rattle.std.proofs.Common.{◌≡◌, ◌∙◌, ◌++◌, length, take, drop, sym, arith}
use Rattle.std.proofs.Math.Seq.{take-append_seam}
use Rattle.fragments.proofs.KnownLemmas.{takes-known}
use Rattle.fragments.proofs.joining.take_in.Goals as goal

pub returns-else-brings_new-clause-taken : goal.returns-else-brings_new-clause-taken
returns-else-brings_new-clause-taken c =
    let new = c.put_last.new.joins in
    let rest = drop (length new) c.args.joins.now.items in
    let size : c.args.joins.now.len ≡ length new = omega (arith, c.put_last.ensures.size, c.as_mut_slice.ensures.len) in
    let same : take c.args.joins.now.len (new ++ rest) ≡ new = rw size (take-append_seam new rest) in
    takes-known c.args.joins.now.items (take c.args.joins.now.len (new ++ rest)) c.args.full.now c.args.part c.requires.unfinished
    (sym (rw c.as_slice-2.ensures.value at c.if-brings_new.ensures))
    (λ d. same ∙ rw (c.as_mut_slice.ensures.value, c.index_of-at.ensures, c.as_slice.ensures.value) at (c.put_last.ensures.last d))
