use Rattle.std.proofs.Common.{◌≡◌, true, false, rules}
use Rattle.bundle_runs.proofs.ShowLemmas.{told-more, told-over, told-less}
use Rattle.bundle_runs.proofs.show_reader.Showing.tell.Goals as goal

pub returns-then-not-is_over-clause-told : goal.returns-then-not-is_over-clause-told
returns-then-not-is_over-clause-told c = λ due owes.
    let on : c.is_over.result ≡ false = search rules in
    told-more c.args.self.now.octets.items c.deref.result.now c.deref.ensures.value c.in-Some.telling c.tell.new.self due _ _ (rw c.in-Some.is at owes)
    c.in_ok-tell.ensures (c.is_over.ensures.some _ on)

pub returns-then-not-is_over-clause-leaves : goal.returns-then-not-is_over-clause-leaves
returns-then-not-is_over-clause-leaves c =
    let on : c.is_over.result ≡ false = search rules in
    let (due, owes, some) = c.requires in (
      rw c.in-Some.is (told-less c.args.self.now.octets.items c.deref.result.now c.deref.ensures.value c.in-Some.telling c.tell.new.self due _ _ (rw c.in-Some.is at owes)
          c.in_ok-tell.ensures),
      c.is_over.ensures.some _ on,
    )

pub returns-clause-told : goal.returns-clause-told
returns-clause-told c = λ due owes.
    let over : c.is_over.result ≡ true = search rules in
    told-over c.args.self.now.octets.items c.deref.result.now c.deref.ensures.value c.in-Some.telling c.tell.new.self due _ _ (rw c.in-Some.is at owes)
    c.in_ok-tell.ensures (λ text rest left. c.is_over.ensures.over text rest left over) _ _ c.in_ok-push_str.ensures.bytes c.clear.ensures.items
