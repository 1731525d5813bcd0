use Rattle.std.proofs.Common.{List, map, ap, sym, subst, ◌∙◌, ℕ}
use Rattle.std.specs.List.Sorted.{IsNonDecreasing}
use Rattle.journal_file.specs.Ties.{kept_of}
use Rattle.peer_records.specs.Said.{said_by, pending_without}
use Rattle.peer_records.proofs.OrderLemmas.{octets-left}
use Rattle.peer_records.proofs.EndedLemmas.{ended-said}
use Rattle.peer_records.proofs.said.Said.end_all.Goals as goal

pub octets_left-self-inside-requires : goal.octets_left-self-inside-requires
octets_left-self-inside-requires c =
    octets-left c.as_slice.result.now c.self.inside.kept.pending.items c.as_slice-2.result.now c.self.inside.octets c.self.invariant
    (c.as_slice-2.ensures.value ∙ c.drop_ended.ensures (subst (λ (ids : List ℕ). IsNonDecreasing ids) (sym c.as_slice.ensures.value) c.in_ok-ids.ensures.sorted))

pub returns-clause-ok : goal.returns-clause-ok
returns-clause-ok c =
    ended-said (kept_of c.self.inside.kept) c.args.ended.now c.in_ok-ids.ids.items c.drop_ended.new.pending.items (map said_by c.self.inside.records.items) (map said_by c.say_ended.new.records.items)
    c.args.self.now c.self.view_is c.requires c.in_ok-ids.ensures.same
    (c.drop_ended.ensures (subst (λ (ids : List ℕ). IsNonDecreasing ids) (sym c.as_slice.ensures.value) c.in_ok-ids.ensures.sorted)
    ∙ ap (λ (ids : List ℕ). pending_without ids c.self.inside.kept.pending.items) c.as_slice.ensures.value)
    c.in_ok-say_ended.ensures
