-- What is kept after pieces ended, where their ids are in another order.
use Rattle.std.proofs.Common.{◌≡◌, ℕ, not, List, ◌++◌, map, sym, ap, ◌∙◌, subst, Bool}
use Rattle.std.proofs.lemmas.List.Elements.{filter_agree}
use Rattle.std.specs.List.Sorted.{IsPermutation}
use Rattle.journal_file.specs.declared.kept.Pending.{Pending}
use Rattle.journal_file.specs.Values.{KeptValue, RecordValue}
use Rattle.journal_file.specs.Keeping.{with_pending}
use Rattle.peer_records.specs.declared.ending.Ended.{Ended}
use Rattle.peer_records.specs.Said.{SaidValue, said_with, done_of, ids_ended, is_among, pending_without, IsOrdered}
use Rattle.peer_records.proofs.OrderLemmas.{ends-kept}
use Rattle.peer_records.proofs.FindLemmas.{among-moved}

without-moved : (ids sorted : List ℕ) (ps : List Pending) → IsPermutation ids sorted → pending_without sorted ps ≡ pending_without ids ps
without-moved ids sorted ps moved =
    filter_agree (λ (p : Pending). not (is_among sorted p.id)) (λ (p : Pending). not (is_among ids p.id)) (λ p. ap (λ (b : Bool). not b) (among-moved p.id ids sorted moved)) ps

abbrev said_of : KeptValue → List RecordValue → SaidValue
said_of kept records = record { kept = kept; records = records }

ended-on : (kept : KeptValue) (es : List Ended) (sorted : List ℕ) (left : List Pending) (rs now : List RecordValue) → IsOrdered kept → IsPermutation (ids_ended es) sorted
    → left ≡ pending_without sorted kept.pending → now ≡ rs ++ map done_of es
    → said_of (with_pending kept left kept.greatest) now ≡ said_with (map done_of es) (said_of kept rs)
ended-on kept es sorted left rs now ordered moved is says =
    ap (λ (ps : List Pending). said_of (with_pending kept ps kept.greatest) now) (is ∙ without-moved (ids_ended es) sorted kept.pending moved)
    ∙ ap (λ (k : KeptValue). said_of k now) (sym (ends-kept kept es ordered.rising))
    ∙ ap (λ (l : List RecordValue). record { kept = (said_with (map done_of es) (said_of kept rs)).kept; records = l }) says

pub ended-said : (kept : KeptValue) (es : List Ended) (sorted : List ℕ) (left : List Pending) (rs now : List RecordValue) (s : SaidValue) → said_of kept rs ≡ s → IsOrdered s.kept → IsPermutation (ids_ended es) sorted
    → left ≡ pending_without sorted kept.pending → now ≡ rs ++ map done_of es
    → said_of (with_pending kept left kept.greatest) now ≡ said_with (map done_of es) s
ended-said kept es sorted left rs now s view ordered moved is says =
    ended-on kept es sorted left rs now (subst (λ (t : SaidValue). IsOrdered t.kept) (sym view) ordered) moved is says ∙ ap (λ (t : SaidValue). said_with (map done_of es) t) view
