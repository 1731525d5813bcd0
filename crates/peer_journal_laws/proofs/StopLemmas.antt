-- At each datagram that goes out the journal has all that a run has to keep.

use Rattle.std.proofs.Common.{◌≡◌, ℕ, ◌≤◌, true, List, [], ◌∷◌, ◌++◌, Option, None, Some, ◌⊎◌, inl, inr, refl, ap, sym, subst, unwrap_or}
use Rattle.std.specs.Prelude.{IsSomeAnd}
use Rattle.gate_cases.specs.declared.face.Face.{Face}
use Rattle.gate_cases.specs.declared.face.Face.TheVariants as faces
use Rattle.journal_file.specs.declared.kept.Mark.{Mark}
use Rattle.journal_file.specs.declared.kept.Pending.{Pending}
use Rattle.journal_file.specs.Values.{KeptValue}
use Rattle.journal_file.specs.Anew.{but_greatest}
use Rattle.gateway_core.specs.declared.effects.Routed.{Routed}
use Rattle.gateway_core.specs.Gate.{at_face}
use Rattle.gate_records.specs.Laws.{MarkStays}
use Rattle.peer_records.specs.Laws.{NumbersAreReserved, OnlyOverIsCleared, PiecesArePending, ReportIsMarked}
use Rattle.gate_records.specs.Records.{is_marked}
use Rattle.peer_records.specs.Records.{pending_with}
use Rattle.peer_half.specs.Journals.{Journalled, anew_in, kept_in, starts_journal}
use Rattle.peer_half.specs.Parts as parts
use Rattle.peer_half.specs.Acts.{Act, sent, lost, said, shown, committed, installed}
use Rattle.peer_half.specs.Half.{Came, hears}
use Rattle.peer_half.specs.Runs.{Run, acts_of, begins_at, stands_at}
use Rattle.peer_journal_laws.specs.Keeps.{SayAtDatagrams, SaySame, kept_by, kept_from, kept_with, known_after}
use Rattle.peer_journal_laws.specs.Marks.{IsMarkKept}
use Rattle.peer_journal_laws.specs.Pieces.{IsAmong, IsEnded}
use Rattle.peer_journal_laws.specs.Steps.{JournalStep, steps_of}
use Rattle.peer_journal_laws.specs.Stops.{HasAll, HasAllAtDatagrams, goes_out}
use Rattle.peer_journal_laws.proofs.JournalLemmas.{journal-begins}
use Rattle.peer_journal_laws.proofs.KeepsLemmas.{keeps-before-it-sends}
use Rattle.peer_journal_laws.proofs.MarkLemmas.{marks-are-kept}
use Rattle.peer_journal_laws.proofs.NumberLemmas.{numbers-are-kept}
use Rattle.peer_journal_laws.proofs.PieceLemmas.{earlier-are-kept, pieces-are-kept}
use Rattle.peer_journal_laws.proofs.StepLemmas.{Over, over-run}

-- ---- at one datagram

at-datagram : (known before : Option KeptValue) (xs : List Act) (act : Act) (ys : List Act) → SayAtDatagrams known before (xs ++ act ∷ ys) → goes_out act ≡ true
    → SaySame (kept_from before xs) known
at-datagram known before [] (sent face datagram) ys say out = say.0
at-datagram known before [] (lost face datagram) ys say out = say.0
at-datagram known before [] (said line) ys say out = absurd (cc)
at-datagram known before [] (shown text) ys say out = absurd (cc)
at-datagram known before [] (committed records) ys say out = absurd (cc)
at-datagram known before [] (installed kept) ys say out = absurd (cc)
at-datagram known before (sent face datagram ∷ xs) act ys say out = at-datagram known before xs act ys say.1 out
at-datagram known before (lost face datagram ∷ xs) act ys say out = at-datagram known before xs act ys say.1 out
at-datagram known before (said line ∷ xs) act ys say out = at-datagram known before xs act ys say out
at-datagram known before (shown text ∷ xs) act ys say out = at-datagram known before xs act ys say out
at-datagram known before (committed records ∷ xs) act ys say out = at-datagram known (kept_with before (committed records)) xs act ys say out
at-datagram known before (installed kept ∷ xs) act ys say out = at-datagram known (kept_with before (installed kept)) xs act ys say out

-- ---- a run with a journal has one to the end

still-kept : (from to : Option Journalled) (steps : List JournalStep) (j : Journalled) → Over from steps to → from ≡ Some j → (kept : KeptValue) × (kept_in to ≡ Some kept)
still-kept None to steps j over is = absurd (cc)
still-kept (Some i) None steps j over is = absurd over
still-kept (Some i) (Some k) steps j over is = (((k.recorded).keeping).kept, refl)

begins-kept : (r : Run) (first : KeptValue) → r.kept ≡ Some first → (j : Journalled) × ((begins_at r).journal ≡ Some j)
begins-kept r first is = by r.kept is (journal-begins r)
  where
    by : (kept : Option KeptValue) → kept ≡ Some first → (begins_at r).journal ≡ anew_in (starts_journal r.file r.wall kept) → (j : Journalled) × ((begins_at r).journal ≡ Some j)
    by None is begins = absurd (cc)
    by (Some kept) is begins = (_, begins)

-- ---- what is said is the same, but for the greatest id

mark-same : (face : Face) (session : ℕ) (out after : List Routed) (step : JournalStep) (later : List JournalStep) (known told : KeptValue) → known.marks ≡ told.marks
    → IsMarkKept face session out after step later known → IsMarkKept face session out after step later told
mark-same face session out after step later known told same (inl there) = inl (subst (λ (ms : List Mark). is_marked face session ms ≡ true) same there)
mark-same face session out after step later known told same (inr rest) = inr rest

has-same : (r : Run) (face : Face) (came : Came) (known told : KeptValue) → but_greatest told ≡ but_greatest known → HasAll r face came known → HasAll r face came told
has-same r face came known told same has = record {
  pieces = λ earlier step later steps_are new before a after added piece.
      let so = has.pieces earlier step later steps_are new before a after added piece in
      record { piece = so.piece; stays = subst (λ (ps : List Pending). IsAmong (pending_with (so.piece).id a) ps ⊎ IsEnded (so.piece).id later) pending so.stays };
  earlier = λ p there. subst (λ (ps : List Pending). IsAmong p ps ⊎ IsEnded p.id (steps_of face came r)) pending (has.earlier p there);
  marks = λ earlier step later steps_are before routed after out session reports not_up.
      mark-same routed.face session (before ++ routed ∷ []) after step later known told marks (has.marks earlier step later steps_are before routed after out session reports not_up);
  numbers = λ few at. by at (has.numbers few at);
}
  where
    pending : known.pending ≡ told.pending
    pending = sym (ap (λ (k : KeptValue). k.pending) same)

    marks : known.marks ≡ told.marks
    marks = sym (ap (λ (k : KeptValue). k.marks) same)

    by : (at : Face) → parts.next_at at (hears face came (stands_at r)) ≤ at_face (known.old_reserved, known.new_reserved) at
        → parts.next_at at (hears face came (stands_at r)) ≤ at_face (told.old_reserved, told.new_reserved) at
    by faces.Old le = subst (λ (n : ℕ). parts.next_at faces.Old (hears face came (stands_at r)) ≤ n) (sym (ap (λ (k : KeptValue). k.old_reserved) same)) le
    by faces.New le = subst (λ (n : ℕ). parts.next_at faces.New (hears face came (stands_at r)) ≤ n) (sym (ap (λ (k : KeptValue). k.new_reserved) same)) le

say-has : (r : Run) (face : Face) (came : Came) (known : KeptValue) (told : Option KeptValue) → SaySame told (Some known) → HasAll r face came known → IsSomeAnd told (HasAll r face came)
say-has r face came known None same has = absurd (cc)
say-has r face came known (Some told) same has =
    has-same r face came known told (ap (λ (o : Option KeptValue). unwrap_or o (but_greatest told)) same) has

pub has-all-at-datagrams : PiecesArePending → ReportIsMarked → MarkStays → OnlyOverIsCleared → NumbersAreReserved → HasAllAtDatagrams
has-all-at-datagrams pieces_law marks_law stays_law over_law numbers_law r face came first is before act after acts_are out =
    let (j, begins) = begins-kept r first is in
    let (known, known_is) = still-kept (begins_at r).journal (parts.reserves (hears face came (stands_at r))).journal (steps_of face came r) j (over-run r face came) begins in
    let has : HasAll r face came known = record {
      pieces = pieces-are-kept pieces_law r face came known known_is;
      earlier = earlier-are-kept r face came known known_is;
      marks = marks-are-kept marks_law stays_law over_law r face came known known_is;
      numbers = numbers-are-kept numbers_law r face came known known_is;
    } in
    let told = kept_from (kept_by (acts_of r)) before in
    let same : SaySame told (known_after face came r) = at-datagram (known_after face came r) (kept_by (acts_of r)) before act after
    (subst (λ acts. SayAtDatagrams (known_after face came r) (kept_by (acts_of r)) acts) acts_are (keeps-before-it-sends r face came)) out in
    say-has r face came known told (subst (SaySame told) known_is same) has
