-- Pieces that end, one after the other, and their ids.
use Rattle.std.proofs.Common.{◌≡◌, ℕ, ◌+◌, ◌<◌, ◌≤◌, List, [], ◌∷◌, ◌++◌, length, map, drop, get_or, refl, sym, ap, ◌∙◌, append_assoc}
use Rattle.std.proofs.lemmas.List.{append-nil, at_drop_more, drop_all}
use Rattle.gate_events.specs.Own.{OpenAt}
use Rattle.journal_file.specs.Values.{RecordValue}
use Rattle.peer_gateway.specs.declared.told.RemarkAt.{RemarkAt}
use Rattle.peer_gateway.specs.Answers.{told_seen}
use Rattle.peer_gateway.specs.Gate.{FaceTold}
use Rattle.gate_records.specs.declared.named.Named.{Named}
use Rattle.peer_records.specs.declared.ending.Ended.{Ended}
use Rattle.peer_records.specs.Happened.{notes_in}
use Rattle.peer_records.specs.Records.{Going, end_done, end_leaves, done_records, named_left}
use Rattle.peer_records.specs.Said.{done_of}
use Rattle.peer_records.specs.Ties.{with_named}
use Rattle.peer_records.specs.Told.{ends_told}
use Rattle.peer_records.proofs.ToldLemmas.{done-more, left-more}

-- ---- the walk through what is told

-- so far these ended and these sessions are left; with what is told after it they are all
pub record SoFar (o : OpenAt) (ts : List RemarkAt) (ended : List Ended) (held : Going) (initial : Going) (whole : List RemarkAt) : Type 0 where
  pub done : map done_of ended ++ done_records o (notes_in (map told_seen ts)) held.named ≡ done_records o (notes_in (map told_seen whole)) initial.named
  pub left : named_left o (notes_in (map told_seen ts)) held.named ≡ named_left o (notes_in (map told_seen whole)) initial.named
  pub waiting : held.waiting ≡ initial.waiting

pub so-far-step : (o : OpenAt) (whole : List RemarkAt) (i : ℕ) (t : RemarkAt) (ended now : List Ended) (held after initial : Going) → i < length whole → t ≡ get_or whole i t
    → map done_of now ≡ map done_of ended ++ end_done o t.face (ends_told (told_seen t).told) held.named
    → after ≡ with_named held (end_leaves o t.face (ends_told (told_seen t).told) held.named)
    → SoFar o (drop i whole) ended held initial whole → SoFar o (drop (i + 1) whole) now after initial whole
so-far-step o whole i t ended now held after initial low at says leaves so_far =
    let more : List FaceTold = map told_seen (drop (i + 1) whole) in
    let mid = end_leaves o t.face (ends_told (told_seen t).told) held.named in
    let named : after.named ≡ mid = ap (λ (g : Going). g.named) leaves in
    let first = end_done o t.face (ends_told (told_seen t).told) held.named in
    let done_here : done_records o (notes_in (map told_seen (drop i whole))) held.named ≡ first ++ done_records o (notes_in more) mid =
    at_drop_more (λ (xs : List RemarkAt). done_records o (notes_in (map told_seen xs)) held.named) whole i t low
    ∙ ap (λ (x : RemarkAt). done_records o (notes_in (map told_seen (x ∷ drop (i + 1) whole))) held.named) (sym at)
    ∙ done-more o (told_seen t) more held.named in
    let left_here : named_left o (notes_in (map told_seen (drop i whole))) held.named ≡ named_left o (notes_in more) mid =
    at_drop_more (λ (xs : List RemarkAt). named_left o (notes_in (map told_seen xs)) held.named) whole i t low
    ∙ ap (λ (x : RemarkAt). named_left o (notes_in (map told_seen (x ∷ drop (i + 1) whole))) held.named) (sym at)
    ∙ left-more o (told_seen t) more held.named in record {
      done =
          ap (λ (n : List Named). map done_of now ++ done_records o (notes_in more) n) named
          ∙ ap (λ (rs : List RecordValue). rs ++ done_records o (notes_in more) mid) says
          ∙ append_assoc (map done_of ended) first (done_records o (notes_in more) mid)
          ∙ ap (λ (rs : List RecordValue). map done_of ended ++ rs) (sym done_here)
          ∙ so_far.done;
      left = ap (λ (n : List Named). named_left o (notes_in more) n) named ∙ sym left_here ∙ so_far.left;
      waiting = ap (λ (g : Going). g.waiting) leaves ∙ so_far.waiting;
    }

pub so-far-start : (o : OpenAt) (whole : List RemarkAt) (ended : List Ended) (held : Going) → ended ≡ [] → SoFar o whole ended held held whole
so-far-start o whole ended held none = record { done = rw none refl; left = refl; waiting = refl }

pub so-far-ended : (o : OpenAt) (whole : List RemarkAt) (i : ℕ) (ended : List Ended) (held initial : Going) → length whole ≤ i → SoFar o (drop i whole) ended held initial whole
    → map done_of ended ≡ done_records o (notes_in (map told_seen whole)) initial.named
unfolding done_records
so-far-ended o whole i ended held initial high so_far =
    sym (append-nil (map done_of ended))
    ∙ ap (λ (xs : List RemarkAt). map done_of ended ++ done_records o (notes_in (map told_seen xs)) held.named) (sym (drop_all i whole high))
    ∙ so_far.done

same-going : (g h : Going) (left : List Named) → g.waiting ≡ h.waiting → g.named ≡ left → g ≡ with_named h left
same-going g h left waiting named = rw (sym waiting, sym named) refl

pub so-far-left : (o : OpenAt) (whole : List RemarkAt) (i : ℕ) (ended : List Ended) (held initial : Going) → length whole ≤ i → SoFar o (drop i whole) ended held initial whole
    → held ≡ with_named initial (named_left o (notes_in (map told_seen whole)) initial.named)
unfolding named_left
so-far-left o whole i ended held initial high so_far =
    same-going held initial (named_left o (notes_in (map told_seen whole)) initial.named) so_far.waiting
    (ap (λ (xs : List RemarkAt). named_left o (notes_in (map told_seen xs)) held.named) (sym (drop_all i whole high)) ∙ so_far.left)
