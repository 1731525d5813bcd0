-- What the code is told of a step, one after the other.
use Rattle.std.proofs.Common.{◌≡◌, ℕ, ◌+◌, ◌<◌, ◌≤◌, Bool, true, false, if◌then◌else◌, List, [], ◌∷◌, ◌++◌, length, map, take, drop, get_or, None, Some, refl, sym, ap, ◌∙◌}
use Rattle.std.proofs.lemmas.List.{at_drop_more, drop_all}
use Rattle.peer_gateway.specs.declared.told.Added.{Added}
use Rattle.peer_gateway.specs.declared.told.BlockBegun.{BlockBegun}
use Rattle.peer_gateway.specs.Answers.{added_seen, begun_seen}
use Rattle.peer_gateway.specs.Gate.{BegunAt}
use Rattle.gate_cases.specs.declared.face.Face.{Face}
use Rattle.gateway_core.specs.Gate.{at_face, with_face}
use Rattle.gate_records.specs.declared.named.Named.{Named}
use Rattle.peer_records.specs.declared.sending.Sending.{Sending}
use Rattle.peer_records.specs.Keeping.{Waiting, ids_in}
use Rattle.peer_records.specs.Records.{named_in, Going, waits_at, waiting_with, goes_with, all_go}
use Rattle.peer_records.specs.Ties.{named_all, with_waiting, id_with, greatest_with, added_all, begun_all}
use Rattle.peer_records.proofs.SessionLemmas.{named-push}

abbrev going : Waiting × Waiting → List Named → Going
going waiting named = record { waiting = waiting; named = named }

added-next : (a : Added) (more : List Added) (greatest : ℕ) (g : Going)
    → added_all (greatest_with greatest a.is_report) more (with_waiting g (waits_at a.face (id_with greatest a.is_report) g.waiting)) ≡ added_all greatest (a ∷ more) g
unfolding waiting_with
added-next a more greatest g = by a.is_report
  where
    by : (t : Bool) → added_all (greatest_with greatest t) more (with_waiting g (waits_at a.face (id_with greatest t) g.waiting))
        ≡ with_waiting g (if t then waiting_with greatest (map added_seen more) (waits_at a.face None g.waiting)
        else waiting_with (greatest + 1) (map added_seen more) (waits_at a.face (Some (greatest + 1)) g.waiting))
    by true = refl
    by false = refl

pub added-step : (xs : List Added) (i : ℕ) (a : Added) (last next : ℕ) (g now whole : Going) → i < length xs → a ≡ get_or xs i a
    → now ≡ with_waiting g (waits_at a.face (id_with last a.is_report) g.waiting) → next ≡ greatest_with last a.is_report
    → added_all last (drop i xs) g ≡ whole → added_all next (drop (i + 1) xs) now ≡ whole
added-step xs i a last next g now whole low at is given so_far =
    ap (λ (h : Going). added_all next (drop (i + 1) xs) h) is
    ∙ ap (λ (n : ℕ). added_all n (drop (i + 1) xs) (with_waiting g (waits_at a.face (id_with last a.is_report) g.waiting))) given
    ∙ added-next a (drop (i + 1) xs) last g
    ∙ ap (λ (b : Added). added_all last (b ∷ drop (i + 1) xs) g) at
    ∙ sym (at_drop_more (λ (l : List Added). added_all last l g) xs i a low) ∙ so_far

pub added-end : (xs : List Added) (i last : ℕ) (g whole : Going) → length xs ≤ i → added_all last (drop i xs) g ≡ whole → g ≡ whole
unfolding waiting_with
added-end xs i last g whole high so_far = sym (ap (λ (l : List Added). added_all last l g) (drop_all i xs high)) ∙ so_far

pub begun-step : (xs : List BlockBegun) (i : ℕ) (b : BlockBegun) (g now whole : Going) → i < length xs → b ≡ get_or xs i b
    → now ≡ goes_with (begun_seen b) g → begun_all (drop i xs) g ≡ whole → begun_all (drop (i + 1) xs) now ≡ whole
unfolding all_go
begun-step xs i b g now whole low at is so_far =
    ap (λ (h : Going). begun_all (drop (i + 1) xs) h) is
    ∙ ap (λ (c : BlockBegun). begun_all (c ∷ drop (i + 1) xs) g) at
    ∙ sym (at_drop_more (λ (l : List BlockBegun). begun_all l g) xs i b low) ∙ so_far

pub begun-end : (xs : List BlockBegun) (i : ℕ) (g whole : Going) → length xs ≤ i → begun_all (drop i xs) g ≡ whole → g ≡ whole
unfolding all_go
begun-end xs i g whole high so_far = sym (ap (λ (l : List BlockBegun). begun_all l g) (drop_all i xs high)) ∙ so_far

-- ---- a block begins

same-going : (w v : Waiting × Waiting) (xs ys : List Named) (now : Going) → w ≡ v → xs ≡ ys → now ≡ record { waiting = v; named = ys } → going w xs ≡ now
same-going w v xs ys now waiting named is = rw (is, waiting, named) refl

pub begins : (b : BegunAt) (g now : Going) (old new : Waiting) (ss more : List Sending) (s : Sending) → going (old, new) (named_all ss) ≡ now
    → now ≡ with_waiting g (with_face g.waiting b.face (drop b.pieces (at_face g.waiting b.face)))
    → more ≡ ss ++ s ∷ [] → s.face ≡ b.face → s.session ≡ b.session → s.ids.items ≡ ids_in (take b.pieces (at_face g.waiting b.face))
    → going (old, new) (named_all more) ≡ goes_with b g
begins b g now old new ss more s view left pushed face session ids =
    let front = take b.pieces (at_face g.waiting b.face) in
    let seen = view ∙ left in
    let named : named_all more ≡ g.named ++ named_in b.face b.session front =
    ap (λ (l : List Sending). named_all l) pushed ∙ named-push ss s front ids
    ∙ ap (λ (h : Going). h.named ++ named_in s.face s.session front) seen
    ∙ ap (λ (f : Face). g.named ++ named_in f s.session front) face
    ∙ ap (λ (n : ℕ). g.named ++ named_in b.face n front) session in
    same-going (old, new) (with_face g.waiting b.face (drop b.pieces (at_face g.waiting b.face))) (named_all more) (g.named ++ named_in b.face b.session front)
    (goes_with b g) (ap (λ (h : Going). h.waiting) seen) named refl
