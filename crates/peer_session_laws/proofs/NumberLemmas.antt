-- The sessions that begin at a face with an event: each with the next number, and each is open where its block has an
-- octet.

use Rattle.std.proofs.Common.{◌≡◌, ℕ, zero, suc, ◌<◌, ◌≤◌, ◌==◌, Bool, true, false, List, [], ◌∷◌, length, map, take, Option, None, Some, is_some, ◌⊎◌, inl, inr, refl, sym, ◌∙◌, ap, subst, arith, eq-eqb}
use Rattle.std.specs.List.{AllByRecursion}
use Rattle.std.proofs.lemmas.Bool.{eqb-true}
use Rattle.std.proofs.lemmas.List.{take_all}
use Rattle.ltp_segment.specs.Policy.{PolicyValue}
use Rattle.ltp_session.specs.Timer.{first_serial}
use Rattle.ltp_session.specs.Step.{after}
use Rattle.ltp_session.specs.Sender.{Sending, begin, checkpoint_at, last_segment, opened, segments_from, segments_of}
use Rattle.ltp_session.specs.Table.{find, AreAscending}
use Rattle.ltp_sender.specs.Sender.{is_kept_open}
use Rattle.ltp_laws.proofs.CheckpointLemmas.{begin-next}
use Rattle.ltp_laws.proofs.TableLemmas.{ascending-settled, find-settled, find-settled_other}
use Rattle.ltp_engine.specs.Sessions.{is_open}
use Rattle.gate_cases.specs.declared.face.Face.{Face}
use Rattle.gate_cases.specs.declared.face.Face.TheVariants.{Old, New}
use Rattle.gateway_core.specs.Gate.{if_same}
use Rattle.peer_sessions.specs.Keys.{FaceKeys}
use Rattle.peer_sessions.specs.Sessions.{Sessions}
use Rattle.peer_once.proofs.KeptLemmas.{apart-of}
use Rattle.peer_gateway.specs.Gate.{BegunAt}
use Rattle.peer_events.specs.Own.{is_of, own_with}
use Rattle.peer_events.specs.Laws.{own_count}
use Rattle.peer_session_laws.proofs.GoLemmas.{GoOn, begins}

-- ---- one session begins

last-some : (segment : ℕ × List ℕ) (segments : List (ℕ × List ℕ)) → is_some (last_segment (segment ∷ segments)) ≡ true
unfolding last_segment
last-some segment [] = refl
last-some segment (next ∷ segments) = last-some next segments

cut-some : (size at : ℕ) (octets : List ℕ) → 0 < length octets → is_some (last_segment (segments_of size at octets)) ≡ true
unfolding segments_from
cut-some size at [] some = absurd (omega (arith, some))
cut-some size at (octet ∷ octets) some = last-some _ _

-- where its block has an octet, it is open, and else it is as it was
begin-opens : (policy : PolicyValue) (n : ℕ) (block : List ℕ) (now : ℕ) (kept : Option Sending) → 0 < length block
    → is_kept_open (after (begin policy n block (length block) now).next kept) ≡ true
begin-opens policy n block now kept some =
    subst (λ change. is_kept_open (after change kept) ≡ true) (sym (begin-next policy n block (length block) now))
    (by (last_segment (segments_of policy.segment 0 (take (length block) block)))
    (subst (λ octets. is_some (last_segment (segments_of policy.segment 0 octets)) ≡ true) (sym (take_all (length block) block (omega arith)))
    (cut-some policy.segment 0 block some)))
  where
    by : (last : Option (ℕ × List ℕ)) → is_some last ≡ true
        → is_kept_open (after (opened policy block (length block) now (checkpoint_at (length block) (length block) (first_serial n) 0) last) kept) ≡ true
    by None there = absurd (cc there)
    by (Some segment) there = refl

begin-keeps : (policy : PolicyValue) (n : ℕ) (block : List ℕ) (now : ℕ) (kept : Option Sending) → is_kept_open kept ≡ true
    → is_kept_open (after (begin policy n block (length block) now).next kept) ≡ true
begin-keeps policy n block now kept was =
    subst (λ change. is_kept_open (after change kept) ≡ true) (sym (begin-next policy n block (length block) now))
    (by (last_segment (segments_of policy.segment 0 (take (length block) block))))
  where
    by : (last : Option (ℕ × List ℕ))
        → is_kept_open (after (opened policy block (length block) now (checkpoint_at (length block) (length block) (first_serial n) 0) last) kept) ≡ true
    by None = was
    by (Some segment) = refl

-- ---- some sessions begin

-- how many of them are at a face, with this number
abbrev pub begun_count : Face → ℕ → List BegunAt → ℕ
begun_count at n begun = own_count at n (map own_with begun)

-- one of them, where it is at the face, has a block with an octet
abbrev pub HasOctet : Face → BegunAt → Type 0
HasOctet at b = b.face ≡ at → 0 < length b.block

-- what of session n of a face was so before, and is then
pub record Begins (at : Face) (n : ℕ) (begun : List BegunAt) (s t : Sessions) : Type 0 where
  pub ascends : AreAscending 0 s.engine.senders → AreAscending 0 t.engine.senders
  pub rises : s.engine.next ≤ t.engine.next
  pub once : begun_count at n begun ≤ 1
  pub low : 1 ≤ begun_count at n begun → s.engine.next ≤ n
  pub high : 1 ≤ begun_count at n begun → n < t.engine.next
  pub stays : is_open n s.engine.senders ≡ true → is_open n t.engine.senders ≡ true
  pub opens : is_open n t.engine.senders ≡ true → (is_open n s.engine.senders ≡ true) ⊎ (begun_count at n begun ≡ 1)
  pub begins : AllByRecursion (HasOctet at) begun → 1 ≤ begun_count at n begun → is_open n t.engine.senders ≡ true

begins-none : (at : Face) (n : ℕ) (s t : Sessions) → t ≡ s → Begins at n [] s t
begins-none at n s t same = record {
  ascends = λ up. subst (λ (x : Sessions). AreAscending 0 x.engine.senders) (sym same) up;
  rises = omega (arith, ap (λ (x : Sessions). x.engine.next) same);
  once = omega arith;
  low = λ some. absurd (omega (arith, some));
  high = λ some. absurd (omega (arith, some));
  stays = λ was. subst (λ (x : Sessions). is_open n x.engine.senders ≡ true) (sym same) was;
  opens = λ so. inl (subst (λ (x : Sessions). is_open n x.engine.senders ≡ true) same so);
  begins = λ all some. absurd (omega (arith, some));
}

-- one of another face, or of another number
begins-other : (at : Face) (n : ℕ) (b : BegunAt) (more : List BegunAt) (s t : Sessions) → is_of at n (own_with b) ≡ false
    → Begins at n more s t → Begins at n (b ∷ more) s t
begins-other at n b more s t other rest =
    let count : begun_count at n (b ∷ more) ≡ begun_count at n more = rw other refl in
    record {
      ascends = rest.ascends;
      rises = rest.rises;
      once = omega (arith, count, rest.once);
      low = λ some. rest.low (omega (arith, count, some));
      high = λ some. rest.high (omega (arith, count, some));
      stays = rest.stays;
      opens = λ so. by count (rest.opens so);
      begins = λ all some. rest.begins all.1 (omega (arith, count, some));
    }
  where
    by : begun_count at n (b ∷ more) ≡ begun_count at n more → (is_open n s.engine.senders ≡ true) ⊎ (begun_count at n more ≡ 1)
        → (is_open n s.engine.senders ≡ true) ⊎ (begun_count at n (b ∷ more) ≡ 1)
    by count (inl was) = inl was
    by count (inr one) = inr (count ∙ one)

-- session n is as it was, where another begins
open-other : (k : FaceKeys) (now n : ℕ) (block : List ℕ) (s : Sessions) → (s.engine.next == n) ≡ false
    → is_open n (begins k now block s).engine.senders ≡ is_open n s.engine.senders
open-other k now n block s apart =
    ap is_kept_open (find-settled_other n s.engine.next (begin k.party.policy s.engine.next block (length block) now).next s.engine.senders (apart-of s.engine.next n apart))

open-here : (k : FaceKeys) (now : ℕ) (block : List ℕ) (s : Sessions)
    → is_open s.engine.next (begins k now block s).engine.senders
    ≡ is_kept_open (after (begin k.party.policy s.engine.next block (length block) now).next (find s.engine.next s.engine.senders))
open-here k now block s =
    ap is_kept_open (find-settled s.engine.next (begin k.party.policy s.engine.next block (length block) now).next s.engine.senders)

ascends-one : (k : FaceKeys) (now : ℕ) (block : List ℕ) (s : Sessions) → AreAscending 0 s.engine.senders → AreAscending 0 (begins k now block s).engine.senders
ascends-one k now block s up =
    ascending-settled s.engine.next 0 (begin k.party.policy s.engine.next block (length block) now).next s.engine.senders (omega arith) up

-- one of the face, with another number
begins-apart : (k : FaceKeys) (now : ℕ) (at : Face) (n : ℕ) (b : BegunAt) (more : List BegunAt) (s t : Sessions) → (s.engine.next == n) ≡ false
    → is_of at n (own_with b) ≡ false → Begins at n more (begins k now b.block s) t → Begins at n (b ∷ more) s t
begins-apart k now at n b more s t apart other rest = begins-other at n b more s t other (record {
  ascends = λ up. rest.ascends (ascends-one k now b.block s up);
  rises = let up = rest.rises in omega (arith, up);
  once = rest.once;
  low = λ some. let up = rest.low some in omega (arith, up);
  high = rest.high;
  stays = λ was. rest.stays (open-other k now n b.block s apart ∙ was);
  opens = λ so. by (rest.opens so);
  begins = rest.begins;
}) where
  by : (is_open n (begins k now b.block s).engine.senders ≡ true) ⊎ (begun_count at n more ≡ 1)
      → (is_open n s.engine.senders ≡ true) ⊎ (begun_count at n more ≡ 1)
  by (inl was) = inl (sym (open-other k now n b.block s apart) ∙ was)
  by (inr one) = inr one

-- it begins: those after it have greater numbers
begins-here : (k : FaceKeys) (now : ℕ) (at : Face) (b : BegunAt) (more : List BegunAt) (s t : Sessions) → b.face ≡ at
    → is_of at s.engine.next (own_with b) ≡ true → Begins at s.engine.next more (begins k now b.block s) t → Begins at s.engine.next (b ∷ more) s t
begins-here k now at b more s t face here rest = record {
  ascends = λ up. rest.ascends (ascends-one k now b.block s up);
  rises = let up = rest.rises in omega (arith, up);
  once = omega (arith, count);
  low = λ some. omega arith;
  high = λ some. let up = rest.rises in omega (arith, up);
  stays = λ was. rest.stays (open-here k now b.block s ∙ begin-keeps k.party.policy s.engine.next b.block now (find s.engine.next s.engine.senders) was);
  opens = λ so. inr count;
  begins = λ all some. rest.stays (open-here k now b.block s ∙ begin-opens k.party.policy s.engine.next b.block now (find s.engine.next s.engine.senders) (all.0 face));
} where
  none : begun_count at s.engine.next more ≡ 0
  none = by (begun_count at s.engine.next more) refl where
    by : (c : ℕ) → begun_count at s.engine.next more ≡ c → c ≡ 0
    by zero is = refl
    by (suc c) is = absurd (let low = rest.low (omega (arith, is)) in omega (arith, low))

  count : begun_count at s.engine.next (b ∷ more) ≡ 1
  count = rw here (ap suc none)

-- one of the face
begins-at : (k : FaceKeys) (now : ℕ) (at : Face) (n : ℕ) (b : BegunAt) (more : List BegunAt) (s t : Sessions) → b.face ≡ at → is_of at n (own_with b) ≡ (b.session == n)
    → is_of at s.engine.next (own_with b) ≡ (b.session == s.engine.next) → b.session ≡ s.engine.next
    → Begins at n more (begins k now b.block s) t → Begins at n (b ∷ more) s t
begins-at k now at n b more s t face of of_next number rest = by (s.engine.next == n) refl where
  next : ℕ
  next = s.engine.next

  by : (same : Bool) → (next == n) ≡ same → Begins at n (b ∷ more) s t
  by true is =
      let here : next ≡ n = eqb-true next n is in
      subst (λ m. Begins at m (b ∷ more) s t) here
      (begins-here k now at b more s t face (of_next ∙ eq-eqb b.session next number) (subst (λ m. Begins at m more (begins k now b.block s) t) (sym here) rest))
  by false is = begins-apart k now at n b more s t is (of ∙ (ap (λ m. m == n) number ∙ is)) rest

pub begins-all : (k : FaceKeys) (now : ℕ) (at : Face) (n : ℕ) (begun : List BegunAt) (s t : Sessions) → GoOn k now at begun s t → Begins at n begun s t
unfolding GoOn
begins-all k now at n [] s t same = begins-none at n s t same
begins-all k now at n (b ∷ more) s t (number, rest) =
    by b.face at refl number (λ x goes. begins-all k now at n more x t goes) rest
  where
    by : (face at : Face) → b.face ≡ face → (face ≡ at → b.session ≡ s.engine.next) → ((x : Sessions) → GoOn k now at more x t → Begins at n more x t)
        → GoOn k now at more (if_same face at (begins k now b.block s) s) t → Begins at n (b ∷ more) s t
    by Old Old is number later goes =
        begins-at k now Old n b more s t is (rw is refl) (rw is refl) (number refl) (later (begins k now b.block s) goes)
    by Old New is number later goes = begins-other New n b more s t (rw is refl) (later s goes)
    by New Old is number later goes = begins-other Old n b more s t (rw is refl) (later s goes)
    by New New is number later goes =
        begins-at k now New n b more s t is (rw is refl) (rw is refl) (number refl) (later (begins k now b.block s) goes)
