-- The table of sessions.
use Rattle.std.proofs.Common.{◌∙◌, ap, ◌≡◌, ℕ, ◌+◌, ◌≤◌, Bool, true, false, ◌&&◌, ◌==◌, List, [], ◌∷◌, refl, arith, if◌then◌else◌}
use Rattle.std.proofs.lemmas.Bool.{eqb-true, eq-eqb}
use Rattle.std.proofs.lemmas.List.Sums.{sum_by-cons}
use Rattle.ltp_session.specs.declared.name.SessionName.{SessionName}
use Rattle.receive_run.specs.Session.{Session, handed_up}
use Rattle.receive_run.specs.KeptSessions.{Kept, session_in, with_session, is_unfinished, unfinished, same_name}

pub both : (a b : Bool) → (a && b) ≡ true → (a ≡ true) × (b ≡ true)
both true true h = (refl, refl)
both true false h = absurd (cc)
both false b h = absurd (cc)

pub name-same : (one name : SessionName) → one.originator ≡ name.originator → one.number ≡ name.number → one ≡ name
name-same one name originators numbers =
    ap (λ (o : ℕ). record { originator = o; number = one.number }) originators
    ∙ ap (λ (n : ℕ). record { originator = name.originator; number = n }) numbers

pub same_name-is : (one name : SessionName) → same_name one name ≡ true → one ≡ name
same_name-is one name same =
    let parts = both (one.originator == name.originator) (one.number == name.number) same in
    name-same one name (eqb-true one.originator name.originator parts.0) (eqb-true one.number name.number parts.1)

pub same_name-refl : (name : SessionName) → same_name name name ≡ true
same_name-refl name = rw (eq-eqb name.originator name.originator refl, eq-eqb name.number name.number refl) refl

apart : (one name third : SessionName) → same_name one name ≡ false → same_name third one ≡ true → same_name third name ≡ false
apart one name third differ here = rw (same_name-is third one here) differ

with-step : (one name : SessionName) (state : Session) (k : Kept) (kept : List Kept)
    → session_in name (with_session one state kept) ≡ (if same_name one name then state else session_in name kept)
    → (t : Bool) → same_name k.name one ≡ t → (u : Bool) → same_name one name ≡ u → (v : Bool) → same_name k.name name ≡ v
    → session_in name (if t then record { name = one; state = state } ∷ kept else k ∷ with_session one state kept)
    ≡ (if u then state else session_in name (k ∷ kept))
unfolding session_in
with-step one name state k kept rest true here true same v other = rw same refl
with-step one name state k kept rest true here false differ v other =
    rw (differ, apart one name k.name differ here) refl
with-step one name state k kept rest false there u same false other = rw (other, rest, same) refl
with-step one name state k kept rest false there false same true other = rw other refl
with-step one name state k kept rest false there true same true other =
    let is = same_name-is one name same in
    let wrong : same_name k.name one ≡ true = rw is other in absurd (cc)

pub session_in-with : (one name : SessionName) (state : Session) (kept : List Kept)
    → session_in name (with_session one state kept) ≡ (if same_name one name then state else session_in name kept)
unfolding session_in with_session
session_in-with one name state [] = refl
session_in-with one name state (k ∷ kept) =
    with-step one name state k kept (session_in-with one name state kept)
    (same_name k.name one) refl (same_name one name) refl (same_name k.name name) refl

-- 1 where it holds
abbrev pub count : Bool → ℕ
count b = if b then 1 else 0

count-step : (one : SessionName) (state : Session) (k : Kept) (kept : List Kept)
    → unfinished (with_session one state kept) + count (is_unfinished (session_in one kept)) ≡ unfinished kept + count (is_unfinished state)
    → (t : Bool)
    → unfinished (if t then record { name = one; state = state } ∷ kept else k ∷ with_session one state kept)
    + count (is_unfinished (if t then k.state else session_in one kept))
    ≡ unfinished (k ∷ kept) + count (is_unfinished state)
count-step one state k kept rest true =
    rw (
      sum_by-cons (λ (x : Kept). count (is_unfinished x.state)) (record { name = one; state = state }) kept,
      sum_by-cons (λ (x : Kept). count (is_unfinished x.state)) k kept,
    ) (omega arith)
count-step one state k kept rest false =
    rw (
      sum_by-cons (λ (x : Kept). count (is_unfinished x.state)) k (with_session one state kept),
      sum_by-cons (λ (x : Kept). count (is_unfinished x.state)) k kept,
    ) (omega arith)

-- how many are unfinished, once one of them stands otherwise
pub unfinished-with : (one : SessionName) (state : Session) (kept : List Kept)
    → unfinished (with_session one state kept) + count (is_unfinished (session_in one kept))
    ≡ unfinished kept + count (is_unfinished state)
unfolding session_in with_session
unfinished-with one state [] = omega arith
unfinished-with one state (k ∷ kept) = count-step one state k kept (unfinished-with one state kept) (same_name k.name one)

-- where a session is unfinished, there is one
pub unfinished-open : (one : SessionName) (kept : List Kept) → is_unfinished (session_in one kept) ≡ true → 1 ≤ unfinished kept
unfinished-open one kept is =
    let counted : count (is_unfinished (session_in one kept)) ≡ 1 = rw is refl in
    omega (arith, unfinished-with one handed_up kept)
