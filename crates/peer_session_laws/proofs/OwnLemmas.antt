-- The open sessions of a run are those that it keeps as its own.

use Rattle.std.proofs.Common.{◌≡◌, ℕ, zero, suc, ◌+◌, ◌-◌, ◌<◌, ◌≤◌, ◌||◌, Bool, true, false, List, [], ◌∷◌, ◌++◌, length, map, ◌⊎◌, inl, inr, refl, ◌∙◌, ap, arith, if◌then◌else◌}
use Rattle.std.specs.List.{filter, list_any}
use Rattle.std.proofs.lemmas.List.{length-append}
use Rattle.std.proofs.lemmas.List.Elements.{filter-append}
use Rattle.ltp_session.specs.Table.{AreAscending, find}
use Rattle.ltp_engine.specs.Sessions.{is_open}
use Rattle.gate_cases.specs.declared.face.Face.{Face}
use Rattle.gate_cases.specs.declared.face.Face.TheVariants.{Old, New}
use Rattle.peer_gateway.specs.Gate.{BegunAt, FaceTold}
use Rattle.peer_gateway.specs.Laws.{PiecesInOrder}
use Rattle.peer_gateway.specs.Steps.{peer_gate_after}
use Rattle.peer_events.specs.declared.own.OwnBlock.{OwnBlock}
use Rattle.peer_events.specs.Own.{is_of, own_with}
use Rattle.peer_events.specs.Events.{own_after_step, own_left}
use Rattle.peer_events.specs.Laws.{OwnGoByEnds, end_count, is_end_at, own_count}
use Rattle.peer_half.specs.Runs.{EventIn}
use Rattle.peer_half.specs.Steps.{opens_in}
use Rattle.peer_session_laws.specs.Events.{Beginning, gate_after, sessions_of, step_with}
use Rattle.peer_session_laws.specs.Own.{next_of}
use Rattle.peer_session_laws.proofs.SenderLemmas.{not-both}
use Rattle.peer_session_laws.proofs.NumberLemmas.{begun_count}
use Rattle.peer_session_laws.proofs.EndLemmas.{Does, ends-are-told, event-does}
use Rattle.peer_session_laws.proofs.BlockLemmas.{AreSome, begins-some}

-- ---- counts

count-both : (at : Face) (n : ℕ) (xs ys : List OwnBlock) → own_count at n (xs ++ ys) ≡ own_count at n xs + own_count at n ys
count-both at n xs ys = ap length (filter-append (is_of at n) xs ys) ∙ length-append (filter (is_of at n) xs) (filter (is_of at n) ys)

end-some : (at : Face) (n : ℕ) (told : List FaceTold) → list_any (is_end_at at n) told ≡ true → 1 ≤ end_count at n told
end-some at n [] is = absurd (cc is)
end-some at n (t ∷ told) is = by (is_end_at at n t) is (λ rest. end-some at n told rest) where
  by : (b : Bool) → (b || list_any (is_end_at at n) told) ≡ true → (list_any (is_end_at at n) told ≡ true → 1 ≤ end_count at n told)
      → 1 ≤ length (if b then t ∷ filter (is_end_at at n) told else filter (is_end_at at n) told)
  by true is later = omega arith
  by false is later = later is

-- ---- the sessions of a face

ascends : (b : Beginning) (at : Face) (events : List EventIn) → AreAscending 0 (sessions_of b at events).engine.senders
unfolding peer_gate_after
ascends b Old [] = tt
ascends b New [] = tt
ascends b at (event ∷ earlier) =
    let all = event-does b at 0 event earlier in all.begins.ascends (all.rests.ascends (ascends b at earlier))

-- own sessions, once a step was told
abbrev pub own_then : Beginning → EventIn → List EventIn → List OwnBlock → List OwnBlock
own_then b event earlier own =
    own_after_step (opens_in (gate_after b (event ∷ earlier))) (step_with b event earlier).effects.told (step_with b event earlier).effects.begun own

-- what is so of the own sessions after some events
pub record IsOwned (b : Beginning) (events : List EventIn) (own : List OwnBlock) (at : Face) (n : ℕ) : Type 0 where
  pub once : own_count at n own ≤ 1
  pub below : 1 ≤ own_count at n own → n < next_of b at events
  pub opens : opens_in (gate_after b events) at n ≡ true → own_count at n own ≡ 1
  pub only : AreSome events → 1 ≤ own_count at n own → opens_in (gate_after b events) at n ≡ true

none-open : (b : Beginning) (at : Face) (n : ℕ) → opens_in (gate_after b []) at n ≡ false
unfolding peer_gate_after find
none-open b Old n = refl
none-open b New n = refl

pub owned-begins : (b : Beginning) (at : Face) (n : ℕ) → IsOwned b [] [] at n
owned-begins b at n = record {
  once = omega arith;
  below = λ some. absurd (omega (arith, some));
  opens = λ is. not-both (opens_in (gate_after b []) at n) is (none-open b at n);
  only = λ all some. absurd (omega (arith, some));
}

module _ (law : OwnGoByEnds) (order : PiecesInOrder) (b : Beginning) (at : Face) (n : ℕ) (event : EventIn) (earlier : List EventIn) (own : List OwnBlock) where
  abbrev told : List FaceTold
  told = (step_with b event earlier).effects.told

  abbrev begun : List BegunAt
  begun = (step_with b event earlier).effects.begun

  abbrev opened : Face → ℕ → Bool
  opened = opens_in (gate_after b (event ∷ earlier))

  abbrev before : ℕ
  before = own_count at n own

  abbrev begins : ℕ
  begins = begun_count at n begun

  -- how many there are
  counted : own_count at n (own_then b event earlier own) ≡ (if opened at n then before else before - end_count at n told) + begins
  counted = count-both at n (own_left opened own told) (map own_with begun) ∙ ap (λ c. c + begins) (law opened own told at n)

  where-open : opened at n ≡ true → own_count at n (own_then b event earlier own) ≡ before + begins
  where-open is = counted ∙ ap (λ t. (if t then before else before - end_count at n told) + begins) is

  where-shut : opened at n ≡ false → own_count at n (own_then b event earlier own) ≡ (before - end_count at n told) + begins
  where-shut is = counted ∙ ap (λ t. (if t then before else before - end_count at n told) + begins) is

  at-most : own_count at n (own_then b event earlier own) ≤ before + begins
  at-most = by (opened at n) refl where
    by : (t : Bool) → opened at n ≡ t → own_count at n (own_then b event earlier own) ≤ before + begins
    by true is = omega (arith, where-open is)
    by false is = omega (arith, where-shut is)

  -- one that begins is new
  alone : IsOwned b earlier own at n → before + begins ≤ 1
  alone so = by before begins refl refl where
    all : Does b at n event earlier
    all = event-does b at n event earlier

    by : (c k : ℕ) → before ≡ c → begins ≡ k → c + k ≤ 1
    by zero k is is_k = omega (arith, is_k, all.begins.once)
    by (suc c) zero is is_k = omega (arith, is, so.once)
    by (suc c) (suc k) is is_k =
        let low = all.begins.low (omega (arith, is_k)) in
        let below = so.below (omega (arith, is)) in
        let next = all.rests.next in
        absurd (omega (arith, low, below, next))

  pub owned-event : IsOwned b earlier own at n → IsOwned b (event ∷ earlier) (own_then b event earlier own) at n
  owned-event so = record {
    once = omega (arith, at-most, alone so);
    below = λ some. below before refl some;
    opens = λ is. opens is (all.begins.opens is);
    only = λ some there. only some there (opened at n) refl;
  } where
    all : Does b at n event earlier
    all = event-does b at n event earlier

    below : (c : ℕ) → before ≡ c → 1 ≤ own_count at n (own_then b event earlier own) → n < next_of b at (event ∷ earlier)
    below zero is some = all.begins.high (let most = at-most in omega (arith, is, some, most))
    below (suc c) is some =
        let was = so.below (omega (arith, is)) in
        let next = all.rests.next in
        let rises = all.begins.rises in
        omega (arith, was, next, rises)

    opens : opened at n ≡ true → (is_open n all.middle.engine.senders ≡ true) ⊎ (begins ≡ 1) → own_count at n (own_then b event earlier own) ≡ 1
    opens is (inl was) = omega (arith, where-open is, so.opens (all.rests.opens (ascends b at earlier) was), alone so)
    opens is (inr one) = omega (arith, where-open is, one, alone so)

    only : AreSome (event ∷ earlier) → 1 ≤ own_count at n (own_then b event earlier own) → (t : Bool) → opened at n ≡ t → opened at n ≡ true
    only some there true is = is
    only some there false is = by begins refl where
      by : (k : ℕ) → begins ≡ k → opened at n ≡ true
      by (suc k) is_k = all.begins.begins (begins-some order b at event earlier some) (omega (arith, is_k))
      by zero is_k =
          let ended = end-some at n told (ends-are-told b at n event earlier (so.only some.1 (let shut = where-shut is in omega (arith, there, shut, is_k))) is) in
          let shut = where-shut is in
          absurd (omega (arith, there, shut, is_k, so.once, ended))
