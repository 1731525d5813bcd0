-- What is new in a drain, by the marks of its code.

use Rattle.std.proofs.Common.{◌≡◌, ℕ, zero, suc, ◌+◌, ◌<◌, ◌≤◌, Bool, true, false, ◌&&◌}
use Rattle.std.proofs.Common.{List, [], ◌∷◌, ◌++◌, length, map, drop, None, Some}
use Rattle.std.proofs.Common.{refl, sym, ◌∙◌, ap, arith, subst, nat_le}
use Rattle.std.proofs.Common.{if◌then◌else◌}
use Rattle.std.proofs.lemmas.Bool.Decides.{nat_tests}
use Rattle.ltp_session.specs.World.{End, at_end, deliver, first_end, other}
use Rattle.ltp_session.specs.World.{second_end, with_end}
use Rattle.ltp_session.specs.World.{Sent as LinkSent}
use Rattle.ltp_laws.specs.View.{same_end}
use Rattle.ltp_picks.specs.Picks.{Placed, behind_new}
use Rattle.ltp_picks.specs.Picks.{oldest_turn, placed_from}
use Rattle.ltp_world.specs.declared.ends.End.{End as CodeEnd}
use Rattle.ltp_world.specs.declared.ends.End.TheVariants as ends
use Rattle.ltp_world.specs.Ends.{is_end, link_end, named}
use Rattle.ltp_world.specs.Marks.{new_from, next_place}
use Rattle.ltp_world.specs.Shows.{spelled}

-- ---- marks

at-same : (marks : ℕ × ℕ) (e : End) (x : ℕ) → at_end (with_end marks e x) e ≡ x
at-same marks first_end x = refl
at-same marks second_end x = refl

at-another : (marks : ℕ × ℕ) (e o : End) (x : ℕ) → same_end o e ≡ false
    → at_end (with_end marks e x) o ≡ at_end marks o
at-another marks first_end first_end x apart = absurd (cc)
at-another marks first_end second_end x apart = refl
at-another marks second_end first_end x apart = refl
at-another marks second_end second_end x apart = absurd (cc)

same-is : (o e : End) → same_end o e ≡ true → o ≡ e
same-is first_end first_end is = refl
same-is second_end second_end is = refl
same-is first_end second_end is = absurd (cc)
same-is second_end first_end is = absurd (cc)

pub low-le : (a b : ℕ) → a ≤ b → nat_le a b ≡ true
low-le a b low = grind (arith, nat_tests)

pub high-le : (a b : ℕ) → b < a → nat_le a b ≡ false
high-le a b high = grind (arith, nat_tests)

pub le-is : (a b : ℕ) → nat_le a b ≡ true → a ≤ b
le-is a b is = grind (arith, nat_tests)

pub le-not : (a b : ℕ) → nat_le a b ≡ false → b < a
le-not a b is = grind (arith, nat_tests)

-- ---- lists of what is new

pub new-skip : (k : ℕ) (marks : ℕ × ℕ) (d : LinkSent) (ds : List LinkSent)
    → nat_le (at_end marks d.from) k ≡ false → new_from k marks (d ∷ ds) ≡ new_from (k + 1) marks ds
unfolding new_from
new-skip k marks d ds is = rw is refl

pub new-take : (k : ℕ) (marks : ℕ × ℕ) (d : LinkSent) (ds : List LinkSent)
    → nat_le (at_end marks d.from) k ≡ true
    → new_from k marks (d ∷ ds) ≡ record { place = k; sent = d } ∷ new_from (k + 1) marks ds
unfolding new_from
new-take k marks d ds is = rw is refl

pub new-nothing : (k : ℕ) (marks : ℕ × ℕ) → new_from k marks [] ≡ []
unfolding new_from
new-nothing k marks = refl

-- marks that tell the same from a place on
new-same : (k : ℕ) (marks marks' : ℕ × ℕ) (ds : List LinkSent)
    → ((o : End) (j : ℕ) → k ≤ j → nat_le (at_end marks o) j ≡ nat_le (at_end marks' o) j)
    → new_from k marks ds ≡ new_from k marks' ds
unfolding new_from
new-same k marks marks' [] same = refl
new-same k marks marks' (d ∷ ds) same =
    rw (
      same d.from k (omega arith),
      new-same (k + 1) marks marks' ds
          (λ o j low. same o j (omega (arith, low))),
    ) refl

-- everything from a place on is new where the marks aren't after it
pub all-new : (k : ℕ) (marks : ℕ × ℕ) (ds : List LinkSent)
    → ((o : End) → at_end marks o ≤ k) → new_from k marks ds ≡ placed_from k ds
unfolding new_from placed_from
all-new k marks [] low = refl
all-new k marks (d ∷ ds) low =
    rw (
      low-le (at_end marks d.from) k (low d.from),
      all-new (k + 1) marks ds
          (λ o. let at = low o in omega (arith, at)),
    ) refl

-- nothing is new where the marks are after all
pub none-new : (k : ℕ) (marks : ℕ × ℕ) (ds : List LinkSent)
    → ((o : End) → k + length ds ≤ at_end marks o) → new_from k marks ds ≡ []
unfolding new_from
none-new k marks [] high = refl
none-new k marks (d ∷ ds) high =
    rw (high-le (at_end marks d.from) k (let at = high d.from in omega (arith, at)))
    (none-new (k + 1) marks ds (λ o. let at = high o in omega (arith, at)))

pub new-append : (k : ℕ) (marks : ℕ × ℕ) (xs ys : List LinkSent)
    → new_from k marks (xs ++ ys) ≡ new_from k marks xs ++ new_from (k + length xs) marks ys
unfolding new_from
new-append k marks [] ys = ap (λ (j : ℕ). new_from j marks ys) (omega arith)
new-append k marks (x ∷ xs) ys = by_test (nat_le (at_end marks x.from) k)
    (new-append (k + 1) marks xs ys
    ∙ ap (λ (j : ℕ). new_from (k + 1) marks xs ++ new_from j marks ys) (omega arith))
  where
    by_test : (b : Bool) → new_from (k + 1) marks (xs ++ ys)
        ≡ new_from (k + 1) marks xs ++ new_from (k + length (x ∷ xs)) marks ys
        → (if b then record { place = k; sent = x } ∷ new_from (k + 1) marks (xs ++ ys)
        else new_from (k + 1) marks (xs ++ ys))
        ≡ (if b then record { place = k; sent = x } ∷ new_from (k + 1) marks xs
        else new_from (k + 1) marks xs) ++ new_from (k + length (x ∷ xs)) marks ys
    by_test true rest = ap (λ (es : List Placed). record { place = k; sent = x } ∷ es) rest
    by_test false rest = rest

-- what stands before both marks isn't new
pub new-drop : (k i : ℕ) (marks : ℕ × ℕ) (ds : List LinkSent)
    → ((o : End) → k + i ≤ at_end marks o) → i ≤ length ds
    → new_from k marks ds ≡ new_from (k + i) marks (drop i ds)
new-drop k zero marks ds high low = ap (λ (j : ℕ). new_from j marks ds) (omega arith)
new-drop k (suc i) marks [] high low = absurd (omega (arith, low))
new-drop k (suc i) marks (d ∷ ds) high low =
    new-skip k marks d ds (high-le (at_end marks d.from) k
    (let at = high d.from in omega (arith, at)))
    ∙ new-drop (k + 1) i marks ds (λ o. let at = high o in omega (arith, at)) (omega (arith, low))
    ∙ ap (λ (j : ℕ). new_from j marks (drop i ds)) (omega arith)

-- ---- the oldest of an end

-- where the first segment of an end stands that isn't before its mark, or where the list stops
unfoldable seek : End → ℕ → ℕ → List LinkSent → ℕ
seek end m k [] = k
seek end m k (d ∷ ds) = if same_end d.from end && nat_le m k then k else seek end m (k + 1) ds

pub data Sought (end : End) (marks : ℕ × ℕ) (k : ℕ) (ds : List LinkSent) (at : ℕ) : Type 0 where
  found : at < k + length ds → k ≤ at
      → oldest_turn end (new_from k marks ds)
      ≡ Some (record { event = deliver at; left = new_from k (with_end marks end (at + 1)) ds })
      → new_from k (with_end marks end at) ds ≡ new_from k marks ds → Sought end marks k ds at
  nowhere : at ≡ k + length ds → oldest_turn end (new_from k marks ds) ≡ None
      → new_from k (with_end marks end at) ds ≡ new_from k marks ds → Sought end marks k ds at

oldest-here : (end : End) (e : Placed) (es : List Placed) → same_end e.sent.from end ≡ true
    → oldest_turn end (e ∷ es) ≡ Some (record { event = deliver e.place; left = es })
unfolding oldest_turn
oldest-here end e es is = rw is refl

oldest-later : (end : End) (e : Placed) (es : List Placed) → same_end e.sent.from end ≡ false
    → oldest_turn end (e ∷ es) ≡ behind_new e (oldest_turn end es)
unfolding oldest_turn
oldest-later end e es is = rw is refl

oldest-none : (end : End) → oldest_turn end [] ≡ None
unfolding oldest_turn
oldest-none end = refl

-- a mark that moves to a place which isn't before a segment that isn't new
skip-same : (end : End) (marks : ℕ × ℕ) (k : ℕ) (d : LinkSent) (ds : List LinkSent) (at : ℕ)
    → nat_le (at_end marks d.from) k ≡ false → k < at
    → new_from (k + 1) (with_end marks end at) ds ≡ new_from (k + 1) marks ds
    → new_from k (with_end marks end at) (d ∷ ds) ≡ new_from k marks (d ∷ ds)
skip-same end marks k d ds at is past same =
    new-skip k (with_end marks end at) d ds (by_end (same_end d.from end) refl) ∙ same
    ∙ sym (new-skip k marks d ds is)
  where
    by_end : (mine : Bool) → same_end d.from end ≡ mine
        → nat_le (at_end (with_end marks end at) d.from) k ≡ false
    by_end true mine = high-le _ k (let here : at_end (with_end marks end at) d.from ≡ at
        = ap (at_end (with_end marks end at)) (same-is d.from end mine)
        ∙ at-same marks end at in omega (arith, here, past))
    by_end false apart = ap (λ (m : ℕ). nat_le m k) (at-another marks end d.from at apart) ∙ is

take-same : (end : End) (marks : ℕ × ℕ) (k : ℕ) (d : LinkSent) (ds : List LinkSent) (at : ℕ)
    → nat_le (at_end marks d.from) k ≡ true → same_end d.from end ≡ false
    → new_from (k + 1) (with_end marks end at) ds ≡ new_from (k + 1) marks ds
    → new_from k (with_end marks end at) (d ∷ ds) ≡ new_from k marks (d ∷ ds)
take-same end marks k d ds at is apart same =
    new-take k (with_end marks end at) d ds
    (ap (λ (m : ℕ). nat_le m k) (at-another marks end d.from at apart) ∙ is)
    ∙ ap (λ (es : List Placed). record { place = k; sent = d } ∷ es) same
    ∙ sym (new-take k marks d ds is)

-- an old segment before others
sought-skip : (end : End) (marks : ℕ × ℕ) (k : ℕ) (d : LinkSent) (ds : List LinkSent) (at : ℕ)
    → nat_le (at_end marks d.from) k ≡ false → Sought end marks (k + 1) ds at
    → Sought end marks k (d ∷ ds) at
sought-skip end marks k d ds at is (found low from turn same) =
    found (omega (arith, low)) (omega (arith, from))
    (ap (oldest_turn end) (new-skip k marks d ds is) ∙ turn
    ∙ ap (λ (es : List Placed). Some (record { event = deliver at; left = es }))
    (sym (new-skip k (with_end marks end (at + 1)) d ds (by_end (same_end d.from end) refl))))
    (skip-same end marks k d ds at is (omega (arith, from)) same)
  where
    by_end : (mine : Bool) → same_end d.from end ≡ mine
        → nat_le (at_end (with_end marks end (at + 1)) d.from) k ≡ false
    by_end true mine = high-le _ k (let here : at_end (with_end marks end (at + 1)) d.from ≡ at + 1
        = ap (at_end (with_end marks end (at + 1))) (same-is d.from end mine)
        ∙ at-same marks end (at + 1) in omega (arith, here, from))
    by_end false apart = ap (λ (m : ℕ). nat_le m k) (at-another marks end d.from (at + 1) apart) ∙ is
sought-skip end marks k d ds at is (nowhere all turn same) =
    nowhere (omega (arith, all)) (ap (oldest_turn end) (new-skip k marks d ds is) ∙ turn)
    (skip-same end marks k d ds at is (omega (arith, all)) same)

-- a new one of the other end before others
sought-behind : (end : End) (marks : ℕ × ℕ) (k : ℕ) (d : LinkSent) (ds : List LinkSent) (at : ℕ)
    → nat_le (at_end marks d.from) k ≡ true → same_end d.from end ≡ false
    → Sought end marks (k + 1) ds at → Sought end marks k (d ∷ ds) at
sought-behind end marks k d ds at is apart (found low from turn same) =
    found (omega (arith, low)) (omega (arith, from))
    (ap (oldest_turn end) (new-take k marks d ds is)
    ∙ oldest-later end (record { place = k; sent = d }) (new_from (k + 1) marks ds) apart
    ∙ ap (behind_new (record { place = k; sent = d })) turn
    ∙ ap (λ (es : List Placed). Some (record { event = deliver at; left = es }))
    (sym (new-take k (with_end marks end (at + 1)) d ds
    (ap (λ (m : ℕ). nat_le m k) (at-another marks end d.from (at + 1) apart) ∙ is))))
    (take-same end marks k d ds at is apart same)
sought-behind end marks k d ds at is apart (nowhere all turn same) =
    nowhere (omega (arith, all))
    (ap (oldest_turn end) (new-take k marks d ds is)
    ∙ oldest-later end (record { place = k; sent = d }) (new_from (k + 1) marks ds) apart
    ∙ ap (behind_new (record { place = k; sent = d })) turn)
    (take-same end marks k d ds at is apart same)

-- it is the first
sought-here : (end : End) (marks : ℕ × ℕ) (k : ℕ) (d : LinkSent) (ds : List LinkSent)
    → nat_le (at_end marks end) k ≡ true → same_end d.from end ≡ true
    → Sought end marks k (d ∷ ds) k
sought-here end marks k d ds is mine =
    found (omega arith) (omega arith)
    (ap (oldest_turn end) (new-take k marks d ds taken)
    ∙ oldest-here end (record { place = k; sent = d }) (new_from (k + 1) marks ds) mine
    ∙ ap (λ (es : List Placed). Some (record { event = deliver k; left = es }))
    (new-same (k + 1) marks (with_end marks end (k + 1)) ds (same (k + 1) (omega arith))
    ∙ sym (new-skip k (with_end marks end (k + 1)) d ds gone)))
    (sym (new-same k marks (with_end marks end k) (d ∷ ds) (same k (omega arith))))
  where
    taken : nat_le (at_end marks d.from) k ≡ true
    taken = ap (λ (o : End). nat_le (at_end marks o) k) (same-is d.from end mine) ∙ is

    gone : nat_le (at_end (with_end marks end (k + 1)) d.from) k ≡ false
    gone = high-le _ k (let here : at_end (with_end marks end (k + 1)) d.from ≡ k + 1
        = ap (at_end (with_end marks end (k + 1))) (same-is d.from end mine)
        ∙ at-same marks end (k + 1) in omega (arith, here))

    same : (i : ℕ) → k ≤ i → (o : End) (j : ℕ) → i ≤ j
        → nat_le (at_end marks o) j ≡ nat_le (at_end (with_end marks end i) o) j
    same i above o j low = by_end (same_end o end) refl
      where
        by_end : (this : Bool) → same_end o end ≡ this
            → nat_le (at_end marks o) j ≡ nat_le (at_end (with_end marks end i) o) j
        by_end true this =
            let one = same-is o end this in
            let mark : at_end marks o ≡ at_end marks end = ap (at_end marks) one in
            let now : at_end (with_end marks end i) o ≡ i =
            ap (at_end (with_end marks end i)) one ∙ at-same marks end i in
            low-le (at_end marks o) j
            (omega (arith, mark, low, above, le-is (at_end marks end) k is))
            ∙ sym (low-le (at_end (with_end marks end i) o) j (omega (arith, now, low)))
        by_end false apart = ap (λ (m : ℕ). nat_le m j) (sym (at-another marks end o i apart))

sought : (end : End) (marks : ℕ × ℕ) (k : ℕ) (ds : List LinkSent)
    → Sought end marks k ds (seek end (at_end marks end) k ds)
unfolding seek
sought end marks k [] =
    nowhere (omega arith) (ap (oldest_turn end) (new-nothing k marks) ∙ oldest-none end)
    (new-nothing k (with_end marks end k) ∙ sym (new-nothing k marks))
sought end marks k (d ∷ ds) = by_end (same_end d.from end) refl (sought end marks (k + 1) ds)
  where
    by_old : (new : Bool) → nat_le (at_end marks end) k ≡ new → same_end d.from end ≡ true
        → Sought end marks (k + 1) ds (seek end (at_end marks end) (k + 1) ds)
        → Sought end marks k (d ∷ ds)
        (if new then k else seek end (at_end marks end) (k + 1) ds)
    by_old true is mine rest = sought-here end marks k d ds is mine
    by_old false is mine rest = sought-skip end marks k d ds _
        (ap (λ (o : End). nat_le (at_end marks o) k) (same-is d.from end mine) ∙ is) rest

    by_other : (new : Bool) → nat_le (at_end marks d.from) k ≡ new → same_end d.from end ≡ false
        → Sought end marks (k + 1) ds (seek end (at_end marks end) (k + 1) ds)
        → Sought end marks k (d ∷ ds) (seek end (at_end marks end) (k + 1) ds)
    by_other true is apart rest = sought-behind end marks k d ds _ is apart rest
    by_other false is apart rest = sought-skip end marks k d ds _ is rest

    by_end : (mine : Bool) → same_end d.from end ≡ mine
        → Sought end marks (k + 1) ds (seek end (at_end marks end) (k + 1) ds)
        → Sought end marks k (d ∷ ds)
        (if mine && nat_le (at_end marks end) k then k
        else seek end (at_end marks end) (k + 1) ds)
    by_end true mine rest = by_old (nat_le (at_end marks end) k) refl mine rest
    by_end false apart rest = by_other (nat_le (at_end marks d.from) k) refl apart rest

-- ---- as the code seeks

is_end-named : (o e : End) → is_end (named o) (named e) ≡ same_end o e
is_end-named first_end first_end = refl
is_end-named first_end second_end = refl
is_end-named second_end first_end = refl
is_end-named second_end second_end = refl

seek-all : (end : End) (m k : ℕ) (ds : List LinkSent) → m ≤ k
    → seek end m k ds ≡ next_place (named end) k (map spelled ds)
unfolding seek next_place
seek-all end m k [] low = refl
seek-all end m k (d ∷ ds) low =
    rw (low-le m k low, is_end-named d.from end, seek-all end m (k + 1) ds (omega (arith, low)))
    (by_test (same_end d.from end))
  where
    by_test : (b : Bool) → (if b && true then k else next_place (named end) (k + 1) (map spelled ds))
        ≡ (if b then k else next_place (named end) (k + 1) (map spelled ds))
    by_test true = refl
    by_test false = refl

seek-past : (end : End) (m k : ℕ) (d : LinkSent) (ds : List LinkSent) → nat_le m k ≡ false
    → seek end m k (d ∷ ds) ≡ seek end m (k + 1) ds
unfolding seek
seek-past end m k d ds is = rw is (by_test (same_end d.from end))
  where
    by_test : (b : Bool) → (if b && false then k else seek end m (k + 1) ds)
        ≡ seek end m (k + 1) ds
    by_test true = refl
    by_test false = refl

seek-from : (end : End) (k i : ℕ) (ds : List LinkSent) → i ≤ length ds
    → seek end (k + i) k ds ≡ next_place (named end) (k + i) (map spelled (drop i ds))
seek-from end k zero ds low =
    seek-all end (k + 0) k ds (omega arith)
    ∙ ap (λ (j : ℕ). next_place (named end) j (map spelled ds)) (omega arith)
seek-from end k (suc i) [] low = absurd (omega (arith, low))
seek-from end k (suc i) (d ∷ ds) low =
    seek-past end (k + suc i) k d ds (high-le (k + suc i) k (omega arith))
    ∙ ap (λ (m : ℕ). seek end m (k + 1) ds) (omega arith)
    ∙ seek-from end (k + 1) i ds (omega (arith, low))
    ∙ ap (λ (j : ℕ). next_place (named end) j (map spelled (drop i ds))) (omega arith)

drop-spelled : (i : ℕ) (ds : List LinkSent) → drop i (map spelled ds) ≡ map spelled (drop i ds)
drop-spelled zero ds = refl
drop-spelled (suc i) [] = refl
drop-spelled (suc i) (d ∷ ds) = drop-spelled i ds

-- the code finds the oldest new segment of an end, or that it has none
pub next-sought : (end : CodeEnd) (marks : ℕ × ℕ) (sent : List LinkSent)
    → at_end marks (link_end end) ≤ length sent
    → Sought (link_end end) marks 0 sent
    (next_place end (at_end marks (link_end end))
    (drop (at_end marks (link_end end)) (map spelled sent)))
next-sought end marks sent low =
    subst (Sought (link_end end) marks 0 sent)
    (sym (ap (λ (m : ℕ). seek (link_end end) m 0 sent) (none-before (at_end marks (link_end end))))
    ∙ seek-from (link_end end) 0 (at_end marks (link_end end)) sent low
    ∙ ap (λ (j : ℕ). next_place (named (link_end end)) j
    (map spelled (drop (at_end marks (link_end end)) sent)))
    (none-before (at_end marks (link_end end)))
    ∙ ap (λ (e : CodeEnd). next_place e (at_end marks (link_end end))
    (map spelled (drop (at_end marks (link_end end)) sent))) (named-link end)
    ∙ ap (next_place end (at_end marks (link_end end)))
    (sym (drop-spelled (at_end marks (link_end end)) sent)))
    (sought (link_end end) marks 0 sent)
  where
    none-before : (m : ℕ) → 0 + m ≡ m
    none-before m = omega arith

    named-link : (end : CodeEnd) → named (link_end end) ≡ end
    named-link ends.First = refl
    named-link ends.Second = refl

-- neither end has any
pub nothing-new : (end : End) (es : List Placed) → oldest_turn end es ≡ None
    → oldest_turn (other end) es ≡ None → es ≡ []
nothing-new end [] mine yours = refl
nothing-new end (e ∷ es) mine yours = by_end (same_end e.sent.from end) refl
  where
    other-is : (o e : End) → same_end o e ≡ false → same_end o (other e) ≡ true
    other-is first_end first_end is = absurd (cc)
    other-is first_end second_end is = refl
    other-is second_end first_end is = refl
    other-is second_end second_end is = absurd (cc)

    by_end : (this : Bool) → same_end e.sent.from end ≡ this → (e ∷ es) ≡ []
    by_end true is = absurd (let some = oldest-here end e es is in cc)
    by_end false is = absurd (let some = oldest-here (other end) e es
        (other-is e.sent.from end is) in cc)
