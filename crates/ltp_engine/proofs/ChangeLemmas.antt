-- The receiving side after a change of one session, and after a tick of all.

use Rattle.std.proofs.Common.{◌≡◌, ℕ, Bool, true, false, not, ◌==◌, List, [], ◌∷◌, ◌++◌, Option, None, Some, is_some, refl, sym, ◌∙◌, ap, subst}
use Rattle.std.specs.Ordering.{nat_cmp}
use Rattle.std.specs.Map.{lookup, set_value, remove_entry, keys_of}
use Rattle.std.specs.List.{IsDistinct, list_any}
use Rattle.std.specs.List.Sorted.{IsSorted}
use Rattle.std.proofs.lemmas.Bool.{eqb-true}
use Rattle.std.proofs.lemmas.List.{map-append}
use Rattle.std.proofs.lemmas.Map.{keys-set_value}
use Rattle.std.proofs.lemmas.Map.Steps.{set_value_same}
use Rattle.ltp_segment.specs.declared.session.Step.{Step}
use Rattle.ltp_segment.specs.Policy.{PolicyValue}
use Rattle.ltp_session.specs.Step.{Change, stays, keeps, ends, after, StepValue}
use Rattle.ltp_session.specs.Receiver.{Receiving}
use Rattle.ltp_engine.specs.Values.{InboundValue, nothing_received}
use Rattle.ltp_session.specs.Table.{find, settled, ticked, ended}
use Rattle.ltp_session.specs.Views.{SessionValue, changed, answer_of}
use Rattle.ltp_session.specs.Engine.{untouched_all, least_deadline}
use Rattle.ltp_session.specs.Receiver.{receiver_deadline}
use Rattle.ltp_engine.specs.Ticks.{receiver_change}
use Rattle.std.specs.Option.{option_map}
use Rattle.std.proofs.Common.{IsPermutation, nat_eq, cond}
use Rattle.ltp_engine.specs.Closed.{ClosedValue, all_closed, none_closed}
use Rattle.ltp_engine.specs.Tables.{table_of, by_number, live, live_entry, live_all, AreLive, is_ended}
use Rattle.ltp_engine.specs.Inbound.{inbound_of, Keeps, touched_after, closed_after, settled_in, moved, with_touched, then_last, numbers_after, Turns, ticked_in, closed_if, Receives}
use Rattle.ltp_engine.specs.declared.inbound.Inbound.{Inbound}
use Rattle.ltp_engine.proofs.TableLemmas.{found-live, absent-live, whole-live, ended-kept, ended-absent, live-table, lookup-live_all, table_of-live_all, keys_of-live_all}
use Rattle.ltp_engine.proofs.OrderLemmas.{looked-up, find-set_here, find-by_number, by_number-set, by_number-removed, by_number-last, keys-removed, keys-last, remove-set, order-of, least-by_number, numbers-sorted}

-- a session that is told to be touched is one that is kept
abbrev pub Touches : Change Receiving → Bool → Type 0
Touches stays touches = touches ≡ false
Touches (keeps r) touches = touches ≡ true
Touches ends touches = Unit {0}

closed-is : (n : ℕ) (r : Receiving) (change : Change Receiving) (over : Bool) (c : ClosedValue) → over ≡ not (is_some (after change (Some r)))
    → closed_if n over c ≡ closed_after n change c
closed-is n r stays over c is_over = rw is_over refl
closed-is n r (keeps s) over c is_over = rw is_over refl
closed-is n r ends over c is_over = rw is_over refl

-- ---- what is kept, from the longest untouched to the last touched

set-live : (o : ℕ) (p : PolicyValue) (n : ℕ) (r : Receiving) (t : List (ℕ × Receiving))
    → set_value (nat_eq n) (live_all o p t) (live o p n r) ≡ live_all o p (set_value (nat_eq n) t r)
set-live o p n r [] = refl
set-live o p n r (e ∷ t) = by_test (n == e.0) refl (set-live o p n r t) where
  by_test : (same : Bool) → (n == e.0) ≡ same → set_value (nat_eq n) (live_all o p t) (live o p n r) ≡ live_all o p (set_value (nat_eq n) t r)
      → cond same ((e.0, live o p n r) ∷ live_all o p t) (live_entry o p e ∷ set_value (nat_eq n) (live_all o p t) (live o p n r))
      ≡ live_all o p (cond same ((e.0, r) ∷ t) (e ∷ set_value (nat_eq n) t r))
  by_test true is rest = ap (λ k. (e.0, live o p k r) ∷ live_all o p t) (eqb-true n e.0 is)
  by_test false is rest = ap (λ es. live_entry o p e ∷ es) rest

remove-live : (o : ℕ) (p : PolicyValue) (n : ℕ) (t : List (ℕ × Receiving)) → remove_entry (nat_eq n) (live_all o p t) ≡ live_all o p (remove_entry (nat_eq n) t)
remove-live o p n [] = refl
remove-live o p n (e ∷ t) = by_test (n == e.0) (remove-live o p n t) where
  by_test : (same : Bool) → remove_entry (nat_eq n) (live_all o p t) ≡ live_all o p (remove_entry (nat_eq n) t)
      → cond same (live_all o p t) (live_entry o p e ∷ remove_entry (nat_eq n) (live_all o p t)) ≡ live_all o p (cond same t (e ∷ remove_entry (nat_eq n) t))
  by_test true rest = refl
  by_test false rest = ap (λ es. live_entry o p e ∷ es) rest

last-live : (o : ℕ) (p : PolicyValue) (n : ℕ) (r : Receiving) (t : List (ℕ × Receiving))
    → remove_entry (nat_eq n) (live_all o p t) ++ (n, live o p n r) ∷ [] ≡ live_all o p (remove_entry (nat_eq n) t ++ (n, r) ∷ [])
last-live o p n r t = ap (λ es. es ++ (n, live o p n r) ∷ []) (remove-live o p n t) ∙ sym (map-append (live_entry o p) (remove_entry (nat_eq n) t) ((n, r) ∷ []))

-- sessions whose numbers are distinct, by their states
pub record Live (o : ℕ) (p : PolicyValue) (es : List (ℕ × SessionValue Receiving)) (t : List (ℕ × Receiving)) : Type 0 where
  pub is : es ≡ live_all o p t
  pub table : table_of es ≡ t
  pub numbers : keys_of es ≡ keys_of t

pub live-of : (o : ℕ) (p : PolicyValue) (es : List (ℕ × SessionValue Receiving)) (t : List (ℕ × Receiving)) → es ≡ live_all o p t → Live o p es t
live-of o p es t is = record {
  is = is;
  table = ap (λ xs. table_of xs) is ∙ table_of-live_all o p t;
  numbers = ap (λ xs. keys_of xs) is ∙ keys_of-live_all o p t;
}

pub distinct-live : (o : ℕ) (p : PolicyValue) (es : List (ℕ × SessionValue Receiving)) → AreLive o p es → IsDistinct nat_eq (keys_of es) → IsDistinct nat_eq (keys_of (table_of es))
distinct-live o p es are_live distinct = subst (λ ks. IsDistinct nat_eq ks) (live-of o p es (table_of es) are_live).numbers distinct

-- what is kept after a change that touched session n where it is kept on
pub record Changed (o : ℕ) (p : PolicyValue) (n : ℕ) (change : Change Receiving) (t : List (ℕ × Receiving)) (es : List (ℕ × SessionValue Receiving)) : Type 0 where
  pub now : List (ℕ × Receiving)
  pub is : es ≡ live_all o p now
  pub next : by_number now ≡ settled n change (by_number t)
  pub touched : keys_of now ≡ touched_after n change (keys_of t)

set-same_state : (o : ℕ) (p : PolicyValue) (n : ℕ) (r : Receiving) (t : List (ℕ × Receiving)) → find n t ≡ Some r
    → set_value (nat_eq n) (live_all o p t) (live o p n r) ≡ live_all o p t
set-same_state o p n r t found = set_value_same (nat_eq n) (live_all o p t) (live o p n r)
    (sym (looked-up n (live_all o p t)) ∙ (lookup-live_all o p n t ∙ ap (λ k. option_map (live o p n) k) found))

changed-last : (o : ℕ) (p : PolicyValue) (n : ℕ) (r s : Receiving) (t : List (ℕ × Receiving)) → IsDistinct nat_eq (keys_of t) → find n t ≡ Some r
    → Changed o p n (keeps s) t (with_touched n (set_value (nat_eq n) (live_all o p t) (live o p n s)))
changed-last o p n r s t distinct found =
    let held = set_value (nat_eq n) t s in
    let there : find n held ≡ Some s = find-set_here n s r t found in
    let looked : lookup (nat_eq n) (live_all o p held) ≡ Some (live o p n s) =
    sym (looked-up n (live_all o p held)) ∙ (lookup-live_all o p n held ∙ ap (λ k. option_map (live o p n) k) there) in
    record {
      now = remove_entry (nat_eq n) t ++ (n, s) ∷ [];
      is = ap (λ es. with_touched n es) (set-live o p n s t) ∙ (ap (λ k. then_last n k (live_all o p held)) looked
          ∙ (last-live o p n s held ∙ ap (λ xs. live_all o p (xs ++ (n, s) ∷ [])) (remove-set n s t)));
      next = by_number-last n s t distinct;
      touched = keys-last n s t distinct;
    }

pub changed-gone : (o : ℕ) (p : PolicyValue) (n : ℕ) (t : List (ℕ × Receiving)) → IsDistinct nat_eq (keys_of t)
    → Changed o p n ends t (remove_entry (nat_eq n) (live_all o p t))
changed-gone o p n t distinct =
    record { now = remove_entry (nat_eq n) t; is = remove-live o p n t; next = by_number-removed n t distinct; touched = keys-removed n t distinct }

changed-by : (o : ℕ) (p : PolicyValue) (n : ℕ) (r : Receiving) (change : Change Receiving) (t : List (ℕ × Receiving)) (over touches : Bool) → IsDistinct nat_eq (keys_of t) → find n t ≡ Some r
    → over ≡ not (is_some (after change (Some r))) → Touches change touches
    → Changed o p n change t (moved n over touches (set_value (nat_eq n) (live_all o p t) (changed (live o p n r) change)))
changed-by o p n r stays t over touches distinct found is_over to =
    rw (is_over, to) (record { now = t; is = set-same_state o p n r t found; next = refl; touched = refl })
changed-by o p n r (keeps s) t over touches distinct found is_over to = rw (is_over, to) (changed-last o p n r s t distinct found)
changed-by o p n r ends t over touches distinct found is_over to =
    rw (is_over, remove-set n (changed (live o p n r) ends) (live_all o p t)) (changed-gone o p n t distinct)

pub keeps-changed : (o : ℕ) (p : PolicyValue) (n : ℕ) (change : Change Receiving) (old new : Inbound) → AreLive o p old.receivers.entries
    → Changed o p n change (table_of old.receivers.entries) new.receivers.entries → new.closed ≡ closed_after n change old.closed
    → Keeps o p new (settled_in (inbound_of old) n change)
keeps-changed o p n change old new are_live is closed =
    let before = live-of o p old.receivers.entries (table_of old.receivers.entries) are_live in
    let later = live-of o p new.receivers.entries is.now is.is in
    record {
      live = live-table o p new.receivers.entries is.now is.is;
      is = inbound-same new (settled_in (inbound_of old) n change) (ap (λ t. by_number t) later.table ∙ is.next)
          (later.numbers ∙ (is.touched ∙ ap (λ ks. touched_after n change ks) (sym before.numbers))) closed;
    } where
      inbound-same : (i : Inbound) (v : InboundValue) → by_number (table_of i.receivers.entries) ≡ v.receivers → keys_of i.receivers.entries ≡ v.touched → i.closed ≡ v.closed → inbound_of i ≡ v
      inbound-same i v receivers touched closed = rw (receivers, touched, closed) refl

pub receives-kept : (o : ℕ) (p : PolicyValue) (n : ℕ) (f : PolicyValue → Option Receiving → StepValue Receiving) (old new : Inbound)
    (mid : List (ℕ × SessionValue Receiving)) (v w : SessionValue Receiving) (over touches : Bool) (told : Step)
    → AreLive o p old.receivers.entries → lookup (nat_eq n) old.receivers.entries ≡ Some v → IsDistinct nat_eq (keys_of old.receivers.entries)
    → w ≡ changed v (f v.policy v.kept).next → told ≡ answer_of v.name (f v.policy v.kept) → over ≡ not (is_some w.kept)
    → ((r : Receiving) → v ≡ live o p n r → Touches (f p (Some r)).next touches)
    → mid ≡ set_value (nat_eq n) old.receivers.entries w → new.receivers.entries ≡ moved n over touches mid → new.closed ≡ closed_if n over old.closed
    → Receives o p n (f p (find n (inbound_of old).receivers)) old new told
receives-kept o p n f old new mid v w over touches told are_live holds distinct moved_to answered is_over touch written moved_is closed_is =
    let found = found-live o p n old.receivers.entries v are_live (looked-up n old.receivers.entries ∙ holds) in
    go found.state found.is found.found where
      t : List (ℕ × Receiving)
      t = table_of old.receivers.entries

      go : (r : Receiving) → v ≡ live o p n r → find n t ≡ Some r → Receives o p n (f p (find n (inbound_of old).receivers)) old new told
      go r is at =
          let to : w ≡ changed (live o p n r) (f p (Some r)).next = subst (λ x. w ≡ changed x (f x.policy x.kept).next) is moved_to in
          let said : told ≡ answer_of (record { originator = o; number = n }) (f p (Some r)) = subst (λ x. told ≡ answer_of x.name (f x.policy x.kept)) is answered in
          let ended : over ≡ not (is_some (after (f p (Some r)).next (Some r))) = subst (λ x. over ≡ not (is_some x.kept)) to is_over in
          let here : new.receivers.entries ≡ moved n over touches (set_value (nat_eq n) (live_all o p t) (changed (live o p n r) (f p (Some r)).next)) =
          moved_is ∙ ap (λ es. moved n over touches es) (written ∙ (ap (λ x. set_value (nat_eq n) old.receivers.entries x) to
          ∙ ap (λ es. set_value (nat_eq n) es (changed (live o p n r) (f p (Some r)).next)) are_live)) in
          rw (find-by_number n t ∙ at) (record {
            next = keeps-changed o p n (f p (Some r)).next old new are_live
                (subst (λ es. Changed o p n (f p (Some r)).next t es) (sym here)
                (changed-by o p n r (f p (Some r)).next t over touches (distinct-live o p old.receivers.entries are_live distinct) at ended (touch r is)))
                (closed_is ∙ closed-is n r (f p (Some r)).next over old.closed ended);
            says = said;
          })

pub absent-of : (o : ℕ) (p : PolicyValue) (n : ℕ) (old : Inbound) → AreLive o p old.receivers.entries → lookup (nat_eq n) old.receivers.entries ≡ None
    → find n (inbound_of old).receivers ≡ None
absent-of o p n old are_live holds =
    find-by_number n (table_of old.receivers.entries) ∙ absent-live o p n old.receivers.entries are_live (looked-up n old.receivers.entries ∙ holds)

pub keeps-same_entries : (o : ℕ) (p : PolicyValue) (old new : Inbound) → AreLive o p old.receivers.entries → new.receivers.entries ≡ old.receivers.entries
    → new.closed ≡ old.closed → Keeps o p new (inbound_of old)
keeps-same_entries o p old new are_live same closed = record { live = rw same are_live; is = rw (same, closed) refl }

pub receives-absent : (o : ℕ) (p : PolicyValue) (n : ℕ) (f : PolicyValue → Option Receiving → StepValue Receiving) (old new : Inbound) (told : Step)
    → AreLive o p old.receivers.entries → lookup (nat_eq n) old.receivers.entries ≡ None → (f p None).next ≡ stays
    → new.receivers.entries ≡ old.receivers.entries → new.closed ≡ old.closed
    → told ≡ answer_of (record { originator = o; number = n }) (f p None)
    → Receives o p n (f p (find n (inbound_of old).receivers)) old new told
receives-absent o p n f old new told are_live holds unmoved same closed answered =
    rw (absent-of o p n old are_live holds) (record { next = rw unmoved (keeps-same_entries o p old new are_live same closed); says = answered })

-- a session ticks
pub turned-kept : (o : ℕ) (p : PolicyValue) (n : ℕ) (f : PolicyValue → Option Receiving → StepValue Receiving)
    (old mid new : List (ℕ × SessionValue Receiving)) (v w : SessionValue Receiving) (over : Bool) (told : Step)
    → AreLive o p old → lookup (nat_eq n) old ≡ Some v → IsDistinct nat_eq (keys_of old)
    → w ≡ changed v (f v.policy v.kept).next → told ≡ answer_of v.name (f v.policy v.kept) → over ≡ not (is_some w.kept)
    → mid ≡ set_value (nat_eq n) old w → new ≡ moved n over false mid
    → Turns o p n (f p (find n (by_number (table_of old)))) old new told
turned-kept o p n f old mid new v w over told are_live holds distinct moved_to answered is_over written moved_is =
    let found = found-live o p n old v are_live (looked-up n old ∙ holds) in
    go found.state found.is found.found where
      t : List (ℕ × Receiving)
      t = table_of old

      apart : IsDistinct nat_eq (keys_of t)
      apart = distinct-live o p old are_live distinct

      turned : (change : Change Receiving) (now : List (ℕ × Receiving)) → new ≡ live_all o p now → by_number now ≡ settled n change (by_number t)
          → keys_of now ≡ numbers_after n change (keys_of t) → (step : StepValue Receiving) → step.next ≡ change → told ≡ answer_of (record { originator = o; number = n }) step
          → Turns o p n step old new told
      turned change now is next numbers step same says = record {
        live = live-table o p new now is;
        next = ap (λ xs. by_number xs) (live-of o p new now is).table ∙ (next ∙ ap (λ c. settled n c (by_number t)) (sym same));
        numbers = (live-of o p new now is).numbers ∙ (numbers ∙ (ap (λ c. numbers_after n c (keys_of t)) (sym same) ∙ ap (λ ks. numbers_after n step.next ks) (sym (live-of o p old t are_live).numbers)));
        says = says;
      }

      by_change : (r : Receiving) (step : StepValue Receiving) → find n t ≡ Some r → told ≡ answer_of (record { originator = o; number = n }) step
          → (change : Change Receiving) → step.next ≡ change → over ≡ not (is_some (after change (Some r)))
          → new ≡ moved n over false (set_value (nat_eq n) (live_all o p t) (changed (live o p n r) change)) → Turns o p n step old new told
      by_change r step at says stays is ended here =
          turned stays t (subst (λ b. new ≡ moved n b false (set_value (nat_eq n) (live_all o p t) (live o p n r))) ended here ∙ set-same_state o p n r t at) refl refl step is says
      by_change r step at says (keeps s) is ended here =
          turned (keeps s) (set_value (nat_eq n) t s) (subst (λ b. new ≡ moved n b false (set_value (nat_eq n) (live_all o p t) (live o p n s))) ended here ∙ set-live o p n s t)
          (by_number-set n s r t at) (keys-set_value (nat_eq n) t s) step is says
      by_change r step at says ends is ended here =
          turned ends (remove_entry (nat_eq n) t) (subst (λ b. new ≡ moved n b false (set_value (nat_eq n) (live_all o p t) (changed (live o p n r) ends))) ended here
          ∙ (remove-set n (changed (live o p n r) ends) (live_all o p t) ∙ remove-live o p n t)) (by_number-removed n t apart) (keys-removed n t apart) step is says

      go : (r : Receiving) → v ≡ live o p n r → find n t ≡ Some r → Turns o p n (f p (find n (by_number (table_of old)))) old new told
      go r is at =
          let to : w ≡ changed (live o p n r) (f p (Some r)).next = subst (λ x. w ≡ changed x (f x.policy x.kept).next) is moved_to in
          let said : told ≡ answer_of (record { originator = o; number = n }) (f p (Some r)) = subst (λ x. told ≡ answer_of x.name (f x.policy x.kept)) is answered in
          let ended : over ≡ not (is_some (after (f p (Some r)).next (Some r))) = subst (λ x. over ≡ not (is_some x.kept)) to is_over in
          rw (find-by_number n t ∙ at) (by_change r (f p (Some r)) at said (f p (Some r)).next refl ended
          (moved_is ∙ ap (λ es. moved n over false es) (written ∙ (ap (λ x. set_value (nat_eq n) old x) to
          ∙ ap (λ es. set_value (nat_eq n) es (changed (live o p n r) (f p (Some r)).next)) are_live))))

pub turned-absent : (o : ℕ) (p : PolicyValue) (n : ℕ) (f : PolicyValue → Option Receiving → StepValue Receiving) (old new : List (ℕ × SessionValue Receiving)) (told : Step)
    → AreLive o p old → lookup (nat_eq n) old ≡ None → (f p None).next ≡ stays → new ≡ old → told ≡ answer_of (record { originator = o; number = n }) (f p None)
    → Turns o p n (f p (find n (by_number (table_of old)))) old new told
turned-absent o p n f old new told are_live holds unmoved same answered =
    rw (find-by_number n (table_of old) ∙ absent-live o p n old are_live (looked-up n old ∙ holds))
    (record { live = rw same are_live; next = rw (unmoved, same) refl; numbers = rw (unmoved, same) refl; says = answered })

pub over-kept : (o : ℕ) (p : PolicyValue) (n : ℕ) (f : PolicyValue → Option Receiving → StepValue Receiving) (old : List (ℕ × SessionValue Receiving))
    (v w : SessionValue Receiving) (over : Bool) → AreLive o p old → lookup (nat_eq n) old ≡ Some v
    → w ≡ changed v (f v.policy v.kept).next → over ≡ not (is_some w.kept) → over ≡ is_ended (f p (find n (by_number (table_of old)))).next
over-kept o p n f old v w over are_live holds moved_to is_over =
    ended-kept o p n f old v w over are_live (looked-up n old ∙ holds) moved_to is_over ∙ ap (λ k. is_ended (f p k).next) (sym (find-by_number n (table_of old)))

pub over-absent : (o : ℕ) (p : PolicyValue) (n : ℕ) (f : PolicyValue → Option Receiving → StepValue Receiving) (old : List (ℕ × SessionValue Receiving))
    → AreLive o p old → lookup (nat_eq n) old ≡ None → (f p None).next ≡ stays → false ≡ is_ended (f p (find n (by_number (table_of old)))).next
over-absent o p n f old are_live holds unmoved =
    ended-absent o p n f old are_live (looked-up n old ∙ holds) unmoved ∙ ap (λ k. is_ended (f p k).next) (sym (find-by_number n (table_of old)))

pub whole-kept : (o : ℕ) (p : PolicyValue) (n : ℕ) (old : List (ℕ × SessionValue Receiving)) (v : SessionValue Receiving)
    → AreLive o p old → lookup (nat_eq n) old ≡ Some v → v.spent ≡ false
whole-kept o p n old v are_live holds = whole-live o p n old v are_live (looked-up n old ∙ holds)

-- the sessions that have a place in the order of touch are those that are kept
pub in-order : (o : ℕ) (p : PolicyValue) (i : Inbound) → AreLive o p i.receivers.entries
    → (n : ℕ) → list_any (λ m. m == n) (inbound_of i).touched ≡ is_some (find n (inbound_of i).receivers)
in-order o p i are_live n =
    ap (λ ks. list_any (λ m. m == n) ks) (live-of o p i.receivers.entries (table_of i.receivers.entries) are_live).numbers
    ∙ (order-of n (table_of i.receivers.entries) ∙ ap (λ k. is_some k) (sym (find-by_number n (table_of i.receivers.entries))))

-- all sessions ticked, and those that are over were closed
pub keeps-ticked : (o : ℕ) (p : PolicyValue) (now : ℕ) (old mid new : Inbound) (over : List ℕ) → AreLive o p mid.receivers.entries
    → keys_of mid.receivers.entries ≡ untouched_all over (keys_of old.receivers.entries) → by_number (table_of mid.receivers.entries) ≡ ticked (receiver_change p now) (inbound_of old).receivers
    → over ≡ ended (receiver_change p now) (inbound_of old).receivers → mid.closed ≡ old.closed
    → new.receivers.entries ≡ mid.receivers.entries → new.closed ≡ all_closed over mid.closed → Keeps o p new (ticked_in p now (inbound_of old))
keeps-ticked o p now old mid new over are_live numbers table is same entries closed = record {
  live = rw entries are_live;
  is = by_parts (ticked_in p now (inbound_of old)) (ap (λ es. by_number (table_of es)) entries ∙ table)
      (ap (λ es. keys_of es) entries ∙ (numbers ∙ ap (λ ns. untouched_all ns (keys_of old.receivers.entries)) is))
      (closed ∙ (ap (λ c. all_closed over c) same ∙ ap (λ ns. all_closed ns old.closed) is));
} where
  by_parts : (v : InboundValue) → by_number (table_of new.receivers.entries) ≡ v.receivers → keys_of new.receivers.entries ≡ v.touched → new.closed ≡ v.closed → inbound_of new ≡ v
  by_parts v receivers touched closed = rw (receivers, touched, closed) refl

-- the least deadline is the same in any order
pub least-ordered : (o : ℕ) (p : PolicyValue) (i : Inbound) (least : Option ℕ) → AreLive o p i.receivers.entries → IsDistinct nat_eq (keys_of i.receivers.entries)
    → least ≡ least_deadline receiver_deadline (table_of i.receivers.entries) → least ≡ least_deadline receiver_deadline (inbound_of i).receivers
least-ordered o p i least are_live distinct is =
    is ∙ sym (least-by_number receiver_deadline (table_of i.receivers.entries) (distinct-live o p i.receivers.entries are_live distinct))

-- the numbers, sorted
pub numbers-ordered : (o : ℕ) (p : PolicyValue) (i : Inbound) (xs : List ℕ) → AreLive o p i.receivers.entries → IsDistinct nat_eq (keys_of i.receivers.entries)
    → IsPermutation (keys_of i.receivers.entries) xs → IsSorted nat_cmp xs → xs ≡ keys_of (inbound_of i).receivers
numbers-ordered o p i xs are_live distinct moves sorted =
    numbers-sorted (table_of i.receivers.entries) xs (distinct-live o p i.receivers.entries are_live distinct)
    (subst (λ ks. IsPermutation ks xs) (live-of o p i.receivers.entries (table_of i.receivers.entries) are_live).numbers moves) sorted

-- nothing was received
pub keeps-none : (o : ℕ) (p : PolicyValue) (i : Inbound) → i.receivers.entries ≡ [] → i.closed ≡ none_closed → Keeps o p i nothing_received
unfolding by_number
keeps-none o p i none closed = record { live = rw none refl; is = rw (none, closed) refl }
