-- What is told, one after the other.

use Rattle.std.proofs.Common.{◌≡◌, ℕ, ◌+◌, ◌<◌, ◌≤◌, List, ◌∷◌, map, length, drop, get_or, Option, None, Some, refl, sym, ap, subst, ◌∙◌}
use Rattle.std.proofs.lemmas.List.{at_drop_more, drop_all, get_or-map, length-map}
use Rattle.std.specs.List.{cons_option}
use Rattle.gate_log.specs.declared.event.Event.{Event}
use Rattle.gate_log.specs.declared.subject.Subject.{Subject}
use Rattle.gate_events.specs.Own.{OpenAt}
use Rattle.gate_events.specs.Log.{LogValue, after_saying_all}
use Rattle.peer_gateway.specs.declared.told.RemarkAt.{RemarkAt}
use Rattle.peer_gateway.specs.Answers.{remark_seen, told_seen}
use Rattle.peer_events.specs.declared.own.OwnBlock.{OwnBlock}
use Rattle.peer_events.specs.Events.{about_after, event_of, events_from, own_after, own_left}
use Rattle.peer_events.specs.Named.{AllNamed, IsNamedAt, IsNamedTold}
use Rattle.peer_events.specs.Said.{after_event}

-- what is left is told
abbrev pub LeavesOwn : OpenAt → List OwnBlock → List RemarkAt → List OwnBlock → Type 0
LeavesOwn is_open own told whole = own_left is_open own (map told_seen told) ≡ whole

abbrev pub LeavesSaid : OpenAt → List OwnBlock → Option Subject → List RemarkAt → LogValue → LogValue → Type 0
LeavesSaid is_open own about told log whole =
    after_saying_all (events_from is_open own about (map told_seen told)) log ≡ whole

-- the things from a place on
from-place : {Y : Type 0} (f : List RemarkAt → Y) (ts : List RemarkAt) (i : ℕ) (t : RemarkAt) → i < length ts → t ≡ get_or ts i t
    → f (drop i ts) ≡ f (t ∷ drop (i + 1) ts)
from-place f ts i t low is = at_drop_more f ts i t low ∙ ap (λ u. f (u ∷ drop (i + 1) ts)) (sym is)

own-step : (is_open : OpenAt) (own : List OwnBlock) (ts : List RemarkAt) (i : ℕ) (t : RemarkAt) → i < length ts → t ≡ get_or ts i t
    → own_left is_open own (map told_seen (drop i ts))
    ≡ own_left is_open (own_after is_open t.face (remark_seen t.remark) own) (map told_seen (drop (i + 1) ts))
unfolding own_left
own-step is_open own ts i t low is = from-place (λ us. own_left is_open own (map told_seen us)) ts i t low is

said-one : (o : Option Event) (more : List Event) (log : LogValue)
    → after_saying_all (cons_option o more) log ≡ after_saying_all more (after_event o log)
unfolding after_saying_all
said-one None more log = refl
said-one (Some event) more log = refl

said-step : (is_open : OpenAt) (own : List OwnBlock) (about : Option Subject) (ts : List RemarkAt) (log : LogValue) (i : ℕ) (t : RemarkAt) → i < length ts → t ≡ get_or ts i t
    → after_saying_all (events_from is_open own about (map told_seen (drop i ts))) log
    ≡ after_saying_all (events_from is_open (own_after is_open t.face (remark_seen t.remark) own) (about_after (remark_seen t.remark) about)
    (map told_seen (drop (i + 1) ts))) (after_event (event_of is_open own about t.face (remark_seen t.remark)) log)
unfolding events_from
said-step is_open own about ts log i t low is =
    from-place (λ us. after_saying_all (events_from is_open own about (map told_seen us)) log) ts i t low is
    ∙ said-one (event_of is_open own about t.face (remark_seen t.remark)) _ log

pub own-end : (is_open : OpenAt) (own : List OwnBlock) (ts : List RemarkAt) (i : ℕ) → length ts ≤ i
    → own_left is_open own (map told_seen (drop i ts)) ≡ own
unfolding own_left
own-end is_open own ts i high = ap (λ us. own_left is_open own (map told_seen us)) (drop_all i ts high)

pub said-end : (is_open : OpenAt) (own : List OwnBlock) (about : Option Subject) (ts : List RemarkAt) (log : LogValue) (i : ℕ) → length ts ≤ i
    → after_saying_all (events_from is_open own about (map told_seen (drop i ts))) log ≡ log
unfolding events_from after_saying_all
said-end is_open own about ts log i high =
    ap (λ us. after_saying_all (events_from is_open own about (map told_seen us)) log) (drop_all i ts high)

-- one thing more was told
pub own-next : (is_open : OpenAt) (own own_now whole : List OwnBlock) (ts : List RemarkAt) (i : ℕ) (t : RemarkAt) → i < length ts → t ≡ get_or ts i t
    → own_now ≡ own_after is_open t.face (remark_seen t.remark) own
    → LeavesOwn is_open own (drop i ts) whole → LeavesOwn is_open own_now (drop (i + 1) ts) whole
own-next is_open own own_now whole ts i t low is own_is so_far =
    rw own_is (sym (own-step is_open own ts i t low is) ∙ so_far)

pub said-next : (is_open : OpenAt) (own own_now : List OwnBlock) (about about_now : Option Subject) (log log_now whole : LogValue) (ts : List RemarkAt) (i : ℕ) (t : RemarkAt) → i < length ts → t ≡ get_or ts i t
    → own_now ≡ own_after is_open t.face (remark_seen t.remark) own → about_now ≡ about_after (remark_seen t.remark) about
    → log_now ≡ after_event (event_of is_open own about t.face (remark_seen t.remark)) log
    → LeavesSaid is_open own about (drop i ts) log whole → LeavesSaid is_open own_now about_now (drop (i + 1) ts) log_now whole
said-next is_open own own_now about about_now log log_now whole ts i t low is own_is about_is log_is so_far =
    rw (own_is, about_is, log_is) (sym (said-step is_open own about ts log i t low is) ∙ so_far)

-- what is told is named
pub named-here : (ts : List RemarkAt) (i : ℕ) (t : RemarkAt) → AllNamed (map told_seen ts) → i < length ts → t ≡ get_or ts i t
    → IsNamedTold (remark_seen t.remark)
named-here ts i t named low is =
    let there = named i (told_seen t) (subst (λ n. i < n) (sym (length-map ts told_seen)) low) in
    subst IsNamedAt (get_or-map told_seen ts i t (told_seen t) low ∙ ap told_seen (sym is)) there
