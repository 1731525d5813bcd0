-- Where each block is one piece.

use Rattle.std.proofs.Common.{◌≡◌, ℕ, ◌≤◌, Bool, true, false, if◌then◌else◌, List, [], ◌∷◌, map, Option, None, Some, IfSome, refl, ap, ◌∙◌}
use Rattle.std.specs.List.{AllByRecursion}
use Rattle.std.specs.Option.{option_map}
use Rattle.ltp_segment.specs.declared.session.Note.{Note}
use Rattle.ltp_segment.specs.declared.session.Note.TheVariants as engine
use Rattle.gate_cases.specs.declared.face.Face.{Face}
use Rattle.gate_log.specs.declared.event.Event.TheVariants as events
use Rattle.gate_log.specs.declared.event.BundleEvent.TheVariants as bundles
use Rattle.gate_events.specs.Own as plain_own
use Rattle.gate_events.specs.Own.{OpenAt}
use Rattle.gate_events.specs.Events as plain
use Rattle.peer_events.specs.declared.own.OwnBlock.{OwnBlock}
use Rattle.peer_events.specs.Own.{end_of, find_own, is_of, left_by, own_seen, without_own}
use Rattle.peer_events.specs.Events.{cancelled_event, engine_event, events_from, failed_event, own_left, own_noted, sent_event}
use Rattle.peer_events.specs.Laws.{AloneAsPlain, note_of, plain_seen}
use Rattle.peer_events.proofs.EndLemmas.{several-one}

abbrev IsAlone : OwnBlock → Type 0
IsAlone block = block.pieces ≤ 1

-- ---- one of them

find-plain : (face : Face) (session : ℕ) (own : List OwnBlock)
    → option_map own_seen (find_own face session own) ≡ plain_own.find_own face session (map own_seen own)
unfolding find_own plain_own.find_own
find-plain face session [] = refl
find-plain face session (own ∷ more) = by (is_of face session own) (find-plain face session more)
  where
    by : (b : Bool) → option_map own_seen (find_own face session more) ≡ plain_own.find_own face session (map own_seen more)
        → option_map own_seen (if b then Some own else find_own face session more)
        ≡ (if b then Some (own_seen own) else plain_own.find_own face session (map own_seen more))
    by true rest = refl
    by false rest = rest

without-plain : (face : Face) (session : ℕ) (own : List OwnBlock)
    → map own_seen (without_own face session own) ≡ plain_own.without_own face session (map own_seen own)
unfolding without_own plain_own.without_own
without-plain face session [] = refl
without-plain face session (own ∷ more) = by (is_of face session own) (without-plain face session more)
  where
    by : (b : Bool) → map own_seen (without_own face session more) ≡ plain_own.without_own face session (map own_seen more)
        → map own_seen (if b then more else own ∷ without_own face session more)
        ≡ (if b then map own_seen more else own_seen own ∷ plain_own.without_own face session (map own_seen more))
    by true rest = refl
    by false rest = ap (λ os. own_seen own ∷ os) rest

end-plain : (is_open : OpenAt) (face : Face) (session : ℕ) (own : List OwnBlock)
    → option_map own_seen (end_of is_open face session own) ≡ plain_own.end_of is_open face session (map own_seen own)
end-plain is_open face session own = by (is_open face session)
  where
    by : (b : Bool) → option_map own_seen (if b then None else find_own face session own)
        ≡ (if b then None else plain_own.find_own face session (map own_seen own))
    by true = refl
    by false = find-plain face session own

left-plain : (is_open : OpenAt) (face : Face) (session : ℕ) (own : List OwnBlock)
    → map own_seen (left_by is_open face session own) ≡ plain_own.left_by is_open face session (map own_seen own)
left-plain is_open face session own = by (is_open face session)
  where
    by : (b : Bool) → map own_seen (if b then own else without_own face session own)
        ≡ (if b then map own_seen own else plain_own.without_own face session (map own_seen own))
    by true = refl
    by false = without-plain face session own

-- ---- they stay alone

alone-without : (face : Face) (session : ℕ) (own : List OwnBlock) → AllByRecursion IsAlone own → AllByRecursion IsAlone (without_own face session own)
unfolding without_own
alone-without face session [] alone = tt
alone-without face session (own ∷ more) alone = by (is_of face session own) (alone-without face session more alone.1)
  where
    by : (b : Bool) → AllByRecursion IsAlone (without_own face session more) → AllByRecursion IsAlone (if b then more else own ∷ without_own face session more)
    by true rest = alone.1
    by false rest = (alone.0, rest)

alone-left : (is_open : OpenAt) (face : Face) (session : ℕ) (own : List OwnBlock) → AllByRecursion IsAlone own
    → AllByRecursion IsAlone (left_by is_open face session own)
alone-left is_open face session own alone = by (is_open face session)
  where
    by : (b : Bool) → AllByRecursion IsAlone (if b then own else without_own face session own)
    by true = alone
    by false = alone-without face session own alone

alone-found : (face : Face) (session : ℕ) (own : List OwnBlock) → AllByRecursion IsAlone own → IfSome (find_own face session own) IsAlone
unfolding find_own
alone-found face session [] alone = tt
alone-found face session (own ∷ more) alone = by (is_of face session own) (alone-found face session more alone.1)
  where
    by : (b : Bool) → IfSome (find_own face session more) IsAlone → IfSome (if b then Some own else find_own face session more) IsAlone
    by true rest = alone.0
    by false rest = rest

alone-end : (is_open : OpenAt) (face : Face) (session : ℕ) (own : List OwnBlock) → AllByRecursion IsAlone own → IfSome (end_of is_open face session own) IsAlone
alone-end is_open face session own alone = by (is_open face session)
  where
    by : (b : Bool) → IfSome (if b then None else find_own face session own) IsAlone
    by true = tt
    by false = alone-found face session own alone

-- ---- a note

sent-plain : (face : Face) (session : ℕ) (end : Option OwnBlock) → IfSome end IsAlone
    → sent_event face session end ≡ events.Bundle face session (plain.carried (option_map own_seen end)) (bundles.Sent None)
sent-plain face session None alone = refl
sent-plain face session (Some own) alone =
    ap (λ o. events.Bundle face session own.subject (bundles.Sent o)) (several-one own.pieces alone)

failed-plain : (face : Face) (session reason : ℕ) (end : Option OwnBlock) → IfSome end IsAlone
    → failed_event face session reason end ≡ plain.failed_event face session reason (option_map own_seen end)
failed-plain face session reason None alone = refl
failed-plain face session reason (Some own) alone =
    ap (λ o. events.Bundle face session own.subject (bundles.Failed o reason)) (several-one own.pieces alone)

cancelled-plain : (face : Face) (session reason : ℕ) (end : Option OwnBlock) → IfSome end IsAlone
    → cancelled_event face session reason end ≡ plain.cancelled_event face session reason (option_map own_seen end)
cancelled-plain face session reason None alone = refl
cancelled-plain face session reason (Some own) alone =
    ap (λ o. events.Bundle face session own.subject (bundles.Cancelled o reason)) (several-one own.pieces alone)

note-plain : (is_open : OpenAt) (own : List OwnBlock) (face : Face) (note : Note) → AllByRecursion IsAlone own
    → engine_event is_open own face note ≡ plain.engine_event is_open (map own_seen own) face note
note-plain is_open own face (engine.Sent session) alone =
    sent-plain face session (end_of is_open face session own) (alone-end is_open face session own alone)
    ∙ ap (λ end. events.Bundle face session (plain.carried end) (bundles.Sent None)) (end-plain is_open face session own)
note-plain is_open own face (engine.Failed session reason) alone =
    failed-plain face session reason (end_of is_open face session own) (alone-end is_open face session own alone)
    ∙ ap (plain.failed_event face session reason) (end-plain is_open face session own)
note-plain is_open own face (engine.Refused session service) alone = refl
note-plain is_open own face (engine.Cancelled session reason) alone =
    cancelled-plain face session reason (end_of is_open face session own) (alone-end is_open face session own alone)
    ∙ ap (plain.cancelled_event face session reason) (end-plain is_open face session own)
note-plain is_open own face (engine.Evicted session) alone = refl
note-plain is_open own face engine.Stranger alone = refl
note-plain is_open own face (engine.BadSegment at cause) alone = refl
note-plain is_open own face (engine.BadBounds session) alone = refl
note-plain is_open own face (engine.Closed session) alone = refl
note-plain is_open own face (engine.HistoryFull session) alone = refl

-- what it leaves
record LeavesPlain (is_open : OpenAt) (own : List OwnBlock) (face : Face) (note : Note) : Type 0 where
  alone : AllByRecursion IsAlone (own_noted is_open face note own)
  same : map own_seen (own_noted is_open face note own) ≡ plain.own_after is_open face note (map own_seen own)

leaves-end : (is_open : OpenAt) (own : List OwnBlock) (face : Face) (session : ℕ) → AllByRecursion IsAlone own
    → AllByRecursion IsAlone (left_by is_open face session own)
    × (map own_seen (left_by is_open face session own) ≡ plain_own.left_by is_open face session (map own_seen own))
leaves-end is_open own face session alone = (alone-left is_open face session own alone, left-plain is_open face session own)

leaves-plain : (is_open : OpenAt) (own : List OwnBlock) (face : Face) (note : Note) → AllByRecursion IsAlone own → LeavesPlain is_open own face note
leaves-plain is_open own face (engine.Sent session) alone =
    let left = leaves-end is_open own face session alone in record { alone = left.0; same = left.1 }
leaves-plain is_open own face (engine.Failed session reason) alone =
    let left = leaves-end is_open own face session alone in record { alone = left.0; same = left.1 }
leaves-plain is_open own face (engine.Refused session service) alone = record { alone = alone; same = refl }
leaves-plain is_open own face (engine.Cancelled session reason) alone =
    let left = leaves-end is_open own face session alone in record { alone = left.0; same = left.1 }
leaves-plain is_open own face (engine.Evicted session) alone = record { alone = alone; same = refl }
leaves-plain is_open own face engine.Stranger alone = record { alone = alone; same = refl }
leaves-plain is_open own face (engine.BadSegment at cause) alone = record { alone = alone; same = refl }
leaves-plain is_open own face (engine.BadBounds session) alone = record { alone = alone; same = refl }
leaves-plain is_open own face (engine.Closed session) alone = record { alone = alone; same = refl }
leaves-plain is_open own face (engine.HistoryFull session) alone = record { alone = alone; same = refl }

-- ---- all notes

pub alone-as-plain : AloneAsPlain
unfolding events_from own_left plain.events_of plain.own_left
alone-as-plain is_open own [] alone = record { events = refl; left = refl }
alone-as-plain is_open own (n ∷ more) alone =
    let leaves = leaves-plain is_open own n.0 n.1 alone in
    let rest = alone-as-plain is_open (own_noted is_open n.0 n.1 own) more leaves.alone in
    let first = note-plain is_open own n.0 n.1 alone in
    record {
      events = rw (first, rest.events, leaves.same) refl;
      left = rest.left ∙ ap (λ os. plain.own_left (plain_seen is_open) (plain.untold os []) (map note_of more)) leaves.same;
    }
