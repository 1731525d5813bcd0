-- The ends of own sessions.

use Rattle.std.proofs.Common.{◌≡◌, ℕ, ◌+◌, ◌-◌, ◌<◌, ◌≤◌, ◌==◌, nat_lt, Bool, true, false, ◌&&◌, not, cond, if◌then◌else◌, List, [], ◌∷◌, codes, length, Option, None, Some, refl, ap, ◌∙◌, arith}
use Rattle.std.proofs.lemmas.Bool.{eqb-true, lt-ltb, ltb-true}
use Rattle.std.specs.List.{filter, list_all}
use Rattle.std.specs.Option.{option_map}
use Rattle.ltp_segment.specs.declared.session.Note.TheVariants as engine
use Rattle.gate_cases.specs.declared.face.Face.{Face}
use Rattle.gate_cases.specs.declared.face.Face.TheVariants as faces
use Rattle.gateway_core.specs.Gate.{if_same}
use Rattle.gate_log.specs.declared.event.Event.{Event}
use Rattle.gate_log.specs.declared.event.Event.TheVariants as events
use Rattle.gate_log.specs.declared.event.BundleEvent.TheVariants as bundles
use Rattle.gate_log.specs.declared.subject.Subject.{Subject}
use Rattle.gate_log.specs.Values.{count}
use Rattle.gate_events.specs.Own.{OpenAt}
use Rattle.peer_gateway.specs.Gate.{Told, FaceTold, told_engine, told_forgotten, told_green, told_began, told_bundle, told_case, told_left, told_reported, told_unreported, told_end}
use Rattle.peer_events.specs.declared.own.OwnBlock.{OwnBlock}
use Rattle.peer_events.specs.Own.{end_of, find_own, is_of, left_by, without_own}
use Rattle.peer_events.specs.Events.{event_of, own_after, own_left, sent_event, failed_event, cancelled_event, several}
use Rattle.peer_events.specs.Heads.{in_line, under}
use Rattle.peer_events.specs.Laws.{EndsSayBlocks, HasSubject, OwnGoByEnds, SaysBlock, end_count, is_end_at, own_count}
use Rattle.peer_events.proofs.OrderLemmas.{about_left, said-after}

abbrev at : Face → Told → FaceTold
at face told = record { face = face; told = told }

-- a number at a face is another one at a face
abbrev is_same : Face → ℕ → Face → ℕ → Bool
is_same f s face session = if_same f face (s == session) false

same-parts : (f face : Face) (s session : ℕ) → is_same f s face session ≡ true → (f ≡ face) × (s ≡ session)
same-parts faces.Old faces.Old s session is = (refl, eqb-true s session is)
same-parts faces.Old faces.New s session is = absurd (cc)
same-parts faces.New faces.Old s session is = absurd (cc)
same-parts faces.New faces.New s session is = (refl, eqb-true s session is)

never-same : (f face : Face) → if_same f face false false ≡ false
never-same faces.Old faces.Old = refl
never-same faces.Old faces.New = refl
never-same faces.New faces.Old = refl
never-same faces.New faces.New = refl

-- what is one of them isn't another
apart : (a f face : Face) (n s session : ℕ) → is_same a n f s ≡ true → is_same f s face session ≡ false → is_same a n face session ≡ false
apart a f face n s session is other =
    let parts = same-parts a f n s is in rw (parts.0, parts.1) other

-- ---- how many there are

minus-none : (n : ℕ) → n ≡ n - 0
minus-none n = omega arith

one-less : (n : ℕ) → n ≡ n + 1 - 1
one-less n = omega arith

length-one : {X : Type 0} (x : X) (xs : List X) → length (x ∷ xs) ≡ length xs + 1
length-one x xs = omega arith

count-same : (face : Face) (session : ℕ) (own : List OwnBlock)
    → own_count face session (without_own face session own) ≡ own_count face session own - 1
unfolding without_own
count-same face session [] = refl
count-same face session (own ∷ more) = by (is_of face session own) refl (count-same face session more)
  where
    by : (b : Bool) → is_of face session own ≡ b
        → own_count face session (without_own face session more) ≡ own_count face session more - 1
        → own_count face session (if b then more else own ∷ without_own face session more)
        ≡ length (cond b (own ∷ filter (is_of face session) more) (filter (is_of face session) more)) - 1
    by true is rest = rw (length-one own (filter (is_of face session) more)) (one-less (own_count face session more))
    by false is rest = rw is rest

count-other : (f face : Face) (s session : ℕ) (own : List OwnBlock) → is_same f s face session ≡ false
    → own_count face session (without_own f s own) ≡ own_count face session own
unfolding without_own
count-other f face s session [] other = refl
count-other f face s session (own ∷ more) other = by (is_of f s own) (is_of face session own) refl refl (count-other f face s session more other)
  where
    by : (b c : Bool) → is_of f s own ≡ b → is_of face session own ≡ c
        → own_count face session (without_own f s more) ≡ own_count face session more
        → own_count face session (if b then more else own ∷ without_own f s more)
        ≡ length (cond c (own ∷ filter (is_of face session) more) (filter (is_of face session) more))
    by true true is same rest = absurd (let no = apart own.face f face own.session s session is other in cc)
    by true false is same rest = refl
    by false true is same rest =
        rw (same, length-one own (filter (is_of face session) (without_own f s more)), length-one own (filter (is_of face session) more), rest) refl
    by false false is same rest = rw same rest

-- a session that is open stays
left-open : (is_open : OpenAt) (f face : Face) (s session : ℕ) (own : List OwnBlock) → is_open face session ≡ true
    → own_count face session (left_by is_open f s own) ≡ own_count face session own
left-open is_open f face s session own opens = by (is_open f s) (is_same f s face session) refl refl
  where
    by : (b c : Bool) → is_open f s ≡ b → is_same f s face session ≡ c
        → own_count face session (if b then own else without_own f s own) ≡ own_count face session own
    by true c is same = refl
    by false true is same =
        let parts = same-parts f face s session same in
        absurd (let shut : is_open face session ≡ false = rw (parts.0, parts.1) at is in cc)
    by false false is same = count-other f face s session own same

-- one that isn't goes with a note of its end
left-shut : (is_open : OpenAt) (f face : Face) (s session : ℕ) (own : List OwnBlock) → is_open face session ≡ false
    → own_count face session (left_by is_open f s own)
    ≡ own_count face session own - cond (is_same f s face session) 1 0
left-shut is_open f face s session own shut = by (is_open f s) (is_same f s face session) refl refl
  where
    by : (b c : Bool) → is_open f s ≡ b → is_same f s face session ≡ c
        → own_count face session (if b then own else without_own f s own)
        ≡ own_count face session own - cond c 1 0
    by true true is same =
        let parts = same-parts f face s session same in
        absurd (let opens : is_open face session ≡ true = rw (parts.0, parts.1) at is in cc)
    by true false is same = minus-none (own_count face session own)
    by false true is same =
        let parts = same-parts f face s session same in
        let one : without_own f s own ≡ without_own face session own =
        ap (λ g. without_own g s own) parts.0 ∙ ap (λ n. without_own face n own) parts.1 in
        ap (own_count face session) one ∙ count-same face session own
    by false false is same = count-other f face s session own same ∙ minus-none (own_count face session own)

stays-open : (is_open : OpenAt) (face : Face) (session : ℕ) (f : Face) (told : Told) (own : List OwnBlock) → is_open face session ≡ true
    → own_count face session (own_after is_open f told own) ≡ own_count face session own
stays-open is_open face session f (told_engine (engine.Sent s)) own opens = left-open is_open f face s session own opens
stays-open is_open face session f (told_engine (engine.Failed s reason)) own opens = left-open is_open f face s session own opens
stays-open is_open face session f (told_engine (engine.Refused s service)) own opens = refl
stays-open is_open face session f (told_engine (engine.Cancelled s reason)) own opens = left-open is_open f face s session own opens
stays-open is_open face session f (told_engine (engine.Evicted s)) own opens = refl
stays-open is_open face session f (told_engine engine.Stranger) own opens = refl
stays-open is_open face session f (told_engine (engine.BadSegment place cause)) own opens = refl
stays-open is_open face session f (told_engine (engine.BadBounds s)) own opens = refl
stays-open is_open face session f (told_engine (engine.Closed s)) own opens = refl
stays-open is_open face session f (told_engine (engine.HistoryFull s)) own opens = refl
stays-open is_open face session f (told_forgotten runs) own opens = refl
stays-open is_open face session f (told_green green) own opens = refl
stays-open is_open face session f (told_began pieces octets s) own opens = refl
stays-open is_open face session f (told_bundle subject) own opens = refl
stays-open is_open face session f (told_case index s case pieces first) own opens = refl
stays-open is_open face session f (told_left index s left) own opens = refl
stays-open is_open face session f (told_reported index s report) own opens = refl
stays-open is_open face session f (told_unreported index s) own opens = refl
stays-open is_open face session f (told_end index s end) own opens = refl

-- nothing goes
none-goes : (face f : Face) (session : ℕ) (own : List OwnBlock)
    → own_count face session own ≡ own_count face session own - cond (if_same f face false false) 1 0
none-goes face f session own = rw (never-same f face) (minus-none (own_count face session own))

goes-shut : (is_open : OpenAt) (face : Face) (session : ℕ) (f : Face) (told : Told) (own : List OwnBlock) → is_open face session ≡ false
    → own_count face session (own_after is_open f told own)
    ≡ own_count face session own - cond (is_end_at face session (at f told)) 1 0
goes-shut is_open face session f (told_engine (engine.Sent s)) own shut = left-shut is_open f face s session own shut
goes-shut is_open face session f (told_engine (engine.Failed s reason)) own shut = left-shut is_open f face s session own shut
goes-shut is_open face session f (told_engine (engine.Refused s service)) own shut = none-goes face f session own
goes-shut is_open face session f (told_engine (engine.Cancelled s reason)) own shut = left-shut is_open f face s session own shut
goes-shut is_open face session f (told_engine (engine.Evicted s)) own shut = none-goes face f session own
goes-shut is_open face session f (told_engine engine.Stranger) own shut = none-goes face f session own
goes-shut is_open face session f (told_engine (engine.BadSegment place cause)) own shut = none-goes face f session own
goes-shut is_open face session f (told_engine (engine.BadBounds s)) own shut = none-goes face f session own
goes-shut is_open face session f (told_engine (engine.Closed s)) own shut = none-goes face f session own
goes-shut is_open face session f (told_engine (engine.HistoryFull s)) own shut = none-goes face f session own
goes-shut is_open face session f (told_forgotten runs) own shut = none-goes face f session own
goes-shut is_open face session f (told_green green) own shut = none-goes face f session own
goes-shut is_open face session f (told_began pieces octets s) own shut = none-goes face f session own
goes-shut is_open face session f (told_bundle subject) own shut = none-goes face f session own
goes-shut is_open face session f (told_case index s case pieces first) own shut = none-goes face f session own
goes-shut is_open face session f (told_left index s left) own shut = none-goes face f session own
goes-shut is_open face session f (told_reported index s report) own shut = none-goes face f session own
goes-shut is_open face session f (told_unreported index s) own shut = none-goes face f session own
goes-shut is_open face session f (told_end index s end) own shut = none-goes face f session own

all-open : (is_open : OpenAt) (face : Face) (session : ℕ) (told : List FaceTold) (own : List OwnBlock) → is_open face session ≡ true
    → own_count face session (own_left is_open own told) ≡ own_count face session own
unfolding own_left
all-open is_open face session [] own opens = refl
all-open is_open face session (t ∷ more) own opens =
    all-open is_open face session more (own_after is_open t.face t.told own) opens ∙ stays-open is_open face session t.face t.told own opens

ends-more : (b : Bool) (t : FaceTold) (ts : List FaceTold) → length (cond b (t ∷ ts) ts) ≡ cond b 1 0 + length ts
ends-more true t ts = omega arith
ends-more false t ts = omega arith

all-shut : (is_open : OpenAt) (face : Face) (session : ℕ) (told : List FaceTold) (own : List OwnBlock) → is_open face session ≡ false
    → own_count face session (own_left is_open own told)
    ≡ own_count face session own - end_count face session told
unfolding own_left
all-shut is_open face session [] own shut = minus-none (own_count face session own)
all-shut is_open face session (t ∷ more) own shut =
    let rest = all-shut is_open face session more (own_after is_open t.face t.told own) shut in
    let first = goes-shut is_open face session t.face t.told own shut in
    let ends = ends-more (is_end_at face session t) t (filter (is_end_at face session) more) in
    omega (arith, rest, first, ends)

pub own-go : OwnGoByEnds
own-go is_open own told face session = by (is_open face session) refl
  where
    by : (b : Bool) → is_open face session ≡ b → own_count face session (own_left is_open own told)
        ≡ (if b then own_count face session own
        else own_count face session own - end_count face session told)
    by true opens = all-open is_open face session told own opens
    by false shut = all-shut is_open face session told own shut

-- ---- the block of one

find-other : (f face : Face) (s session : ℕ) (own : List OwnBlock) → is_same f s face session ≡ false
    → find_own face session (without_own f s own) ≡ find_own face session own
unfolding find_own without_own
find-other f face s session [] other = refl
find-other f face s session (own ∷ more) other = by (is_of f s own) refl (find-other f face s session more other)
  where
    by : (b : Bool) → is_of f s own ≡ b → find_own face session (without_own f s more) ≡ find_own face session more
        → find_own face session (if b then more else own ∷ without_own f s more)
        ≡ (if is_of face session own then Some own else find_own face session more)
    by true is rest = rw (apart own.face f face own.session s session is other) refl
    by false is rest = ap (λ o. if is_of face session own then Some own else o) rest

find-left : (is_open : OpenAt) (f face : Face) (s session : ℕ) (own : List OwnBlock) → is_same f s face session ≡ false
    → find_own face session (left_by is_open f s own) ≡ find_own face session own
find-left is_open f face s session own other = by (is_open f s)
  where
    by : (b : Bool) → find_own face session (if b then own else without_own f s own) ≡ find_own face session own
    by true = refl
    by false = find-other f face s session own other

found-after : (is_open : OpenAt) (face : Face) (session : ℕ) (f : Face) (told : Told) (own : List OwnBlock)
    → is_end_at face session (at f told) ≡ false
    → find_own face session (own_after is_open f told own) ≡ find_own face session own
found-after is_open face session f (told_engine (engine.Sent s)) own other = find-left is_open f face s session own other
found-after is_open face session f (told_engine (engine.Failed s reason)) own other = find-left is_open f face s session own other
found-after is_open face session f (told_engine (engine.Refused s service)) own other = refl
found-after is_open face session f (told_engine (engine.Cancelled s reason)) own other = find-left is_open f face s session own other
found-after is_open face session f (told_engine (engine.Evicted s)) own other = refl
found-after is_open face session f (told_engine engine.Stranger) own other = refl
found-after is_open face session f (told_engine (engine.BadSegment place cause)) own other = refl
found-after is_open face session f (told_engine (engine.BadBounds s)) own other = refl
found-after is_open face session f (told_engine (engine.Closed s)) own other = refl
found-after is_open face session f (told_engine (engine.HistoryFull s)) own other = refl
found-after is_open face session f (told_forgotten runs) own other = refl
found-after is_open face session f (told_green green) own other = refl
found-after is_open face session f (told_began pieces octets s) own other = refl
found-after is_open face session f (told_bundle subject) own other = refl
found-after is_open face session f (told_case index s case pieces first) own other = refl
found-after is_open face session f (told_left index s left) own other = refl
found-after is_open face session f (told_reported index s report) own other = refl
found-after is_open face session f (told_unreported index s) own other = refl
found-after is_open face session f (told_end index s end) own other = refl

not-parts : (a b : Bool) → (not a && b) ≡ true → (a ≡ false) × (b ≡ true)
not-parts true b is = absurd (cc)
not-parts false b is = (refl, is)

found-before : (is_open : OpenAt) (face : Face) (session : ℕ) (before : List FaceTold) (own : List OwnBlock)
    → list_all (λ (u : FaceTold). not (is_end_at face session u)) before ≡ true
    → find_own face session (own_left is_open own before) ≡ find_own face session own
unfolding own_left
found-before is_open face session [] own none = refl
found-before is_open face session (t ∷ more) own none =
    let parts = not-parts (is_end_at face session t) (list_all (λ (u : FaceTold). not (is_end_at face session u)) more) none in
    found-before is_open face session more (own_after is_open t.face t.told own) parts.1
    ∙ found-after is_open face session t.face t.told own parts.0

-- ---- its line

several-many : (pieces : ℕ) → 1 < pieces → several pieces ≡ Some pieces
several-many pieces many = rw (lt-ltb 1 pieces many) refl

pub several-one : (pieces : ℕ) → pieces ≤ 1 → several pieces ≡ None
several-one pieces few = by (nat_lt 1 pieces) refl
  where
    by : (b : Bool) → nat_lt 1 pieces ≡ b → (if b then Some pieces else None) ≡ None
    by true many = absurd (let more = ltb-true 1 pieces many in omega (arith, more, few))
    by false is = refl

-- a line about a block that has so many bundles, where several were gathered
record Shows (block : OwnBlock) (event : Option ℕ → Event) : Type 0 where
  subject : (o : Option ℕ) → HasSubject block.subject (event o)
  several : (o : Option ℕ) → in_line (codes "bundles") (event o) ≡ option_map count o

says-block : (block : OwnBlock) (event : Option ℕ → Event) → Shows block event → SaysBlock block (event (several block.pieces))
says-block block event shows = record {
  subject = shows.subject (several block.pieces);
  several = λ many. shows.several (several block.pieces) ∙ ap (option_map count) (several-many block.pieces many);
  alone = λ few. shows.several (several block.pieces) ∙ ap (option_map count) (several-one block.pieces few);
}

sent-shows : (face : Face) (session : ℕ) (block : OwnBlock) → Shows block (λ o. events.Bundle face session block.subject (bundles.Sent o))
unfolding under
sent-shows face session block = record { subject = subject; several = several_are }
  where
    subject : (o : Option ℕ) → HasSubject block.subject (events.Bundle face session block.subject (bundles.Sent o))
    subject None = refl
    subject (Some n) = refl

    several_are : (o : Option ℕ) → in_line (codes "bundles") (events.Bundle face session block.subject (bundles.Sent o)) ≡ option_map count o
    several_are None = refl
    several_are (Some n) = refl

failed-shows : (face : Face) (session reason : ℕ) (block : OwnBlock) → Shows block (λ o. events.Bundle face session block.subject (bundles.Failed o reason))
unfolding under
failed-shows face session reason block = record { subject = subject; several = several_are }
  where
    subject : (o : Option ℕ) → HasSubject block.subject (events.Bundle face session block.subject (bundles.Failed o reason))
    subject None = refl
    subject (Some n) = refl

    several_are : (o : Option ℕ) → in_line (codes "bundles") (events.Bundle face session block.subject (bundles.Failed o reason)) ≡ option_map count o
    several_are None = refl
    several_are (Some n) = refl

cancelled-shows : (face : Face) (session reason : ℕ) (block : OwnBlock) → Shows block (λ o. events.Bundle face session block.subject (bundles.Cancelled o reason))
unfolding under
cancelled-shows face session reason block = record { subject = subject; several = several_are }
  where
    subject : (o : Option ℕ) → HasSubject block.subject (events.Bundle face session block.subject (bundles.Cancelled o reason))
    subject None = refl
    subject (Some n) = refl

    several_are : (o : Option ℕ) → in_line (codes "bundles") (events.Bundle face session block.subject (bundles.Cancelled o reason)) ≡ option_map count o
    several_are None = refl
    several_are (Some n) = refl

ends-now : (is_open : OpenAt) (f face : Face) (s session : ℕ) (own : List OwnBlock) (block : OwnBlock)
    → is_same f s face session ≡ true → is_open face session ≡ false → find_own face session own ≡ Some block
    → end_of is_open f s own ≡ Some block
ends-now is_open f face s session own block same shut found =
    let parts = same-parts f face s session same in rw (parts.0, parts.1, shut) found

-- the event of a note of an end
abbrev HasBlock : OwnBlock → Option Event → Type 0
HasBlock block o = (event : Event) × (o ≡ Some event) × SaysBlock block event

never-an-end : (f face : Face) (P : Type 0) → if_same f face false false ≡ true → P
never-an-end f face P is = absurd (let no = never-same f face in cc)

end-event : (is_open : OpenAt) (own : List OwnBlock) (about : Option Subject) (face : Face) (session : ℕ) (block : OwnBlock) (f : Face) (told : Told)
    → find_own face session own ≡ Some block → is_open face session ≡ false → is_end_at face session (at f told) ≡ true
    → HasBlock block (event_of is_open own about f told)
end-event is_open own about face session block f (told_engine (engine.Sent s)) found shut same = (
  events.Bundle f s block.subject (bundles.Sent (several block.pieces)),
  ap (λ end. Some (sent_event f s end)) (ends-now is_open f face s session own block same shut found),
  says-block block (λ o. events.Bundle f s block.subject (bundles.Sent o)) (sent-shows f s block),
)
end-event is_open own about face session block f (told_engine (engine.Failed s reason)) found shut same = (
  events.Bundle f s block.subject (bundles.Failed (several block.pieces) reason),
  ap (λ end. Some (failed_event f s reason end)) (ends-now is_open f face s session own block same shut found),
  says-block block (λ o. events.Bundle f s block.subject (bundles.Failed o reason)) (failed-shows f s reason block),
)
end-event is_open own about face session block f (told_engine (engine.Cancelled s reason)) found shut same = (
  events.Bundle f s block.subject (bundles.Cancelled (several block.pieces) reason),
  ap (λ end. Some (cancelled_event f s reason end)) (ends-now is_open f face s session own block same shut found),
  says-block block (λ o. events.Bundle f s block.subject (bundles.Cancelled o reason)) (cancelled-shows f s reason block),
)
end-event is_open own about face session block f (told_engine (engine.Refused s service)) found shut same = never-an-end f face _ same
end-event is_open own about face session block f (told_engine (engine.Evicted s)) found shut same = never-an-end f face _ same
end-event is_open own about face session block f (told_engine engine.Stranger) found shut same = never-an-end f face _ same
end-event is_open own about face session block f (told_engine (engine.BadSegment place cause)) found shut same = never-an-end f face _ same
end-event is_open own about face session block f (told_engine (engine.BadBounds s)) found shut same = never-an-end f face _ same
end-event is_open own about face session block f (told_engine (engine.Closed s)) found shut same = never-an-end f face _ same
end-event is_open own about face session block f (told_engine (engine.HistoryFull s)) found shut same = never-an-end f face _ same
end-event is_open own about face session block f (told_forgotten runs) found shut same = never-an-end f face _ same
end-event is_open own about face session block f (told_green green) found shut same = never-an-end f face _ same
end-event is_open own about face session block f (told_began pieces octets s) found shut same = never-an-end f face _ same
end-event is_open own about face session block f (told_bundle subject) found shut same = never-an-end f face _ same
end-event is_open own about face session block f (told_case index s case pieces first) found shut same = never-an-end f face _ same
end-event is_open own about face session block f (told_left index s left) found shut same = never-an-end f face _ same
end-event is_open own about face session block f (told_reported index s report) found shut same = never-an-end f face _ same
end-event is_open own about face session block f (told_unreported index s) found shut same = never-an-end f face _ same
end-event is_open own about face session block f (told_end index s end) found shut same = never-an-end f face _ same

pub ends-say : EndsSayBlocks
ends-say is_open own before later face session block t found shut none is =
    let here = found-before is_open face session before own none ∙ found in
    let (event, made, says) = end-event is_open (own_left is_open own before) (about_left None before) face session block t.face t.told here shut is in
    said-after is_open own before later t (SaysBlock block) event made says
