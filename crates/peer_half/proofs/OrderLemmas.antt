-- What goes, goes first, and in order.

use Rattle.std.proofs.Common.{◌≡◌, ℕ, zero, suc, Bool, true, false, List, [], ◌∷◌, ◌++◌, length, map, Option, None, Some, if◌then◌else◌, refl, ap, ◌∙◌}
use Rattle.edge_traits.specs.Faults.{fails_next, after_next}
use Rattle.gate_cases.specs.declared.face.Face.{Face}
use Rattle.gate_cases.specs.declared.face.Face.TheVariants as faces
use Rattle.gate_log.specs.declared.event.Event.{Event}
use Rattle.outbox.specs.Outbox.{after_sending, first_of, may_send, next_of, others_of}
use Rattle.gate_face.specs.Halves.{taking}
use Rattle.peer_half.specs.Standing.{Standing, doing_at, face_of, wall_of}
use Rattle.journal_file.specs.Values.{KeptValue, RecordValue}
use Rattle.peer_half.specs.Journals.{is_large, kept_in, records_in}
use Rattle.peer_half.specs.Acts.{Act, sent, lost, said, shown, committed, installed, Acted, stands, after_acts}
use Rattle.peer_half.specs.Parts.{commits, commits_those, ends_sending, goes, installs, installs_those, is_due, line_at, makes_anew, reserves, sends, sends_within, shows, shows_if, shows_now, tried, where_some, writes}
use Rattle.peer_half.specs.Half.{half, hears}
use Rattle.peer_half.specs.Laws.{AreTold, CommitFirst, DatagramsGoFirst, GoFirst, GoesInOrder, tried_at, waiting_at}

-- ---- what goes, goes first

told-first : (acts : List Act) → AreTold acts → GoFirst acts
told-first [] told = tt
told-first (sent face datagram ∷ acts) told = absurd told.0
told-first (lost face datagram ∷ acts) told = absurd told.0
told-first (said line ∷ acts) told = told.1
told-first (shown text ∷ acts) told = told.1
told-first (committed records ∷ acts) told = absurd told.0
told-first (installed kept ∷ acts) told = told.1

-- where nothing is committed
first-commits : (acts : List Act) → GoFirst acts → CommitFirst acts
first-commits [] first = tt
first-commits (sent face datagram ∷ acts) first = first
first-commits (lost face datagram ∷ acts) first = first
first-commits (said line ∷ acts) first = first
first-commits (shown text ∷ acts) first = first
first-commits (committed records ∷ acts) first = absurd first
first-commits (installed kept ∷ acts) first = first

commit-first : (records : List RecordValue) (acts : List Act) → GoFirst acts → CommitFirst (commits_those records ++ acts)
commit-first [] acts first = first-commits acts first
commit-first (one ∷ more) acts first = first

told-append : (acts more : List Act) → AreTold acts → AreTold more → AreTold (acts ++ more)
told-append [] more told later = later
told-append (act ∷ acts) more told later = (told.0, told-append acts more told.1 later)

lines-told : (wall : ℕ) (events : List Event) → AreTold (map (line_at wall) events)
lines-told wall [] = tt
lines-told wall (event ∷ events) = (tt, lines-told wall events)

now-told : (fails : Bool) (s : Standing) → AreTold (shows_now fails s)
now-told true s = (tt, tt)
now-told false s = (tt, tt)

if-told : (due fails : Bool) (s : Standing) → AreTold (shows_if due fails s).acts
if-told false fails s = tt
if-told true fails s = now-told fails s

shows-told : (board fails : Bool) (s : Standing) → AreTold (shows board fails s).acts
shows-told true fails s = if-told (is_due s.shown (wall_of s)) fails s
shows-told false fails s = tt

installed-told : (kept : Option KeptValue) → AreTold (installs_those kept)
installed-told None = tt
installed-told (Some kept) = (tt, tt)

installs-told : (large : Bool) (s : Standing) → AreTold (if large then makes_anew s else stands s).acts
installs-told true s = installed-told (kept_in s.journal)
installs-told false s = tt

go-next : (face : Face) (fails : Bool) (next : Option (List ℕ)) (does : List ℕ → Acted) (s : Standing) (rest : List Act)
    → ((datagram : List ℕ) → GoFirst ((does datagram).acts ++ rest)) → GoFirst rest
    → GoFirst ((where_some next (λ datagram. after_acts (tried face fails datagram ∷ []) (does datagram)) (stands s)).acts ++ rest)
go-next face fails None does s rest later first = first
go-next face true (Some datagram) does s rest later first = later datagram
go-next face false (Some datagram) does s rest later first = later datagram

go-within : (n : ℕ) (face : Face) (failing : List Bool) (s : Standing) (rest : List Act)
    → GoFirst rest → GoFirst ((sends_within n face failing s).acts ++ rest)
unfolding sends_within
go-within zero face failing s rest first = first
go-within (suc n) face failing s rest first =
    go-next face (fails_next failing) (next_of (face_of face s).outbox)
    (λ datagram. sends_within n face (after_next failing) (goes face (fails_next failing) datagram (doing_at face taking s))) s rest
    (λ datagram. go-within n face (after_next failing) (goes face (fails_next failing) datagram (doing_at face taking s)) rest first) first

pub datagrams-go-first : DatagramsGoFirst
unfolding half
datagrams-go-first board face came s =
    let h = hears face came s in
    let c = commits h in
    let old = sends faces.Old came.old_failing c.standing in
    let new = sends faces.New came.new_failing old.standing in
    let u = ends_sending new.standing in
    let i = installs u in
    let after = i.acts ++ (shows board came.show_fails i.standing).acts in
    let told = told-append (writes u).acts after (lines-told (wall_of u) u.said)
    (told-append i.acts (shows board came.show_fails i.standing).acts (installs-told (is_large u.journal) u) (shows-told board came.show_fails i.standing)) in
    commit-first (records_in (reserves h).journal) (old.acts ++ (new.acts ++ ((writes u).acts ++ after)))
    (go-within (length ((face_of faces.Old c.standing).outbox).waiting) faces.Old came.old_failing c.standing (new.acts ++ ((writes u).acts ++ after))
    (go-within (length ((face_of faces.New old.standing).outbox).waiting) faces.New came.new_failing old.standing ((writes u).acts ++ after)
    (told-first ((writes u).acts ++ after) told)))

-- ---- what goes, goes in order

-- of what waits the first is taken, where one may go
taken : (may : Bool) (waiting : List (List ℕ)) (datagram : List ℕ) → (if may then first_of waiting else None) ≡ Some datagram
    → datagram ∷ (if may then others_of waiting else waiting) ≡ waiting
taken true [] datagram is = absurd (cc)
taken true (first ∷ others) datagram is = cc
taken false waiting datagram is = absurd (cc)

-- with a datagram that was sent or lost
gone : (face : Face) (fails : Bool) (datagram : List ℕ) (acts : List Act) → tried_at face (tried face fails datagram ∷ acts) ≡ datagram ∷ tried_at face acts
gone faces.Old true datagram acts = refl
gone faces.Old false datagram acts = refl
gone faces.New true datagram acts = refl
gone faces.New false datagram acts = refl

left : (face : Face) (fails : Bool) (datagram : List ℕ) (s : Standing)
    → waiting_at face (goes face fails datagram (doing_at face taking s)) ≡ (after_sending (face_of face s).outbox).waiting
left faces.Old true datagram s = refl
left faces.Old false datagram s = refl
left faces.New true datagram s = refl
left faces.New false datagram s = refl

order-next : (face : Face) (fails : Bool) (next : Option (List ℕ)) (does : List ℕ → Acted) (s : Standing)
    → ((datagram : List ℕ) → next ≡ Some datagram → datagram ∷ (tried_at face (does datagram).acts ++ waiting_at face (does datagram).standing) ≡ waiting_at face s)
    → tried_at face (where_some next (λ datagram. after_acts (tried face fails datagram ∷ []) (does datagram)) (stands s)).acts
    ++ waiting_at face (where_some next (λ datagram. after_acts (tried face fails datagram ∷ []) (does datagram)) (stands s)).standing ≡ waiting_at face s
order-next face fails None does s later = refl
order-next face fails (Some datagram) does s later =
    ap (λ ds. ds ++ waiting_at face (does datagram).standing) (gone face fails datagram (does datagram).acts) ∙ later datagram refl

order-within : (n : ℕ) (face : Face) (failing : List Bool) (s : Standing)
    → tried_at face (sends_within n face failing s).acts ++ waiting_at face (sends_within n face failing s).standing ≡ waiting_at face s
unfolding sends_within
order-within zero face failing s = refl
order-within (suc n) face failing s =
    order-next face (fails_next failing) (next_of (face_of face s).outbox)
    (λ datagram. sends_within n face (after_next failing) (goes face (fails_next failing) datagram (doing_at face taking s))) s
    (λ datagram is.
    ap (λ ds. datagram ∷ ds) (order-within n face (after_next failing) (goes face (fails_next failing) datagram (doing_at face taking s)) ∙ left face (fails_next failing) datagram s)
    ∙ taken (may_send (face_of face s).outbox) ((face_of face s).outbox).waiting datagram is)

pub goes-in-order : GoesInOrder
goes-in-order face failing s = order-within (length ((face_of face s).outbox).waiting) face failing s
