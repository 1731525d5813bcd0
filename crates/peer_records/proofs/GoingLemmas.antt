-- What leaves those that wait is in a session: no id is lost, and none is made.
use Rattle.std.proofs.Common.{◌≡◌, ℕ, ◌+◌, ◌==◌, List, [], ◌∷◌, take, drop, None, Some, refl, ap, ◌∙◌, arith}
use Rattle.gate_cases.specs.declared.face.Face.{Face}
use Rattle.gate_cases.specs.declared.face.Face.TheVariants.{Old, New}
use Rattle.gateway_core.specs.Gate.{at_face, with_face}
use Rattle.peer_gateway.specs.Gate.{BegunAt}
use Rattle.peer_records.specs.Keeping.{Waiting, ids_in, ids_named, one_if, times}
use Rattle.peer_records.specs.Records.{named_in, Going, goes_with, all_go}
use Rattle.peer_records.proofs.CountLemmas.{waits-apart, named-append}
use Rattle.peer_records.proofs.AddedLemmas.{waits}

-- how often an id waits or is in a session
abbrev pub holds : ℕ → Going → ℕ
holds id g = times id (ids_named g.named) + waits id g.waiting

named-all : (id : ℕ) (face : Face) (session : ℕ) (xs : Waiting) → times id (ids_named (named_in face session xs)) ≡ times id (ids_in xs)
unfolding named_in times
named-all id face session [] = refl
named-all id face session (None ∷ xs) = named-all id face session xs
named-all id face session (Some x ∷ xs) = ap (λ (n : ℕ). one_if (x == id) + n) (named-all id face session xs)

front-goes : (id pieces : ℕ) (face : Face) (w : Waiting × Waiting)
    → waits id w ≡ times id (ids_in (take pieces (at_face w face))) + waits id (with_face w face (drop pieces (at_face w face)))
front-goes id pieces Old w = let parts = waits-apart id pieces w.0 in omega (arith, parts)
front-goes id pieces New w = let parts = waits-apart id pieces w.1 in omega (arith, parts)

one-goes : (id : ℕ) (b : BegunAt) (g : Going) → holds id (goes_with b g) ≡ holds id g
one-goes id b g =
    let front = take b.pieces (at_face g.waiting b.face) in
    let parts = front-goes id b.pieces b.face g.waiting in
    let same = named-all id b.face b.session front in
    let more = named-append id g.named (named_in b.face b.session front) in omega (arith, parts, same, more)

pub all-hold : (id : ℕ) (begun : List BegunAt) (g : Going) → holds id (all_go begun g) ≡ holds id g
unfolding all_go
all-hold id [] g = refl
all-hold id (b ∷ begun) g = all-hold id begun (goes_with b g) ∙ one-goes id b g
