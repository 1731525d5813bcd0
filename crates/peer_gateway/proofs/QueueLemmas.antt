-- Datagrams are put or dropped, one after the other.

use Rattle.std.proofs.Common.{◌≡◌, ℕ, ◌+◌, Bool, List, [], ◌∷◌, ◌++◌, map, length, sym, ap, ◌∙◌, append_assoc}
use Rattle.std.proofs.lemmas.List.{map-append}
use Rattle.gate_cases.specs.declared.face.Face.{Face}
use Rattle.face_room.specs.Queues.{queued_with, puts, queued_after}
use Rattle.face_room.proofs.QueueLemmas.{puts-push, queued-push}
use Rattle.gateway_core.specs.declared.effects.Routed.{Routed}
use Rattle.gateway_core.specs.Effects.{datagram_at}
use Rattle.peer_gateway.specs.declared.queue.Queue.{Queue}
use Rattle.peer_gateway.specs.declared.told.Outgoing.{Outgoing}
use Rattle.peer_gateway.specs.Queue.{sizes_in, may_of, puts_by, queue_after}
use Rattle.peer_gateway.specs.Answers.{routed_seen, put_seen}

sizes-push : (ds : List (List ℕ)) (d : List ℕ) → sizes_in (ds ++ d ∷ []) ≡ sizes_in ds ++ length d ∷ []
sizes-push ds d = map-append (λ (w : List ℕ). length w) ds (d ∷ [])

-- some datagrams were made, and one more
pub record Pushed (first after : List Outgoing) (q next : Queue) (face : Face) (ds : List (List ℕ)) : Type 0 where
  pub routed : map routed_seen after ≡ map routed_seen first ++ map (datagram_at face) ds
  pub put : map put_seen after ≡ map put_seen first ++ puts_by q ds
  pub queue : next ≡ queue_after q ds

pub pushed : (first items after : List Outgoing) (q now next : Queue) (face : Face) (ds : List (List ℕ)) (d : List ℕ) (n : ℕ) (is_put : Bool)
    → map routed_seen items ≡ map routed_seen first ++ map (datagram_at face) ds → map put_seen items ≡ map put_seen first ++ puts_by q ds
    → now ≡ queue_after q ds → n ≡ length d → is_put ≡ may_of now (now.queued + n)
    → next ≡ record now { queued = queued_with (may_of now) now.queued n }
    → after ≡ items ++ record { face = face; datagram = d; is_put = is_put } ∷ [] → Pushed first after q next face (ds ++ d ∷ [])
pushed first items after q now next face ds d n is_put routed put queue size is_put_is next_is after_is =
    let o : Outgoing = record { face = face; datagram = d; is_put = is_put } in
    let queued = queued_after (may_of q) q.queued (sizes_in ds) in
    let told : is_put ≡ may_of q (queued + length d) =
    is_put_is ∙ (ap (λ (x : Queue). may_of x (x.queued + n)) queue ∙ ap (λ (m : ℕ). may_of q (queued + m)) size) in
    let all : puts_by q (ds ++ d ∷ []) ≡ puts_by q ds ++ may_of q (queued + length d) ∷ [] =
    ap (λ (ns : List ℕ). puts (may_of q) q.queued ns) (sizes-push ds d) ∙ puts-push (may_of q) q.queued (sizes_in ds) (length d) in
    let last : queued_after (may_of q) q.queued (sizes_in (ds ++ d ∷ [])) ≡ queued_with (may_of q) queued (length d) =
    ap (λ (ns : List ℕ). queued_after (may_of q) q.queued ns) (sizes-push ds d) ∙ queued-push (may_of q) q.queued (sizes_in ds) (length d) in
    record {
      routed = ap (map routed_seen) after_is
          ∙ (map-append routed_seen items (o ∷ [])
          ∙ (ap (λ (xs : List Routed). xs ++ datagram_at face d ∷ []) routed
          ∙ (append_assoc (map routed_seen first) (map (datagram_at face) ds) (datagram_at face d ∷ [])
          ∙ ap (λ (xs : List Routed). map routed_seen first ++ xs) (sym (map-append (datagram_at face) ds (d ∷ []))))));
      put = ap (map put_seen) after_is
          ∙ (map-append put_seen items (o ∷ [])
          ∙ (ap (λ (xs : List Bool). xs ++ is_put ∷ []) put
          ∙ (append_assoc (map put_seen first) (puts_by q ds) (is_put ∷ [])
          ∙ (ap (λ (t : Bool). map put_seen first ++ (puts_by q ds ++ t ∷ [])) told
          ∙ ap (λ (xs : List Bool). map put_seen first ++ xs) (sym all)))));
      queue = next_is
          ∙ (ap (λ (x : Queue). record x { queued = queued_with (may_of x) x.queued n }) queue
          ∙ (ap (λ (m : ℕ). record q { queued = queued_with (may_of q) queued m }) size
          ∙ ap (λ (m : ℕ). record q { queued = m }) (sym last)));
    }
