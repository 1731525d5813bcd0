-- What is told of steps that follow one another.

use Rattle.std.proofs.Common.{◌≡◌, ℕ, List, [], ◌∷◌, map, length, refl, ap, append_assoc}
use Rattle.std.proofs.lemmas.List.{append-nil, map-append}
use Rattle.ltp_segment.specs.Spelling.{segment_octets}
use Rattle.ltp_segment.specs.Values.{SegmentValue}
use Rattle.gate_cases.specs.declared.face.Face.{Face}
use Rattle.gateway_core.specs.Effects.{routed_of, datagram_at}
use Rattle.peer_gateway.specs.Gate.{PeerEffects, no_effects, with_more, sizes_out, routed_at}
use Rattle.peer_gateway.specs.Answers.{Answered, answer_of, nothing_answered, then_done}
use Rattle.peer_gateway.specs.Queue.{sizes_in}

pub then-none : (a : Answered) → then_done a no_effects ≡ a
then-none a = rw (append-nil a.out, append-nil a.puts, append-nil a.told, append-nil a.added, append-nil a.begun) refl

pub none-then : (e : PeerEffects) → then_done nothing_answered e ≡ answer_of e
none-then e = refl

pub then-more : (a : Answered) (e f : PeerEffects) → then_done (then_done a e) f ≡ then_done a (with_more e f)
then-more a e f =
    rw (
      map-append routed_of e.out f.out,
      append_assoc a.out (map routed_of e.out) (map routed_of f.out),
      append_assoc a.puts e.puts f.puts,
      append_assoc a.told e.told f.told,
      append_assoc a.added e.added f.added,
      append_assoc a.begun e.begun f.begun,
    ) refl

-- ---- datagrams

pub out-at : (face : Face) (out : List SegmentValue) → map (datagram_at face) (map segment_octets out) ≡ map routed_of (routed_at face out)
out-at face [] = refl
out-at face (s ∷ out) = let rest = out-at face out in rw rest refl

pub sizes-out : (out : List SegmentValue) → sizes_in (map segment_octets out) ≡ sizes_out out
sizes-out [] = refl
sizes-out (s ∷ out) = let rest = sizes-out out in ap (λ (sizes : List ℕ). length (segment_octets s) ∷ sizes) rest
