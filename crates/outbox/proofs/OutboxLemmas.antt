-- What ties the code of an outbox to its definition.

use Rattle.std.proofs.Common.{◌≡◌, ℕ, ◌+◌, List, [], ◌∷◌, ◌++◌, length, arith}
use Rattle.outbox.specs.Outbox.{octets_in}

pub octets-push : (waiting : List (List ℕ)) (datagram : List ℕ) → octets_in (waiting ++ datagram ∷ []) ≡ octets_in waiting + length datagram
octets-push [] datagram = omega arith
octets-push (d ∷ ds) datagram = let rest = octets-push ds datagram in omega (arith, rest)
