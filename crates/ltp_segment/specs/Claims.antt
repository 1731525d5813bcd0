-- The claims that an iterator has left.

use Rattle.std.specs.Prelude.{ℕ, zero, suc, List, [], ◌∷◌, drop, Option, Some, None, Result, Ok}
use Rattle.std.specs.Prelude.{Err, option_and_then, option_map}
use Rattle.sdnv.specs.declared.fault.SdnvFault.{SdnvFault}
use Rattle.sdnv.specs.Reading.{read_of}
use Rattle.ltp_segment.specs.declared.segment.Claim.{Claim}
use Rattle.ltp_segment.specs.declared.claims.Claims.{Claims}

-- what was read of a text, and the octets after it
abbrev pub parted : List ℕ → Result (ℕ × ℕ) SdnvFault → Option (ℕ × List ℕ)
parted text (Ok x) = Some (x.0, drop x.1 text)
parted text (Err fault) = None

-- a number at the front of a text, and the octets after it
unfoldable pub front_number : List ℕ → Option (ℕ × List ℕ)
front_number text = parted text (read_of text)

-- a claim at the front of a text, an offset and a length, and the octets after it
unfoldable pub front_claim : List ℕ → Option (Claim × List ℕ)
front_claim text = option_and_then
    (λ offset. option_map
    (λ size. (record { offset = offset.0; length = size.0 }, size.1)) (front_number offset.1))
    (front_number text)

-- a claim, if there is one, and those that its rest gives
abbrev pub then_others : (List ℕ → List Claim) → Option (Claim × List ℕ) → List Claim
then_others others (Some x) = x.0 ∷ others x.1
then_others others None = []

-- so many claims at the front of a text, up to the first that isn't there
unfoldable pub claims_in : ℕ → List ℕ → List Claim
claims_in zero text = []
claims_in (suc count) text = then_others (claims_in count) (front_claim text)

abbrev pub claims_left : Claims → List Claim
claims_left claims = claims_in claims.count claims.rest.now
