-- A block of version 7 that is there as a whole, where it lies.

use Rattle.std.specs.Prelude.{◌≡◌, ℕ, ◌+◌, ◌≤◌, List, length, take, drop, Option, Ok}
use Rattle.endpoint.specs.declared.extent.Fragment.{Fragment}
use Rattle.wire_fields.specs.Reading.{read}
use Rattle.bundle7.specs.declared.block.Lead.{Lead}
use Rattle.bundle7.specs.declared.seen.Seen.{Seen}
use Rattle.bundle7.specs.declared.pass.Front.{Front}
use Rattle.bundle7.specs.Table.{body_field}
use Rattle.bundle7.specs.Judging.{judged_front}
use Rattle.bundle7.specs.Passing.{blocks_left}
use Rattle.bundle_judges.specs.declared.sum7.Sum.{Sum}
use Rattle.bundle_judges.specs.Sum7.{no_octets, with_octets, check_head, check_octets}

-- a check stands at the front of what follows octets with this sum, and has so many octets with its head
pub record HasCheck (sum : Sum) (tail : List ℕ) (more : ℕ) : Type 0 where
  pub head : ℕ
  pub octets : ℕ
  pub begins : read (check_head sum) tail 0 ≡ Ok (tt, head)
  pub ends : read (check_octets (with_octets sum (take head tail))) (drop head tail) 0 ≡ Ok (tt, octets)
  pub is : more ≡ head + octets
  pub within : more ≤ length tail

-- a block stands at the front of octets after these blocks, and has so many octets
pub record HasBlock (part : Option Fragment) (seen : Seen) (rest : List ℕ) (lead : Lead) (more : ℕ) : Type 0 where
  pub front : Front
  pub from : ℕ
  pub body : List ℕ
  pub size : ℕ
  pub tail : ℕ
  pub begins : read (judged_front part (blocks_left 64 seen) seen) rest 0 ≡ Ok (front, from)
  pub goes_on : read (body_field front.lead.kind front.size) (drop from rest) 0 ≡ Ok (body, size)
  pub ends : HasCheck (with_octets (no_octets front.lead.crc) (take (from + size) rest)) (drop (from + size) rest) tail
  pub named : lead ≡ front.lead
  pub is : more ≡ from + size + tail
  pub within : more ≤ length rest
