-- The bodies of the extension blocks that are known here (RFC 9171, section 4.4): each is exactly one
-- item.
use Rattle.std.specs.Prelude.{◌≡◌, ℕ, Bool, true, ◌==◌, ◌&&◌, nat_le, List, [], if◌then◌else◌, is_ok}
use Rattle.endpoint.specs.declared.name.Endpoint.{Endpoint}
use Rattle.wire_fields.specs.Format.{Format, Spells, give, such_that, ◌>>=◌}
use Rattle.wire_fields.specs.Whole.{read_whole}
use Rattle.wire_fields.specs.Words.{needs, any_unsigned, exact_array}
use Rattle.bundle7.specs.declared.body.Hop.{Hop}
use Rattle.bundle7.specs.declared.fault.Cause7.{Cause7}
use Rattle.bundle7.specs.declared.fault.Cause7.TheVariants.{ExtensionBody}
use Rattle.bundle7.specs.Eid.{eid}

-- the block types of previous node, bundle age and hop count
abbrev pub previous_node : ℕ
previous_node = 6

abbrev pub bundle_age : ℕ
bundle_age = 7

abbrev pub hop_count : ℕ
hop_count = 10

-- the bundle age: milliseconds
abbrev pub age : Format Cause7 ℕ
age = any_unsigned ExtensionBody

abbrev pub hop_limit : Format Cause7 ℕ
hop_limit = such_that (any_unsigned ExtensionBody) (λ n. needs (nat_le 1 n && nat_le n 255) ExtensionBody)

-- the hop count: the most hops, and how many there were
unfoldable pub hop : Format Cause7 Hop
hop = do
  items ← exact_array 2 ExtensionBody
  limit ← hop_limit
  count ← any_unsigned ExtensionBody
  give (record { limit = limit; count = count })

-- The octets are a body that a block of this type may have: a previous node's spells an endpoint, an
-- age's a number, a hop count's a hop count, and every other type has any octets.
pub record IsBody (kind : ℕ) (octets : List ℕ) : Type 0 where
  pub if_previous_node : kind ≡ previous_node → (e : Endpoint) × Spells eid [] octets e
  pub if_bundle_age : kind ≡ bundle_age → (n : ℕ) × Spells age [] octets n
  pub if_hop_count : kind ≡ hop_count → (h : Hop) × Spells hop [] octets h

-- ---- the same as a test, as the table has it: reading finds what is spelled, and only that

-- the whole of the octets is read as the format
abbrev pub is_whole : {A : Type 0} → Format Cause7 A → List ℕ → Bool
is_whole f octets = is_ok (read_whole f ExtensionBody octets)

-- the octets are a body that a block of this type may have (`one_body` ties it to IsBody)
abbrev pub is_body : ℕ → List ℕ → Bool
is_body kind octets =
    if kind == previous_node then is_whole eid octets
    else if kind == bundle_age then is_whole age octets
    else if kind == hop_count then is_whole hop octets
    else true
