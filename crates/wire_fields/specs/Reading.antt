-- Reading a format from a place in a text: the value and the place after it, or the refusal.
use Rattle.std.specs.Prelude.{ℕ, ◌+◌, ◌-◌, ◌/◌, ◌<◌, ◌==◌, List, [], ◌∷◌, length, take, drop, get_or, nat_lt, slice_index, if◌then◌else◌, Option, Some, None, Result, Ok, Err}
use Rattle.wire_fields.specs.declared.miss.Miss.{Miss}
use Rattle.wire_fields.specs.declared.miss.Miss.TheVariants as misses
use Rattle.sdnv.specs.declared.fault.SdnvFault.{SdnvFault}
use Rattle.sdnv.specs.declared.fault.SdnvFault.TheVariants as sdnv_faults
use Rattle.sdnv.specs.Reading.{read_of}
use Rattle.cbor_lite.specs.declared.fault.CborFault.{CborFault}
use Rattle.cbor_lite.specs.declared.fault.CborFault.TheVariants as cbor_faults
use Rattle.cbor_lite.specs.Head.{head_at}
use Rattle.wire_fields.specs.declared.lead.UnsignedOrText.{UnsignedOrText}
use Rattle.wire_fields.specs.declared.lead.UnsignedOrText.TheVariants as leads
use Rattle.wire_fields.specs.Kind.{Kind, octet, octets, number, head, unsigned_or_text, ValueOf}
use Rattle.wire_fields.specs.Format.{Format, give, place, since, field, such_that, and_then}
use Rattle.wire_fields.specs.Refusal.{Stop, truncated, because}

-- a number at the front of w
abbrev pub look_number : Result (ℕ × ℕ) SdnvFault → Result (ℕ × ℕ) Miss
look_number (Ok x) = Ok x
look_number (Err sdnv_faults.Short) = Err misses.Truncated
look_number (Err sdnv_faults.TooLong) = Err misses.Absent
look_number (Err sdnv_faults.TooLarge) = Err misses.Absent

-- a head of the kind at the front of w, its number seen by a function
abbrev pub look_head : {A : Type 0}
    → (ℕ → A) → Result (ℕ × ℕ) CborFault → Result (A × ℕ) Miss
look_head view (Ok x) = Ok (view x.0, x.1)
look_head view (Err cbor_faults.Short) = Err misses.Truncated
look_head view (Err cbor_faults.Kind) = Err misses.Absent
look_head view (Err cbor_faults.NotShortest) = Err misses.Absent

-- a head of a text string where the next octet is of that kind, else one of an unsigned number
abbrev pub look_lead : List ℕ → Result (UnsignedOrText × ℕ) Miss
look_lead w =
    if slice_index w 0 / 32 == 3
    then look_head leads.Text (head_at 3 w)
    else look_head leads.Unsigned (head_at 0 w)

-- what a field of the kind is at the front of w, and how many octets it has
abbrev pub look : (k : Kind) → List ℕ → Result (ValueOf k × ℕ) Miss
look octet [] = Err misses.Truncated
look octet (b ∷ w) = Ok (b, 1)
look (octets n) w = if nat_lt (length w) n then Err misses.Truncated else Ok (take n w, n)
look number w = look_number (read_of w)
look (head kind) w = look_head (λ n. n) (head_at kind w)
look unsigned_or_text w = look_lead w

-- seen from the place at: the octets after it are counted from the start of the text
abbrev pub ahead : {A : Type 0} → ℕ → Result (A × ℕ) Miss → Result (A × ℕ) Miss
ahead at (Ok x) = Ok (x.0, at + x.1)
ahead at (Err m) = Err m

-- what a field of the kind is at a place, and the place after it
abbrev pub look_at : (k : Kind) → List ℕ → ℕ → Result (ValueOf k × ℕ) Miss
look_at k text at = ahead at (look k (drop at text))

-- a field that isn't there is refused at its place: as truncated, or for its cause
abbrev pub named : {C A : Type 0}
    → ℕ → C → Result (A × ℕ) Miss → Result (A × ℕ) (ℕ × Stop C)
named at cause (Ok x) = Ok x
named at cause (Err misses.Truncated) = Err (at, truncated)
named at cause (Err misses.Absent) = Err (at, because cause)

-- a value under its conditions: the first that fails refuses it at the place where it stands
abbrev pub judged : {C A : Type 0}
    → ℕ → Option C → A × ℕ → Result (A × ℕ) (ℕ × Stop C)
judged at None x = Ok x
judged at (Some cause) x = Err (at, because cause)

-- what stands after a value; a refusal is passed on
abbrev pub go_on : {A B E : Type 0} → Result A E → (A → Result B E) → Result B E
go_on (Ok x) f = f x
go_on (Err e) f = Err e

-- what reading gives
abbrev pub read : {C A : Type 0} → Format C A → List ℕ → ℕ → Result (A × ℕ) (ℕ × Stop C)
read (give x) text at = Ok (x, at)
read place text at = Ok (at, at)
read (since p) text at = Ok (take (at - p) (drop p text), at)
read (field k cause) text at = named at cause (look_at k text at)
read (such_that f conditions) text at = go_on (read f text at) (λ x. judged at (conditions x.0) x)
read (and_then f g) text at = go_on (read f text at) (λ x. read (g x.0) text x.1)

-- an answer that stays however the octets go on: a value, or a refusal for a cause
abbrev pub IsSettled : {C A : Type 0} → Result A (ℕ × Stop C) → Type 0
IsSettled (Ok x) = Unit {0}
IsSettled (Err (at, truncated)) = ⊥
IsSettled (Err (at, because cause)) = Unit {0}

-- a text of octets: each of its numbers is below 256
abbrev pub IsOctets : List ℕ → Type 0
IsOctets text = (i : ℕ) → get_or text i 0 < 256
