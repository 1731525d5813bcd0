-- The head of a CBOR item (RFC 8949, section 3): the kind in the high three bits of its first octet,
-- the additional information in the low five. Where that is below 24 it is the number that the head
-- says; where it is 24 to 27 the number stands in the 1, 2, 4 or 8 octets after it, in network order.
use Rattle.std.specs.Prelude.{◌≡◌, ◌≢◌, ◌⊎◌, ◌++◌, ℕ, ◌+◌, ◌-◌, ◌*◌, ◌/◌, ◌%◌, ◌^◌, ◌<◌, ◌≤◌, ◌==◌}
use Rattle.std.specs.Prelude.{nat_lt, if◌then◌else◌, List, [], ◌∷◌, length, take, Result, Ok, Err}
use Rattle.std.specs.Int.{Width, w8, w16, w32, w64, byte_len, to_be_bytes, from_be_bytes}
use Rattle.cbor_lite.specs.declared.fault.CborFault.{CborFault}
use Rattle.cbor_lite.specs.declared.head.Head.{Head}
use Rattle.cbor_lite.specs.declared.fault.CborFault.TheVariants.{Kind, Short, NotShortest}

-- the first octet of a head
abbrev pub first_octet : ℕ → ℕ → ℕ
first_octet kind information = 32 * kind + information

-- the shortest head of a kind that says n
abbrev pub head : ℕ → ℕ → List ℕ
head kind n =
    if nat_lt n 24 then first_octet kind n ∷ []
    else if nat_lt n (2 ^ 8) then first_octet kind 24 ∷ to_be_bytes w8 n
    else if nat_lt n (2 ^ 16) then first_octet kind 25 ∷ to_be_bytes w16 n
    else if nat_lt n (2 ^ 32) then first_octet kind 26 ∷ to_be_bytes w32 n
    else first_octet kind 27 ∷ to_be_bytes w64 n

-- these octets are the one spelling of a head of this kind that says n
pub record SpellsHead (kind : ℕ) (w : List ℕ) (n : ℕ) : Type 0 where
  pub small : n < 2 ^ 64
  pub spelt : w ≡ head kind n

-- these octets are a head of this kind that says n, in one of the five forms
pub data SaysHead (kind n : ℕ) : List ℕ → Type 0 where
  in_first : n < 24 → SaysHead kind n (first_octet kind n ∷ [])
  in_one : n < 2 ^ 8 → SaysHead kind n (first_octet kind 24 ∷ to_be_bytes w8 n)
  in_two : n < 2 ^ 16 → SaysHead kind n (first_octet kind 25 ∷ to_be_bytes w16 n)
  in_four : n < 2 ^ 32 → SaysHead kind n (first_octet kind 26 ∷ to_be_bytes w32 n)
  in_eight : n < 2 ^ 64 → SaysHead kind n (first_octet kind 27 ∷ to_be_bytes w64 n)

-- the first octet is of another kind, or its additional information is 28 to 31
abbrev pub HasOtherKind : ℕ → List ℕ → Type 0
HasOtherKind kind [] = ⊥
HasOtherKind kind (first ∷ rest) = (first / 32 ≢ kind) ⊎ (28 ≤ first % 32)

-- the text ends inside a head of this kind: nothing is left, or not all octets of the number
abbrev pub EndsInsideHead : ℕ → List ℕ → Type 0
EndsInsideHead kind [] = Unit {0}
EndsInsideHead kind (first ∷ rest) =
    (first / 32 ≡ kind) × (24 ≤ first % 32) × (first % 32 ≤ 27)
    × (length rest < 2 ^ (first % 32 - 24))

-- a whole head stands at the front, and a shorter one says the same number
pub record HasLongHead (kind : ℕ) (w : List ℕ) : Type 0 where
  pub front : List ℕ
  pub after : List ℕ
  pub number : ℕ
  pub parts : w ≡ front ++ after
  pub says : SaysHead kind number front
  pub shorter : length (head kind number) < length front

-- why no head of this kind stands at the front of a text
abbrev pub HeadFault : ℕ → List ℕ → CborFault → Type 0
HeadFault kind w Kind = HasOtherKind kind w
HeadFault kind w Short = EndsInsideHead kind w
HeadFault kind w NotShortest = HasLongHead kind w

-- what an answer says of a text at whose front a head of a kind is asked for
abbrev pub AnswersHead : ℕ → List ℕ → Result (ℕ × ℕ) CborFault → Type 0
AnswersHead kind w (Ok x) = (x.1 ≤ length w) × SpellsHead kind (take x.1 w) x.0
AnswersHead kind w (Err e) = HeadFault kind w e

-- ---- what a text has at its front: the number and the octets of the head, or why there is none

-- a number that was read after the first octet has to need its width
abbrev pub shortest : ℕ → ℕ → ℕ → Result (ℕ × ℕ) CborFault
shortest least size n = if nat_lt n least then Err NotShortest else Ok (n, size)

-- the number in the octets after the first one
abbrev pub number_in : Width → ℕ → List ℕ → Result (ℕ × ℕ) CborFault
number_in width least rest =
    if nat_lt (length rest) (byte_len width) then Err Short
    else shortest least (1 + byte_len width) (from_be_bytes width (take (byte_len width) rest))

-- the number of a head with this additional information
abbrev pub number_at : ℕ → List ℕ → Result (ℕ × ℕ) CborFault
number_at information rest =
    if nat_lt information 24 then Ok (information, 1)
    else if information == 24 then number_in w8 24 rest
    else if information == 25 then number_in w16 (2 ^ 8) rest
    else if information == 26 then number_in w32 (2 ^ 16) rest
    else if information == 27 then number_in w64 (2 ^ 32) rest
    else Err Kind

-- the head of an asked kind
unfoldable pub head_at : ℕ → List ℕ → Result (ℕ × ℕ) CborFault
head_at kind [] = Err Short
head_at kind (first ∷ rest) =
    if first / 32 == kind then number_at (first % 32) rest else Err Kind

-- the kind that a text begins with
abbrev pub kind_of : List ℕ → ℕ
kind_of [] = 0
kind_of (first ∷ rest) = first / 32

abbrev pub headed : ℕ → Result (ℕ × ℕ) CborFault → Result (Head × ℕ) CborFault
headed kind (Ok x) = Ok (record { major = kind; value = x.0 }, x.1)
headed kind (Err e) = Err e

-- the head of whatever kind the text begins with
abbrev pub any_head_at : List ℕ → Result (Head × ℕ) CborFault
any_head_at w = headed (kind_of w) (head_at (kind_of w) w)
