-- What octets look like to somebody who has given them to a command that wants others.
use Rattle.std.specs.Prelude.{ℕ, Bool, not, ◌&&◌, ◌||◌, ◌==◌, nat_lt, nat_le, nat_eq, ◌+◌, ◌-◌}
use Rattle.std.specs.Prelude.{List, [], ◌∷◌, take, drop, length, codes, Option, None, Some, slice_index}
use Rattle.std.specs.List.{starts_with, list_all, list_any, position}
use Rattle.std.specs.Str.{bytes_eq}

-- they begin with these
abbrev pub begins : List ℕ → List ℕ → Bool
begins octets front = starts_with nat_eq octets front

-- ---- files

-- a capture: pcap in either order of octets, in micro- or nanoseconds, and pcapng
abbrev pub is_capture : List ℕ → Bool
is_capture octets =
    begins octets (0xD4 ∷ 0xC3 ∷ 0xB2 ∷ 0xA1 ∷ [])
    || begins octets (0xA1 ∷ 0xB2 ∷ 0xC3 ∷ 0xD4 ∷ [])
    || begins octets (0x4D ∷ 0x3C ∷ 0xB2 ∷ 0xA1 ∷ [])
    || begins octets (0xA1 ∷ 0xB2 ∷ 0x3C ∷ 0x4D ∷ [])
    || begins octets (0x0A ∷ 0x0D ∷ 0x0D ∷ 0x0A ∷ [])

-- compressed: gzip, xz, zstd
abbrev pub is_compressed : List ℕ → Bool
is_compressed octets =
    begins octets (0x1F ∷ 0x8B ∷ [])
    || begins octets (0xFD ∷ 0x37 ∷ 0x7A ∷ 0x58 ∷ 0x5A ∷ [])
    || begins octets (0x28 ∷ 0xB5 ∷ 0x2F ∷ 0xFD ∷ [])

-- a byte order mark: of UTF-8, or of UTF-16 in either order
abbrev pub is_marked : List ℕ → Bool
is_marked octets =
    begins octets (0xEF ∷ 0xBB ∷ 0xBF ∷ [])
    || begins octets (0xFF ∷ 0xFE ∷ [])
    || begins octets (0xFE ∷ 0xFF ∷ [])

-- ---- octets, each by itself

-- a digit of hex, in either case
abbrev pub is_hex_digit : ℕ → Bool
is_hex_digit octet =
    (nat_le 48 octet && nat_le octet 57) || (nat_le 65 octet && nat_le octet 70) || (nat_le 97 octet && nat_le octet 102)

-- what people put between digits: a tab, a space, a minus, a colon
abbrev pub is_between : ℕ → Bool
is_between octet = octet == 9 || octet == 32 || octet == 45 || octet == 58

-- no text has it: a control other than tab, line feed and return, or no octet of ASCII
abbrev pub is_no_text : ℕ → Bool
is_no_text octet = nat_lt 126 octet || (nat_lt octet 32 && not (octet == 9) && not (octet == 10) && not (octet == 13))

abbrev pub is_upper : ℕ → Bool
is_upper octet = nat_le 65 octet && nat_le octet 90

-- ---- texts

abbrev pub is_hex : List ℕ → Bool
is_hex octets = list_all is_hex_digit octets

-- digits of hex, with or without something between them
abbrev pub is_spaced_hex : List ℕ → Bool
is_spaced_hex octets = list_all (λ octet. is_hex_digit octet || is_between octet) octets

-- two bytes or more in hex, and nothing else as far as the first four octets tell
abbrev pub begins_in_hex : List ℕ → Bool
begins_in_hex octets = nat_le 4 (length octets) && is_spaced_hex (take 4 octets)

-- 0x, in either case, at the beginning
abbrev pub begins_with_0x : List ℕ → Bool
begins_with_0x octets = begins octets (codes "0x") || begins octets (codes "0X")

abbrev pub has_no_text : List ℕ → Bool
has_no_text octets = list_any is_no_text octets

abbrev pub has_tab : List ℕ → Bool
has_tab octets = list_any (λ octet. octet == 9) octets

-- the last octet, where there is one
abbrev pub ends_with : ℕ → List ℕ → Bool
ends_with last octets = nat_lt 0 (length octets) && slice_index octets (length octets - 1) == last

-- nothing but a line's end, or what is left of one without its last octet
abbrev pub is_line_end : List ℕ → Bool
is_line_end octets =
    bytes_eq octets (codes "\n") || bytes_eq octets (codes "\r\n") || bytes_eq octets (codes "\r")

-- ---- words, which single spaces separate

abbrev pub is_space : ℕ → Bool
is_space octet = octet == 32

abbrev pub up_to : List ℕ → Option ℕ → List ℕ
up_to octets None = octets
up_to octets (Some at) = take at octets

abbrev pub past : List ℕ → Option ℕ → List ℕ
past octets None = []
past octets (Some at) = drop (at + 1) octets

-- the first word, and what follows the space after it
abbrev pub first_word : List ℕ → List ℕ
first_word octets = up_to octets (position is_space octets)

abbrev pub after_word : List ℕ → List ℕ
after_word octets = past octets (position is_space octets)

-- a space at the end, or two after the first or the second word: each makes an empty word
abbrev pub has_empty_word : List ℕ → Bool
has_empty_word octets =
    ends_with 32 octets || begins (after_word octets) (codes " ")
    || begins (after_word (after_word octets)) (codes " ")

-- a letter in upper case at the beginning
abbrev pub begins_in_upper_case : List ℕ → Bool
begins_in_upper_case octets = nat_lt 0 (length octets) && is_upper (slice_index octets 0)
