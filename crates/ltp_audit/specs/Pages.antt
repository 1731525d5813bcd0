-- What an audit keeps: marks of what was said, and octets on pages.

use Rattle.std.specs.Prelude.{◌≡◌, ℕ, ◌/◌, ◌%◌, Bool, ◌==◌, ◌&&◌, ◌||◌, List}
use Rattle.std.specs.Prelude.{Option, None, Some, if◌then◌else◌}
use Rattle.std.specs.Ordering.{nat_cmp, ordering_then}
use Rattle.std.specs.declared.cmp.Ordering.{Ordering}
use Rattle.std.specs.BTreeMap.{get}
use Rattle.std.specs.BTreeSet.{contains}
use Rattle.ltp_session.specs.Cells.{cell, octet_in}
use Rattle.ltp_session.specs.RedPart.{or_else}
use Rattle.ltp_audit.specs.declared.marks.Marks.{Marks}
use Rattle.ltp_audit.specs.declared.marks.Names.{Names}
use Rattle.ltp_audit.specs.declared.page.Page.{Page}
use Rattle.ltp_audit.specs.declared.page.TheConstants.{PAGE}
use Rattle.ltp_audit.specs.declared.red_parts.RedParts.{RedParts}

-- sessions in the order of their originators, and of their numbers
abbrev pub name_cmp : (ℕ × ℕ) → (ℕ × ℕ) → Ordering
name_cmp a b = ordering_then (nat_cmp a.0 b.0) (nat_cmp a.1 b.1)

-- a session's numbers: serial numbers, or those of pages
abbrev pub mark_cmp : ((ℕ × ℕ) × ℕ) → ((ℕ × ℕ) × ℕ) → Ordering
mark_cmp a b = ordering_then (name_cmp a.0 b.0) (nat_cmp a.1 b.1)

abbrev pub same_name : ℕ → ℕ → ℕ → ℕ → Bool
same_name originator session o n = (originator == o) && (session == n)

-- ---- marks

unfoldable pub is_marked : Marks → ℕ → ℕ → ℕ → Bool
is_marked marks o n serial = contains mark_cmp marks.set ((o, n), serial)

unfoldable pub is_named : Names → ℕ → ℕ → Bool
is_named names o n = contains name_cmp names.set (o, n)

-- a mark more
abbrev pub Marked : Marks → ℕ → ℕ → ℕ → Marks → Type 0
Marked old originator session one new = (o n serial : ℕ)
    → is_marked new o n serial
    ≡ ((same_name originator session o n && (one == serial)) || is_marked old o n serial)

-- the same, where it is so
abbrev pub MarkedIf : Bool → Marks → ℕ → ℕ → ℕ → Marks → Type 0
MarkedIf so old originator session one new = (o n serial : ℕ)
    → is_marked new o n serial
    ≡ ((so && (same_name originator session o n && (one == serial))) || is_marked old o n serial)

-- a session more
abbrev pub Named : Names → ℕ → ℕ → Names → Type 0
Named old originator session new = (o n : ℕ)
    → is_named new o n ≡ (same_name originator session o n || is_named old o n)

-- ---- octets

abbrev pub cell_on : Option Page → ℕ → Option ℕ
cell_on None k = None
cell_on (Some page) k = cell page.cells k

-- the octet that is kept for a place of a session's red part
unfoldable pub octet_at : RedParts → ℕ → ℕ → ℕ → Option ℕ
octet_at parts o n place = cell_on (get mark_cmp parts.pages ((o, n), place / PAGE)) (place % PAGE)

-- the octet of a place, where some octets are kept too for one of the sessions
abbrev pub with_octets : Bool → Option ℕ → ℕ → List ℕ → ℕ → Option ℕ
with_octets here held offset body place =
    if here then or_else held (octet_in offset body place) else held

-- octets of a session more
abbrev pub LaysOctets : RedParts → ℕ → ℕ → ℕ → List ℕ → RedParts → Type 0
LaysOctets old originator session offset body new = (o n place : ℕ)
    → octet_at new o n place
    ≡ with_octets (same_name originator session o n) (octet_at old o n place) offset body place
