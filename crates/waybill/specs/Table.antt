-- A small format in which every word of tables stands: a waybill. It belongs to no standard.
use Rattle.std.specs.Prelude.{ℕ, ◌+◌, ◌%◌, Bool, not, ◌&&◌, ◌||◌, ◌==◌, nat_lt, nat_le, List, [], ◌∷◌, Option, Some, None, fold, bit_xor, option_copied}
use Rattle.std.specs.List.{list_any}
use Rattle.wire_fields.specs.declared.lead.UnsignedOrText.{UnsignedOrText}
use Rattle.wire_fields.specs.declared.lead.UnsignedOrText.TheVariants as leads
use Rattle.waybill.specs.declared.fault.Cause.{Cause}
use Rattle.waybill.specs.declared.fault.Cause.TheVariants as causes
use Rattle.waybill.specs.declared.waybill.Item.{Item}
use Rattle.waybill.specs.declared.waybill.Part.{Part}
use Rattle.waybill.specs.declared.waybill.Front.{Front}
use Rattle.waybill.specs.declared.waybill.Waybill.{Waybill}
use Rattle.wire_fields.specs.Format.{Format, give, place, since, such_that, ◌>>=◌}
use Rattle.wire_fields.specs.Words.{needs, ◌also◌, any_octet, any_octets, any_number, any_unsigned_or_text, exact_octet, test, optional, listed, listed_until}

-- ---- values

-- what stands before the items
pub record FrontValue : Type 0 where
  pub seals : ℕ
  pub flags : ℕ
  pub sender : Option (List ℕ)
  pub part : Option Part

-- a waybill without where it lies in memory
pub record Bill : Type 0 where
  pub front : FrontValue
  pub items : List Item
  pub seals : List ℕ

abbrev pub front_of : Front → FrontValue
front_of f = record {
  seals = f.seals;
  flags = f.flags;
  sender = option_copied f.sender;
  part = f.part;
}

abbrev pub bill_of : Waybill → Bill
bill_of w = record { front = front_of w.front; items = w.items.items; seals = w.seals.items }

-- ---- tests

-- the flags' lowest bit: it is a part of something
abbrev pub is_part : ℕ → Bool
is_part flags = flags % 2 == 1

-- kinds 1 and 3 are goods, and kinds 2 and 3 are the last item
abbrev pub is_goods : ℕ → Bool
is_goods kind = kind % 2 == 1

abbrev pub is_last : Item → Bool
is_last item = nat_le 2 item.kind

abbrev pub has_goods : List Item → Bool
has_goods items = list_any (λ item. is_goods item.kind) items

abbrev pub has_number : ℕ → List Item → Bool
has_number number items = list_any (λ item. item.number == number) items

-- nobody, or a text
abbrev pub may_lead : UnsignedOrText → Bool
may_lead (leads.Unsigned n) = n == 0
may_lead (leads.Text n) = nat_lt 0 n && nat_lt n 9

-- all octets, one exclusive or
abbrev pub sum_of : List ℕ → ℕ
sum_of octets = fold bit_xor 0 octets

-- the last of some numbers, or the first given one
abbrev pub last_of : ℕ → List ℕ → ℕ
last_of first [] = first
last_of first (n ∷ ns) = last_of n ns

-- ---- the table

abbrev pub number : Format Cause ℕ
number = any_number causes.Number

abbrev pub name : UnsignedOrText → Format Cause (Option (List ℕ))
name (leads.Unsigned n) = give None
name (leads.Text n) = any_octets n causes.Sender >>= (λ octets. give (Some octets))

abbrev pub sender_lead : Format Cause UnsignedOrText
sender_lead =
    such_that (any_unsigned_or_text causes.Sender) (λ lead. needs (may_lead lead) causes.Sender)

unfoldable pub sender : Format Cause (Option (List ℕ))
sender = do
  lead ← sender_lead
  name lead

abbrev pub total : ℕ → Format Cause ℕ
total offset = such_that number (λ n. needs (nat_lt offset n) causes.Range)

unfoldable pub part : Format Cause Part
part = do
  offset ← number
  whole ← total offset
  give (record { offset = offset; total = whole })

abbrev pub seal_count : Format Cause ℕ
seal_count = such_that (any_octet causes.Count) (λ n. needs (nat_lt n 16) causes.Count)

unfoldable pub front : Format Cause FrontValue
front = do
  mark ← exact_octet 0x57 causes.Mark
  seals ← seal_count
  flags ← number
  size ← number
  start ← place
  from ← sender
  piece ← optional (is_part flags) part
  end ← place
  full ← test (end == start + size) causes.FrontEnd
  give (record { seals = seals; flags = flags; sender = from; part = piece })

-- one of the four kinds, no second goods, and the last item where no more may follow
abbrev pub kind_needs : ℕ → List Item → ℕ → Option Cause
kind_needs left earlier kind =
    needs (nat_lt kind 4) causes.Kind
    also needs (not (is_goods kind && has_goods earlier)) causes.SecondGoods
    also needs (nat_le 2 kind || not (left == 0)) causes.TooManyItems

abbrev pub item_kind : ℕ → List Item → Format Cause ℕ
item_kind left earlier = such_that (any_octet causes.Kind) (kind_needs left earlier)

abbrev pub item_number : List Item → Format Cause ℕ
item_number earlier = such_that number (λ n. needs (not (has_number n earlier)) causes.Repeated)

unfoldable pub item : ℕ → List Item → Format Cause Item
item left earlier = do
  kind ← item_kind left earlier
  number ← item_number earlier
  size ← any_number causes.Number
  content ← any_octets size causes.Number
  give (record { kind = kind; number = number })

-- one octet, the sum of all octets since a place
abbrev pub check : ℕ → Format Cause ℕ
check start = do
  octets ← since start
  such_that (any_octet causes.Check) (λ b. needs (b == sum_of octets) causes.Check)

-- seals do not fall
abbrev pub seal : List ℕ → Format Cause ℕ
seal earlier = such_that number (λ n. needs (nat_le (last_of 0 earlier) n) causes.Order)

abbrev pub seals_listed : ℕ → Format Cause (List ℕ)
seals_listed count = listed count seal

abbrev pub items_listed : ℕ → Format Cause (List Item)
items_listed most = listed_until most item is_last

-- a waybill with at most so many items before its last
unfoldable pub waybill : ℕ → Format Cause Bill
waybill most = do
  start ← place
  head ← front
  items ← items_listed most
  sum ← check start
  seals ← seals_listed head.seals
  give (record { front = head; items = items; seals = seals })
