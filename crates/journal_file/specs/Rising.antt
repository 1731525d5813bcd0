-- Slots of the blocks that were begun, in the order of their ids.
use Rattle.std.specs.Prelude.{◌≡◌, ℕ, ◌<◌, ◌≤◌, ◌==◌, Bool, true, false, ◌&&◌, List, [], ◌∷◌, length, slice_index_or, slice_set, Option, Some, None, is_some}
use Rattle.std.specs.List.{flat_map}
use Rattle.std.specs.Borrow.{Bor}
use Rattle.gate_cases.specs.declared.face.Face.{Face}
use Rattle.journal_file.specs.declared.kept.Pending.{Pending}
use Rattle.journal_file.specs.declared.slots.Slot.{Slot}
use Rattle.journal_file.specs.Keeping.{has_id, is_pending, without_first}
use Rattle.journal_file.specs.Values.{RecordValue, a_begun, a_done, a_mark, a_clear, a_reserved}

-- the block that a slot holds, if it isn't empty
abbrev pub held_of : ℕ → Face → Option ℕ → Option (Bor (List ℕ)) → List Pending
held_of id face came None = []
held_of id face came (Some block) =
    record { id = id; face = face; came = came; block = block.now } ∷ []

abbrev pub held_in : Slot → List Pending
held_in slot = held_of slot.id slot.face slot.came slot.block

-- the blocks in the slots that aren't empty
abbrev pub held : List Slot → List Pending
held slots = flat_map held_in slots

-- all ids are below a number, above it, or no less
abbrev pub AllBelow : ℕ → List Slot → Type 0
AllBelow n [] = Unit {0}
AllBelow n (slot ∷ slots) = (slot.id < n) × AllBelow n slots

abbrev pub AllAbove : ℕ → List Slot → Type 0
AllAbove n [] = Unit {0}
AllAbove n (slot ∷ slots) = (n < slot.id) × AllAbove n slots

abbrev pub AllFrom : ℕ → List Slot → Type 0
AllFrom n [] = Unit {0}
AllFrom n (slot ∷ slots) = (n ≤ slot.id) × AllFrom n slots

-- the ids rise from slot to slot
abbrev pub AreRising : List Slot → Type 0
AreRising [] = Unit {0}
AreRising (slot ∷ slots) = AllAbove slot.id slots × AreRising slots

-- a block that a record begins has an id above this one
abbrev pub IsAbove : ℕ → RecordValue → Type 0
IsAbove greatest (a_begun p) = greatest < p.id
IsAbove greatest (a_done id how) = Unit {0}
IsAbove greatest (a_mark mark) = Unit {0}
IsAbove greatest (a_clear face session) = Unit {0}
IsAbove greatest (a_reserved face number) = Unit {0}

-- the slot holds a block with this id
abbrev pub holds_block : ℕ → Slot → Bool
holds_block id slot = (slot.id == id) && is_some slot.block

-- the block of this id is in this slot: emptying it takes that block away
pub record Found (id at : ℕ) (slots : List Slot) : Type 0 where
  pub within : at < length slots
  pub pending : is_pending id (held slots) ≡ true
  pub leaves : (d s : Slot) → s.id ≡ (slice_index_or slots at d).id → s.block ≡ None
      → held (slice_set slots at s) ≡ without_first (has_id id) (held slots)

-- no slot holds a block with this id
pub record NotFound (id : ℕ) (slots : List Slot) : Type 0 where
  pub pending : is_pending id (held slots) ≡ false
  pub leaves : without_first (has_id id) (held slots) ≡ held slots
