-- What the calls on endpoints answer, and what judging answers.
use Rattle.std.specs.Prelude.{◌≡◌, ℕ, ◌+◌, ◌<◌, ◌≤◌, List, length, slice_index, Option, Result, Ok, Err, IsOk, IsErr}
use Rattle.wire_fields.specs.Refusal.{Stop}
use Rattle.wire_fields.specs.Gives.{Fails}
use Rattle.bundle7.specs.declared.fault.Cause7.{Cause7}
use Rattle.bundle7.specs.declared.fault.EidFault.{EidFault}
use Rattle.bundle7.specs.declared.fault.EidFault.TheVariants as faults

-- What code returned is what reading gives, without the place of a refusal. Memory is wanted only
-- for a value that is there.
abbrev pub GivesEid : {A : Type 0} → Result A EidFault → Result A (ℕ × Stop Cause7) → Type 0
GivesEid (Ok x) given = given ≡ Ok x
GivesEid (Err faults.Eid) given = IsErr given
GivesEid (Err faults.Memory) given = IsOk given

-- Code that looks for a value answered the place after it; its fault, seen by fault, is what reading gives.
abbrev pub EndsAs : {C A E : Type 0}
    → (E → Option (ℕ × Stop C)) → A → Result ℕ E → Result (A × ℕ) (ℕ × Stop C) → Type 0
EndsAs fault value (Ok after) given = given ≡ Ok (value, after)
EndsAs fault value (Err e) given = Fails (fault e) given

-- The five octets at a place are an endpoint of the scheme ipn: the head of two items, the scheme's number,
-- the head of two items again, and the numbers of node and service in one octet each.
pub record IsShortIpn (text : List ℕ) (at : ℕ) : Type 0 where
  pub there : at + 5 ≤ length text
  pub items : slice_index text at ≡ 0x82
  pub scheme : slice_index text (at + 1) ≡ 2
  pub pair : slice_index text (at + 2) ≡ 0x82
  pub node : slice_index text (at + 3) < 24
  pub service : slice_index text (at + 4) < 24
