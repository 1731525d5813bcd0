-- Why some windows are no plan.

use Rattle.std.specs.Option.{option_map}
use Rattle.std.specs.Prelude.{◌≡◌, ℕ, ◌+◌, ◌<◌, ◌^◌, Bool, ◌&&◌, List, [], ◌∷◌, ◌++◌, length}
use Rattle.std.specs.Prelude.{Option, None, Some, Result, Ok, Err, nat_lt, nat_le, codes}
use Rattle.std.specs.Prelude.{if◌then◌else◌}
use Rattle.contact_plan.specs.declared.fault.PlanFault.{PlanFault}
use Rattle.contact_plan.specs.declared.fault.PlanFault.TheVariants as causes
use Rattle.contact_plan.specs.declared.window.Window.{Window}

abbrev pub fault_word : PlanFault → List ℕ
fault_word causes.TooMany = codes "TooMany"
fault_word (causes.Order index) = codes "Order"
fault_word causes.Memory = codes "Memory"

-- a window may follow one that ends here: it begins there or later, it isn't empty, and it ends at
-- 2^62 at the latest
abbrev pub may_follow : ℕ → Window → Bool
may_follow end window =
    nat_le end window.from && (nat_lt window.from window.to && nat_le window.to (2 ^ 62))

-- the index of the first window that may not follow the one before it, where those before these
-- windows are of this number and end here
abbrev pub first_misplaced : ℕ → ℕ → List Window → Option ℕ
first_misplaced index end [] = None
first_misplaced index end (window ∷ windows) =
    if may_follow end window then first_misplaced (index + 1) window.to windows else Some index

-- where the last window ends
abbrev pub end_of : ℕ → List Window → ℕ
end_of end [] = end
end_of end (window ∷ windows) = end_of window.to windows

-- why windows are no plan, in the order in which it is tested
abbrev pub plan_fault : List Window → Option PlanFault
plan_fault windows =
    if nat_lt 4096 (length windows) then Some causes.TooMany
    else option_map causes.Order (first_misplaced 0 0 windows)

-- windows are made a plan; or refused for their fault; or there was no memory for one that has none
abbrev pub Plans : List Window → Result (List Window) PlanFault → Type 0
Plans windows (Ok plan) = (plan_fault windows ≡ None) × (plan ≡ windows)
Plans windows (Err causes.Memory) = (plan_fault windows ≡ None) × (0 < length windows)
Plans windows (Err fault) = plan_fault windows ≡ Some fault

-- a window is put at the end of a plan, under the same words; else the plan is as it was
abbrev pub Extends :
    List Window → List Window → Window → Result (Unit {0}) PlanFault → Type 0
Extends old new window (Ok done) =
    (plan_fault (old ++ window ∷ []) ≡ None) × (new ≡ old ++ window ∷ [])
Extends old new window (Err causes.Memory) =
    (plan_fault (old ++ window ∷ []) ≡ None) × (new ≡ old)
Extends old new window (Err fault) =
    (plan_fault (old ++ window ∷ []) ≡ Some fault) × (new ≡ old)
