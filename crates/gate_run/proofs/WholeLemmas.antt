-- A whole run, from its first reading on.

use Rattle.std.proofs.Common.{◌≡◌, ℕ, ◌<◌, zero, suc, Bool, List, Option, None, Some, Err, IfSome, refl, sym, subst, ◌∙◌, ap, arith}
use Rattle.edge_traits.specs.Content.{Gains, GainsFront}
use Rattle.edge_traits.specs.Faults.{Calls}
use Rattle.edge_traits.proofs.ContentLemmas.{Gains-none}
use Rattle.gate_config.specs.declared.file.GateFile.{GateFile}
use Rattle.gate_edges.specs.Ahead.{Ahead, reading_next, past_reading}
use Rattle.gate_edges.specs.Made.{Made, AsTold}
use Rattle.outbox.specs.declared.reading.Reading.{Reading}
use Rattle.gate_cases.specs.declared.face.Face.{Face}
use Rattle.journal_file.specs.Values.{KeptValue}
use Rattle.peer_half.specs.Standing.{Standing}
use Rattle.peer_half.specs.Starts.{starts_at}
use Rattle.peer_half.specs.Acts.{Act}
use Rattle.gate_run.specs.Course.{Point, come, has_board, run_over}
use Rattle.gate_run.specs.Outcome.{MadeBy, WentStoring, WentWithout, WentWriting, made_by_all, status_of}
use Rattle.gate_run.specs.Stages.{StopsStoring, StopsWriting, run_over_turns}
use Rattle.gate_run.specs.declared.status.GateStatus.{GateStatus}
use Rattle.gate_run.specs.declared.status.GateStatus.TheVariants.{Done, Memory, SessionsUsed}
use Rattle.gate_run.specs.declared.stop.Stop.{Stop}
use Rattle.gate_run.specs.declared.stop.Stop.TheVariants.{Fault, NoMemory, NoJournal}
use Rattle.gate_run.proofs.HalfLemmas.{told-on}
use Rattle.gate_run.proofs.RunLemmas.{before_anew, run-is}

-- no turn is made
pub none-made : (file : GateFile) (kept : Option KeptValue) (turns : ℕ) (told : Option Ahead) (held : Option (List Made))
    → turns ≡ 0 → IfSome told (λ ahead. MadeBy (run_over file kept turns ahead) Done held held)
unfolding come
none-made file kept turns None held none = tt
none-made file kept zero (Some ahead) held none = Gains-none held
none-made file kept (suc n) (Some ahead) held none = absurd (cc)

-- what turns make from the first reading on is what a run makes
from-first : (P : List Act → Type 0) (told_now : Option Ahead) (file : GateFile) (kept : Option KeptValue) (board : Bool) (turns : ℕ) (reading : Reading) (Shows : Standing → Type 0) (ahead : Ahead)
    → 0 < turns → board ≡ has_board file → Shows (starts_at file kept reading.wall)
    → reading ≡ reading_next ahead → told_now ≡ Some (past_reading ahead)
    → ((p : Point) → Shows p.standing → reading ≡ reading_next p.ahead
    → told_now ≡ Some (past_reading p.ahead) → P (run_over_turns board turns p).acts)
    → P (run_over file kept turns ahead)
from-first P told_now file kept board turns reading Shows ahead some board_is shown is on went =
    by-acts (run-is file kept turns ahead some ∙ ap (λ b. (run_over_turns b turns (before_anew file kept ahead)).acts) (sym board_is))
    (went (before_anew file kept ahead) (by-wall (reading_next ahead) is) is on)
  where
    by-wall : (r : Reading) → reading ≡ r → Shows (starts_at file kept r.wall)
    by-wall r same = rw (sym same) shown

    by-acts : {acts later : List Act} → acts ≡ later → P later → P acts
    by-acts same p = rw same p

pub run-done : (told_now : Option Ahead) (file : GateFile) (kept : Option KeptValue) (board : Bool) (turns : ℕ) (reading : Reading) (Shows : Standing → Type 0) (ahead : Ahead) (before now : Option (List Made))
    → 0 < turns → board ≡ has_board file → Shows (starts_at file kept reading.wall)
    → reading ≡ reading_next ahead → told_now ≡ Some (past_reading ahead)
    → ((p : Point) → Shows p.standing → reading ≡ reading_next p.ahead
    → told_now ≡ Some (past_reading p.ahead)
    → Gains before now (made_by_all (run_over_turns board turns p).acts))
    → MadeBy (run_over file kept turns ahead) Done before now
run-done told_now file kept board turns reading Shows ahead before now some board_is shown is on went =
    from-first (λ acts. Gains before now (made_by_all acts)) told_now file kept board turns reading Shows ahead some board_is shown is on went

made-stopped : (acts : List Act) (stop : Stop) (before now : Option (List Made))
    → GainsFront before now (made_by_all acts) → MadeBy acts (status_of stop) before now
made-stopped acts Fault before now front = front
made-stopped acts NoMemory before now front = front
made-stopped acts NoJournal before now front = front

pub run-stopped : (told_now : Option Ahead) (file : GateFile) (kept : Option KeptValue) (board : Bool) (turns : ℕ) (reading : Reading) (Shows : Standing → Type 0) (ahead : Ahead) (stop : Stop) (before now : Option (List Made))
    → 0 < turns → board ≡ has_board file → Shows (starts_at file kept reading.wall)
    → reading ≡ reading_next ahead → told_now ≡ Some (past_reading ahead)
    → ((p : Point) → Shows p.standing → reading ≡ reading_next p.ahead
    → told_now ≡ Some (past_reading p.ahead)
    → GainsFront before now (made_by_all (run_over_turns board turns p).acts))
    → MadeBy (run_over file kept turns ahead) (status_of stop) before now
run-stopped told_now file kept board turns reading Shows ahead stop before now some board_is shown is on went =
    made-stopped (run_over file kept turns ahead) stop before now
    (from-first (λ acts. GainsFront before now (made_by_all acts)) told_now file kept board turns reading Shows ahead some board_is shown is on went)

pub stopped-writes : (stop : Stop) (X : Type 0) (before now : Calls)
    → StopsWriting {X = X} (Err stop) before now → WentWriting (status_of stop) before now
stopped-writes Fault X before now went = went
stopped-writes NoMemory X before now went = went
stopped-writes NoJournal X before now went = went

pub stopped-stores : (stop : Stop) (X : Type 0) (before now : Calls)
    → StopsStoring {X = X} (Err stop) before now → WentStoring (status_of stop) before now
stopped-stores Fault X before now went = went
stopped-stores NoMemory X before now went = went
stopped-stores NoJournal X before now went = went

-- no run stops for want of session numbers
pub stopped-otherwise : (stop : Stop) (status : GateStatus) (face : Face) → status ≡ status_of stop → status ≡ SessionsUsed face → ⊥
stopped-otherwise Fault status face is used = absurd (cc)
stopped-otherwise NoMemory status face is used = absurd (cc)
stopped-otherwise NoJournal status face is used = absurd (cc)

-- the first reading was as it was told
pub gate-made : (told told_now : Option Ahead) (reading : Reading) (file : GateFile) (kept : Option KeptValue) (turns : ℕ) (status : GateStatus) (before mid now : Option (List Made))
    → AsTold told told_now reading reading_next past_reading → mid ≡ before
    → ((ahead : Ahead) → reading ≡ reading_next ahead → told_now ≡ Some (past_reading ahead)
    → MadeBy (run_over file kept turns ahead) status mid now)
    → IfSome told (λ ahead. MadeBy (run_over file kept turns ahead) status before now)
gate-made None told_now reading file kept turns status before mid now as_told same went = tt
gate-made (Some ahead) told_now reading file kept turns status before mid now as_told same went =
    let both = told-on (Some ahead) told_now reading reading_next past_reading ahead as_told refl in
    rw (← same) (went ahead both.0 both.1)

-- ---- session numbers of earlier runs

-- no turn is made
pub no-turn : (told : Option Ahead) (turns : ℕ) (P : Ahead → Type 0) → turns ≡ 0 → IfSome told (λ ahead. 0 < turns → P ahead)
no-turn None turns P none = tt
no-turn (Some ahead) zero P none = λ some. absurd (omega arith)
no-turn (Some ahead) (suc n) P none = absurd (cc)

-- none is left: nothing was made
pub unmade-used : (told : Option Ahead) (acts : Ahead → List Act) (face : Face) (before now : Option (List Made))
    → now ≡ before → IfSome told (λ ahead. MadeBy (acts ahead) (SessionsUsed face) before now)
unmade-used None acts face before now same = tt
unmade-used (Some ahead) acts face before now same = same

pub went-without : (told told_now : Option Ahead) (reading : Reading) (turns : ℕ) (used : ℕ → Option Face) (found : Option Face) (status : GateStatus)
    → AsTold told told_now reading reading_next past_reading → found ≡ used reading.wall → WentWithout found status
    → IfSome told (λ ahead. 0 < turns → WentWithout (used (reading_next ahead).wall) status)
went-without None told_now reading turns used found status as_told is went = tt
went-without (Some ahead) told_now reading turns used found status as_told is went = λ some.
    let both = told-on (Some ahead) told_now reading reading_next past_reading ahead as_told refl in
    subst (λ (o : Option Face). WentWithout o status) (is ∙ ap (λ (r : Reading). used r.wall) both.0) went

pub not-memory : (face : Face) → Memory ≡ SessionsUsed face → ⊥
not-memory face is = absurd (cc)
