-- The clauses of a reader of whole bodies, each from the exact one.

use Rattle.std.proofs.Common.{◌≡◌, ◌⊎◌, ℕ, List, [], Result, Ok, Err, IsOk, IfOk, refl, sym, ap, ◌∙◌, inl, inr}
use Rattle.wire_fields.specs.Format.{Format, Spells}
use Rattle.wire_fields.specs.Refusal.{Stop}
use Rattle.wire_fields.specs.Reading.{IsOctets}
use Rattle.wire_fields.specs.Whole.{read_whole}
use Rattle.wire_fields.proofs.ResultLemmas.{ok_is, err_is}
use Rattle.wire_fields.proofs.WholeLemmas.{whole-found, whole-only}
use Rattle.status_reports.specs.declared.fault.AdminFault.{AdminFault}
use Rattle.status_reports.specs.declared.fault.AdminFault.TheVariants.{CustodySignal, CustodyReport, AdminUnknown, BadAdmin, Memory}
use Rattle.status_reports.specs.Order.{told, Answers, SpellsNone}

good : {A : Type 0} → A → Result A AdminFault
good x = Ok x

bad : {A : Type 0} → AdminFault → Result A AdminFault
bad fault = Err fault

-- ---- a report that is told was read, and a refusal that is told is the cause

told-ok : {A : Type 0} (cause : AdminFault) (r : Result A (ℕ × Stop AdminFault)) (x : A) → told cause r ≡ Ok x → r ≡ Ok x
told-ok cause (Ok y) x is = cc
told-ok cause (Err stop) x is = absurd (cc)

told-err : {A : Type 0} (cause fault : AdminFault) (r : Result A (ℕ × Stop AdminFault)) → told cause r ≡ Err fault → cause ≡ fault
told-err cause fault (Ok y) is = absurd (cc)
told-err {A} cause fault (Err stop) is = err_is {A = A} cause fault is

told-read : {A : Type 0} (cause : AdminFault) (r : Result A (ℕ × Stop AdminFault)) → IsOk (told cause r) → (x : A) × (r ≡ Ok x)
told-read cause (Ok y) is = (y, refl)
told-read cause (Err stop) is = absurd (cc)

-- ---- the clauses

pub answers-found : {A : Type 0} (f : Format AdminFault A) (cause : AdminFault) (result : Result A AdminFault) (body : List ℕ)
    → IsOctets body → Answers result (told cause (read_whole f BadAdmin body)) → IfOk result (λ x. Spells f [] body x)
answers-found f cause (Ok x) body fits is = whole-found f BadAdmin body x fits (told-ok cause (read_whole f BadAdmin body) x is)
answers-found f cause (Err fault) body fits is = tt

refused-none : {A : Type 0} (cause fault : AdminFault) (r : Result A (ℕ × Stop AdminFault)) (x : A) → r ≡ Ok x → told cause r ≡ Err fault → ⊥
refused-none cause fault (Ok y) x read is = absurd (cc)
refused-none cause fault (Err stop) x read is = absurd (cc)

pub answers-only : {A : Type 0} (f : Format AdminFault A) (cause : AdminFault) (result : Result A AdminFault) (body : List ℕ)
    → Answers result (told cause (read_whole f BadAdmin body)) → (x : A) → Spells f [] body x
    → (result ≡ Ok x) ⊎ (result ≡ Err Memory)
unfolding good
answers-only {A} f cause (Ok y) body is x spells =
    let read = told-ok cause (read_whole f BadAdmin body) y is in
    let same : y ≡ x = ok_is {E = ℕ × Stop AdminFault} y x (sym read ∙ whole-only f BadAdmin body x spells) in inl (ap good same)
answers-only f cause (Err Memory) body is x spells = inr refl
answers-only f cause (Err CustodySignal) body is x spells = absurd (refused-none cause CustodySignal (read_whole f BadAdmin body) x (whole-only f BadAdmin body x spells) is)
answers-only f cause (Err CustodyReport) body is x spells = absurd (refused-none cause CustodyReport (read_whole f BadAdmin body) x (whole-only f BadAdmin body x spells) is)
answers-only f cause (Err AdminUnknown) body is x spells = absurd (refused-none cause AdminUnknown (read_whole f BadAdmin body) x (whole-only f BadAdmin body x spells) is)
answers-only f cause (Err BadAdmin) body is x spells = absurd (refused-none cause BadAdmin (read_whole f BadAdmin body) x (whole-only f BadAdmin body x spells) is)

pub answers-refused : {A : Type 0} (f : Format AdminFault A) (cause : AdminFault) (result : Result A AdminFault) (body : List ℕ)
    → IsOctets body → Answers result (told cause (read_whole f BadAdmin body)) → SpellsNone f body → result ≡ Err cause
unfolding bad
answers-refused f cause (Ok y) body fits is none =
    absurd (none y (whole-found f BadAdmin body y fits (told-ok cause (read_whole f BadAdmin body) y is)))
answers-refused f cause (Err Memory) body fits is none =
    let (x, read) = told-read cause (read_whole f BadAdmin body) is in
    absurd (none x (whole-found f BadAdmin body x fits read))
answers-refused f cause (Err CustodySignal) body fits is none = ap bad (sym (told-err cause CustodySignal (read_whole f BadAdmin body) is))
answers-refused f cause (Err CustodyReport) body fits is none = ap bad (sym (told-err cause CustodyReport (read_whole f BadAdmin body) is))
answers-refused f cause (Err AdminUnknown) body fits is none = ap bad (sym (told-err cause AdminUnknown (read_whole f BadAdmin body) is))
answers-refused f cause (Err BadAdmin) body fits is none = ap bad (sym (told-err cause BadAdmin (read_whole f BadAdmin body) is))
