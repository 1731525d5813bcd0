-- The clauses of calls that answer a value without the place of its refusal.
use Rattle.std.proofs.Common.{◌≡◌, ℕ, List, [], Option, Some, None, Result, Ok, Err, IfSome, IfOk, IsOk, refl, sym, ap, ◌∙◌, subst}
use Rattle.std.specs.Result.{result_ok}
use Rattle.std.proofs.lemmas.Bool.{false≢true}
use Rattle.wire_fields.specs.Format.{Format, Spells}
use Rattle.wire_fields.specs.Refusal.{Stop, Begins}
use Rattle.wire_fields.specs.Reading.{read, IsOctets}
use Rattle.wire_fields.specs.Whole.{read_whole}
use Rattle.wire_fields.proofs.StayLemmas.{begins-read, read-begins}
use Rattle.wire_fields.proofs.WholeLemmas.{whole-only, whole-found}
use Rattle.bundle7.specs.declared.fault.Cause7.{Cause7}
use Rattle.bundle7.specs.declared.fault.EidFault.{EidFault}
use Rattle.bundle7.specs.declared.fault.EidFault.TheVariants as faults
use Rattle.bundle7.specs.Calls.{GivesEid}

result_ok-some : {A E : Type 0} (r : Result A E) (x : A) → result_ok r ≡ Some x → r ≡ Ok x
result_ok-some (Ok y) x is = cc
result_ok-some (Err e) x is = cc

-- ---- an optional value of a whole text

pub optional-found : {A : Type 0} (f : Format Cause7 A) (trailing : Cause7) (w : List ℕ) (o : Option A) → IsOctets w
    → o ≡ result_ok (read_whole f trailing w) → IfSome o (λ x. Spells f [] w x)
optional-found f trailing w None octets is = tt
optional-found f trailing w (Some x) octets is = whole-found f trailing w x octets (result_ok-some (read_whole f trailing w) x (sym is))

pub optional-only : {A : Type 0} (f : Format Cause7 A) (trailing : Cause7) (w : List ℕ) (o : Option A)
    → o ≡ result_ok (read_whole f trailing w) → (x : A) → Spells f [] w x → o ≡ Some x
optional-only f trailing w o is x spells = is ∙ ap result_ok (whole-only f trailing w x spells)

-- ---- an answer with EidFault

gives-is : {A : Type 0} (r : Result A EidFault) (given other : Result A (ℕ × Stop Cause7)) → given ≡ other → GivesEid r given → GivesEid r other
gives-is r given other is gives = subst (GivesEid r) is gives

pub eid_front-found : {A : Type 0} (f : Format Cause7 A) (w : List ℕ) (r : Result (A × ℕ) EidFault) → IsOctets w
    → GivesEid r (read f w 0) → IfOk r (λ x. Begins f w x.1 x.0)
eid_front-found f w (Ok x) octets is = read-begins f w x.1 x.0 octets is
eid_front-found f w (Err e) octets is = tt

pub eid_front-only : {A : Type 0} (f : Format Cause7 A) (w : List ℕ) (r : Result (A × ℕ) EidFault) → GivesEid r (read f w 0)
    → (x : A) (k : ℕ) → Begins f w k x → GivesEid r (Ok (x, k))
eid_front-only f w r gives x k begins = gives-is r (read f w 0) (Ok (x, k)) (begins-read f w k x begins) gives

pub eid_front-refused : {A : Type 0} (f : Format Cause7 A) (w : List ℕ) (r : Result (A × ℕ) EidFault) → GivesEid r (read f w 0)
    → r ≡ Err faults.Eid → (x : A) (k : ℕ) → Begins f w k x → ⊥
eid_front-refused f w r gives refused x k begins =
    let here : GivesEid r (Ok (x, k)) = eid_front-only f w r gives x k begins in
    false≢true (subst (λ (q : _). GivesEid q (Ok (x, k))) refused here)

pub eid_whole-found : {A : Type 0} (f : Format Cause7 A) (trailing : Cause7) (w : List ℕ) (r : Result A EidFault) → IsOctets w
    → GivesEid r (read_whole f trailing w) → IfOk r (λ x. Spells f [] w x)
eid_whole-found f trailing w (Ok x) octets is = whole-found f trailing w x octets is
eid_whole-found f trailing w (Err e) octets is = tt

pub eid_whole-only : {A : Type 0} (f : Format Cause7 A) (trailing : Cause7) (w : List ℕ) (r : Result A EidFault) → GivesEid r (read_whole f trailing w)
    → (x : A) → Spells f [] w x → GivesEid r (Ok x)
eid_whole-only f trailing w r gives x spells = gives-is r (read_whole f trailing w) (Ok x) (whole-only f trailing w x spells) gives

pub eid_whole-refused : {A : Type 0} (f : Format Cause7 A) (trailing : Cause7) (w : List ℕ) (r : Result A EidFault) → GivesEid r (read_whole f trailing w)
    → r ≡ Err faults.Eid → (x : A) → Spells f [] w x → ⊥
eid_whole-refused f trailing w r gives refused x spells =
    let here : GivesEid r (Ok x) = eid_whole-only f trailing w r gives x spells in
    false≢true (subst (λ (q : _). GivesEid q (Ok x)) refused here)

ok-value : {A : Type 0} (r : Result A (ℕ × Stop Cause7)) → IsOk r → (x : A) × (r ≡ Ok x)
ok-value (Ok x) ok = (x, refl)
ok-value (Err e) ok = absurd (cc)

pub eid_front-memory : {A : Type 0} (f : Format Cause7 A) (w : List ℕ) (r : Result (A × ℕ) EidFault) → IsOctets w → GivesEid r (read f w 0)
    → r ≡ Err faults.Memory → (x : A) × (k : ℕ) × Begins f w k x
eid_front-memory f w r octets gives short =
    let (x, is) = ok-value (read f w 0) (subst (λ (q : _). GivesEid q (read f w 0)) short gives) in
    (x.0, x.1, read-begins f w x.1 x.0 octets is)

pub eid_whole-memory : {A : Type 0} (f : Format Cause7 A) (trailing : Cause7) (w : List ℕ) (r : Result A EidFault) → IsOctets w
    → GivesEid r (read_whole f trailing w) → r ≡ Err faults.Memory → (x : A) × Spells f [] w x
eid_whole-memory f trailing w r octets gives short =
    let (x, is) = ok-value (read_whole f trailing w) (subst (λ (q : _). GivesEid q (read_whole f trailing w)) short gives) in
    (x, whole-found f trailing w x octets is)
