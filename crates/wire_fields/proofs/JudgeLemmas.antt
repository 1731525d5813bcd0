-- The clauses of a judge, and of a decoder that wants memory only for what is spelled, each from the
-- one exact clause.
use Rattle.std.proofs.Common.{◌≡◌, ℕ, List, [], ◌++◌, Option, Some, None, Result, Ok, Err, IfOk, IfErr, IsErrAnd, refl, sym, ap, ◌∙◌, arith}
use Rattle.std.specs.Prelude.{IsOk}
use Rattle.wire_fields.specs.Format.{Format}
use Rattle.wire_fields.specs.Refusal.{Stop, Refusal, Begins}
use Rattle.wire_fields.specs.Reading.{read, IsSettled, IsOctets}
use Rattle.wire_fields.specs.Gives.{Fails, Gives, Judges, WantsOnlySpelled}
use Rattle.wire_fields.proofs.ResultLemmas.{found, stopped, found_is, stopped_is, err_is}
use Rattle.wire_fields.proofs.ReadLemmas.{read-refused, read-refuses}
use Rattle.wire_fields.proofs.StayLemmas.{begins-read, read-begins, read-stays}
use Rattle.wire_fields.proofs.KeepsLemmas.{kept}

abbrev good : {A E : Type 0} → A → Result A E
good x = Ok x

abbrev bad : {A E : Type 0} → E → Result A E
bad e = Err e

-- ---- a table that keeps less tells how far the octets go

pub judged-ok : {C A B E : Type 0} (fault : E → ℕ × Stop C) (h : A → B) (given : Result (A × ℕ) (ℕ × Stop C)) (b : B) (k : ℕ)
    → kept h given ≡ Ok (b, k) → Judges fault (Ok k) given
judged-ok fault h (Ok x) b k is = sym (found_is (h x.0) b x.1 k is).1
judged-ok fault h (Err s) b k is = absurd (cc)

pub judged-err : {C A B E : Type 0} (fault : E → ℕ × Stop C) (h : A → B) (given : Result (A × ℕ) (ℕ × Stop C)) (e : E)
    → kept h given ≡ Err (fault e) → Judges fault (Err e) given
judged-err fault h (Ok x) e is = absurd (cc)
judged-err {B = B} fault h (Err s) e is = ap bad (err_is {A = B × ℕ} s (fault e) is)

-- ---- a judge

module _ {C A E : Type 0} (f : Format C A) (fault : E → ℕ × Stop C) (text : List ℕ) where
  spelled : (k : ℕ) (given : Result (A × ℕ) (ℕ × Stop C)) → IsOctets text → read f text 0 ≡ given
      → Judges fault (Ok k) given → (a : A) × Begins f text k a
  spelled k (Ok x) fits is ends = (x.0, read-begins f text k x.0 fits (is ∙ ap (found x.0) (sym ends)))
  spelled k (Err s) fits is ends = absurd ends

  pub judges-found : (result : Result ℕ E) → IsOctets text → Judges fault result (read f text 0)
      → IfOk result (λ k. (a : A) × Begins f text k a)
  judges-found (Ok k) fits judges = spelled k (read f text 0) fits refl judges
  judges-found (Err e) fits judges = tt

  pub judges-only : (result : Result ℕ E) → Judges fault result (read f text 0)
      → (a : A) (k : ℕ) → Begins f text k a → result ≡ Ok k
  judges-only (Ok n) judges a k begins =
      let ends : Judges fault (Ok n) (found a k) = rw (begins-read f text k a begins) at judges in ap good ends
  judges-only (Err e) judges a k begins =
      let same : found a k ≡ bad (fault e) = sym (begins-read f text k a begins) ∙ judges in absurd (cc)

  pub judges-refused : (result : Result ℕ E) → IsOctets text → Judges fault result (read f text 0)
      → IfErr result (λ e. Refusal f [] text (fault e).0 (fault e).1)
  judges-refused (Ok k) fits judges = tt
  judges-refused (Err e) fits judges = read-refused f text 0 (fault e).0 (fault e).1 fits (omega arith) judges

  pub judges-refuses : (result : Result ℕ E) → IsOctets text → Judges fault result (read f text 0)
      → (at : ℕ) (s : Stop C) → Refusal f [] text at s → IsErrAnd result (λ e. ((fault e).0 ≡ at) × ((fault e).1 ≡ s))
  judges-refuses (Ok k) fits judges at s refusal =
      let ends : Judges {A = A} fault (Ok k) (stopped at s) = rw (read-refuses f [] text at s fits refusal) at judges in absurd ends
  judges-refuses (Err e) fits judges at s refusal =
      stopped_is {A = A × ℕ} (fault e).0 at (fault e).1 s (sym judges ∙ read-refuses f [] text at s fits refusal)

  pub judges-stays : (result : Result ℕ E) → IsOctets text → Judges fault result (read f text 0)
      → (more : List ℕ) → IsSettled (read f text 0) → Judges fault result (read f (text ++ more) 0)
  judges-stays result fits judges more settled = rw (read-stays f text more 0 fits (omega arith) settled) judges

-- ---- a decoder that judges

module _ {C X A E : Type 0} (f : Format C A) (view : X → A) (fault : E → Option (ℕ × Stop C)) (text : List ℕ) where
  refused_by : (e : E) (o : Option (ℕ × Stop C)) (given : Result (A × ℕ) (ℕ × Stop C)) (at : ℕ) (s : Stop C) → fault e ≡ o
      → given ≡ stopped at s → Fails o given → (o ≡ None → IsOk given) → fault e ≡ Some (at, s)
  refused_by e None given at s which is fails wants =
      let ok : IsOk {T = A × ℕ} (stopped at s) = rw is at (wants refl) in absurd (cc)
  refused_by e (Some (p, t)) given at s which is fails wants =
      let same = stopped_is {A = A × ℕ} p at t s (sym fails ∙ is) in rw (which, same.0, same.1) refl

  refused_so : (result : Result (X × ℕ) E) (given : Result (A × ℕ) (ℕ × Stop C)) (at : ℕ) (s : Stop C)
      → given ≡ stopped at s → Gives view fault result given → WantsOnlySpelled fault result given
      → IsErrAnd result (λ e. fault e ≡ Some (at, s))
  refused_so (Ok x) given at s is gives wants =
      let same : stopped at s ≡ found (view x.0) x.1 = sym is ∙ gives in absurd (cc)
  refused_so (Err e) given at s is gives wants = refused_by e (fault e) given at s refl is gives wants

  -- what has a refusal is refused with it, whatever the memory
  pub wanting-refuses : (result : Result (X × ℕ) E) → IsOctets text → Gives view fault result (read f text 0)
      → WantsOnlySpelled fault result (read f text 0)
      → (at : ℕ) (s : Stop C) → Refusal f [] text at s → IsErrAnd result (λ e. fault e ≡ Some (at, s))
  wanting-refuses result fits gives wants at s refusal =
      refused_so result (read f text 0) at s (read-refuses f [] text at s fits refusal) gives wants

  ok-spelled : (given : Result (A × ℕ) (ℕ × Stop C)) → IsOctets text → read f text 0 ≡ given → IsOk given
      → (a : A) × (k : ℕ) × Begins f text k a
  ok-spelled (Ok x) fits is ok = (x.0, x.1, read-begins f text x.1 x.0 fits is)
  ok-spelled (Err s) fits is ok = absurd (cc)

  -- where memory is wanted, a front is spelled
  pub wanting-spelled : (result : Result (X × ℕ) E) → IsOctets text → WantsOnlySpelled fault result (read f text 0)
      → IfErr result (λ e. fault e ≡ None → (a : A) × (k : ℕ) × Begins f text k a)
  wanting-spelled (Ok x) fits wants = tt
  wanting-spelled (Err e) fits wants = λ none. ok-spelled (read f text 0) fits refl (wants none)
