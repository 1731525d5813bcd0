-- The clauses of a decoder, each from the one exact clause that it gives what reading gives.
use Rattle.std.proofs.Common.{◌≡◌, ℕ, List, [], ◌++◌, Option, Some, None, Result, Ok, Err, IfOk, IfErr, IfSome, IsErrAnd, sym, arith}
use Rattle.wire_fields.specs.Format.{Format, Spells}
use Rattle.wire_fields.specs.Refusal.{Stop, Refusal, Begins}
use Rattle.wire_fields.specs.Reading.{read, IsSettled, IsOctets}
use Rattle.wire_fields.specs.Whole.{WholeRefusal, read_whole}
use Rattle.wire_fields.specs.Gives.{Fails, Gives, GivesWhole}
use Rattle.wire_fields.proofs.ReadLemmas.{read-refused, read-refuses}
use Rattle.wire_fields.proofs.StayLemmas.{begins-read, read-begins, read-stays}
use Rattle.wire_fields.proofs.WholeLemmas.{whole-found, whole-only, whole-refused, whole-refuses}

-- an equal answer of reading is given too
pub gives-same : {C X Y E : Type 0} (view : X → Y) (fault : E → Option (ℕ × Stop C)) (result : Result (X × ℕ) E) (r s : Result (Y × ℕ) (ℕ × Stop C))
    → Gives view fault result r → r ≡ s → Gives view fault result s
gives-same view fault result r s g is = rw is at g

-- what a `?` passes on is the fault that it met
pub gives-fault : {C X Y E : Type 0} (view : X → Y) (fault : E → Option (ℕ × Stop C)) (result : Result (X × ℕ) E) (e : E) (all : Result (Y × ℕ) (ℕ × Stop C))
    → IsErrAnd result (λ y. y ≡ e) → Fails (fault e) all → Gives view fault result all
gives-fault view fault (Ok x) e all is fails = absurd is
gives-fault view fault (Err y) e all is fails = rw is fails

refused-by : {C Y : Type 0} (P : ℕ → Stop C → Type 0) (r : Result Y (ℕ × Stop C)) (o : Option (ℕ × Stop C))
    → ((p : ℕ) (s : Stop C) → r ≡ Err (p, s) → P p s) → Fails o r → IfSome o (λ s. P s.0 s.1)
refused-by P r None h fails = tt
refused-by P r (Some s) h fails = h s.0 s.1 fails

-- ---- fronts

pub front-found : {C X A E : Type 0} (f : Format C A) (view : X → A) (fault : E → Option (ℕ × Stop C)) (result : Result (X × ℕ) E) (text : List ℕ)
    → IsOctets text → Gives view fault result (read f text 0) → IfOk result (λ x. Begins f text x.1 (view x.0))
front-found f view fault (Ok x) text fits g = read-begins f text x.1 (view x.0) fits g
front-found f view fault (Err e) text fits g = tt

pub front-only : {C X A E : Type 0} (f : Format C A) (view : X → A) (fault : E → Option (ℕ × Stop C)) (result : Result (X × ℕ) E) (text : List ℕ)
    → Gives view fault result (read f text 0) → (a : A) (k : ℕ) → Begins f text k a → Gives view fault result (Ok (a, k))
front-only f view fault result text g a k begins = gives-same view fault result (read f text 0) (Ok (a, k)) g (begins-read f text k a begins)

pub front-refused : {C X A E : Type 0} (f : Format C A) (view : X → A) (fault : E → Option (ℕ × Stop C)) (result : Result (X × ℕ) E) (text : List ℕ)
    → IsOctets text → Gives view fault result (read f text 0) → IfErr result (λ e. IfSome (fault e) (λ s. Refusal f [] text s.0 s.1))
front-refused f view fault (Ok x) text fits g = tt
front-refused f view fault (Err e) text fits g =
    refused-by (Refusal f [] text) (read f text 0) (fault e) (λ p s is. read-refused f text 0 p s fits (omega arith) is) g

pub front-refuses : {C X A E : Type 0} (f : Format C A) (view : X → A) (fault : E → Option (ℕ × Stop C)) (result : Result (X × ℕ) E) (text : List ℕ)
    → IsOctets text → Gives view fault result (read f text 0) → (at : ℕ) (s : Stop C) → Refusal f [] text at s → Gives view fault result (Err (at, s))
front-refuses f view fault result text fits g at s r = gives-same view fault result (read f text 0) (Err (at, s)) g (read-refuses f [] text at s fits r)

pub front-stays : {C X A E : Type 0} (f : Format C A) (view : X → A) (fault : E → Option (ℕ × Stop C)) (result : Result (X × ℕ) E) (text : List ℕ)
    → IsOctets text → Gives view fault result (read f text 0) → (more : List ℕ) → IsSettled (read f text 0) → Gives view fault result (read f (text ++ more) 0)
front-stays f view fault result text fits g more settled =
    gives-same view fault result (read f text 0) (read f (text ++ more) 0) g (sym (read-stays f text more 0 fits (omega arith) settled))

-- ---- whole texts

pub whole_text-found : {C X A E : Type 0} (f : Format C A) (trailing : C) (view : X → A) (fault : E → Option (ℕ × Stop C)) (result : Result X E) (text : List ℕ)
    → IsOctets text → GivesWhole view fault result (read_whole f trailing text) → IfOk result (λ x. Spells f [] text (view x))
whole_text-found f trailing view fault (Ok x) text fits g = whole-found f trailing text (view x) fits g
whole_text-found f trailing view fault (Err e) text fits g = tt

pub whole_text-only : {C X A E : Type 0} (f : Format C A) (trailing : C) (view : X → A) (fault : E → Option (ℕ × Stop C)) (result : Result X E) (text : List ℕ)
    → GivesWhole view fault result (read_whole f trailing text) → (a : A) → Spells f [] text a → GivesWhole view fault result (Ok a)
whole_text-only f trailing view fault result text g a s = rw (whole-only f trailing text a s) at g

pub whole_text-refused : {C X A E : Type 0} (f : Format C A) (trailing : C) (view : X → A) (fault : E → Option (ℕ × Stop C)) (result : Result X E) (text : List ℕ)
    → IsOctets text → GivesWhole view fault result (read_whole f trailing text) → IfErr result (λ e. IfSome (fault e) (λ s. WholeRefusal f trailing text s.0 s.1))
whole_text-refused f trailing view fault (Ok x) text fits g = tt
whole_text-refused f trailing view fault (Err e) text fits g =
    refused-by (WholeRefusal f trailing text) (read_whole f trailing text) (fault e) (λ p s is. whole-refused f trailing text p s fits is) g

pub whole_text-refuses : {C X A E : Type 0} (f : Format C A) (trailing : C) (view : X → A) (fault : E → Option (ℕ × Stop C)) (result : Result X E) (text : List ℕ)
    → IsOctets text → GivesWhole view fault result (read_whole f trailing text) → (at : ℕ) (s : Stop C) → WholeRefusal f trailing text at s → GivesWhole view fault result (Err (at, s))
whole_text-refuses f trailing view fault result text fits g at s r = rw (whole-refuses f trailing text at s fits r) at g
