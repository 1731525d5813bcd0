-- The words of a command: numbers of a range, and a gateway's name.
use Rattle.std.proofs.Common.{◌≡◌, ◌≢◌, ℕ, Bool, true, false, ◌&&◌, nat_le, ◌≤◌, List, Option, None, Some, Result, Ok, Err, IfOk, refl, sym, ap, ◌∙◌, if◌then◌else◌}
use Rattle.std.proofs.lemmas.Bool.{leb-true}
use Rattle.endpoint.specs.Numeral.{number_of}
use Rattle.endpoint.specs.declared.name.Endpoint.{Endpoint}
use Rattle.endpoint.specs.declared.name.Endpoint.TheVariants.{Null, Ipn, Dtn}
use Rattle.endpoint.specs.declared.fault.EndpointFault.{EndpointFault}
use Rattle.endpoint.specs.Endpoints.{IsEndpoint}
use Rattle.endpoint.specs.Reading.{read_text}
use Rattle.endpoint.proofs.ReadingLemmas.{read_text-found}
use Rattle.replay_script.specs.Events.{number_in, within, gate_of, other_than_null}

-- ---- numbers

right-holds : (a b : Bool) → (a && b) ≡ true → b ≡ true
right-holds true b is = is
right-holds false b is = absurd (cc)

-- a number of a range is at most its end
within-most : (least most : ℕ) (number : Option ℕ) (n : ℕ) → within least most number ≡ Some n → n ≤ most
within-most least most None n is = absurd (cc)
within-most least most (Some m) n is = by_range (nat_le least m && nat_le m most) refl
  where
    chosen : Bool → Option ℕ
    chosen t = if t then Some m else None

    by_range : (t : Bool) → (nat_le least m && nat_le m most) ≡ t → n ≤ most
    by_range true inside =
        let same : Some m ≡ Some n = sym (ap chosen inside) ∙ is in
        let equal : m ≡ n = cc in
        rw (sym equal) (leb-true m most (right-holds (nat_le least m) (nat_le m most) inside))
    by_range false outside =
        let none : None ≡ Some n = sym (ap chosen outside) ∙ is in
        absurd (cc)

pub number-most : (least most : ℕ) (word : List ℕ) (n : ℕ) → number_in least most word ≡ Some n → n ≤ most
unfolding number_in
number-most least most word n is = within-most least most (number_of word) n is

-- ---- a gateway's name

other : (read : Result Endpoint EndpointFault) (gate : Endpoint) → other_than_null read ≡ Some gate → (read ≡ Ok gate) × (gate ≢ Null)
other (Ok Null) gate is = absurd (cc)
other (Ok (Ipn node service)) gate is = (cc, λ null. cc)
other (Ok (Dtn ssp)) gate is = (cc, λ null. cc)
other (Err fault) gate is = absurd (cc)

pub gate-other : {E : Type 0} (text : List ℕ) (read : Result Endpoint E) → IfOk read (λ gate. gate_of text ≡ Some gate)
    → IfOk read (λ gate. gate ≢ Null)
unfolding gate_of
gate-other text (Ok gate) is = (other (read_text text) gate is).1
gate-other text (Err e) is = tt

pub gate-legal : {E : Type 0} (text : List ℕ) (read : Result Endpoint E) → IfOk read (λ gate. gate_of text ≡ Some gate)
    → IfOk read IsEndpoint
unfolding gate_of
gate-legal text (Ok gate) is = (read_text-found text gate (other (read_text text) gate is).0).legal
gate-legal text (Err e) is = tt
