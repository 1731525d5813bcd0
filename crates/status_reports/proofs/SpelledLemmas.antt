-- What fields that are spelled say of their octets.

use Rattle.std.proofs.Common.{◌≡◌, ℕ, ◌+◌, ◌-◌, ◌^◌, ◌<◌, ◌==◌, Bool, true, false, List, [], ◌++◌, length, Option, Some, None, option_map, Result, Ok, Err, is_ok, unwrap_or, refl, sym, ap, ◌∙◌, inl, inr, arith}
use Rattle.std.proofs.lemmas.Bool.{eqb-true, cases_lt}
use Rattle.std.proofs.lemmas.List.{append-nil, length-append, get_or_append_left, get_or_past}
use Rattle.std.specs.Result.{result_ok}
use Rattle.sdnv.specs.Shortest.{spelling}
use Rattle.sdnv.proofs.ShortestLemmas.{spelling-shortest}
use Rattle.endpoint.specs.declared.name.Endpoint.{Endpoint}
use Rattle.endpoint.specs.declared.name.Endpoint.TheVariants.{Null}
use Rattle.endpoint.specs.declared.fault.EndpointFault.{EndpointFault}
use Rattle.endpoint.specs.Endpoints.{IsEndpoint, text_of}
use Rattle.endpoint.specs.Reading.{read_text}
use Rattle.endpoint.proofs.ReadingLemmas.{read_text-found}
use Rattle.wire_fields.specs.Format.{Format, give, place, since, field, such_that, and_then, Spells}
use Rattle.wire_fields.specs.Words.{needs}
use Rattle.wire_fields.specs.Reading.{IsOctets}
use Rattle.wire_fields.proofs.ReadLemmas.{octets-back}
use Rattle.bundle_meaning.specs.declared.fault.BlockFault.TheVariants.{Bad}
use Rattle.bundle_meaning.specs.Body.{shortest, name, is_name, name_octets}
use Rattle.status_reports.specs.Causes.{with_cause}
use Rattle.status_reports.specs.declared.fault.AdminFault.TheVariants.{BadAdmin}
use Rattle.status_reports.specs.Fields.{number, source6}

-- ---- causes and conditions

no-cause : {C D : Type 0} (cause : D) (o : Option C) → option_map (λ c. cause) o ≡ None → o ≡ None
no-cause cause None is = refl
no-cause cause (Some c) is = absurd (cc)

-- what spells fields with another cause spells them
pub caused : {C D A : Type 0} (cause : D) (f : Format C A) (front w : List ℕ) (a : A)
    → Spells (with_cause cause f) front w a → Spells f front w a
caused cause (give x) front w a s = s
caused cause place front w a s = s
caused cause (since p) front w a s = s
caused cause (field k c) front w a s = s
caused cause (such_that f conditions) front w a s = (caused cause f front w a s.0, no-cause cause (conditions a) s.1)
caused cause (and_then f g) front w a s =
    let (u, v, x, e, one, other) = s in
    (u, v, x, e, caused cause f front u x one, caused cause (g x) (front ++ u) v a other)

pub needs-holds : {C : Type 0} (b : Bool) (c : C) → needs b c ≡ None → b ≡ true
needs-holds true c is = refl
needs-holds false c is = absurd (cc)

-- ---- parts of octets

pub octets-front : (w u v : List ℕ) → w ≡ u ++ v → IsOctets w → IsOctets u
octets-front w u v parts fits i =
    elim (cases_lt i (length u)) [
      | inl inside ↦ rw (← get_or_append_left u v 0 i inside, ← parts) (fits i)
      | inr out ↦ rw (get_or_past u i 0 out) (omega arith)
    ]

pub octets-rest : (w u v : List ℕ) → w ≡ u ++ v → IsOctets w → IsOctets v
octets-rest w u v parts fits = octets-back u v (rw parts at fits)

-- the texts of two parts make up the text of both
pub joined : (w u u' v v' : List ℕ) → w ≡ u ++ v → u ≡ u' → v ≡ v' → w ≡ u' ++ v'
joined w u u' v v' parts front back = parts ∙ (ap (λ (t : List ℕ). t ++ v) front ∙ ap (λ (t : List ℕ). u' ++ t) back)

-- the same where nothing follows
pub ended : (w u u' v : List ℕ) → w ≡ u ++ v → u ≡ u' → v ≡ [] → w ≡ u'
ended w u u' v parts front back = joined w u u' v [] parts front back ∙ append-nil u'

-- ---- numbers

-- a number that is spelled is one, and these are its octets
pub record IsNumber (w : List ℕ) (n : ℕ) : Type 0 where
  pub fits : n < 2 ^ 64
  pub octets : w ≡ spelling n

pub shortest-spelled : (front w : List ℕ) (n : ℕ) → IsOctets w → Spells shortest front w n → IsNumber w n
unfolding shortest
shortest-spelled front w n octets s =
    let (u1, v1, start, e1, s1, r1) = s in
    let (u2, v2, x, e2, s2, r2) = r1 in
    let (u3, v3, end, e3, s3, r3) = r2 in
    let (u4, v4, t, e4, s4, r4) = r3 in
    let v2-is : v2 ≡ [] = rw (e3, s3.0, e4, s4.0.0, r4.0) refl in
    let w-is : w ≡ u2 = rw (e1, s1.0, e2, v2-is) (append-nil u2) in
    let test : end - start ≡ length (spelling x) = eqb-true (end - start) (length (spelling x)) (needs-holds (end - start == length (spelling x)) Bad s4.1) in
    let before : length (front ++ u1) ≡ length front = rw s1.0 (ap length (append-nil front)) in
    let all : end ≡ length (front ++ u1) + length u2 = s3.1 ∙ length-append (front ++ u1) u2 in
    let long : length u2 ≡ length (spelling x) = omega (arith, test, before, all, s1.1) in
    let same : u2 ≡ spelling x = (spelling-shortest x s2.small).only u2 (λ i. octets-front w u2 [] (w-is ∙ sym (append-nil u2)) octets i) s2 long in
    record { fits = rw r4.1 s2.small; octets = rw r4.1 (w-is ∙ same) }

pub number-spelled : (front w : List ℕ) (n : ℕ) → IsOctets w → Spells number front w n → IsNumber w n
number-spelled front w n octets s = shortest-spelled front w n octets (caused BadAdmin shortest front w n s)

-- ---- endpoints

pub record IsNamed (w : List ℕ) (e : Endpoint) : Type 0 where
  pub legal : IsEndpoint e
  pub octets : w ≡ name_octets e

pub record IsText (text : List ℕ) (e : Endpoint) : Type 0 where
  pub legal : IsEndpoint e
  pub is : text ≡ text_of e

named-text : (text : List ℕ) (r : Result Endpoint EndpointFault) → read_text text ≡ r → is_ok r ≡ true → IsText text (unwrap_or (result_ok r) Null)
named-text text (Ok e) is good = let spelled = read_text-found text e is in record { legal = spelled.legal; is = spelled.spelled }
named-text text (Err fault) is good = absurd (cc)

pub source6-spelled : (front w : List ℕ) (e : Endpoint) → IsOctets w → Spells source6 front w e → IsNamed w e
unfolding name
source6-spelled front w e octets s =
    let (u1, v1, size, e1, s1, r1) = caused BadAdmin name front w e s in
    let (u2, v2, text, e2, s2, r2) = r1 in
    let one = shortest-spelled front u1 size (octets-front w u1 v1 e1 octets) s1 in
    let named = named-text text (read_text text) refl (needs-holds (is_name text) Bad s2.1) in
    let text-is : v1 ≡ text = ended v1 u2 text v2 e2 s2.0.0 r2.0 in
    let long : size ≡ length text = sym s2.0.1 ∙ ap length s2.0.0 in
    let whole : w ≡ spelling (length text) ++ text = joined w u1 (spelling (length text)) v1 text e1 (one.octets ∙ ap spelling long) text-is in
    record { legal = rw r2.1 named.legal; octets = rw r2.1 (whole ∙ rw (← named.is) refl) }
