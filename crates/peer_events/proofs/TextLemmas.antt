-- Names that are read have texts, whatever the octets.

use Rattle.std.proofs.Common.{◌≡◌, ℕ, ◌==◌, Bool, true, false, if◌then◌else◌, List, Option, Some, None, Result, Ok, Err, IfSome, unwrap_or, refl, subst}
use Rattle.endpoint.specs.declared.name.Endpoint.{Endpoint}
use Rattle.endpoint.specs.declared.name.Endpoint.TheVariants.{Null, Ipn, Dtn}
use Rattle.endpoint.specs.Endpoints.{IsEndpoint, is_ssp}
use Rattle.endpoint.proofs.ReadingLemmas.{named-found}
use Rattle.wire_fields.specs.Format.{Format, give, such_that, ◌>>=◌}
use Rattle.wire_fields.specs.Words.{needs, any_octets, choice}
use Rattle.wire_fields.specs.Reading.{read, judged}
use Rattle.wire_fields.specs.Refusal.{Stop}
use Rattle.wire_fields.specs.declared.lead.UnsignedOrText.{UnsignedOrText}
use Rattle.wire_fields.specs.declared.lead.UnsignedOrText.TheVariants as leads
use Rattle.wire_fields.proofs.ResultLemmas.{found_is, go_on_ok, ok_is}
use Rattle.bundle6.specs.declared.fault.Cause6.{Cause6}
use Rattle.bundle6.specs.declared.primary.Primary6.{Primary6}
use Rattle.bundle6.specs.declared.bundle.Bundle6.{Bundle6}
use Rattle.bundle6.specs.Names.{text_at, named_by, resolve}
use Rattle.bundle6.specs.Table as table6
use Rattle.bundle7.specs.declared.fault.Cause7.{Cause7}
use Rattle.bundle7.specs.declared.fault.Cause7.TheVariants.{Eid}
use Rattle.bundle7.specs.declared.primary.Primary7.{Primary7}
use Rattle.bundle7.specs.declared.bundle.Bundle7.{Bundle7}
use Rattle.bundle7.specs.Eid.{eid, dtn_name, dtn_rest, ipn_name, ssp}
use Rattle.bundle7.specs.Table as table7
use Rattle.gate_log.specs.Subjects.{subject6, subject7, read_as, front6, front7, first_octet, subject_of}
use Rattle.peer_events.specs.Named.{HasText, HasTexts}

-- ---- what every value is that a format reads

record Reads {C A : Type 0} (P : A → Type 0) (f : Format C A) : Type 0 where
  each : (text : List ℕ) (at to : ℕ) (a : A) → read f text at ≡ Ok (a, to) → P a

abbrev Anything : {A : Type 0} → A → Type 0
Anything a = Unit {0}

reads-anything : {C A : Type 0} (f : Format C A) → Reads Anything f
reads-anything f = record { each = λ text at to a is. tt }

reads-give : {C A : Type 0} (P : A → Type 0) (x : A) → P x → Reads {C = C} P (give x)
reads-give {C} P x holds =
    record { each = λ text at to a is. subst P (found_is {E = ℕ × Stop C} x a at to is).0 holds }

reads-then : {C A B : Type 0} (Q : A → Type 0) (P : B → Type 0) (f : Format C A) (g : A → Format C B)
    → Reads Q f → ((a : A) → Q a → Reads P (g a)) → Reads P (f >>= g)
reads-then {A = A} Q P f g first second = record {
  each = λ text at to b is.
      let (x, is_x, rest) = go_on_ok (read f text at) (λ (x : A × ℕ). read (g x.0) text x.1) (b, to) is in
      (second x.0 (first.each text at x.1 x.0 is_x)).each text x.1 to b rest;
}

-- whatever the first value is
reads-after : {C A B : Type 0} (P : B → Type 0) (f : Format C A) (g : A → Format C B)
    → ((a : A) → Reads P (g a)) → Reads P (f >>= g)
reads-after P f g second = reads-then Anything P f g (reads-anything f) (λ a any. second a)

-- where the first values make up one
reads-deep : {C A B D : Type 0} (P : D → Type 0) (f : Format C A) (g : A → Format C B) (h : B → Format C D)
    → ((a : A) → Reads P (g a >>= h)) → Reads P ((f >>= g) >>= h)
reads-deep {A = A} {B = B} P f g h second = record {
  each = λ text at to d is.
      let (y, is_y, rest) = go_on_ok (read (f >>= g) text at) (λ (y : B × ℕ). read (h y.0) text y.1) (d, to) is in
      let (x, is_x, more) = go_on_ok (read f text at) (λ (x : A × ℕ). read (g x.0) text x.1) y is_y in
      (second x.0).each text x.1 to d (rw more rest);
}

reads-given : {C B D : Type 0} (P : D → Type 0) (b : B) (h : B → Format C D) → Reads P (h b) → Reads {C = C} P (give b >>= h)
reads-given P b h second = record { each = second.each }

judged-met : {C A : Type 0} (at to : ℕ) (o : Option C) (x : A × ℕ) (a : A) → judged at o x ≡ Ok (a, to) → (o ≡ None) × (x ≡ (a, to))
judged-met {C} {A} at to None x a is = (refl, ok_is {E = ℕ × Stop C} x (a, to) is)
judged-met at to (Some cause) x a is = absurd (cc)

-- a value under conditions meets them
reads-such : {C A : Type 0} (f : Format C A) (conditions : A → Option C) → Reads (λ a. conditions a ≡ None) (such_that f conditions)
reads-such {C} {A} f conditions = record {
  each = λ text at to a is.
      let (x, is_x, rest) = go_on_ok (read f text at) (λ (x : A × ℕ). judged at (conditions x.0) x) (a, to) is in
      let met = judged-met at to (conditions x.0) x a rest in
      subst (λ (y : A × ℕ). conditions y.0 ≡ None) met.1 met.0;
}

met : {C : Type 0} (b : Bool) (cause : C) → needs b cause ≡ None → b ≡ true
met true cause is = refl
met false cause is = absurd (cc)

-- ---- version 7

reads-ssp : (n : ℕ) → Reads (λ octets. is_ssp octets ≡ true) (ssp n)
reads-ssp n = record {
  each = λ text at to octets is.
      met (is_ssp octets) Eid ((reads-such (any_octets n Eid) (λ (w : List ℕ). needs (is_ssp w) Eid)).each text at to octets is);
}

reads-rest : (lead : UnsignedOrText) → Reads HasText (dtn_rest lead)
reads-rest (leads.Unsigned n) = reads-give HasText Null tt
reads-rest (leads.Text n) =
    reads-then (λ octets. is_ssp octets ≡ true) HasText (ssp n) (λ octets. give (Dtn octets)) (reads-ssp n)
    (λ octets legal. reads-give HasText (Dtn octets) legal)

reads-ipn : Reads HasText ipn_name
unfolding ipn_name
reads-ipn = reads-after HasText _ _ (λ items. reads-after HasText _ _ (λ node. reads-after HasText _ _ (λ service.
    reads-give HasText (Ipn node service) tt)))

reads-dtn : Reads HasText dtn_name
unfolding dtn_name
reads-dtn = reads-after HasText _ _ (λ lead. reads-rest lead)

reads-one : (b : Bool) → Reads HasText (choice b dtn_name ipn_name)
reads-one true = reads-dtn
reads-one false = reads-ipn

reads-eid : Reads HasText eid
unfolding eid
reads-eid = reads-after HasText _ _ (λ items. reads-after HasText _ _ (λ number. reads-one (number == 1)))

abbrev HaveTexts7 : table7.Names → Type 0
HaveTexts7 n = HasText n.destination × HasText n.source

reads-names : Reads HaveTexts7 table7.names
unfolding table7.names
reads-names =
    reads-then HasText HaveTexts7 _ _ reads-eid (λ destination first.
    reads-then HasText HaveTexts7 _ _ reads-eid (λ source second.
    reads-after HaveTexts7 _ _ (λ report_to.
    reads-give HaveTexts7 (record { destination = destination; source = source; report_to = report_to }) (first, second))))

abbrev IsTexts7 : Primary7 → Type 0
IsTexts7 p = HasText p.destination × HasText p.source

reads-primary7 : Reads IsTexts7 table7.primary
unfolding table7.primary
reads-primary7 =
    reads-after IsTexts7 _ _ (λ start.
    reads-after IsTexts7 _ _ (λ head.
    reads-then HaveTexts7 IsTexts7 _ _ reads-names (λ who texts.
    reads-after IsTexts7 _ _ (λ made.
    reads-after IsTexts7 _ _ (λ lifetime.
    reads-after IsTexts7 _ _ (λ part.
    reads-after IsTexts7 _ _ (λ check.
    reads-give IsTexts7 _ texts)))))))

reads-bundle7 : (most : ℕ) → Reads (λ (b : Bundle7). IsTexts7 b.primary) (table7.bundle most)
unfolding table7.bundle
reads-bundle7 most =
    reads-after (λ (b : Bundle7). IsTexts7 b.primary) _ _ (λ start.
    reads-then IsTexts7 (λ (b : Bundle7). IsTexts7 b.primary) _ _ reads-primary7 (λ main texts.
    reads-after (λ (b : Bundle7). IsTexts7 b.primary) _ _ (λ all.
    reads-after (λ (b : Bundle7). IsTexts7 b.primary) _ _ (λ end.
    reads-give (λ (b : Bundle7). IsTexts7 b.primary) _ texts))))

-- ---- version 6

endpoint-text : (e : Endpoint) → IsEndpoint e → HasText e
endpoint-text Null legal = tt
endpoint-text (Ipn node service) legal = tt
endpoint-text (Dtn ssp) legal = legal

named-text : (scheme ssp : Option (List ℕ)) (e : Endpoint) → named_by scheme ssp ≡ Some e → HasText e
named-text None ssp e is = absurd (cc)
named-text (Some scheme) None e is = absurd (cc)
named-text (Some scheme) (Some ssp) e is = endpoint-text e (named-found scheme ssp e is).legal

-- the endpoint of two numbers, or of two texts
resolved-text : (plain null : Bool) (node service : ℕ) (scheme ssp : Option (List ℕ))
    → HasText (unwrap_or (if plain then Some (if null then Null else Ipn node service) else named_by scheme ssp) Null)
resolved-text true true node service scheme ssp = tt
resolved-text true false node service scheme ssp = tt
resolved-text false null node service scheme ssp = by (named_by scheme ssp) refl
  where
    by : (o : Option Endpoint) → named_by scheme ssp ≡ o → HasText (unwrap_or o Null)
    by None is = tt
    by (Some e) is = named-text scheme ssp e is

abbrev IsTexts6 : Primary6 × List ℕ → Type 0
IsTexts6 x = HasText x.0.destination × HasText x.0.source

reads-primary6 : Reads IsTexts6 table6.primary
unfolding table6.primary table6.dictionary resolve
reads-primary6 =
    reads-after IsTexts6 _ _ (λ version.
    reads-after IsTexts6 _ _ (λ flags.
    reads-after IsTexts6 _ _ (λ size.
    reads-after IsTexts6 _ _ (λ start.
    reads-after IsTexts6 _ _ (λ pairs.
    reads-after IsTexts6 _ _ (λ seconds.
    reads-after IsTexts6 _ _ (λ sequence.
    reads-after IsTexts6 _ _ (λ lifetime.
    reads-deep IsTexts6 _ _ _ (λ length_is.
    reads-deep IsTexts6 _ _ _ (λ texts.
    reads-given IsTexts6 _ _ (
    reads-after IsTexts6 _ _ (λ part.
    reads-after IsTexts6 _ _ (λ end.
    reads-after IsTexts6 _ _ (λ ended.
    reads-give IsTexts6 _ (
      resolved-text _ _ _ _ (text_at texts pairs.destination.scheme) (text_at texts pairs.destination.ssp),
      resolved-text _ _ _ _ (text_at texts pairs.source.scheme) (text_at texts pairs.source.ssp),
    )))))))))))))))

reads-bundle6 : (most : ℕ) → Reads (λ (b : Bundle6). HasText b.primary.destination × HasText b.primary.source) (table6.bundle most)
unfolding table6.bundle
reads-bundle6 most =
    reads-then IsTexts6 (λ (b : Bundle6). HasText b.primary.destination × HasText b.primary.source) _ _ reads-primary6 (λ main texts.
    reads-after (λ (b : Bundle6). HasText b.primary.destination × HasText b.primary.source) _ _ (λ blocks.
    reads-give (λ (b : Bundle6). HasText b.primary.destination × HasText b.primary.source) _ texts))

-- ---- subjects

front7-texts : (block : List ℕ) → IfSome (front7 block) HasTexts
front7-texts block = by (read (table7.bundle 64) block 0) refl
  where
    by : (r : Result (Bundle7 × ℕ) (ℕ × Stop Cause7)) → read (table7.bundle 64) block 0 ≡ r → IfSome (read_as subject7 r) HasTexts
    by (Ok x) is = (reads-bundle7 64).each block 0 x.1 x.0 is
    by (Err stop) is = tt

front6-texts : (block : List ℕ) → IfSome (front6 block) HasTexts
front6-texts block = by (read (table6.bundle 64) block 0) refl
  where
    by : (r : Result (Bundle6 × ℕ) (ℕ × Stop Cause6)) → read (table6.bundle 64) block 0 ≡ r → IfSome (read_as subject6 r) HasTexts
    by (Ok x) is = (reads-bundle6 64).each block 0 x.1 x.0 is
    by (Err stop) is = tt

pub subject-texts : (block : List ℕ) → IfSome (subject_of block) HasTexts
unfolding subject_of
subject-texts block = by (first_octet block == 6)
  where
    by : (b : Bool) → IfSome (if b then front6 block else front7 block) HasTexts
    by true = front6-texts block
    by false = front7-texts block
