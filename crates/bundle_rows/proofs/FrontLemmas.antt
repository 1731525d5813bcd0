-- The front of some octets, by the words of the formats.

use Rattle.std.proofs.Common.{◌≡◌, ℕ, zero, suc, ◌<◌, ◌≤◌, List, [], length, take, Result, Ok, Err, refl, sym, ap, subst, ◌∙◌, arith}
use Rattle.std.proofs.lemmas.List.{take_all}
use Rattle.wire_fields.specs.Format.{Format, Spells}
use Rattle.wire_fields.specs.Refusal.{Stop, truncated, Refusal}
use Rattle.wire_fields.specs.Gives.{Judges}
use Rattle.wire_fields.specs.Reading.{read, IsOctets}
use Rattle.wire_fields.proofs.ResultLemmas.{found, stopped}
use Rattle.wire_fields.proofs.ReadLemmas.{read-only, read-refused, read-refuses, refusal-place}
use Rattle.wire_fields.proofs.StayLemmas.{begins-read, read-begins}
use Rattle.bundle6.specs.declared.fault.Cause6.{Cause6}
use Rattle.bundle6.specs.declared.bundle.Bundle6.{Bundle6}
use Rattle.bundle6.specs.Cause as cause6
use Rattle.bundle6.specs.Table as table6
use Rattle.bundle7.specs.declared.fault.Cause7.{Cause7}
use Rattle.bundle7.specs.declared.bundle.Bundle7.{Bundle7}
use Rattle.bundle7.specs.Cause as cause7
use Rattle.bundle7.specs.Table as table7
use Rattle.gate_cases.specs.declared.cause.BadCause.{BadCause}
use Rattle.gate_cases.specs.declared.cause.BadCause.TheVariants.{Six, Seven, Trailing}
use Rattle.gate_cases.specs.declared.face.Face.{Face}
use Rattle.gate_cases.specs.declared.face.Face.TheVariants.{Old, New}
use Rattle.gate_cases.specs.Blocks.{bad, arrival6, arrival7, found6, found7, found_at}
use Rattle.gate_cases.proofs.JudgeLemmas.{one6, one7, early6, early7}
use Rattle.bundle_rows.specs.Rows.{Front, bundle, wrong, front6, front7, front_of}
use Rattle.bundle_rows.specs.Standing.{IsBundle, IsRefused}
use Rattle.bundle6.specs.declared.fault.Refused6.{Refused6}
use Rattle.bundle7.specs.declared.fault.Refused7.{Refused7}
use Rattle.gate_cases.proofs.CaseLemmas.{cause6-same, cause7-same}
use Rattle.bundle_rows.specs.declared.next.End.{End}
use Rattle.bundle_rows.specs.Found.{front_found, IsInFront}
use Rattle.bundle_rows.specs.Laws.{IsOne}

-- ---- a bundle has an octet

no-octets6 : read (table6.bundle 64) [] 0 ≡ stopped 0 truncated
unfolding table6.bundle table6.primary
no-octets6 = refl

no-octets7 : read (table7.bundle 64) [] 0 ≡ stopped 0 truncated
unfolding table7.bundle
no-octets7 = refl

some-octets : {C A : Type 0} (f : Format C A) (w : List ℕ) (n : ℕ) (x : A) → read f [] 0 ≡ stopped 0 truncated → Spells f [] (take n w) x → 0 < n
some-octets f w zero x none spells =
    let no : found x 0 ≡ stopped 0 truncated = sym (read-only f [] [] [] x spells) ∙ none in absurd (cc)
some-octets f w (suc n) x none spells = omega arith

-- ---- what the front is

abbrev pub FrontIs : Face → List ℕ → Front → Type 0
FrontIs face w (bundle n) = (0 < n) × (n ≤ length w) × IsBundle face (take n w)
FrontIs face w (wrong place cause) = (place ≤ length w) × IsRefused face w place cause

pub front-is : (face : Face) (w : List ℕ) → IsOctets w → FrontIs face w (front_of face w)
unfolding front_of
front-is Old w fits = by (read (table6.bundle 64) w 0) refl
  where
    by : (r : Result (Bundle6 × ℕ) (ℕ × Stop Cause6)) → read (table6.bundle 64) w 0 ≡ r → FrontIs Old w (front6 r)
    by (Ok (b, n)) is =
        let begins = read-begins (table6.bundle 64) w n b fits is in
        (some-octets (table6.bundle 64) w n b no-octets6 begins.spells, begins.within, (b, begins.spells))
    by (Err (place, stop)) is =
        let refused : Refusal (table6.bundle 64) [] w place stop = read-refused (table6.bundle 64) w 0 place stop fits (omega arith) is in
        let low = refusal-place (table6.bundle 64) [] w place stop refused in
        (omega (arith, low), (stop, refused, refl))
front-is New w fits = by (read (table7.bundle 64) w 0) refl
  where
    by : (r : Result (Bundle7 × ℕ) (ℕ × Stop Cause7)) → read (table7.bundle 64) w 0 ≡ r → FrontIs New w (front7 r)
    by (Ok (b, n)) is =
        let begins = read-begins (table7.bundle 64) w n b fits is in
        (some-octets (table7.bundle 64) w n b no-octets7 begins.spells, begins.within, (b, begins.spells))
    by (Err (place, stop)) is =
        let refused : Refusal (table7.bundle 64) [] w place stop = read-refused (table7.bundle 64) w 0 place stop fits (omega arith) is in
        let low = refusal-place (table7.bundle 64) [] w place stop refused in
        (omega (arith, low), (stop, refused, refl))

-- and what is so is the front
pub bundle-front : (face : Face) (w : List ℕ) (n : ℕ) → n ≤ length w → IsBundle face (take n w) → front_of face w ≡ bundle n
unfolding front_of
bundle-front Old w n within (b, spells) = ap front6 (begins-read (table6.bundle 64) w n b (record { within = within; spells = spells }))
bundle-front New w n within (b, spells) = ap front7 (begins-read (table7.bundle 64) w n b (record { within = within; spells = spells }))

pub refused-front : (face : Face) (w : List ℕ) (place : ℕ) (cause : BadCause) → IsOctets w → IsRefused face w place cause → front_of face w ≡ wrong place cause
unfolding front_of
refused-front Old w place cause fits (stop, refused, is) =
    ap front6 (read-refuses (table6.bundle 64) [] w place stop fits refused) ∙ ap (wrong place) (sym is)
refused-front New w place cause fits (stop, refused, is) =
    ap front7 (read-refuses (table7.bundle 64) [] w place stop fits refused) ∙ ap (wrong place) (sym is)

-- ---- what is found in a block of one bundle at most

whole : (w : List ℕ) → take (length w) w ≡ w
whole w = take_all (length w) w (omega arith)

pub bundle-alone : (face : Face) (w : List ℕ) → IsBundle face w → IsOne (found_at face w)
bundle-alone Old w (b, spells) =
    (arrival6 b, one6 w b (begins-read (table6.bundle 64) w (length w) b (record { within = omega arith; spells = rw (whole w) spells })))
bundle-alone New w (b, spells) =
    (arrival7 b, one7 w b (begins-read (table7.bundle 64) w (length w) b (record { within = omega arith; spells = rw (whole w) spells })))

pub bundle-first : (face : Face) (w : List ℕ) (n : ℕ) → n < length w → IsBundle face (take n w) → found_at face w ≡ bad n Trailing
bundle-first Old w n within (b, spells) =
    let is = begins-read (table6.bundle 64) w n b (record { within = omega arith; spells = spells }) in
    early6 w n (subst (λ (r : Result (Bundle6 × ℕ) (ℕ × Stop Cause6)). Judges cause6.stop_of (Ok n) r) (sym is) refl) (λ all. absurd (omega (arith, all)))
bundle-first New w n within (b, spells) =
    let is = begins-read (table7.bundle 64) w n b (record { within = omega arith; spells = spells }) in
    early7 w n (subst (λ (r : Result (Bundle7 × ℕ) (ℕ × Stop Cause7)). Judges cause7.stop_of (Ok n) r) (sym is) refl) (λ all. absurd (omega (arith, all)))

pub refused-found : (face : Face) (w : List ℕ) (place : ℕ) (cause : BadCause) → IsOctets w → IsRefused face w place cause → found_at face w ≡ bad place cause
unfolding found_at
refused-found Old w place cause fits (stop, refused, is) =
    ap (found6 (length w)) (read-refuses (table6.bundle 64) [] w place stop fits refused) ∙ ap (bad place) (sym is)
refused-found New w place cause fits (stop, refused, is) =
    ap (found7 (length w)) (read-refuses (table7.bundle 64) [] w place stop fits refused) ∙ ap (bad place) (sym is)

-- ---- what code finds

pub found6-bundle : (n : ℕ) (w : List ℕ) → Judges cause6.stop_of (Ok n) (read (table6.bundle 64) w 0) → bundle n ≡ front_of Old w
unfolding front_of
found6-bundle n w is = by (read (table6.bundle 64) w 0) is
  where
    by : (r : Result (Bundle6 × ℕ) (ℕ × Stop Cause6)) → Judges cause6.stop_of (Ok n) r → bundle n ≡ front6 r
    by (Ok x) is = ap bundle is
    by (Err stop) is = absurd is

pub found7-bundle : (n : ℕ) (w : List ℕ) → Judges cause7.stop_of (Ok n) (read (table7.bundle 64) w 0) → bundle n ≡ front_of New w
unfolding front_of
found7-bundle n w is = by (read (table7.bundle 64) w 0) is
  where
    by : (r : Result (Bundle7 × ℕ) (ℕ × Stop Cause7)) → Judges cause7.stop_of (Ok n) r → bundle n ≡ front7 r
    by (Ok x) is = ap bundle is
    by (Err stop) is = absurd is

pub found6-wrong : (e : Refused6) (w : List ℕ) → read (table6.bundle 64) w 0 ≡ Err (cause6.stop_of e) → wrong e.at (Six e.cause) ≡ front_of Old w
unfolding front_of
found6-wrong e w is = ap (λ (c : Cause6). wrong e.at (Six c)) (sym (cause6-same e.cause)) ∙ sym (ap front6 is)

pub found7-wrong : (e : Refused7) (w : List ℕ) → read (table7.bundle 64) w 0 ≡ Err (cause7.stop_of e) → wrong e.at (Seven e.cause) ≡ front_of New w
unfolding front_of
found7-wrong e w is = ap (λ (c : Cause7). wrong e.at (Seven c)) (sym (cause7-same e.cause)) ∙ sym (ap front7 is)

pub in-front : (face : Face) (w : List ℕ) (r : Result ℕ End) → IsOctets w → front_found r ≡ front_of face w → IsInFront (length w) r
in-front face w r fits is = by r (subst (λ (front : Front). FrontIs face w front) (sym is) (front-is face w fits))
  where
    by : (r : Result ℕ End) → FrontIs face w (front_found r) → IsInFront (length w) r
    by (Ok n) (some, within, rest) = (some, within)
    by (Err end) (within, rest) = within
