-- What spells a report of version 6 is its one spelling, and the report is legal.

use Rattle.std.proofs.Common.{◌≡◌, ℕ, ◌^◌, ◌<◌, ◌==◌, ◌||◌, Bool, true, false, ltb, List, [], ◌∷◌, ◌++◌, Option, Result, Ok, Err, IfOk, refl, sym, ap, ◌∙◌}
use Rattle.std.proofs.lemmas.Bool.{eqb-true, ltb-true}
use Rattle.sdnv.specs.Shortest.{spelling}
use Rattle.wire_fields.specs.Format.{Spells}
use Rattle.wire_fields.specs.Words.{optional}
use Rattle.wire_fields.specs.Reading.{IsOctets}
use Rattle.bundle_meaning.specs.declared.report.Part.{Part}
use Rattle.bundle_meaning.specs.Reports.{IsReportPart}
use Rattle.bundle_meaning.specs.Body.{below, name_octets}
use Rattle.status_reports.specs.declared.fault.AdminFault.TheVariants.{BadAdmin}
use Rattle.status_reports.specs.declared.report6.Report6.{Report6}
use Rattle.status_reports.specs.declared.report6.Time6.{Time6}
use Rattle.status_reports.specs.Fields.{is_set}
use Rattle.status_reports.specs.Table6.{is_status, part6, time, time_if, times, report6}
use Rattle.status_reports.specs.Legal.{IsTime, AreTimes, IsReport6}
use Rattle.status_reports.specs.Spelling.{lead_octet, part6_octets, time_octets, times_octets, report6_octets}
use Rattle.status_reports.specs.declared.fault.AdminFault.{AdminFault}
use Rattle.status_reports.specs.declared.report6.LentReport6.{LentReport6}
use Rattle.status_reports.specs.Order.{cause6, answer6, Answers}
use Rattle.status_reports.specs.Views.{report6_lent, seen}
use Rattle.status_reports.proofs.AnswerLemmas.{answers-found}
use Rattle.status_reports.proofs.SpelledLemmas.{caused, needs-holds, octets-front, octets-rest, joined, ended, shortest-spelled, number-spelled, source6-spelled}

-- ---- the part of a fragment

record IsPart (w : List ℕ) (part : Part) : Type 0 where
  legal : (part.offset < 2 ^ 64) × (part.length < 2 ^ 64)
  octets : w ≡ spelling part.offset ++ spelling part.length

part-spelled : (front w : List ℕ) (part : Part) → IsOctets w → Spells part6 front w part → IsPart w part
unfolding part6
part-spelled front w part octets s =
    let (u1, v1, offset, e1, s1, r1) = s in
    let (u2, v2, size, e2, s2, r2) = r1 in
    let o1 = octets-rest w u1 v1 e1 octets in
    let one = number-spelled front u1 offset (octets-front w u1 v1 e1 octets) s1 in
    let other = number-spelled (front ++ u1) u2 size (octets-front v1 u2 v2 e2 o1) s2 in
    rw r2.1 (record {
      legal = (one.fits, other.fits);
      octets = joined w u1 (spelling offset) v1 (spelling size) e1 one.octets (ended v1 u2 (spelling size) v2 e2 other.octets r2.0);
    })

record IsFragment (octet : ℕ) (w : List ℕ) (fragment : Option Part) : Type 0 where
  legal : IsReportPart fragment
  lead : octet ≡ lead_octet fragment
  octets : w ≡ part6_octets fragment

is-plain : (octet : ℕ) (t : Bool) → (octet == 0x10 || t) ≡ true → t ≡ false → octet ≡ 0x10
is-plain octet true is clear = absurd (cc)
is-plain octet false is clear = by_cases (octet == 0x10) refl is
  where
    by_cases : (b : Bool) → (octet == 0x10) ≡ b → (b || false) ≡ true → octet ≡ 0x10
    by_cases true same is = eqb-true octet 0x10 same
    by_cases false same is = absurd (cc)

fragment-spelled : (octet : ℕ) (t : Bool) → (octet == 0x11) ≡ t → (octet == 0x10 || t) ≡ true
    → (front w : List ℕ) (fragment : Option Part) → IsOctets w
    → Spells (optional t part6) front w fragment → IsFragment octet w fragment
fragment-spelled octet true same legal front w fragment octets s =
    let (u, v, part, e, one, r) = s in
    let is = part-spelled front u part (octets-front w u v e octets) one in
    rw r.1 (record {
      legal = is.legal;
      lead = eqb-true octet 0x11 same;
      octets = ended w u (spelling part.offset ++ spelling part.length) v e is.octets r.0;
    })
fragment-spelled octet false same legal front w fragment octets s =
    rw s.1 (record { legal = tt; lead = is-plain octet false legal refl; octets = s.0 })

-- ---- times

record IsTimed (set : Bool) (w : List ℕ) (t : Time6) : Type 0 where
  legal : IsTime set t
  octets : w ≡ time_octets set t

time-spelled : (front w : List ℕ) (t : Time6) → IsOctets w → Spells time front w t → IsTimed true w t
unfolding time
time-spelled front w t octets s =
    let (u1, v1, seconds, e1, s1, r1) = s in
    let (u2, v2, nanos, e2, s2, r2) = r1 in
    let o1 = octets-rest w u1 v1 e1 octets in
    let one = number-spelled front u1 seconds (octets-front w u1 v1 e1 octets) s1 in
    let small = caused BadAdmin (below 1000000000) (front ++ u1) u2 nanos s2 in
    let other = shortest-spelled (front ++ u1) u2 nanos (octets-front v1 u2 v2 e2 o1) small.0 in
    rw r2.1 (record {
      legal = (one.fits, ltb-true nanos 1000000000 (needs-holds (ltb nanos 1000000000) _ small.1));
      octets = joined w u1 (spelling seconds) v1 (spelling nanos) e1 one.octets (ended v1 u2 (spelling nanos) v2 e2 other.octets r2.0);
    })

time_if-spelled : (front w : List ℕ) (set : Bool) (t : Time6) → IsOctets w → Spells (time_if set) front w t → IsTimed set w t
time_if-spelled front w true t octets s = time-spelled front w t octets s
time_if-spelled front w false t octets s = record { legal = s.1; octets = s.0 }

record AreTimed (statuses : ℕ) (w : List ℕ) (all : List Time6) : Type 0 where
  legal : AreTimes statuses all
  octets : w ≡ times_octets statuses all

times-spelled : (front w : List ℕ) (statuses : ℕ) (all : List Time6) → IsOctets w → Spells (times statuses) front w all → AreTimed statuses w all
unfolding times times_octets
times-spelled front w statuses all octets s =
    let (u1, v1, t1, e1, s1, r1) = s in
    let (u2, v2, t2, e2, s2, r2) = r1 in
    let (u3, v3, t3, e3, s3, r3) = r2 in
    let (u4, v4, t4, e4, s4, r4) = r3 in
    let o1 = octets-rest w u1 v1 e1 octets in
    let o2 = octets-rest v1 u2 v2 e2 o1 in
    let o3 = octets-rest v2 u3 v3 e3 o2 in
    let one = time_if-spelled front u1 (is_set 1 statuses) t1 (octets-front w u1 v1 e1 octets) s1 in
    let two = time_if-spelled (front ++ u1) u2 (is_set 4 statuses) t2 (octets-front v1 u2 v2 e2 o1) s2 in
    let three = time_if-spelled (front ++ u1 ++ u2) u3 (is_set 8 statuses) t3 (octets-front v2 u3 v3 e3 o2) s3 in
    let four = time_if-spelled (front ++ u1 ++ u2 ++ u3) u4 (is_set 16 statuses) t4 (octets-front v3 u4 v4 e4 o3) s4 in
    let x1 = time_octets (is_set 1 statuses) t1 in
    let x2 = time_octets (is_set 4 statuses) t2 in
    let x3 = time_octets (is_set 8 statuses) t3 in
    let x4 = time_octets (is_set 16 statuses) t4 in
    rw r4.1 (record {
      legal = record { four = refl; received = one.legal; forwarded = two.legal; delivered = three.legal; deleted = four.legal };
      octets = joined w u1 x1 v1 (x2 ++ (x3 ++ x4)) e1 one.octets (joined v1 u2 x2 v2 (x3 ++ x4) e2 two.octets (joined v2 u3 x3 v3 x4 e3 three.octets (ended v3 u4 x4 v4 e4 four.octets r4.0)));
    })

-- ---- the whole

pub record IsSpelled6 (w : List ℕ) (report : Report6) : Type 0 where
  pub legal : IsReport6 report
  pub octets : w ≡ report6_octets report

small-octet : (octet : ℕ) (w u v : List ℕ) → w ≡ u ++ v → u ≡ octet ∷ [] → IsOctets w → octet < 256
small-octet octet w u v parts is octets = let o = octets-front w u v parts octets in rw is at (o 0)

pub report6-spelled : (w : List ℕ) (report : Report6) → IsOctets w → Spells report6 [] w report → IsSpelled6 w report
unfolding report6 report6_octets
report6-spelled w report octets s =
    let (u1, v1, octet, e1, s1, r1) = s in
    let (u2, v2, statuses, e2, s2, r2) = r1 in
    let (u3, v3, reason, e3, s3, r3) = r2 in
    let (u4, v4, fragment, e4, s4, r4) = r3 in
    let (u5, v5, all, e5, s5, r5) = r4 in
    let (u6, v6, seconds, e6, s6, r6) = r5 in
    let (u7, v7, sequence, e7, s7, r7) = r6 in
    let (u8, v8, source, e8, s8, r8) = r7 in
    let o1 = octets-rest w u1 v1 e1 octets in
    let o2 = octets-rest v1 u2 v2 e2 o1 in
    let o3 = octets-rest v2 u3 v3 e3 o2 in
    let o4 = octets-rest v3 u4 v4 e4 o3 in
    let o5 = octets-rest v4 u5 v5 e5 o4 in
    let o6 = octets-rest v5 u6 v6 e6 o5 in
    let o7 = octets-rest v6 u7 v7 e7 o6 in
    let lead-is = needs-holds (octet == 0x10 || octet == 0x11) _ s1.1 in
    let part = fragment-spelled octet (octet == 0x11) refl lead-is _ u4 fragment (octets-front v3 u4 v4 e4 o3) s4 in
    let timed = times-spelled _ u5 statuses all (octets-front v4 u5 v5 e5 o4) s5 in
    let one = number-spelled _ u6 seconds (octets-front v5 u6 v6 e6 o5) s6 in
    let other = number-spelled _ u7 sequence (octets-front v6 u7 v7 e7 o6) s7 in
    let named = source6-spelled _ u8 source (octets-front v7 u8 v8 e8 o7) s8 in
    let t7 = joined v6 u7 (spelling sequence) v7 (name_octets source) e7 other.octets (ended v7 u8 (name_octets source) v8 e8 named.octets r8.0) in
    let t6 = joined v5 u6 (spelling seconds) v6 _ e6 one.octets t7 in
    let t5 = joined v4 u5 (times_octets statuses all) v5 _ e5 timed.octets t6 in
    let t4 = joined v3 u4 (part6_octets fragment) v4 _ e4 part.octets t5 in
    let t3 = joined v2 u3 (reason ∷ []) v3 _ e3 s3 t4 in
    let t2 = joined v1 u2 (statuses ∷ []) v2 _ e2 s2.0 t3 in
    let t1 = joined w u1 (lead_octet fragment ∷ []) v1 _ e1 (s1.0 ∙ ap (λ x. x ∷ []) part.lead) t2 in
    rw r8.1 (record {
      legal = record {
        status = needs-holds (is_status statuses) _ s2.1;
        reason = small-octet reason v2 u3 v3 e3 s3 o2;
        fragment = part.legal;
        times = timed.legal;
        seconds = one.fits;
        sequence = other.fits;
        source = named.legal;
      };
      octets = t1;
    })

-- ---- what a reader answers

pub answers-legal : (result : Result Report6 AdminFault) (body : List ℕ) → IsOctets body → Answers result (answer6 body)
    → IfOk result IsReport6
answers-legal (Ok report) body fits is =
    let spells : Spells report6 [] body report = answers-found report6 (cause6 body) (Ok report) body fits is in
    (report6-spelled body report fits spells).legal
answers-legal (Err fault) body fits is = tt

pub answers-same : (result : Result Report6 AdminFault) (body : List ℕ) → IsOctets body → Answers result (answer6 body)
    → IfOk result (λ report. body ≡ report6_octets report)
answers-same (Ok report) body fits is =
    let spells : Spells report6 [] body report = answers-found report6 (cause6 body) (Ok report) body fits is in
    (report6-spelled body report fits spells).octets
answers-same (Err fault) body fits is = tt

pub lent-legal : (result : Result LentReport6 AdminFault) (body : List ℕ) → IsOctets body → seen report6_lent result ≡ answer6 body
    → IfOk result (λ lent. IsReport6 (report6_lent lent))
lent-legal (Ok lent) body fits is =
    let spells : Spells report6 [] body (report6_lent lent) = answers-found report6 (cause6 body) (Ok (report6_lent lent)) body fits (sym is) in
    (report6-spelled body (report6_lent lent) fits spells).legal
lent-legal (Err fault) body fits is = tt
