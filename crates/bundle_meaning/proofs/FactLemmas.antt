-- What is read of a wrap is a block that a record may hold, where it isn't marked itself; what is read of a
-- residue is what a record may say.

use Rattle.std.proofs.Common.{◌≡◌, ℕ, zero, suc, ◌+◌, ◌^◌, ◌<◌, ◌≤◌, Bool, true, false, not, ltb, leb, ◌==◌, ◌&&◌, List, [], ◌∷◌, ◌++◌, length, None, Result, Ok, Err, is_ok, refl, ap, ◌∙◌, arith, length-append, subst, unwrap_or, IfOk}
use Rattle.std.proofs.lemmas.List.{append-nil}
use Rattle.std.proofs.lemmas.Bool.{and_parts, ltb-true, leb-true}
use Rattle.std.proofs.lemmas.List.Elements.{All-nil, All-push}
use Rattle.std.specs.List.{All}
use Rattle.std.specs.Result.{result_ok}
use Rattle.endpoint.specs.declared.name.Endpoint.{Endpoint}
use Rattle.endpoint.specs.declared.name.Endpoint.TheVariants.{Null}
use Rattle.endpoint.specs.declared.fault.EndpointFault.{EndpointFault}
use Rattle.endpoint.specs.Endpoints.{IsEndpoint}
use Rattle.endpoint.specs.Reading.{read_text}
use Rattle.endpoint.proofs.ReadingLemmas.{read_text-found}
use Rattle.wire_fields.specs.Format.{Spells}
use Rattle.wire_fields.specs.Reading.{IsOctets}
use Rattle.wire_fields.specs.Whole.{read_whole}
use Rattle.wire_fields.specs.Words.{needs, repeated, one_more}
use Rattle.wire_fields.proofs.WholeLemmas.{whole-found}
use Rattle.bundle_meaning.specs.declared.fault.BlockFault.{BlockFault}
use Rattle.bundle_meaning.specs.declared.fault.BlockFault.TheVariants.{Bad}
use Rattle.bundle_meaning.specs.declared.blocks.Block6Like.{Block6Like}
use Rattle.bundle_meaning.specs.declared.blocks.Block7Like.{Block7Like}
use Rattle.bundle_meaning.specs.declared.residue.ResidueOld.{ResidueOld}
use Rattle.bundle_meaning.specs.declared.residue_new.ResidueNew.{ResidueNew}
use Rattle.bundle_meaning.specs.Bits.{is_without, block_marks, common, block_common, not_own6, block_not_own6}
use Rattle.bundle_meaning.specs.Valid.{IsExtra6, IsExtra7}
use Rattle.bundle_meaning.specs.Residue.{residue_old, residue_new}
use Rattle.bundle_meaning.specs.Blocks.{is_marked, IsBlock6, IsBlock7}
use Rattle.bundle_meaning.specs.Body.{shortest, is_name, name, all_left, GivesBody}
use Rattle.bundle_meaning.specs.Wrap.{wrap_old, references, wrap_new}
use Rattle.bundle_meaning.proofs.NamesLemmas.{a_name}

needs-holds : (b : Bool) → needs b Bad ≡ None → b ≡ true
needs-holds true is = refl
needs-holds false is = absurd (cc)

not-true : (b : Bool) → not b ≡ true → b ≡ false
not-true true is = absurd (cc)
not-true false is = refl

-- ---- fields

shortest-fits : (front w : List ℕ) (n : ℕ) → Spells shortest front w n → n < 2 ^ 64
unfolding shortest
shortest-fits front w n spells =
    let (u1, v1, start, e1, s1, r1) = spells in
    let (u2, v2, x, e2, s2, r2) = r1 in
    let (u3, v3, end, e3, s3, r3) = r2 in
    let (u4, v4, t, e4, s4, r4) = r3 in
    rw r4.1 s2.small

left-fits : (size : ℕ) (front w body : List ℕ) → Spells (all_left size) front w body → length body ≤ length w
unfolding all_left
left-fits size front w body spells =
    let (u1, v1, at, e1, s1, r1) = spells in
    let whole = ap length e1 ∙ length-append u1 v1 in
    let same = ap length r1.0 in
    omega (arith, whole, same)

part-le : (w u v : List ℕ) → w ≡ u ++ v → length v ≤ length w
part-le w u v is = let whole = ap length is ∙ length-append u v in omega (arith, whole)

front-le : (w u v : List ℕ) → w ≡ u ++ v → length u ≤ length w
front-le w u v is = let whole = ap length is ∙ length-append u v in omega (arith, whole)

named-legal : (text : List ℕ) (r : Result Endpoint EndpointFault) → read_text text ≡ r → is_ok r ≡ true
    → IsEndpoint (unwrap_or (result_ok r) Null)
named-legal text (Ok endpoint) is good = (read_text-found text endpoint is).legal
named-legal text (Err fault) is good = absurd (cc)

name-legal : (front w : List ℕ) (endpoint : Endpoint) → Spells name front w endpoint → IsEndpoint endpoint
unfolding name
name-legal front w endpoint spells =
    let (u1, v1, size, e1, s1, r1) = spells in
    let (u2, v2, text, e2, s2, r2) = r1 in
    rw r2.1 (named-legal text (read_text text) refl (needs-holds (is_name text) s2.1))

names-legal : (n : ℕ) (front w : List ℕ) (earlier refs : List Endpoint) → All IsEndpoint earlier
    → Spells (repeated n (one_more a_name) earlier) front w refs → All IsEndpoint refs × (length refs ≡ length earlier + n)
names-legal zero front w earlier refs are spells = (rw spells.1 are, ap length spells.1 ∙ omega arith)
names-legal (suc n) front w earlier refs are spells =
    let (u, v, both, e, s, rest) = spells in
    let (u1, v1, endpoint, e1, s1, r1) = s in
    let more : All IsEndpoint both = rw r1.1 (All-push IsEndpoint earlier endpoint are (name-legal front u1 endpoint s1)) in
    let long = ap length r1.1 ∙ length-append earlier (endpoint ∷ []) in
    let others = names-legal n (front ++ u) v both refs more rest in
    (others.0, omega (arith, others.1, long))

-- ---- texts of octets

rest_fits : (u v : List ℕ) → IsOctets (u ++ v) → IsOctets v
rest_fits [] v fits i = fits i
rest_fits (x ∷ u) v fits i = rest_fits u v (λ j. fits (suc j)) i

part-octets : (w u v : List ℕ) → w ≡ u ++ v → IsOctets w → IsOctets v
part-octets w u v parts fits = rest_fits u v (subst IsOctets parts fits)

-- ---- residues

pub residue_old-extra : (w : List ℕ) (residue : ResidueOld) → Spells residue_old [] w residue → IsExtra7 residue.extra7
unfolding residue_old
residue_old-extra w residue spells =
    let (u1, v1, m, e1, s1, r1) = spells in
    let (u2, v2, slack, e2, s2, r2) = r1 in
    let (u3, v3, flags, e3, s3, r3) = r2 in
    let (u4, v4, crc, e4, s4, r4) = r3 in
    let (u5, v5, payload_crc, e5, s5, r5) = r4 in
    let (u6, v6, payload_flags, e6, s6, r6) = r5 in
    let (u7, v7, no_time, e7, s7, r7) = r6 in
    record {
      flags = rw r7.1 (needs-holds (is_without common flags) s3.1);
      flags_fit = rw r7.1 (shortest-fits _ u3 flags s3.0);
      crc = rw r7.1 (ltb-true crc 3 (needs-holds (ltb crc 3) s4.1));
      payload_crc = rw r7.1 (ltb-true payload_crc 3 (needs-holds (ltb payload_crc 3) s5.1));
      payload_flags = rw r7.1 (needs-holds (is_without block_common payload_flags) s6.1);
      payload_flags_fit = rw r7.1 (shortest-fits _ u6 payload_flags s6.0);
    }

pub residue_new-extra : (w : List ℕ) (residue : ResidueNew) → Spells residue_new [] w residue → IsExtra6 residue.extra6
unfolding residue_new
residue_new-extra w residue spells =
    let (u1, v1, m, e1, s1, r1) = spells in
    let (u2, v2, flags, e2, s2, r2) = r1 in
    let (u3, v3, custodian, e3, s3, r3) = r2 in
    let (u4, v4, payload_flags, e4, s4, r4) = r3 in
    let (u5, v5, after, e5, s5, r5) = r4 in
    let (u6, v6, rests, e6, s6, r6) = r5 in
    record {
      custodian = rw r6.1 (name-legal _ u3 custodian s3);
      flags = rw r6.1 (needs-holds (is_without not_own6 flags) s2.1);
      flags_fit = rw r6.1 (shortest-fits _ u2 flags s2.0);
      payload_flags = rw r6.1 (needs-holds (is_without block_not_own6 payload_flags) s4.1);
      payload_flags_fit = rw r6.1 (shortest-fits _ u4 payload_flags s4.0);
      after_fits = rw r6.1 (shortest-fits _ u5 after s5);
    }

-- ---- wraps

left-octets : (size : ℕ) (front w body : List ℕ) → Spells (all_left size) front w body → IsOctets w → IsOctets body
unfolding all_left
left-octets size front w body spells fits =
    let (u1, v1, at, e1, s1, r1) = spells in
    let octets = part-octets w u1 v1 e1 fits in
    subst IsOctets r1.0 octets

-- the body that a wrap holds is octets
pub wrap_old-octets : (size : ℕ) (w : List ℕ) (block : Block7Like) → Spells (wrap_old size) [] w block → IsOctets w → IsOctets block.body
unfolding wrap_old
wrap_old-octets size w block spells fits =
    let (u1, v1, m, e1, s1, r1) = spells in
    let (u2, v2, kind, e2, s2, r2) = r1 in
    let (u3, v3, number, e3, s3, r3) = r2 in
    let (u4, v4, flags, e4, s4, r4) = r3 in
    let (u5, v5, crc, e5, s5, r5) = r4 in
    let (u6, v6, body, e6, s6, r6) = r5 in
    let f1 = part-octets w u1 v1 e1 fits in
    let f2 = part-octets v1 u2 v2 e2 f1 in
    let f3 = part-octets v2 u3 v3 e3 f2 in
    let f4 = part-octets v3 u4 v4 e4 f3 in
    let f5 = part-octets v4 u5 v5 e5 f4 in
    let whole : v5 ≡ u6 = e6 ∙ ap (λ x. u6 ++ x) r6.0 ∙ append-nil u6 in
    rw r6.1 (left-octets size _ u6 body s6 (subst IsOctets whole f5))

pub wrap_old-block : (size : ℕ) (w : List ℕ) (block : Block7Like) → Spells (wrap_old size) [] w block → length w < 2 ^ 64
    → is_marked block.kind block.body ≡ false → IsBlock7 block
unfolding wrap_old
wrap_old-block size w block spells fits unmarked =
    let (u1, v1, m, e1, s1, r1) = spells in
    let (u2, v2, kind, e2, s2, r2) = r1 in
    let (u3, v3, number, e3, s3, r3) = r2 in
    let (u4, v4, flags, e4, s4, r4) = r3 in
    let (u5, v5, crc, e5, s5, r5) = r4 in
    let (u6, v6, body, e6, s6, r6) = r5 in
    let left = left-fits size _ u6 body s6 in
    let long : length body ≤ length w =
    omega (arith, left, front-le v5 u6 v6 e6, part-le v4 u5 v5 e5, part-le v3 u4 v4 e4, part-le v2 u3 v3 e3, part-le v1 u2 v2 e2, part-le w u1 v1 e1) in
    record {
      kind = rw r6.1 (shortest-fits _ u2 kind s2.0);
      extension = rw r6.1 (not-true (kind == 1) (needs-holds (not (kind == 1)) s2.1));
      number = rw r6.1 (leb-true 2 number (needs-holds (leb 2 number) s3.1));
      number_fits = rw r6.1 (shortest-fits _ u3 number s3.0);
      flags = rw r6.1 (shortest-fits _ u4 flags s4);
      crc = rw r6.1 (ltb-true crc 3 (needs-holds (ltb crc 3) s5.1));
      size = rw r6.1 (omega (arith, long, fits));
      unmarked = unmarked;
    }

pub wrap_new-block : (size : ℕ) (w : List ℕ) (block : Block6Like) → Spells (wrap_new size) [] w block → length w < 2 ^ 64
    → is_marked block.kind block.body ≡ false → IsBlock6 block
unfolding wrap_new references
wrap_new-block size w block spells fits unmarked =
    let (u1, v1, m, e1, s1, r1) = spells in
    let (u2, v2, kind, e2, s2, r2) = r1 in
    let (u3, v3, flags, e3, s3, r3) = r2 in
    let (u4, v4, refs, e4, s4, r4) = r3 in
    let (u5, v5, body, e5, s5, r5) = r4 in
    let (u6, v6, count, e6, s6, r6) = s4 in
    let names = names-legal count _ v6 [] refs (All-nil IsEndpoint) r6 in
    let some = shortest-fits _ u6 count s6 in
    let left = left-fits size _ u5 body s5 in
    let long : length body ≤ length w =
    omega (arith, left, front-le v4 u5 v5 e5, part-le v3 u4 v4 e4, part-le v2 u3 v3 e3, part-le v1 u2 v2 e2, part-le w u1 v1 e1) in
    let kinds = and_parts (ltb kind 256) (not (kind == 1)) (needs-holds (ltb kind 256 && not (kind == 1)) s2.1) in
    record {
      kind = rw r5.1 (ltb-true kind 256 kinds.0);
      extension = rw r5.1 (not-true (kind == 1) kinds.1);
      flags = rw r5.1 (shortest-fits _ u3 flags s3.0);
      marks = rw r5.1 (needs-holds (is_without block_marks flags) s3.1);
      refs = rw r5.1 names.0;
      count = rw r5.1 (omega (arith, names.1, some));
      size = rw r5.1 (omega (arith, long, fits));
      unmarked = unmarked;
    }

pub wrap_old-read : (result : Result Block7Like BlockFault) (text : List ℕ) → IsOctets text → length text < 2 ^ 64
    → GivesBody result (read_whole (wrap_old (length text)) Bad text)
    → IfOk result (λ block. is_marked block.kind block.body ≡ false → IsBlock7 block)
wrap_old-read (Ok block) text fits small gives =
    λ unmarked. wrap_old-block (length text) text block (whole-found (wrap_old (length text)) Bad text block fits gives) small unmarked
wrap_old-read (Err fault) text fits small gives = tt

pub wrap_new-read : (result : Result Block6Like BlockFault) (text : List ℕ) → IsOctets text → length text < 2 ^ 64
    → GivesBody result (read_whole (wrap_new (length text)) Bad text)
    → IfOk result (λ block. is_marked block.kind block.body ≡ false → IsBlock6 block)
wrap_new-read (Ok block) text fits small gives =
    λ unmarked. wrap_new-block (length text) text block (whole-found (wrap_new (length text)) Bad text block fits gives) small unmarked
wrap_new-read (Err fault) text fits small gives = tt
