-- The other blocks and the whole bundle: what is spelled is legal, and has one spelling; what is legal
-- is spelled.
use Rattle.std.proofs.Common.{◌≡◌, ℕ, zero, suc, ◌+◌, ◌^◌, ◌<◌, ◌≤◌, ◌==◌, nat_lt, Bool, true, false, ◌&&◌, ◌||◌, not, List, [], ◌∷◌, ◌++◌, length, take, drop, take-append-drop, Option, None, Result, Ok, Err, IfOk, refl, sym, ap, ◌∙◌, subst, append_assoc, arith}
use Rattle.std.proofs.lemmas.Bool.{eqb-true, eqb-false, eq-eqb, ne_eqb, ltb-true, false≢true}
use Rattle.std.proofs.lemmas.List.{append-nil}
use Rattle.cbor_lite.specs.Head.{head}
use Rattle.cbor_lite.specs.Item.{string}
use Rattle.endpoint.specs.declared.extent.Fragment.{Fragment}
use Rattle.wire_fields.specs.Format.{Spells, give}
use Rattle.wire_fields.specs.Refusal.{Begins}
use Rattle.wire_fields.specs.Reading.{read, IsOctets}
use Rattle.wire_fields.proofs.ReadLemmas.{read-only}
use Rattle.wire_fields.proofs.ResultLemmas.{found}
use Rattle.wire_fields.specs.Words.{needs, choice}
use Rattle.bundle7.specs.declared.fault.Cause7.TheVariants as causes
use Rattle.bundle7.specs.declared.block.Lead.{Lead}
use Rattle.bundle7.specs.declared.block.Block7.{Block7}
use Rattle.bundle7.specs.declared.bundle.Bundle7.{Bundle7}
use Rattle.bundle7.specs.Body.{is_body}
use Rattle.bundle7.specs.declared.seen.Seen.{Seen}
use Rattle.bundle7.specs.Table.{check_items, is_single, seen_of, has, is_number, is_within, lead, block, blocks, bundle}
use Rattle.bundle7.specs.Spelling.{crc_octets, with_check, bare_octets, block_octets, blocks_octets, primary_octets, octets7}
use Rattle.bundle7.specs.Legal.{IsLegalBlock, AreLegal, IsLegal}
use Rattle.bundle7.proofs.BodyLemmas.{octets_front, octets_after, octets_in, body-found, body-only}
use Rattle.bundle7.proofs.SpellingLaws.{needs-true, also-first, also-second, joined, ended, head-spells}
use Rattle.bundle7.proofs.PrimaryLaws.{needs-none, check_items-small, crc-spelled, crc-spells, crc_type-holds, primary-spelled, primary-spells}

not-true : (b : Bool) → not b ≡ true → b ≡ false
not-true true is = absurd (false≢true is)
not-true false is = refl

five-or-six : (crc : ℕ) → needs ((5 + check_items crc == 5) || (5 + check_items crc == 6)) causes.BlockHead ≡ None
five-or-six zero = refl
five-or-six (suc crc) = rw (ne_eqb (suc crc) 0 (λ h. omega arith)) refl

-- what a block has before its body
lead_octets : Lead → List ℕ
lead_octets l = head 4 (5 + check_items l.crc) ++ (head 0 l.kind ++ (head 0 l.number ++ (head 0 l.flags ++ head 0 l.crc)))

record LeadIs (left : ℕ) (earlier : Seen) (w : List ℕ) (l : Lead) : Type 0 where
  kind : l.kind < 2 ^ 64
  may_follow : ((l.kind == 1) || not (left == 0)) ≡ true
  once : (is_single l.kind && has l.kind earlier.kinds) ≡ false
  number : is_number l.kind earlier l.number ≡ true
  number_fits : l.number < 2 ^ 64
  flags : l.flags < 2 ^ 64
  crc : l.crc < 3
  octets : w ≡ lead_octets l

lead-spelled : (left : ℕ) (earlier : Seen) (front w : List ℕ) (l : Lead) → Spells (lead left earlier) front w l → LeadIs left earlier w l
unfolding lead lead_octets
lead-spelled left earlier front w l (
  u,
  v,
  items,
  parts,
  (items_is, few),
  (
    u1,
    v1,
    kind,
    parts1,
    (kind_is, kind_holds),
    (
      u2,
      v2,
      number,
      parts2,
      (number_is, number_holds),
      (u3, v3, flags, parts3, flags_is, (u4, v4, check, parts4, (check_is, conditions), (nothing, is))),
    ),
  ),
) =
    let known : nat_lt check 3 ≡ true = needs-true (nat_lt check 3) causes.CrcType (also-first _ _ conditions) in
    let count : items ≡ 5 + check_items check =
    eqb-true items (5 + check_items check) (needs-true (items == 5 + check_items check) causes.ItemCount (also-second _ _ conditions)) in
    rw is (record {
      kind = kind_is.small;
      may_follow = needs-true _ causes.TooManyBlocks (also-first _ _ kind_holds);
      once = not-true _ (needs-true _ causes.Repeated (also-second _ _ kind_holds));
      number = needs-true _ causes.BlockNumber number_holds;
      number_fits = number_is.small;
      flags = flags_is.small;
      crc = ltb-true check 3 known;
      octets =
          joined w u (head 4 (5 + check_items check)) v (head 0 kind ++ (head 0 number ++ (head 0 flags ++ head 0 check))) parts (items_is.spelt ∙ ap (head 4) count)
          (joined v u1 (head 0 kind) v1 (head 0 number ++ (head 0 flags ++ head 0 check)) parts1 kind_is.spelt
          (joined v1 u2 (head 0 number) v2 (head 0 flags ++ head 0 check) parts2 number_is.spelt
          (joined v2 u3 (head 0 flags) v3 (head 0 check) parts3 flags_is.spelt (ended v3 u4 (head 0 check) v4 parts4 check_is.spelt nothing))));
    })

record BlockIs (part : Option Fragment) (left : ℕ) (earlier : Seen) (w : List ℕ) (b : Block7) : Type 0 where
  legal : IsOctets w → IsLegalBlock part earlier b
  may_follow : ((b.kind == 1) || not (left == 0)) ≡ true
  octets : w ≡ block_octets b

block-spelled : (part : Option Fragment) (left : ℕ) (earlier : Seen) (front w : List ℕ) (b : Block7)
    → Spells (block part left earlier) front w b → BlockIs part left earlier w b
unfolding block with_check bare_octets lead_octets
block-spelled part left earlier front w b (
  u0,
  v0,
  start,
  parts0,
  (none, begins),
  (
    u1,
    v1,
    first,
    parts1,
    lead_is,
    (
      u2,
      v2,
      size,
      parts2,
      (size_is, within),
      (
        u3,
        v3,
        octets,
        parts3,
        ((same, long), legal),
        (u4, v4, check, parts4, check_is, (nothing, is)),
      ),
    ),
  ),
) =
    let l = lead-spelled left earlier (front ++ u0) u1 first lead_is in
    let count : size ≡ length octets = sym long ∙ ap length same in
    let text : List ℕ = u1 ++ (u2 ++ u3) in
    let before : front ++ u0 ++ u1 ++ u2 ++ u3 ≡ front ++ text = rw none (simp (append_assoc, append-nil)) in
    let crc_is : u4 ≡ crc_octets first.crc text = crc-spelled first.crc start (front ++ u0 ++ u1 ++ u2 ++ u3) front text u4 check begins before check_is in
    let whole : w ≡ text ++ u4 = rw (parts0, none, parts1, parts2, parts3, parts4, nothing) (simp (append_assoc, append-nil)) in
    let text_is : text ≡ lead_octets first ++ string 2 octets =
    joined text u1 (lead_octets first) (u2 ++ u3) (string 2 octets) refl l.octets
    (joined (u2 ++ u3) u2 (head 2 (length octets)) u3 octets refl (size_is.spelt ∙ ap (head 2) count) same) in
    let bare : lead_octets first ++ string 2 octets ≡ bare_octets (record { kind = first.kind; number = first.number; flags = first.flags; crc = first.crc; body = octets }) = simp append_assoc in
    rw is (record {
      legal = λ fits. record {
        kind = l.kind;
        once = l.once;
        number = l.number;
        number_fits = l.number_fits;
        flags = l.flags;
        crc = l.crc;
        size = subst (λ (n : ℕ). n < 2 ^ 64) count size_is.small;
        within = subst (λ (n : ℕ). is_within part first.kind n ≡ true) count (needs-true (is_within part first.kind size) causes.FragmentRange within);
        body = body-found first.kind octets (octets_in w (u1 ++ u2) u3 octets u4 (whole ∙ simp append_assoc) same fits)
            (needs-true (is_body first.kind octets) causes.ExtensionBody legal);
      };
      may_follow = l.may_follow;
      octets = whole ∙ (ap (λ (t : List ℕ). text ++ t) crc_is ∙ ap (λ (t : List ℕ). t ++ crc_octets first.crc t) (text_is ∙ bare));
    })

-- ---- all blocks

record BlocksAre (part : Option Fragment) (left : ℕ) (earlier : List Block7) (w : List ℕ) (exts : List Block7) (payload : Block7) : Type 0 where
  more : List Block7
  parts : exts ≡ earlier ++ more
  few : length more ≤ left
  legal : IsOctets w → AreLegal part earlier more
  last : IsOctets w → IsLegalBlock part (seen_of exts) payload
  kind : payload.kind ≡ 1
  octets : w ≡ blocks_octets more ++ block_octets payload

or-first : (a b : Bool) → (a || b) ≡ true → b ≡ false → a ≡ true
or-first true b is other = refl
or-first false b is other = absurd (false≢true (sym other ∙ is))

last-block : (part : Option Fragment) (left : ℕ) (earlier : List Block7) (w : List ℕ) (exts : List Block7) (payload b : Block7)
    → (IsOctets w → IsLegalBlock part (seen_of earlier) b) → b.kind ≡ 1 → w ≡ block_octets b → exts ≡ earlier → payload ≡ b
    → BlocksAre part left earlier w exts payload
unfolding blocks_octets
last-block part left earlier w exts payload b legal kind octets same is =
    rw (same, is) (record {
      more = [];
      parts = sym (append-nil earlier);
      few = omega arith;
      legal = λ fits. tt;
      last = legal;
      kind = kind;
      octets = octets;
    })

-- a block that was read, and what is read after it
choice-spelled : (t : Bool) (part : Option Fragment) (left : ℕ) (earlier : List Block7) (front w u v : List ℕ) (b : Block7) (x : List Block7 × Block7)
    → (b.kind == 1) ≡ t → w ≡ u ++ v → BlockIs part (suc left) (seen_of earlier) u b
    → Spells (choice t (give (earlier, b)) (blocks part left (earlier ++ b ∷ []))) front v x
    → ((earlier' : List Block7) (front' w' : List ℕ) (x' : List Block7 × Block7) → Spells (blocks part left earlier') front' w' x' → BlocksAre part left earlier' w' x'.0 x'.1)
    → BlocksAre part (suc left) earlier w x.0 x.1
unfolding blocks_octets
choice-spelled true part left earlier front w u v b x test parts one (nothing, is) further =
    last-block part (suc left) earlier w x.0 x.1 b (λ fits. one.legal (octets_front w u v parts fits)) (eqb-true b.kind 1 test) (ended w u (block_octets b) v parts one.octets nothing)
    (ap (λ (p : List Block7 × Block7). p.0) is) (ap (λ (p : List Block7 × Block7). p.1) is)
choice-spelled false part left earlier front w u v b x test parts one rest further =
    let others = further (earlier ++ b ∷ []) front v x rest in
    record {
      more = b ∷ others.more;
      parts = others.parts ∙ append_assoc earlier (b ∷ []) others.more;
      few = let few = others.few in omega arith;
      legal = λ fits. (one.legal (octets_front w u v parts fits), (eqb-false b.kind 1 test, others.legal (octets_after w u v parts fits)));
      last = λ fits. others.last (octets_after w u v parts fits);
      kind = others.kind;
      octets = joined w u (block_octets b) v (blocks_octets others.more ++ block_octets x.1) parts one.octets others.octets
          ∙ sym (append_assoc (block_octets b) (blocks_octets others.more) (block_octets x.1));
    }

blocks-spelled : (part : Option Fragment) (left : ℕ) (earlier : List Block7) (front w : List ℕ) (x : List Block7 × Block7)
    → Spells (blocks part left earlier) front w x → BlocksAre part left earlier w x.0 x.1
unfolding blocks
blocks-spelled part zero earlier front w x (u, v, b, parts, block_is, (nothing, is)) =
    let one = block-spelled part 0 (seen_of earlier) front u b block_is in
    last-block part 0 earlier w x.0 x.1 b (λ fits. one.legal (octets_front w u v parts fits)) (eqb-true b.kind 1 (or-first (b.kind == 1) false one.may_follow refl))
    (ended w u (block_octets b) v parts one.octets nothing)
    (ap (λ (p : List Block7 × Block7). p.0) is) (ap (λ (p : List Block7 × Block7). p.1) is)
blocks-spelled part (suc left) earlier front w x (u, v, b, parts, block_is, rest) =
    choice-spelled (b.kind == 1) part left earlier (front ++ u) w u v b x refl parts (block-spelled part (suc left) (seen_of earlier) front u b block_is) rest
    (λ earlier' front' w' x' h. blocks-spelled part left earlier' front' w' x' h)

-- ---- the bundle

pub bundle-spelled : (most : ℕ) (w : List ℕ) (b : Bundle7) → Spells (bundle most) [] w b → (IsOctets w → IsLegal most b) × (w ≡ octets7 b)
unfolding bundle octets7
bundle-spelled most w b
    (u, v, opens, parts, (opens_is, mark), (u1, v1, main, parts1, main_is, (u2, v2, all, parts2, blocks_are, (u3, v3, ends, parts3, (ends_is, break), (nothing, is))))) =
    let p = primary-spelled ([] ++ u) u1 main main_is in
    let a = blocks-spelled main.fragment most [] ([] ++ u ++ u1) u2 all blocks_are in
    let first : u ≡ 0x9F ∷ [] = opens_is ∙ ap (λ (x : ℕ). x ∷ []) (eqb-true opens 0x9F (needs-true (opens == 0x9F) causes.Start mark)) in
    let last : u3 ≡ 0xFF ∷ [] = ends_is ∙ ap (λ (x : ℕ). x ∷ []) (eqb-true ends 0xFF (needs-true (ends == 0xFF) causes.Break break)) in
    let same : all.0 ≡ a.more = a.parts in
    let back : List ℕ = block_octets all.1 ++ 0xFF ∷ [] in
    let others : v1 ≡ blocks_octets all.0 ++ back =
    joined v1 u2 (blocks_octets a.more ++ block_octets all.1) v2 (0xFF ∷ []) parts2 a.octets (ended v2 u3 (0xFF ∷ []) v3 parts3 last nothing)
    ∙ (append_assoc (blocks_octets a.more) (block_octets all.1) (0xFF ∷ []) ∙ ap (λ (xs : List Block7). blocks_octets xs ++ back) (sym same)) in
    rw is (
      λ fits.
          let all_fit : IsOctets u2 = octets_front v1 u2 v2 parts2 (octets_after v u1 v1 parts1 (octets_after w u v parts fits)) in
          record {
            primary = p.0;
            few = subst (λ (xs : List Block7). length xs ≤ most) (sym same) a.few;
            exts = subst (λ (xs : List Block7). AreLegal main.fragment [] xs) (sym same) (a.legal all_fit);
            payload = a.last all_fit;
            payload_kind = a.kind;
          },
      joined w u (0x9F ∷ []) v (primary_octets main ++ (blocks_octets all.0 ++ back)) parts first
          (joined v u1 (primary_octets main) v1 (blocks_octets all.0 ++ back) parts1 p.1 others),
    )

-- ---- what is legal is spelled

lead-spells : (left : ℕ) (earlier : Seen) (front : List ℕ) (l : Lead) (part : Option Fragment) (body : List ℕ)
    → IsLegalBlock part earlier (record { kind = l.kind; number = l.number; flags = l.flags; crc = l.crc; body = body })
    → ((l.kind == 1) || not (left == 0)) ≡ true → Spells (lead left earlier) front (lead_octets l) l
unfolding lead lead_octets
lead-spells left earlier front l part body legal may_follow =
    let items : ℕ = 5 + check_items l.crc in (
      head 4 items,
      head 0 l.kind ++ (head 0 l.number ++ (head 0 l.flags ++ head 0 l.crc)),
      items,
      refl,
      (head-spells 4 items (omega (arith, check_items-small l.crc)), five-or-six l.crc),
      (
        head 0 l.kind,
        head 0 l.number ++ (head 0 l.flags ++ head 0 l.crc),
        l.kind,
        refl,
        (head-spells 0 l.kind legal.kind, rw (may_follow, legal.once) refl),
        (
          head 0 l.number,
          head 0 l.flags ++ head 0 l.crc,
          l.number,
          refl,
          (head-spells 0 l.number legal.number_fits, needs-none _ causes.BlockNumber legal.number),
          (
            head 0 l.flags,
            head 0 l.crc,
            l.flags,
            refl,
            head-spells 0 l.flags legal.flags,
            (head 0 l.crc, [], l.crc, sym (append-nil (head 0 l.crc)), (head-spells 0 l.crc (let known = legal.crc in omega arith), crc_type-holds l.crc items 5 legal.crc refl), (refl, refl)),
          ),
        ),
      ),
    )

block-spells : (part : Option Fragment) (left : ℕ) (earlier : Seen) (front : List ℕ) (b : Block7) → IsLegalBlock part earlier b
    → ((b.kind == 1) || not (left == 0)) ≡ true → Spells (block part left earlier) front (block_octets b) b
unfolding block with_check bare_octets lead_octets
block-spells part left earlier front b legal may_follow =
    let l : Lead = record { kind = b.kind; number = b.number; flags = b.flags; crc = b.crc } in
    let a : List ℕ = lead_octets l in
    let size : List ℕ = head 2 (length b.body) in
    let text : List ℕ = a ++ (size ++ b.body) in
    let check : List ℕ = crc_octets b.crc text in
    let bare : bare_octets b ≡ text = simp append_assoc in
    let whole : block_octets b ≡ a ++ (size ++ (b.body ++ check)) = ap (λ (t : List ℕ). t ++ crc_octets b.crc t) bare ∙ simp append_assoc in
    let before : front ++ [] ++ a ++ size ++ b.body ≡ front ++ text = simp (append_assoc, append-nil) in (
      [],
      block_octets b,
      length front,
      refl,
      (refl, refl),
      (
        a,
        size ++ (b.body ++ check),
        l,
        whole,
        lead-spells left earlier (front ++ []) l part b.body legal may_follow,
        (
          size,
          b.body ++ check,
          length b.body,
          refl,
          (head-spells 2 (length b.body) legal.size, needs-none _ causes.FragmentRange legal.within),
          (
            b.body,
            check,
            b.body,
            refl,
            ((refl, refl), needs-none _ causes.ExtensionBody (body-only b.kind b.body legal.body)),
            (check, [], tt, sym (append-nil check), crc-spells b.crc (length front) (front ++ [] ++ a ++ size ++ b.body) front text refl before, (refl, refl)),
          ),
        ),
      ),
    )

pair : List Block7 → Block7 → List Block7 × Block7
pair exts payload = (exts, payload)

-- the payload ends the blocks
choice-ends : (t : Bool) (part : Option Fragment) (left : ℕ) (earlier exts : List Block7) (front : List ℕ) (b : Block7) → t ≡ true → exts ≡ earlier
    → Spells (choice t (give (earlier, b)) (blocks part left (earlier ++ b ∷ []))) front [] (exts, b)
unfolding pair
choice-ends t part left earlier exts front b test same = rw test (refl, ap (λ (xs : List Block7). pair xs b) same)

-- another block goes on
choice-goes_on : (t : Bool) (part : Option Fragment) (left : ℕ) (earlier : List Block7) (front w : List ℕ) (b : Block7) (x : List Block7 × Block7) → t ≡ false
    → Spells (blocks part left (earlier ++ b ∷ [])) front w x
    → Spells (choice t (give (earlier, b)) (blocks part left (earlier ++ b ∷ []))) front w x
choice-goes_on t part left earlier front w b x test rest = rw test rest

payload-follows : (left : ℕ) (b : Block7) → b.kind ≡ 1 → ((b.kind == 1) || not (left == 0)) ≡ true
payload-follows left b is = rw (eq-eqb b.kind 1 is) refl

or-second : (t : Bool) → (t || true) ≡ true
or-second true = refl
or-second false = refl

more-follow : (t : Bool) (left : ℕ) → (t || not (suc left == 0)) ≡ true
more-follow t left = rw (ne_eqb (suc left) 0 (λ h. omega arith)) (or-second t)

blocks-spells : (part : Option Fragment) (left : ℕ) (earlier more exts : List Block7) (front : List ℕ) (payload : Block7) → length more ≤ left
    → exts ≡ earlier ++ more → AreLegal part earlier more → IsLegalBlock part (seen_of exts) payload → payload.kind ≡ 1
    → Spells (blocks part left earlier) front (blocks_octets more ++ block_octets payload) (exts, payload)
unfolding blocks blocks_octets pair
blocks-spells part zero earlier [] exts front payload few same legal last kind =
    let here : exts ≡ earlier = same ∙ append-nil earlier in (
      block_octets payload,
      [],
      payload,
      sym (append-nil (block_octets payload)),
      block-spells part 0 (seen_of earlier) front payload (subst (λ (xs : List Block7). IsLegalBlock part (seen_of xs) payload) here last) (payload-follows 0 payload kind),
      (refl, ap (λ (xs : List Block7). pair xs payload) here),
    )
blocks-spells part zero earlier (b ∷ more) exts front payload few same legal last kind = absurd (omega arith)
blocks-spells part (suc left) earlier [] exts front payload few same legal last kind =
    let here : exts ≡ earlier = same ∙ append-nil earlier in (
      block_octets payload,
      [],
      payload,
      sym (append-nil (block_octets payload)),
      block-spells part (suc left) (seen_of earlier) front payload (subst (λ (xs : List Block7). IsLegalBlock part (seen_of xs) payload) here last) (payload-follows (suc left) payload kind),
      choice-ends (payload.kind == 1) part left earlier exts (front ++ block_octets payload) payload (eq-eqb payload.kind 1 kind) here,
    )
blocks-spells part (suc left) earlier (b ∷ more) exts front payload few same (one, (other, legal)) last kind = (
  block_octets b,
  blocks_octets more ++ block_octets payload,
  b,
  append_assoc (block_octets b) (blocks_octets more) (block_octets payload),
  block-spells part (suc left) (seen_of earlier) front b one (more-follow (b.kind == 1) left),
  choice-goes_on (b.kind == 1) part left earlier (front ++ block_octets b) (blocks_octets more ++ block_octets payload) b (exts, payload) (ne_eqb b.kind 1 other)
      (blocks-spells part left (earlier ++ b ∷ []) more exts (front ++ block_octets b) payload (omega arith)
      (same ∙ sym (append_assoc earlier (b ∷ []) more)) legal last kind),
)

pub bundle-spells : (most : ℕ) (b : Bundle7) → IsLegal most b → Spells (bundle most) [] (octets7 b) b
unfolding bundle octets7
bundle-spells most b legal =
    let main : List ℕ = primary_octets b.primary in
    let others : List ℕ = blocks_octets b.exts ++ block_octets b.payload in (
      0x9F ∷ [],
      main ++ (blocks_octets b.exts ++ (block_octets b.payload ++ 0xFF ∷ [])),
      0x9F,
      refl,
      (refl, refl),
      (
        main,
        blocks_octets b.exts ++ (block_octets b.payload ++ 0xFF ∷ []),
        b.primary,
        refl,
        primary-spells (0x9F ∷ []) b.primary legal.primary,
        (
          others,
          0xFF ∷ [],
          (b.exts, b.payload),
          sym (append_assoc (blocks_octets b.exts) (block_octets b.payload) (0xFF ∷ [])),
          blocks-spells b.primary.fragment most [] b.exts b.exts (0x9F ∷ [] ++ main) b.payload legal.few refl legal.exts legal.payload legal.payload_kind,
          (0xFF ∷ [], [], 0xFF, refl, (refl, refl), (refl, refl)),
        ),
      ),
    )

-- ---- the clauses of the writer, whose answer is r

pub encoded-spelled : {E : Type 0} (most : ℕ) (b : Bundle7) (r : Result (List ℕ) E) → IfOk r (λ o. o ≡ octets7 b) → IsLegal most b
    → IfOk r (λ o. Spells (bundle most) [] o b)
encoded-spelled most b (Ok o) is legal = rw is (bundle-spells most b legal)
encoded-spelled most b (Err e) is legal = tt

pub encoded-again : {E : Type 0} (most : ℕ) (b : Bundle7) (r : Result (List ℕ) E) → IfOk r (λ o. o ≡ octets7 b) → IsLegal most b
    → IfOk r (λ o. (more : List ℕ) → read (bundle most) (o ++ more) 0 ≡ Ok (b, length o))
encoded-again most b (Ok o) is legal = rw is (λ more.
    read-only (bundle most) [] (octets7 b) more b (bundle-spells most b legal)
    ∙ ap (λ n. found b n) (omega arith))
encoded-again most b (Err e) is legal = tt

pub encoded-same : {E : Type 0} (most : ℕ) (b : Bundle7) (r : Result (List ℕ) E) → IfOk r (λ o. o ≡ octets7 b) → (w : List ℕ) → Spells (bundle most) [] w b
    → IfOk r (λ o. o ≡ w)
encoded-same most b (Ok o) is w spells = is ∙ sym (bundle-spelled most w b spells).1
encoded-same most b (Err e) is w spells = tt

-- what is decoded is legal
pub begins-legal : {E : Type 0} (most : ℕ) (text : List ℕ) (r : Result (Bundle7 × ℕ) E) → IsOctets text → IfOk r (λ x. Begins (bundle most) text x.1 x.0)
    → IfOk r (λ x. IsLegal most x.0)
begins-legal most text (Ok x) fits begins =
    (bundle-spelled most (take x.1 text) x.0 begins.spells).0
    (octets_front text (take x.1 text) (drop x.1 text) (sym (take-append-drop x.1 text)) fits)
begins-legal most text (Err e) fits begins = tt

-- a front that spells, its two facts side by side
pub begins-spelled : {E : Type 0} (most : ℕ) (text : List ℕ) (r : Result (Bundle7 × ℕ) E) → IfOk r (λ x. Begins (bundle most) text x.1 x.0)
    → IfOk r (λ x. (x.1 ≤ length text) × Spells (bundle most) [] (take x.1 text) x.0)
begins-spelled most text (Ok x) begins = (begins.within, begins.spells)
begins-spelled most text (Err e) begins = tt
