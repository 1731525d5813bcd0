-- What is spelled is legal, and each value has one spelling.
use Rattle.std.proofs.Common.{◌≡◌, ℕ, ◌^◌, ◌<◌, ◌≤◌, ◌==◌, Bool, true, false, ◌&&◌, ◌||◌, not, List, [], ◌++◌, length, leb, codes, Option, Some, None, refl, sym, ap, ◌∙◌, arith}
use Rattle.std.proofs.lemmas.Bool.{and_parts, leb-true, eqb-true}
use Rattle.std.proofs.lemmas.List.{append-nil}
use Rattle.cbor_lite.specs.Head.{head, SpellsHead}
use Rattle.cbor_lite.specs.Item.{string}
use Rattle.endpoint.specs.declared.name.Endpoint.{Endpoint}
use Rattle.endpoint.specs.declared.name.Endpoint.TheVariants.{Null, Ipn, Dtn}
use Rattle.endpoint.specs.Endpoints.{IsEndpoint, is_ssp, is_visible}
use Rattle.std.specs.List.{list_all}
use Rattle.std.specs.Str.{bytes_eq}
use Rattle.wire_fields.specs.declared.lead.UnsignedOrText.{UnsignedOrText}
use Rattle.wire_fields.specs.declared.lead.UnsignedOrText.TheVariants as leads
use Rattle.wire_fields.specs.Format.{Spells}
use Rattle.wire_fields.specs.Words.{needs, ◌also◌, choice}
use Rattle.wire_fields.specs.Refusal.{Stop}
use Rattle.wire_fields.proofs.ResultLemmas.{ok_is}
use Rattle.wire_fields.proofs.WholeLemmas.{whole-only}
use Rattle.bundle7.specs.declared.fault.Cause7.{Cause7}
use Rattle.bundle7.specs.declared.fault.Cause7.TheVariants as causes
use Rattle.bundle7.specs.Eid.{dtn_lead, dtn_rest, dtn_name, ipn_name, eid}
use Rattle.bundle7.specs.Spelling.{eid_octets}

-- ---- conditions

pub needs-true : (b : Bool) (c : Cause7) → needs b c ≡ None → b ≡ true
needs-true true c is = refl
needs-true false c is = cc

pub also-first : (o p : Option Cause7) → (o also p) ≡ None → o ≡ None
also-first None p is = refl
also-first (Some c) p is = is

pub also-second : (o p : Option Cause7) → (o also p) ≡ None → p ≡ None
also-second None p is = is
also-second (Some c) p is = cc

-- ---- texts put together

pub joined : (w u u' v v' : List ℕ) → w ≡ u ++ v → u ≡ u' → v ≡ v' → w ≡ u' ++ v'
joined w u u' v v' parts front back = parts ∙ (ap (λ (t : List ℕ). t ++ v) front ∙ ap (λ (t : List ℕ). u' ++ t) back)

pub ended : (w u u' v : List ℕ) → w ≡ u ++ v → u ≡ u' → v ≡ [] → w ≡ u'
ended w u u' v parts front back = joined w u u' v [] parts front back ∙ append-nil u'

-- a head that says one value
pub exact-head : (kind n : ℕ) (u : List ℕ) (x : ℕ) (c : Cause7) → SpellsHead kind u x → needs (x == n) c ≡ None → u ≡ head kind n
exact-head kind n u x c spells only = spells.spelt ∙ ap (head kind) (eqb-true x n (needs-true (x == n) c only))

-- ---- endpoints

-- what an endpoint's spelling says of the octets
pub record IsSpelled (w : List ℕ) (e : Endpoint) : Type 0 where
  pub legal : IsEndpoint e
  pub octets : w ≡ eid_octets e

ipn-spelled : (front w : List ℕ) (e : Endpoint) → Spells ipn_name front w e
    → (w' : List ℕ) → w' ≡ head 4 2 ++ (head 0 2 ++ w) → IsSpelled w' e
unfolding ipn_name
ipn-spelled front w e (u, v, items, parts, (heads, two), (u1, v1, node, parts1, node_is, (u2, v2, service, parts2, service_is, (nothing, is)))) w' whole =
    let rest : w ≡ head 4 2 ++ (head 0 node ++ head 0 service) =
    joined w u (head 4 2) v (head 0 node ++ head 0 service) parts (exact-head 4 2 u items causes.Eid heads two)
    (joined v u1 (head 0 node) v1 (head 0 service) parts1 node_is.spelt (ended v1 u2 (head 0 service) v2 parts2 service_is.spelt nothing)) in
    rw is (record {
      legal = (node_is.small, service_is.small);
      octets = whole ∙ ap (λ (t : List ℕ). head 4 2 ++ (head 0 2 ++ t)) rest;
    })

lead-spelled : (front w : List ℕ) (e : Endpoint) (u v : List ℕ) (lead : UnsignedOrText) → w ≡ u ++ v
    → Spells dtn_lead front u lead → Spells (dtn_rest lead) (front ++ u) v e
    → (w' : List ℕ) → w' ≡ head 4 2 ++ (head 0 1 ++ w) → IsSpelled w' e
lead-spelled front w e u v (leads.Unsigned n) parts (heads, zero_is) (nothing, is) w' whole =
    rw is (record {
      legal = tt;
      octets = whole ∙ ap (λ (t : List ℕ). head 4 2 ++ (head 0 1 ++ t)) (ended w u (head 0 0) v parts (exact-head 0 0 u n causes.Eid heads zero_is) nothing);
    })
lead-spelled front w e u v (leads.Text n) parts (heads, any) (u1, v1, octets, parts1, ((same, size), legal), (nothing, is)) w' whole =
    let count : n ≡ length octets = sym size ∙ ap length same in
    rw is (record {
      legal = needs-true (is_ssp octets) causes.Eid legal;
      octets = whole ∙ ap (λ (t : List ℕ). head 4 2 ++ (head 0 1 ++ t))
          (joined w u (head 3 (length octets)) v octets parts (heads.spelt ∙ ap (head 3) count) (ended v u1 octets v1 parts1 same nothing));
    })

choice-spelled : (t : Bool) (number : ℕ) (front w : List ℕ) (e : Endpoint) (u : List ℕ) → (number == 1) ≡ t → needs (t || (number == 2)) causes.Eid ≡ None
    → SpellsHead 0 u number → Spells (choice t dtn_name ipn_name) front w e → (w' : List ℕ) → w' ≡ head 4 2 ++ (u ++ w) → IsSpelled w' e
unfolding dtn_name
choice-spelled true number front w e u is one heads (u1, v1, lead, parts, lead_is, rest) w' whole =
    let first : u ≡ head 0 1 = heads.spelt ∙ ap (head 0) (eqb-true number 1 is) in
    lead-spelled front w e u1 v1 lead parts lead_is rest w' (whole ∙ ap (λ (t : List ℕ). head 4 2 ++ (t ++ w)) first)
choice-spelled false number front w e u is two heads rest w' whole =
    let first : u ≡ head 0 2 = exact-head 0 2 u number causes.Eid heads two in
    ipn-spelled front w e rest w' (whole ∙ ap (λ (t : List ℕ). head 4 2 ++ (t ++ w)) first)

pub eid-spelled : (front w : List ℕ) (e : Endpoint) → Spells eid front w e → IsSpelled w e
unfolding eid
eid-spelled front w e (u, v, items, parts, (heads, two), (u1, v1, number, parts1, (number_is, one_or_two), rest)) =
    choice-spelled (number == 1) number (front ++ u ++ u1) v1 e u1 refl one_or_two number_is rest w
    (joined w u (head 4 2) v (u1 ++ v1) parts (exact-head 4 2 u items causes.Eid heads two) parts1)

-- a head spells its number
pub head-spells : (kind n : ℕ) → n < 2 ^ 64 → SpellsHead kind (head kind n) n
head-spells kind n small = record { small = small; spelt = refl }

-- a scheme-specific part is short
ssp-fits : (octets : List ℕ) → is_ssp octets ≡ true → length octets < 2 ^ 64
unfolding is_ssp
ssp-fits octets legal =
    let visible = (and_parts (leb 1 (length octets) && leb (length octets) 1023 && list_all is_visible octets) (not (bytes_eq octets (codes "none"))) legal).0 in
    let sizes = (and_parts (leb 1 (length octets) && leb (length octets) 1023) (list_all is_visible octets) visible).0 in
    let short = (and_parts (leb 1 (length octets)) (leb (length octets) 1023) sizes).1 in
    let few : length octets ≤ 1023 = leb-true (length octets) 1023 short in omega arith

pub eid-spells : (front : List ℕ) (e : Endpoint) → IsEndpoint e → Spells eid front (eid_octets e) e
unfolding eid dtn_name ipn_name
eid-spells front Null legal = (
  head 4 2,
  head 0 1 ++ head 0 0,
  2,
  refl,
  (head-spells 4 2 (omega arith), refl),
  (
    head 0 1,
    head 0 0,
    1,
    refl,
    (head-spells 0 1 (omega arith), refl),
    (head 0 0, [], leads.Unsigned 0, refl, (head-spells 0 0 (omega arith), refl), (refl, refl)),
  ),
)
eid-spells front (Ipn node service) (small_node, small_service) = (
  head 4 2,
  head 0 2 ++ (head 4 2 ++ (head 0 node ++ head 0 service)),
  2,
  refl,
  (head-spells 4 2 (omega arith), refl),
  (
    head 0 2,
    head 4 2 ++ (head 0 node ++ head 0 service),
    2,
    refl,
    (head-spells 0 2 (omega arith), refl),
    (
      head 4 2,
      head 0 node ++ head 0 service,
      2,
      refl,
      (head-spells 4 2 (omega arith), refl),
      (
        head 0 node,
        head 0 service,
        node,
        refl,
        head-spells 0 node small_node,
        (head 0 service, [], service, sym (append-nil (head 0 service)), head-spells 0 service small_service, (refl, refl)),
      ),
    ),
  ),
)
eid-spells front (Dtn octets) legal = (
  head 4 2,
  head 0 1 ++ string 3 octets,
  2,
  refl,
  (head-spells 4 2 (omega arith), refl),
  (
    head 0 1,
    string 3 octets,
    1,
    refl,
    (head-spells 0 1 (omega arith), refl),
    (
      head 3 (length octets),
      octets,
      leads.Text (length octets),
      refl,
      (head-spells 3 (length octets) (ssp-fits octets legal), refl),
      (octets, [], octets, sym (append-nil octets), ((refl, refl), rw legal refl), (refl, refl)),
    ),
  ),
)

-- octets spell one endpoint
pub eid-one : (w : List ℕ) (d e : Endpoint) → Spells eid [] w d → Spells eid [] w e → d ≡ e
eid-one w d e one other =
    ok_is {E = ℕ × Stop Cause7} d e (sym (whole-only eid causes.Eid w d one) ∙ whole-only eid causes.Eid w e other)
