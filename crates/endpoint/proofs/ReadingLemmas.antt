-- Reading an endpoint: what is read is spelled so, what is spelled so is read, and each fault.

use Rattle.std.proofs.Common.{◌≡◌, ℕ, ◌<◌, ◌⊎◌, inl, inr, Bool, true, false, ◌&&◌, ◌||◌, not, cond, leb}
use Rattle.std.proofs.Common.{List, ◌∷◌, ◌++◌, length, take, drop, refl, sym, ◌∙◌, ap, ◌+◌, ◌-◌, get_or, eqb, add-one}
use Rattle.std.proofs.Common.{Option, None, Some, Result, Ok, Err}
use Rattle.std.specs.Prelude.{codes, IfOk, IfErr, IsOkAnd}
use Rattle.std.specs.List.{list_all, starts_with}
use Rattle.std.specs.Option.{ok_or}
use Rattle.std.specs.Str.{bytes_eq}
use Rattle.std.proofs.lemmas.List.{take-append-drop, take_rest}
use Rattle.std.proofs.lemmas.Bool.Decides.{same_from_decides}
use Rattle.std.proofs.lemmas.Slice.Eq.{bytes_eq-Decides}
use Rattle.std.proofs.Math.Seq.{drop-cons, take-append_seam}
use Rattle.endpoint.specs.declared.name.Endpoint.{Endpoint}
use Rattle.endpoint.specs.declared.name.Endpoint.TheVariants.{Null, Ipn, Dtn}
use Rattle.endpoint.specs.declared.fault.EndpointFault.{EndpointFault}
use Rattle.endpoint.specs.declared.fault.EndpointFault.TheVariants.{Scheme, Ssp, Number, Memory}
use Rattle.endpoint.specs.Numeral.{pair_of}
use Rattle.endpoint.specs.Endpoints.{IsEndpoint, IsDtn, scheme_of, ssp_of, is_visible, is_ssp, begins, names_group}
use Rattle.endpoint.specs.Reading.{Spells, SpellsNone, SpellsDtn, Lacks, Misses, dtn_named, ipn_named, named, read_text, Reads}
use Rattle.endpoint.proofs.NumeralLemmas.{pair_of-spelled, pair_of-decimal}

-- ---- fronts of texts

begins-true : (front text : List ℕ) → begins front text ≡ true → text ≡ front ++ drop (length front) text
begins-true front text is =
    let same : take (length front) text ≡ front = (bytes_eq-Decides (take (length front) text) front).0 is in
    sym (take-append-drop (length front) text) ∙ ap (λ t. t ++ drop (length front) text) same

begins-append : (front rest : List ℕ) → begins front (front ++ rest) ≡ true
begins-append front rest =
    (bytes_eq-Decides (take (length front) (front ++ rest)) front).1 (take-append_seam front rest)

lacks : (front text : List ℕ) → begins front text ≡ false → Lacks front text
lacks front text other ssp is =
    let stands : begins front text ≡ true = rw is (begins-append front ssp) in cc

-- std's word for it
starts-begins : (text front : List ℕ) → starts_with eqb text front ≡ begins front text
starts-begins text front =
    let there = bytes_eq-Decides front (take (length front) text) in
    let back = bytes_eq-Decides (take (length front) text) front in
    same_from_decides (bytes_eq front (take (length front) text)) (begins front text) there
    (λ is. sym (back.0 is), λ is. back.1 (sym is))

either : (here more : Bool) → here ≡ false → (here || more) ≡ more
either here more is = rw is refl

-- a group's mark that doesn't stand at a place stands after it, if at all
pub names_group-more : (ssp mark : List ℕ) (i : ℕ) (here : Bool) → i < length ssp → mark ≡ codes "/~"
    → here ≡ starts_with eqb (take (length ssp - i) (drop i ssp)) mark → here ≡ false
    → names_group (drop (i + 1) ssp) ≡ names_group (drop i ssp)
unfolding names_group
names_group-more ssp mark i here inside is tested other =
    let cut : drop i ssp ≡ get_or ssp i 0 ∷ drop (i + 1) ssp = rw add-one (drop-cons ssp i 0 inside) in
    let none : begins (codes "/~") (get_or ssp i 0 ∷ drop (i + 1) ssp) ≡ false =
    sym (ap (begins (codes "/~")) cut)
    ∙ sym (starts-begins (drop i ssp) (codes "/~"))
    ∙ sym (tested ∙ ap (λ t. starts_with eqb t mark) (take_rest ssp i) ∙ ap (starts_with eqb (drop i ssp)) is)
    ∙ other in
    sym (ap names_group cut
    ∙ either (begins (codes "/~") (get_or ssp i 0 ∷ drop (i + 1) ssp)) (names_group (drop (i + 1) ssp)) none)

-- ---- scheme-specific parts

-- a legal part is not none
ssp_not_none : (ssp : List ℕ) → is_ssp ssp ≡ true → bytes_eq ssp (codes "none") ≡ false
unfolding is_ssp
ssp_not_none ssp legal =
    last (leb 1 (length ssp)) (leb (length ssp) 1023) (list_all is_visible ssp) (bytes_eq ssp (codes "none")) legal
  where
    last : (a b d e : Bool) → (a && b && d && not e) ≡ true → e ≡ false
    last true true true false is = refl
    last true true true true is = cc
    last true true false e is = cc
    last true false d e is = cc
    last false b d e is = cc

-- a legal endpoint, with this scheme and this part
pub record HasParts (endpoint : Endpoint) (scheme ssp : List ℕ) : Type 0 where
  pub legal : IsEndpoint endpoint
  pub scheme_is : scheme ≡ scheme_of endpoint
  pub ssp_is : ssp ≡ ssp_of endpoint

-- what a dtn name's part reads as
dtn_named-found : (ssp : List ℕ) (endpoint : Endpoint) → dtn_named ssp ≡ Some endpoint
    → HasParts endpoint (codes "dtn") ssp
dtn_named-found ssp endpoint is = by (bytes_eq ssp (codes "none")) (is_ssp ssp) refl refl
  where
    by : (b d : Bool) → bytes_eq ssp (codes "none") ≡ b → is_ssp ssp ≡ d → HasParts endpoint (codes "dtn") ssp
    by true d none legal =
        let same : ssp ≡ codes "none" = (bytes_eq-Decides ssp (codes "none")).0 none in
        let null : endpoint ≡ Null = cc (rw none at is) in
        rw (null, same) (record { legal = tt; scheme_is = refl; ssp_is = refl })
    by false true none legal =
        let dtn : endpoint ≡ Dtn ssp = cc (rw (none, legal) at is) in
        rw dtn (record { legal = legal; scheme_is = refl; ssp_is = refl })
    by false false none legal = absurd (cc (rw (none, legal) at is))

-- what an ipn name's part reads as
ipn_named-found : (ssp : List ℕ) (endpoint : Endpoint) → ipn_named ssp ≡ Some endpoint
    → HasParts endpoint (codes "ipn") ssp
ipn_named-found ssp endpoint is = by (pair_of ssp) refl
  where
    by : (o : Option (ℕ × ℕ)) → pair_of ssp ≡ o → HasParts endpoint (codes "ipn") ssp
    by None none = absurd (cc (rw none at is))
    by (Some pair) some =
        let spelled = pair_of-spelled ssp pair.0 pair.1 some in
        let ipn : endpoint ≡ Ipn pair.0 pair.1 = cc (rw some at is) in
        rw ipn (record { legal = (spelled.0, spelled.1); scheme_is = refl; ssp_is = spelled.2 })

-- the text made of them
spells : (endpoint : Endpoint) (scheme ssp : List ℕ) → HasParts endpoint scheme ssp
    → Spells endpoint (scheme ++ (codes ":" ++ ssp))
spells endpoint scheme ssp parts =
    record { legal = parts.legal; spelled = rw (parts.scheme_is, parts.ssp_is) refl }

-- ---- whole texts

found_by : (b d : Bool) (one other : Option Endpoint) (endpoint : Endpoint)
    → cond b (ok_or one Ssp) (cond d (ok_or other Number) (Err Scheme)) ≡ Ok endpoint
    → ((b ≡ true) × (one ≡ Some endpoint)) ⊎ ((d ≡ true) × (other ≡ Some endpoint))
found_by true d (Some x) other endpoint is = inl (refl, cc)
found_by true d None other endpoint is = cc
found_by false true one (Some x) endpoint is = inr (refl, cc)
found_by false true one None endpoint is = cc
found_by false false one other endpoint is = cc

-- what is read is spelled so
pub read_text-found : (text : List ℕ) (endpoint : Endpoint) → read_text text ≡ Ok endpoint → Spells endpoint text
unfolding read_text
read_text-found text endpoint is =
    elim (found_by (begins (codes "dtn:") text) (begins (codes "ipn:") text) _ _ endpoint is) [
      | inl dtn ↦ rw (begins-true (codes "dtn:") text dtn.0)
          (spells endpoint (codes "dtn") (drop 4 text) (dtn_named-found (drop 4 text) endpoint dtn.1))
      | inr ipn ↦ rw (begins-true (codes "ipn:") text ipn.0)
          (spells endpoint (codes "ipn") (drop 4 text) (ipn_named-found (drop 4 text) endpoint ipn.1))
    ]

-- what is spelled so is read
pub read_text-only : (text : List ℕ) (endpoint : Endpoint) → Spells endpoint text → read_text text ≡ Ok endpoint
unfolding read_text
read_text-only text Null spells = rw spells.spelled refl
read_text-only text (Dtn ssp) spells = rw (spells.spelled, ssp_not_none ssp spells.legal, spells.legal) refl
read_text-only text (Ipn node service) spells =
    rw (spells.spelled, pair_of-decimal node service spells.legal.0 spells.legal.1) refl

-- no two endpoints have the same text
pub one_text : (one other : Endpoint) (text : List ℕ) → Spells one text → Spells other text → one ≡ other
one_text one other text first second =
    let a = read_text-only text one first in
    let b = read_text-only text other second in
    cc

-- what is refused spells no endpoint
none_spelled : (text : List ℕ) (fault : EndpointFault) → read_text text ≡ Err fault → SpellsNone text
none_spelled text fault is endpoint spells = let read = read_text-only text endpoint spells in cc

fault_by : (b d : Bool) (one other : Option Endpoint) (fault : EndpointFault)
    → cond b (ok_or one Ssp) (cond d (ok_or other Number) (Err Scheme)) ≡ Err fault
    → ((b ≡ false) × (d ≡ false) × (fault ≡ Scheme)) ⊎ ((b ≡ true) × (fault ≡ Ssp)) ⊎ ((d ≡ true) × (fault ≡ Number))
fault_by true d (Some x) other fault is = cc
fault_by true d None other fault is = inr (inl (refl, cc))
fault_by false true one (Some x) fault is = cc
fault_by false true one None fault is = inr (inr (refl, cc))
fault_by false false one other fault is = inl (refl, refl, cc)

-- what reads as a dtn name spells one
pub spells_dtn : (text : List ℕ) (r : Result Endpoint EndpointFault) → read_text text ≡ r → IsOkAnd r IsDtn → SpellsDtn text
spells_dtn text (Ok (Dtn ssp)) is dtn = (ssp, read_text-found text (Dtn ssp) is)
spells_dtn text (Ok Null) is dtn = absurd dtn
spells_dtn text (Ok (Ipn node service)) is dtn = absurd dtn
spells_dtn text (Err fault) is dtn = absurd dtn

-- each fault comes where it holds
pub read_text-fault : (text : List ℕ) (fault : EndpointFault) → read_text text ≡ Err fault → Misses fault text
unfolding read_text
read_text-fault text fault is =
    let none = none_spelled text fault is in
    elim (fault_by (begins (codes "dtn:") text) (begins (codes "ipn:") text) _ _ fault is) [
      | inl scheme ↦ rw scheme.2 (lacks (codes "dtn:") text scheme.0, lacks (codes "ipn:") text scheme.1)
      | inr (inl ssp) ↦ rw ssp.1 ((drop 4 text, begins-true (codes "dtn:") text ssp.0), none)
      | inr (inr number) ↦ rw number.1 ((drop 4 text, begins-true (codes "ipn:") text number.0), none)
    ]

-- ---- scheme and scheme-specific part apart

named_by : (b d : Bool) (one other : Option Endpoint) (endpoint : Endpoint)
    → cond b one (cond d other None) ≡ Some endpoint
    → ((b ≡ true) × (one ≡ Some endpoint)) ⊎ ((d ≡ true) × (other ≡ Some endpoint))
named_by true d one other endpoint is = inl (refl, is)
named_by false true one other endpoint is = inr (refl, is)
named_by false false one other endpoint is = cc

-- what scheme and part name is a legal endpoint, with this scheme and this part
pub named-found : (scheme ssp : List ℕ) (endpoint : Endpoint) → named scheme ssp ≡ Some endpoint
    → HasParts endpoint scheme ssp
unfolding named
named-found scheme ssp endpoint is =
    elim (named_by (bytes_eq scheme (codes "dtn")) (bytes_eq scheme (codes "ipn")) _ _ endpoint is) [
      | inl dtn ↦ rw ((bytes_eq-Decides scheme (codes "dtn")).0 dtn.0) (dtn_named-found ssp endpoint dtn.1)
      | inr ipn ↦ rw ((bytes_eq-Decides scheme (codes "ipn")).0 ipn.0) (ipn_named-found ssp endpoint ipn.1)
    ]

-- the part of a service of a node writes its two numbers
pub named-written : (scheme ssp : List ℕ) (node service : ℕ) → named scheme ssp ≡ Some (Ipn node service)
    → ipn_named ssp ≡ Some (Ipn node service)
named-written scheme ssp node service is =
    let found = named-found scheme ssp (Ipn node service) is in
    rw (found.ssp_is, pair_of-decimal node service found.legal.0 found.legal.1) refl

-- an endpoint's scheme and part name it
pub named-only : (endpoint : Endpoint) → IsEndpoint endpoint
    → named (scheme_of endpoint) (ssp_of endpoint) ≡ Some endpoint
unfolding named
named-only Null legal = refl
named-only (Dtn ssp) legal = rw (ssp_not_none ssp legal, legal) refl
named-only (Ipn node service) legal = rw (pair_of-decimal node service legal.0 legal.1) refl

-- ---- a result that reading gives

pub Reads-found : (result : Result Endpoint EndpointFault) (text : List ℕ) → Reads result text → IfOk result (λ e. Spells e text)
Reads-found (Ok e) text (inl read) = read_text-found text e (sym read)
Reads-found (Ok e) text (inr memory) = absurd cc
Reads-found (Err fault) text reads = tt

pub Reads-fault : (result : Result Endpoint EndpointFault) (text : List ℕ) → Reads result text → IfErr result (λ f. Misses f text)
Reads-fault (Ok e) text reads = tt
Reads-fault (Err fault) text (inl read) = read_text-fault text fault (sym read)
Reads-fault (Err fault) text (inr memory) = let is : fault ≡ Memory = cc in rw is tt

pub Reads-only : (result : Result Endpoint EndpointFault) (text : List ℕ) → Reads result text
    → (endpoint : Endpoint) → Spells endpoint text → (result ≡ Ok endpoint) ⊎ (result ≡ Err Memory)
Reads-only result text (inl read) endpoint spells = inl (read ∙ read_text-only text endpoint spells)
Reads-only result text (inr memory) endpoint spells = inr memory
