-- What a word says, judged without memory.

use Rattle.std.proofs.Common.{◌≡◌, ℕ, Bool, true, false, ◌&&◌, List, length, drop, Option, None, Some, is_some, is_ok, Result, Ok, Err, refl, codes, nat_le}
use Rattle.std.specs.List.{list_all}
use Rattle.std.specs.Str.{bytes_eq}
use Rattle.hex.specs.Hex.{decode_of}
use Rattle.hex.specs.declared.FromHexError.{FromHexError}
use Rattle.endpoint.specs.declared.fault.EndpointFault.TheVariants as causes
use Rattle.std.specs.Option.{ok_or}
use Rattle.endpoint.specs.Endpoints.{begins, is_ssp, is_visible}
use Rattle.endpoint.specs.Numeral.{pair_of}
use Rattle.endpoint.specs.Reading.{read_text, dtn_named, ipn_named}
use Rattle.replay_script.specs.Events.{gate_of, hex_of, octets_in, other_than_null}
use Rattle.replay_script.specs.Ties.{is_gate_text}

-- ---- hex

pub hex-is : (text : List ℕ) → is_ok (decode_of text) ≡ is_some (hex_of text)
unfolding hex_of
hex-is text = by_result (decode_of text)
  where
    by_result : (r : Result (List ℕ) FromHexError) → is_ok r ≡ is_some (octets_in r)
    by_result (Ok octets) = refl
    by_result (Err fault) = refl

pub hex-octets : (text octets : List ℕ) → decode_of text ≡ Ok octets → hex_of text ≡ Some octets
unfolding hex_of
hex-octets text octets is = rw is refl

-- ---- a gate's name

not_none : (a b c : Bool) → (a && b && c && false) ≡ false
not_none true true true = refl
not_none true true false = refl
not_none true false c = refl
not_none false b c = refl

ssp-none : (ssp : List ℕ) → bytes_eq ssp (codes "none") ≡ true → is_ssp ssp ≡ false
unfolding is_ssp
ssp-none ssp is = rw is (not_none (nat_le 1 (length ssp)) (nat_le (length ssp) 1023) (list_all is_visible ssp))

dtn-gate : (ssp : List ℕ) → is_ssp ssp ≡ is_some (other_than_null (ok_or (dtn_named ssp) causes.Ssp))
dtn-gate ssp = by_name (bytes_eq ssp (codes "none")) refl (is_ssp ssp) refl
  where
    by_name : (n : Bool) → bytes_eq ssp (codes "none") ≡ n → (i : Bool) → is_ssp ssp ≡ i
        → is_ssp ssp ≡ is_some (other_than_null (ok_or (dtn_named ssp) causes.Ssp))
    by_name true is i legal = rw is (ssp-none ssp is)
    by_name false is true legal = rw (is, legal) refl
    by_name false is false legal = rw (is, legal) refl

ipn-gate : (ssp : List ℕ) → is_some (ipn_named ssp) ≡ is_some (other_than_null (ok_or (ipn_named ssp) causes.Number))
ipn-gate ssp = by_pair (pair_of ssp) refl
  where
    by_pair : (o : Option (ℕ × ℕ)) → pair_of ssp ≡ o
        → is_some (ipn_named ssp) ≡ is_some (other_than_null (ok_or (ipn_named ssp) causes.Number))
    by_pair None is = rw is refl
    by_pair (Some pair) is = rw is refl

pub gate-text : (text : List ℕ) → is_gate_text text ≡ is_some (gate_of text)
unfolding is_gate_text gate_of read_text
gate-text text = by_scheme (begins (codes "dtn:") text) refl (begins (codes "ipn:") text) refl
  where
    by_scheme : (d : Bool) → begins (codes "dtn:") text ≡ d → (i : Bool) → begins (codes "ipn:") text ≡ i
        → is_gate_text text ≡ is_some (gate_of text)
    by_scheme true dtn i ipn = rw dtn (dtn-gate (drop 4 text))
    by_scheme false dtn true ipn = rw (dtn, ipn) (ipn-gate (drop 4 text))
    by_scheme false dtn false ipn = rw (dtn, ipn) refl
