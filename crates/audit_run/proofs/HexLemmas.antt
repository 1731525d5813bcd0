-- A text that is read as hex has octets.

use Rattle.std.proofs.Common.{◌≡◌, ℕ, List, Some, is_some, Result, Ok, Err, is_ok, refl}
use Rattle.hex_text.specs.Hex.{FromHexError, decode_of}
use Rattle.replay_script.specs.Events.{hex_of, octets_in}

pub hex-is : (text : List ℕ) → is_ok (decode_of text) ≡ is_some (hex_of text)
unfolding hex_of
hex-is text = by (decode_of text) where
  by : (r : Result (List ℕ) FromHexError) → is_ok r ≡ is_some (octets_in r)
  by (Ok octets) = refl
  by (Err fault) = refl

pub hex-octets : (text octets : List ℕ) → decode_of text ≡ Ok octets → hex_of text ≡ Some octets
unfolding hex_of
hex-octets text octets is = rw is refl
