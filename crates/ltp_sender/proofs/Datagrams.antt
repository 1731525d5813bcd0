-- Datagrams of contents that are sent one after the other.

use Rattle.std.proofs.Common.{◌≡◌, List, [], ◌∷◌, ◌++◌, refl, ap}
use Rattle.ltp_segment.specs.Values.{ContentValue}
use Rattle.ltp_segment.specs.Spelling.{segment_octets}
use Rattle.ltp_session.specs.declared.name.SessionName.{SessionName}
use Rattle.ltp_session.specs.Views.{headed, datagrams_of}

pub datagrams_of-append : (name : SessionName) (xs ys : List ContentValue)
    → datagrams_of name (xs ++ ys) ≡ datagrams_of name xs ++ datagrams_of name ys
datagrams_of-append name [] ys = refl
datagrams_of-append name (x ∷ xs) ys =
    ap (λ ds. segment_octets (headed name x) ∷ ds) (datagrams_of-append name xs ys)
