-- What is told of a session by its number.

use Rattle.std.proofs.Common.{◌≡◌, ℕ, Bool, List, Option, None, Some, nat_eq, sym, ◌∙◌, ap}
use Rattle.std.specs.BTreeMap.{is_at}
use Rattle.std.specs.Map.{lookup}
use Rattle.std.specs.Ordering.{nat_cmp}
use Rattle.ltp_segment.specs.Policy.{PolicyValue}
use Rattle.ltp_session.specs.Receiver.{Receiving}
use Rattle.ltp_session.specs.Table.{find}
use Rattle.ltp_session.specs.Views.{SessionValue}
use Rattle.ltp_engine.specs.Tables.{table_of, AreLive, by_number}
use Rattle.ltp_engine.proofs.TableLemmas.{found-live, absent-live}
use Rattle.ltp_engine.proofs.OrderLemmas.{looked-up, find-by_number}

-- what is told of the session that a map holds
pub told-kept : {S : Type 0} (o : ℕ) (p : PolicyValue) (n : ℕ) (entries : List (ℕ × SessionValue S)) (says : Option S → Bool) (v : SessionValue S) (told : Bool)
    → AreLive o p entries → lookup (is_at (nat_cmp n)) entries ≡ Some v → told ≡ says v.kept → told ≡ says (find n (table_of entries))
told-kept o p n entries says v told are_live holds is =
    let found = found-live o p n entries v are_live holds in
    is ∙ (ap (λ x. says x.kept) found.is ∙ ap says (sym found.found))

-- of one that it doesn't hold
pub told-absent : {S : Type 0} (o : ℕ) (p : PolicyValue) (n : ℕ) (entries : List (ℕ × SessionValue S)) (says : Option S → Bool)
    → AreLive o p entries → lookup (is_at (nat_cmp n)) entries ≡ None → says None ≡ says (find n (table_of entries))
told-absent o p n entries says are_live holds = ap says (sym (absent-live o p n entries are_live holds))

-- the same of a receiving session
pub told-received : (o : ℕ) (p : PolicyValue) (n : ℕ) (entries : List (ℕ × SessionValue Receiving)) (says : Option Receiving → Bool) (v : SessionValue Receiving) (told : Bool)
    → AreLive o p entries → lookup (nat_eq n) entries ≡ Some v → told ≡ says v.kept → told ≡ says (find n (by_number (table_of entries)))
told-received o p n entries says v told are_live holds is =
    told-kept o p n entries says v told are_live (looked-up n entries ∙ holds) is ∙ ap says (sym (find-by_number n (table_of entries)))

pub told-unreceived : (o : ℕ) (p : PolicyValue) (n : ℕ) (entries : List (ℕ × SessionValue Receiving)) (says : Option Receiving → Bool)
    → AreLive o p entries → lookup (nat_eq n) entries ≡ None → says None ≡ says (find n (by_number (table_of entries)))
told-unreceived o p n entries says are_live holds =
    told-absent o p n entries says are_live (looked-up n entries ∙ holds) ∙ ap says (sym (find-by_number n (table_of entries)))
