-- What is written of a half, and shown.

use Rattle.std.proofs.Common.{◌≡◌, ℕ, List, [], ◌∷◌, ◌++◌, map, Option, Result, Ok, Err, refl, sym, ◌∙◌, ap}
use Rattle.std.specs.List.{flat_map}
use Rattle.std.proofs.lemmas.List.{map-append}
use Rattle.edge_traits.specs.Faults.{Calls, NoneFailed}
use Rattle.edge_traits.proofs.FaultsLemmas.{NoneFailed-same, NoneFailed-more, LastFailed-after}
use Rattle.gate_edges.specs.Ahead.{Ahead}
use Rattle.gate_edges.specs.Made.{Made, written, wrote}
use Rattle.gate_log.specs.declared.event.Event.{Event}
use Rattle.gate_log.specs.Lines.{line_of}
use Rattle.peer_half.specs.Standing.{Standing, wall_of}
use Rattle.peer_half.specs.Parts.{line_at}
use Rattle.gate_run.specs.Course.{Point}
use Rattle.gate_run.specs.Outcome.{made_by_all}
use Rattle.gate_run.specs.Stages.{IsAt, Goes, WroteText, StopsWriting, StopsStoring, writes_over}
use Rattle.gate_run.specs.declared.stop.Stop.{Stop}
use Rattle.gate_run.specs.declared.stop.Stop.TheVariants.{Fault, NoMemory, NoJournal}

-- ---- writes

pub none-failed : (before now : Calls) → now ≡ before → NoneFailed before now
none-failed before now same = rw same (NoneFailed-same before)

-- no write was made
pub stops-unwritten : {X : Type 0} (result : Result X Stop) (before now : Calls)
    → result ≡ Err NoMemory → now ≡ before → StopsWriting result before now
stops-unwritten result before now is same = rw (is, same) (NoneFailed-same before)

-- writes of which none failed, and then others
pub stops-after : {X : Type 0} (result : Result X Stop) (a b c : Calls)
    → NoneFailed a b → StopsWriting result b c → StopsWriting result a c
stops-after (Ok x) a b c first second = NoneFailed-more a b c first second
stops-after (Err Fault) a b c first second = LastFailed-after a b c first second
stops-after (Err NoMemory) a b c first second = NoneFailed-more a b c first second
stops-after (Err NoJournal) a b c first second = NoneFailed-more a b c first second

-- the last of them stopped
pub stops-err : (X : Type 0) {Y : Type 0} (result : Result Y Stop) (stop : Stop) (a b c : Calls)
    → result ≡ Err stop → NoneFailed a b → StopsWriting {X = X} (Err stop) b c → StopsWriting result a c
stops-err X result Fault a b c is first second = rw is (LastFailed-after a b c first second)
stops-err X result NoMemory a b c is first second = rw is (NoneFailed-more a b c first second)
stops-err X result NoJournal a b c is first second = rw is (NoneFailed-more a b c first second)

-- ---- calls on the journal

-- none was made
pub stops-unstored : {X : Type 0} (result : Result X Stop) (before now : Calls)
    → result ≡ Err NoMemory → now ≡ before → StopsStoring result before now
stops-unstored result before now is same = rw (is, same) (NoneFailed-same before)

-- calls of which none failed, and then others
pub stores-after : {X : Type 0} (result : Result X Stop) (a b c : Calls)
    → NoneFailed a b → StopsStoring result b c → StopsStoring result a c
stores-after (Ok x) a b c first second = NoneFailed-more a b c first second
stores-after (Err Fault) a b c first second = NoneFailed-more a b c first second
stores-after (Err NoMemory) a b c first second = NoneFailed-more a b c first second
stores-after (Err NoJournal) a b c first second = LastFailed-after a b c first second

-- the last of them stopped
pub stores-err : (X : Type 0) {Y : Type 0} (result : Result Y Stop) (stop : Stop) (a b c : Calls)
    → result ≡ Err stop → NoneFailed a b → StopsStoring {X = X} (Err stop) b c → StopsStoring result a c
stores-err X result Fault a b c is first second = rw is (NoneFailed-more a b c first second)
stores-err X result NoMemory a b c is first second = rw is (NoneFailed-more a b c first second)
stores-err X result NoJournal a b c is first second = rw is (LastFailed-after a b c first second)

-- nothing was called on it
pub unstored : {X : Type 0} (result : Result X Stop) (before now : Calls)
    → (result ≡ Err NoJournal → ⊥) → now ≡ before → StopsStoring result before now
unstored (Ok x) before now not_so same = rw same (NoneFailed-same before)
unstored (Err Fault) before now not_so same = rw same (NoneFailed-same before)
unstored (Err NoMemory) before now not_so same = rw same (NoneFailed-same before)
unstored (Err NoJournal) before now not_so same = absurd (not_so refl)

-- ---- lines

lines-made : (wall : ℕ) (said : List Event)
    → made_by_all (map (line_at wall) said) ≡ written (flat_map (line_of wall) said)
lines-made wall [] = refl
lines-made wall (event ∷ more) =
    ap (λ v. written (line_of wall event) ++ v) (lines-made wall more)
    ∙ sym (map-append wrote (line_of wall event) (flat_map (line_of wall) more))

pub lines-written : {X : Type 0} (Shows : Standing → Type 0) (p : Point) (text : List ℕ) (result : Result X Stop) (ahead_before ahead : Option Ahead) (before now : Option (List Made))
    → IsAt Shows ahead_before p → text ≡ flat_map (line_of (wall_of p.standing)) (p.standing).said
    → ahead ≡ ahead_before → WroteText text result before now
    → Goes Shows (writes_over p) result ahead before now
lines-written Shows p text (Ok x) ahead_before ahead before now at is same done = record {
  at = record { shown = at.shown; told = same ∙ at.told };
  made = rw (lines-made (wall_of p.standing) (p.standing).said, ← is) done;
}
lines-written Shows p text (Err e) ahead_before ahead before now at is same done =
    rw (lines-made (wall_of p.standing) (p.standing).said, ← is) done
