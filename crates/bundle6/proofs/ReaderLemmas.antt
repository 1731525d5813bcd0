-- Reading a stream: octets that are open, whole bundles at their front, and pieces.

use Rattle.std.proofs.Common.{◌≡◌, ◌≢◌, ℕ, ◌-◌, ◌≤◌, ltb, Bool, false, List, [], ◌++◌, length, take, drop, Some, None, Ok, Err, refl, sym, ap, ◌∙◌, subst, inl, arith, append_assoc, length-append}
use Rattle.std.proofs.lemmas.List.{take-append-le, drop-append-le, length-drop}
use Rattle.wire_fields.specs.Refusal.{truncated, because}
use Rattle.wire_fields.specs.Reading.{read, IsOctets}
use Rattle.wire_fields.specs.Gives.{Fails, Judges}
use Rattle.wire_fields.proofs.ResultLemmas.{found, stopped, stopped_is}
use Rattle.wire_fields.proofs.ReadLemmas.{read-refused}
use Rattle.wire_fields.proofs.StayLemmas.{refusal-within}
use Rattle.wire_fields.proofs.JudgeLemmas.{judges-found}
use Rattle.wire_fields.proofs.StreamLemmas as streams
use Rattle.wire_fields.proofs.StreamLemmas.{octets-nothing, take-front, text-more}
use Rattle.bundle6.specs.declared.fault.Cause6.{Cause6}
use Rattle.bundle6.specs.declared.fault.Cause6.TheVariants as causes
use Rattle.bundle6.specs.declared.fault.Refused6.{Refused6}
use Rattle.bundle6.specs.declared.fault.Fail6.{Fail6}
use Rattle.bundle6.specs.declared.fault.Fail6.TheVariants.{Refused, Memory}
use Rattle.bundle6.specs.declared.bundle.Bundle6.{Bundle6}
use Rattle.bundle6.specs.declared.pass.Pass.{Pass}
use Rattle.bundle6.specs.declared.pass.Texts.{Texts}
use Rattle.bundle6.specs.declared.reader.Held.{Held}
use Rattle.bundle6.specs.Cause.{why, stop_of, refusal}
use Rattle.bundle6.specs.Table.{primary, bundle}
use Rattle.bundle6.specs.Judging.{judged_bundle}
use Rattle.bundle6.specs.Passing.{texts_in, left_at, left_of, Fits, Stands, Comes}
use Rattle.bundle6.specs.Streaming.{Stream, bundles, IsOpen, near, Feeds}
use Rattle.bundle6.specs.Holding.{stream_of, text_of, IsHeld, IsRefused, IsWhole, PassesOver}
use Rattle.bundle6.proofs.LegalLemmas.{begun-legal}
use Rattle.bundle6.proofs.PassLemmas.{judges-ended, judges-stopped}

-- ---- nothing

pub open-nothing : IsOpen []
unfolding bundle primary
open-nothing = (0, refl)

-- ---- octets that follow

texts-longer : (texts : Texts) (text more : List ℕ) → texts.from ≤ texts.to → texts.to ≤ length text
    → texts_in texts (text ++ more) ≡ texts_in texts text
texts-longer texts text more order inside =
    let rest : length (drop texts.from text) ≡ length text - texts.from = length-drop texts.from text in
    ap (λ t. take (texts.to - texts.from) t) (drop-append-le texts.from text more (omega arith))
    ∙ take-append-le (texts.to - texts.from) (drop texts.from text) more (omega (arith, rest))

-- a pass over octets stands for longer ones
pub stands-longer : (most : ℕ) (text piece : List ℕ) (pass : Pass) → Fits most text pass → Stands most text pass
    → Stands most (text ++ piece) pass
stands-longer most text piece pass fits stands more =
    let joined : (text ++ piece) ++ more ≡ text ++ (piece ++ more) = append_assoc text piece more in
    ap (λ t. read (judged_bundle most) t 0) joined ∙ stands (piece ++ more)
    ∙ ap (λ t. read (left_of most text pass) t pass.at) (sym joined)
    ∙ ap (λ d. read (left_at most pass.part d pass.seen pass.stage) ((text ++ piece) ++ more) pass.at)
    (sym (texts-longer pass.texts text piece fits.order fits.inside))

pub fits-longer : (most : ℕ) (text piece : List ℕ) (pass : Pass) → Fits most text pass → Fits most (text ++ piece) pass
fits-longer most text piece pass fits = record {
  place = omega (arith, fits.place, length-append text piece);
  few = fits.few;
  order = fits.order;
  inside = omega (arith, fits.inside, length-append text piece);
}

-- ---- causes

pub is-because : (cause : Cause6) → cause ≢ causes.Truncated → why cause ≡ because cause
is-because causes.Version other = refl
is-because causes.Number other = refl
is-because causes.Names other = refl
is-because causes.PrimaryEnd other = refl
is-because causes.SecondPayload other = refl
is-because causes.TooManyBlocks other = refl
is-because causes.NoPayload other = refl
is-because causes.BlockRefs other = refl
is-because causes.FragmentRange other = refl
is-because causes.Truncated other = absurd (other refl)
is-because causes.TooLong other = refl

-- ---- what a pass tells

stopped-at : (text : List ℕ) (pass : Pass) (e : Refused6) → Comes 64 text pass (Some e)
    → read (bundle 64) text 0 ≡ Err (stop_of e)
stopped-at text pass e comes = judges-stopped 64 text e comes

pub open-text : (text : List ℕ) (pass : Pass) (e : Refused6) → Comes 64 text pass (Some e) → e.cause ≡ causes.Truncated → IsOpen text
open-text text pass e comes is = (e.at, stopped-at text pass e comes ∙ ap (λ cause. stopped e.at (why cause)) is)

pub place-within : (text : List ℕ) (pass : Pass) (e : Refused6) → IsOctets text → Comes 64 text pass (Some e) → e.at ≤ length text
place-within text pass e fits comes =
    refusal-within (bundle 64) text e.at (why e.cause)
    (read-refused (bundle 64) text 0 e.at (why e.cause) fits (omega arith) (stopped-at text pass e comes))

pub settled-text : (text : List ℕ) (cut : Bool) (pass : Pass) (e : Refused6) → Comes 64 text pass (Some e)
    → e.cause ≢ causes.Truncated → IsRefused text cut e.at e.cause
settled-text text cut pass e comes other =
    inl (stopped-at text pass e comes ∙ ap (stopped e.at) (is-because e.cause other))

-- what was judged is built, but for want of memory
pub built : (text : List ℕ) (b : Bundle6) (k : ℕ) (e : Fail6) → IsWhole text b k
    → Fails (refusal e) (read (bundle 64) text 0) → e ≡ Memory
built text b k (Refused at cause) whole fails =
    let reads = streams.whole-reads bundles text b k whole in
    let no : found b k ≡ stopped at (why cause) = sym reads ∙ fails in absurd (cc)
built text b k Memory whole fails = refl

-- ---- whole bundles

pub judged-whole : (text : List ℕ) (end : ℕ) → IsOctets text → Judges stop_of (Ok end) (read (bundle 64) text 0)
    → (b : Bundle6) × IsWhole text b end
judged-whole text end fits judges =
    let (b, begins) = judges-found (bundle 64) stop_of text (Ok end) fits judges in
    (b, streams.begins-whole bundles text b end fits begins (begun-legal text end b fits begins).legal)

-- a pass that has ended stands after a bundle
pub ended-whole : (text : List ℕ) (pass : Pass) → IsOctets text → Stands 64 text pass → Comes 64 text pass None
    → (b : Bundle6) × IsWhole text b pass.at
ended-whole text pass fits stands comes = judged-whole text pass.at fits (judges-ended 64 text pass stands comes)

-- an open bundle has not ended
pub not-ended : (text : List ℕ) (pass : Pass) → IsOpen text → Stands 64 text pass → Comes 64 text pass None → ⊥
not-ended text pass (at, is) stands comes =
    let no : Judges {A = Bundle6} stop_of (Ok pass.at) (stopped at truncated) = rw is at (judges-ended 64 text pass stands comes) in no

-- a piece after the beginning of a bundle ends it
pub ended-late : (old : Held) (piece : List ℕ) (k : ℕ) (new : Held) (b : Bundle6) → IsWhole (old.kept.items ++ piece) b k
    → IsOpen old.kept.items → (old.kept.items ≡ [] → ⊥) → new.kept.items ≡ old.kept.items ++ piece
    → new.before ≡ old.before → new.pass ≡ old.pass → PassesOver old piece false (Ok (Some k)) new
ended-late old piece k new b whole begun some items before pass = (
  record {
    value = b;
    whole = whole;
    late = streams.after-open bundles old.kept.items piece b k begun whole;
    text = ap (λ t. text_of t piece) items ∙ text-more old.kept.items piece some;
    part = ap (λ t. take (length old.kept.items) t) items ∙ take-front old.kept.items piece;
    before = before;
  },
  pass,
)

-- what was judged is not built only for want of memory
pub feeds-unbuilt : (longest : ℕ) (old new : Held) (piece part : List ℕ) (cut : Bool) (small : length old.kept.items ≤ longest)
    (is : part ≡ near longest (stream_of old) piece) (cuts : cut ≡ ltb (length part) (length piece))
    (k : ℕ) (e : Fail6) (text : List ℕ) (after : Stream) → IsHeld old → PassesOver old part cut (Ok (Some k)) new
    → text ≡ text_of new.kept.items part → Fails (refusal e) (read (bundle 64) text 0) → Feeds longest (stream_of old) piece (Err e) after
feeds-unbuilt longest old new piece part cut small is cuts k e text after held (ended, pass) same fails =
    let memory : e ≡ Memory =
    built (old.kept.items ++ part) ended.value k e ended.whole
    (subst (λ t. Fails (refusal e) (read (bundle 64) t 0)) (same ∙ ended.text) fails) in
    rw memory
    (streams.feeds-unbuilt bundles longest (stream_of old) (stream_of new) piece part cut small is cuts k after held.begun ended)

-- ---- the end

pub ends-open : (stream : Stream) (pass : Pass) (e : Refused6) → IsOpen stream.kept → Comes 64 stream.kept pass (Some e)
    → (e.cause ≡ causes.Truncated) × (read (bundle 64) stream.kept 0 ≡ Err (e.at, truncated))
ends-open stream pass e (at, is) comes =
    let both = stopped_is {A = Bundle6 × ℕ} e.at at (why e.cause) truncated (sym (stopped-at stream.kept pass e comes) ∙ is) in
    (is-truncated e.cause both.1, stopped-at stream.kept pass e comes ∙ ap (stopped e.at) both.1)
  where
    is-truncated : (cause : Cause6) → why cause ≡ truncated → cause ≡ causes.Truncated
    is-truncated causes.Version is = absurd (cc)
    is-truncated causes.Number is = absurd (cc)
    is-truncated causes.Names is = absurd (cc)
    is-truncated causes.PrimaryEnd is = absurd (cc)
    is-truncated causes.SecondPayload is = absurd (cc)
    is-truncated causes.TooManyBlocks is = absurd (cc)
    is-truncated causes.NoPayload is = absurd (cc)
    is-truncated causes.BlockRefs is = absurd (cc)
    is-truncated causes.FragmentRange is = absurd (cc)
    is-truncated causes.Truncated is = refl
    is-truncated causes.TooLong is = absurd (cc)
