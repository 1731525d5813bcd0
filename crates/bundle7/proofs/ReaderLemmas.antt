-- Reading a stream: octets that are open, whole bundles at their front, and pieces.

use Rattle.std.proofs.Common.{◌≡◌, ◌≢◌, ℕ, ◌+◌, ◌^◌, ◌<◌, ◌≤◌, ltb, Bool, false, List, [], ◌++◌, length, take, Option, Some, None, Ok, Err, IsOk, refl, sym, ap, ◌∙◌, subst, inl, arith, append_assoc, length-append}
use Rattle.wire_fields.specs.Refusal.{truncated, because}
use Rattle.wire_fields.specs.Reading.{read, IsOctets}
use Rattle.wire_fields.specs.Gives.{Fails, Judges}
use Rattle.wire_fields.proofs.ResultLemmas.{found, stopped, stopped_is}
use Rattle.wire_fields.proofs.ReadLemmas.{read-refused}
use Rattle.wire_fields.proofs.StayLemmas.{refusal-within}
use Rattle.wire_fields.proofs.JudgeLemmas.{judges-found}
use Rattle.wire_fields.proofs.StreamLemmas as streams
use Rattle.wire_fields.proofs.StreamLemmas.{octets-nothing, take-front, text-more}
use Rattle.bundle7.specs.declared.fault.Cause7.{Cause7}
use Rattle.bundle7.specs.declared.fault.Cause7.TheVariants as causes
use Rattle.bundle7.specs.declared.fault.Refused7.{Refused7}
use Rattle.bundle7.specs.declared.fault.Fail7.{Fail7}
use Rattle.bundle7.specs.declared.fault.Fail7.TheVariants.{Refused, Memory}
use Rattle.bundle7.specs.declared.bundle.Bundle7.{Bundle7}
use Rattle.bundle7.specs.declared.pass.Pass.{Pass}
use Rattle.bundle7.specs.declared.pass.Stage.{Stage}
use Rattle.bundle7.specs.declared.pass.Stage.TheVariants as stages
use Rattle.bundle7.specs.declared.reader.Held.{Held}
use Rattle.bundle7.specs.Cause.{why, stop_of, refusal, refusal_at}
use Rattle.bundle7.specs.Table.{bundle}
use Rattle.bundle7.specs.Judging.{judged_bundle}
use Rattle.bundle7.specs.Passing.{left_of, IsSummed, Fits, Stands, Comes, IsFresh}
use Rattle.bundle7.specs.Streaming.{Stream, bundles, IsOpen, near, Feeds}
use Rattle.bundle7.specs.Holding.{stream_of, text_of, IsHeld, IsRefused, IsWhole, Gains, PassesOver}
use Rattle.bundle7.proofs.BlockLaws.{begins-legal}
use Rattle.bundle7.proofs.SumLemmas.{sums-longer}
use Rattle.bundle7.proofs.PassLemmas.{judges-ended, judges-stopped}

-- ---- nothing

pub open-nothing : IsOpen []
unfolding bundle
open-nothing = (0, refl)

-- ---- octets that follow

-- a pass over octets stands for longer ones
pub stands-longer : (most : ℕ) (text piece : List ℕ) (pass : Pass) → Stands most text pass → Stands most (text ++ piece) pass
stands-longer most text piece pass stands more =
    let joined : (text ++ piece) ++ more ≡ text ++ (piece ++ more) = append_assoc text piece more in
    ap (λ t. read (judged_bundle most) t 0) joined ∙ stands (piece ++ more)
    ∙ ap (λ t. read (left_of most pass) t pass.at) (sym joined)

summed-longer : (text piece : List ℕ) (at : ℕ) (stage : Stage) → IsSummed text at stage → IsSummed (text ++ piece) at stage
summed-longer text piece at stages.Primary is = tt
summed-longer text piece at stages.Block is = tt
summed-longer text piece at (stages.Body front sum) (sums, crc, low, high) = (sums-longer text piece sum sums, crc, low, high)
summed-longer text piece at (stages.Check lead sum) (sums, crc, spot) = (sums-longer text piece sum sums, crc, spot)
summed-longer text piece at stages.Break is = tt
summed-longer text piece at stages.Ended is = tt

pub fits-longer : (most : ℕ) (text piece : List ℕ) (pass : Pass) → Fits most text pass → Fits most (text ++ piece) pass
fits-longer most text piece pass fits = record {
  place = omega (arith, fits.place, length-append text piece);
  few = fits.few;
  each = fits.each;
  summed = summed-longer text piece pass.at pass.stage fits.summed;
}

-- ---- causes

pub is-because : (cause : Cause7) → cause ≢ causes.Truncated → why cause ≡ because cause
is-because causes.Start other = refl
is-because causes.Head other = refl
is-because causes.Version other = refl
is-because causes.Number other = refl
is-because causes.CrcType other = refl
is-because causes.ItemCount other = refl
is-because causes.Eid other = refl
is-because causes.Timestamp other = refl
is-because causes.Crc other = refl
is-because causes.BlockHead other = refl
is-because causes.TooManyBlocks other = refl
is-because causes.Repeated other = refl
is-because causes.BlockNumber other = refl
is-because causes.Body other = refl
is-because causes.FragmentRange other = refl
is-because causes.ExtensionBody other = refl
is-because causes.Break other = refl
is-because causes.Truncated other = absurd (other refl)
is-because causes.TooLong other = refl

-- ---- what a pass tells

stopped-at : (text : List ℕ) (pass : Pass) (e : Refused7) → Comes 64 text pass (Some e)
    → read (bundle 64) text 0 ≡ Err (stop_of e)
stopped-at text pass e comes = judges-stopped 64 text e comes

pub open-text : (text : List ℕ) (pass : Pass) (e : Refused7) → Comes 64 text pass (Some e) → e.cause ≡ causes.Truncated → IsOpen text
open-text text pass e comes is = (e.at, stopped-at text pass e comes ∙ ap (λ cause. stopped e.at (why cause)) is)

pub place-within : (text : List ℕ) (pass : Pass) (e : Refused7) → IsOctets text → Comes 64 text pass (Some e) → e.at ≤ length text
place-within text pass e fits comes =
    refusal-within (bundle 64) text e.at (why e.cause)
    (read-refused (bundle 64) text 0 e.at (why e.cause) fits (omega arith) (stopped-at text pass e comes))

pub settled-text : (text : List ℕ) (cut : Bool) (pass : Pass) (e : Refused7) → Comes 64 text pass (Some e)
    → e.cause ≢ causes.Truncated → IsRefused text cut e.at e.cause
settled-text text cut pass e comes other =
    inl (stopped-at text pass e comes ∙ ap (stopped e.at) (is-because e.cause other))

-- what was judged is built, but for want of memory
pub built : (text : List ℕ) (b : Bundle7) (k : ℕ) (e : Fail7) → IsWhole text b k
    → Fails (refusal e) (read (bundle 64) text 0) → e ≡ Memory
built text b k (Refused at cause) whole fails =
    let reads = streams.whole-reads bundles text b k whole in
    let no : found b k ≡ stopped at (why cause) = sym reads ∙ fails in absurd (cc)
built text b k Memory whole fails = refl

-- ---- whole bundles

pub judged-whole : (text : List ℕ) (end : ℕ) → IsOctets text → Judges stop_of (Ok end) (read (bundle 64) text 0)
    → (b : Bundle7) × IsWhole text b end
judged-whole text end fits judges =
    let (b, begins) = judges-found (bundle 64) stop_of text (Ok end) fits judges in
    (b, streams.begins-whole bundles text b end fits begins (begins-legal {E = Fail7} 64 text (found b end) fits begins))

-- a pass that has ended stands after a bundle
pub ended-whole : (text : List ℕ) (pass : Pass) → IsOctets text → Stands 64 text pass → Comes 64 text pass None
    → (b : Bundle7) × IsWhole text b pass.at
ended-whole text pass fits stands comes = judged-whole text pass.at fits (judges-ended 64 text pass stands comes)

-- an open bundle has not ended
pub not-ended : (text : List ℕ) (pass : Pass) → IsOpen text → Stands 64 text pass → Comes 64 text pass None → ⊥
not-ended text pass (at, is) stands comes =
    let no : Judges {A = Bundle7} stop_of (Ok pass.at) (stopped at truncated) = rw is at (judges-ended 64 text pass stands comes) in no

-- a piece after the beginning of a bundle ends it
pub ended-late : (old : Held) (piece : List ℕ) (k : ℕ) (new : Held) (b : Bundle7) → IsWhole (old.kept.items ++ piece) b k
    → IsOpen old.kept.items → (old.kept.items ≡ [] → ⊥) → new.kept.items ≡ old.kept.items ++ piece
    → new.before ≡ old.before → IsFresh new.pass → PassesOver old piece false (Ok (Some k)) new
ended-late old piece k new b whole begun some items before pass = (
  record {
    value = b;
    whole = whole;
    late = streams.after-open bundles old.kept.items piece b k begun whole;
    text = ap (λ t. text_of t piece) items ∙ text-more old.kept.items piece some;
    part = ap (λ t. take (length old.kept.items) t) items ∙ take-front old.kept.items piece;
    before = before;
  },
  pass,
)

-- nothing is kept, and a pass has yet to begin
pub held-nothing : (h : Held) → h.kept.items ≡ [] → IsFresh h.pass → h.before < 2 ^ 64 → IsHeld h
held-nothing h none fresh counted = record {
  fits = (fresh h.kept.items).0;
  stands = (fresh h.kept.items).1;
  begun = subst IsOpen (sym none) open-nothing;
  octets = subst IsOctets (sym none) octets-nothing;
  counted = omega (arith, counted, ap length none);
}

-- what was kept before is kept again, and a pass has yet to begin
pub held-again : (old new : Held) → IsHeld old → IsFresh new.pass → new.kept.items ≡ old.kept.items → new.before ≡ old.before
    → IsHeld new
held-again old new held fresh items before = record {
  fits = (fresh new.kept.items).0;
  stands = (fresh new.kept.items).1;
  begun = subst IsOpen (sym items) held.begun;
  octets = subst IsOctets (sym items) held.octets;
  counted = omega (arith, held.counted, before, ap length items);
}

-- what a pass tells of the octets kept and a piece
pub passed-late : (old : Held) (piece : List ℕ) (cut : Bool) (new : Held) (end : Option ℕ) → IsHeld old → (old.kept.items ≡ [] → ⊥)
    → old.before + length old.kept.items + length piece < 2 ^ 64 → new.kept.items ≡ old.kept.items ++ piece → new.before ≡ old.before
    → Gains (old.kept.items ++ piece) cut (Ok end) new.pass → PassesOver old piece cut (Ok end) new
passed-late old piece cut new (Some k) held some counted items before gains =
    ended-late old piece k new gains.0.0 gains.0.1 held.begun some items before gains.1
passed-late old piece cut new None held some counted items before waits =
    let begun : IsOpen new.kept.items = subst IsOpen (sym items) waits.begun in (
      record { last = waits.last; begun = begun; stream = rw (before, items) refl },
      record {
        fits = subst (λ t. Fits 64 t new.pass) (sym items) waits.fits;
        stands = subst (λ t. Stands 64 t new.pass) (sym items) waits.stands;
        begun = begun;
        octets = subst IsOctets (sym items) waits.octets;
        counted = omega (arith, counted, before, ap length items, length-append old.kept.items piece);
      },
    )

pub turned-late : (old : Held) (piece : List ℕ) (cut : Bool) (new : Held) (e after : Refused7) (fail : Fail7) → IsHeld old
    → new.kept.items ≡ old.kept.items → new.before ≡ old.before → Gains (old.kept.items ++ piece) cut (Err e) new.pass
    → after ≡ refusal_at (old.before + e.at) e.cause → fail ≡ Refused after.at after.cause → PassesOver old piece cut (Err fail) new
turned-late old piece cut new e after fail held items before gains is same =
    rw (same, is) (
      record { place = e.at; refused = gains.1; spot = refl; same = rw (before, items) refl },
      held-again old new held gains.2 items before,
    )

-- a text that was passed over, and has a bundle, reads as that
pub ended-right : (old new : Held) (part : List ℕ) (k : ℕ) (text : List ℕ) → PassesOver old part false (Ok (Some k)) new
    → text ≡ text_of new.kept.items part → IsOk (read (bundle 64) text 0)
ended-right old new part k text (ended, fresh) same =
    let reads : read (bundle 64) text 0 ≡ found ended.value k =
    ap (λ t. read (bundle 64) t 0) (same ∙ ended.text) ∙ streams.whole-reads bundles (old.kept.items ++ part) ended.value k ended.whole in
    rw reads refl

-- what was judged is not built only for want of memory
pub feeds-unbuilt : (longest : ℕ) (old new : Held) (piece part : List ℕ) (cut : Bool) (small : length old.kept.items ≤ longest)
    (is : part ≡ near longest (stream_of old) piece) (cuts : cut ≡ ltb (length part) (length piece))
    (k : ℕ) (e : Fail7) (text : List ℕ) (after : Stream) → IsHeld old → PassesOver old part cut (Ok (Some k)) new
    → text ≡ text_of new.kept.items part → Fails (refusal e) (read (bundle 64) text 0) → Feeds longest (stream_of old) piece (Err e) after
feeds-unbuilt longest old new piece part cut small is cuts k e text after held (ended, pass) same fails =
    let memory : e ≡ Memory =
    built (old.kept.items ++ part) ended.value k e ended.whole
    (subst (λ t. Fails (refusal e) (read (bundle 64) t 0)) (same ∙ ended.text) fails) in
    rw memory
    (streams.feeds-unbuilt bundles longest (stream_of old) (stream_of new) piece part cut small is cuts k after held.begun ended)

-- ---- the end

pub ends-open : (stream : Stream) (pass : Pass) (e : Refused7) → IsOpen stream.kept → Comes 64 stream.kept pass (Some e)
    → (e.cause ≡ causes.Truncated) × (read (bundle 64) stream.kept 0 ≡ Err (e.at, truncated))
ends-open stream pass e (at, is) comes =
    let both = stopped_is {A = Bundle7 × ℕ} e.at at (why e.cause) truncated (sym (stopped-at stream.kept pass e comes) ∙ is) in
    (is-truncated e.cause both.1, stopped-at stream.kept pass e comes ∙ ap (stopped e.at) both.1)
  where
    is-truncated : (cause : Cause7) → why cause ≡ truncated → cause ≡ causes.Truncated
    is-truncated causes.Start is = absurd (cc)
    is-truncated causes.Head is = absurd (cc)
    is-truncated causes.Version is = absurd (cc)
    is-truncated causes.Number is = absurd (cc)
    is-truncated causes.CrcType is = absurd (cc)
    is-truncated causes.ItemCount is = absurd (cc)
    is-truncated causes.Eid is = absurd (cc)
    is-truncated causes.Timestamp is = absurd (cc)
    is-truncated causes.Crc is = absurd (cc)
    is-truncated causes.BlockHead is = absurd (cc)
    is-truncated causes.TooManyBlocks is = absurd (cc)
    is-truncated causes.Repeated is = absurd (cc)
    is-truncated causes.BlockNumber is = absurd (cc)
    is-truncated causes.Body is = absurd (cc)
    is-truncated causes.FragmentRange is = absurd (cc)
    is-truncated causes.ExtensionBody is = absurd (cc)
    is-truncated causes.Break is = absurd (cc)
    is-truncated causes.Truncated is = refl
    is-truncated causes.TooLong is = absurd (cc)
