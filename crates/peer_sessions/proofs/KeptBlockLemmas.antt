-- The blocks of a face, through its steps.

use Rattle.std.proofs.Common.{◌≡◌, ℕ, ◌+◌, ◌*◌, ◌<◌, ◌≤◌, ◌^◌, Bool, true, false, nat_lt, nat_le, ◌==◌, ◌&&◌, if◌then◌else◌, List, [], ◌∷◌, ◌++◌, length, map, Option, None, Some, is_some, refl, sym, ◌∙◌, ap, subst, arith}
use Rattle.std.specs.List.{AllByRecursion}
use Rattle.std.proofs.lemmas.List.{take_all}
use Rattle.std.proofs.lemmas.List.Sums.{sum_by-cons}
use Rattle.std.proofs.lemmas.Bool.Decides.{nat_tests}
use Rattle.ltp_segment.specs.Policy.{PolicyValue}
use Rattle.ltp_segment.specs.PolicyViews.{policy_value}
use Rattle.ltp_segment.specs.Values.{SegmentValue, PieceValue}
use Rattle.ltp_segment.specs.declared.session.TheConstants.{BLOCK_MAX}
use Rattle.ltp_session.specs.Step.{Change, stays, keeps, ends, StepValue}
use Rattle.ltp_session.specs.Sender.{Sending, segments_from, last_segment, red_segments, opened, begin, sender_tick, sender_answers}
use Rattle.ltp_session.specs.Receiver.{Receiving}
use Rattle.ltp_session.specs.Table.{find, settled, ticked, AreAscending}
use Rattle.ltp_session.specs.Engine.{Engine, Reply, EngineStep, is_used, with_receiver, without_evicted, evicted_by, to_sender, to_receiver, receiver_replies, sender_replies, replied_or_stranger, arrives, datagram_step, tick_step}
use Rattle.ltp_laws.proofs.TableLemmas.{ascending-ticked, ascending-settled}
use Rattle.face_room.specs.Faces.{total}
use Rattle.ltp_engine.specs.Values.{EngineValue, InboundValue}
use Rattle.ltp_engine.specs.Bounds.{IsBounded, SendsAtMost}
use Rattle.ltp_engine.specs.Shows.{Shows}
use Rattle.peer_sessions.specs.declared.keys.Keys.{Keys}
use Rattle.peer_sessions.specs.declared.blocks.Block.{Block}
use Rattle.peer_sessions.specs.declared.blocks.Event.TheVariants as events
use Rattle.peer_sessions.specs.Keys.{FaceKeys}
use Rattle.peer_sessions.specs.Sessions.{block_begins, blocks_in}
use Rattle.peer_sessions.specs.Hearing.{engine_hears}
use Rattle.peer_sessions.specs.Views.{face_keys, engine_of}
use Rattle.peer_sessions.specs.Blocks.{block_of, blocks_after, blocks_if, over_of, AreBlocks}
use Rattle.peer_sessions.proofs.BlockLemmas.{HeardBlocks, heard-same, heard-changed, ticked-blocks, ticked-below, put-last}

-- ---- what is received doesn't count

pub blocks-with : (v last : EngineValue) (i : InboundValue) (old new : List Block) → last ≡ record v { inbound = i } → new ≡ old → AreBlocks v old → AreBlocks last new
blocks-with v last i old new is same all = subst (λ (w : EngineValue). AreBlocks w new) (sym is) (record {
  are = same ∙ all.are;
  ascending = all.ascending;
  below = all.below;
})

-- ---- a segment comes

record EngineBlocks (k : FaceKeys) (e : Engine) (segment : SegmentValue) (now : ℕ) (step : EngineStep) : Type 0 where
  heard : HeardBlocks (k.party).policy now e.next segment.session e.senders step.engine.senders (segment.originator == (k.party).own)
  next : step.engine.next ≡ e.next

received-same : (e : Engine) (n : ℕ) (gone : Option ℕ) (next : Change Receiving) → ((with_receiver (without_evicted e gone) n next).senders ≡ e.senders) × ((with_receiver (without_evicted e gone) n next).next ≡ e.next)
unfolding with_receiver
received-same e n None stays = (refl, refl)
received-same e n None (keeps r) = (refl, refl)
received-same e n None ends = (refl, refl)
received-same e n (Some g) stays = (refl, refl)
received-same e n (Some g) (keeps r) = (refl, refl)
received-same e n (Some g) ends = (refl, refl)

engine-blocks : (k : FaceKeys) (e : Engine) (segment : SegmentValue) (now : ℕ) → AreAscending 0 e.senders → AllByRecursion (λ (x : ℕ × Sending). x.0 < e.next) e.senders
    → EngineBlocks k e segment now (engine_hears k e segment now)
unfolding datagram_step arrives
engine-blocks k e segment now up below = by (segment.originator == (k.party).own) refl (segment.originator == (k.party).peer) where
  step : Option Reply → EngineStep
  step reply = replied_or_stranger e (record { originator = segment.originator; number = segment.session }) reply

  stranger : EngineBlocks k e segment now (step None)
  stranger = record { heard = heard-same (k.party).policy now e.next segment.session e.senders e.senders (segment.originator == (k.party).own) refl up below; next = refl }

  own : (segment.originator == (k.party).own) ≡ true → (used : Bool) → is_used k.party e segment.session ≡ used → (answer : Option (StepValue Sending))
      → sender_answers (k.party).policy (find segment.session e.senders) segment.content now ≡ answer
      → EngineBlocks k e segment now (step (if used then sender_replies e segment.session answer else None))
  own mine false is answer told = stranger
  own mine true is None told = stranger
  own mine true is (Some told) answers = record {
    heard = subst (λ (b : Bool). HeardBlocks (k.party).policy now e.next segment.session e.senders (settled segment.session told.next e.senders) b) (sym mine)
        (heard-changed (k.party).policy now e.next segment.session e.senders segment.content told (find segment.session e.senders) refl answers (less (nat_le (k.party).first segment.session) segment.session e.next is) up below);
    next = refl;
  } where
    less : (a : Bool) (n next : ℕ) → (a && nat_lt n next) ≡ true → n < next
    less true n next is = grind (arith, nat_tests)
    less false n next is = absurd (cc)

  peer : (answer : Option (StepValue Receiving)) → EngineBlocks k e segment now (step (receiver_replies k.party e segment.session answer))
  peer None = stranger
  peer (Some told) = record {
    heard = heard-same (k.party).policy now e.next segment.session e.senders _ (segment.originator == (k.party).own)
        ((received-same e segment.session (evicted_by k.party e (find segment.session e.receivers) told.next) told.next).0) up below;
    next = (received-same e segment.session (evicted_by k.party e (find segment.session e.receivers) told.next) told.next).1;
  }

  by : (is_own : Bool) → (segment.originator == (k.party).own) ≡ is_own → (is_peer : Bool)
      → EngineBlocks k e segment now (step (if is_own then (if is_used k.party e segment.session then to_sender k.party e segment now else None) else if is_peer then to_receiver k.party e segment now else None))
  by true mine is_peer = own mine (is_used k.party e segment.session) refl _ refl
  by false mine true = peer _
  by false mine false = stranger

pub hear-blocks : (k : Keys) (v later : EngineValue) (segment : SegmentValue) (now : ℕ) (old new : List Block) (own : Bool) (over : Option ℕ) → Shows later (engine_hears (face_keys k) (engine_of v) segment now).engine → AreBlocks v old
    → own ≡ (segment.originator == k.own) → over ≡ over_of (nat_lt (length later.senders) (length v.senders)) segment.session
    → new ≡ blocks_if own (events.Heard over) (policy_value k.policy) now later.senders old → AreBlocks later new
hear-blocks k v later segment now old new own over shows all mine is_over follows = record {
  are = follows ∙ (rw (mine, is_over, all.are) (sym-blocks done.heard.blocks));
  ascending = subst (λ (es : List (ℕ × Sending)). AreAscending 0 es) shows.senders (done.heard).ascending;
  below = subst (λ (es : List (ℕ × Sending)). AllByRecursion (λ (x : ℕ × Sending). x.0 < later.next) es) shows.senders
      (subst (λ (n : ℕ). AllByRecursion (λ (x : ℕ × Sending). x.0 < n) (engine_hears (face_keys k) (engine_of v) segment now).engine.senders) (sym done.next ∙ shows.next) (done.heard).below);
} where
  done : EngineBlocks (face_keys k) (engine_of v) segment now (engine_hears (face_keys k) (engine_of v) segment now)
  done = engine-blocks (face_keys k) (engine_of v) segment now all.ascending all.below

  sym-blocks : blocks_if (segment.originator == k.own) (events.Heard (over_of (nat_lt (length (engine_hears (face_keys k) (engine_of v) segment now).engine.senders) (length v.senders)) segment.session)) (policy_value k.policy) now
      (engine_hears (face_keys k) (engine_of v) segment now).engine.senders (map block_of v.senders) ≡ map block_of (engine_hears (face_keys k) (engine_of v) segment now).engine.senders
      → blocks_if (segment.originator == k.own) (events.Heard (over_of (nat_lt (length later.senders) (length v.senders)) segment.session)) (policy_value k.policy) now later.senders (map block_of v.senders) ≡ map block_of later.senders
  sym-blocks is = subst (λ (es : List (ℕ × Sending)). blocks_if (segment.originator == k.own) (events.Heard (over_of (nat_lt (length es) (length v.senders)) segment.session)) (policy_value k.policy) now es (map block_of v.senders) ≡ map block_of es) shows.senders is

-- ---- all sessions tick

pub tick-blocks : (k : Keys) (v later : EngineValue) (now : ℕ) (old new : List Block) → Shows later (tick_step (face_keys k).party (engine_of v) now).engine → AreBlocks v old
    → new ≡ blocks_after events.Ticked (policy_value k.policy) now later.senders old → AreBlocks later new
unfolding tick_step
tick-blocks k v later now old new shows all follows = record {
  are = follows ∙ (rw all.are (subst (λ (es : List (ℕ × Sending)). blocks_after events.Ticked (policy_value k.policy) now es (map block_of v.senders) ≡ map block_of es) shows.senders (ticked-blocks (policy_value k.policy) now v.senders all.ascending)));
  ascending = subst (λ (es : List (ℕ × Sending)). AreAscending 0 es) shows.senders (ascending-ticked (λ (s : Sending). (sender_tick (policy_value k.policy) s now).next) 0 v.senders all.ascending);
  below = subst (λ (es : List (ℕ × Sending)). AllByRecursion (λ (x : ℕ × Sending). x.0 < later.next) es) shows.senders
      (subst (λ (n : ℕ). AllByRecursion (λ (x : ℕ × Sending). x.0 < n) (ticked (λ (s : Sending). (sender_tick (policy_value k.policy) s now).next) v.senders)) shows.next (ticked-below (policy_value k.policy) now v.next v.senders all.below));
}

-- ---- a block begins

last-some : (x : ℕ × List ℕ) (xs : List (ℕ × List ℕ)) → is_some (last_segment (x ∷ xs)) ≡ true
unfolding last_segment
last-some x [] = refl
last-some x (y ∷ ys) = last-some y ys

segments-some : (size at : ℕ) (octets : List ℕ) → 0 < length octets → is_some (last_segment (segments_from size (length octets) at octets)) ≡ true
unfolding segments_from
segments-some size at [] some = absurd (omega (arith, some))
segments-some size at (o ∷ octets) some = last-some _ _

opened-some : (policy : PolicyValue) (block : List ℕ) → 0 < length block → is_some (last_segment (red_segments policy block (length block))) ≡ true
opened-some policy block some = subst (λ (b : List ℕ). is_some (last_segment (segments_from policy.segment (length b) 0 b)) ≡ true) (sym (take_all (length block) block (omega arith))) (segments-some policy.segment 0 block some)

map-last : (es : List (ℕ × Sending)) (x : ℕ × Sending) → map block_of (es ++ x ∷ []) ≡ map block_of es ++ block_of x ∷ []
map-last [] x = refl
map-last (e ∷ es) x = ap (λ bs. block_of e ∷ bs) (map-last es x)

below-more : (n : ℕ) (es : List (ℕ × Sending)) → AllByRecursion (λ (x : ℕ × Sending). x.0 < n) es → AllByRecursion (λ (x : ℕ × Sending). x.0 < n + 1) es
below-more n [] all = tt
below-more n (e ∷ es) all = (omega (arith, all.0), below-more n es all.1)

below-last : (n : ℕ) (s : Sending) (es : List (ℕ × Sending)) → AllByRecursion (λ (x : ℕ × Sending). x.0 < n) es → AllByRecursion (λ (x : ℕ × Sending). x.0 < n + 1) (es ++ (n, s) ∷ [])
below-last n s [] all = (omega arith, tt)
below-last n s (e ∷ es) all = (omega (arith, all.0), below-last n s es all.1)

-- the sending sessions, where one begins
record BegunLast (n size : ℕ) (before after_it : List (ℕ × Sending)) : Type 0 where
  blocks : map block_of after_it ≡ map block_of before ++ record { session = n; octets = size; cancel = None } ∷ []
  ascending : AreAscending 0 after_it
  below : AllByRecursion (λ (x : ℕ × Sending). x.0 < n + 1) after_it

begun-last : (policy : PolicyValue) (n : ℕ) (block : List ℕ) (now : ℕ) (es : List (ℕ × Sending)) (checkpoint : ℕ × List ℕ → PieceValue) (segment : Option (ℕ × List ℕ)) → is_some segment ≡ true
    → AreAscending 0 es → AllByRecursion (λ (x : ℕ × Sending). x.0 < n) es → BegunLast n (length block) es (settled n (opened policy block (length block) now checkpoint segment) es)
begun-last policy n block now es checkpoint None some up below = absurd (cc)
begun-last policy n block now es checkpoint (Some segment) some up below = record {
  blocks = ap (λ (xs : List (ℕ × Sending)). map block_of xs) (put-last n _ es below) ∙ map-last es (n, _);
  ascending = ascending-settled n 0 (opened policy block (length block) now checkpoint (Some segment)) es (omega arith) up;
  below = subst (λ (xs : List (ℕ × Sending)). AllByRecursion (λ (x : ℕ × Sending). x.0 < n + 1) xs) (sym (put-last n _ es below)) (below-last n _ es below);
}

pub begun-blocks : (k : Keys) (v later : EngineValue) (block : List ℕ) (now : ℕ) (old new : List Block) (n size : ℕ) → 0 < length block → Shows later (block_begins (face_keys k) (engine_of v) block now).engine → AreBlocks v old
    → n ≡ v.next → size ≡ length block → new ≡ old ++ record { session = n; octets = size; cancel = None } ∷ [] → AreBlocks later new
unfolding begin
begun-blocks k v later block now old new n size some shows all is_next is_size added = record {
  are = added ∙ (rw (all.are, is_next, is_size) (sym last.blocks ∙ ap (λ (es : List (ℕ × Sending)). map block_of es) shows.senders));
  ascending = subst (λ (es : List (ℕ × Sending)). AreAscending 0 es) shows.senders last.ascending;
  below = subst (λ (es : List (ℕ × Sending)). AllByRecursion (λ (x : ℕ × Sending). x.0 < later.next) es) shows.senders
      (subst (λ (m : ℕ). AllByRecursion (λ (x : ℕ × Sending). x.0 < m) (block_begins (face_keys k) (engine_of v) block now).engine.senders) shows.next last.below);
} where
  last : BegunLast v.next (length block) v.senders (block_begins (face_keys k) (engine_of v) block now).engine.senders
  last = begun-last (policy_value k.policy) v.next block now v.senders _ (last_segment (red_segments (policy_value k.policy) block (length block))) (opened-some (policy_value k.policy) block some) all.ascending all.below

-- ---- how many octets they have

total-cons : (n : ℕ) (ns : List ℕ) → total (n ∷ ns) ≡ n + total ns
total-cons n ns = sum_by-cons (λ (m : ℕ). m) n ns

octets-few : (most : ℕ) (es : List (ℕ × Sending)) → AllByRecursion (SendsAtMost most) es → total (blocks_in es) ≤ most * length es
octets-few most [] all = omega arith
octets-few most (e ∷ es) all =
    let sum = total-cons (length e.1.block) (blocks_in es) in
    let rest = octets-few most es all.1 in
    let more : most * length (e ∷ es) ≡ most + most * length es = grind (arith) in
    omega (arith, sum, rest, more, all.0)

pub octets-same : (es : List (ℕ × Sending)) (blocks : List Block) → blocks ≡ map block_of es → total (map (λ (b : Block). b.octets) blocks) ≡ total (blocks_in es)
octets-same es blocks are = ap total (ap (λ (bs : List Block). map (λ (b : Block). b.octets) bs) are ∙ by es) where
  by : (es : List (ℕ × Sending)) → map (λ (b : Block). b.octets) (map block_of es) ≡ blocks_in es
  by [] = refl
  by (e ∷ es) = ap (λ ns. length e.1.block ∷ ns) (by es)

-- a 64-bit number counts them
pub octets-fit : (v : EngineValue) (sessions : ℕ) → IsBounded v → v.party.sessions ≡ sessions → sessions < 2 ^ 32 → total (blocks_in v.senders) < 2 ^ 64
octets-fit v sessions bounded is few =
    let all = octets-few BLOCK_MAX v.senders bounded.sent in
    let most = bounded.senders in
    omega (arith, all, most, is, few)
