-- What a face of the code did is what the definition's does.

use Rattle.std.proofs.Common.{◌≡◌, ℕ, ◌-◌, ◌<◌, ◌≤◌, ◌^◌, min, Bool, true, false, nat_lt, List, [], ◌∷◌, ◌++◌, map, length, take, Result, Ok, Err, OnOk, All, refl, sym, ap, subst, ◌∙◌, arith, append_assoc}
use Rattle.std.specs.List.{flat_map}
use Rattle.std.proofs.lemmas.List.{map-append, append-nil, length-take-le}
use Rattle.std.proofs.lemmas.List.Elements.{All-nil, All-push, All-drop, All-take}
use Rattle.ltp_segment.specs.Spelling.{segment_octets}
use Rattle.ltp_session.specs.Engine.{EngineStep}
use Rattle.ltp_engine.specs.declared.effects.Effects.{Effects}
use Rattle.ltp_engine.specs.declared.effects.Up.{Up}
use Rattle.piece_gathering.specs.declared.piece.Piece.{Piece}
use Rattle.piece_gathering.specs.Gathered.{GatheringValue, ready, nothing_waits, added_to, going, gone_from}
use Rattle.piece_gathering.specs.Fronts.{AreWithin}
use Rattle.face_room.specs.declared.bounds.Bounds.{Bounds}
use Rattle.face_room.specs.declared.bounds.TheConstants.{BLOCK_MAX}
use Rattle.face_room.specs.Bounds.{AreBounds}
use Rattle.face_room.specs.Queues.{may_wait, puts, queued_after}
use Rattle.face_room.specs.Loads.{with_sizes}
use Rattle.face_room.proofs.QueueLemmas.{puts-same, queued-same, may-saturated}
use Rattle.gate_cases.specs.declared.face.Face.{Face}
use Rattle.gateway_core.specs.Effects.{datagram_at}
use Rattle.peer_cases.specs.declared.settings.PeerSettings.{PeerSettings}
use Rattle.peer_sessions.specs.Keys.{FaceKeys}
use Rattle.peer_sessions.specs.declared.sessions.Told.{Told as Said}
use Rattle.peer_sessions.specs.declared.keys.Keys.{Keys}
use Rattle.peer_sessions.specs.Views.{PeerSessionsValue, face_keys}
use Rattle.peer_sessions.specs.Sessions.{SessionsStep, starts_sessions, evictions, block_begins, with_begun}
use Rattle.peer_sessions.specs.Ties.{Does, Begins}
use Rattle.peer_gateway.specs.declared.faces.FaceParts.{FaceParts}
use Rattle.peer_gateway.specs.declared.moments.FaceMoments.{FaceMoments}
use Rattle.peer_gateway.specs.declared.waits.Waits.{Waits}
use Rattle.peer_gateway.specs.Keys.{AreKeys}
use Rattle.peer_gateway.specs.Gate.{PeerFace, FaceTold, kept_inside, may_queue, puts_out, with_queued, sizes_out, starts_face, starts_out, starts_puts, told_engine, told_green}
use Rattle.peer_gateway.specs.Going.{going_octets, with_block, is_free, gathers, told_if}
use Rattle.peer_gateway.specs.Steps.{told_of, told_at, forgotten_told}
use Rattle.peer_gateway.specs.Laws.{IsSizedAt}
use Rattle.peer_gateway.specs.declared.queue.Queue.{Queue}
use Rattle.peer_gateway.specs.Queue.{sizes_in, may_of, puts_by, queue_after}
use Rattle.peer_gateway.specs.Answers.{Answered, with_out, with_told, with_added, with_begun as and_begun}
use Rattle.peer_gateway.specs.Views.{cancels_of}
use Rattle.peer_gateway.specs.Waits.{no_waits, waits_of, waits_with, waits_after}
use Rattle.peer_gateway.specs.Faces.{FaceSetup, keys_at, face_of, setup_at, IsSized, IsFace, face_does, face_waits, block_at, face_goes, FaceDid, FaceHeard, told_in, puts_in, queued_in, Puts, then_said, Tells, Took, sends_block, Sent, IsEmpty, Starts}
use Rattle.peer_gateway.proofs.AnswerLemmas.{out-at, sizes-out}
use Rattle.peer_gateway.proofs.BlockLemmas.{octets-few, octets-some, going-few}
use Rattle.peer_gateway.proofs.GoingLemmas.{ready-few}
use Rattle.peer_gateway.proofs.WaitLemmas.{waits-push, waits-gone, needs_of}

-- ---- a piece waits too

abbrev pub with_waiting : FaceParts → GatheringValue → Waits → FaceParts
with_waiting f gathering waits = record f { gathering = gathering; waits = waits }

pub waits-too : (f : FaceParts) (piece : Piece) (waits : Waits) → IsFace f → IsSized f.settings f.face piece
    → waits ≡ waits_with f.bounds f.waits piece.size → IsFace (with_waiting f (added_to f.gathering piece) waits)
waits-too f piece waits face sized is = record {
  whole = face.whole;
  keys = face.keys;
  bounds = face.bounds;
  are = face.are;
  wanted = face.wanted;
  waits = is ∙ (ap (λ w. waits_with f.bounds w piece.size) face.waits ∙ sym (waits-push f.bounds (f.gathering).waiting piece));
  sized = All-push (IsSized f.settings f.face) (f.gathering).waiting piece face.sized sized;
}

pub waited : {A E : Type 0} (f : FaceParts) (piece : Piece) (octets : List ℕ) (is_report : Bool) (gathering : GatheringValue) (waits : Waits)
    (before after : Answered) (result : Result A E) → IsFace f → IsSized f.settings f.face piece → gathering ≡ added_to f.gathering piece
    → waits ≡ waits_with f.bounds f.waits piece.size → octets ≡ piece.octets
    → OnOk result (after ≡ with_added before (record { face = f.face; piece = record piece { octets = octets }; is_report = is_report } ∷ []))
    → OnOk result (FaceDid f (with_waiting f gathering waits) before after (face_waits f.face piece is_report (face_of f)))
waited f piece octets is_report gathering waits before after (Err e) face sized added is same told = tt
waited f piece octets is_report gathering waits before after (Ok x) face sized added is same told = record {
  whole = subst (λ (g : GatheringValue). IsFace (with_waiting f g waits)) (sym added) (waits-too f piece waits face sized is);
  setup = refl;
  is = ap (λ (g : GatheringValue). record (face_of f) { gathering = g }) added;
  answer = told ∙ rw (same, append-nil before.out, append-nil before.puts, append-nil before.told, append-nil before.begun) refl;
}

-- ---- pieces are taken

-- each of them fits into a block
pub are-within : (f : FaceParts) → IsFace f → AreWithin (f.gathering).waiting
are-within f face = λ n d inside. (face.sized n d inside 0 (omega arith)).within

pub takes : (f : FaceParts) (until : ℕ) (waits : Waits) → IsFace f → 0 < ready f.gathering until
    → waits ≡ waits_after f.waits (needs_of f.bounds (going f.gathering until)) (nat_lt 0 (length (gone_from f.gathering until).waiting))
    → IsFace (with_waiting f (gone_from f.gathering until) waits)
takes f until waits face some is =
    let gone = waits-gone f.bounds f.gathering until face.wanted some in record {
      whole = face.whole;
      keys = face.keys;
      bounds = face.bounds;
      are = face.are;
      wanted = face.wanted;
      waits = is
          ∙ (ap (λ (w : Waits). waits_after w (needs_of f.bounds (going f.gathering until)) (nat_lt 0 (length (gone_from f.gathering until).waiting))) face.waits
          ∙ sym gone.rest);
      sized = All-drop (IsSized f.settings f.face) (ready f.gathering until) (f.gathering).waiting face.sized;
    }

pub going-within : (f : FaceParts) (until : ℕ) (pieces : List Piece) → IsFace f → pieces ≡ going f.gathering until → AreWithin pieces
going-within f until pieces face is =
    subst AreWithin (sym is) (All-take (λ (piece : Piece). piece.size ≤ BLOCK_MAX) (ready f.gathering until) (f.gathering).waiting (are-within f face))

-- what the pieces need that go, of what is known
pub record Known (f : FaceParts) (needs : ℕ) : Type 0 where
  pub few : needs ≤ f.waits.needs
  pub some : 1 ≤ f.waits.waiting.blocks

pub going-known : (f : FaceParts) (until needs : ℕ) (pieces : List Piece) → IsFace f → 0 < ready f.gathering until → pieces ≡ going f.gathering until
    → needs ≡ needs_of f.bounds pieces → Known f needs
going-known f until needs pieces face some is count =
    let gone = waits-gone f.bounds f.gathering until face.wanted some in
    let same = ap (needs_of f.bounds) is in
    record {
      few = omega (arith, gone.few, count, same, ap (λ (w : Waits). w.needs) face.waits);
      some = omega (arith, gone.some, ap (λ (w : Waits). w.waiting.blocks) face.waits);
    }

pub took : (f : FaceParts) (until needs : ℕ) (pieces : List Piece) (gathering : GatheringValue) (waits : Waits) (waits_on : Bool) → IsFace f
    → 0 < ready f.gathering until → pieces ≡ going f.gathering until → gathering ≡ gone_from f.gathering until → needs ≡ needs_of f.bounds pieces
    → waits_on ≡ nat_lt 0 (length gathering.waiting) → waits ≡ waits_after f.waits needs waits_on → Took f (with_waiting f gathering waits) until pieces
took f until needs pieces gathering waits waits_on face some is left count on so =
    let same : waits ≡ waits_after f.waits (needs_of f.bounds (going f.gathering until)) (nat_lt 0 (length (gone_from f.gathering until).waiting)) =
    so ∙ rw (on, count, is, left) refl in
    record {
      whole = subst (λ (g : GatheringValue). IsFace (with_waiting f g waits)) (sym left) (takes f until waits face some same);
      setup = refl;
      is = ap (λ (g : GatheringValue). record (face_of f) { gathering = g }) left;
      pieces_are = is;
    }

-- ---- datagrams were made

-- so many octets are queued, and sessions with the same keys are whole
pub is-face : (f : FaceParts) (sessions : PeerSessionsValue) (queued : ℕ) → IsFace f → sessions.spent ≡ false → sessions.keys ≡ keys_at f
    → IsFace (record f { sessions = sessions; queued = queued })
is-face f sessions queued face whole keys = record {
  whole = whole;
  keys = subst AreKeys (sym keys) face.keys;
  bounds = face.bounds ∙ ap (λ k. k.bounds) (sym keys);
  are = face.are;
  wanted = face.wanted;
  waits = face.waits;
  sized = face.sized;
}

-- the same may wait by what the code keeps
may-same : (f : FaceParts) (q : Queue) (n : ℕ) → IsFace f → q.bounds ≡ f.bounds → q.kept ≡ min (kept_inside (keys_at f) (face_of f)) (2 ^ 64 - 1)
    → may_of q n ≡ may_queue (keys_at f) (face_of f) n
may-same f q n face bounds kept =
    ap (λ (b : Bounds). may_wait b q.kept n) (bounds ∙ face.bounds)
    ∙ (ap (λ (k : ℕ). may_wait (keys_at f).bounds k n) kept
    ∙ may-saturated (keys_at f).bounds (kept_inside (keys_at f) (face_of f)) n (subst AreBounds face.bounds face.are))

pub put-so : (f : FaceParts) (q after_queue : Queue) (before after : Answered) (out : List (List ℕ)) → IsFace f
    → q.bounds ≡ f.bounds → q.kept ≡ min (kept_inside (keys_at f) (face_of f)) (2 ^ 64 - 1) → q.queued ≡ f.queued
    → after_queue ≡ queue_after q out → after ≡ with_out before (map (datagram_at f.face) out) (puts_by q out)
    → Puts f (record f { queued = after_queue.queued }) before after out
put-so f q after_queue before after out face bounds kept queued is answer =
    let same : (n : ℕ) → may_of q n ≡ may_queue (keys_at f) (face_of f) n = λ n. may-same f q n face bounds kept in
    let sizes = sizes_in out in record {
      whole = is-face f f.sessions after_queue.queued face face.whole refl;
      new_is = ap (λ (n : ℕ). record f { queued = n })
          (ap (λ (x : Queue). x.queued) is
          ∙ (queued-same (may_of q) (may_queue (keys_at f) (face_of f)) q.queued sizes same
          ∙ ap (λ (n : ℕ). queued_after (may_queue (keys_at f) (face_of f)) n sizes) queued));
      answer = answer
          ∙ ap (with_out before (map (datagram_at f.face) out))
          (puts-same (may_of q) (may_queue (keys_at f) (face_of f)) q.queued sizes same
          ∙ ap (λ (n : ℕ). puts (may_queue (keys_at f) (face_of f)) n sizes) queued);
    }

-- ---- sessions did something

-- what was told of it is what the definition tells
said-told : (said : Said) (old new : PeerSessionsValue) (step : SessionsStep) → Does old new step said → told_in said ≡ told_of step
said-told said old new step does = rw (does.gone, does.forgotten, does.effects) refl

pub heard : (f mid new : FaceParts) (before after : Answered) (step : SessionsStep) (said : Said) (ups : List Up)
    → mid ≡ record f { sessions = mid.sessions } → Does f.sessions mid.sessions step said → Tells mid new before after said ups
    → FaceDid f new before after (face_does (keys_at f) f.face (face_of f) step)
heard f mid new before after step said ups same does tells = record {
  whole = tells.whole;
  setup = tells.setup ∙ (ap setup_at same ∙ ap (λ k. record { face = f.face; settings = f.settings; keys = k }) does.keys);
  is = tells.is ∙ (ap (λ (m : FaceParts). record (face_of m) { queued = queued_in m (said.effects).out }) same
      ∙ rw (does.sessions, does.keys, does.effects, sizes-out (step.effects).out) refl);
  answer = tells.answer ∙ (ap (λ (m : FaceParts). then_said before m said) same
      ∙ rw (said-told said f.sessions mid.sessions step does, does.sessions, does.keys, does.effects, out-at f.face (step.effects).out, sizes-out (step.effects).out, append-nil before.added, append-nil before.begun) refl);
}

-- its sessions did a step, and nothing was told of it yet
pub stepped-face : (f : FaceParts) (sessions : PeerSessionsValue) (step : SessionsStep) (said : Said) → IsFace f → Does f.sessions sessions step said
    → IsFace (record f { sessions = sessions })
stepped-face f sessions step said face does = is-face f sessions f.queued face does.whole does.keys

pub heard-all : (f mid new : FaceParts) (before after : Answered) (step : SessionsStep) (said : Said) (ups : List Up) (many fewer : ℕ)
    → mid ≡ record f { sessions = mid.sessions } → Does f.sessions mid.sessions step said → Tells mid new before after said ups
    → many ≡ length (((face_of f).sessions).engine).senders → fewer ≡ length (((face_of new).sessions).engine).senders
    → FaceHeard f new before after step (record { ups = ups; has_ended = nat_lt fewer many })
heard-all f mid new before after step said ups many fewer same does tells first last =
    let did = heard f mid new before after step said ups same does tells in
    let left : fewer ≡ length ((step.sessions).engine).senders = last ∙ ap (λ (p : PeerFace). length ((p.sessions).engine).senders) did.is in
    record {
      did = did;
      ups = tells.ups_are ∙ ap (λ (e : Effects). e.ups) does.effects;
      ended = rw (first, left) refl;
    }

pub tells : (f new : FaceParts) (before a b c d e : Answered) (said : Said) (numbers : List ℕ) → Puts f new before a (said.effects).out
    → numbers ≡ (said.gone).items → b ≡ with_told a (map (told_at new.face) (map told_engine (evictions numbers)))
    → c ≡ with_told b (map (told_at new.face) (forgotten_told said.forgotten))
    → d ≡ with_told c (map (told_at new.face) (map told_engine (said.effects).notes))
    → e ≡ with_told d (map (told_at new.face) (map told_green (said.effects).greens))
    → Tells f new before e said (said.effects).ups
tells f new before a b c d e said numbers put are gone forgotten notes greens =
    let there : new.face ≡ f.face = ap (λ (x : FaceParts). x.face) put.new_is in
    let one : List FaceTold = map (told_at f.face) (map told_engine (evictions (said.gone).items)) in
    let two : List FaceTold = map (told_at f.face) (forgotten_told said.forgotten) in
    let three : List FaceTold = map (told_at f.face) (map told_engine (said.effects).notes) in
    let four : List FaceTold = map (told_at f.face) (map told_green (said.effects).greens) in
    let all : ((before.told ++ one) ++ two) ++ three ++ four ≡ before.told ++ map (told_at f.face) (told_in said) =
    append_assoc ((before.told ++ one) ++ two) three four
    ∙ (append_assoc (before.told ++ one) two (three ++ four)
    ∙ (append_assoc before.told one (two ++ (three ++ four))
    ∙ ap (λ (told : List FaceTold). before.told ++ told) (sym (
    map-append (told_at f.face) (map told_engine (evictions (said.gone).items)) _
    ∙ ap (λ (told : List FaceTold). one ++ told) (
    map-append (told_at f.face) (forgotten_told said.forgotten) _
    ∙ ap (λ (told : List FaceTold). two ++ told)
    (map-append (told_at f.face) (map told_engine (said.effects).notes) (map told_green (said.effects).greens))))))) in
    record {
      whole = put.whole;
      setup = ap setup_at put.new_is;
      is = ap face_of put.new_is;
      answer = rw (greens, notes, forgotten, gone, are, there, put.answer, all) refl;
      ups_are = refl;
    }

-- ---- a block begins

-- it is being sent, and its datagrams weren't made yet
pub begun-face : (f : FaceParts) (sessions : PeerSessionsValue) (step : EngineStep) (effects : Effects) → IsFace f
    → Begins f.sessions sessions step effects → IsFace (record f { sessions = sessions })
begun-face f sessions step effects face begins = is-face f sessions f.queued face begins.whole begins.keys

pub sends : (f : FaceParts) (sessions : PeerSessionsValue) (new : FaceParts) (before after : Answered) (step : EngineStep) (effects : Effects)
    → Begins f.sessions sessions step effects → Puts (record f { sessions = sessions }) new before after effects.out → Sent f new before after step
sends f sessions new before after step effects begins put = record {
  whole = put.whole;
  setup = ap setup_at put.new_is ∙ ap (λ k. record { face = f.face; settings = f.settings; keys = k }) begins.keys;
  is = ap face_of put.new_is ∙ rw (begins.sessions, begins.keys, begins.effects, sizes-out (step.effects).out) refl;
  answer = put.answer ∙ rw (begins.sessions, begins.keys, begins.effects, out-at f.face (step.effects).out, sizes-out (step.effects).out) refl;
}

pub sends-ok : {A E : Type 0} (f : FaceParts) (sessions : PeerSessionsValue) (new : FaceParts) (before after : Answered) (step : EngineStep) (effects : Effects)
    (result : Result A E) → Begins f.sessions sessions step effects → OnOk result (Puts (record f { sessions = sessions }) new before after effects.out)
    → OnOk result (Sent f new before after step)
sends-ok f sessions new before after step effects (Err e) begins put = tt
sends-ok f sessions new before after step effects (Ok x) begins put = sends f sessions new before after step effects begins put

-- ---- the pieces that are ready go

-- what goes has an octet, and no more than a session carries
pub going-octets : (f : FaceParts) (until leaves : ℕ) (block : List ℕ) → IsFace f → leaves < 2 ^ 64 → 0 < ready f.gathering until
    → block ≡ flat_map (going_octets f.settings f.face leaves) (going f.gathering until) → (0 < length block) × (length block ≤ BLOCK_MAX)
going-octets f until leaves block face early some is =
    let count = ready f.gathering until in
    let pieces = (f.gathering).waiting in
    let those = All-take (IsSizedAt f.settings f.face leaves) count pieces (λ n d inside. face.sized n d inside leaves early) in
    let few = octets-few f.settings f.face leaves (take count pieces) those in
    let fits = going-few f.gathering until (are-within f face) in
    let taken = length-take-le count pieces (ready-few f.gathering until) in
    let octet = octets-some f.settings f.face leaves (take count pieces) those (omega (arith, taken, some)) in
    let same = ap length is in
    (omega (arith, octet, same), omega (arith, few, fits, same))

-- a block of what was taken
pub taken-octets : (f mid : FaceParts) (until leaves : ℕ) (pieces : List Piece) (block : List ℕ) → IsFace f → leaves < 2 ^ 64 → 0 < ready f.gathering until
    → Took f mid until pieces → block ≡ flat_map (going_octets mid.settings mid.face leaves) pieces → (0 < length block) × (length block ≤ BLOCK_MAX)
taken-octets f mid until leaves pieces block face early some took is =
    let mid-face : mid.face ≡ f.face = ap (λ (x : FaceSetup). x.face) took.setup in
    let mid-settings : mid.settings ≡ f.settings = ap (λ (x : FaceSetup). x.settings) took.setup in
    going-octets f until leaves block face early some (is ∙ rw (mid-face, mid-settings, took.pieces_are) refl)

-- a session is as free as before
pub free-still : (f mid : FaceParts) (until : ℕ) (pieces : List Piece) → Took f mid until pieces → is_free (keys_at f) (face_of f) ≡ true
    → is_free (keys_at mid) (face_of mid) ≡ true
free-still f mid until pieces took free =
    ap (λ k. is_free k (face_of mid)) (ap (λ (x : FaceSetup). x.keys) took.setup) ∙ (ap (is_free (keys_at f)) took.is ∙ free)

pub went : (f mid new : FaceParts) (m : FaceMoments) (until count octets session : ℕ) (before sent told after : Answered) (pieces : List Piece) (block : List ℕ)
    → Took f mid until pieces → block ≡ flat_map (going_octets mid.settings mid.face m.leaves) pieces
    → Sent mid new before sent (block_begins (keys_at mid) ((face_of mid).sessions).engine block m.at)
    → told ≡ with_told sent (told_if (gathers (keys_at new)) new.face count octets session)
    → after ≡ and_begun told (record { face = new.face; session = session; block = block; pieces = count } ∷ [])
    → session ≡ (((face_of f).sessions).engine).next → count ≡ length pieces → octets ≡ length block
    → FaceDid f new before after (face_goes (setup_at f) m until (face_of f))
went f mid new m until count octets session before sent told after pieces block took made begun says begins session-is count-is octets-is =
    let s = setup_at f in
    let whole = block_at s m.leaves until (face_of f) in
    let mid-face : mid.face ≡ f.face = ap (λ (x : FaceSetup). x.face) took.setup in
    let mid-settings : mid.settings ≡ f.settings = ap (λ (x : FaceSetup). x.settings) took.setup in
    let mid-keys : keys_at mid ≡ keys_at f = ap (λ (x : FaceSetup). x.keys) took.setup in
    let new-setup = begun.setup ∙ took.setup in
    let new-face : new.face ≡ f.face = ap (λ (x : FaceSetup). x.face) new-setup in
    let new-keys : keys_at new ≡ keys_at f = ap (λ (x : FaceSetup). x.keys) new-setup in
    let block-is : block ≡ whole = made ∙ rw (mid-face, mid-settings, took.pieces_are) refl in
    let step = block_begins s.keys ((face_of f).sessions).engine whole m.at in
    let step-is : block_begins (keys_at mid) ((face_of mid).sessions).engine block m.at ≡ step =
    ap (λ k. block_begins k ((face_of mid).sessions).engine block m.at) mid-keys
    ∙ (ap (λ (p : PeerFace). block_begins s.keys (p.sessions).engine block m.at) took.is
    ∙ ap (λ w. block_begins s.keys ((face_of f).sessions).engine w m.at) block-is) in
    let goes = subst (Sent mid new before sent) step-is begun in
    let ready-is : count ≡ ready f.gathering until =
    count-is ∙ (ap length took.pieces_are ∙ length-take-le (ready f.gathering until) (f.gathering).waiting (ready-few f.gathering until)) in
    let size : octets ≡ length whole = octets-is ∙ ap length block-is in
    let puts-are : puts_out (keys_at mid) (sends_block mid step) (step.effects).out ≡ puts_out s.keys (with_block (face_of f) until step) (step.effects).out =
    ap (λ k. puts_out k (sends_block mid step) (step.effects).out) mid-keys
    ∙ ap (λ (p : PeerFace). puts_out s.keys (record p { sessions = with_begun p.sessions step }) (step.effects).out) took.is in
    record {
      whole = goes.whole;
      setup = new-setup;
      is = goes.is ∙ (ap (λ k. with_queued k (sends_block mid step) (step.effects).out) mid-keys
          ∙ ap (λ (p : PeerFace). with_queued s.keys (record p { sessions = with_begun p.sessions step }) (step.effects).out) took.is);
      answer = begins ∙ rw (says, goes.answer, puts-are, new-face, new-keys, mid-face, session-is, ready-is, size, block-is, append-nil before.added) refl;
    }

pub went-ok : {A E : Type 0} (f mid new : FaceParts) (m : FaceMoments) (until count octets session : ℕ) (before sent told after : Answered)
    (pieces : List Piece) (block w : List ℕ) (result : Result A E)
    → Took f mid until pieces → block ≡ flat_map (going_octets mid.settings mid.face m.leaves) pieces → w ≡ block
    → Sent mid new before sent (block_begins (keys_at mid) ((face_of mid).sessions).engine w m.at)
    → told ≡ with_told sent (told_if (gathers (keys_at new)) new.face count octets session)
    → OnOk result (after ≡ and_begun told (record { face = new.face; session = session; block = block; pieces = count } ∷ []))
    → session ≡ (((face_of f).sessions).engine).next → count ≡ length pieces → octets ≡ length block
    → OnOk result (FaceDid f new before after (face_goes (setup_at f) m until (face_of f)))
went-ok f mid new m until count octets session before sent told after pieces block w (Err e) took made same begun says begins session-is count-is octets-is = tt
went-ok f mid new m until count octets session before sent told after pieces block w (Ok x) took made same begun says begins session-is count-is octets-is =
    went f mid new m until count octets session before sent told after pieces block took made
    (subst (λ (v : List ℕ). Sent mid new before sent (block_begins (keys_at mid) ((face_of mid).sessions).engine v m.at)) same begun)
    says begins session-is count-is octets-is

-- ---- a face begins

pub empty-so : (f : FaceParts) (keys : Keys) (now : ℕ) (marks : List ℕ)
    → AreKeys (face_keys keys) → AreBounds keys.bounds → f.bounds ≡ keys.bounds
    → f.sessions ≡ record { spent = false; keys = face_keys keys; sessions = starts_sessions (face_keys keys) now marks }
    → f.gathering ≡ nothing_waits keys.bounds.wanted keys.wait_ms → f.queued ≡ 0 → f.waits ≡ no_waits
    → IsEmpty f.face f.settings (face_keys keys) now marks f
unfolding with_sizes
empty-so f keys now marks agree are bounds sessions gathering queued waits = record {
  whole = record {
    whole = ap (λ (s : PeerSessionsValue). s.spent) sessions;
    keys = subst AreKeys (sym (ap (λ (s : PeerSessionsValue). s.keys) sessions)) agree;
    bounds = bounds ∙ sym (ap (λ (s : PeerSessionsValue). s.keys.bounds) sessions);
    are = subst AreBounds (sym bounds) are;
    wanted = ap (λ (g : GatheringValue). g.wanted) gathering ∙ sym (ap (λ (b : Bounds). b.wanted) bounds);
    waits = waits ∙ sym (ap (λ (g : GatheringValue). waits_of f.bounds g.waiting) gathering);
    sized = subst (λ (g : GatheringValue). All (IsSized f.settings f.face) g.waiting) (sym gathering) (All-nil (IsSized f.settings f.face));
  };
  setup = ap (λ (s : PeerSessionsValue). record { face = f.face; settings = f.settings; keys = s.keys }) sessions;
  is = rw (sessions, gathering, queued) refl;
}

-- whether each cancel is put, and how many octets wait then
record StartsQueue (f : FaceParts) (k : FaceKeys) (marks : List ℕ) (out : List (List ℕ)) : Type 0 where
  queued : queued_in f out ≡ queued_after (may_wait k.bounds 0) 0 (sizes_out (starts_out k marks))
  puts_are : puts_in f out ≡ starts_puts k marks

starts-queue : (f : FaceParts) (k : FaceKeys) (now : ℕ) (marks : List ℕ) (out : List (List ℕ)) → keys_at f ≡ k
    → face_of f ≡ record (starts_face k now marks) { queued = 0 } → out ≡ map segment_octets (starts_out k marks) → StartsQueue f k marks out
starts-queue f k now marks out keys is cancels =
    let sizes : sizes_in out ≡ sizes_out (starts_out k marks) = ap sizes_in cancels ∙ sizes-out (starts_out k marks) in
    record {
      queued = ap (λ (x : FaceKeys). queued_after (may_queue x (face_of f)) (face_of f).queued (sizes_in out)) keys
          ∙ (ap (λ (p : PeerFace). queued_after (may_queue k p) p.queued (sizes_in out)) is
          ∙ ap (λ (ns : List ℕ). queued_after (may_wait k.bounds 0) 0 ns) sizes);
      puts_are = ap (λ (x : FaceKeys). puts (may_queue x (face_of f)) (face_of f).queued (sizes_in out)) keys
          ∙ (ap (λ (p : PeerFace). puts (may_queue k p) p.queued (sizes_in out)) is
          ∙ ap (λ (ns : List ℕ). puts (may_wait k.bounds 0) 0 ns) sizes);
    }

pub starts-so : (f new : FaceParts) (face : Face) (settings : PeerSettings) (keys : Keys) (now : ℕ) (marks : List ℕ) (before after : Answered)
    (out : List (List ℕ)) → IsEmpty face settings (face_keys keys) now marks f → out ≡ map segment_octets (cancels_of keys.peer marks)
    → Puts f new before after out → Starts face settings (face_keys keys) now marks before after new
starts-so f new face settings keys now marks before after out empty cancels put =
    let k = face_keys keys in
    let there : f.face ≡ face = ap (λ (x : FaceSetup). x.face) empty.setup in
    let queue = starts-queue f k now marks out (ap (λ (x : FaceSetup). x.keys) empty.setup) empty.is cancels in
    record {
      whole = put.whole;
      setup = ap setup_at put.new_is ∙ empty.setup;
      is = ap face_of put.new_is
          ∙ (ap (λ (p : PeerFace). record p { queued = queued_in f out }) empty.is
          ∙ ap (λ (n : ℕ). record (starts_face k now marks) { queued = n }) queue.queued);
      answer = put.answer
          ∙ (ap (λ (w : List (List ℕ)). with_out before (map (datagram_at f.face) w) (puts_in f out)) cancels
          ∙ rw (there, queue.puts_are, out-at face (starts_out k marks)) refl);
    }
