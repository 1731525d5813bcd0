-- A runnable file sets up a gateway as one is taken.

use Rattle.std.proofs.Common.{◌≡◌, ℕ, ◌/◌, ◌^◌, ◌<◌, ◌≤◌, Bool, true, false, nat_le, nat_lt, Option, None, Some, IfSome, if◌then◌else◌, refl, sym, ap, ◌∙◌, arith}
use Rattle.std.proofs.lemmas.Bool.{ltb-true}
use Rattle.std.proofs.lemmas.Bool.Decides.{nat_tests}
use Rattle.block_types.specs.Pair.{IsPair}
use Rattle.face_room.specs.declared.bounds.Bounds.{Bounds}
use Rattle.gate_config.specs.declared.file.FaceConfig.{FaceConfig}
use Rattle.gate_config.specs.declared.file.GateFile.{GateFile}
use Rattle.gate_cases.specs.declared.face.Face.TheVariants as faces
use Rattle.journal_file.specs.Keeping.{greater}
use Rattle.journal_file.specs.Values.{KeptValue}
use Rattle.peer_sessions.specs.declared.keys.Keys.{Keys}
use Rattle.peer_sessions.specs.Keys.{FaceKeys}
use Rattle.peer_sessions.specs.Views.{face_keys}
use Rattle.peer_gateway.specs.declared.config.PeerConfig.{PeerConfig}
use Rattle.peer_gateway.specs.Keys.{PeerSetup}
use Rattle.peer_gateway.specs.Views.{AreFaceKeys, IsConfig, setup_with}
use Rattle.peer_half.specs.Types.{is_pair}
use Rattle.peer_half.specs.Setup.{IsFace, IsRunnable, bounds_in, first_in, first_session, keys_in, new_reserved, old_reserved, setup_in, types_where, used_up}
use Rattle.peer_half.specs.Laws.{RunnableSetsUp}

-- ---- the first session

greater-least : (m n : ℕ) → 1 ≤ m → 1 ≤ greater m n
greater-least m n some = by (nat_lt m n) refl
  where
    by : (t : Bool) → nat_lt m n ≡ t → 1 ≤ (if t then n else m)
    by true is = let more = ltb-true m n is in omega (arith, some, more)
    by false is = some

set-least : (set : Option ℕ) (wall : ℕ) → IfSome set (λ number. (1 ≤ number) × (number < 2 ^ 32)) → 1 ≤ first_session set wall
set-least None wall is = omega arith
set-least (Some number) wall is = is.0

first-least : (c : FaceConfig) (reserved : Option ℕ) (wall : ℕ) → IsFace c → 1 ≤ first_in c reserved wall
first-least c None wall is = set-least c.first_session wall is.first
first-least c (Some reserved) wall is = greater-least (first_session c.first_session wall) reserved (set-least c.first_session wall is.first)

-- where none is used up, numbers are left at both faces
below : (n m : ℕ) → nat_le n m ≡ false → m < n
below n m is = grind (arith, nat_tests, is)

are-left : (numbers old new : ℕ) → (if nat_le numbers old then Some faces.Old else if nat_le numbers new then Some faces.New else None) ≡ None
    → (old < numbers) × (new < numbers)
are-left numbers old new none = by (nat_le numbers old) refl (nat_le numbers new) refl none
  where
    by : (a : Bool) → nat_le numbers old ≡ a → (b : Bool) → nat_le numbers new ≡ b
        → (if a then Some faces.Old else if b then Some faces.New else None) ≡ None → (old < numbers) × (new < numbers)
    by true is b at none = absurd (cc)
    by false is true at none = absurd (cc)
    by false is false at none = (below numbers old is, below numbers new at)

-- ---- the keys of a face

half-most : (remember : ℕ) → 4096 ≤ remember → 1024 < remember / 2
half-most remember low = omega (arith, low)

-- whatever is seen so
keys-are : (k : Keys) (c : FaceConfig) (reserved : Option ℕ) (wall : ℕ) → IsFace c → first_in c reserved wall < 2 ^ 32
    → face_keys k ≡ keys_in c reserved wall → AreFaceKeys k
keys-are k c reserved wall is left same =
    let own : k.own ≡ c.engine = ap (λ (f : FaceKeys). (f.party).own) same in
    let peer : k.peer ≡ c.peer_engine = ap (λ (f : FaceKeys). (f.party).peer) same in
    let first : k.first_session ≡ first_in c reserved wall = ap (λ (f : FaceKeys). (f.party).first) same in
    let segment : (k.policy).segment ≡ c.segment = ap (λ (f : FaceKeys). ((f.party).policy).segment) same in
    let bounds : k.bounds ≡ bounds_in c = ap (λ (f : FaceKeys). f.bounds) same in
    let sessions : (k.bounds).sessions ≡ c.sessions = ap (λ (b : Bounds). b.sessions) bounds in
    let memory : (k.bounds).memory ≡ c.memory = ap (λ (b : Bounds). b.memory) bounds in
    let width : (k.bounds).segment ≡ c.segment = ap (λ (b : Bounds). b.segment) bounds in
    let wait : k.wait_ms ≡ c.aggregate_ms = ap (λ (f : FaceKeys). f.wait_ms) same in
    let remember : k.remember ≡ c.remember = ap (λ (f : FaceKeys). f.remember) same in
    let least = first-least c reserved wall is in
    let segment_least = is.segment_least in
    let sessions_least = is.sessions_least in
    let sessions_most = is.sessions_most in
    let memory_most = is.memory_most in
    let wait_least = is.aggregate_ms_least in
    let remember_most = is.remember_most in
    let places = half-most c.remember is.remember_least in
    record {
      fit = record {
        apart = λ e. is.apart (sym own ∙ (e ∙ peer));
        first = omega (arith, first, least);
        numbers = rw first left;
        some = omega (arith, sessions, sessions_least);
        places = rw remember (omega (arith, sessions, sessions_most, places));
        few = omega (arith, remember, remember_most);
      };
      agree = record {
        segment = segment ∙ sym width;
        sessions = refl;
        most = refl;
        some = omega (arith, width, segment_least);
        wait = omega (arith, wait, wait_least);
      };
      bounds = record {
        segment = omega (arith, width, segment_least);
        memory = rw memory memory_most;
      };
    }

-- ---- types of blocks

pair-is : (residue wrap : ℕ) → IsPair residue wrap → is_pair residue wrap ≡ true
pair-is residue wrap is = grind (arith, nat_tests, is)

types-said : (residue wrap : ℕ) (may : Bool) (is : is_pair residue wrap ≡ may) → may ≡ true
    → ((types_where residue wrap may is).residue ≡ residue) × ((types_where residue wrap may is).wrap ≡ wrap)
unfolding types_where
types-said residue wrap true is at = (refl, refl)
types-said residue wrap false is at = absurd (cc)

-- ---- the gateway

config-is : (file : GateFile) (kept : Option KeptValue) (wall : ℕ) (config : PeerConfig) → IsRunnable file → used_up file kept wall ≡ None
    → setup_with config ≡ setup_in file kept wall → IsConfig config
config-is file kept wall config is left same =
    let each = are-left (2 ^ 32) (first_in file.old (old_reserved kept) wall) (first_in file.new (new_reserved kept) wall) left in
    record {
      old = keys-are config.old file.old (old_reserved kept) wall is.old each.0 (ap (λ (s : PeerSetup). s.keys.0) same);
      new = keys-are config.new file.new (new_reserved kept) wall is.new each.1 (ap (λ (s : PeerSetup). s.keys.1) same);
      config = rw (ap (λ (s : PeerSetup). s.gate) same, ap (λ (s : PeerSetup). s.cut) same) is.gateway;
    }

pub runnable-sets-up : RunnableSetsUp
runnable-sets-up file kept wall is left =
    let b = file.blocks in
    let types = types-said b.residue_block b.wrap_block (is_pair b.residue_block b.wrap_block) refl (pair-is b.residue_block b.wrap_block is.blocks) in
    record {
      config = λ config same. config-is file kept wall config is left same;
      residue = types.0;
      wrap = types.1;
    }
