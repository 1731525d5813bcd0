-- A face at its beginning.

use Rattle.std.proofs.Common.{◌≡◌, ℕ, ◌+◌, ◌≤◌, ◌^◌, ◌/◌, List, [], ◌∷◌, length, refl, sym, ◌∙◌, ap, subst, arith}
use Rattle.std.specs.List.{IsDistinct}
use Rattle.spans.proofs.Places.{length-uncovered}
use Rattle.peer_sessions.proofs.MemoryLemmas.{LAST}
use Rattle.session_memory.specs.Numbers.{runs_in}
use Rattle.session_memory.specs.Memory.{Memory, nothing_remembered}
use Rattle.session_memory.specs.Laws.{IsSet64}
use Rattle.session_memory.proofs.NumberLemmas.{no-runs}
use Rattle.ltp_engine.specs.Values.{EngineValue}
use Rattle.ltp_engine.specs.Bounds.{IsBounded}
use Rattle.ltp_engine.specs.Steps.{begun_by}
use Rattle.peer_sessions.specs.declared.keys.Keys.{Keys}
use Rattle.ltp_engine.specs.Sessions.{cells_in}
use Rattle.peer_sessions.specs.declared.blocks.Block.{Block}
use Rattle.peer_sessions.specs.Blocks.{AreBlocks}
use Rattle.peer_sessions.specs.Keys.{FaceKeys, with_marked}
use Rattle.peer_sessions.specs.Sessions.{starts_sessions}
use Rattle.peer_sessions.specs.Views.{face_keys, AreFit, sessions_of, AreWhole}

-- numbers that are remembered for good change nothing else
record Marked (numbers : List ℕ) (m : Memory) : Type 0 where
  newer : (with_marked numbers m).newer ≡ m.newer
  most : (with_marked numbers m).most ≡ m.most
  keep : (with_marked numbers m).keep_ms ≡ m.keep_ms

marked : (numbers : List ℕ) (m : Memory) → Marked numbers m
unfolding with_marked
marked [] m = record { newer = refl; most = refl; keep = refl }
marked (n ∷ numbers) m = let rest : Marked numbers m = marked numbers m in record { newer = rest.newer; most = rest.most; keep = rest.keep }

pub start-set : (most keep_ms now : ℕ) → IsSet64 (nothing_remembered most keep_ms now).marked
start-set most keep_ms now = length-uncovered LAST

pub start-room : (most keep_ms now : ℕ) (marks : List ℕ) → length marks ≤ 2 ^ 63 → runs_in (nothing_remembered most keep_ms now).marked + length marks ≤ 2 ^ 63
start-room most keep_ms now marks few = let none = no-runs in omega (arith, none, few)

pub start-whole : (k : Keys) (v : EngineValue) (m : Memory) (moments : List (ℕ × ℕ)) (marks : List ℕ) (now : ℕ) → AreFit k → v ≡ begun_by (face_keys k).party → IsBounded v
    → m ≡ with_marked marks (nothing_remembered (k.remember / 2) k.remember_ms now) → moments ≡ [] → AreWhole k v m moments
unfolding IsDistinct
start-whole k v m moments marks now fit engine bounded memory none =
    subst (λ (l : List (ℕ × ℕ)). AreWhole k v m l) (sym none)
    (subst (λ (c : Memory). AreWhole k v c []) (sym memory)
    (subst (λ (w : EngineValue). AreWhole k w (with_marked marks (nothing_remembered (k.remember / 2) k.remember_ms now)) []) (sym engine)
    (record {
      fit = fit;
      whole = refl;
      party = refl;
      none = refl;
      bounded = subst IsBounded engine bounded;
      ascending = tt;
      most = same.most;
      keep = same.keep;
      set = subst IsSet64 (sym same.newer) (length-uncovered LAST);
      places =
          let none : runs_in (with_marked marks (nothing_remembered (k.remember / 2) k.remember_ms now)).newer ≡ 0 = ap runs_in same.newer ∙ no-runs in
          omega (arith, none);
      kept = tt;
      once = tt;
    }))) where
      same : Marked marks (nothing_remembered (k.remember / 2) k.remember_ms now)
      same = marked marks (nothing_remembered (k.remember / 2) k.remember_ms now)

pub start-cells : (k : FaceKeys) (v : EngineValue) → v ≡ begun_by k.party → cells_in (v.inbound).receivers ≤ 0
start-cells k v is = subst (λ (w : EngineValue). cells_in (w.inbound).receivers ≤ 0) (sym is) (omega arith)

pub start-blocks : (k : FaceKeys) (v : EngineValue) (blocks : List Block) → v ≡ begun_by k.party → blocks ≡ [] → AreBlocks v blocks
start-blocks k v blocks is none = subst (λ (w : EngineValue). AreBlocks w blocks) (sym is) (record { are = none; ascending = tt; below = tt })

pub start-state : (k : Keys) (v : EngineValue) (m : Memory) (moments : List (ℕ × ℕ)) (marks : List ℕ) (now : ℕ) → v ≡ begun_by (face_keys k).party
    → m ≡ with_marked marks (nothing_remembered (k.remember / 2) k.remember_ms now) → moments ≡ [] → sessions_of v m moments ≡ starts_sessions (face_keys k) now marks
start-state k v m moments marks now engine memory none = rw (engine, memory, none) refl
