-- What the files say that a commit and an install may leave.
use Rattle.std.proofs.Common.{◌≡◌, ◌⊎◌, inl, inr, ⊎_elim, ℕ, ◌+◌, ◌<◌, ◌==◌, false, List, [], ◌∷◌, ◌++◌, length, map, Option, Some, None, IfSome, refl, sym, ap, ◌∙◌, subst, append_assoc, arith}
use Rattle.std.proofs.lemmas.List.{length-append, append-nil}
use Rattle.std.proofs.lemmas.Bool.{cases_eq}
use Rattle.std.specs.List.{flat_map}
use Rattle.store_traits.specs.Disk.{Only, LeavesOnly}
use Rattle.journal_file.specs.Values.{KeptValue, RecordValue}
use Rattle.journal_file.specs.Keeping.{kept_after}
use Rattle.journal_file.specs.declared.record.Record.{Record}
use Rattle.journal_file.specs.File.{Reads, opening}
use Rattle.journal_file.specs.Spelling.{gated, behind_gate, MayFollow, Closes}
use Rattle.journal_file.specs.Anew.{file_of, but_greatest, IsSound, anew}
use Rattle.journal_file.specs.Length.{gate_of}
use Rattle.journal_file.specs.Ties.{record_of, entry_octets}
use Rattle.journal_file.proofs.SpellingLemmas.{closes-reads, gate-opened, gate-shut}
use Rattle.journal_file.proofs.AnewLemmas.{anew-closes, gated-values}
use Rattle.journal_file.proofs.LengthLemmas.{file-length}
use Rattle.gate_journal.specs.Rest.{RestsWith, BeforeOrAfter}
use Rattle.gate_journal.specs.Steps.{IsShutAt, opened, MayStand}
use Rattle.gate_journal.proofs.StepLemmas.{front-taken, started, weaker}

reads-whole : (file : List ℕ) (kept : KeptValue) → Closes file kept → Reads file kept
reads-whole file kept closes = subst (λ (w : List ℕ). Reads w kept) (append-nil file) (closes-reads file [] kept closes)

-- records that aren't none stand behind an open gate
gated-behind : (rs : List RecordValue) → 0 < length rs → gated rs ≡ 1 ∷ behind_gate rs
unfolding gated behind_gate
gated-behind [] some = absurd (omega arith)
gated-behind (r ∷ rs) some = refl

module _ (front : List ℕ) (gate : ℕ) (place : gate ≡ length front) (k : KeptValue) (closes : Closes (front ++ 0 ∷ []) k)
    (rs : List RecordValue) (some : 0 < length rs) (may : MayFollow k rs) where
  open-there : Closes (front ++ 1 ∷ behind_gate rs) (kept_after k rs)
  open-there = subst (λ (w : List ℕ). Closes (front ++ w) (kept_after k rs)) (gated-behind rs some) (gate-opened front k rs closes may)

  behind-any : (g : ℕ) → BeforeOrAfter k (kept_after k rs) (front ++ g ∷ behind_gate rs)
  behind-any g = elim (cases_eq g 1) [
    | inl is_open ↦ inr (subst (λ (n : ℕ). Reads (front ++ n ∷ behind_gate rs) (kept_after k rs)) (sym is_open) (reads-whole _ (kept_after k rs) open-there))
    | inr shut ↦ inl (subst (λ (w : List ℕ). Reads w k) (append_assoc front (g ∷ []) (behind_gate rs))
        (closes-reads (front ++ g ∷ []) (behind_gate rs) k (gate-shut front k g closes shut)))
  ]

  pub stands : (c : List ℕ) → MayStand gate (behind_gate rs) (front ++ 0 ∷ []) c → BeforeOrAfter k (kept_after k rs) c
  stands c (inl (torn, is)) = inl (subst (λ (w : List ℕ). Reads w k) (sym is) (closes-reads (front ++ 0 ∷ []) torn k closes))
  stands c (inr (g, is)) =
      subst (BeforeOrAfter k (kept_after k rs))
      (sym (is ∙ ap (λ (w : List ℕ). w ++ g ∷ behind_gate rs) (front-taken front gate place))) (behind-any g)

  ends-again : opened gate (behind_gate rs) (front ++ 0 ∷ []) ≡ (front ++ flat_map entry_octets rs) ++ 0 ∷ []
  ends-again =
      ap (λ (w : List ℕ). w ++ 1 ∷ behind_gate rs) (front-taken front gate place)
      ∙ ap (λ (w : List ℕ). front ++ w) (sym (gated-behind rs some) ∙ gated-values rs)
      ∙ sym (append_assoc front (flat_map entry_octets rs) (0 ∷ []))

  is-open : front ++ 1 ∷ behind_gate rs ≡ opened gate (behind_gate rs) (front ++ 0 ∷ [])
  is-open = ap (λ (w : List ℕ). w ++ 1 ∷ behind_gate rs) (sym (front-taken front gate place))

  pub rests-again : (may_leave : List ℕ → Type 0) → Only (opened gate (behind_gate rs) (front ++ 0 ∷ [])) may_leave
      → RestsWith (opened gate (behind_gate rs) (front ++ 0 ∷ [])) may_leave (gate + length (behind_gate rs)) (kept_after k rs)
  rests-again may_leave only = record {
    front = front ++ flat_map entry_octets rs;
    parts = ends-again;
    place = omega (
      arith,
      place,
      length-append front (flat_map entry_octets rs),
      ap length (sym (gated-behind rs some) ∙ gated-values rs),
      length-append (flat_map entry_octets rs) (0 ∷ []),
    );
    closes = subst (λ (w : List ℕ). Closes w (kept_after k rs)) is-open open-there;
    durable = only;
  }

-- ---- where a store tells its file

shut-of : (s : List ℕ) (may_leave : List ℕ → Type 0) (gate : ℕ) (k : KeptValue) → RestsWith s may_leave gate k → IsShutAt gate s
shut-of s may_leave gate k rests = record { front = rests.front; parts = rests.parts; place = rests.place }

closed-of : (s : List ℕ) (may_leave : List ℕ → Type 0) (gate : ℕ) (k : KeptValue) (rests : RestsWith s may_leave gate k) → Closes (rests.front ++ 0 ∷ []) k
closed-of s may_leave gate k rests = subst (λ (w : List ℕ). Closes w k) rests.parts rests.closes

module _ {S : Type 0} (moment : S → ℕ) (left_since : S → ℕ → List ℕ → Type 0) (old new : S)
    (may_leave : List ℕ → Type 0) (gate : ℕ) (rs : List RecordValue) where
  pub all-or-none : (o : Option (List ℕ)) → 0 < length rs
      → IfSome o (λ s. IsShutAt gate s → Only s may_leave → LeavesOnly moment left_since old new (MayStand gate (behind_gate rs) s))
      → IfSome o (λ s. (k : KeptValue) → RestsWith s may_leave gate k → MayFollow k rs → LeavesOnly moment left_since old new (BeforeOrAfter k (kept_after k rs)))
  all-or-none None some step = tt
  all-or-none (Some s) some step = λ k rests may.
      weaker moment left_since old new (MayStand gate (behind_gate rs) s) (BeforeOrAfter k (kept_after k rs))
      (λ c stand. stands rests.front gate rests.place k (closed-of s may_leave gate k rests) rs some may c (subst (λ (w : List ℕ). MayStand gate (behind_gate rs) w c) rests.parts stand))
      (step (shut-of s may_leave gate k rests) rests.durable)

-- where nothing was done
pub unmoved : {S : Type 0} (moment : S → ℕ) (left_since : S → ℕ → List ℕ → Type 0) (old : S) (may_leave : List ℕ → Type 0) (gate : ℕ) (rs : List RecordValue) (o : Option (List ℕ))
    → ((c : List ℕ) → left_since old (moment old) c → may_leave c)
    → IfSome o (λ s. (k : KeptValue) → RestsWith s may_leave gate k → MayFollow k rs → LeavesOnly moment left_since old old (BeforeOrAfter k (kept_after k rs)))
unmoved moment left_since old may_leave gate rs None now = tt
unmoved moment left_since old may_leave gate rs (Some s) now = λ k rests may.
    started moment left_since old (BeforeOrAfter k (kept_after k rs))
    (λ c left. inl (subst (λ (w : List ℕ). Reads w k) (sym (rests.durable c (now c left))) (reads-whole s k rests.closes)))

-- after all of it
module _ (may_leave later : List ℕ → Type 0) (gate : ℕ) (rs : List RecordValue) (some : 0 < length rs) where
  after-of : (s : List ℕ) (k : KeptValue) → RestsWith s may_leave gate k → MayFollow k rs
      → Only (opened gate (behind_gate rs) s) later → RestsWith (opened gate (behind_gate rs) s) later (gate + length (behind_gate rs)) (kept_after k rs)
  after-of s k rests may only =
      subst (λ (w : List ℕ). RestsWith (opened gate (behind_gate rs) w) later (gate + length (behind_gate rs)) (kept_after k rs)) (sym rests.parts)
      (rests-again rests.front gate rests.place k (closed-of s may_leave gate k rests) rs some may later (subst (λ (w : List ℕ). Only (opened gate (behind_gate rs) w) later) rests.parts only))

  pub done-told : (o n : Option (List ℕ)) → IfSome o (λ s. IsShutAt gate s → n ≡ Some (opened gate (behind_gate rs) s))
      → IfSome n (λ t. Only t later)
      → IfSome o (λ s. (k : KeptValue) → RestsWith s may_leave gate k → MayFollow k rs
      → IfSome n (λ t. RestsWith t later (gate + length (behind_gate rs)) (kept_after k rs)))
  done-told None n seen only = tt
  done-told (Some s) n seen only = λ k rests may.
      let is = seen (shut-of s may_leave gate k rests) in
      rw is (after-of s k rests may (rw is at only))

-- ---- records, and octets

pub some-records : (records : List Record) → false ≡ (length records == 0) → 0 < length (map record_of records)
some-records [] none = absurd (cc)
some-records (r ∷ records) some = omega arith

-- ---- a file made anew

module _ (w : List ℕ) (kept : KeptValue) (is : w ≡ file_of kept) where
  new-closes : IsSound kept → Closes w (but_greatest kept)
  new-closes sound = subst (λ (l : List ℕ). Closes l (but_greatest kept)) (sym is) (anew-closes kept sound)

  pub new-any : {S : Type 0} (moment : S → ℕ) (left_since : S → ℕ → List ℕ → Type 0) (old new : S) (leave : List ℕ → Type 0) (o : Option (List ℕ))
      → IfSome o (λ s. LeavesOnly moment left_since old new (λ c. leave c ⊎ (c ≡ w)))
      → IfSome o (λ s. IsSound kept → LeavesOnly moment left_since old new (λ c. leave c ⊎ Reads c (but_greatest kept)))
  new-any moment left_since old new leave None step = tt
  new-any moment left_since old new leave (Some s) step = λ sound.
      weaker moment left_since old new (λ c. leave c ⊎ (c ≡ w)) (λ c. leave c ⊎ Reads c (but_greatest kept))
      (λ c stand. ⊎_elim (λ was. inl was)
      (λ same. inr (subst (λ (l : List ℕ). Reads l (but_greatest kept)) (sym same) (reads-whole w (but_greatest kept) (new-closes sound)))) stand) step

  new-ends : w ≡ (opening ++ flat_map entry_octets (anew kept)) ++ 0 ∷ []
  new-ends = is ∙ ap (λ (l : List ℕ). opening ++ l) (gated-values (anew kept)) ∙ sym (append_assoc opening (flat_map entry_octets (anew kept)) (0 ∷ []))

  pub new-long : length w ≡ gate_of kept + 1
  new-long = ap length is ∙ file-length kept

  pub new-rests : (leave : List ℕ → Type 0) (gate : ℕ) (o n : Option (List ℕ)) → gate + 1 ≡ length w
      → IfSome o (λ s. n ≡ Some w) → IfSome o (λ s. Only w leave)
      → IfSome o (λ s. IsSound kept → IfSome n (λ t. RestsWith t leave gate (but_greatest kept)))
  new-rests leave gate None n place seen only = tt
  new-rests leave gate (Some s) n place seen only = λ sound.
      rw seen (record {
        front = opening ++ flat_map entry_octets (anew kept);
        parts = new-ends;
        place = omega (arith, place, ap length new-ends, length-append (opening ++ flat_map entry_octets (anew kept)) (0 ∷ []));
        closes = new-closes sound;
        durable = only;
      })
