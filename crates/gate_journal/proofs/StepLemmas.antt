-- How a run of calls on a store goes on, and what a torn write leaves of a file.
use Rattle.std.proofs.Common.{◌≡◌, inl, inr, ⊎_elim, ℕ, ◌+◌, List, [], ◌∷◌, ◌++◌, length, get_or, take, drop, refl, sym, ap, ◌∙◌, append_assoc, arith}
use Rattle.std.proofs.lemmas.List.{length-append, append-nil, take_all, drop_all, take_at, drop_at, drop_more, take-append-drop}
use Rattle.store_traits.specs.Disk.{written, Torn, Elapses, LeavesOnly}
use Rattle.gate_journal.specs.Steps.{TornOnly}

module _ {S : Type 0} (moment : S → ℕ) (left_since : S → ℕ → List ℕ → Type 0) where
  -- before the first call
  pub started : (old : S) (P : List ℕ → Type 0) → ((c : List ℕ) → left_since old (moment old) c → P c) → LeavesOnly moment left_since old old P
  started old P here = record { later = omega arith; each = here; before = λ t c le left. inl left }

  -- one call more, after which a crash leaves what has P
  pub goes_on : (old mid new : S) (P may_leave : List ℕ → Type 0) → LeavesOnly moment left_since old mid P
      → Elapses (moment mid) (moment new) (left_since mid) (left_since new) may_leave
      → ((c : List ℕ) → may_leave c → P c) → LeavesOnly moment left_since old new P
  goes_on old mid new P may_leave so_far time here = record {
    later = omega (arith, so_far.later, time.later);
    each = λ c left. ⊎_elim (so_far.each c) (here c) (time.nothing_else (moment old) c so_far.later left);
    before = λ t c le left. ⊎_elim (so_far.before t c le) (λ now. inr (here c now)) (time.nothing_else t c (omega (arith, le, so_far.later)) left);
  }

  -- two steps are one
  pub then_on : (old mid new : S) (P : List ℕ → Type 0) → LeavesOnly moment left_since old mid P → LeavesOnly moment left_since mid new P → LeavesOnly moment left_since old new P
  then_on old mid new P one two = record {
    later = omega (arith, one.later, two.later);
    each = λ c left. ⊎_elim (one.each c) (λ p. p) (two.before (moment old) c one.later left);
    before = λ t c le left. ⊎_elim (one.before t c le) (λ p. inr p) (two.before t c (omega (arith, le, one.later)) left);
  }

  pub weaker : (old new : S) (P Q : List ℕ → Type 0) → ((c : List ℕ) → P c → Q c) → LeavesOnly moment left_since old new P → LeavesOnly moment left_since old new Q
  weaker old new P Q leads one = record {
    later = one.later;
    each = λ c left. leads c (one.each c left);
    before = λ t c le left. ⊎_elim (λ was. inl was) (λ p. inr (leads c p)) (one.before t c le left);
  }

-- a write that didn't begin
torn-none : (at n : ℕ) (c : List ℕ) → Torn at n c c
torn-none at n c = record { before = refl; after = refl; no_shorter = omega arith; no_longer = omega arith }

pub torn-start : (at n : ℕ) (may_leave : List ℕ → Type 0) (c : List ℕ) → may_leave c → TornOnly at n may_leave c
torn-start at n may_leave c may = (c, may, torn-none at n c)

-- ---- a file with a closed gate at its end

module _ (front : List ℕ) (gate : ℕ) (place : gate ≡ length front) where
  shut : List ℕ
  shut = front ++ 0 ∷ []

  size : length (front ++ 0 ∷ []) ≡ gate + 1
  size = omega (arith, place, length-append front (0 ∷ []))

  pub torn-behind : (n : ℕ) (c : List ℕ) → Torn (gate + 1) n (front ++ 0 ∷ []) c → c ≡ (front ++ 0 ∷ []) ++ drop (gate + 1) c
  torn-behind n c torn =
      sym (take-append-drop (gate + 1) c)
      ∙ ap (λ (w : List ℕ). w ++ drop (gate + 1) c) (torn.before ∙ take_all (gate + 1) (front ++ 0 ∷ []) (omega (arith, size)))

  pub written-behind : (w : List ℕ) → written (gate + 1) w (front ++ 0 ∷ []) ≡ front ++ 0 ∷ w
  written-behind w =
      ap (λ (l : List ℕ). l ++ w ++ drop (gate + 1 + length w) (front ++ 0 ∷ [])) (take_all (gate + 1) (front ++ 0 ∷ []) (omega (arith, size)))
      ∙ ap (λ (l : List ℕ). (front ++ 0 ∷ []) ++ w ++ l) (drop_all (gate + 1 + length w) (front ++ 0 ∷ []) (omega (arith, size)))
      ∙ append-nil ((front ++ 0 ∷ []) ++ w)
      ∙ append_assoc front (0 ∷ []) w

  behind : (w : List ℕ) → drop (gate + 1) (front ++ 0 ∷ w) ≡ w
  behind w = ap (λ (l : List ℕ). drop (gate + 1) l) (sym (append_assoc front (0 ∷ []) w)) ∙ drop_at (front ++ 0 ∷ []) w (gate + 1) size

  before : (w : List ℕ) → take gate (front ++ w) ≡ front
  before w = take_at front w gate (sym place)

  pub torn-gate : (w c : List ℕ) → Torn gate 1 (front ++ 0 ∷ w) c → c ≡ front ++ get_or c gate 0 ∷ w
  torn-gate w c torn =
      let long : length (front ++ 0 ∷ w) ≡ gate + 1 + length w = omega (arith, place, length-append front (0 ∷ w)) in
      let rest : drop gate c ≡ get_or c gate 0 ∷ w =
      drop_more c gate 0 (omega (arith, torn.no_shorter, long)) ∙ ap (λ (l : List ℕ). get_or c gate 0 ∷ l) (torn.after ∙ behind w) in
      sym (take-append-drop gate c) ∙ ap (λ (l : List ℕ). l ++ drop gate c) (torn.before ∙ before (0 ∷ w)) ∙ ap (λ (l : List ℕ). front ++ l) rest

  pub written-gate : (w : List ℕ) → written gate (1 ∷ []) (front ++ 0 ∷ w) ≡ front ++ 1 ∷ w
  written-gate w =
      ap (λ (l : List ℕ). l ++ (1 ∷ []) ++ drop (gate + 1) (front ++ 0 ∷ w)) (before (0 ∷ w))
      ∙ ap (λ (l : List ℕ). front ++ (1 ∷ []) ++ l) (behind w)
      ∙ append_assoc front (1 ∷ []) w

  pub front-taken : take gate (front ++ 0 ∷ []) ≡ front
  front-taken = before (0 ∷ [])
