-- The two writes by which records are committed, where a store tells its file.
use Rattle.std.proofs.Common.{◌≡◌, inl, inr, ℕ, ◌+◌, List, [], ◌∷◌, ◌++◌, length, get_or, take, drop, Option, Some, None, option_map, IfSome, sym, ap, ◌∙◌, subst}
use Rattle.store_traits.specs.Disk.{written, Torn, Only, LeavesOnly}
use Rattle.gate_journal.specs.Steps.{TornOnly, IsShutAt, opened, MayStand}
use Rattle.gate_journal.proofs.StepLemmas.{then_on, weaker, torn-behind, written-behind, torn-gate, written-gate, front-taken}

module _ (gate : ℕ) (w : List ℕ) where
  staged : (s : List ℕ) (shut : IsShutAt gate s) → written (gate + 1) w s ≡ shut.front ++ 0 ∷ w
  staged s shut = ap (λ (f : List ℕ). written (gate + 1) w f) shut.parts ∙ written-behind shut.front gate shut.place w

  open-end : (s : List ℕ) → IsShutAt gate s → written gate (1 ∷ []) (written (gate + 1) w s) ≡ opened gate w s
  open-end s shut =
      ap (λ (f : List ℕ). written gate (1 ∷ []) f) (staged s shut) ∙ written-gate shut.front gate shut.place w
      ∙ ap (λ (f : List ℕ). f ++ 1 ∷ w) (sym (ap (λ (f : List ℕ). take gate f) shut.parts ∙ front-taken shut.front gate shut.place))

  pub seen-open : (o m n : Option (List ℕ)) → m ≡ option_map (written (gate + 1) w) o → n ≡ option_map (written gate (1 ∷ [])) m
      → IfSome o (λ s. IsShutAt gate s → n ≡ Some (opened gate w s))
  seen-open None m n is then = tt
  seen-open (Some s) m n is then = λ shut.
      then ∙ ap (λ (x : Option (List ℕ)). option_map (written gate (1 ∷ [])) x) is ∙ ap (λ (f : List ℕ). Some f) (open-end s shut)

  -- the first write leaves the file and anything behind it
  first-stands : (s : List ℕ) (may : List ℕ → Type 0) → IsShutAt gate s → Only s may → (c : List ℕ)
      → TornOnly (gate + 1) (length w) may c → MayStand gate w s c
  first-stands s may shut only c (d, was, torn) =
      let from : Torn (gate + 1) (length w) (shut.front ++ 0 ∷ []) c = subst (λ (f : List ℕ). Torn (gate + 1) (length w) f c) (only d was ∙ shut.parts) torn in
      inl (drop (gate + 1) c, torn-behind shut.front gate shut.place (length w) c from ∙ ap (λ (f : List ℕ). f ++ drop (gate + 1) c) (sym shut.parts))

  -- the second leaves all octets behind any gate
  second-stands : (s : List ℕ) (may : List ℕ → Type 0) → IsShutAt gate s → Only (written (gate + 1) w s) may → (c : List ℕ)
      → TornOnly gate 1 may c → MayStand gate w s c
  second-stands s may shut only c (d, was, torn) =
      let from : Torn gate 1 (shut.front ++ 0 ∷ w) c = subst (λ (f : List ℕ). Torn gate 1 f c) (only d was ∙ staged s shut) torn in
      inr (
        get_or c gate 0,
        torn-gate shut.front gate shut.place w c from
            ∙ ap (λ (f : List ℕ). f ++ get_or c gate 0 ∷ w) (sym (ap (λ (f : List ℕ). take gate f) shut.parts ∙ front-taken shut.front gate shut.place)),
      )

  module _ {S : Type 0} (moment : S → ℕ) (left_since : S → ℕ → List ℕ → Type 0) (old mid new : S) (may_old may_mid : List ℕ → Type 0) where
    pub first-part : (o : Option (List ℕ)) → LeavesOnly moment left_since old mid (TornOnly (gate + 1) (length w) may_old)
        → IfSome o (λ s. IsShutAt gate s → Only s may_old → LeavesOnly moment left_since old mid (MayStand gate w s))
    first-part None step = tt
    first-part (Some s) step = λ shut only.
        weaker moment left_since old mid (TornOnly (gate + 1) (length w) may_old) (MayStand gate w s) (first-stands s may_old shut only) step

    pub both-parts : (o m : Option (List ℕ)) → m ≡ option_map (written (gate + 1) w) o → IfSome m (λ s. Only s may_mid)
        → LeavesOnly moment left_since old mid (TornOnly (gate + 1) (length w) may_old) → LeavesOnly moment left_since mid new (TornOnly gate 1 may_mid)
        → IfSome o (λ s. IsShutAt gate s → Only s may_old → LeavesOnly moment left_since old new (MayStand gate w s))
    both-parts None m is after one two = tt
    both-parts (Some s) m is after one two = λ shut only.
        then_on moment left_since old mid new (MayStand gate w s)
        (weaker moment left_since old mid (TornOnly (gate + 1) (length w) may_old) (MayStand gate w s) (first-stands s may_old shut only) one)
        (weaker moment left_since mid new (TornOnly gate 1 may_mid) (MayStand gate w s) (second-stands s may_mid shut (rw is at after)) two)
