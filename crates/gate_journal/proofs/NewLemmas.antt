-- A new file in the place of the old one, where a store tells.
use Rattle.std.proofs.Common.{◌≡◌, ◌⊎◌, inl, inr, ⊎_elim, ℕ, List, [], ◌++◌, Option, Some, None, Result, Ok, Err, OnOk, IfSome, ap, ◌∙◌, subst}
use Rattle.store_traits.specs.Disk.{NoneNew, Only, Elapses, LeavesOnly}
use Rattle.gate_journal.proofs.StepLemmas.{goes_on, weaker}

module _ {S : Type 0} (moment : S → ℕ) (left_since : S → ℕ → List ℕ → Type 0) where
  -- a call more of those that leave nothing new
  pub same_on : (old mid new : S) (P mid_leave new_leave : List ℕ → Type 0) → LeavesOnly moment left_since old mid P
      → NoneNew P mid_leave → NoneNew mid_leave new_leave
      → Elapses (moment mid) (moment new) (left_since mid) (left_since new) new_leave → LeavesOnly moment left_since old new P
  same_on old mid new P mid_leave new_leave so_far here then time =
      goes_on moment left_since old mid new P new_leave so_far time (λ c now. here c (then c now))

  -- the new file is put in place
  pub in-place : (old mid new : S) (old_leave mid_leave draft_leave new_leave : List ℕ → Type 0) (w : List ℕ)
      → LeavesOnly moment left_since old mid old_leave → NoneNew old_leave mid_leave → Only w draft_leave
      → ((c : List ℕ) → new_leave c → mid_leave c ⊎ draft_leave c)
      → Elapses (moment mid) (moment new) (left_since mid) (left_since new) new_leave
      → LeavesOnly moment left_since old new (λ c. old_leave c ⊎ (c ≡ w))
  in-place old mid new old_leave mid_leave draft_leave new_leave w so_far same only crash time =
      goes_on moment left_since old mid new (λ c. old_leave c ⊎ (c ≡ w)) new_leave
      (weaker moment left_since old mid old_leave (λ c. old_leave c ⊎ (c ≡ w)) (λ c was. inl was) so_far) time
      (λ c now. ⊎_elim (λ was. inl (same c was)) (λ there. inr (only c there)) (crash c now))

  -- the same where the store tells, before and after the last sync
  pub placed : (o : Option (List ℕ)) (old mid new : S) (old_leave mid_leave draft_leave new_leave : List ℕ → Type 0) (d w : List ℕ)
      → LeavesOnly moment left_since old mid old_leave → NoneNew old_leave mid_leave → IfSome o (λ s. (d ≡ w) × Only w draft_leave)
      → ((c : List ℕ) → new_leave c → mid_leave c ⊎ draft_leave c)
      → Elapses (moment mid) (moment new) (left_since mid) (left_since new) new_leave
      → IfSome o (λ s. LeavesOnly moment left_since old new (λ c. old_leave c ⊎ (c ≡ w)))
  placed None old mid new old_leave mid_leave draft_leave new_leave d w so_far same told crash time = tt
  placed (Some s) old mid new old_leave mid_leave draft_leave new_leave d w so_far same told crash time =
      in-place old mid new old_leave mid_leave draft_leave new_leave w so_far same told.1 crash time

  pub placed-on : (o : Option (List ℕ)) (old mid new last : S) (old_leave mid_leave draft_leave new_leave last_leave : List ℕ → Type 0) (d w : List ℕ)
      → LeavesOnly moment left_since old mid old_leave → NoneNew old_leave mid_leave → IfSome o (λ s. (d ≡ w) × Only w draft_leave)
      → ((c : List ℕ) → new_leave c → mid_leave c ⊎ draft_leave c)
      → Elapses (moment mid) (moment new) (left_since mid) (left_since new) new_leave
      → NoneNew new_leave last_leave → Elapses (moment new) (moment last) (left_since new) (left_since last) last_leave
      → IfSome o (λ s. LeavesOnly moment left_since old last (λ c. old_leave c ⊎ (c ≡ w)))
  placed-on None old mid new last old_leave mid_leave draft_leave new_leave last_leave d w so_far same told crash time then after = tt
  placed-on (Some s) old mid new last old_leave mid_leave draft_leave new_leave last_leave d w so_far same told crash time then after =
      goes_on moment left_since old new last (λ c. old_leave c ⊎ (c ≡ w)) last_leave
      (in-place old mid new old_leave mid_leave draft_leave new_leave w so_far same told.1 crash time) after
      (λ c now. ⊎_elim (λ was. inl (same c was)) (λ there. inr (told.1 c there)) (crash c (then c now)))

pub if_some_of : (o : Option (List ℕ)) (P : Type 0) → P → IfSome o (λ s. P)
if_some_of None P p = tt
if_some_of (Some s) P p = p

pub on_ok_of : {T E : Type 0} (r : Result T E) (P : Type 0) → P → OnOk r P
on_ok_of (Ok x) P p = p
on_ok_of (Err e) P p = tt

pub draft-told : (o a b : Option (List ℕ)) (one two three w : List ℕ) (leave : List ℕ → Type 0) → a ≡ o → b ≡ a
    → IfSome o (λ s. one ≡ []) → IfSome a (λ s. two ≡ one ++ w) → three ≡ two → IfSome b (λ s. Only two leave)
    → IfSome o (λ s. (three ≡ w) × Only w leave)
draft-told None a b one two three w leave is then empty added same only = tt
draft-told (Some s) a b one two three w leave is then empty added same only =
    let here : two ≡ w = (rw is at added) ∙ ap (λ (l : List ℕ). l ++ w) empty in
    (same ∙ here, subst (λ (l : List ℕ). Only l leave) here (rw (then, is) at only))

pub seen-new : (o a n m : Option (List ℕ)) (d w : List ℕ) (leave : List ℕ → Type 0) → a ≡ o
    → IfSome o (λ s. (d ≡ w) × Only w leave) → IfSome a (λ s. n ≡ Some d) → m ≡ n → IfSome o (λ s. m ≡ Some w)
seen-new None a n m d w leave is told there same = tt
seen-new (Some s) a n m d w leave is told there same = same ∙ (rw is at there) ∙ ap (λ (l : List ℕ). Some l) told.0

pub durable-new : (o a n : Option (List ℕ)) (d w : List ℕ) (leave last : List ℕ → Type 0) → a ≡ o
    → IfSome o (λ s. (d ≡ w) × Only w leave) → IfSome a (λ s. n ≡ Some d) → IfSome n (λ s. Only s last) → IfSome o (λ s. Only w last)
durable-new None a n d w leave last is told there only = tt
durable-new (Some s) a n d w leave last is told there only =
    subst (λ (l : List ℕ). Only l last) told.0 (rw (rw is at there) at only)
