-- What the journal says after each call.
use Rattle.std.proofs.Common.{◌≡◌, ◌⊎◌, inl, inr, ⊎_elim, ℕ, Bool, true, false, ◌||◌, is_err, OnOk, List, [], ◌∷◌, ◌++◌, map, Option, None, Some, option_map, IfSome, IsSomeAnd, Result, Ok, Err, refl, sym, ◌∙◌, ap, subst}
use Rattle.std.proofs.lemmas.List.{append-nil}
use Rattle.edge_traits.specs.Content.{Gains, GainsFront}
use Rattle.store_traits.specs.Disk.{LeavesOnly}
use Rattle.gate_cases.specs.declared.face.Face.{Face}
use Rattle.journal_file.specs.Values.{KeptValue, RecordValue}
use Rattle.journal_file.specs.Keeping.{kept_after}
use Rattle.journal_file.specs.File.{Reads}
use Rattle.journal_file.specs.Spelling.{MayFollow}
use Rattle.journal_file.specs.Anew.{but_greatest, IsSound}
use Rattle.journal_file.specs.Below.{IsBelow}
use Rattle.journal_file.specs.Legal.{IsLegal}
use Rattle.journal_file.proofs.BelowLemmas.{anew-below, follow-below}
use Rattle.journal_file.proofs.SoundLemmas.{legal-sound}
use Rattle.journal_file.proofs.SpellingLemmas.{closes-reads}
use Rattle.gate_journal.specs.Rest.{RestsWith, BeforeOrAfter}
use Rattle.gate_journal.proofs.StepLemmas.{weaker}
use Rattle.gate_edges.specs.Made.{Made, sent, lost, wrote, shown, committed, installed, tried, written, Writes, Shows}
use Rattle.gate_journaled.specs.Says.{kept_past, kept_by, MayMake, MayMakeAll, ReadsBelow, RestsBelow, Says, Tells, BelowEither}

-- ---- what is made one after another

pub kept_by-append : (kept : Option KeptValue) (xs ys : List Made) → kept_by kept (xs ++ ys) ≡ kept_by (kept_by kept xs) ys
unfolding kept_by
kept_by-append kept [] ys = refl
kept_by-append kept (x ∷ xs) ys = kept_by-append (kept_past kept x) xs ys

may-front : (kept : Option KeptValue) (xs ys : List Made) → MayMakeAll kept (xs ++ ys) → MayMakeAll kept xs
unfolding MayMakeAll
may-front kept [] ys may = tt
may-front kept (x ∷ xs) ys (may, rest) = (may, may-front (kept_past kept x) xs ys rest)

may-rest : (kept : Option KeptValue) (xs ys : List Made) → MayMakeAll kept (xs ++ ys) → MayMakeAll (kept_by kept xs) ys
unfolding MayMakeAll kept_by
may-rest kept [] ys may = may
may-rest kept (x ∷ xs) ys (may, rest) = may-rest (kept_past kept x) xs ys rest

kept_by-last : (kept : Option KeptValue) (made : Made) → kept_by kept (made ∷ []) ≡ kept_past kept made
unfolding kept_by
kept_by-last kept made = refl

may-last : (kept : Option KeptValue) (made : Made) → MayMakeAll kept (made ∷ []) → MayMake kept made
unfolding MayMakeAll
may-last kept made may = may.0

-- ---- what is made elsewhere than in the journal

abbrev pub IsOther : Made → Type 0
IsOther made = (kept : Option KeptValue) → kept_past kept made ≡ kept

abbrev pub AllOther : List Made → Type 0
AllOther [] = Unit {0}
AllOther (made ∷ more) = IsOther made × AllOther more

other-front : (xs ys : List Made) → AllOther (xs ++ ys) → AllOther xs
other-front [] ys all = tt
other-front (x ∷ xs) ys (other, rest) = (other, other-front xs ys rest)

other-written : (text : List ℕ) → AllOther (written text)
other-written [] = tt
other-written (octet ∷ text) = ((λ kept. refl), other-written text)

other-tried : (face : Face) (fails : Bool) (datagram : List ℕ) → IsOther (tried face fails datagram)
other-tried face true datagram = λ kept. refl
other-tried face false datagram = λ kept. refl

kept_by-other : (xs : List Made) → AllOther xs → (kept : Option KeptValue) → kept_by kept xs ≡ kept
unfolding kept_by
kept_by-other [] all kept = refl
kept_by-other (x ∷ xs) (other, rest) kept = kept_by-other xs rest (kept_past kept x) ∙ other kept

module _ (seen : Option (List ℕ)) (may_leave : List ℕ → Type 0) (gate : ℕ) where
  pub says-same : (before now : Option (List Made)) → now ≡ before → Says before seen may_leave gate → Says now seen may_leave gate
  says-same before now is says = subst (λ (m : Option (List Made)). Says m seen may_leave gate) (sym is) says

  says-on : (held xs : List Made) → AllOther xs → Says (Some held) seen may_leave gate → Says (Some (held ++ xs)) seen may_leave gate
  says-on held xs other says = λ may.
      subst (λ (k : Option KeptValue). IfSome k (λ kept. IfSome seen (λ file. RestsBelow file may_leave gate kept)))
      (sym (kept_by-append None held xs ∙ kept_by-other xs other (kept_by None held))) (says (may-front None held xs may))

  pub says-gains : (before now : Option (List Made)) (xs : List Made) → AllOther xs → Gains before now xs
      → Says before seen may_leave gate → Says now seen may_leave gate
  says-gains before None xs other gains says = tt
  says-gains None (Some after) xs other gains says = absurd gains
  says-gains (Some held) (Some after) xs other gains says =
      subst (λ (m : List Made). Says (Some m) seen may_leave gate) (sym gains) (says-on held xs other says)

  says-front : (before now : Option (List Made)) (xs : List Made) → AllOther xs → GainsFront before now xs
      → Says before seen may_leave gate → Says now seen may_leave gate
  says-front before None xs other gains says = tt
  says-front None (Some after) xs other gains says = absurd gains
  says-front (Some held) (Some after) xs other (front, rest, parts, is) says =
      subst (λ (m : List Made). Says (Some m) seen may_leave gate) (sym is)
      (says-on held front (other-front front rest (subst AllOther parts other)) says)

  pub says-writes : {E : Type 0} (before now : Option (List Made)) (result : Result (Unit {0}) E) (text : List ℕ) → Writes before now result text
      → Says before seen may_leave gate → Says now seen may_leave gate
  says-writes before now (Ok x) text gains says = says-gains before now (written text) (other-written text) gains says
  says-writes before now (Err e) text gains says = says-front before now (written text) (other-written text) gains says

  pub says-shows : {E : Type 0} (before now : Option (List Made)) (result : Result (Unit {0}) E) (text : List ℕ) → Shows before now result text
      → Says before seen may_leave gate → Says now seen may_leave gate
  says-shows before now (Ok x) text gains says = says-gains before now (shown text ∷ []) ((λ kept. refl), tt) gains says
  says-shows before now (Err e) text is says = says-same before now is says

  pub says-tried : (before now : Option (List Made)) (face : Face) (fails : Bool) (datagram : List ℕ) → Gains before now (tried face fails datagram ∷ [])
      → Says before seen may_leave gate → Says now seen may_leave gate
  says-tried before now face fails datagram gains says = says-gains before now (tried face fails datagram ∷ []) (other-tried face fails datagram, tt) gains says

-- ---- records are committed

module _ (seen later : Option (List ℕ)) (may_leave may_later : List ℕ → Type 0) (gate gate_later : ℕ) (rs : List RecordValue)
    (done : IfSome seen (λ s. (k : KeptValue) → RestsWith s may_leave gate k → MayFollow k rs → IfSome later (λ t. RestsWith t may_later gate_later (kept_after k rs))))
  where
    committed-on : (kept : Option KeptValue) → IsSomeAnd seen (λ _. Unit {0}) → IfSome kept (λ k. MayFollow k rs)
        → IfSome kept (λ k. IfSome seen (λ s. RestsBelow s may_leave gate k))
        → IfSome (option_map (λ k. kept_after k rs) kept) (λ k. IfSome later (λ t. RestsBelow t may_later gate_later k))
    committed-on None tells may says = tt
    committed-on (Some k) tells may says = by seen later tells done says
      where
        by : (o n : Option (List ℕ)) → IsSomeAnd o (λ _. Unit {0})
            → IfSome o (λ s. (k : KeptValue) → RestsWith s may_leave gate k → MayFollow k rs → IfSome n (λ t. RestsWith t may_later gate_later (kept_after k rs)))
            → IfSome o (λ s. RestsBelow s may_leave gate k) → IfSome n (λ t. RestsBelow t may_later gate_later (kept_after k rs))
        by None n tells done says = absurd tells
        by (Some s) None tells done says = tt
        by (Some s) (Some t) tells done says =
            let follow = follow-below says.lower k rs says.below may in
            record { lower = kept_after says.lower rs; rests = done says.lower says.rests follow.0; below = follow.1 }

    pub says-committed : (before now : Option (List Made)) → IsSomeAnd seen (λ _. Unit {0}) → Gains before now (committed rs ∷ [])
        → Says before seen may_leave gate → Says now later may_later gate_later
    says-committed before None tells gains says = tt
    says-committed None (Some after) tells gains says = absurd gains
    says-committed (Some held) (Some after) tells gains says = λ may.
        let all : MayMakeAll None (held ++ committed rs ∷ []) = subst (MayMakeAll None) gains may in
        subst (λ (k : Option KeptValue). IfSome k (λ kept. IfSome later (λ file. RestsBelow file may_later gate_later kept)))
        (sym (ap (kept_by None) gains ∙ kept_by-append None held (committed rs ∷ []) ∙ kept_by-last (kept_by None held) (committed rs)))
        (committed-on (kept_by None held) tells (may-last (kept_by None held) (committed rs) (may-rest None held (committed rs ∷ []) all)) (says (may-front None held (committed rs ∷ []) all)))

-- ---- the journal is made anew

module _ (seen later : Option (List ℕ)) (may_later : List ℕ → Type 0) (gate_later : ℕ) (kept : KeptValue)
    (done : IfSome seen (λ s. IsSound kept → IfSome later (λ t. RestsWith t may_later gate_later (but_greatest kept)))) where
  installed-on : IsSomeAnd seen (λ _. Unit {0}) → IsLegal kept → IfSome later (λ t. RestsBelow t may_later gate_later kept)
  installed-on tells legal = by seen later tells done
    where
      by : (o n : Option (List ℕ)) → IsSomeAnd o (λ _. Unit {0})
          → IfSome o (λ s. IsSound kept → IfSome n (λ t. RestsWith t may_later gate_later (but_greatest kept)))
          → IfSome n (λ t. RestsBelow t may_later gate_later kept)
      by None n tells done = absurd tells
      by (Some s) None tells done = tt
      by (Some s) (Some t) tells done = record { lower = but_greatest kept; rests = done (legal-sound kept legal); below = anew-below kept legal }

  pub says-installed : (before now : Option (List Made)) → IsSomeAnd seen (λ _. Unit {0}) → Gains before now (installed kept ∷ [])
      → Says now later may_later gate_later
  says-installed before None tells gains = tt
  says-installed None (Some after) tells gains = absurd gains
  says-installed (Some held) (Some after) tells gains = λ may.
      let all : MayMakeAll None (held ++ installed kept ∷ []) = subst (MayMakeAll None) gains may in
      subst (λ (k : Option KeptValue). IfSome k (λ kept. IfSome later (λ file. RestsBelow file may_later gate_later kept)))
      (sym (ap (kept_by None) gains ∙ kept_by-append None held (installed kept ∷ []) ∙ kept_by-last (kept_by None held) (installed kept)))
      (installed-on tells (may-last (kept_by None held) (installed kept) (may-rest None held (installed kept ∷ []) all)))

-- ---- at any moment of a commit

rests-reads : (s : List ℕ) (may_leave : List ℕ → Type 0) (gate : ℕ) (k : KeptValue) → RestsWith s may_leave gate k → Reads s k
rests-reads s may_leave gate k rests = subst (λ (w : List ℕ). Reads w k) (append-nil s) (closes-reads s [] k rests.closes)

below-either : (k kept : KeptValue) (rs : List RecordValue) → IsBelow k kept → MayFollow kept rs → (c : List ℕ)
    → BeforeOrAfter k (kept_after k rs) c → BelowEither kept (kept_after kept rs) c
below-either k kept rs below may c (inl reads) = inl (record { lower = k; reads = reads; below = below })
below-either k kept rs below may c (inr reads) =
    inr (record { lower = kept_after k rs; reads = reads; below = (follow-below k kept rs below may).1 })

module _ {S : Type 0} (moment : S → ℕ) (left_since : S → ℕ → List ℕ → Type 0) (old new : S) (may_leave : List ℕ → Type 0) (gate : ℕ) (rs : List RecordValue)
  where
    pub moments-committed : (made : Option (List Made)) (seen : Option (List ℕ)) → IsSomeAnd seen (λ _. Unit {0}) → Says made seen may_leave gate
        → IfSome seen (λ s. (k : KeptValue) → RestsWith s may_leave gate k → MayFollow k rs → LeavesOnly moment left_since old new (BeforeOrAfter k (kept_after k rs)))
        → IfSome made (λ acts. MayMakeAll None acts → IfSome (kept_by None acts) (λ kept. MayFollow kept rs
        → LeavesOnly moment left_since old new (BelowEither kept (kept_after kept rs))))
    moments-committed None seen tells says step = tt
    moments-committed (Some acts) None tells says step = absurd tells
    moments-committed (Some acts) (Some s) tells says step = λ may. by (kept_by None acts) (says may)
      where
        by : (k : Option KeptValue) → IfSome k (λ kept. RestsBelow s may_leave gate kept)
            → IfSome k (λ kept. MayFollow kept rs → LeavesOnly moment left_since old new (BelowEither kept (kept_after kept rs)))
        by None rests = tt
        by (Some kept) rests = λ follow.
            weaker moment left_since old new (BeforeOrAfter rests.lower (kept_after rests.lower rs)) (BelowEither kept (kept_after kept rs))
            (below-either rests.lower kept rs rests.below follow)
            (step rests.lower rests.rests (follow-below rests.lower kept rs rests.below follow).0)

    -- ---- at any moment of an install

    pub moments-installed : (kept : KeptValue) (made : Option (List Made)) (seen : Option (List ℕ)) → IsSomeAnd seen (λ _. Unit {0}) → Says made seen may_leave gate
        → IfSome seen (λ s. IsSound kept → LeavesOnly moment left_since old new (λ c. may_leave c ⊎ Reads c (but_greatest kept)))
        → IfSome made (λ acts. MayMakeAll None acts → IfSome (kept_by None acts) (λ before. IsLegal kept
        → LeavesOnly moment left_since old new (BelowEither before kept)))
    moments-installed kept None seen tells says step = tt
    moments-installed kept (Some acts) None tells says step = absurd tells
    moments-installed kept (Some acts) (Some s) tells says step = λ may. by (kept_by None acts) (says may)
      where
        either : (before : KeptValue) → RestsBelow s may_leave gate before → IsLegal kept → (c : List ℕ)
            → may_leave c ⊎ Reads c (but_greatest kept) → BelowEither before kept c
        either before rests legal c (inl was) =
            inl (record { lower = rests.lower; reads = subst (λ (w : List ℕ). Reads w rests.lower) (sym ((rests.rests).durable c was)) (rests-reads s may_leave gate rests.lower rests.rests); below = rests.below })
        either before rests legal c (inr reads) = inr (record { lower = but_greatest kept; reads = reads; below = anew-below kept legal })

        by : (k : Option KeptValue) → IfSome k (λ before. RestsBelow s may_leave gate before)
            → IfSome k (λ before. IsLegal kept → LeavesOnly moment left_since old new (BelowEither before kept))
        by None rests = tt
        by (Some before) rests = λ legal.
            weaker moment left_since old new (λ c. may_leave c ⊎ Reads c (but_greatest kept)) (BelowEither before kept)
            (either before rests legal) (step (legal-sound kept legal))

-- ---- before the first call, and after each that was done

pub says-none : (made : Option (List Made)) (seen : Option (List ℕ)) (may_leave : List ℕ → Type 0) (gate : ℕ) → IfSome made (λ acts. acts ≡ [])
    → Says made seen may_leave gate
unfolding kept_by
says-none None seen may_leave gate none = tt
says-none (Some acts) seen may_leave gate none = rw none (λ may. tt)

pub unless-apart : {T E : Type 0} {P : Type 0} (old : Bool) (answer : Result T E) (now : Bool) → now ≡ (old || is_err answer) → now ≡ false
    → (old ≡ false → OnOk answer P) → P
unless-apart true answer now is none says = absurd (cc)
unless-apart false (Ok x) now is none says = says refl
unless-apart false (Err e) now is none says = absurd (cc)
