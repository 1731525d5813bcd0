-- Which limit on lines an input passes, as the loops of the driver hand on its octets.
use Rattle.std.proofs.Common.{◌≡◌, ℕ, ◌-◌, ◌<◌, ◌≤◌, Bool, false, List, [], ◌++◌, length, take, drop, Option, None, Some, IfSome, refl, sym, ◌∙◌, ap, arith, append_assoc, le-ltb, lt-ltb, length-append, inl, inr}
use Rattle.std.proofs.lemmas.Bool.{cases_lt}
use Rattle.std.proofs.lemmas.List.{append-nil, nil_from_length, take-append-drop}
use Rattle.std.proofs.Math.Seq.{take-append_seam}
use Rattle.std.specs.Io.KnownBytes.{Consumes, IsAtEnd}
use Rattle.edge_traits.specs.declared.status.Status.{Status}
use Rattle.edge_traits.specs.declared.status.Status.TheVariants as statuses
use Rattle.edge_traits.specs.Settled.{at_end, goes_on}
use Rattle.command_frame.specs.declared.line_passed.LinePassed.{LinePassed}
use Rattle.command_frame.specs.Stops.{IsFailure}
use Rattle.command_frame.specs.Within.{within}
use Rattle.command_frame.specs.Lines.{LineRules, by_lines}
use Rattle.command_frame.specs.Limits.{Limiting, limits_by_lines, limits_within, HasPassed, IsWithin, LeadsOn, EndsWithin}
use Rattle.command_frame.specs.PartTask.{Awaiting, TellsPart}
use Rattle.command_frame.specs.Handing.{HandedWithin}
use Rattle.edge_traits.proofs.ContentLemmas.{Consumes-none}
use Rattle.command_frame.proofs.WithinLemmas.{front-past, within-low}
use Rattle.command_frame.proofs.DriveLemmas.{on_input, on_end}
use Rattle.command_frame.proofs.LimitsLemmas.{LeadsOn-more, HasPassed-more, LeadsOn-none, from-named}

-- ---- the text that is due

-- some of it was told
pub record TellingWithin (Awaits : Awaiting) (limits : Limiting) (more : Bool) : Type 0 where
  pub rest : List ℕ
  pub awaits : Awaits rest limits
  pub last : more ≡ false → rest ≡ []

pub telling-within : (Awaits : Awaiting) (limits : Limiting) (due before now : List ℕ) (more : Bool) → TellsPart Awaits limits due before now more
    → TellingWithin Awaits limits more
telling-within Awaits limits due before now more tells = record { rest = tells.rest; awaits = tells.stands; last = tells.last }

pub told-within : (Awaits : Awaiting) (limits : Limiting) (more : Bool) → more ≡ false → TellingWithin Awaits limits more → Awaits [] limits
told-within Awaits limits more over telling = rw (telling.last over) at telling.awaits

-- ---- a piece, part by part

-- what was taken of it so far passes no limit
pub record HandingWithin (Awaits : Limiting → Type 0) (passed : Option LinePassed) (limits : Limiting) (piece left : List ℕ) : Type 0 where
  pub taken : List ℕ
  pub parts : piece ≡ taken ++ left
  pub leads : LeadsOn Awaits passed limits taken

pub within-start : (Awaits : Limiting → Type 0) (passed : Option LinePassed) (limits : Limiting) (piece : List ℕ) → IsWithin Awaits passed limits
    → HandingWithin Awaits passed limits piece piece
within-start Awaits passed limits piece within = record { taken = []; parts = refl; leads = LeadsOn-none Awaits passed limits within }

-- the run ended with octets that passed this
pub stopped-within : (Awaits : Limiting → Type 0) (passed : Option LinePassed) (limits : Limiting) (piece : List ℕ) (status : Status)
    → HasPassed limits piece passed → HandedWithin Awaits passed limits piece (Some status)
stopped-within Awaits passed limits piece statuses.Limit has = has
stopped-within Awaits passed limits piece statuses.Done has = tt
stopped-within Awaits passed limits piece statuses.Refused has = tt
stopped-within Awaits passed limits piece statuses.Usage has = tt
stopped-within Awaits passed limits piece statuses.ReadFault has = tt
stopped-within Awaits passed limits piece statuses.WriteFault has = tt
stopped-within Awaits passed limits piece statuses.Memory has = tt

pub failed-within : (Awaits : Limiting → Type 0) (passed : Option LinePassed) (limits : Limiting) (piece : List ℕ) (status : Status)
    → IsFailure status → HandedWithin Awaits passed limits piece (Some status)
failed-within Awaits passed limits piece statuses.WriteFault failed = tt
failed-within Awaits passed limits piece statuses.Memory failed = tt
failed-within Awaits passed limits piece statuses.Limit failed = absurd failed
failed-within Awaits passed limits piece statuses.Done failed = absurd failed
failed-within Awaits passed limits piece statuses.Refused failed = absurd failed
failed-within Awaits passed limits piece statuses.Usage failed = absurd failed
failed-within Awaits passed limits piece statuses.ReadFault failed = absurd failed

module _ (Mid : Limiting → Type 0) (passed : Option LinePassed) (limits : Limiting) (piece left : List ℕ)
    (so_far : HandingWithin Mid passed limits piece left) where
  pub within-all : (Now : Limiting → Type 0) (passed_now : Option LinePassed) → LeadsOn Now passed_now so_far.leads.later left
      → LeadsOn Now passed_now limits piece
  within-all Now passed_now on =
      rw so_far.parts (LeadsOn-more Mid Now passed passed_now limits so_far.taken left so_far.leads on)

  pub within-stop : (limit : Option LinePassed) → HasPassed so_far.leads.later left limit → HasPassed limits piece limit
  within-stop limit has =
      rw so_far.parts (HasPassed-more Mid passed limit limits so_far.taken left so_far.leads has)

  pub within-none : length left ≡ 0 → LeadsOn Mid passed limits piece
  within-none nothing =
      let same : piece ≡ so_far.taken = so_far.parts ∙ rw (nil_from_length left nothing) (append-nil so_far.taken) in
      rw same so_far.leads

  -- text was due, and was told
  pub within-due : (Owed : Awaiting) (owed_passed : Option LinePassed) (used : ℕ)
      → (due : List ℕ) × LeadsOn (Owed due) owed_passed so_far.leads.later (take used left)
      → (Now : Limiting → Type 0) (passed_now : Option LinePassed) → passed_now ≡ owed_passed
      → ((due : List ℕ) (later : Limiting) → Owed due later → Now later) → HandingWithin Now passed_now limits piece (drop used left)
  within-due Owed owed_passed used (due, on) Now passed_now same told = record {
    taken = so_far.taken ++ take used left;
    parts =
        so_far.parts ∙ ap (λ (v : List ℕ). so_far.taken ++ v) (sym (take-append-drop used left))
        ∙ sym (append_assoc so_far.taken (take used left) (drop used left));
    leads = LeadsOn-more Mid Now passed passed_now limits so_far.taken (take used left) so_far.leads (record {
      later = on.later;
      within = record {
        awaits = told due on.later on.within.awaits;
        none = same ∙ on.within.none;
        quiet = on.within.quiet;
      };
      leads = on.leads;
    });
  }

-- ---- the end of the input, part by part

-- the run ended with what follows octets that were kept
pub ends-within : (Awaits : Limiting → Type 0) (limits : Limiting) (limit : Option LinePassed) (on : EndsWithin Awaits limits)
    → on.later at_end [] ≡ limit → limits at_end [] ≡ limit
ends-within Awaits limits limit on is = on.ends ∙ is

-- ---- an input that is too long

pub limits-low : (most : ℕ) (limits : Limiting) (input : List ℕ) → length input ≤ most → limits_within most limits input ≡ limits at_end input
unfolding limits_within
limits-low most limits input low = rw (le-ltb most (length input) low) refl

pub limits-long : (most : ℕ) (limits : Limiting) (input : List ℕ) → most < length input → limits_within most limits input ≡ limits goes_on (take most input)
unfolding limits_within
limits-long most limits input long = rw (lt-ltb most (length input) long) refl

passed-within : (most : ℕ) (limits : Limiting) (came : List ℕ) (limit : Option LinePassed) → HasPassed limits came limit → length came ≤ most
    → (more : List ℕ) → limits_within most limits (came ++ more) ≡ limit
passed-within most limits came limit has low more = elim (cases_lt most (length (came ++ more))) [
  | inl long ↦ rw (limits-long most limits (came ++ more) long, front-past most came more low) (has goes_on (take (most - length came) more))
  | inr short ↦ rw (limits-low most limits (came ++ more) short) (has at_end more)
]

-- ---- the run so far

-- all octets that came were told, and passed no limit
pub record GoingWithin (Awaits : Limiting → Type 0) (passed : Option LinePassed) (limits : Limiting) (left now : Option (List ℕ)) (count : ℕ) : Type 0 where
  pub came : List ℕ
  pub size : length came ≡ count
  pub read : Consumes left now came
  pub leads : LeadsOn Awaits passed limits came

pub going-within : (Awaits : Limiting → Type 0) (passed : Option LinePassed) (limits : Limiting) (left : Option (List ℕ)) → IsWithin Awaits passed limits
    → GoingWithin Awaits passed limits left left 0
going-within Awaits passed limits left within = record {
  came = [];
  size = refl;
  read = Consumes-none left;
  leads = LeadsOn-none Awaits passed limits within;
}

module _ (most : ℕ) (Awaits : Limiting → Type 0) (passed : Option LinePassed) (limits : Limiting) (left now : Option (List ℕ)) (count : ℕ)
    (going : GoingWithin Awaits passed limits left now count) (later : Option (List ℕ)) where
  module _ (piece cut : List ℕ) (read : Consumes left later ((going.came ++ piece) ++ cut)) where
    pub over-within : (limit : Option LinePassed) → length (going.came ++ piece) ≤ most → HasPassed going.leads.later piece limit
        → IfSome left (λ input. limits_within most limits input ≡ limit)
    over-within limit fits has =
        on_input (λ input. limits_within most limits input ≡ limit) left later (going.came ++ piece) cut read
        (λ rest.
        passed-within most limits (going.came ++ piece) limit
        (HasPassed-more Awaits passed limit limits going.came piece going.leads has) fits (cut ++ rest))

    module _ (Now : Limiting → Type 0) (passed_now : Option LinePassed) (on : LeadsOn Now passed_now going.leads.later piece) where
      all-on : LeadsOn Now passed_now limits (going.came ++ piece)
      all-on = LeadsOn-more Awaits Now passed passed_now limits going.came piece going.leads on

      -- there are more octets than may be
      pub full-within : length (going.came ++ piece) ≡ most → 0 < length cut → IfSome left (λ input. limits_within most limits input ≡ passed_now)
      full-within size some =
          on_input (λ input. limits_within most limits input ≡ passed_now) left later (going.came ++ piece) cut read
          (λ rest.
          let input = (going.came ++ piece) ++ (cut ++ rest) in
          let long : most < length input = omega (arith, length-append (going.came ++ piece) (cut ++ rest), length-append cut rest, size, some) in
          let front : take most input ≡ going.came ++ piece = rw (← size) (take-append_seam (going.came ++ piece) (cut ++ rest)) in
          let here = all-on.leads goes_on [] in
          rw (limits-long most limits input long, front)
          ((rw (append-nil (going.came ++ piece)) at here) ∙ (all-on.within.quiet ∙ sym all-on.within.none)))

      pub on-within : cut ≡ [] → (counted : ℕ) → length (going.came ++ piece) ≡ counted → GoingWithin Now passed_now limits left later counted
      on-within none counted size = record {
        came = going.came ++ piece;
        size = size;
        read = rw (none, append-nil (going.came ++ piece)) at read;
        leads = all-on;
      }

  pub closed-within : (limit : Option LinePassed) → count ≤ most → Consumes left later going.came → IsAtEnd later
      → going.leads.later at_end [] ≡ limit → IfSome left (λ input. limits_within most limits input ≡ limit)
  closed-within limit low read end is =
      let inside : length going.came ≤ most = omega (arith, going.size, low) in
      let here = going.leads.leads at_end [] in
      on_end (λ input. limits_within most limits input ≡ limit) left later going.came read end
      (limits-low most limits going.came inside ∙ ((rw (append-nil going.came) at here) ∙ is))

-- an input that isn't too long, and whose answer ends with a limit, passes one on lines
pub short-named : {S : Type 0} (rules : LineRules S) → ((state : S) → (rules.finish state).ends ≡ Some statuses.Limit → ⊥)
    → (most : ℕ) (start : S) (input : List ℕ) → (within most (by_lines rules start) at_end input).ends ≡ Some statuses.Limit
    → length input ≤ most → limits_within most (limits_by_lines rules start) input ≡ None → ⊥
short-named rules free most start input ends low none =
    from-named rules free 1 start input
    (rw (within-low most (by_lines rules start) at_end input low) at ends)
    (rw (limits-low most (limits_by_lines rules start) input low) at none)
