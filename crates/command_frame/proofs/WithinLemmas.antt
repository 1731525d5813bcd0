-- What octets settle of a command that looks at no more than so many.
use Rattle.std.proofs.Common.{◌≡◌, ℕ, ◌+◌, ◌-◌, ◌<◌, ◌≤◌, List, [], ◌++◌, length, take, Option, None, Some, refl, sym, ◌∙◌, ap, arith, append_assoc, le-ltb, lt-ltb, length-append, inl, inr}
use Rattle.std.proofs.lemmas.Bool.{cases_lt}
use Rattle.std.proofs.lemmas.List.{append-nil, take-append-le}
use Rattle.std.proofs.Math.Seq.{take-append_seam, take-append-add}
use Rattle.edge_traits.specs.declared.status.Status.{Status}
use Rattle.edge_traits.specs.declared.status.Status.TheVariants as statuses
use Rattle.edge_traits.specs.Settled.{Ends, goes_on, Settled, GoesOnAs, IsFrontOf, EarliestDecides}
use Rattle.command_frame.specs.Task.{Settling, IsQuiet, over, GoesOnTo, Takes}
use Rattle.command_frame.specs.Within.{end_or_limit, or_limit, within}

pub within-low : (most : ℕ) (settles : Settling) (ends : Ends) (octets : List ℕ) → length octets ≤ most
    → within most settles ends octets ≡ settles ends octets
unfolding within
within-low most settles ends octets low = rw (le-ltb most (length octets) low) refl

pub within-long : (most : ℕ) (settles : Settling) (ends : Ends) (octets : List ℕ) → most < length octets
    → within most settles ends octets ≡ or_limit (settles goes_on (take most octets))
unfolding within
within-long most settles ends octets long = rw (lt-ltb most (length octets) long) refl

-- the first octets of an input that goes on, where those that came are within them
pub front-past : (most : ℕ) (came more : List ℕ) → length came ≤ most → take most (came ++ more) ≡ came ++ take (most - length came) more
front-past most came more low =
    let same : most ≡ length came + (most - length came) = omega (arith, low) in
    ap (λ (n : ℕ). take n (came ++ more)) same ∙ take-append-add came more (most - length came)

-- ---- what octets settle, by those that came

module _ (settles later : Settling) (came text : List ℕ) (goes : GoesOnTo settles came text later) where
  pub settled-now : IsQuiet later → settles goes_on came ≡ record { text = text; ends = None }
  settled-now quiet =
      let here = goes goes_on [] in
      rw (append-nil came, quiet, append-nil text) at here

  module _ (most : ℕ) (low : length came ≤ most) where
    pub within-text : (ends : Ends) (more : List ℕ) → (rest : List ℕ) × ((within most settles ends (came ++ more)).text ≡ text ++ rest)
    within-text ends more = elim (cases_lt most (length (came ++ more))) [
      | inl long ↦ (
        (later goes_on (take (most - length came) more)).text,
        rw (within-long most settles ends (came ++ more) long, front-past most came more low, goes goes_on (take (most - length came) more)) refl,
      )
      | inr short ↦ (
        (later ends more).text,
        rw (within-low most settles ends (came ++ more) short, goes ends more) refl,
      )
    ]

    pub within-now : IsQuiet later → within most settles goes_on came ≡ record { text = text; ends = None }
    within-now quiet = within-low most settles goes_on came low ∙ settled-now quiet

  -- there are more octets than those
  pub within-past : (most : ℕ) → IsQuiet later → length came ≡ most → (ends : Ends) (more : List ℕ) → 0 < length more
      → within most settles ends (came ++ more) ≡ record { text = text; ends = Some statuses.Limit }
  within-past most quiet size ends more some =
      let long : most < length (came ++ more) = omega (arith, length-append came more, size, some) in
      let front : take most (came ++ more) ≡ came = rw (← size) (take-append_seam came more) in
      rw (within-long most settles ends (came ++ more) long, front, settled-now quiet) refl

-- an end is settled
pub within-over : (settles : Settling) (came text : List ℕ) (status : Status) → GoesOnTo settles came text (over status)
    → (most : ℕ) → length came ≤ most → (ends : Ends) (more : List ℕ)
    → within most settles ends (came ++ more) ≡ record { text = text; ends = Some status }
within-over settles came text status goes most low ends more = elim (cases_lt most (length (came ++ more))) [
  | inl long ↦
      rw (within-long most settles ends (came ++ more) long, front-past most came more low, goes goes_on (take (most - length came) more), append-nil text) refl
  | inr short ↦
      rw (within-low most settles ends (came ++ more) short, goes ends more, append-nil text) refl
]

-- octets came after octets
pub GoesOnTo-more : (settles later last : Settling) (came text piece added : List ℕ) → GoesOnTo settles came text later
    → GoesOnTo later piece added last → GoesOnTo settles (came ++ piece) (text ++ added) last
GoesOnTo-more settles later last came text piece added first second ends more =
    rw (append_assoc came piece more, first ends (piece ++ more), second ends more, append_assoc text added (last ends more).text) refl

pub Takes-more : (Stands : Settling → Type 0) (settles mid : Settling) (a b first second : List ℕ) (ends : Option Status)
    → GoesOnTo settles a first mid → Takes Stands mid b second ends → Takes Stands settles (a ++ b) (first ++ second) ends
Takes-more Stands settles mid a b first second None goes (later, stands, quiet, on) =
    (later, stands, quiet, λ e more. rw (append_assoc a b more, goes e (b ++ more), on e more, append_assoc first second (later e more).text) refl)
Takes-more Stands settles mid a b first second (Some status) goes (stop, on) =
    (stop, λ e more. rw (append_assoc a b more, goes e (b ++ more), on e more, append_assoc first second (over status e more).text) refl)

-- ---- the earliest place decides

pub same-front : (s : Settled) → IsFrontOf s s
same-front s = by_ends s.ends
  where
    by_ends : (ends : Option Status) → GoesOnAs ends s s
    by_ends None = ([], sym (append-nil s.text))
    by_ends (Some status) = refl

front-limit : (earlier later : Settled) → IsFrontOf earlier later → IsFrontOf earlier (or_limit later)
front-limit earlier later front = by_ends earlier.ends refl front
  where
    by_ends : (ends : Option Status) → earlier.ends ≡ ends → GoesOnAs ends earlier later → GoesOnAs ends earlier (or_limit later)
    by_ends None is front = front
    by_ends (Some status) is front =
        let same : or_limit earlier ≡ earlier =
        ap (λ (ends : Option Status). record { text = earlier.text; ends = ends }) (ap end_or_limit is ∙ sym is) in
        ap or_limit front ∙ same

pub within-front : (most : ℕ) (settles : Settling) → EarliestDecides settles → EarliestDecides (within most settles)
within-front most settles front ends taken more = elim (cases_lt most (length taken)) [
  | inl past ↦
      let long : most < length (taken ++ more) = omega (arith, length-append taken more, past) in
      let same : within most settles ends (taken ++ more) ≡ within most settles goes_on taken =
      rw (within-long most settles ends (taken ++ more) long, within-long most settles goes_on taken past, take-append-le most taken more (omega (arith, past))) refl in
      rw same (same-front (within most settles goes_on taken))
  | inr low ↦ elim (cases_lt most (length (taken ++ more))) [
    | inl long ↦
        rw (within-low most settles goes_on taken low, within-long most settles ends (taken ++ more) long, front-past most taken more low)
        (front-limit (settles goes_on taken) (settles goes_on (taken ++ take (most - length taken) more)) (front goes_on taken (take (most - length taken) more)))
    | inr short ↦
        rw (within-low most settles goes_on taken low, within-low most settles ends (taken ++ more) short) (front ends taken more)
  ]
]
