-- A command that keeps going, beside the same command that doesn't.
use Rattle.std.proofs.Common.{◌≡◌, ℕ, ◌+◌, Bool, true, false, List, [], ◌∷◌, ◌++◌, length, take, Option, None, Some, refl, sym, ◌∙◌, ap, inl, inr, append_assoc}
use Rattle.std.proofs.lemmas.Bool.{cases_lt}
use Rattle.std.proofs.lemmas.List.{append-nil, take_all}
use Rattle.edge_traits.specs.declared.status.Status.{Status}
use Rattle.edge_traits.specs.declared.status.Status.TheVariants as statuses
use Rattle.edge_traits.specs.Content.{most_input}
use Rattle.edge_traits.specs.Settled.{Ends, at_end, goes_on, Settled, put_before}
use Rattle.command_frame.specs.Within.{end_or_limit, or_limit, within}
use Rattle.command_frame.proofs.WithinLemmas.{within-low, within-long}
use Rattle.fragments.specs.declared.join.Join.{Join}
use Rattle.fragment_lines.specs.Said.{Said, says, refuses}
use Rattle.bundle_runs.specs.declared.commands.command.Command.{Command}
use Rattle.bundle_runs.specs.declared.commands.command.Command.TheVariants as commands
use Rattle.bundle_runs.specs.declared.front.Bundle.{Bundle}
use Rattle.bundle_runs.specs.Front.{Front, whole, cut_short, refused}
use Rattle.bundle_runs.specs.Fronts.{fronts_of}
use Rattle.bundle_runs.specs.WrittenLines.{turned_down_line}
use Rattle.bundle_runs.specs.Answering.{Step, Leaves, after_said, after_last, unfinished, by_bundles, step_of, leaves_of, settles_from}
use Rattle.bundle_runs.specs.Keeping.{plain, IfSays, RefusesNone, SameWithoutRefusals, WritesMore, DoneOnlyTogether}

-- a text begins with another
abbrev IsBegunBy : List ℕ → List ℕ → Type 0
IsBegunBy text first = (rest : List ℕ) × (text ≡ first ++ rest)

-- a run that has met a refusal isn't done at its end, and one that is cut short isn't either
last-done : (ends : Ends) → (after_last ends true).ends ≡ Some statuses.Done → ⊥
last-done at_end done = cc
last-done goes_on done = cc

unfinished-done : (ends : Ends) (n at : ℕ) → (unfinished ends n at).ends ≡ Some statuses.Done → ⊥
unfinished-done at_end n at done = cc
unfinished-done goes_on n at done = cc

-- ---- two runs that say the same of a bundle, of which one ends with the first refusal

module _ {S : Type 0} (step plain_step : Step S) (leaves plain_leaves : Leaves S)
    (same : (state : S) (bundle : Bundle) (size : ℕ) → plain_step state bundle size ≡ step state bundle size)
    (ends_run : (state : S) (bundle : Bundle) → plain_leaves state bundle ≡ None) (ends : Ends) where
  abbrev keeps : Bool → S → ℕ → ℕ → List Front → Settled
  keeps any state n at fronts = by_bundles step leaves ends any state n at fronts

  abbrev stops : Bool → S → ℕ → ℕ → List Front → Settled
  stops any state n at fronts = by_bundles plain_step plain_leaves ends any state n at fronts

  -- a bundle at the front, of the second run
  stops-whole : (any : Bool) (state : S) (n at : ℕ) (bundle : Bundle) (size : ℕ) (fronts : List Front)
      → stops any state n at (whole bundle size ∷ fronts)
      ≡ after_said n (step state bundle size) None any (λ any now. stops any now (n + 1) (at + size) fronts)
  unfolding by_bundles
  stops-whole any state n at bundle size fronts = rw (same state bundle size, ends_run state bundle) refl

  said-same : (n : ℕ) (said : Said S) (left : Option S) (any : Bool) (f g : Bool → S → Settled) (Fact : S → Type 0)
      → IfSays said Fact → ((now : S) → Fact now → f any now ≡ g any now) → after_said n said left any f ≡ after_said n said None any g
  said-same n (says text now) left any f g Fact fact later = ap (put_before text) (later now fact)
  said-same n (refuses word) left any f g Fact fact later = absurd fact

  pub same-answer : (any : Bool) (state : S) (n at : ℕ) (fronts : List Front) → RefusesNone step state fronts
      → keeps any state n at fronts ≡ stops any state n at fronts
  unfolding by_bundles RefusesNone
  same-answer any state n at [] none = refl
  same-answer any state n at (whole bundle size ∷ fronts) none =
      said-same n (step state bundle size) (leaves state bundle) any (λ any now. keeps any now (n + 1) (at + size) fronts)
      (λ any now. stops any now (n + 1) (at + size) fronts) (λ now. RefusesNone step now fronts) none
      (λ now fact. same-answer any now (n + 1) (at + size) fronts fact)
      ∙ sym (stops-whole any state n at bundle size fronts)
  same-answer any state n at (cut_short place ∷ fronts) none = refl
  same-answer any state n at (refused place cause ∷ fronts) none = refl

  begun-after : (text first second : List ℕ) → IsBegunBy first second → IsBegunBy (text ++ first) (text ++ second)
  begun-after text first second (rest, is) = (rest, ap (λ (t : List ℕ). text ++ t) is ∙ sym (append_assoc text second rest))

  said-more : (n : ℕ) (said : Said S) (left : Option S) (any : Bool) (f g : Bool → S → Settled)
      → ((now : S) → IsBegunBy (f any now).text (g any now).text)
      → IsBegunBy (after_said n said left any f).text (after_said n said None any g).text
  said-more n (says text now) left any f g later = begun-after text (f any now).text (g any now).text (later now)
  said-more n (refuses word) None any f g later = ([], sym (append-nil (turned_down_line n word)))
  said-more n (refuses word) (Some now) any f g later = ((f true now).text, refl)

  pub more-text : (any : Bool) (state : S) (n at : ℕ) (fronts : List Front) → IsBegunBy (keeps any state n at fronts).text (stops any state n at fronts).text
  unfolding by_bundles
  more-text any state n at [] = ([], sym (append-nil _))
  more-text any state n at (whole bundle size ∷ fronts) =
      rw (stops-whole any state n at bundle size fronts)
      (said-more n (step state bundle size) (leaves state bundle) any (λ any now. keeps any now (n + 1) (at + size) fronts)
      (λ any now. stops any now (n + 1) (at + size) fronts) (λ now. more-text any now (n + 1) (at + size) fronts))
  more-text any state n at (cut_short place ∷ fronts) = ([], sym (append-nil _))
  more-text any state n at (refused place cause ∷ fronts) = ([], sym (append-nil _))

  said-done : (n : ℕ) (said : Said S) (left : Option S) (f : Bool → S → Settled) → ((now : S) → (f true now).ends ≡ Some statuses.Done → ⊥)
      → (after_said n said left true f).ends ≡ Some statuses.Done → ⊥
  said-done n (says text now) left f later done = later now done
  said-done n (refuses word) None f later done = cc
  said-done n (refuses word) (Some now) f later done = later now done

  -- a run that has met a refusal is never done
  never-done : (state : S) (n at : ℕ) (fronts : List Front) → (keeps true state n at fronts).ends ≡ Some statuses.Done → ⊥
  unfolding by_bundles
  never-done state n at [] done = last-done ends done
  never-done state n at (whole bundle size ∷ fronts) done =
      said-done n (step state bundle size) (leaves state bundle) (λ any now. keeps any now (n + 1) (at + size) fronts)
      (λ now. never-done now (n + 1) (at + size) fronts) done
  never-done state n at (cut_short place ∷ fronts) done = unfinished-done ends n (at + place) done
  never-done state n at (refused place cause ∷ fronts) done = cc

  said-together : (n : ℕ) (said : Said S) (left : Option S) (any : Bool) (f g : Bool → S → Settled)
      → ((now : S) → (f any now).ends ≡ Some statuses.Done → g any now ≡ f any now)
      → ((now : S) → (f true now).ends ≡ Some statuses.Done → ⊥)
      → (after_said n said left any f).ends ≡ Some statuses.Done → after_said n said None any g ≡ after_said n said left any f
  said-together n (says text now) left any f g later never done = ap (put_before text) (later now done)
  said-together n (refuses word) None any f g later never done = refl
  said-together n (refuses word) (Some now) any f g later never done = absurd (never now done)

  pub done-together : (any : Bool) (state : S) (n at : ℕ) (fronts : List Front) → (keeps any state n at fronts).ends ≡ Some statuses.Done
      → stops any state n at fronts ≡ keeps any state n at fronts
  unfolding by_bundles
  done-together any state n at [] done = refl
  done-together any state n at (whole bundle size ∷ fronts) done =
      stops-whole any state n at bundle size fronts
      ∙ said-together n (step state bundle size) (leaves state bundle) any (λ any now. keeps any now (n + 1) (at + size) fronts)
      (λ any now. stops any now (n + 1) (at + size) fronts) (λ now done. done-together any now (n + 1) (at + size) fronts done)
      (λ now. never-done now (n + 1) (at + size) fronts) done
  done-together any state n at (cut_short place ∷ fronts) done = refl
  done-together any state n at (refused place cause ∷ fronts) done = refl

-- ---- the commands

plain-same : (command : Command) (joins : List Join) (bundle : Bundle) (size : ℕ) → step_of (plain command) joins bundle size ≡ step_of command joins bundle size
plain-same commands.Check joins bundle size = refl
plain-same commands.Show joins bundle size = refl
plain-same commands.Convert joins bundle size = refl
plain-same (commands.Cut most) joins bundle size = refl
plain-same commands.Join joins bundle size = refl
plain-same commands.KeepConverting joins bundle size = refl
plain-same (commands.KeepCutting most) joins bundle size = refl
plain-same commands.KeepJoining joins bundle size = refl

plain-ends : (command : Command) (joins : List Join) (bundle : Bundle) → leaves_of (plain command) joins bundle ≡ None
plain-ends commands.Check joins bundle = refl
plain-ends commands.Show joins bundle = refl
plain-ends commands.Convert joins bundle = refl
plain-ends (commands.Cut most) joins bundle = refl
plain-ends commands.Join joins bundle = refl
plain-ends commands.KeepConverting joins bundle = refl
plain-ends (commands.KeepCutting most) joins bundle = refl
plain-ends commands.KeepJoining joins bundle = refl

module _ (command : Command) (ends : Ends) (octets : List ℕ) where
  from-same : RefusesNone (step_of command) [] (fronts_of octets)
      → settles_from command false [] 1 0 ends octets ≡ settles_from (plain command) false [] 1 0 ends octets
  unfolding settles_from
  from-same none =
      same-answer (step_of command) (step_of (plain command)) (leaves_of command) (leaves_of (plain command)) (plain-same command) (plain-ends command) ends
      false [] 1 0 (fronts_of octets) none

  from-more : IsBegunBy (settles_from command false [] 1 0 ends octets).text (settles_from (plain command) false [] 1 0 ends octets).text
  unfolding settles_from
  from-more =
      more-text (step_of command) (step_of (plain command)) (leaves_of command) (leaves_of (plain command)) (plain-same command) (plain-ends command) ends
      false [] 1 0 (fronts_of octets)

  from-done : (settles_from command false [] 1 0 ends octets).ends ≡ Some statuses.Done
      → settles_from (plain command) false [] 1 0 ends octets ≡ settles_from command false [] 1 0 ends octets
  unfolding settles_from
  from-done done =
      done-together (step_of command) (step_of (plain command)) (leaves_of command) (leaves_of (plain command)) (plain-same command) (plain-ends command) ends
      false [] 1 0 (fronts_of octets) done

-- ---- within the limit

limit-done : (s : Settled) → (or_limit s).ends ≡ Some statuses.Done → s.ends ≡ Some statuses.Done
limit-done s done = by_end s.ends done
  where
    by_end : (e : Option Status) → end_or_limit e ≡ Some statuses.Done → e ≡ Some statuses.Done
    by_end None done = absurd (cc)
    by_end (Some status) done = done

module _ (command : Command) (most : ℕ) (ends : Ends) (octets : List ℕ) where
  within-same : RefusesNone (step_of command) [] (fronts_of (take most octets))
      → within most (settles_from command false [] 1 0) ends octets ≡ within most (settles_from (plain command) false [] 1 0) ends octets
  within-same none = elim (cases_lt most (length octets)) [
    | inl long ↦ rw (within-long most (settles_from command false [] 1 0) ends octets long, within-long most (settles_from (plain command) false [] 1 0) ends octets long)
        (ap or_limit (from-same command goes_on (take most octets) none))
    | inr low ↦ rw (within-low most (settles_from command false [] 1 0) ends octets low, within-low most (settles_from (plain command) false [] 1 0) ends octets low)
        (from-same command ends octets (rw (take_all most octets low) at none))
  ]

  within-more : IsBegunBy (within most (settles_from command false [] 1 0) ends octets).text (within most (settles_from (plain command) false [] 1 0) ends octets).text
  within-more = elim (cases_lt most (length octets)) [
    | inl long ↦ rw (within-long most (settles_from command false [] 1 0) ends octets long, within-long most (settles_from (plain command) false [] 1 0) ends octets long)
        (from-more command goes_on (take most octets))
    | inr low ↦ rw (within-low most (settles_from command false [] 1 0) ends octets low, within-low most (settles_from (plain command) false [] 1 0) ends octets low)
        (from-more command ends octets)
  ]

  within-done : (within most (settles_from command false [] 1 0) ends octets).ends ≡ Some statuses.Done
      → within most (settles_from (plain command) false [] 1 0) ends octets ≡ within most (settles_from command false [] 1 0) ends octets
  within-done done = elim (cases_lt most (length octets)) [
    | inl long ↦
        let here = rw (within-long most (settles_from command false [] 1 0) ends octets long) at done in
        rw (within-long most (settles_from command false [] 1 0) ends octets long, within-long most (settles_from (plain command) false [] 1 0) ends octets long)
        (ap or_limit (from-done command goes_on (take most octets) (limit-done (settles_from command false [] 1 0 goes_on (take most octets)) here)))
    | inr low ↦
        let here = rw (within-low most (settles_from command false [] 1 0) ends octets low) at done in
        rw (within-low most (settles_from command false [] 1 0) ends octets low, within-low most (settles_from (plain command) false [] 1 0) ends octets low)
        (from-done command ends octets here)
  ]

pub same_without_refusals : SameWithoutRefusals
same_without_refusals command ends octets none = within-same command most_input ends octets none

pub writes_more : WritesMore
writes_more command ends octets = within-more command most_input ends octets

pub done_only_together : DoneOnlyTogether
done_only_together command ends octets done = within-done command most_input ends octets done
