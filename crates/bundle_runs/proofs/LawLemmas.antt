-- Bundles and refusals at the front of octets, as the run meets them, and the earliest place.
use Rattle.std.proofs.Common.{◌≡◌, ℕ, zero, suc, ◌+◌, ◌<◌, ◌≤◌, Bool, true, false, eqb, List, [], ◌∷◌, ◌++◌, length, take, drop, slice_index, Option, None, Some, refl, sym, ◌∙◌, ap, arith, length-drop, length-append, inl, inr}
use Rattle.std.proofs.lemmas.Bool.{eqb-true, ne_eqb, cases_lt}
use Rattle.std.proofs.lemmas.List.{append-nil, drop-append-le, take-append-le}
use Rattle.edge_traits.specs.declared.status.Status.{Status}
use Rattle.edge_traits.specs.declared.status.Status.TheVariants as statuses
use Rattle.edge_traits.specs.Content.{most_input}
use Rattle.edge_traits.specs.Settled.{Ends, goes_on, Settled, put_before, IsFrontOf, GoesOnAs}
use Rattle.edge_traits.proofs.AnswerLemmas.{put_before-put_before}
use Rattle.command_frame.specs.Task.{Settling, IsQuiet, over, GoesOnTo}
use Rattle.command_frame.specs.Within.{within}
use Rattle.command_frame.proofs.WithinLemmas.{within-long, within-text, within-now, within-over}
use Rattle.wire_fields.specs.Format.{Spells}
use Rattle.wire_fields.specs.Refusal.{Refusal, Begins, Stop, because, truncated}
use Rattle.wire_fields.specs.Reading.{IsOctets}
use Rattle.wire_fields.specs.Words.{needs}
use Rattle.wire_fields.proofs.TextLemmas.{octets-drop}
use Rattle.wire_fields.proofs.ReadLemmas.{read-refuses}
use Rattle.wire_fields.proofs.StayLemmas.{begins-read}
use Rattle.bundle6.specs.declared.fault.Cause6.{Cause6}
use Rattle.bundle6.specs.declared.fault.Cause6.TheVariants as causes6
use Rattle.bundle6.specs.declared.bundle.Bundle6.{Bundle6}
use Rattle.bundle6.specs.Table as table6
use Rattle.bundle7.specs.declared.fault.Cause7.{Cause7}
use Rattle.bundle7.specs.declared.fault.Cause7.TheVariants as causes7
use Rattle.bundle7.specs.declared.bundle.Bundle7.{Bundle7}
use Rattle.bundle7.specs.Table as table7
use Rattle.fragments.specs.declared.join.Join.{Join}
use Rattle.bundle_runs.specs.declared.commands.command.Command.{Command}
use Rattle.bundle_runs.specs.declared.front.Bundle.{Bundle}
use Rattle.bundle_runs.specs.declared.front.Bundle.TheVariants as bundles
use Rattle.bundle_runs.specs.declared.front.Cause.{Cause}
use Rattle.bundle_runs.specs.declared.front.Cause.TheVariants as causes
use Rattle.bundle_runs.specs.Front.{Front, whole, cut_short, refused, front_of, stopped, word_of, IsWithin}
use Rattle.bundle_runs.specs.Answering.{settles, settles_from, step_of, leaves_of, refused_by}
use Rattle.bundle_runs.specs.WrittenLines.{refused_line, turned_down_line}
use Rattle.fragment_lines.specs.Said.{Said, says, refuses}
use Rattle.bundle_runs.specs.Laws.{TakesBundle6, TakesBundle7, StopsAt6, StopsAt7, EndsInside6, EndsInside7, StopsAtVersion, EndsAfterLast, EarliestOctetDecides}
use Rattle.bundle_runs.proofs.FrontLemmas.{six-within, seven-within}
use Rattle.bundle_runs.proofs.FrontsLemmas.{settles-none, settles-whole, settles-says, settles-turned-down, settles-kept, settles-refused, settles-cut, front-stays, front-within}

needs-true : {C : Type 0} (b : Bool) (c : C) → needs b c ≡ None → b ≡ true
needs-true true c is = refl
needs-true false c is = cc

-- the first octet of a front is that of the octets
front-first : (k : ℕ) (octets u v w : List ℕ) (x y : ℕ) → take k octets ≡ u ++ v → u ≡ x ∷ w → x ≡ y → slice_index octets 0 ≡ y
front-first zero octets u v w x y parts first is = absurd (let no : [] ≡ x ∷ (w ++ v) = parts ∙ ap (λ t. t ++ v) first in cc)
front-first (suc k) [] u v w x y parts first is = absurd (let no : [] ≡ x ∷ (w ++ v) = parts ∙ ap (λ t. t ++ v) first in cc)
front-first (suc k) (octet ∷ octets) u v w x y parts first is =
    let all : octet ∷ take k octets ≡ x ∷ (w ++ v) = parts ∙ ap (λ t. t ++ v) first in cc

has-some : (octets : List ℕ) (x : ℕ) → slice_index octets 0 ≡ suc x → 0 < length octets
has-some [] x is = absurd (omega (arith, is))
has-some (octet ∷ octets) x is = omega arith

first6 : (most k : ℕ) (octets : List ℕ) (b : Bundle6) → Spells (table6.bundle most) [] (take k octets) b → slice_index octets 0 ≡ 6
unfolding table6.bundle table6.primary
first6 most k octets b (u, v, main, parts, (u1, v1, version, parts1, (one, six), rest1), rest) =
    front-first k octets u v v1 version 6 parts (parts1 ∙ ap (λ t. t ++ v1) one) (eqb-true version 6 (needs-true (eqb version 6) causes6.Version six))

first7 : (most k : ℕ) (octets : List ℕ) (b : Bundle7) → Spells (table7.bundle most) [] (take k octets) b → slice_index octets 0 ≡ 0x9F
unfolding table7.bundle
first7 most k octets b (u, v, start, parts, (one, mark), rest) =
    front-first k octets u v [] start 0x9F parts one (eqb-true start 0x9F (needs-true (eqb start 0x9F) causes7.Start mark))

front-six : (octets : List ℕ) → slice_index octets 0 ≡ 6 → (b : Bundle6) (k : ℕ) → Begins (table6.bundle 64) octets k b
    → front_of octets ≡ whole (bundles.Six b) k
unfolding front_of
front-six octets first b k begins = rw (first, begins-read (table6.bundle 64) octets k b begins) refl

front-seven : (octets : List ℕ) → slice_index octets 0 ≡ 0x9F → (b : Bundle7) (k : ℕ) → Begins (table7.bundle 64) octets k b
    → front_of octets ≡ whole (bundles.Seven b) k
unfolding front_of
front-seven octets first b k begins = rw (first, begins-read (table7.bundle 64) octets k b begins) refl

pub takes_bundle6 : TakesBundle6
takes_bundle6 command any_refused joins ends n at k octets b begins =
    let size = six-within octets b k begins in
    settles-whole command any_refused joins n at ends octets (bundles.Six b) k (front-six octets (first6 64 k octets b begins.spells) b k begins) size.0 size.1

pub takes_bundle7 : TakesBundle7
takes_bundle7 command any_refused joins ends n at k octets b begins =
    let size = seven-within octets b k begins in
    settles-whole command any_refused joins n at ends octets (bundles.Seven b) k (front-seven octets (first7 64 k octets b begins.spells) b k begins) size.0 size.1

front-refused6 : (octets : List ℕ) → slice_index octets 0 ≡ 6 → IsOctets octets → (place : ℕ) (s : Stop Cause6)
    → Refusal (table6.bundle 64) [] octets place s → front_of octets ≡ stopped causes.Six place s
unfolding front_of
front-refused6 octets first fits place s refusal =
    rw (first, read-refuses (table6.bundle 64) [] octets place s fits refusal) refl

front-refused7 : (octets : List ℕ) → slice_index octets 0 ≡ 0x9F → IsOctets octets → (place : ℕ) (s : Stop Cause7)
    → Refusal (table7.bundle 64) [] octets place s → front_of octets ≡ stopped causes.Seven place s
unfolding front_of
front-refused7 octets first fits place s refusal =
    rw (first, read-refuses (table7.bundle 64) [] octets place s fits refusal) refl

pub front-unknown : (octets : List ℕ) → (slice_index octets 0 ≡ 0x06 → ⊥) → (slice_index octets 0 ≡ 0x9F → ⊥) → front_of octets ≡ refused 0 causes.Version
unfolding front_of
front-unknown octets six seven = rw (ne_eqb (slice_index octets 0) 0x06 six, ne_eqb (slice_index octets 0) 0x9F seven) refl

pub stops_at6 : StopsAt6
stops_at6 command any_refused joins ends n at place octets cause fits first refusal =
    settles-refused command any_refused joins n at ends octets place (causes.Six cause) (has-some octets 5 first) (front-refused6 octets first fits place (because cause) refusal)

pub stops_at7 : StopsAt7
stops_at7 command any_refused joins ends n at place octets cause fits first refusal =
    settles-refused command any_refused joins n at ends octets place (causes.Seven cause) (has-some octets 0x9E first) (front-refused7 octets first fits place (because cause) refusal)

pub ends_inside6 : EndsInside6
ends_inside6 command any_refused joins ends n at place octets fits first refusal =
    settles-cut command any_refused joins n at ends octets place (has-some octets 5 first) (front-refused6 octets first fits place truncated refusal)

pub ends_inside7 : EndsInside7
ends_inside7 command any_refused joins ends n at place octets fits first refusal =
    settles-cut command any_refused joins n at ends octets place (has-some octets 0x9E first) (front-refused7 octets first fits place truncated refusal)

pub stops_at_version : StopsAtVersion
stops_at_version command any_refused joins ends n at octet octets six seven =
    let front : front_of (octet ∷ octets) ≡ refused 0 causes.Version = front-unknown (octet ∷ octets) six seven in
    let place : at + 0 ≡ at = omega arith in
    settles-refused command any_refused joins n at ends (octet ∷ octets) 0 causes.Version (omega arith) front
    ∙ ap (λ (p : ℕ). refused_by (refused_line n p (word_of causes.Version))) place

pub ends_after_last : EndsAfterLast
ends_after_last command any_refused joins ends n at = settles-none command any_refused joins n at ends

-- ---- the earliest place

-- what octets settle while others may follow, and from where what follows goes on
pub data Goes (settling : Settling) (taken : List ℕ) : Type 0 where
  waits : (text : List ℕ) (later : Settling) → IsQuiet later → GoesOnTo settling taken text later → Goes settling taken
  stops : (text : List ℕ) (status : Status) → GoesOnTo settling taken text (over status) → Goes settling taken

module _ (command : Command) where
  pub goes-refused : (any_refused : Bool) (joins : List Join) (n at place : ℕ) (cause : Cause) (taken : List ℕ) → IsOctets taken → 0 < length taken
      → front_of taken ≡ refused place cause
      → GoesOnTo (settles_from command any_refused joins n at) taken (refused_line n (at + place) (word_of cause)) (over statuses.Refused)
  goes-refused any_refused joins n at place cause taken fits some is ends more =
      let line = refused_line n (at + place) (word_of cause) in
      let stays = front-stays taken more fits some (rw is tt) in
      settles-refused command any_refused joins n at ends (taken ++ more) place cause (omega (arith, length-append taken more, some)) (stays ∙ is)
      ∙ ap (λ text. record { text = text; ends = Some statuses.Refused }) (sym (append-nil line))

  pub goes-says : (any_refused : Bool) (joins : List Join) (n at k : ℕ) (bundle : Bundle) (text : List ℕ) (now : List Join) (taken : List ℕ) → IsOctets taken → 0 < length taken
      → front_of taken ≡ whole bundle k → 0 < k → k ≤ length taken → step_of command joins bundle k ≡ says text now
      → (ends : Ends) (more : List ℕ) → settles_from command any_refused joins n at ends (taken ++ more)
      ≡ put_before text (settles_from command any_refused now (n + 1) (at + k) ends (drop k taken ++ more))
  goes-says any_refused joins n at k bundle text now taken fits here is some inside said ends more =
      let stays = front-stays taken more fits here (rw is tt) in
      settles-says command any_refused joins n at ends (taken ++ more) bundle k text now (stays ∙ is) some (omega (arith, length-append taken more, inside)) said
      ∙ ap (λ left. put_before text (settles_from command any_refused now (n + 1) (at + k) ends left)) (drop-append-le k taken more inside)

  pub goes-turned-down : (any_refused : Bool) (joins : List Join) (n at k : ℕ) (bundle : Bundle) (word taken : List ℕ) → IsOctets taken → 0 < length taken
      → front_of taken ≡ whole bundle k → 0 < k → k ≤ length taken → step_of command joins bundle k ≡ refuses word → leaves_of command joins bundle ≡ None
      → GoesOnTo (settles_from command any_refused joins n at) taken (turned_down_line n word) (over statuses.Refused)
  goes-turned-down any_refused joins n at k bundle word taken fits here is some inside said left ends more =
      let stays = front-stays taken more fits here (rw is tt) in
      settles-turned-down command any_refused joins n at ends (taken ++ more) bundle k word (stays ∙ is) some (omega (arith, length-append taken more, inside)) said left
      ∙ ap (λ text. record { text = text; ends = Some statuses.Refused }) (sym (append-nil (turned_down_line n word)))

  pub goes-kept : (any_refused : Bool) (joins : List Join) (n at k : ℕ) (bundle : Bundle) (word : List ℕ) (now : List Join) (taken : List ℕ) → IsOctets taken → 0 < length taken
      → front_of taken ≡ whole bundle k → 0 < k → k ≤ length taken → step_of command joins bundle k ≡ refuses word → leaves_of command joins bundle ≡ Some now
      → (ends : Ends) (more : List ℕ) → settles_from command any_refused joins n at ends (taken ++ more)
      ≡ put_before (turned_down_line n word) (settles_from command true now (n + 1) (at + k) ends (drop k taken ++ more))
  goes-kept any_refused joins n at k bundle word now taken fits here is some inside said left ends more =
      let stays = front-stays taken more fits here (rw is tt) in
      settles-kept command any_refused joins n at ends (taken ++ more) bundle k word now (stays ∙ is) some (omega (arith, length-append taken more, inside)) said left
      ∙ ap (λ left. put_before (turned_down_line n word) (settles_from command true now (n + 1) (at + k) ends left)) (drop-append-le k taken more inside)

  pub goes-cut : (any_refused : Bool) (joins : List Join) (n at place : ℕ) (taken : List ℕ) → 0 < length taken → front_of taken ≡ cut_short place
      → IsQuiet (λ ends more. settles_from command any_refused joins n at ends (taken ++ more))
  goes-cut any_refused joins n at place taken some is =
      ap (settles_from command any_refused joins n at goes_on) (append-nil taken) ∙ settles-cut command any_refused joins n at goes_on taken place some is

  after-line : (settling next : Settling) (taken line rest : List ℕ)
      → ((ends : Ends) (more : List ℕ) → settling ends (taken ++ more) ≡ put_before line (next ends (rest ++ more)))
      → Goes next rest → Goes settling taken
  after-line settling next taken line rest is (waits text later quiet goes) =
      waits (line ++ text) later quiet (λ ends more.
      is ends more
      ∙ ap (put_before line) (goes ends more)
      ∙ put_before-put_before line text (later ends more))
  after-line settling next taken line rest is (stops text status goes) =
      stops (line ++ text) status (λ ends more.
      is ends more
      ∙ ap (put_before line) (goes ends more)
      ∙ put_before-put_before line text (over status ends more))

  after-whole : (any_refused : Bool) (joins : List Join) (n at k : ℕ) (bundle : Bundle) (taken : List ℕ) → IsOctets taken → 0 < length taken
      → front_of taken ≡ whole bundle k → 0 < k → k ≤ length taken
      → (said : Said (List Join)) → step_of command joins bundle k ≡ said → (left : Option (List Join)) → leaves_of command joins bundle ≡ left
      → ((any : Bool) (now : List Join) → Goes (settles_from command any now (n + 1) (at + k)) (drop k taken)) → Goes (settles_from command any_refused joins n at) taken
  after-whole any_refused joins n at k bundle taken fits here is some inside (says line now) said left after later =
      after-line (settles_from command any_refused joins n at) (settles_from command any_refused now (n + 1) (at + k)) taken line (drop k taken)
      (goes-says any_refused joins n at k bundle line now taken fits here is some inside said) (later any_refused now)
  after-whole any_refused joins n at k bundle taken fits here is some inside (refuses word) said None after later =
      stops (turned_down_line n word) statuses.Refused (goes-turned-down any_refused joins n at k bundle word taken fits here is some inside said after)
  after-whole any_refused joins n at k bundle taken fits here is some inside (refuses word) said (Some now) after later =
      after-line (settles_from command any_refused joins n at) (settles_from command true now (n + 1) (at + k)) taken (turned_down_line n word) (drop k taken)
      (goes-kept any_refused joins n at k bundle word now taken fits here is some inside said after) (later true now)

  by-front : (any_refused : Bool) (joins : List Join) (n at : ℕ) (taken : List ℕ) → IsOctets taken → 0 < length taken
      → (front : Front) → front_of taken ≡ front → IsWithin (length taken) (front_of taken)
      → ((any : Bool) (now : List Join) (k : ℕ) → 0 < k → Goes (settles_from command any now (n + 1) (at + k)) (drop k taken)) → Goes (settles_from command any_refused joins n at) taken
  by-front any_refused joins n at taken fits here (whole bundle k) is low later =
      let inside = rw is at low in
      after-whole any_refused joins n at k bundle taken fits here is inside.0 inside.1 (step_of command joins bundle k) refl (leaves_of command joins bundle) refl (λ any now. later any now k inside.0)
  by-front any_refused joins n at taken fits here (cut_short place) is low later =
      waits [] (λ ends more. settles_from command any_refused joins n at ends (taken ++ more)) (goes-cut any_refused joins n at place taken here is) (λ ends more. refl)
  by-front any_refused joins n at taken fits here (refused place cause) is low later =
      stops (refused_line n (at + place) (word_of cause)) statuses.Refused (goes-refused any_refused joins n at place cause taken fits here is)

  goes-most : (most : ℕ) (any_refused : Bool) (joins : List Join) (n at : ℕ) (taken : List ℕ) → length taken ≤ most → IsOctets taken → Goes (settles_from command any_refused joins n at) taken
  goes-most most any_refused joins n at [] low fits = waits [] (settles_from command any_refused joins n at) (settles-none command any_refused joins n at goes_on) (λ ends more. refl)
  goes-most zero any_refused joins n at (octet ∷ octets) low fits = absurd (omega (arith, low))
  goes-most (suc most) any_refused joins n at (octet ∷ octets) low fits =
      by-front any_refused joins n at (octet ∷ octets) fits (omega arith) (front_of (octet ∷ octets)) refl (front-within (octet ∷ octets) fits)
      (λ any now k some. goes-most most any now (n + 1) (at + k) (drop k (octet ∷ octets))
      (omega (arith, low, some, length-drop k (octet ∷ octets))) (octets-drop k (octet ∷ octets) fits))

  goes-front : (most : ℕ) (settling : Settling) (taken : List ℕ) → length taken ≤ most → Goes settling taken
      → (ends : Ends) (more : List ℕ) → IsFrontOf (within most settling goes_on taken) (within most settling ends (taken ++ more))
  goes-front most settling taken low (waits text later quiet goes) ends more =
      rw (within-now settling later taken text goes most low quiet) (within-text settling later taken text goes most low ends more)
  goes-front most settling taken low (stops text status goes) ends more =
      let now = within-over settling taken text status goes most low goes_on [] in
      rw (rw (append-nil taken) at now) (within-over settling taken text status goes most low ends more)

  past-front : (most : ℕ) (settling : Settling) (taken : List ℕ) → most < length taken
      → (ends : Ends) (more : List ℕ) → within most settling ends (taken ++ more) ≡ within most settling goes_on taken
  past-front most settling taken past ends more =
      let long : most < length (taken ++ more) = omega (arith, length-append taken more, past) in
      rw (within-long most settling ends (taken ++ more) long, within-long most settling goes_on taken past, take-append-le most taken more (omega (arith, past))) refl

  same-front : (s : Settled) → IsFrontOf s s
  same-front s = by_ends s.ends
    where
      by_ends : (ends : Option Status) → GoesOnAs ends s s
      by_ends None = ([], sym (append-nil s.text))
      by_ends (Some status) = refl

  earliest : (most : ℕ) (ends : Ends) (taken more : List ℕ) → IsOctets taken
      → IsFrontOf (within most (settles_from command false [] 1 0) goes_on taken) (within most (settles_from command false [] 1 0) ends (taken ++ more))
  earliest most ends taken more fits = elim (cases_lt most (length taken)) [
    | inl past ↦ rw (past-front most (settles_from command false [] 1 0) taken past ends more) (same-front (within most (settles_from command false [] 1 0) goes_on taken))
    | inr low ↦ goes-front most (settles_from command false [] 1 0) taken low (goes-most (length taken) false [] 1 0 taken (omega arith) fits) ends more
  ]

pub earliest_decides : (command : Command) → EarliestOctetDecides (settles command)
earliest_decides command ends taken more fits = earliest command most_input ends taken more fits
